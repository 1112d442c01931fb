-- The texts that the generator writes: a driver of n equal functions, and the scenario that runs it.
-- Here: function_line, call_line, driver_text, scenario_text
use Rattle.std.specs.Prelude.{ℕ, ◌%◌, List, ◌++◌, codes}
use Rattle.std.specs.List.{flat_map, range_with_len}
use Rattle.std.specs.Fmt.{decimal}

-- The line that defines the function of number k. It adds its argument to each element of the array
-- and answers the element whose index is k modulo the array's length.
abbrev pub function_line : ℕ → List ℕ
function_line k =
    codes "int f" ++ decimal k
    ++ codes "(int x) { int i; i = 0; while (i < 64) { a[i] = a[i] + x; i = i + 1; } return a[" ++ decimal (k % 64)
    ++ codes "]; }\n"

-- The line in which `init` calls the function of number k with k.
abbrev pub call_line : ℕ → List ℕ
call_line k = codes "r = f" ++ decimal k ++ codes "(" ++ decimal k ++ codes ");\n"

-- The numbers of the functions, from 1 to n.
abbrev pub function_numbers : ℕ → List ℕ
function_numbers n = range_with_len 1 n

-- The driver's text: an array, n functions on it, and an `init` that calls each once and prints the last answer.
abbrev pub driver_text : ℕ → List ℕ
driver_text n =
    codes "int a[64];\n" ++ flat_map function_line (function_numbers n)
    ++ codes "int init(void) { int r;\n" ++ flat_map call_line (function_numbers n)
    ++ codes "printd(r); return 0; }\n"

-- The scenario's text: the driver is loaded, and its `init` runs to the end.
abbrev pub scenario_text : List ℕ
scenario_text = codes "load d1 1\nfinish 1\n"
