-- What is written so far, and the lines still to come, are the whole part of the text.
use Rattle.std.proofs.Common.{◌≡◌, ◌++◌, ◌+◌, ◌-◌, string_bytes, codes}
use Rattle.std.specs.List.{flat_map, range_with_len}
use Rattle.gen_driver.specs.Generator.{function_line, call_line, function_numbers}
use Rattle.gen_driver.proofs.gen_text.Given as goal

abbrev pub invariant-loop-k : goal.invariant-loop-k
invariant-loop-k l =
    string_bytes l.driver ++ flat_map function_line (range_with_len l.k (l.n + 1 - l.k))
    ≡ codes "int a[64];\n" ++ flat_map function_line (function_numbers l.n)

abbrev pub invariant-loop-k-2 : goal.invariant-loop-k-2
invariant-loop-k-2 l =
    string_bytes l.driver ++ flat_map call_line (range_with_len l.k (l.n + 1 - l.k))
    ≡ (codes "int a[64];\n" ++ flat_map function_line (function_numbers l.n) ++ codes "int init(void) { int r;\n") ++ flat_map call_line (function_numbers l.n)
