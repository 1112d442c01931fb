-- The definitions computed on small numbers, against texts and counts that were written out by hand.
use Rattle.std.proofs.Common.{◌≡◌, length, codes, refl}
use Rattle.std.specs.Fmt.{digits}
use Rattle.gen_driver.specs.Generator.{function_line, driver_text}

one : driver_text 1 ≡ codes "int a[64];\nint f1(int x) { int i; i = 0; while (i < 64) { a[i] = a[i] + x; i = i + 1; } return a[1]; }\nint init(void) { int r;\nr = f1(1);\nprintd(r); return 0; }\n"
unfolding digits
one = refl

-- The index is taken modulo 64.
function_64 : function_line 64 ≡ codes "int f64(int x) { int i; i = 0; while (i < 64) { a[i] = a[i] + x; i = i + 1; } return a[0]; }\n"
unfolding digits
function_64 = refl

length_of_one : length (driver_text 1) ≡ 161
unfolding digits
length_of_one = refl

length_of_two : length (driver_text 2) ≡ 264
unfolding digits
length_of_two = refl
