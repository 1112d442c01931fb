-- Equal codes are equal bare forms: a code is read in one way alone.
use Rattle.std.proofs.Common.{◌≡◌, ◌↔◌, ℕ, List, [], ◌∷◌, ◌++◌, ℤ, pos, negsuc, if◌then◌else◌, nat_eq, refl, sym, ap, subst, ◌∙◌, true≢false, append_assoc, arith}
use Rattle.std.specs.Bool.{Decides}
use Rattle.std.proofs.lemmas.Slice.Eq.{bytes_eq-Decides}
use Rattle.checked_tree.specs.declared.shapes.Scalar.{Scalar}
use Rattle.checked_tree.specs.declared.shapes.Scalar.TheVariants as scalar
use Rattle.checked_tree.specs.declared.expressions.Unary.{Unary}
use Rattle.checked_tree.specs.declared.expressions.Unary.TheVariants as unary
use Rattle.checked_tree.specs.declared.expressions.Arithmetic.{Arithmetic}
use Rattle.checked_tree.specs.declared.expressions.Arithmetic.TheVariants as arithmetic
use Rattle.checked_tree.specs.declared.expressions.Comparison.{Comparison}
use Rattle.checked_tree.specs.declared.expressions.Comparison.TheVariants as comparison
use Rattle.checked_tree.specs.declared.expressions.Logic.{Logic}
use Rattle.checked_tree.specs.declared.expressions.Logic.TheVariants as logic
use Rattle.checked_tree.specs.declared.expressions.PointerSum.{PointerSum}
use Rattle.checked_tree.specs.declared.expressions.PointerSum.TheVariants as sum
use Rattle.checked_tree.specs.declared.expressions.CheckedExpr.{CheckedExpr, map-CheckedExpr, roll-CheckedExpr}
use Rattle.checked_tree.specs.declared.expressions.CheckedExpr.TheOpen as E
use Rattle.checked_tree.specs.declared.expressions.CheckedExpr.TheVariants as V
use Rattle.checked_tree.specs.declared.expressions.CheckedExpr.TheFolds.{fold-roll-CheckedExpr, ind-CheckedExpr}
use Rattle.checked_tree.specs.Bare.{bare, bare_level}
use Rattle.checked_tree.specs.Codes.{scalar_number, unary_number, arithmetic_number, comparison_number, logic_number, sum_number, sign, distance, code, code_level, is_same}
use Rattle.checked_tree.proofs.Equations.{at-Number, at-Null, at-Local, at-Block, at-Through, at-Element, at-Field, at-Load, at-AddressOf, at-Moved, at-Unary, at-Binary, at-Compare, at-Logical}

-- the parts of a list
front : List ℕ → ℕ
front [] = 0
front (x ∷ xs) = x

rest : List ℕ → List ℕ
rest [] = []
rest (x ∷ xs) = xs

-- numbers are equal where those of their kind that they stand for are
unary_at : ℕ → Unary
unary_at n = if nat_eq n 0 then unary.Plus else (if nat_eq n 1 then unary.Negative else (if nat_eq n 2 then unary.Complement else (if nat_eq n 3 then unary.Not else unary.Cast)))

unary_back : (o : Unary) → unary_at (unary_number o) ≡ o
unfolding unary_at
unary_back unary.Plus = refl
unary_back unary.Negative = refl
unary_back unary.Complement = refl
unary_back unary.Not = refl
unary_back unary.Cast = refl

arithmetic_at : ℕ → Arithmetic
arithmetic_at n =
    if nat_eq n 0 then arithmetic.Add else (if nat_eq n 1 then arithmetic.Subtract else (if nat_eq n 2 then arithmetic.Multiply else (if nat_eq n 3 then arithmetic.Divide
    else (if nat_eq n 4 then arithmetic.Remainder else (if nat_eq n 5 then arithmetic.And else (if nat_eq n 6 then arithmetic.Or else (if nat_eq n 7 then arithmetic.Xor
    else (if nat_eq n 8 then arithmetic.ShiftLeft else arithmetic.ShiftRight))))))))

arithmetic_back : (o : Arithmetic) → arithmetic_at (arithmetic_number o) ≡ o
unfolding arithmetic_at
arithmetic_back arithmetic.Add = refl
arithmetic_back arithmetic.Subtract = refl
arithmetic_back arithmetic.Multiply = refl
arithmetic_back arithmetic.Divide = refl
arithmetic_back arithmetic.Remainder = refl
arithmetic_back arithmetic.And = refl
arithmetic_back arithmetic.Or = refl
arithmetic_back arithmetic.Xor = refl
arithmetic_back arithmetic.ShiftLeft = refl
arithmetic_back arithmetic.ShiftRight = refl

comparison_at : ℕ → Comparison
comparison_at n =
    if nat_eq n 0 then comparison.Less else (if nat_eq n 1 then comparison.LessEqual else (if nat_eq n 2 then comparison.Greater
    else (if nat_eq n 3 then comparison.GreaterEqual else (if nat_eq n 4 then comparison.Equal else comparison.NotEqual))))

comparison_back : (o : Comparison) → comparison_at (comparison_number o) ≡ o
unfolding comparison_at
comparison_back comparison.Less = refl
comparison_back comparison.LessEqual = refl
comparison_back comparison.Greater = refl
comparison_back comparison.GreaterEqual = refl
comparison_back comparison.Equal = refl
comparison_back comparison.NotEqual = refl

logic_at : ℕ → Logic
logic_at n = if nat_eq n 0 then logic.And else logic.Or

logic_back : (o : Logic) → logic_at (logic_number o) ≡ o
unfolding logic_at
logic_back logic.And = refl
logic_back logic.Or = refl

sum_at : ℕ → PointerSum
sum_at n = if nat_eq n 0 then sum.PointerPlus else (if nat_eq n 1 then sum.PlusPointer else sum.PointerMinus)

sum_back : (o : PointerSum) → sum_at (sum_number o) ≡ o
unfolding sum_at
sum_back sum.PointerPlus = refl
sum_back sum.PlusPointer = refl
sum_back sum.PointerMinus = refl

-- what has a way back from its number is told by it
told : {A : Type 0} (number : A → ℕ) (at : ℕ → A) → ((a : A) → at (number a) ≡ a) → (a b : A) → number a ≡ number b → a ≡ b
told number at back a b e = sym (back a) ∙ (ap at e ∙ back b)

scalar_told : (s t : Scalar) → scalar_number s ≡ scalar_number t → s ≡ t
scalar_told scalar.Void scalar.Void e = refl
scalar_told scalar.Void (scalar.Pointer n) e = absurd (omega (arith, e))
scalar_told scalar.Void _ e = absurd (true≢false (ap (nat_eq 0) e))
scalar_told scalar.U8 scalar.U8 e = refl
scalar_told scalar.U8 (scalar.Pointer n) e = absurd (omega (arith, e))
scalar_told scalar.U8 _ e = absurd (true≢false (ap (nat_eq 1) e))
scalar_told scalar.I8 scalar.I8 e = refl
scalar_told scalar.I8 (scalar.Pointer n) e = absurd (omega (arith, e))
scalar_told scalar.I8 _ e = absurd (true≢false (ap (nat_eq 2) e))
scalar_told scalar.U16 scalar.U16 e = refl
scalar_told scalar.U16 (scalar.Pointer n) e = absurd (omega (arith, e))
scalar_told scalar.U16 _ e = absurd (true≢false (ap (nat_eq 3) e))
scalar_told scalar.I16 scalar.I16 e = refl
scalar_told scalar.I16 (scalar.Pointer n) e = absurd (omega (arith, e))
scalar_told scalar.I16 _ e = absurd (true≢false (ap (nat_eq 4) e))
scalar_told scalar.I32 scalar.I32 e = refl
scalar_told scalar.I32 (scalar.Pointer n) e = absurd (omega (arith, e))
scalar_told scalar.I32 _ e = absurd (true≢false (ap (nat_eq 5) e))
scalar_told scalar.U32 scalar.U32 e = refl
scalar_told scalar.U32 (scalar.Pointer n) e = absurd (omega (arith, e))
scalar_told scalar.U32 _ e = absurd (true≢false (ap (nat_eq 6) e))
scalar_told (scalar.Pointer m) (scalar.Pointer n) e = let same : m ≡ n = omega (arith, e) in ap scalar.Pointer same
scalar_told (scalar.Pointer m) _ e = absurd (omega (arith, e))

number_told : (y z : ℤ) → sign y ≡ sign z → distance y ≡ distance z → y ≡ z
number_told (pos m) (pos n) s d = ap pos d
number_told (pos m) (negsuc n) s d = absurd (true≢false (ap (nat_eq 0) s))
number_told (negsuc m) (pos n) s d = absurd (true≢false (ap (nat_eq 1) s))
number_told (negsuc m) (negsuc n) s d = ap negsuc d

-- a code in front of a text is told from every other
abbrev IsTold : CheckedExpr → Type 0
IsTold a = (b : CheckedExpr) (u v : List ℕ) → code a ++ u ≡ code b ++ v → (bare a ≡ bare b) × (u ≡ v)

abbrev Told : Type 0
Told = (a : CheckedExpr) × IsTold a

-- two codes in a row
two : (a c : Told) (b d : CheckedExpr) (u v : List ℕ) → (code a.0 ++ code c.0) ++ u ≡ (code b ++ code d) ++ v → (bare a.0 ≡ bare b) × (bare c.0 ≡ bare d) × (u ≡ v)
two a c b d u v h =
    let first = a.1 b (code c.0 ++ u) (code d ++ v) (sym (append_assoc (code a.0) (code c.0) u) ∙ (h ∙ append_assoc (code b) (code d) v)) in
    let second = c.1 d u v first.1 in
    (first.0, second.0, second.1)

-- one level whose parts are told, and any other
abbrev codes_of : E.CheckedExpr-F Told → List ℕ
codes_of x = code_level (map-CheckedExpr Told (List ℕ) (λ k. code k.0) x)

abbrev bare_of : E.CheckedExpr-F Told → CheckedExpr
bare_of x = bare_level (map-CheckedExpr Told CheckedExpr (λ k. bare k.0) x)

abbrev other_codes : E.CheckedExpr-F CheckedExpr → List ℕ
other_codes y = code_level (map-CheckedExpr CheckedExpr (List ℕ) code y)

abbrev other_bare : E.CheckedExpr-F CheckedExpr → CheckedExpr
other_bare y = bare_level (map-CheckedExpr CheckedExpr CheckedExpr bare y)

level_told : (x : E.CheckedExpr-F Told) (y : E.CheckedExpr-F CheckedExpr) (u v : List ℕ) → codes_of x ++ u ≡ other_codes y ++ v → (bare_of x ≡ other_bare y) × (u ≡ v)
unfolding front rest
level_told (E.Number z s) (E.Number y t) u v h =
    let a = ap rest h in
    let b = ap rest a in
    let c = ap rest b in
    let value = number_told z y (ap front a) (ap front b) in
    let type = scalar_told s t (ap front c) in
    ((λ i. V.Number (value i) (type i)), ap rest c)
level_told (E.Number z s) _ u v h = absurd (true≢false (ap (λ l. nat_eq 0 (front l)) h))
level_told E.Null E.Null u v h = (refl, ap rest h)
level_told E.Null _ u v h = absurd (true≢false (ap (λ l. nat_eq 1 (front l)) h))
level_told (E.Local m) (E.Local n) u v h = let a = ap rest h in (ap V.Local (ap front a), ap rest a)
level_told (E.Local m) _ u v h = absurd (true≢false (ap (λ l. nat_eq 2 (front l)) h))
level_told (E.Block m) (E.Block n) u v h = let a = ap rest h in (ap V.Block (ap front a), ap rest a)
level_told (E.Block m) _ u v h = absurd (true≢false (ap (λ l. nat_eq 3 (front l)) h))
level_told (E.Through p ids) (E.Through q ids') u v h = let e = p.1 q u v (ap rest h) in (ap (λ z. V.Through z []) e.0, e.1)
level_told (E.Through p ids) _ u v h = absurd (true≢false (ap (λ l. nat_eq 4 (front l)) h))
level_told (E.Element p i m ids) (E.Element q j n ids') u v h =
    let a = ap rest h in
    let e = two p i q j u v (ap rest a) in
    let size = ap front a in
    ((λ k. V.Element (e.0 k) (e.1 k) (size k) []), e.2)
level_told (E.Element p i m ids) _ u v h = absurd (true≢false (ap (λ l. nat_eq 5 (front l)) h))
level_told (E.Field p m ids) (E.Field q n ids') u v h =
    let a = ap rest h in
    let e = p.1 q u v (ap rest a) in
    let offset = ap front a in
    ((λ k. V.Field (e.0 k) (offset k) []), e.1)
level_told (E.Field p m ids) _ u v h = absurd (true≢false (ap (λ l. nat_eq 6 (front l)) h))
level_told (E.Load s p) (E.Load t q) u v h =
    let a = ap rest h in
    let e = p.1 q u v (ap rest a) in
    let type = scalar_told s t (ap front a) in
    ((λ k. V.Load (type k) (e.0 k)), e.1)
level_told (E.Load s p) _ u v h = absurd (true≢false (ap (λ l. nat_eq 7 (front l)) h))
level_told (E.AddressOf p) (E.AddressOf q) u v h = let e = p.1 q u v (ap rest h) in (ap V.AddressOf e.0, e.1)
level_told (E.AddressOf p) _ u v h = absurd (true≢false (ap (λ l. nat_eq 8 (front l)) h))
level_told (E.Moved o p i m ids) (E.Moved o' q j n ids') u v h =
    let a = ap rest h in
    let b = ap rest a in
    let e = two p i q j u v (ap rest b) in
    let op = told sum_number sum_at sum_back o o' (ap front a) in
    let size = ap front b in
    ((λ k. V.Moved (op k) (e.0 k) (e.1 k) (size k) []), e.2)
level_told (E.Moved o p i m ids) _ u v h = absurd (true≢false (ap (λ l. nat_eq 9 (front l)) h))
level_told (E.Unary o s p) (E.Unary o' t q) u v h =
    let a = ap rest h in
    let b = ap rest a in
    let e = p.1 q u v (ap rest b) in
    let op = told unary_number unary_at unary_back o o' (ap front a) in
    let type = scalar_told s t (ap front b) in
    ((λ k. V.Unary (op k) (type k) (e.0 k)), e.1)
level_told (E.Unary o s p) _ u v h = absurd (true≢false (ap (λ l. nat_eq 10 (front l)) h))
level_told (E.Binary o s p i ids) (E.Binary o' t q j ids') u v h =
    let a = ap rest h in
    let b = ap rest a in
    let e = two p i q j u v (ap rest b) in
    let op = told arithmetic_number arithmetic_at arithmetic_back o o' (ap front a) in
    let type = scalar_told s t (ap front b) in
    ((λ k. V.Binary (op k) (type k) (e.0 k) (e.1 k) []), e.2)
level_told (E.Binary o s p i ids) _ u v h = absurd (true≢false (ap (λ l. nat_eq 11 (front l)) h))
level_told (E.Compare o s p i) (E.Compare o' t q j) u v h =
    let a = ap rest h in
    let b = ap rest a in
    let e = two p i q j u v (ap rest b) in
    let op = told comparison_number comparison_at comparison_back o o' (ap front a) in
    let type = scalar_told s t (ap front b) in
    ((λ k. V.Compare (op k) (type k) (e.0 k) (e.1 k)), e.2)
level_told (E.Compare o s p i) _ u v h = absurd (true≢false (ap (λ l. nat_eq 12 (front l)) h))
level_told (E.Logical o p i) (E.Logical o' q j) u v h =
    let a = ap rest h in
    let e = two p i q j u v (ap rest a) in
    let op = told logic_number logic_at logic_back o o' (ap front a) in
    ((λ k. V.Logical (op k) (e.0 k) (e.1 k)), e.2)
level_told (E.Logical o p i) _ u v h = absurd (true≢false (ap (λ l. nat_eq 13 (front l)) h))

-- an expression by its outer form
code_at : (y : E.CheckedExpr-F CheckedExpr) → code (roll-CheckedExpr y) ≡ other_codes y
unfolding code
code_at y = fold-roll-CheckedExpr (List ℕ) code_level y

bare_at : (y : E.CheckedExpr-F CheckedExpr) → bare (roll-CheckedExpr y) ≡ other_bare y
unfolding bare
bare_at y = fold-roll-CheckedExpr CheckedExpr bare_level y

-- a level by its parts
first_parts : E.CheckedExpr-F Told → E.CheckedExpr-F CheckedExpr
first_parts x = map-CheckedExpr Told CheckedExpr (λ k. k.0) x

same_codes : (x : E.CheckedExpr-F Told) → other_codes (first_parts x) ≡ codes_of x
unfolding first_parts
same_codes E.Null = refl
same_codes _ = refl

same_bare : (x : E.CheckedExpr-F Told) → other_bare (first_parts x) ≡ bare_of x
unfolding first_parts
same_bare E.Null = refl
same_bare _ = refl

abbrev Fits : E.CheckedExpr-F Told → CheckedExpr → Type 0
Fits x b = (u v : List ℕ) → codes_of x ++ u ≡ code b ++ v → (bare_of x ≡ bare b) × (u ≡ v)

any_told : (x : E.CheckedExpr-F Told) (b : CheckedExpr) → Fits x b
any_told x = ind-CheckedExpr (Fits x) (λ z y is. by z)
  where
    by : (z : E.CheckedExpr-F CheckedExpr) → Fits x (roll-CheckedExpr z)
    by z u v h = let e = level_told x z u v (h ∙ ap (λ l. l ++ v) (code_at z)) in (e.0 ∙ sym (bare_at z), e.1)

-- of two texts that begin with codes and are equal, the codes are those of equal forms, and what stands behind them is equal
pub codes_told : (a b : CheckedExpr) (u v : List ℕ) → code a ++ u ≡ code b ++ v → (bare a ≡ bare b) × (u ≡ v)
unfolding first_parts
codes_told = ind-CheckedExpr IsTold (λ z x is. subst (λ l. IsTold (roll-CheckedExpr l)) is (by x))
  where
    by : (x : E.CheckedExpr-F Told) → IsTold (roll-CheckedExpr (map-CheckedExpr Told CheckedExpr (λ k. k.0) x))
    by x b u v h =
        let e = any_told x b u v (sym (ap (λ l. l ++ u) (code_at (first_parts x) ∙ same_codes x)) ∙ h) in
        (bare_at (first_parts x) ∙ (same_bare x ∙ e.0), e.1)

-- a bare form has the code of the expression
abbrev Kept : Type 0
Kept = (e : CheckedExpr) × (code (bare e) ≡ code e)

level_kept : (x : E.CheckedExpr-F Kept) → code (bare_level (map-CheckedExpr Kept CheckedExpr (λ k. bare k.0) x)) ≡ code_level (map-CheckedExpr Kept (List ℕ) (λ k. code k.0) x)
unfolding code
level_kept (E.Number z s) = at-Number (List ℕ) code_level z s
level_kept E.Null = at-Null (List ℕ) code_level
level_kept (E.Local n) = at-Local (List ℕ) code_level n
level_kept (E.Block n) = at-Block (List ℕ) code_level n
level_kept (E.Through p ids) = at-Through (List ℕ) code_level (bare p.0) [] ∙ ap (λ l. 4 ∷ l) p.1
level_kept (E.Element p i n ids) = at-Element (List ℕ) code_level (bare p.0) (bare i.0) n [] ∙ (λ k. 5 ∷ n ∷ (p.1 k ++ i.1 k))
level_kept (E.Field p n ids) = at-Field (List ℕ) code_level (bare p.0) n [] ∙ ap (λ l. 6 ∷ n ∷ l) p.1
level_kept (E.Load s p) = at-Load (List ℕ) code_level s (bare p.0) ∙ ap (λ l. 7 ∷ scalar_number s ∷ l) p.1
level_kept (E.AddressOf p) = at-AddressOf (List ℕ) code_level (bare p.0) ∙ ap (λ l. 8 ∷ l) p.1
level_kept (E.Moved o p i n ids) = at-Moved (List ℕ) code_level o (bare p.0) (bare i.0) n [] ∙ (λ k. 9 ∷ sum_number o ∷ n ∷ (p.1 k ++ i.1 k))
level_kept (E.Unary o s p) = at-Unary (List ℕ) code_level o s (bare p.0) ∙ ap (λ l. 10 ∷ unary_number o ∷ scalar_number s ∷ l) p.1
level_kept (E.Binary o s p i ids) = at-Binary (List ℕ) code_level o s (bare p.0) (bare i.0) [] ∙ (λ k. 11 ∷ arithmetic_number o ∷ scalar_number s ∷ (p.1 k ++ i.1 k))
level_kept (E.Compare o s p i) = at-Compare (List ℕ) code_level o s (bare p.0) (bare i.0) ∙ (λ k. 12 ∷ comparison_number o ∷ scalar_number s ∷ (p.1 k ++ i.1 k))
level_kept (E.Logical o p i) = at-Logical (List ℕ) code_level o (bare p.0) (bare i.0) ∙ (λ k. 13 ∷ logic_number o ∷ (p.1 k ++ i.1 k))

kept_parts : E.CheckedExpr-F Kept → E.CheckedExpr-F CheckedExpr
kept_parts x = map-CheckedExpr Kept CheckedExpr (λ k. k.0) x

kept_codes : (x : E.CheckedExpr-F Kept) → other_codes (kept_parts x) ≡ code_level (map-CheckedExpr Kept (List ℕ) (λ k. code k.0) x)
unfolding kept_parts
kept_codes E.Null = refl
kept_codes _ = refl

kept_bare : (x : E.CheckedExpr-F Kept) → other_bare (kept_parts x) ≡ bare_level (map-CheckedExpr Kept CheckedExpr (λ k. bare k.0) x)
unfolding kept_parts
kept_bare E.Null = refl
kept_bare _ = refl

pub code-bare : (e : CheckedExpr) → code (bare e) ≡ code e
unfolding kept_parts
code-bare = ind-CheckedExpr (λ e. code (bare e) ≡ code e) (λ z x is. subst (λ l. code (bare (roll-CheckedExpr l)) ≡ code (roll-CheckedExpr l)) is (by x))
  where
    by : (x : E.CheckedExpr-F Kept) → code (bare (roll-CheckedExpr (map-CheckedExpr Kept CheckedExpr (λ k. k.0) x))) ≡ code (roll-CheckedExpr (map-CheckedExpr Kept CheckedExpr (λ k. k.0) x))
    by x = ap code (bare_at (kept_parts x) ∙ kept_bare x) ∙ (level_kept x ∙ sym (code_at (kept_parts x) ∙ kept_codes x))

-- codes are equal exactly where bare forms are
pub same_code : (a b : CheckedExpr) → (code a ≡ code b) ↔ (bare a ≡ bare b)
same_code a b = (λ e. (codes_told a b [] [] (ap (λ l. l ++ []) e)).0, λ e. sym (code-bare a) ∙ (ap code e ∙ code-bare b))

-- and so is what `is_same` answers
pub same_forms : (a b : CheckedExpr) → Decides (is_same a b) (bare a ≡ bare b)
unfolding is_same
same_forms a b =
    let d = bytes_eq-Decides (code a) (code b) in
    let s = same_code a b in
    (λ h. s.0 (d.0 h), λ e. d.1 (s.1 e))

-- the same of numbers that were appended to none
pub same_numbers : (numbers start : List ℕ) (e : CheckedExpr) → start ≡ [] → numbers ≡ start ++ code e → (other : CheckedExpr) → (numbers ≡ code other) ↔ (bare e ≡ bare other)
same_numbers numbers start e empty appended other =
    let made : numbers ≡ code e = appended ∙ ap (λ l. l ++ code e) empty in
    let s = same_code e other in
    (λ h. s.0 (sym made ∙ h), λ h. made ∙ s.1 h)
