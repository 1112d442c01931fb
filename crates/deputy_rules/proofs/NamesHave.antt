-- The names of slots have the values of the slots, and those of a struct place have the values of its members.
use Rattle.std.proofs.Common.{◌≡◌, ◌≢◌, ℕ, zero, suc, ◌+◌, ◌*◌, ◌-◌, ◌%◌, ◌^◌, ◌<◌, ◌≤◌, nat_lt, IsTrue, Bool, true, false, List, [], ◌∷◌, length, take, drop, ℤ, pos, ◌+ℤ◌, Option, Some, None, option_map, unwrap_or, Ok, Err, All, slice_get, if◌then◌else◌, refl, sym, ap, ◌∙◌, subst, arith}
use Rattle.std.proofs.lemmas.Bool.{lt-ltb}
use Rattle.std.proofs.lemmas.List.Elements.{All-nil, All-cons, All-head, All-tail}
use Rattle.byte_memory.specs.Bytes.{little_endian, bytes_at}
use Rattle.byte_memory.specs.Tested.{Memory, is_inside}
use Rattle.checked_tree.specs.declared.expressions.CheckedExpr.{CheckedExpr}
use Rattle.checked_tree.specs.declared.expressions.CheckedExpr.TheVariants as form
use Rattle.checked_tree.specs.declared.shapes.Edge.{Edge}
use Rattle.checked_tree.specs.declared.shapes.Member.{Member}
use Rattle.checked_tree.specs.declared.shapes.Scalar.{Scalar}
use Rattle.checked_tree.specs.declared.shapes.Scalar.TheVariants.{Void}
use Rattle.checked_tree.specs.declared.shapes.Shape.{Shape}
use Rattle.checked_tree.specs.declared.shapes.Shape.TheVariants as shape
use Rattle.checked_tree.specs.declared.shapes.StructShape.{StructShape}
use Rattle.checked_tree.specs.declared.stops.Stop.TheVariants.{Wild}
use Rattle.checked_tree.specs.declared.sums.Sum.{Sum}
use Rattle.checked_tree.specs.Bare.{bare}
use Rattle.checked_tree.specs.Conditions.{State, eval_level, peek}
use Rattle.checked_tree.specs.Edges.{edge_value}
use Rattle.checked_tree.specs.Memory.{reached, read, load, value_from}
use Rattle.checked_tree.specs.Numbers.{address, word_of, converted, scalar_size, is_value}
use Rattle.checked_tree.specs.Outcome.{Outcome, Got, ◌>>=◌}
use Rattle.checked_tree.proofs.Equations.{at-Local, at-Load, at-Field}
use Rattle.checked_tree.proofs.NumberRanges.{of_value, converted_of}
use Rattle.deputy_rules.specs.declared.naming.Naming.{Naming}
use Rattle.deputy_rules.specs.Context.{Context}
use Rattle.deputy_rules.specs.NameValues.{AreOnce, TermsHave, BaseHas, HaveNames, local_at, IsNumber, IsNamed, IsNamedBase, AreNamed, IsStructPlace}
use Rattle.deputy_rules.specs.SumValues.{HasValue}
use Rattle.deputy_rules.specs.Values.{loaded_as, named_sum, name_sum, member_sum, edge_sum, of_slots, of_struct}
use Rattle.deputy_types.specs.Fitting.{place_value, member_value}
use Rattle.deputy_types.specs.Table.{member}
use Rattle.deputy_rules.proofs.BareValues.{peek_bare}
use Rattle.deputy_rules.proofs.EdgesHave.{has_edge}
use Rattle.deputy_rules.proofs.SumsHave.{has_bare}

-- ---- slots
module _ (st : State) (values : (k : ℕ) → IsTrue (is_value (local_at st k))) (ctx : Context) where
  peek-Local : (k : ℕ) → peek st (form.Local k) ≡ Ok (local_at st k)
  unfolding peek
  peek-Local k = at-Local Got (eval_level (λ _. Ok tt) st) k

  slot_has : (k : ℕ) → HasValue st (name_sum ctx of_slots k) (local_at st k)
  unfolding name_sum named_sum
  slot_has k = has_bare st (form.Local k) (local_at st k) (peek-Local k) (values k)

  slot_once : (k : ℕ) → AreOnce (name_sum ctx of_slots k).parts
  unfolding name_sum named_sum
  slot_once k = (refl, tt)

  slot_terms : (ts : List (ℤ × ℕ)) → TermsHave st ctx of_slots (local_at st) ts
  slot_terms [] = tt
  slot_terms (t ∷ ts) = (slot_has t.1, slot_once t.1, slot_terms ts)

  slot_base : (b : Option ℕ) → BaseHas st ctx of_slots (local_at st) b
  slot_base None = tt
  slot_base (Some k) = slot_has k

  pub slot_edge : (at : Sum) (v : ℤ) (e : Edge) → HasValue st at v → HasValue st (edge_sum ctx of_slots at e) (edge_value (local_at st) v e)
  slot_edge at v e h = has_edge st ctx of_slots (local_at st) at v e (record { base = slot_base e.base; terms = slot_terms e.terms }) h

-- ---- words of bytes
taken_bytes : (n : ℕ) (bs : List ℕ) → All (λ b. b < 256) bs → All (λ b. b < 256) (take n bs)
taken_bytes zero bs all = All-nil (λ b. b < 256)
taken_bytes (suc n) [] all = All-nil (λ b. b < 256)
taken_bytes (suc n) (b ∷ bs) all = All-cons (λ b. b < 256) b (take n bs) (All-head (λ b. b < 256) b bs all) (taken_bytes n bs (All-tail (λ b. b < 256) b bs all))

dropped_bytes : (n : ℕ) (bs : List ℕ) → All (λ b. b < 256) bs → All (λ b. b < 256) (drop n bs)
dropped_bytes zero bs all = all
dropped_bytes (suc n) [] all = All-nil (λ b. b < 256)
dropped_bytes (suc n) (b ∷ bs) all = dropped_bytes n bs (All-tail (λ b. b < 256) b bs all)

taken_few : (n : ℕ) (bs : List ℕ) → length (take n bs) ≤ n
taken_few zero bs = omega arith
taken_few (suc n) [] = omega arith
taken_few (suc n) (b ∷ bs) = omega (arith, taken_few n bs)

four_below : (bs : List ℕ) → All (λ b. b < 256) bs → length bs ≤ 4 → little_endian bs < 2 ^ 32
unfolding little_endian
four_below [] all l = omega arith
four_below (a ∷ []) all l = let p = All-head (λ b. b < 256) a [] all in omega arith
four_below (a ∷ b ∷ []) all l =
    let p = All-head (λ b. b < 256) a (b ∷ []) all in
    let q = All-head (λ b. b < 256) b [] (All-tail (λ b. b < 256) a (b ∷ []) all) in omega arith
four_below (a ∷ b ∷ c ∷ []) all l =
    let r = All-tail (λ b. b < 256) a (b ∷ c ∷ []) all in
    let s = All-tail (λ b. b < 256) b (c ∷ []) r in
    let p = All-head (λ b. b < 256) a (b ∷ c ∷ []) all in
    let q = All-head (λ b. b < 256) b (c ∷ []) r in
    let u = All-head (λ b. b < 256) c [] s in omega arith
four_below (a ∷ b ∷ c ∷ d ∷ []) all l =
    let r = All-tail (λ b. b < 256) a (b ∷ c ∷ d ∷ []) all in
    let s = All-tail (λ b. b < 256) b (c ∷ d ∷ []) r in
    let t = All-tail (λ b. b < 256) c (d ∷ []) s in
    let p = All-head (λ b. b < 256) a (b ∷ c ∷ d ∷ []) all in
    let q = All-head (λ b. b < 256) b (c ∷ d ∷ []) r in
    let u = All-head (λ b. b < 256) c (d ∷ []) s in
    let v = All-head (λ b. b < 256) d [] t in omega arith
four_below (a ∷ b ∷ c ∷ d ∷ e ∷ bs) all l = absurd (omega arith)

pub word_below : (bytes : List ℕ) (a : ℕ) → All (λ b. b < 256) bytes → little_endian (bytes_at bytes a 4) < 2 ^ 32
unfolding bytes_at
word_below bytes a all = four_below (take 4 (drop a bytes)) (taken_bytes 4 (drop a bytes) (dropped_bytes a bytes all)) (taken_few 4 (drop a bytes))

-- ---- loads
-- what is inside is reached
reached_is : (m : Memory) (a n : ℕ) → a < 2 ^ 32 → is_inside m a n ≡ true → reached m (pos a) n ≡ Ok a
unfolding reached
reached_is m a n l i =
    ap (λ (b : Bool). (if b then Ok a else Err Wild) >>= λ a. if is_inside m a n then Ok a else Err Wild) (lt-ltb a (2 ^ 32) l)
    ∙ ap (λ (b : Bool). if b then Ok a else Err Wild) i

pub load_is : (m : Memory) (s : Scalar) (a : ℕ) → a < 2 ^ 32 → is_inside m a (scalar_size s) ≡ true → load m s (pos a) ≡ Ok (value_from s (bytes_at m.bytes a (scalar_size s)))
unfolding load read
load_is m s a l i = ap (λ (r : Outcome ℕ). (r >>= λ a. Ok (bytes_at m.bytes a (scalar_size s))) >>= λ bytes. Ok (value_from s bytes)) (reached_is m a (scalar_size s) l i)

-- ---- members
module _ (st : State) (bytes : All (λ b. b < 256) st.memory.bytes) where
  peek-Field : (c : CheckedExpr) (offset : ℕ) → peek st (form.Field c offset []) ≡ (peek st c >>= λ a. address (a +ℤ pos offset))
  unfolding peek
  peek-Field c offset = at-Field Got (eval_level (λ _. Ok tt) st) c offset []

  peek-Load : (s : Scalar) (e : CheckedExpr) → peek st (form.Load s e) ≡ (peek st e >>= λ a. load st.memory s a)
  unfolding peek
  peek-Load s e = at-Load Got (eval_level (λ _. Ok tt) st) s e

  address_is : (a : ℕ) → a < 2 ^ 32 → address (pos a) ≡ Ok (pos a)
  address_is a l = ap (λ (b : Bool). (if b then Ok a else Err Wild) >>= λ n. Ok (pos n)) (lt-ltb a (2 ^ 32) l)

  member_peeks : (c : CheckedExpr) (a offset : ℕ) (s : Scalar) → peek st c ≡ Ok (pos a) → a + offset < 2 ^ 32
      → load st.memory s (pos (a + offset)) ≡ Ok (value_from s (bytes_at st.memory.bytes (a + offset) (scalar_size s)))
      → peek st (form.Load s (form.Field (bare c) offset [])) ≡ Ok (value_from s (bytes_at st.memory.bytes (a + offset) (scalar_size s)))
  member_peeks c a offset s h l loads =
      peek-Load s (form.Field (bare c) offset [])
      ∙ ap (λ (g : Got). g >>= λ n. load st.memory s n) (peek-Field (bare c) offset ∙ ap (λ (g : Got). g >>= λ n. address (n +ℤ pos offset)) (peek_bare st c ∙ h) ∙ address_is (a + offset) l)
      ∙ loads

  -- as it is loaded it is the number at its place
  same_number : (x : Shape) (a : ℕ) → IsNumber x → value_from (loaded_as x) (bytes_at st.memory.bytes a (scalar_size (loaded_as x))) ≡ place_value st.memory.bytes a x
  unfolding converted
  same_number (shape.Int s) a n = refl
  same_number (shape.Pointer elem b) a n = ap (λ (n : ℕ). pos n) (low (little_endian (bytes_at st.memory.bytes a 4)) (word_below st.memory.bytes a bytes))
    where
      low : (n : ℕ) → n < 2 ^ 32 → n % 2 ^ 32 ≡ n
      low n l = grind arith
  same_number (shape.Struct s) a n = absurd n
  same_number shape.Address a n = absurd n

  number_value : (x : Shape) (a : ℕ) → IsNumber x → IsTrue (is_value (place_value st.memory.bytes a x))
  number_value (shape.Int s) a n =
      let z : ℤ = pos (little_endian (bytes_at st.memory.bytes a (scalar_size s))) in
      of_value s (converted s z) (converted_of s z (λ e. subst (λ (s : Scalar). IsNumber (shape.Int s)) e n))
  number_value (shape.Pointer elem b) a n = grind (arith, word_below st.memory.bytes a bytes)
  number_value (shape.Struct s) a n = absurd n
  number_value shape.Address a n = absurd n

module _ (st : State) (ctx : Context) (c : CheckedExpr) (a s : ℕ) (t : StructShape) (is : IsStructPlace st ctx.table c a s t) where
  abbrev sibling : ℕ → ℤ
  sibling = member_value st.memory.bytes a t

  -- a name that is read in a struct place has the value of its member
  member_has : (k : ℕ) → IsNamed st a t k → HasValue st (name_sum ctx (of_struct c s) k) (sibling k) × AreOnce (name_sum ctx (of_struct c s) k).parts
  unfolding name_sum named_sum
  member_has k named =
      let m : Member = named.member in
      let x : Shape = m.shape in
      let at : ℕ = a + m.offset in
      let seen = member_peeks st is.bytes c a m.offset (loaded_as x) is.address named.below (load_is st.memory (loaded_as x) at named.below named.inside) in
      let value : sibling k ≡ place_value st.memory.bytes at x =
      ap (λ (o : Option Member). unwrap_or (option_map (λ (m : Member). place_value st.memory.bytes (a + m.offset) m.shape) o) (pos 0)) named.found in
      let found : member ctx.table s k ≡ Some m = ap (λ (o : Option StructShape). slice_get (unwrap_or (option_map (λ (x : StructShape). x.members) o) []) k) is.struct_is ∙ named.found in
      let has = has_bare st (form.Load (loaded_as x) (form.Field (bare c) m.offset [])) (place_value st.memory.bytes at x)
      (seen ∙ ap (λ (z : ℤ). Ok z) (same_number st is.bytes x at named.number)) (number_value st is.bytes x at named.number) in
      subst (λ (o : Option Member). HasValue st (member_sum c o) (sibling k) × AreOnce (member_sum c o).parts) (sym found)
      (subst (λ (z : ℤ). HasValue st (member_sum c (Some m)) z) (sym value) has, (refl, tt))

  member_terms : (ts : List (ℤ × ℕ)) → All (λ x. IsNamed st a t x.1) ts → TermsHave st ctx (of_struct c s) sibling ts
  member_terms [] all = tt
  member_terms (x ∷ ts) all =
      let h = member_has x.1 (All-head (λ x. IsNamed st a t x.1) x ts all) in (h.0, h.1, member_terms ts (All-tail (λ x. IsNamed st a t x.1) x ts all))

  member_base : (b : Option ℕ) → IsNamedBase st a t b → BaseHas st ctx (of_struct c s) sibling b
  member_base None n = tt
  member_base (Some k) n = (member_has k n).0

  pub member_edge : (at : Sum) (v : ℤ) (e : Edge) → AreNamed st a t e → HasValue st at v → HasValue st (edge_sum ctx (of_struct c s) at e) (edge_value sibling v e)
  member_edge at v e n h = has_edge st ctx (of_struct c s) sibling at v e (record { base = member_base e.base n.base; terms = member_terms e.terms n.terms }) h
