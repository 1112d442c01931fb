-- What a global's block holds at first: its number, converted to its type, or zeros.
use Rattle.std.proofs.Common.{◌≡◌, ◌⊎◌, inl, inr, ℕ, zero, suc, ◌+◌, ◌*◌, ◌/◌, ◌%◌, ◌^◌, ◌≤◌, Bool, true, false, List, [], ◌∷◌, length, ℤ, pos, negsuc, Option, Some, None, if◌then◌else◌, refl, sym, ◌∙◌, ap, subst, arith}
use Rattle.std.specs.Ordering.{int_eq}
use Rattle.std.proofs.lemmas.Bool.Decides.{Decides-int_eq}
use Rattle.std.proofs.lemmas.List.{length-replicate, get_or-replicate, take_all}
use Rattle.c_tree.specs.declared.items.Const.{Const}
use Rattle.c_tree.specs.declared.types.Annotation.{Annotation}
use Rattle.c_tree.specs.declared.types.Annotation.TheVariants as annotation
use Rattle.c_tree.specs.declared.types.Base.{Base}
use Rattle.c_tree.specs.declared.types.Base.TheVariants as base
use Rattle.c_tree.specs.declared.types.Number.{Number}
use Rattle.c_tree.specs.declared.types.Star.{Star}
use Rattle.c_tree.specs.declared.types.TypeName.{TypeName}
use Rattle.byte_memory.specs.Bytes.{little_endian, low_bytes, bytes_at, zeros}
use Rattle.byte_memory.proofs.Addresses.{little_endian-low_bytes}
use Rattle.checked_tree.specs.declared.shapes.Scalar.{Scalar}
use Rattle.checked_tree.specs.declared.shapes.Scalar.TheVariants as scalar
use Rattle.checked_tree.specs.declared.shapes.Shape.TheVariants as shape
use Rattle.checked_tree.specs.Numbers.{low_bits, signed, converted, scalar_size}
use Rattle.deputy_types.specs.declared.element.Element.{Element}
use Rattle.deputy_types.specs.declared.element.Element.TheVariants as element
use Rattle.deputy_types.specs.declared.global.GlobalShape.{GlobalShape}
use Rattle.deputy_types.specs.declared.types.Types.{Types}
use Rattle.deputy_types.specs.Fitting.{place_value, AreZero}
use Rattle.deputy_types.specs.StructLayout.{const_value, element_count}
use Rattle.deputy_types.specs.Types.{struct_number, base_key, star_key, stars_key, pointer_key, annotated_key, element_number, constant_sum, is_char, type_key}
use Rattle.deputy_types.specs.UnitLayout.{first_value, first_bytes}
use Rattle.deputy_types.proofs.Inversions.{some_then, some_map, if_some}
use Rattle.layout_laws.proofs.ZeroValues.{zero_converted, zero_place}

-- ---- an integer type that a text can name
abbrev pub is_named : Scalar → Bool
is_named scalar.Void = false
is_named (scalar.Pointer n) = false
is_named _ = true

-- a type, where it is an integer, is one that a text can name
abbrev IsNamed : Element → Type 0
IsNamed (element.Int s) = is_named s ≡ true
IsNamed _ = Unit {0}

annotated_named : (n : ℕ) (key : Element) (a : Annotation) (out : Element) → annotated_key n key a ≡ Some out → IsNamed out
annotated_named n key annotation.Safe out h = let e : element.Count n (pos 1) ≡ out = cc in subst IsNamed e tt
annotated_named n key annotation.Sentinel out h = let e : element.Sentinel n ≡ out = cc in subst IsNamed e tt
annotated_named n key annotation.Nullterm out h =
    let g = if_some (is_char key) (Some (element.Nullterm n)) out h in
    let e : element.Nullterm n ≡ out = cc in subst IsNamed e tt
annotated_named n key (annotation.Count sum) out h =
    let c = some_map (constant_sum (pos 0) sum.terms) (λ z. element.Count n z) out h in
    subst IsNamed c.2 tt
annotated_named n key (annotation.Bound lo hi) out h = absurd cc

pointer_named : (n : ℕ) (key : Element) (o : Option Annotation) (out : Element) → pointer_key n key o ≡ Some out → IsNamed out
unfolding pointer_key
pointer_named n key None out h = let e : element.Count n (pos 1) ≡ out = cc in subst IsNamed e tt
pointer_named n key (Some a) out h = annotated_named n key a out h

star_named : (elements : List Element) (key : Element) (star : Star) (out : Element) → star_key elements key star ≡ Some out → IsNamed out
unfolding star_key
star_named elements key star out h =
    let n = some_then (element_number elements key) (λ n. pointer_key n key star.annotation) out h in
    pointer_named n.0 key star.annotation out n.2

stars_named : (elements : List Element) (key : Element) (stars : List Star) (out : Element) → IsNamed key → stars_key elements key stars ≡ Some out → IsNamed out
stars_named elements key [] out k h = let e : key ≡ out = cc in subst IsNamed e k
stars_named elements key (star ∷ stars) out k h =
    let a = some_then (star_key elements key star) (λ x. stars_key elements x stars) out h in
    stars_named elements a.0 stars out (star_named elements key star a.0 a.1) a.2

scalar_named : (s : Scalar) (out : Element) → is_named s ≡ true → Some (element.Int s) ≡ Some out → IsNamed out
scalar_named s out h e = let f : element.Int s ≡ out = cc in subst IsNamed f h

base_named : (structs : List (List ℕ)) (b : Base) (out : Element) → base_key structs b ≡ Some out → IsNamed out
unfolding base_key
base_named structs base.Char out h = scalar_named scalar.U8 out refl h
base_named structs base.SignedChar out h = scalar_named scalar.I8 out refl h
base_named structs base.UnsignedChar out h = scalar_named scalar.U8 out refl h
base_named structs base.Short out h = scalar_named scalar.I16 out refl h
base_named structs base.UnsignedShort out h = scalar_named scalar.U16 out refl h
base_named structs base.Int out h = scalar_named scalar.I32 out refl h
base_named structs base.Long out h = scalar_named scalar.I32 out refl h
base_named structs base.Unsigned out h = scalar_named scalar.U32 out refl h
base_named structs base.UnsignedInt out h = scalar_named scalar.U32 out refl h
base_named structs base.UnsignedLong out h = scalar_named scalar.U32 out refl h
base_named structs (base.Struct name) out h =
    let n = some_map (struct_number structs name) (λ n. element.Struct n) out h in
    subst IsNamed n.2 tt

type_named : (types : Types) (t : TypeName) (out : Element) → type_key types t ≡ Some out → IsNamed out
unfolding type_key
type_named types t out h =
    let b = some_then (base_key types.structs t.base) (λ key. stars_key types.elements key t.stars) out h in
    stars_named types.elements b.0 t.stars out (base_named types.structs t.base b.0 b.1) b.2

-- ---- the bytes of a number
low_bytes_length : (n v : ℕ) → length (low_bytes n v) ≡ n
unfolding low_bytes
low_bytes_length zero v = refl
low_bytes_length (suc n) v = ap suc (low_bytes_length n (v / 256))

low_bytes_are : (n v : ℕ) → little_endian (bytes_at (low_bytes n v) 0 n) ≡ v % 256 ^ n
unfolding bytes_at
low_bytes_are n v =
    let long : length (low_bytes n v) ≤ n = let e = low_bytes_length n v in omega (arith, e) in
    ap (λ (l : List ℕ). little_endian l) (take_all n (low_bytes n v) long) ∙ little_endian-low_bytes n v

one_byte : (z : ℤ) → low_bits 32 z % 256 ^ 1 % 2 ^ 8 ≡ low_bits 8 z
one_byte (pos m) = omega arith
one_byte (negsuc m) = omega arith

two_bytes : (z : ℤ) → low_bits 32 z % 256 ^ 2 % 2 ^ 16 ≡ low_bits 16 z
two_bytes (pos m) = omega arith
two_bytes (negsuc m) = omega arith

four_bytes : (z : ℤ) → low_bits 32 z % 256 ^ 4 % 2 ^ 32 ≡ low_bits 32 z
four_bytes (pos m) = omega arith
four_bytes (negsuc m) = omega arith

-- a number of 32 bits, cut to the bytes of a type, is the same number in that type
cut_converted : (s : Scalar) (z : ℤ) → is_named s ≡ true → converted s (pos (low_bits 32 z % 256 ^ scalar_size s)) ≡ converted s z
unfolding converted
cut_converted scalar.Void z h = absurd cc
cut_converted scalar.U8 z h = ap (λ (n : ℕ). pos n) (one_byte z)
cut_converted scalar.I8 z h = ap (λ (n : ℕ). signed 8 n) (one_byte z)
cut_converted scalar.U16 z h = ap (λ (n : ℕ). pos n) (two_bytes z)
cut_converted scalar.I16 z h = ap (λ (n : ℕ). signed 16 n) (two_bytes z)
cut_converted scalar.I32 z h = ap (λ (n : ℕ). signed 32 n) (four_bytes z)
cut_converted scalar.U32 z h = ap (λ (n : ℕ). pos n) (four_bytes z)
cut_converted (scalar.Pointer n) z h = absurd cc

zeros_are : (n : ℕ) → AreZero (zeros n) 0 n
unfolding zeros
zeros_are n i l = get_or-replicate n (0 + i) 0 0 (omega arith)

zeros_length : (n : ℕ) → length (zeros n) ≡ n
unfolding zeros
zeros_length n = length-replicate n 0

-- ---- the first value of a global
-- 0 where none is written; else the type is an integer, and the global is no array
abbrev FirstIs : Element → Option Const → ℤ → ℕ → Type 0
FirstIs key None value count = value ≡ pos 0
FirstIs key (Some c) value count = (s : Scalar) × (key ≡ element.Int s) × (value ≡ const_value c) × (count ≡ 1)

first_is : (key : Element) (size : Option Number) (c : Option Const) (value : ℤ) (count : ℕ) → first_value key size c ≡ Some value → element_count size ≡ Some count → FirstIs key c value count
unfolding first_value element_count
first_is key size None value count h k = cc
first_is (element.Int s) None (Some c) value count h k = (s, refl, cc, cc)
first_is (element.Int s) (Some n) (Some c) value count h k = absurd cc
first_is (element.Struct s) size (Some c) value count h k = absurd cc
first_is (element.Sentinel n) size (Some c) value count h k = absurd cc
first_is (element.Nullterm n) size (Some c) value count h k = absurd cc
first_is (element.Count n m) size (Some c) value count h k = absurd cc

-- a number other than 0 is that of one element
abbrev IsAlone : ℤ → ℕ → Type 0
IsAlone value count = (value ≡ pos 0) ⊎ (count ≡ 1)

alone : (key : Element) (c : Option Const) (value : ℤ) (count : ℕ) → FirstIs key c value count → IsAlone value count
alone key None value count h = inl h
alone key (Some c) value count h = inr h.3

-- the first bytes, by whether the number is 0
abbrev bytes_by : Bool → GlobalShape → List ℕ
bytes_by b x = if b then zeros (x.count * x.size) else low_bytes x.size (low_bits 32 x.value)

-- a test that tells nothing else
not_zero : (x : GlobalShape) → int_eq x.value (pos 0) ≡ false → IsAlone x.value x.count → x.count ≡ 1
not_zero x e (inl h) = let t : int_eq x.value (pos 0) ≡ true = (Decides-int_eq x.value (pos 0)).1 h in absurd cc
not_zero x e (inr h) = h

bytes_length : (b : Bool) (x : GlobalShape) → int_eq x.value (pos 0) ≡ b → IsAlone x.value x.count → length (bytes_by b x) ≡ x.count * x.size
bytes_length true x e h = zeros_length (x.count * x.size)
bytes_length false x e h =
    let one : x.count ≡ 1 = not_zero x e h in
    let same : x.size ≡ x.count * x.size = subst (λ (n : ℕ). x.size ≡ n * x.size) (sym one) (omega arith) in
    low_bytes_length x.size (low_bits 32 x.value) ∙ same

bytes_read : (b : Bool) (x : GlobalShape) (s : Scalar) → int_eq x.value (pos 0) ≡ b → x.count ≡ 1 → x.size ≡ scalar_size s → is_named s ≡ true
    → place_value (bytes_by b x) 0 (shape.Int s) ≡ converted s x.value
bytes_read true x s e one size named =
    let value : x.value ≡ pos 0 = (Decides-int_eq x.value (pos 0)).0 e in
    let all : scalar_size s ≡ x.count * x.size = sym size ∙ subst (λ (n : ℕ). x.size ≡ n * x.size) (sym one) (omega arith) in
    let zero_bytes : AreZero (zeros (x.count * x.size)) 0 (scalar_size s) = subst (λ (n : ℕ). AreZero (zeros (x.count * x.size)) 0 n) (sym all) (zeros_are (x.count * x.size)) in
    zero_place [] (zeros (x.count * x.size)) 0 (shape.Int s) zero_bytes ∙ (sym (zero_converted s) ∙ ap (λ (z : ℤ). converted s z) (sym value))
bytes_read false x s e one size named =
    let word : ℕ = low_bits 32 x.value in
    ap (λ (n : ℕ). converted s (pos (little_endian (bytes_at (low_bytes n word) 0 (scalar_size s))))) size
    ∙ (ap (λ (n : ℕ). converted s (pos n)) (low_bytes_are (scalar_size s) word) ∙ cut_converted s x.value named)

zero_read : (b : Bool) (x : GlobalShape) → int_eq x.value (pos 0) ≡ b → x.value ≡ pos 0 → AreZero (bytes_by b x) 0 (x.count * x.size)
zero_read true x e h = zeros_are (x.count * x.size)
zero_read false x e h = let t : int_eq x.value (pos 0) ≡ true = (Decides-int_eq x.value (pos 0)).1 h in absurd cc

-- what the first bytes of a global are
pub record HasFirst (key : Element) (c : Option Const) (x : GlobalShape) : Type 0 where
  pub long : length (first_bytes x) ≡ x.count * x.size
  pub zeros : c ≡ None → AreZero (first_bytes x) 0 (x.count * x.size)
  pub value : (v : Const) → c ≡ Some v → (s : Scalar) × (key ≡ element.Int s) × (x.size ≡ scalar_size s → place_value (first_bytes x) 0 (shape.Int s) ≡ converted s (const_value v))

has_first_by : (types : Types) (t : TypeName) (key : Element) (c : Option Const) (x : GlobalShape) → type_key types t ≡ Some key → FirstIs key c x.value x.count → HasFirst key c x
unfolding first_bytes
has_first_by types t key None x k h = record {
  long = bytes_length (int_eq x.value (pos 0)) x refl (inl h);
  zeros = λ e. zero_read (int_eq x.value (pos 0)) x refl h;
  value = λ v e. absurd cc;
}
has_first_by types t key (Some c) x k h = record {
  long = bytes_length (int_eq x.value (pos 0)) x refl (inr h.3);
  zeros = λ e. absurd cc;
  value = λ v e.
      let same : c ≡ v = cc in
      let named : is_named h.0 ≡ true = subst IsNamed h.1 (type_named types t key k) in
      (h.0, h.1, λ size. bytes_read (int_eq x.value (pos 0)) x h.0 refl h.3 size named ∙ ap (λ (z : ℤ). converted h.0 z) (h.2 ∙ ap (λ (d : Const). const_value d) same));
}

pub has_first : (types : Types) (t : TypeName) (key : Element) (size : Option Number) (c : Option Const) (x : GlobalShape) → type_key types t ≡ Some key
    → first_value key size c ≡ Some x.value → element_count size ≡ Some x.count → HasFirst key c x
has_first types t key size c x k h n = has_first_by types t key c x k (first_is key size c x.value x.count h n)
