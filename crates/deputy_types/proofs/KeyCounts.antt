-- The types that bases and stars name are types that a text can write: what they count is a sum of numbers that a text has.
use Rattle.std.proofs.Common.{◌≡◌, ℕ, Bool, true, false, cond, ℤ, pos, ◌+ℤ◌, List, [], ◌∷◌, Option, Some, None, option_map, IfSome, IsTrue, slice_get, refl, subst}
use Rattle.std.specs.List.{All}
use Rattle.std.proofs.lemmas.Option.{get_or_from_slice_get, slice_get_within}
use Rattle.c_tree.specs.declared.types.Annotation.{Annotation}
use Rattle.c_tree.specs.declared.types.Annotation.TheVariants as annotation
use Rattle.c_tree.specs.declared.types.Base.{Base}
use Rattle.c_tree.specs.declared.types.Base.TheVariants as base
use Rattle.c_tree.specs.declared.types.SignedTerm.{SignedTerm}
use Rattle.c_tree.specs.declared.types.Star.{Star}
use Rattle.deputy_types.specs.declared.element.Element.{Element}
use Rattle.deputy_types.specs.declared.element.Element.TheVariants as element
use Rattle.deputy_types.specs.Keys.{IsKey}
use Rattle.deputy_types.specs.Options.{and_then}
use Rattle.deputy_types.specs.Types.{struct_number, element_number, base_key, star_key, pointer_key, annotated_key, is_count, if_count, next_sum, constant_sum, term_constant, is_char}

-- a sum that a text has, where there is one
abbrev Counts : Option ℤ → Type 0
Counts o = IfSome o (λ z. IsTrue (is_count z))

limited : (b : Bool) (z : ℤ) → is_count z ≡ b → Counts (cond b (Some z) None)
limited true z h = h
limited false z h = tt

then_counts : {A : Type 0} (o : Option A) (f : A → Option ℤ) → ((a : A) → Counts (f a)) → Counts (and_then o f)
then_counts None f h = tt
then_counts (Some a) f h = h a

next_counts : (sum : ℤ) (t : SignedTerm) → Counts (next_sum sum t)
unfolding next_sum
next_counts sum t = then_counts (term_constant t) (λ n. if_count (sum +ℤ n)) (λ n. limited (is_count (sum +ℤ n)) (sum +ℤ n) refl)

later_counts : (ts : List SignedTerm) (o : Option ℤ) → ((m : ℤ) → IsTrue (is_count m) → Counts (constant_sum m ts)) → Counts o → Counts (and_then o (λ more. constant_sum more ts))
later_counts ts None each h = tt
later_counts ts (Some m) each h = each m h

sum_counts : (sum : ℤ) (ts : List SignedTerm) → IsTrue (is_count sum) → Counts (constant_sum sum ts)
sum_counts sum [] h = h
sum_counts sum (t ∷ ts) h = later_counts ts (next_sum sum t) (λ m hm. sum_counts m ts hm) (next_counts sum t)

-- the types behind stars
counted_key : (n : ℕ) (o : Option ℤ) → Counts o → IfSome (option_map (λ c. element.Count n c) o) IsKey
counted_key n None h = tt
counted_key n (Some c) h = h

text_key : (b : Bool) (n : ℕ) → IfSome (cond b (Some (element.Nullterm n)) None) IsKey
text_key true n = tt
text_key false n = tt

annotated_keys : (n : ℕ) (key : Element) (a : Annotation) → IfSome (annotated_key n key a) IsKey
annotated_keys n key annotation.Safe = refl
annotated_keys n key annotation.Sentinel = tt
annotated_keys n key annotation.Nullterm = text_key (is_char key) n
annotated_keys n key (annotation.Count sum) = counted_key n (constant_sum (pos 0) sum.terms) (sum_counts (pos 0) sum.terms refl)
annotated_keys n key (annotation.Bound lo hi) = tt

pointer_keys : (n : ℕ) (key : Element) (o : Option Annotation) → IfSome (pointer_key n key o) IsKey
unfolding pointer_key
pointer_keys n key None = refl
pointer_keys n key (Some a) = annotated_keys n key a

numbered_keys : (key : Element) (star : Star) (o : Option ℕ) → IfSome (and_then o (λ n. pointer_key n key star.annotation)) IsKey
numbered_keys key star None = tt
numbered_keys key star (Some n) = pointer_keys n key star.annotation

pub star_keys : (elements : List Element) (key : Element) (star : Star) → IfSome (star_key elements key star) IsKey
unfolding star_key
star_keys elements key star = numbered_keys key star (element_number elements key)

-- the type that a base names
struct_keys : (o : Option ℕ) → IfSome (option_map (λ n. element.Struct n) o) IsKey
struct_keys None = tt
struct_keys (Some n) = tt

pub base_keys : (structs : List (List ℕ)) (b : Base) → IfSome (base_key structs b) IsKey
unfolding base_key
base_keys structs base.Char = tt
base_keys structs base.SignedChar = tt
base_keys structs base.UnsignedChar = tt
base_keys structs base.Short = tt
base_keys structs base.UnsignedShort = tt
base_keys structs base.Int = tt
base_keys structs base.Long = tt
base_keys structs base.Unsigned = tt
base_keys structs base.UnsignedInt = tt
base_keys structs base.UnsignedLong = tt
base_keys structs (base.Struct name) = struct_keys (struct_number structs name)

-- such types in a list
found_key : (keys : List Element) (n : ℕ) (o : Option Element) → All IsKey keys → slice_get keys n ≡ o → IfSome o IsKey
found_key keys n None all e = tt
found_key keys n (Some x) all e = subst IsKey (get_or_from_slice_get keys n x x e) (all n x (slice_get_within keys n x e))

pub key_at : (keys : List Element) (n : ℕ) → All IsKey keys → IfSome (slice_get keys n) IsKey
key_at keys n all = found_key keys n (slice_get keys n) all refl
