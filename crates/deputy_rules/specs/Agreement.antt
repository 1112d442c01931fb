-- When two heads of one function agree: in their results, and in the types and annotations of their parameters, where each name stands for
-- the place of the parameter that it names (C99, 6.2.7 and 6.7.5.3; the annotations are part of the types).
use Rattle.std.specs.Prelude.{ℕ, Bool, true, false, ◌&&◌, ◌==◌, List, [], ◌∷◌, ℤ, pos, Option, Some, None, position, bytes_eq}
use Rattle.std.specs.Ordering.{int_eq}
use Rattle.c_tree.specs.declared.items.Head.{Head}
use Rattle.c_tree.specs.declared.items.Param.{Param}
use Rattle.c_tree.specs.declared.items.ResultBase.{ResultBase}
use Rattle.c_tree.specs.declared.items.ResultBase.TheVariants as result
use Rattle.c_tree.specs.declared.types.Addr.{Addr}
use Rattle.c_tree.specs.declared.types.Annotation.{Annotation}
use Rattle.c_tree.specs.declared.types.Annotation.TheVariants as annotation
use Rattle.c_tree.specs.declared.types.Base.{Base}
use Rattle.c_tree.specs.declared.types.SignedTerm.{SignedTerm}
use Rattle.c_tree.specs.declared.types.Star.{Star}
use Rattle.c_tree.specs.declared.types.Term.{Term}
use Rattle.c_tree.specs.declared.types.Term.TheVariants as term
use Rattle.deputy_types.specs.declared.element.Element.{Element}
use Rattle.deputy_types.specs.Types.{base_key, constant_sum, same_element, signed_number}

-- the place of the first parameter that is named so
abbrev pub parameter_place : List Param → List ℕ → Option ℕ
parameter_place ps name = position (λ p. bytes_eq name p.name) ps

-- the same place, or none
abbrev pub same_place : Option ℕ → Option ℕ → Bool
same_place None None = true
same_place (Some i) (Some j) = i == j
same_place _ _ = false

-- names of two heads, with the parameters ps and qs, that stand for the same place
unfoldable pub same_name : List Param → List Param → List ℕ → List ℕ → Bool
same_name ps qs x y = same_place (parameter_place ps x) (parameter_place qs y)

-- the name in a term, if there is one
abbrev pub term_name : Term → Option (List ℕ)
term_name (term.Number n) = None
term_name (term.Name x) = Some x
term_name (term.Product n x) = Some x

-- the number in a term: its own value, or what its name is multiplied by
abbrev pub term_number : Term → ℕ
term_number (term.Number n) = n.value
term_number (term.Name x) = 1
term_number (term.Product n x) = n.value

-- terms with the same name, or without
abbrev pub same_term_name : List Param → List Param → Option (List ℕ) → Option (List ℕ) → Bool
same_term_name ps qs None None = true
same_term_name ps qs (Some x) (Some y) = same_name ps qs x y
same_term_name ps qs _ _ = false

-- the same term: numbers by value, so `1*n` is `n`, and names by their places
unfoldable pub same_term : List Param → List Param → SignedTerm → SignedTerm → Bool
same_term ps qs a b =
    int_eq (signed_number a.negative (term_number a.term)) (signed_number b.negative (term_number b.term))
    && same_term_name ps qs (term_name a.term) (term_name b.term)

-- the same terms, one by one
abbrev pub same_terms : List Param → List Param → List SignedTerm → List SignedTerm → Bool
same_terms ps qs [] [] = true
same_terms ps qs [] (b ∷ others) = false
same_terms ps qs (a ∷ more) [] = false
same_terms ps qs (a ∷ more) (b ∷ others) = same_term ps qs a b && same_terms ps qs more others

-- the same term behind a pointer's name, or none
abbrev pub same_offset : List Param → List Param → Option SignedTerm → Option SignedTerm → Bool
same_offset ps qs None None = true
same_offset ps qs (Some a) (Some b) = same_term ps qs a b
same_offset ps qs _ _ = false

-- the same end of a `bound`
unfoldable pub same_end : List Param → List Param → Addr → Addr → Bool
same_end ps qs a b = same_name ps qs a.pointer b.pointer && same_offset ps qs a.offset b.offset

-- the value of an annotation that counts by numbers alone; `safe` is a count of 1, and so is a star without annotation
abbrev pub count_of : Option Annotation → Option ℤ
count_of None = Some (pos 1)
count_of (Some annotation.Safe) = Some (pos 1)
count_of (Some annotation.Sentinel) = None
count_of (Some annotation.Nullterm) = None
count_of (Some (annotation.Count sum)) = constant_sum (pos 0) sum.terms
count_of (Some (annotation.Bound lo hi)) = None

-- `sentinel`, `nullterm`, a count with these terms, a `bound` with these ends
abbrev pub is_sentinel : Option Annotation → Bool
is_sentinel (Some annotation.Sentinel) = true
is_sentinel _ = false

abbrev pub is_nullterm : Option Annotation → Bool
is_nullterm (Some annotation.Nullterm) = true
is_nullterm _ = false

abbrev pub is_sum : List Param → List Param → List SignedTerm → Option Annotation → Bool
is_sum ps qs terms (Some (annotation.Count sum)) = same_terms ps qs terms sum.terms
is_sum ps qs terms _ = false

abbrev pub is_bound : List Param → List Param → Addr → Addr → Option Annotation → Bool
is_bound ps qs lo hi (Some (annotation.Bound low high)) = same_end ps qs lo low && same_end ps qs hi high
is_bound ps qs lo hi _ = false

-- the same annotation as written, where neither counts by numbers alone
unfoldable pub same_written : List Param → List Param → Option Annotation → Option Annotation → Bool
same_written ps qs None b = false
same_written ps qs (Some annotation.Safe) b = false
same_written ps qs (Some annotation.Sentinel) b = is_sentinel b
same_written ps qs (Some annotation.Nullterm) b = is_nullterm b
same_written ps qs (Some (annotation.Count sum)) b = is_sum ps qs sum.terms b
same_written ps qs (Some (annotation.Bound lo hi)) b = is_bound ps qs lo hi b

-- the same count by numbers alone; or else the same as written
abbrev pub same_count : Option ℤ → Option ℤ → Bool → Bool
same_count (Some n) (Some m) otherwise = int_eq n m
same_count (Some n) None otherwise = false
same_count None (Some m) otherwise = false
same_count None None otherwise = otherwise

-- the same star
unfoldable pub same_star : List Param → List Param → Star → Star → Bool
same_star ps qs a b = same_count (count_of a.annotation) (count_of b.annotation) (same_written ps qs a.annotation b.annotation)

-- the same stars, one by one
abbrev pub same_stars : List Param → List Param → List Star → List Star → Bool
same_stars ps qs [] [] = true
same_stars ps qs [] (b ∷ others) = false
same_stars ps qs (a ∷ more) [] = false
same_stars ps qs (a ∷ more) (b ∷ others) = same_star ps qs a b && same_stars ps qs more others

-- the same type, or none
abbrev pub same_key : Option Element → Option Element → Bool
same_key None None = true
same_key (Some a) (Some b) = same_element a b
same_key _ _ = false

-- the same integer type or struct; `structs` are the names of the text's structs
unfoldable pub same_base : List (List ℕ) → Base → Base → Bool
same_base structs a b = same_key (base_key structs a) (base_key structs b)

-- the same parameter, whatever its name
unfoldable pub same_parameter : List (List ℕ) → List Param → List Param → Param → Param → Bool
same_parameter structs ps qs a b =
    same_base structs a.type_name.base b.type_name.base && same_stars ps qs a.type_name.stars b.type_name.stars

-- the same parameters, one by one
abbrev pub same_parameters : List (List ℕ) → List Param → List Param → List Param → List Param → Bool
same_parameters structs ps qs [] [] = true
same_parameters structs ps qs [] (b ∷ others) = false
same_parameters structs ps qs (a ∷ more) [] = false
same_parameters structs ps qs (a ∷ more) (b ∷ others) =
    same_parameter structs ps qs a b && same_parameters structs ps qs more others

-- what results begin with
abbrev pub same_result_base : List (List ℕ) → ResultBase → ResultBase → Bool
same_result_base structs result.Void result.Void = true
same_result_base structs (result.Base a) (result.Base b) = same_base structs a b
same_result_base structs _ _ = false

-- the heads agree
unfoldable pub agree : List (List ℕ) → Head → Head → Bool
agree structs a b =
    same_result_base structs a.result b.result
    && (same_stars a.params b.params a.stars b.stars && same_parameters structs a.params b.params a.params b.params)
