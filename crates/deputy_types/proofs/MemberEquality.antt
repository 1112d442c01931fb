-- Equality of members, as the set of them compares, is equality of their unions and of their names.
use Rattle.std.proofs.Common.{◌≡◌, ◌-◌, ◌<◌, ◌^◌, ◌&&◌, ◌==◌, ℕ, List, [], ◌∷◌, ◌++◌, Option, Some, None, position, Bool, true, false, cond, length, refl, sym, ◌∙◌, ap, subst}
use Rattle.std.proofs.lemmas.Bool.{cond-true, cond-false, lt-ltb}
use Rattle.std.specs.List.{list_any}
use Rattle.indexmap.specs.IndexSet.{insert_key}
use Rattle.deputy_types.specs.contracts.sibling.MemberNamePartialEq.TheImpl as members
use Rattle.deputy_types.specs.declared.sibling.MemberName.{MemberName}
use Rattle.deputy_types.specs.Siblings.{is_member, is_new_member, with_member}
use Rattle.deputy_types.proofs.NameEquality.{name_eq}

by_parts : (p q : Option ℕ) (x y : List ℕ) → members.ghosts.eq (record { part = p; name = x }) (record { part = q; name = y }) ≡ is_member p x (record { part = q; name = y })
by_parts None None x y = name_eq x y
by_parts None (Some b) x y = refl
by_parts (Some a) None x y = refl
by_parts (Some a) (Some b) x y = ap (λ t. (a == b) && t) (name_eq x y)

pub same_test : (a : MemberName) → members.ghosts.eq a ≡ is_member a.part a.name
same_test a = λ i b. by_parts a.part b.part a.name b.name i

pub number-found : (o : Option ℕ) (a : MemberName) (keys now : List MemberName) → keys ≡ now → o ≡ position (members.ghosts.eq a) keys → o ≡ position (is_member a.part a.name) now
number-found o a keys now same found = subst (λ l. o ≡ position (is_member a.part a.name) l) same (found ∙ ap (λ p. position p keys) (same_test a))

pub has-found : (b : Bool) (a : MemberName) (keys now : List MemberName) → keys ≡ now → b ≡ list_any (members.ghosts.eq a) keys → b ≡ list_any (is_member a.part a.name) now
has-found b a keys now same found = subst (λ l. b ≡ list_any (is_member a.part a.name) l) same (found ∙ ap (λ p. list_any p keys) (same_test a))

not_new : (names : List MemberName) (a : MemberName) → list_any (is_member a.part a.name) names ≡ true → is_new_member names a ≡ false
unfolding is_new_member
not_new names a h = cond-true _ false _ h

-- a member that is there adds nothing
pub known : (names : List MemberName) (a : MemberName) → list_any (is_member a.part a.name) names ≡ true → (false ≡ is_new_member names a) × (names ≡ with_member names a)
unfolding with_member
known names a h = (sym (not_new names a h), sym (cond-false _ _ names (not_new names a h)))

is_new : (names : List MemberName) (a : MemberName) → list_any (is_member a.part a.name) names ≡ false → length names < 2 ^ 32 - 1 → is_new_member names a ≡ true
unfolding is_new_member
is_new names a h room = cond-false _ false _ h ∙ lt-ltb (length names) (2 ^ 32 - 1) room

-- a member that is not there comes behind the others
pub added : (keys now new : List MemberName) (a : MemberName) → keys ≡ now → list_any (is_member a.part a.name) now ≡ false → length now < 2 ^ 32 - 1
    → new ≡ insert_key members.ghosts.eq keys a → (true ≡ is_new_member now a) × (new ≡ with_member now a)
unfolding with_member
added keys now new a same absent room is = (
  sym (is_new now a absent room),
  is ∙ (ap (λ l. insert_key members.ghosts.eq l a) same ∙ (ap (λ p. cond (list_any p now) now (now ++ a ∷ [])) (same_test a)
      ∙ (cond-false _ now _ absent ∙ sym (cond-true _ _ now (is_new now a absent room))))),
)
