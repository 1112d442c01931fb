-- A map that keeps the place of the first head of each name goes on doing so with each item.
use Rattle.std.proofs.Common.{◌≡◌, ℕ, List, [], ◌∷◌, ◌++◌, length, false, Option, None, Some, position, refl, sym, ◌∙◌, ap}
use Rattle.c_tree.specs.declared.items.Head.{Head}
use Rattle.c_tree.specs.declared.items.Item.{Item}
use Rattle.c_tree.specs.Bytes.{Text}
use Rattle.dep_infer.specs.Found.{found, first_of, NotesFirst}
use Rattle.dep_infer.proofs.Firsts.{position-push}
use Rattle.deputy_rules.specs.Heads.{head_in, heads_name, is_named_head}
use Rattle.rules_heads.specs.Places.{FindsHeads, NotesHead}

module _ (old : List (Text × ℕ)) (i : Item) (place : ℕ) where
  -- an item with a head, and one without
  pub head_noted : (h : Head) (new : List (Text × ℕ)) → head_in i ≡ Some h → NotesFirst old h.name place new → NotesHead old i place new
  head_noted h new has noted x = noted x ∙ ap (λ (o : Option Head). first_of (found old x) (is_named_head x o) place) (sym has)

  no_change : (o : Option ℕ) → o ≡ first_of o false place
  no_change None = refl
  no_change (Some k) = refl

  pub nothing_noted : head_in i ≡ None → NotesHead old i place old
  nothing_noted none x = no_change (found old x) ∙ ap (λ (o : Option Head). first_of (found old x) (is_named_head x o) place) (sym none)

pub heads_next : (front after : List Item) (i : Item) (place : ℕ) (old new : List (Text × ℕ)) → place ≡ length front → after ≡ front ++ i ∷ []
    → FindsHeads old front → NotesHead old i place new → FindsHeads new after
heads_next front after i place old new at ends before noted x =
    noted x ∙ (ap (λ o. first_of o (heads_name x i) place) (before x) ∙ (ap (λ n. first_of (position (heads_name x) front) (heads_name x i) n) at
    ∙ (sym (position-push (heads_name x) front i) ∙ ap (position (heads_name x)) (sym ends))))
