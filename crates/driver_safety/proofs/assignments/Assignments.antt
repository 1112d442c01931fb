-- Each assignment keeps a good state.
use Rattle.std.proofs.Common.{◌≡◌, ℕ, List, [], Some, refl, sym, subst}
use Rattle.sd_base.specs.Blocks.{Block}
use Rattle.checked_tree.specs.declared.statements.CheckedStmt.{CheckedStmt}
use Rattle.checked_tree.specs.declared.units.CheckedFn.{CheckedFn}
use Rattle.checked_tree.specs.Conditions.{State}
use Rattle.deputy_types.specs.Table.{member}
use Rattle.deputy_types.proofs.Inversions.{some_then}
use Rattle.deputy_rules.specs.declared.asked.Asked.{Asked}
use Rattle.deputy_rules.specs.declared.derived.Derived.{Derived}
use Rattle.deputy_rules.specs.declared.derived.Derived.TheVariants as derived
use Rattle.deputy_rules.specs.declared.derived.Place.{Place}
use Rattle.deputy_rules.specs.declared.derived.Source.{Source}
use Rattle.deputy_rules.specs.declared.derived.Source.TheVariants as source
use Rattle.deputy_rules.specs.Assignment.{assign, assign_to, assign_local, store, store_by, store_member}
use Rattle.deputy_rules.specs.Context.{Context, slot_shape}
use Rattle.deputy_rules.specs.Deriving.{Deriving, bind}
use Rattle.deputy_rules.specs.Expressions.{derive}
use Rattle.deputy_rules.specs.Values.{integer_of}
use Rattle.driver_safety.specs.AssignmentLaw.{EachAssignmentIsSound}
use Rattle.driver_safety.specs.Derivations.{IsDerived}
use Rattle.driver_safety.specs.Goodness.{IsGood}
use Rattle.driver_safety.specs.LightHandling.{HandsLightly}
use Rattle.driver_safety.specs.Passing.{AreTested}
use Rattle.driver_safety.specs.TypeFacts.{HasTypes, HasSlots}
use Rattle.driver_safety.proofs.assignments.AutomaticAssign.{assign_local_sound}
use Rattle.driver_safety.proofs.assignments.ElementStores.{store_element_sound, store_byte_sound}
use Rattle.driver_safety.proofs.assignments.MemberAssign.{store_member_sound}
use Rattle.driver_safety.proofs.assignments.SlotAssign.{Leaves}
use Rattle.driver_safety.proofs.checks.Sounding.{Sound, then_sound, known_sound, lift_sound, none_sound, weaker, tested_front}
use Rattle.driver_safety.proofs.checks.TestedChecks.{numbered_tested}
use Rattle.driver_safety.proofs.expressions.Expressions.{derive_sound}
use Rattle.driver_safety.proofs.expressions.OperatorRules.{integer_sound}

-- the first step of two
pub first_step : (p : Deriving Derived) (g : Derived → Deriving CheckedStmt) (c : CheckedStmt) (asked : List Asked)
    → bind p g [] ≡ Some (c, asked)
    → (d : Derived) × (t : List Asked) × (p [] ≡ Some (d, t)) × (g d t ≡ Some (c, asked))
unfolding bind
first_step p g c asked h = let r = some_then (p []) (λ x. g x.0 x.1) (c, asked) h in (r.0.0, r.0.1, r.1, r.2)

module _ (f : CheckedFn) (ctx : Context) (blocks : List Block) (st : State) (good : IsGood ctx blocks st) (types : HasTypes ctx.table)
    (slots : HasSlots ctx) where
  abbrev Is : Derived → Type 0
  Is d = IsDerived f ctx blocks st d

  abbrev LeavesGood : CheckedStmt → Type 0
  LeavesGood c = Leaves f ctx blocks st good types slots c

  -- to a place, by where its type is declared
  store_by_sound : (p : Place) (x : Derived) (y : Source) → p.source ≡ y → Sound f st ctx.first (store_by ctx p x y) (λ c. Is x
      → Is (derived.Place p) → LeavesGood c)
  store_by_sound p x (source.Element key) from = store_element_sound f ctx blocks st good types slots p x key from
  store_by_sound p x source.Text from =
      then_sound f st ctx.first _ _ (λ w. integer_of ctx x ≡ Some w) _ (lift_sound f st ctx.first (integer_of ctx x) _ (λ w e. e)) (λ w.
      weaker f st ctx.first _ _ _ (λ c q e dx dp. q (integer_sound f ctx blocks st good types slots x w e dx) dp)
      (store_byte_sound f ctx blocks st good types slots p w from))
  store_by_sound p x (source.Member s m) from =
      known_sound f st ctx.first (member ctx.table s m) (λ y. store_member ctx p x s m y.offset y.shape) _ (λ y found.
      store_member_sound f ctx blocks st good types slots p s m y found x from)

  pub assign_to_sound : (x y : Derived) → Sound f st ctx.first (assign_to ctx x y) (λ c. HandsLightly ctx x → Is x → Is y → LeavesGood c)
  unfolding assign_to store
  assign_to_sound x (derived.Local slot) = known_sound f st ctx.first (slot_shape ctx slot) (assign_local ctx slot x) _ (λ y is.
      weaker f st ctx.first _ _ _ (λ c q light dx dy. q light dx) (assign_local_sound f ctx blocks st good types slots slot x y is))
  assign_to_sound x (derived.Place p) = weaker f st ctx.first _ _ _ (λ c q light dx dy. q dx dy) (store_by_sound p x p.source refl)
  assign_to_sound x (derived.Value v) = none_sound f st ctx.first _
  assign_to_sound x (derived.Array a) = none_sound f st ctx.first _
  assign_to_sound x (derived.Union u) = none_sound f st ctx.first _

pub each_assignment : EachAssignmentIsSound
unfolding assign
each_assignment f ctx l e c is blocks st good =
    let r = first_step (derive ctx e) (λ x. bind (derive ctx l) (assign_to ctx x)) c is.asked is.derived in
    let tested = subst (λ (n : ℕ). AreTested f st n is.asked) (sym is.first)
    ((numbered_tested f st is.asked is.before is.after is.numbers).tested is.stand.atoms is.stand.checks) in
    let one = (derive_sound f ctx blocks st good is.types is.slots e is.right).run [] r.0 r.1 r.2 in
    let both = then_sound f st ctx.first (derive ctx l) (assign_to ctx r.0) (IsDerived f ctx blocks st) _
    (derive_sound f ctx blocks st good is.types is.slots l is.left)
    (λ y. weaker f st ctx.first _ _ (λ c. IsDerived f ctx blocks st y → HandsLightly ctx r.0 → IsDerived f ctx blocks st r.0
    → Leaves f ctx blocks st good is.types is.slots c)
    (λ c q dy light dx. q light dx dy) (assign_to_sound f ctx blocks st good is.types is.slots r.0 y)) in
    let two = both.run r.1 c is.asked r.3 in
    two.1 tested (is.light r.0 r.1 r.2) (one.1 (tested_front f st ctx.first r.1 is.asked two.0 tested))
