-- A list of events has met an inequality exactly where the test over it says so.
use Rattle.std.proofs.Common.{◌≡◌, ◌⊎◌, inl, inr, ℕ, Bool, true, false, ◌||◌, List, [], ◌∷◌, ◌++◌, Option, Some, None, Decides, refl, sym, ap, ◌∙◌}
use Rattle.std.specs.List.{list_any}
use Rattle.dep_expr.specs.declared.inequality.Ineq.{Ineq}
use Rattle.checked_tree.specs.declared.units.CheckedFn.{CheckedFn}
use Rattle.checked_tree.specs.Flow.{Event}
use Rattle.checked_tree.specs.Redundant.{event_inequality, Gives, Met, assigns_any, slots_of}
use Rattle.checked_tree.specs.Effects as W
use Rattle.checked_tree.specs.Effects.{Effect, met_by, met_after, gives, effect, effect_of}
use Rattle.dep_expr.proofs.Deciding.{implies_tells}

module _ (f : CheckedFn) (i : Ineq) where
  abbrev slots : List ℕ
  slots = slots_of f i

  pub gives_tells : (x : Option Ineq) → Decides (gives x i) (Gives x i)
  gives_tells None = (λ h. absurd cc, λ h. absurd h)
  gives_tells (Some s) = implies_tells s i

  -- events none of which assigns
  abbrev Quiet : List Event → Type 0
  Quiet es = list_any (assigns_any slots) es ≡ false

  further : (e : Event) (es : List Event) → Met f i es → Met f i (e ∷ es)
  further e es m = record { before = e ∷ m.before; event = m.event; after = m.after; split = ap (λ l. e ∷ l) m.split; gives = m.gives; kept = m.kept }

  pub effect_is : (e : Event) → effect_of f i e ≡ effect (gives (event_inequality f e) i) (assigns_any slots e)
  unfolding effect_of
  effect_is e = refl

  before_met : (es : List Event) (met : Bool) → met_by (effect_of f i) met es ≡ true → ((met ≡ true) × Quiet es) ⊎ Met f i es
  before_met [] met h = inl (h, refl)
  before_met (e ∷ es) met h = elim (before_met es (met_after (effect_of f i e) met) h) [
    | inl q ↦ by (gives (event_inequality f e) i) (assigns_any slots e) refl refl q
    | inr m ↦ inr (further e es m)
  ]
    where
      by : (g a : Bool) → gives (event_inequality f e) i ≡ g → assigns_any slots e ≡ a → (met_after (effect_of f i e) met ≡ true) × Quiet es → ((met ≡ true) × Quiet (e ∷ es)) ⊎ Met f i (e ∷ es)
      by true a p r q = inr (record { before = []; event = e; after = es; split = refl; gives = (gives_tells (event_inequality f e)).0 p; kept = q.1 })
      by false true p r q = absurd (let k : effect_of f i e ≡ W.Takes = effect_is e ∙ (λ t. effect (p t) (r t)) in let z : false ≡ true = ap (λ x. met_after x met) (sym k) ∙ q.0 in cc)
      by false false p r q = inl (ap (λ x. met_after x met) (sym (effect_is e ∙ (λ t. effect (p t) (r t)))) ∙ q.0, ap (λ b. b || list_any (assigns_any slots) es) r ∙ q.1)

  or_false : (a b : Bool) → (a || b) ≡ false → (a ≡ false) × (b ≡ false)
  or_false true b h = absurd cc
  or_false false b h = (refl, h)

  kept_true : (g : Bool) → met_after (effect g false) true ≡ true
  kept_true true = refl
  kept_true false = refl

  quiet_kept : (es : List Event) → Quiet es → met_by (effect_of f i) true es ≡ true
  quiet_kept [] q = refl
  quiet_kept (e ∷ es) q =
      let s = or_false (assigns_any slots e) (list_any (assigns_any slots) es) q in
      let k : effect_of f i e ≡ effect (gives (event_inequality f e) i) false = effect_is e ∙ ap (effect (gives (event_inequality f e) i)) s.0 in
      ap (λ x. met_by (effect_of f i) x es) (ap (λ x. met_after x true) k ∙ kept_true (gives (event_inequality f e) i)) ∙ quiet_kept es s.1

  pub behind : (es ts : List Event) (met : Bool) → met_by (effect_of f i) met (es ++ ts) ≡ met_by (effect_of f i) (met_by (effect_of f i) met es) ts
  behind [] ts met = refl
  behind (e ∷ es) ts met = behind es ts (met_after (effect_of f i e) met)

  given : (e : Event) (met : Bool) → Gives (event_inequality f e) i → met_after (effect_of f i e) met ≡ true
  given e met g = ap (λ x. met_after x met) (effect_is e ∙ ap (λ x. effect x (assigns_any slots e)) ((gives_tells (event_inequality f e)).1 g))

  -- a list of events has met the inequality exactly where the test says so
  pub meeting : (es : List Event) → Decides (met_by (effect_of f i) false es) (Met f i es)
  meeting es = (
    λ h. elim (before_met es false h) [ inl q ↦ absurd cc | inr m ↦ m ],
    λ m. ap (met_by (effect_of f i) false) m.split
        ∙ (behind m.before (m.event ∷ m.after) false
        ∙ (ap (λ x. met_by (effect_of f i) x m.after) (given m.event (met_by (effect_of f i) false m.before) m.gives) ∙ quiet_kept m.after m.kept)),
  )
