-- What is known moves along the ways of the flow graph.
use Rattle.std.proofs.Common.{◌≡◌, inl, inr, ℕ, ◌==◌, Bool, true, false, not, ◌&&◌, ◌||◌, IsTrue, List, [], ◌∷◌, ◌++◌, ℤ, pos, ◌*ℤ◌, ◌≤ℤ◌, Option, Some, None, slice_get, Contains, refl, sym, ap, subst, ◌∙◌, arith}
use Rattle.std.proofs.lemmas.Int.{ints}
use Rattle.std.specs.List.{list_any, list_all, flat_map}
use Rattle.dep_expr.specs.Linear.{LinearForm, Assignment, terms_value, value_of}
use Rattle.dep_expr.specs.Inequality.{IsExcused}
use Rattle.dep_expr.specs.declared.inequality.Ineq.{Ineq}
use Rattle.dep_expr.proofs.Implying.{implied}
use Rattle.checked_tree.specs.declared.expressions.CheckedExpr.{CheckedExpr}
use Rattle.checked_tree.specs.declared.units.CheckedFn.{CheckedFn}
use Rattle.checked_tree.specs.Conditions.{State, atom_value}
use Rattle.checked_tree.specs.Eval.{check_of}
use Rattle.checked_tree.specs.Flow.{Event, Tests, Assigns, Finds, Passes, Node, entry, ways, Walks}
use Rattle.checked_tree.specs.Redundant.{reads_memory, atom_reads_memory, atom_slots, guard_terms, is_over_locals, slots_of, check_inequality, event_inequality, Gives, Met, assigns_any}
use Rattle.checked_tree.specs.Effects.{met_by, met_after, gives, effect, effect_of}
use Rattle.checked_tree.specs.Known.{number_or_zero, atom_numbers, HoldsIn, IsReached, IsMetAt, KnownAt, slots_assigned, StayBut}
use Rattle.checked_tree.specs.KnownLaws.{HoldsBehind, KnownMoves, EntryIsKnown}
use Rattle.checked_tree.proofs.LocalAtoms.{SameIn, same_left, same_right, or_false, peek_same}
use Rattle.checked_tree.proofs.Meeting.{gives_tells, effect_is, behind, meeting}

and_true : (a b : Bool) → IsTrue (a && b) → IsTrue a × IsTrue b
and_true true b h = (refl, h)
and_true false b h = absurd cc

all_left : (p : ℤ × ℕ → Bool) (a b : List (ℤ × ℕ)) → IsTrue (list_all p (a ++ b)) → IsTrue (list_all p a)
all_left p [] b h = refl
all_left p (t ∷ ts) b h = let k = and_true (p t) (list_all p (ts ++ b)) h in joined (p t) (list_all p ts) k.0 (all_left p ts b k.1)
  where
    joined : (a b : Bool) → IsTrue a → IsTrue b → IsTrue (a && b)
    joined true b h k = k
    joined false b h k = h

all_right : (p : ℤ × ℕ → Bool) (a b : List (ℤ × ℕ)) → IsTrue (list_all p (a ++ b)) → IsTrue (list_all p b)
all_right p [] b h = h
all_right p (t ∷ ts) b h = all_right p ts b (and_true (p t) (list_all p (ts ++ b)) h).1

flat_both : (g : ℤ × ℕ → List ℕ) (a b : List (ℤ × ℕ)) → flat_map g (a ++ b) ≡ flat_map g a ++ flat_map g b
flat_both g [] b = refl
flat_both g (t ∷ ts) b = ap (λ l. g t ++ l) (flat_both g ts b) ∙ regroup (g t) (flat_map g ts) (flat_map g b)
  where
    regroup : (x y z : List ℕ) → x ++ (y ++ z) ≡ (x ++ y) ++ z
    regroup [] y z = refl
    regroup (k ∷ ks) y z = ap (λ l. k ∷ l) (regroup ks y z)

module _ (f : CheckedFn) (s t : State) where
  abbrev here : Assignment
  here = atom_numbers f.atoms s

  abbrev there : Assignment
  there = atom_numbers f.atoms t

  abbrev is_local : ℤ × ℕ → Bool
  is_local u = not (atom_reads_memory (slice_get f.atoms u.1))

  abbrev slots : ℤ × ℕ → List ℕ
  slots u = atom_slots (slice_get f.atoms u.1)

  not_true : (b : Bool) → IsTrue (not b) → b ≡ false
  not_true true h = absurd cc
  not_true false h = refl

  atom_same : (e : Option CheckedExpr) → IsTrue (not (atom_reads_memory e)) → SameIn s t (atom_slots e) → number_or_zero (atom_value s e) ≡ number_or_zero (atom_value t e)
  atom_same None l k = refl
  atom_same (Some e) l k = ap number_or_zero (peek_same s t e (not_true (reads_memory e) l) k)

  terms_same : (ts : List (ℤ × ℕ)) → IsTrue (list_all is_local ts) → SameIn s t (flat_map slots ts) → terms_value ts here ≡ terms_value ts there
  terms_same [] l k = refl
  terms_same (u ∷ us) l k =
      let p = and_true (is_local u) (list_all is_local us) l in
      let number : here u.1 ≡ there u.1 = atom_same (slice_get f.atoms u.1) p.0 (same_left s t (slots u) (flat_map slots us) k) in
      let product : u.0 *ℤ here u.1 ≡ u.0 *ℤ there u.1 = ap (λ z. u.0 *ℤ z) number in
      omega (arith, ints, product, terms_same us p.1 (same_right s t (slots u) (flat_map slots us) k))

  value_same : (l : LinearForm) → IsTrue (list_all is_local l.terms) → SameIn s t (flat_map slots l.terms) → value_of l here ≡ value_of l there
  unfolding value_of
  value_same l m k = omega (arith, ints, terms_same l.terms m k)

  excused_same : (g : Option LinearForm) → IsTrue (list_all is_local (guard_terms g)) → SameIn s t (flat_map slots (guard_terms g)) → IsExcused g here → IsExcused g there
  excused_same None l k e = e
  excused_same (Some g) l k e = sym (value_same g l k) ∙ e

  -- an inequality over locals holds in the one where it holds in the other
  holds_same : (i : Ineq) → IsTrue (is_over_locals f i) → SameIn s t (slots_of f i) → HoldsIn f s i → HoldsIn f t i
  unfolding is_over_locals slots_of
  holds_same i l k h =
      let left = i.left.terms in
      let guard = guard_terms i.guard in
      let m = subst (SameIn s t) (flat_both slots left guard) k in
      elim h [
        | inl e ↦ inl (excused_same i.guard (all_right is_local left guard l) (same_right s t (flat_map slots left) (flat_map slots guard) m) e)
        | inr e ↦ inr (subst (λ (z : ℤ). z ≤ℤ pos 0) (value_same i.left (all_left is_local left guard l) (same_left s t (flat_map slots left) (flat_map slots guard) m)) e)
      ]

  any_either : (k : ℕ) (ks own : List ℕ) → list_any (λ o. (o == k) || list_any (λ u. o == u) ks) own ≡ false
      → (list_any (λ o. o == k) own ≡ false) × (list_any (λ o. list_any (λ u. o == u) ks) own ≡ false)
  any_either k ks [] h = (refl, refl)
  any_either k ks (o ∷ os) h =
      let p = or_false ((o == k) || list_any (λ u. o == u) ks) (list_any (λ o. (o == k) || list_any (λ u. o == u) ks) os) h in
      let q = or_false (o == k) (list_any (λ u. o == u) ks) p.0 in
      let r = any_either k ks os p.1 in
      (none (o == k) (list_any (λ o. o == k) os) q.0 r.0, none (list_any (λ u. o == u) ks) (list_any (λ o. list_any (λ u. o == u) ks) os) q.1 r.1)
    where
      none : (a b : Bool) → a ≡ false → b ≡ false → (a || b) ≡ false
      none true b h k = absurd cc
      none false b h k = k

  -- slots none of which is assigned
  unassigned_same : (own ks : List ℕ) → list_any (λ o. list_any (λ u. o == u) ks) own ≡ false → StayBut own s t → SameIn s t ks
  unassigned_same own [] h stay = tt
  unassigned_same own (k ∷ ks) h stay = let p = any_either k ks own h in (stay k p.0, unassigned_same own ks p.1 stay)

  all_stay : (ks : List ℕ) → StayBut [] s t → SameIn s t ks
  all_stay [] stay = tt
  all_stay (k ∷ ks) stay = (stay k refl, all_stay ks stay)

  -- behind an event that assigns none of them
  kept_same : (e : Event) (ks : List ℕ) → assigns_any ks e ≡ false → StayBut (slots_assigned e) s t → SameIn s t ks
  kept_same (Assigns own) ks h stay = unassigned_same own ks h stay
  kept_same (Tests id) ks h stay = all_stay ks stay
  kept_same (Finds l) ks h stay = all_stay ks stay
  kept_same Passes ks h stay = all_stay ks stay

-- a walk and one way more
pub walk_on : (f : CheckedFn) (m n k : Node) (e : Event) (es : List Event) → Walks f m es n → Contains (ways f n) (e, k) → Walks f m (es ++ e ∷ []) k
walk_on f m n k e [] w c = (k, subst (λ (x : Node). Contains (ways f x) (e, k)) (sym w) c, refl)
walk_on f m n k e (d ∷ es) w c = (w.0, w.1, walk_on f w.0 n k e es w.2 c)

module _ (f : CheckedFn) (n k : Node) (e : Event) (s t : State) (reached : IsReached f n) (known : KnownAt f n s) (way : Contains (ways f n) (e, k))
    (stay : StayBut (slots_assigned e) s t) (holds : HoldsBehind f e t) where
  module_known : (id : ℕ) (i : Ineq) → check_inequality (check_of f id) ≡ Some i → IsTrue (is_over_locals f i) → IsMetAt f k i → HoldsIn f t i
  module_known id i own local met = by (gives (event_inequality f e) i) (assigns_any (slots_of f i) e) refl refl
    where
      -- what each walk to here has met behind the event
      behind_it : (es : List Event) → Walks f (entry f) es n → met_after (effect_of f i e) (met_by (effect_of f i) false es) ≡ true
      behind_it es w = sym (behind f i es (e ∷ []) false) ∙ (meeting f i (es ++ e ∷ [])).1 (met (es ++ e ∷ []) (walk_on f (entry f) n k e es w way))

      effect_by : (g a : Bool) → gives (event_inequality f e) i ≡ g → assigns_any (slots_of f i) e ≡ a → effect_of f i e ≡ effect g a
      effect_by g a p q = effect_is f i e ∙ ap (λ b. effect b (assigns_any (slots_of f i) e)) p ∙ ap (λ b. effect g b) q

      given : (o : Option Ineq) → event_inequality f e ≡ o → Gives o i → HoldsIn f t i
      given None p g = absurd g
      given (Some strong) p g = implied strong i g (atom_numbers f.atoms t) (holds strong p)

      by : (g a : Bool) → gives (event_inequality f e) i ≡ g → assigns_any (slots_of f i) e ≡ a → HoldsIn f t i
      by true a p q = given (event_inequality f e) refl ((gives_tells f i (event_inequality f e)).0 p)
      by false true p q = absurd (
          let x : false ≡ true = ap (λ d. met_after d (met_by (effect_of f i) false reached.0)) (sym (effect_by false true p q)) ∙ behind_it reached.0 reached.1 in cc)
      by false false p q =
          holds_same f s t i local (kept_same f s t e (slots_of f i) q stay)
          (known id i own local (λ es w. (meeting f i es).0 (ap (λ d. met_after d (met_by (effect_of f i) false es)) (sym (effect_by false false p q)) ∙ behind_it es w)))

pub known_moves : KnownMoves
known_moves f n k e s t reached known way stay holds =
    ((reached.0 ++ e ∷ [], walk_on f (entry f) n k e reached.0 reached.1 way), module_known f n k e s t reached known way stay holds)

pub entry_known : EntryIsKnown
entry_known f s = (([], refl), λ id i own local met. nothing f i (met [] refl))
  where
    no_split : (before : List Event) (e : Event) (after : List Event) → [] ≡ before ++ e ∷ after → ⊥
    no_split [] e after h = absurd cc
    no_split (d ∷ ds) e after h = absurd cc

    nothing : {P : Type 0} (f : CheckedFn) (i : Ineq) → Met f i [] → P
    nothing f i m = absurd (no_split m.before m.event m.after m.split)
