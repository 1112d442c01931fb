-- A driver has failed exactly where a failure stands among what was printed.
-- Here: failed-exactly
use Rattle.std.proofs.Common.{◌≡◌, ℕ, Bool, true, false, ◌||◌, List, [], ◌∷◌, ◌++◌, ℤ, refl, ap, sym, ◌∙◌}
use Rattle.std.specs.List.{list_any}
use Rattle.sd_base.specs.declared.actors.Who.{Who}
use Rattle.sd_base.specs.declared.kinds.FailKind.{FailKind}
use Rattle.kernel_tables.specs.TableRows.{tables_of}
use Rattle.checked_tree.specs.declared.units.CheckedUnit.{CheckedUnit}
use Rattle.scenario.specs.declared.event.Event.{Event}
use Rattle.run_report.specs.declared.item.Item.{Item}
use Rattle.run_report.specs.declared.item.Item.TheVariants as item
use Rattle.world_core.specs.WorldState.{WorldState, first_world}
use Rattle.world_core.specs.Script.{does, without_driver}
use Rattle.world_core.specs.Showing.{names_of, show}
use Rattle.world_core.specs.Failing.{undo_items, takes_back, strays}
use Rattle.world_core.specs.Events.{is_failure, whole}
use Rattle.world_core.specs.Laws.{Tells}
use Rattle.world_core.proofs.Taking.{failure}
use Rattle.world_core.proofs.Keeping.{Acting, Stepping, Happening, tables-quiet, undone-quiet, keep-delivers, keep-whole}

or-step : (b c d e : Bool) → c ≡ d || e → b || c ≡ (b || d) || e
or-step true c d e h = refl
or-step false c d e h = h

pub any-append : {X : Type 0} (p : X → Bool) (xs ys : List X) → list_any p (xs ++ ys) ≡ list_any p xs || list_any p ys
any-append p [] ys = refl
any-append p (x ∷ xs) ys = or-step (p x) (list_any p (xs ++ ys)) (list_any p xs) (list_any p ys) (any-append p xs ys)

or-false : (a b : Bool) → b ≡ false → a || b ≡ a
or-false true b e = refl
or-false false b e = e

pub or-true : (a b : Bool) → b ≡ true → a || b ≡ true
or-true true b e = refl
or-true false b e = e

quiet-added : (xs ys : List Item) → list_any is_failure ys ≡ false → list_any is_failure (xs ++ ys) ≡ list_any is_failure xs
quiet-added xs ys quiet = any-append is_failure xs ys ∙ or-false (list_any is_failure xs) (list_any is_failure ys) quiet

failure-told : (before : List Item) (who : Who) (kind : FailKind) (line : ℕ) (undo tables : List Item) →
    list_any is_failure undo ≡ false → list_any is_failure tables ≡ false →
    list_any is_failure (before ++ item.Failed who kind line ∷ [] ++ undo ++ tables) ≡ true
failure-told before who kind line undo tables quiet more =
    quiet-added (before ++ item.Failed who kind line ∷ [] ++ undo) tables more
    ∙ quiet-added (before ++ item.Failed who kind line ∷ []) undo quiet
    ∙ any-append is_failure before (item.Failed who kind line ∷ [])
    ∙ or-true (list_any is_failure before) true refl

one-quiet : (x : Item) → is_failure x ≡ false → list_any is_failure (x ∷ []) ≡ false
one-quiet x e = ap (λ b. b || false) e

acting : Acting Tells
unfolding strays
acting = record {
  saying = λ x quiet. record { to = λ s a. a ∙ sym (quiet-added s.said (x ∷ []) (one-quiet x quiet)) };
  listing = λ xs quiet. record { to = λ s a. a ∙ sym (quiet-added s.said xs quiet) };
  updating = λ owner u. record { to = λ s a. a };
  leaving = λ owner. record { to = λ s a. a };
  tasks = λ change same. record { to = λ s a. a };
  memories = λ change same. record { to = λ s a. a };
  devices = λ change. record { to = λ s a. a };
  failing = λ who kind line. record {
    to = λ s a.
        let f = failure who kind line s in
        f.flag ∙ sym (ap (list_any is_failure) f.said
        ∙ failure-told s.said who kind line _ _ (undone-quiet (names_of s.plan) who.owner s.history) (tables-quiet (names_of s.plan)
        (tables_of (without_driver who.owner s.history))));
  };
  astray = λ who line. record {
    to = λ s a. sym (any-append is_failure s.said (item.Wild who line ∷ [])
        ∙ or-true (list_any is_failure s.said) true refl);
  };
  blocked = record { to = λ s a. a };
}

stepping : Stepping Tells
stepping = record { acting = acting; stopping = record { to = λ s a. a }; taking = record { to = λ s a. a } }

happening : Happening Tells
unfolding takes_back show
happening = record {
  stepping = stepping;
  unblocked = record { to = λ s a. a };
  raised = λ line. record { to = λ s a. a };
  delivering = keep-delivers stepping (λ line. record { to = λ s a. a });
  loaded = λ driver task restarts. record { to = λ s a. a };
  restarted = λ driver. record { to = λ s a. a };
  unloading = λ driver. record {
    to = λ s a. a ∙ sym (
        quiet-added (s.said ++ undo_items (names_of s.plan) driver s.history) _ (tables-quiet (names_of s.plan) (tables_of
        (without_driver driver s.history)))
        ∙ quiet-added s.said _ (undone-quiet (names_of s.plan) driver s.history));
  };
  restart_used = λ driver. record { to = λ s a. a };
}

-- over a whole run
pub failed-exactly : (drivers : List CheckedUnit) (version : ℕ) (answers : List ℤ) (es : List Event) (bound : ℕ) →
    Tells (does (whole es) (first_world drivers version answers bound))
failed-exactly drivers version answers es bound = (keep-whole happening es).to (first_world drivers version answers bound) refl
