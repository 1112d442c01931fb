-- A line that waits is never lost: in every run it waits until it is served, which is printed, unless the run is over.
-- Here: never-lost
use Rattle.std.proofs.Common.{◌≡◌, ◌≢◌, ℕ, zero, suc, Bool, true, false, ◌||◌, eqb, List, [], ◌∷◌, ◌++◌, get_or, set, refl, ap, sym, subst, ◌∙◌, append_assoc, append-nil, arith}
use Rattle.std.specs.List.{list_any}
use Rattle.std.proofs.lemmas.List.{get_or-set_other}
use Rattle.std.proofs.lemmas.Bool.Decides.{nat_tests}
use Rattle.claim_table.specs.declared.claims.Holder.{Holder}
use Rattle.scenario.specs.declared.event.Event.{Event}
use Rattle.run_report.specs.declared.item.Item.{Item}
use Rattle.run_report.specs.declared.item.Item.TheVariants as item
use Rattle.world_core.specs.declared.run_state.RunState.{RunState}
use Rattle.world_core.specs.WorldState.{WorldState, is_over}
use Rattle.world_core.specs.Script.{say, says, on_run, does, unless_over}
use Rattle.world_core.specs.Failing.{fails, strays, driver_fails}
use Rattle.world_core.specs.Delivering.{with_waiting, is_waiting, serves, serves_all, delivers}
use Rattle.world_core.specs.Loading.{driver_unloaded}
use Rattle.world_core.specs.Events.{events}
use Rattle.world_core.specs.Laws.{Grows, is_served, Fate, ended, waits, is_printed, IsKept}
use Rattle.world_core.proofs.Leading.{Leads, leads-then, leads-given, leads-by_run, leads-by_history, leads-from}
use Rattle.world_core.proofs.Keeping.{Acting, Stepping, Happening, keep-takes_back, keep-handles, keep-serves_each, keep-serves_all, keep-events}
use Rattle.world_core.proofs.Telling.{any-append, or-true}

-- ---- what keeps it

fate-more : (line : ℕ) (run : RunState) (since xs : List Item) → Fate line run since → Fate line run (since ++ xs)
fate-more line run since xs (ended e) = ended e
fate-more line run since xs (waits e) = waits e
fate-more line run since xs (is_printed e) =
    is_printed (any-append (is_served line) since xs ∙ ap (λ b. b || list_any (is_served line) xs) e)

fate-run : (line : ℕ) (run new : RunState) (since : List Item) → (is_over run ≡ true → is_over new ≡ true) →
    (is_waiting run line ≡ true → is_waiting new line ≡ true) →
    Fate line run since → Fate line new since
fate-run line run new since over waiting (ended e) = ended (over e)
fate-run line run new since over waiting (waits e) = waits (waiting e)
fate-run line run new since over waiting (is_printed e) = is_printed e

saying : (line : ℕ) (start : List Item) (x : Item) → Leads (IsKept line start) (IsKept line start) (say x)
saying line start x = record {
  to = λ s a. record {
    since = a.since ++ x ∷ [];
    is = ap (λ said. said ++ x ∷ []) a.is ∙ append_assoc start a.since (x ∷ []);
    fate = fate-more line s.run a.since (x ∷ []) a.fate;
  };
}

listing : (line : ℕ) (start xs : List Item) → Leads (IsKept line start) (IsKept line start) (says xs)
listing line start xs = record {
  to = λ s a. record {
    since = a.since ++ xs;
    is = ap (λ said. said ++ xs) a.is ∙ append_assoc start a.since xs;
    fate = fate-more line s.run a.since xs a.fate;
  };
}

changing : (line : ℕ) (start : List Item) (change : RunState → RunState) → ((r : RunState) → is_over r ≡ true → is_over (change r) ≡ true) →
    ((r : RunState) → is_waiting r line ≡ true → is_waiting (change r) line ≡ true) →
    Leads (IsKept line start) (IsKept line start) (on_run change)
changing line start change over waiting = record {
  to = λ s a. record {
    since = a.since;
    is = a.is;
    fate = fate-run line s.run (change s.run) a.since (over s.run) (waiting s.run) a.fate;
  };
}

-- a line that is raised lowers no other
raised-keeps : (xs : List Bool) (j line : ℕ) → get_or xs line false ≡ true → get_or (set xs j true) line false ≡ true
raised-keeps [] j line e = e
raised-keeps (x ∷ xs) zero zero e = refl
raised-keeps (x ∷ xs) zero (suc line) e = e
raised-keeps (x ∷ xs) (suc j) zero e = e
raised-keeps (x ∷ xs) (suc j) (suc line) e = raised-keeps xs j line e

acting : (line : ℕ) (start : List Item) → Acting (IsKept line start)
unfolding fails strays
acting line start = record {
  saying = λ x quiet. saying line start x;
  listing = λ xs quiet. listing line start xs;
  updating = λ owner u. record { to = λ s a. record { since = a.since; is = a.is; fate = a.fate } };
  leaving = λ owner. record { to = λ s a. record { since = a.since; is = a.is; fate = a.fate } };
  tasks = λ change same. record { to = λ s a. record { since = a.since; is = a.is; fate = a.fate } };
  memories = λ change same. record { to = λ s a. record { since = a.since; is = a.is; fate = a.fate } };
  devices = λ change. record { to = λ s a. record { since = a.since; is = a.is; fate = a.fate } };
  failing = λ who kind at. leads-then (saying line start (item.Failed who kind at)) (keep-takes_back who.owner (driver_fails who.owner)
      (record { to = λ s a. record { since = a.since; is = a.is; fate = a.fate } })
      (record { to = λ s a. record { since = a.since; is = a.is; fate = a.fate } })
      (record { to = λ s a. record { since = a.since; is = a.is; fate = a.fate } })
      (changing line start (driver_fails who.owner) (λ r e. e) (λ r e. e))
      (λ xs quiet. listing line start xs));
  astray = λ who at. leads-then (saying line start (item.Wild who at))
      (changing line start _ (λ r e. or-true r.is_stopped true refl) (λ r e. e));
  blocked = changing line start _ (λ r e. e) (λ r e. e);
}

stepping : (line : ℕ) (start : List Item) → Stepping (IsKept line start)
stepping line start = record {
  acting = acting line start;
  stopping = changing line start _ (λ r e. refl) (λ r e. e);
  taking = changing line start _ (λ r e. e) (λ r e. e);
}

-- ---- the line itself is served

-- once it is served, that is printed
printed : (line : ℕ) (start : List Item) (x : Item) → is_served line x ≡ true → Leads (λ s. Grows start s.said) (IsKept line start) (say x)
printed line start x e = record {
  to = λ s a. record {
    since = a.rest ++ x ∷ [];
    is = ap (λ said. said ++ x ∷ []) a.is ∙ append_assoc start a.rest (x ∷ []);
    fate = is_printed (any-append (is_served line) a.rest (x ∷ [])
        ∙ or-true (list_any (is_served line) a.rest) (is_served line x || false) (ap (λ b. b || false) e));
  };
}

same_line : (line : ℕ) → eqb line line ≡ true
same_line line = grind (arith, nat_tests)

serving : (line : ℕ) (start : List Item) (holder : Holder) → Leads (λ s. Grows start s.said) (IsKept line start) (serves line holder)
unfolding serves
serving line start holder = leads-then (printed line start (item.Irq line holder.owner) (same_line line)) (keep-handles
    (stepping line start) holder.owner holder.handler _)

serving_on : (line : ℕ) (start : List Item) (holder : Holder) →
    Leads (λ s. Grows start s.said) (IsKept line start) (unless_over (serves line holder))
unfolding unless_over
serving_on line start holder = leads-by_run (λ run. leads-given (is_over run)
    (λ over. record { to = λ s a. record { since = a.0.rest; is = a.0.is; fate = ended (ap is_over a.1 ∙ over) } })
    (λ on. leads-from (λ s a. a.0) (serving line start holder)))

serving_all : (line : ℕ) (start : List Item) (holders : List Holder) →
    Leads (λ s. Grows start s.said) (IsKept line start) (serves_all line holders)
serving_all line start [] = printed line start (item.IrqNobody line) (same_line line)
serving_all line start (x ∷ xs) = leads-then (serving_on line start x) (keep-serves_each (stepping line start) line xs)

own : (line : ℕ) (start : List Item) → Leads (IsKept line start) (IsKept line start) (delivers line)
unfolding delivers
own line start = leads-then
    (record { to = λ s a. record { rest = a.since; is = a.is } })
    (leads-by_history (λ h. leads-from (λ s a. a.0) (serving_all line start _)))

-- another line is served
other : (line j : ℕ) (start : List Item) → line ≢ j → Leads (IsKept line start) (IsKept line start) (delivers j)
unfolding delivers
other line j start apart = leads-then
    (changing line start (with_waiting j false) (λ r e. e) (λ r e. get_or-set_other r.waiting j line false false apart ∙ e))
    (leads-by_history (λ h. leads-from (λ s a. a.0) (keep-serves_all (stepping line start) j _)))

delivering : (line : ℕ) (start : List Item) (j : ℕ) → Leads (IsKept line start) (IsKept line start) (delivers j)
delivering line start j =
    elim (eqb line j) as (λ b. eqb line j ≡ b → Leads (IsKept line start) (IsKept line start) (delivers j)) [
      | true ↦ λ e. let same : line ≡ j =
          grind (arith, nat_tests) in subst (λ k. Leads (IsKept line start) (IsKept line start) (delivers k)) same (own line start)
      | false ↦ λ e. other line j start (grind (arith, nat_tests))
    ] refl

happening : (line : ℕ) (start : List Item) → Happening (IsKept line start)
happening line start = record {
  stepping = stepping line start;
  unblocked = changing line start _ (λ r e. e) (λ r e. e);
  raised = λ j. changing line start (with_waiting j true) (λ r e. e) (λ r e. raised-keeps r.waiting j line e);
  delivering = delivering line start;
  loaded = λ driver task restarts. changing line start _ (λ r e. e) (λ r e. e);
  restarted = λ driver. changing line start _ (λ r e. e) (λ r e. e);
  unloading = λ driver. keep-takes_back driver (driver_unloaded driver)
      (record { to = λ s a. record { since = a.since; is = a.is; fate = a.fate } })
      (record { to = λ s a. record { since = a.since; is = a.is; fate = a.fate } })
      (record { to = λ s a. record { since = a.since; is = a.is; fate = a.fate } })
      (changing line start (driver_unloaded driver) (λ r e. e) (λ r e. e))
      (λ xs quiet. listing line start xs);
  restart_used = λ driver. changing line start _ (λ r e. e) (λ r e. e);
}

-- from a world in which the line waits
pub never-lost : (line : ℕ) (es : List Event) (s : WorldState) → is_waiting s.run line ≡ true → IsKept line s.said (does (events es) s)
never-lost line es s waiting = (keep-events (happening line s.said) es).to s (record {
  since = [];
  is = sym (append-nil s.said);
  fate =
      waits waiting;
})
