-- Each simple statement and each condition of a function of an accepted unit runs: in a good state it fails a check, or leaves a good state
-- and turns to where the unit's functions take over.
use Rattle.std.proofs.Common.{◌≡◌, ℕ, Bool, false, List, [], map, length, All, ℤ, pos, Option, Some, None}
use Rattle.std.proofs.Common.{Ok, Err, Contains, slice_get, slice_index_or, refl, sym, ap, ◌∙◌, subst}
use Rattle.std.proofs.lemmas.Option.{slice_get-map}
use Rattle.sd_base.specs.Blocks.{Block}
use Rattle.c_tree.specs.declared.expressions.Expr.{Expr}
use Rattle.c_tree.specs.declared.items.Function.{Function}
use Rattle.c_tree.specs.declared.items.Item.TheVariants as item
use Rattle.c_tree.specs.declared.items.Unit.{Unit as TextUnit}
use Rattle.c_tree.specs.declared.statements.Action.{Action}
use Rattle.c_tree.specs.declared.statements.Action.TheVariants as action
use Rattle.c_tree.specs.declared.statements.Simple.{Simple}
use Rattle.c_tree.specs.declared.types.TypeName.{TypeName}
use Rattle.c_tree.specs.Short.{IsShortExpr}
use Rattle.c_tree.specs.ShortUnit.{IsShortUnit}
use Rattle.c_tree.specs.Slots.{locals_of}
use Rattle.c_tree.proofs.ShortParts.{HasShort}
use Rattle.checked_tree.specs.declared.expressions.CheckedExpr.{CheckedExpr}
use Rattle.checked_tree.specs.declared.kernel.KernelCall.{KernelCall}
use Rattle.checked_tree.specs.declared.kernel.KernelName.{KernelName}
use Rattle.checked_tree.specs.declared.statements.CheckedStmt.{CheckedStmt, out-CheckedStmt}
use Rattle.checked_tree.specs.declared.statements.CheckedStmt.TheOpen as S
use Rattle.checked_tree.specs.declared.statements.CheckedStmt.TheVariants as statement
use Rattle.checked_tree.specs.declared.statements.Target.{Target}
use Rattle.checked_tree.specs.declared.units.CheckedFn.{CheckedFn}
use Rattle.checked_tree.specs.declared.units.CheckedUnit.{CheckedUnit}
use Rattle.checked_tree.specs.Act.{Turn, On, Into, Calls, Asks, Returns, Acted, act as acts, turns}
use Rattle.checked_tree.specs.Conditions.{State}
use Rattle.checked_tree.specs.Eval.{eval, tests}
use Rattle.checked_tree.specs.KernelTable.{kernel_named}
use Rattle.checked_tree.specs.Operands.{optional_argument}
use Rattle.checked_tree.specs.Outcome.{Outcome, ◌>>=◌, Safe}
use Rattle.checked_tree.specs.Step.{answer_set, target_of, with_returned}
use Rattle.deputy_types.specs.Options.{and_then}
use Rattle.deputy_types.specs.Table.{Table}
use Rattle.deputy_types.specs.UnitLayout.{functions_of, layout}
use Rattle.deputy_types.proofs.Inversions.{some_then, some_map}
use Rattle.deputy_rules.specs.declared.derived.Derived.{Derived}
use Rattle.deputy_rules.specs.declared.derived.Value.{Value}
use Rattle.deputy_rules.specs.declared.derived.Value.TheVariants as value
use Rattle.deputy_rules.specs.declared.signature.Returned.{Returned}
use Rattle.deputy_rules.specs.declared.signature.Signature.{Signature}
use Rattle.deputy_rules.specs.Assignment.{assign, assign_to}
use Rattle.deputy_rules.specs.Calls.{call, call_by, call_kernel, call_named, call_numbered, call_function, call_target, function_number}
use Rattle.deputy_rules.specs.Calls.{kalloc, kfree}
use Rattle.deputy_rules.specs.Checking.{in_turn}
use Rattle.deputy_rules.specs.Context.{Context}
use Rattle.deputy_rules.specs.Deriving.{Deriving, bind}
use Rattle.deputy_rules.specs.Expressions.{derive}
use Rattle.deputy_rules.specs.Functions.{context_of, no_checks, result_scalar, shapes_of}
use Rattle.deputy_rules.specs.Heads.{parameter_shapes, result_of, signature_of, slot_shapes}
use Rattle.deputy_rules.specs.NameValues.{local_at}
use Rattle.deputy_rules.specs.Numbering.{Numbered}
use Rattle.deputy_rules.specs.Statements.{Home, act, zero, zero_of, return_from, controlling, test_form, statement_context, simple}
use Rattle.deputy_rules.specs.Statements.{condition, check_statement}
use Rattle.deputy_rules.specs.Values.{value_of}
use Rattle.light_checks.specs.Standing.{Stands}
use Rattle.light_checks.specs.Within.{IsContext}
use Rattle.driver_safety.specs.Activities.{Terms, Runs, runs, LeavesGood, IsTurn, is_return}
use Rattle.driver_safety.specs.CallLaw.{GivesBack, HasWords}
use Rattle.driver_safety.specs.Derivations.{IsDerived, IsValue}
use Rattle.driver_safety.specs.Goodness.{IsFrame, IsMemory, IsGood}
use Rattle.driver_safety.specs.Handing.{TakeEach, HasParameters}
use Rattle.driver_safety.specs.KernelLaw.{Answers, IsLight}
use Rattle.driver_safety.specs.Passing.{StandIn}
use Rattle.driver_safety.specs.StepLaw.{signatures_of, HasGoodSlots, HasGoodResult, TakesEachAnswer, terms_of}
use Rattle.driver_safety.specs.TypeFacts.{HasTypes, HasSlots}
use Rattle.driver_safety.proofs.assignments.Assignments.{assign_to_sound}
use Rattle.driver_safety.proofs.assignments.SlotAssign.{Leaves}
use Rattle.driver_safety.proofs.assignments.ZeroStatement.{zero_of_sound}
use Rattle.driver_safety.proofs.calls.Answering.{answer_taken}
use Rattle.driver_safety.proofs.calls.Calling.{call_function_sound, call_target_kept}
use Rattle.driver_safety.proofs.calls.KernelCalls.{From, from_sound, from_derive, from_known, IsAsking, call_kernel_asks, kfree_asks}
use Rattle.driver_safety.proofs.calls.KernelCalls.{kalloc_asks}
use Rattle.driver_safety.proofs.calls.Receiving.{some_same, each_result_is_taken}
use Rattle.driver_safety.proofs.calls.Returning.{return_from_sound}
use Rattle.driver_safety.proofs.checks.Evaluations.{safe_same, safe_weaker}
use Rattle.driver_safety.proofs.checks.LineRules.{SoundAt, weaker_at, line_at}
use Rattle.driver_safety.proofs.checks.Sounding.{then_sound, both_sound, pure_sound, lift_sound, weaker}
use Rattle.driver_safety.proofs.declarations.FunctionHeads.{seen, has_parameters, result_declared}
use Rattle.driver_safety.proofs.declarations.FunctionSlots.{slots_stand}
use Rattle.driver_safety.proofs.declarations.ShortExpressions.{short_light, short_lights, short_have, short_words, statement_within}
use Rattle.driver_safety.proofs.expressions.Expressions.{derive_sound}
use Rattle.driver_safety.proofs.expressions.ReadRules.{value_sound}
use Rattle.driver_safety.proofs.steps.Frames.{frame_moved}
use Rattle.driver_safety.proofs.steps.BodyRules.{IsTest}

-- ---- what a turn says of its statement
bind_ok : {A B : Type 0} (r : Outcome A) (g : A → Outcome B) (b : B) → (r >>= g) ≡ Ok b → (a : A) × (r ≡ Ok a) × (g a ≡ Ok b)
bind_ok (Ok a) g b h = (a, refl, h)
bind_ok (Err stop) g b h = absurd cc

abbrev IsBack : Turn → Type 0
IsBack (Returns v) = Unit {0}
IsBack _ = ⊥

abbrev pub NotInto : Turn → Type 0
NotInto (Into b) = ⊥
NotInto _ = Unit {0}

returned_back : (s : State) (v : Option ℤ) (a : Acted) → turns s (Returns v) ≡ Ok a → IsBack a.turn
returned_back s v a h = subst (λ (x : Acted). IsBack x.turn) (same (record { state = s; turn = Returns v }) a h) tt
  where
    same : (x y : Acted) → ◌≡◌ {A = Outcome Acted} (Ok x) (Ok y) → x ≡ y
    same x y e = cc

-- a statement that does not return is no return
not_return : (unit : CheckedUnit) (terms : Terms) (f : CheckedFn) (s : State) (x : S.CheckedStmt-F CheckedStmt) (a : Acted)
    → acts [] f s x ≡ Ok a → (IsBack a.turn → ⊥)
    → is_return unit terms x ≡ false
unfolding acts
not_return unit terms f s (S.Return line e checks) a h n =
    let v = bind_ok (optional_argument [] f s e) (λ v. tests [] f s checks >>= λ _. turns s (Returns v)) a h in
    let u = bind_ok (tests [] f s checks) (λ _. turns s (Returns v.0)) a v.2 in
    absurd (n (returned_back s v.0 a u.2))
not_return unit terms f s (S.Empty line) a h n = refl
not_return unit terms f s (S.Assign line slot scalar e checks) a h n = refl
not_return unit terms f s (S.AssignAutomatic line slot hidden e checks) a h n = refl
not_return unit terms f s (S.Store line scalar place e checks) a h n = refl
not_return unit terms f s (S.Zero line place size) a h n = refl
not_return unit terms f s (S.Call line t function values checks) a h n = refl
not_return unit terms f s (S.Kernel line t name values pointer function elem size) a h n = refl
not_return unit terms f s (S.If line test first second) a h n = refl
not_return unit terms f s (S.While line test body) a h n = refl

result_seen : (t : Table) (h : Function) → (signature_of t h).result ≡ result_of t h.head
unfolding signature_of
result_seen t h = refl

module _ (u : TextUnit) (t : Table) (c : CheckedUnit) (types : HasTypes t) (short : IsShortUnit u) (laid : layout u ≡ Ok t) where
  abbrev pub fs : List Function
  fs = functions_of u.items

  abbrev names : List ℤ → ℕ → ℤ
  names vs k = slice_index_or vs k (pos 0)

  abbrev pub GoodSlots : List Block → ℕ → List ℤ → Type 0
  GoodSlots w k ls = HasGoodSlots u t w k ls

  abbrev pub GoodResult : List Block → ℕ → Option ℤ → Type 0
  GoodResult w k v = HasGoodResult u t w k v

  abbrev pub TakesAnswer : ℕ → CheckedStmt → KernelCall → Type 0
  TakesAnswer k s call = TakesEachAnswer u t k s call

  abbrev pub terms : Terms
  terms = terms_of u t

  abbrev pub home : Returned → Home
  home r = record { functions = map (signature_of t) fs; result = r }

  -- a function, as it was checked
  pub record IsChecked (k : ℕ) (g : Function) (f : CheckedFn) : Type 0 where
    pub at : slice_get fs k ≡ Some g
    pub there : Contains u.items (item.Function g)
    pub stands : Stands t g
    pub result : Returned
    pub result_is : result_of t g.head ≡ Some result
    pub made : slice_get c.functions k ≡ Some f
    pub scalar : f.result ≡ result_scalar result
    pub slots : f.slots ≡ shapes_of (slot_shapes t g)
    pub numbers : Numbered
    pub derived : in_turn (map (check_statement (context_of t g) (home result)) g.body) [] no_checks ≡ Ok (f.body, numbers)
    pub stand : StandIn f numbers

  module _ (all : (n : ℕ) (g : Function) → slice_get fs n ≡ Some g
      → (f : CheckedFn) × IsChecked n g f) (k : ℕ) (g : Function) (f : CheckedFn) (is : IsChecked k g f) where
    abbrev here : ℕ → Numbered → Context
    here line n = statement_context (context_of t g) line n

    -- ---- good states, by the function's slots
    good_at : (line : ℕ) (n : Numbered) (w : List Block) (st : State) → GoodSlots w k st.locals → IsMemory t w st.memory
        → IsGood (here line n) w st
    good_at line n w st slots memory = record {
      frame = frame_moved t (locals_of g) (slot_shapes t g) 0 0 line (length n.checks) w w
          (λ x y. y) st.locals st.memory st.memory (slots g is.at st.memory);
      memory = memory;
    }

    slots_back : (line : ℕ) (n : Numbered) (w : List Block) (st : State) → IsFrame (here line n) w st → GoodSlots w k st.locals
    slots_back line n w st frame h e m =
        subst (λ (x : Function). IsFrame (context_of t x) w (record { locals = st.locals; memory = m })) (some_same g h (sym is.at ∙ e))
        (frame_moved t (locals_of g) (slot_shapes t g) line (length n.checks) 0 0 w w (λ x y. y) st.locals st.memory m frame)

    abbrev hasSlots : (line : ℕ) (n : Numbered) → HasSlots (here line n)
    hasSlots line n = slots_stand t g is.stands line (length n.checks)

    within : (line : ℕ) (n : Numbered) → IsContext (here line n)
    within line n = statement_within u t g line n short laid is.there is.stands

    -- what a statement does and where it turns, but into no part of it
    abbrev Done : List Block → State → CheckedStmt → Type 0
    Done w st s = Safe (acts [] f st (out-CheckedStmt s)) (λ a. LeavesGood c terms w k s a × NotInto a.turn)

    module _ (line : ℕ) (n : Numbered) (w : List Block) (st : State) (slots : GoodSlots w k st.locals)
        (memory : IsMemory t w st.memory) where
      abbrev ctx : Context
      ctx = here line n

      pub good : IsGood ctx w st
      good = good_at line n w st slots memory

      goes_on : (s : CheckedStmt) (a : Acted) (turn : Turn) → acts [] f st (out-CheckedStmt s) ≡ Ok a → a.turn ≡ turn → (IsBack turn → ⊥)
          → is_return c terms (out-CheckedStmt s) ≡ false
      goes_on s a turn e same never = not_return c terms f st (out-CheckedStmt s) a e (λ b. never (subst IsBack same b))

      on : (s : CheckedStmt) → Leaves f ctx w st good types (hasSlots line n) s → Done w st s
      on s safe = safe_weaker (acts [] f st (out-CheckedStmt s)) _ _ safe (λ a e p. (
        record {
          slots = slots_back line n w a.state (p.0).frame;
          memory = (p.0).memory;
          turn = subst (IsTurn c terms w k s) (sym p.1) (goes_on s a On e p.1 (λ b. b));
        },
        subst NotInto (sym p.1) tt,
      ))

      -- a statement after which the state is the same
      same_state : (s : CheckedStmt) (a : Acted) → a.state ≡ st → IsTurn c terms w k s a.turn → LeavesGood c terms w k s a
      same_state s a e turn = record {
        slots = subst (λ (x : State). GoodSlots w k x.locals) (sym e) slots;
        memory = subst (λ (x : State). IsMemory t w x.memory) (sym e) memory;
        turn = turn;
      }

      asking : (elem : ℕ) (s : CheckedStmt) → IsAsking f ctx w st good types (hasSlots line n) (signatures_of u t) elem s → Done w st s
      asking elem s h = safe_weaker (acts [] f st (out-CheckedStmt s)) _ _ h.asks (λ a e p. (
        same_state s a p.0 (subst (IsTurn c terms w k s) (sym p.2) (goes_on s a (Asks p.1) e p.2 (λ b. b), (takes p.1 p.3, p.4))),
        subst NotInto (sym p.2) tt,
      ))
        where
          takes : (call : KernelCall) → call.elem ≡ elem → TakesAnswer k s call
          takes call same v ls m r good_slots good_memory answers =
              slots_back line n v (record { locals = answer_set ls (target_of (out-CheckedStmt s)) r; memory = m })
              (answer_taken f ctx v (record {
                locals = ls;
                memory = m;
              }) (good_at line n v (record { locals = ls; memory = m }) good_slots good_memory) types (hasSlots line n) elem
              (target_of (out-CheckedStmt s)) h.target r (subst (λ (i : ℕ). Answers v i r) same answers)).frame

      abbrev Begins : {A : Type 0} → Deriving A → (A → Type 0) → Type 0
      Begins p R = From f ctx w st good types (hasSlots line n) p R

      begins_weaker : {A : Type 0} (p : Deriving A) (Q R : A → Type 0) → ((a : A) → Q a → R a) → Begins p Q → Begins p R
      begins_weaker p Q R m b a q e tested = m a (b a q e tested)

      -- ---- calls of functions
      called : (number : ℕ) (sig : Signature) (x : Option (List ℕ)) (es : List Expr) → slice_get (map (signature_of t) fs) number ≡ Some sig
          → All IsShortExpr es
          → Begins (call_function ctx number sig x es) (Done w st)
      called number sig x es at shorts =
          let m = some_map (slice_get fs number) (signature_of t) sig (sym (slice_get-map (signature_of t) fs number) ∙ at) in
          let there = all number m.0 m.1 in
          let params : sig.params
          ≡ parameter_shapes t m.0.head.params = ap (λ (y : Signature). y.params) (sym m.2) ∙ seen t m.0 there.1.stands 0 0 in
          let result : sig.result
          ≡ Some there.1.result = ap (λ (y : Signature). y.result) (sym m.2) ∙ (result_seen t m.0 ∙ there.1.result_is) in
          let has : HasParameters t sig.params = subst (HasParameters t) (sym params) (has_parameters t m.0 there.1.stands 0 0) in
          let words = short_have es shorts in
          begins_weaker (call_function ctx number sig x es) _ (Done w st) (λ s both.
          safe_weaker (acts [] f st (out-CheckedStmt s)) _ _ both.0 (λ a e p. (
            same_state s a p.0 (subst (IsTurn c terms w k s) (sym p.2) (
              goes_on s a (Calls number p.1) e p.2 (λ b. b),
              record {
                callee = there.0;
                callee_is = there.1.made;
                passed = λ h found. subst
                    (λ (y : Function). TakeEach t w (names p.1) (parameter_shapes t y.head.params) p.1) (some_same m.0 h (sym m.1 ∙ found))
                    (subst (λ ss. TakeEach t w (names p.1) ss p.1) params p.3);
                takes = λ v later r good_slots good_memory gives.
                    taken number m.0 there.0 there.1 x s both.1.0 (ap
                    (λ o. call_target ctx o x) (sym result) ∙ both.1.1) both.1.2 v later r good_slots good_memory
                    (gives m.0 m.1 there.1.result there.1.result_is);
              },
            )),
            subst NotInto (sym p.2) tt,
          )))
          (from_sound f ctx w st good types (hasSlots line n) (call_function ctx number sig x es) _
          (both_sound f st (length n.checks) (call_function ctx number sig x es) _ _
          (call_function_sound f ctx w st good types (hasSlots line n) number sig has x es words)
          (call_target_kept f ctx w st good types (hasSlots line n) number sig has x es words)))
        where
          taken : (number : ℕ) (h : Function) (callee : CheckedFn) (made : IsChecked number h callee) (x : Option (List ℕ))
              (s : CheckedStmt) (to : Option Target)
              → call_target ctx (Some made.result) x ≡ Some to → target_of (out-CheckedStmt s) ≡ to
              → (v : List Block) (later : State) (r : Option ℤ)
              → GoodSlots v k later.locals → IsMemory t v later.memory → (at : ℕ → ℤ) × GivesBack t v at made.result r
              → Safe (with_returned callee.result later (target_of (out-CheckedStmt s)) r) (λ y. GoodSlots v k y.locals)
          taken number h callee made x s to found same v later r good_slots good_memory gives =
              subst (λ (o : Option Target). Safe (with_returned callee.result later o r) (λ y. GoodSlots v k y.locals)) (sym same)
              (subst (λ z. Safe (with_returned z later to r) (λ y. GoodSlots v k y.locals)) (sym made.scalar)
              (safe_weaker (with_returned (result_scalar made.result) later to r) _ _
              (each_result_is_taken f ctx made.result x to
              (record {
                types = types;
                slots = hasSlots line n;
                constant = (result_declared t h.head made.result made.result_is).1;
                derived = found;
              }) v later
              (good_at line n v later good_slots good_memory) gives.0 r gives.1) (λ y e p. slots_back line n v y p.frame)))

      -- ---- each action
      assigned : (l e : Expr) → IsShortExpr l → IsShortExpr e → Begins (assign ctx l e) (Done w st)
      unfolding assign
      assigned l e sl se =
          let light : IsLight ctx e = short_light ctx (within line n) e se in
          begins_weaker (assign ctx l e) (Leaves f ctx w st good types (hasSlots line n)) (Done w st) (λ s p. on s p)
          (from_derive f ctx w st good types (hasSlots line n) e
          (λ x. bind (derive ctx l) (assign_to ctx x)) (Leaves f ctx w st good types (hasSlots line n)) light.words (λ d asked derived.
          then_sound f st (length n.checks) (derive ctx l) (assign_to ctx d) (IsDerived f ctx w st) _
          (derive_sound f ctx w st good types (hasSlots line n) l (short_words l sl)) (λ y.
          weaker f st (length n.checks) _ _ _
          (λ s q dy dx. q (light.hands d asked derived) dx dy) (assign_to_sound f ctx w st good types (hasSlots line n) d y))))

      zeroed : (l : Expr) → IsShortExpr l → Begins (zero ctx l) (Done w st)
      unfolding zero
      zeroed l sl =
          begins_weaker (zero ctx l) (Leaves f ctx w st good types (hasSlots line n)) (Done w st) (λ s p. on s p)
          (from_sound f ctx w st good types (hasSlots line n) _ _
          (then_sound f st (length n.checks) (derive ctx l) (zero_of ctx) (IsDerived f ctx w st) _
          (derive_sound f ctx w st good types (hasSlots line n) l (short_words l sl))
          (zero_of_sound f ctx w st good types (hasSlots line n))))

      returned : (e : Option Expr) → HasWords e → Begins (return_from ctx is.result e) (Done w st)
      returned e words =
          begins_weaker (return_from ctx is.result e) _ (Done w st) (λ s safe.
          safe_weaker (acts [] f st (out-CheckedStmt s)) _ _ safe (λ a q p. (
            same_state s a p.0 (subst (IsTurn c terms w k s) (sym p.2) (gives p.1 p.3)),
            subst NotInto (sym p.2) tt,
          )))
          (from_sound f ctx w st good types (hasSlots line n) _ _
          (return_from_sound f ctx w st good types (hasSlots line n) is.result e words (result_declared t g.head is.result is.result_is).0))
        where
          gives : (v : Option ℤ) → GivesBack t w (local_at st) is.result v → GoodResult w k v
          gives v p h found r result =
              let same : g ≡ h = some_same g h (sym is.at ∙ found) in
              let which : is.result
              ≡ r = some_same is.result r (sym is.result_is ∙ (ap (λ (y : Function). result_of t y.head) same ∙ result)) in
              (local_at st, subst (λ (y : Returned). GivesBack t w (local_at st) y v) which p)

      -- a call by its name
      named_by : (o : Option KernelName) (x : Option (List ℕ)) (name : List ℕ) (es : List Expr) → All IsShortExpr es
          → Begins (call_by ctx (home is.result).functions o name x es) (Done w st)
      unfolding call_named call_numbered
      named_by (Some kernel) x name es shorts =
          begins_weaker (call_kernel ctx (home is.result).functions kernel x es) _ (Done w st) (λ s p. asking 0 s p)
          (call_kernel_asks f ctx w st good types (hasSlots line n) (home is.result).functions kernel x es
          (short_lights ctx (within line n) es shorts))
      named_by None x name es shorts =
          from_known f ctx w st good types (hasSlots line n) (function_number (home is.result).functions name) _ (Done w st)
          (λ number found.
          from_known f ctx w st good types (hasSlots line n) (slice_get (home is.result).functions number) _ (Done w st)
          (λ sig at. called number sig x es at shorts))

      allocated : (x : List ℕ) (y : TypeName) (e : Expr) → IsShortExpr e → Begins (kalloc ctx x y e) (Done w st)
      allocated x y e se =
          begins_weaker (kalloc ctx x y e) _ (Done w st)
          (λ s p. asking p.0 s p.1) (kalloc_asks f ctx w st good types (hasSlots line n) (signatures_of u t) x y e (short_words e se))

      freed : (e : Expr) → IsShortExpr e → Begins (kfree ctx e) (Done w st)
      freed e se =
          begins_weaker (kfree ctx e) _ (Done w st)
          (λ s p. asking 0 s p)
          (kfree_asks f ctx w st good types (hasSlots line n) (signatures_of u t) e (short_light ctx (within line n) e se))

      nothing_done : Done w st (statement.Empty line)
      unfolding acts
      nothing_done = safe_same _ _ _ (ap (acts [] f st) (statement.outs-Empty line)) (
        record { slots = slots; memory = memory; turn = ap (λ x. is_return c terms x) (statement.outs-Empty line) },
        tt,
      )

      short_value : (e : Option Expr) → HasShort (action.Return e) → HasWords e
      short_value None se = tt
      short_value (Some e) se = short_words e se

      -- each action
      pub action_done : (a : Action) → HasShort a → Begins (act ctx (home is.result) a) (Done w st)
      unfolding act call
      action_done (action.Assign l e) se = assigned l e se.0 se.1
      action_done (action.Call x name es) se = named_by (kernel_named name) x name es se
      action_done (action.Kalloc x y e) se = allocated x y e se
      action_done (action.Kfree e) se = freed e se
      action_done (action.Zero l) se = zeroed l se
      action_done (action.Return e) se = returned e (short_value e se)
      action_done action.Empty se = from_sound f ctx w st good types (hasSlots line n) _ _
          (pure_sound f st (length n.checks) (statement.Empty line) (Done w st) nothing_done)

      -- a condition
      tested : (v : Value) (x : CheckedExpr) → test_form v ≡ Some x → IsValue f ctx w st v → Safe (eval [] f st x) (λ z. Unit {0})
      tested (value.Int y) x e p = subst (λ (z : CheckedExpr). Safe (eval [] f st z)
          (λ z. Unit {0})) (some_same y.form x e) (safe_weaker (eval [] f st y.form) _ _ p.1 (λ z q r. tt))
      tested (value.Pointer y) x e p = subst (λ (z : CheckedExpr). Safe (eval [] f st z)
          (λ z. Unit {0})) (some_same y.form x e) (safe_weaker (eval [] f st y.form) _ _ p (λ z q r. tt))
      tested value.Null x e p = absurd cc

      pub condition_done : (e : Expr) → IsShortExpr e → Begins (controlling ctx e) (λ x. Safe (eval [] f st x) (λ z. Unit {0}))
      unfolding controlling
      condition_done e se =
          from_sound f ctx w st good types (hasSlots line n) _ _
          (then_sound f st (length n.checks) _ _ (IsDerived f ctx w st) _
          (derive_sound f ctx w st good types (hasSlots line n) e (short_words e se)) (λ d.
          weaker f st (length n.checks) _ _ _
          (λ x q known. by d x q known) (lift_sound f st (length n.checks) (and_then (value_of ctx d) test_form)
          (λ x. and_then (value_of ctx d) test_form ≡ Some x) (λ x q. q))))
        where
          by : (d : Derived) (x : CheckedExpr) → and_then (value_of ctx d) test_form ≡ Some x → IsDerived f ctx w st d
              → Safe (eval [] f st x) (λ z. Unit {0})
          by d x q known =
              let v = some_then (value_of ctx d) test_form x q in
              tested v.0 x v.2 (value_sound f ctx w st good types (hasSlots line n) d v.0 v.1 known)

    -- ---- simple statements and conditions of the function
    abbrev IsHere : List Block → State → Type 0
    IsHere w st = GoodSlots w k st.locals × IsMemory t w st.memory

    at_ok : (r : Outcome Acted) (P : Acted → Type 0) (a : Acted) → Safe r P → r ≡ Ok a → P a
    at_ok r P a safe e = by (subst (λ (x : Outcome Acted). Safe x P) e safe)
      where
        by : P a → P a
        by p = p

    into_not : (turn : Turn) (b : Bool) → NotInto turn → turn ≡ Into b → ⊥
    into_not turn b n e = subst NotInto e n

    pub simple_runs : (s : Simple) → HasShort s.action → SoundAt f (simple (context_of t g) (home is.result) s) (Runs c terms k f)
    unfolding simple
    simple_runs s se =
        weaker_at f _ _ _ (λ x each. runs
        (λ w st slots memory. safe_weaker (acts [] f st (out-CheckedStmt x)) _ _ (each w st (slots, memory)) (λ a e p. p.0))
        (λ w st slots memory a b e turn i y h. absurd (into_not a.turn b (at_ok (acts [] f st (out-CheckedStmt x))
        (λ a. LeavesGood c terms w k x a × NotInto a.turn) a (each w st (slots, memory)) e).1 turn)))
        (line_at f (context_of t g) s.line (λ x. act x (home is.result) s.action) IsHere (λ w st x. Done w st x)
        (λ w st n p x q derived all_tested. action_done s.line n w st p.0 p.1 s.action se x q derived all_tested))

    pub condition_runs : (line : ℕ) (e : Expr) → IsShortExpr e
        → SoundAt f (condition (context_of t g) line e) (IsTest c terms k f (context_of t g) (home is.result))
    unfolding condition
    condition_runs line e se =
        weaker_at f _ _ _ (λ x each w st slots memory. each w st (slots, memory))
        (line_at f (context_of t g) line (λ x. controlling x e) IsHere (λ w st x. Safe (eval [] f st x) (λ z. Unit {0}))
        (λ w st n p x q derived all_tested. condition_done line n w st p.0 p.1 e se x q derived all_tested))
