-- What a statement makes of what is known, by its form.
use Rattle.std.proofs.Common.{◌≡◌, ℕ, ◌+◌, List, [], ◌∷◌, Option, ap, ◌∙◌}
use Rattle.checked_tree.specs.declared.shapes.Scalar.{Scalar}
use Rattle.checked_tree.specs.declared.shapes.Shape.{Shape}
use Rattle.checked_tree.specs.declared.kernel.KernelName.{KernelName}
use Rattle.checked_tree.specs.declared.expressions.CheckedExpr.{CheckedExpr}
use Rattle.checked_tree.specs.declared.statements.Argument.{Argument}
use Rattle.checked_tree.specs.declared.statements.PointerOperand.{PointerOperand}
use Rattle.checked_tree.specs.declared.statements.Target.{Target}
use Rattle.checked_tree.specs.declared.statements.CheckedStmt.{CheckedStmt, map-CheckedStmt}
use Rattle.checked_tree.specs.declared.statements.CheckedStmt.TheOpen as S
use Rattle.checked_tree.specs.declared.statements.CheckedStmt.TheVariants as V
use Rattle.checked_tree.specs.declared.statements.CheckedStmt.TheFolds.{fold_out-CheckedStmt}
use Rattle.checked_tree.specs.Flow.{target_slots}
use Rattle.check_elim.specs.Direct.{Ops, Passing, reading, passing, passings, pass_level, simple, idle, and_then, tests, assigns, leaves, value_act, arguments_act, operand_act, argument_act, if_passing, while_passing}

module _ {A M : Type 0} (ops : Ops A M) (slots : List Shape) where
  pub at_level : (st : CheckedStmt) (z : S.CheckedStmt-F CheckedStmt) → Rattle.checked_tree.specs.declared.statements.CheckedStmt.out-CheckedStmt st ≡ z → passing ops slots st ≡ pass_level ops slots (map-CheckedStmt CheckedStmt (Passing A M) (passing ops slots) z)
  unfolding passing
  at_level st z is = fold_out-CheckedStmt (Passing A M) (pass_level ops slots) st ∙ ap (λ l. pass_level ops slots (map-CheckedStmt CheckedStmt (Passing A M) (passing ops slots) l)) is

  pub empty_form : (line : ℕ) → passing ops slots (V.Empty line) ≡ simple idle
  empty_form line = at_level (V.Empty line) (S.Empty line) (V.outs-Empty line)

  pub assign_form : (line slot : ℕ) (scalar : Scalar) (value : CheckedExpr) (checks : List ℕ)
      → passing ops slots (V.Assign line slot scalar value checks) ≡ simple (and_then (value_act ops slots value) (and_then (tests ops checks) (assigns ops (slot ∷ []))))
  assign_form line slot scalar value checks = at_level (V.Assign line slot scalar value checks) (S.Assign line slot scalar value checks) (V.outs-Assign line slot scalar value checks)

  pub automatic_form : (line slot hidden : ℕ) (value : PointerOperand) (checks : List ℕ)
      → passing ops slots (V.AssignAutomatic line slot hidden value checks) ≡ simple (and_then (value_act ops slots value.value) (and_then (tests ops checks) (assigns ops (slot ∷ (hidden ∷ ((hidden + 1) ∷ []))))))
  automatic_form line slot hidden value checks = at_level (V.AssignAutomatic line slot hidden value checks) (S.AssignAutomatic line slot hidden value checks) (V.outs-AssignAutomatic line slot hidden value checks)

  pub store_form : (line : ℕ) (scalar : Scalar) (place value : CheckedExpr) (checks : List ℕ)
      → passing ops slots (V.Store line scalar place value checks) ≡ simple (and_then (value_act ops slots value) (and_then (value_act ops slots place) (tests ops checks)))
  store_form line scalar place value checks = at_level (V.Store line scalar place value checks) (S.Store line scalar place value checks) (V.outs-Store line scalar place value checks)

  pub zero_form : (line : ℕ) (place : CheckedExpr) (size : ℕ) → passing ops slots (V.Zero line place size) ≡ simple (value_act ops slots place)
  zero_form line place size = at_level (V.Zero line place size) (S.Zero line place size) (V.outs-Zero line place size)

  pub call_form : (line : ℕ) (target : Option Target) (function : ℕ) (values : List Argument) (checks : List ℕ)
      → passing ops slots (V.Call line target function values checks) ≡ simple (and_then (arguments_act ops slots values) (and_then (tests ops checks) (assigns ops (target_slots target))))
  call_form line target function values checks = at_level (V.Call line target function values checks) (S.Call line target function values checks) (V.outs-Call line target function values checks)

  pub kernel_form : (line : ℕ) (target : Option Target) (name : KernelName) (values : List Argument) (pointer : Option PointerOperand) (function elem size : ℕ)
      → passing ops slots (V.Kernel line target name values pointer function elem size) ≡ simple (and_then (arguments_act ops slots values) (and_then (operand_act ops slots pointer) (assigns ops (target_slots target))))
  kernel_form line target name values pointer function elem size =
      at_level (V.Kernel line target name values pointer function elem size) (S.Kernel line target name values pointer function elem size) (V.outs-Kernel line target name values pointer function elem size)

  pub return_form : (line : ℕ) (value : Option Argument) (checks : List ℕ) → passing ops slots (V.Return line value checks) ≡ simple (and_then (argument_act ops slots value) (and_then (tests ops checks) (leaves ops)))
  return_form line value checks = at_level (V.Return line value checks) (S.Return line value checks) (V.outs-Return line value checks)

  pub if_form : (line : ℕ) (e : CheckedExpr) (a b : List CheckedStmt) → passing ops slots (V.If line e a b) ≡ if_passing ops (reading ops slots e) (passings ops slots a) (passings ops slots b)
  if_form line e a b = at_level (V.If line e a b) (S.If line e a b) (V.outs-If line e a b)

  pub while_form : (line : ℕ) (e : CheckedExpr) (b : List CheckedStmt) → passing ops slots (V.While line e b) ≡ while_passing ops (reading ops slots e) (passings ops slots b)
  while_form line e b = at_level (V.While line e b) (S.While line e b) (V.outs-While line e b)
