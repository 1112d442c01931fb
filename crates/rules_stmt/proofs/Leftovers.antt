-- Where there are more parameters than arguments, no rule derives the call.
use Rattle.std.proofs.Common.{◌≡◌, ℕ, ◌≤◌, List, [], ◌∷◌, length, drop, Option, None, ap, sym, ◌∙◌, arith}
use Rattle.std.proofs.lemmas.List.{drop_all}
use Rattle.c_tree.specs.declared.expressions.Expr.{Expr}
use Rattle.checked_tree.specs.declared.shapes.Shape.{Shape}
use Rattle.deputy_rules.specs.declared.asked.Asked.{Asked}
use Rattle.deputy_rules.specs.declared.handed.Passed.{Passed}
use Rattle.checked_tree.specs.declared.kernel_table.ParameterKind.{ParameterKind}
use Rattle.deputy_rules.specs.declared.kernel_arguments.KernelArguments.{KernelArguments}
use Rattle.deputy_rules.specs.declared.signature.Signature.{Signature}
use Rattle.deputy_rules.specs.Calls.{pass_each, kernel_arguments}
use Rattle.deputy_rules.specs.Context.{Context}

pub parameters_left : (ctx : Context) (rest : List (Option Shape)) (args : List Expr) (i : ℕ) (done : List Passed) (asked : List Asked) (o : Option (List Passed × List Asked))
    → length args ≤ i → 1 ≤ length rest → pass_each ctx rest (drop i args) done asked ≡ o → o ≡ None
parameters_left ctx [] args i done asked o past some same = absurd (omega (arith, some))
parameters_left ctx (s ∷ ss) args i done asked o past some same = sym same ∙ ap (λ (l : List Expr). pass_each ctx (s ∷ ss) l done asked) (drop_all i args past)

pub kinds_left : (ctx : Context) (functions : List Signature) (rest : List ParameterKind) (args : List Expr) (i : ℕ) (given : KernelArguments) (asked : List Asked) (o : Option (KernelArguments × List Asked))
    → length args ≤ i → 1 ≤ length rest → kernel_arguments ctx functions rest (drop i args) given asked ≡ o → o ≡ None
kinds_left ctx functions [] args i given asked o past some same = absurd (omega (arith, some))
kinds_left ctx functions (k ∷ ks) args i given asked o past some same = sym same ∙ ap (λ (l : List Expr). kernel_arguments ctx functions (k ∷ ks) l given asked) (drop_all i args past)
