-- What is derived at a line, and then numbered.
use Rattle.std.proofs.Common.{◌≡◌, ◌≢◌, ℕ, List, [], length, Option, Some, None, Result, Ok, Err, sym, ap, ◌∙◌}
use Rattle.deputy_rules.specs.declared.asked.Asked.{Asked}
use Rattle.deputy_rules.specs.declared.derived.DerivingRefusal.{DerivingRefusal}
use Rattle.deputy_rules.specs.declared.derived.DerivingRefusal.TheVariants as inner
use Rattle.deputy_rules.specs.Checking.{Fault, NoRule}
use Rattle.deputy_rules.specs.Context.{Context}
use Rattle.deputy_rules.specs.Deriving.{Deriving}
use Rattle.deputy_rules.specs.Numbering.{Numbered, numbered}
use Rattle.deputy_rules.specs.Statements.{at_line, numbered_at, with_numbers, statement_context}
use Rattle.check_numbering.specs.declared.refusal.RuleRefusal.{RuleRefusal}
use Rattle.check_numbering.specs.declared.refusal.RuleRefusal.TheVariants as rule
use Rattle.check_numbering.specs.Outcome.{fault_in, refused_at}

module _ {A : Type 0} (ctx : Context) (line : ℕ) (p : Context → Deriving A) (b : Numbered) where
  here : (o : Option (A × List Asked)) → p (statement_context ctx line b) [] ≡ o → at_line ctx line p b ≡ numbered_at line b o
  here o found = ap (numbered_at line b) found

  -- what is derived, and has numbers
  pub line_derived : (own : List Asked) (new : Numbered) (a : A) → p (statement_context ctx line b) [] ≡ Some (a, own) → numbered own b ≡ Some new
      → at_line ctx line p b ≡ Ok (a, new)
  line_derived own new a found has = here _ found ∙ ap (with_numbers line a) has

  -- what is derived, and has none
  pub line_unnumbered : (own : List Asked) (a : A) (r : DerivingRefusal) (e : RuleRefusal) → e ≡ refused_at line r → p (statement_context ctx line b) [] ≡ Some (a, own)
      → (r ≢ inner.Memory → numbered own b ≡ None) → e ≢ rule.Memory → at_line ctx line p b ≡ Err (fault_in e)
  line_unnumbered own a inner.NoRule e same found heavy there = here _ found ∙ (ap (with_numbers line a) (heavy (λ q. cc)) ∙ ap (λ x. Err (fault_in x)) (sym same))
  line_unnumbered own a inner.Memory e same found heavy there = absurd (there same)

  -- what no rule derives
  pub line_refused : (r : DerivingRefusal) (e : RuleRefusal) → e ≡ refused_at line r → (r ≢ inner.Memory → p (statement_context ctx line b) [] ≡ None)
      → e ≢ rule.Memory → at_line ctx line p b ≡ Err (fault_in e)
  line_refused inner.NoRule e same none there = here None (none (λ q. cc)) ∙ ap (λ x. Err (fault_in x)) (sym same)
  line_refused inner.Memory e same none there = absurd (there same)
