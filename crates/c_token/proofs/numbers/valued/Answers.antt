use Rattle.std.proofs.Common.{◌^◌, ◌<◌, ◌≤◌, length, sym, ap, ◌∙◌, subst, arith}
use Rattle.c_tree.specs.Numbers.{is_digit_of, HasDigits, suffix_of}
use Rattle.c_token.specs.Scans.{scanned_value}
use Rattle.c_token.proofs.NumberLaws.{scanned, no_digits-none, no_suffix-none, too_great-none}
use Rattle.c_token.proofs.Pieces.{length-rest}
use Rattle.c_token.proofs.numbers.valued.Goals as goal

pub returns-then-scanned-text-clause-none : goal.returns-then-scanned-text-clause-none
returns-then-scanned-text-clause-none c =
    λ _ n x h _. no_digits-none c.args.radix n c.args.text.now x (sym (ap length c.digits-scanned.ensures.rest) ∙ c.if-scanned-text.true) h

pub returns-then-scanned-ge-END-clause-none : goal.returns-then-scanned-ge-END-clause-none
returns-then-scanned-ge-END-clause-none c =
    λ _ n x h small. too_great-none c.args.radix n c.args.text.now x c.requires.low (subst (λ v. 2 ^ 32 ≤ v) c.digits-scanned.ensures.value c.if-scanned-ge-END.true) h small

pub returns-in_default-clause-none : goal.returns-in_default-clause-none
returns-in_default-clause-none c =
    λ _ n x h _. no_suffix-none c.args.radix n c.args.text.now x (sym (c.in_default.ensures ∙ ap suffix_of c.digits-scanned.ensures.rest)) h

pub returns-clause-found : goal.returns-clause-found
returns-clause-found c =
    let r = c.args.radix in
    let t = c.args.text.now in
    let l = length-rest (is_digit_of r) t in
    let e = ap length c.digits-scanned.ensures.rest in
    let ne = c.if-scanned-text.false in
    let small : scanned_value r 0 t < 2 ^ 32 = subst (λ v. v < 2 ^ 32) c.digits-scanned.ensures.value c.if-scanned-ge-END.false in
    subst (λ v. HasDigits r t v c.in-Some.suffix) (sym c.digits-scanned.ensures.value)
    (scanned r t c.in-Some.suffix c.requires.low (omega arith) (sym (c.in-Some.ensures ∙ ap suffix_of c.digits-scanned.ensures.rest)) small)
