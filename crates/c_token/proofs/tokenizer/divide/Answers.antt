use Rattle.std.proofs.Common.{◌≡◌, [], ◌∷◌, ◌++◌, length, true, None, sym, ap, ◌∙◌, subst, arith, length-append}
use Rattle.c_tree.specs.Division.{place, token, Reaches, starts, goes, takes_gap}
use Rattle.c_tree.specs.Limits.{run_of, nesting_of, unary_of, strings_of, run_after, nesting_after, unary_after, strings_after, passed}
use Rattle.c_token.specs.Lexemes.{word_of}
use Rattle.c_token.proofs.LoopLaws.{run_of-push, nesting_of-push, unary_of-push, strings_of-push, run_after-small, nesting_after-small, unary_after-small, strings_after-small, IsShorter-word, reaches_word, count_along, passed-along, passes_limit}
use Rattle.c_token.proofs.tokenizer.divide.Goals as goal

pub loop-rest-init : goal.loop-rest-init
loop-rest-init c =
    let e = c.new-words.ensures.items in
    let n = c.new-counts.ensures in
    record {
      reaches = subst (λ ws. Reaches c.args.text.now (place 1 true ws c.args.text.now)) (sym e) starts;
      lines = omega arith;
      words = n.words ∙ ap length (sym e);
      run = n.run ∙ ap run_of (sym e);
      nesting = n.nesting ∙ ap nesting_of (sym e);
      unary = n.unary ∙ ap unary_of (sym e);
      strings = n.strings ∙ ap strings_of (sym e);
      few_run = omega (arith, n.run, n.words);
      few_nesting = omega (arith, n.nesting, n.words);
      few_unary = omega (arith, n.unary, n.words);
      few_strings = omega (arith, n.strings, n.words);
    }

pub loop-rest-preserved-in-Some : goal.loop-rest-preserved-in-Some
loop-rest-preserved-in-Some c =
    let i = c.loop-rest.invariant in
    record {
      reaches = goes i.reaches (takes_gap (sym c.in-Some.ensures.place));
      lines = omega (arith, i.lines, c.in-Some.ensures.lines);
      words = i.words;
      run = i.run;
      nesting = i.nesting;
      unary = i.unary;
      strings = i.strings;
      few_run = i.few_run;
      few_nesting = i.few_nesting;
      few_unary = i.few_unary;
      few_strings = i.few_strings;
    }

pub returns-in-Some-passed-clause-refusal : goal.returns-in-Some-passed-clause-refusal
returns-in-Some-passed-clause-refusal c =
    let i = c.loop-rest.invariant in
    let l = c.in-Some-lexeme_at.lexeme in
    let ws = c.loop-rest.words.items in
    let n = c.loop-rest.counts in
    let k = word_of (strings_of ws) l.kind l.spelling.now in
    passes_limit c.args.text.now c.loop-rest.line c.loop-rest.fresh ws c.loop-rest.rest.now l.rest.now l.kind l.spelling.now c.in-Some-passed.kind
    i.reaches c.in-Some-lexeme_at.ensures.found
    (sym (passed-along ws n.words n.run n.nesting n.unary k i.words i.run i.nesting i.unary) ∙ sym (c.in-Some-passed.ensures (strings_of ws)))

pub loop-rest-smaller : goal.loop-rest-smaller
loop-rest-smaller c = (IsShorter-word (c.in-Some-lexeme_at.ensures.found.longest 0).is).length

pub loop-rest-preserved : goal.loop-rest-preserved
loop-rest-preserved c =
    let i = c.loop-rest.invariant in
    let l = c.in-Some-lexeme_at.lexeme in
    let ws = c.loop-rest.words.items in
    let vs = c.push.new.self.items in
    let n = c.loop-rest.counts in
    let m = c.after-counts.result in
    let after = c.after-counts.ensures in
    let w = word_of n.strings l.kind l.spelling.now in
    let k = c.in_ok-word.word in
    let e : k ≡ w = c.in_ok-word.ensures in
    let line = c.loop-rest.line in
    let s : vs ≡ ws ++ token k line ∷ [] = c.in_ok-push.ensures.items in
    let p : passed ws k ≡ None =
    ap (passed ws) e ∙ sym (passed-along ws n.words n.run n.nesting n.unary w i.words i.run i.nesting i.unary) ∙ sym (c.in_default-passed.ensures n.strings) in
    let shorter = IsShorter-word (c.in-Some-lexeme_at.ensures.found.longest 0).is in
    record {
      reaches = reaches_word c.args.text.now line c.loop-rest.fresh ws vs c.loop-rest.rest.now l.rest.now l.kind l.spelling.now n.strings k i.reaches c.in-Some-lexeme_at.ensures.found i.strings e p s;
      lines = omega (arith, i.lines, shorter.lines);
      words = omega (arith, after.words, i.words, ap length s, length-append ws (token k line ∷ []));
      run = count_along run_of run_after run_of-push n.run m.run ws vs k w line (after.run n.strings l.spelling.now) i.run e s;
      nesting = count_along nesting_of nesting_after nesting_of-push n.nesting m.nesting ws vs k w line (after.nesting n.strings l.spelling.now) i.nesting e s;
      unary = count_along unary_of unary_after unary_of-push n.unary m.unary ws vs k w line (after.unary n.strings l.spelling.now) i.unary e s;
      strings = count_along strings_of strings_after strings_of-push n.strings m.strings ws vs k w line (after.strings n.strings l.spelling.now) i.strings e s;
      few_run = omega (arith, i.few_run, after.words, after.run n.strings l.spelling.now, run_after-small n.run w);
      few_nesting = omega (arith, i.few_nesting, after.words, after.nesting n.strings l.spelling.now, nesting_after-small n.nesting w);
      few_unary = omega (arith, i.few_unary, after.words, after.unary n.strings l.spelling.now, unary_after-small n.unary w);
      few_strings = omega (arith, i.few_strings, after.words, after.strings n.strings l.spelling.now, strings_after-small n.strings w);
    }
