use Rattle.std.proofs.Common.{◌≡◌, ◌+◌, ◌-◌, ◌/◌, Some, sym, ◌∙◌, subst, drop, arith}
use Rattle.std.proofs.lemmas.Int.{to_z-of_z}
use Rattle.std.proofs.lemmas.Option.{slice_get_within}
use Rattle.std.specs.Prelude.{slice_get}
use mir.Syntax.{w32}
use mir.Val.{SFits, of_z, to_z}
use Rattle.timer_table.specs.Table.{place_in}
use Rattle.timer_table.proofs.Ordered.{place_in-take, place_in-drop, place_in-parts}
use Rattle.timer_table.proofs.places.place_of.Goals as goal

pub loop-low-preserved-then-comes_before : goal.loop-low-preserved-then-comes_before
loop-low-preserved-then-comes_before c =
    let middle = c.loop-low.low + (c.loop-low.high - c.loop-low.low) / 2 in
    let at : slice_get c.args.rows.now middle ≡ Some c.in-Some.row = sym c.get.ensures ∙ c.in-Some.is in
    record {
      ordered = omega arith;
      within = c.loop-low.invariant.within;
      before = place_in-take c.args.owner (to_z w32 (of_z w32 c.args.id)) c.args.rows.now middle c.in-Some.row c.requires at (sym c.comes_before.ensures ∙ c.if-comes_before.true);
      after = c.loop-low.invariant.after;
    }

pub loop-low-preserved : goal.loop-low-preserved
loop-low-preserved c =
    let middle = c.loop-low.low + (c.loop-low.high - c.loop-low.low) / 2 in
    let at : slice_get c.args.rows.now middle ≡ Some c.in-Some.row = sym c.get.ensures ∙ c.in-Some.is in
    let within = slice_get_within c.args.rows.now middle c.in-Some.row at in
    record {
      ordered = omega arith;
      within = omega arith;
      before = c.loop-low.invariant.before;
      after = place_in-drop c.args.owner (to_z w32 (of_z w32 c.args.id)) c.args.rows.now middle c.in-Some.row c.requires at (sym c.comes_before.ensures ∙ c.if-comes_before.false);
    }

pub returns : goal.returns
returns c =
    let fits : SFits w32 c.args.id = c.ranges.id in
    let met : c.loop-low.high ≡ c.loop-low.low = (let ordered = c.loop-low.invariant.ordered in omega arith) in
    let after : place_in (drop c.loop-low.low c.args.rows.now) c.args.owner (to_z w32 (of_z w32 c.args.id)) ≡ 0 =
    subst (λ n. place_in (drop n c.args.rows.now) c.args.owner (to_z w32 (of_z w32 c.args.id)) ≡ 0) met c.loop-low.invariant.after in
    let whole = place_in-parts c.args.owner (to_z w32 (of_z w32 c.args.id)) c.args.rows.now c.loop-low.low c.loop-low.invariant.before after in
    sym (simp to_z-of_z at whole)
