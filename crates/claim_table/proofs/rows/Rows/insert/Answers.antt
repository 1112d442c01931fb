-- The binary search finds the place behind all claims with the number or a smaller one; there is room, so the vector takes the claim.
use Rattle.std.proofs.Common.{◌≡◌, ◌<◌, ℕ, rules, leb, sym, ap, ◌∙◌, subst, insert, length, is_ok, arith, IsTrue, Bool, true, false, List, vec_capacity, vec_len, if◌then◌else◌}
use Rattle.std.specs.List.Sorted.{IsNonDecreasingBy, IsPartitionedBy}
use Rattle.std.proofs.lemmas.List.Sorted.{IsPartitionPoint-from_clause, IsPartitionedBy-leb}
use Rattle.claim_table.specs.declared.claim.Claim.{Claim}
use Rattle.claim_table.specs.Ordered.{IsOrdered, insert_claim}
use Rattle.claim_table.proofs.InOrder.{IsOrdered-rises, IsOrdered-insert, insert_at_point}
use Rattle.claim_table.proofs.rows.Rows.insert.Given.{Over}
use Rattle.claim_table.proofs.rows.Rows.insert.Goals as goal

-- a vector with room took what was put in
taken : {X : Type 0} (b : Bool) (new with_it without : List X) → IsTrue b → new ≡ (if b then with_it else without) → new ≡ with_it
taken true new with_it without h e = e
taken false new with_it without h e = search rules

-- what the vector holds afterwards
put : (g : Over) (c : goal.After-insert g) → c.insert.new.self.items ≡ insert_claim c.args.claim c.self.inside.claims.items
put g c =
    let items : List (Claim g.row.D.Denot) = c.self.inside.claims.items in
    let number : ℕ = c.args.claim.number in
    let same : c.as_slice.result.now ≡ items = c.as_slice.ensures.value in
    let rises : IsNonDecreasingBy (λ (y : Claim g.row.D.Denot). y.number) c.as_slice.result.now =
    subst (IsNonDecreasingBy (λ (y : Claim g.row.D.Denot). y.number)) (sym same) (IsOrdered-rises items c.self.invariant.1) in
    let parted : IsPartitionedBy (λ (y : Claim g.row.D.Denot). leb y.number number) c.as_slice.result.now =
    IsPartitionedBy-leb (λ (y : Claim g.row.D.Denot). y.number) c.as_slice.result.now number rises in
    let point = IsPartitionPoint-from_clause (λ (y : Claim g.row.D.Denot). leb y.number number) c.as_slice.result.now c.partition_point-place.result c.partition_point-place.ensures.partitioned parted (λ a r q k. search rules) in
    let at = insert_at_point c.args.claim c.as_slice.result.now c.partition_point-place.result c.partition_point-place.ensures.bound point.0 point.1 in
    let room : vec_len c.self.inside.claims < vec_capacity c.self.inside.claims = omega (arith, c.as_slice.ensures.len, ap length same, ap length c.self.view_is) in
    taken (is_ok c.insert.result) c.insert.new.self.items (insert items c.partition_point-place.result c.args.claim) items (c.insert.ensures.succeeds room) c.insert.ensures.items
    ∙ ap (λ xs. insert xs c.partition_point-place.result c.args.claim) (sym same) ∙ at ∙ ap (insert_claim c.args.claim) same

pub invariant_of-self : goal.invariant_of-self
invariant_of-self g c = (omega arith, subst (IsOrdered {D = g.row.D.Denot}) (sym (put g c)) (IsOrdered-insert c.args.claim c.self.inside.claims.items c.self.invariant.1))

pub returns : goal.returns
returns g c = put g c ∙ ap (insert_claim c.args.claim) c.self.view_is
