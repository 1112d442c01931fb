use Rattle.std.proofs.Common.{sym, subst, ◌∙◌, ap, w32}
use Rattle.std.proofs.lemmas.Int.{to_z-of_z}
use Rattle.std.specs.Prelude.{slice_get}
use Rattle.sd_base.specs.History.{live_of}
use Rattle.sd_base.specs.Allowed.{IsLawful}
use Rattle.kernel_tables.specs.declared.kernel.Kernel.{Kernel}
use Rattle.claim_table.specs.ClaimPart.{HoldsClaims, holders_of}
use Rattle.driver_host.proofs.host.Host.holder.Goals as goal

pub returns : goal.returns
returns c = record {
  to = λ share h m d is. c.holder.ensures.reads h
      (subst (λ n. IsLawful n h) (sym (ap (λ (k : Kernel). k.claims.share) c.kernel-tables.ensures ∙ is.holders)) is.lawful) is.proper
      (subst (λ (k : Kernel). HoldsClaims k.claims (live_of h)) (sym c.kernel-tables.ensures) is.tables.kernel.tables.claims)
      ∙ ap (λ z. slice_get (holders_of h z) c.args.place) (to_z-of_z w32 c.args.line c.ranges.line);
}
