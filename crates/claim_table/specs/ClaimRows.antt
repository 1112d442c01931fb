-- What the table of claims contains.
use Rattle.std.specs.Prelude.{ℕ, ◌≤◌, Bool, ◌&&◌, ◌||◌, ltb, eqb, ◌+◌, not, List, [], ℤ, pos, int_lt, nat_abs, cond, Option, Some, None}
use Rattle.sd_base.specs.Allowed.{is_range}
use Rattle.claim_table.specs.declared.claim.Claim.{Claim}
use Rattle.claim_table.specs.declared.claim.PortRange.{PortRange}
use Rattle.claim_table.specs.Ordered.{FewOfEach}

-- how many owners may hold one line, and the claims of each kind, each in order: lines with their handlers, first ports with how many, devices, parameters with their values
pub record ClaimRows : Type 0 where
  pub share : ℕ
  pub lines : List (Claim ℕ)
  pub ports : List (Claim ℕ)
  pub devices : List (Claim (Unit {0}))
  pub params : List (Claim ℤ)

-- nothing is held
abbrev pub no_claims : ℕ → ClaimRows
no_claims share = record { share = share; lines = []; ports = []; devices = []; params = [] }

abbrev pub claim : {D : Type 0} → ℕ → ℕ → D → Claim D
claim owner number detail = record { owner = owner; number = number; detail = detail }

-- a range of ports that has a port of the n from base
abbrev pub range_meets : ℕ → ℕ → Claim ℕ → Bool
range_meets base n c = ltb c.number (base + n) && ltb base (c.number + c.detail)

-- the claim of this owner on exactly these ports
abbrev pub is_range_claim : ℕ → ℕ → ℕ → Claim ℕ → Bool
is_range_claim owner base n c = eqb c.owner owner && (eqb c.number base && eqb c.detail n)

abbrev pub is_not_range_claim : ℕ → ℕ → ℕ → Claim ℕ → Bool
is_not_range_claim owner base n c = not (eqb c.owner owner && (eqb c.number base && eqb c.detail n))

-- a range of this owner that has this port
abbrev pub covers : ℕ → ℤ → Claim ℕ → Bool
covers owner port c = eqb c.owner owner && (not (int_lt port (pos c.number)) && int_lt port (pos (c.number + c.detail)))

-- a range with more ports than there are
abbrev pub is_wide : Claim ℕ → Bool
is_wide c = ltb 65536 c.detail

-- one owner holds a line, or up to four
abbrev pub is_share : ℕ → Bool
is_share share = eqb share 1 || eqb share 4

-- the caps: as many holders as the share for each of 64 lines, and 32 ranges, devices and parameters for each of 5 owners
pub record HasCaps (t : ClaimRows) : Type 0 where
  pub share : t.share ≤ 4
  pub lines : FewOfEach (λ c. c.number) 64 t.share t.lines
  pub ports : FewOfEach (λ c. c.owner) 5 32 t.ports
  pub devices : FewOfEach (λ c. c.owner) 5 32 t.devices
  pub params : FewOfEach (λ c. c.owner) 5 32 t.params

-- a range of ports, or none where not all of them are ports
abbrev pub range_of : ℤ → ℤ → Option PortRange
range_of base n = cond (is_range base n) (Some (record { base = nat_abs base; n = nat_abs n })) None
