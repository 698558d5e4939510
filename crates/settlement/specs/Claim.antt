-- Claims and accumulators.
use Rattle.std.specs.Prelude.{◌≡◌, pos, List, map, is_some}
use Rattle.feel_tests.specs.Value.{kind_of}
use Rattle.tables.specs.declared.table.InputData.{InputData}
use Rattle.tables.specs.Names.{names_of}
use Rattle.tables.specs.Plan.{PlanParts, keeps_families}
use Rattle.settlement.specs.declared.acc.Acc.{Acc}
use Rattle.settlement.specs.declared.claim.Claim.{Claim}

-- the claim fits the plan: it has a family if and only if the plan keeps accumulators for families,
-- and a value of the right kind for each of the plan's fields, in order
pub record IsClaimOf (plan : PlanParts) (claim : Claim) : Type 0 where
  pub family : is_some claim.family ≡ keeps_families plan
  pub fields : List InputData
  pub names : plan.names ≡ names_of (keeps_families plan) fields
  pub kinds : map kind_of claim.fields ≡ map (λ d. d.kind) fields

-- the accumulators of a member without claims
abbrev pub nothing_yet : Acc
nothing_yet = record { met = pos 0; oop = pos 0; paid = pos 0; fmet = pos 0; foop = pos 0 }
