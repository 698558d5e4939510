-- The cost sharing of the claims in a zone, and the values of a plan's roles from which it comes.
use Rattle.std.specs.Prelude.{◌≡◌, ◌&&◌, Bool, true, false, Some, None, MatchResult, Option, option_map, Result, Ok, Err}
use Rattle.std.specs.Ordering.{int_eq}
use Rattle.faults.specs.declared.role.Role.{Role}
use Rattle.settlement.specs.declared.cost_sharing.CostSharing.{CostSharing}
use Rattle.settlement.specs.declared.cost_sharing.FamilyLimits.{FamilyLimits}
use Rattle.plan_zones.specs.declared.terms.FamilyTerms.{FamilyTerms}
use Rattle.plan_zones.specs.declared.terms.Terms.{Terms}

-- the limits of the family, as settlement has them
abbrev pub limits_by : FamilyTerms → FamilyLimits
limits_by family = record { deductible = family.deductible; oop_max = family.oop_max }

-- the cost sharing, as settlement has it
abbrev pub cost_sharing_by : Terms → CostSharing
cost_sharing_by t = record {
  fee = t.fee;
  deductible = t.deductible;
  copay = t.copay;
  rate = t.rate;
  oop_max = t.oop_max;
  family = option_map limits_by t.family;
}

-- the result is the family's limits, or the role that is invalid
abbrev pub GivesLimits : Result (Option FamilyLimits) Role → Result (Option FamilyTerms) Role → Type 0
GivesLimits expected result = MatchResult result (λ family. expected ≡ Ok (option_map limits_by family)) (λ role. expected ≡ Err role)

-- the result is the cost sharing, or the first role that is invalid
abbrev pub GivesTerms : Result CostSharing Role → Result Terms Role → Type 0
GivesTerms expected result = MatchResult result (λ t. expected ≡ Ok (cost_sharing_by t)) (λ role. expected ≡ Err role)

-- the limits of two families are the same
abbrev pub same_family : Option FamilyTerms → Option FamilyTerms → Bool
same_family None None = true
same_family (Some one) (Some other) = int_eq one.deductible other.deductible && int_eq one.oop_max other.oop_max
same_family _ _ = false

-- the terms are the same
abbrev pub same_terms : Terms → Terms → Bool
same_terms one other =
    ((((int_eq one.fee other.fee && int_eq one.deductible other.deductible) && int_eq one.copay other.copay) && int_eq one.rate other.rate) && int_eq one.oop_max other.oop_max)
    && same_family one.family other.family
