-- The faults of the steps of a comparison are refusals of it.
use Rattle.std.proofs.Common.{◌≡◌, ◌≢◌, ℕ, Some, Result, Ok, Err, IsErrAnd, sym, subst}
use Rattle.std.specs.Result.{IfErr}
use Rattle.tables.specs.Plan.{PlanParts, keeps_families}
use Rattle.plan_zones.specs.declared.compare_fault.CompareFault.{CompareFault}
use Rattle.plan_zones.specs.declared.compare_fault.CompareFault.TheVariants.{NoRoles, InputRole, Families, NoOldName, NoNewName, Merged, TwoKinds, NoNarrowed, TooWide, OutOfMemory}
use Rattle.plan_zones.specs.declared.compare_fault.Side.{Side}
use Rattle.plan_zones.specs.declared.fault.WholeFault.{WholeFault}
use Rattle.plan_zones.specs.declared.fault.WholeFault.TheVariants as whole
use Rattle.plan_zones.specs.declared.comparing.Comparing.{Comparing}
use Rattle.plan_zones.specs.Changes.{IsCompareRefusal, IsMerged, IsPlanRefusal, names_of, on_side, plan_on}
use Rattle.plan_zones.specs.Determined.{role_fault}

pub side_refused : (side : Side) (old new : PlanParts) (fault : WholeFault) → role_fault (plan_on side old new) ≡ Some fault → IsPlanRefusal old new (on_side side fault)
side_refused side old new whole.NoRoles is = is
side_refused side old new (whole.InputRole role) is = is
side_refused side old new (whole.TooWide zones) is = tt
side_refused side old new whole.OutOfMemory is = tt

pub families_refused : (old new : PlanParts) → keeps_families old ≢ keeps_families new → IsPlanRefusal old new Families
families_refused old new differ = differ

pub plans_refused : (old new : PlanParts) (comparing : Comparing) (limit : ℕ) (fault : CompareFault) → IsPlanRefusal old new fault → IsCompareRefusal old new comparing limit fault
plans_refused old new comparing limit (NoRoles side) is = is
plans_refused old new comparing limit (InputRole side role) is = is
plans_refused old new comparing limit Families is = is
plans_refused old new comparing limit (NoOldName index) is = absurd is
plans_refused old new comparing limit (NoNewName index) is = absurd is
plans_refused old new comparing limit (Merged own) is = absurd is
plans_refused old new comparing limit (TwoKinds place) is = absurd is
plans_refused old new comparing limit (NoNarrowed index) is = absurd is
plans_refused old new comparing limit (TooWide zones) is = absurd is
plans_refused old new comparing limit OutOfMemory is = tt

pub merged_refused : (old new : PlanParts) (comparing : Comparing) (limit : ℕ) (fault : CompareFault) → IsMerged (names_of old new comparing) fault → IsCompareRefusal old new comparing limit fault
merged_refused old new comparing limit (NoRoles side) is = absurd is
merged_refused old new comparing limit (InputRole side role) is = absurd is
merged_refused old new comparing limit Families is = absurd is
merged_refused old new comparing limit (NoOldName index) is = absurd is
merged_refused old new comparing limit (NoNewName index) is = absurd is
merged_refused old new comparing limit (Merged own) is = is
merged_refused old new comparing limit (TwoKinds place) is = absurd is
merged_refused old new comparing limit (NoNarrowed index) is = absurd is
merged_refused old new comparing limit (TooWide zones) is = absurd is
merged_refused old new comparing limit OutOfMemory is = tt

-- what is passed on is refused for the same
pub refused_on : {X : Type 0} (old new : PlanParts) (comparing : Comparing) (limit : ℕ) (r : Result X CompareFault) (fault : CompareFault) → IsErrAnd r (λ it. it ≡ fault)
    → IsCompareRefusal old new comparing limit fault → IfErr r (IsCompareRefusal old new comparing limit)
refused_on old new comparing limit (Ok x) fault h is = absurd h
refused_on old new comparing limit (Err it) fault h is = subst (IsCompareRefusal old new comparing limit) (sym h) is
