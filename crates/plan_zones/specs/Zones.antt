-- The zones of a plan. A zone has a region for each name that is given to the plan, and the tables
-- have the same value for all values in it. Names, regions and columns are numbered from 0 here.
use Rattle.std.specs.Prelude.{◌<◌, Bool, ℕ, List, [], ◌∷◌, length, map, filter, Option, slice_get, unwrap_or, Result, IsTrue, if◌then◌else◌}
use Rattle.std.specs.List.{AllZip, range_with_len}
use Rattle.std.specs.Option.{option_and_then}
use Rattle.feel_tests.specs.declared.value.Value.{Value}
use Rattle.faults.specs.declared.fault.Fault.{Fault}
use Rattle.tables.specs.declared.environment.Answer.{Answer}
use Rattle.tables.specs.Inputs.{needs}
use Rattle.tables.specs.Plan.{PlanParts}
use Rattle.regions.specs.declared.region.Region.{Region}
use Rattle.regions.specs.declared.region.Region.TheVariants.{Every}
use Rattle.cutplan.specs.ClassWise.{Zone, answers_in, regions_by}
use Rattle.cutplan.specs.InputClasses.{name_literals}
use Rattle.cutplan.specs.Matching.{has_at}
use Rattle.plan_zones.specs.Amounts.{is_amount, is_possible, is_possible_region}

-- the regions into which these literals cut the values of a name, if they contain a value that a claim
-- can give it; all values of a name that is not read are one region
abbrev pub regions_where : PlanParts → (ℕ → Bool) → (ℕ → List Value) → ℕ → List Region
regions_where p is_read literals name = if is_read name then filter (is_possible_region (is_amount p name)) (regions_by p literals name) else Every ∷ []

-- the regions of all names of a plan, by these literals
abbrev pub all_regions : PlanParts → (ℕ → Bool) → (ℕ → List Value) → List (List Region)
all_regions p is_read literals = map (regions_where p is_read literals) (range_with_len 0 (length p.names))

-- the regions of a name by the literals of the plan's tables
abbrev pub regions_at : PlanParts → ℕ → List Region
regions_at p = regions_where p (needs p.tables) (name_literals p.tables)

-- the regions of all names of a plan, by the literals of its tables
abbrev pub plan_regions : PlanParts → List (List Region)
plan_regions p = all_regions p (needs p.tables) (name_literals p.tables)

-- a zone, by the index of the region of each name
abbrev pub IsZone : List (List Region) → List ℕ → Type 0
IsZone regions zone = AllZip (λ rs region. region < length rs) regions zone

-- the region of a name in a zone
abbrev pub region_at : List (List Region) → List ℕ → ℕ → Option Region
region_at regions zone name = option_and_then (λ rs. option_and_then (slice_get rs) (slice_get zone name)) (slice_get regions name)

-- the zone as an input class: a region for each name, and all values for any other name
abbrev pub class_of : List (List Region) → List ℕ → Zone
class_of regions zone name = unwrap_or (region_at regions zone name) Every

-- the answers of the plan's tables in a zone, or the first fault
abbrev pub value_in : PlanParts → List (List Region) → List ℕ → Result (List (List Answer)) Fault
value_in p regions zone = answers_in (class_of regions zone) [] p.tables

-- the values lie in the regions of the zone
abbrev pub LieIn : List (List Region) → List ℕ → List Value → Type 0
LieIn [] [] [] = Unit {0}
LieIn (rs ∷ more) (region ∷ zone) (v ∷ vs) = IsTrue (has_at rs region v) × LieIn more zone vs
LieIn _ _ _ = ⊥

-- a claim and its accumulators can give the plan's names these values
abbrev pub ArePossible : PlanParts → List Value → Type 0
ArePossible p values = AllZip (λ name v. IsTrue (is_possible p name v)) (range_with_len 0 (length p.names)) values
