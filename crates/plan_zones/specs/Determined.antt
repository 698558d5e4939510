-- What a plan determines for the claims in a zone, before their amounts. A plan has one determination
-- for all of them unless a role has the value of a name.
use Rattle.std.specs.Prelude.{ℕ, List, [], ◌∷◌, fold, map, Option, Some, None, option_map, Result, Ok, Err}
use Rattle.std.specs.Option.{option_map_or, option_or}
use Rattle.feel_tests.specs.declared.value.Value.{Value}
use Rattle.faults.specs.declared.fault.Fault.{Fault}
use Rattle.faults.specs.declared.reason.Reason.{Reason}
use Rattle.faults.specs.declared.role_key.RoleKey.{RoleKey}
use Rattle.faults.specs.declared.role_key.RoleKey.TheVariants.{Cover, Fee, Deductible, Copay, Rate, OopMax, FamilyDeductible, FamilyOopMax}
use Rattle.tables.specs.declared.environment.Answer.{Answer}
use Rattle.tables.specs.declared.roles.FamilyRoles.{FamilyRoles}
use Rattle.tables.specs.declared.roles.Roles.{Roles}
use Rattle.tables.specs.declared.roles.Source.{Source}
use Rattle.tables.specs.declared.roles.Source.TheVariants.{Input}
use Rattle.tables.specs.declared.table.Table.{Table}
use Rattle.tables.specs.Environment.{Environment}
use Rattle.tables.specs.Plan.{PlanParts}
use Rattle.settlement.specs.declared.determination.Determination.{Determination}
use Rattle.settlement.specs.declared.determination.Determination.TheVariants.{Pended}
use Rattle.settlement.specs.Bindings.{slot_of}
use Rattle.settlement.specs.Settlement.{by_tables, determination_of}
use Rattle.regions.specs.declared.region.Region.{Region}
use Rattle.plan_zones.specs.declared.fault.WholeFault.{WholeFault}
use Rattle.plan_zones.specs.declared.fault.WholeFault.TheVariants.{NoRoles, InputRole}
use Rattle.plan_zones.specs.Zones.{value_in}

-- the role, if its source is a name of the plan
abbrev pub if_input : RoleKey → Source → Option RoleKey
if_input role (Input place) = Some role
if_input role _ = None

-- the first role of the family whose source is a name
abbrev pub family_input_role : Option FamilyRoles → Option RoleKey
family_input_role None = None
family_input_role (Some limits) = option_or (if_input FamilyDeductible limits.deductible) (if_input FamilyOopMax limits.oop_max)

-- the first role whose source is a name
abbrev pub input_role : Roles → Option RoleKey
input_role roles = fold option_or None
    (if_input Cover roles.cover ∷ if_input Fee roles.fee ∷ if_input Deductible roles.deductible ∷ if_input Copay roles.copay ∷ if_input Rate roles.rate ∷ if_input OopMax roles.oop_max
    ∷ family_input_role roles.family ∷ [])

-- the reason why the claims in a zone have no common determination, if there is one
abbrev pub role_fault : PlanParts → Option WholeFault
role_fault p = option_map_or (λ roles. option_map InputRole (input_role roles)) p.roles (Some NoRoles)

-- what a plan determines for a claim with these values of its names
abbrev pub determination_at : PlanParts → List Value → Determination
determination_at p values = determination_of p (map slot_of values)

-- the tables with their answers, or their fault
abbrev pub environment_by : List Table → Result (List (List Answer)) Fault → Result Environment Fault
environment_by tables (Ok answers) = Ok (record { tables = tables; answers = answers })
environment_by tables (Err fault) = Err fault

-- what a plan determines for the claims in a zone; no role reads the values that are not given here
abbrev pub determination_in : PlanParts → List (List Region) → List ℕ → Determination
determination_in p regions zone = by_tables p.roles [] (environment_by p.tables (value_in p regions zone))

-- the reason for which the claims are pended, if they are
abbrev pub reason_for : Determination → Option Reason
reason_for (Pended reason) = Some reason
reason_for _ = None

-- the reason for which the claims in a zone are pended
abbrev pub reason_in : PlanParts → List (List Region) → List ℕ → Option Reason
reason_in p regions zone = reason_for (determination_in p regions zone)
