-- The values of a plan's roles for a claim, from the values of the plan's names and the answers of
-- its tables.
use Rattle.std.specs.Prelude.{ℕ, ℤ, Bool, false, if◌then◌else◌, List, [], Option, Some, None, Result, Ok, Err}
use Rattle.std.specs.List.{filter_map}
use Rattle.std.specs.Option.{option_and_then}
use Rattle.fixpoint.specs.Money.{is_money, is_rate}
use Rattle.feel_tests.specs.declared.value.Value.{Value}
use Rattle.feel_tests.specs.declared.value.Value.TheVariants.{Number, Text, Flag}
use Rattle.tables.specs.declared.environment.Answer.{Answer}
use Rattle.tables.specs.declared.environment.Answer.TheVariants.{Many}
use Rattle.tables.specs.declared.inputs.Slot.{Slot}
use Rattle.tables.specs.declared.roles.FamilyRoles.{FamilyRoles}
use Rattle.tables.specs.declared.roles.Roles.{Roles}
use Rattle.tables.specs.declared.roles.Source.{Source}
use Rattle.tables.specs.declared.roles.Source.TheVariants.{Literal, Input, Output}
use Rattle.tables.specs.Environment.{Environment, answer_of}
use Rattle.tables.specs.Inputs.{value_at}
use Rattle.tables.specs.Matching.{single}
use Rattle.faults.specs.declared.role.Role.{Role}
use Rattle.faults.specs.declared.role.Role.TheVariants.{Fee, Deductible, Copay, Rate, OopMax, FamilyDeductible, FamilyOopMax}
use Rattle.settlement.specs.declared.cost_sharing.FamilyLimits.{FamilyLimits}
use Rattle.settlement.specs.declared.cost_sharing.CostSharing.{CostSharing}

-- the answer of the output with this name
abbrev pub answer_named : Environment → List ℕ → Option Answer
answer_named env name = answer_of env.tables env.answers name

-- the value of a role: a literal, the value of an input, or the single value of an output
abbrev pub value_of : List Slot → Environment → Source → Option Value
value_of given env (Literal value) = Some value
value_of given env (Input place) = value_at given place
value_of given env (Output name) = option_and_then single (answer_named env name)

-- the value is the flag `true`
abbrev pub is_true_flag : Option Value → Bool
is_true_flag (Some (Flag flag)) = flag
is_true_flag _ = false

-- the units of a value if it is a number that passes the test
abbrev pub units_where : (ℤ → Bool) → Option Value → Option ℤ
units_where test (Some (Number units)) = if test units then Some units else None
units_where test _ = None

-- continues with the units of a role; a role without units is the error
abbrev pub with_role : {X : Type 0} → Role → Option ℤ → (ℤ → Result X Role) → Result X Role
with_role role None next = Err role
with_role role (Some units) next = next units

-- the limits of the family, if the plan has any, or the first of the two roles that is not an amount
-- of money
abbrev pub limits : List Slot → Environment → Option FamilyRoles → Result (Option FamilyLimits) Role
limits given env None = Ok None
limits given env (Some roles) =
    with_role FamilyDeductible (units_where is_money (value_of given env roles.deductible)) (λ deductible.
    with_role FamilyOopMax (units_where is_money (value_of given env roles.oop_max)) (λ oop_max.
    Ok (Some (record { deductible = deductible; oop_max = oop_max }))))

-- continues with the family's limits; an invalid limit is the error
abbrev pub with_limits : {X : Type 0} → Result (Option FamilyLimits) Role → (Option FamilyLimits → Result X Role) → Result X Role
with_limits (Err role) next = Err role
with_limits (Ok family) next = next family

-- the cost sharing of a claim: four amounts of money, a rate and the family's limits, or the first
-- role, in this order, with an invalid value
abbrev pub terms : List Slot → Environment → Roles → Result CostSharing Role
terms given env roles =
    with_role Fee (units_where is_money (value_of given env roles.fee)) (λ fee.
    with_role Deductible (units_where is_money (value_of given env roles.deductible)) (λ deductible.
    with_role Copay (units_where is_money (value_of given env roles.copay)) (λ copay.
    with_role Rate (units_where is_rate (value_of given env roles.rate)) (λ rate.
    with_role OopMax (units_where is_money (value_of given env roles.oop_max)) (λ oop_max.
    with_limits (limits given env roles.family) (λ family.
    Ok (record { fee = fee; deductible = deductible; copay = copay; rate = rate; oop_max = oop_max; family = family })))))))

-- the bytes of a value that is a text
abbrev pub text_of : Value → Option (List ℕ)
text_of (Text bytes) = Some bytes
text_of _ = None

-- the texts in an answer that is a list
abbrev pub texts_of : Option Answer → List (List ℕ)
texts_of (Some (Many values)) = filter_map text_of values
texts_of _ = []

-- the remarks: the texts in the list of the output that the role names, or none without such a role
abbrev pub remarks_of : Environment → Option (List ℕ) → List (List ℕ)
remarks_of env None = []
remarks_of env (Some name) = texts_of (answer_named env name)
