-- The places of a plan's roles among the answers of its tables.
use Rattle.std.proofs.Common.{◌≡◌, List, [], Some, None, Result, Ok, Err, refl, subst, ◌∙◌}
use Rattle.std.proofs.lemmas.Option.{same_Some}
use Rattle.tables.specs.declared.environment.Answer.{Answer}
use Rattle.faults.specs.declared.fault.Fault.{Fault}
use Rattle.tables.specs.declared.inputs.Slot.{Slot}
use Rattle.tables.specs.declared.roles.Roles.{Roles}
use Rattle.tables.specs.Environment.{Environment, answers_of, env}
use Rattle.tables.specs.Plan.{PlanParts}
use Rattle.settlement.specs.declared.role_bindings.RoleBindings.{RoleBindings}
use Rattle.settlement.specs.RoleBindings.{ArePlaced, ArePlacedFor}

tables_by : (plan : PlanParts) (given : List Slot) (e : Environment) (answers : Result (List (List Answer)) Fault) → answers_of given [] plan.tables ≡ answers → env plan given ≡ Ok e → plan.tables ≡ e.tables
tables_by plan given e (Ok answers) is made = cc
tables_by plan given e (Err fault) is made = cc

-- an environment of a plan is over the plan's tables, so the places of the roles are right in it
pub placed_in : (plan : PlanParts) (given : List Slot) (e : Environment) (roles : Roles) (places : RoleBindings) → env plan given ≡ Ok e → plan.roles ≡ Some roles → ArePlacedFor plan places → ArePlaced e.tables roles places
placed_in plan given e roles places made has placed =
    subst (λ tables. ArePlaced tables roles places) (tables_by plan given e (answers_of given [] plan.tables) refl made) (placed roles has)

-- places that are right for the roles are right for a plan with these roles
pub placed_for : (plan : PlanParts) (roles : Roles) (places : RoleBindings) → Some roles ≡ plan.roles → ArePlaced plan.tables roles places → ArePlacedFor plan places
placed_for plan roles places is placed = λ other has. subst (λ (r : Roles). ArePlaced plan.tables r places) (same_Some roles other (is ∙ has)) placed

-- all places are right for a plan without roles
pub none_placed : (plan : PlanParts) (places : RoleBindings) → None ≡ plan.roles → ArePlacedFor plan places
none_placed plan places none = λ roles has. let never : None ≡ Some roles = none ∙ has in absurd cc
