use Rattle.settlement.proofs.RoleBindings.{none_placed, placed_for}
use Rattle.settlement.proofs.role_bindings.role_places.Goals as goal

pub returns-in-Some : goal.returns-in-Some
returns-in-Some c =
    placed_for c.args.plan.now c.in-Some.roles.now _ c.in-Some.ensures.roles (record {
      cover = c.place_of.ensures;
      fee = c.place_of-in-Some.ensures;
      deductible = c.place_of-in-Some-2.ensures;
      copay = c.place_of-in-Some-3.ensures;
      rate = c.place_of-in-Some-4.ensures;
      oop_max = c.place_of-in-Some-5.ensures;
      remarks = c.remarks_place.ensures;
      family = c.family_places.ensures;
    })

pub returns-in-None : goal.returns-in-None
returns-in-None c = none_placed c.args.plan.now _ c.in-None.ensures.roles
