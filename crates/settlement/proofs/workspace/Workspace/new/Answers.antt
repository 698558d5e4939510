use Rattle.settlement.proofs.Binding.{laid_out}
use Rattle.settlement.proofs.workspace.Workspace.new.Goals as goal

pub returns : goal.returns
returns c =
    let places = c.in_ok-places.ensures in
    record {
      laid_out = laid_out c.args.plan.now c.in_ok-places.places c.in_ok-inputs.inputs places.sound places.places c.in_ok-inputs.ensures;
      placed = c.role_places-roles.ensures;
    }
