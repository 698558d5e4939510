use Rattle.std.proofs.Common.{refl, ◌∙◌}
use Rattle.std.proofs.lemmas.Result.{on_ok_weaker}
use Rattle.settlement.proofs.AllBound.{kept_laid_out, kinds_given, places_within, served}
use Rattle.settlement.proofs.workspace.Workspace.bind.Goals as goal

pub bind_inputs-requires-clause-kinds : goal.bind_inputs-requires-clause-kinds
bind_inputs-requires-clause-kinds c =
    let (plan, workspace, is) = c.requires in
    workspace.laid_out.kinds ∙ kinds_given plan c.args.claim.now c.args.acc.now is

pub bind_inputs-requires-clause-within : goal.bind_inputs-requires-clause-within
bind_inputs-requires-clause-within c =
    let (plan, workspace, is) = c.requires in
    let given = c.args.self.now.inputs in
    let laid = kept_laid_out plan c.args.self.now.places c.as_slice.result.now given given workspace.laid_out c.as_slice.ensures refl in
    places_within plan c.args.claim.now c.args.acc.now c.as_slice.result.now given laid is

pub returns-clause-workspace : goal.returns-clause-workspace
returns-clause-workspace c = λ plan workspace.
    let places = c.args.self.now.places in
    record {
      laid_out = kept_laid_out plan places places c.args.self.now.inputs c.bind_inputs.new.inputs workspace.laid_out refl c.bind_inputs.ensures.kinds;
      placed = workspace.placed;
    }

pub returns-clause-serves : goal.returns-clause-serves
returns-clause-serves c =
    on_ok_weaker c.bind_inputs.result (λ given plan workspace is.
    let before = c.args.self.now in
    let shown = c.as_slice.result.now in
    let laid = kept_laid_out plan before.places shown before.inputs c.bind_inputs.new.inputs workspace.laid_out c.as_slice.ensures c.bind_inputs.ensures.kinds in
    served plan c.args.claim.now c.args.acc.now shown c.bind_inputs.new.inputs laid is given) c.bind_inputs.ensures.given
