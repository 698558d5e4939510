use Rattle.std.proofs.Common.{◌≤◌, length, refl, subst, rules}
use Rattle.std.proofs.lemmas.Option.{slice_get_read}
use Rattle.evaluation.proofs.Givens.{no_value}
use Rattle.evaluation.proofs.ReadNames.{IsReady-from_below}
use Rattle.evaluation.proofs.value.arguments.first_missing.Goals as goal

pub returns-clause-ready : goal.returns-clause-ready
returns-clause-ready c =
    IsReady-from_below c.args.plan.now c.args.inputs.now c.loop-place.place c.names-input-items.ensures.sound
    (subst (λ names. length names ≤ c.loop-place.place) c.names-input-items.ensures.names c.loop-place-test.false) c.loop-place.invariant

pub returns-then-is_none-clause-missing : goal.returns-then-is_none-clause-missing
returns-then-is_none-clause-missing c =
    let at_place = slice_get_read c.names-input-items.result.now _ c.loop-place.place c.input-item.result refl c.loop-place-test.true c.input-item.is in
    record {
      place = c.loop-place.place;
      input = c.input-item.result;
      present = rw c.names-input-items.ensures.names at at_place;
      named = refl;
      read = search rules;
      missing = no_value c.get.result _ c.if-is_none.ensures c.get.ensures;
      first = c.loop-place.invariant;
    }
