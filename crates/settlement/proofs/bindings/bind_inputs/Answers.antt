use Rattle.std.proofs.Common.{ℕ, take, sym, ◌∙◌}
use Rattle.std.proofs.lemmas.List.{take_all}
use Rattle.std.proofs.lemmas.List.Elements.{All-more, All-weaker, All-same}
use Rattle.settlement.specs.Reads.{HasItsValue}
use Rattle.settlement.proofs.bindings.bind_inputs.Goals as goal

pub loop-place-preserved : goal.loop-place-preserved
loop-place-preserved c =
    let places = c.args.places.now in
    let at = c.loop-place.place-index in
    let before : ℕ → Type 0 = HasItsValue c.args.claim.now c.args.acc.now c.loop-place.inputs in
    let now : ℕ → Type 0 = HasItsValue c.args.claim.now c.args.acc.now c.bind_input.new.inputs in
    record {
      kinds = c.bind_input.ensures.kinds ∙ c.loop-place.invariant.kinds;
      given = All-more now places at 0 c.loop-place-test.true (All-weaker before now c.in_ok-bind_input.ensures.others (take at places) c.loop-place.invariant.given) c.in_ok-bind_input.ensures.given;
    }

pub returns-clause-given : goal.returns-clause-given
returns-clause-given c =
    let places = c.args.places.now in
    let at = c.loop-place.place-index in
    let now : ℕ → Type 0 = HasItsValue c.args.claim.now c.args.acc.now c.loop-place.inputs in
    All-same now places (take at places) (sym (take_all at places c.loop-place-test.false)) c.loop-place.invariant.given
