use Rattle.std.proofs.Common.{ℕ, List, ◌++◌, flat_map, ap, ◌∙◌, arith}
use Rattle.std.proofs.lemmas.Grind.{common_steps}
use Rattle.std.proofs.lemmas.List.{take_all}
use Rattle.settlement.specs.Remarked.{word_at}
use Rattle.settlement.proofs.remarks.append_others.Goals as goal

pub loop-place-preserved : goal.loop-place-preserved
loop-place-preserved c = grind (arith, common_steps)

pub returns : goal.returns
returns c =
    let words = λ (places : List ℕ). flat_map (λ place. c.args.mark.now ++ word_at c.args.words.now place) places in
    c.loop-place.invariant ∙ ap (λ (places : List ℕ). c.args.text.now.items ++ words places) (take_all c.loop-place.place-index c.args.places.now c.loop-place-test.false)
