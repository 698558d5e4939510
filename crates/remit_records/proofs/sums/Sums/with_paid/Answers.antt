use Rattle.std.proofs.Common.{◌≡◌, ◌<◌, pos, ◌+ℤ◌, get_or, length, ap, ◌∙◌, arith}
use Rattle.std.proofs.lemmas.Grind.{common_steps}
use Rattle.std.proofs.lemmas.Option.{slice_get-get_or}
use Rattle.std.specs.Prelude.{slice_index}
use Rattle.remit_records.specs.declared.amount.Amount.TheVariants.{Allowed}
use Rattle.remit_records.specs.Amounts.{amounts, amount_of}
use Rattle.remit_records.proofs.Adding.{added-all, added-next}
use Rattle.remit_records.proofs.sums.Sums.with_paid.Goals as goal

pub loop-place-preserved : goal.loop-place-preserved
loop-place-preserved c =
    let place = c.loop-place.place in
    let within : place < length amounts = c.loop-place-test.true in
    let located = slice_get-get_or amounts place Allowed within in
    let added : c.of.result ≡ amount_of (get_or amounts place Allowed) c.args.decision.now = c.of.ensures in
    added-next c.args.decision.now c.args.self.units c.loop-place.units place (get_or amounts place Allowed) c.plus.result located (rw c.requires.size within)
    (c.plus.ensures.value ∙ ap (λ a. pos (slice_index c.loop-place.units place) +ℤ a) added) c.plus.ensures.bound c.loop-place.invariant

pub returns : goal.returns
returns c = added-all c.args.decision.now c.args.self (record { units = c.loop-place.units }) c.loop-place.place c.loop-place-test.false c.loop-place.invariant

pub plus-requires : goal.plus-requires
plus-requires c = grind (arith, common_steps)
