use Rattle.std.proofs.Common.{take, arith}
use Rattle.std.proofs.lemmas.Grind.{elements}
use Rattle.remit_records.proofs.Adding.{sums-next, sums-room}
use Rattle.remit_records.proofs.sums.Sums.over.Goals as goal

pub with-sums-requires : goal.with-sums-requires
with-sums-requires c =
    sums-room (take c.loop-event.event-index c.args.journal.now) c.loop-event.event-index c.loop-event.sums (omega (arith, c.loop-event-test.true)) c.loop-event.invariant

pub loop-event-preserved : goal.loop-event-preserved
loop-event-preserved c =
    sums-next c.args.journal.now c.loop-event.event-index c.event-item.result c.loop-event.sums c.with-sums.result c.loop-event-test.true c.event-item.is
    c.loop-event.invariant c.with-sums.ensures

pub returns : goal.returns
returns c = grind (arith, elements)
