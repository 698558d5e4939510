use Rattle.std.proofs.lemmas.Grind.{common_steps}
use Rattle.std.proofs.Common.{refl, arith}
use Rattle.fixpoint.proofs.Buffering.{gathers, hands-more, stays-then}
use Rattle.fixpoint.proofs.buffered_out.BufferedOut.put.Goals as goal

pub returns-then-gather-clause-puts : goal.returns-then-gather-clause-puts
returns-then-gather-clause-puts g c = gathers _ _ c.args.self.now c.gather.new.self c.args.text.now c.if-gather.ensures.yes c.gather.ensures.same

pub returns-clause-puts : goal.returns-clause-puts
returns-clause-puts g c =
    hands-more _ _ _ _ _ _ c.args.self.now c.gather.new.self c.hand_over.new.self _ c.args.text.now c.if-gather.ensures.no c.gather.ensures.same c.hand_over.ensures.puts c.hand_over.ensures.all c.pass.ensures.passes refl

pub returns-clause-stays : goal.returns-clause-stays
returns-clause-stays g c =
    rw (← c.gather.ensures.same) (stays-then _ _ _ _ _ _ c.hand_over.ensures.stays c.pass.ensures.stays)

pub returns-clause-bounded : goal.returns-clause-bounded
returns-clause-bounded g c = grind (arith, common_steps)

pub returns-then-gather-clause-bounded : goal.returns-then-gather-clause-bounded
returns-then-gather-clause-bounded g c = grind (arith, common_steps)
