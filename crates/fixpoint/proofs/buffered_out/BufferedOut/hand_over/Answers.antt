use Rattle.fixpoint.proofs.Buffering.{hands-over}
use Rattle.fixpoint.proofs.buffered_out.BufferedOut.hand_over.Goals as goal

pub returns-clause-puts : goal.returns-clause-puts
returns-clause-puts g c = hands-over _ _ _ _ c.args.self.now _ c.as_slice.result.now c.as_slice.ensures.value c.pass.ensures.passes c.clear.ensures.items
