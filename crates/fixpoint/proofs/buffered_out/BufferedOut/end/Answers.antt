use Rattle.std.proofs.Common.{refl}
use Rattle.fixpoint.proofs.Buffering.{end-cut, end-whole}
use Rattle.fixpoint.proofs.buffered_out.BufferedOut.end.Goals as goal

pub returns-then-is_cut : goal.returns-then-is_cut
returns-then-is_cut g c = end-cut _ _ _ _ c.args.self c.hand_over.new.self _ c.hand_over.ensures.puts c.hand_over.ensures.all c.if-is_cut.true refl

pub returns : goal.returns
returns g c = end-whole _ _ _ _ c.args.self c.hand_over.new.self _ c.hand_over.ensures.puts c.hand_over.ensures.all c.if-is_cut.false refl
