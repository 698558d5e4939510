use Rattle.std.proofs.Common.{◌∙◌}
use Rattle.fixpoint.specs.BufferedOut.{at}
use Rattle.check_report.proofs.Piecewise.{puts-numbered}
use Rattle.check_report.proofs.check.text.put_numbered.Goals as goal

pub returns : goal.returns
returns g c =
    puts-numbered (at _ _ c.args.pieces.now) (at _ _ c.put.new.self) (at _ _ c.put-2.new.self) c.args.words.now c.as_bytes.result.now c.as_bytes-2.result.now c.args.number c.as_bytes.ensures.value
    (c.as_bytes-2.ensures.value ∙ c.format.ensures.text) c.put.ensures.puts c.put-2.ensures.puts
