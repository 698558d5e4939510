use Rattle.std.proofs.Common.{arith}
use Rattle.remarks.proofs.Places.{begins_text}
use Rattle.remarks.proofs.scan.scan_of.Goals as goal

pub bytes-init : goal.bytes-init
bytes-init c = (
  omega arith,
  record { place = begins_text c.args.text.now; opened = λ within. cc within; broken = λ at below. absurd (omega (arith, below)) },
)
