use Rattle.std.proofs.Common.{refl}
use Rattle.remit_records.specs.declared.amount.Amount.TheVariants.{Paid}
use Rattle.remit_records.proofs.sums.Sums.paid.Goals as goal

pub returns : goal.returns
returns c = λ J count are. (are.each 5 Paid refl).value
