use Rattle.std.proofs.Common.{arith}
use Rattle.std.proofs.lemmas.Grind.{elements}
use Rattle.remit_records.proofs.decisions.Decisions.outcome.Goals as goal

pub returns : goal.returns
returns c = grind (arith, elements)

pub returns-in_err-get : goal.returns-in_err-get
returns-in_err-get c = grind (arith, elements)

pub returns-in_err-places : goal.returns-in_err-places
returns-in_err-places c = grind (arith, elements)
