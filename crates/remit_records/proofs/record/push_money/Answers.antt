use Rattle.std.proofs.Common.{arith}
use Rattle.std.proofs.lemmas.Grind.{common_steps}
use Rattle.remit_records.proofs.record.push_money.Goals as goal

pub slice_bounds-push_field-end : goal.slice_bounds-push_field-end
slice_bounds-push_field-end c = grind (arith, common_steps)

pub returns : goal.returns
returns c = grind (arith, common_steps)
