use Rattle.std.proofs.Common.{subst}
use Rattle.cutplan.proofs.FirstRules.{IsLow, first_marked, first_word}
use Rattle.cutplan.proofs.mask.RuleMask.first_rules.Goals as goal

pub returns-then-count-le64 : goal.returns-then-count-le64
returns-then-count-le64 c =
    first_word c.args.count c.low_bits.result c.if-count-le64.true c.low_bits.ensures

pub returns : goal.returns
returns c =
    first_marked c.args.count c.low_bits-2.result c.low_bits-3.result c.low_bits-4.result c.low_bits-5.result c.low_bits-2.ensures
    (subst (λ n. IsLow n c.low_bits-3.result) c.saturating_sub.ensures c.low_bits-3.ensures) (subst (λ n. IsLow n c.low_bits-4.result) c.saturating_sub-2.ensures c.low_bits-4.ensures)
    (subst (λ n. IsLow n c.low_bits-5.result) c.saturating_sub-3.ensures c.low_bits-5.ensures)
