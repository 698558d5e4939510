use Rattle.std.proofs.Common.{ℤ, ◌≤ℤ◌, sym, subst, rules}
use Rattle.settlement.proofs.MoneyLaws.{parts_within, smaller_within, within_both, within_smaller}
use Rattle.settlement.proofs.amounts.amounts_of.Goals as goal

pub minus-after_deductible-requires : goal.minus-after_deductible-requires
minus-after_deductible-requires c = within_smaller c.within_limit-ded.result c.min-open_deductible.result c.min-allowed.result _ c.within_limit-ded.ensures.within c.min-open_deductible.ensures

pub minus-after_copay-requires : goal.minus-after_copay-requires
minus-after_copay-requires c =
    let rest = c.minus-after_deductible.result in
    subst (λ (copay : ℤ). copay ≤ℤ rest) (sym c.min-copay.ensures) (smaller_within rest c.args.terms.copay)

pub minus-requires : goal.minus-requires
minus-requires c =
    let cost_share = c.cost_share-cost_share.result in
    let within = within_smaller c.within_limit-share.result c.min-capped_share.result cost_share _ c.within_limit-share.ensures.within c.min-capped_share.ensures in
    within_both c.within_limit-share.result cost_share c.min-allowed.result within c.cost_share-cost_share.ensures.within

pub cost_share-cost_share-requires : goal.cost_share-cost_share-requires
cost_share-cost_share-requires c =
    parts_within c.min-allowed.result c.within_limit-ded.result c.min-copay.result c.part-coins.result c.minus-after_deductible.result c.minus-after_copay.result
    c.minus-after_deductible.ensures.value c.minus-after_copay.ensures.value c.part-coins.ensures.within

pub returns : goal.returns
returns c = search rules
