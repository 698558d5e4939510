use Rattle.std.proofs.Common.{subst}
use Rattle.std.proofs.lemmas.List.{take_all}
use Rattle.cutplan.specs.Masks.{Marks}
use Rattle.cutplan.specs.CheckSteps.{share, share_all}
use Rattle.cutplan.specs.CompiledColumns.{masks_kept}
use Rattle.cutplan.proofs.Partners.{share_more, share_none}
use Rattle.cutplan.proofs.rule_pairs.partners.Goals as goal

pub columns-init : goal.columns-init
columns-init c = share_none c.args.rule c.first_rules-mask.result c.first_rules-mask.ensures

pub columns-preserved : goal.columns-preserved
columns-preserved c =
    share_more c.args.columns.now c.columns.column-index c.args.rule c.column-item.result c.columns.mask c.sharing_rules-shared.result c.meet-mask.result c.columns-test.true c.column-item.is c.columns.invariant
    (subst (λ ms. Marks (share ms c.args.rule) c.sharing_rules-shared.result) c.as_slice.ensures c.sharing_rules-shared.ensures) c.meet-mask.ensures.words c.meet-mask.ensures.has

pub returns : goal.returns
returns c = subst (λ cs. Marks (share_all (masks_kept cs) c.args.rule) c.columns.mask) (take_all c.columns.column-index c.args.columns.now c.columns-test.false) c.columns.invariant
