use Rattle.std.proofs.Common.{◌≡◌, is_some, ap, sym, ◌∙◌}
use Rattle.tables.specs.Plan.{keeps_families}
use Rattle.settlement.specs.Fields.{have_kinds}
use Rattle.settlement.proofs.Fields.{claim_from_test, compared_same, same_compared, test_from_claim}
use Rattle.settlement.proofs.claim.Claim.is_of.Goals as goal

pub returns-then-is_some-keeps_families : goal.returns-then-is_some-keeps_families
returns-then-is_some-keeps_families c =
    let plan = c.args.plan.now in
    let claim = c.args.self.now in
    let fields = c.fields_of.result.now in
    let family : is_some claim.family ≡ keeps_families plan =
    sym c.is_some.ensures ∙ compared_same c.is_some.result c.keeps_families.result c.if-is_some-keeps_families.true ∙ c.keeps_families.ensures in
    let tested : c.have_kinds.result ≡ have_kinds claim.fields fields = c.have_kinds.ensures ∙ ap (λ vs. have_kinds vs fields) c.as_slice.ensures in (
      λ passes. claim_from_test plan claim fields c.fields_of.ensures family (sym tested ∙ passes),
      λ is. tested ∙ test_from_claim plan claim fields c.fields_of.ensures is,
    )

pub returns-else-is_some-keeps_families : goal.returns-else-is_some-keeps_families
returns-else-is_some-keeps_families c =
    let differ = c.if-is_some-keeps_families.false in (
      λ passes. let never = sym differ ∙ passes in cc,
      λ is. same_compared c.is_some.result c.keeps_families.result (c.is_some.ensures ∙ is.family ∙ sym c.keeps_families.ensures),
    )
