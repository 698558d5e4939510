use Rattle.std.proofs.Common.{◌≡◌, ◌↔◌, IsTrue, subst}
use Rattle.plan_zones.proofs.Parts.{new_part, old_part}
use Rattle.plan_zones.proofs.change.covered_change.Goals as goal

pub returns-clause-old : goal.returns-clause-old
returns-clause-old c =
    let same = c.are_same_texts-same.result in
    let decides =
    subst (λ one. IsTrue same ↔ (one ≡ c.args.theirs)) c.as_slice.ensures (subst (λ other. IsTrue same ↔ (c.as_slice.result.now ≡ other)) c.as_slice-2.ensures c.are_same_texts-same.ensures) in
    old_part c.args.terms c.args.others c.args.remarks c.args.theirs same decides c.terms_apart-part.result c.unless-kept.result c.terms_apart-part.ensures c.unless-kept.ensures

pub returns-clause-new : goal.returns-clause-new
returns-clause-new c =
    let same = c.are_same_texts-same.result in
    let decides =
    subst (λ one. IsTrue same ↔ (one ≡ c.args.theirs)) c.as_slice.ensures (subst (λ other. IsTrue same ↔ (c.as_slice.result.now ≡ other)) c.as_slice-2.ensures c.are_same_texts-same.ensures) in
    new_part c.args.terms c.args.others c.args.remarks c.args.theirs same decides c.terms_apart-other_part.result c.unless-other_kept.result c.terms_apart-other_part.ensures c.unless-other_kept.ensures
