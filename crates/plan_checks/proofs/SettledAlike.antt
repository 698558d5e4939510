-- Plans between which no change is listed settle alike.
use Rattle.std.proofs.Common.{◌≡◌, inl, inr, false, refl, ap, sym, ◌∙◌}
use Rattle.settlement.specs.declared.determination.Determination.{Determination}
use Rattle.settlement.specs.declared.determination.Determination.TheVariants as determined
use Rattle.settlement.specs.Settlement.{outcome_from}
use Rattle.plan_zones.specs.Changes.{UnlistedSettleAlike, looked_at}
use Rattle.plan_zones.specs.Determined.{determination_at}
use Rattle.plan_zones.specs.Joint.{by_places}

-- with remarks, all of a determination is compared
all_looked_at : (d : Determination) → looked_at false d ≡ d
all_looked_at (determined.Pended reason) = refl
all_looked_at (determined.Denied remarks) = refl
all_looked_at (determined.Covered terms remarks) = refl

pub unlisted_settle_alike : UnlistedSettleAlike
unlisted_settle_alike plans joint exact values possible billed acc =
    let old = determination_at plans.old (by_places joint.old values) in
    let new = determination_at plans.new (by_places joint.new values) in
    let same : looked_at false old ≡ looked_at false new = elim (exact values possible).either [ inl equal ↦ equal | inr listed ↦ absurd listed ] in
    ap (outcome_from billed acc) (sym (all_looked_at old) ∙ same ∙ all_looked_at new)
