use Rattle.std.proofs.Common.{◌∙◌}
use Rattle.test_claims.proofs.settling.adjudicators.settles_after_a_refusal.Goals as goal

pub settles_next-requires : goal.settles_next-requires
settles_next-requires g c = c.decided_next.ensures ∙ c.desk-desk.ensures
