use Rattle.std.proofs.Common.{◌∙◌}
use Rattle.test_claims.proofs.settling.adjudicators.settles_next.Goals as goal

pub decided_next-requires-in-Err : goal.decided_next-requires-in-Err
decided_next-requires-in-Err g c = c.decided_next.ensures ∙ c.requires
