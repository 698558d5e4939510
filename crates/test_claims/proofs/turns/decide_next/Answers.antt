use Rattle.std.proofs.Common.{Option, subst}
use Rattle.std.specs.Option.{IfSome}
use Rattle.journal.specs.Calls.{IsInWork}
use Rattle.journal.specs.declared.ready_claim.ReadyClaim.{ReadyClaim}
use Rattle.test_claims.proofs.turns.decide_next.Goals as goal

pub decide-requires : goal.decide-requires
decide-requires g c = subst (λ (found : Option ReadyClaim). IfSome found (λ picked. IsInWork c.take.new.lanes picked.position)) c.expect-picked.ensures c.take.ensures.work
