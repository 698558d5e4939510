use Rattle.std.proofs.Common.{rules}
use Rattle.claim_gate.proofs.Tallies.{all_by_count}
use Rattle.claim_gate.proofs.intakes.Intakes.all_ended.Goals as goal

pub returns : goal.returns
returns c = rw (← c.self.view_is, ← all_by_count (λ x. x.ended) c.self.inside.each.items, c.self.invariant) (search rules)
