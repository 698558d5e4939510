use Rattle.std.proofs.lemmas.Grind.{common_steps}
use Rattle.std.proofs.Common.{rules, arith}
use Rattle.turn_lock.proofs.SpinMoves.{frees_allowed}
use Rattle.turn_lock.proofs.spin.lock.SpinLockSection.leave.Goals as goal

pub store-requires : goal.store-requires
store-requires g c = (
  search rules,
  search rules,
  frees_allowed g.T.Growing.leads _ _ _ c.args.value (search rules) (search rules) (search rules) g.T.Growing.reflexive g.T.Growing.transitive,
)

pub returns-clause-seen : goal.returns-clause-seen
returns-clause-seen g c = grind (arith, common_steps)

pub returns-clause-last : goal.returns-clause-last
returns-clause-last g c = grind (arith, common_steps)
