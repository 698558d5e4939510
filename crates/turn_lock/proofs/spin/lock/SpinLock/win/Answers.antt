use Rattle.std.proofs.lemmas.Grind.{common_steps}
use Rattle.std.proofs.Common.{rules, ap, ◌∙◌, arith}
use Rattle.turn_lock.proofs.SpinMoves.{takes_allowed}
use Rattle.turn_lock.proofs.spin.lock.SpinLock.win.Goals as goal

pub compare_exchange-word-requires : goal.compare_exchange-word-requires
compare_exchange-word-requires g c = (search rules, search rules, takes_allowed g.T.Growing.leads _ _ _ (ap (λ me. me.1) c.loop.invariant.1 ∙ c.requires.empty) g.T.Growing.reflexive)

pub returns-then-word-eq0-clause-won : goal.returns-then-word-eq0-clause-won
returns-then-word-eq0-clause-won g c = grind (arith, common_steps)

pub loop-preserved : goal.loop-preserved
loop-preserved g c = grind (arith, common_steps)
