use Rattle.std.proofs.Common.{sym, subst, rules}
use Rattle.settlement.specs.declared.outcome.Outcome.{Outcome}
use Rattle.settlement.specs.Accumulators.{after, AreInRange}
use Rattle.settlement.proofs.Outcomes.{some_where, settled_in_range}
use Rattle.settlement.proofs.deciding.after.Goals as goal

pub returns-clause-settled : goal.returns-clause-settled
returns-clause-settled c = λ plan claim is.
    let acc = c.args.acc in
    let kept : AreInRange acc → AreInRange (after acc c.args.decided.now) =
    λ before. subst (λ (o : Outcome). AreInRange (after acc o)) (sym is) (settled_in_range plan claim acc before) in
    search (rules, some_where)
