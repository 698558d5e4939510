use Rattle.std.proofs.Common.{rules}
use Rattle.cutplan.proofs.Between.{asked_at}
use Rattle.cutplan.proofs.cell_probe.CellProbe.ask.Goals as goal

pub invariant_of-self : goal.invariant_of-self
invariant_of-self c =
    let at = c.is_located_at.ensures in
    let yes = c.if-is_located_at.true in
    asked_at c.self.inside.rule.now c.self.inside.column c.self.inside.kind c.self.inside.cuts c.find_place-place.result c.args.value.now c.holds-answer.result c.self.invariant.own (search rules) c.holds-answer.ensures
