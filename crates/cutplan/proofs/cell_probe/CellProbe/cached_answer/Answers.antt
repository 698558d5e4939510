use Rattle.std.proofs.Common.{ap, sym, ◌∙◌, rules}
use Rattle.cutplan.specs.CheckSteps.{cell_holds}
use Rattle.cutplan.proofs.cell_probe.CellProbe.cached_answer.Goals as goal

pub returns-then-is_located_at : goal.returns-then-is_located_at
returns-then-is_located_at c =
    let at = c.is_located_at.ensures in
    let yes = c.if-is_located_at.true in
    sym (ap (λ cell. cell_holds cell c.args.value.now) (sym c.self.view_is) ∙ c.self.invariant.known c.in_ok-answer.answer (search rules) c.args.value.now (search rules))
