use Rattle.std.proofs.Common.{◌≡◌, ◌∙◌, IfOk, filter, subst, sym, ℕ}
use Rattle.cutplan.specs.Violations.{overlap_is_error}
use Rattle.check_report.specs.Findings.{overlaps_in}
use Rattle.check_report.proofs.check.report.reported_overlaps.Goals as goal

pub returns-in-Errors : goal.returns-in-Errors
returns-in-Errors c =
    subst (λ findings. IfOk c.violating_pairs.result (λ found. found.items ≡ overlaps_in findings c.args.plan.now c.args.table)) (sym c.in-Errors.is)
    (subst (λ xs. IfOk c.violating_pairs.result (λ found. found.items ≡ filter (λ (rules : ℕ × ℕ). overlap_is_error c.args.plan.now c.args.table rules.0 rules.1) xs)) (c.as_slice.ensures.value ∙ c.requires.all) c.violating_pairs.ensures)
