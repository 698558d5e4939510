-- The output for a plan is the output for the text that denotes the plan.
use Rattle.std.proofs.Common.{◌≡◌, ℕ, List}
use Rattle.tables.specs.Plan.{PlanParts}
use Rattle.dtable.specs.PlanFile.{IsPlanText}
use Rattle.check_report.specs.declared.check.report.Findings.{Findings}
use Rattle.check_report.specs.declared.check.report.Findings.TheVariants.{All, Errors}
use Rattle.check_report.specs.Findings.{IsReportedText, text_in}

-- this holds for all findings and for the errors alone
pub reported_is_spelled : (findings : Findings) (plan_text : List ℕ) (plan : PlanParts) (text : List ℕ) → IsPlanText plan_text plan → text ≡ text_in findings plan
    → IsReportedText findings plan_text text
reported_is_spelled All plan_text plan text spelled lines = record { plan = plan; spelled = spelled; lines = lines }
reported_is_spelled Errors plan_text plan text spelled lines = record { plan = plan; spelled = spelled; lines = lines }
