-- The exit statuses of `check`, from those of its parts.
use Rattle.std.proofs.Common.{◌≡◌, ◌≢◌, ℕ, Bool, true, false, List, inl, inr, subst}
use Rattle.clap.specs.declared.parser.matches.ArgMatches.{ArgMatches}
use Rattle.check_report.specs.declared.check.report.Findings.{Findings}
use Rattle.check_report.specs.Findings.{IsReportedText}
use Rattle.orders.specs.Stop.{IsPlanReason}
use Rattle.console.specs.declared.exit_status.ExitStatus.{ExitStatus}
use Rattle.console.specs.declared.exit_status.ExitStatus.TheVariants.{Done, Refused}
use Rattle.value_command.specs.Ends.{HasText}
use Rattle.value_command.specs.Texts.{IsNamedPlan, Whole}
use Rattle.plan_commands.specs.WholePlans.{IsWholeChecked, IsWholeRefused}
use Rattle.claim_console.specs.Ends.{IsStatusOfRefusal}
use Rattle.commands.specs.Ends.{CheckIsDone, CheckIsRefused, IsChecked, IsUnchecked}
use Rattle.commands.specs.Words.{IsFindings, IsWhole}

-- the check of all tables together, or of each alone
pub whole_checked : (words : ArgMatches) (plan : List ℕ) (whole : Bool) (status : ExitStatus) → IsWhole words whole → whole ≡ true → (status ≡ Done → IsWholeChecked words plan)
    → status ≡ Done → IsChecked words plan
whole_checked words plan whole status asked is done is_done = inr (subst (IsWhole words) is asked, done is_done)

pub whole_unchecked : (words : ArgMatches) (plan : List ℕ) (whole : Bool) (status : ExitStatus) → IsWhole words whole → whole ≡ true → (status ≡ Refused → IsWholeRefused words plan status)
    → status ≡ Refused → IsUnchecked words plan status
whole_unchecked words plan whole status asked is refused is_refused = inr (subst (IsWhole words) is asked, refused is_refused)

pub tables_checked : (words : ArgMatches) (plan : List ℕ) (whole : Bool) (findings : Findings) (status : ExitStatus) → IsWhole words whole → whole ≡ false → IsFindings words findings
    → (status ≡ Done → HasText (IsReportedText findings plan)) → status ≡ Done → IsChecked words plan
tables_checked words plan whole findings status asked is reports done is_done =
    inl (record { each = subst (IsWhole words) is asked; findings = findings; reports = reports; has_text = done is_done })

pub tables_unchecked : (words : ArgMatches) (plan : List ℕ) (status : ExitStatus) → (status ≢ Done → IsStatusOfRefusal (IsPlanReason plan) status) → status ≡ Refused
    → IsUnchecked words plan status
tables_unchecked words plan status refused is_refused = inl (refused (λ is_done. cc (is_refused, is_done)))

-- the check of the named plan
pub check_done : (whole : Whole) (words : ArgMatches) (plan given : List ℕ) (status : ExitStatus) → IsNamedPlan whole words plan → given ≡ plan → (status ≡ Done → IsChecked words given)
    → status ≡ Done → CheckIsDone whole words
check_done whole words plan given status named same done is_done = record { plan = plan; named = named; checked = subst (IsChecked words) same (done is_done) }

pub check_refused : (whole : Whole) (words : ArgMatches) (plan given : List ℕ) (status : ExitStatus) → IsNamedPlan whole words plan → given ≡ plan
    → (status ≡ Refused → IsUnchecked words given status) → status ≡ Refused → CheckIsRefused whole words status
check_refused whole words plan given status named same refused is_refused =
    inl (record { plan = plan; named = named; refused = subst (λ text. IsUnchecked words text status) same (refused is_refused) })
