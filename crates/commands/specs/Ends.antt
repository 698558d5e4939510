-- The meaning of the exit statuses of the commands.
use Rattle.std.specs.Prelude.{◌≡◌, ◌⊎◌, ℕ, true, false, List, Option, Result, Ok, Err}
use Rattle.clap.specs.declared.error.Error.{Error}
use Rattle.clap.specs.declared.parser.matches.ArgMatches.{ArgMatches}
use Rattle.console.specs.declared.exit_status.ExitStatus.{ExitStatus}
use Rattle.console.specs.declared.names.TheConstants.{AUDIT, CHECK, COMPARE, EXPLAIN_RECORD, RUN}
use Rattle.value_command.specs.Ends.{Ends, HasText, IsHelp}
use Rattle.value_command.specs.Texts.{IsNamedPlan, Whole}
use Rattle.check_report.specs.declared.check.report.Findings.{Findings}
use Rattle.journal.specs.declared.order.Order.{Order}
use Rattle.orders.specs.RunTexts.{IsOrderedRemittance}
use Rattle.orders.specs.Stop.{IsPlanReason}
use Rattle.check_report.specs.Findings.{IsReportedText}
use Rattle.claim_console.specs.Ends.{IsStatusOfRefusal}
use Rattle.run_command.specs.Ends.{RunIsDone, RunIsRefused}
use Rattle.claim_console.specs.Texts.{HasNamedTexts, texts_at}
use Rattle.claim_console.specs.Words.{IsCutoff, IsOrder, IsStrict}
use Rattle.claim_console.specs.declared.texts.Texts.{Texts}
use Rattle.adjudicate.specs.Audits.{IsAuditReason}
use Rattle.commands.specs.Comparisons.{ClaimsAreCompared, ClaimsAreRefused}
use Rattle.commands.specs.Explanations.{ExplainIsDone, ExplainIsRefused}
use Rattle.plan_commands.specs.Ends.{PlanCommandIsDone, PlanCommandIsRefused}
use Rattle.commands.specs.Texts.{IsNamedRemittance}
use Rattle.plan_commands.specs.WholePlans.{IsWholeChecked, IsWholeRefused}
use Rattle.commands.specs.Words.{IsFindings, IsWhole}

-- each table of the plan is checked alone: the plan has an output text, with the gaps and overlaps that the option selects
pub record AreTablesChecked (words : ArgMatches) (plan : List ℕ) : Type 0 where
  pub each : IsWhole words false
  pub findings : Findings
  pub reports : IsFindings words findings
  pub has_text : HasText (IsReportedText findings plan)

-- each table of the plan is checked alone, or all of them together
abbrev pub IsChecked : ArgMatches → List ℕ → Type 0
IsChecked words plan = AreTablesChecked words plan ⊎ (IsWhole words true × IsWholeChecked words plan)

-- this is the exit status of an error of the plan, or of a check of all tables together
abbrev pub IsUnchecked : ArgMatches → List ℕ → ExitStatus → Type 0
IsUnchecked words plan status = IsStatusOfRefusal (IsPlanReason plan) status ⊎ (IsWhole words true × IsWholeRefused words plan status)

-- `check` can end with `Done`: the named plan is checked
pub record CheckIsDone (whole : Whole) (words : ArgMatches) : Type 0 where
  pub plan : List ℕ
  pub named : IsNamedPlan whole words plan
  pub checked : IsChecked words plan

-- this is the exit status of an error of a check of the named plan
pub record PlanIsRefused (whole : Whole) (words : ArgMatches) (status : ExitStatus) : Type 0 where
  pub plan : List ℕ
  pub named : IsNamedPlan whole words plan
  pub refused : IsUnchecked words plan status

-- `check` can end with this status: it is that of an error of a check of the named plan, or unknown keys are errors
abbrev pub CheckIsRefused : Whole → ArgMatches → ExitStatus → Type 0
CheckIsRefused whole words status = PlanIsRefused whole words status ⊎ IsStrict words

-- the bytes are the remittance of these texts, at the cutoff and in the order of the command line
pub record IsAudited (words : ArgMatches) (texts : Texts) (remittance : List ℕ) : Type 0 where
  pub cutoff : Option ℕ
  pub asked : IsCutoff words cutoff
  pub order : Order
  pub ordered : IsOrder words order
  pub is_remittance : IsOrderedRemittance order (texts_at texts cutoff) remittance

-- the bytes are not the remittance of these texts, at the cutoff and in the order of the command line, or this is the exit status of an
-- error of an audit of them
pub record IsRefusedAudit (words : ArgMatches) (texts : Texts) (remittance : List ℕ) (status : ExitStatus) : Type 0 where
  pub cutoff : Option ℕ
  pub asked : IsCutoff words cutoff
  pub order : Order
  pub ordered : IsOrder words order
  pub refused : (¬ IsOrderedRemittance order (texts_at texts cutoff) remittance) ⊎ IsStatusOfRefusal (IsAuditReason (texts_at texts cutoff)) status

-- `audit` can end with `Done`: the named remittance is the one of the named texts
pub record AuditIsDone (whole : Whole) (words : ArgMatches) : Type 0 where
  pub texts : Texts
  pub named : HasNamedTexts whole words texts
  pub remittance : List ℕ
  pub named_remittance : IsNamedRemittance whole words remittance
  pub audited : IsAudited words texts remittance

-- the named remittance is not the one of the named texts, or this is the exit status of an error of an audit of them
pub record TextsAreRefusedInAudit (whole : Whole) (words : ArgMatches) (status : ExitStatus) : Type 0 where
  pub texts : Texts
  pub named : HasNamedTexts whole words texts
  pub remittance : List ℕ
  pub named_remittance : IsNamedRemittance whole words remittance
  pub refused : IsRefusedAudit words texts remittance status

-- `audit` can end with this status; unknown keys may be errors
abbrev pub AuditIsRefused : Whole → ArgMatches → ExitStatus → Type 0
AuditIsRefused whole words status = TextsAreRefusedInAudit whole words status ⊎ IsStrict words

-- the named command can end with `Done`
abbrev pub CommandIsDone : Whole → ArgMatches → Type 0
CommandIsDone whole matches =
    Ends matches CHECK.now (CheckIsDone whole)
    ⊎ (Ends matches RUN.now (RunIsDone whole)
    ⊎ (Ends matches AUDIT.now (AuditIsDone whole)
    ⊎ (Ends matches EXPLAIN_RECORD.now (ExplainIsDone whole)
    ⊎ (Ends matches COMPARE.now (ClaimsAreCompared whole) ⊎ PlanCommandIsDone whole matches))))

-- the named command can end with this status of an error
abbrev pub CommandIsRefused : Whole → ArgMatches → ExitStatus → Type 0
CommandIsRefused whole matches status =
    Ends matches CHECK.now (λ words. CheckIsRefused whole words status)
    ⊎ (Ends matches RUN.now (λ words. RunIsRefused whole words status)
    ⊎ (Ends matches AUDIT.now (λ words. AuditIsRefused whole words status)
    ⊎ (Ends matches EXPLAIN_RECORD.now (λ words. ExplainIsRefused whole words status)
    ⊎ (Ends matches COMPARE.now (λ words. ClaimsAreRefused whole words status) ⊎ PlanCommandIsRefused whole matches status))))

-- the command line names a command that can end with `Done`, or it asks for help or the version
abbrev pub IsDone : Whole → Result ArgMatches Error → Type 0
IsDone whole (Ok matches) = CommandIsDone whole matches
IsDone whole (Err fault) = IsHelp fault

-- the command line names a command that can end with this status of an error
abbrev pub IsRefused : Whole → Result ArgMatches Error → ExitStatus → Type 0
IsRefused whole (Ok matches) status = CommandIsRefused whole matches status
IsRefused whole (Err fault) status = ⊥
