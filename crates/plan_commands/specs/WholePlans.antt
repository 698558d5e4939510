-- What `check --whole` says of a plan, and its exit statuses.
use Rattle.std.specs.Prelude.{◌≡◌, ◌⊎◌, ◌<◌, ◌&&◌, ℕ, Bool, true, false, List, [], ◌∷◌, Some, slice_get, Contains}
use Rattle.std.specs.List.{list_all}
use Rattle.std.specs.Option.{option_map_or}
use Rattle.feel_tests.specs.declared.value.Value.{Value}
use Rattle.faults.specs.declared.reason.Reason.{Reason}
use Rattle.faults.specs.declared.reason.Reason.TheVariants.{Outside}
use Rattle.faults.specs.declared.role_key.RoleKey.{RoleKey}
use Rattle.clap.specs.declared.parser.matches.ArgMatches.{ArgMatches}
use Rattle.tables.specs.Plan.{PlanParts}
use Rattle.dtable.specs.PlanFile.{IsPlanText}
use Rattle.plan_zones.specs.declared.fault.WholeFault.TheVariants as whole
use Rattle.plan_checks.specs.declared.dead.DeadParts.{DeadParts}
use Rattle.plan_checks.specs.declared.pending.PendingZones.{PendingZones}
use Rattle.plan_checks.specs.declared.pending.TheConstants.{ZONE_LIMIT}
use Rattle.plan_zones.specs.declared.zone_box.ZoneBox.{ZoneBox}
use Rattle.plan_checks.specs.Dead.{GivesAnswer, IsMet}
use Rattle.plan_zones.specs.Determined.{role_fault}
use Rattle.plan_checks.specs.Pending.{counted_zones}
use Rattle.plan_zones.specs.RulePlaces.{all_rules, all_tests}
use Rattle.plan_checks.specs.TableFaults.{FailsFor}
use Rattle.plan_zones.specs.Zones.{ArePossible}
use Rattle.evaluation.specs.declared.stop.ValueStop.TheVariants.{NoMemory}
use Rattle.evaluation.specs.Stop.{IsPlanReason, status_of}
use Rattle.console.specs.declared.exit_status.ExitStatus.{ExitStatus}
use Rattle.value_command.specs.Ends.{IsStatusOf}
use Rattle.plan_commands.specs.declared.whole_check.WholeStop.{WholeStop}
use Rattle.plan_commands.specs.declared.whole_check.WholeStop.TheVariants.{InputRole, Value as ValueStops}
use Rattle.plan_commands.specs.Words.{AsksFail, IsFail}

-- the reason is that a value is not allowed
abbrev pub is_outside : Reason → Bool
is_outside (Outside table column) = true
is_outside _ = false

-- the reason of each box is that a value is not allowed
abbrev pub are_allowed : List Reason → List ZoneBox → Bool
are_allowed reasons boxes = list_all (λ b. option_map_or is_outside (slice_get reasons b.outcome) true) boxes

-- there is no box
abbrev pub has_no_box : List ZoneBox → Bool
has_no_box [] = true
has_no_box (b ∷ boxes) = false

-- the list is empty
abbrev pub has_none : {X : Type 0} → List X → Bool
has_none [] = true
has_none (x ∷ xs) = false

-- nothing is listed but values that are not allowed
abbrev pub is_clean : PendingZones → DeadParts → Bool
is_clean found dead = has_none dead.rules && (has_none dead.tests && are_allowed found.reasons found.boxes)

-- some values that a claim can have fail for another reason than that a value is not allowed
pub record FailSomewhere (plan : PlanParts) : Type 0 where
  pub values : List Value
  pub reason : Reason
  pub possible : ArePossible plan values
  pub fails : FailsFor plan values reason
  pub not_outside : is_outside reason ≡ false

-- some part is of use at no values that a claim can have
pub record HasUnused {X : Type 0} (plan : PlanParts) (IsUsed : List Value → X → Type 0) (parts : List X) : Type 0 where
  pub part : X
  pub there : Contains parts part
  pub unused : (values : List Value) → ArePossible plan values → ¬ IsUsed values part

-- claims pend for another reason than that a value is not allowed, or a rule never gives the answer, or a test of a cell is met nowhere
abbrev pub HasMistake : PlanParts → Type 0
HasMistake plan = FailSomewhere plan ⊎ (HasUnused plan (GivesAnswer plan) (all_rules plan.tables) ⊎ HasUnused plan (IsMet plan) (all_tests plan.tables))

-- a plan is clean if it has no mistake; another one has a mistake, or more zones than the limit
abbrev pub IsJudged : PlanParts → Bool → Type 0
IsJudged plan true = ¬ HasMistake plan
IsJudged plan false = HasMistake plan ⊎ (ZONE_LIMIT < counted_zones plan)

-- the text denotes a plan that is clean, or is not
pub record IsJudgedText (text : List ℕ) (clean : Bool) : Type 0 where
  pub plan : PlanParts
  pub spelled : IsPlanText text plan
  pub judged : IsJudged plan clean

-- the text denotes a plan whose zones cannot be listed, since a role has the value of a name
pub record HasNoZones (text : List ℕ) : Type 0 where
  pub plan : PlanParts
  pub spelled : IsPlanText text plan
  pub role : RoleKey
  pub is_name : role_fault plan ≡ Some (whole.InputRole role)

-- there is no report on the plan for this reason
abbrev pub StopsPlan : PlanParts → WholeStop → Type 0
StopsPlan plan (ValueStops s) = s ≡ NoMemory
StopsPlan plan (InputRole role) = role_fault plan ≡ Some (whole.InputRole role)

-- there is no report on the plan of the text for this reason
abbrev pub StopsText : List ℕ → WholeStop → Type 0
StopsText text (ValueStops s) = IsPlanReason text s
StopsText text (InputRole role) = HasNoZones text

-- the status is that of an error of the plan's text, or the plan's zones cannot be listed
abbrev pub IsUnlisted : List ℕ → ExitStatus → Type 0
IsUnlisted text status = IsStatusOf status_of (IsPlanReason text) status ⊎ HasNoZones text

-- the check of a whole plan can end with `Done`: the text denotes a plan, which is clean where the command line has `--fail`
pub record IsWholeChecked (words : ArgMatches) (text : List ℕ) : Type 0 where
  pub clean : Bool
  pub judged : IsJudgedText text clean
  pub asked : AsksFail words → clean ≡ true

-- the check of a whole plan can end with this status: there is no report, or the plan is not clean and this is an error
abbrev pub IsWholeRefused : ArgMatches → List ℕ → ExitStatus → Type 0
IsWholeRefused words text status = IsUnlisted text status ⊎ (IsFail words × IsJudgedText text false)
