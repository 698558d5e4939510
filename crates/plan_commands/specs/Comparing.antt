-- What `compare` says of two plans, and its exit statuses.
use Rattle.std.specs.Prelude.{◌≡◌, ◌≢◌, ◌⊎◌, ◌<◌, ℕ, Bool, true, false, List, [], ◌∷◌, length, Contains, Option, Some, None, slice_get, if◌then◌else◌}
use Rattle.std.specs.List.{AllZip}
use Rattle.std.specs.Option.{option_or}
use Rattle.std.specs.Str.{bytes_eq}
use Rattle.feel_tests.specs.Cell.{SpellsCell}
use Rattle.feel_tests.specs.declared.cell.Cell.{Cell}
use Rattle.feel_tests.specs.declared.kind.Kind.{Kind}
use Rattle.feel_tests.specs.declared.value.Value.{Value}
use Rattle.clap.specs.declared.parser.matches.ArgMatches.{ArgMatches}
use Rattle.tables.specs.Limits.{plan_limit_bytes}
use Rattle.tables.specs.declared.table.InputData.{InputData}
use Rattle.tables.specs.Plan.{PlanParts}
use Rattle.dtable.specs.PlanFile.{IsPlanText}
use Rattle.evaluation.specs.Arguments.{IsSplit, equals_sign}
use Rattle.evaluation.specs.Stop.{IsPlanReason, status_of}
use Rattle.plan_zones.specs.declared.compare_fault.CompareFault.{CompareFault}
use Rattle.plan_zones.specs.declared.compare_fault.CompareFault.TheVariants as compare
use Rattle.plan_zones.specs.declared.compare_fault.Side.{Side}
use Rattle.plan_zones.specs.declared.compare_fault.Side.TheVariants.{Old, New}
use Rattle.plan_zones.specs.declared.comparing.Comparing.{Comparing}
use Rattle.plan_zones.specs.declared.joint.JointNames.{JointNames}
use Rattle.plan_zones.specs.declared.joint.Rename.{Rename}
use Rattle.plan_zones.specs.declared.joint_regions.Narrowing.{Narrowing}
use Rattle.plan_checks.specs.declared.pending.TheConstants.{ZONE_LIMIT}
use Rattle.plan_zones.specs.Changes.{Differ, IsCompareRefusal, counted_joint_zones, names_of, plans_of, says}
use Rattle.plan_zones.specs.Joint.{AreJointPossible, ArePlaced, place_of_new, place_of_old}
use Rattle.console.specs.declared.exit_status.ExitStatus.{ExitStatus}
use Rattle.console.specs.declared.names.TheConstants.{NARROWED, OLD, RENAMED, TERMS}
use Rattle.value_command.specs.Ends.{IsStatusOf}
use Rattle.value_command.specs.Texts.{IsNamedPlan, IsNamedText, Whole}
use Rattle.value_command.specs.Words.{IsFlag, text_at, word_at, words_at}
use Rattle.plan_commands.specs.declared.compare_report.CompareStop.{CompareStop}
use Rattle.plan_commands.specs.declared.compare_report.CompareStop.TheVariants.{Plans, Text, Word}
use Rattle.plan_commands.specs.declared.compare_words.WordFault.{WordFault}
use Rattle.plan_commands.specs.declared.compare_words.WordFault.TheVariants as word
use Rattle.plan_commands.specs.Words.{AsksFail, IsFail}

-- the bytes are read from the named old plan
abbrev pub IsNamedOld : Whole → ArgMatches → List ℕ → Type 0
IsNamedOld whole matches plan = IsNamedText plan_limit_bytes whole (word_at matches OLD.now) plan

-- a word of `--as`: the name in the old plan, `=`, and the name in the new plan
abbrev pub IsRename : List ℕ → Rename → Type 0
IsRename word r = IsSplit word r.old.now r.new.now

-- the kind of the values of the first name with this text
abbrev pub kind_named : List InputData → List ℕ → Option Kind
kind_named [] name = None
kind_named (d ∷ ds) name = if bytes_eq d.name name then Some d.kind else kind_named ds name

-- the kind of the values of a name: that in the new plan, or that in the old plan if the new one does not have the name
abbrev pub kind_in : PlanParts → PlanParts → List ℕ → Option Kind
kind_in old new name = option_or (kind_named new.names name) (kind_named old.names name)

-- a word of `--where`: a name, `=`, and the text of a cell for the values of the name
pub record IsNarrowing (old new : PlanParts) (word : List ℕ) (w : Narrowing) : Type 0 where
  pub text : List ℕ
  pub split : IsSplit word w.name.now text
  pub kind : Kind
  pub of_name : kind_in old new w.name.now ≡ Some kind
  pub spelled : SpellsCell kind text w.cell

-- the comparison that the command line asks for
pub record IsAsked (words : ArgMatches) (old new : PlanParts) (comparing : Comparing) : Type 0 where
  pub renames : AllZip IsRename (words_at words RENAMED.now) comparing.renames.now
  pub narrowed : AllZip (IsNarrowing old new) (words_at words NARROWED.now) comparing.narrowed.now
  pub terms : IsFlag (text_at words TERMS.now) comparing.terms_only

-- the names of two plans, joined
pub record AreJoint (old new : PlanParts) (comparing : Comparing) (joint : JointNames) : Type 0 where
  pub names : joint.names ≡ names_of old new comparing
  pub old_places : ArePlaced (place_of_old joint.names) (length old.names) joint.old
  pub new_places : ArePlaced (place_of_new joint.names) (length new.names) joint.new

-- the plans say different things of a claim with some values that it can have
pub record DifferSomewhere (old new : PlanParts) (comparing : Comparing) : Type 0 where
  pub joint : JointNames
  pub are_joint : AreJoint old new comparing joint
  pub values : List Value
  pub possible : AreJointPossible (plans_of old new comparing) joint.names values
  pub differ : Differ comparing.terms_only (plans_of old new comparing) joint values

-- the plans say the same of each claim
pub record SayTheSame (old new : PlanParts) (comparing : Comparing) : Type 0 where
  pub joint : JointNames
  pub are_joint : AreJoint old new comparing joint
  pub same : (values : List Value) → AreJointPossible (plans_of old new comparing) joint.names values
      → says comparing.terms_only old joint.old values ≡ says comparing.terms_only new joint.new values

-- the plans are compared: they say the same, or they differ somewhere, or they have more zones than the limit
abbrev pub AreCompared : PlanParts → PlanParts → Comparing → Bool → Type 0
AreCompared old new comparing true = SayTheSame old new comparing
AreCompared old new comparing false = DifferSomewhere old new comparing ⊎ (ZONE_LIMIT < counted_joint_zones (plans_of old new comparing) (names_of old new comparing))

-- the plans are compared as the command line asks
pub record AreComparedPlans (words : ArgMatches) (old new : PlanParts) (same : Bool) : Type 0 where
  pub comparing : Comparing
  pub asked : IsAsked words old new comparing
  pub compared : AreCompared old new comparing same

-- the texts denote two plans, which are compared as the command line asks
pub record AreComparedTexts (words : ArgMatches) (old new : List ℕ) (same : Bool) : Type 0 where
  pub old_plan : PlanParts
  pub new_plan : PlanParts
  pub old_spelled : IsPlanText old old_plan
  pub new_spelled : IsPlanText new new_plan
  pub compared : AreComparedPlans words old_plan new_plan same

-- a word of an option has no `=`
pub record HasNoEquals (words : List (List ℕ)) (index : ℕ) : Type 0 where
  pub word : List ℕ
  pub at : slice_get words index ≡ Some word
  pub without : ¬ Contains word equals_sign

-- no plan has the name before the first `=` of the word
pub record HasUnknownName (old new : PlanParts) (word : List ℕ) : Type 0 where
  pub name : List ℕ
  pub cell : List ℕ
  pub split : IsSplit word name cell
  pub unknown : kind_in old new name ≡ None

-- the text after the first `=` of the word is no cell for the values of the name before it
pub record HasNoCell (old new : PlanParts) (word : List ℕ) : Type 0 where
  pub name : List ℕ
  pub text : List ℕ
  pub split : IsSplit word name text
  pub kind : Kind
  pub of_name : kind_in old new name ≡ Some kind
  pub refused : (cell : Cell) → ¬ SpellsCell kind text cell

-- the word of `--where` with this index is refused for this, or memory ran out
abbrev pub IsRefusedWord : PlanParts → PlanParts → ℕ → List ℕ → WordFault → Type 0
IsRefusedWord old new index text (word.NoCell own) = (own ≡ index) × ¬ Contains text equals_sign
IsRefusedWord old new index text (word.Unknown own) = (own ≡ index) × HasUnknownName old new text
IsRefusedWord old new index text (word.Cell own at) = (own ≡ index) × HasNoCell old new text
IsRefusedWord old new index text word.OutOfMemory = Unit {0}
IsRefusedWord old new index text _ = ⊥

-- a word of `--as` is refused for this, or memory ran out
abbrev pub IsRenameStop : List (List ℕ) → WordFault → Type 0
IsRenameStop words (word.NoNewName index) = HasNoEquals words index
IsRenameStop words word.OutOfMemory = Unit {0}
IsRenameStop words _ = ⊥

-- a word of `--where` is refused for this, or memory ran out
pub record IsNarrowingStop (old new : PlanParts) (words : List (List ℕ)) (fault : WordFault) : Type 0 where
  pub index : ℕ
  pub text : List ℕ
  pub at : slice_get words index ≡ Some text
  pub refused : IsRefusedWord old new index text fault

-- a word of the command line is refused, for a reason other than a lack of memory
pub record AreRefusedWords (words : ArgMatches) (old new : PlanParts) (fault : WordFault) : Type 0 where
  pub refused : IsRenameStop (words_at words RENAMED.now) fault ⊎ IsNarrowingStop old new (words_at words NARROWED.now) fault
  pub known : fault ≢ word.OutOfMemory

-- the plans cannot be compared so, for a reason other than a lack of memory
pub record CannotCompare (old new : PlanParts) (comparing : Comparing) (fault : CompareFault) : Type 0 where
  pub refused : IsCompareRefusal old new comparing ZONE_LIMIT fault
  pub known : fault ≢ compare.OutOfMemory

-- the plans cannot be compared as the command line asks
pub record ArePlansRefused (words : ArgMatches) (old new : PlanParts) (fault : CompareFault) : Type 0 where
  pub comparing : Comparing
  pub asked : IsAsked words old new comparing
  pub cannot : CannotCompare old new comparing fault

-- there is no report on the plans, compared so, for this reason
abbrev pub StopsComparing : PlanParts → PlanParts → Comparing → CompareStop → Type 0
StopsComparing old new comparing (Plans fault) = (fault ≡ compare.OutOfMemory) ⊎ CannotCompare old new comparing fault
StopsComparing old new comparing _ = ⊥

-- there is no report on the plans, compared as the command line asks, for this reason
abbrev pub StopsPlans : ArgMatches → PlanParts → PlanParts → CompareStop → Type 0
StopsPlans words old new (Text side s) = ⊥
StopsPlans words old new (Word fault) = (fault ≡ word.OutOfMemory) ⊎ AreRefusedWords words old new fault
StopsPlans words old new (Plans fault) = (fault ≡ compare.OutOfMemory) ⊎ ArePlansRefused words old new fault

-- the text on a side is refused for this reason
abbrev pub IsTextStop : Side → List ℕ → CompareStop → Type 0
IsTextStop side text (Text own s) = (own ≡ side) × IsPlanReason text s
IsTextStop side text _ = ⊥

-- the texts denote two plans with this property
pub record DenotePlans (old new : List ℕ) (Property : PlanParts → PlanParts → Type 0) : Type 0 where
  pub old_plan : PlanParts
  pub new_plan : PlanParts
  pub old_spelled : IsPlanText old old_plan
  pub new_spelled : IsPlanText new new_plan
  pub are_so : Property old_plan new_plan

-- the text of the plan on a side
abbrev pub text_on : Side → List ℕ → List ℕ → List ℕ
text_on Old old new = old
text_on New old new = new

-- there is no report on the plans of the texts for this reason
abbrev pub StopsTexts : ArgMatches → List ℕ → List ℕ → CompareStop → Type 0
StopsTexts words old new (Text side s) = IsPlanReason (text_on side old new) s
StopsTexts words old new stop = DenotePlans old new (λ p q. StopsPlans words p q stop)

-- a word of the command line is refused, or the plans cannot be compared as it asks
abbrev pub HaveNoComparison : ArgMatches → PlanParts → PlanParts → Type 0
HaveNoComparison words old new = ((fault : WordFault) × AreRefusedWords words old new fault) ⊎ ((fault : CompareFault) × ArePlansRefused words old new fault)

-- the status is that of an error of the text of a plan, or the plans cannot be compared
abbrev pub AreUncompared : ArgMatches → List ℕ → List ℕ → ExitStatus → Type 0
AreUncompared words old new status =
    IsStatusOf status_of (IsPlanReason old) status ⊎ (IsStatusOf status_of (IsPlanReason new) status ⊎ DenotePlans old new (HaveNoComparison words))

-- the comparison can end with `Done`: where the command line has `--fail`, the plans say the same of each claim
pub record AreComparedAsAsked (words : ArgMatches) (old new : List ℕ) : Type 0 where
  pub same : Bool
  pub compared : AreComparedTexts words old new same
  pub asked : AsksFail words → same ≡ true

-- the comparison can end with this status: there is no report, or the plans do not say the same of each claim and this is an error
abbrev pub AreRefused : ArgMatches → List ℕ → List ℕ → ExitStatus → Type 0
AreRefused words old new status = AreUncompared words old new status ⊎ (IsFail words × AreComparedTexts words old new false)

-- `compare` can end with `Done`: the named plans are compared
pub record PlansAreCompared (whole : Whole) (words : ArgMatches) : Type 0 where
  pub old : List ℕ
  pub named_old : IsNamedOld whole words old
  pub new : List ℕ
  pub named_new : IsNamedPlan whole words new
  pub compared : AreComparedAsAsked words old new

-- `compare` can end with this status: the named plans are refused, or differ
pub record PlansAreRefused (whole : Whole) (words : ArgMatches) (status : ExitStatus) : Type 0 where
  pub old : List ℕ
  pub named_old : IsNamedOld whole words old
  pub new : List ℕ
  pub named_new : IsNamedPlan whole words new
  pub refused : AreRefused words old new status
