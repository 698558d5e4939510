-- The comparison of two plans: what its boxes say, why there may be no report, and the statuses that follow.
use Rattle.std.proofs.Common.{◌≡◌, ◌≢◌, ◌<◌, ◌⊎◌, ℕ, Bool, true, false, List, [], ◌∷◌, Result, IfErr, IfOk, inl, inr, refl, sym, subst}
use Rattle.std.proofs.lemmas.Result.{IfErr-weaker, IfOk-weaker}
use Rattle.clap.specs.declared.parser.matches.ArgMatches.{ArgMatches}
use Rattle.tables.specs.Plan.{PlanParts}
use Rattle.dtable.specs.PlanFile.{IsPlanText}
use Rattle.plan_zones.specs.declared.compare_fault.CompareFault.{CompareFault}
use Rattle.plan_zones.specs.declared.compare_fault.CompareFault.TheVariants as compare
use Rattle.plan_zones.specs.declared.compare_fault.Side.{Side}
use Rattle.plan_zones.specs.declared.compare_fault.Side.TheVariants.{Old, New}
use Rattle.plan_zones.specs.declared.comparing.Comparing.{Comparing}
use Rattle.plan_zones.specs.declared.joint.JointNames.{JointNames}
use Rattle.plan_checks.specs.declared.pending.TheConstants.{ZONE_LIMIT}
use Rattle.plan_zones.specs.declared.zone_box.ZoneBox.{ZoneBox}
use Rattle.plan_zones.specs.Changes.{DifferExactlyIn, HoldJointValues, IsCompareRefusal, plans_of}
use Rattle.evaluation.specs.declared.stop.ValueStop.{ValueStop}
use Rattle.evaluation.specs.Stop.{IsPlanReason, status_of}
use Rattle.console.specs.declared.exit_status.ExitStatus.{ExitStatus}
use Rattle.console.specs.declared.exit_status.ExitStatus.TheVariants.{Done, Refused, Resource}
use Rattle.console.specs.ExitStatus.{code_of}
use Rattle.value_command.specs.Texts.{IsNamedPlan, Whole}
use Rattle.plan_commands.specs.declared.compare_report.CompareReport.{CompareReport}
use Rattle.plan_commands.specs.declared.compare_report.CompareStop.{CompareStop}
use Rattle.plan_commands.specs.declared.compare_report.CompareStop.TheVariants.{Plans, Text, Word}
use Rattle.plan_commands.specs.declared.compare_words.WordFault.{WordFault}
use Rattle.plan_commands.specs.declared.compare_words.WordFault.TheVariants as word
use Rattle.plan_commands.specs.Comparing.{AreCompared, AreComparedAsAsked, AreComparedPlans, AreComparedTexts, AreJoint, AreRefused, AreUncompared, IsAsked, IsNamedOld, IsTextStop, PlansAreCompared, PlansAreRefused, StopsComparing, StopsPlans, StopsTexts, text_on}
use Rattle.plan_commands.specs.WholePlans.{has_no_box}
use Rattle.plan_commands.specs.Words.{AsksFail, IsFail}

-- without a box the plans say the same of each claim, and the first box has values at which they do not
compared_by : (old new : PlanParts) (comparing : Comparing) (joint : JointNames) (boxes : List ZoneBox) → AreJoint old new comparing joint
    → DifferExactlyIn comparing.terms_only (plans_of old new comparing) joint boxes → HoldJointValues (plans_of old new comparing) joint.names boxes
    → AreCompared old new comparing (has_no_box boxes)
compared_by old new comparing joint [] are exact held =
    record { joint = joint; are_joint = are; same = λ values possible. elim (exact values possible).either [ inl is ↦ is | inr none ↦ absurd none ] }
compared_by old new comparing joint (b ∷ boxes) are exact held =
    inl (record {
      joint = joint;
      are_joint = are;
      values = held.0.values;
      possible = held.0.possible;
      differ = (exact held.0.values held.0.possible).differ (inl held.0.lie);
    })

pub compared_as : (old new : PlanParts) (comparing : Comparing) (joint : JointNames) (boxes : List ZoneBox) (same : Bool) → same ≡ has_no_box boxes → AreJoint old new comparing joint
    → DifferExactlyIn comparing.terms_only (plans_of old new comparing) joint boxes → HoldJointValues (plans_of old new comparing) joint.names boxes
    → AreCompared old new comparing same
compared_as old new comparing joint boxes same is are exact held = subst (AreCompared old new comparing) (sym is) (compared_by old new comparing joint boxes are exact held)

-- plans with more zones than the limit are not compared
pub wide_compared : (old new : PlanParts) (comparing : Comparing) (zones : ℕ) (same : Bool) → IsCompareRefusal old new comparing ZONE_LIMIT (compare.TooWide zones) → same ≡ false
    → AreCompared old new comparing same
wide_compared old new comparing zones same wide is =
    subst (AreCompared old new comparing) (sym is) (inr (subst (λ count. ZONE_LIMIT < count) wide.0 wide.1))

-- a fault is a lack of memory, or it is not
compare_memory : (fault : CompareFault) → (fault ≡ compare.OutOfMemory) ⊎ (fault ≢ compare.OutOfMemory)
compare_memory compare.OutOfMemory = inl refl
compare_memory (compare.NoRoles side) = inr (λ is. cc is)
compare_memory (compare.InputRole side role) = inr (λ is. cc is)
compare_memory compare.Families = inr (λ is. cc is)
compare_memory (compare.NoOldName index) = inr (λ is. cc is)
compare_memory (compare.NoNewName index) = inr (λ is. cc is)
compare_memory (compare.Merged index) = inr (λ is. cc is)
compare_memory (compare.TwoKinds index) = inr (λ is. cc is)
compare_memory (compare.NoNarrowed index) = inr (λ is. cc is)
compare_memory (compare.TooWide zones) = inr (λ is. cc is)

word_memory : (fault : WordFault) → (fault ≡ word.OutOfMemory) ⊎ (fault ≢ word.OutOfMemory)
word_memory word.OutOfMemory = inl refl
word_memory (word.NoNewName index) = inr (λ is. cc is)
word_memory (word.NoCell index) = inr (λ is. cc is)
word_memory (word.Unknown index) = inr (λ is. cc is)
word_memory (word.Cell index at) = inr (λ is. cc is)

-- plans that cannot be compared stop the report
pub plans_stop : (old new : PlanParts) (comparing : Comparing) (fault : CompareFault) → IsCompareRefusal old new comparing ZONE_LIMIT fault → StopsComparing old new comparing (Plans fault)
plans_stop old new comparing fault refused = elim (compare_memory fault) [ inl is ↦ inl is | inr known ↦ inr (record { refused = refused; known = known }) ]

-- a lack of memory stops the report
pub memory_stops_comparing : (old new : PlanParts) (comparing : Comparing) (stop : CompareStop) → stop ≡ Plans compare.OutOfMemory → StopsComparing old new comparing stop
memory_stops_comparing old new comparing stop is = subst (StopsComparing old new comparing) (sym is) (inl refl)

-- what stops a comparison stops the one that is asked
pub asked_stops : (words : ArgMatches) (old new : PlanParts) (comparing : Comparing) (stop : CompareStop) → IsAsked words old new comparing → StopsComparing old new comparing stop
    → StopsPlans words old new stop
asked_stops words old new comparing (Plans fault) asked (inl is) = inl is
asked_stops words old new comparing (Plans fault) asked (inr cannot) = inr (record { comparing = comparing; asked = asked; cannot = cannot })
asked_stops words old new comparing (Text side s) asked stops = absurd stops
asked_stops words old new comparing (Word fault) asked stops = absurd stops

-- what stops the report on plans stops the one on their texts
pub texts_stop : (words : ArgMatches) (old new : List ℕ) (p q : PlanParts) (stop : CompareStop) → IsPlanText old p → IsPlanText new q → StopsPlans words p q stop → StopsTexts words old new stop
texts_stop words old new p q (Text side s) one other stops = absurd stops
texts_stop words old new p q (Word fault) one other stops = record { old_plan = p; new_plan = q; old_spelled = one; new_spelled = other; are_so = stops }
texts_stop words old new p q (Plans fault) one other stops = record { old_plan = p; new_plan = q; old_spelled = one; new_spelled = other; are_so = stops }

-- a text that is refused stops the report
pub old_text_stops : (words : ArgMatches) (old new : List ℕ) (stop : CompareStop) → IsTextStop Old old stop → StopsTexts words old new stop
old_text_stops words old new (Text side s) stops = subst (λ own. IsPlanReason (text_on own old new) s) (sym stops.0) stops.1
old_text_stops words old new (Word fault) stops = absurd stops
old_text_stops words old new (Plans fault) stops = absurd stops

pub new_text_stops : (words : ArgMatches) (old new : List ℕ) (stop : CompareStop) → IsTextStop New new stop → StopsTexts words old new stop
new_text_stops words old new (Text side s) stops = subst (λ own. IsPlanReason (text_on own old new) s) (sym stops.0) stops.1
new_text_stops words old new (Word fault) stops = absurd stops
new_text_stops words old new (Plans fault) stops = absurd stops

-- the report on plans is one on their texts
pub compared_texts : (words : ArgMatches) (old new : List ℕ) (p q : PlanParts) (report : Result CompareReport CompareStop) → IsPlanText old p → IsPlanText new q
    → IfOk report (λ r. AreComparedPlans words p q r.is_same) → IfOk report (λ r. AreComparedTexts words old new r.is_same)
compared_texts words old new p q report one other compared =
    IfOk-weaker report _ _ (λ r are. record { old_plan = p; new_plan = q; old_spelled = one; new_spelled = other; compared = are }) compared

pub stopped_texts : (words : ArgMatches) (old new : List ℕ) (p q : PlanParts) (report : Result CompareReport CompareStop) → IsPlanText old p → IsPlanText new q
    → IfErr report (StopsPlans words p q) → IfErr report (StopsTexts words old new)
stopped_texts words old new p q report one other stopped = IfErr-weaker report _ _ (λ stop stops. texts_stop words old new p q stop one other stops) stopped

-- an error of a text
pub text_uncompared : (words : ArgMatches) (old new : List ℕ) (side : Side) (s : ValueStop) (status : ExitStatus) → StopsTexts words old new (Text side s) → code_of status ≡ status_of s
    → AreUncompared words old new status
text_uncompared words old new Old s status stops is = inl (record { stop = s; reason = stops; is_status = is })
text_uncompared words old new New s status stops is = inr (inl (record { stop = s; reason = stops; is_status = is }))

-- an error of a word of the command line, or of both plans
pub word_uncompared : (words : ArgMatches) (old new : List ℕ) (fault : WordFault) (status : ExitStatus) → StopsTexts words old new (Word fault) → (fault ≡ word.OutOfMemory → status ≡ Resource)
    → status ≡ Refused → AreUncompared words old new status
word_uncompared words old new fault status stops memory is_refused = elim stops.are_so [
  | inl is ↦ (let resource = memory is in absurd (cc (resource, is_refused)))
  | inr refused ↦
      inr (inr (record {
        old_plan = stops.old_plan;
        new_plan = stops.new_plan;
        old_spelled = stops.old_spelled;
        new_spelled = stops.new_spelled;
        are_so = inl (fault, refused);
      }))
]

pub plans_uncompared : (words : ArgMatches) (old new : List ℕ) (fault : CompareFault) (status : ExitStatus) → StopsTexts words old new (Plans fault)
    → (fault ≡ compare.OutOfMemory → status ≡ Resource) → status ≡ Refused → AreUncompared words old new status
plans_uncompared words old new fault status stops memory is_refused = elim stops.are_so [
  | inl is ↦ (let resource = memory is in absurd (cc (resource, is_refused)))
  | inr refused ↦
      inr (inr (record {
        old_plan = stops.old_plan;
        new_plan = stops.new_plan;
        old_spelled = stops.old_spelled;
        new_spelled = stops.new_spelled;
        are_so = inr (fault, refused);
      }))
]

-- a comparison that has written its report
pub compare_done : (words : ArgMatches) (old new : List ℕ) (same : Bool) (status : ExitStatus) → AreComparedTexts words old new same → (status ≡ Done → AsksFail words → same ≡ true)
    → status ≡ Done → AreComparedAsAsked words old new
compare_done words old new same status compared done is_done = record { same = same; compared = compared; asked = done is_done }

pub compare_fails : (words : ArgMatches) (old new : List ℕ) (same : Bool) (status : ExitStatus) → AreComparedTexts words old new same
    → (status ≡ Refused → IsFail words × (same ≡ false)) → status ≡ Refused → AreRefused words old new status
compare_fails words old new same status compared fails is_refused =
    let failed = fails is_refused in
    inr (failed.0, subst (AreComparedTexts words old new) failed.1 compared)

-- the comparison of the named plans
pub named_done : (whole : Whole) (words : ArgMatches) (old new : List ℕ) (status : ExitStatus) → IsNamedOld whole words old → IsNamedPlan whole words new
    → (status ≡ Done → AreComparedAsAsked words old new) → status ≡ Done → PlansAreCompared whole words
named_done whole words old new status one other done is_done = record { old = old; named_old = one; new = new; named_new = other; compared = done is_done }

pub named_refused : (whole : Whole) (words : ArgMatches) (old new : List ℕ) (status : ExitStatus) → IsNamedOld whole words old → IsNamedPlan whole words new
    → (status ≡ Refused → AreRefused words old new status) → status ≡ Refused → PlansAreRefused whole words status
named_refused whole words old new status one other refused is_refused = record { old = old; named_old = one; new = new; named_new = other; refused = refused is_refused }
