-- The check of a whole plan: what its boxes say, why there may be no report, and the statuses that follow.
use Rattle.std.proofs.Common.{◌≡◌, ◌≢◌, ◌<◌, ◌&&◌, ◌∙◌, ℕ, ap, Bool, true, false, List, [], ◌∷◌, filter, Some, Result, IfErr, IfOk, get_or, slice_get, inl, inr, refl, sym, subst}
use Rattle.std.specs.Option.{option_map_or}
use Rattle.std.proofs.lemmas.Bool.{and_parts, both_ways}
use Rattle.std.proofs.lemmas.Option.{slice_get-get_or}
use Rattle.std.proofs.lemmas.Result.{IfErr-weaker, IfOk-weaker}
use Rattle.faults.specs.declared.plan_fault.PlanCause.TheVariants as cause
use Rattle.faults.specs.declared.plan_fault.PlanFault.{PlanFault}
use Rattle.faults.specs.declared.reason.Reason.{Reason}
use Rattle.faults.specs.declared.reason.Reason.TheVariants.{Clash}
use Rattle.feel_tests.specs.declared.value.Value.{Value}
use Rattle.faults.specs.declared.role_key.RoleKey.{RoleKey}
use Rattle.clap.specs.declared.parser.matches.ArgMatches.{ArgMatches}
use Rattle.tables.specs.Plan.{PlanParts}
use Rattle.cutplan.proofs.Alike.{Among}
use Rattle.cutplan.proofs.ColumnWise.{among_contained, among_unfilter}
use Rattle.cutplan.proofs.Holding.{among_passes}
use Rattle.cutplan.proofs.Overlapping.{among_kept, contained_among}
use Rattle.dtable.specs.PlanFile.{IsPlanText}
use Rattle.plan_zones.specs.declared.fault.WholeFault.{WholeFault}
use Rattle.plan_zones.specs.declared.fault.WholeFault.TheVariants as whole
use Rattle.plan_checks.specs.declared.dead.DeadParts.{DeadParts}
use Rattle.plan_checks.specs.declared.pending.PendingZones.{PendingZones}
use Rattle.plan_checks.specs.declared.pending.TheConstants.{ZONE_LIMIT}
use Rattle.plan_zones.specs.declared.rule_place.RulePlace.{RulePlace}
use Rattle.plan_zones.specs.declared.rule_place.TestPlace.{TestPlace}
use Rattle.plan_zones.specs.declared.zone_box.ZoneBox.{ZoneBox}
use Rattle.plan_zones.specs.Boxes.{LieInBox, OneOf}
use Rattle.plan_checks.specs.Dead.{AreDeadRules, AreDeadTests, AreUnused, GivesAnswer, IsMet}
use Rattle.plan_checks.specs.Pending.{HaveReasons, HoldValues, counted_zones}
use Rattle.plan_zones.specs.RulePlaces.{all_rules, all_tests}
use Rattle.plan_checks.specs.TableFaults.{FailExactlyIn, FailsFor, IsUnlisted as IsUnlistedPlan}
use Rattle.plan_zones.specs.Zones.{ArePossible, plan_regions}
use Rattle.evaluation.specs.declared.stop.ValueStop.{ValueStop}
use Rattle.evaluation.specs.declared.stop.ValueStop.TheVariants as value
use Rattle.evaluation.specs.Stop.{IsPlanReason, IsStopOfPlan, RefusesPlan, status_of}
use Rattle.evaluation.proofs.Refusals.{refuses_spelling}
use Rattle.console.specs.declared.exit_status.ExitStatus.{ExitStatus}
use Rattle.console.specs.declared.exit_status.ExitStatus.TheVariants.{Done, Refused}
use Rattle.console.specs.ExitStatus.{code_of}
use Rattle.plan_commands.specs.declared.whole_check.WholeReport.{WholeReport}
use Rattle.plan_commands.specs.declared.whole_check.WholeStop.{WholeStop}
use Rattle.plan_commands.specs.declared.whole_check.WholeStop.TheVariants as whole_stop
use Rattle.plan_commands.specs.WholePlans.{FailSomewhere, HasMistake, HasUnused, IsJudged, IsJudgedText, IsUnlisted, IsWholeChecked, IsWholeRefused, StopsPlan, StopsText, are_allowed, has_none, is_clean, is_outside}
use Rattle.plan_commands.specs.Words.{AsksFail, IsFail}

-- a box whose reason is not that a value is not allowed has values that fail for it
wrong_in : (plan : PlanParts) (reasons : List Reason) (boxes : List ZoneBox)
    → ((values : List Value) (reason : Reason) → ArePossible plan values → OneOf (λ b. (slice_get reasons b.outcome ≡ Some reason) × LieInBox (plan_regions plan) b.sides values) boxes → FailsFor plan values reason)
    → HaveReasons reasons boxes → HoldValues plan boxes → are_allowed reasons boxes ≡ false → FailSomewhere plan
wrong_in plan reasons [] fails known held wrong = absurd (both_ways true wrong refl)
wrong_in plan reasons (b ∷ bs) fails known held wrong =
    let reason : Reason = get_or reasons b.outcome (Clash 0) in
    let is : slice_get reasons b.outcome ≡ Some reason = slice_get-get_or reasons b.outcome (Clash 0) known.0 in
    let here : (is_outside reason && are_allowed reasons bs) ≡ false = ap (λ found. option_map_or is_outside found true && are_allowed reasons bs) (sym is) ∙ wrong in
    elim (is_outside reason) as (λ c. is_outside reason ≡ c → (c && are_allowed reasons bs) ≡ false → FailSomewhere plan) [
      | true ↦ λ outside rest. wrong_in plan reasons bs (λ values other possible at. fails values other possible (inr at)) known.1 held.1 rest
      | false ↦ λ outside rest. record {
        values = held.0.values;
        reason = reason;
        possible = held.0.possible;
        fails = fails held.0.values reason held.0.possible (inl (is, held.0.lie));
        not_outside = outside;
      }
    ] refl here

-- the reason of a box is that a value is not allowed, if this is so of all boxes
allowed_in : (plan : PlanParts) (reasons : List Reason) (boxes : List ZoneBox) (values : List Value) (reason : Reason) → are_allowed reasons boxes ≡ true
    → OneOf (λ b. (slice_get reasons b.outcome ≡ Some reason) × LieInBox (plan_regions plan) b.sides values) boxes → is_outside reason ≡ true
allowed_in plan reasons [] values reason all at = absurd at
allowed_in plan reasons (b ∷ bs) values reason all (inl here) =
    let both = and_parts (option_map_or is_outside (slice_get reasons b.outcome) true) (are_allowed reasons bs) all in
    ap (λ found. option_map_or is_outside found true) (sym here.0) ∙ both.0
allowed_in plan reasons (b ∷ bs) values reason all (inr later) =
    let both = and_parts (option_map_or is_outside (slice_get reasons b.outcome) true) (are_allowed reasons bs) all in
    allowed_in plan reasons bs values reason both.1 later

-- the first part of a list of unused ones is unused
first_unused : {X : Type 0} (plan : PlanParts) (IsUsed : List Value → X → Type 0) (all : List X) (x : X) (xs : List X) → AreUnused plan IsUsed all (x ∷ xs) → HasUnused plan IsUsed all
first_unused plan IsUsed all x xs found =
    let at : Among x (filter found.keeps all) = subst (λ list. Among x list) found.are (inl refl) in
    let there = contained_among all x (among_unfilter found.keeps x all at) in
    record { part = x; there = there; unused = (found.right x there).0 (among_passes found.keeps x all at) }

none_unused : {X : Type 0} (plan : PlanParts) (IsUsed : List Value → X → Type 0) (all : List X) → AreUnused plan IsUsed all [] → HasUnused plan IsUsed all → ⊥
none_unused plan IsUsed all found has =
    let kept = (found.right has.part has.there).1 has.unused in
    subst (λ list. Among has.part list) (sym found.are) (among_kept found.keeps has.part all (among_contained all has.part has.there) kept)

-- a plan has no mistake if nothing is listed but values that are not allowed, and it has one otherwise
judged_by : (plan : PlanParts) (reasons : List Reason) (boxes : List ZoneBox) (rules : List RulePlace) (tests : List TestPlace) → FailExactlyIn plan reasons boxes → HaveReasons reasons boxes
    → HoldValues plan boxes → AreDeadRules plan rules → AreDeadTests plan tests
    → IsJudged plan (has_none rules && (has_none tests && are_allowed reasons boxes))
judged_by plan reasons boxes (x ∷ xs) tests exact known held no_rules no_tests = inl (inr (inl (first_unused plan (GivesAnswer plan) (all_rules plan.tables) x xs no_rules)))
judged_by plan reasons boxes [] (x ∷ xs) exact known held no_rules no_tests = inl (inr (inr (first_unused plan (IsMet plan) (all_tests plan.tables) x xs no_tests)))
judged_by plan reasons boxes [] [] exact known held no_rules no_tests = by_boxes (are_allowed reasons boxes) refl where
  no_mistake : are_allowed reasons boxes ≡ true → HasMistake plan → ⊥
  no_mistake allowed (inl f) =
      let listed = (exact f.values f.reason f.possible).0 f.fails in
      both_ways (is_outside f.reason) f.not_outside (allowed_in plan reasons boxes f.values f.reason allowed listed)
  no_mistake allowed (inr (inl has)) = none_unused plan (GivesAnswer plan) (all_rules plan.tables) no_rules has
  no_mistake allowed (inr (inr has)) = none_unused plan (IsMet plan) (all_tests plan.tables) no_tests has

  by_boxes : (allowed : Bool) → are_allowed reasons boxes ≡ allowed → IsJudged plan allowed
  by_boxes true allowed = no_mistake allowed
  by_boxes false allowed = inl (inl (wrong_in plan reasons boxes (λ values reason possible at. (exact values reason possible).1 at) known held allowed))

pub judged_as : (plan : PlanParts) (found : PendingZones) (dead : DeadParts) (clean : Bool) → clean ≡ is_clean found dead → FailExactlyIn plan found.reasons found.boxes
    → HaveReasons found.reasons found.boxes → HoldValues plan found.boxes → AreDeadRules plan dead.rules
    → AreDeadTests plan dead.tests → IsJudged plan clean
judged_as plan found dead clean is exact known held no_rules no_tests =
    subst (IsJudged plan) (sym is) (judged_by plan found.reasons found.boxes dead.rules dead.tests exact known held no_rules no_tests)

-- a plan with more zones than the limit is not clean
pub wide_by : (plan : PlanParts) (limit zones : ℕ) (fault : WholeFault) → fault ≡ whole.TooWide zones → IsUnlistedPlan plan limit fault → limit < counted_zones plan
wide_by plan limit zones fault is refused =
    let wide = subst (IsUnlistedPlan plan limit) is refused in
    subst (λ count. limit < count) wide.0 wide.1

pub wide_judged : (plan : PlanParts) → ZONE_LIMIT < counted_zones plan → IsJudged plan false
wide_judged plan wide = inr wide

-- a role that has the value of a name stops the report
pub input_role_stops : (plan : PlanParts) (limit : ℕ) (fault : WholeFault) (role : RoleKey) → fault ≡ whole.InputRole role → IsUnlistedPlan plan limit fault
    → StopsPlan plan (whole_stop.InputRole role)
input_role_stops plan limit fault role is refused = subst (IsUnlistedPlan plan limit) is refused

-- a lack of memory stops the report
pub memory_stops : (plan : PlanParts) (s : WholeStop) → s ≡ whole_stop.Value value.NoMemory → StopsPlan plan s
memory_stops plan s is = subst (StopsPlan plan) (sym is) refl

-- an error of a command that reads only a plan
reason_of : (text : List ℕ) (s : ValueStop) → RefusesPlan text s → IsPlanReason text s
reason_of text (value.Plan fault) refused = refused
reason_of text value.NoMemory refused = refused
reason_of text _ refused = absurd refused

-- a fault of the plan's text stops the report
pub spelling_stops : (text : List ℕ) (fault : PlanFault) (s : ValueStop) → (fault.cause ≢ cause.OutOfMemory → (plan : PlanParts) → ¬ IsPlanText text plan) → IsStopOfPlan fault s
    → StopsText text (whole_stop.Value s)
spelling_stops text fault s none made = reason_of text s (refuses_spelling text fault s none made)

-- what stops the report on a plan stops the one on its text
stops_text : (text : List ℕ) (plan : PlanParts) (s : WholeStop) → IsPlanText text plan → StopsPlan plan s → StopsText text s
stops_text text plan (whole_stop.Value s) spelled is = subst (IsPlanReason text) (sym is) tt
stops_text text plan (whole_stop.InputRole role) spelled fault = record { plan = plan; spelled = spelled; role = role; is_name = fault }

pub stopped_text : (text : List ℕ) (plan : PlanParts) (report : Result WholeReport WholeStop) → IsPlanText text plan → IfErr report (StopsPlan plan) → IfErr report (StopsText text)
stopped_text text plan report spelled stopped = IfErr-weaker report _ _ (λ s stops. stops_text text plan s spelled stops) stopped

-- the report on a plan is one on its text
pub judged_text : (text : List ℕ) (plan : PlanParts) (report : Result WholeReport WholeStop) → IsPlanText text plan → IfOk report (λ r. IsJudged plan r.is_clean)
    → IfOk report (λ r. IsJudgedText text r.is_clean)
judged_text text plan report spelled judged = IfOk-weaker report _ _ (λ r is. record { plan = plan; spelled = spelled; judged = is }) judged

-- a check that has written its report
pub whole_done : (words : ArgMatches) (text : List ℕ) (clean : Bool) (status : ExitStatus) → IsJudgedText text clean → (status ≡ Done → AsksFail words → clean ≡ true) → status ≡ Done
    → IsWholeChecked words text
whole_done words text clean status judged done is_done = record { clean = clean; judged = judged; asked = done is_done }

pub whole_fails : (words : ArgMatches) (text : List ℕ) (clean : Bool) (status : ExitStatus) → IsJudgedText text clean → (status ≡ Refused → IsFail words × (clean ≡ false))
    → status ≡ Refused → IsWholeRefused words text status
whole_fails words text clean status judged fails is_refused =
    let failed = fails is_refused in
    inr (failed.0, subst (IsJudgedText text) failed.1 judged)

-- an error of the plan's text, or of a role
pub unlisted_by : (text : List ℕ) (w : WholeStop) (s : ValueStop) (status : ExitStatus) → w ≡ whole_stop.Value s → StopsText text w → code_of status ≡ status_of s → IsUnlisted text status
unlisted_by text w s status same stops is = inl (record { stop = s; reason = subst (StopsText text) same stops; is_status = is })

pub unlisted_role : (text : List ℕ) (w : WholeStop) (role : RoleKey) (status : ExitStatus) → w ≡ whole_stop.InputRole role → StopsText text w → IsUnlisted text status
unlisted_role text w role status same stops = inr (subst (StopsText text) same stops)

pub unlisted_refused : (words : ArgMatches) (text : List ℕ) (status : ExitStatus) → IsUnlisted text status → status ≡ Refused → IsWholeRefused words text status
unlisted_refused words text status none is_refused = inl none
