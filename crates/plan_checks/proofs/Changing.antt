-- Boxes that are right for the zones of two plans are right for the values in them.
use Rattle.std.proofs.Common.{◌≡◌, ◌≢◌, ◌<◌, ◌⊎◌, ℕ, Bool, inl, inr, List, [], ◌∷◌, length, Option, Some, None, refl, ap, sym, ◌∙◌, subst}
use Rattle.std.specs.List.{AllByRecursion, slice_get}
use Rattle.feel_tests.specs.declared.value.Value.{Value}
use Rattle.tables.specs.Plan.{PlanParts, IsPlan}
use Rattle.settlement.specs.declared.determination.Determination.{Determination}
use Rattle.regions.specs.declared.region.Region.{Region}
use Rattle.plan_zones.specs.declared.benefit.Benefit.{Benefit}
use Rattle.plan_zones.specs.declared.change.Change.{Change}
use Rattle.plan_zones.specs.declared.joint.JointNames.{JointNames}
use Rattle.plan_zones.specs.declared.zone_box.ZoneBox.{ZoneBox}
use Rattle.plan_zones.specs.Boxes.{AreBoxesOf, IsInside, IsListed, LieInBox, OneOf}
use Rattle.plan_zones.specs.Changes.{HaveChanges, ChangesIn, DifferExactlyIn, HasChange, HoldJointValues, IsPart, first_of_two_kinds, looked_at, says, says_by}
use Rattle.plan_zones.specs.Determined.{role_fault}
use Rattle.plan_zones.specs.Joint.{AreJointPossible, ArePlaced, TwoPlans, by_places, joint_regions, place_of_new, place_of_old}
use Rattle.plan_zones.specs.Zones.{IsZone, LieIn}
use Rattle.plan_checks.proofs.JointValues.{joint_covered, joint_values_in}
use Rattle.plan_checks.proofs.Listing.{zones_held}
use Rattle.plan_zones.proofs.Lists.{get_there, one_map}
use Rattle.plan_checks.proofs.Placing.{projects_new, projects_old}
use Rattle.plan_checks.proofs.Projecting.{determined_in}

-- a part of a determination, under equal ones
parted : {one other found others : Determination} (b : Benefit) → one ≡ found → other ≡ others → IsPart one other b → IsPart found others b
parted {one} {other} {found} {others} b one_is other_is part = subst (λ d. IsPart d others b) one_is (subst (λ d. IsPart one d b) other_is part)

-- the zone of values in a box, and the change of the box
record Located (changes : List Change) (regions : List (List Region)) (boxes : List ZoneBox) (values : List Value) : Type 0 where
  zone : List ℕ
  lie : LieIn regions zone values
  change : Change
  listed : IsListed changes boxes zone change

located_in : (changes : List Change) (regions : List (List Region)) (boxes : List ZoneBox) (values : List Value) → AllByRecursion (λ b. b.outcome < length changes) boxes
    → OneOf (λ b. LieInBox regions b.sides values) boxes → Located changes regions boxes values
located_in changes regions [] values known at = absurd at
located_in changes regions (b ∷ bs) values known (inl here) =
    let there = get_there changes b.outcome known.0 in
    record { zone = here.zone; lie = here.lie; change = there.0; listed = inl (there.1, here.inside) }
located_in changes regions (b ∷ bs) values known (inr later) =
    let more = located_in changes regions bs values known.1 later in
    record { zone = more.zone; lie = more.lie; change = more.change; listed = inr more.listed }

module _ (terms_only : Bool) (plans : TwoPlans) (joint : JointNames) (old_plan : IsPlan plans.old) (new_plan : IsPlan plans.new)
    (old_none : role_fault plans.old ≡ None) (new_none : role_fault plans.new ≡ None)
    (old_places : ArePlaced (place_of_old joint.names) (length plans.old.names) joint.old) (new_places : ArePlaced (place_of_new joint.names) (length plans.new.names) joint.new)
    (kinds : first_of_two_kinds plans.old plans.new joint.names ≡ None) where
  abbrev regions : List (List Region)
  regions = joint_regions plans joint.names

  -- what the plans say of the claims in a zone
  abbrev In : List ℕ → Option Change → Type 0
  In = ChangesIn terms_only plans.old plans.new joint regions

  old_says : (zone : List ℕ) (values : List Value) → AreJointPossible plans joint.names values → LieIn regions zone values
      → says terms_only plans.old joint.old values ≡ says_by terms_only plans.old joint.old (by_places joint.old regions) zone
  old_says zone values possible lie =
      ap (looked_at terms_only)
      (determined_in plans joint.names (λ n. n.old) plans.old joint.old (projects_old plans joint.names joint.old old_places kinds) zone values possible lie old_plan old_none)

  new_says : (zone : List ℕ) (values : List Value) → AreJointPossible plans joint.names values → LieIn regions zone values
      → says terms_only plans.new joint.new values ≡ says_by terms_only plans.new joint.new (by_places joint.new regions) zone
  new_says zone values possible lie =
      ap (looked_at terms_only)
      (determined_in plans joint.names (λ n. n.new) plans.new joint.new (projects_new plans joint.names joint.new new_places) zone values possible lie new_plan new_none)

  module _ (changes : List Change) (boxes : List ZoneBox) (are : AreBoxesOf changes In regions boxes) where
    pub differ_exactly : DifferExactlyIn terms_only plans joint boxes
    differ_exactly values possible = record { either = either; differ = differing } where
      either : (says terms_only plans.old joint.old values ≡ says terms_only plans.new joint.new values) ⊎ OneOf (λ b. LieInBox regions b.sides values) boxes
      either =
          let here = joint_covered plans joint.names values possible in
          let own = are.each here.zone here.is_zone in
          by_outcome here.zone here.lie own.outcome own.is own.listed where
            by_outcome : (zone : List ℕ) → LieIn regions zone values → (o : Option Change) → In zone o → ((found : Change) → o ≡ Some found → IsListed changes boxes zone found)
                → (says terms_only plans.old joint.old values ≡ says terms_only plans.new joint.new values) ⊎ OneOf (λ b. LieInBox regions b.sides values) boxes
            by_outcome zone lie None is listed = inl (old_says zone values possible lie ∙ is ∙ sym (new_says zone values possible lie))
            by_outcome zone lie (Some change) is listed =
                inr
                (one_map (λ b. (slice_get changes b.outcome ≡ Some change) × IsInside b.sides zone) (λ b. LieInBox regions b.sides values)
                (λ b has. record { zone = zone; inside = has.1; lie = lie }) boxes (listed change refl))

      differing : OneOf (λ b. LieInBox regions b.sides values) boxes → says terms_only plans.old joint.old values ≢ says terms_only plans.new joint.new values
      differing listed =
          let here = located_in changes regions boxes values are.known listed in
          λ same. (are.right here.zone here.change here.listed).1.1 (sym (old_says here.zone values possible here.lie) ∙ same ∙ new_says here.zone values possible here.lie)

    -- boxes, each of which is right for the zones in it
    change_each : (bs : List ZoneBox) → ((zone : List ℕ) (change : Change) → IsListed changes bs zone change → In zone (Some change))
        → AllByRecursion (λ b. b.outcome < length changes) bs → HaveChanges terms_only plans joint changes bs
    change_each [] right known = tt
    change_each (b ∷ bs) right known =
        let there = get_there changes b.outcome known.0 in (
          record {
            change = there.0;
            at = there.1;
            right = λ values possible lies.
                let is = right lies.zone there.0 (inl (there.1, lies.inside)) in
                let one = sym (old_says lies.zone values possible lies.lie) in
                let other = sym (new_says lies.zone values possible lies.lie) in
                record { old = parted there.0.old one other is.0.0; new = parted there.0.new other one is.0.1 };
          },
          change_each bs (λ zone change at. right zone change (inr at)) known.1,
        )

    pub have_changes : HaveChanges terms_only plans joint changes boxes
    have_changes = change_each boxes (λ zone change at. (are.right zone change at).1) are.known

    pub hold_joint_values : HoldJointValues plans joint.names boxes
    hold_joint_values = examples boxes (zones_held changes regions boxes (λ zone change at. (are.right zone change at).0) are.known are.held) where
      examples : (bs : List ZoneBox) → AllByRecursion (λ b. (zone : List ℕ) × IsZone regions zone × IsInside b.sides zone) bs → HoldJointValues plans joint.names bs
      examples [] held = tt
      examples (b ∷ bs) held =
          let zone = held.0.0 in
          let here = joint_values_in plans joint.names zone held.0.1 in (
            record { values = here.values; possible = here.possible; lie = record { zone = zone; inside = held.0.2; lie = here.lie } },
            examples bs held.1,
          )

-- boxes over regions that are those of the plans
pub boxes_of_plans : (terms_only : Bool) (plans : TwoPlans) (joint : JointNames) (made : List (List Region)) (changes : List Change) (boxes : List ZoneBox) → made ≡ joint_regions plans joint.names
    → AreBoxesOf changes (ChangesIn terms_only plans.old plans.new joint made) made boxes
    → AreBoxesOf changes (ChangesIn terms_only plans.old plans.new joint (joint_regions plans joint.names)) (joint_regions plans joint.names) boxes
boxes_of_plans terms_only plans joint made changes boxes is are = subst (λ rs. AreBoxesOf changes (ChangesIn terms_only plans.old plans.new joint rs) rs boxes) is are

-- boxes by a survey of the plans' own regions
pub boxes_by : (terms_only : Bool) (old new : PlanParts) (joint : JointNames) (made : List (List Region)) (changes : List Change) (boxes : List ZoneBox) (old_places new_places : List ℕ)
    (old_regions new_regions : List (List Region)) → old_places ≡ joint.old → new_places ≡ joint.new → old_regions ≡ by_places joint.old made → new_regions ≡ by_places joint.new made
    → AreBoxesOf changes (λ zone. HasChange (says_by terms_only old old_places old_regions zone) (says_by terms_only new new_places new_regions zone)) made boxes
    → AreBoxesOf changes (ChangesIn terms_only old new joint made) made boxes
boxes_by terms_only old new joint made changes boxes old_places new_places old_regions new_regions old_is new_is old_made new_made are =
    subst (λ rs. AreBoxesOf changes (λ zone. HasChange (says_by terms_only old joint.old (by_places joint.old made) zone) (says_by terms_only new joint.new rs zone)) made boxes) new_made
    (subst (λ rs. AreBoxesOf changes (λ zone. HasChange (says_by terms_only old joint.old rs zone) (says_by terms_only new joint.new new_regions zone)) made boxes) old_made
    (subst (λ ps. AreBoxesOf changes (λ zone. HasChange (says_by terms_only old joint.old old_regions zone) (says_by terms_only new ps new_regions zone)) made boxes) new_is
    (subst (λ ps. AreBoxesOf changes (λ zone. HasChange (says_by terms_only old ps old_regions zone) (says_by terms_only new new_places new_regions zone)) made boxes) old_is are)))
