-- What a comparison of two plans finds: the zones in which they differ in what they say of a claim
-- before its amounts.
use Rattle.std.specs.Prelude.{is_some, not, position, ℤ, pos, ◌≡◌, ◌≢◌, ◌⊎◌, ◌<◌, ◌-◌, ◌^◌, ℕ, Bool, false, List, [], length, min, slice_get, Option, Some, None, if◌then◌else◌}
use Rattle.std.specs.List.{AllByRecursion, list_any}
use Rattle.std.specs.Ordering.{int_eq}
use Rattle.std.specs.Str.{bytes_eq}
use Rattle.tables.specs.declared.table.InputData.{InputData}
use Rattle.plan_zones.specs.declared.joint.Rename.{Rename}
use Rattle.plan_zones.specs.declared.joint_regions.Narrowing.{Narrowing}
use Rattle.feel_tests.specs.declared.value.Value.{Value}
use Rattle.tables.specs.Plan.{PlanParts, keeps_families}
use Rattle.settlement.specs.declared.acc.Acc.{Acc}
use Rattle.settlement.specs.declared.cost_sharing.CostSharing.{CostSharing}
use Rattle.settlement.specs.declared.cost_sharing.FamilyLimits.{FamilyLimits}
use Rattle.settlement.specs.declared.determination.Determination.{Determination}
use Rattle.settlement.specs.declared.determination.Determination.TheVariants as determined
use Rattle.settlement.specs.Settlement.{outcome_from}
use Rattle.regions.specs.declared.region.Region.{Region}
use Rattle.cutplan.specs.Check.{cells}
use Rattle.plan_zones.specs.declared.benefit.Benefit.{Benefit}
use Rattle.plan_zones.specs.declared.benefit.Benefit.TheVariants.{Pends, Denied, Covered}
use Rattle.plan_zones.specs.declared.change.Change.{Change}
use Rattle.plan_zones.specs.declared.comparing.Comparing.{Comparing}
use Rattle.plan_zones.specs.declared.compare_fault.CompareFault.{CompareFault}
use Rattle.plan_zones.specs.declared.compare_fault.CompareFault.TheVariants.{NoRoles, InputRole, Families, NoOldName, NoNewName, Merged, TwoKinds, NoNarrowed, TooWide, OutOfMemory}
use Rattle.plan_zones.specs.declared.compare_fault.Side.{Side}
use Rattle.plan_zones.specs.declared.compare_fault.Side.TheVariants.{Old, New}
use Rattle.plan_zones.specs.declared.fault.WholeFault.{WholeFault}
use Rattle.plan_zones.specs.declared.fault.WholeFault.TheVariants as whole
use Rattle.plan_zones.specs.declared.joint.JointName.{JointName}
use Rattle.plan_zones.specs.declared.joint.JointNames.{JointNames}
use Rattle.plan_zones.specs.declared.zone_box.ZoneBox.{ZoneBox}
use Rattle.plan_zones.specs.Boxes.{LieInBox, OneOf}
use Rattle.plan_zones.specs.Determined.{determination_at, determination_in, role_fault}
use Rattle.plan_zones.specs.Joint.{AreJointPossible, TwoPlans, by_places, has_one_kind, joint_names, joint_regions, joint_text, place_named, place_of_old, two_plans}
use Rattle.plan_zones.specs.Terms.{cost_sharing_by}

-- the benefit, as settlement has it
abbrev pub determination_by : Benefit → Determination
determination_by (Pends reason) = determined.Pended reason
determination_by (Denied remarks) = determined.Denied remarks
determination_by (Covered terms remarks) = determined.Covered (cost_sharing_by terms) remarks

-- the remarks that are compared: all or none
abbrev pub remarks_looked_at : Bool → List (List ℕ) → List (List ℕ)
remarks_looked_at terms_only remarks = if terms_only then [] else remarks

-- what is compared of a determination: all of it, or all but the remarks
abbrev pub looked_at : Bool → Determination → Determination
looked_at terms_only (determined.Pended reason) = determined.Pended reason
looked_at terms_only (determined.Denied remarks) = determined.Denied (remarks_looked_at terms_only remarks)
looked_at terms_only (determined.Covered terms remarks) = determined.Covered terms (remarks_looked_at terms_only remarks)

-- what a plan says of a claim with these values of the joint names; its own names are at the places
abbrev pub says : Bool → PlanParts → List ℕ → List Value → Determination
says terms_only p places values = looked_at terms_only (determination_at p (by_places places values))

-- what a plan says of the claims in a zone of the joint names; `regions` are those of its own names
abbrev pub says_by : Bool → PlanParts → List ℕ → List (List Region) → List ℕ → Determination
says_by terms_only p places regions zone = looked_at terms_only (determination_in p regions (by_places places zone))

-- the plans say different things of a claim with these values
abbrev pub Differ : Bool → TwoPlans → JointNames → List Value → Type 0
Differ terms_only plans joint values = says terms_only plans.old joint.old values ≢ says terms_only plans.new joint.new values

-- an amount, or 0 if another one is the same
abbrev pub but_same : ℤ → ℤ → ℤ
but_same one other = if int_eq one other then pos 0 else one

-- limits of a family, each of which is 0 if it is the same in other limits
abbrev pub family_apart : Option FamilyLimits → Option FamilyLimits → Option FamilyLimits
family_apart (Some one) (Some other) = Some (record { deductible = but_same one.deductible other.deductible; oop_max = but_same one.oop_max other.oop_max })
family_apart (Some one) None = Some one
family_apart None other = None

-- cost sharing, where an amount that is the same in another one is 0
abbrev pub terms_apart : CostSharing → CostSharing → CostSharing
terms_apart one other = record {
  fee = but_same one.fee other.fee;
  deductible = but_same one.deductible other.deductible;
  copay = but_same one.copay other.copay;
  rate = but_same one.rate other.rate;
  oop_max = but_same one.oop_max other.oop_max;
  family = family_apart one.family other.family;
}

-- the remarks without those of another list: none if both are the same, and otherwise all
abbrev pub AreApart : List (List ℕ) → List (List ℕ) → List (List ℕ) → Type 0
AreApart one other apart = ((one ≡ other) × (apart ≡ [])) ⊎ ((one ≢ other) × (apart ≡ one))

-- the benefit is what the first determination says and the second one does not: of two covered claims
-- what differs of the cost sharing and of the remarks, and otherwise all
abbrev pub IsPart : Determination → Determination → Benefit → Type 0
IsPart (determined.Covered terms remarks) (determined.Covered others theirs) found =
    (apart : List (List ℕ)) × AreApart remarks theirs apart × (determination_by found ≡ determined.Covered (terms_apart terms others) apart)
IsPart one other found = determination_by found ≡ one

-- the change has what each plan says of a claim with these values and the other plan does not
pub record IsChangeAt (terms_only : Bool) (plans : TwoPlans) (joint : JointNames) (values : List Value) (change : Change) : Type 0 where
  pub old : IsPart (says terms_only plans.old joint.old values) (says terms_only plans.new joint.new values) change.old
  pub new : IsPart (says terms_only plans.new joint.new values) (says terms_only plans.old joint.old values) change.new

-- for possible values either the plans say the same or the values lie in a listed box, and where they
-- do the plans differ
pub record AreDecided (terms_only : Bool) (plans : TwoPlans) (joint : JointNames) (boxes : List ZoneBox) (values : List Value) : Type 0 where
  pub either : (says terms_only plans.old joint.old values ≡ says terms_only plans.new joint.new values) ⊎ OneOf (λ b. LieInBox (joint_regions plans joint.names) b.sides values) boxes
  pub differ : OneOf (λ b. LieInBox (joint_regions plans joint.names) b.sides values) boxes → Differ terms_only plans joint values

abbrev pub DifferExactlyIn : Bool → TwoPlans → JointNames → List ZoneBox → Type 0
DifferExactlyIn terms_only plans joint boxes = (values : List Value) → AreJointPossible plans joint.names values → AreDecided terms_only plans joint boxes values

-- the change of a box is in the list, and is what the plans say of each claim in the box
pub record HasItsChange (terms_only : Bool) (plans : TwoPlans) (joint : JointNames) (changes : List Change) (b : ZoneBox) : Type 0 where
  pub change : Change
  pub at : slice_get changes b.outcome ≡ Some change
  pub right : (values : List Value) → AreJointPossible plans joint.names values → LieInBox (joint_regions plans joint.names) b.sides values
      → IsChangeAt terms_only plans joint values change

abbrev pub HaveChanges : Bool → TwoPlans → JointNames → List Change → List ZoneBox → Type 0
HaveChanges terms_only plans joint changes boxes = AllByRecursion (HasItsChange terms_only plans joint changes) boxes

-- possible values that lie in the box
pub record JointExample (plans : TwoPlans) (names : List JointName) (sides : List (List ℕ)) : Type 0 where
  pub values : List Value
  pub possible : AreJointPossible plans names values
  pub lie : LieInBox (joint_regions plans names) sides values

-- each box contains possible values
abbrev pub HoldJointValues : TwoPlans → List JointName → List ZoneBox → Type 0
HoldJointValues plans names boxes = AllByRecursion (λ b. JointExample plans names b.sides) boxes

-- the number of zones, or the greatest number that fits in 64 bits if there are more
abbrev pub counted_joint_zones : TwoPlans → List JointName → ℕ
counted_joint_zones plans names = min (length (cells (joint_regions plans names))) (2 ^ 64 - 1)

-- what the plans say of a zone: the same, or the change
abbrev pub HasChange : Determination → Determination → Option Change → Type 0
HasChange old new None = old ≡ new
HasChange old new (Some change) = (IsPart old new change.old × IsPart new old change.new) × (old ≢ new)

-- what the plans say of the claims in a zone of the joint names with these regions
abbrev pub ChangesIn : Bool → PlanParts → PlanParts → JointNames → List (List Region) → List ℕ → Option Change → Type 0
ChangesIn terms_only old new joint regions zone outcome =
    HasChange (says_by terms_only old joint.old (by_places joint.old regions) zone) (says_by terms_only new joint.new (by_places joint.new regions) zone) outcome

-- the two plans, and the cells that narrow the values of their names
abbrev pub plans_of : PlanParts → PlanParts → Comparing → TwoPlans
plans_of old new comparing = two_plans old new comparing.narrowed.now

-- the joint names of the two plans
abbrev pub names_of : PlanParts → PlanParts → Comparing → List JointName
names_of old new comparing = joint_names old.names new.names comparing.renames.now

-- the index of the first rename of a text that is no name of the old plan, and of the first one to a
-- text that is no name of the new plan
abbrev pub first_unknown_old : List InputData → List Rename → Option ℕ
first_unknown_old names renames = position (λ r. not (is_some (place_named names r.old.now))) renames

abbrev pub first_unknown_new : List InputData → List Rename → Option ℕ
first_unknown_new names renames = position (λ r. not (is_some (place_named names r.new.now))) renames

-- the index of the first joint name whose values have two kinds
abbrev pub first_of_two_kinds : PlanParts → PlanParts → List JointName → Option ℕ
first_of_two_kinds old new names = position (λ n. not (has_one_kind old new n)) names

-- the index of the first narrowing of a text that is no joint name
abbrev pub first_unknown_narrowing : List InputData → List InputData → List JointName → List Narrowing → Option ℕ
first_unknown_narrowing old new names narrowed = position (λ w. not (list_any (λ n. bytes_eq (joint_text old new n) w.name.now) names)) narrowed

-- a name of the old plan has no place among the joint names, since an earlier name of the old plan is
-- the same name of the new plan; or memory ran out
abbrev pub IsMerged : List JointName → CompareFault → Type 0
IsMerged names (Merged own) = place_of_old names own ≡ None
IsMerged names OutOfMemory = Unit {0}
IsMerged names _ = ⊥

-- the plan on a side
abbrev pub plan_on : Side → PlanParts → PlanParts → PlanParts
plan_on Old old new = old
plan_on New old new = new

-- the fault of a plan, by its side
abbrev pub on_side : Side → WholeFault → CompareFault
on_side side whole.NoRoles = NoRoles side
on_side side (whole.InputRole role) = InputRole side role
on_side side (whole.TooWide zones) = OutOfMemory
on_side side whole.OutOfMemory = OutOfMemory

-- the fault is that of a plan's roles, or one plan alone keeps families
abbrev pub IsPlanRefusal : PlanParts → PlanParts → CompareFault → Type 0
IsPlanRefusal old new (NoRoles side) = role_fault (plan_on side old new) ≡ Some whole.NoRoles
IsPlanRefusal old new (InputRole side role) = role_fault (plan_on side old new) ≡ Some (whole.InputRole role)
IsPlanRefusal old new Families = keeps_families old ≢ keeps_families new
IsPlanRefusal old new OutOfMemory = Unit {0}
IsPlanRefusal old new _ = ⊥

-- the plans are refused for this
abbrev pub IsCompareRefusal : PlanParts → PlanParts → Comparing → ℕ → CompareFault → Type 0
IsCompareRefusal old new comparing limit (NoRoles side) = IsPlanRefusal old new (NoRoles side)
IsCompareRefusal old new comparing limit (InputRole side role) = IsPlanRefusal old new (InputRole side role)
IsCompareRefusal old new comparing limit Families = IsPlanRefusal old new Families
IsCompareRefusal old new comparing limit (NoOldName index) = first_unknown_old old.names comparing.renames.now ≡ Some index
IsCompareRefusal old new comparing limit (NoNewName index) = first_unknown_new new.names comparing.renames.now ≡ Some index
IsCompareRefusal old new comparing limit (Merged own) = place_of_old (names_of old new comparing) own ≡ None
IsCompareRefusal old new comparing limit (TwoKinds place) = first_of_two_kinds old new (names_of old new comparing) ≡ Some place
IsCompareRefusal old new comparing limit (NoNarrowed index) =
    first_unknown_narrowing old.names new.names (names_of old new comparing) comparing.narrowed.now ≡ Some index
IsCompareRefusal old new comparing limit (TooWide zones) = (zones ≡ counted_joint_zones (plans_of old new comparing) (names_of old new comparing)) × (limit < zones)
IsCompareRefusal old new comparing limit OutOfMemory = Unit {0}

-- if remarks are compared and no box is listed, the plans give each claim the same outcome
abbrev pub UnlistedSettleAlike : Type 0
UnlistedSettleAlike = (plans : TwoPlans) (joint : JointNames) → DifferExactlyIn false plans joint [] → (values : List Value) → AreJointPossible plans joint.names values → (billed : ℤ) (acc : Acc)
    → outcome_from billed acc (determination_at plans.old (by_places joint.old values)) ≡ outcome_from billed acc (determination_at plans.new (by_places joint.new values))
