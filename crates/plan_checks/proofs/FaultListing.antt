-- The boxes of zones in which the tables have faults are right for the values in them.
use Rattle.std.proofs.Common.{◌≡◌, ℕ, List, [], length, Option, Some, None, Result, Ok, Err, IfErr, IfOk, ap, sym, ◌∙◌, subst}
use Rattle.std.specs.Option.{option_map, option_map_or}
use Rattle.std.proofs.lemmas.Result.{IfErr-weaker, IfOk-weaker}
use Rattle.faults.specs.declared.fault.Fault.{Fault}
use Rattle.faults.specs.declared.reason.Reason.{Reason}
use Rattle.faults.specs.Reason.{reason_of}
use Rattle.faults.specs.declared.role_key.RoleKey.{RoleKey}
use Rattle.tables.specs.declared.environment.Answer.{Answer}
use Rattle.tables.specs.declared.roles.Roles.{Roles}
use Rattle.tables.specs.declared.table.Table.{Table}
use Rattle.tables.specs.Inputs.{needs}
use Rattle.tables.specs.Plan.{PlanParts, IsPlan}
use Rattle.regions.specs.declared.region.Region.{Region}
use Rattle.cutplan.specs.ClassWise.{answers_in}
use Rattle.cutplan.specs.InputClasses.{name_literals}
use Rattle.plan_zones.specs.declared.fault.WholeFault.{WholeFault}
use Rattle.plan_zones.specs.declared.fault.WholeFault.TheVariants.{TooWide, NoRoles, InputRole, OutOfMemory}
use Rattle.plan_checks.specs.declared.pending.PendingZones.{PendingZones}
use Rattle.plan_zones.specs.declared.zone_box.ZoneBox.{ZoneBox}
use Rattle.plan_zones.specs.Boxes.{AreBoxesOf}
use Rattle.plan_checks.specs.Dead.{IsTooWide}
use Rattle.plan_zones.specs.Determined.{input_role}
use Rattle.plan_checks.specs.Pending.{HoldValues, IsRefusal, PendExactlyIn}
use Rattle.plan_checks.specs.TableFaults.{FailExactlyIn, FailsBy, HaveFaultsExactlyIn, IsUnlisted, fault_reason, fault_reason_in}
use Rattle.plan_zones.specs.Zones.{class_of, plan_regions}
use Rattle.plan_checks.proofs.Listing.{boxed, unboxed, values_of_boxes}
use Rattle.plan_checks.proofs.Regions.{covered}
use Rattle.plan_checks.proofs.Values.{zone_is_valued}

-- the reason of a zone: that of the tables' fault, or none where they have answers
pub reason_by_fault : (tables : List Table) (regions : List (List Region)) (zone : List ℕ) (fault : Fault) (reason : Reason) → answers_in (class_of regions zone) [] tables ≡ Err fault
    → Some reason ≡ reason_of fault → Some reason ≡ fault_reason_in tables regions zone
reason_by_fault tables regions zone fault reason is found = found ∙ ap fault_reason (sym is)

pub reason_by_answers : (tables : List Table) (regions : List (List Region)) (zone : List ℕ) (answers : List (List Answer)) → answers_in (class_of regions zone) [] tables ≡ Ok answers
    → None ≡ fault_reason_in tables regions zone
reason_by_answers tables regions zone answers is = ap fault_reason (sym is)

-- the reason of the zone
abbrev pub HasReason : PlanParts → List (List Region) → List ℕ → Option Reason → Type 0
HasReason p regions zone reason = reason ≡ fault_reason_in p.tables regions zone

pub faults_exactly : (p : PlanParts) → IsPlan p → (reasons : List Reason) (boxes : List ZoneBox) → AreBoxesOf reasons (HasReason p (plan_regions p)) (plan_regions p) boxes
    → HaveFaultsExactlyIn p reasons boxes
faults_exactly p plan reasons boxes are values reason possible = (
  λ has.
      let here = covered p (needs p.tables) (name_literals p.tables) 0 (length p.names) values possible in
      let same = zone_is_valued p (needs p.tables) (name_literals p.tables) (λ place l at. at) (λ name needed. needed) plan here.zone values possible here.lie in
      let own = are.each here.zone here.is_zone in
      unboxed reasons (plan_regions p) boxes values reason here.zone here.lie (own.listed reason (own.is ∙ ap fault_reason (sym same) ∙ has)),
  λ listed.
      let here = boxed reasons (plan_regions p) boxes values reason listed in
      let same = zone_is_valued p (needs p.tables) (name_literals p.tables) (λ place l at. at) (λ name needed. needed) plan here.zone values possible here.lie in
      ap fault_reason same ∙ sym (are.right here.zone reason here.listed).1,
)

pub hold_values : (p : PlanParts) (reasons : List Reason) (boxes : List ZoneBox) → AreBoxesOf reasons (HasReason p (plan_regions p)) (plan_regions p) boxes → HoldValues p boxes
hold_values p reasons boxes are = values_of_boxes p reasons (HasReason p (plan_regions p)) boxes are

-- boxes over regions that are those of the plan
pub boxes_of_plan : (p : PlanParts) (tables : List Table) (one other : List (List Region)) (reasons : List Reason) (boxes : List ZoneBox) → tables ≡ p.tables → one ≡ plan_regions p → other ≡ plan_regions p
    → AreBoxesOf reasons (λ rest. (λ (reason : Option Reason). reason ≡ fault_reason_in tables one rest)) other boxes → AreBoxesOf reasons (HasReason p (plan_regions p)) (plan_regions p) boxes
boxes_of_plan p tables one other reasons boxes tables_are one_is other_is are =
    subst (λ ts. AreBoxesOf reasons (λ rest (reason : Option Reason). reason ≡ fault_reason_in ts (plan_regions p) rest) (plan_regions p) boxes) tables_are
    (subst (λ rs. AreBoxesOf reasons (λ rest (reason : Option Reason). reason ≡ fault_reason_in tables rs rest) (plan_regions p) boxes) one_is
    (subst (λ rs. AreBoxesOf reasons (λ rest (reason : Option Reason). reason ≡ fault_reason_in tables one rest) rs boxes) other_is are))

-- what fails by the roles that the plan has, or by its tables where it has none
pub fails_with_roles : (p : PlanParts) (roles : Roles) (result : Result PendingZones WholeFault) → Some roles ≡ p.roles → IfOk result (λ found. PendExactlyIn p found.reasons found.boxes)
    → IfOk result (λ found. FailExactlyIn p found.reasons found.boxes)
fails_with_roles p roles result has exact =
    IfOk-weaker result (λ found. PendExactlyIn p found.reasons found.boxes) (λ found. FailExactlyIn p found.reasons found.boxes)
    (λ found same values reason possible. (
      λ fails. (same values reason possible).0 (subst (λ r. FailsBy r p values reason) (sym has) fails),
      λ listed. subst (λ r. FailsBy r p values reason) has ((same values reason possible).1 listed),
    )) exact

pub fails_without_roles : (p : PlanParts) (result : Result PendingZones WholeFault) → None ≡ p.roles → IfOk result (λ found. HaveFaultsExactlyIn p found.reasons found.boxes)
    → IfOk result (λ found. FailExactlyIn p found.reasons found.boxes)
fails_without_roles p result has exact =
    IfOk-weaker result (λ found. HaveFaultsExactlyIn p found.reasons found.boxes) (λ found. FailExactlyIn p found.reasons found.boxes)
    (λ found same values reason possible. (
      λ fails. (same values reason possible).0 (subst (λ r. FailsBy r p values reason) (sym has) fails),
      λ listed. subst (λ r. FailsBy r p values reason) has ((same values reason possible).1 listed),
    )) exact

-- the refusal of a plan with roles is not that it has none
has_roles : (found : Option RoleKey) → option_map InputRole found ≡ Some NoRoles → ⊥
has_roles None is = cc
has_roles (Some role) is = cc

with_roles : (p : PlanParts) (roles : Roles) (limit : ℕ) (fault : WholeFault) → p.roles ≡ Some roles → IsRefusal p limit fault → IsUnlisted p limit fault
with_roles p roles limit (TooWide zones) has refused = refused
with_roles p roles limit (InputRole role) has refused = refused
with_roles p roles limit OutOfMemory has refused = tt
with_roles p roles limit NoRoles has refused = has_roles (input_role roles) (sym (ap (λ found. option_map_or (λ roles. option_map InputRole (input_role roles)) found (Some NoRoles)) has) ∙ refused)

without_roles : (p : PlanParts) (limit : ℕ) (fault : WholeFault) → IsTooWide p limit fault → IsUnlisted p limit fault
without_roles p limit (TooWide zones) refused = refused
without_roles p limit OutOfMemory refused = tt
without_roles p limit NoRoles refused = refused
without_roles p limit (InputRole role) refused = absurd refused

pub unlisted_with_roles : {X : Type 0} (p : PlanParts) (roles : Roles) (limit : ℕ) (result : Result X WholeFault) → Some roles ≡ p.roles → IfErr result (IsRefusal p limit) → IfErr result (IsUnlisted p limit)
unlisted_with_roles p roles limit result has refused = IfErr-weaker result _ _ (λ fault is. with_roles p roles limit fault (sym has) is) refused

pub unlisted_without_roles : {X : Type 0} (p : PlanParts) (limit : ℕ) (result : Result X WholeFault) → IfErr result (IsTooWide p limit) → IfErr result (IsUnlisted p limit)
unlisted_without_roles p limit result refused = IfErr-weaker result _ _ (λ fault is. without_roles p limit fault is) refused
