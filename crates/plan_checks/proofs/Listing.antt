-- Boxes that are right for the zones of a plan are right for the values in them.
use Rattle.std.proofs.Common.{◌≡◌, ◌<◌, ◌||◌, if◌then◌else◌, Bool, true, false, ℕ, inl, inr, List, [], ◌∷◌, length, map, Option, Some, None, Result, Ok, Err, refl, ap, sym, ◌∙◌, subst}
use Rattle.std.specs.Prelude.{option_map}
use Rattle.std.specs.List.{AllByRecursion, fold, slice_get}
use Rattle.std.specs.Option.{option_map_or, option_or}
use Rattle.std.proofs.lemmas.Bool.{both_ways}
use Rattle.std.proofs.lemmas.Option.{none-some, same_Some}
use Rattle.feel_tests.specs.declared.value.Value.{Value}
use Rattle.faults.specs.declared.fault.Fault.{Fault}
use Rattle.faults.specs.Reason.{reason_of}
use Rattle.faults.specs.declared.reason.Reason.{Reason}
use Rattle.faults.specs.declared.role_key.RoleKey.{RoleKey}
use Rattle.tables.specs.declared.environment.Answer.{Answer}
use Rattle.tables.specs.declared.inputs.Slot.{Slot}
use Rattle.tables.specs.declared.roles.FamilyRoles.{FamilyRoles}
use Rattle.tables.specs.declared.roles.Roles.{Roles}
use Rattle.tables.specs.declared.roles.Source.{Source}
use Rattle.tables.specs.declared.roles.Source.TheVariants.{Literal, Input, Output}
use Rattle.faults.specs.declared.role_key.RoleKey.TheVariants.{Cover, Fee, Deductible, Copay, Rate, OopMax, FamilyDeductible, FamilyOopMax}
use Rattle.tables.specs.Environment.{Environment, answers_of, env}
use Rattle.tables.specs.Inputs.{needs}
use Rattle.tables.specs.Plan.{PlanParts, IsPlan}
use Rattle.settlement.specs.declared.determination.Determination.{Determination}
use Rattle.settlement.specs.declared.determination.Determination.TheVariants.{Pended, Denied, Covered}
use Rattle.settlement.specs.Bindings.{slot_of}
use Rattle.settlement.specs.Reads.{any_role_reads, limits_read, roles_read, source_reads}
use Rattle.settlement.specs.Settlement.{by_fault, by_roles, by_tables, by_terms, determination_of}
use Rattle.settlement.specs.declared.cost_sharing.CostSharing.{CostSharing}
use Rattle.settlement.specs.Roles.{is_true_flag, remarks_of, terms, value_of}
use Rattle.faults.specs.declared.role.Role.{Role}
use Rattle.faults.specs.declared.reason.Reason.TheVariants.{Term}
use Rattle.settlement.proofs.ReadAlike.{tables_alike}
use Rattle.regions.specs.declared.region.Region.{Region}
use Rattle.cutplan.specs.InputClasses.{name_literals}
use Rattle.plan_zones.specs.declared.fault.WholeFault.{WholeFault}
use Rattle.plan_zones.specs.declared.fault.WholeFault.TheVariants.{TooWide, NoRoles, InputRole, OutOfMemory}
use Rattle.plan_zones.specs.declared.zone_box.ZoneBox.{ZoneBox}
use Rattle.plan_zones.specs.Boxes.{AreBoxesOf, IsInside, IsListed, LieInBox, OneOf}
use Rattle.plan_zones.specs.Determined.{determination_at, determination_in, environment_by, family_input_role, if_input, input_role, reason_for, reason_in, role_fault}
use Rattle.plan_checks.specs.Pending.{HoldValues, IsRefusal, PendExactlyIn}
use Rattle.plan_zones.specs.Zones.{ArePossible, IsZone, LieIn, plan_regions, value_in}
use Rattle.plan_zones.proofs.Lists.{get_there, one_map}
use Rattle.plan_checks.proofs.Regions.{covered, values_in}
use Rattle.plan_checks.proofs.Values.{zone_is_valued}

-- of two roles without a source that is a name, neither has one
or_none : (one other : Option RoleKey) → option_or one other ≡ None → (one ≡ None) × (other ≡ None)
or_none None other none = (refl, none)
or_none (Some role) other none = absurd cc

unread : (at : Option ℕ) (role : RoleKey) (source : Source) → if_input role source ≡ None → source_reads at source ≡ false
unread at role (Literal value) none = refl
unread at role (Input place) none = absurd cc
unread at role (Output name) none = refl

both_false : (one other : Bool) → one ≡ false → other ≡ false → (one || other) ≡ false
both_false false other is e = e
both_false true other is e = absurd cc

limits_unread : (at : Option ℕ) (limits : Option FamilyRoles) → family_input_role limits ≡ None → limits_read at limits ≡ false
limits_unread at None none = refl
limits_unread at (Some limits) none =
    let both = or_none (if_input FamilyDeductible limits.deductible) (if_input FamilyOopMax limits.oop_max) none in
    both_false (source_reads at limits.deductible) (source_reads at limits.oop_max) (unread at FamilyDeductible limits.deductible both.0) (unread at FamilyOopMax limits.oop_max both.1)

-- if there is no first of these, there is none
none_of : (first : Option RoleKey) (others : List (Option RoleKey)) → fold option_or first others ≡ None → (first ≡ None) × AllByRecursion (λ found. found ≡ None) others
none_of first [] none = (none, tt)
none_of first (other ∷ others) none =
    let rest = none_of (option_or first other) others none in
    let both = or_none first other rest.0 in
    (both.0, (both.1, rest.1))

-- no role has the value of a name if none has a source that is one
roles_unread : (at : Option ℕ) (roles : Roles) → input_role roles ≡ None → roles_read at roles ≡ false
roles_unread at roles none =
    let all =
    (none_of None
    (if_input Cover roles.cover ∷ if_input Fee roles.fee ∷ if_input Deductible roles.deductible ∷ if_input Copay roles.copay ∷ if_input Rate roles.rate ∷ if_input OopMax roles.oop_max
    ∷ family_input_role roles.family ∷ []) none).1 in
    both_false _ _ (unread at Cover roles.cover all.0) (both_false _ _ (unread at Fee roles.fee all.1.0) (both_false _ _ (unread at Deductible roles.deductible all.1.1.0)
    (both_false _ _ (unread at Copay roles.copay all.1.1.1.0) (both_false _ _ (unread at Rate roles.rate all.1.1.1.1.0)
    (both_false _ _ (unread at OopMax roles.oop_max all.1.1.1.1.1.0) (limits_unread at roles.family all.1.1.1.1.1.1.0))))))

not_mapped : (found : Option RoleKey) → option_map InputRole found ≡ None → found ≡ None
not_mapped None none = refl
not_mapped (Some role) none = absurd cc

any_unread : (at : Option ℕ) (roles : Option Roles) → option_map_or (λ roles. option_map InputRole (input_role roles)) roles (Some NoRoles) ≡ None → any_role_reads at roles ≡ false
any_unread at None none = absurd cc
any_unread at (Some roles) none = roles_unread at roles (not_mapped (input_role roles) none)

-- a fault of the roles is the reason of a refusal
never_wide : (found : Option RoleKey) (zones : ℕ) → option_map InputRole found ≡ Some (TooWide zones) → ⊥
never_wide None zones e = cc
never_wide (Some role) zones e = cc

not_wide : (roles : Option Roles) (zones : ℕ) → option_map_or (λ roles. option_map InputRole (input_role roles)) roles (Some NoRoles) ≡ Some (TooWide zones) → ⊥
not_wide None zones e = cc
not_wide (Some roles) zones e = never_wide (input_role roles) zones e

pub refusal_of : (p : PlanParts) (limit : ℕ) (fault : WholeFault) → role_fault p ≡ Some fault → IsRefusal p limit fault
refusal_of p limit (TooWide zones) is = absurd (not_wide p.roles zones is)
refusal_of p limit NoRoles is = is
refusal_of p limit (InputRole role) is = is
refusal_of p limit OutOfMemory is = tt

pub env_by : (p : PlanParts) (given : List Slot) (answers : Result (List (List Answer)) Fault) → answers_of given [] p.tables ≡ answers → env p given ≡ environment_by p.tables answers
env_by p given (Ok answers) is = cc
env_by p given (Err fault) is = cc

-- the determination by the answers of the tables, if no role has the value of a name
pub determined_by : (p : PlanParts) (given : List Slot) (answers : Result (List (List Answer)) Fault) → role_fault p ≡ None → answers_of given [] p.tables ≡ answers
    → determination_of p given ≡ by_tables p.roles [] (environment_by p.tables answers)
determined_by p given answers none is =
    tables_alike p.roles given [] (env p given) (λ place reads. absurd (both_ways (any_role_reads (Some place) p.roles) (any_unread (Some place) p.roles none) reads))
    ∙ ap (by_tables p.roles []) (env_by p given answers is)

-- the reason by the roles: none if the claim is not covered or all of them are valid
pub role_uncovered : (roles : Roles) (answers : Environment) → is_true_flag (value_of [] answers roles.cover) ≡ false → None ≡ reason_for (by_roles roles [] answers)
role_uncovered roles answers cover =
    ap (λ b. reason_for (if b then by_terms (remarks_of answers roles.remarks) (terms [] answers roles) else Denied (remarks_of answers roles.remarks))) (sym cover)

pub role_valid : (roles : Roles) (answers : Environment) (sharing : CostSharing) → is_true_flag (value_of [] answers roles.cover) ≡ true → terms [] answers roles ≡ Ok sharing
    → None ≡ reason_for (by_roles roles [] answers)
role_valid roles answers sharing cover valid =
    ap (λ (found : Result CostSharing Role). reason_for (by_terms (remarks_of answers roles.remarks) found)) (sym valid)
    ∙ ap (λ b. reason_for (if b then by_terms (remarks_of answers roles.remarks) (terms [] answers roles) else Denied (remarks_of answers roles.remarks))) (sym cover)

pub role_invalid : (roles : Roles) (answers : Environment) (role : Role) → is_true_flag (value_of [] answers roles.cover) ≡ true → terms [] answers roles ≡ Err role
    → Some (Term role) ≡ reason_for (by_roles roles [] answers)
role_invalid roles answers role cover invalid =
    ap (λ (found : Result CostSharing Role). reason_for (by_terms (remarks_of answers roles.remarks) found)) (sym invalid)
    ∙ ap (λ b. reason_for (if b then by_terms (remarks_of answers roles.remarks) (terms [] answers roles) else Denied (remarks_of answers roles.remarks))) (sym cover)

-- the reason of a zone: none without roles, that of the tables' fault, or that of the roles
pub reason_without : (p : PlanParts) (regions : List (List Region)) (zone : List ℕ) → None ≡ p.roles → None ≡ reason_in p regions zone
reason_without p regions zone none = ap (λ (roles : Option Roles). reason_for (by_tables roles [] (environment_by p.tables (value_in p regions zone)))) none

pub reason_by_fault : (p : PlanParts) (regions : List (List Region)) (zone : List ℕ) (roles : Roles) (fault : Fault) (reason : Reason) → Some roles ≡ p.roles → value_in p regions zone ≡ Err fault
    → Some reason ≡ reason_of fault → Some reason ≡ reason_in p regions zone
reason_by_fault p regions zone roles fault reason has is found =
    ap (λ (r : Option Reason). reason_for (by_fault r)) found ∙ ap (λ (answers : Result (List (List Answer)) Fault). reason_for (by_tables (Some roles) [] (environment_by p.tables answers))) (sym is)
    ∙ ap (λ (r : Option Roles). reason_for (by_tables r [] (environment_by p.tables (value_in p regions zone)))) has

pub reason_by_answers : (p : PlanParts) (regions : List (List Region)) (zone : List ℕ) (roles : Roles) (answers : List (List Answer)) → Some roles ≡ p.roles → value_in p regions zone ≡ Ok answers
    → reason_for (by_roles roles [] (record { tables = p.tables; answers = answers })) ≡ reason_in p regions zone
reason_by_answers p regions zone roles answers has is =
    ap (λ (found : Result (List (List Answer)) Fault). reason_for (by_tables (Some roles) [] (environment_by p.tables found))) (sym is)
    ∙ ap (λ (r : Option Roles). reason_for (by_tables r [] (environment_by p.tables (value_in p regions zone)))) has

-- the zone of values in a box with an outcome
pub record Boxed {X : Type 0} (outcomes : List X) (regions : List (List Region)) (boxes : List ZoneBox) (values : List Value) (outcome : X) : Type 0 where
  pub zone : List ℕ
  pub lie : LieIn regions zone values
  pub listed : IsListed outcomes boxes zone outcome

pub boxed : {X : Type 0} (outcomes : List X) (regions : List (List Region)) (boxes : List ZoneBox) (values : List Value) (outcome : X)
    → OneOf (λ b. (slice_get outcomes b.outcome ≡ Some outcome) × LieInBox regions b.sides values) boxes → Boxed outcomes regions boxes values outcome
boxed outcomes regions [] values outcome at = absurd at
boxed outcomes regions (b ∷ bs) values outcome (inl here) = record { zone = here.1.zone; lie = here.1.lie; listed = inl (here.0, here.1.inside) }
boxed outcomes regions (b ∷ bs) values outcome (inr later) =
    let more = boxed outcomes regions bs values outcome later in
    record { zone = more.zone; lie = more.lie; listed = inr more.listed }

-- values in a listed zone lie in its box
pub unboxed : {X : Type 0} (outcomes : List X) (regions : List (List Region)) (boxes : List ZoneBox) (values : List Value) (outcome : X) (zone : List ℕ) → LieIn regions zone values
    → IsListed outcomes boxes zone outcome → OneOf (λ b. (slice_get outcomes b.outcome ≡ Some outcome) × LieInBox regions b.sides values) boxes
unboxed outcomes regions boxes values outcome zone lie listed =
    one_map (λ b. (slice_get outcomes b.outcome ≡ Some outcome) × IsInside b.sides zone) (λ b. (slice_get outcomes b.outcome ≡ Some outcome) × LieInBox regions b.sides values)
    (λ b is. (is.0, record { zone = zone; inside = is.1; lie = lie })) boxes listed

pended_for : (d : Determination) (reason : Reason) → reason_for d ≡ Some reason → d ≡ Pended reason
pended_for (Pended found) reason is = ap Pended (same_Some found reason is)
pended_for (Denied remarks) reason is = absurd (none-some reason is)
pended_for (Covered sharing remarks) reason is = absurd (none-some reason is)

-- the reason of the zone
abbrev pub HasReason : PlanParts → List (List Region) → List ℕ → Option Reason → Type 0
HasReason p regions zone reason = reason ≡ reason_in p regions zone

module _ (p : PlanParts) (plan : IsPlan p) (none : role_fault p ≡ None) where
  -- possible values in a zone have the determination of the zone
  zone_determined : (zone : List ℕ) (values : List Value) → ArePossible p values → LieIn (plan_regions p) zone values → determination_at p values ≡ determination_in p (plan_regions p) zone
  zone_determined zone values possible lie =
      determined_by p (map slot_of values) _ none
      (zone_is_valued p (needs p.tables) (name_literals p.tables) (λ place l at. at) (λ name needed. needed) plan zone values possible lie)

  pub pend_exactly : (reasons : List Reason) (boxes : List ZoneBox) → AreBoxesOf reasons (HasReason p (plan_regions p)) (plan_regions p) boxes → PendExactlyIn p reasons boxes
  pend_exactly reasons boxes are values reason possible = (
    λ pends.
        let here = covered p (needs p.tables) (name_literals p.tables) 0 (length p.names) values possible in
        let e = ap reason_for (sym (zone_determined here.zone values possible here.lie) ∙ pends) in
        let own = are.each here.zone here.is_zone in
        unboxed reasons (plan_regions p) boxes values reason here.zone here.lie (own.listed reason (own.is ∙ e)),
    λ listed.
        let here = boxed reasons (plan_regions p) boxes values reason listed in
        zone_determined here.zone values possible here.lie ∙ pended_for _ reason (sym (are.right here.zone reason here.listed).1),
  )

-- each box of zones contains possible values
examples_of : (p : PlanParts) (boxes : List ZoneBox) → AllByRecursion (λ b. (zone : List ℕ) × IsZone (plan_regions p) zone × IsInside b.sides zone) boxes → HoldValues p boxes
examples_of p [] held = tt
examples_of p (b ∷ bs) held =
    let zone = held.0.0 in
    let here = values_in p (needs p.tables) (name_literals p.tables) 0 (length p.names) zone held.0.1 in (
      record { values = here.values; possible = here.possible; lie = record { zone = zone; inside = held.0.2; lie = here.lie } },
      examples_of p bs held.1,
    )

-- a zone of each box, if what is listed is a zone
pub zones_held : {X : Type 0} (outcomes : List X) (regions : List (List Region)) (boxes : List ZoneBox) → ((zone : List ℕ) (outcome : X) → IsListed outcomes boxes zone outcome → IsZone regions zone)
    → AllByRecursion (λ b. b.outcome < length outcomes) boxes → AllByRecursion (λ b. (zone : List ℕ) × IsInside b.sides zone) boxes
    → AllByRecursion (λ b. (zone : List ℕ) × IsZone regions zone × IsInside b.sides zone) boxes
zones_held outcomes regions [] zones known held = tt
zones_held outcomes regions (b ∷ bs) zones known held =
    let zone = held.0.0 in
    let found = get_there outcomes b.outcome known.0 in (
      (zone, zones zone found.0 (inl (found.1, held.0.1)), held.0.1),
      zones_held outcomes regions bs (λ other outcome at. zones other outcome (inr at)) known.1 held.1,
    )

-- each box contains possible values, whatever its outcome is
pub values_of_boxes : {X : Type 0} (p : PlanParts) (outcomes : List X) (HasOutcome : List ℕ → Option X → Type 0) (boxes : List ZoneBox) → AreBoxesOf outcomes HasOutcome (plan_regions p) boxes → HoldValues p boxes
values_of_boxes p outcomes HasOutcome boxes are = examples_of p boxes (zones_held outcomes (plan_regions p) boxes (λ zone outcome at. (are.right zone outcome at).0) are.known are.held)

pub hold_values : (p : PlanParts) (reasons : List Reason) (boxes : List ZoneBox) → AreBoxesOf reasons (HasReason p (plan_regions p)) (plan_regions p) boxes → HoldValues p boxes
hold_values p reasons boxes are = values_of_boxes p reasons (HasReason p (plan_regions p)) boxes are

-- boxes over regions that are those of the plan
pub boxes_of_plan : (p : PlanParts) (one other : List (List Region)) (reasons : List Reason) (boxes : List ZoneBox) → one ≡ plan_regions p → other ≡ plan_regions p
    → AreBoxesOf reasons (λ rest. HasReason p one rest) other boxes → AreBoxesOf reasons (HasReason p (plan_regions p)) (plan_regions p) boxes
boxes_of_plan p one other reasons boxes one_is other_is are =
    subst (λ rs. AreBoxesOf reasons (HasReason p rs) (plan_regions p) boxes) one_is (subst (λ rs. AreBoxesOf reasons (HasReason p one) rs boxes) other_is are)
