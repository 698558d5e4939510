-- The values of a plan's own names in a zone of joint names: what the plan determines for them is what
-- it determines in the zone.
use Rattle.std.proofs.Common.{◌≡◌, ℕ, zero, suc, ◌<◌, ◌&&◌, ◌||◌, true, not, List, [], ◌∷◌, length, map, Option, Some, None, refl, ap, sym, ◌∙◌, subst, arith}
use Rattle.std.specs.Prelude.{Contains, unwrap_or}
use Rattle.std.specs.List.{AllByRecursion, cons_option, slice_get}
use Rattle.std.specs.Option.{option_and_then, option_map_or}
use Rattle.std.proofs.lemmas.Bool.{and_parts}
use Rattle.std.proofs.lemmas.Option.{none-some, same_Some}
use Rattle.feel_tests.specs.declared.value.Value.{Value}
use Rattle.tables.specs.Inputs.{needs}
use Rattle.tables.specs.Plan.{PlanParts, IsPlan}
use Rattle.tables.proofs.NeededNames.{within_names}
use Rattle.settlement.specs.Bindings.{slot_of}
use Rattle.regions.specs.declared.region.Region.{Region}
use Rattle.regions.specs.declared.region.Region.TheVariants.{Every}
use Rattle.cutplan.specs.ClassWise.{Covers, LiesInClass, regions_by}
use Rattle.cutplan.specs.InputClasses.{name_kind, name_literals}
use Rattle.regions.specs.Regions.{is_in}
use Rattle.regions.specs.Values.{is_value}
use Rattle.cutplan.proofs.Alike.{Among}
use Rattle.cutplan.proofs.ClassWise.{classes_are_valued}
use Rattle.cutplan.proofs.ColumnWise.{among_contained}
use Rattle.cutplan.proofs.MaskRules.{among_got}
use Rattle.cutplan.proofs.Overlapping.{contained_among}
use Rattle.plan_zones.specs.declared.joint.JointName.{JointName}
use Rattle.plan_zones.specs.Amounts.{is_money_value}
use Rattle.plan_zones.specs.Determined.{determination_at, determination_in, role_fault}
use Rattle.plan_zones.specs.Joint.{AreJointPossible, TwoPlans, by_places, is_joint_amount, is_joint_read, joint_kind, joint_literals, joint_regions, meets, name_text, regions_of_kind}
use Rattle.plan_zones.specs.Zones.{LieIn, class_of, region_at}
use Rattle.plan_checks.proofs.JointValues.{joint_found_at, of_joint_name}
use Rattle.plan_checks.proofs.Listing.{determined_by}
use Rattle.plan_zones.proofs.Lists.{get_there}
use Rattle.plan_checks.proofs.Values.{slot_at}

-- the item at a place of the items at these places
pub got_by : {X : Type 0} (places : List ℕ) (xs : List X) → AllByRecursion (λ place. place < length xs) places → (i place : ℕ) → slice_get places i ≡ Some place
    → slice_get (by_places places xs) i ≡ slice_get xs place
got_by [] xs all i place at = absurd (none-some place at)
got_by (p ∷ ps) xs all zero place at =
    let here = get_there xs p all.0 in
    ap (λ found. slice_get (cons_option found (by_places ps xs)) 0) here.1 ∙ sym here.1 ∙ ap (slice_get xs) (same_Some p place at)
got_by (p ∷ ps) xs all (suc i) place at =
    let here = get_there xs p all.0 in
    ap (λ found. slice_get (cons_option found (by_places ps xs)) (suc i)) here.1 ∙ got_by ps xs all.1 i place at

-- a joint name and its index in a plan
pub record Standing (names : List JointName) (side : JointName → Option ℕ) (place own : ℕ) : Type 0 where
  pub name : JointName
  pub at : slice_get names place ≡ Some name
  pub is : side name ≡ Some own

-- what a plan's names have in common with the joint names at these places
pub record Projects (plans : TwoPlans) (names : List JointName) (side : JointName → Option ℕ) (p : PlanParts) (places : List ℕ) : Type 0 where
  pub within : AllByRecursion (λ place. place < length names) places
  pub placed : (i place : ℕ) → slice_get places i ≡ Some place → Standing names side place i
  pub reached : (i : ℕ) → i < length p.names → (place : ℕ) × (slice_get places i ≡ Some place)
  pub kinds : (n : JointName) (i : ℕ) → Among n names → side n ≡ Some i → joint_kind plans.old plans.new n ≡ name_kind p i
  pub read : (n : JointName) (i : ℕ) → side n ≡ Some i → needs p.tables i ≡ true → is_joint_read plans n ≡ true
  pub named : (n : JointName) (i : ℕ) (l : Value) → side n ≡ Some i → Among l (name_literals p.tables i) → Among l (joint_literals plans n)

-- possible values are as many as the names
same_many : (plans : TwoPlans) (names : List JointName) (values : List Value) → AreJointPossible plans names values → (n : ℕ) → n < length names → n < length values
same_many plans [] [] possible n below = below
same_many plans [] (v ∷ vs) possible n below = absurd possible
same_many plans (m ∷ ms) [] possible n below = absurd possible
same_many plans (m ∷ ms) (v ∷ vs) possible zero below = omega arith
same_many plans (m ∷ ms) (v ∷ vs) possible (suc n) below = let rest = same_many plans ms vs possible.1 n (omega (arith, below)) in omega (arith, rest)

-- so are their regions
same_regions : (plans : TwoPlans) (names : List JointName) (n : ℕ) → n < length names → n < length (joint_regions plans names)
same_regions plans [] n below = below
same_regions plans (m ∷ ms) zero below = omega arith
same_regions plans (m ∷ ms) (suc n) below = let rest = same_regions plans ms n (omega (arith, below)) in omega (arith, rest)

-- and the indices of a zone with values
same_zone : (regions : List (List Region)) (zone : List ℕ) (values : List Value) → LieIn regions zone values → (n : ℕ) → n < length values → n < length zone
same_zone [] [] [] lie n below = below
same_zone [] [] (v ∷ vs) lie n below = absurd lie
same_zone [] (z ∷ zs) values lie n below = absurd lie
same_zone (r ∷ rs) [] values lie n below = absurd lie
same_zone (r ∷ rs) (z ∷ zs) [] lie n below = absurd lie
same_zone (r ∷ rs) (z ∷ zs) (v ∷ vs) lie zero below = omega arith
same_zone (r ∷ rs) (z ∷ zs) (v ∷ vs) lie (suc n) below = let rest = same_zone rs zs vs lie.1 n (omega (arith, below)) in omega (arith, rest)

all_within : (P Q : ℕ → Type 0) → ((n : ℕ) → P n → Q n) → (ns : List ℕ) → AllByRecursion P ns → AllByRecursion Q ns
all_within P Q f [] all = tt
all_within P Q f (n ∷ ns) all = (f n all.0, all_within P Q f ns all.1)

module _ (plans : TwoPlans) (names : List JointName) (side : JointName → Option ℕ) (p : PlanParts) (places : List ℕ) (projects : Projects plans names side p places) where
  -- the literals of a plan's name
  abbrev own_literals : ℕ → List Value
  own_literals i = option_map_or (joint_literals plans) (option_and_then (slice_get names) (slice_get places i)) (name_literals p.tables i)

  covers : Covers p own_literals
  covers i l at = by_place (slice_get places i) refl where
    by_place : (found : Option ℕ) → slice_get places i ≡ found → Contains (option_map_or (joint_literals plans) (option_and_then (slice_get names) found) (name_literals p.tables i)) l
    by_place None e = at
    by_place (Some place) e =
        let own = projects.placed i place e in
        let named = projects.named own.name i l own.is (among_contained (name_literals p.tables i) l at) in
        subst (λ found. Contains (option_map_or (joint_literals plans) found (name_literals p.tables i)) l) (sym own.at) (contained_among (joint_literals plans own.name) l named)

  module _ (zone : List ℕ) (values : List Value) (possible : AreJointPossible plans names values) (lie : LieIn (joint_regions plans names) zone values) where
    abbrev own_regions : List (List Region)
    own_regions = by_places places (joint_regions plans names)

    abbrev own_zone : List ℕ
    own_zone = by_places places zone

    abbrev own_values : List Value
    own_values = by_places places values

    in_class : IsPlan p → (i : ℕ) → needs p.tables i ≡ true → LiesInClass p own_literals (map slot_of own_values) (class_of own_regions own_zone) i
    in_class plan i needed =
        let reach = projects.reached i (within_names p i plan needed) in
        let place = reach.0 in
        let own = projects.placed i place reach.1 in
        let n = own.name in
        let here = joint_found_at plans names place n zone values own.at lie possible in
        let regions_at = got_by places (joint_regions plans names) (all_within (λ k. k < length names) (λ k. k < length (joint_regions plans names)) (same_regions plans names) places projects.within) i place reach.1 in
        let valued = all_within (λ k. k < length names) (λ k. k < length values) (same_many plans names values possible) places projects.within in
        let values_at = got_by places values valued i place reach.1 in
        let zone_at = got_by places zone (all_within (λ k. k < length values) (λ k. k < length zone) (same_zone (joint_regions plans names) zone values lie) places valued) i place reach.1 in
        let there : region_at own_regions own_zone i ≡ Some here.region =
        ap (λ found. option_and_then (λ rs. option_and_then (slice_get rs) found) (slice_get own_regions i)) zone_at
        ∙ ap (λ (found : Option (List Region)). option_and_then (λ rs. option_and_then (slice_get rs) (slice_get zone place)) found) regions_at
        ∙ here.there in
        let is : class_of own_regions own_zone i ≡ here.region = ap (λ found. unwrap_or found Every) there in
        let kind = projects.kinds n i (among_got names place n own.at) own.is in
        let lits : own_literals i ≡ joint_literals plans n =
        ap (λ found. option_map_or (joint_literals plans) (option_and_then (slice_get names) found) (name_literals p.tables i)) reach.1
        ∙ ap (λ found. option_map_or (joint_literals plans) found (name_literals p.tables i)) own.at in
        let all : regions_of_kind (joint_kind plans.old plans.new n) (joint_literals plans n) ≡ regions_by p own_literals i =
        ap (λ k. regions_of_kind k (joint_literals plans n)) kind ∙ ap (regions_of_kind (name_kind p i)) (sym lits) in
        let listed = subst (λ rs. Among here.region rs) all (of_joint_name plans n here.region (projects.read n i own.is needed) here.listed) in
        let fits = (and_parts (is_value (joint_kind plans.old plans.new n) here.value) (not (is_joint_amount plans.old plans.new n) || is_money_value here.value)
        (and_parts (is_value (joint_kind plans.old plans.new n) here.value && (not (is_joint_amount plans.old plans.new n) || is_money_value here.value)) (meets plans.narrowed (name_text plans n) here.value) here.fits).0).0 in
        record {
          region = contained_among (regions_by p own_literals i) (class_of own_regions own_zone i) (subst (λ r. Among r (regions_by p own_literals i)) (sym is) listed);
          value = here.value;
          is = slot_at own_values i here.value (values_at ∙ here.at);
          of_kind = subst (λ k. is_value k here.value ≡ true) kind fits;
          inside = ap (λ r. is_in r here.value) is ∙ here.inside;
        }

    -- what the plan determines for the values is what it determines in the zone
    pub determined_in : IsPlan p → role_fault p ≡ None → determination_at p own_values ≡ determination_in p own_regions own_zone
    determined_in plan none =
        determined_by p (map slot_of own_values) _ none
        (classes_are_valued p own_literals (map slot_of own_values) (class_of own_regions own_zone) covers (in_class plan))
