-- The names of two plans, joined, and the regions of their values. Names are numbered from 0 here.
use Rattle.std.specs.Prelude.{◌≡◌, ◌==◌, ◌&&◌, ◌||◌, ℕ, Bool, true, false, not, List, [], ◌∷◌, ◌++◌, length, map, filter, filter_map, flat_map, position, Option, Some, None, is_some, slice_get, IsTrue, if◌then◌else◌}
use Rattle.std.specs.List.{AllZip, list_all, list_any, range_with_len}
use Rattle.std.specs.Option.{option_map_or}
use Rattle.std.specs.Str.{bytes_eq}
use Rattle.feel_tests.specs.Holds.{holds}
use Rattle.feel_tests.specs.declared.kind.Kind.{Kind}
use Rattle.feel_tests.specs.declared.kind.Kind.TheVariants as kinds
use Rattle.feel_tests.specs.declared.value.Value.{Value}
use Rattle.tables.specs.declared.table.InputData.{InputData}
use Rattle.tables.specs.Inputs.{needs}
use Rattle.tables.specs.Plan.{PlanParts, has_kind, same_kind}
use Rattle.regions.specs.declared.region.Region.{Region}
use Rattle.regions.specs.declared.region.Region.TheVariants.{Every}
use Rattle.cutplan.specs.InputClasses.{name_kind, name_literals}
use Rattle.regions.specs.Regions.{holds_in, literals, stretches}
use Rattle.regions.specs.Values.{is_value, sort_values}
use Rattle.plan_zones.specs.declared.joint.JointName.{JointName}
use Rattle.plan_zones.specs.declared.joint.Rename.{Rename}
use Rattle.plan_zones.specs.declared.joint_regions.Narrowing.{Narrowing}
use Rattle.plan_zones.specs.Amounts.{is_amount_name, is_money_value, is_possible_region}

-- the text in the new plan of a name of the old plan
abbrev pub text_in_new : List Rename → List ℕ → List ℕ
text_in_new [] text = text
text_in_new (r ∷ rs) text = if bytes_eq r.old.now text then r.new.now else text_in_new rs text

-- the index of the name with this text
abbrev pub place_named : List InputData → List ℕ → Option ℕ
place_named names text = position (λ d. bytes_eq d.name text) names

-- the index of the first name of the old plan that has this text in the new plan
abbrev pub place_renamed : List InputData → List Rename → List ℕ → Option ℕ
place_renamed names renames text = position (λ d. bytes_eq (text_in_new renames d.name) text) names

-- the text of the name at an index
abbrev pub text_at : List InputData → ℕ → List ℕ
text_at names place = option_map_or (λ d. d.name) (slice_get names place) []

-- the joint name of the name of the new plan at an index
abbrev pub name_of_new : List InputData → List InputData → List Rename → ℕ → JointName
name_of_new old new renames place = record { old = place_renamed old renames (text_at new place); new = Some place }

-- the name of the old plan at an index is no name of the new plan
abbrev pub is_old_alone : List InputData → List InputData → List Rename → ℕ → Bool
is_old_alone old new renames place = not (is_some (place_named new (text_in_new renames (text_at old place))))

-- the joint name of the name at an index that only the old plan has
abbrev pub name_of_old : ℕ → JointName
name_of_old place = record { old = Some place; new = None }

-- the joint names of two plans: those of the new plan, and those that only the old plan has
abbrev pub joint_names : List InputData → List InputData → List Rename → List JointName
joint_names old new renames =
    map (name_of_new old new renames) (range_with_len 0 (length new))
    ++ map name_of_old (filter (is_old_alone old new renames) (range_with_len 0 (length old)))

-- the index is this one
abbrev pub is_at : Option ℕ → ℕ → Bool
is_at None own = false
is_at (Some place) own = place == own

-- the place among the joint names of a name of the old plan, and of one of the new plan
abbrev pub place_of_old : List JointName → ℕ → Option ℕ
place_of_old names own = position (λ n. is_at n.old own) names

abbrev pub place_of_new : List JointName → ℕ → Option ℕ
place_of_new names own = position (λ n. is_at n.new own) names

-- the items at these places
abbrev pub by_places : {X : Type 0} → List ℕ → List X → List X
by_places places items = filter_map (slice_get items) places

-- the text of a joint name: that in the new plan, if it has the name
abbrev pub joint_text : List InputData → List InputData → JointName → List ℕ
joint_text old new n = option_map_or (text_at new) n.new (option_map_or (text_at old) n.old [])

-- the kind of the values of a joint name: that in the new plan, if it has the name
abbrev pub joint_kind : PlanParts → PlanParts → JointName → Kind
joint_kind old new n = option_map_or (name_kind new) n.new (option_map_or (name_kind old) n.old kinds.Number)

-- a table of one of the plans reads the name
abbrev pub is_needed : PlanParts → PlanParts → JointName → Bool
is_needed old new n = option_map_or (needs old.tables) n.old false || option_map_or (needs new.tables) n.new false

-- the values of the name are amounts of money in one of the plans
abbrev pub is_joint_amount : PlanParts → PlanParts → JointName → Bool
is_joint_amount old new n =
    same_kind (joint_kind old new n) kinds.Number && (option_map_or (is_amount_name old) n.old false || option_map_or (is_amount_name new) n.new false)

-- a cell narrows the name
abbrev pub is_narrowed : List Narrowing → List ℕ → Bool
is_narrowed narrowed text = list_any (λ w. bytes_eq w.name.now text) narrowed

-- the literals of the cells that narrow the name
abbrev pub narrowing_literals : List ℕ → Narrowing → List Value
narrowing_literals text w = if bytes_eq w.name.now text then literals w.cell else []

-- the cells that narrow the name hold in the region
abbrev pub meets_in : List Narrowing → List ℕ → Region → Bool
meets_in narrowed text r = list_all (λ w. not (bytes_eq w.name.now text) || holds_in w.cell r) narrowed

-- the cells that narrow the name hold for the value
abbrev pub meets : List Narrowing → List ℕ → Value → Bool
meets narrowed text v = list_all (λ w. not (bytes_eq w.name.now text) || holds w.cell v) narrowed

-- two plans, and the cells that narrow the values of their names
pub record TwoPlans : Type 0 where
  pub old : PlanParts
  pub new : PlanParts
  pub narrowed : List Narrowing

abbrev pub two_plans : PlanParts → PlanParts → List Narrowing → TwoPlans
two_plans old new narrowed = record { old = old; new = new; narrowed = narrowed }

-- the text of a joint name
abbrev pub name_text : TwoPlans → JointName → List ℕ
name_text plans n = joint_text plans.old.names plans.new.names n

-- a table of one of the plans reads the name, or a cell narrows it
abbrev pub is_joint_read : TwoPlans → JointName → Bool
is_joint_read plans n = is_needed plans.old plans.new n || is_narrowed plans.narrowed (name_text plans n)

-- the literals that cut the values of a name: those of both plans, and those of the cells that narrow
-- the name with the text
abbrev pub literals_by : TwoPlans → List ℕ → JointName → List Value
literals_by plans text n =
    option_map_or (name_literals plans.old.tables) n.old []
    ++ (option_map_or (name_literals plans.new.tables) n.new [] ++ flat_map (narrowing_literals text) plans.narrowed)

abbrev pub joint_literals : TwoPlans → JointName → List Value
joint_literals plans n = literals_by plans (name_text plans n) n

-- the regions into which these literals cut the values of the kind
abbrev pub regions_of_kind : Kind → List Value → List Region
regions_of_kind kind lits = stretches kind (sort_values (filter (has_kind kind) lits))

-- the region has a value that a claim can give the name, and the cells that narrow the name hold in it
abbrev pub is_joint_region : TwoPlans → JointName → Region → Bool
is_joint_region plans n r = is_possible_region (is_joint_amount plans.old plans.new n) r && meets_in plans.narrowed (name_text plans n) r

-- the regions of a name that is read
abbrev pub regions_read : TwoPlans → JointName → List Region
regions_read plans n = filter (is_joint_region plans n) (regions_of_kind (joint_kind plans.old plans.new n) (joint_literals plans n))

-- the regions of a name; all values of a name that is not read are one region
abbrev pub regions_of : TwoPlans → JointName → List Region
regions_of plans n = if is_joint_read plans n then regions_read plans n else Every ∷ []

-- the regions of the joint names
abbrev pub joint_regions : TwoPlans → List JointName → List (List Region)
joint_regions plans names = map (regions_of plans) names

-- a claim can give the name this value in both plans, and the cells that narrow the name hold for it
abbrev pub is_joint_possible : TwoPlans → JointName → Value → Bool
is_joint_possible plans n v =
    (is_value (joint_kind plans.old plans.new n) v && (not (is_joint_amount plans.old plans.new n) || is_money_value v)) && meets plans.narrowed (name_text plans n) v

-- a claim can give the joint names these values
abbrev pub AreJointPossible : TwoPlans → List JointName → List Value → Type 0
AreJointPossible plans names values = AllZip (λ n v. IsTrue (is_joint_possible plans n v)) names values

-- the names of a plan are at these places among the joint names
abbrev pub ArePlaced : (ℕ → Option ℕ) → ℕ → List ℕ → Type 0
ArePlaced place_of count places = map (λ place. Some place) places ≡ map place_of (range_with_len 0 count)

-- a name of both plans has values of one kind
abbrev pub has_one_kind : PlanParts → PlanParts → JointName → Bool
has_one_kind old new n = option_map_or (λ i. option_map_or (λ k. same_kind (name_kind old i) (name_kind new k)) n.new true) n.old true
