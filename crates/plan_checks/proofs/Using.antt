-- A rule or a test is used at possible values if and only if it is used in their zone.
use Rattle.std.proofs.Common.{◌≡◌, ℕ, zero, suc, ◌++◌, ◌==◌, inl, inr, Bool, true, false, cond, nat_lt, List, [], ◌∷◌, length, take, map, Option, Some, None, Contains, refl, ap, sym, ◌∙◌, subst, eq-eqb}
use Rattle.std.specs.List.{flat_map, list_any, range_with_len, slice_get}
use Rattle.std.specs.Option.{option_and_then, option_map_or}
use Rattle.std.proofs.lemmas.Bool.{both_ways, eqb-true}
use Rattle.std.proofs.lemmas.Option.{none-some}
use Rattle.feel_tests.specs.Holds.{passes}
use Rattle.feel_tests.specs.declared.cell.Cell.{Cell}
use Rattle.feel_tests.specs.declared.cell.Cell.TheVariants.{Dash, OneOf, NoneOf}
use Rattle.feel_tests.specs.declared.cell.Test.{Test}
use Rattle.feel_tests.specs.declared.value.Value.{Value}
use Rattle.tables.specs.declared.environment.Answer.{Answer}
use Rattle.tables.specs.declared.inputs.Slot.{Slot}
use Rattle.tables.specs.declared.table.Input.{Input}
use Rattle.tables.specs.declared.table.Rule.{Rule}
use Rattle.tables.specs.declared.table.Table.{Table}
use Rattle.tables.specs.Environment.{answers_of, table_value}
use Rattle.tables.specs.Inputs.{needs}
use Rattle.tables.specs.Matching.{first_outside, holds_of, is_outside, matching, rule_matches, value_read}
use Rattle.tables.specs.Plan.{PlanParts, IsPlan}
use Rattle.settlement.specs.Bindings.{slot_of}
use Rattle.regions.specs.declared.region.Region.{Region}
use Rattle.cutplan.specs.ClassWise.{Covers, LiesInClass, Zone, answers_in, cell_holds_in, first_outside_in, is_outside_in, matching_in, rule_matches_in, table_value_in}
use Rattle.cutplan.specs.InputClasses.{name_literals}
use Rattle.regions.specs.Regions.{literals, rule_literals, test_literals}
use Rattle.cutplan.proofs.Alike.{Among, among_left}
use Rattle.cutplan.proofs.ClassWise.{filter_agrees, first_agrees, input_asked, outside_asked, rule_asked, table_asked, tables_asked}
use Rattle.cutplan.proofs.ColumnWise.{among_contained, literal_of_rule}
use Rattle.cutplan.proofs.MaskRules.{among_got}
use Rattle.cutplan.proofs.Overlapping.{among_flat, any_at, any_from, contained_among}
use Rattle.plan_zones.specs.declared.rule_place.RulePlace.{RulePlace}
use Rattle.plan_zones.specs.declared.rule_place.TestPlace.{TestPlace}
use Rattle.plan_checks.specs.Dead.{AreDeadRules, AreDeadTests, AreUnused, GivesAnswer, IsMet}
use Rattle.plan_zones.specs.Giving.{giving}
use Rattle.plan_checks.specs.Leaving.{Begins, IsLeft}
use Rattle.plan_zones.specs.RulePlaces.{all_rules, all_tests, test_at, tests_of}
use Rattle.plan_zones.specs.Runs.{gives_in, giving_in, has_rule, meets_in}
use Rattle.plan_zones.specs.Zones.{ArePossible, LieIn, class_of, plan_regions}
use Rattle.plan_zones.proofs.Asking.{alone}
use Rattle.plan_checks.proofs.Reaching.{giving_at, giving_there, meets_from, meets_there, some_of}
use Rattle.plan_checks.proofs.Regions.{covered, values_in}
use Rattle.plan_checks.proofs.Values.{in_class}

among_first : (k : ℕ) (tables : List Table) (t : Table) → Among t (take k tables) → Among t tables
among_first zero tables t at = absurd at
among_first (suc k) [] t at = absurd at
among_first (suc k) (u ∷ us) t (inl same) = inl same
among_first (suc k) (u ∷ us) t (inr at) = inr (among_first k us t at)

-- the literals of a test are literals of the cell that has it
literal_in_cell : (cell : Cell) (test : Test) (place : ℕ) (l : Value) → slice_get (tests_of cell) place ≡ Some test → Among l (test_literals test) → Among l (literals cell)
literal_in_cell Dash test place l at l_at = absurd (none-some test at)
literal_in_cell (OneOf tests) test place l at l_at = among_flat test_literals tests test l (among_got tests place test at) l_at
literal_in_cell (NoneOf tests) test place l at l_at = among_flat test_literals tests test l (among_got tests place test at) l_at

-- a list's end is none of its own
in_one : (xs : List Value) (l : Value) → Among l (xs ++ []) → Among l xs
in_one [] l at = absurd at
in_one (x ∷ xs) l (inl same) = inl same
in_one (x ∷ xs) l (inr at) = inr (in_one xs l at)

-- a rule's cell in a column has the test
record HasTest (t : Table) (column : ℕ) (test : Test) : Type 0 where
  rule : Rule
  rule_at : Among rule t.rules
  cell : Cell
  cell_at : slice_get rule.cells column ≡ Some cell
  place : ℕ
  test_is : slice_get (tests_of cell) place ≡ Some test

has_test : (tables : List Table) (t : Table) (place : TestPlace) (test : Test) → slice_get tables place.rule.table ≡ Some t → test_at tables place ≡ Some test → HasTest t place.column test
has_test tables t place test there is = by_rule (slice_get t.rules place.rule.rule) refl (ap (λ found. tests_in (option_and_then (λ (u : Table). slice_get u.rules place.rule.rule) found)) (sym there) ∙ is) where
  tests_in : Option Rule → Option Test
  tests_in found = slice_get (option_map_or (λ (r : Rule). option_map_or tests_of (slice_get r.cells place.column) []) found []) place.test

  by_rule : (found : Option Rule) → slice_get t.rules place.rule.rule ≡ found → tests_in found ≡ Some test → HasTest t place.column test
  by_rule None e has = absurd (none-some test has)
  by_rule (Some r) e has = by_cell (slice_get r.cells place.column) refl has where
    by_cell : (found : Option Cell) → slice_get r.cells place.column ≡ found → slice_get (option_map_or tests_of found []) place.test ≡ Some test → HasTest t place.column test
    by_cell None c has = absurd (none-some test has)
    by_cell (Some cell) c has = record { rule = r; rule_at = among_got t.rules place.rule.rule r e; cell = cell; cell_at = c; place = place.test; test_is = has }

-- a rule is listed where it is contained
listed_from : (rules : List ℕ) (rule : ℕ) → list_any (λ r. r == rule) rules ≡ true → Contains rules rule
listed_from rules rule is =
    let found = any_from (λ r. r == rule) rules is in
    subst (λ r. Contains rules r) (eqb-true found.0 rule found.2) (contained_among rules found.0 found.1)

listed_to : (rules : List ℕ) (rule : ℕ) → Contains rules rule → list_any (λ r. r == rule) rules ≡ true
listed_to rules rule at = any_at (λ r. r == rule) rules rule (among_contained rules rule at) (eq-eqb rule rule refl)

-- a cell of one test holds for what is read if the test holds for a value that is read
record Reads (found : Option Value) (test : Test) : Type 0 where
  value : Value
  is : found ≡ Some value
  holds : passes test value ≡ true

reads_from : (found : Option Value) (test : Test) → holds_of found (OneOf (test ∷ [])) ≡ true → Reads found test
reads_from None test is = absurd (both_ways false refl is)
reads_from (Some v) test is = record { value = v; is = refl; holds = alone test v ∙ is }

module _ (p : PlanParts) (lits : ℕ → List Value) (given : List Slot) (input_class : Zone) (covers : Covers p lits)
    (lies : (place : ℕ) → needs p.tables place ≡ true → LiesInClass p lits given input_class place) where
  before_alike : (k : ℕ) → answers_of given [] (take k p.tables) ≡ answers_in input_class [] (take k p.tables)
  before_alike k = tables_asked given input_class (take k p.tables) (λ t earlier at. table_asked p lits given input_class covers lies earlier t (among_first k p.tables t at)) []

  value_alike : (earlier : List (List Answer)) (t : Table) → Among t p.tables → table_value given earlier t ≡ table_value_in input_class earlier t
  value_alike earlier t at = table_asked p lits given input_class covers lies earlier t at

  rules_alike : (earlier : List (List Answer)) (t : Table) → Among t p.tables → matching given earlier t ≡ matching_in input_class earlier t
  rules_alike earlier t at =
      filter_agrees (rule_matches given earlier t) (rule_matches_in input_class earlier t) (rule_asked p lits given input_class covers lies earlier t at) (range_with_len 0 (length t.rules))

  outside_alike : (earlier : List (List Answer)) (t : Table) → Among t p.tables → first_outside given earlier t ≡ first_outside_in input_class earlier t
  outside_alike earlier t at =
      ap (λ k. cond (nat_lt k (length t.inputs)) (Some k) None)
      (first_agrees (is_outside given earlier) (is_outside_in input_class earlier) t.inputs (λ k i i_at. outside_asked p lits given input_class covers lies earlier t at k i i_at))

  test_alike : (earlier : List (List Answer)) (t : Table) → Among t p.tables → (k : ℕ) (i : Input) → slice_get t.inputs k ≡ Some i → (test : Test) → HasTest t k test
      → holds_of (value_read given earlier i.origin) (OneOf (test ∷ [])) ≡ cell_holds_in input_class earlier i.origin (OneOf (test ∷ []))
  test_alike earlier t at k i i_at test has =
      input_asked p lits given input_class covers lies earlier t at k i i_at (OneOf (test ∷ []))
      (λ l l_at. among_left l (flat_map (rule_literals k) t.rules) (option_map_or literals i.values [])
      (literal_of_rule t.rules k has.rule has.cell l has.rule_at has.cell_at (literal_in_cell has.cell test has.place l has.test_is (in_one (test_literals test) l l_at))))

module _ (p : PlanParts) (plan : IsPlan p) (zone : List ℕ) (values : List Value) (possible : ArePossible p values) (lie : LieIn (plan_regions p) zone values) where
  abbrev own : List Slot
  own = map slot_of values

  abbrev class : Zone
  class = class_of (plan_regions p) zone

  lits : ℕ → List Value
  lits = name_literals p.tables

  covers : Covers p (name_literals p.tables)
  covers place l at = at

  lies : (name : ℕ) → needs p.tables name ≡ true → LiesInClass p (name_literals p.tables) own class name
  lies = in_class p (needs p.tables) (name_literals p.tables) covers (λ name needed. needed) plan zone values possible lie

  pub gives_from : (place : RulePlace) → gives_in class p.tables place ≡ true → GivesAnswer p values place
  gives_from place is =
      let found = some_of (has_rule place.rule) (slice_get (giving_in class [] p.tables) place.table) is in
      let there = giving_there class [] p.tables place.table found.0 found.1 in
      let at = among_got p.tables place.table there.table there.there in
      let rules = rules_alike p (name_literals p.tables) own class covers lies there.earlier there.table at in
      record {
        table = there.table;
        earlier = there.earlier;
        asked = record { there = there.there; before = before_alike p (name_literals p.tables) own class covers lies place.table ∙ there.before };
        answers = there.answers;
        value = value_alike p (name_literals p.tables) own class covers lies there.earlier there.table at ∙ there.value;
        gives = subst (λ rules. Contains rules place.rule) (there.are ∙ ap (λ rs. giving there.table.hit there.table rs there.answers) (sym rules)) (listed_from found.0 place.rule found.2);
      }

  pub gives_to : (place : RulePlace) → GivesAnswer p values place → gives_in class p.tables place ≡ true
  gives_to place g =
      let at = among_got p.tables place.table g.table g.asked.there in
      let rules = rules_alike p (name_literals p.tables) own class covers lies g.earlier g.table at in
      let is = giving_at class [] p.tables place.table g.table g.earlier g.answers g.asked.there (sym (before_alike p (name_literals p.tables) own class covers lies place.table) ∙ g.asked.before)
      (sym (value_alike p (name_literals p.tables) own class covers lies g.earlier g.table at) ∙ g.value) in
      ap (λ found. option_map_or (has_rule place.rule) found false) is
      ∙ listed_to (giving g.table.hit g.table (matching_in class g.earlier g.table) g.answers) place.rule
      (subst (λ rs. Contains (giving g.table.hit g.table rs g.answers) place.rule) rules g.gives)

  pub meets_by : (place : TestPlace) → meets_in class p.tables place ≡ true → IsMet p values place
  meets_by place is =
      let m = meets_there class p.tables place is in
      let at = among_got p.tables place.rule.table m.table m.there in
      let has = has_test p.tables m.table place m.test m.there m.is in
      let same = test_alike p (name_literals p.tables) own class covers lies m.earlier m.table at place.column m.input m.column m.test has in
      let read = reads_from (value_read own m.earlier m.input.origin) m.test (same ∙ m.holds) in
      record {
        table = m.table;
        earlier = m.earlier;
        asked = record { there = m.there; before = before_alike p (name_literals p.tables) own class covers lies place.rule.table ∙ m.before };
        inside = outside_alike p (name_literals p.tables) own class covers lies m.earlier m.table at ∙ m.inside;
        input = m.input;
        column = m.column;
        test = m.test;
        there = m.is;
        value = read.value;
        read = read.is;
        holds = read.holds;
      }

  pub meets_of : (place : TestPlace) → IsMet p values place → meets_in class p.tables place ≡ true
  meets_of place m =
      let at = among_got p.tables place.rule.table m.table m.asked.there in
      let has = has_test p.tables m.table place m.test m.asked.there m.there in
      let same = test_alike p (name_literals p.tables) own class covers lies m.earlier m.table at place.column m.input m.column m.test has in
      meets_from class p.tables place (record {
        table = m.table;
        there = m.asked.there;
        earlier = m.earlier;
        before = sym (before_alike p (name_literals p.tables) own class covers lies place.rule.table) ∙ m.asked.before;
        inside = sym (outside_alike p (name_literals p.tables) own class covers lies m.earlier m.table at) ∙ m.inside;
        input = m.input;
        column = m.column;
        test = m.test;
        is = m.there;
        holds = sym same ∙ ap (λ found. holds_of found (OneOf (m.test ∷ []))) m.read ∙ (sym (alone m.test m.value) ∙ m.holds);
      })

-- what is left after all zones is of use at no possible values
module _ {X : Type 0} (p : PlanParts) (is_used : List ℕ → X → Bool) (IsUsed : List Value → X → Type 0)
    (used_from : (zone : List ℕ) (values : List Value) → ArePossible p values → LieIn (plan_regions p) zone values → (x : X) → is_used zone x ≡ true → IsUsed values x)
    (used_to : (zone : List ℕ) (values : List Value) → ArePossible p values → LieIn (plan_regions p) zone values → (x : X) → IsUsed values x → is_used zone x ≡ true) where
  pub unused : (all found : List X) → IsLeft is_used (Begins [] (plan_regions p)) all found → AreUnused p IsUsed all found
  unused all found left = record {
    keeps = left.keeps;
    are = left.is;
    right = λ x at. (at_no_values x at, in_no_zone x at);
  } where
    at_no_values : (x : X) → Contains all x → left.keeps x ≡ true → (values : List Value) → ArePossible p values → IsUsed values x → ⊥
    at_no_values x at kept values possible uses =
        let here = covered p (needs p.tables) (name_literals p.tables) 0 (length p.names) values possible in
        both_ways (is_used here.zone x) ((left.right x at).0 kept here.zone (record { rest = here.zone; is = refl; is_zone = here.is_zone })) (used_to here.zone values possible here.lie x uses)

    unused_in : (x : X) → ((values : List Value) → ArePossible p values → IsUsed values x → ⊥) → (zone : List ℕ) → Begins [] (plan_regions p) zone → is_used zone x ≡ false
    unused_in x none zone b =
        let here = values_in p (needs p.tables) (name_literals p.tables) 0 (length p.names) b.rest b.is_zone in
        let lie = subst (λ z. LieIn (plan_regions p) z here.values) (sym b.is) here.lie in
        elim (is_used zone x) as (λ b. is_used zone x ≡ b → is_used zone x ≡ false) [
          | true ↦ λ is. absurd (none here.values here.possible (used_from zone here.values here.possible lie x is))
          | false ↦ λ is. is
        ] refl

    in_no_zone : (x : X) → Contains all x → ((values : List Value) → ArePossible p values → IsUsed values x → ⊥) → left.keeps x ≡ true
    in_no_zone x at none = (left.right x at).1 (unused_in x none)

-- the rules and the tests that are left, by tables and regions that are those of the plan
pub dead_rules : (p : PlanParts) → IsPlan p → (tables : List Table) (regions : List (List Region)) (found : List RulePlace) → tables ≡ p.tables → regions ≡ plan_regions p
    → IsLeft (λ zone. gives_in (class_of regions zone) tables) (Begins [] regions) (all_rules tables) found → AreDeadRules p found
dead_rules p plan tables regions found tables_are regions_are left =
    unused p (λ zone. gives_in (class_of (plan_regions p) zone) p.tables) (GivesAnswer p) (λ zone values possible lie. gives_from p plan zone values possible lie)
    (λ zone values possible lie. gives_to p plan zone values possible lie) (all_rules p.tables) found
    (subst (λ ts. IsLeft (λ zone. gives_in (class_of (plan_regions p) zone) ts) (Begins [] (plan_regions p)) (all_rules ts) found) tables_are
    (subst (λ rs. IsLeft (λ zone. gives_in (class_of rs zone) tables) (Begins [] rs) (all_rules tables) found) regions_are left))

pub dead_tests : (p : PlanParts) → IsPlan p → (tables : List Table) (regions : List (List Region)) (found : List TestPlace) → tables ≡ p.tables → regions ≡ plan_regions p
    → IsLeft (λ zone. meets_in (class_of regions zone) tables) (Begins [] regions) (all_tests tables) found → AreDeadTests p found
dead_tests p plan tables regions found tables_are regions_are left =
    unused p (λ zone. meets_in (class_of (plan_regions p) zone) p.tables) (IsMet p) (λ zone values possible lie. meets_by p plan zone values possible lie)
    (λ zone values possible lie. meets_of p plan zone values possible lie) (all_tests p.tables) found
    (subst (λ ts. IsLeft (λ zone. meets_in (class_of (plan_regions p) zone) ts) (Begins [] (plan_regions p)) (all_tests ts) found) tables_are
    (subst (λ rs. IsLeft (λ zone. meets_in (class_of rs zone) tables) (Begins [] rs) (all_tests tables) found) regions_are left))
