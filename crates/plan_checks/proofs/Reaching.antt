-- The tables that are asked in an input class: those before the first fault, and the one with it.
use Rattle.std.proofs.Common.{◌≡◌, ℕ, zero, suc, ◌≤◌, ◌<◌, ◌++◌, Bool, true, false, List, [], ◌∷◌, length, take, Option, Some, None, Ok, Err, refl, ap, sym, ◌∙◌, subst, append-nil, append_assoc, arith}
use Rattle.std.specs.Prelude.{nat_le}
use Rattle.std.specs.List.{slice_get}
use Rattle.std.specs.Option.{is_none, option_map_or}
use Rattle.std.proofs.lemmas.Bool.{and_from, and_parts, both_ways, le-leb, leb-true}
use Rattle.std.proofs.lemmas.Option.{none-some, same_Some, slice_get_within}
use Rattle.feel_tests.specs.declared.cell.Cell.TheVariants.{OneOf}
use Rattle.feel_tests.specs.declared.cell.Test.{Test}
use Rattle.tables.specs.declared.environment.Answer.{Answer}
use Rattle.tables.specs.declared.table.Input.{Input}
use Rattle.tables.specs.declared.table.Table.{Table}
use Rattle.tables.specs.Environment.{and_then}
use Rattle.tables.specs.HitPolicy.{TableValue}
use Rattle.cutplan.specs.ClassWise.{Zone, answers_in, cell_holds_in, first_outside_in, matching_in, table_value_in}
use Rattle.plan_zones.specs.declared.rule_place.TestPlace.{TestPlace}
use Rattle.plan_zones.specs.Giving.{giving}
use Rattle.plan_zones.specs.RulePlaces.{test_at}
use Rattle.plan_zones.specs.Runs.{answered_in, giving_in, meets_after, meets_by, meets_in, until_fault}

module _ (input_class : Zone) where
  -- where the tables before an index have answers, they are the first of those before the first fault
  pub before_is : (e : List (List Answer)) (tables : List Table) (k : ℕ) → k ≤ length (answered_in input_class e tables)
      → answers_in input_class e (take k tables) ≡ Ok (e ++ take k (answered_in input_class e tables))
  before_is e tables zero below = ap Ok (sym (append-nil e))
  before_is e [] (suc k) below = absurd (omega (arith, below))
  before_is e (t ∷ ts) (suc k) below = by_value (table_value_in input_class e t) (λ answers short. before_is (e ++ answers ∷ []) ts k short) below where
    more : List Answer → List (List Answer)
    more answers = answered_in input_class (e ++ answers ∷ []) ts

    by_value : (v : TableValue) → ((answers : List Answer) → k ≤ length (more answers) → answers_in input_class (e ++ answers ∷ []) (take k ts) ≡ Ok ((e ++ answers ∷ []) ++ take k (more answers)))
        → suc k ≤ length (until_fault v (λ answers. answers ∷ more answers))
        → and_then v (λ answers. answers_in input_class (e ++ answers ∷ []) (take k ts)) ≡ Ok (e ++ take (suc k) (until_fault v (λ answers. answers ∷ more answers)))
    by_value (Ok answers) rest below = rest answers (omega (arith, below)) ∙ ap Ok (append_assoc e (answers ∷ []) (take k (more answers)))
    by_value (Err fault) rest below = absurd (omega (arith, below))

  pub all_answered : (e : List (List Answer)) (tables : List Table) (k : ℕ) (earlier : List (List Answer)) → k ≤ length tables → answers_in input_class e (take k tables) ≡ Ok earlier
      → k ≤ length (answered_in input_class e tables)
  all_answered e tables zero earlier below is = omega arith
  all_answered e [] (suc k) earlier below is = absurd (omega (arith, below))
  all_answered e (t ∷ ts) (suc k) earlier below is =
      by_value (table_value_in input_class e t) (λ answers there. all_answered (e ++ answers ∷ []) ts k earlier (omega (arith, below)) there) is where
        more : List Answer → List (List Answer)
        more answers = answered_in input_class (e ++ answers ∷ []) ts

        by_value : (v : TableValue) → ((answers : List Answer) → answers_in input_class (e ++ answers ∷ []) (take k ts) ≡ Ok earlier → k ≤ length (more answers))
            → and_then v (λ answers. answers_in input_class (e ++ answers ∷ []) (take k ts)) ≡ Ok earlier → suc k ≤ length (until_fault v (λ answers. answers ∷ more answers))
        by_value (Ok answers) rest there = let short = rest answers there in omega (arith, short)
        by_value (Err fault) rest there = absurd cc

  -- a table with answers, and the rules that give them
  pub record GivesThere (e : List (List Answer)) (tables : List Table) (k : ℕ) (rules : List ℕ) : Type 0 where
    pub table : Table
    pub there : slice_get tables k ≡ Some table
    pub earlier : List (List Answer)
    pub before : answers_in input_class e (take k tables) ≡ Ok earlier
    pub answers : List Answer
    pub value : table_value_in input_class earlier table ≡ Ok answers
    pub are : rules ≡ giving table.hit table (matching_in input_class earlier table) answers

  pub giving_there : (e : List (List Answer)) (tables : List Table) (k : ℕ) (rules : List ℕ) → slice_get (giving_in input_class e tables) k ≡ Some rules → GivesThere e tables k rules
  giving_there e [] k rules at = absurd (none-some rules at)
  giving_there e (t ∷ ts) k rules at = by_value (table_value_in input_class e t) refl k (λ answers i there. giving_there (e ++ answers ∷ []) ts i rules there) at where
    rules_by : List Answer → List ℕ
    rules_by answers = giving t.hit t (matching_in input_class e t) answers

    more : List Answer → List (List ℕ)
    more answers = giving_in input_class (e ++ answers ∷ []) ts

    by_value : (v : TableValue) → table_value_in input_class e t ≡ v → (i : ℕ)
        → ((answers : List Answer) (i : ℕ) → slice_get (more answers) i ≡ Some rules → GivesThere (e ++ answers ∷ []) ts i rules)
        → slice_get (until_fault v (λ answers. rules_by answers ∷ more answers)) i ≡ Some rules → GivesThere e (t ∷ ts) i rules
    by_value (Ok answers) is zero later at = record { table = t; there = refl; earlier = e; before = refl; answers = answers; value = is; are = sym (same_Some (rules_by answers) rules at) }
    by_value (Ok answers) is (suc i) later at =
        let rest = later answers i at in
        record {
          table = rest.table;
          there = rest.there;
          earlier = rest.earlier;
          before = ap (λ (v : TableValue). and_then v (λ answers. answers_in input_class (e ++ answers ∷ []) (take i ts))) is ∙ rest.before;
          answers = rest.answers;
          value = rest.value;
          are = rest.are;
        }
    by_value (Err fault) is i later at = absurd (none-some rules at)

  first_given : (e : List (List Answer)) (t : Table) (ts : List Table) (answers : List Answer) → table_value_in input_class e t ≡ Ok answers
      → slice_get (giving_in input_class e (t ∷ ts)) 0 ≡ Some (giving t.hit t (matching_in input_class e t) answers)
  first_given e t ts answers value =
      ap (λ (v : TableValue). slice_get (until_fault v (λ answers. giving t.hit t (matching_in input_class e t) answers ∷ giving_in input_class (e ++ answers ∷ []) ts)) 0) value

  pub giving_at : (e : List (List Answer)) (tables : List Table) (k : ℕ) (table : Table) (earlier : List (List Answer)) (answers : List Answer) → slice_get tables k ≡ Some table
      → answers_in input_class e (take k tables) ≡ Ok earlier → table_value_in input_class earlier table ≡ Ok answers
      → slice_get (giving_in input_class e tables) k ≡ Some (giving table.hit table (matching_in input_class earlier table) answers)
  giving_at e [] k table earlier answers there before value = absurd (none-some table there)
  giving_at e (t ∷ ts) zero table earlier answers there before value =
      let t_is : t ≡ table = same_Some t table there in
      let e_is : e ≡ earlier = cc in
      let value_here : table_value_in input_class e t ≡ Ok answers =
      subst (λ u. table_value_in input_class e u ≡ Ok answers) (sym t_is) (subst (λ f. table_value_in input_class f table ≡ Ok answers) (sym e_is) value) in
      subst (λ u. slice_get (giving_in input_class e (t ∷ ts)) 0 ≡ Some (giving u.hit u (matching_in input_class earlier u) answers)) t_is
      (subst (λ f. slice_get (giving_in input_class e (t ∷ ts)) 0 ≡ Some (giving t.hit t (matching_in input_class f t) answers)) e_is (first_given e t ts answers value_here))
  giving_at e (t ∷ ts) (suc k) table earlier answers there before value =
      by_value (table_value_in input_class e t) (λ own short. giving_at (e ++ own ∷ []) ts k table earlier answers there short value) before where
        wanted : List ℕ
        wanted = giving table.hit table (matching_in input_class earlier table) answers

        by_value : (v : TableValue) → ((own : List Answer) → answers_in input_class (e ++ own ∷ []) (take k ts) ≡ Ok earlier → slice_get (giving_in input_class (e ++ own ∷ []) ts) k ≡ Some wanted)
            → and_then v (λ answers. answers_in input_class (e ++ answers ∷ []) (take k ts)) ≡ Ok earlier
            → slice_get (until_fault v (λ answers. giving t.hit t (matching_in input_class e t) answers ∷ giving_in input_class (e ++ answers ∷ []) ts)) (suc k) ≡ Some wanted
        by_value (Ok own) rest before = rest own before
        by_value (Err fault) rest before = absurd cc

-- what a test of an optional value says
pub some_of : {X : Type 0} (f : X → Bool) (found : Option X) → option_map_or f found false ≡ true → (x : X) × (found ≡ Some x) × (f x ≡ true)
some_of f None is = absurd (both_ways false refl is)
some_of f (Some x) is = (x, refl, is)

pub of_some : {X : Type 0} (f : X → Bool) (found : Option X) (x : X) → found ≡ Some x → f x ≡ true → option_map_or f found false ≡ true
of_some f found x is holds = ap (λ found. option_map_or f found false) is ∙ holds

none_from : {X : Type 0} (found : Option X) → is_none found ≡ true → found ≡ None
none_from None is = refl
none_from (Some x) is = absurd (both_ways false refl is)

-- a table that is asked, none of whose columns is outside, and a test that holds for what a column reads
pub record MeetsThere (input_class : Zone) (tables : List Table) (place : TestPlace) : Type 0 where
  pub table : Table
  pub there : slice_get tables place.rule.table ≡ Some table
  pub earlier : List (List Answer)
  pub before : answers_in input_class [] (take place.rule.table tables) ≡ Ok earlier
  pub inside : first_outside_in input_class earlier table ≡ None
  pub input : Input
  pub column : slice_get table.inputs place.column ≡ Some input
  pub test : Test
  pub is : test_at tables place ≡ Some test
  pub holds : cell_holds_in input_class earlier input.origin (OneOf (test ∷ [])) ≡ true

pub meets_there : (input_class : Zone) (tables : List Table) (place : TestPlace) → meets_in input_class tables place ≡ true → MeetsThere input_class tables place
meets_there input_class tables place is =
    let k = place.rule.table in
    let answered = answered_in input_class [] tables in
    let earlier = take k answered in
    let both = and_parts (nat_le k (length answered)) (meets_by input_class tables earlier place) is in
    let here = some_of (meets_after input_class tables earlier place) (slice_get tables k) both.1 in
    let table = here.0 in
    let last = and_parts (is_none (first_outside_in input_class earlier table))
    (option_map_or (λ input. option_map_or (λ test. cell_holds_in input_class earlier input.origin (OneOf (test ∷ []))) (test_at tables place) false) (slice_get table.inputs place.column) false) here.2 in
    let column = some_of (λ (input : Input). option_map_or (λ test. cell_holds_in input_class earlier input.origin (OneOf (test ∷ []))) (test_at tables place) false) (slice_get table.inputs place.column) last.1 in
    let tested = some_of (λ test. cell_holds_in input_class earlier column.0.origin (OneOf (test ∷ []))) (test_at tables place) column.2 in
    record {
      table = table;
      there = here.1;
      earlier = earlier;
      before = before_is input_class [] tables k (leb-true k (length answered) both.0);
      inside = none_from (first_outside_in input_class earlier table) last.0;
      input = column.0;
      column = column.1;
      test = tested.0;
      is = tested.1;
      holds = tested.2;
    }

pub meets_from : (input_class : Zone) (tables : List Table) (place : TestPlace) → MeetsThere input_class tables place → meets_in input_class tables place ≡ true
meets_from input_class tables place m =
    let k = place.rule.table in
    let answered = answered_in input_class [] tables in
    let within : k < length tables = slice_get_within tables k m.table m.there in
    let below : k ≤ length answered = all_answered input_class [] tables k m.earlier (omega (arith, within)) m.before in
    let earlier_is : take k answered ≡ m.earlier = (let same = sym (before_is input_class [] tables k below) ∙ m.before in cc) in
    let after : meets_after input_class tables m.earlier place m.table ≡ true =
    and_from (is_none (first_outside_in input_class m.earlier m.table))
    (option_map_or (λ input. option_map_or (λ test. cell_holds_in input_class m.earlier input.origin (OneOf (test ∷ []))) (test_at tables place) false) (slice_get m.table.inputs place.column) false) (ap is_none m.inside)
    (of_some (λ (input : Input). option_map_or (λ test. cell_holds_in input_class m.earlier input.origin (OneOf (test ∷ []))) (test_at tables place) false) (slice_get m.table.inputs place.column) m.input m.column
    (of_some (λ test. cell_holds_in input_class m.earlier m.input.origin (OneOf (test ∷ []))) (test_at tables place) m.test m.is m.holds)) in
    and_from (nat_le k (length answered)) (meets_by input_class tables (take k answered) place) (le-leb k (length answered) below)
    (of_some (meets_after input_class tables (take k answered) place) (slice_get tables k) m.table m.there (subst (λ earlier. meets_after input_class tables earlier place m.table ≡ true) (sym earlier_is) after))
