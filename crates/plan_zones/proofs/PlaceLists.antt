-- Lists that grow by what the next number, or the next table, gives.
use Rattle.std.proofs.Common.{◌≡◌, ℕ, suc, ◌+◌, ◌<◌, List, [], ◌∷◌, ◌++◌, length, get_or, drop, map, Ok, Err, ap, sym, ◌∙◌, append-nil, append_assoc, arith, Some}
use Rattle.std.specs.List.{flat_map, range_with_len}
use Rattle.std.proofs.lemmas.List.{drop_more}
use Rattle.std.proofs.lemmas.List.Concat.{flat_map-append}
use Rattle.faults.specs.declared.fault.Fault.{Fault}
use Rattle.faults.specs.declared.fault.Fault.TheVariants.{Outside}
use Rattle.tables.specs.declared.environment.Answer.{Answer}
use Rattle.tables.specs.declared.table.Table.{Table}
use Rattle.tables.specs.Environment.{inside, number_after}
use Rattle.tables.specs.HitPolicy.{TableValue, by_hit}
use Rattle.cutplan.specs.ClassWise.{Zone, first_outside_in, matching_in, table_value_in}
use Rattle.cutplan.proofs.Steps.{range_more}
use Rattle.plan_zones.specs.Giving.{giving}
use Rattle.plan_zones.specs.Runs.{answered_in, giving_in, until_fault}
use Rattle.plan_zones.proofs.Lists.{range_mapped}

-- what the first numbers give, with one more number
range_flat : {Y : Type 0} (f : ℕ → List Y) (n : ℕ) → flat_map f (range_with_len 0 (n + 1)) ≡ flat_map f (range_with_len 0 n) ++ f n
range_flat f n =
    let next : n + 1 ≡ suc n = omega arith in
    let zero_more : 0 + n ≡ n = omega arith in
    ap (λ k. flat_map f (range_with_len 0 k)) next ∙ ap (flat_map f) (range_more 0 n) ∙ flat_map-append f (range_with_len 0 n) ((0 + n) ∷ [])
    ∙ ap (λ rest. flat_map f (range_with_len 0 n) ++ rest) (append-nil (f (0 + n)) ∙ ap f zero_more)

pub pushed_one : {Y : Type 0} (f : ℕ → Y) (old xs new : List Y) (n : ℕ) → xs ≡ old ++ map f (range_with_len 0 n) → new ≡ xs ++ f n ∷ [] → new ≡ old ++ map f (range_with_len 0 (n + 1))
pushed_one f old xs new n are pushed =
    pushed ∙ ap (λ front. front ++ f n ∷ []) are ∙ append_assoc old (map f (range_with_len 0 n)) (f n ∷ []) ∙ ap (λ rest. old ++ rest) (sym (range_mapped f n))

pub pushed_all : {Y : Type 0} (f : ℕ → List Y) (old xs new : List Y) (n : ℕ) → xs ≡ old ++ flat_map f (range_with_len 0 n) → new ≡ xs ++ f n → new ≡ old ++ flat_map f (range_with_len 0 (n + 1))
pushed_all f old xs new n are pushed =
    pushed ∙ ap (λ front. front ++ f n) are ∙ append_assoc old (flat_map f (range_with_len 0 n)) (f n) ∙ ap (λ rest. old ++ rest) (sym (range_flat f n))

module _ (input_class : Zone) (earlier : List (List Answer)) (tables : List Table) (i : ℕ) (t : Table) (below : i < length tables) (present : t ≡ get_or tables i t) where
  next_table : drop i tables ≡ t ∷ drop (i + 1) tables
  next_table = drop_more tables i t below ∙ ap (λ u. u ∷ drop (i + 1) tables) (sym present)

  -- the answers go on with the next table's, or end at its fault
  pub answers_more : (so_far all : List (List Answer)) (answers : List Answer) → table_value_in input_class earlier t ≡ Ok answers → so_far ++ answered_in input_class earlier (drop i tables) ≡ all
      → (so_far ++ answers ∷ []) ++ answered_in input_class (earlier ++ answers ∷ []) (drop (i + 1) tables) ≡ all
  answers_more so_far all answers value are =
      append_assoc so_far (answers ∷ []) (answered_in input_class (earlier ++ answers ∷ []) (drop (i + 1) tables))
      ∙ sym
      (ap (λ rest. so_far ++ rest)
      (ap (answered_in input_class earlier) next_table ∙ ap (λ (v : TableValue). until_fault v (λ answers. answers ∷ answered_in input_class (earlier ++ answers ∷ []) (drop (i + 1) tables))) value))
      ∙ are

  pub answers_end : (so_far all : List (List Answer)) (fault : Fault) → table_value_in input_class earlier t ≡ Err fault → so_far ++ answered_in input_class earlier (drop i tables) ≡ all → so_far ≡ all
  answers_end so_far all fault value are =
      sym (append-nil so_far)
      ∙ sym
      (ap (λ rest. so_far ++ rest)
      (ap (answered_in input_class earlier) next_table ∙ ap (λ (v : TableValue). until_fault v (λ answers. answers ∷ answered_in input_class (earlier ++ answers ∷ []) (drop (i + 1) tables))) value))
      ∙ are

  -- the rules that give the next table's answers
  abbrev rules_by : List Answer → List ℕ
  rules_by answers = giving t.hit t (matching_in input_class earlier t) answers

  pub giving_more : (so_far all : List (List ℕ)) (answers : List Answer) (rules : List ℕ) → table_value_in input_class earlier t ≡ Ok answers → rules ≡ giving t.hit t (matching_in input_class earlier t) answers
      → so_far ++ giving_in input_class earlier (drop i tables) ≡ all → (so_far ++ rules ∷ []) ++ giving_in input_class (earlier ++ answers ∷ []) (drop (i + 1) tables) ≡ all
  giving_more so_far all answers rules value rules_are are =
      append_assoc so_far (rules ∷ []) (giving_in input_class (earlier ++ answers ∷ []) (drop (i + 1) tables))
      ∙ ap (λ first. so_far ++ first ∷ giving_in input_class (earlier ++ answers ∷ []) (drop (i + 1) tables)) rules_are
      ∙ sym
      (ap (λ rest. so_far ++ rest)
      (ap (giving_in input_class earlier) next_table ∙ ap (λ (v : TableValue). until_fault v (λ answers. rules_by answers ∷ giving_in input_class (earlier ++ answers ∷ []) (drop (i + 1) tables))) value))
      ∙ are

  pub giving_end : (so_far all : List (List ℕ)) (fault : Fault) → table_value_in input_class earlier t ≡ Err fault → so_far ++ giving_in input_class earlier (drop i tables) ≡ all → so_far ≡ all
  giving_end so_far all fault value are =
      sym (append-nil so_far)
      ∙ sym
      (ap (λ rest. so_far ++ rest)
      (ap (giving_in input_class earlier) next_table ∙ ap (λ (v : TableValue). until_fault v (λ answers. rules_by answers ∷ giving_in input_class (earlier ++ answers ∷ []) (drop (i + 1) tables))) value))
      ∙ are

-- a table with a column outside its allowed values has a fault
pub outside_ends : (input_class : Zone) (earlier : List (List Answer)) (t : Table) (column : ℕ) → Some column ≡ first_outside_in input_class earlier t
    → (fault : Fault) × (table_value_in input_class earlier t ≡ Err fault)
outside_ends input_class earlier t column is =
    (Outside (number_after earlier) (column + 1), ap (λ found. inside found (number_after earlier) (by_hit t.hit (number_after earlier) t (matching_in input_class earlier t))) (sym is))
