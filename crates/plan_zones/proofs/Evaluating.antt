-- The answers of tables in an input class, extended by one table.
use Rattle.std.proofs.Common.{◌≡◌, ℕ, ◌+◌, ◌<◌, List, [], ◌∷◌, ◌++◌, length, get_or, drop, Ok, Err, ap, sym, ◌∙◌}
use Rattle.std.proofs.lemmas.List.{drop_more}
use Rattle.faults.specs.declared.fault.Fault.{Fault}
use Rattle.tables.specs.declared.environment.Answer.{Answer}
use Rattle.tables.specs.declared.table.Table.{Table}
use Rattle.tables.specs.Environment.{and_then}
use Rattle.cutplan.specs.ClassWise.{Zone, answers_in, table_value_in}

module _ (class : Zone) (earlier : List (List Answer)) (tables : List Table) (i : ℕ) (t : Table) (below : i < length tables) (present : t ≡ get_or tables i t) where
  -- the next table's value goes on with its answers, or ends with its fault
  next_value : answers_in class earlier (drop i tables) ≡ and_then (table_value_in class earlier t) (λ answers. answers_in class (earlier ++ answers ∷ []) (drop (i + 1) tables))
  next_value = ap (answers_in class earlier) (drop_more tables i t below ∙ ap (λ u. u ∷ drop (i + 1) tables) (sym present))

  pub answered_more : (answers : List Answer) → table_value_in class earlier t ≡ Ok answers → answers_in class earlier (drop i tables) ≡ answers_in class (earlier ++ answers ∷ []) (drop (i + 1) tables)
  answered_more answers value = next_value ∙ ap (λ v. and_then v (λ answers. answers_in class (earlier ++ answers ∷ []) (drop (i + 1) tables))) value

  pub ended_by : (fault : Fault) → table_value_in class earlier t ≡ Err fault → answers_in class earlier (drop i tables) ≡ Err fault
  ended_by fault value = next_value ∙ ap (λ v. and_then v (λ answers. answers_in class (earlier ++ answers ∷ []) (drop (i + 1) tables))) value
