-- The answers of tables, extended by one table.
use Rattle.std.proofs.Common.{◌≡◌, ℕ, ◌+◌, ◌<◌, List, [], ◌∷◌, ◌++◌, length, get_or, drop, Result, Ok, Err, IsErrAnd, ap, sym, subst, ◌∙◌}
use Rattle.std.proofs.lemmas.List.{drop_more}
use Rattle.faults.specs.declared.fault.Fault.{Fault}
use Rattle.tables.specs.declared.environment.Answer.{Answer}
use Rattle.tables.specs.declared.inputs.Slot.{Slot}
use Rattle.tables.specs.declared.table.Table.{Table}
use Rattle.tables.specs.Environment.{and_then, answers_of, table_value}
use Rattle.tables.specs.HitPolicy.{Gives, IsFaultOf}

-- the next table's value goes on with its answers, or ends with its fault
next_value : (given : List Slot) (earlier : List (List Answer)) (tables : List Table) (i : ℕ) (t : Table) → i < length tables → t ≡ get_or tables i t
    → answers_of given earlier (drop i tables) ≡ and_then (table_value given earlier t) (λ answers. answers_of given (earlier ++ answers ∷ []) (drop (i + 1) tables))
next_value given earlier tables i t below present =
    ap (answers_of given earlier) (drop_more tables i t below ∙ ap (λ u. u ∷ drop (i + 1) tables) (sym present))

module _ (given : List Slot) (earlier : List (List Answer)) (tables : List Table) (i : ℕ) (t : Table) (below : i < length tables) (present : t ≡ get_or tables i t) where
  pub answered_more : (answers : List Answer) → table_value given earlier t ≡ Ok answers → answers_of given earlier (drop i tables) ≡ answers_of given (earlier ++ answers ∷ []) (drop (i + 1) tables)
  answered_more answers value = next_value given earlier tables i t below present ∙ ap (λ v. and_then v (λ answers. answers_of given (earlier ++ answers ∷ []) (drop (i + 1) tables))) value

  pub ended_by : (fault : Fault) → table_value given earlier t ≡ Err fault → answers_of given earlier (drop i tables) ≡ Err fault
  ended_by fault value = next_value given earlier tables i t below present ∙ ap (λ v. and_then v (λ answers. answers_of given (earlier ++ answers ∷ []) (drop (i + 1) tables))) value

-- a fault that is passed on
pub passed_on : {X : Type 0} (expected r : Result X Fault) (fault : Fault) → IsErrAnd r (λ it. it ≡ fault) → IsFaultOf expected fault → Gives expected r
passed_on expected (Ok x) fault h is = absurd h
passed_on expected (Err it) fault h is = subst (IsFaultOf expected) (sym h) is
