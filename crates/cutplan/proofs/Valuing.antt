-- The tables of a plan, one after another: the answers of the next table, or its fault.
use Rattle.std.proofs.Common.{◌≡◌, ◌≢◌, ℕ, ◌+◌, ◌<◌, List, [], ◌∷◌, ◌++◌, length, get_or, drop, Result, Ok, Err, ap, sym, ◌∙◌}
use Rattle.std.proofs.lemmas.List.{drop_more}
use Rattle.tables.specs.declared.environment.Answer.{Answer}
use Rattle.faults.specs.declared.fault.Fault.{Fault}
use Rattle.faults.specs.declared.fault.Fault.TheVariants.{OutOfMemory}
use Rattle.tables.specs.declared.inputs.Slot.{Slot}
use Rattle.tables.specs.declared.table.Table.{Table}
use Rattle.tables.specs.Environment.{answers_of, table_value, and_then}
use Rattle.tables.specs.HitPolicy.{TableValue}

-- the tables from one on
from_table : (given : List Slot) (answers : List (List Answer)) (tables : List Table) (i : ℕ) (t : Table) → i < length tables → t ≡ get_or tables i t
    → answers_of given answers (drop i tables) ≡ and_then (table_value given answers t) (λ more. answers_of given (answers ++ more ∷ []) (drop (i + 1) tables))
from_table given answers tables i t below is =
    ap (answers_of given answers) (drop_more tables i t below ∙ ap (λ h. h ∷ drop (i + 1) tables) (sym is))

pub one_more_answers : (given : List Slot) (answers shown new : List (List Answer)) (tables : List Table) (i : ℕ) (t : Table) (next : List Answer) (whole : Result (List (List Answer)) Fault) → i < length tables → t ≡ get_or tables i t
    → shown ≡ answers → table_value given shown t ≡ Ok next → new ≡ answers ++ next ∷ [] → answers_of given answers (drop i tables) ≡ whole → answers_of given new (drop (i + 1) tables) ≡ whole
one_more_answers given answers shown new tables i t next whole below is seen value pushed so_far =
    let here : table_value given answers t ≡ Ok next = ap (λ a. table_value given a t) (sym seen) ∙ value in
    let step = from_table given answers tables i t below is in
    let rest = λ (more : List Answer). answers_of given (answers ++ more ∷ []) (drop (i + 1) tables) in
    ap (λ a. answers_of given a (drop (i + 1) tables)) pushed ∙ sym (ap (λ (o : TableValue). and_then o rest) here) ∙ sym step ∙ so_far

pub fault_of_table : (given : List Slot) (answers shown : List (List Answer)) (tables : List Table) (i : ℕ) (t : Table) (fault : Fault) (whole : Result (List (List Answer)) Fault) → i < length tables → t ≡ get_or tables i t
    → shown ≡ answers → (fault ≢ OutOfMemory → table_value given shown t ≡ Err fault) → answers_of given answers (drop i tables) ≡ whole → fault ≢ OutOfMemory → whole ≡ Err fault
fault_of_table given answers shown tables i t fault whole below is seen value so_far reported =
    let here : table_value given answers t ≡ Err fault = ap (λ a. table_value given a t) (sym seen) ∙ value reported in
    let step = from_table given answers tables i t below is in
    let rest = λ (more : List Answer). answers_of given (answers ++ more ∷ []) (drop (i + 1) tables) in
    sym so_far ∙ step ∙ ap (λ (o : TableValue). and_then o rest) here
