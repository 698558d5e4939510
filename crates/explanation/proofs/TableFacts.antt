-- The facts of a table, piece by piece.
use Rattle.std.specs.Prelude.{codes, decimal}
use Rattle.std.proofs.Common.{◌≡◌, ℕ, List, [], ◌∷◌, ◌++◌, length, Ok, Err, sym, ap, ◌∙◌}
use Rattle.faults.specs.declared.fault.Fault.{Fault}
use Rattle.tables.specs.declared.environment.Answer.{Answer}
use Rattle.tables.specs.declared.inputs.Slot.{Slot}
use Rattle.tables.specs.declared.table.Table.{Table}
use Rattle.tables.specs.Environment.{number_after, table_value}
use Rattle.tables.specs.HitPolicy.{TableValue}
use Rattle.tables.specs.Matching.{matching}
use Rattle.explanation.specs.Facts.{FactParts, fact}
use Rattle.explanation.specs.Tables.{answer_facts, answering, fault_facts, hit_text, read_facts, result_facts, rule_facts, table_facts, table_step}
use Rattle.explanation.proofs.Appending.{five, six}

module _ (given : List Slot) (earlier : List (List Answer)) (t : Table) (step rules : List ℕ) (named : step ≡ table_step (number_after earlier)) (match : rules ≡ matching given earlier t) where
  -- the facts with any value of the table
  abbrev with_value : List ℕ → List ℕ → TableValue → List FactParts
  with_value s r value =
      read_facts s given earlier t.inputs
      ++ (fact s (codes "hit policy") (hit_text t.hit)
      ∷ fact s (codes "number of rules that match") (decimal (length r))
      ∷ (rule_facts s (codes "rule that matches") r ++ result_facts s t r value))

  by_names : (value : TableValue) → table_value given earlier t ≡ value → with_value step rules value ≡ table_facts given earlier t
  by_names value is = (λ i. with_value (named i) (match i) (sym is i))

  module _ (start a b c d : List FactParts) (one : a ≡ start ++ read_facts step given earlier t.inputs) (other : b ≡ a ++ fact step (codes "hit policy") (hit_text t.hit) ∷ [])
      (third : c ≡ b ++ fact step (codes "number of rules that match") (decimal (length rules)) ∷ []) (fourth : d ≡ c ++ rule_facts step (codes "rule that matches") rules) where
    pub answered : (e f : List FactParts) (answers : List Answer) → table_value given earlier t ≡ Ok answers
        → e ≡ d ++ rule_facts step (codes "rule that gives the answer") (answering t.hit t rules) → f ≡ e ++ answer_facts step t.outputs answers → f ≡ start ++ table_facts given earlier t
    answered e f answers value fifth last = six start a b c d e f _ _ _ _ _ _ one other third fourth fifth last ∙ ap (λ xs. start ++ xs) (by_names (Ok answers) value)

    pub faulty : (e : List FactParts) (fault : Fault) → table_value given earlier t ≡ Err fault → e ≡ d ++ fault_facts step fault → e ≡ start ++ table_facts given earlier t
    faulty e fault value last = five start a b c d e _ _ _ _ _ one other third fourth last ∙ ap (λ xs. start ++ xs) (by_names (Err fault) value)
