-- The precomputed answers of a plan's tables.
use Rattle.std.specs.Prelude.{◌≡◌, ℕ, nat_lt, Bool, ◌&&◌, List, [], ◌∷◌, length, map, Option, Some, None, Ok, Err}
use Rattle.std.specs.List.{range_with_len}
use Rattle.tables.specs.declared.environment.Answer.{Answer}
use Rattle.tables.specs.declared.hit.Hit.{Hit}
use Rattle.tables.specs.declared.hit.Hit.TheVariants.{O, P}
use Rattle.tables.specs.declared.table.Table.{Table}
use Rattle.tables.specs.HitPolicy.{TableValue, by_hit}
use Rattle.tables.specs.Plan.{PlanParts}
use Rattle.tables.specs.Priority.{all_ranked}
use Rattle.cutplan.specs.declared.compiled_column.CompiledColumn.{CompiledColumn}
use Rattle.cutplan.specs.declared.compiled_answers.CompiledAnswers.{CompiledAnswers}
use Rattle.cutplan.specs.declared.input_class.CompiledName.{CompiledName}
use Rattle.cutplan.specs.CompiledColumns.{IsCut}
use Rattle.cutplan.specs.Masks.{has_rule}
use Rattle.cutplan.specs.InputClasses.{AreCompiledNames, ReadsItsNames}

-- the answers of a table's value, unless it is a fault
abbrev pub answers_in : TableValue → Option (List Answer)
answers_in (Ok answers) = Some answers
answers_in (Err fault) = None

-- the answers of a table for these matching rules, unless they give a fault; the table's number is
-- arbitrary, because only faults contain it
abbrev pub answers_of_rules : Table → List ℕ → Option (List Answer)
answers_of_rules t rules = answers_in (by_hit t.hit 1 t rules)

-- all rules in decreasing priority if the hit policy ranks rules, and no rules otherwise
abbrev pub ordered_by : Hit → Table → List ℕ
ordered_by P t = all_ranked t
ordered_by O t = all_ranked t
ordered_by _ t = []

-- the ranking of all rules of the table, if its hit policy ranks rules
abbrev pub ranked_rules : Table → List ℕ
ranked_rules t = ordered_by t.hit t

-- the precomputed answers of a table, for no match and for each rule as the only match, and the
-- ranking of its rules
abbrev pub compiled_answers : Table → CompiledAnswers
compiled_answers t = record { unmatched = answers_of_rules t []; alone = map (λ rule. answers_of_rules t (rule ∷ [])) (range_with_len 0 (length t.rules)); order = ranked_rules t }

-- the mask has the rule
abbrev pub is_in_mask : List ℕ → ℕ → Bool
is_in_mask mask rule = nat_lt rule 256 && has_rule mask rule

-- the parts of a compiled plan: the columns of each table, the answers of each table, and the names
-- that tables read; tables read only names that exist
pub record IsLending (p : PlanParts) (columns_kept : List (List CompiledColumn)) (answers_kept : List CompiledAnswers) (names_kept : List CompiledName) : Type 0 where
  pub cut : IsCut p columns_kept
  pub answers : answers_kept ≡ map compiled_answers p.tables
  pub names : AreCompiledNames p names_kept
  pub within : ReadsItsNames p
