-- The gaps and overlaps that violate the hit policy of a table (DMN 1.4, hit policies). Tables and
-- rules are numbered from 1.
use Rattle.std.specs.Prelude.{ℕ, ◌-◌, Bool, true, false, not, ◌&&◌, Err, slice_get}
use Rattle.std.specs.Option.{option_map_or}
use Rattle.faults.specs.declared.fault.Fault.TheVariants.{NoRule}
use Rattle.tables.specs.declared.hit.Hit.{Hit}
use Rattle.tables.specs.declared.hit.Hit.TheVariants.{U, A}
use Rattle.tables.specs.declared.table.Table.{Table}
use Rattle.tables.specs.HitPolicy.{TableValue, agree, no_match_value}
use Rattle.tables.specs.Plan.{PlanParts, gives_one}

-- the table has the fault that no rule matches
abbrev pub is_no_rule : TableValue → Bool
is_no_rule (Err (NoRule number)) = true
is_no_rule _ = false

-- the table with this number has a `NoRule` fault if no rule matches: its hit policy lists no
-- matches, and some output has no default
abbrev pub needs_match : ℕ → Table → Bool
needs_match number t = gives_one t.hit && is_no_rule (no_match_value number t)

-- the gaps of the table with this number are errors: it has a `NoRule` fault in them
abbrev pub gap_is_error : PlanParts → ℕ → Bool
gap_is_error p table = option_map_or (needs_match table) (slice_get p.tables (table - 1)) false

-- the hit policy forbids that both rules match, which are numbered from 0: `U` forbids it for all
-- rules, and `A` for rules with different entries
abbrev pub clash : Hit → Table → ℕ → ℕ → Bool
clash U t rule other = true
clash A t rule other = not (agree t rule other)
clash _ t rule other = false

-- an overlap of these two rules of the table with this number is an error
abbrev pub overlap_is_error : PlanParts → ℕ → ℕ → ℕ → Bool
overlap_is_error p table first second = option_map_or (λ t. clash t.hit t (first - 1) (second - 1)) (slice_get p.tables (table - 1)) false
