use Rattle.std.proofs.Common.{ℕ, ◌<◌, IsTrue}
use Rattle.plan_rows.specs.Columns.{gives, is_needed}
use Rattle.plan_rows.proofs.columns.first_ungiven.Given as goal

-- each name so far that is needed is given
abbrev pub invariant-loop-place : goal.invariant-loop-place
invariant-loop-place l = (place : ℕ) → place < l.place → IsTrue (is_needed l.plan l.columns place) → IsTrue (gives l.columns place)
