use Rattle.csv.specs.Records.{fields_of}
use Rattle.plan_rows.specs.Given.{GivesBelow}
use Rattle.plan_rows.proofs.given.read_given.Given as goal

-- the values of the columns so far
abbrev pub invariant-loop-index : goal.invariant-loop-index
invariant-loop-index l = GivesBelow l.index l.plan.names l.columns (fields_of l.row) l.inputs
