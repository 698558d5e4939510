-- What a table does in an input class.
use Rattle.std.specs.Prelude.{◌≡◌, List, Option, Some, None, Ok, Err}
use Rattle.faults.specs.declared.fault.Fault.{Fault}
use Rattle.tables.specs.declared.environment.Answer.{Answer}
use Rattle.tables.specs.declared.table.Table.{Table}
use Rattle.cutplan.specs.ClassWise.{Zone, matching_in, table_value_in}
use Rattle.plan_zones.specs.declared.zone_run.TableRun.{TableRun}
use Rattle.plan_zones.specs.Giving.{giving}

-- the table's answers and the rules that give them, if the table has no fault
abbrev pub IsRunOf : Zone → List (List Answer) → Table → Option TableRun → Type 0
IsRunOf input_class earlier t (Some run) = (table_value_in input_class earlier t ≡ Ok run.answers) × (run.giving ≡ giving t.hit t (matching_in input_class earlier t) run.answers)
IsRunOf input_class earlier t None = (fault : Fault) × (table_value_in input_class earlier t ≡ Err fault)
