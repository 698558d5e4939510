use Rattle.std.proofs.Common.{◌≡◌, map, drop}
use Rattle.dtable.specs.Scope.{seen_of, earlier_origin}
use Rattle.dtable.proofs.reading.scope.earlier_origin.Given as goal

abbrev pub invariant-loop-table : goal.invariant-loop-table
invariant-loop-table l = earlier_origin l.table (map seen_of (drop l.table l.tables)) l.name ≡ earlier_origin 0 (map seen_of l.tables) l.name
