use Rattle.std.proofs.Common.{◌≡◌, true, take}
use Rattle.std.specs.List.{list_all}
use Rattle.tables.specs.HitPolicy.{agree}
use Rattle.tables.proofs.evaluation.single.rules_agree.Given as goal

abbrev pub invariant-loop-other : goal.invariant-loop-other
invariant-loop-other l = list_all (agree l.table l.rule) (take l.other-index l.others) ≡ true
