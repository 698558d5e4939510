use Rattle.std.proofs.Common.{◌≡◌, true, take}
use Rattle.std.specs.List.{list_all}
use Rattle.feel_tests.specs.declared.kind.Kind.TheVariants as kinds
use Rattle.tables.specs.Plan.{same_kind}
use Rattle.dtable.proofs.reading.constraints.are_numbers.Given as goal

abbrev pub invariant-loop-output : goal.invariant-loop-output
invariant-loop-output l = list_all (λ o. same_kind o.kind kinds.Number) (take l.output-index l.outputs) ≡ true
