use Rattle.std.proofs.Common.{◌≡◌, false, ◌&&◌, take}
use Rattle.std.specs.List.{list_any}
use Rattle.std.specs.Str.{bytes_eq}
use Rattle.feel_tests.specs.declared.kind.Kind.TheVariants as kinds
use Rattle.tables.specs.Plan.{same_kind}
use Rattle.dtable.proofs.reading.roles.some_text.Given as goal

abbrev pub invariant-loop-output : goal.invariant-loop-output
invariant-loop-output l = list_any (λ o. bytes_eq o.name l.name && same_kind kinds.Text o.kind) (take l.output-index l.outputs) ≡ false
