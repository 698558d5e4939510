use Rattle.std.proofs.Common.{[], ◌∷◌, ◌++◌, ◌+◌, Some, get_or, refl, subst, take}
use Rattle.std.proofs.lemmas.List.{take_all}
use Rattle.intake_csv.specs.Validated.{AreValidated}
use Rattle.intake_csv.specs.declared.column.Column.{Column}
use Rattle.intake_csv.specs.declared.column.Content.TheVariants.{Identifier}
use Rattle.faults.specs.declared.file_fault.RowFault.{RowFault}
use Rattle.intake_csv.proofs.Lists.{grown}
use Rattle.intake_csv.proofs.RecordSteps.{read-fault, read-value}
use Rattle.intake_csv.proofs.validation.first_fault.Goals as goal
use Rattle.intake_csv.proofs.validation.first_fault.Goals.{in-None, in-Some}

pub loop-column-preserved : goal.loop-column-preserved
loop-column-preserved c =
    let line = c.args.line.now in
    let columns = c.args.columns.now in
    let k = c.loop-column.column-index in
    let so_far = c.loop-column.invariant in
    elim c.match-branch-2.branch [
      | in-None w ↦
          let validated = rw w.in-None.is at c.in_ok-validate_column.ensures in
          rw w.first-is
          (grown (λ front. AreValidated line front c.loop-column.first) columns k _ c.loop-column-test.true
          (so_far.0 ++ validated.0.0 ∷ [], read-value line (take k columns) _ so_far.0 validated.0.0 c.loop-column.first so_far.1 validated.0.1 validated.1))
      | in-Some w ↦
          let faulty = rw w.in-Some.is at c.in_ok-validate_column.ensures in
          let column : Column = get_or columns k (record { place = 0; content = Identifier }) in
          let fault : RowFault = record { column = column.place + 1; cause = w.in-Some.cause } in
          rw w.first-is
          (grown (λ front. AreValidated line front (Some w.leftmost_fault.result)) columns k _ c.loop-column-test.true
          (so_far.0, read-fault line (take k columns) column so_far.0 c.loop-column.first fault w.leftmost_fault.result so_far.1 refl faulty w.leftmost_fault.ensures))
    ]

pub returns : goal.returns
returns c =
    subst (λ columns. AreValidated c.args.line.now columns c.loop-column.first) (take_all c.loop-column.column-index c.args.columns.now c.loop-column-test.false) c.loop-column.invariant
