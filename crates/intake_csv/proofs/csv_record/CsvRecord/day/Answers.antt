use Rattle.feel_tests.specs.declared.kind.Kind.TheVariants as kinds
use Rattle.intake_csv.proofs.Spelling.{no_plain}
use Rattle.std.proofs.lemmas.Option.{same_Some}
use Rattle.std.proofs.Common.{refl, sym, ◌∙◌}
use Rattle.feel_tests.specs.declared.value.Value.TheVariants.{Day}
use Rattle.intake_csv.proofs.csv_record.CsvRecord.day.Goals as goal

pub returns-in-Err-Bad-clause-lacking : goal.returns-in-Err-Bad-clause-lacking
returns-in-Err-Bad-clause-lacking c = λ held located.
    let at = rw (c.in-Some-Ok.is, c.in-Some-Ok.field-0-is) at c.text.ensures.text in
    let same = same_Some located.bytes c.in-Some-Ok.text.now (sym located.field ∙ at) in
    let bad = no_plain kinds.Day c.in-Some-Ok.text.now (rw c.in-Err-Bad.field-0-is at c.in-Err-Bad.ensures.refused) in
    absurd (bad (Day held) (refl, rw same at located.spells.1))
