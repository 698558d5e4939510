use Rattle.std.proofs.Common.{◌≡◌, ℕ, None, subst, sym}
use Rattle.feel_tests.specs.Calendar.{year_text}
use Rattle.feel_tests.specs.declared.kind.Kind.{Kind}
use Rattle.feel_tests.specs.declared.kind.Kind.TheVariants as kinds
use Rattle.feel_tests.specs.declared.value.Value.{Value}
use Rattle.feel_tests.specs.declared.value.Value.TheVariants.{Number, Text}
use Rattle.intake_csv.specs.declared.column.Content.TheVariants.{Identifier, Money, Plain, Year}
use Rattle.intake_csv.specs.Validated.{IsFieldValidated}
use Rattle.intake_csv.proofs.ValidRecords.{validated, words_validated}
use Rattle.intake_csv.proofs.validation.validate_text.Goals as goal

pub returns-in-Identifier : goal.returns-in-Identifier
returns-in-Identifier c =
    rw (c.in-Identifier.is, c.err.ensures.value) (validated (λ done. Text c.args.text.now) Identifier c.args.text.now c.check_identifier.result c.check_identifier.ensures)

pub returns-in-Money : goal.returns-in-Money
returns-in-Money c = rw (c.in-Money.is, c.err-in-Money.ensures.value) (validated Number Money c.args.text.now c.read_money.result c.read_money.ensures)

pub returns-in-Year : goal.returns-in-Year
returns-in-Year c = rw (c.in-Year.is, c.err-in-Year.ensures.value) (validated (λ (year : ℕ). Text (year_text year)) Year c.args.text.now c.read_year.result c.read_year.ensures.read)

pub returns-in-Plain-Text : goal.returns-in-Plain-Text
returns-in-Plain-Text c =
    let texts : c.in-Plain-Text.field-0 ≡ kinds.Text = rw c.in-Plain-Text.is at c.in-Plain-Text.field-0-is in
    rw c.in-Plain-Text.is (subst (λ (kind : Kind). IsFieldValidated (Plain kind) c.args.text.now None) (sym texts) (words_validated c.args.text.now c.requires))

pub returns-in_ok-read_of_kind-in-Plain : goal.returns-in_ok-read_of_kind-in-Plain
returns-in_ok-read_of_kind-in-Plain c =
    let value_of : Value → Value = λ value. value in
    rw (c.in-Plain.is, c.err-in-Plain.ensures.value) (validated value_of (Plain c.in-Plain.kind) c.args.text.now c.in_ok-read_of_kind-in-Plain.field-0
    c.in_ok-read_of_kind-in-Plain.ensures)
