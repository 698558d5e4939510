use Rattle.intake_csv.proofs.AsciiFields.{ascii-fields}
use Rattle.intake_csv.proofs.csv_record.CsvRecord.read.Goals as goal

pub invariant_of-self : goal.invariant_of-self
invariant_of-self c = λ is.
    ascii-fields c.read-read.new.row (rw (is, c.as_slice.ensures) at c.is_ascii-self-inside.ensures.cases)
