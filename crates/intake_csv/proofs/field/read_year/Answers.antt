use Rattle.intake_csv.proofs.Spelling.{year_read, year_unread}
use Rattle.intake_csv.proofs.field.read_year.Goals as goal

pub returns-in-Some-clause-read : goal.returns-in-Some-clause-read
returns-in-Some-clause-read c =
    let is = rw c.as_bytes.ensures.value at c.in-Some.ensures.some in
    year_read c.args.text.now c.in-Some.year c.requires is

pub returns-in-Some-clause-in_range : goal.returns-in-Some-clause-in_range
returns-in-Some-clause-in_range c = c.in-Some.ensures.some.year_in

pub returns-in-None-clause-read : goal.returns-in-None-clause-read
returns-in-None-clause-read c =
    let none = rw c.as_bytes.ensures.value at c.in-None.ensures.none in
    year_unread c.args.text.now c.requires none
