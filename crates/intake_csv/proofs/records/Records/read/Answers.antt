use Rattle.std.proofs.Common.{rules, arith, drop, refl}
use Rattle.csv.specs.Records.{fields_of}
use Rattle.intake_csv.specs.Reader.{HasLeft}
use Rattle.intake_csv.specs.Records.{records_of}
use Rattle.intake_csv.proofs.AllRecords.{reader-ends, reader-gives, records-few}
use Rattle.intake_csv.proofs.records.Records.read.Goals as goal

pub overflow_add-self : goal.overflow_add-self
overflow_add-self c =
    let i = c.self.inside in
    let at : HasLeft i.reader (drop i.given (records_of i.text.now)) = rw c.in-Reading.is at c.self.invariant.0 in
    let read = rw c.if-not-found.false at (c.in-Ok.ensures.reads at.untrimmed at.ready) in
    let gives = reader-gives i.reader c.read_byte_record.new.self (records_of i.text.now) i.given (fields_of c.read_byte_record.new.row) at read (c.in-Ok.ensures.ready at.untrimmed) in
    omega (arith, gives.within, records-few i.text.now, c.self.told.1)

pub invariant_of-self-then-not-found : goal.invariant_of-self-then-not-found
invariant_of-self-then-not-found c =
    let i = c.self.inside in
    let at : HasLeft i.reader (drop i.given (records_of i.text.now)) = rw c.in-Reading.is at c.self.invariant.0 in
    let read = rw c.if-not-found.true at (c.in-Ok.ensures.reads at.untrimmed at.ready) in
    (reader-ends i.reader c.read_byte_record.new.self (drop i.given (records_of i.text.now)) (fields_of c.read_byte_record.new.row) at read, c.self.invariant.1)

pub returns-then-not-found-clause-reads : goal.returns-then-not-found-clause-reads
returns-then-not-found-clause-reads c =
    let i = c.self.inside in
    let at : HasLeft i.reader (drop i.given (records_of i.text.now)) = rw c.in-Reading.is at c.self.invariant.0 in
    let read = rw c.if-not-found.true at (c.in-Ok.ensures.reads at.untrimmed at.ready) in
    rw (← c.self.view_is, c.in-Reading.is) (reader-ends i.reader c.read_byte_record.new.self (drop i.given (records_of i.text.now)) (fields_of c.read_byte_record.new.row) at read, refl, refl)

pub invariant_of-self-2 : goal.invariant_of-self-2
invariant_of-self-2 c =
    let i = c.self.inside in
    let at : HasLeft i.reader (drop i.given (records_of i.text.now)) = rw c.in-Reading.is at c.self.invariant.0 in
    let read = rw c.if-not-found.false at (c.in-Ok.ensures.reads at.untrimmed at.ready) in
    let gives = reader-gives i.reader c.read_byte_record.new.self (records_of i.text.now) i.given (fields_of c.read_byte_record.new.row) at read (c.in-Ok.ensures.ready at.untrimmed) in
    (rw c.in-Reading.is gives.left, omega (arith, gives.within))

pub returns-clause-reads : goal.returns-clause-reads
returns-clause-reads c =
    let i = c.self.inside in
    let at : HasLeft i.reader (drop i.given (records_of i.text.now)) = rw c.in-Reading.is at c.self.invariant.0 in
    let read = rw c.if-not-found.false at (c.in-Ok.ensures.reads at.untrimmed at.ready) in
    let gives = reader-gives i.reader c.read_byte_record.new.self (records_of i.text.now) i.given (fields_of c.read_byte_record.new.row) at read (c.in-Ok.ensures.ready at.untrimmed) in
    rw (← c.self.view_is, c.in-Reading.is) (gives.next, refl, refl)

pub invariant_of-self : goal.invariant_of-self
invariant_of-self c = search rules

pub returns-in_default-clause-refused : goal.returns-in_default-clause-refused
returns-in_default-clause-refused c = search rules

pub returns-in-Over-clause-refused : goal.returns-in-Over-clause-refused
returns-in-Over-clause-refused c = search rules

pub returns-in-Over-clause-over : goal.returns-in-Over-clause-over
returns-in-Over-clause-over c = search rules
