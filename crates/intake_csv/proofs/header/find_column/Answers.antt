use Rattle.std.proofs.Common.{refl, true}
use Rattle.csv.specs.Records.{fields_of}
use Rattle.intake_csv.proofs.Headers.{found-once, found-again}
use Rattle.intake_csv.proofs.header.find_column.Goals as goal

pub returns-in_ok-push-in-Once-clause-found : goal.returns-in_ok-push-in-Once-clause-found
returns-in_ok-push-in-Once-clause-found c = λ front h.
    let located = rw c.as_bytes.ensures at c.in-Once.ensures in
    found-once (fields_of c.args.header.now) front c.args.needed.now (record { place = c.in-Once.place; content = c.args.needed.now.content }) c.args.found.now
    (record { columns = c.push.new.self; repeated = c.args.found.now.repeated }) h (record { once = located.0; located = located.1; content = refl }) c.in_ok-push-in-Once.ensures.ok refl

pub returns-in-Repeated-clause-found : goal.returns-in-Repeated-clause-found
returns-in-Repeated-clause-found c = λ front h.
    let again = rw c.as_bytes.ensures at c.in-Repeated.ensures in
    found-again (fields_of c.args.header.now) front c.args.needed.now c.args.found.now (record { columns = c.args.found.now.columns; repeated = true }) h again refl
