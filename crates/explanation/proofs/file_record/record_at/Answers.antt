use Rattle.std.proofs.Common.{◌≡◌, ◌-◌, ◌+◌, drop, inr, subst, sym, arith, ◌∙◌}
use Rattle.std.proofs.lemmas.Grind.{common_steps}
use Rattle.csv.specs.Reading.{strip_bom}
use Rattle.csv.specs.Records.{fields_of}
use Rattle.intake_csv.specs.Reader.{HasLeft}
use Rattle.intake_csv.specs.Records.{records_of}
use Rattle.intake_csv.proofs.AllRecords.{are-records-of, reader-ends, reader-gives}
use Rattle.explanation.proofs.FileRecords.{no_record, record_found}
use Rattle.explanation.proofs.file_record.record_at.Goals as goal

pub records-init : goal.records-init
records-init c =
    let fr = c.from_reader-reader.ensures in
    let f = c.flexible.ensures in
    let e = c.has_headers.ensures in
    let none : c.args.number - c.args.number ≡ 0 = omega arith in (
      omega arith,
      rw none (record {
        untrimmed = rw (f, e) at fr.trim ∙ c.new.ensures.trim;
        ready = inr (inr (rw (f, e) at fr.has_headers, fr.headers));
        config = rw (f, e) at fr.config ∙ c.new.ensures.config;
        bytes = strip_bom c.args.text.now;
        source = fr.source;
        are = rw fr.state (are-records-of c.args.text.now);
      }),
    )

pub returns-then-not-found : goal.returns-then-not-found
returns-then-not-found c =
    let all = records_of c.args.text.now in
    let passed = c.args.number - c.records.earlier in
    let left = c.records.invariant.1 in
    let read = rw c.if-not-found.true at (c.in-Ok.ensures.reads left.untrimmed left.ready) in
    let none = reader-ends c.records.reader c.read_byte_record.new.self (drop passed all) (fields_of c.read_byte_record.new.row) left read in
    c.new-then-not-found.ensures.fields ∙ sym (no_record all passed c.args.number none (omega arith))

pub returns-then-earlier-eq0 : goal.returns-then-earlier-eq0
returns-then-earlier-eq0 c =
    let all = records_of c.args.text.now in
    let passed = c.args.number - c.records.earlier in
    let left = c.records.invariant.1 in
    let read = rw c.if-not-found.false at (c.in-Ok.ensures.reads left.untrimmed left.ready) in
    let gives = reader-gives c.records.reader c.read_byte_record.new.self all passed (fields_of c.read_byte_record.new.row) left read (c.in-Ok.ensures.ready left.untrimmed) in
    let last = c.if-earlier-eq0.true in
    record_found all passed c.args.number (fields_of c.read_byte_record.new.row) (drop (passed + 1) all) gives.next (omega (arith, last))

pub records-preserved : goal.records-preserved
records-preserved c =
    let all = records_of c.args.text.now in
    let passed = c.args.number - c.records.earlier in
    let within = c.records.invariant.0 in
    let left = c.records.invariant.1 in
    let read = rw c.if-not-found.false at (c.in-Ok.ensures.reads left.untrimmed left.ready) in
    let gives = reader-gives c.records.reader c.read_byte_record.new.self all passed (fields_of c.read_byte_record.new.row) left read (c.in-Ok.ensures.ready left.untrimmed) in
    let more = c.if-earlier-eq0.false in
    let one : passed + 1 ≡ c.args.number - (c.records.earlier - 1) = omega (arith, within, more) in
    (omega (arith, within), subst (λ n. HasLeft c.read_byte_record.new.self (drop n all)) one gives.left)

pub overflow_sub-earlier : goal.overflow_sub-earlier
overflow_sub-earlier c = grind (arith, common_steps)

pub records-smaller : goal.records-smaller
records-smaller c = grind (arith, common_steps)
