use Rattle.std.proofs.Common.{◌≡◌, false, is_err, ap, refl, ◌∙◌}
use Rattle.fixpoint.specs.BufferedOut.{written_of}
use Rattle.remit_records.specs.Report.{record_text}
use Rattle.remit_records.proofs.Holding.{gathers-and-hands, gathers-record, no-memory, on-ok}
use Rattle.remit_records.proofs.record_writer.RecordWriter.end_record.Goals as goal

pub returns-then-is_err : goal.returns-then-is_err
returns-then-is_err g c = λ start fields pushed.
    no-memory _ _ start (record c.args.self.now { rendered = c.end_record.new.line }) (record_text fields) c.no_memory.result
    (record { written = c.no_memory.ensures.written ∙ ap written_of pushed.0; cause = c.no_memory.ensures.cause })

pub returns-then-len-lt-PIECE_BYTES : goal.returns-then-len-lt-PIECE_BYTES
returns-then-len-lt-PIECE_BYTES g c = λ start fields pushed.
    let ok : is_err c.end_record.result ≡ false = cc (c.is_err.ensures.value, c.if-is_err.false) in
    gathers-record _ _ start c.args.self.now _ fields pushed refl (on-ok c.end_record.result _ ok c.end_record.ensures)

pub returns : goal.returns
returns g c = λ start fields pushed.
    let ok : is_err c.end_record.result ≡ false = cc (c.is_err.ensures.value, c.if-is_err.false) in
    gathers-and-hands _ _ _ _ c.put_rendered.result (gathers-record _ _ start c.args.self.now _ fields pushed refl (on-ok c.end_record.result _ ok c.end_record.ensures))
    c.put_rendered.ensures.writes
