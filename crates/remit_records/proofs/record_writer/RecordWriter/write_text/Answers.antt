use Rattle.std.proofs.Common.{[]}
use Rattle.std.proofs.lemmas.Result.{err_from_is_err_and}
use Rattle.remit_records.specs.RecordWriter.{at, rendered_of}
use Rattle.remit_records.proofs.Holding.{put-alone, text-put, writes-then, writes-within}
use Rattle.remit_records.proofs.record_writer.RecordWriter.write_text.Goals as goal

pub returns-in_err-put_rendered : goal.returns-in_err-put_rendered
returns-in_err-put_rendered g c =
    let p = err_from_is_err_and c.from_residual.result c.from_residual.ensures.1 in
    rw (p.1, p.2)
    (writes-within (at _ _ c.args.self.now) (at _ _ c.put_rendered.new.self) [] c.args.text.now c.in_err-put_rendered.field-0.0 c.in_err-put_rendered.ensures.writes)

pub returns : goal.returns
returns g c =
    let text = c.args.text.now in
    let old = c.put_rendered.new.self in
    writes-then (at _ _ c.args.self.now) (at _ _ old) (at _ _ _) [] text tt c.progress.result c.in_ok-put_rendered.ensures.writes
    (text-put _ _ _ _ old _ text text c.progress.result c.put.ensures.puts c.put.ensures.stays (put-alone (rendered_of old) text c.in_ok-put_rendered.ensures.all)
    (λ ready. record { setup = ready.setup; fields = ready.fields; clean = ready.clean }) c.progress.ensures.whole c.progress.ensures.cut)
