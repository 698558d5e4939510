use Rattle.std.proofs.Common.{◌≡◌, [], ◌∙◌}
use Rattle.remit_records.specs.RecordWriter.{rendered_of}
use Rattle.remit_records.proofs.Holding.{all-put, in-any-case, no-memory, none-rendered, text-put}
use Rattle.remit_records.proofs.record_writer.RecordWriter.put_rendered.Goals as goal

pub returns-in_default-clause-writes : goal.returns-in_default-clause-writes
returns-in_default-clause-writes g c =
    no-memory _ _ c.args.self.now c.args.self.now [] c.no_memory.result (record { written = c.no_memory.ensures.written; cause = c.no_memory.ensures.cause })

pub returns-clause-writes : goal.returns-clause-writes
returns-clause-writes g c =
    let kept : c.as_slice.result.now ≡ rendered_of c.args.self.now = rw (← c.replace-full.ensures.value) (c.as_slice.ensures.value ∙ c.in-Ok.ensures.ok) in
    let made = c.writer_into.ensures in
    let none = none-rendered c.writer_into.result _ made.under made.pending c.clear.ensures.items in
    text-put _ _ _ _ c.args.self.now _ c.as_slice.result.now [] c.progress.result c.put.ensures.puts c.put.ensures.stays (all-put _ _ _ kept none)
    (λ ready. record { setup = made.setup; fields = made.fields; clean = made.clean }) c.progress.ensures.whole c.progress.ensures.cut

pub returns-clause-all : goal.returns-clause-all
returns-clause-all g c =
    let made = c.writer_into.ensures in
    in-any-case c.progress.result _ (none-rendered c.writer_into.result _ made.under made.pending c.clear.ensures.items)
