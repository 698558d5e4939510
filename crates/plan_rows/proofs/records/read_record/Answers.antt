use Rattle.plan_rows.proofs.Reading.{reads_from}
use Rattle.plan_rows.proofs.records.read_record.Goals as goal

pub returns : goal.returns
returns c = λ rows h. reads_from _ _ _ _ (c.in-Ok.ensures.reads h.untrimmed h.ready) (c.in-Ok.ensures.ready h.untrimmed) rows h
