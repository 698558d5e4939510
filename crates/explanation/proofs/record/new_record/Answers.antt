use Rattle.remit_records.proofs.Holding.{none-rendered}
use Rattle.explanation.proofs.record.new_record.Goals as goal

pub returns : goal.returns
returns c =
    let made = c.writer_into.ensures in
    record {
      setup = made.setup;
      plain = λ other. cc (made.setup, other);
      text = none-rendered c.writer_into.result c.new.result made.under made.pending c.new.ensures.items;
      count = made.fields;
      shown = made.clean;
    }
