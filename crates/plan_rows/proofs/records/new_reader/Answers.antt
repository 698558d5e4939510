use Rattle.std.proofs.Common.{◌∙◌, inr}
use Rattle.csv.specs.Reading.{strip_bom}
use Rattle.intake_csv.proofs.AllRecords.{are-records-of}
use Rattle.plan_rows.proofs.records.new_reader.Goals as goal

pub returns : goal.returns
returns c =
    let fr = c.from_reader.ensures in
    let f = c.flexible.ensures in
    let e = c.has_headers.ensures in
    record {
      untrimmed = rw (f, e) at fr.trim ∙ c.new.ensures.trim;
      ready = inr (inr (rw (f, e) at fr.has_headers, fr.headers));
      config = rw (f, e) at fr.config ∙ c.new.ensures.config;
      bytes = strip_bom c.args.text.now;
      source = fr.source;
      are = rw fr.state (are-records-of c.args.text.now);
    }
