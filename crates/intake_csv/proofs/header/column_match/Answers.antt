use Rattle.std.proofs.Common.{rules, ◌<◌, length}
use Rattle.csv.specs.Records.{fields_of}
use Rattle.intake_csv.proofs.Headers.{located-more}
use Rattle.intake_csv.proofs.header.column_match.Goals as goal

pub loop-place-preserved : goal.loop-place-preserved
loop-place-preserved c =
    let within : c.loop-place.place < length (fields_of c.args.header.now) = search rules in
    rw (c.after-present.ensures, c.has_name.ensures) (located-more c.args.name.now (fields_of c.args.header.now) c.loop-place.place c.loop-place.present within c.loop-place.invariant)
