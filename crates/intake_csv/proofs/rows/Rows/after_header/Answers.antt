use Rattle.intake_csv.specs.Records.{RecordsLeft}
use Rattle.std.proofs.Common.{ap, arith}
use Rattle.intake_csv.proofs.rows.Rows.after_header.Goals as goal

pub invariant_of-result : goal.invariant_of-result
invariant_of-result c =
    (c.requires.within, c.requires.columns, omega arith, c.requires.small, λ well. ap (λ (r : RecordsLeft). r.given) c.requires.records)
