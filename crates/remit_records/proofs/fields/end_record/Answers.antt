use Rattle.std.proofs.Common.{◌≡◌, false, is_err}
use Rattle.remit_records.proofs.Holding.{on-ok}
use Rattle.remit_records.proofs.Pushing.{record-ended}
use Rattle.remit_records.proofs.fields.end_record.Goals as goal

pub returns : goal.returns
returns c =
    let done = c.end_record in
    let ok : is_err done.result ≡ false = cc (c.is_err.ensures.value, c.if-is_err.false) in
    record-ended _ _ (on-ok done.result _ ok done.ensures.bytes) (on-ok done.result _ ok done.ensures.same) (on-ok done.result _ ok done.ensures.fields) (on-ok done.result _ ok done.ensures.wrote)
