use Rattle.std.proofs.Common.{◌≡◌, false, is_err}
use Rattle.remit_records.proofs.Holding.{on-ok}
use Rattle.remit_records.proofs.Pushing.{field-pushed}
use Rattle.remit_records.proofs.fields.push_field.Goals as goal

pub returns : goal.returns
returns c =
    let done = c.write_field in
    let ok : is_err done.result ≡ false = cc (c.is_err.ensures.value, c.if-is_err.false) in
    field-pushed _ _ c.args.field.now (on-ok done.result _ ok done.ensures.text) (on-ok done.result _ ok done.ensures.same) (on-ok done.result _ ok done.ensures.count)
    (on-ok done.result _ ok done.ensures.wrote) (on-ok done.result _ ok done.ensures.stays)
