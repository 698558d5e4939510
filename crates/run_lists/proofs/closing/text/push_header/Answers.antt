use Rattle.std.proofs.Common.{OnOk, subst}
use Rattle.remit_records.specs.Fields.{Pushes}
use Rattle.remit_records.proofs.Pushing.{both-pushed-ok}
use Rattle.run_lists.proofs.Rendering.{header-names}
use Rattle.run_lists.proofs.closing.text.push_header.Goals as goal

pub returns : goal.returns
returns c =
    subst (λ fields. OnOk c.push_field-3.result (Pushes c.args.line.now c.push_field-3.new.line fields)) (header-names c.args.version)
    (both-pushed-ok _ _ _ _ _ _ c.in_ok-push_account.ensures
    (both-pushed-ok _ _ _ _ _ _ c.in_ok-push_field.ensures (both-pushed-ok _ _ _ _ _ _ c.in_ok-push_field-2.ensures c.push_field-3.ensures)))
