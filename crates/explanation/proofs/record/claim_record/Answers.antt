use Rattle.std.proofs.Common.{[], option_map}
use Rattle.std.proofs.lemmas.Result.{IfOk-weaker}
use Rattle.remit_records.specs.Report.{report_style}
use Rattle.remit_records.proofs.Pushing.{both-pushed}
use Rattle.explanation.specs.Steps.{claim_record}
use Rattle.explanation.proofs.record.claim_record.Goals as goal

pub returns : goal.returns
returns c =
    let fields = claim_record c.args.version c.args.provider c.args.number c.args.claim.now (option_map (λ o. o.now) c.args.decided) in
    let pushed = both-pushed _ _ _ _ _ c.in_ok-push_number.ensures
    (both-pushed _ _ _ _ _ c.in_ok-push_number-2.ensures (both-pushed _ _ _ _ _ c.in_ok-push_id_columns.ensures c.in_ok-push_claim.ensures)) in
    IfOk-weaker c.text_of.result _ _ (λ text each. each fields (pushed report_style [] [] c.new_record-line.ensures)) c.text_of.ensures
