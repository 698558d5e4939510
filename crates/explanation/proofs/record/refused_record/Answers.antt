use Rattle.std.proofs.Common.{[]}
use Rattle.std.proofs.lemmas.Result.{IfOk-weaker}
use Rattle.remit_records.specs.Report.{report_style}
use Rattle.remit_records.proofs.Pushing.{both-pushed}
use Rattle.explanation.specs.Steps.{refused_record}
use Rattle.explanation.proofs.record.refused_record.Goals as goal

pub returns : goal.returns
returns c =
    let fields = refused_record c.args.version c.args.provider c.args.number c.args.fault in
    let pushed = both-pushed _ _ _ _ _ c.in_ok-push_number.ensures
    (both-pushed _ _ _ _ _ c.in_ok-push_number-2.ensures (both-pushed _ _ _ _ _ c.in_ok-push_whose.ensures c.in_ok-push_refused.ensures)) in
    IfOk-weaker c.text_of.result _ _ (λ text each. each fields (pushed report_style [] [] c.new_record-line.ensures)) c.text_of.ensures
