use Rattle.std.proofs.Common.{[], ◌∷◌}
use Rattle.std.proofs.lemmas.Result.{IfOk-weaker}
use Rattle.remit_records.specs.Report.{report_style}
use Rattle.remit_records.proofs.Pushing.{both-pushed}
use Rattle.explanation.proofs.record.record_of.Goals as goal

pub returns : goal.returns
returns c =
    let fields = c.args.first.now ∷ c.args.second.now ∷ c.args.third.now ∷ [] in
    let pushed = both-pushed _ _ _ _ _ c.in_ok-push_field.ensures (both-pushed _ _ _ _ _ c.in_ok-push_field-2.ensures c.in_ok-push_field-3.ensures) in
    IfOk-weaker c.text_of.result _ _ (λ text each. each fields (pushed report_style [] [] c.new_record-line.ensures)) c.text_of.ensures
