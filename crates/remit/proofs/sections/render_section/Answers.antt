use Rattle.std.proofs.Common.{◌≡◌, ◌-◌, [], Some, ap, false, get_or, is_err, sym, ◌∙◌}
use Rattle.fixpoint.specs.Out.{held_in}
use Rattle.remit_records.specs.RecordWriter.{at}
use Rattle.remit_records.specs.Looked.{looked_up}
use Rattle.remit.proofs.Parting.{part-made}
use Rattle.remit.proofs.sections.render_section.Goals as goal

pub returns : goal.returns
returns c =
    let made = c.new-report.ensures in
    let first : is_err c.write_section.result ≡ false = cc (c.is_err.ensures.value, c.if-is_err.false) in
    let last : is_err c.finish.result ≡ false = cc (c.is_err-2.ensures.value, c.if-is_err-2.false) in
    part-made (looked_up c.args.decisions.now) c.args.section c.args.terms.now.plan.names (get_or c.args.terms.now.files (c.args.section.provider - 1) [])
    (at _ _ c.new-report.result.writer) (at _ _ c.write_section.new.self.writer) (at _ _ c.finish.new.self.writer) c.into_text.result.items c.write_section.result
    c.finish.result first last made.unused
    (rw made.decisions at c.write_section.ensures.writes) c.finish.ensures.writes c.finish.ensures.all
    (ap (λ h. Some (held_in h)) c.new-out.ensures.writer ∙ ap Some c.new.ensures)
    (ap (λ h. Some (held_in h)) (sym c.into_inner.ensures) ∙ ap Some (sym c.into_text.ensures))
