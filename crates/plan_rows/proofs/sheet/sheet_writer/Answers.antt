use Rattle.std.proofs.Common.{ap, ◌∙◌}
use Rattle.csv.specs.Writing.{with_terminator}
use Rattle.csv.specs.declared.parser.Terminator.TheVariants.{CRLF}
use Rattle.plan_rows.proofs.Sheets.{no_text}
use Rattle.plan_rows.proofs.sheet.sheet_writer.Goals as goal

pub returns : goal.returns
returns c =
    let made = c.from_writer.ensures in
    let style = made.cfg ∙ c.terminator.ensures ∙ ap (λ w. with_terminator w CRLF) c.new.ensures in
    no_text c.from_writer.result _ made.wtr c.new-2.ensures.items made.empty style made.fields made.wrote
