use Rattle.std.proofs.Common.{sym, ◌∙◌}
use Rattle.toml.specs.View.{view}
use Rattle.dtable.proofs.ReadParts.{IsEntry-unlisted}
use Rattle.dtable.proofs.Exits.{passed_on}
use Rattle.dtable.specs.PlanFile.{IsEntry}
use Rattle.dtable.proofs.reading.rules.read_then_entry.Goals as goal

pub returns-in_err-value : goal.returns-in_err-value
returns-in_err-value c =
    passed_on (IsEntry c.args.output.now (view c.args.entry.now)) c.from_residual.result _ c.from_residual.ensures.1
    (λ memory v h. c.in_err-value.ensures memory v h.literal)

pub returns-then-not-is_ranked : goal.returns-then-not-is_ranked
returns-then-not-is_ranked c _ =
    IsEntry-unlisted c.text_spells_at_most_one_value.ensures c.args.output.now (view c.args.entry.now) c.in_ok-value.value c.in_ok-value.ensures (sym c.is_ranked.ensures ∙ c.if-not-is_ranked.true)

pub returns : goal.returns
returns c = record { literal = c.in_ok-value.ensures; listed = sym c.is_ranked.ensures ∙ c.if-not-is_ranked.false }
