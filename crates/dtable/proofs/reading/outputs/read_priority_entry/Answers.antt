use Rattle.std.proofs.Common.{sym, ◌∙◌}
use Rattle.toml.specs.View.{view}
use Rattle.dtable.proofs.ReadParts.{IsPriority-listed}
use Rattle.dtable.proofs.Exits.{passed_on}
use Rattle.dtable.specs.PlanFile.{IsPriority}
use Rattle.dtable.proofs.reading.outputs.read_priority_entry.Goals as goal

pub returns-in_err-value : goal.returns-in_err-value
returns-in_err-value c =
    passed_on (IsPriority c.args.kind c.args.front.now (view c.args.entry.now)) c.from_residual.result _ c.from_residual.ensures.1
    (λ memory v h. c.in_err-value.ensures memory v h.literal)

pub returns-then-is_listed : goal.returns-then-is_listed
returns-then-is_listed c _ =
    IsPriority-listed c.text_spells_at_most_one_value.ensures c.args.kind c.args.front.now (view c.args.entry.now) c.in_ok-value.value c.in_ok-value.ensures (sym c.is_listed.ensures ∙ c.if-is_listed.true)

pub returns : goal.returns
returns c = record { literal = c.in_ok-value.ensures; new = sym c.is_listed.ensures ∙ c.if-is_listed.false }
