use Rattle.toml.specs.View.{view, items_view}
use Rattle.dtable.proofs.ReadPlan.{AreNames-unwritten, AreNames-no_fields, AreNames-made}
use Rattle.std.proofs.Common.{refl}
use Rattle.dtable.specs.PlanFile.{AreNames}
use Rattle.dtable.proofs.Exits.{passed_on}
use Rattle.dtable.proofs.reading.names.read_names.Goals as goal

pub returns-in_err-entries : goal.returns-in_err-entries
returns-in_err-entries c =
    passed_on (AreNames c.args.families (view c.args.document.now)) c.from_residual.result _ c.from_residual.ensures.1
    (λ memory. AreNames-unwritten c.args.families (view c.args.document.now) c.in_err-entries.ensures.refused)

pub returns-in_err-fields : goal.returns-in_err-fields
returns-in_err-fields c =
    passed_on (AreNames c.args.families (view c.args.document.now)) c.from_residual-in_err-fields.result _ c.from_residual-in_err-fields.ensures.1
    (λ memory. AreNames-no_fields c.args.families (view c.args.document.now) (items_view c.in_ok-entries.entries.now) c.in_ok-entries.ensures.ok (c.in_err-fields.ensures memory))

pub returns : goal.returns
returns c = AreNames-made c.args.families (view c.args.document.now) (items_view c.in_ok-entries.entries.now) c.in_ok-fields.fields c.in_ok-names.names c.in_ok-entries.ensures.ok c.in_ok-fields.ensures c.in_ok-names.ensures

pub returns-in_err-names : goal.returns-in_err-names
returns-in_err-names c = passed_on (AreNames c.args.families (view c.args.document.now)) c.from_residual-in_err-names.result _ c.from_residual-in_err-names.ensures.1 (λ memory names h. memory refl)
