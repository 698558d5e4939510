use Rattle.std.proofs.Common.{refl, subst, sym, ◌∙◌}
use Rattle.toml.specs.View.{view}
use Rattle.dtable.specs.PlanFile.{IsNamed}
use Rattle.dtable.proofs.ReadParts.{IsNamed-formless, IsNamed-long}
use Rattle.dtable.proofs.Exits.{missing, passed_on}
use Rattle.dtable.proofs.reading.names.read_name.Goals as goal

pub returns-then-not-has_name_form : goal.returns-then-not-has_name_form
returns-then-not-has_name_form c _ = IsNamed-formless (view c.args.entry.now) c.in_ok-text.text.now c.in_ok-text.ensures.ok (sym c.has_name_form.ensures ∙ c.if-not-has_name_form.true)

pub returns-then-text-gt-NAME_LIMIT_BYTES : goal.returns-then-text-gt-NAME_LIMIT_BYTES
returns-then-text-gt-NAME_LIMIT_BYTES c _ = IsNamed-long (view c.args.entry.now) c.in_ok-text.text.now c.in_ok-text.ensures.ok c.if-text-gt-NAME_LIMIT_BYTES.true

pub new-requires : goal.new-requires
new-requires c = c.if-text-gt-NAME_LIMIT_BYTES.false

pub returns-in_err-new : goal.returns-in_err-new
returns-in_err-new c = passed_on (IsNamed (view c.args.entry.now)) c.from_residual-in_err-new.result _ c.from_residual-in_err-new.ensures.1 (λ memory name h. memory refl)

pub returns-in_err-text : goal.returns-in_err-text
returns-in_err-text c = passed_on (IsNamed (view c.args.entry.now)) c.from_residual.result _ c.from_residual.ensures.1 (λ memory name h. missing _ _ c.in_err-text.ensures.refused h.written)

pub returns : goal.returns
returns c =
    subst (IsNamed (view c.args.entry.now)) (sym c.in_ok-new.ensures)
    (record { written = c.in_ok-text.ensures.ok; form = sym c.has_name_form.ensures ∙ c.if-not-has_name_form.false; short = c.if-text-gt-NAME_LIMIT_BYTES.false })
