use Rattle.std.proofs.Common.{length, map, ◌≤◌, refl, ap, subst, sym, ◌∙◌}
use Rattle.std.specs.Bool.{OnTrue}
use Rattle.std.specs.Option.{option_map}
use Rattle.toml.specs.View.{view}
use Rattle.tables.specs.Limits.{name_limit_bytes}
use Rattle.dtable.specs.RoleFile.{AreRemarks}
use Rattle.dtable.specs.Scope.{seen_of}
use Rattle.dtable.proofs.ReadRoles.{AreRemarks-unlisted}
use Rattle.dtable.proofs.Exits.{passed_on, string_of}
use Rattle.dtable.proofs.reading.roles.read_remarks_name.Goals as goal

pub new-requires : goal.new-requires
new-requires c = subst (λ listed. OnTrue listed (length c.in-Some.text.now ≤ name_limit_bytes)) c.if-not-lists_texts.false c.lists_texts.ensures.short

pub returns-then-not-lists_texts : goal.returns-then-not-lists_texts
returns-then-not-lists_texts c _ =
    AreRemarks-unlisted (map seen_of c.args.tables.now) (view c.args.entry.now) c.in-Some.text.now (sym c.as_str.ensures ∙ ap (option_map (λ text. text.now)) c.in-Some.is) (sym c.lists_texts.ensures.listed ∙ c.if-not-lists_texts.true)

pub returns-in_err-new : goal.returns-in_err-new
returns-in_err-new c = passed_on (AreRemarks (map seen_of c.args.tables.now) (view c.args.entry.now)) c.from_residual.result _ c.from_residual.ensures.1 (λ memory name h. memory refl)

pub returns : goal.returns
returns c =
    let text = c.in-Some.text.now in
    let written = string_of (view c.args.entry.now) text (sym c.as_str.ensures ∙ ap (option_map (λ text. text.now)) c.in-Some.is) in
    subst (AreRemarks (map seen_of c.args.tables.now) (view c.args.entry.now)) (sym c.in_ok-new.ensures) (record { written = written; lists = sym c.lists_texts.ensures.listed ∙ c.if-not-lists_texts.false })
