use Rattle.std.proofs.Common.{ap, sym, ◌∙◌, map}
use Rattle.std.specs.Option.{option_map}
use Rattle.toml.specs.Data.{get}
use Rattle.toml.specs.View.{view}
use Rattle.faults.specs.declared.role_key.RoleKey.TheVariants as keys
use Rattle.faults.specs.RoleKeys.{key_of}
use Rattle.dtable.specs.Document.{Optionally}
use Rattle.dtable.specs.RoleFile.{AreRemarks}
use Rattle.dtable.specs.Scope.{seen_of}
use Rattle.dtable.proofs.Entries.{Optionally-none}
use Rattle.dtable.proofs.Exits.{Optionally-missing, Optionally-some, passed_on}
use Rattle.dtable.proofs.reading.roles.read_remarks.Goals as goal

pub returns-in-None : goal.returns-in-None
returns-in-None c = Optionally-missing (AreRemarks (map seen_of c.args.table.now.tables.now)) _ (sym (c.get.ensures ∙ ap (λ key. get key (view c.args.table.now.roles.now)) c.key.ensures) ∙ ap (option_map (λ value. view value.now)) c.in-None.is)

pub returns-in_ok-name-in-Some : goal.returns-in_ok-name-in-Some
returns-in_ok-name-in-Some c = Optionally-some (AreRemarks (map seen_of c.args.table.now.tables.now)) _ _ _ (sym (c.get.ensures ∙ ap (λ key. get key (view c.args.table.now.roles.now)) c.key.ensures) ∙ ap (option_map (λ value. view value.now)) c.in-Some.is) c.in_ok-name-in-Some.ensures

pub returns-in_err-name-in-Some : goal.returns-in_err-name-in-Some
returns-in_err-name-in-Some c =
    let there = sym (c.get.ensures ∙ ap (λ key. get key (view c.args.table.now.roles.now)) c.key.ensures) ∙ ap (option_map (λ value. view value.now)) c.in-Some.is in
    passed_on (Optionally (AreRemarks (map seen_of c.args.table.now.tables.now)) (get (key_of keys.Remarks) (view c.args.table.now.roles.now))) c.from_residual.result _ c.from_residual.ensures.1 (λ memory. Optionally-none (AreRemarks (map seen_of c.args.table.now.tables.now)) _ _ there (c.in_err-name-in-Some.ensures memory))
