use Rattle.std.proofs.Common.{codes, ap, sym, ◌∙◌, map}
use Rattle.std.specs.Option.{option_map}
use Rattle.toml.specs.Data.{get}
use Rattle.toml.specs.View.{view}
use Rattle.dtable.specs.Document.{Optionally}
use Rattle.dtable.proofs.Entries.{Optionally-none}
use Rattle.dtable.proofs.Exits.{Optionally-missing, Optionally-some, passed_on}
use Rattle.dtable.specs.RoleFile.{AreRoles}
use Rattle.dtable.specs.Scope.{seen_of}
use Rattle.dtable.proofs.reading.roles.read_roles.Goals as goal

pub returns-in-None : goal.returns-in-None
returns-in-None c = Optionally-missing (AreRoles c.args.families c.args.names.now (map seen_of c.args.tables.now)) _ (sym c.get.ensures ∙ ap (option_map (λ value. view value.now)) c.in-None.is)

pub returns-in_ok-roles-in-Some : goal.returns-in_ok-roles-in-Some
returns-in_ok-roles-in-Some c = Optionally-some (AreRoles c.args.families c.args.names.now (map seen_of c.args.tables.now)) _ _ _ (sym c.get.ensures ∙ ap (option_map (λ value. view value.now)) c.in-Some.is) c.in_ok-roles-in-Some.ensures

pub returns-in_err-roles-in-Some : goal.returns-in_err-roles-in-Some
returns-in_err-roles-in-Some c =
    let there = sym c.get.ensures ∙ ap (option_map (λ value. view value.now)) c.in-Some.is in
    passed_on (Optionally (AreRoles c.args.families c.args.names.now (map seen_of c.args.tables.now)) (get (codes "roles") (view c.args.document.now))) c.from_residual.result _ c.from_residual.ensures.1 (λ memory. Optionally-none (AreRoles c.args.families c.args.names.now (map seen_of c.args.tables.now)) _ _ there (c.in_err-roles-in-Some.ensures memory))
