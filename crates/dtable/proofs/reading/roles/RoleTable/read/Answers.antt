use Rattle.std.proofs.Common.{map, ap, sym, ◌∙◌}
use Rattle.std.specs.Option.{option_map}
use Rattle.toml.specs.View.{view}
use Rattle.dtable.specs.RoleFile.{IsRole, IsSource}
use Rattle.dtable.specs.Scope.{seen_of}
use Rattle.dtable.proofs.ReadParts.{Reads-as}
use Rattle.dtable.proofs.ReadRoles.{no_role, role_made, role_source}
use Rattle.dtable.proofs.reading.roles.RoleTable.read.Goals as goal

pub returns-in-Some : goal.returns-in-Some
returns-in-Some c =
    let names = c.args.self.now.names.now in
    let earlier = map seen_of c.args.self.now.tables.now in
    let roles = view c.args.self.now.roles.now in
    let role = c.args.role in
    let asked = c.of-asked.result in
    let text = c.in-Some.text.now in
    let written = sym c.text_at.ensures ∙ ap (option_map (λ t. t.now)) c.in-Some.is in
    Reads-as (IsSource names earlier asked text) (IsRole names earlier role roles) c.read_source.result
    (role_made names earlier role asked roles text c.of-asked.ensures written) (role_source names earlier role asked roles text c.of-asked.ensures written) c.read_source.ensures

pub returns-in-None : goal.returns-in-None
returns-in-None c =
    let written = sym c.text_at.ensures ∙ ap (option_map (λ t. t.now)) c.in-None.is in
    λ memory. no_role c.args.self.now.names.now (map seen_of c.args.self.now.tables.now) c.args.role (view c.args.self.now.roles.now) written
