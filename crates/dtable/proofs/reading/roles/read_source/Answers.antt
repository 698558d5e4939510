use Rattle.std.proofs.Common.{map}
use Rattle.dtable.specs.RoleFile.{IsSource, IsNamedSource, asked_kind}
use Rattle.dtable.specs.Scope.{seen_of}
use Rattle.dtable.proofs.ReadParts.{Reads-as}
use Rattle.dtable.proofs.ReadRoles.{source_literal, source_named, named_source}
use Rattle.dtable.proofs.reading.roles.read_source.Goals as goal

pub returns-in-Ok : goal.returns-in-Ok
returns-in-Ok c =
    let spelled = rw c.kind.ensures at c.in-Ok.ensures.ok in
    let kind = rw c.kind.ensures at c.in-Ok.ensures.kind in
    source_literal c.args.names.now (map seen_of c.args.tables.now) c.text_spells_at_most_one_value.ensures c.args.asked c.args.text.now c.in-Ok.value spelled kind c.literal_source.result c.literal_source.ensures.ok c.literal_source.ensures.meets c.literal_source.ensures.refused

pub returns-in_default : goal.returns-in_default
returns-in_default c =
    let names = c.args.names.now in
    let earlier = map seen_of c.args.tables.now in
    let none = rw c.kind.ensures at (c.in-Err.ensures.refused c.in_default.not-OutOfMemory) in
    let read = rw c.kind-in_default.ensures at c.read_named.ensures in
    Reads-as (IsNamedSource names earlier (asked_kind c.args.asked) c.args.text.now) (IsSource names earlier c.args.asked c.args.text.now) c.read_named.result
    (source_named names earlier c.args.asked c.args.text.now none) (named_source names earlier c.args.asked c.args.text.now none) read
