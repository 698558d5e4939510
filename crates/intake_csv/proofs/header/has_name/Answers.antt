use Rattle.std.proofs.Common.{rules, ◌≡◌, ◌∙◌, [], get_or}
use Rattle.csv.specs.Records.{fields_of}
use Rattle.intake_csv.proofs.Lists.{field_at-within}
use Rattle.intake_csv.proofs.header.has_name.Goals as goal

pub unreachable-requires : goal.unreachable-requires
unreachable-requires c =
    let found = field_at-within (fields_of c.args.header.now) c.args.place c.requires in
    let none = rw c.in-None.is at c.get.ensures.value in
    cc (none ∙ found)

pub returns : goal.returns
returns c =
    let found = field_at-within (fields_of c.args.header.now) c.args.place c.requires in
    let some = rw c.in-Some.is at c.get.ensures.value in
    let both = some ∙ found in
    let same : c.in-Some.field.now ≡ get_or (fields_of c.args.header.now) c.args.place [] = cc both in
    rw (← same) (search rules)
