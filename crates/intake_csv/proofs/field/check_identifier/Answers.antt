use Rattle.std.proofs.lemmas.Grind.{common_steps}
use Rattle.std.proofs.Common.{rules, ◌≢◌, [], arith}
use Rattle.intake_csv.proofs.Spelling.{identifier_read}
use Rattle.intake_csv.proofs.field.check_identifier.Goals as goal

pub returns-then-is_empty : goal.returns-then-is_empty
returns-then-is_empty c = grind (arith, common_steps)

pub returns : goal.returns
returns c =
    let some : c.args.text.now ≢ [] = search rules in
    identifier_read c.args.text.now c.requires some
