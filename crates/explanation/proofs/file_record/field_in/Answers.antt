use Rattle.std.proofs.Common.{◌≡◌, ◌-◌, [], ap, get_or, sym, ◌∙◌}
use Rattle.csv.specs.Records.{fields_of}
use Rattle.csv.proofs.RecordFacts.{field-get}
use Rattle.explanation.proofs.FileRecords.{field_missing}
use Rattle.explanation.proofs.file_record.field_in.Goals as goal

pub returns-in-Some : goal.returns-in-Some
returns-in-Some c =
    let fields = fields_of c.args.line.now in
    let some = rw c.in-Some.is at c.get.ensures.value in
    let place : c.saturating_sub.result ≡ c.args.column - 1 = c.saturating_sub.ensures in
    sym (field-get fields c.saturating_sub.result c.in-Some.field.now (sym some)) ∙ ap (λ n. get_or fields n []) place

pub returns-in-None : goal.returns-in-None
returns-in-None c =
    let fields = fields_of c.args.line.now in
    let none = rw c.in-None.is at c.get.ensures.value in
    let place : c.saturating_sub.result ≡ c.args.column - 1 = c.saturating_sub.ensures in
    sym (field_missing fields c.saturating_sub.result (sym none)) ∙ ap (λ n. get_or fields n []) place
