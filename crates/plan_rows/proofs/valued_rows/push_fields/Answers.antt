use Rattle.std.proofs.Common.{◌++◌, ◌∷◌, [], take, ap, sym, ◌∙◌, append_assoc, arith}
use Rattle.std.proofs.lemmas.Grind.{common_steps}
use Rattle.csv.specs.Records.{fields_of}
use Rattle.plan_rows.proofs.HeaderColumns.{names_more}
use Rattle.plan_rows.proofs.valued_rows.push_fields.Goals as goal

pub loop-place-preserved : goal.loop-place-preserved
loop-place-preserved c =
    let place = c.loop-place.place in
    let fields = fields_of c.args.row.now in
    let field = c.field_of.result.now in
    let more = names_more fields place field c.field_of.ensures in
    c.in_ok-push.ensures ∙ ap (λ line. line ++ field ∷ []) c.loop-place.invariant ∙ append_assoc c.args.line.now (take place fields) (field ∷ [])
    ∙ ap (λ front. c.args.line.now ++ front) (sym more)

pub returns : goal.returns
returns c = grind (arith, common_steps)
