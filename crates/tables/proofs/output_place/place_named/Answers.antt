use Rattle.std.proofs.Common.{arith, ◌≡◌, ap, sym, ◌∙◌, Some, None, slice_get}
use Rattle.std.proofs.lemmas.Grind.{common_steps}
use Rattle.std.proofs.lemmas.Option.{slice_get-get_or}
use Rattle.tables.proofs.OutputPlaces.{column_named, named_at, passed_by}
use Rattle.tables.proofs.output_place.place_named.Goals as goal

pub returns-in-Some : goal.returns-in-Some
returns-in-Some c =
    let tables = c.args.tables.now in
    let name = c.args.name.now in
    let place = c.loop-place.place in
    let t = c.index-tables-place.result in
    let at : slice_get tables place ≡ Some t = slice_get-get_or tables place t c.loop-place-test.true ∙ ap (λ x. Some x) (sym c.index-tables-place.is) in
    let column : column_named t.outputs name ≡ Some c.in-Some.column = ap (λ outputs. column_named outputs name) (sym c.as_slice.ensures) ∙ sym c.place_of-column.ensures ∙ c.in-Some.is in
    λ answers. sym (c.loop-place.invariant answers) ∙ named_at tables answers name place c.in-Some.column t c.requires at column

pub loop-place-preserved : goal.loop-place-preserved
loop-place-preserved c =
    let tables = c.args.tables.now in
    let name = c.args.name.now in
    let place = c.loop-place.place in
    let t = c.index-tables-place.result in
    let at : slice_get tables place ≡ Some t = slice_get-get_or tables place t c.loop-place-test.true ∙ ap (λ x. Some x) (sym c.index-tables-place.is) in
    let column : column_named t.outputs name ≡ None = cc in
    λ answers. passed_by tables answers name place t at column ∙ c.loop-place.invariant answers

pub returns : goal.returns
returns c = grind (arith, common_steps)
