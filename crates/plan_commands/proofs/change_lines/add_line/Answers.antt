use Rattle.std.proofs.Common.{◌≡◌, ◌<◌, ◌++◌, ◌∷◌, ◌∙◌, [], OnOk, Some, ap, arith, length, rules, slice_get, slice_set, subst, sym}
use Rattle.std.proofs.lemmas.Grind.{common_steps}
use Rattle.std.proofs.lemmas.Option.{same_Some, slice_get-get_or}
use Rattle.std.proofs.lemmas.Result.{on_ok_weaker}
use Rattle.plan_zones.specs.Boxes.{IsInside}
use Rattle.plan_commands.specs.ChangeLines.{HavePart}
use Rattle.plan_commands.specs.declared.change_lines.Line.{Line}
use Rattle.plan_commands.proofs.Parts.{line_added, line_extended}
use Rattle.plan_commands.proofs.change_lines.add_line.Goals as goal

pub returns-then-are_same_sides : goal.returns-then-are_same_sides
returns-then-are_same_sides c =
    let items = c.loop-place.lines.items in
    let place = c.loop-place.place in
    let set = c.args.set.now in
    let read = c.index.result.now in
    let old = c.index_mut.result.now in
    let new = slice_set items place (record { parts = c.push.new.self; zones = old.zones }) in
    let within : place < length items = grind (arith, common_steps) in
    let at_read : slice_get items place ≡ Some read = slice_get-get_or items place read within ∙ ap (λ l. Some l) (sym c.index.ensures) in
    let at : slice_get items place ≡ Some old = slice_get-get_or items place old within ∙ ap (λ l. Some l) (sym c.index_mut.ensures.value) in
    let equal : old ≡ read = same_Some old read (sym at ∙ at_read) in
    let sides : read.zones.sides ≡ set.sides = rw (c.as_slice.ensures, c.as_slice-in-loop-place.ensures) at (c.are_same_sides.ensures c.if-are_same_sides.true) in
    let extends : c.push.new.self ≡ old.parts ++ c.args.part ∷ [] → HavePart items c.args.part (IsInside set.sides) new =
    λ is. line_extended items new place c.args.part old set at (ap (λ (l : Line). l.zones.sides) equal ∙ sides)
    (ap (λ parts. slice_set items place (record { parts = parts; zones = old.zones })) is) in
    subst (λ xs. OnOk c.push.result (HavePart xs c.args.part (IsInside set.sides) new)) c.loop-place.invariant (on_ok_weaker c.push.result extends c.push.ensures.ok)

pub returns : goal.returns
returns c =
    let line : Line = record { parts = c.push-2.new.self; zones = c.in_ok-zones.zones } in
    let only : c.push-2.new.self ≡ c.args.part ∷ [] = search rules in
    let made : c.push-3.new.self.items ≡ c.loop-place.lines.items ++ line ∷ [] = search rules in
    let whole = made ∙ ap (λ xs. xs ++ line ∷ []) c.loop-place.invariant in
    line_added c.args.lines.now.items c.push-3.new.self.items c.args.part line c.args.set.now only (c.in_ok-zones.ensures ∙ c.as_slice-2.ensures) whole

pub index_mut-requires : goal.index_mut-requires
index_mut-requires c = grind (arith, common_steps)
