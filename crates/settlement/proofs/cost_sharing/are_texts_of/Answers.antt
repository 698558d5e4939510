use Rattle.std.proofs.Common.{◌≡◌, Some, slice_get, ap, sym, ◌∙◌, arith, rules}
use Rattle.std.proofs.lemmas.Grind.{common_steps}
use Rattle.std.proofs.lemmas.Option.{slice_get_within}
use Rattle.settlement.specs.Roles.{text_of}
use Rattle.settlement.proofs.Texts.{compared_more, other_more}
use Rattle.settlement.proofs.cost_sharing.are_texts_of.Goals.{in-Some+else-not-is_at, in_default}
use Rattle.settlement.proofs.cost_sharing.are_texts_of.Goals as goal

pub loop-value-preserved : goal.loop-value-preserved
loop-value-preserved c =
    let values = c.args.values.now in
    let remarks = c.args.remarks.now in
    let i = c.loop-value.value-index in
    let n = c.loop-value.compared in
    let present = ap text_of (sym c.value-item.is) in
    let before = c.loop-value.invariant in
    elim c.match-text_of.branch [
      | in-Some+else-not-is_at w ↦
          let bytes = w.in-Some.text.now in
          let found : slice_get remarks n ≡ Some bytes = search rules in
          let step = compared_more values remarks i n c.value-item.result bytes c.loop-value-test.true (present ∙ sym w.in-Some.ensures) found before.0 in
          let within = slice_get_within remarks n bytes found in
          let next = w.compared-is in
          (rw next step, omega (arith, next, within))
      | in_default w ↦
          let step = other_more values i c.value-item.result c.loop-value-test.true (present ∙ sym w.in_default.ensures) in
          (rw w.compared-is (before.0 ∙ sym step), rw w.compared-is before.1)
    ]

pub overflow_add-compared : goal.overflow_add-compared
overflow_add-compared c =
    let found : slice_get c.args.remarks.now c.loop-value.compared ≡ Some c.in-Some.text.now = search rules in
    omega (arith, slice_get_within c.args.remarks.now c.loop-value.compared c.in-Some.text.now found, c.len-count.ensures)

pub returns : goal.returns
returns c = grind (arith, common_steps)
