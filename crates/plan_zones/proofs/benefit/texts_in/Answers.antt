use Rattle.std.proofs.Common.{List, ℕ, [], ◌∷◌, ◌++◌, ap, sym, ◌∙◌, arith}
use Rattle.std.proofs.lemmas.Grind.{common_steps}
use Rattle.settlement.specs.Roles.{text_of}
use Rattle.settlement.proofs.Texts.{text_more, other_more}
use Rattle.plan_zones.proofs.benefit.texts_in.Goals.{in-Some+in_ok-new+in_ok-push, in_default}
use Rattle.plan_zones.proofs.benefit.texts_in.Goals as goal

pub loop-value-preserved : goal.loop-value-preserved
loop-value-preserved c =
    let values = c.args.values.now in
    let i = c.loop-value.value-index in
    let present = ap text_of (sym c.value-item.is) in
    elim c.match-text_of.branch [
      | in-Some+in_ok-new+in_ok-push w ↦
          let more = text_more values i c.value-item.result w.in-Some.text.now c.loop-value-test.true (present ∙ sym w.in-Some.ensures) in
          w.texts-is ∙ w.in_ok-push.ensures.ok ∙ ap (λ (text : List ℕ). c.loop-value.texts ++ text ∷ []) (w.in_ok-new.ensures ∙ w.as_str.ensures.value)
          ∙ ap (λ (texts : List (List ℕ)). texts ++ w.in-Some.text.now ∷ []) c.loop-value.invariant ∙ sym more
      | in_default w ↦
          w.texts-is ∙ c.loop-value.invariant ∙ sym (other_more values i c.value-item.result c.loop-value-test.true (present ∙ sym w.in_default.ensures))
    ]

pub returns : goal.returns
returns c = grind (arith, common_steps)

pub new-requires : goal.new-requires
new-requires c = grind (arith, common_steps)
