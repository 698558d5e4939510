use Rattle.std.proofs.Common.{◌≡◌, Some, ap, sym, ◌∙◌}
use Rattle.cutplan.proofs.CompiledAnswers.{answers_unmatched, answers_alone_hold}
use Rattle.cutplan.proofs.compiled_answers.find_answers.Goals.{then-is_empty, else-is_empty+in_ok-rule+in_ok-found}
use Rattle.cutplan.proofs.compiled_answers.find_answers.Goals as goal

pub returns-in-Some : goal.returns-in-Some
returns-in-Some c =
    let t = c.args.table.now in
    let kept = c.args.kept.now in
    let rules = c.args.rules.now in
    let answers = c.as_slice-in-Some.result.now in
    let is : c.if-is_empty.found.now ≡ Some answers = c.in-Some.is ∙ ap (λ a. Some a) (sym c.as_slice-in-Some.ensures) in
    elim c.if-is_empty.branch [
      | then-is_empty w ↦ answers_unmatched t kept rules answers c.requires.kept (sym c.is_empty.ensures ∙ w.if-is_empty.true) (sym (ap (λ r. r.now) w.found-is) ∙ is)
      | else-is_empty+in_ok-rule+in_ok-found w ↦
          let there = w.in_ok-found.ensures.lookup in
          answers_alone_hold t kept rules w.in_ok-rule.rule w.as_slice-else-is_empty.result.now w.in_ok-found.found.now answers c.requires.kept w.in_ok-rule.ensures w.as_slice-else-is_empty.ensures there.0 there.1
          (sym (ap (λ r. r.now) w.found-is) ∙ is)
    ]
