use Rattle.std.proofs.lemmas.Grind.{common_steps}
use Rattle.std.specs.Prelude.{codes}
use Rattle.std.proofs.Common.{◌++◌, [], ◌∷◌, take, ap, ◌∙◌, arith}
use Rattle.std.proofs.lemmas.Result.{on_ok_weaker}
use Rattle.explanation.specs.Facts.{fact}
use Rattle.explanation.proofs.claim_facts.add_record.Goals as goal

pub returns : goal.returns
returns c =
    on_ok_weaker c.add.result
    (λ last. last ∙ ap (λ n. c.args.facts.now ++ fact (codes "remittance") (codes "record") (take n c.args.line.now) ∷ []) c.saturating_sub-end.ensures) c.add.ensures

pub slice_bounds-add-end-3 : goal.slice_bounds-add-end-3
slice_bounds-add-end-3 c = grind (arith, common_steps)
