use Rattle.std.proofs.Common.{ap, take, ◌∙◌, arith}
use Rattle.std.proofs.lemmas.Grind.{common_steps}
use Rattle.std.proofs.lemmas.List.{take_min}
use Rattle.explanation.proofs.refusal.first_bytes.Goals as goal

pub returns : goal.returns
returns c = ap (λ most. take most c.args.field.now) c.min.ensures ∙ take_min 256 c.args.field.now

pub slice_bounds-result-end : goal.slice_bounds-result-end
slice_bounds-result-end c = grind (arith, common_steps)
