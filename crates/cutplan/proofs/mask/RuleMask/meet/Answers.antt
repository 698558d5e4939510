use Rattle.std.proofs.Common.{◌&&◌, refl, ap₂, ◌∙◌}
use Rattle.cutplan.specs.Masks.{has_rule}
use Rattle.cutplan.proofs.MaskBits.{met}
use Rattle.cutplan.proofs.mask.RuleMask.meet.Goals as goal

pub returns-clause-has : goal.returns-clause-has
returns-clause-has c place within =
    met c.self.inside.words c.other.inside.words _ place within refl ∙ ap₂ (λ a b. has_rule a place && has_rule b place) c.self.view_is c.other.view_is
