use Rattle.std.proofs.Common.{◌&&◌, ◌^◌, ◌<◌, get_or, ap, ◌∙◌, rules, subst}
use Rattle.std.specs.Prelude.{◌==◌}
use Rattle.cutplan.proofs.Meeting.{none_is}
use Rattle.cutplan.proofs.mask.RuleMask.is_none.Goals as goal

pub returns : goal.returns
returns c =
    ap (λ m. ((get_or m 0 0 == 0 && get_or m 1 0 == 0) && get_or m 2 0 == 0) && get_or m 3 0 == 0) c.self.view_is
    ∙ none_is c.args.count c.args.self.now c.requires.few c.requires.within (λ word. subst (λ m. get_or m word 0 < 2 ^ 64) c.self.view_is (search rules))
