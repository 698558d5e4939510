use Rattle.std.proofs.Common.{◌≡◌, ◌∙◌, ap, length, min, rules, subst, take}
use Rattle.std.proofs.lemmas.List.{take_min}
use Rattle.diagnostics.specs.Position.{IsAfter}
use Rattle.diagnostics.proofs.position.position_of.Goals as goal

pub returns : goal.returns
returns c =
    let within : c.min.result ≡ min c.args.at (length c.args.text.now) = search rules in
    subst (λ front. IsAfter front c.position_after.result) (ap (λ count. take count c.args.text.now) within ∙ take_min c.args.at c.args.text.now)
    c.position_after.ensures
