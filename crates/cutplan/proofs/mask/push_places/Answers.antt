use Rattle.std.proofs.Common.{◌++◌, ap, sym, ◌∙◌, append-nil, rules}
use Rattle.cutplan.proofs.MaskLists.{joined_places, none_set, smaller}
use Rattle.cutplan.proofs.mask.push_places.Goals as goal

pub bits-smaller : goal.bits-smaller
bits-smaller c = smaller c.bits.left c.bits-test.true (search rules)

pub bits-preserved : goal.bits-preserved
bits-preserved c = λ width wide.
    joined_places c.bits.found.items c.push.new.self.items c.args.found.now.items c.args.word c.bits.left c.args.first width wide c.bits-test.true (search rules) c.in_ok-push.ensures.ok (c.bits.invariant width wide)

pub returns : goal.returns
returns c = λ width wide.
    sym (append-nil c.bits.found.items) ∙ ap (λ more. c.bits.found.items ++ more) (sym (none_set c.bits.left c.args.first width c.bits-test.false)) ∙ c.bits.invariant width wide
