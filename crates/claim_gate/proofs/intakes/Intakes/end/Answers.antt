use Rattle.std.proofs.Common.{arith}
use Rattle.std.proofs.lemmas.List.Sums.{count_by-le-length}
use Rattle.claim_gate.proofs.Providers.{counted_end, open_has_place, written_end}
use Rattle.claim_gate.proofs.intakes.Intakes.end.Goals as goal

pub overflow_add-self : goal.overflow_add-self
overflow_add-self c =
    let most = count_by-le-length (λ x. x.ended) c.self.inside.each.items in
    omega (arith, c.self.invariant, most, c.self.inside.each.ok, c.self.inside.each.small)

pub index_mut-requires : goal.index_mut-requires
index_mut-requires c =
    let open_yet = rw (← c.self.view_is) at c.requires in
    let place = open_has_place c.self.inside.each.items c.args.provider open_yet in
    omega (arith, place.within, c.self.inside.each.ok)

pub invariant_of-self : goal.invariant_of-self
invariant_of-self c =
    let open_yet = rw (← c.self.view_is) at c.requires in
    counted_end c.self.inside.each.items c.args.provider c.index_mut.result.now c.self.inside.ended open_yet c.index_mut.ensures.value c.self.invariant

pub returns : goal.returns
returns c =
    let open_yet = rw (← c.self.view_is) at c.requires in
    rw (← c.self.view_is) (written_end c.self.inside.each.items c.args.provider c.index_mut.result.now open_yet c.index_mut.ensures.value)
