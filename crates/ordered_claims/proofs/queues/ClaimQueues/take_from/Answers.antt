use Rattle.std.proofs.Common.{subst, sym, arith}
use Rattle.std.proofs.lemmas.Grind.{common_steps}
use Rattle.std.proofs.lemmas.Bool.{false≢true}
use Rattle.ordered_claims.specs.Kept.{IsReading}
use Rattle.ordered_claims.proofs.queues.ClaimQueues.take_from.Goals as goal

pub invariant_of-readers : goal.invariant_of-readers
invariant_of-readers c =
    let same = rw (← c.readers.view_is, ← c.self.view_is) at c.requires.terms in
    subst (λ terms. IsReading terms c.take_each.new.readers.items) (sym same) c.take_each.ensures.moves.reading

pub invariant_of-readers-2 : goal.invariant_of-readers-2
invariant_of-readers-2 c =
    let same = rw (← c.readers.view_is, ← c.self.view_is) at c.requires.terms in
    subst (λ terms. IsReading terms c.take_each.new.readers.items) (sym same) c.take_each.ensures.moves.reading

pub take_each-requires-clause-reading : goal.take_each-requires-clause-reading
take_each-requires-clause-reading c =
    let same = rw (← c.readers.view_is, ← c.self.view_is) at c.requires.terms in
    subst (λ terms. IsReading terms c.readers.inside.files.items) same c.readers.invariant

pub take_each-requires-clause-queued : goal.take_each-requires-clause-queued
take_each-requires-clause-queued c = record {
  as_many = c.self.invariant.as_many;
  fits = c.self.invariant.fits;
  stocked = λ is. absurd (false≢true is);
  given = c.self.invariant.given;
}

pub returns : goal.returns
returns c = grind (arith, common_steps)
