use Rattle.std.proofs.Common.{arith}
use Rattle.std.proofs.lemmas.Grind.{common_steps}
use Rattle.ordered_claims.proofs.Moving.{begins_whole}
use Rattle.ordered_claims.proofs.reader.OrderedClaims.new.Goals as goal

pub returns : goal.returns
returns c = record { start = begins_whole c.args.terms.now c.in_ok-queues.queues c.take_from.new.self c.in_ok-readers.readers c.take_from.new.readers c.in_ok-queues.ensures.start c.take_from.ensures }

pub take_from-requires-clause-terms : goal.take_from-requires-clause-terms
take_from-requires-clause-terms c = grind (arith, common_steps)
