use Rattle.std.proofs.Common.{arith}
use Rattle.std.proofs.lemmas.Grind.{common_steps}
use Rattle.journal.proofs.Growing.{grows_added, grows_same}
use Rattle.journal.proofs.names.Names.number.Goals as goal

pub returns-in-Some-clause-grows : goal.returns-in-Some-clause-grows
returns-in-Some-clause-grows c = grows_same c.args.self.now

pub returns-in-Some-clause-distinct : goal.returns-in-Some-clause-distinct
returns-in-Some-clause-distinct c = c.in-Some.ensures.distinct

pub returns-in-Some-check_candidate-clause-grows : goal.returns-in-Some-check_candidate-clause-grows
returns-in-Some-check_candidate-clause-grows c = grows_same c.args.self.now

pub returns-in-Some-check_candidate-clause-distinct : goal.returns-in-Some-check_candidate-clause-distinct
returns-in-Some-check_candidate-clause-distinct c = c.in-Some-check_candidate.ensures.distinct

pub returns-in-Some-check_candidate-2-clause-grows : goal.returns-in-Some-check_candidate-2-clause-grows
returns-in-Some-check_candidate-2-clause-grows c = grows_same c.args.self.now

pub returns-in-Some-check_candidate-2-clause-distinct : goal.returns-in-Some-check_candidate-2-clause-distinct
returns-in-Some-check_candidate-2-clause-distinct c = c.in-Some-check_candidate-2.ensures.distinct

pub returns-in-Some-find-clause-number : goal.returns-in-Some-find-clause-number
returns-in-Some-find-clause-number c = rw c.self.view_is c.in-Some-find.ensures.found

pub returns-in-Some-find-clause-grows : goal.returns-in-Some-find-clause-grows
returns-in-Some-find-clause-grows c = rw c.self.view_is (grows_same c.args.self.now)

pub returns-in-Some-find-clause-distinct : goal.returns-in-Some-find-clause-distinct
returns-in-Some-find-clause-distinct c = rw c.self.view_is c.in-Some-find.ensures.distinct

pub returns-in-None-clause-grows : goal.returns-in-None-clause-grows
returns-in-None-clause-grows c = grows_added c.args.self.now c.add.new.self c.args.name.now c.add.result c.add.ensures.added c.add.ensures.refused

pub returns-in-None-clause-distinct : goal.returns-in-None-clause-distinct
returns-in-None-clause-distinct c = c.add.ensures.distinct

pub returns-in-Some-check_candidate-2-clause-number : goal.returns-in-Some-check_candidate-2-clause-number
returns-in-Some-check_candidate-2-clause-number c = grind (arith, common_steps)

pub add-requires : goal.add-requires
add-requires c = grind (arith, common_steps)

pub returns-in-None-clause-number : goal.returns-in-None-clause-number
returns-in-None-clause-number c = grind (arith, common_steps)

pub returns-in-Some-check_candidate-clause-number : goal.returns-in-Some-check_candidate-clause-number
returns-in-Some-check_candidate-clause-number c = grind (arith, common_steps)
