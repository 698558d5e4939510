use Rattle.settlement.specs.Accumulators.{add_amounts}
use Rattle.settlement.proofs.InRange.{all_of, each_of}
use Rattle.settlement.proofs.acc.Acc.plus.Goals as goal

pub returns-in_err-met-clause-more : goal.returns-in_err-met-clause-more
returns-in_err-met-clause-more c = rw c.from_residual.ensures (λ all. c.in_err-met.ensures.sum (each_of (add_amounts c.args.self c.args.met c.args.oop c.args.paid) all).met)

pub returns-in_err-met-clause-before : goal.returns-in_err-met-clause-before
returns-in_err-met-clause-before c = all_of c.args.self (record {
  met = c.plus-met.ensures.before;
  oop = c.plus-oop.ensures.before;
  paid = c.plus-paid.ensures.before;
  fmet = c.plus-fmet.ensures.before;
  foop = c.plus-foop.ensures.before;
})

pub returns-in_err-oop-clause-more : goal.returns-in_err-oop-clause-more
returns-in_err-oop-clause-more c = rw c.from_residual-in_err-oop.ensures (λ all. c.in_err-oop.ensures.sum (each_of (add_amounts c.args.self c.args.met c.args.oop c.args.paid) all).oop)

pub returns-in_err-oop-clause-before : goal.returns-in_err-oop-clause-before
returns-in_err-oop-clause-before c = all_of c.args.self (record {
  met = c.plus-met.ensures.before;
  oop = c.plus-oop.ensures.before;
  paid = c.plus-paid.ensures.before;
  fmet = c.plus-fmet.ensures.before;
  foop = c.plus-foop.ensures.before;
})

pub returns-in_err-paid-clause-more : goal.returns-in_err-paid-clause-more
returns-in_err-paid-clause-more c = rw c.from_residual-in_err-paid.ensures (λ all. c.in_err-paid.ensures.sum (each_of (add_amounts c.args.self c.args.met c.args.oop c.args.paid) all).paid)

pub returns-in_err-paid-clause-before : goal.returns-in_err-paid-clause-before
returns-in_err-paid-clause-before c = all_of c.args.self (record {
  met = c.plus-met.ensures.before;
  oop = c.plus-oop.ensures.before;
  paid = c.plus-paid.ensures.before;
  fmet = c.plus-fmet.ensures.before;
  foop = c.plus-foop.ensures.before;
})

pub returns-in_err-fmet-clause-more : goal.returns-in_err-fmet-clause-more
returns-in_err-fmet-clause-more c = rw c.from_residual-in_err-fmet.ensures (λ all. c.in_err-fmet.ensures.sum (each_of (add_amounts c.args.self c.args.met c.args.oop c.args.paid) all).fmet)

pub returns-in_err-fmet-clause-before : goal.returns-in_err-fmet-clause-before
returns-in_err-fmet-clause-before c = all_of c.args.self (record {
  met = c.plus-met.ensures.before;
  oop = c.plus-oop.ensures.before;
  paid = c.plus-paid.ensures.before;
  fmet = c.plus-fmet.ensures.before;
  foop = c.plus-foop.ensures.before;
})

pub returns-in_err-foop-clause-more : goal.returns-in_err-foop-clause-more
returns-in_err-foop-clause-more c = rw c.from_residual-in_err-foop.ensures (λ all. c.in_err-foop.ensures.sum (each_of (add_amounts c.args.self c.args.met c.args.oop c.args.paid) all).foop)

pub returns-in_err-foop-clause-before : goal.returns-in_err-foop-clause-before
returns-in_err-foop-clause-before c = all_of c.args.self (record {
  met = c.plus-met.ensures.before;
  oop = c.plus-oop.ensures.before;
  paid = c.plus-paid.ensures.before;
  fmet = c.plus-fmet.ensures.before;
  foop = c.plus-foop.ensures.before;
})

pub returns-clause-before : goal.returns-clause-before
returns-clause-before c = all_of c.args.self (record {
  met = c.plus-met.ensures.before;
  oop = c.plus-oop.ensures.before;
  paid = c.plus-paid.ensures.before;
  fmet = c.plus-fmet.ensures.before;
  foop = c.plus-foop.ensures.before;
})
