use Rattle.std.proofs.Common.{ℕ, ◌≤◌, length, length-append, ap, decimal, arith, rules}
use Rattle.std.proofs.lemmas.Fmt.{length-decimal-le}
use Rattle.evaluation.proofs.stop.line.ErrorLine.put_cause.Goals as goal

pub put-requires : goal.put-requires
put-requires c =
    let digits : length (decimal c.args.number) ≤ 2 = search (rules, length-decimal-le 2) in
    omega (arith, ap length c.format.ensures.text)

pub returns-clause-short : goal.returns-clause-short
returns-clause-short c =
    let digits : length (decimal c.args.number) ≤ 2 = search (rules, length-decimal-le 2) in
    omega (arith, length-append {A = ℕ}, ap length c.put.ensures, ap length c.format.ensures.text)
