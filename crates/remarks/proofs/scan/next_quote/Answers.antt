use Rattle.std.proofs.Common.{arith, drop, length, length-drop}
use Rattle.std.proofs.lemmas.List.{take_rest}
use Rattle.remarks.proofs.Scanning.{no_quote_passed}
use Rattle.remarks.proofs.scan.next_quote.Goals as goal

pub returns-in-Some-clause-none : goal.returns-in-Some-clause-none
returns-in-Some-clause-none c =
    let text = c.args.text.now in
    let rest = take_rest text c.args.from in
    λ at least most. no_quote_passed text c.args.from c.in-Some.passed (rw rest at c.in-Some.ensures.0.before) at least most

pub returns-in-None-clause-none : goal.returns-in-None-clause-none
returns-in-None-clause-none c =
    let text = c.args.text.now in
    let from = c.args.from in
    let left = length-drop from text in
    let rest = take_rest text from in
    λ at least most. no_quote_passed text from (length (drop from text)) (rw rest at c.in-None.ensures) at least (omega (arith, least, most, left))
