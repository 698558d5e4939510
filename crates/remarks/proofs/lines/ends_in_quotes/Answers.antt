use Rattle.std.proofs.Common.{refl}
use Rattle.std.proofs.lemmas.Bool.{false≢true}
use Rattle.remarks.proofs.lines.ends_in_quotes.Goals as goal

pub returns-in-Some : goal.returns-in-Some
returns-in-Some c =
    let opened = rw c.in-Some.is at c.quotes_of.ensures.unclosed in
    let quoted = rw c.without_mark.ensures at opened.quoted in
    (λ is. quoted, λ ends. refl)

pub returns-in-None : goal.returns-in-None
returns-in-None c =
    let closed = rw c.in-None.is at c.quotes_of.ensures.closed in
    let unquoted = rw c.without_mark.ensures at closed in
    (λ is. absurd (false≢true is), λ ends. absurd (unquoted ends))
