use Rattle.std.proofs.Common.{◌≡◌, ◌+◌, ap, sym, ◌∙◌, get_or, drop, true, false, is_some}
use Rattle.std.proofs.lemmas.List.{at_drop_all}
use Rattle.tables.specs.Environment.{answer_of}
use Rattle.tables.proofs.Named.{found_at, copied_some, named_more, named_end, or_else-found, or_else-missed}
use Rattle.tables.proofs.environment.find_answer.Goals as goal

pub returns-then-is_some : goal.returns-then-is_some
returns-then-is_some c =
    let tables = c.args.tables.now in
    let answers = c.args.answers.now in
    let name = c.args.name.now in
    let place = c.loop-place.place in
    let item = c.index-answers-place.result in
    let step = named_more tables answers name place item c.loop-place-test.true in
    let rest = answer_of (drop (place + 1) tables) (drop (place + 1) answers) name in
    let here = c.answer_at-found.ensures ∙ ap (λ a. found_at tables place a name) (c.as_slice.ensures ∙ c.index-answers-place.is) in
    let some : is_some (found_at tables place (get_or answers place item) name) ≡ true = ap is_some (sym here) ∙ copied_some c.answer_at-found.result ∙ sym c.is_some.ensures ∙ c.if-is_some.true in
    here ∙ sym (or_else-found (found_at tables place (get_or answers place item) name) rest some) ∙ sym step ∙ c.loop-place.invariant

pub loop-place-preserved : goal.loop-place-preserved
loop-place-preserved c =
    let tables = c.args.tables.now in
    let answers = c.args.answers.now in
    let name = c.args.name.now in
    let place = c.loop-place.place in
    let item = c.index-answers-place.result in
    let step = named_more tables answers name place item c.loop-place-test.true in
    let rest = answer_of (drop (place + 1) tables) (drop (place + 1) answers) name in
    let here = c.answer_at-found.ensures ∙ ap (λ a. found_at tables place a name) (c.as_slice.ensures ∙ c.index-answers-place.is) in
    let none : is_some (found_at tables place (get_or answers place item) name) ≡ false = ap is_some (sym here) ∙ copied_some c.answer_at-found.result ∙ sym c.is_some.ensures ∙ c.if-is_some.false in
    sym (or_else-missed (found_at tables place (get_or answers place item) name) rest none) ∙ sym step ∙ c.loop-place.invariant

pub returns : goal.returns
returns c =
    let tables = c.args.tables.now in
    let name = c.args.name.now in
    let place = c.loop-place.place in
    sym (named_end (drop place tables) name) ∙ sym (at_drop_all (λ more. answer_of (drop place tables) more name) c.args.answers.now place c.loop-place-test.false) ∙ c.loop-place.invariant
