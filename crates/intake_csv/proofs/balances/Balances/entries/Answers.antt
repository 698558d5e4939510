use Rattle.std.proofs.Common.{◌≡◌, ◌<◌, ◌≤◌, ◌++◌, [], ℕ, ap, sym, subst, ◌∙◌, flat_map, get_or, length, map, rules, arith}
use Rattle.std.proofs.lemmas.List.{length-map}
use Rattle.intake_csv.specs.Balances.{accounts_from, accounts_in, book_of, books_of, opening_of}
use Rattle.intake_csv.proofs.Books.{book-at}
use Rattle.intake_csv.proofs.Listing.{years-end, years-next}
use Rattle.intake_csv.proofs.balances.Balances.entries.Goals as goal

pub loop-place-init : goal.loop-place-init
loop-place-init c = ap (λ es. map opening_of es ++ accounts_from 0 (books_of c.self.inside.years.items)) c.new-entries.ensures.items

pub loop-place-preserved : goal.loop-place-preserved
loop-place-preserved c =
    let years = c.self.inside.years.items in
    let place = c.loop-place.place in
    let size = length-map years book_of in
    let count : c.len-place-end.result ≡ length years = search rules in
    let within : place < length years = subst (λ (n : ℕ). place < n) count c.loop-place-test.true in
    let year : c.in-Ok.year ≡ place = search rules in
    let present : c.index.result.now ≡ get_or years place c.index.result.now = search rules in
    let book : book_of c.index.result.now ≡ get_or (books_of years) place [] = ap book_of present ∙ sym (book-at years place c.index.result.now within) in
    years-next (books_of years) place (map opening_of c.loop-place.entries.items) (map opening_of c.list_year.new.entries.items) _ (omega (arith, within, size))
    (c.in_ok-list_year.ensures ∙ (λ i. map opening_of c.loop-place.entries.items ++ flat_map (accounts_in (year i)) (book i))) c.loop-place.invariant

pub returns-clause-listed : goal.returns-clause-listed
returns-clause-listed c =
    let years = c.self.inside.years.items in
    let size = length-map years book_of in
    let count : c.len-place-end.result ≡ length years = search rules in
    let beyond : length years ≤ c.loop-place.place = subst (λ (n : ℕ). n ≤ c.loop-place.place) count c.loop-place-test.false in
    rw (← c.self.view_is)
    (years-end (books_of years) c.loop-place.place (map opening_of c.loop-place.entries.items) _ (omega (arith, beyond, size)) c.loop-place.invariant)
