use Rattle.std.proofs.lemmas.Grind.{common_steps}
use Rattle.std.proofs.lemmas.Bool.{false≢true}
use Rattle.std.proofs.Common.{◌≡◌, get_or, string_bytes, None, Some, sym, rules, arith}
use Rattle.std.proofs.lemmas.Map.Text.{hash_map_updates_text}
use Rattle.std.specs.Str.{bytes_eq}
use Rattle.intake_csv.specs.FamilyYears.{AreOnceBy}
use Rattle.intake_csv.proofs.FamilyYears.{all-set}
use Rattle.intake_csv.proofs.Books.{found-there, joins_in, put_once, there-within}
use Rattle.intake_csv.proofs.balances.join.Goals as goal

pub join-requires : goal.join-requires
join-requires c =
    let year : c.from.result ≡ c.args.year = search rules in
    let found = found-there c.args.years.now.items c.args.year c.from.result c.index_mut.result.now c.args.family.now (Some c.in-Some.family_year.now) year c.index_mut.ensures.value c.requires.there
    c.in-Some.ensures.value in
    rw found at c.requires.free

pub returns-clause-joined : goal.returns-clause-joined
returns-clause-joined c =
    let years = c.args.years.now.items in
    let old = c.index_mut.result.now in
    let new = c.get_mut.follows.lender c.join.new.self in
    let year : c.from.result ≡ c.args.year = search rules in
    let present : get_or years c.from.result old ≡ old = sym c.index_mut.ensures.value in
    let found = found-there years c.args.year c.from.result old c.args.family.now (Some c.in-Some.family_year.now) year c.index_mut.ensures.value c.requires.there c.in-Some.ensures.value in
    let updates = (c.get_mut.follows.holds c.join.new.self).3 (search rules) in
    rw year (joins_in years c.args.year old new c.args.family.now (string_bytes c.args.member) c.args.balance c.in-Some.family_year.now c.join.new.self c.join.result
    (there-within years c.args.year c.args.family.now c.requires.there) found (λ p. rw (← year, present) (hash_map_updates_text c.args.family.now old new (Some c.join.new.self) updates p))
    c.join.ensures.joined)

pub returns-clause-once : goal.returns-clause-once
returns-clause-once c =
    let old = c.index_mut.result.now in
    let wrote = c.get_mut.follows.holds c.join.new.self in
    let year : c.from.result ≡ c.args.year = search rules in
    let present : get_or c.args.years.now.items c.from.result old ≡ old = sym c.index_mut.ensures.value in
    let within = there-within c.args.years.now.items c.args.year c.args.family.now c.requires.there in
    rw year (put_once c.args.years.now.items c.args.year old (c.get_mut.follows.lender c.join.new.self) within wrote.4 (rw (← year, present, wrote.0)
    (all-set (AreOnceBy bytes_eq) _ c.join.new.self old.entries c.join.ensures.once)))

pub unreachable-requires : goal.unreachable-requires
unreachable-requires c =
    let year : c.from.result ≡ c.args.year = search rules in
    let found = found-there c.args.years.now.items c.args.year c.from.result c.index_mut.result.now c.args.family.now None year c.index_mut.ensures.value c.requires.there c.in-None.ensures.value in
    false≢true (rw found at c.requires.there)

pub index_mut-requires : goal.index_mut-requires
index_mut-requires c = grind (arith, common_steps)
