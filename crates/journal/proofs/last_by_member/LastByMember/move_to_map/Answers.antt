use Rattle.std.proofs.Common.{◌≡◌, refl, sym, ap, subst, ◌∙◌, length, get_or, arith}
use Rattle.std.proofs.lemmas.Grind.{elements}
use Rattle.std.specs.List.{slice_get}
use Rattle.std.proofs.lemmas.Option.{slice_get_read}
use Rattle.journal.specs.LastByKey.{AccumulatorKey, entry_place, last_in_map}
use Rattle.journal.proofs.Members.{its_key, moved, not-moved, not_false, not_true, nothing-moved}
use Rattle.journal.proofs.last_by_member.LastByMember.move_to_map.Goals as goal

pub returns-then-not-entry-clause-moved : goal.returns-then-not-entry-clause-moved
returns-then-not-entry-clause-moved c =
    let entries = c.args.self.now.entries.items in
    let entry = c.index-entry.result.now in
    let place = entry_place c.args.key in
    let read = subst (λ p. entry ≡ get_or entries p entry) c.place_of-place.ensures c.index-entry.ensures in
    let there = slice_get_read entries (length entries) place entry refl c.requires read in
    nothing-moved entries place (last_in_map c.args.self.now.others) entry there (not_true entry.is_used c.if-not-entry.true)

pub returns-clause-moved : goal.returns-clause-moved
returns-clause-moved c = λ q same.
    let entries = c.args.self.now.entries.items in
    let entry = c.index-entry.result.now in
    let place = entry_place c.args.key in
    let key : AccumulatorKey = record { family = entry.family; member = c.args.key.member; year = entry.year } in
    let read = subst (λ p. entry ≡ get_or entries p entry) c.place_of-place.ensures c.index-entry.ensures in
    let there = slice_get_read entries (length entries) place entry refl c.requires read in
    let here : entry_place key ≡ place = sym c.place_of.ensures ∙ c.if-place_of-place.false ∙ c.place_of-place.ensures in
    moved entries key (last_in_map c.args.self.now.others) (last_in_map c.insert.new.others) entry (ap (slice_get entries) here ∙ there)
    (its_key entry c.args.key.member (not_false entry.is_used c.if-not-entry.false)) c.in_ok-_before.ensures.found q (same ∙ sym here)

pub returns-clause-others : goal.returns-clause-others
returns-clause-others c = λ q other.
    let entry = c.index-entry.result.now in
    let key : AccumulatorKey = record { family = entry.family; member = c.args.key.member; year = entry.year } in
    let here : entry_place key ≡ entry_place c.args.key = sym c.place_of.ensures ∙ c.if-place_of-place.false ∙ c.place_of-place.ensures in
    not-moved key (last_in_map c.args.self.now.others) (last_in_map c.insert.new.others) entry.last c.in_ok-_before.ensures.found q (λ same. other (same ∙ here))

pub returns-then-place_of-place-clause-moved : goal.returns-then-place_of-place-clause-moved
returns-then-place_of-place-clause-moved c = grind (arith, elements)
