use Rattle.std.proofs.Common.{◌≡◌, ap, refl, ◌∙◌, map, string_bytes}
use Rattle.std.proofs.lemmas.Map.Iter.{rest_all, rest_more}
use Rattle.std.specs.Map.Iter.{deref_pair}
use Rattle.intake_csv.specs.Balances.{opening_of}
use Rattle.intake_csv.proofs.Listing.{entry_in, listed-more, members-all, members-end, members-next, named}
use Rattle.intake_csv.proofs.family_year.FamilyYear.list.Goals as goal

pub loop-other-init : goal.loop-other-init
loop-other-init c = refl

pub loop-other-preserved : goal.loop-other-preserved
loop-other-preserved c =
    let held = deref_pair c.in-Some.other in
    let entry = entry_in c.args.family.now c.args.year (named held) in
    let made : opening_of c.in_ok-new-2.field-0 ≡ entry = rw c.as_str-member.ensures.value at c.in_ok-new-2.ensures in
    members-next (entry_in c.args.family.now c.args.year) (map opening_of c.loop-other.entries.items) (map opening_of c.push-in-loop-other.new.self.items) _ c.loop-other.other-iterator c.next.new.self held
    (rest_more deref_pair c.loop-other.other-iterator c.next.new.self c.next.result c.in-Some.other c.in-Some.is c.next.ensures.steps)
    (ap (map opening_of) c.in_ok-push-2.ensures.items ∙ listed-more c.loop-other.entries.items c.in_ok-new-2.field-0 entry made) c.loop-other.invariant

pub returns : goal.returns
returns c =
    let own = c.self.inside in
    let first = entry_in c.args.family.now c.args.year (string_bytes own.first, own.balance) in
    let made : opening_of c.in_ok-new.field-0 ≡ first = rw c.as_str-first.ensures.value at c.in_ok-new.ensures in
    rw (← c.self.view_is)
    (members-end (entry_in c.args.family.now c.args.year) (map opening_of c.loop-other.entries.items) _ c.loop-other.other-iterator
    (rest_all deref_pair c.loop-other.other-iterator c.next.new.self c.next.result c.in-None.is c.next.ensures.steps) c.loop-other.invariant
    ∙ members-all (entry_in c.args.family.now c.args.year) (map opening_of c.args.entries.now.items) (map opening_of c.push.new.self.items) (string_bytes own.first, own.balance)
    c.into_iter-other-iterator.result own.others.entries
    (ap (map opening_of) c.in_ok-push.ensures.items ∙ listed-more c.args.entries.now.items c.in_ok-new.field-0 first made)
    (c.into_iter-other-iterator.ensures.into_iter_gives ∙ c.iter-other-items.ensures.rest))
