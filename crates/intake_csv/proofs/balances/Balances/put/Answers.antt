use Rattle.std.proofs.Common.{◌∙◌, refl}
use Rattle.intake_csv.specs.Balances.{Entry, books_of, entry_of}
use Rattle.intake_csv.proofs.Entries.{put-added, put-joined}
use Rattle.intake_csv.proofs.balances.Balances.put.Goals as goal

pub invariant_of-self : goal.invariant_of-self
invariant_of-self c = c.join.ensures.once c.self.invariant

pub invariant_of-self-2 : goal.invariant_of-self-2
invariant_of-self-2 c = c.add.ensures.once (c.make_room.ensures.once c.self.invariant)

pub returns-then-has_family : goal.returns-then-has_family
returns-then-has_family c =
    let entry : Entry = entry_of c.args.entry.now in
    let old = books_of c.self.inside.years.items in
    rw (← c.self.view_is) (put-joined entry.0 _ entry.1 old (books_of c.join.new.years.items) c.join.result c.in_ok-name.ensures.ok (c.join.ensures.once c.self.invariant)
    (rw (← c.self.view_is) at c.requires.known ∙ c.if-has_family.true) (rw (← c.self.view_is) at c.requires.free) c.join.ensures.joined)

pub returns : goal.returns
returns c =
    let entry : Entry = entry_of c.args.entry.now in
    let old = books_of c.self.inside.years.items in
    rw (← c.self.view_is) (put-added entry.0 _ _ c.new-family_year.result entry.1 old (books_of c.make_room.new.years.items) (books_of c.add.new.years.items) c.add.result c.in_ok-family.ensures.ok
    c.in_ok-name.ensures.ok c.new-family_year.ensures (c.add.ensures.once (c.make_room.ensures.once c.self.invariant)) (rw (← c.self.view_is) at c.requires.known ∙ c.if-has_family.false)
    c.make_room.ensures.same c.add.ensures.added)

pub invariant_of-self-in_err-make_room : goal.invariant_of-self-in_err-make_room
invariant_of-self-in_err-make_room c = c.make_room.ensures.once c.self.invariant

pub add-requires-clause-once : goal.add-requires-clause-once
add-requires-clause-once c = rw c.new-family_year.ensures (refl, tt)

pub add-requires-clause-room : goal.add-requires-clause-room
add-requires-clause-room c = c.in_ok-make_room.ensures.room

pub join-requires-clause-there : goal.join-requires-clause-there
join-requires-clause-there c = rw (← c.self.view_is) at c.requires.known ∙ c.if-has_family.true

pub join-requires-clause-free : goal.join-requires-clause-free
join-requires-clause-free c = rw c.in_ok-name.ensures.ok (rw (← c.self.view_is) at c.requires.free)
