use Rattle.std.proofs.Common.{◌≡◌, ◌∙◌, arith}
use Rattle.std.proofs.lemmas.Grind.{common_steps}
use Rattle.settlement.specs.Accounts.{account_in}
use Rattle.journal.specs.FamilyQueues.{AreKept, IsKeyOf, places_of}
use Rattle.journal.proofs.Moves.{add-kept, add-places, add-refused, end-within, grown-kept, grown-places, prepared-kept, prepared-places}
use Rattle.journal.proofs.lanes.Lanes.add.Goals as goal

pub invariant_of-self : goal.invariant_of-self
invariant_of-self c =
    grown-kept c.self.inside.names c.key_of.new.names c.self.inside.queues c.self.invariant c.in_default.ensures.grows c.in_default.ensures.distinct

pub returns-in_default-clause-refused : goal.returns-in_default-clause-refused
returns-in_default-clause-refused c =
    grown-places c.self.inside.names c.key_of.new.names c.self.inside.queues c.self.invariant c.in_default.ensures.grows ∙ c.self.view_is

pub returns-in_default-clause-in_turn : goal.returns-in_default-clause-in_turn
returns-in_default-clause-in_turn c =
    (grown-kept c.self.inside.names c.key_of.new.names c.self.inside.queues c.self.invariant c.in_default.ensures.grows c.in_default.ensures.distinct).in_turn

pub invariant_of-self-in_default-prepare : goal.invariant_of-self-in_default-prepare
invariant_of-self-in_default-prepare c =
    prepared-kept c.self.inside.names c.key_of.new.names c.self.inside.queues c.prepare.new.self c.self.invariant c.in-Ok.ensures.grows c.in-Ok.ensures.distinct c.prepare.ensures.same

pub returns-in_default-prepare-clause-refused : goal.returns-in_default-prepare-clause-refused
returns-in_default-prepare-clause-refused c =
    prepared-places c.self.inside.names c.key_of.new.names c.self.inside.queues c.prepare.new.self c.self.invariant c.in-Ok.ensures.grows c.prepare.ensures.same ∙ c.self.view_is

pub returns-in_default-prepare-clause-in_turn : goal.returns-in_default-prepare-clause-in_turn
returns-in_default-prepare-clause-in_turn c =
    (prepared-kept c.self.inside.names c.key_of.new.names c.self.inside.queues c.prepare.new.self c.self.invariant c.in-Ok.ensures.grows c.in-Ok.ensures.distinct c.prepare.ensures.same).in_turn

pub add-requires-clause-within : goal.add-requires-clause-within
add-requires-clause-within c = λ last is.
    end-within c.key_of.new.names c.prepare.new.self c.in-Ok.key.family last
    (prepared-kept c.self.inside.names c.key_of.new.names c.self.inside.queues c.prepare.new.self c.self.invariant c.in-Ok.ensures.grows c.in-Ok.ensures.distinct c.prepare.ensures.same) is

-- the invariant of the queues after memory is reserved
kept : (c : goal.After-add) → AreKept c.key_of.new.names c.prepare.new.self
kept c =
    prepared-kept c.self.inside.names c.key_of.new.names c.self.inside.queues c.prepare.new.self c.self.invariant c.in-Ok.ensures.grows c.in-Ok.ensures.distinct c.prepare.ensures.same

placed : (c : goal.After-add) → places_of c.key_of.new.names c.prepare.new.self.slots.items ≡ c.args.self.now
placed c =
    prepared-places c.self.inside.names c.key_of.new.names c.self.inside.queues c.prepare.new.self c.self.invariant c.in-Ok.ensures.grows c.prepare.ensures.same ∙ c.self.view_is

key_is : (c : goal.After-add) → IsKeyOf c.key_of.new.names c.in-Ok.key (account_in c.args.year c.args.claim)
key_is c = rw c.as_claim.ensures at c.in-Ok.ensures.key

pub invariant_of-self-2 : goal.invariant_of-self-2
invariant_of-self-2 c =
    add-kept c.key_of.new.names c.prepare.new.self c.add.new.self c.in-Ok.key c.args.claim c.args.year c.add.result (kept c) (key_is c) c.add.ensures.slots c.add.ensures.back
    c.add.ensures.refused

pub returns-clause-added : goal.returns-clause-added
returns-clause-added c =
    add-places c.key_of.new.names c.prepare.new.self c.add.new.self c.in-Ok.key c.args.claim c.args.year c.add.result c.args.self.now (kept c) (placed c) (key_is c)
    c.add.ensures.slots c.add.ensures.back

pub returns-clause-refused : goal.returns-clause-refused
returns-clause-refused c = add-refused c.key_of.new.names c.prepare.new.self c.add.new.self c.add.result c.args.self.now (placed c) c.add.ensures.refused

pub returns-clause-in_turn : goal.returns-clause-in_turn
returns-clause-in_turn c =
    (add-kept c.key_of.new.names c.prepare.new.self c.add.new.self c.in-Ok.key c.args.claim c.args.year c.add.result (kept c) (key_is c) c.add.ensures.slots c.add.ensures.back
    c.add.ensures.refused).in_turn

pub returns-clause-back : goal.returns-clause-back
returns-clause-back c = grind (arith, common_steps)
