use Rattle.std.proofs.Common.{◌≡◌, ◌++◌, ◌∷◌, [], ◌∙◌, ap, length, List, ℕ, arith}
use Rattle.std.proofs.lemmas.Grind.{common_steps}
use Rattle.journal.proofs.Numbers.{Enters, distinct-names, enters, name-new, numbered-more}
use Rattle.journal.proofs.names.Names.add.Goals as goal

pub returns-in_err-_before-clause-distinct : goal.returns-in_err-_before-clause-distinct
returns-in_err-_before-clause-distinct c = rw c.in_ok-reserve.ensures.items (distinct-names c.self.inside.names.items c.self.inside.numbers c.self.invariant)

-- the map with the new name
one : (c : goal.After-note) → Enters c.self.inside.names.items c.self.inside.numbers c.insert.new.self c.args.name.now
one c =
    enters c.self.inside.names.items c.self.inside.numbers c.insert.new.self c.in_ok-key.key c.args.name.now c.in_ok-number.number c.self.invariant
    (c.in_ok-key.ensures ∙ c.as_str.ensures.value) (rw (← c.self.view_is) at c.requires) (c.in_ok-number.ensures.value ∙ ap length c.as_slice.ensures.value) c.in_ok-_before.ensures.updates

-- the list with the new name
following : (c : goal.After-note) → c.push_reserved.new.self.items ≡ c.self.inside.names.items ++ c.args.name.now ∷ []
following c =
    c.push_reserved.ensures.items ∙ ap (λ xs. xs ++ c.in_ok-entry.entry ∷ []) c.in_ok-reserve.ensures.items
    ∙ ap (λ x. c.self.inside.names.items ++ x ∷ []) (c.in_ok-entry.ensures ∙ c.as_str-2.ensures.value)

pub invariant_of-self-2 : goal.invariant_of-self-2
invariant_of-self-2 c = rw (following c) (numbered-more c.self.inside.names.items c.self.inside.numbers c.insert.new.self c.args.name.now (one c))

pub returns-clause-number : goal.returns-clause-number
returns-clause-number c = rw (following c) (name-new c.self.inside.names.items c.args.name.now c.in_ok-number.number (c.in_ok-number.ensures.value ∙ ap length c.as_slice.ensures.value))

pub returns-clause-distinct : goal.returns-clause-distinct
returns-clause-distinct c =
    rw (following c) (
    distinct-names (c.self.inside.names.items ++ c.args.name.now ∷ []) c.insert.new.self
    (numbered-more c.self.inside.names.items c.self.inside.numbers c.insert.new.self c.args.name.now (one c))
    )

pub returns-clause-added : goal.returns-clause-added
returns-clause-added c = following c ∙ ap (λ (names : List (List ℕ)). names ++ c.args.name.now ∷ []) c.self.view_is

pub push_reserved-requires : goal.push_reserved-requires
push_reserved-requires c = grind (arith, common_steps)

pub new-requires-2 : goal.new-requires-2
new-requires-2 c = grind (arith, common_steps)

pub returns-clause-refused : goal.returns-clause-refused
returns-clause-refused c = grind (arith, common_steps)

pub same-self-in_err-number : goal.same-self-in_err-number
same-self-in_err-number c = grind (arith, common_steps)
