use Rattle.std.proofs.Common.{◌∙◌}
use Rattle.journal.proofs.Numbers.{distinct-names, look-absent, look-found}
use Rattle.journal.proofs.names.Names.find.Goals as goal

pub returns-clause-found : goal.returns-clause-found
returns-clause-found c =
    rw (← c.self.view_is) (look-found c.self.inside.names.items c.self.inside.numbers c.args.name.now c.copied.result c.self.invariant (c.copied.ensures ∙ c.get.ensures.value))

pub returns-clause-absent : goal.returns-clause-absent
returns-clause-absent c =
    rw (← c.self.view_is) (look-absent c.self.inside.names.items c.self.inside.numbers c.args.name.now c.copied.result c.self.invariant (c.copied.ensures ∙ c.get.ensures.value))

pub returns-clause-distinct : goal.returns-clause-distinct
returns-clause-distinct c = rw (← c.self.view_is) (distinct-names c.self.inside.names.items c.self.inside.numbers c.self.invariant)
