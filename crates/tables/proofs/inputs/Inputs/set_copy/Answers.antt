use Rattle.std.proofs.lemmas.Grind.{elements}
use Rattle.std.proofs.Common.{List, map, ap, ◌∙◌, arith}
use Rattle.tables.specs.declared.inputs.Slot.{Slot}
use Rattle.tables.proofs.SlotKinds.{kinds_stay}
use Rattle.tables.proofs.inputs.Inputs.set_copy.Goals as goal

pub returns-clause-kinds : goal.returns-clause-kinds
returns-clause-kinds c =
    kinds_stay c.self.inside.slots.items c.args.place c.index_mut.result.now c.set_copy.new.self c.index_mut.ensures.value c.set_copy.ensures.kind
    ∙ ap (λ (slots : List Slot). map (λ (s : Slot). s.kind) slots) c.self.view_is

pub index_mut-requires : goal.index_mut-requires
index_mut-requires c = grind (arith, elements)

pub returns-clause-set : goal.returns-clause-set
returns-clause-set c = grind (arith, elements)
