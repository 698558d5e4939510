-- What is left of a limit, as a fact.
use Rattle.std.specs.Prelude.{codes}
use Rattle.std.proofs.Common.{◌≡◌, ℕ, ℤ, List, [], ◌∷◌, Option, Some, ap, ◌∙◌}
use Rattle.fixpoint.specs.Money.{is_money, money_text}
use Rattle.feel_tests.specs.declared.value.Value.{Value}
use Rattle.tables.specs.declared.inputs.Slot.{Slot}
use Rattle.tables.specs.declared.roles.Source.{Source}
use Rattle.tables.specs.Environment.{Environment}
use Rattle.settlement.specs.Roles.{units_where, value_of}
use Rattle.settlement.specs.Settlement.{remaining}
use Rattle.explanation.specs.Facts.{fact}
use Rattle.explanation.specs.Steps.{left_facts, left_of}

pub left_added : (given : List Slot) (env : Environment) (name : List ℕ) (source : Source) (used limit rest : ℤ) (value : Option Value) → value ≡ value_of given env source
    → Some limit ≡ units_where is_money value → rest ≡ remaining limit used → fact (codes "settlement") name (money_text rest) ∷ [] ≡ left_of given env name source used
left_added given env name source used limit rest value read money left =
    ap (λ r. fact (codes "settlement") name (money_text r) ∷ []) left ∙ ap (λ l. left_facts name l used) (money ∙ ap (units_where is_money) read)
