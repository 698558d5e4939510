-- The names that tables may read from outside: those of every claim, the plan's fields, and a
-- member's accumulators. A plan that keeps accumulators for families has three more names.
use Rattle.std.specs.Prelude.{ℕ, Bool, true, false, List, [], ◌∷◌, ◌++◌}
use Rattle.faults.specs.BuiltInNames.{claim_name, family_name, member_name, service_name, billed_name, met_name, oop_name, paid_name, family_met_name, family_oop_name}
use Rattle.feel_tests.specs.declared.kind.Kind.{Kind}
use Rattle.feel_tests.specs.declared.kind.Kind.TheVariants.{Number, Text, Day}
use Rattle.tables.specs.declared.table.InputData.{InputData}

-- a name with its kind
abbrev pub named_input : List ℕ → Kind → InputData
named_input name kind = record { name = name; kind = kind }

-- the names of every claim: its number, its member's family if the plan has families, its member,
-- the day of service and the billed amount
abbrev pub claim_names : Bool → List InputData
claim_names false =
    named_input claim_name Text ∷ named_input member_name Text ∷ named_input service_name Day ∷ named_input billed_name Number ∷ []
claim_names true =
    named_input claim_name Text ∷ named_input family_name Text ∷ named_input member_name Text ∷ named_input service_name Day
    ∷ named_input billed_name Number ∷ []

-- the names of a member's accumulators: the deductible met, the amount paid out of pocket, and the
-- amount paid by the plan; if the plan has families, also the family's deductible met and its
-- amount paid out of pocket
abbrev pub accumulator_names : Bool → List InputData
accumulator_names false = named_input met_name Number ∷ named_input oop_name Number ∷ named_input paid_name Number ∷ []
accumulator_names true =
    named_input met_name Number ∷ named_input oop_name Number ∷ named_input paid_name Number ∷ named_input family_met_name Number
    ∷ named_input family_oop_name Number ∷ []

-- all names of a plan with these fields, in order
abbrev pub names_of : Bool → List InputData → List InputData
names_of families fields = claim_names families ++ (fields ++ accumulator_names families)
