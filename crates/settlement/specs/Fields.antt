-- The test that values have the kinds of the plan's fields.
use Rattle.std.specs.Prelude.{◌==◌, ◌&&◌, Bool, List, length}
use Rattle.std.specs.List.{list_all, zip}
use Rattle.feel_tests.specs.declared.value.Value.{Value}
use Rattle.tables.specs.declared.table.InputData.{InputData}
use Rattle.tables.specs.Plan.{has_kind}

-- there is one value for each field, of the field's kind
abbrev pub have_kinds : List Value → List InputData → Bool
have_kinds values fields = (length values == length fields) && list_all (λ p. has_kind p.1.kind p.0) (zip values fields)
