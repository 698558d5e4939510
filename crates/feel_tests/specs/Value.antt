-- Values: their kinds and their literals (DMN 1.4, S-FEEL).
use Rattle.std.specs.Prelude.{ℕ, ℤ, Bool, true, false, List, ◌++◌, codes}
use Rattle.fixpoint.specs.NumberText.{shortest_text}
use Rattle.feel_tests.specs.Words.{quote_text}
use Rattle.feel_tests.specs.Calendar.{day_text}
use Rattle.feel_tests.specs.declared.kind.Kind.{Kind}
use Rattle.feel_tests.specs.declared.kind.Kind.TheVariants as kind
use Rattle.feel_tests.specs.declared.value.Value.{Value}
use Rattle.feel_tests.specs.declared.value.Value.TheVariants.{Number, Text, Flag, Day}

-- the kind of a value
abbrev pub kind_of : Value → Kind
kind_of (Number n) = kind.Number
kind_of (Text t) = kind.Text
kind_of (Flag b) = kind.Flag
kind_of (Day d) = kind.Day

-- `true` or `false`
abbrev pub flag_text : Bool → List ℕ
flag_text true = codes "true"
flag_text false = codes "false"

-- `date("YYYY-MM-DD")`
abbrev pub date_literal : ℤ → List ℕ
date_literal day = codes "date(\"" ++ day_text day ++ codes "\")"

-- the literal of a value: a number's shortest text, a text in double quotes, `true` or `false`, or
-- `date("YYYY-MM-DD")`
abbrev pub literal_text : Value → List ℕ
literal_text (Number n) = shortest_text n
literal_text (Text t) = quote_text t
literal_text (Flag b) = flag_text b
literal_text (Day d) = date_literal d
