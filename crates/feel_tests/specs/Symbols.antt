-- Results of the private functions over symbols.
use Rattle.std.specs.Prelude.{List, [], ◌∷◌, Option, Some, None}
use Rattle.feel_tests.specs.declared.symbol.Symbol.{Symbol}
use Rattle.feel_tests.specs.declared.symbol.Symbol.TheVariants.{Less, AtMost, More, AtLeast, OpenRound, CloseRound, OpenSquare, CloseSquare, Dots, Comma, Dash}
use Rattle.feel_tests.specs.declared.cell.Op.{Op}
use Rattle.feel_tests.specs.declared.cell.Op.TheVariants as ops

-- all symbols, the ones of two bytes first
abbrev pub symbols : List Symbol
symbols = AtMost ∷ AtLeast ∷ Dots ∷ Less ∷ More ∷ OpenRound ∷ CloseRound ∷ OpenSquare ∷ CloseSquare ∷ Comma ∷ Dash ∷ []

-- the comparison with this operator
abbrev pub op_of : Symbol → Option Op
op_of Less = Some ops.Less
op_of AtMost = Some ops.AtMost
op_of More = Some ops.More
op_of AtLeast = Some ops.AtLeast
op_of _ = None
