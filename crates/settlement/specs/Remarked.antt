-- The remarks of an outcome, in each of their representations.
use Rattle.std.specs.Prelude.{ℕ, List, [], get_or, map, Option, Some, None}
use Rattle.std.specs.Arc.{arc_value}
use Rattle.std.specs.declared.sync.Arc.{Arc}
use Rattle.settlement.specs.declared.remarks.Listed.{Listed}
use Rattle.settlement.specs.declared.remarks.Listed.TheVariants.{Placed, Own}

-- the word at a place, which is empty if the place is past the end of the list
abbrev pub word_at : List (List ℕ) → ℕ → List ℕ
word_at words place = get_or words place []

-- the texts of a list, in order
abbrev pub listed_texts : Listed → List (List ℕ)
listed_texts (Placed words places) = map (word_at (arc_value words)) places.items
listed_texts (Own texts) = texts

-- the texts of an optional list
abbrev pub remarks_listed : {Z : Type 0} → Option (Arc Listed Z) → List (List ℕ)
remarks_listed None = []
remarks_listed (Some listed) = listed_texts (arc_value listed)
