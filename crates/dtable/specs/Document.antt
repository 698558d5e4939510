-- Lookups in a plan's document. `toml` reads the document, and its values are `Data`.
use Rattle.std.specs.Prelude.{ℕ, zero, suc, List, [], ◌∷◌, ◌++◌, Option, Some, None}
use Rattle.std.specs.Option.{option_and_then}
use Rattle.toml.specs.Data.{Data, Items, no_items, item, get, as_str, as_array}

-- the string at a key of a table
abbrev pub string_at : List ℕ → Data → Option (List ℕ)
string_at key entry = option_and_then as_str (get key entry)

-- the items of the array at a key of a table
abbrev pub array_at : List ℕ → Data → Option Items
array_at key entry = option_and_then as_array (get key entry)

-- the items of an optional array; no items if it is missing
abbrev pub items_or_none : Option Data → Option Items
items_or_none None = Some no_items
items_or_none (Some value) = as_array value

-- the items of the array at an optional key
abbrev pub optional_array_at : List ℕ → Data → Option Items
optional_array_at key entry = items_or_none (get key entry)

-- the number of items
abbrev pub item_count : Items → ℕ
item_count no_items = zero
item_count (item d ds) = suc (item_count ds)

-- the meaning of an optional value; a missing value means nothing
abbrev pub Optionally : {A : Type 0} → (Data → A → Type 0) → Option Data → Option A → Type 0
Optionally R None None = Unit {0}
Optionally R None (Some x) = ⊥
Optionally R (Some d) None = ⊥
Optionally R (Some d) (Some x) = R d x

-- each item denotes the element at its position, and there are as many items as elements
abbrev pub Each : {A : Type 0} → (Data → A → Type 0) → Items → List A → Type 0
Each R no_items [] = Unit {0}
Each R no_items (x ∷ xs) = ⊥
Each R (item d ds) [] = ⊥
Each R (item d ds) (x ∷ xs) = R d x × Each R ds xs

-- each item denotes the element at its position, in view of the elements before it
abbrev pub EachAfter : {A S : Type 0} → (A → S) → (List S → Data → A → Type 0) → List S → Items → List A → Type 0
EachAfter seen R front no_items [] = Unit {0}
EachAfter seen R front no_items (x ∷ xs) = ⊥
EachAfter seen R front (item d ds) [] = ⊥
EachAfter seen R front (item d ds) (x ∷ xs) = R front d x × EachAfter seen R (front ++ seen x ∷ []) ds xs

-- each item of a row denotes the element at its position, in view of its column
abbrev pub EachUnder : {C A : Type 0} → (C → Data → A → Type 0) → List C → Items → List A → Type 0
EachUnder R [] no_items [] = Unit {0}
EachUnder R (c ∷ cs) (item d ds) (x ∷ xs) = R c d x × EachUnder R cs ds xs
EachUnder R _ _ _ = ⊥
