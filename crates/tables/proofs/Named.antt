-- The answer of an output by its name, extended by one table.
use Rattle.std.proofs.Common.{◌≡◌, ℕ, ◌+◌, ◌<◌, ◌≤◌, inl, inr, List, [], ◌∷◌, length, get_or, drop, Option, Some, None, slice_get, true, false, is_some, refl, ap, sym, ◌∙◌, arith}
use Rattle.std.specs.Option.{option_and_then, option_copied}
use Rattle.std.specs.Borrow.{Bor}
use Rattle.std.proofs.lemmas.List.{drop_more, at_drop_all}
use Rattle.std.proofs.lemmas.Option.{slice_get_within, get_or_from_slice_get, slice_get_cases}
use Rattle.tables.specs.declared.environment.Answer.{Answer}
use Rattle.tables.specs.declared.table.Table.{Table}
use Rattle.tables.specs.Environment.{answer_of, answer_in, or_else}

-- the answer of the table at an index under a name
abbrev pub found_at : List Table → ℕ → List Answer → List ℕ → Option Answer
found_at tables i answers name = option_and_then (λ t. answer_in t.outputs answers name) (slice_get tables i)

named_here : (tables : List Table) (answers : List (List Answer)) (name : List ℕ) (i : ℕ) (d : List Answer) (t : Table) → i < length answers → slice_get tables i ≡ Some t
    → answer_of (drop i tables) (drop i answers) name ≡ or_else (found_at tables i (get_or answers i d) name) (answer_of (drop (i + 1) tables) (drop (i + 1) answers) name)
named_here tables answers name i d t below present =
    ap (λ ts. answer_of ts (drop i answers) name) (drop_more tables i t (slice_get_within tables i t present) ∙ ap (λ h. h ∷ drop (i + 1) tables) (get_or_from_slice_get tables i t t present))
    ∙ ap (λ more. answer_of (t ∷ drop (i + 1) tables) more name) (drop_more answers i d below)
    ∙ ap (λ o. or_else (option_and_then (λ t. answer_in t.outputs (get_or answers i d) name) o) (answer_of (drop (i + 1) tables) (drop (i + 1) answers) name)) (sym present)

named_past : (tables : List Table) (answers : List (List Answer)) (name : List ℕ) (i : ℕ) (d : List Answer) → length tables ≤ i → slice_get tables i ≡ None
    → answer_of (drop i tables) (drop i answers) name ≡ or_else (found_at tables i (get_or answers i d) name) (answer_of (drop (i + 1) tables) (drop (i + 1) answers) name)
named_past tables answers name i d past none =
    at_drop_all (λ ts. answer_of ts (drop i answers) name) tables i past
    ∙ sym (at_drop_all (λ ts. answer_of ts (drop (i + 1) answers) name) tables (i + 1) (omega arith))
    ∙ ap (λ o. or_else (option_and_then (λ t. answer_in t.outputs (get_or answers i d) name) o) (answer_of (drop (i + 1) tables) (drop (i + 1) answers) name)) (sym none)

-- the answer of the tables from an index on: that of the table at the index, or otherwise that of
-- the later ones
pub named_more : (tables : List Table) (answers : List (List Answer)) (name : List ℕ) (i : ℕ) (d : List Answer) → i < length answers
    → answer_of (drop i tables) (drop i answers) name ≡ or_else (found_at tables i (get_or answers i d) name) (answer_of (drop (i + 1) tables) (drop (i + 1) answers) name)
named_more tables answers name i d below = elim (slice_get_cases tables i).1 [
  | inl within ↦ named_here tables answers name i d within.0 below within.2
  | inr past ↦ named_past tables answers name i d past.0 past.1
]

pub or_else-found : (o p : Option Answer) → is_some o ≡ true → or_else o p ≡ o
or_else-found None p e = absurd (cc)
or_else-found (Some a) p e = refl

pub or_else-missed : (o p : Option Answer) → is_some o ≡ false → or_else o p ≡ p
or_else-missed None p e = refl
or_else-missed (Some a) p e = absurd (cc)

-- no answers are left
pub named_end : (tables : List Table) (name : List ℕ) → answer_of tables [] name ≡ None
named_end [] name = refl
named_end (t ∷ ts) name = refl

pub copied_some : (o : Option (Bor Answer)) → is_some (option_copied o) ≡ is_some o
copied_some None = refl
copied_some (Some a) = refl
