-- The rules that cover a cell, region by region.
use Rattle.std.proofs.Common.{◌≡◌, ℕ, zero, suc, ◌+◌, ◌&&◌, ◌||◌, Bool, true, not, eqb, List, [], ◌∷◌, length, drop, refl, ap, sym, ◌∙◌, add-one, arith}
use Rattle.std.specs.List.{list_any, range_with_len, slice_get}
use Rattle.std.specs.Option.{option_map_or}
use Rattle.std.proofs.lemmas.Bool.{ne_eqb}
use Rattle.feel_tests.specs.declared.cell.Cell.{Cell}
use Rattle.tables.specs.declared.table.Rule.{Rule}
use Rattle.tables.specs.declared.table.Table.{Table}
use Rattle.regions.specs.declared.region.Region.{Region}
use Rattle.regions.specs.Regions.{holds_in}
use Rattle.cutplan.specs.Check.{covers, holds_at, rule_cells}
use Rattle.cutplan.specs.CheckSteps.{uncovered, alive_in}
use Rattle.cutplan.proofs.Steps.{any_kept, any_agrees, first_of_rest, rest_of_rest}

-- a rule covers a cell from a column on if and only if it holds in the first region and covers the
-- others from the next column on
pub covers_from : (rule : List Cell) (column : ℕ) (r : Region) (cell : List Region)
    → covers (drop column rule) (r ∷ cell) ≡ (option_map_or (λ c. holds_in c r) (slice_get rule column) true && covers (drop (suc column) rule) cell)
covers_from [] zero r cell = refl
covers_from [] (suc column) r cell = refl
covers_from (c ∷ cs) zero r cell = refl
covers_from (c ∷ cs) (suc column) r cell = covers_from cs column r cell

-- every rule covers the cell without regions
covers_none : (rule : List Cell) → covers rule [] ≡ true
covers_none [] = refl
covers_none (c ∷ cs) = refl

-- a cell is uncovered if and only if its other regions are uncovered by the rules that hold in its
-- first region
pub uncovered_step : (t : Table) (column : ℕ) (rules : List ℕ) (r : Region) (cell : List Region)
    → uncovered t column rules (r ∷ cell) ≡ uncovered t (column + 1) (alive_in t column r rules) cell
uncovered_step t column rules r cell =
    let here : (rule : ℕ) → covers (drop column (rule_cells t rule)) (r ∷ cell) ≡ (holds_at t rule column r && covers (drop (column + 1) (rule_cells t rule)) cell) =
    λ rule. covers_from (rule_cells t rule) column r cell ∙ ap (λ k. holds_at t rule column r && covers (drop k (rule_cells t rule)) cell) (sym (add-one column)) in
    ap not (any_agrees (λ rule. covers (drop column (rule_cells t rule)) (r ∷ cell)) (λ rule. holds_at t rule column r && covers (drop (column + 1) (rule_cells t rule)) cell) here rules
    ∙ any_kept (λ rule. holds_at t rule column r) (λ rule. covers (drop (column + 1) (rule_cells t rule)) cell) rules)

-- the cell without regions is uncovered if and only if there is no rule
pub uncovered_end : (t : Table) (column : ℕ) (rules : List ℕ) → uncovered t column rules [] ≡ eqb (length rules) 0
uncovered_end t column [] = refl
uncovered_end t column (rule ∷ rules) = ap (λ b. not (b || list_any (λ x. covers (drop column (rule_cells t x)) []) rules)) (covers_none (drop column (rule_cells t rule))) ∙ sym (ne_eqb (suc (length rules)) 0 (λ e. absurd (omega (arith, e))))

-- the rules by index and the rules one by one
any_by_place : (f : List Cell → Bool) (t : Table) (k : ℕ) (rules : List Rule) → drop k t.rules ≡ rules → list_any (λ place. f (rule_cells t place)) (range_with_len k (length rules)) ≡ list_any (λ r. f r.cells) rules
any_by_place f t k [] e = refl
any_by_place f t k (r ∷ rules) e =
    let here : f (rule_cells t k) ≡ f r.cells = ap (λ found. f (option_map_or (λ x. x.cells) found [])) (first_of_rest t.rules k r rules e) in
    let rest = any_by_place f t (k + 1) rules (ap (λ n. drop n t.rules) (add-one k) ∙ rest_of_rest t.rules k r rules e) in
    ap (λ b. b || list_any (λ place. f (rule_cells t place)) (range_with_len (k + 1) (length rules))) here ∙ ap (λ b. f r.cells || b) rest

-- a cell is uncovered by all rules from the first column on if and only if no rule covers it
pub gap_is : (t : Table) (cell : List Region) → uncovered t 0 (range_with_len 0 (length t.rules)) cell ≡ not (list_any (λ r. covers r.cells cell) t.rules)
gap_is t cell = ap not (any_by_place (λ rule. covers rule cell) t 0 t.rules refl)
