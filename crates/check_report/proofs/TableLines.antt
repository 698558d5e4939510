-- The lines of a check, item by item and table by table.
use Rattle.std.proofs.Common.{◌≡◌, ℕ, zero, suc, ◌+◌, ◌<◌, List, [], ◌∷◌, ◌++◌, length, get_or, take, ap, ◌∙◌, append-nil, add-one, arith}
use Rattle.std.specs.List.{flat_map, range_with_len, sum_by}
use Rattle.std.proofs.lemmas.List.{take_more}
use Rattle.std.proofs.lemmas.List.Concat.{flat_map-append}
use Rattle.std.proofs.lemmas.List.Sums.{sum_by-append}
use Rattle.check_report.specs.CheckText.{table_numbers}

-- a flat map over one more item
pub flat_more : {X : Type 0} (line : X → List ℕ) (xs : List X) (i : ℕ) (d : X) → i < length xs → flat_map line (take (i + 1) xs) ≡ flat_map line (take i xs) ++ line (get_or xs i d)
flat_more line xs i d below =
    ap (flat_map line) (take_more xs i d below) ∙ flat_map-append line (take i xs) (get_or xs i d ∷ []) ∙ ap (λ end. flat_map line (take i xs) ++ end) (append-nil (line (get_or xs i d)))

-- a range with one more number
range_more : (a n : ℕ) → range_with_len a (suc n) ≡ range_with_len a n ++ (a + n) ∷ []
range_more a zero = let here : a ≡ a + 0 = omega arith in ap (λ k. k ∷ []) here
range_more a (suc n) =
    let there : (a + 1) + n ≡ a + suc n = omega arith in
    ap (λ rest. a ∷ rest) (range_more (a + 1) n ∙ ap (λ k. range_with_len (a + 1) n ++ k ∷ []) there)

-- the numbers of the tables with one more table
numbers_more : (count : ℕ) → table_numbers (count + 1) ≡ table_numbers count ++ (count + 1) ∷ []
numbers_more count =
    let last : 1 + count ≡ count + 1 = omega arith in
    ap table_numbers (add-one count) ∙ range_more 1 count ∙ ap (λ k. range_with_len 1 count ++ k ∷ []) last

-- a sum over one more table
pub count_more : (of : ℕ → ℕ) (count : ℕ) → sum_by of (table_numbers (count + 1)) ≡ sum_by of (table_numbers count) + of (count + 1)
count_more of count =
    let last : sum_by of ((count + 1) ∷ []) ≡ of (count + 1) = omega arith in
    ap (sum_by of) (numbers_more count) ∙ sum_by-append of (table_numbers count) ((count + 1) ∷ []) ∙ ap (λ k. sum_by of (table_numbers count) + k) last
