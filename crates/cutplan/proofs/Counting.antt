-- The number of cells of columns.
use Rattle.std.proofs.Common.{◌≡◌, ℕ, zero, suc, ◌+◌, ◌*◌, ◌≤◌, ◌<◌, inl, inr, List, [], ◌∷◌, ◌++◌, length, get_or, take, map, min, ap, sym, ◌∙◌, length-append, arith}
use Rattle.std.specs.List.{flat_map}
use Rattle.std.proofs.lemmas.List.{take_more, take_all, length-map, map-append}
use Rattle.std.proofs.lemmas.Bool.{cases_lt}
use Rattle.cutplan.specs.declared.compiled_column.CompiledColumn.{CompiledColumn}
use Rattle.regions.specs.declared.region.Region.{Region}
use Rattle.cutplan.specs.CompiledColumns.{regions_kept}
use Rattle.cutplan.specs.Check.{cells}

-- each region is put before each cell of the other columns
length_put : (rs : List Region) (rest : List (List Region)) → length (flat_map (λ r. map (λ cell. r ∷ cell) rest) rs) ≡ length rs * length rest
length_put [] rest = omega arith
length_put (r ∷ rs) rest =
    let split = length-append (map (λ cell. r ∷ cell) rest) (flat_map (λ x. map (λ cell. x ∷ cell) rest) rs) in
    let one = length-map rest (λ (cell : List Region). r ∷ cell) in
    let more = length_put rs rest in
    omega (arith, split, one, more)

-- one more column multiplies the number of cells
length_push : (columns : List (List Region)) (last : List Region) → length (cells (columns ++ last ∷ [])) ≡ length (cells columns) * length last
length_push [] last = length_put last ([] ∷ []) ∙ omega arith
length_push (c ∷ cs) last =
    length_put c (cells (cs ++ last ∷ [])) ∙ ap (λ n. length c * n) (length_push cs last) ∙ omega arith ∙ ap (λ n. n * length last) (sym (length_put c (cells cs)))

pub length_more : (columns : List (List Region)) (i : ℕ) (d : List Region) → i < length columns → length (cells (take (i + 1) columns)) ≡ length (cells (take i columns)) * length (get_or columns i d)
length_more columns i d below = ap (λ front. length (cells front)) (take_more columns i d below) ∙ length_push (take i columns) (get_or columns i d)

-- a product may be capped early
capped_product : (a b limit : ℕ) → min (min a limit * b) limit ≡ min (a * b) limit
capped_product a zero limit = omega arith
capped_product a (suc b) limit =
    elim (cases_lt a limit) [
      | inl less ↦ (let same : min a limit ≡ a = omega (arith, less) in ap (λ k. min (k * suc b) limit) same)
      | inr most ↦ (let same : min a limit ≡ limit = omega (arith, most) in ap (λ k. min (k * suc b) limit) same ∙ omega (arith, most))
    ]

-- the capped number of cells, extended by one column
pub count_more : (columns : List (List Region)) (i : ℕ) (item : List Region) (count factor limit : ℕ) → i < length columns → item ≡ get_or columns i item → factor ≡ length item
    → count ≡ min (length (cells (take i columns))) limit → min (count * factor) limit ≡ min (length (cells (take (i + 1) columns))) limit
count_more columns i item count factor limit below present factor_is count_is =
    ap (λ k. min (k * factor) limit) count_is ∙ capped_product (length (cells (take i columns))) factor limit
    ∙ ap (λ k. min k limit) (ap (λ k. length (cells (take i columns)) * k) (factor_is ∙ ap length present) ∙ sym (length_more columns i item below))

-- the capped number of all cells
pub whole_count : (columns : List (List Region)) (i count limit : ℕ) → length columns ≤ i → count ≡ min (length (cells (take i columns))) limit → count ≡ min (length (cells columns)) limit
whole_count columns i count limit end capped = capped ∙ ap (λ cs. min (length (cells cs)) limit) (take_all i columns end)

-- the same for compiled columns
pub count_kept : (columns : List CompiledColumn) (i : ℕ) (item : CompiledColumn) (count factor limit : ℕ) → i < length columns → item ≡ get_or columns i item → factor ≡ length item.partition.regions.items
    → count ≡ min (length (cells (regions_kept (take i columns)))) limit → min (count * factor) limit ≡ min (length (cells (regions_kept (take (i + 1) columns)))) limit
count_kept columns i item count factor limit below present factor_is count_is =
    let front = regions_kept (take i columns) in
    let last = item.partition.regions.items in
    let split : regions_kept (take (i + 1) columns) ≡ front ++ last ∷ [] =
    ap regions_kept (take_more columns i item below ∙ ap (λ c. take i columns ++ c ∷ []) (sym present)) ∙ map-append (λ (c : CompiledColumn). c.partition.regions.items) (take i columns) (item ∷ []) in
    ap (λ k. min (k * factor) limit) count_is ∙ capped_product (length (cells front)) factor limit
    ∙ ap (λ k. min k limit) (ap (λ k. length (cells front) * k) factor_is ∙ sym (length_push front last) ∙ sym (ap (λ cs. length (cells cs)) split))

pub whole_kept : (columns : List CompiledColumn) (i count limit : ℕ) → length columns ≤ i → count ≡ min (length (cells (regions_kept (take i columns)))) limit → count ≡ min (length (cells (regions_kept columns))) limit
whole_kept columns i count limit end capped = capped ∙ ap (λ cs. min (length (cells (regions_kept cs))) limit) (take_all i columns end)
