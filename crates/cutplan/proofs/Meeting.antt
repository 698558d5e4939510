-- The rules in the intersection of masks, column by column.
use Rattle.std.proofs.Common.{◌≡◌, ℕ, zero, suc, ◌+◌, ◌*◌, ◌/◌, ◌%◌, ◌^◌, ◌<◌, ◌≤◌, ◌==◌, ◌&&◌, inl, inr, Bool, true, false, cond, List, [], ◌∷◌, length, get_or, filter, refl, ap, sym, ◌∙◌, subst, arith, w64}
use Rattle.std.specs.Prelude.{nat_lt}
use Rattle.std.specs.List.{range_with_len}
use Rattle.std.specs.Int.{bit_at, trailing_zeros}
use Rattle.std.proofs.lemmas.Bool.{both_ways, cases_eq, cases_lt, lt-ltb, le-ltb, eq-eqb, ne_eqb}
use Rattle.std.proofs.lemmas.List.{length-map}
use Rattle.std.proofs.lemmas.Nat.Bits.{bit_at-zero, bit_at-trailing_zeros}
use Rattle.tables.specs.declared.table.Table.{Table}
use Rattle.cutplan.specs.declared.compiled_column.CompiledColumn.{CompiledColumn}
use Rattle.regions.specs.declared.region.Region.{Region}
use Rattle.cutplan.specs.CompiledColumns.{regions_kept}
use Rattle.cutplan.specs.Check.{holds_at}
use Rattle.cutplan.specs.Masks.{has_rule, rules_in, is_marked, AreMasks, HasOnlyFirst, Marks}
use Rattle.cutplan.specs.CheckSteps.{alive_in}
use Rattle.cutplan.proofs.Alike.{Among}
use Rattle.cutplan.proofs.Compiling.{all_long}
use Rattle.cutplan.proofs.MaskLists.{filter_alike}
use Rattle.cutplan.proofs.MaskRules.{filter_none}
use Rattle.cutplan.proofs.Overlapping.{among_kept, among_range}

-- two filters, one after the other
filter_both : {X : Type 0} (f g : X → Bool) (xs : List X) → filter (λ x. f x && g x) xs ≡ filter g (filter f xs)
filter_both f g [] = refl
filter_both f g (x ∷ xs) =
    elim (f x) as (λ b. cond (b && g x) (x ∷ filter (λ y. f y && g y) xs) (filter (λ y. f y && g y) xs) ≡ filter g (cond b (x ∷ filter f xs) (filter f xs))) [
      | true ↦ ap (λ rest. cond (g x) (x ∷ rest) rest) (filter_both f g xs)
      | false ↦ filter_both f g xs
    ]

filter_each : {X : Type 0} (xs : List X) → filter (λ x. true) xs ≡ xs
filter_each [] = refl
filter_each (x ∷ xs) = ap (λ rest. x ∷ rest) (filter_each xs)

-- the rules of the intersection of two masks
abbrev pub IsMet : List ℕ → List ℕ → List ℕ → Type 0
IsMet mask other met = (place : ℕ) → place < 256 → has_rule met place ≡ (has_rule mask place && has_rule other place)

-- the remaining rules that also hold in a region
pub alive_are : (t : Table) (column : ℕ) (region : Region) (mask other met : List ℕ) → length t.rules ≤ 256 → Marks (is_marked t column region) other → IsMet mask other met
    → rules_in (length t.rules) met ≡ alive_in t column region (rules_in (length t.rules) mask)
alive_are t column region mask other met few marks has =
    filter_alike (has_rule met) (λ k. has_rule mask k && holds_at t k column region) 0 (length t.rules)
    (λ k low high.
    has k (omega (arith, few, high))
    ∙ ap (λ b. has_rule mask k && b) (marks.has k (omega (arith, few, high)) ∙ ap (λ b. b && holds_at t k column region) (lt-ltb k (length t.rules) (omega (arith, high)))))
    ∙ filter_both (has_rule mask) (λ k. holds_at t k column region) (range_with_len 0 (length t.rules))

pub alive_rules : (count : ℕ) (mask other met : List ℕ) → HasOnlyFirst count mask → IsMet mask other met → HasOnlyFirst count met
alive_rules count mask other met rules has place following low = has place low ∙ ap (λ b. b && has_rule other place) (rules place following low)

-- the mask of the first rules
pub first_rules : (count : ℕ) (mask : List ℕ) → Marks (λ place. nat_lt place count) mask → HasOnlyFirst count mask
first_rules count mask marks place following low = marks.has place low ∙ le-ltb place count following

pub first_are : (count : ℕ) (mask : List ℕ) → count ≤ 256 → Marks (λ place. nat_lt place count) mask → rules_in count mask ≡ range_with_len 0 count
first_are count mask few marks =
    filter_alike (has_rule mask) (λ k. true) 0 count (λ k low high. marks.has k (omega (arith, few, high)) ∙ lt-ltb k count (omega (arith, high))) ∙ filter_each (range_with_len 0 count)

-- a mask has no rule if all its words are zero
none_from : (count : ℕ) (mask : List ℕ) → count ≤ 256 → ((word : ℕ) → word < 4 → get_or mask word 0 ≡ 0) → rules_in count mask ≡ []
none_from count mask few zeros =
    filter_none (has_rule mask) 0 count
    (λ k low high. ap (λ w. bit_at w (k % 64) == 1) (zeros (k / 64) (omega (arith, few, high))) ∙ ap (λ bit. bit == 1) (bit_at-zero (k % 64)))

among_long : {X : Type 0} (x : X) (xs : List X) → Among x xs → (length xs == 0) ≡ false
among_long x [] at = absurd at
among_long x (y ∷ ys) at = ne_eqb (suc (length ys)) 0 (λ e. omega (arith, e))

-- a mask has a rule if one of its words is not zero
some_from : (count : ℕ) (mask : List ℕ) (word : ℕ) → HasOnlyFirst count mask → word < 4 → get_or mask word 0 < 2 ^ 64 → (get_or mask word 0 ≡ 0 → ⊥) → (length (rules_in count mask) == 0) ≡ false
some_from count mask word rules low small some =
    let bits : ℕ = get_or mask word 0 in
    let bit = trailing_zeros w64 bits in
    let lowest = bit_at-trailing_zeros w64 bits (omega (arith, some)) small in
    let within : bit < 64 = lowest.0 in
    let place : ℕ = 64 * word + bit in
    let at : place / 64 ≡ word = omega (arith, within) in
    let rest : place % 64 ≡ bit = omega (arith, within) in
    let has : has_rule mask place ≡ true = ap (λ i. bit_at (get_or mask i 0) (place % 64) == 1) at ∙ ap (λ i. bit_at bits i == 1) rest ∙ ap (λ x. x == 1) lowest.1 in
    elim (cases_lt place count) [
      | inl less ↦ among_long place (rules_in count mask) (among_kept (has_rule mask) place (range_with_len 0 count) (among_range 0 count place (omega arith) (omega (arith, less))) has)
      | inr most ↦ absurd (both_ways (has_rule mask place) (rules place most (omega (arith, low, within))) has)
    ]

-- whether a mask has no rule
pub none_is : (count : ℕ) (mask : List ℕ) → count ≤ 256 → HasOnlyFirst count mask → ((word : ℕ) → get_or mask word 0 < 2 ^ 64)
    → (((get_or mask 0 0 == 0 && get_or mask 1 0 == 0) && get_or mask 2 0 == 0) && get_or mask 3 0 == 0) ≡ (length (rules_in count mask) == 0)
none_is count mask few rules small =
    let a : ℕ = get_or mask 0 0 in
    let b : ℕ = get_or mask 1 0 in
    let c : ℕ = get_or mask 2 0 in
    let d : ℕ = get_or mask 3 0 in
    elim (cases_eq a 0) [
      | inr some ↦ ap (λ x. ((x && b == 0) && c == 0) && d == 0) (ne_eqb a 0 some) ∙ sym (some_from count mask 0 rules (omega arith) (small 0) some)
      | inl a_none ↦ ap (λ x. ((x && b == 0) && c == 0) && d == 0) (eq-eqb a 0 a_none) ∙ (elim (cases_eq b 0) [
        | inr some ↦ ap (λ x. (x && c == 0) && d == 0) (ne_eqb b 0 some) ∙ sym (some_from count mask 1 rules (omega arith) (small 1) some)
        | inl b_none ↦ ap (λ x. (x && c == 0) && d == 0) (eq-eqb b 0 b_none) ∙ (elim (cases_eq c 0) [
          | inr some ↦ ap (λ x. x && d == 0) (ne_eqb c 0 some) ∙ sym (some_from count mask 2 rules (omega arith) (small 2) some)
          | inl c_none ↦ ap (λ x. x && d == 0) (eq-eqb c 0 c_none) ∙ (elim (cases_eq d 0) [
            | inr some ↦ ne_eqb d 0 some ∙ sym (some_from count mask 3 rules (omega arith) (small 3) some)
            | inl d_none ↦ eq-eqb d 0 d_none ∙ sym (ap (λ xs. length xs == 0) (none_from count mask few (zeros a_none b_none c_none d_none)))
          ])
        ])
      ])
    ] where
      zeros : get_or mask 0 0 ≡ 0 → get_or mask 1 0 ≡ 0 → get_or mask 2 0 ≡ 0 → get_or mask 3 0 ≡ 0 → (word : ℕ) → word < 4 → get_or mask word 0 ≡ 0
      zeros a b c d zero low = a
      zeros a b c d (suc zero) low = b
      zeros a b c d (suc (suc zero)) low = c
      zeros a b c d (suc (suc (suc zero))) low = d
      zeros a b c d (suc (suc (suc (suc n)))) low = absurd (omega (arith, low))

-- the mask of a region
pub mask_there : (t : Table) (column : ℕ) (regions : List Region) (kept : List (List ℕ)) (i : ℕ) → AreMasks t column regions kept → i < length regions → i < length kept
mask_there t column [] kept i all below = absurd (omega (arith, below))
mask_there t column (r ∷ rs) [] i all below = absurd all
mask_there t column (r ∷ rs) (m ∷ ms) zero all below = omega arith
mask_there t column (r ∷ rs) (m ∷ ms) (suc i) all below = let more = mask_there t column rs ms i all.1 (omega (arith, below)) in omega (arith, more)

pub mask_here : (t : Table) (column : ℕ) (regions : List Region) (kept : List (List ℕ)) (i : ℕ) (region : Region) (d : List ℕ) → AreMasks t column regions kept → i < length regions → region ≡ get_or regions i region
    → Marks (is_marked t column region) (get_or kept i d)
mask_here t column [] kept i region d all below is = absurd (omega (arith, below))
mask_here t column (r ∷ rs) [] i region d all below is = absurd all
mask_here t column (r ∷ rs) (m ∷ ms) zero region d all below is = subst (λ x. Marks (is_marked t column x) m) (sym is) all.0
mask_here t column (r ∷ rs) (m ∷ ms) (suc i) region d all below is = mask_here t column rs ms i region d all.1 (omega (arith, below)) is

-- there is a mask for each region
pub masks_long : (t : Table) (column : ℕ) (regions : List Region) (kept : List (List ℕ)) → AreMasks t column regions kept → length regions ≡ length kept
masks_long t column regions kept all = all_long (λ region mask. Marks (is_marked t column region) mask) regions kept all

-- no columns have no regions
pub no_columns : (columns : List CompiledColumn) → length columns ≡ 0 → length (regions_kept columns) ≡ 0
no_columns columns none = length-map columns (λ (c : CompiledColumn). c.partition.regions.items) ∙ none
