-- The rules of a mask and the matching rules.
use Rattle.std.proofs.Common.{◌≡◌, ℕ, zero, suc, ◌+◌, ◌<◌, ◌≤◌, Bool, true, false, cond, List, [], ◌∷◌, ◌++◌, length, filter, Some, None, Option, refl, ap, ◌∙◌, add-one, arith, inl, inr}
use Rattle.std.specs.Prelude.{◌&&◌, nat_lt, slice_get}
use Rattle.std.specs.List.{range_with_len}
use Rattle.std.proofs.lemmas.List.Elements.{filter-append}
use Rattle.std.specs.Option.{option_map_or}
use Rattle.std.proofs.lemmas.Bool.{lt-ltb}
use Rattle.tables.specs.declared.environment.Answer.{Answer}
use Rattle.tables.specs.declared.inputs.Slot.{Slot}
use Rattle.tables.specs.declared.table.Rule.{Rule}
use Rattle.tables.specs.declared.table.Table.{Table}
use Rattle.tables.specs.Matching.{matching, rule_matches}
use Rattle.std.proofs.lemmas.Option.{none-some, same_Some}
use Rattle.feel_tests.specs.Holds.{holds}
use Rattle.feel_tests.specs.declared.value.Value.{Value}
use Rattle.tables.specs.Plan.{PlanParts}
use Rattle.tables.specs.declared.table.Input.{Input}
use Rattle.regions.specs.declared.region.Region.{Region}
use Rattle.cutplan.specs.Check.{rule_cells}
use Rattle.regions.specs.Regions.{column_of, holds_in, is_allowed, is_in, regions}
use Rattle.cutplan.specs.Masks.{has_rule, rules_in, is_marked, Marks}
use Rattle.cutplan.proofs.Alike.{Among}
use Rattle.cutplan.proofs.GapLists.{asks_alike}

-- a test that no number passes filters all of them out
pub filter_none : (f : ℕ → Bool) (a n : ℕ) → ((k : ℕ) → a ≤ k → k < a + n → f k ≡ false) → filter f (range_with_len a n) ≡ []
filter_none f a zero none = refl
filter_none f a (suc n) none =
    ap (λ b. cond b (a ∷ filter f (range_with_len (a + 1) n)) (filter f (range_with_len (a + 1) n))) (none a (omega arith) (omega arith))
    ∙ filter_none f (a + 1) n (λ k low high. none k (omega arith) (omega arith))

-- two tests that agree on the first n numbers filter alike, if nothing after them passes the second
-- test
pub filter_within : (f g : ℕ → Bool) (a n m : ℕ) → n ≤ m → ((k : ℕ) → a ≤ k → k < a + n → f k ≡ g k) → ((k : ℕ) → a + n ≤ k → k < a + m → f k ≡ false)
    → filter f (range_with_len a m) ≡ filter g (range_with_len a n)
filter_within f g a zero m le same none = filter_none f a m (λ k low high. none k (omega arith) high)
filter_within f g a (suc n) zero le same none = absurd (omega (arith, le))
filter_within f g a (suc n) (suc m) le same none =
    ap (λ b. cond b (a ∷ filter f (range_with_len (a + 1) m)) (filter f (range_with_len (a + 1) m))) (same a (omega arith) (omega arith))
    ∙ ap (λ xs. cond (g a) (a ∷ xs) xs)
    (filter_within f g (a + 1) n m (omega (arith, le)) (λ k low high. same k (omega arith) (omega arith)) (λ k low high. none k (omega arith) (omega arith)))

-- a mask with exactly the matching rules lists them
pub rules_match : (mask : List ℕ) (given : List Slot) (earlier : List (List Answer)) (t : Table) → length t.rules ≤ 256
    → ((place : ℕ) → place < 256 → has_rule mask place ≡ (nat_lt place (length t.rules) && rule_matches given earlier t place))
    → rules_in (length t.rules) mask ≡ matching given earlier t
rules_match mask given earlier t few is =
    filter_within (has_rule mask) (rule_matches given earlier t) 0 (length t.rules) (length t.rules) (omega arith)
    (λ k low high. is k (omega (arith, few, high)) ∙ ap (λ b. b && rule_matches given earlier t k) (lt-ltb k (length t.rules) (omega (arith, high))))
    (λ k low high. absurd (omega (arith, low, high)))

-- a range, extended by one number
range_more : (a n : ℕ) → range_with_len a (suc n) ≡ range_with_len a n ++ (a + n) ∷ []
range_more a zero = let here : a ≡ a + 0 = omega arith in ap (λ k. k ∷ []) here
range_more a (suc n) =
    let there : (a + 1) + n ≡ a + suc n = omega arith in
    ap (λ rest. a ∷ rest) (range_more (a + 1) n ∙ ap (λ k. range_with_len (a + 1) n ++ k ∷ []) there)

-- the filtered numbers, extended by one number
pub filter_numbers : (p : ℕ → Bool) (n : ℕ) → filter p (range_with_len 0 (n + 1)) ≡ filter p (range_with_len 0 n) ++ cond (p n) (n ∷ []) []
filter_numbers p n =
    let zero_more : 0 + n ≡ n = omega arith in
    ap (λ k. filter p (range_with_len 0 k)) (add-one n) ∙ ap (filter p) (range_more 0 n ∙ ap (λ k. range_with_len 0 n ++ k ∷ []) zero_more) ∙ filter-append p (range_with_len 0 n) (n ∷ [])

pub among_got : {X : Type 0} (xs : List X) (n : ℕ) (x : X) → slice_get xs n ≡ Some x → Among x xs
among_got [] n x e = absurd (none-some x e)
among_got (y ∷ ys) zero x e = inl (same_Some y x e)
among_got (y ∷ ys) (suc n) x e = inr (among_got ys n x e)

-- the rule's cell in the column holds for the value; a missing cell holds for every value
abbrev pub value_holds : Table → ℕ → Value → ℕ → Bool
value_holds t column v place = option_map_or (λ cell. holds cell v) (slice_get (rule_cells t place) column) true

-- the mask of the region that contains an allowed value has exactly the rules whose cell holds for
-- the value
pub column_marks : (p : PlanParts) (t : Table) (column : ℕ) (input : Input) (r : Region) (v : Value) (mask : List ℕ)
    → Among r (regions (column_of p t column input)) → is_allowed (column_of p t column input) v ≡ true → is_in r v ≡ true → Marks (is_marked t column r) mask
    → (place : ℕ) → place < 256 → has_rule mask place ≡ (nat_lt place (length t.rules) && value_holds t column v place)
column_marks p t column input r v mask at allowed inside marks place within =
    marks.has place within ∙ ap (λ b. nat_lt place (length t.rules) && b) (by_found (slice_get t.rules place) refl) where
      by_found : (found : Option Rule) → slice_get t.rules place ≡ found
          → option_map_or (λ cell. holds_in cell r) (slice_get (option_map_or (λ x. x.cells) found []) column) true
          ≡ option_map_or (λ cell. holds cell v) (slice_get (option_map_or (λ x. x.cells) found []) column) true
      by_found None e = refl
      by_found (Some rule) e = asks_alike p t column input rule r v (among_got t.rules place rule e) at allowed inside
