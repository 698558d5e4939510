-- What is left of a list of parts after walks over zones.
use Rattle.std.proofs.Common.{◌≡◌, ◌⊎◌, ℕ, ◌+◌, ◌++◌, ◌&&◌, inl, inr, Bool, true, false, not, cond, List, [], ◌∷◌, length, filter, Contains, refl, ap, sym, ◌∙◌, subst, append-nil, append_assoc, arith}
use Rattle.std.proofs.lemmas.Bool.{and_from, and_parts, both_ways, cases_lt}
use Rattle.regions.specs.declared.region.Region.{Region}
use Rattle.cutplan.proofs.ColumnWise.{among_contained}
use Rattle.cutplan.proofs.Overlapping.{among_kept, contained_among}
use Rattle.plan_checks.specs.Leaving.{Begins, BeginsBelow, IsLeft}
use Rattle.plan_zones.specs.Zones.{IsZone}

-- a list that is filtered twice
filtered_twice : {X : Type 0} (p q : X → Bool) (xs : List X) → filter q (filter p xs) ≡ filter (λ x. p x && q x) xs
filtered_twice p q [] = refl
filtered_twice {X} p q (x ∷ xs) =
    elim (p x) as (λ b. filter q (cond b (x ∷ filter p xs) (filter p xs)) ≡ cond (b && q x) (x ∷ filter (λ y. p y && q y) xs) (filter (λ y. p y && q y) xs)) [
      | true ↦ ap (λ rest. cond (q x) (x ∷ rest) rest) (filtered_twice p q xs)
      | false ↦ filtered_twice p q xs
    ]

filtered_none : {X : Type 0} (xs : List X) → xs ≡ filter (λ x. true) xs
filtered_none [] = refl
filtered_none (x ∷ xs) = ap (λ rest. x ∷ rest) (filtered_none xs)

not_true : (b : Bool) → b ≡ false → not b ≡ true
not_true false is = refl
not_true true is = absurd (both_ways true is refl)

not_false : (b : Bool) → not b ≡ true → b ≡ false
not_false false is = refl
not_false true is = absurd (both_ways false refl is)

module _ {X : Type 0} (is_used : List ℕ → X → Bool) where
  -- where no zone was passed, all is left
  pub left_all : (P : List ℕ → Type 0) (xs : List X) → ((zone : List ℕ) → P zone → ⊥) → IsLeft is_used P xs xs
  left_all P xs none = record { keeps = λ x. true; is = filtered_none xs; right = λ x at. (λ kept zone passed. absurd (none zone passed), λ unused. refl) }

  -- what is left after one zone
  pub left_one : (one : List ℕ) (old new : List X) → new ≡ filter (λ x. not (is_used one x)) old → IsLeft is_used (λ zone. zone ≡ one) old new
  left_one one old new is = record {
    keeps = λ x. not (is_used one x);
    is = is;
    right = λ x at. (
      λ kept zone same. ap (λ z. is_used z x) same ∙ not_false (is_used one x) kept,
      λ unused. not_true (is_used one x) (unused one refl),
    );
  }

  -- what is left after zones is left after the same zones
  pub left_alike : (P Q : List ℕ → Type 0) (old new : List X) → ((zone : List ℕ) → P zone → Q zone) → ((zone : List ℕ) → Q zone → P zone) → IsLeft is_used P old new → IsLeft is_used Q old new
  left_alike P Q old new there back left = record {
    keeps = left.keeps;
    is = left.is;
    right = λ x at. (
      λ kept zone passed. (left.right x at).0 kept zone (back zone passed),
      λ unused. (left.right x at).1 (λ zone passed. unused zone (there zone passed)),
    );
  }

  -- what is left after some zones and then after others
  pub left_both : (P Q : List ℕ → Type 0) (old mid new : List X) → IsLeft is_used P old mid → IsLeft is_used Q mid new → IsLeft is_used (λ zone. P zone ⊎ Q zone) old new
  left_both P Q old mid new one other = record {
    keeps = λ x. one.keeps x && other.keeps x;
    is = other.is ∙ ap (filter other.keeps) one.is ∙ filtered_twice one.keeps other.keeps old;
    right = λ x at. (both_from x at, both_to x at);
  } where
    in_mid : (x : X) → Contains old x → one.keeps x ≡ true → Contains mid x
    in_mid x at kept = subst (λ xs. Contains xs x) (sym one.is) (contained_among (filter one.keeps old) x (among_kept one.keeps x old (among_contained old x at) kept))

    both_from : (x : X) → Contains old x → (one.keeps x && other.keeps x) ≡ true → (zone : List ℕ) → P zone ⊎ Q zone → is_used zone x ≡ false
    both_from x at kept zone (inl passed) = (one.right x at).0 (and_parts (one.keeps x) (other.keeps x) kept).0 zone passed
    both_from x at kept zone (inr passed) =
        let parts = and_parts (one.keeps x) (other.keeps x) kept in
        (other.right x (in_mid x at parts.0)).0 parts.1 zone passed

    both_to : (x : X) → Contains old x → ((zone : List ℕ) → P zone ⊎ Q zone → is_used zone x ≡ false) → (one.keeps x && other.keeps x) ≡ true
    both_to x at unused =
        let first = (one.right x at).1 (λ zone passed. unused zone (inl passed)) in
        and_from (one.keeps x) (other.keeps x) first ((other.right x (in_mid x at first)).1 (λ zone passed. unused zone (inr passed)))

  -- what is left after the zones of one more region
  pub left_more : (first : List ℕ) (more : List (List Region)) (region : ℕ) (old mid new : List X) → IsLeft is_used (BeginsBelow first more region) old mid
      → IsLeft is_used (Begins (first ++ region ∷ []) more) mid new → IsLeft is_used (BeginsBelow first more (region + 1)) old new
  left_more first more region old mid new one other =
      left_alike (λ zone. BeginsBelow first more region zone ⊎ Begins (first ++ region ∷ []) more zone) (BeginsBelow first more (region + 1)) old new there back
      (left_both (BeginsBelow first more region) (Begins (first ++ region ∷ []) more) old mid new one other) where
        there : (zone : List ℕ) → BeginsBelow first more region zone ⊎ Begins (first ++ region ∷ []) more zone → BeginsBelow first more (region + 1) zone
        there zone (inl b) = (b.0, (let low = b.1 in omega (arith, low)), b.2)
        there zone (inr b) = (region, omega arith, b)

        back : (zone : List ℕ) → BeginsBelow first more (region + 1) zone → BeginsBelow first more region zone ⊎ Begins (first ++ region ∷ []) more zone
        back zone b = elim (cases_lt b.0 region) [
          | inl less ↦ inl (b.0, less, b.2)
          | inr most ↦ (let below = b.1 in let same : b.0 ≡ region = omega (arith, most, below) in inr (subst (λ k. Begins (first ++ k ∷ []) more zone) same b.2))
        ]

  -- the zones of all regions of the next name
  pub left_regions : (first : List ℕ) (choices : List Region) (more : List (List Region)) (old new : List X) → IsLeft is_used (BeginsBelow first more (length choices)) old new → IsLeft is_used (Begins first (choices ∷ more)) old new
  left_regions first choices more old new left = left_alike (BeginsBelow first more (length choices)) (Begins first (choices ∷ more)) old new there back left where
    there : (zone : List ℕ) → BeginsBelow first more (length choices) zone → Begins first (choices ∷ more) zone
    there zone b = record { rest = b.0 ∷ b.2.rest; is = b.2.is ∙ append_assoc first (b.0 ∷ []) b.2.rest; is_zone = (b.1, b.2.is_zone) }

    back_by : (zone rest : List ℕ) → zone ≡ first ++ rest → IsZone (choices ∷ more) rest → BeginsBelow first more (length choices) zone
    back_by zone [] is fits = absurd fits
    back_by zone (region ∷ rest) is fits = (region, fits.0, record { rest = rest; is = is ∙ sym (append_assoc first (region ∷ []) rest); is_zone = fits.1 })

    back : (zone : List ℕ) → Begins first (choices ∷ more) zone → BeginsBelow first more (length choices) zone
    back zone b = back_by zone b.rest b.is b.is_zone

  -- the only zone of no more names
  pub left_zone : (zone : List ℕ) (old new : List X) → new ≡ filter (λ x. not (is_used zone x)) old → IsLeft is_used (Begins zone []) old new
  left_zone one old new is = left_alike (λ zone. zone ≡ one) (Begins one []) old new there back (left_one one old new is) where
    there : (zone : List ℕ) → zone ≡ one → Begins one [] zone
    there zone same = record { rest = []; is = same ∙ sym (append-nil one); is_zone = tt }

    back_by : (zone rest : List ℕ) → zone ≡ one ++ rest → IsZone [] rest → zone ≡ one
    back_by zone [] is fits = is ∙ append-nil one
    back_by zone (region ∷ rest) is fits = absurd fits

    back : (zone : List ℕ) → Begins one [] zone → zone ≡ one
    back zone b = back_by zone b.rest b.is b.is_zone

pub no_names : (regions : List (List Region)) → length regions ≡ 0 → regions ≡ []
no_names [] none = refl
no_names (rs ∷ more) none = absurd (omega (arith, none))
