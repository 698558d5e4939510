-- The regions of names: each possible value of a name lies in one, and each contains a possible value.
use Rattle.std.proofs.Common.{◌≡◌, ℕ, zero, suc, ◌+◌, ◌<◌, inl, inr, ◌&&◌, ◌||◌, Bool, true, false, not, cond, List, [], ◌∷◌, length, filter, map, Some, refl, ap, sym, ◌∙◌, subst, arith}
use Rattle.std.specs.Prelude.{count_by}
use Rattle.std.specs.List.{AllZip, range_with_len, slice_get}
use Rattle.std.specs.Option.{option_map_or}
use Rattle.std.proofs.lemmas.Bool.{and_from, and_parts}
use Rattle.feel_tests.specs.declared.kind.Kind.{Kind}
use Rattle.feel_tests.specs.declared.kind.Kind.TheVariants as kinds
use Rattle.feel_tests.specs.declared.value.Value.{Value}
use Rattle.feel_tests.specs.declared.value.Value.TheVariants.{Flag}
use Rattle.tables.specs.Plan.{PlanParts, has_kind, same_kind}
use Rattle.regions.specs.declared.region.Region.{Region}
use Rattle.regions.specs.declared.region.Region.TheVariants.{Every}
use Rattle.cutplan.specs.ClassWise.{regions_by}
use Rattle.cutplan.specs.InputClasses.{name_kind}
use Rattle.cutplan.specs.Matching.{has_at}
use Rattle.regions.specs.Regions.{has_value, is_in, stretches}
use Rattle.regions.specs.Values.{is_value, sort_values}
use Rattle.cutplan.proofs.Alike.{Among}
use Rattle.cutplan.proofs.ByMasks.{lies_at}
use Rattle.cutplan.proofs.ColumnWise.{among_unfilter, value_kind}
use Rattle.cutplan.proofs.Holding.{among_passes, holder}
use Rattle.cutplan.proofs.MaskRules.{among_got}
use Rattle.cutplan.proofs.OpenRegions.{located}
use Rattle.cutplan.proofs.Ordered.{count_no}
use Rattle.cutplan.proofs.Overlapping.{among_kept}
use Rattle.cutplan.proofs.Parting.{stretch_count}
use Rattle.plan_zones.specs.Amounts.{has_money, is_amount, is_amount_name, is_money_value, is_possible, is_possible_region}
use Rattle.plan_zones.specs.Zones.{IsZone, LieIn, region_at, regions_where}
use Rattle.plan_zones.proofs.Lists.{get_there}
use Rattle.plan_checks.proofs.Money.{has_money_from, money_in, ordered}

-- a claim can give the name this value
abbrev pub Fits : PlanParts → ℕ → Value → Type 0
Fits p name v = is_possible p name v ≡ true

-- a claim can give these names the values
abbrev pub Possible : PlanParts → ℕ → ℕ → List Value → Type 0
Possible p a n values = AllZip (Fits p) (range_with_len a n) values

-- a region among those that a count finds
pub counted_one : (q : Region → Bool) (n : ℕ) (xs : List Region) → count_by q xs ≡ suc n → (r : Region) × Among r xs × (q r ≡ true)
counted_one q n [] e = absurd (omega (arith, e))
counted_one q n (x ∷ xs) e =
    elim (q x) as (λ b. q x ≡ b → (r : Region) × Among r (x ∷ xs) × (q r ≡ true)) [
      | true ↦ λ here. (x, inl refl, here)
      | false ↦ λ here. (let more = counted_one q n xs (sym (count_no q x xs (count_by q xs) here refl) ∙ e) in (more.0, inr more.1, more.2))
    ] refl

-- the index of a region that contains the value
pub record Indexed (rs : List Region) (v : Value) : Type 0 where
  pub index : ℕ
  pub below : index < length rs
  pub inside : has_at rs index v ≡ true

pub indexed : (rs : List Region) (r : Region) (v : Value) → Among r rs → is_in r v ≡ true → Indexed rs v
indexed [] r v at inside = absurd at
indexed (x ∷ xs) r v (inl same) inside = record { index = 0; below = omega arith; inside = subst (λ y. is_in y v ≡ true) (sym same) inside }
indexed (x ∷ xs) r v (inr more) inside =
    let rest = indexed xs r v more inside in
    record { index = suc rest.index; below = (let b = rest.below in omega (arith, b)); inside = rest.inside }

-- a region with a possible value is kept
pub possible_region : (kind : Kind) (index : Bool) (cuts : List Value) (r : Region) (v : Value) → Among r (stretches kind cuts) → has_value r ≡ true → is_value kind v ≡ true
    → (not (same_kind kind kinds.Number && index) || is_money_value v) ≡ true → is_in r v ≡ true → is_possible_region (same_kind kind kinds.Number && index) r ≡ true
possible_region kinds.Number true cuts r v at valued value money inside = and_from (has_value r) (has_money r) valued (has_money_from r v (ordered cuts r at) value money inside)
possible_region kinds.Number false cuts r v at valued value money inside = and_from (has_value r) true valued refl
possible_region kinds.Text index cuts r v at valued value money inside = and_from (has_value r) true valued refl
possible_region kinds.Flag index cuts r v at valued value money inside = and_from (has_value r) true valued refl
possible_region kinds.Day index cuts r v at valued value money inside = and_from (has_value r) true valued refl

-- a zone with the values
pub record Zoned (regions : List (List Region)) (values : List Value) : Type 0 where
  pub zone : List ℕ
  pub is_zone : IsZone regions zone
  pub lie : LieIn regions zone values

-- a value of a kind, and an amount of money if it is to be one
pub record Chosen (kind : Kind) (index : Bool) (r : Region) : Type 0 where
  pub value : Value
  pub fits : (is_value kind value && (not (same_kind kind kinds.Number && index) || is_money_value value)) ≡ true
  pub inside : is_in r value ≡ true

pub any_value : (kind : Kind) (index : Bool) → Chosen kind index Every
any_value kinds.Number true = let h = money_in Every refl refl in record { value = h.amount; fits = and_from (is_value kinds.Number h.amount) (is_money_value h.amount) h.value h.money; inside = refl }
any_value kinds.Number false = let h = holder kinds.Number [] Every (inl refl) refl in record { value = h.held; fits = and_from (is_value kinds.Number h.held) true h.value refl; inside = refl }
any_value kinds.Text index = let h = holder kinds.Text [] Every (inl refl) refl in record { value = h.held; fits = and_from (is_value kinds.Text h.held) true h.value refl; inside = refl }
any_value kinds.Flag index = record { value = Flag true; fits = refl; inside = refl }
any_value kinds.Day index = let h = holder kinds.Day [] Every (inl refl) refl in record { value = h.held; fits = and_from (is_value kinds.Day h.held) true h.value refl; inside = refl }

pub chosen : (kind : Kind) (index : Bool) (lits : List Value) (r : Region) → Among r (stretches kind (sort_values (filter (has_kind kind) lits))) → is_possible_region (same_kind kind kinds.Number && index) r ≡ true
    → Chosen kind index r
chosen kinds.Number true lits r at kept =
    let both = and_parts (has_value r) (has_money r) kept in
    let h = money_in r both.0 both.1 in
    record { value = h.amount; fits = and_from (is_value kinds.Number h.amount) (is_money_value h.amount) h.value h.money; inside = h.inside }
chosen kinds.Number false lits r at kept =
    let h = holder kinds.Number lits r at (and_parts (has_value r) true kept).0 in
    record { value = h.held; fits = and_from (is_value kinds.Number h.held) true h.value refl; inside = h.inside }
chosen kinds.Text index lits r at kept =
    let h = holder kinds.Text lits r at (and_parts (has_value r) true kept).0 in
    record { value = h.held; fits = and_from (is_value kinds.Text h.held) true h.value refl; inside = h.inside }
chosen kinds.Flag index lits r at kept =
    let h = holder kinds.Flag lits r at (and_parts (has_value r) true kept).0 in
    record { value = h.held; fits = and_from (is_value kinds.Flag h.held) true h.value refl; inside = h.inside }
chosen kinds.Day index lits r at kept =
    let h = holder kinds.Day lits r at (and_parts (has_value r) true kept).0 in
    record { value = h.held; fits = and_from (is_value kinds.Day h.held) true h.value refl; inside = h.inside }

-- a value of the region at an index
record Valued (p : PlanParts) (name : ℕ) (rs : List Region) (k : ℕ) : Type 0 where
  value : Value
  fits : Fits p name value
  inside : has_at rs k value ≡ true

-- values in a zone
pub record Held (p : PlanParts) (regions : List (List Region)) (a n : ℕ) (zone : List ℕ) : Type 0 where
  pub values : List Value
  pub possible : Possible p a n values
  pub lie : LieIn regions zone values

-- the value of a name, and its region in the zone
pub record Found (p : PlanParts) (choices : ℕ → List Region) (regions : List (List Region)) (zone : List ℕ) (values : List Value) (k name : ℕ) : Type 0 where
  pub region : Region
  pub value : Value
  pub there : region_at regions zone k ≡ Some region
  pub listed : Among region (choices name)
  pub at : slice_get values k ≡ Some value
  pub fits : Fits p name value
  pub inside : is_in region value ≡ true

module _ (p : PlanParts) (is_read : ℕ → Bool) (lits : ℕ → List Value) where
  -- the regions of a name
  abbrev choices_at : ℕ → List Region
  choices_at = regions_where p is_read lits

  -- the regions of a name that is read
  abbrev kept_regions : ℕ → List Region
  kept_regions name = filter (is_possible_region (is_amount p name)) (regions_by p lits name)

  -- the regions of these names
  abbrev regions_from : ℕ → ℕ → List (List Region)
  regions_from a n = map choices_at (range_with_len a n)

  -- each possible value of a name lies in a region of the name
  region_of : (name : ℕ) (v : Value) → Fits p name v → Indexed (choices_at name) v
  region_of name v fits = by_need (is_read name) where
    by_need : (b : Bool) → Indexed (cond b (kept_regions name) (Every ∷ [])) v
    by_need true =
        let kind = name_kind p name in
        let both = and_parts (is_value kind v) (not (is_amount p name) || is_money_value v) fits in
        let kinded = value_kind kind v both.0 in
        let found = counted_one (λ r. is_in r v) 0 (regions_by p lits name) (stretch_count kind (lits name) v kinded) in
        let has = (located kind (lits name) found.0 found.1 v kinded both.0 found.2).has in
        let kept = possible_region kind (is_amount_name p name) (sort_values (filter (has_kind kind) (lits name))) found.0 v found.1 has both.0 both.1 found.2 in
        indexed (kept_regions name) found.0 v (among_kept (is_possible_region (is_amount p name)) found.0 (regions_by p lits name) found.1 kept) found.2
    by_need false = record { index = 0; below = omega arith; inside = refl }

  pub covered : (a n : ℕ) (values : List Value) → Possible p a n values → Zoned (regions_from a n) values
  covered a zero [] possible = record { zone = []; is_zone = tt; lie = tt }
  covered a zero (v ∷ vs) possible = absurd possible
  covered a (suc n) [] possible = absurd possible
  covered a (suc n) (v ∷ vs) possible =
      let here = region_of a v possible.0 in
      let rest = covered (a + 1) n vs possible.1 in
      record { zone = here.index ∷ rest.zone; is_zone = (here.below, rest.is_zone); lie = (here.inside, rest.lie) }

  value_of : (name k : ℕ) → k < length (choices_at name) → Valued p name (choices_at name) k
  value_of name k below = by_need (is_read name) below where
    by_need : (b : Bool) → k < length (cond b (kept_regions name) (Every ∷ [])) → Valued p name (cond b (kept_regions name) (Every ∷ [])) k
    by_need true below =
        let all = regions_by p lits name in
        let kept = is_possible_region (is_amount p name) in
        let here = get_there (kept_regions name) k below in
        let at = among_got (kept_regions name) k here.0 here.1 in
        let made = chosen (name_kind p name) (is_amount_name p name) (lits name) here.0 (among_unfilter kept here.0 all at) (among_passes kept here.0 all at) in
        record { value = made.value; fits = made.fits; inside = ap (λ found. option_map_or (λ r. is_in r made.value) found false) here.1 ∙ made.inside }
    by_need false below =
        let made = any_value (name_kind p name) (is_amount_name p name) in
        let first : 0 ≡ k = omega (arith, below) in
        record { value = made.value; fits = made.fits; inside = subst (λ i. has_at (Every ∷ []) i made.value ≡ true) first refl }

  pub values_in : (a n : ℕ) (zone : List ℕ) → IsZone (regions_from a n) zone → Held p (regions_from a n) a n zone
  values_in a zero [] is_zone = record { values = []; possible = tt; lie = tt }
  values_in a zero (k ∷ ks) is_zone = absurd is_zone
  values_in a (suc n) [] is_zone = absurd is_zone
  values_in a (suc n) (k ∷ ks) is_zone =
      let here = value_of a k is_zone.0 in
      let rest = values_in (a + 1) n ks is_zone.1 in
      record { values = here.value ∷ rest.values; possible = (here.fits, rest.possible); lie = (here.inside, rest.lie) }

  pub found_at : (a n k : ℕ) (zone : List ℕ) (values : List Value) → k < n → LieIn (regions_from a n) zone values → Possible p a n values
      → Found p choices_at (regions_from a n) zone values k (a + k)
  found_at a zero k zone values below lie possible = absurd (omega (arith, below))
  found_at a (suc n) k [] [] below lie possible = absurd lie
  found_at a (suc n) k [] (v ∷ vs) below lie possible = absurd lie
  found_at a (suc n) k (z ∷ zs) [] below lie possible = absurd lie
  found_at a (suc n) zero (z ∷ zs) (v ∷ vs) below lie possible =
      let at = lies_at (choices_at a) z v lie.0 in
      let same : a ≡ a + 0 = omega arith in
      subst (λ name. Found p choices_at (regions_from a (suc n)) (z ∷ zs) (v ∷ vs) 0 name) same
      (record { region = at.region; value = v; there = at.at; listed = among_got (choices_at a) z at.region at.at; at = refl; fits = possible.0; inside = at.inside })
  found_at a (suc n) (suc k) (z ∷ zs) (v ∷ vs) below lie possible =
      let rest = found_at (a + 1) n k zs vs (omega (arith, below)) lie.1 possible.1 in
      let same : (a + 1) + k ≡ a + suc k = omega arith in
      subst (λ name. Found p choices_at (regions_from a (suc n)) (z ∷ zs) (v ∷ vs) (suc k) name) same
      (record { region = rest.region; value = rest.value; there = rest.there; listed = rest.listed; at = rest.at; fits = rest.fits; inside = rest.inside })

  -- a listed region of a name that is read is one of the name's regions
  pub of_name : (name : ℕ) (r : Region) → is_read name ≡ true → Among r (choices_at name) → Among r (regions_by p lits name)
  of_name name r needed at =
      among_unfilter (is_possible_region (is_amount p name)) r (regions_by p lits name) (subst (λ b. Among r (cond b (kept_regions name) (Every ∷ []))) needed at)
