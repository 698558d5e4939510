-- The regions of a joint name: each possible value of the name lies in one, and each contains a
-- possible value.
use Rattle.std.proofs.Common.{◌≡◌, ℕ, zero, suc, ◌<◌, ◌&&◌, ◌||◌, Bool, true, false, not, cond, List, [], ◌∷◌, length, filter, Some, refl, ap, sym, ◌∙◌, subst, arith}
use Rattle.std.specs.List.{flat_map, slice_get}
use Rattle.std.specs.Option.{option_map_or}
use Rattle.std.specs.Str.{bytes_eq}
use Rattle.std.proofs.lemmas.Bool.{and_from, and_parts, both_ways}
use Rattle.std.proofs.lemmas.Option.{none-some, same_Some}
use Rattle.feel_tests.specs.Holds.{holds}
use Rattle.feel_tests.specs.declared.cell.Cell.{Cell}
use Rattle.feel_tests.specs.declared.kind.Kind.{Kind}
use Rattle.feel_tests.specs.declared.kind.Kind.TheVariants as kinds
use Rattle.feel_tests.specs.declared.value.Value.{Value}
use Rattle.tables.specs.Plan.{has_kind, same_kind}
use Rattle.regions.specs.declared.region.Region.{Region}
use Rattle.regions.specs.declared.region.Region.TheVariants.{Every}
use Rattle.cutplan.specs.InputClasses.{name_literals}
use Rattle.cutplan.specs.Matching.{has_at}
use Rattle.regions.specs.Regions.{holds_in, is_in, literals}
use Rattle.regions.specs.Values.{is_value, sort_values}
use Rattle.cutplan.proofs.Alike.{Among, among_left, among_right}
use Rattle.cutplan.proofs.ByMasks.{lies_at}
use Rattle.cutplan.proofs.ColumnWise.{among_unfilter, value_kind}
use Rattle.cutplan.proofs.Holding.{among_passes}
use Rattle.cutplan.proofs.MaskRules.{among_got}
use Rattle.cutplan.proofs.OpenRegions.{located}
use Rattle.cutplan.proofs.Overlapping.{among_kept}
use Rattle.cutplan.proofs.Parting.{stretch_count}
use Rattle.plan_zones.specs.declared.joint.JointName.{JointName}
use Rattle.plan_zones.specs.declared.joint_regions.Narrowing.{Narrowing}
use Rattle.plan_zones.specs.Amounts.{is_amount_name, is_money_value, is_possible_region}
use Rattle.plan_zones.specs.Joint.{AreJointPossible, TwoPlans, is_joint_possible, is_joint_read, is_joint_region, is_narrowed, is_needed, joint_kind, joint_literals, joint_regions, meets, meets_in, name_text, narrowing_literals, regions_of, regions_of_kind}
use Rattle.plan_zones.specs.Zones.{IsZone, LieIn, region_at}
use Rattle.plan_zones.proofs.Lists.{get_there}
use Rattle.plan_checks.proofs.Regions.{Indexed, Zoned, any_value, chosen, counted_one, indexed, possible_region}

-- a name is narrowed in no region and at no value if no cell narrows it
free_meets : (ws : List Narrowing) (text : List ℕ) (v : Value) → is_narrowed ws text ≡ false → meets ws text v ≡ true
free_meets [] text v none = refl
free_meets (w ∷ ws) text v none =
    elim (bytes_eq w.name.now text) as (λ b. (b || is_narrowed ws text) ≡ false → ((not b || holds w.cell v) && meets ws text v) ≡ true) [
      | true ↦ λ e. absurd (both_ways false refl (sym e))
      | false ↦ λ e. free_meets ws text v e
    ] none

-- the cells that narrow a name hold in a region as for a value in it, if each of them does
meets_alike : (ws : List Narrowing) (text : List ℕ) (r : Region) (v : Value) (lits : List Value)
    → ((cell : Cell) → ((l : Value) → Among l (literals cell) → Among l lits) → holds_in cell r ≡ holds cell v)
    → ((l : Value) → Among l (flat_map (narrowing_literals text) ws) → Among l lits) → meets_in ws text r ≡ meets ws text v
meets_alike [] text r v lits asked within = refl
meets_alike (w ∷ ws) text r v lits asked within =
    let more = meets_alike ws text r v lits asked (λ l at. within l (among_right l (narrowing_literals text w) (flat_map (narrowing_literals text) ws) at)) in
    ap (λ b. b && meets_in ws text r) (here (bytes_eq w.name.now text) (λ l at. within l (among_left l (narrowing_literals text w) (flat_map (narrowing_literals text) ws) at)))
    ∙ ap (λ b. (not (bytes_eq w.name.now text) || holds w.cell v) && b) more where
      here : (b : Bool) → ((l : Value) → Among l (cond b (literals w.cell) []) → Among l lits) → (not b || holds_in w.cell r) ≡ (not b || holds w.cell v)
      here true own = asked w.cell own
      here false own = refl

none_other : (one other : Bool) → (one || other) ≡ false → other ≡ false
none_other true other e = absurd (both_ways false refl (sym e))
none_other false other e = e

-- a value of the region of a name at an index
pub record JointValued (plans : TwoPlans) (n : JointName) (k : ℕ) : Type 0 where
  pub value : Value
  pub fits : is_joint_possible plans n value ≡ true
  pub inside : has_at (regions_of plans n) k value ≡ true

module _ (plans : TwoPlans) (n : JointName) where
  abbrev kind : Kind
  kind = joint_kind plans.old plans.new n

  -- a plan has the name among its amounts
  abbrev index : Bool
  index = option_map_or (is_amount_name plans.old) n.old false || option_map_or (is_amount_name plans.new) n.new false

  abbrev lits : List Value
  lits = joint_literals plans n

  abbrev text : List ℕ
  text = name_text plans n

  abbrev all : List Region
  all = regions_of_kind kind lits

  abbrev money : Value → Bool
  money v = not (same_kind kind kinds.Number && index) || is_money_value v

  -- the cells hold in a region as for its values
  alike_in : (r : Region) (v : Value) → Among r all → is_value kind v ≡ true → is_in r v ≡ true → meets_in plans.narrowed text r ≡ meets plans.narrowed text v
  alike_in r v at value inside =
      let asked = (located kind lits r at v (value_kind kind v value) value inside).asked in
      meets_alike plans.narrowed text r v lits asked
      (λ l l_at. among_right l (option_map_or (name_literals plans.old.tables) n.old []) _
      (among_right l (option_map_or (name_literals plans.new.tables) n.new []) (flat_map (narrowing_literals text) plans.narrowed) l_at))

  pub joint_region_of : (v : Value) → is_joint_possible plans n v ≡ true → Indexed (regions_of plans n) v
  joint_region_of v fits = by_need (is_joint_read plans n) where
    by_need : (b : Bool) → Indexed (cond b (filter (is_joint_region plans n) all) (Every ∷ [])) v
    by_need true =
        let both = and_parts (is_value kind v && money v) (meets plans.narrowed text v) fits in
        let own = and_parts (is_value kind v) (money v) both.0 in
        let kinded = value_kind kind v own.0 in
        let found = counted_one (λ r. is_in r v) 0 all (stretch_count kind lits v kinded) in
        let has = (located kind lits found.0 found.1 v kinded own.0 found.2).has in
        let kept = possible_region kind index (sort_values (filter (has_kind kind) lits)) found.0 v found.1 has own.0 own.1 found.2 in
        let met = alike_in found.0 v found.1 own.0 found.2 ∙ both.1 in
        let passes = and_from (is_possible_region (same_kind kind kinds.Number && index) found.0) (meets_in plans.narrowed text found.0) kept met in
        indexed (filter (is_joint_region plans n) all) found.0 v (among_kept (is_joint_region plans n) found.0 all found.1 passes) found.2
    by_need false = record { index = 0; below = omega arith; inside = refl }

  pub joint_value_of : (k : ℕ) → k < length (regions_of plans n) → JointValued plans n k
  joint_value_of k below =
      let made = by_need (is_joint_read plans n) refl below in
      record { value = made.0; fits = made.1; inside = made.2 } where
        by_need : (b : Bool) → is_joint_read plans n ≡ b → k < length (cond b (filter (is_joint_region plans n) all) (Every ∷ []))
            → (v : Value) × (is_joint_possible plans n v ≡ true) × (has_at (cond b (filter (is_joint_region plans n) all) (Every ∷ [])) k v ≡ true)
        by_need true read below =
            let here = get_there (filter (is_joint_region plans n) all) k below in
            let at = among_got (filter (is_joint_region plans n) all) k here.0 here.1 in
            let own = among_unfilter (is_joint_region plans n) here.0 all at in
            let passes = and_parts (is_possible_region (same_kind kind kinds.Number && index) here.0) (meets_in plans.narrowed text here.0) (among_passes (is_joint_region plans n) here.0 all at) in
            let made = chosen kind index lits here.0 own passes.0 in
            let valued = (and_parts (is_value kind made.value) (money made.value) made.fits).0 in
            let met = sym (alike_in here.0 made.value own valued made.inside) ∙ passes.1 in (
              made.value,
              and_from (is_value kind made.value && money made.value) (meets plans.narrowed text made.value) made.fits met,
              ap (λ found. option_map_or (λ r. is_in r made.value) found false) here.1 ∙ made.inside,
            )
        by_need false read below =
            let made = any_value kind index in
            let met = free_meets plans.narrowed text made.value (none_other (is_needed plans.old plans.new n) (is_narrowed plans.narrowed text) read) in
            let first : 0 ≡ k = omega (arith, below) in (
              made.value,
              and_from (is_value kind made.value && money made.value) (meets plans.narrowed text made.value) made.fits met,
              subst (λ i. has_at (Every ∷ []) i made.value ≡ true) first refl,
            )

  -- a listed region of a name that is read is one of those of its literals
  pub of_joint_name : (r : Region) → is_joint_read plans n ≡ true → Among r (regions_of plans n) → Among r (regions_of_kind (joint_kind plans.old plans.new n) (joint_literals plans n))
  of_joint_name r read at =
      among_unfilter (is_joint_region plans n) r all (subst (λ b. Among r (cond b (filter (is_joint_region plans n) all) (Every ∷ []))) read at)

-- values in a zone
pub record JointHeld (plans : TwoPlans) (names : List JointName) (zone : List ℕ) : Type 0 where
  pub values : List Value
  pub possible : AreJointPossible plans names values
  pub lie : LieIn (joint_regions plans names) zone values

-- the value of a name, and its region in the zone
pub record JointFound (plans : TwoPlans) (names : List JointName) (zone : List ℕ) (values : List Value) (k : ℕ) (n : JointName) : Type 0 where
  pub region : Region
  pub value : Value
  pub there : region_at (joint_regions plans names) zone k ≡ Some region
  pub listed : Among region (regions_of plans n)
  pub at : slice_get values k ≡ Some value
  pub fits : is_joint_possible plans n value ≡ true
  pub inside : is_in region value ≡ true

module _ (plans : TwoPlans) where
  pub joint_covered : (names : List JointName) (values : List Value) → AreJointPossible plans names values → Zoned (joint_regions plans names) values
  joint_covered [] [] possible = record { zone = []; is_zone = tt; lie = tt }
  joint_covered [] (v ∷ vs) possible = absurd possible
  joint_covered (n ∷ ns) [] possible = absurd possible
  joint_covered (n ∷ ns) (v ∷ vs) possible =
      let here = joint_region_of plans n v possible.0 in
      let rest = joint_covered ns vs possible.1 in
      record { zone = here.index ∷ rest.zone; is_zone = (here.below, rest.is_zone); lie = (here.inside, rest.lie) }

  pub joint_values_in : (names : List JointName) (zone : List ℕ) → IsZone (joint_regions plans names) zone → JointHeld plans names zone
  joint_values_in [] [] is_zone = record { values = []; possible = tt; lie = tt }
  joint_values_in [] (k ∷ ks) is_zone = absurd is_zone
  joint_values_in (n ∷ ns) [] is_zone = absurd is_zone
  joint_values_in (n ∷ ns) (k ∷ ks) is_zone =
      let here = joint_value_of plans n k is_zone.0 in
      let rest = joint_values_in ns ks is_zone.1 in
      record { values = here.value ∷ rest.values; possible = (here.fits, rest.possible); lie = (here.inside, rest.lie) }

  pub joint_found_at : (names : List JointName) (k : ℕ) (n : JointName) (zone : List ℕ) (values : List Value) → slice_get names k ≡ Some n
      → LieIn (joint_regions plans names) zone values → AreJointPossible plans names values → JointFound plans names zone values k n
  joint_found_at [] k n zone values there lie possible = absurd (none-some n there)
  joint_found_at (m ∷ ms) k n [] [] there lie possible = absurd lie
  joint_found_at (m ∷ ms) k n [] (v ∷ vs) there lie possible = absurd lie
  joint_found_at (m ∷ ms) k n (z ∷ zs) [] there lie possible = absurd lie
  joint_found_at (m ∷ ms) zero n (z ∷ zs) (v ∷ vs) there lie possible =
      let at = lies_at (regions_of plans m) z v lie.0 in
      subst (λ name. JointFound plans (m ∷ ms) (z ∷ zs) (v ∷ vs) 0 name) (same_Some m n there)
      (record { region = at.region; value = v; there = at.at; listed = among_got (regions_of plans m) z at.region at.at; at = refl; fits = possible.0; inside = at.inside })
  joint_found_at (m ∷ ms) (suc k) n (z ∷ zs) (v ∷ vs) there lie possible =
      let rest = joint_found_at ms k n zs vs there lie.1 possible.1 in
      record { region = rest.region; value = rest.value; there = rest.there; listed = rest.listed; at = rest.at; fits = rest.fits; inside = rest.inside }
