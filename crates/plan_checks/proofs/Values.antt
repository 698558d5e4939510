-- The determination of possible values is that of the zone in which they lie.
use Rattle.std.proofs.Common.{◌≡◌, ℕ, zero, suc, ◌+◌, ◌||◌, Bool, true, not, List, [], ◌∷◌, length, map, Some, ap, sym, ◌∙◌, subst, arith}
use Rattle.std.specs.Prelude.{unwrap_or}
use Rattle.std.specs.List.{slice_get}
use Rattle.std.proofs.lemmas.Bool.{and_parts}
use Rattle.feel_tests.specs.declared.value.Value.{Value}
use Rattle.tables.specs.Environment.{answers_of}
use Rattle.tables.specs.Inputs.{needs, value_at}
use Rattle.tables.specs.Plan.{PlanParts, IsPlan}
use Rattle.tables.proofs.NeededNames.{within_names}
use Rattle.settlement.specs.Bindings.{slot_of}
use Rattle.regions.specs.declared.region.Region.TheVariants.{Every}
use Rattle.cutplan.specs.ClassWise.{Covers, LiesInClass, regions_by}
use Rattle.cutplan.specs.InputClasses.{name_kind}
use Rattle.regions.specs.Regions.{is_in}
use Rattle.regions.specs.Values.{is_value}
use Rattle.cutplan.proofs.Alike.{Among}
use Rattle.cutplan.proofs.ClassWise.{classes_are_valued}
use Rattle.cutplan.proofs.Overlapping.{contained_among}
use Rattle.plan_zones.specs.Amounts.{is_amount, is_money_value}
use Rattle.plan_zones.specs.Zones.{ArePossible, LieIn, all_regions, class_of, regions_where, value_in}
use Rattle.plan_checks.proofs.Regions.{Fits, found_at, of_name}

-- the slot of a value
pub slot_at : (values : List Value) (k : ℕ) (v : Value) → slice_get values k ≡ Some v → value_at (map slot_of values) k ≡ Some v
slot_at [] k v at = absurd cc
slot_at (x ∷ xs) zero v at = at
slot_at (x ∷ xs) (suc k) v at = slot_at xs k v at

module _ (p : PlanParts) (is_read : ℕ → Bool) (lits : ℕ → List Value) (covers : Covers p lits) (reads : (name : ℕ) → needs p.tables name ≡ true → is_read name ≡ true) where
  -- possible values in a zone lie in the zone as an input class
  pub in_class : IsPlan p → (zone : List ℕ) (values : List Value) → ArePossible p values → LieIn (all_regions p is_read lits) zone values → (name : ℕ) → needs p.tables name ≡ true
      → LiesInClass p lits (map slot_of values) (class_of (all_regions p is_read lits) zone) name
  in_class plan zone values possible lie name needed =
      let regions = all_regions p is_read lits in
      let here = found_at p is_read lits 0 (length p.names) name zone values (within_names p name plan needed) lie possible in
      let same : 0 + name ≡ name = omega arith in
      let is : class_of regions zone name ≡ here.region = ap (λ found. unwrap_or found Every) here.there in
      let listed = subst (λ k. Among here.region (regions_where p is_read lits k)) same here.listed in
      record {
        region = contained_among (regions_by p lits name) (class_of regions zone name) (subst (λ r. Among r (regions_by p lits name)) (sym is) (of_name p is_read lits name here.region (reads name needed) listed));
        value = here.value;
        is = slot_at values name here.value here.at;
        of_kind = (and_parts (is_value (name_kind p name) here.value) (not (is_amount p name) || is_money_value here.value) (subst (λ k. Fits p k here.value) same here.fits)).0;
        inside = ap (λ r. is_in r here.value) is ∙ here.inside;
      }

  -- at possible values in a zone the tables have the value of the zone
  pub zone_is_valued : IsPlan p → (zone : List ℕ) (values : List Value) → ArePossible p values → LieIn (all_regions p is_read lits) zone values
      → answers_of (map slot_of values) [] p.tables ≡ value_in p (all_regions p is_read lits) zone
  zone_is_valued plan zone values possible lie = classes_are_valued p lits (map slot_of values) (class_of (all_regions p is_read lits) zone) covers (in_class plan zone values possible lie)
