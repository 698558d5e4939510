-- The opening accumulators of an account stay in range with one more balance.
use Rattle.std.proofs.Common.{◌≡◌, ◌≤◌, ◌+ℤ◌, ℕ, ℤ, pos, Bool, true, false, unsigned_abs, subst, List, [], ◌∷◌, ◌++◌, Option, Some, None, if◌then◌else◌, refl, ap, ap₂, ◌∙◌, arith}
use Rattle.std.specs.List.{All}
use Rattle.std.specs.Option.{option_and_then, unwrap_or}
use Rattle.std.proofs.lemmas.Bool.{and_parts}
use Rattle.std.proofs.lemmas.Bool.Decides.{nat_tests}
use Rattle.std.proofs.lemmas.Int.{ints}
use Rattle.fixpoint.specs.Number.{greatest_units}
use Rattle.feel_tests.specs.declared.value.Value.{Value}
use Rattle.feel_tests.specs.declared.value.Value.TheVariants.{Number, Text, Flag, Day}
use Rattle.tables.specs.Plan.{has_families, has_years}
use Rattle.settlement.specs.Accounts.{Account, is_family_year, part}
use Rattle.settlement.specs.Accumulators.{AreInRange}
use Rattle.settlement.specs.Amount.{is_in_range}
use Rattle.settlement.specs.Bindings.{after_family}
use Rattle.settlement.specs.Opening.{joins, opening}
use Rattle.settlement.specs.declared.acc.Acc.{Acc}
use Rattle.settlement.specs.declared.account.Balance.{Balance}
use Rattle.intake_csv.specs.Records.{Fields}
use Rattle.intake_csv.specs.Rows.{HoldsUnder}
use Rattle.intake_csv.specs.FamilyYears.{Members, balance_in, begins, met_of, oop_of, refused_after}
use Rattle.intake_csv.specs.Balances.{Entry, Holder, IsEntry, balance_values, entry_values, family_in, holder_of, is_holder, year_values}
use Rattle.intake_csv.specs.declared.column.Column.{Column}
use Rattle.intake_csv.specs.declared.column.Layout.{Layout}
use Rattle.intake_csv.specs.declared.family_year.Refusal.TheVariants.{Met, Oop}
use Rattle.intake_csv.proofs.Lists.{All-from_zip}

-- the amounts of a balance are in range
pub record AmountsInRange (balance : Balance) : Type 0 where
  pub met : is_in_range balance.met ≡ true
  pub oop : is_in_range balance.oop ≡ true
  pub paid : is_in_range balance.paid ≡ true

-- the value is in range if it is a number
abbrev IsValueInRange : Value → Type 0
IsValueInRange (Number units) = is_in_range units ≡ true
IsValueInRange _ = Unit {0}

value-held : (fields : Fields) (column : Column) (value : Value) → HoldsUnder fields column value → IsValueInRange value
value-held fields column (Number units) h =
    let within : unsigned_abs units ≤ greatest_units = h.holds.spells.plain.1.in_range in
    grind (arith, nat_tests)
value-held fields column (Text text) h = tt
value-held fields column (Flag flag) h = tt
value-held fields column (Day day) h = tt

amounts-among : (families years : Bool) (account : Account) (balance : Balance)
    → All IsValueInRange (after_family (family_in families account) (Text account.member ∷ (year_values years account.year ++ balance_values balance))) → AmountsInRange balance
amounts-among false false account balance all = record { met = all 1 (Text []) (omega arith); oop = all 2 (Text []) (omega arith); paid = all 3 (Text []) (omega arith) }
amounts-among false true account balance all = record { met = all 2 (Text []) (omega arith); oop = all 3 (Text []) (omega arith); paid = all 4 (Text []) (omega arith) }
amounts-among true false account balance all = record { met = all 2 (Text []) (omega arith); oop = all 3 (Text []) (omega arith); paid = all 4 (Text []) (omega arith) }
amounts-among true true account balance all = record { met = all 3 (Text []) (omega arith); oop = all 4 (Text []) (omega arith); paid = all 5 (Text []) (omega arith) }

-- the amounts of an entry in a record are in range
pub entry-amounts : (version : ℕ) (layout : Layout) (fields : Fields) (entry : Entry) → IsEntry version layout fields entry → AmountsInRange entry.1
entry-amounts version layout fields entry read =
    amounts-among (has_families version) (has_years version) entry.0 entry.1
    (All-from_zip (HoldsUnder fields) IsValueInRange (λ column value held. value-held fields column value held) layout.columns (entry_values version entry) read.values.1)

-- the sums over the members and one more balance are in range
pub record SumsInRange (members : Members) (balance : Balance) : Type 0 where
  pub met : is_in_range (met_of members +ℤ balance.met) ≡ true
  pub oop : is_in_range (oop_of members +ℤ balance.oop) ≡ true

sums-free : (members : Members) (balance : Balance) (met oop : Bool) → is_in_range (met_of members +ℤ balance.met) ≡ met
    → is_in_range (oop_of members +ℤ balance.oop) ≡ oop → (if met then (if oop then None else Some Oop) else Some Met) ≡ None → SumsInRange members balance
sums-free members balance true true is_met is_oop e = record { met = is_met; oop = is_oop }
sums-free members balance true false is_met is_oop e = absurd (cc e)
sums-free members balance false oop is_met is_oop e = absurd (cc e)

free-following : (members : Members) (own : Option Balance) (balance : Balance) → refused_after members own balance ≡ None → SumsInRange members balance
free-following members (Some own) balance e = absurd (cc e)
free-following members None balance e =
    sums-free members balance (is_in_range (met_of members +ℤ balance.met)) (is_in_range (oop_of members +ℤ balance.oop)) refl refl e

nothing-before : (x : ℤ) → pos 0 +ℤ x ≡ x
nothing-before x = omega (arith, ints)

-- the sums are in range with a member that is not refused
pub free-sums : (found : Option Members) (member : List ℕ) (balance : Balance) → AmountsInRange balance
    → option_and_then (λ ms. refused_after ms (balance_in ms member) balance) found ≡ None → SumsInRange (unwrap_or found []) balance
free-sums None member balance amounts free =
    record { met = ap is_in_range (nothing-before balance.met) ∙ amounts.met; oop = ap is_in_range (nothing-before balance.oop) ∙ amounts.oop }
free-sums (Some members) member balance amounts free = free-following members (balance_in members member) balance free

-- the opening accumulators of the new account are in range
pub begun-range : (balance : Balance) (members : Members) → AmountsInRange balance → SumsInRange members balance → AreInRange (joins true true balance (begins members None))
begun-range balance members amounts sums = rw (amounts.met, amounts.oop, amounts.paid, sums.met) sums.oop

-- accounts of one family and year have the same sums
shared-sums : (entries : List Entry) (a b : Account) → holder_of a ≡ holder_of b
    → ((opening entries a).fmet ≡ (opening entries b).fmet) × ((opening entries a).foop ≡ (opening entries b).foop)
shared-sums [] a b same = (refl, refl)
shared-sums (e ∷ es) a b same =
    let (met, oop) = shared-sums es a b same in
    let house : is_family_year e.0 a ≡ is_family_year e.0 b = ap (λ (h : Holder). is_holder (holder_of e.0) h) same in (
      ap₂ (λ (sum : ℤ) (here : Bool). sum +ℤ part here e.1.met) met house,
      ap₂ (λ (sum : ℤ) (here : Bool). sum +ℤ part here e.1.oop) oop house,
    )

-- the opening accumulators of an account stay in range with the balance of another account of its
-- family and year, if those of that account are in range
pub family_year-range : (entries : List Entry) (a b : Account) (balance : Balance) (own : Bool) → holder_of a ≡ holder_of b → AreInRange (joins true true balance (opening entries a))
    → AreInRange (opening entries b) → AreInRange (joins own true balance (opening entries b))
family_year-range entries a b balance own same joined before =
    let (met, oop) = shared-sums entries a b same in
    let alike : joins true true balance (opening entries a) ≡ joins true true balance (opening entries b) =
    λ i. record { met = balance.met; oop = balance.oop; paid = balance.paid; fmet = met i +ℤ balance.met; foop = oop i +ℤ balance.oop } in
    joined-range own balance (opening entries b) (subst AreInRange alike joined) before
  where
    joined-range : (own : Bool) (balance : Balance) (acc : Acc) → AreInRange (joins true true balance acc) → AreInRange acc → AreInRange (joins own true balance acc)
    joined-range true balance acc joined before = joined
    joined-range false balance acc joined before =
        let foop = and_parts _ (is_in_range (acc.foop +ℤ balance.oop)) joined in
        let fmet = and_parts _ (is_in_range (acc.fmet +ℤ balance.met)) foop.0 in
        let own = and_parts _ (is_in_range acc.fmet) (and_parts _ (is_in_range acc.foop) before).0 in
        rw (own.0, fmet.1) foop.1
