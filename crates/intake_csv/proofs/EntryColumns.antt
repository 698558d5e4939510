-- The columns of an entry of balances, by their places among the required ones.
use Rattle.std.proofs.Common.{◌≡◌, ◌<◌, ◌≤◌, ◌+◌, ℕ, suc, zero, Bool, true, false, List, [], ◌∷◌, ◌++◌, length, map, get_or, Bor, Option, Some, None, refl, sym, ap, ◌∙◌, subst, arith}
use Rattle.std.specs.Prelude.{IfNone, IfSome}
use Rattle.std.specs.Int.{IsInRange}
use Rattle.std.specs.List.{Any}
use Rattle.std.proofs.lemmas.Bool.{false≢true}
use Rattle.std.proofs.lemmas.List.{get_or-map, length-map}
use Rattle.std.proofs.lemmas.Option.{get_or_from_slice_get}
use Rattle.faults.specs.BuiltInNames.{member_name, met_name, oop_name, paid_name}
use Rattle.feel_tests.specs.Calendar.{year_text}
use Rattle.feel_tests.specs.declared.value.Value.{Value}
use Rattle.feel_tests.specs.declared.value.Value.TheVariants.{Text}
use Rattle.tables.specs.Plan.{has_families, has_years}
use Rattle.settlement.specs.Accounts.{Account}
use Rattle.settlement.specs.Bindings.{after_family}
use Rattle.settlement.specs.declared.account.Balance.{Balance}
use Rattle.intake_csv.specs.Balances.{AreBalanceColumns, Entry, HoldsAt, HoldsBalance, HoldsFamily, HoldsYear, IsKept, IsKeptUnder, balance_values, entry_values, family_in, year_values}
use Rattle.intake_csv.specs.Columns.{balance_columns, family_columns, member_place, met_place, required_column, year_columns}
use Rattle.intake_csv.specs.Records.{Fields}
use Rattle.intake_csv.specs.Rows.{AreValues, HoldsUnder}
use Rattle.intake_csv.specs.declared.column.Column.{Column}
use Rattle.intake_csv.specs.declared.column.Content.{Content}
use Rattle.intake_csv.specs.declared.column.Content.TheVariants.{Identifier, Money, Year}
use Rattle.intake_csv.specs.declared.column.RequiredColumn.{RequiredColumn}
use Rattle.intake_csv.specs.Validated.{IsReadUnder, IsRefusedUnder}
use Rattle.intake_csv.proofs.Lists.{any-at}

-- the required columns of amounts, of a year and amounts, and of an entry
abbrev amount_columns : List RequiredColumn
amount_columns = required_column met_name Money ∷ required_column oop_name Money ∷ required_column paid_name Money ∷ []

abbrev columns_by : Bool → Bool → List RequiredColumn
columns_by families years = family_columns families ++ required_column member_name Identifier ∷ (year_columns years ++ amount_columns)

abbrev contents_in : List RequiredColumn → List Content
contents_in needed = map (λ n. n.content) needed

count-by : (families years : Bool) → length (columns_by families years) ≡ length (family_columns families) + length (year_columns years) + 4
count-by false false = refl
count-by false true = refl
count-by true false = refl
count-by true true = refl

module _ (version : ℕ) (columns : List Column) (is : AreBalanceColumns version columns) where
  pub columns-count : length columns ≡ length (family_columns (has_families version)) + length (year_columns (has_years version)) + 4
  columns-count =
      sym (length-map columns (λ c. c.content)) ∙ ap length is ∙ length-map (balance_columns version) (λ n. n.content) ∙ count-by (has_families version) (has_years version)

  -- the columns of the amounts are there
  pub amount-within : (k place : ℕ) → k ≤ 2 → place ≡ met_place version + k → place < length columns
  amount-within k place small at = omega (arith, small, at, columns-count)

  pub member-within : member_place version < length columns
  member-within = omega (arith, columns-count)

  pub following-within : member_place version + 1 < length columns
  following-within = omega (arith, columns-count)

  pub first-within : 0 < length columns
  first-within = omega (arith, columns-count)

  content-at : (place : ℕ) (d : Column) → place < length columns → (get_or columns place d).content ≡ get_or (contents_in (balance_columns version)) place d.content
  content-at place d within = sym (get_or-map (λ c. c.content) columns place d d.content within) ∙ ap (λ cs. get_or cs place d.content) is

  pub member-content : (d : Column) → (get_or columns (member_place version) d).content ≡ Identifier
  member-content d = content-at (member_place version) d member-within ∙ there (has_families version) (has_years version)
    where
      there : (families years : Bool) → get_or (contents_in (columns_by families years)) (length (family_columns families)) d.content ≡ Identifier
      there false years = refl
      there true years = refl

  pub first-content : (d : Column) → (get_or columns 0 d).content ≡ Identifier
  first-content d = content-at 0 d first-within ∙ there (has_families version) (has_years version)
    where
      there : (families years : Bool) → get_or (contents_in (columns_by families years)) 0 d.content ≡ Identifier
      there false years = refl
      there true years = refl

  pub year-content : (d : Column) → has_years version ≡ true → (get_or columns (member_place version + 1) d).content ≡ Year
  year-content d years = content-at (member_place version + 1) d following-within ∙ there (has_families version) (has_years version) years
    where
      there : (families years : Bool) → years ≡ true → get_or (contents_in (columns_by families years)) (length (family_columns families) + 1) d.content ≡ Year
      there false true e = refl
      there true true e = refl
      there false false e = absurd (false≢true e)
      there true false e = absurd (false≢true e)

  pub amount-content : (k place : ℕ) (d : Column) → k ≤ 2 → place ≡ met_place version + k → (get_or columns place d).content ≡ Money
  amount-content k place d small at =
      content-at place d (amount-within k place small at) ∙ ap (λ n. get_or (contents_in (balance_columns version)) n d.content) at
      ∙ there k (has_families version) (has_years version) small
    where
      there : (n : ℕ) (families years : Bool) → n ≤ 2
          → get_or (contents_in (columns_by families years)) (((length (family_columns families) + 1) + length (year_columns years)) + n) d.content ≡ Money
      there zero false false e = refl
      there zero false true e = refl
      there zero true false e = refl
      there zero true true e = refl
      there (suc zero) false false e = refl
      there (suc zero) false true e = refl
      there (suc zero) true false e = refl
      there (suc zero) true true e = refl
      there (suc (suc zero)) false false e = refl
      there (suc (suc zero)) false true e = refl
      there (suc (suc zero)) true false e = refl
      there (suc (suc zero)) true true e = refl
      there (suc (suc (suc n))) families years e = absurd (omega (arith, e))

-- a value of the column at a place
pub held-at : (fields : Fields) (columns : List Column) (place : ℕ) (d : Column) (v : Value) → HoldsUnder fields (get_or columns place d) v → HoldsAt fields columns place v
held-at fields columns place d v h column located = subst (λ c. HoldsUnder fields c v) (get_or_from_slice_get columns place column d located) h

-- if nothing is read in the column at a place, a column is refused
pub none-read : {A : Type 0} (value : A → Value) (fields : Fields) (columns : List Column) (place : ℕ) (d : Column) (read : Option A) → place < length columns
    → IsReadUnder value fields (get_or columns place d) read → IfNone read (Any (IsRefusedUnder fields) columns)
none-read value fields columns place d None within h = any-at (IsRefusedUnder fields) place columns d within h
none-read value fields columns place d (Some x) within h = tt

-- the year that is read in its column
pub year-read : (years : Bool) (fields : Fields) (columns : List Column) (at place : ℕ) (d : Column) (read : Option ℕ) → years ≡ true → at ≡ place
    → IsReadUnder (λ year. Text (year_text year)) fields (get_or columns at d) read → IfSome read (IsInRange 1 9999) → IfSome read (HoldsYear years fields columns place)
year-read true fields columns at place d None e is h within = tt
year-read true fields columns at place d (Some year) e is h within = (subst (λ n. HoldsAt fields columns n (Text (year_text year))) is (held-at fields columns at d (Text (year_text year)) h), within)
year-read false fields columns at place d read e is h within = absurd (false≢true e)

-- the family that is read in its column
pub family-read : (families : Bool) (fields : Fields) (columns : List Column) (d : Column) (member : List ℕ) (read : Option (Bor (List ℕ))) → families ≡ true
    → IsReadUnder (λ text. Text text.now) fields (get_or columns 0 d) read → IfSome read (λ family. HoldsFamily families fields columns member family.now)
family-read true fields columns d member None e h = tt
family-read true fields columns d member (Some family) e h = held-at fields columns 0 d (Text family.now) h
family-read false fields columns d member read e h = absurd (false≢true e)

module _ (fields : Fields) where
  amounts-held : (columns : List Column) (balance : Balance) → map (λ c. c.content) columns ≡ Money ∷ Money ∷ Money ∷ [] → HoldsBalance fields columns 0 balance
      → AreValues fields columns (balance_values balance)
  amounts-held [] balance e h = absurd (cc e)
  amounts-held (a ∷ []) balance e h = absurd (cc e)
  amounts-held (a ∷ b ∷ []) balance e h = absurd (cc e)
  amounts-held (a ∷ b ∷ c ∷ d ∷ ds) balance e h = absurd (cc e)
  amounts-held (a ∷ b ∷ c ∷ []) balance e h = (h.0 a refl, (h.1 b refl, (h.2 c refl, tt)))

  -- the values from the member onwards
  following-held : (years : Bool) (columns : List Column) (member : List ℕ) (year : ℕ) (balance : Balance)
      → map (λ c. c.content) columns ≡ contents_in (required_column member_name Identifier ∷ (year_columns years ++ amount_columns)) → HoldsAt fields columns 0 (Text member)
      → HoldsYear years fields columns 1 year → HoldsBalance fields columns (1 + length (year_columns years)) balance
      → AreValues fields columns (Text member ∷ (year_values years year ++ balance_values balance))
  following-held years [] member year balance e m y h = absurd (cc e)
  following-held false (a ∷ columns) member year balance e m y h =
      let others : map (λ c. c.content) columns ≡ Money ∷ Money ∷ Money ∷ [] = cc e in
      (m a refl, amounts-held columns balance others h)
  following-held true (a ∷ []) member year balance e m y h = absurd (cc e)
  following-held true (a ∷ b ∷ columns) member year balance e m y h =
      let others : map (λ c. c.content) columns ≡ Money ∷ Money ∷ Money ∷ [] = cc e in
      (m a refl, (y.0 b refl, amounts-held columns balance others h))

  held-by : (families years : Bool) (columns : List Column) (account : Account) (balance : Balance) → map (λ c. c.content) columns ≡ contents_in (columns_by families years)
      → HoldsFamily families fields columns account.member account.family → HoldsAt fields columns (length (family_columns families)) (Text account.member)
      → HoldsYear years fields columns (length (family_columns families) + 1) account.year
      → HoldsBalance fields columns ((length (family_columns families) + 1) + length (year_columns years)) balance
      → AreValues fields columns (after_family (family_in families account) (Text account.member ∷ (year_values years account.year ++ balance_values balance)))
  held-by false years columns account balance e f m y h = following-held years columns account.member account.year balance e m y h
  held-by true years [] account balance e f m y h = absurd (cc e)
  held-by true false (a ∷ columns) account balance e f m y h =
      let others : map (λ c. c.content) columns ≡ contents_in (required_column member_name Identifier ∷ amount_columns) = cc e in
      (f a refl, following-held false columns account.member account.year balance others m y h)
  held-by true true (a ∷ columns) account balance e f m y h =
      let others : map (λ c. c.content) columns ≡ contents_in (required_column member_name Identifier ∷ (year_columns true ++ amount_columns)) = cc e in
      (f a refl, following-held true columns account.member account.year balance others m y h)

  -- the values of an entry's columns
  pub entry-held : (version : ℕ) (columns : List Column) (entry : Entry) → AreBalanceColumns version columns
      → HoldsFamily (has_families version) fields columns entry.0.member entry.0.family → HoldsAt fields columns (member_place version) (Text entry.0.member)
      → HoldsYear (has_years version) fields columns (member_place version + 1) entry.0.year → HoldsBalance fields columns (met_place version) entry.1
      → AreValues fields columns (entry_values version entry)
  entry-held version columns entry is family member year balance =
      held-by (has_families version) (has_years version) columns entry.0 entry.1 is family member year balance

  year-kept : (years : Bool) (columns : List Column) (place year : ℕ) → HoldsYear years fields columns place year → IsKept years year
  year-kept false columns place year h = h
  year-kept true columns place year h = h.1

  family-alone : (families : Bool) (columns : List Column) (member family : List ℕ) → HoldsFamily families fields columns member family → families ≡ false → family ≡ member
  family-alone false columns member family h e = h
  family-alone true columns member family h e = absurd (false≢true (sym e))

  -- the account of an entry's columns is valid
  pub entry-kept : (version : ℕ) (columns : List Column) (account : Account) → HoldsFamily (has_families version) fields columns account.member account.family
      → HoldsYear (has_years version) fields columns (member_place version + 1) account.year → IsKeptUnder version account
  entry-kept version columns account family year =
      record {
        year = year-kept (has_years version) columns (member_place version + 1) account.year year;
        alone = family-alone (has_families version) columns account.member account.family family;
      }
