-- The text of closing balances is read back as these balances.
use Rattle.std.proofs.Common.{◌≡◌, ◌+◌, ℕ, ℤ, suc, Bool, true, false, List, [], ◌∷◌, ◌++◌, map, length, Some, None, refl, sym, ap, ◌∙◌, subst, append_assoc, length-append, arith}
use Rattle.std.specs.List.{AllByRecursion, AllZip}
use Rattle.std.proofs.lemmas.Option.{none-some, same_Some}
use Rattle.csv.specs.Machine.{Read, next_record}
use Rattle.csv.specs.Reading.{Reached, default_config, strip_bom}
use Rattle.csv.specs.Records.{field_at}
use Rattle.csv.specs.Writing.{default_writer, escaped, fields_text, is_blank, read_back, row_text}
use Rattle.csv.specs.declared.parser.State.TheVariants.{StartRecord}
use Rattle.csv.proofs.RoundTrip.{read-write}
use Rattle.fixpoint.specs.Money.{MoneyTextDenotes, money_text}
use Rattle.fixpoint.specs.NumberText.{DenotesAtMostOne}
use Rattle.feel_tests.specs.Calendar.{year_text}
use Rattle.feel_tests.specs.declared.value.Value.{Value}
use Rattle.feel_tests.specs.declared.value.Value.TheVariants.{Number, Text}
use Rattle.tables.specs.Plan.{has_families, has_years}
use Rattle.settlement.specs.Accounts.{Account}
use Rattle.settlement.specs.Amount.{IsAmount}
use Rattle.settlement.specs.Bindings.{after_family}
use Rattle.settlement.specs.Opening.{opening}
use Rattle.settlement.specs.declared.account.Balance.{Balance}
use Rattle.faults.specs.BuiltInNames.{member_name, met_name, oop_name, paid_name}
use Rattle.intake_csv.specs.Balances.{AreBalances, Book, Entry, IsEntry, IsKept, accounts_of, balance_values, entry_values, family_in, year_values}
use Rattle.intake_csv.specs.Columns.{AreColumnsOf, IsColumnOf, balance_columns, family_columns, required_column, times, year_columns}
use Rattle.intake_csv.specs.Fields.{Holds}
use Rattle.intake_csv.specs.Records.{AreRecordsOf}
use Rattle.intake_csv.specs.Rows.{HoldsUnder}
use Rattle.intake_csv.specs.declared.column.Column.{Column}
use Rattle.intake_csv.specs.declared.column.Content.TheVariants.{Identifier, Money}
use Rattle.intake_csv.specs.declared.column.Layout.{Layout}
use Rattle.intake_csv.specs.declared.column.RequiredColumn.{RequiredColumn}
use Rattle.intake_csv.proofs.OneFile.{headered_file-one}
use Rattle.journal.specs.Events.{accepted_count, before}
use Rattle.journal.specs.declared.event.Event.{Event}
use Rattle.claim_gate.specs.Terms.{ForTerms, TermsParts}
use Rattle.remit_records.specs.Records.{family_fields, year_fields}
use Rattle.orders.proofs.Openings.{year-one}
use Rattle.run_lists.specs.ClosingText.{AreWritable, IsClosingText, closing_text, entry_fields, records_text}

-- a record with a field is read as it was written
abbrev IsFilled : List (List ℕ) → Type 0
IsFilled row = read_back row ≡ row

-- the records of a text are those that were written
reached : (rows : List (List (List ℕ))) → AllByRecursion IsFilled rows → Reached default_config StartRecord (records_text rows) rows StartRecord []
unfolding Reached
reached [] filled = (refl, refl)
reached (row ∷ rows) filled =
    let one : Read = (row, StartRecord, records_text rows) in
    (one, read-write row (records_text rows) ∙ ap (λ r. Some (r, StartRecord, records_text rows)) filled.0, refl, reached rows filled.1)

nothing-left : next_record default_config StartRecord [] [] [] ≡ None
unfolding next_record
nothing-left = refl

-- the columns of a file of balances, with or without families and years
columns_by : Bool → Bool → List RequiredColumn
columns_by families years =
    family_columns families ++ required_column member_name Identifier
    ∷ (year_columns years ++ required_column met_name Money ∷ required_column oop_name Money ∷ required_column paid_name Money ∷ [])

names_by : Bool → Bool → List (List ℕ)
names_by families years = map (λ c. c.name) (columns_by families years)

-- the text begins with no byte order mark
no-mark : (families years : Bool) (rest : List ℕ) → strip_bom (row_text default_writer (names_by families years) ++ rest) ≡ row_text default_writer (names_by families years) ++ rest
unfolding strip_bom fields_text escaped is_blank names_by columns_by
no-mark true true rest = refl
no-mark true false rest = refl
no-mark false true rest = refl
no-mark false false rest = refl

filled-names : (families years : Bool) → IsFilled (names_by families years)
unfolding names_by columns_by
filled-names true years = refl
filled-names false years = refl

-- the fields of an entry, with or without families and years
fields_by : Bool → Bool → Entry → List (List ℕ)
fields_by families years entry =
    (family_fields families entry.0.family ++ entry.0.member ∷ year_fields years (year_text entry.0.year))
    ++ money_text entry.1.met ∷ money_text entry.1.oop ∷ money_text entry.1.paid ∷ []

filled-entry : (families years : Bool) (entry : Entry) → IsFilled (fields_by families years entry)
unfolding fields_by
filled-entry true years entry = refl
filled-entry false years entry = refl

filled-entries : (families years : Bool) (entries : List Entry) → AllByRecursion IsFilled (map (fields_by families years) entries)
filled-entries families years [] = tt
filled-entries families years (e ∷ es) = (filled-entry families years e, filled-entries families years es)

-- the records of the text are the header and the entries
are-records : (families years : Bool) (entries : List Entry)
    → AreRecordsOf (records_text (names_by families years ∷ map (fields_by families years) entries)) (names_by families years ∷ map (fields_by families years) entries)
are-records families years entries =
    let rows = names_by families years ∷ map (fields_by families years) entries in
    let rest = records_text (map (fields_by families years) entries) in (
      StartRecord,
      [],
      subst (λ text. Reached default_config StartRecord text rows StartRecord []) (sym (no-mark families years rest))
          (reached rows (filled-names families years, filled-entries families years entries)),
      nothing-left,
    )

-- the columns are in their order, from this place on
numbered : ℕ → List RequiredColumn → List Column
numbered place [] = []
numbered place (n ∷ needed) = record { place = place; content = n.content } ∷ numbered (suc place) needed

there : (header : List (List ℕ)) (n : RequiredColumn) (place : ℕ) → times n.name header ≡ 1 → field_at header place ≡ Some n.name → IsColumnOf header n (record { place = place; content = n.content })
there header n place once located = record { once = once; located = located; content = refl }

are-columns : (families years : Bool) → AreColumnsOf (names_by families years) (columns_by families years) (numbered 0 (columns_by families years))
unfolding names_by columns_by numbered field_at
are-columns true true =
    (there _ _ _ refl refl, (there _ _ _ refl refl, (there _ _ _ refl refl, (there _ _ _ refl refl, (there _ _ _ refl refl, (there _ _ _ refl refl, tt))))))
are-columns true false = (there _ _ _ refl refl, (there _ _ _ refl refl, (there _ _ _ refl refl, (there _ _ _ refl refl, (there _ _ _ refl refl, tt)))))
are-columns false true = (there _ _ _ refl refl, (there _ _ _ refl refl, (there _ _ _ refl refl, (there _ _ _ refl refl, (there _ _ _ refl refl, tt)))))
are-columns false false = (there _ _ _ refl refl, (there _ _ _ refl refl, (there _ _ _ refl refl, (there _ _ _ refl refl, tt))))

-- each field has its value, one after another
abbrev HaveValues : List RequiredColumn → List (List ℕ) → List Value → Type 0
HaveValues [] fields values = Unit {0}
HaveValues (n ∷ needed) (field ∷ fields) (value ∷ values) = Holds n.content field value × HaveValues needed fields values
HaveValues (n ∷ needed) _ _ = ⊥

field-there : (front : List (List ℕ)) (x : List ℕ) (rest : List (List ℕ)) → field_at (front ++ x ∷ rest) (length front) ≡ Some x
unfolding field_at
field-there [] x rest = refl
field-there (f ∷ front) x rest = field-there front x rest

field-none : (front : List (List ℕ)) → field_at (front ++ []) (length front) ≡ None
unfolding field_at
field-none [] = refl
field-none (f ∷ front) = field-none front

have-values : (needed : List RequiredColumn) (front rest : List (List ℕ)) (place : ℕ) (values : List Value) → place ≡ length front → AllZip (HoldsUnder (front ++ rest)) (numbered place needed) values
    → HaveValues needed rest values
unfolding numbered
have-values [] front rest place values at h = tt
have-values (n ∷ needed) front rest place [] at h = absurd h
have-values (n ∷ needed) front [] place (v ∷ values) at h =
    absurd (none-some h.0.bytes (sym (ap (field_at (front ++ [])) at ∙ field-none front) ∙ h.0.field))
have-values (n ∷ needed) front (x ∷ rest) place (v ∷ values) at h =
    let same : x ≡ h.0.bytes = same_Some x h.0.bytes (sym (ap (field_at (front ++ x ∷ rest)) at ∙ field-there front x rest) ∙ h.0.field) in
    let longer : length (front ++ x ∷ []) ≡ length front + length (x ∷ []) = length-append front (x ∷ []) in
    let all : (front ++ x ∷ []) ++ rest ≡ front ++ x ∷ rest = append_assoc front (x ∷ []) rest in (
      subst (λ bytes. Holds n.content bytes v) (sym same) h.0.holds,
      have-values needed (front ++ x ∷ []) rest (suc place) values (omega (arith, at, longer))
          (subst (λ fs. AllZip (HoldsUnder fs) (numbered (suc place) needed) values) (sym all) h.1),
    )

module _ (denotes : MoneyTextDenotes) (one : DenotesAtMostOne) where
  -- a text of money has its amount
  amount-one : (units read : ℤ) → IsAmount units → Holds Money (money_text units) (Number read) → read ≡ units
  amount-one units read is h = one (money_text units) read units h.spells.plain.1 (denotes units is.in_range is.money.0)

  text-one : (bytes : List ℕ) (read : List ℕ) → Holds Identifier bytes (Text read) → read ≡ bytes
  text-one bytes read h = h.spells.plain.1

  balance-back : (x y : Balance) → IsAmount x.met → IsAmount x.oop → IsAmount x.paid
      → HaveValues (required_column met_name Money ∷ required_column oop_name Money ∷ required_column paid_name Money ∷ []) (money_text x.met ∷ money_text x.oop ∷ money_text x.paid ∷ []) (balance_values y)
      → y ≡ x
  balance-back x y met oop paid h =
      let m = amount-one x.met y.met met h.0 in
      let o = amount-one x.oop y.oop oop h.1.0 in
      let p = amount-one x.paid y.paid paid h.1.1.0 in
      λ i. record { met = m i; oop = o i; paid = p i }

  -- the year, if there is a column for it, and the balance
  year-back : (years : Bool) (a b : ℕ) (x y : Balance) → IsAmount x.met → IsAmount x.oop → IsAmount x.paid → IsKept years a → IsKept years b
      → HaveValues (year_columns years ++ required_column met_name Money ∷ required_column oop_name Money ∷ required_column paid_name Money ∷ [])
      (year_fields years (year_text a) ++ money_text x.met ∷ money_text x.oop ∷ money_text x.paid ∷ []) (year_values years b ++ balance_values y)
      → (b ≡ a) × (y ≡ x)
  year-back true a b x y met oop paid kept also h = (year-one b a h.0.spells.plain.1, balance-back x y met oop paid h.1)
  year-back false a b x y met oop paid kept also h = (also ∙ sym kept, balance-back x y met oop paid h)

  entry-back : (families years : Bool) (e f : Entry) → IsAmount e.1.met → IsAmount e.1.oop → IsAmount e.1.paid → IsKept years e.0.year → IsKept years f.0.year
      → (families ≡ false → e.0.family ≡ e.0.member) → (families ≡ false → f.0.family ≡ f.0.member)
      → HaveValues (columns_by families years) (fields_by families years e) (after_family (family_in families f.0) (Text f.0.member ∷ (year_values years f.0.year ++ balance_values f.1)))
      → f ≡ e
  unfolding columns_by fields_by
  entry-back true years e f met oop paid kept also alone lone h =
      let family : f.0.family ≡ e.0.family = text-one e.0.family f.0.family h.0 in
      let member : f.0.member ≡ e.0.member = text-one e.0.member f.0.member h.1.0 in
      let rest = year-back years e.0.year f.0.year e.1 f.1 met oop paid kept also h.1.1 in
      λ i. (record { family = family i; member = member i; year = rest.0 i }, rest.1 i)
  entry-back false years e f met oop paid kept also alone lone h =
      let member : f.0.member ≡ e.0.member = text-one e.0.member f.0.member h.0 in
      let family : f.0.family ≡ e.0.family = lone refl ∙ member ∙ sym (alone refl) in
      let rest = year-back years e.0.year f.0.year e.1 f.1 met oop paid kept also h.1 in
      λ i. (record { family = family i; member = member i; year = rest.0 i }, rest.1 i)

  -- the records of entries have these entries and no others
  entries-back : (version width : ℕ) (entries found : List Entry) → AreWritable version entries
      → AllZip (IsEntry version (record { width = width; columns = numbered 0 (balance_columns version) })) (map (entry_fields version) entries) found → found ≡ entries
  unfolding columns_by fields_by
  entries-back version width [] [] writable h = refl
  entries-back version width [] (f ∷ found) writable h = absurd h
  entries-back version width (e ∷ entries) [] writable h = absurd h
  entries-back version width (e ∷ entries) (f ∷ found) writable h =
      let w = writable.0 in
      let values = have-values (balance_columns version) [] (entry_fields version e) 0 (entry_values version f) refl h.0.values.1 in
      let first = entry-back (has_families version) (has_years version) e f w.met w.oop w.paid w.kept.year h.0.kept.year w.kept.alone h.0.kept.alone values in
      let rest = entries-back version width entries found writable.1 h.1 in
      λ i. first i ∷ rest i

  -- the text of entries reads back
  back : (version : ℕ) (entries : List Entry) (balances : List Book) → AreWritable version entries → AreBalances version (closing_text version entries) balances → (account : Account)
      → opening (accounts_of balances) account ≡ opening entries account
  unfolding columns_by fields_by names_by
  back version entries balances writable are account =
      let names = map (λ c. c.name) (balance_columns version) in
      let layout : Layout = record { width = length names; columns = numbered 0 (balance_columns version) } in
      let records = map (entry_fields version) entries in
      let same = headered_file-one (balance_columns version) (closing_text version entries) are.layout layout are.records records are.headered_file
      (record {
        header = names;
        file = record { small = are.headered_file.file.small; read = are-records (has_families version) (has_years version) entries };
        width = refl;
        columns = are-columns (has_families version) (has_years version);
      }) in
      let each : AllZip (IsEntry version layout) records are.entries =
      subst (λ (l : Layout). AllZip (IsEntry version l) records are.entries) same.0 (subst (λ rs. AllZip (IsEntry version are.layout) rs are.entries) same.1 are.read.each) in
      are.given account ∙ ap (λ es. opening es account) (entries-back version (length names) entries are.entries writable each)

  pub reads_back : (parts : TermsParts) (J : List Event) (text : List ℕ) (balances : List Book) → IsClosingText parts J text → AreBalances parts.plan.version text balances
      → ForTerms parts (λ T. (account : Account) → opening (accounts_of balances) account ≡ before T J (accepted_count J) account)
  reads_back parts J text balances closing are T is account =
      back parts.plan.version closing.entries balances closing.writable (subst (λ bytes. AreBalances parts.plan.version bytes balances) closing.bytes_are are) account
      ∙ closing.are_closing.given T is account
