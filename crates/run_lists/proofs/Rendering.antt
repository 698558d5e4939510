-- The records of closing balances, which a CSV writer renders into memory one after another.
use Rattle.std.proofs.Common.{◌≡◌, ℕ, Bool, true, false, List, [], ◌∷◌, ◌++◌, map, Result, Ok, Err, IfOk, refl, sym, ap, ap₂, subst, ◌∙◌, append_assoc, append-nil}
use Rattle.std.specs.Global.{Vec}
use Rattle.csv.specs.Writing.{default_writer, fields_written, has_written, row_text, writer_pending, writer_setup, writer_under}
use Rattle.csv.specs.declared.writer.Writer.{Writer}
use Rattle.settlement.specs.declared.account.Balance.{Balance}
use Rattle.run_lists.specs.Entries.{entry_of_key}
use Rattle.faults.specs.BuiltInNames.{family_name, member_name, met_name, oop_name, paid_name, year_name}
use Rattle.tables.specs.Plan.{has_families, has_years}
use Rattle.intake_csv.specs.Balances.{Entry}
use Rattle.intake_csv.specs.Columns.{balance_columns, family_columns, required_column, year_columns}
use Rattle.intake_csv.specs.declared.column.Content.TheVariants.{Identifier, Money}
use Rattle.remit_records.specs.Records.{family_fields, year_fields}
use Rattle.journal.specs.declared.event.Event.{Event}
use Rattle.claim_gate.specs.Terms.{TermsParts}
use Rattle.remit_records.specs.Fields.{Ends, HasFields, Pushes, rendered_in}
use Rattle.run_lists.specs.Closing.{AreClosing}
use Rattle.run_lists.specs.ClosingText.{AreWritable, IsClosingText, account_fields, IsWritable, closing_text, entry_fields, records_text}
use Rattle.run_lists.specs.declared.closing.account_key.AccountKey.{AccountKey}

pub none-rendered : (writer : Writer (Vec ℕ)) (text : Vec ℕ) → writer_under writer ≡ text → text.items ≡ [] → writer_pending writer ≡ [] → writer_setup writer ≡ default_writer
    → fields_written writer ≡ 0 → has_written writer ≡ false → HasFields default_writer [] [] writer
none-rendered writer text under none pending setup fields clean = record {
  setup = setup;
  plain = λ other. cc other;
  text = ap₂ (λ (v : Vec ℕ) p. v.items ++ p) under pending ∙ append-nil text.items ∙ none;
  count = fields;
  shown = clean;
}

-- the names of the columns, with those of the family and the year only where the plan has them
names-by : (families years : Bool)
    → (family_fields families family_name ++ member_name ∷ year_fields years year_name) ++ met_name ∷ oop_name ∷ paid_name ∷ []
    ≡ map (λ c. c.name)
    (family_columns families ++ required_column member_name Identifier
    ∷ (year_columns years ++ required_column met_name Money ∷ required_column oop_name Money ∷ required_column paid_name Money ∷ []))
names-by true true = refl
names-by true false = refl
names-by false true = refl
names-by false false = refl

pub header-names : (version : ℕ)
    → account_fields version family_name member_name year_name ++ met_name ∷ oop_name ∷ paid_name ∷ [] ≡ map (λ c. c.name) (balance_columns version)
header-names version = names-by (has_families version) (has_years version)

-- the rendered text, and the records that are left, are this text
pub record RenderedSoFar (version : ℕ) (writer : Writer (Vec ℕ)) (left : List (AccountKey × Balance)) (whole : List ℕ) : Type 0 where
  pub text : List ℕ
  pub rendered : HasFields default_writer text [] writer
  pub whole_is : text ++ records_text (map (entry_fields version) (map entry_of_key left)) ≡ whole

pub rendered-header : (version : ℕ) (writer : Writer (Vec ℕ)) (header : List (List ℕ)) (held left : List (AccountKey × Balance)) (whole : List ℕ)
    → HasFields default_writer (row_text default_writer header) [] writer → left ≡ held
    → records_text (header ∷ map (entry_fields version) (map entry_of_key held)) ≡ whole → RenderedSoFar version writer left whole
rendered-header version writer header held left whole has all is = record {
  text = row_text default_writer header;
  rendered = has;
  whole_is = ap (λ es. row_text default_writer header ++ records_text (map (entry_fields version) (map entry_of_key es))) all ∙ is;
}

pub rendered-next : (version : ℕ) (writer filled new : Writer (Vec ℕ)) (left rest : List (AccountKey × Balance)) (held : AccountKey × Balance) (whole : List ℕ) → RenderedSoFar version writer left whole
    → left ≡ held ∷ rest → Pushes writer filled (entry_fields version (entry_of_key held)) → Ends filled new → RenderedSoFar version new rest whole
rendered-next version writer filled new left rest held whole so_far step pushes ends =
    let row = row_text default_writer (entry_fields version (entry_of_key held)) in
    record {
      text = so_far.text ++ row;
      rendered = ends default_writer so_far.text (entry_fields version (entry_of_key held)) (pushes default_writer so_far.text [] so_far.rendered);
      whole_is =
          append_assoc so_far.text row (records_text (map (entry_fields version) (map entry_of_key rest)))
          ∙ ap (λ es. so_far.text ++ records_text (map (entry_fields version) (map entry_of_key es))) (sym step) ∙ so_far.whole_is;
    }

pub rendered-all : (version : ℕ) (writer : Writer (Vec ℕ)) (left : List (AccountKey × Balance)) (whole text : List ℕ) → RenderedSoFar version writer left whole → left ≡ []
    → text ≡ rendered_in writer → text ≡ whole
rendered-all version writer left whole text so_far none kept =
    kept ∙ so_far.rendered.text ∙ append-nil so_far.text ∙ sym (append-nil so_far.text)
    ∙ ap (λ es. so_far.text ++ records_text (map (entry_fields version) (map entry_of_key es))) (sym none) ∙ so_far.whole_is

-- if the entries that are left are valid, all are, and one more of them is valid
pub writable-next : (version : ℕ) (left rest : List (AccountKey × Balance)) (held : AccountKey × Balance) (All : Type 0) → left ≡ held ∷ rest → IsWritable version (entry_of_key held)
    → (AreWritable version (map entry_of_key left) → All) → AreWritable version (map entry_of_key rest) → All
writable-next version left rest held All step first all others =
    all (subst (λ es. AreWritable version (map entry_of_key es)) (sym step) (first, others))

pub writable-all : (version : ℕ) (left : List (AccountKey × Balance)) (All : Type 0) → left ≡ [] → (AreWritable version (map entry_of_key left) → All) → All
writable-all version left All none all = all (subst (λ es. AreWritable version (map entry_of_key es)) (sym none) tt)

-- the text that was made is that of the closing balances
pub closing-made : {E : Type 0} (parts : TermsParts) (J : List Event) (version : ℕ) (entries : List Entry) (made : Result (Vec ℕ) E) → AreClosing parts J entries → version ≡ parts.plan.version
    → IfOk made (λ text. text.items ≡ closing_text version entries) → IfOk made (λ text. AreWritable version entries) → IfOk made (λ text. IsClosingText parts J text.items)
closing-made parts J version entries (Ok text) closing same is writable = record {
  entries = entries;
  are_closing = closing;
  writable = subst (λ n. AreWritable n entries) same writable;
  bytes_are = is ∙ ap (λ n. closing_text n entries) same;
}
closing-made parts J version entries (Err e) closing same is writable = tt
