-- The kinds of a record's values, by their columns.
use Rattle.std.proofs.Common.{◌≡◌, ℕ, ℤ, Bool, true, false, List, [], ◌∷◌, ◌++◌, map, take, drop, Some, None, refl, ap, sym, ◌∙◌}
use Rattle.std.specs.List.{All, AllZip}
use Rattle.std.proofs.lemmas.List.Elements.{All-cons, All-nil, All-take}
use Rattle.fixpoint.specs.Money.{IsMoney}
use Rattle.feel_tests.specs.declared.kind.Kind.{Kind}
use Rattle.feel_tests.specs.declared.kind.Kind.TheVariants as kinds
use Rattle.feel_tests.specs.declared.value.Value.{Value}
use Rattle.feel_tests.specs.declared.value.Value.TheVariants.{Number, Text, Flag, Day}
use Rattle.tables.specs.declared.table.InputData.{InputData}
use Rattle.intake_csv.specs.Records.{Fields}
use Rattle.intake_csv.specs.Columns.{AreColumnsOf, claim_columns, fields_among, have_family, kind_under, required_column, own_columns}
use Rattle.intake_csv.specs.Fields.{Holds}
use Rattle.intake_csv.specs.Rows.{HoldsUnder}
use Rattle.intake_csv.specs.Record.{IsClaimShaped, IsPlain, claim_contents}
use Rattle.intake_csv.specs.declared.column.Column.{Column}
use Rattle.intake_csv.specs.declared.column.RequiredColumn.{RequiredColumn}
use Rattle.intake_csv.specs.declared.column.Content.{Content}
use Rattle.intake_csv.specs.declared.column.Content.TheVariants.{Identifier, Money, Plain}

pub text_value : (content : Content) (bytes : List ℕ) (v : Value) → content ≡ Identifier → Holds content bytes v → (t : List ℕ) × (v ≡ Text t)
text_value content bytes (Text t) e h = (t, refl)
text_value content bytes (Number u) e h = let s = rw e at h.spells.plain in absurd (cc s.0)
text_value content bytes (Flag b) e h = let s = rw e at h.spells.plain in absurd (cc s.0)
text_value content bytes (Day d) e h = let s = rw e at h.spells.plain in absurd (cc s.0)

pub day_value : (content : Content) (bytes : List ℕ) (v : Value) → content ≡ Plain kinds.Day → Holds content bytes v → (d : ℤ) × (v ≡ Day d)
day_value content bytes (Day d) e h = (d, refl)
day_value content bytes (Number u) e h = let s = rw e at h.spells.plain in absurd (cc s.0)
day_value content bytes (Flag b) e h = let s = rw e at h.spells.plain in absurd (cc s.0)
day_value content bytes (Text t) e h = let s = rw e at h.spells.plain in absurd (cc s.0)

pub money_value : (content : Content) (bytes : List ℕ) (v : Value) → content ≡ Money → Holds content bytes v → (u : ℤ) × (v ≡ Number u) × IsMoney u
money_value content bytes v e h = rw e at h.allowed

-- equal lists from three equal values
three_and : (w x y b c d : Value) (ys : List Value) → w ≡ b → x ≡ c → y ≡ d → w ∷ x ∷ y ∷ ys ≡ b ∷ c ∷ d ∷ ys
three_and w x y b c d ys f g h = rw (f, g, h) refl

-- the values of a claim from the member onwards
record IsShapedAfter (values : List Value) : Type 0 where
  pub member : List ℕ
  pub service : ℤ
  pub billed : ℤ
  pub fields : List Value
  pub values_are : values ≡ Text member ∷ Day service ∷ Number billed ∷ fields

shaped-following : (fields : Fields) (columns : List Column) (values : List Value) (rest : List Kind)
    → map (λ c. c.content) columns ≡ Identifier ∷ Plain kinds.Day ∷ Money ∷ map Plain rest → AllZip (HoldsUnder fields) columns values → IsShapedAfter values
shaped-following fields [] values rest e h = absurd (cc e)
shaped-following fields (b ∷ []) values rest e h = absurd (cc e)
shaped-following fields (b ∷ c ∷ []) values rest e h = absurd (cc e)
shaped-following fields (b ∷ c ∷ d ∷ ds) [] rest e h = absurd h
shaped-following fields (b ∷ c ∷ d ∷ ds) (w ∷ []) rest e h = absurd h.1
shaped-following fields (b ∷ c ∷ d ∷ ds) (w ∷ x ∷ []) rest e h = absurd h.1.1
shaped-following fields (b ∷ c ∷ d ∷ ds) (w ∷ x ∷ y ∷ ys) rest e h =
    let eb : b.content ≡ Identifier = cc e in
    let ec : c.content ≡ Plain kinds.Day = cc e in
    let ed : d.content ≡ Money = cc e in
    let (member, is_member) = text_value b.content h.0.bytes w eb h.0.holds in
    let (day, is_day) = day_value c.content h.1.0.bytes x ec h.1.0.holds in
    let (units, is_units, money) = money_value d.content h.1.1.0.bytes y ed h.1.1.0.holds in
    record { member = member; service = day; billed = units; fields = ys; values_are = three_and w x y (Text member) (Day day) (Number units) ys is_member is_day is_units }

-- the values of a claim
pub claim-shaped : (families : Bool) (fields : Fields) (columns : List Column) (values : List Value) (rest : List Kind)
    → map (λ c. c.content) columns ≡ claim_contents families rest → AllZip (HoldsUnder fields) columns values → IsClaimShaped families values
claim-shaped families fields [] values rest e h = absurd (cc e)
claim-shaped families fields (a ∷ columns) [] rest e h = absurd h
claim-shaped false fields (a ∷ columns) (v ∷ values) rest e h =
    let ea : a.content ≡ Identifier = cc e in
    let others : map (λ c. c.content) columns ≡ Identifier ∷ Plain kinds.Day ∷ Money ∷ map Plain rest = cc e in
    let (id, is_id) = text_value a.content h.0.bytes v ea h.0.holds in
    let b = shaped-following fields columns values rest others h.1 in
    record {
      claim = record { id = id; family = None; member = b.member; service = b.service; billed = b.billed; fields = b.fields };
      has_family = refl;
      values_are = ap (λ x. x ∷ values) is_id ∙ ap (λ xs. Text id ∷ xs) b.values_are;
    }
claim-shaped true fields (a ∷ []) (v ∷ values) rest e h = absurd (cc e)
claim-shaped true fields (a ∷ b ∷ columns) (v ∷ []) rest e h = absurd h.1
claim-shaped true fields (a ∷ b ∷ columns) (v ∷ w ∷ values) rest e h =
    let ea : a.content ≡ Identifier = cc e in
    let eb : b.content ≡ Identifier = cc e in
    let others : map (λ c. c.content) columns ≡ Identifier ∷ Plain kinds.Day ∷ Money ∷ map Plain rest = cc e in
    let (id, is_id) = text_value a.content h.0.bytes v ea h.0.holds in
    let (family, is_family) = text_value b.content h.1.0.bytes w eb h.1.0.holds in
    let s = shaped-following fields columns values rest others h.1.1 in
    record {
      claim = record { id = id; family = Some family; member = s.member; service = s.service; billed = s.billed; fields = s.fields };
      has_family = refl;
      values_are = ap (λ x. x ∷ w ∷ values) is_id ∙ ap (λ x. Text id ∷ x ∷ values) is_family ∙ ap (λ xs. Text id ∷ Text family ∷ xs) s.values_are;
    }

-- the columns have the contents of the required ones
pub contents-of : (header : Fields) (needed : List RequiredColumn) (columns : List Column) → AreColumnsOf header needed columns → map (λ c. c.content) columns ≡ map (λ n. n.content) needed
contents-of header [] [] h = refl
contents-of header [] (c ∷ cs) h = absurd h
contents-of header (n ∷ ns) [] h = absurd h
contents-of header (n ∷ ns) (c ∷ cs) h = rw (h.0.content, contents-of header ns cs h.1) refl

field-contents : (fields : List InputData) → map (λ n. n.content) (map (λ d. required_column d.name (Plain d.kind)) fields) ≡ map Plain (map (λ d. d.kind) fields)
field-contents [] = refl
field-contents (f ∷ fs) = ap (λ cs. Plain f.kind ∷ cs) (field-contents fs)

needed-contents : (families : Bool) (fields : List InputData)
    → map (λ n. n.content) (own_columns families ++ map (λ d. required_column d.name (Plain d.kind)) fields) ≡ claim_contents families (map (λ d. d.kind) fields)
needed-contents false fields = ap (λ cs. Identifier ∷ Identifier ∷ Plain kinds.Day ∷ Money ∷ cs) (field-contents fields)
needed-contents true fields = ap (λ cs. Identifier ∷ Identifier ∷ Identifier ∷ Plain kinds.Day ∷ Money ∷ cs) (field-contents fields)

-- the contents of the columns of a claim file
pub claim-contents : (names : List InputData) (header : Fields) (columns : List Column) → AreColumnsOf header (claim_columns names) columns
    → map (λ c. c.content) columns ≡ claim_contents (have_family names) (map (λ d. d.kind) (fields_among names))
claim-contents names header columns h = contents-of header (claim_columns names) columns h ∙ needed-contents (have_family names) (fields_among names)

-- columns of fields have any values of their kinds
plain-columns : (columns : List Column) (fields : List Kind) → map (λ c. c.content) columns ≡ map Plain fields → All IsPlain columns
plain-columns [] [] e = All-nil IsPlain
plain-columns [] (k ∷ ks) e = absurd (cc e)
plain-columns (c ∷ cs) [] e = absurd (cc e)
plain-columns (c ∷ cs) (k ∷ ks) e =
    let here : c.content ≡ Plain k = cc e in
    let others : map (λ c. c.content) cs ≡ map Plain ks = cc e in
    All-cons IsPlain c cs (here ∙ sym (ap (λ content. Plain (kind_under content)) here)) (plain-columns cs ks others)

-- the columns of a claim's fields have any values of their kinds
pub plain-following : (n : ℕ) (columns : List Column) (fields : List Kind) → map (λ c. c.content) columns ≡ Identifier ∷ Plain kinds.Day ∷ Money ∷ map Plain fields
    → All IsPlain (take n (drop 3 columns))
plain-following n [] fields e = absurd (cc e)
plain-following n (b ∷ []) fields e = absurd (cc e)
plain-following n (b ∷ c ∷ []) fields e = absurd (cc e)
plain-following n (b ∷ c ∷ d ∷ ds) fields e =
    let others : map (λ c. c.content) ds ≡ map Plain fields = cc e in
    All-take IsPlain n ds (plain-columns ds fields others)
