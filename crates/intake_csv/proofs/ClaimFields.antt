-- The fields of a claim in a record are those of the plan.
use Rattle.std.proofs.Common.{◌≡◌, ◌-◌, ℕ, Bool, true, false, List, [], ◌∷◌, ◌++◌, length, map, take, Option, Some, None, is_some, refl, sym, ap, ◌∙◌, arith}
use Rattle.std.proofs.lemmas.List.{length-append}
use Rattle.std.proofs.Math.Seq.{take-append_seam}
use Rattle.feel_tests.specs.Plain.{SpellsPlain}
use Rattle.feel_tests.specs.Value.{kind_of}
use Rattle.feel_tests.specs.declared.kind.Kind.{Kind}
use Rattle.feel_tests.specs.declared.value.Value.{Value}
use Rattle.feel_tests.specs.declared.value.Value.TheVariants.{Number, Text, Flag, Day}
use Rattle.tables.specs.declared.table.InputData.{InputData}
use Rattle.tables.specs.Names.{accumulator_names, names_of}
use Rattle.intake_csv.specs.Records.{Fields}
use Rattle.intake_csv.specs.Columns.{AreColumnsOf, claim_columns, fields_among, have_family, kind_under}
use Rattle.intake_csv.specs.Record.{claim_contents}
use Rattle.intake_csv.specs.Rows.{AreValues, claim_values}
use Rattle.settlement.specs.Bindings.{after_family}
use Rattle.settlement.specs.declared.claim.Claim.{Claim}
use Rattle.intake_csv.specs.declared.column.Column.{Column}
use Rattle.intake_csv.specs.declared.column.Content.TheVariants.{Plain}
use Rattle.intake_csv.proofs.Shapes.{claim-contents}

-- a denoted value has its kind
spelled-kind : (kind : Kind) (bytes : List ℕ) (v : Value) → SpellsPlain kind bytes v → kind_of v ≡ kind
spelled-kind kind bytes (Number u) h = sym h.0
spelled-kind kind bytes (Text t) h = sym h.0
spelled-kind kind bytes (Flag b) h = sym h.0
spelled-kind kind bytes (Day d) h = sym h.0

-- the second name of a plan determines whether the plan keeps accumulators for families
pub have_family-names : (families : Bool) (fields : List InputData) → have_family (names_of families fields) ≡ families
have_family-names false fields = refl
have_family-names true fields = refl

-- the fields among the names of a plan with these fields
pub fields-among : (families : Bool) (fields : List InputData) → fields_among (names_of families fields) ≡ fields
fields-among false fields =
    let counted = length-append fields (accumulator_names false) in
    let size : length (names_of false fields) - 3 - 4 ≡ length fields = omega (arith, counted) in
    ap (λ n. take n (fields ++ accumulator_names false)) size ∙ take-append_seam fields (accumulator_names false)
fields-among true fields =
    let counted = length-append fields (accumulator_names true) in
    let size : length (names_of true fields) - 5 - 5 ≡ length fields = omega (arith, counted) in
    ap (λ n. take n (fields ++ accumulator_names true)) size ∙ take-append_seam fields (accumulator_names true)

-- the values of a record have the kinds of their columns
kinds-of : (row : Fields) (columns : List Column) (values : List Value) → AreValues row columns values → map kind_of values ≡ map kind_under (map (λ c. c.content) columns)
kinds-of row [] [] k = refl
kinds-of row [] (v ∷ vs) k = absurd k
kinds-of row (c ∷ cs) [] k = absurd k
kinds-of row (c ∷ cs) (v ∷ vs) k = rw (spelled-kind (kind_under c.content) k.0.bytes v k.0.holds.spells.plain, kinds-of row cs vs k.1) refl

plain-kinds : (kinds : List Kind) → map kind_under (map Plain kinds) ≡ kinds
plain-kinds [] = refl
plain-kinds (k ∷ ks) = ap (λ others. k ∷ others) (plain-kinds ks)

-- a claim has a family if and only if there is a column for it, and its fields have the kinds of
-- the columns of fields
claim-by : (families : Bool) (family : Option (List ℕ)) (claim : Claim) (fields : List Kind)
    → map kind_of (Text claim.id ∷ after_family family (Text claim.member ∷ Day claim.service ∷ Number claim.billed ∷ claim.fields)) ≡ map kind_under (claim_contents families fields)
    → (is_some family ≡ families) × (map kind_of claim.fields ≡ fields)
claim-by false None claim fields e = let others : map kind_of claim.fields ≡ map kind_under (map Plain fields) = cc e in (refl, others ∙ plain-kinds fields)
claim-by false (Some name) claim fields e = absurd (cc e)
claim-by true None claim fields e = absurd (cc e)
claim-by true (Some name) claim fields e = let others : map kind_of claim.fields ≡ map kind_under (map Plain fields) = cc e in (refl, others ∙ plain-kinds fields)

-- a claim in the required columns of a plan fits the plan
pub claim-has : (header row : Fields) (names : List InputData) (families : Bool) (fields : List InputData) (columns : List Column) (claim : Claim) → names ≡ names_of families fields
    → AreColumnsOf header (claim_columns names) columns → AreValues row columns (claim_values claim)
    → (is_some claim.family ≡ families) × (map kind_of claim.fields ≡ map (λ d. d.kind) fields)
claim-has header row names families fields columns claim is h k =
    let have : have_family names ≡ families = ap have_family is ∙ have_family-names families fields in
    let among : fields_among names ≡ fields = ap fields_among is ∙ fields-among families fields in
    let kinds = kinds-of row columns (claim_values claim) k ∙ ap (map kind_under) (claim-contents names header columns h) in
    let (family, others) = claim-by (have_family names) claim.family claim (map (λ d. d.kind) (fields_among names)) kinds in
    (family ∙ have, others ∙ ap (map (λ d. d.kind)) among)
