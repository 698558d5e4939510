-- The required columns of a plan's claims have distinct names, since all names of a plan are
-- distinct.
use Rattle.std.proofs.Common.{◌≡◌, ℕ, Bool, true, false, List, [], ◌∷◌, ◌++◌, map, refl, sym, ap, subst, ◌∙◌, arith, append_assoc}
use Rattle.std.specs.List.{flat_map}
use Rattle.std.proofs.lemmas.List.{get_or-map, get_or_append_left, length-append, length-map, map-append}
use Rattle.tables.specs.declared.table.InputData.{InputData}
use Rattle.tables.specs.Names.{accumulator_names, claim_names}
use Rattle.tables.specs.Plan.{AreDistinct, IsPlan, PlanParts, keeps_families, plan_names}
use Rattle.intake_csv.specs.Columns.{AreColumnsOf, claim_columns, fields_among, have_family, required_column, own_columns}
use Rattle.intake_csv.specs.Laws.{LieApart}
use Rattle.intake_csv.specs.Records.{Fields}
use Rattle.intake_csv.specs.declared.column.Column.{Column}
use Rattle.intake_csv.specs.declared.column.Content.TheVariants.{Plain}
use Rattle.intake_csv.specs.declared.column.RequiredColumn.{RequiredColumn}
use Rattle.intake_csv.proofs.ClaimFields.{fields-among, have_family-names}
use Rattle.intake_csv.proofs.OneFile.{HaveDistinctNames, columns-apart}

-- a prefix of distinct names is distinct
distinct-front : (front following : List (List ℕ)) → AreDistinct (front ++ following) → AreDistinct front
distinct-front front following h i j d before within =
    let long = length-append front following in
    let apart = h i j d before (omega (arith, long, within)) in
    λ same. apart (get_or_append_left front following d i (omega arith) ∙ same ∙ sym (get_or_append_left front following d j within))

-- required columns with distinct names, from the list of their names
titles-distinct : (columns : List RequiredColumn) → AreDistinct (map (λ c. c.name) columns) → HaveDistinctNames columns
titles-distinct columns h i j d before within =
    let long = length-map columns (λ (c : RequiredColumn). c.name) in
    let apart = h i j d.name before (omega (arith, long, within)) in
    λ same. apart (get_or-map (λ c. c.name) columns i d d.name (omega arith) ∙ same ∙ sym (get_or-map (λ c. c.name) columns j d d.name within))

field_names : (fields : List InputData) → map (λ c. c.name) (map (λ d. required_column d.name (Plain d.kind)) fields) ≡ map (λ d. d.name) fields
field_names [] = refl
field_names (f ∷ fs) = ap (λ ns. f.name ∷ ns) (field_names fs)

own_titles : (families : Bool) → map (λ c. c.name) (own_columns families) ≡ map (λ d. d.name) (claim_names families)
own_titles false = refl
own_titles true = refl

-- the names of the required columns are the built-in names of claims and the names of the fields
titles : (families : Bool) (names fields : List InputData) → have_family names ≡ families → fields_among names ≡ fields
    → map (λ c. c.name) (claim_columns names) ≡ map (λ d. d.name) (claim_names families) ++ map (λ d. d.name) fields
titles families names fields have among =
    let of : List InputData → List RequiredColumn = λ fs. map (λ d. required_column d.name (Plain d.kind)) fs in
    ap (λ (b : Bool). map (λ c. c.name) (own_columns b ++ of (fields_among names))) have ∙ ap (λ (fs : List InputData). map (λ c. c.name) (own_columns families ++ of fs)) among
    ∙ map-append (λ c. c.name) (own_columns families) (of fields) ∙ ap (λ ns. ns ++ map (λ c. c.name) (of fields)) (own_titles families)
    ∙ ap (λ ns. map (λ d. d.name) (claim_names families) ++ ns) (field_names fields)

-- the plan keeps accumulators for families if its second name is `family`
pub family-kept : (plan : PlanParts) → IsPlan plan → have_family plan.names ≡ keeps_families plan
family-kept plan is = ap have_family is.names ∙ have_family-names (keeps_families plan) is.fields

columns-distinct : (plan : PlanParts) → IsPlan plan → HaveDistinctNames (claim_columns plan.names)
columns-distinct plan is =
    let families = keeps_families plan in
    let own : List (List ℕ) = map (λ d. d.name) (claim_names families) in
    let accumulators : List (List ℕ) = map (λ d. d.name) (accumulator_names families) in
    let fields : List (List ℕ) = map (λ d. d.name) is.fields in
    let outputs = flat_map (λ t. map (λ o. o.name) t.outputs) plan.tables in
    let names : map (λ d. d.name) plan.names ≡ (own ++ fields) ++ accumulators =
    ap (map (λ d. d.name)) is.names ∙ map-append (λ d. d.name) (claim_names families) (is.fields ++ accumulator_names families)
    ∙ ap (λ ns. own ++ ns) (map-append (λ d. d.name) is.fields (accumulator_names families)) ∙ sym (append_assoc own fields accumulators) in
    let all : plan_names plan ≡ (own ++ fields) ++ (accumulators ++ outputs) = ap (λ ns. ns ++ outputs) names ∙ append_assoc (own ++ fields) accumulators outputs in
    let have : have_family plan.names ≡ families = family-kept plan is in
    let among : fields_among plan.names ≡ is.fields = ap fields_among is.names ∙ fields-among families is.fields in
    titles-distinct (claim_columns plan.names)
    (subst AreDistinct (sym (titles families plan.names is.fields have among)) (distinct-front (own ++ fields) (accumulators ++ outputs) (subst AreDistinct all is.distinct)))

-- the required columns have distinct places in every file that has them
pub columns-apart-under : (plan : PlanParts) (header : Fields) (columns : List Column) → IsPlan plan → AreColumnsOf header (claim_columns plan.names) columns → LieApart columns
columns-apart-under plan header columns is has = columns-apart header (claim_columns plan.names) columns (columns-distinct plan is) has
