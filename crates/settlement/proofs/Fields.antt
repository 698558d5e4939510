-- The fields of a plan.
use Rattle.std.proofs.Common.{◌≡◌, ◌==◌, Bool, true, false, List, [], ◌∷◌, ◌++◌, map, length, is_some, refl, ap, sym, ◌∙◌, arith}
use Rattle.std.specs.List.{list_all, zip}
use Rattle.std.proofs.Math.Bool.{beq}
use Rattle.std.proofs.lemmas.Bool.{false≢true, eqb-true, eq-eqb, and_parts, and_from}
use Rattle.std.proofs.lemmas.List.{append_cancel_left, append_cancel_right, length-map}
use Rattle.feel_tests.specs.declared.kind.Kind.{Kind}
use Rattle.feel_tests.specs.declared.kind.Kind.TheVariants.{Number, Text, Flag, Day}
use Rattle.feel_tests.specs.declared.value.Value.{Value}
use Rattle.feel_tests.specs.Value.{kind_of}
use Rattle.tables.specs.declared.table.InputData.{InputData}
use Rattle.tables.specs.Names.{accumulator_names, claim_names, names_of}
use Rattle.tables.specs.Plan.{PlanParts, keeps_families, same_kind, has_kind}
use Rattle.settlement.specs.declared.claim.Claim.{Claim}
use Rattle.settlement.specs.Claim.{IsClaimOf}
use Rattle.settlement.specs.Fields.{have_kinds}

-- the names of a plan determine its fields
pub one_list : (families : Bool) (fields others : List InputData) → names_of families fields ≡ names_of families others → fields ≡ others
one_list families fields others same =
    append_cancel_right fields others (accumulator_names families)
    (append_cancel_left (claim_names families) (fields ++ accumulator_names families) (others ++ accumulator_names families) same)

same_kinds : (one other : Kind) → same_kind one other ≡ true → one ≡ other
same_kinds Number Number e = refl
same_kinds Text Text e = refl
same_kinds Flag Flag e = refl
same_kinds Day Day e = refl
same_kinds Number Text e = absurd (false≢true e)
same_kinds Number Flag e = absurd (false≢true e)
same_kinds Number Day e = absurd (false≢true e)
same_kinds Text Number e = absurd (false≢true e)
same_kinds Text Flag e = absurd (false≢true e)
same_kinds Text Day e = absurd (false≢true e)
same_kinds Flag Number e = absurd (false≢true e)
same_kinds Flag Text e = absurd (false≢true e)
same_kinds Flag Day e = absurd (false≢true e)
same_kinds Day Number e = absurd (false≢true e)
same_kinds Day Text e = absurd (false≢true e)
same_kinds Day Flag e = absurd (false≢true e)

own_kind : (kind : Kind) → same_kind kind kind ≡ true
own_kind Number = refl
own_kind Text = refl
own_kind Flag = refl
own_kind Day = refl

kinds_from_zip :
    (values : List Value) (fields : List InputData) → length values ≡ length fields → list_all (λ p. has_kind p.1.kind p.0) (zip values fields) ≡ true
    → map kind_of values ≡ map (λ (d : InputData). d.kind) fields
kinds_from_zip [] [] long e = refl
kinds_from_zip [] (d ∷ ds) long e = absurd (omega arith)
kinds_from_zip (v ∷ vs) [] long e = absurd (omega arith)
kinds_from_zip (v ∷ vs) (d ∷ ds) long e =
    let both = and_parts (has_kind d.kind v) (list_all (λ p. has_kind p.1.kind p.0) (zip vs ds)) e in
    let first : kind_of v ≡ d.kind = sym (same_kinds d.kind (kind_of v) both.0) in
    let rest = kinds_from_zip vs ds (omega arith) both.1 in
    cc

zip_from_kinds :
    (values : List Value) (fields : List InputData) → map kind_of values ≡ map (λ (d : InputData). d.kind) fields
    → list_all (λ p. has_kind p.1.kind p.0) (zip values fields) ≡ true
zip_from_kinds [] fields e = refl
zip_from_kinds (v ∷ vs) [] e = refl
zip_from_kinds (v ∷ vs) (d ∷ ds) e =
    let first : kind_of v ≡ d.kind = cc in
    let rest : map kind_of vs ≡ map (λ (d : InputData). d.kind) ds = cc in
    let kind : has_kind d.kind v ≡ true = ap (same_kind d.kind) first ∙ own_kind d.kind in
    and_from (has_kind d.kind v) (list_all (λ p. has_kind p.1.kind p.0) (zip vs ds)) kind (zip_from_kinds vs ds rest)

-- a claim whose values pass the test fits the plan
pub claim_from_test :
    (plan : PlanParts) (claim : Claim) (fields : List InputData) → plan.names ≡ names_of (keeps_families plan) fields → is_some claim.family ≡ keeps_families plan
    → have_kinds claim.fields fields ≡ true → IsClaimOf plan claim
claim_from_test plan claim fields names family e =
    let both = and_parts (length claim.fields == length fields) (list_all (λ p. has_kind p.1.kind p.0) (zip claim.fields fields)) e in
    record { family = family; fields = fields; names = names; kinds = kinds_from_zip claim.fields fields (eqb-true (length claim.fields) (length fields) both.0) both.1 }

-- the values of a claim that fits the plan pass the test
pub test_from_claim :
    (plan : PlanParts) (claim : Claim) (fields : List InputData) → plan.names ≡ names_of (keeps_families plan) fields → IsClaimOf plan claim → have_kinds claim.fields fields ≡ true
test_from_claim plan claim fields names is =
    let kind = λ (d : InputData). d.kind in
    let same : is.fields ≡ fields = one_list (keeps_families plan) is.fields fields (sym is.names ∙ names) in
    let kinds : map kind_of claim.fields ≡ map kind fields = is.kinds ∙ ap (map kind) same in
    let long : length claim.fields ≡ length fields = omega (arith, ap length kinds, length-map claim.fields kind_of, length-map fields kind) in
    and_from (length claim.fields == length fields) (list_all (λ p. has_kind p.1.kind p.0) (zip claim.fields fields))
    (eq-eqb (length claim.fields) (length fields) long) (zip_from_kinds claim.fields fields kinds)

-- two flags compare as equal if and only if they are equal
pub compared_same : (one other : Bool) → beq one other ≡ true → one ≡ other
compared_same true true e = refl
compared_same true false e = sym e
compared_same false true e = e
compared_same false false e = refl

pub same_compared : (one other : Bool) → one ≡ other → beq one other ≡ true
same_compared true true e = refl
same_compared true false e = sym e
same_compared false true e = e
same_compared false false e = refl
