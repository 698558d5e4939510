-- What an explanation says of a claim, of its accumulators and of the steps of its settlement.
use Rattle.std.specs.Prelude.{ℕ, ℤ, ◌+◌, ◌-◌, List, [], ◌∷◌, ◌++◌, codes, decimal, length, take, Option, Some, None}
use Rattle.fixpoint.specs.Money.{is_money, money_text}
use Rattle.faults.specs.ReasonText.{reason_text}
use Rattle.faults.specs.declared.file_fault.RowFault.{RowFault}
use Rattle.feel_tests.specs.Value.{literal_text}
use Rattle.feel_tests.specs.declared.value.Value.TheVariants as values
use Rattle.tables.specs.declared.environment.Answer.{Answer}
use Rattle.tables.specs.declared.inputs.Slot.{Slot}
use Rattle.tables.specs.declared.roles.FamilyRoles.{FamilyRoles}
use Rattle.tables.specs.declared.roles.Roles.{Roles}
use Rattle.tables.specs.declared.roles.Source.{Source}
use Rattle.tables.specs.declared.roles.Source.TheVariants.{Output}
use Rattle.tables.specs.Environment.{Environment, answers_of}
use Rattle.tables.specs.Plan.{PlanParts}
use Rattle.settlement.specs.declared.acc.Acc.{Acc}
use Rattle.settlement.specs.declared.claim.Claim.{Claim}
use Rattle.settlement.specs.declared.outcome.Outcome.{Outcome}
use Rattle.settlement.specs.declared.outcome.Verdict.{Verdict}
use Rattle.settlement.specs.declared.outcome.Verdict.TheVariants.{Paid, Denied, Pended}
use Rattle.settlement.specs.Accumulators.{after}
use Rattle.settlement.specs.Bindings.{given_by}
use Rattle.settlement.specs.Roles.{units_where, value_of}
use Rattle.settlement.specs.Settlement.{outcome, remaining}
use Rattle.remit_records.specs.FieldTexts.{fault_text}
use Rattle.remit_records.specs.Records.{id_column_fields, line_of, reported_of, reported_refused, whose_fields}
use Rattle.remit_records.specs.Report.{record_text}
use Rattle.explanation.specs.declared.family.Standing.{Standing}
use Rattle.explanation.specs.declared.row.Place.{Place}
use Rattle.explanation.specs.Facts.{FactParts, fact, value_facts}
use Rattle.explanation.specs.Refusals.{record_at, refusal_facts}
use Rattle.explanation.specs.Tables.{ok_part, tables_facts}

-- the file and the number of a record
abbrev pub place_facts : ℕ → ℕ → List FactParts
place_facts provider number = fact (codes "this record") (codes "file") (decimal provider) ∷ fact (codes "this record") (codes "number") (decimal number) ∷ []

-- the claim of the record
abbrev pub claim_facts : Claim → List FactParts
claim_facts claim =
    fact (codes "this claim") (codes "identifier") claim.id
    ∷ fact (codes "this claim") (codes "member") claim.member
    ∷ fact (codes "this claim") (codes "day of service") (literal_text (values.Day claim.service))
    ∷ fact (codes "this claim") (codes "billed") (money_text claim.billed)
    ∷ []

-- the sums of the family, if the claim has one
abbrev pub family_facts : List ℕ → Option (List ℕ) → Acc → List FactParts
family_facts step None acc = []
family_facts step (Some family) acc =
    fact step (codes "met of the family's deductible") (money_text acc.fmet) ∷ fact step (codes "paid out of pocket by the family") (money_text acc.foop) ∷ []

-- the accumulators of the claim's account
abbrev pub accumulator_facts : List ℕ → Option (List ℕ) → Acc → List FactParts
accumulator_facts step family acc =
    fact step (codes "met of the deductible") (money_text acc.met)
    ∷ fact step (codes "paid out of pocket") (money_text acc.oop)
    ∷ fact step (codes "paid by the plan") (money_text acc.paid)
    ∷ family_facts step family acc

-- the record of the account's last claim before this one, if there is one
abbrev pub last_facts : List ℕ → Option Place → List FactParts
last_facts step None = []
last_facts step (Some place) = fact step (codes "after file") (decimal place.provider) ∷ fact step (codes "after record") (decimal place.number) ∷ []

-- what an account has before the claim
abbrev pub before_facts : List ℕ → Option (List ℕ) → Standing → List FactParts
before_facts step family before = accumulator_facts step family before.acc ++ last_facts step before.last

-- the output that a role names
abbrev pub source_text : Source → List ℕ
source_text (Output name) = codes " by the output " ++ name
source_text _ = []

-- the value of a role
abbrev pub role_facts : List Slot → Environment → List ℕ → Source → List FactParts
role_facts given env key source = value_facts (codes "settlement") (key ++ source_text source) (value_of given env source)

abbrev pub family_role_facts : List Slot → Environment → Option FamilyRoles → List FactParts
family_role_facts given env None = []
family_role_facts given env (Some limits) =
    role_facts given env (codes "family's deductible") limits.deductible ++ role_facts given env (codes "family's out-of-pocket maximum") limits.oop_max

-- the values of the roles
abbrev pub roles_facts : List Slot → Environment → Roles → List FactParts
roles_facts given env roles =
    role_facts given env (codes "cover") roles.cover
    ++ (role_facts given env (codes "fee") roles.fee
    ++ (role_facts given env (codes "deductible of the plan") roles.deductible
    ++ (role_facts given env (codes "copay of the plan") roles.copay
    ++ (role_facts given env (codes "rate") roles.rate
    ++ (role_facts given env (codes "out-of-pocket maximum") roles.oop_max ++ family_role_facts given env roles.family)))))

-- what is left of a limit, if its value is an amount of money
abbrev pub left_facts : List ℕ → Option ℤ → ℤ → List FactParts
left_facts name None used = []
left_facts name (Some limit) used = fact (codes "settlement") name (money_text (remaining limit used)) ∷ []

abbrev pub left_of : List Slot → Environment → List ℕ → Source → ℤ → List FactParts
left_of given env name source used = left_facts name (units_where is_money (value_of given env source)) used

-- what is left of the deductibles of the member and of the family
abbrev pub family_left : List Slot → Environment → List ℕ → Option Source → ℤ → List FactParts
family_left given env name None used = []
family_left given env name (Some source) used = left_of given env name source used

abbrev pub family_deductible : Option FamilyRoles → Option Source
family_deductible None = None
family_deductible (Some limits) = Some limits.deductible

abbrev pub family_maximum : Option FamilyRoles → Option Source
family_maximum None = None
family_maximum (Some limits) = Some limits.oop_max

abbrev pub money_fact : List ℕ → ℤ → FactParts
money_fact name amount = fact (codes "settlement") name (money_text amount)

-- the steps of the amounts of a paid claim: the deductible is at most what is left of the deductibles, and the share at most what is left
-- of the out-of-pocket maximums
abbrev pub paid_facts : List Slot → Environment → Roles → Acc → Outcome → List FactParts
paid_facts given env roles acc o =
    money_fact (codes "allowed") o.allowed
    ∷ (left_of given env (codes "left of the deductible") roles.deductible acc.met
    ++ (family_left given env (codes "left of the family's deductible") (family_deductible roles.family) acc.fmet
    ++ (money_fact (codes "deductible") o.ded ∷ money_fact (codes "copay") o.copay ∷ money_fact (codes "coinsurance") o.coins
    ∷ (left_of given env (codes "left of the out-of-pocket maximum") roles.oop_max acc.oop
    ++ (family_left given env (codes "left of the family's out-of-pocket maximum") (family_maximum roles.family) acc.foop
    ++ (money_fact (codes "share of the member") o.share ∷ money_fact (codes "paid by the plan") o.paid ∷ []))))))

abbrev pub amount_facts : Verdict → List Slot → Environment → Roles → Acc → Outcome → List FactParts
amount_facts Paid given env roles acc o = paid_facts given env roles acc o
amount_facts Denied given env roles acc o = []
amount_facts (Pended reason) given env roles acc o = []

-- the roles and the amounts, if all tables have answers
abbrev pub settled_facts : Option Roles → List Slot → PlanParts → Option (List (List Answer)) → Acc → Outcome → List FactParts
settled_facts (Some roles) given plan (Some answers) acc o =
    let env : Environment = record { tables = plan.tables; answers = answers } in
    roles_facts given env roles ++ amount_facts o.verdict given env roles acc o
settled_facts _ given plan _ acc o = []

-- the verdict
abbrev pub verdict_text : Verdict → List ℕ
verdict_text Paid = codes "paid"
verdict_text Denied = codes "denied, since the value of cover is not true"
verdict_text (Pended reason) = codes "pended by " ++ reason_text reason

-- a text without its line end of two bytes
abbrev pub without_end : List ℕ → List ℕ
without_end text = take (length text - 2) text

-- a record of the remittance by its text
abbrev pub line_facts : List ℕ → List FactParts
line_facts text = fact (codes "remittance") (codes "record") (without_end text) ∷ []

-- the record of the remittance with these fields
abbrev pub record_facts : List (List ℕ) → List FactParts
record_facts fields = line_facts (record_text fields)

-- the fields of the remittance for a claim
abbrev pub claim_record : ℕ → ℕ → ℕ → Claim → Option Outcome → List (List ℕ)
claim_record version provider number claim decided = line_of provider number (id_column_fields version claim) (reported_of decided)

-- the fields of the remittance for a refused record
abbrev pub refused_record : ℕ → ℕ → ℕ → RowFault → List (List ℕ)
refused_record version provider number fault = line_of provider number (whose_fields version [] [] [] []) (reported_refused fault)

-- the tables, the roles and the amounts
abbrev pub computation_facts : PlanParts → List Slot → Acc → Outcome → List FactParts
computation_facts plan given acc o =
    tables_facts given [] plan.tables ++ settled_facts plan.roles given plan (ok_part (answers_of given [] plan.tables)) acc o

-- the computation of an outcome, its verdict, and the accumulators after it
abbrev pub outcome_facts : PlanParts → Claim → Acc → Outcome → List FactParts
outcome_facts plan claim acc o =
    computation_facts plan (given_by claim acc) acc o
    ++ (fact (codes "settlement") (codes "verdict") (verdict_text o.verdict) ∷ accumulator_facts (codes "after this claim") claim.family (after acc o))

-- a claim that is decided at a position, from 0, and what its account has before it
abbrev pub decided_facts : PlanParts → ℕ → ℕ → Claim → ℕ → Standing → List FactParts
decided_facts plan provider number claim position before =
    let acc = before.acc in
    let o = outcome plan claim acc in
    place_facts provider number
    ++ (claim_facts claim
    ++ (fact (codes "this claim") (codes "position in the order of acceptance") (decimal (position + 1))
    ∷ (before_facts (codes "before this claim") claim.family before
    ++ (outcome_facts plan claim acc o ++ record_facts (claim_record plan.version provider number claim (Some o))))))

-- a claim that comes after the last one that the cutoff admits
abbrev pub late_facts : ℕ → ℕ → ℕ → Claim → ℕ → List FactParts
late_facts version provider number claim cutoff =
    place_facts provider number
    ++ (claim_facts claim
    ++ (fact (codes "this claim") (codes "late after the cutoff") (decimal cutoff) ∷ record_facts (claim_record version provider number claim None)))

-- a refused record of the file with this text
abbrev pub refused_facts : ℕ → ℕ → ℕ → List ℕ → RowFault → List FactParts
refused_facts version provider number text fault =
    place_facts provider number
    ++ (refusal_facts (record_at text 0) (record_at text number) fault
    ++ (fact (codes "this record") (codes "refused by") (fault_text fault) ∷ record_facts (refused_record version provider number fault)))
