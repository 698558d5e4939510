-- For given terms there is at most one remittance in an order of acceptance.
use Rattle.std.proofs.Common.{◌≡◌, ◌≢◌, ℕ, List, [], ◌∷◌, ◌++◌, map, take, length, get_or, slice_get, fold, Option, None, option_map, option_and_then, refl, sym, ap, ◌∙◌, subst}
use Rattle.std.specs.List.{AllZip}
use Rattle.fixpoint.specs.Money.{money_text}
use Rattle.tables.specs.Plan.{IsPlan, PlanParts}
use Rattle.settlement.specs.Accounts.{Account, account_of}
use Rattle.settlement.specs.Opening.{opening}
use Rattle.settlement.specs.declared.claim.Claim.{Claim}
use Rattle.settlement.specs.declared.outcome.Outcome.{Outcome}
use Rattle.intake_csv.specs.Laws.{TextHasOneListOfRows}
use Rattle.intake_csv.specs.Rows.{AreRowsOf, claims_among}
use Rattle.intake_csv.specs.declared.rows.Row.{Row}
use Rattle.journal.specs.Settled.{outcome_of}
use Rattle.journal.specs.Terms.{Terms, at_most, claims_in, claims_in_all}
use Rattle.journal.specs.Events.{Book, Filed, accepted_count, accepts, noted}
use Rattle.journal.specs.Laws.{FinishedTakesAll}
use Rattle.claim_gate.specs.Terms.{AreClaimsOf, AreTermsOf, TermsParts}
use Rattle.feel_tests.specs.Plain.{SpellsOnePlain}
use Rattle.orders.proofs.Openings.{openings-one}
use Rattle.remit_records.specs.Amounts.{amounts, amount_of}
use Rattle.remit_records.specs.Decided.{position_from}
use Rattle.remit_records.specs.Records.{header_fields, records_of, total_front}
use Rattle.remit_records.specs.Report.{text_of}
use Rattle.journal.specs.InOrder.{AreFirstInOrder, OrderIsOne}
use Rattle.journal.specs.declared.order.Order.{Order}
use Rattle.journal.specs.declared.order.Order.TheVariants.{Any}
use Rattle.orders.specs.Order.{outcome_by, paid_part, report_by, sum_below}
use Rattle.orders.specs.Remittance.{AreAlike, IsOrderedRemittanceOf}
use Rattle.orders.proofs.Filing.{same_claims}
use Rattle.orders.proofs.Reports.{report_so}

-- each text has at most one list of rows
rows_one : TextHasOneListOfRows → (plan : PlanParts) → IsPlan plan → (texts : List (List ℕ)) (one other : List (List Row)) → AllZip (AreRowsOf plan.names) texts one → AllZip (AreRowsOf plan.names) texts other
    → one ≡ other
rows_one law plan is [] [] [] a b = refl
rows_one law plan is [] [] (y ∷ ys) a b = absurd b
rows_one law plan is [] (x ∷ xs) ys a b = absurd a
rows_one law plan is (t ∷ ts) [] ys a b = absurd a
rows_one law plan is (t ∷ ts) (x ∷ xs) [] a b = absurd b
rows_one law plan is (t ∷ ts) (x ∷ xs) (y ∷ ys) a b =
    let first : x ≡ y = law plan t x y is a.0 b.0 in
    let rest : xs ≡ ys = rows_one law plan is ts xs ys a.1 b.1 in
    λ i. first i ∷ rest i

-- each text has at most one list of claims
claims_one : TextHasOneListOfRows → (plan : PlanParts) → IsPlan plan → (texts : List (List ℕ)) (one other : List (List Claim)) → AllZip (AreClaimsOf plan.names) texts one
    → AllZip (AreClaimsOf plan.names) texts other → one ≡ other
claims_one law plan is [] [] [] a b = refl
claims_one law plan is [] [] (y ∷ ys) a b = absurd b
claims_one law plan is [] (x ∷ xs) ys a b = absurd a
claims_one law plan is (t ∷ ts) [] ys a b = absurd a
claims_one law plan is (t ∷ ts) (x ∷ xs) [] a b = absurd b
claims_one law plan is (t ∷ ts) (x ∷ xs) (y ∷ ys) a b =
    let same = law plan t a.0.rows b.0.rows is a.0.are_rows b.0.are_rows in
    let first : x ≡ y = a.0.claims_are ∙ ap claims_among same ∙ sym b.0.claims_are in
    let rest : xs ≡ ys = claims_one law plan is ts xs ys a.1 b.1 in
    λ i. first i ∷ rest i

-- the outcomes depend only on the plan, the claims of the files and the opening balances
outcomes_of : PlanParts → List (List Claim) → Book → List Filed → ℕ → Option Outcome
outcomes_of plan files book order k =
    option_map
    (λ claim. outcome_of plan claim (fold (noted plan) book (take k (map (λ (f : Filed). slice_get (claims_in files f.provider) f.place) order)) (account_of plan claim)))
    (get_or (map (λ (f : Filed). slice_get (claims_in files f.provider) f.place) order) k None)

outcomes_are : (T : Terms) (order : List Filed) → outcome_by T order ≡ outcomes_of T.plan T.files (opening T.balances) order
unfolding outcomes_of
outcomes_are T order = refl

-- the records of the remittance depend only on the version, the outcomes, the order and the rows
report_of : ℕ → (ℕ → Option Outcome) → List Filed → List (List Row) → List (List (List ℕ))
report_of version outcome order files =
    header_fields version
    ∷ (records_of (record { version = version; decided = λ provider place. option_and_then outcome (position_from 0 order provider place) }) 1 files
    ++ (total_front version (length order)
    ++ (map (λ amount. money_text (sum_below (length order) (λ k. paid_part (amount_of amount) (outcome k)))) amounts ++ [] ∷ []))
    ∷ [])

report_is : (version : ℕ) (T : Terms) (order : List Filed) (files : List (List Row)) → report_by version T order files ≡ report_of version (outcome_by T order) order files
unfolding report_of
report_is version T order files = refl

pub one_remittance : FinishedTakesAll → OrderIsOne → TextHasOneListOfRows → (order : Order) (parts other : TermsParts) (bytes others : List ℕ) → order ≢ Any → IsPlan parts.plan → AreAlike parts other
    → IsOrderedRemittanceOf order parts bytes → IsOrderedRemittanceOf order other others → bytes ≡ others
one_remittance all one law order parts other bytes others ordered is alike a b =
    let T = a.terms in
    let U = b.terms in
    let S = a.are_terms in
    let V = b.are_terms in
    let plan : T.plan ≡ U.plan = S.plan ∙ alike.plan ∙ sym V.plan in
    let theirs : AllZip (AreClaimsOf parts.plan.names) parts.files U.files =
    subst (λ (p : PlanParts). AllZip (AreClaimsOf p.names) parts.files U.files) (sym alike.plan) (subst (λ ts. AllZip (AreClaimsOf other.plan.names) ts U.files) (sym alike.files) V.files) in
    let files : T.files ≡ U.files = claims_one law parts.plan is parts.files T.files U.files S.files theirs in
    let opened : (account : Account) → opening T.balances account ≡ opening U.balances account = λ account. S.openings account ∙ alike.openings account ∙ sym (V.openings account) in
    let books : ◌≡◌ {A = Book} (opening T.balances) (opening U.balances) = λ i account. opened account i in
    let cutoff : T.cutoff ≡ U.cutoff = S.cutoff ∙ alike.cutoff ∙ sym V.cutoff in
    let as_many : accepted_count a.journal ≡ accepted_count b.journal = all T a.journal a.finished ∙ (λ i. at_most (cutoff i) (claims_in_all (files i))) ∙ sym (all U b.journal b.finished) in
    let theirs_here : AreFirstInOrder order T.files (accepts b.journal) = subst (λ fs. AreFirstInOrder order fs (accepts b.journal)) (sym files) b.ordered in
    let accepted : accepts a.journal ≡ accepts b.journal = same_claims one order T.files (accepts a.journal) (accepts b.journal) ordered a.ordered theirs_here as_many in
    let outcomes : outcome_by T (accepts a.journal) ≡ outcome_by U (accepts b.journal) =
    outcomes_are T (accepts a.journal) ∙ (λ i. outcomes_of (plan i) (files i) (books i) (accepted i)) ∙ sym (outcomes_are U (accepts b.journal)) in
    let rows_theirs : AllZip (AreRowsOf parts.plan.names) parts.files b.report.files =
    subst (λ (p : PlanParts). AllZip (AreRowsOf p.names) parts.files b.report.files) (sym alike.plan) (subst (λ ts. AllZip (AreRowsOf other.plan.names) ts b.report.files) (sym alike.files) b.report.are_rows) in
    let rows : a.report.files ≡ b.report.files = rows_one law parts.plan is parts.files a.report.files b.report.files a.report.are_rows rows_theirs in
    let version : parts.plan.version ≡ other.plan.version = ap (λ (p : PlanParts). p.version) alike.plan in
    let mine = report_so parts.plan.version T a.journal a.report.files a.finished ∙ report_is parts.plan.version T (accepts a.journal) a.report.files in
    let yours = report_so other.plan.version U b.journal b.report.files b.finished ∙ report_is other.plan.version U (accepts b.journal) b.report.files in
    a.report.bytes_are ∙ ap text_of mine
    ∙ (λ i. text_of (report_of (version i) (outcomes i) (accepted i) (rows i)))
    ∙ sym (b.report.bytes_are ∙ ap text_of yours)

pub texts_have_one : FinishedTakesAll → OrderIsOne → TextHasOneListOfRows → SpellsOnePlain → (order : Order) (plan : PlanParts) (files : List (List ℕ)) (balances : Option (List ℕ)) (cutoff : Option ℕ) (parts other : TermsParts)
    (bytes others : List ℕ) → order ≢ Any → IsPlan plan → AreTermsOf plan files balances cutoff parts → AreTermsOf plan files balances cutoff other → IsOrderedRemittanceOf order parts bytes
    → IsOrderedRemittanceOf order other others → bytes ≡ others
texts_have_one all one law plain order plan files balances cutoff parts other bytes others ordered is a b =
    one_remittance all one law order parts other bytes others ordered (subst IsPlan (sym a.plan_is) is)
    (record {
      plan = a.plan_is ∙ sym b.plan_is;
      files = a.files_are ∙ sym b.files_are;
      openings = openings-one plain plan balances parts.balances other.balances a.balances_are b.balances_are;
      cutoff = a.cutoff_is ∙ sym b.cutoff_is;
    })
