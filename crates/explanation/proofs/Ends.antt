-- An explanation ends with its record of the remittance.
use Rattle.std.proofs.Common.{inl, inr, ◌≡◌, ◌≢◌, ℕ, zero, suc, ◌+◌, ◌-◌, ◌<◌, ◌≤◌, ◌==◌, ◌&&◌, false, List, [], ◌∷◌, ◌++◌, flat_map, fold, map, drop, take, length, get_or, slice_get, Option, Some, None, option_map, option_and_then, refl, sym, ap, ap₂, subst, ◌∙◌, arith, append_assoc, length-append, eqb-true, eq-eqb}
use Rattle.std.specs.Prelude.{codes, decimal}
use Rattle.std.specs.List.{AllZip}
use Rattle.std.proofs.lemmas.Bool.{and_parts, cases_Bool, cases_eq, cases_lt, cond-false, cond-true}
use Rattle.std.proofs.lemmas.List.{length-map, length_push, map-append, take-append-drop, take-append-le, take_all}
use Rattle.std.proofs.lemmas.Option.{none-some, same_Some, slice_get-get_or, slice_get_within}
use Rattle.settlement.specs.Accounts.{account_of}
use Rattle.settlement.specs.Opening.{opening}
use Rattle.settlement.specs.Settlement.{outcome}
use Rattle.settlement.specs.declared.claim.Claim.{Claim}
use Rattle.settlement.specs.declared.outcome.Outcome.{Outcome}
use Rattle.tables.specs.Plan.{PlanParts}
use Rattle.dtable.specs.PlanFile.{SpellsOnePlan}
use Rattle.feel_tests.specs.Plain.{SpellsOnePlain}
use Rattle.intake_csv.specs.Rows.{AreRowsOf}
use Rattle.intake_csv.specs.declared.rows.Row.{Row}
use Rattle.intake_csv.specs.declared.rows.Row.TheVariants.{Good, Bad}
use Rattle.journal.specs.Events.{Filed, accepted_count, accepts, claim_filed, noted, places}
use Rattle.journal.specs.InOrder.{AreFirstInOrder, IsNextInOrder, OrderIsOne, filed_count, place_of}
use Rattle.journal.specs.Laws.{FinishedTakesAll}
use Rattle.journal.specs.Lawful.{Finished}
use Rattle.journal.specs.Terms.{Terms, all_claims, at_most, claims_in}
use Rattle.journal.specs.declared.event.Event.{Event}
use Rattle.journal.specs.declared.order.Order.{Order}
use Rattle.journal.specs.declared.order.Order.TheVariants.{Any}
use Rattle.journal.proofs.Counts.{accepted_by_provider, claims_by_provider, claims_known, sum_to, sum_to-le}
use Rattle.journal.proofs.Fronts.{slice_get_at}
use Rattle.journal.proofs.Grown.{slice_get-append}
use Rattle.journal.proofs.InOrder.{places_counted}
use Rattle.claim_gate.specs.Terms.{AreBalancesOf, AreClaimsOf, IsTermsOf, TermsParts}
use Rattle.remit_records.specs.Decided.{decided_as, decision_at, position_from}
use Rattle.remit_records.specs.FieldTexts.{fault_text}
use Rattle.remit_records.specs.Records.{Deciding, header_fields, id_column_fields, record_of, records_of, reported_of, reported_refused, status_fields, total_fields, whose_fields}
use Rattle.remit_records.specs.Report.{IsReport, report_records, reported_by_journal, text_of}
use Rattle.orders.specs.Order.{before_by, claims_by, settled_by}
use Rattle.orders.proofs.Openings.{openings-one}
use Rattle.orders.proofs.Outcomes.{decided_so}
use Rattle.explanation.specs.Cases.{IsAccepted, IsCase, IsLate, IsRowAt}
use Rattle.explanation.specs.Explanation.{IsExplanationOf, IsFactsOf, facts_of_case}
use Rattle.explanation.specs.Facts.{FactParts, fact, facts_text}
use Rattle.explanation.specs.Laws.{EndsWithRecord, ExplanationEndsWithItsRecord}
use Rattle.explanation.specs.Refusals.{record_at, refusal_facts}
use Rattle.explanation.specs.Steps.{before_facts, claim_facts, claim_record, outcome_facts, place_facts, record_facts, refused_record}
use Rattle.explanation.specs.declared.family.Standing.{Standing}
use Rattle.explanation.specs.declared.format.Format.{Format}
use Rattle.explanation.specs.declared.row.Place.{Place}
use Rattle.explanation.specs.declared.search.Case.{Case}
use Rattle.explanation.specs.declared.search.Case.TheVariants.{Accepted, Late}
use Rattle.explanation.proofs.Rows.{number_in, row_filed, row_numbered, split_at, zip_at}
use Rattle.explanation.proofs.Settling.{front_counts}
use Rattle.explanation.proofs.Sharing.{same_outcome}

-- the records of the files, with the one of a row
record Split (by : Deciding) (first : ℕ) (files : List (List Row)) (provider : ℕ) (row : Row) : Type 0 where
  earlier : List (List (List ℕ))
  later : List (List (List ℕ))
  records_are : records_of by first files ≡ earlier ++ record_of by provider row ∷ later

split_records : (by : Deciding) (first : ℕ) (files : List (List Row)) (i k : ℕ) (row : Row) → slice_get (get_or files i []) k ≡ Some row → Split by first files (first + i) row
split_records by first [] i k row at = absurd (none-some row at)
split_records by first (rows ∷ rest) zero k row at = record {
  earlier = map (record_of by first) (take k rows);
  later = map (record_of by first) (drop (suc k) rows) ++ records_of by (suc first) rest;
  records_are =
      let same : first ≡ first + 0 = omega arith in
      ap (λ rs. map (record_of by first) rs ++ records_of by (suc first) rest) (split_at rows k row at)
      ∙ ap (λ rs. rs ++ records_of by (suc first) rest) (map-append (record_of by first) (take k rows) (row ∷ drop (suc k) rows))
      ∙ append_assoc (map (record_of by first) (take k rows)) (record_of by first row ∷ map (record_of by first) (drop (suc k) rows)) (records_of by (suc first) rest)
      ∙ ap (λ p. map (record_of by first) (take k rows) ++ record_of by p row ∷ (map (record_of by first) (drop (suc k) rows) ++ records_of by (suc first) rest)) same;
}
split_records by first (rows ∷ rest) (suc i) k row at =
    let s = split_records by (suc first) rest i k row at in
    let same : suc first + i ≡ first + suc i = omega arith in
    record {
      earlier = map (record_of by first) rows ++ s.earlier;
      later = s.later;
      records_are =
          ap (λ rs. map (record_of by first) rows ++ rs) (s.records_are ∙ ap (λ p. s.earlier ++ record_of by p row ∷ s.later) same)
          ∙ sym (append_assoc (map (record_of by first) rows) s.earlier (record_of by (first + suc i) row ∷ s.later));
    }

-- the claims of a provider that come before one of its claims in a list are fewer than all
counts_more : (claims : List Filed) (n : ℕ) (other : Filed) → slice_get claims n ≡ Some other → filed_count other.provider (take n claims) < filed_count other.provider claims
counts_more [] n other at = absurd (none-some other at)
counts_more (filed ∷ claims) zero other at =
    let same : filed ≡ other = same_Some filed other at in
    let one : length (place_of other.provider filed) ≡ 1 = ap (λ (f : Filed). length (place_of other.provider f)) same ∙ ap length (cond-true (other.provider == other.provider) (other.place ∷ []) [] (eq-eqb other.provider other.provider refl)) in
    let whole = length-append (place_of other.provider filed) (flat_map (place_of other.provider) claims) in
    omega (arith, one, whole)
counts_more (filed ∷ claims) (suc n) other at =
    let rest = counts_more claims n other at in
    let front = length-append (place_of other.provider filed) (flat_map (place_of other.provider) (take n claims)) in
    let whole = length-append (place_of other.provider filed) (flat_map (place_of other.provider) claims) in
    omega (arith, rest, front, whole)

-- a claim of a list of first claims is before the next one of its file
place_below : (order : Order) (files : List (List Claim)) (claims : List Filed) → AreFirstInOrder order files claims → (n : ℕ) (other : Filed) → slice_get claims n ≡ Some other
    → other.place < filed_count other.provider claims
place_below order files claims first n other at =
    let place = ap (λ (f : Filed). f.place) (first n other at).follows in
    let fewer = counts_more claims n other at in
    omega (arith, place, fewer)

-- no claim of the list is this one
abbrev IsApart : List Filed → ℕ → ℕ → Type 0
IsApart claims provider place = (n : ℕ) (other : Filed) → slice_get claims n ≡ Some other → other.provider ≡ provider → other.place ≢ place

differs : (other : Filed) (provider place : ℕ) → (other.provider ≡ provider → other.place ≢ place) → ((other.provider == provider) && (other.place == place)) ≡ false
differs other provider place apart = elim (cases_Bool ((other.provider == provider) && (other.place == place))) [
  | inl same ↦
      let both = and_parts (other.provider == provider) (other.place == place) same in
      absurd (apart (eqb-true other.provider provider both.0) (eqb-true other.place place both.1))
  | inr other ↦ other
]

not_among : (first : ℕ) (claims : List Filed) (provider place : ℕ) → IsApart claims provider place → position_from first claims provider place ≡ None
not_among first [] provider place apart = refl
not_among first (filed ∷ claims) provider place apart =
    cond-false ((filed.provider == provider) && (filed.place == place)) (Some first) (position_from (suc first) claims provider place) (differs filed provider place (apart 0 filed refl))
    ∙ not_among (suc first) claims provider place (λ n other at. apart (suc n) other at)

among : (first : ℕ) (earlier : List Filed) (filed : Filed) (later : List Filed) → IsApart earlier filed.provider filed.place
    → position_from first (earlier ++ filed ∷ later) filed.provider filed.place ≡ Some (first + length earlier)
among first [] filed later apart =
    let here = ap₂ (λ a b. a && b) (eq-eqb filed.provider filed.provider refl) (eq-eqb filed.place filed.place refl) in
    let same : first ≡ first + 0 = omega arith in
    cond-true ((filed.provider == filed.provider) && (filed.place == filed.place)) (Some first) (position_from (suc first) later filed.provider filed.place) here ∙ ap Some same
among first (other ∷ earlier) filed later apart =
    let same : suc first + length earlier ≡ first + suc (length earlier) = omega arith in
    cond-false ((other.provider == filed.provider) && (other.place == filed.place)) (Some first) (position_from (suc first) (earlier ++ filed ∷ later) filed.provider filed.place)
    (differs other filed.provider filed.place (apart 0 other refl))
    ∙ among (suc first) earlier filed later (λ n o at. apart (suc n) o at) ∙ ap Some same

-- a sum is less than another one if none of its parts is greater and one is less
sum_less : (n q : ℕ) (f g : ℕ → ℕ) → ((p : ℕ) → 1 ≤ p → p ≤ n → f p ≤ g p) → 1 ≤ q → q ≤ n → f q < g q → sum_to n f < sum_to n g
sum_less zero q f g each least most less = absurd (omega (arith, least, most))
sum_less (suc n) q f g each least most less = elim (cases_eq q (suc n)) [
  | inl same ↦
      let rest = sum_to-le n f g (λ p l m. each p l (omega (arith, m))) in
      let last : f (suc n) < g (suc n) = subst (λ p. f p < g p) same less in
      omega (arith, rest, last)
  | inr other ↦
      let rest = sum_less n q f g (λ p l m. each p l (omega (arith, m))) least (omega (arith, most, other)) less in
      let last = each (suc n) (omega arith) (omega arith) in
      omega (arith, rest, last)
]

module _ (T : Terms) (J : List Event) (F : Finished T J) (all : FinishedTakesAll) (one : OrderIsOne) (order : Order) (asked : order ≢ Any) (ordered : AreFirstInOrder order T.files (accepts J)) where
  -- a journal that accepts all claims leaves none
  none_next : accepted_count J ≡ all_claims T → (other : Filed) → ¬ IsNextInOrder order T.files (accepts J) other
  none_next whole other next =
      let q = other.provider in
      let place : other.place ≡ filed_count q (accepts J) = ap (λ (f : Filed). f.place) next.follows in
      let there = next.there in
      let counted : length (places J q) ≡ filed_count q (accepts J) = ap length (places_counted J q) in
      let range = claims_known T.files q (omega (arith, there)) in
      let fewer : length (places J q) < length (claims_in T.files q) = omega (arith, place, there, counted) in
      let less = sum_less (length T.files) q (λ p. length (places J p)) (λ p. length (claims_in T.files p)) (λ p l m. F.lawful.sound.within p) range.0 range.1 fewer in
      let mine = accepted_by_provider T J F.lawful.sound in
      let theirs = claims_by_provider T.files in
      omega (arith, whole, less, mine, theirs)

  -- the journal accepts each claim of the order that the cutoff admits
  accepts_enough : (claims : List Filed) → AreFirstInOrder order T.files claims → ((count : ℕ) → T.cutoff ≡ Some count → length claims ≤ count) → length claims ≤ length (accepts J)
  accepts_enough claims first within = elim (cases_lt (length (accepts J)) (length claims)) [
    | inl fewer ↦
        let n = length (accepts J) in
        let d : Filed = record { provider = 0; place = 0 } in
        let next = get_or claims n d in
        let at : slice_get claims n ≡ Some next = slice_get-get_or claims n d fewer in
        let front : accepts J ≡ take n claims = one order T.files (accepts J) claims asked ordered first (omega (arith, fewer)) in
        let whole : accepted_count J ≡ all_claims T = all_taken T.cutoff (all_claims T) (accepted_count J) (all T J F) (λ count is. let w = within count is in omega (arith, fewer, w)) in
        absurd (none_next whole next (subst (λ earlier. IsNextInOrder order T.files earlier next) (sym front) (first n next at)))
    | inr enough ↦ enough
  ]
    where
      all_taken : (cutoff : Option ℕ) (n count : ℕ) → count ≡ at_most cutoff n → ((limit : ℕ) → cutoff ≡ Some limit → count < limit) → count ≡ n
      all_taken None n count is below = is
      all_taken (Some limit) n count is below = let less = below limit refl in omega (arith, is, less)

  module _ (parts : TermsParts) (terms : IsTermsOf parts T) (same_order : parts.order ≡ order) (filed : Filed) (claim : Claim) (located : claim_filed T filed ≡ Some claim) where
    -- the decision on a claim that is accepted
    decided_accepted : (position : ℕ) (before : Standing) → IsAccepted parts T filed claim position before → decided_as J filed.provider filed.place ≡ Some (outcome T.plan claim before.acc)
    decided_accepted position before is =
        let earlier = is.earlier in
        let claims = earlier ++ filed ∷ [] in
        let first : AreFirstInOrder order T.files claims = subst (λ o. AreFirstInOrder o T.files claims) same_order is.in_order in
        let size = length_push earlier filed in
        let counted = is.counted in
        let enough = accepts_enough claims first (λ count cutoff. let below = is.within count cutoff in omega (arith, below, size, counted)) in
        let later = drop (length claims) (accepts J) in
        let whole : accepts J ≡ earlier ++ filed ∷ later =
        sym (take-append-drop (length claims) (accepts J)) ∙ ap (λ front. front ++ later) (sym (one order T.files claims (accepts J) asked first ordered enough)) ∙ append_assoc earlier (filed ∷ []) later in
        let next = next_of_front earlier filed first in
        let place = ap (λ (f : Filed). f.place) next.follows in
        let apart : IsApart earlier filed.provider filed.place = λ n other at same also.
        let below = place_below order T.files earlier (earlier_first earlier filed first) n other at in
        let counts : filed_count other.provider earlier ≡ filed_count filed.provider earlier = ap (λ p. filed_count p earlier) same in
        omega (arith, below, counts, place, also) in
        let start : 0 + length earlier ≡ position = omega (arith, counted) in
        let found : position_from 0 (accepts J) filed.provider filed.place ≡ Some position =
        ap (λ cs. position_from 0 cs filed.provider filed.place) whole ∙ among 0 earlier filed later apart ∙ ap Some start in
        let inside : position < accepted_count J = omega (arith, enough, size, counted) in
        let by : claims_by T (accepts J) ≡ claims_by T earlier ++ claim_filed T filed ∷ claims_by T later = ap (map (claim_filed T)) whole ∙ map-append (claim_filed T) earlier (filed ∷ later) in
        let long : length (claims_by T earlier) ≡ position = length-map earlier (claim_filed T) ∙ sym counted in
        let here : get_or (claims_by T (accepts J)) position None ≡ Some claim =
        ap (λ cs. get_or cs position None) by ∙ ap (λ n. get_or (claims_by T earlier ++ claim_filed T filed ∷ claims_by T later) n None) (sym long) ∙ get_or_middle (claims_by T earlier) (claim_filed T filed) (claims_by T later) ∙ located in
        let fronts : take position (claims_by T (accepts J)) ≡ take position (claims_by T earlier) =
        ap (take position) by ∙ take-append-le position (claims_by T earlier) (claim_filed T filed ∷ claims_by T later) (omega (arith, long)) in
        let acc : before.acc ≡ before_by T (accepts J) position (account_of T.plan claim) =
        is.acc ∙ ap (λ cs. fold (noted T.plan) (opening T.balances) cs (account_of T.plan claim)) (sym fronts) in
        ap (option_and_then (decision_at J)) found
        ∙ decided_so T J position F inside
        ∙ ap (option_map (settled_by T (accepts J) position)) here
        ∙ ap Some (same_outcome T.plan claim (before_by T (accepts J) position (account_of T.plan claim)) ∙ ap (outcome T.plan claim) (sym acc))
      where
        get_or_middle : (xs : List (Option Claim)) (x : Option Claim) (ys : List (Option Claim)) → get_or (xs ++ x ∷ ys) (length xs) None ≡ x
        get_or_middle [] x ys = refl
        get_or_middle (y ∷ xs) x ys = get_or_middle xs x ys

        next_of_front : (earlier : List Filed) (filed : Filed) → AreFirstInOrder order T.files (earlier ++ filed ∷ []) → IsNextInOrder order T.files earlier filed
        next_of_front earlier filed first =
            subst (λ w. IsNextInOrder order T.files w filed) (take-append-le (length earlier) earlier (filed ∷ []) (omega arith) ∙ take_all (length earlier) earlier (omega arith))
            (first (length earlier) filed (slice_get_at earlier filed []))

        earlier_first : (earlier : List Filed) (filed : Filed) → AreFirstInOrder order T.files (earlier ++ filed ∷ []) → AreFirstInOrder order T.files earlier
        earlier_first earlier filed first n other at =
            let within = slice_get_within earlier n other at in
            subst (λ w. IsNextInOrder order T.files w other) (take-append-le n earlier (filed ∷ []) (omega (arith, within)))
            (first n other (slice_get-append earlier (filed ∷ []) n other at))

    -- there is no decision on a claim that is late
    decided_late : (cutoff : ℕ) → IsLate parts T filed cutoff → decided_as J filed.provider filed.place ≡ None
    decided_late cutoff is =
        let claims = is.claims in
        let first : AreFirstInOrder order T.files claims = subst (λ o. AreFirstInOrder o T.files claims) same_order is.in_order in
        let counted = is.counted in
        let most : accepted_count J ≤ cutoff = let count = all T J F ∙ ap (λ c. at_most c (all_claims T)) is.admitted in omega (arith, count) in
        let front : accepts J ≡ take (length (accepts J)) claims = one order T.files (accepts J) claims asked ordered first (omega (arith, most, counted)) in
        let fewer : filed_count filed.provider (accepts J) ≤ filed_count filed.provider claims =
        subst (λ cs. filed_count filed.provider cs ≤ filed_count filed.provider claims) (sym front) (front_counts filed.provider (length (accepts J)) claims) in
        let missing = is.missing in
        let apart : IsApart (accepts J) filed.provider filed.place = λ n other at same also.
        let below = place_below order T.files (accepts J) ordered n other at in
        let counts : filed_count other.provider (accepts J) ≡ filed_count filed.provider (accepts J) = ap (λ p. filed_count p (accepts J)) same in
        omega (arith, below, counts, fewer, missing, also) in
        ap (option_and_then (decision_at J)) (not_among 0 (accepts J) filed.provider filed.place apart)

-- the facts of a row end with its record
record FactsEnd (facts : List FactParts) (fields : List (List ℕ)) : Type 0 where
  front : List FactParts
  facts_are : facts ≡ front ++ record_facts fields

module _ (T : Terms) (J : List Event) (F : Finished T J) (all : FinishedTakesAll) (one : OrderIsOne) (parts : TermsParts) (asked : parts.order ≢ Any) (ordered : AreFirstInOrder parts.order T.files (accepts J))
    (terms : IsTermsOf parts T) (provider : ℕ) where
  abbrev by : Deciding
  by = reported_by_journal parts.plan.version J

  of_case : (number place : ℕ) (claim : Claim) (decided : Option Outcome) (front : List FactParts) (facts : List FactParts) → facts ≡ front ++ record_facts (claim_record parts.plan.version provider number claim decided)
      → decided_as J provider place ≡ decided → FactsEnd facts (record_of by provider (Good number place claim))
  of_case number place claim decided front facts are is = record {
    front = front;
    facts_are = are ∙ ap (λ d. front ++ record_facts (claim_record parts.plan.version provider number claim d)) (sym is);
  }

  ends_so : (row : Row) (facts : List FactParts) → ((number place : ℕ) (claim : Claim) → row ≡ Good number place claim → claim_filed T (record { provider = provider; place = place }) ≡ Some claim)
      → IsFactsOf parts T provider facts row → FactsEnd facts (record_of by provider row)
  ends_so (Bad number fault) facts there are =
      let text = get_or parts.files (provider - 1) [] in
      let refusal = refusal_facts (record_at text 0) (record_at text number) fault in
      let reason = fact (codes "this record") (codes "refused by") (fault_text fault) ∷ [] in
      let last = record_facts (refused_record parts.plan.version provider number fault) in
      record {
        front = place_facts provider number ++ (refusal ++ reason);
        facts_are = are ∙ ap (λ (fs : List FactParts). place_facts provider number ++ fs) (sym (append_assoc refusal reason last));
      }
  ends_so (Good number place claim) facts there are = by_case are.case are.is_case are.facts_are
    where
      by_case : (case : Case) → IsCase parts T (record { provider = provider; place = place }) claim case → facts ≡ facts_of_case parts provider number claim case → FactsEnd facts (record_of by provider (Good number place claim))
      by_case (Accepted position before) is_case made =
          let o = outcome parts.plan claim before.acc in
          let start = fact (codes "this claim") (codes "position in the order of acceptance") (decimal (position + 1)) in
          let middle = before_facts (codes "before this claim") claim.family before in
          let computed = outcome_facts parts.plan claim before.acc o in
          let last = record_facts (claim_record parts.plan.version provider number claim (Some o)) in
          let decided = decided_accepted T J F all one parts.order asked ordered parts terms refl (record { provider = provider; place = place }) claim (there number place claim refl) position before is_case in
          of_case number place claim (Some o) (place_facts provider number ++ (claim_facts claim ++ (start ∷ (middle ++ computed)))) facts
          (made ∙ ap (λ (fs : List FactParts). place_facts provider number ++ (claim_facts claim ++ (start ∷ fs))) (sym (append_assoc middle computed last)))
          (decided ∙ ap (λ (plan : PlanParts). Some (outcome plan claim before.acc)) terms.plan)
      by_case (Late cutoff) is_case made =
          let start = fact (codes "this claim") (codes "late after the cutoff") (decimal cutoff) in
          of_case number place claim None (place_facts provider number ++ (claim_facts claim ++ (start ∷ []))) facts made
          (decided_late T J F all one parts.order asked ordered parts terms refl (record { provider = provider; place = place }) claim (there number place claim refl) cutoff is_case)

-- the first two fields of a row's record
numbered : (by : Deciding) (provider number : ℕ) (row : Row) → number_in row ≡ number → (others : List (List ℕ)) × (record_of by provider row ≡ decimal provider ∷ decimal number ∷ others)
numbered by provider number (Good n place claim) same =
    (id_column_fields by.version claim ++ status_fields (reported_of (by.decided provider place)), ap (λ m. decimal provider ∷ decimal m ∷ (id_column_fields by.version claim ++ status_fields (reported_of (by.decided provider place)))) same)
numbered by provider number (Bad n fault) same =
    (whose_fields by.version [] [] [] [] ++ status_fields (reported_refused fault), ap (λ m. decimal provider ∷ decimal m ∷ (whose_fields by.version [] [] [] [] ++ status_fields (reported_refused fault))) same)

-- an explanation and a remittance of the same terms
pub ends_over : FinishedTakesAll → OrderIsOne → (parts : TermsParts) (T : Terms) (J : List Event) (place : Place) (format : Format) (text bytes : List ℕ) → parts.order ≢ Any → IsTermsOf parts T → Finished T J
    → AreFirstInOrder parts.order T.files (accepts J) → IsReport parts J bytes → IsExplanationOf parts place format text → EndsWithRecord bytes place format text
ends_over all one parts T J place format text bytes asked terms F ordered report explains =
    let by = reported_by_journal parts.plan.version J in
    let row = explains.row in
    let there = explains.there in
    let least = there.least in
    let most = there.most in
    let index = place.provider - 1 in
    let within : index < length parts.files = omega (arith, least, most) in
    let rows = get_or report.files index [] in
    let are_rows : AreRowsOf parts.plan.names (get_or parts.files index []) rows = zip_at (AreRowsOf parts.plan.names) parts.files report.files index [] [] report.are_rows within in
    let at : slice_get rows (place.number - 1) ≡ Some row = sym (explains.row_is rows are_rows) in
    let provider : 1 + index ≡ place.provider = omega (arith, least) in
    let split = subst (λ p. Split by 1 report.files p row) provider (split_records by 1 report.files index (place.number - 1) row at) in
    let number = row_numbered parts.plan.names (get_or parts.files index []) rows (place.number - 1) row are_rows at in
    let counted = there.counted in
    let first = numbered by place.provider place.number row (number ∙ omega (arith, counted)) in
    let end = ends_so T J F all one parts asked ordered terms place.provider row explains.facts
    (λ n p claim is. row_filed parts place.provider place.number n p claim least most (subst (λ (r : Row). IsRowAt parts.plan.names (get_or parts.files index []) place.number (Some r)) is explains.row_is) T terms)
    (explains.facts_are T terms) in
    record {
      fields = record_of by place.provider row;
      reported = record {
        earlier = header_fields parts.plan.version ∷ split.earlier;
        later = split.later ++ total_fields parts.plan.version J ∷ [];
        bytes_are =
            report.bytes_are
            ∙ ap (λ rs. text_of (header_fields parts.plan.version ∷ (rs ++ total_fields parts.plan.version J ∷ []))) split.records_are
            ∙ ap (λ rs. text_of (header_fields parts.plan.version ∷ rs)) (append_assoc split.earlier (record_of by place.provider row ∷ split.later) (total_fields parts.plan.version J ∷ []));
        others = first.0;
        numbered = first.1;
      };
      facts = end.front;
      text_is = explains.text_is ∙ ap (facts_text format) end.facts_are;
    }

-- an explanation and a remittance of the same texts
pub ends_with_its_record : SpellsOnePlan → SpellsOnePlain → FinishedTakesAll → OrderIsOne → ExplanationEndsWithItsRecord
ends_with_its_record one_plan plain all one order texts place format text bytes asked e r =
    let parts = e.parts in
    let other = r.parts in
    let mine = e.terms.over.are_terms in
    let theirs = r.over.are_terms in
    let V = r.is_remittance.are_terms in
    let plan : e.terms.over.plan ≡ r.over.plan = one_plan texts.plan e.terms.over.plan r.over.plan e.terms.over.spelled r.over.spelled in
    let same_plan : parts.plan ≡ other.plan = mine.plan_is ∙ plan ∙ sym theirs.plan_is in
    let same_files : parts.files ≡ other.files = mine.files_are ∙ sym theirs.files_are in
    let same_cutoff : parts.cutoff ≡ other.cutoff = mine.cutoff_is ∙ sym theirs.cutoff_is in
    let their_balances : AreBalancesOf e.terms.over.plan texts.balances other.balances = subst (λ (p : PlanParts). AreBalancesOf p texts.balances other.balances) (sym plan) theirs.balances_are in
    let opened = openings-one plain e.terms.over.plan texts.balances parts.balances other.balances mine.balances_are their_balances in
    let T = r.is_remittance.terms in
    let terms : IsTermsOf parts T = record {
      plan = V.plan ∙ sym same_plan;
      files =
          subst (λ (p : PlanParts). AllZip (AreClaimsOf p.names) parts.files T.files) (sym same_plan)
          (subst (λ ts. AllZip (AreClaimsOf other.plan.names) ts T.files) (sym same_files) V.files);
      openings = λ account. V.openings account ∙ sym (opened account);
      cutoff = V.cutoff ∙ sym same_cutoff;
    } in
    let theirs_reported = r.is_remittance.report in
    let report : IsReport parts r.is_remittance.journal bytes = record {
      files = theirs_reported.files;
      are_rows =
          subst (λ (p : PlanParts). AllZip (AreRowsOf p.names) parts.files theirs_reported.files) (sym same_plan)
          (subst (λ ts. AllZip (AreRowsOf other.plan.names) ts theirs_reported.files) (sym same_files) theirs_reported.are_rows);
      bytes_are = theirs_reported.bytes_are ∙ ap (λ (p : PlanParts). text_of (report_records p.version r.is_remittance.journal theirs_reported.files)) (sym same_plan);
    } in
    let ordered : AreFirstInOrder parts.order T.files (accepts r.is_remittance.journal) = subst (λ o. AreFirstInOrder o T.files (accepts r.is_remittance.journal)) (sym e.terms.ordered) r.is_remittance.ordered in
    let asked_here : parts.order ≢ Any = λ any. asked (sym e.terms.ordered ∙ any) in
    ends_over all one parts T r.is_remittance.journal place format text bytes asked_here terms r.is_remittance.finished ordered report e.explains
