-- The closing balances of a finished run: the opening balances, and what each claim adds.
use Rattle.std.proofs.Common.{◌≡◌, ◌<◌, ◌≤◌, ◌+◌, ◌==◌, ℕ, zero, suc, List, [], ◌∷◌, ◌++◌, map, flat_map, take, length, get_or, slice_get, fold, Some, None, option_map, option_and_then, refl, sym, ap, ◌∙◌, subst, arith, eq-eqb, length-append}
use Rattle.std.specs.List.{AllZip, count_by}
use Rattle.std.proofs.lemmas.Bool.{cond-true}
use Rattle.std.proofs.lemmas.List.{length-map, take_all}
use Rattle.std.proofs.lemmas.Option.{none-some, same_Some, slice_get-get_or, slice_get_within}
use Rattle.std.proofs.lemmas.Slice.Zip.{AllZip-long}
use Rattle.tables.specs.declared.table.InputData.{InputData}
use Rattle.settlement.specs.Accounts.{Account}
use Rattle.settlement.specs.Opening.{opening}
use Rattle.settlement.specs.declared.claim.Claim.{Claim}
use Rattle.intake_csv.specs.Balances.{Entry, accounts_of}
use Rattle.intake_csv.specs.Records.{Fields}
use Rattle.intake_csv.specs.Rows.{AreRows, AreRowsOf, IsRow, claims_among, is_claim}
use Rattle.intake_csv.proofs.Handing.{count-row}
use Rattle.intake_csv.specs.declared.column.Layout.{Layout}
use Rattle.intake_csv.specs.declared.rows.Row.{Row}
use Rattle.intake_csv.specs.declared.rows.Row.TheVariants.{Good, Bad}
use Rattle.journal.specs.Terms.{Terms, claims_of}
use Rattle.journal.specs.Events.{Filed, accepted_count, accepts, before, claim_at, claim_filed, claims, noted, places}
use Rattle.journal.specs.InOrder.{place_of}
use Rattle.journal.specs.Lawful.{Finished}
use Rattle.journal.specs.declared.event.Event.{Event}
use Rattle.journal.proofs.Counts.{claims_known}
use Rattle.journal.proofs.InOrder.{places_counted}
use Rattle.claim_gate.specs.Terms.{AreClaimsOf, IsFinishedOver, TermsParts}
use Rattle.remit_records.specs.Decided.{decision_at}
use Rattle.remit_records.specs.Looked.{LaidOut, found_of, looked_up, positions_of}
use Rattle.remit_records.specs.Records.{Deciding}
use Rattle.remit_records.specs.Rows.{AreRead}
use Rattle.remit_records.specs.declared.decisions.Decisions.{Decisions}
use Rattle.orders.specs.Order.{settled_by}
use Rattle.orders.proofs.Outcomes.{decided_so}
use Rattle.run_lists.specs.Charges.{FilesArePosted, file_charges, files_charges, plus, totals}
use Rattle.run_lists.specs.Closing.{AreClosing}
use Rattle.run_lists.specs.Entries.{AreSorted}
use Rattle.run_lists.proofs.Accepted.{AreConsecutive, AreNumbered, charges, claims_at, consecutive, file_adds, left}
use Rattle.run_lists.proofs.Reordered.{flat_from, reordered, run}
use Rattle.run_lists.proofs.Sorted.{sorted_apart}
use Rattle.run_lists.proofs.Totals.{totals_opening}

-- the row has this place among the claims of its file
abbrev HasPlace : ℕ → Row → Type 0
HasPlace place (Good number p claim) = p ≡ place
HasPlace place (Bad number fault) = Unit {0}

place-of-row : (layout : Layout) (number place : ℕ) (fields : Fields) (row : Row) → IsRow layout number place fields row → HasPlace place row
place-of-row layout number place fields (Good n p claim) is = is.1
place-of-row layout number place fields (Bad n fault) is = tt

numbered : (rows : List Row) (place : ℕ) → ((front following : List Row) (row : Row) → rows ≡ front ++ row ∷ following → HasPlace (place + count_by is_claim front) row) → AreNumbered place rows
numbered [] place each = tt
numbered (Good number p claim ∷ rows) place each =
    let first : p ≡ place + 0 = each [] rows (Good number p claim) refl in (
      omega (arith, first),
      numbered rows (suc place)
          (λ front following row is.
          let one : count_by is_claim (Good number p claim ∷ front) ≡ 1 + count_by is_claim front = count-row (Good number p claim) front in
          let same : place + count_by is_claim (Good number p claim ∷ front) ≡ suc place + count_by is_claim front = omega (arith, one) in
          subst (λ n. HasPlace n row) same (each (Good number p claim ∷ front) following row (ap (λ rs. Good number p claim ∷ rs) is))),
    )
numbered (Bad number fault ∷ rows) place each =
    numbered rows place
    (λ front following row is.
    let none : count_by is_claim (Bad number fault ∷ front) ≡ 0 + count_by is_claim front = count-row (Bad number fault) front in
    let same : place + count_by is_claim (Bad number fault ∷ front) ≡ place + count_by is_claim front = omega (arith, none) in
    subst (λ n. HasPlace n row) same (each (Bad number fault ∷ front) following row (ap (λ rs. Bad number fault ∷ rs) is)))

-- the places of the claims of a file are consecutive
are-numbered : (layout : Layout) (records : List Fields) (rows : List Row) → AreRows layout 1 0 records rows → AreNumbered 0 rows
are-numbered layout records rows are =
    numbered rows 0
    (λ front following row is.
    let sizes : length (front ++ row ∷ following) ≡ length front + length (row ∷ following) = length-append front (row ∷ following) in
    let long : length rows ≡ length (front ++ row ∷ following) = ap length is in
    let as_many = are.as_many in
    let within : length front < length records = omega (arith, sizes, long, as_many) in
    place-of-row layout (1 + length front) (0 + count_by is_claim front) (get_or records (length front) []) row
    (are.each front following row (get_or records (length front) []) is (slice_get-get_or records (length front) [] within)))

-- files of claims are those of the rows of their texts
record OfRows (names : List InputData) (texts : List (List ℕ)) (files : List (List Claim)) : Type 0 where
  pub rows : List (List Row)
  pub are_rows : AllZip (AreRowsOf names) texts rows
  pub files_are : files ≡ map claims_among rows

of-rows : (names : List InputData) (texts : List (List ℕ)) (files : List (List Claim)) → AllZip (AreClaimsOf names) texts files → OfRows names texts files
of-rows names [] [] h = record { rows = []; are_rows = tt; files_are = refl }
of-rows names [] (claims ∷ files) h = absurd h
of-rows names (text ∷ texts) [] h = absurd h
of-rows names (text ∷ texts) (claims ∷ files) h =
    let rest = of-rows names texts files h.1 in
    let first = h.0.claims_are in
    record { rows = h.0.rows ∷ rest.rows; are_rows = (h.0.are_rows, rest.are_rows); files_are = λ i. first i ∷ rest.files_are i }

-- an element that is there
got : {A : Type 0} (xs : List A) (i : ℕ) (x d : A) → slice_get xs i ≡ Some x → get_or xs i d ≡ x
got [] i x d at = absurd (none-some x at)
got (y ∷ xs) zero x d at = same_Some y x at
got (y ∷ xs) (suc i) x d at = got xs i x d at

got-map : {A B : Type 0} (f : A → B) (xs : List A) (i : ℕ) (x : A) (d : B) → slice_get xs i ≡ Some x → get_or (map f xs) i d ≡ f x
got-map f [] i x d at = absurd (none-some x at)
got-map f (y ∷ xs) zero x d at = ap f (same_Some y x at)
got-map f (y ∷ xs) (suc i) x d at = got-map f xs i x d at

-- a provider of a claim in a list has places in it
some-places : (order : List Filed) (j : ℕ) (f : Filed) → slice_get order j ≡ Some f → 0 < length (flat_map (place_of f.provider) order)
some-places [] j f at = absurd (none-some f at)
some-places (g ∷ order) zero f at =
    let same : f ≡ g = sym (same_Some g f at) in
    let one : length (place_of f.provider f) ≡ 1 = ap length (cond-true (f.provider == f.provider) (f.place ∷ []) [] (eq-eqb f.provider f.provider refl)) in
    let here : length (place_of f.provider g) ≡ 1 = subst (λ x. length (place_of f.provider x) ≡ 1) same one in
    let both = length-append (place_of f.provider g) (flat_map (place_of f.provider) order) in
    omega (arith, here, both)
some-places (g ∷ order) (suc j) f at =
    let rest = some-places order j f at in
    let both = length-append (place_of f.provider g) (flat_map (place_of f.provider) order) in
    omega (arith, rest, both)

module _ (T : Terms) (J : List Event) (F : Finished T J) (decisions : Decisions) (providers : ℕ)
    (found : (i place : ℕ) → i < providers → found_of decisions (suc i) place ≡ option_and_then (decision_at J) (slice_get (positions_of J (suc i)) place)) where
  -- what the claim at a position adds
  abbrev adding : ℕ → List Entry
  adding = charges T.plan (claim_at T J) (decision_at J)

  abbrev by_index : Deciding
  by_index = looked_up decisions

  -- the rows of a provider's file add what the claims at its positions add
  provider_adds : (p : ℕ) (rows : List Row) → 1 ≤ p → p ≤ providers → AreNumbered 0 rows → claims_of T p ≡ claims_among rows
      → file_charges T.plan by_index p rows ≡ flat_map adding (positions_of J p)
  provider_adds zero rows least most is same = absurd (omega (arith, least))
  provider_adds (suc i) rows least most is same =
      let p = suc i in
      let counted = places_counted J p in
      let long : length (places J p) ≡ length (flat_map (place_of p) (accepts J)) = ap length counted in
      let within = F.lawful.sound.within p in
      let size : length (claims_of T p) ≡ length (claims_among rows) = ap length same in
      file_adds T.plan (claim_at T J) (decision_at J) by_index p rows (positions_of J p) is
      (claims_at (claim_at T J) (claims_of T p) (claim_filed T) p (accepts J) 0 0 (claims_among rows)
      (λ q j f e at. let here : q ≡ j = omega (arith, e) in ap (λ n. claim_at T J n) here ∙ got-map (claim_filed T) (accepts J) j f None at)
      (λ f its. ap (λ q. slice_get (claims_of T q) f.place) its)
      (λ q j e. let here : q ≡ j = omega (arith, e) in (λ k. slice_get (same k) (here k)))
      (subst (AreConsecutive 0) (sym (F.lawful.sound.in_order p) ∙ counted) (consecutive (length (places J p))))
      (omega (arith, long, within, size)))
      (λ place. found i place (omega (arith, most)))

  -- the files add what the claims at the providers' positions add
  files_add : (names : List InputData) (texts : List (List ℕ)) (files : List (List Row)) (first : ℕ) → AllZip (AreRowsOf names) texts files → 1 ≤ first → first + length files ≤ suc providers
      → ((q i : ℕ) (rows : List Row) → q ≡ first + i → slice_get files i ≡ Some rows → claims_of T q ≡ claims_among rows)
      → files_charges T.plan by_index first files ≡ flat_from first (length files) (λ p. flat_map adding (positions_of J p))
  files_add names texts [] first are least most of = refl
  files_add names [] (rows ∷ files) first are least most of = absurd are
  files_add names (text ∷ texts) (rows ∷ files) first are least most of =
      let here : file_charges T.plan by_index first rows ≡ flat_map adding (positions_of J first) =
      provider_adds first rows least (omega (arith, most)) (are-numbered are.0.layout are.0.records rows are.0.are_rows) (of first 0 rows (omega arith) refl) in
      let rest = files_add names texts files (suc first) are.1 (omega arith) (omega (arith, most)) (λ q i r e at. of q (suc i) r (omega (arith, e)) at) in
      (λ k. here k ++ rest k)

  -- the accumulators after the last claim
  after_all : (account : Account) → before T J (accepted_count J) account ≡ plus (opening T.balances account) (totals (run adding 0 (accepted_count J)) account)
  after_all account =
      let count : length (claims T J) ≡ accepted_count J = length-map (accepts J) (claim_filed T) in
      let all : take (accepted_count J) (claims T J) ≡ claims T J = take_all (accepted_count J) (claims T J) (omega (arith, count)) in
      ap (λ cs. fold (noted T.plan) (opening T.balances) cs account) all
      ∙ left T.plan (claim_at T J) (decision_at J) account (claims T J) (opening T.balances) 0
      (λ q j c e at. let here : q ≡ j = omega (arith, e) in ap (λ n. claim_at T J n) here ∙ got (claims T J) j c None at)
      (λ q j claim e at.
      let here : q ≡ j = omega (arith, e) in
      let below : j < length (claims T J) = slice_get_within (claims T J) j (Some claim) at in
      ap (decision_at J) here ∙ decided_so T J j F (omega (arith, below, count))
      ∙ ap (option_map (settled_by T (accepts J) j)) (got (claims T J) j (Some claim) None at))
      ∙ ap (λ n. plus (opening T.balances account) (totals (run adding 0 n) account)) count

  -- the providers of accepted claims have files
  known : length T.files ≡ providers → (j : ℕ) (f : Filed) → slice_get (accepts J) j ≡ Some f → (1 ≤ f.provider) × (f.provider ≤ providers)
  known many j f at =
      let some = some-places (accepts J) j f at in
      let counted : length (places J f.provider) ≡ length (flat_map (place_of f.provider) (accepts J)) = ap length (places_counted J f.provider) in
      let within = F.lawful.sound.within f.provider in
      let range = claims_known T.files f.provider (omega (arith, some, counted, within)) in
      (range.0, omega (arith, range.1, many))

  -- what the files add is what the accepted claims add
  files_are_claims : (names : List InputData) (texts : List (List ℕ)) (files : List (List Row)) (account : Account) → AreRead names texts files → length files ≡ providers
      → T.files ≡ map claims_among files → totals (files_charges T.plan by_index 1 files) account ≡ totals (run adding 0 (accepted_count J)) account
  files_are_claims names texts files account read many are =
      let size = length-map files claims_among in
      let all : length T.files ≡ length (map claims_among files) = ap length are in
      ap (λ es. totals es account)
      (files_add names texts files 1 read.are_rows (omega arith) (omega (arith, many))
      (λ q i rows e at.
      let number : q ≡ suc i = omega (arith, e) in
      ap (claims_of T) number ∙ ap (λ fs. get_or fs i []) are ∙ got-map claims_among files i rows [] at))
      ∙ ap (λ n. totals (flat_from 1 n (λ p. flat_map adding (positions_of J p))) account) many
      ∙ sym (reordered account adding providers (accepts J) 0 (known (omega (arith, size, all, many))))

pub closes : (parts : TermsParts) (J : List Event) (providers : ℕ) (decisions : Decisions) (start entries : List Entry) → IsFinishedOver parts J
    → LaidOut parts.plan.version providers J decisions → providers ≡ length parts.files
    → ((account : Account) → totals start account ≡ opening (accounts_of parts.balances) account)
    → FilesArePosted parts.plan (looked_up decisions) parts.files start entries → AreSorted entries → AreClosing parts J entries
closes parts J providers decisions start entries finished laid as_many begun posted sorted = record {
  given = λ T is account.
      let F = finished T is in
      let of = of-rows parts.plan.names parts.files T.files is.files in
      let same : of.rows ≡ posted.files = posted.read.only of.rows of.are_rows in
      let files : T.files ≡ map claims_among posted.files = of.files_are ∙ ap (map claims_among) same in
      let long : length posted.files ≡ length parts.files = AllZip-long (AreRowsOf parts.plan.names) parts.files posted.files posted.read.are_rows in
      let many : length posted.files ≡ providers = omega (arith, as_many, long) in
      sym (totals_opening entries (sorted_apart entries sorted) account)
      ∙ posted.posted account
      ∙ ap (λ acc. plus acc (totals (files_charges parts.plan (looked_up decisions) 1 posted.files) account)) (begun account ∙ sym (is.openings account))
      ∙ ap (λ plan. plus (opening T.balances account) (totals (files_charges plan (looked_up decisions) 1 posted.files) account)) (sym is.plan)
      ∙ ap (plus (opening T.balances account)) (files_are_claims T J F decisions providers laid.found parts.plan.names parts.files posted.files account posted.read many files)
      ∙ sym (after_all T J F decisions providers laid.found account);
  sorted = sorted;
}

-- the same where the journal is that of a batch
pub batch_closes : (parts other : TermsParts) (J K : List Event) (providers : ℕ) (decisions : Decisions) (start entries : List Entry) → other ≡ parts → IsFinishedOver other K → J ≡ K
    → LaidOut parts.plan.version providers J decisions → providers ≡ length parts.files
    → ((account : Account) → totals start account ≡ opening (accounts_of parts.balances) account)
    → FilesArePosted parts.plan (looked_up decisions) parts.files start entries → AreSorted entries → AreClosing parts K entries
batch_closes parts other J K providers decisions start entries same finished alike laid as_many begun posted sorted =
    let over : IsFinishedOver parts J = subst (λ p. IsFinishedOver p J) same (subst (IsFinishedOver other) (sym alike) finished) in
    subst (λ L. AreClosing parts L entries) alike (closes parts J providers decisions start entries over laid as_many begun posted sorted)
