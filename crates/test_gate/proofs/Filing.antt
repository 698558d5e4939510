-- The claims of a file in order.
use Rattle.std.proofs.Common.{◌≡◌, ℕ, zero, suc, ◌<◌, ◌≤◌, ◌+◌, ◌-◌, List, [], ◌∷◌, ◌++◌, length, get_or, Some, refl, sym, ap, ◌∙◌, subst, arith, append_assoc, append-nil}
use Rattle.std.specs.Borrow.{Bor}
use Rattle.std.specs.List.{AllZip, slice_get}
use Rattle.std.proofs.lemmas.List.{length-map, length_push}
use Rattle.settlement.specs.declared.claim.Claim.{Claim}
use Rattle.intake_csv.specs.Laws.{StartHasTheRows, GivenRowIsTheFirst, NoRecordsNoRows, LieApart}
use Rattle.intake_csv.specs.Rows.{GivesRow, IsAtStart, RowsLeft, claims_among}
use Rattle.intake_csv.specs.declared.rows.Row.TheVariants.{Good}
use Rattle.claim_gate.specs.Terms.{TermsParts, AreClaimsOf, IsTermsOf, texts_of, ForTerms}
use Rattle.journal.specs.Terms.{Terms, claims_of}
use Rattle.claim_gate.specs.Replies.{HasClaims}
use Rattle.claim_gate.proofs.Providers.{as_many_files}
use Rattle.test_gate.specs.Words.{IsReader}

zipped_at : {A B : Type 0} (R : A → B → Type 0) (xs : List A) (ys : List B) (i : ℕ) (d : A) (e : B) → AllZip R xs ys → i < length xs → R (get_or xs i d) (get_or ys i e)
zipped_at R [] [] i d e h within = let never : ⊥ = omega arith in absurd never
zipped_at R [] (y ∷ ys) i d e h within = absurd h
zipped_at R (x ∷ xs) [] i d e h within = absurd h
zipped_at R (x ∷ xs) (y ∷ ys) zero d e h within = h.0
zipped_at R (x ∷ xs) (y ∷ ys) (suc i) d e h within = zipped_at R xs ys i d e h.1 (omega arith)

at_start : StartHasTheRows → (terms : TermsParts) (T : Terms) (q : ℕ) (left : RowsLeft)
    → LieApart left.layout.columns → IsTermsOf terms T → q < length terms.files → IsAtStart terms.plan.names (get_or terms.files q []) left → IsReader T (suc q) left
at_start rows_law terms T q left apart is within starts =
    let file : AreClaimsOf terms.plan.names (get_or terms.files q []) (get_or T.files q []) =
    zipped_at (AreClaimsOf terms.plan.names) terms.files T.files q [] [] is.files within in
    let many : length T.files ≡ length terms.files = as_many_files terms T is in
    record {
      known = record { least = omega arith; most = omega (arith, many, within) };
      front = [];
      rows = file.rows;
      are_rows = rows_law terms.plan.names (get_or terms.files q []) left file.rows starts file.are_rows;
      whole = file.claims_are;
      counted = sym starts.place;
      apart = apart;
    }

-- a new reader is at the start of a provider's file
pub reads : StartHasTheRows → (terms : TermsParts) (provider : ℕ) (left : RowsLeft)
    → LieApart left.layout.columns → 1 ≤ provider → provider ≤ length terms.files → IsAtStart terms.plan.names (get_or terms.files (provider - 1) []) left
    → ForTerms terms (λ T. IsReader T provider left)
reads rows_law terms zero left apart least most starts T is = let never : ⊥ = omega (arith, least) in absurd never
reads rows_law terms (suc q) left apart least most starts T is =
    let same : suc q - 1 ≡ q = omega arith in
    at_start rows_law terms T q left apart is (omega (arith, most))
    (subst (λ i. IsAtStart terms.plan.names (get_or terms.files i []) left) same starts)

-- a provider of the files is also one of their texts
pub among_texts : (files : List (Bor (List ℕ))) (texts : List (List ℕ)) (provider : ℕ) → texts_of files ≡ texts → provider ≤ length files → provider ≤ length texts
among_texts files texts provider same within =
    let as_many : length files ≡ length texts = sym (length-map files (λ (f : Bor (List ℕ)). f.now)) ∙ ap length same in
    omega (arith, as_many, within)

get_after : (xs : List Claim) (x : Claim) (ys : List Claim) → slice_get (xs ++ x ∷ ys) (length xs) ≡ Some x
get_after [] x ys = refl
get_after (z ∷ xs) x ys = get_after xs x ys

-- the claim that the reader returns is the one at its place, and the reader goes on after it
pub record IsNextOf (T : Terms) (provider number place : ℕ) (claim : Claim) (old new : RowsLeft) : Type 0 where
  pub filed : slice_get (claims_of T provider) place ≡ Some claim
  pub reader : IsReader T provider new

pub gives : GivenRowIsTheFirst → (T : Terms) (provider number place : ℕ) (claim : Claim) (old new : RowsLeft) → IsReader T provider old
    → GivesRow old new (Good number place claim) → IsNextOf T provider number place claim old new
gives law T provider number place claim old new r given =
    let b = law old new (Good number place claim) r.rows r.apart given r.are_rows in
    let parted : claims_of T provider ≡ r.front ++ claim ∷ claims_among b.rest = r.whole ∙ ap (λ rows. r.front ++ claims_among rows) b.rows_are in
    let at : length r.front ≡ place = r.counted ∙ sym given.is_row.1 in
    let longer : length (r.front ++ claim ∷ []) ≡ length r.front + 1 = length_push r.front claim in
    record {
      filed = ap (λ cs. slice_get cs place) parted ∙ ap (slice_get (r.front ++ claim ∷ claims_among b.rest)) (sym at) ∙ get_after r.front claim (claims_among b.rest);
      reader = record {
        known = r.known;
        front = r.front ++ claim ∷ [];
        rows = b.rest;
        are_rows = b.rest_left;
        whole = parted ∙ sym (append_assoc r.front (claim ∷ []) (claims_among b.rest));
        counted = longer ∙ ap (λ n. n + 1) r.counted ∙ sym given.place;
        apart = subst (λ l. LieApart l.columns) (sym given.layout) r.apart;
      };
    }

-- a reader without records left has counted all claims
pub has_claims : NoRecordsNoRows → (T : Terms) (provider count : ℕ) (left : RowsLeft) → IsReader T provider left → left.records ≡ [] → left.place ≡ count → HasClaims T provider count
has_claims law T provider count left r none same =
    let rows : r.rows ≡ [] = law left r.rows none r.are_rows in
    let whole : claims_of T provider ≡ r.front = r.whole ∙ ap (λ w. r.front ++ claims_among w) rows ∙ append-nil r.front in
    record { known = r.known; count_is = sym same ∙ sym r.counted ∙ sym (ap length whole) }

-- a reader after the first claims of a provider's file, as many as the place says
pub record IsAfter (terms : TermsParts) (provider place : ℕ) (left : RowsLeft) : Type 0 where
  pub reader : ForTerms terms (λ T. IsReader T provider left)
  pub place_is : left.place ≡ place
