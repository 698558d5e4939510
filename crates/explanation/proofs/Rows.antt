-- The rows of a file, and the claim of a row.
use Rattle.std.proofs.Common.{◌≡◌, ℕ, zero, suc, ◌+◌, ◌-◌, ◌<◌, ◌≤◌, List, [], ◌∷◌, ◌++◌, drop, take, length, get_or, slice_get, Option, Some, None, refl, sym, ap, subst, ◌∙◌, arith}
use Rattle.std.specs.List.{AllZip, count_by}
use Rattle.std.proofs.lemmas.List.{drop-drop}
use Rattle.std.proofs.lemmas.Option.{none-some, same_Some, slice_get-get_or, slice_get_within}
use Rattle.tables.specs.declared.table.InputData.{InputData}
use Rattle.settlement.specs.declared.claim.Claim.{Claim}
use Rattle.intake_csv.specs.Laws.{BeginWith, GivenRowIsTheFirst, LieApart, NoRecordsNoRows, StartHasTheRows}
use Rattle.intake_csv.specs.Records.{Fields}
use Rattle.intake_csv.specs.Rows.{AreRowsLeft, AreRowsOf, Gives, GivesRow, IsAtStart, IsRow, RowsLeft, claims_among, is_claim}
use Rattle.intake_csv.specs.declared.column.Layout.{Layout}
use Rattle.intake_csv.specs.declared.rows.Row.{Row}
use Rattle.intake_csv.specs.declared.rows.Row.TheVariants.{Good, Bad}
use Rattle.intake_csv.proofs.Handing.{count-row}
use Rattle.journal.specs.Events.{claim_filed}
use Rattle.claim_gate.specs.Terms.{AreClaimsOf, ForTerms, TermsParts}
use Rattle.explanation.specs.Cases.{IsRowAt}
use Rattle.explanation.specs.Walking.{IsPast}

pub past_none : StartHasTheRows → (names : List InputData) (text : List ℕ) (left : RowsLeft) → IsAtStart names text left → LieApart left.layout.columns → IsPast names text 0 left
past_none law names text left start apart = record { apart = apart; rest = λ rows are. law names text left rows start are }

at_head : {A : Type 0} (xs : List A) (n : ℕ) (x : A) (rest : List A) → drop n xs ≡ x ∷ rest → slice_get xs n ≡ Some x
at_head [] zero x rest e = absurd (cc e)
at_head [] (suc n) x rest e = absurd (cc e)
at_head (y ∷ xs) zero x rest e = let same : y ≡ x = cc e in ap Some same
at_head (y ∷ xs) (suc n) x rest e = at_head xs n x rest e

past_end : {A : Type 0} (xs : List A) (n m : ℕ) → drop n xs ≡ [] → n ≤ m → slice_get xs m ≡ None
past_end [] n m e more = refl
past_end (y ∷ xs) zero m e more = absurd (cc e)
past_end (y ∷ xs) (suc n) zero e more = absurd (omega (arith, more))
past_end (y ∷ xs) (suc n) (suc m) e more = past_end xs n m e (omega (arith, more))

module _ (first : GivenRowIsTheFirst) (names : List InputData) (text : List ℕ) (count : ℕ) (old new : RowsLeft) (past : IsPast names text count old) where
  -- the reader gives the next row
  module _ (row : Row) (gives : GivesRow old new row) where
    begins : (rows : List Row) → AreRowsOf names text rows → BeginWith row new (drop count rows)
    begins rows are = first old new row (drop count rows) past.apart gives (past.rest rows are)

    pub past_more : IsPast names text (count + 1) new
    past_more = record {
      apart = subst (λ layout. LieApart layout.columns) (sym gives.layout) past.apart;
      rest = λ rows are.
          let b = begins rows are in
          let rest : drop (count + 1) rows ≡ b.rest = sym (drop-drop 1 count rows) ∙ ap (drop 1) b.rows_are in
          subst (AreRowsLeft new) (sym rest) b.rest_left;
    }

    pub row_found : (number : ℕ) → number - 1 ≡ count → IsRowAt names text number (Some row)
    row_found number same rows are =
        let b = begins rows are in
        sym (ap (slice_get rows) same ∙ at_head rows count row b.rest b.rows_are)

  -- the reader gives no row
  pub no_row : NoRecordsNoRows → old.records ≡ [] → (number : ℕ) → count ≤ number - 1 → IsRowAt names text number None
  no_row law none number within rows are =
      let nothing : drop count rows ≡ [] = law old (drop count rows) none (past.rest rows are) in
      sym (past_end rows count (number - 1) nothing within)

  -- what the reader gives after all rows before the record
  pub last_row : NoRecordsNoRows → (number : ℕ) → count ≡ number - 1 → (found : Option Row) → Gives old new found → IsRowAt names text number found
  last_row law number same None gives = no_row law gives.0 number (omega (arith, same))
  last_row law number same (Some row) gives = row_found row gives number (sym same)

pub split_at : {A : Type 0} (xs : List A) (k : ℕ) (x : A) → slice_get xs k ≡ Some x → xs ≡ take k xs ++ x ∷ drop (suc k) xs
split_at [] k x e = absurd (none-some x e)
split_at (y ∷ xs) zero x e = ap (λ z. z ∷ xs) (same_Some y x e)
split_at (y ∷ xs) (suc k) x e = ap (λ zs. y ∷ zs) (split_at xs k x e)

pub take_next : {A : Type 0} (xs : List A) (k : ℕ) (x : A) → slice_get xs k ≡ Some x → take (k + 1) xs ≡ take k xs ++ x ∷ []
take_next xs k x e = let more : k + 1 ≡ suc k = omega arith in ap (λ n. take n xs) more ∙ taken xs k x e
  where
    taken : {A : Type 0} (xs : List A) (k : ℕ) (x : A) → slice_get xs k ≡ Some x → take (suc k) xs ≡ take k xs ++ x ∷ []
    taken [] k x e = absurd (none-some x e)
    taken (y ∷ xs) zero x e = ap (λ z. z ∷ []) (same_Some y x e)
    taken (y ∷ xs) (suc k) x e = ap (λ zs. y ∷ zs) (taken xs k x e)

length_of_front : {A : Type 0} (xs : List A) (k : ℕ) (x : A) → slice_get xs k ≡ Some x → length (take k xs) ≡ k
length_of_front [] k x e = absurd (none-some x e)
length_of_front (y ∷ xs) zero x e = refl
length_of_front (y ∷ xs) (suc k) x e = ap suc (length_of_front xs k x e)

-- the claim of a row is the one at its place among the claims
claim_at_row : (rows : List Row) (k number place : ℕ) (claim : Claim) → slice_get rows k ≡ Some (Good number place claim)
    → slice_get (claims_among rows) (count_by is_claim (take k rows)) ≡ Some claim
claim_at_row [] k number place claim e = absurd (none-some (Good number place claim) e)
claim_at_row (Good n p c ∷ rows) zero number place claim e = let same : c ≡ claim = cc e in ap Some same
claim_at_row (Bad n f ∷ rows) zero number place claim e = absurd (cc e)
claim_at_row (Good n p c ∷ rows) (suc k) number place claim e =
    let counted : count_by is_claim (Good n p c ∷ take k rows) ≡ suc (count_by is_claim (take k rows)) = let more = count-row (Good n p c) (take k rows) in omega (arith, more) in
    ap (slice_get (claims_among (Good n p c ∷ rows))) counted ∙ claim_at_row rows k number place claim e
claim_at_row (Bad n f ∷ rows) (suc k) number place claim e =
    let counted : count_by is_claim (Bad n f ∷ take k rows) ≡ count_by is_claim (take k rows) = let more = count-row (Bad n f) (take k rows) in omega (arith, more) in
    ap (slice_get (claims_among rows)) counted ∙ claim_at_row rows k number place claim e

-- the number of a row
abbrev pub number_in : Row → ℕ
number_in (Good number place claim) = number
number_in (Bad number fault) = number

-- a row is that of its record
row_at : (names : List InputData) (text : List ℕ) (rows : List Row) (k : ℕ) (row : Row) (are : AreRowsOf names text rows) → slice_get rows k ≡ Some row
    → (fields : Fields) × IsRow are.layout (1 + length (take k rows)) (0 + count_by is_claim (take k rows)) fields row
row_at names text rows k row are at =
    let size = length_of_front rows k row at in
    let bound = slice_get_within rows k row at in
    let within : length (take k rows) < length are.records = omega (arith, size, bound, are.are_rows.as_many) in
    let there = slice_get-get_or are.records (length (take k rows)) [] within in
    (get_or are.records (length (take k rows)) [], are.are_rows.each (take k rows) (drop (suc k) rows) row (get_or are.records (length (take k rows)) []) (split_at rows k row at) there)

number_of_row : (layout : Layout) (number place : ℕ) (fields : Fields) (row : Row) → IsRow layout number place fields row → number_in row ≡ number
number_of_row layout number place fields (Good n p claim) is = is.0
number_of_row layout number place fields (Bad n fault) is = is.0

-- the rows have the numbers from 1
pub row_numbered : (names : List InputData) (text : List ℕ) (rows : List Row) (k : ℕ) (row : Row) → AreRowsOf names text rows → slice_get rows k ≡ Some row → number_in row ≡ k + 1
row_numbered names text rows k row are at =
    let is = row_at names text rows k row are at in
    let size = length_of_front rows k row at in
    number_of_row are.layout (1 + length (take k rows)) (0 + count_by is_claim (take k rows)) is.0 row is.1 ∙ omega (arith, size)

row_placed : (names : List InputData) (text : List ℕ) (rows : List Row) (k number place : ℕ) (claim : Claim) → AreRowsOf names text rows
    → slice_get rows k ≡ Some (Good number place claim) → place ≡ count_by is_claim (take k rows)
row_placed names text rows k number place claim are at =
    let row = (row_at names text rows k (Good number place claim) are at).1 in
    let placed : place ≡ 0 + count_by is_claim (take k rows) = row.1 in
    omega (arith, placed)

pub zip_at : {A B : Type 0} (R : A → B → Type 0) (xs : List A) (ys : List B) (i : ℕ) (d : A) (e : B) → AllZip R xs ys → i < length xs → R (get_or xs i d) (get_or ys i e)
zip_at R [] ys i d e all within = absurd (omega (arith, within))
zip_at R (x ∷ xs) [] i d e all within = absurd all
zip_at R (x ∷ xs) (y ∷ ys) zero d e all within = all.0
zip_at R (x ∷ xs) (y ∷ ys) (suc i) d e all within = zip_at R xs ys i d e all.1 (omega (arith, within))

pub zip_long : {A B : Type 0} (R : A → B → Type 0) (xs : List A) (ys : List B) → AllZip R xs ys → length xs ≡ length ys
zip_long R [] [] all = refl
zip_long R [] (y ∷ ys) all = absurd all
zip_long R (x ∷ xs) [] all = absurd all
zip_long R (x ∷ xs) (y ∷ ys) all = ap suc (zip_long R xs ys all.1)

-- the claim of the row of a provider's file is the provider's claim at the row's place
pub row_filed : (parts : TermsParts) (provider index number place : ℕ) (claim : Claim) → 1 ≤ provider → provider ≤ length parts.files
    → IsRowAt parts.plan.names (get_or parts.files (provider - 1) []) index (Some (Good number place claim))
    → ForTerms parts (λ T. claim_filed T (record { provider = provider; place = place }) ≡ Some claim)
row_filed parts zero index number place claim least most row T is = absurd (omega (arith, least))
row_filed parts (suc i) index number place claim least most row T is =
    let before : suc i - 1 ≡ i = omega arith in
    let at : IsRowAt parts.plan.names (get_or parts.files i []) index (Some (Good number place claim)) = rw before at row in
    let file = zip_at (AreClaimsOf parts.plan.names) parts.files T.files i [] [] is.files (omega (arith, most)) in
    let there = sym (at file.rows file.are_rows) in
    let placed = row_placed parts.plan.names (get_or parts.files i []) file.rows (index - 1) number place claim file.are_rows there in
    ap (λ cs. slice_get cs place) file.claims_are ∙ ap (slice_get (claims_among file.rows)) placed
    ∙ claim_at_row file.rows (index - 1) number place claim there
