-- The remaining claims of a provider, as its file is read.
use Rattle.std.proofs.Common.{◌≡◌, ℕ, zero, suc, ◌<◌, ◌≤◌, ◌+◌, ◌-◌, ◌^◌, List, [], ◌∷◌, ◌++◌, length, get_or, Some, refl, sym, ap, subst, ◌∙◌, arith, append_assoc, append-nil, length-append}
use Rattle.std.specs.List.{AllZip, slice_get}
use Rattle.settlement.specs.declared.claim.Claim.{Claim}
use Rattle.tables.specs.declared.table.InputData.{InputData}
use Rattle.intake_csv.specs.Laws.{BeginLike, GivenRowHasTheClaim, NoRecordsNoRows, StartHasTheRows}
use Rattle.intake_csv.specs.Rows.{GivesRow, IsAtStart, RowsLeft, claim_in, claims_among}
use Rattle.faults.specs.declared.file_fault.RowFault.{RowFault}
use Rattle.intake_csv.specs.declared.records.Stage.TheVariants.{Over}
use Rattle.intake_csv.specs.declared.rows.Row.{Row}
use Rattle.intake_csv.specs.declared.rows.Row.TheVariants.{Good, Bad}
use Rattle.claim_gate.specs.Terms.{AreClaimsOf, IsTermsOf, TermsParts}
use Rattle.journal.specs.Terms.{Terms, claims_of}
use Rattle.claim_gate.specs.Parts.{GateParts}
use Rattle.claim_gate.specs.Replies.{HasClaims}
use Rattle.crew.specs.Reading.{AreLeft, HasRead, HasReadAll, IsAtRecord, IsToOffer}
use Rattle.gate_calls.specs.Sharing.{HasAccepted}
use Rattle.crew.specs.declared.intake.Intake.{Intake}

-- the claims at a place are those of the text at the place
at_place : (names : List InputData) (texts : List (List ℕ)) (files : List (List Claim)) (i : ℕ) → AllZip (AreClaimsOf names) texts files → i < length texts
    → AreClaimsOf names (get_or texts i []) (get_or files i [])
at_place names [] files i all within = absurd (omega (arith, within))
at_place names (text ∷ texts) [] i all within = absurd all
at_place names (text ∷ texts) (cs ∷ files) zero all within = all.0
at_place names (text ∷ texts) (cs ∷ files) (suc i) all within = at_place names texts files i all.1 (omega (arith, within))

-- there are as many texts as lists of claims
pub as_many_files : (names : List InputData) (texts : List (List ℕ)) (files : List (List Claim)) → AllZip (AreClaimsOf names) texts files → length texts ≡ length files
as_many_files names [] [] all = refl
as_many_files names [] (cs ∷ files) all = absurd all
as_many_files names (text ∷ texts) [] all = absurd all
as_many_files names (text ∷ texts) (cs ∷ files) all = ap suc (as_many_files names texts files all.1)

-- at the start all claims of the provider remain
pub left_first : StartHasTheRows → (parts : TermsParts) (T : Terms) (provider : ℕ) (left : RowsLeft) → IsTermsOf parts T → 1 ≤ provider → provider ≤ length parts.files
    → IsAtStart parts.plan.names (get_or parts.files (provider - 1) []) left → AreLeft T provider 0 left
left_first law parts T zero left terms least most start = absurd (omega (arith, least))
left_first law parts T (suc i) left terms least most start =
    let place : suc i - 1 ≡ i = omega arith in
    let text = get_or parts.files i [] in
    let began : IsAtStart parts.plan.names text left = rw place at start in
    let file = at_place parts.plan.names parts.files T.files i terms.files (omega (arith, most)) in
    record {
      front = [];
      rows = file.rows;
      are_rows = law parts.plan.names text left file.rows began file.are_rows;
      whole = file.claims_are;
      counted = refl;
    }

-- if the first of the rows has the claims of this row, the claims among the rows begin with them
claims_begin : (row : Row) (left : RowsLeft) (rows : List Row) (b : BeginLike row left rows) → claims_among rows ≡ claim_in row ++ claims_among b.rest
claims_begin row left rows b = ap claims_among b.rows_are ∙ ap (λ cs. cs ++ claims_among b.rest) b.claims

module _ (law : GivenRowHasTheClaim) where
  -- after a refused record the same claims remain
  pub left_refused : (T : Terms) (provider count : ℕ) (old new : RowsLeft) (number : ℕ) (fault : RowFault) → AreLeft T provider count old
      → GivesRow old new (Bad number fault) → AreLeft T provider count new
  left_refused T provider count old new number fault h g =
      let b = law old new (Bad number fault) h.rows g h.are_rows in
      record {
        front = h.front;
        rows = b.rest;
        are_rows = b.rest_left;
        whole = h.whole ∙ ap (λ cs. h.front ++ cs) (claims_begin (Bad number fault) new h.rows b);
        counted = h.counted;
      }

  -- the claim of a record is the provider's next one
  begun : (T : Terms) (provider count : ℕ) (old new : RowsLeft) (number place : ℕ) (claim : Claim) (h : AreLeft T provider count old)
      → (b : BeginLike (Good number place claim) new h.rows) → claims_of T provider ≡ h.front ++ (claim ∷ claims_among b.rest)
  begun T provider count old new number place claim h b = h.whole ∙ ap (λ cs. h.front ++ cs) (claims_begin (Good number place claim) new h.rows b)

  located : (front : List Claim) (claim : Claim) (rest : List Claim) → slice_get (front ++ claim ∷ rest) (length front) ≡ Some claim
  located [] claim rest = refl
  located (c ∷ front) claim rest = located front claim rest

  pub next_claim : (T : Terms) (provider count : ℕ) (old new : RowsLeft) (number place : ℕ) (claim : Claim) → AreLeft T provider count old
      → GivesRow old new (Good number place claim) → slice_get (claims_of T provider) count ≡ Some claim
  next_claim T provider count old new number place claim h g =
      let b = law old new (Good number place claim) h.rows g h.are_rows in
      rw (begun T provider count old new number place claim h b, ← h.counted) (located h.front claim (claims_among b.rest))

  pub left_after : (T : Terms) (provider count : ℕ) (old new : RowsLeft) (number place : ℕ) (claim : Claim) → AreLeft T provider count old
      → GivesRow old new (Good number place claim) → AreLeft T provider (count + 1) new
  left_after T provider count old new number place claim h g =
      let b = law old new (Good number place claim) h.rows g h.are_rows in
      record {
        front = h.front ++ claim ∷ [];
        rows = b.rest;
        are_rows = b.rest_left;
        whole = begun T provider count old new number place claim h b ∙ sym (append_assoc h.front (claim ∷ []) (claims_among b.rest));
        counted = length-append h.front (claim ∷ []) ∙ ap (λ n. n + 1) h.counted;
      }

-- if no record is left, all claims of the provider are read
pub left_none : NoRecordsNoRows → (parts : TermsParts) (T : Terms) (provider count : ℕ) (left : RowsLeft) → IsTermsOf parts T → 1 ≤ provider
    → provider ≤ length parts.files → left.records ≡ [] → AreLeft T provider count left → HasClaims T provider count
left_none law parts T provider count left terms least most none h =
    let rows = law left h.rows none h.are_rows in
    let all : claims_of T provider ≡ h.front = h.whole ∙ ap (λ rs. h.front ++ claims_among rs) rows ∙ append-nil h.front in
    record {
      known = record { least = least; most = subst (λ n. provider ≤ n) (as_many_files parts.plan.names parts.files T.files terms.files) most };
      count_is = sym h.counted ∙ ap length (sym all);
    }

-- at the first record no claim is read
pub first_record : StartHasTheRows → (parts : TermsParts) (seen : GateParts) (base : Intake) (provider : ℕ) (left : RowsLeft) → seen.terms ≡ parts → 1 ≤ provider
    → provider ≤ length parts.files → IsAtStart parts.plan.names (get_or parts.files (provider - 1) []) left
    → IsAtRecord parts seen (record base { provider = provider; rows = left; count = 0; expected = 0 })
first_record law parts seen base provider left of_terms least most start = record {
  of_terms = of_terms;
  claims = λ T is. left_first law parts T provider left is least most start;
  has_taken = omega arith;
  reached = omega arith;
  place = start.place;
  fewer = omega (arith, start.place, start.number);
}

-- spare boxes have no effect on where an intake is
pub spared : (terms : TermsParts) (seen : GateParts) (old new : Intake) → new ≡ record old { spare = new.spare } → IsAtRecord terms seen old → IsAtRecord terms seen new
spared terms seen old new same h =
    let at : IsAtRecord terms seen (record old { spare = new.spare }) =
    record { of_terms = h.of_terms; claims = h.claims; has_taken = h.has_taken; reached = h.reached; place = h.place; fewer = h.fewer } in
    subst (λ intake. IsAtRecord terms seen intake) (sym same) at

-- after a refused record the intake is at the next record
pub after_refused : GivenRowHasTheClaim → (terms : TermsParts) (seen : GateParts) (intake : Intake) (new : RowsLeft) (number : ℕ) (fault : RowFault)
    → GivesRow intake.rows new (Bad number fault) → IsAtRecord terms seen intake → HasRead terms seen intake (record intake { rows = new })
after_refused law terms seen intake new number fault gives h =
    let shorter = ap length gives.next in
    record {
      at = record {
        of_terms = h.of_terms;
        claims = λ T is. left_refused law T intake.provider intake.count intake.rows new number fault (h.claims T is) gives;
        has_taken = h.has_taken;
        reached = h.reached;
        place = omega (arith, gives.place, h.place);
        fewer = omega (arith, gives.place, gives.number, h.fewer);
      };
      same = refl;
      fewer = omega (arith, shorter);
    }

-- after the last record the intake is at the end of the file
pub after_last : (terms : TermsParts) (seen : GateParts) (intake : Intake) (new : RowsLeft) → intake.rows.records ≡ [] → new ≡ record intake.rows { stage = Over }
    → IsAtRecord terms seen intake → HasReadAll terms seen intake (record intake { rows = new })
after_last terms seen intake new none over h = rw over (record {
  at = record {
    of_terms = h.of_terms;
    claims = λ T is. let left = h.claims T is in record { front = left.front; rows = left.rows; are_rows = left.are_rows; whole = left.whole; counted = left.counted };
    has_taken = h.has_taken;
    reached = h.reached;
    place = h.place;
    fewer = h.fewer;
  };
  same = refl;
  none = none;
})

-- `base` has the spare boxes of the intake, which no fact depends on
module _ (law : GivenRowHasTheClaim) (intake base : Intake) (new : RowsLeft) (number place : ℕ) (claim : Claim) (gives : GivesRow intake.rows new (Good number place claim)) where
  -- after a claim, and once all claims before a later place are accepted, the intake is at the next record
  after_claim : (terms : TermsParts) (seen later : GateParts) (next : ℕ) → IsAtRecord terms seen intake → later.terms ≡ terms → intake.count < next
      → HasAccepted later intake.provider next → IsAtRecord terms later (record base { provider = intake.provider; rows = new; count = intake.count + 1; expected = next })
  after_claim terms seen later next h of_terms reached has_taken = record {
    of_terms = of_terms;
    claims = λ T is. left_after law T intake.provider intake.count intake.rows new number place claim (h.claims T is) gives;
    has_taken = has_taken;
    reached = omega (arith, reached);
    place = omega (arith, gives.place, h.place);
    fewer = omega (arith, gives.place, gives.number, h.fewer);
  }

  fewer : length new.records < length intake.rows.records
  fewer =
      let shorter = ap length gives.next in
      omega (arith, shorter)

  -- a claim that is accepted already is skipped
  pub skipped : (terms : TermsParts) (seen : GateParts) → intake.count < intake.expected → IsAtRecord terms seen intake
      → HasRead terms seen intake (record base { provider = intake.provider; rows = new; count = intake.count + 1; expected = intake.expected })
  skipped terms seen earlier h = record {
    at = after_claim terms seen seen intake.expected h h.of_terms earlier h.has_taken;
    same = refl;
    fewer = fewer;
  }

  -- the place after a claim is less than 2^64, since it is at most the record's number
  pub room : number < 2 ^ 64 → intake.rows.place ≡ intake.count → intake.rows.place < intake.rows.number → intake.count + 1 < 2 ^ 64
  room fits place_is within =
      let reported = gives.is_row.0 in
      omega (arith, reported, fits, place_is, within)

  -- another claim is to be offered
  pub to_offer : (terms : TermsParts) (seen : GateParts) → intake.count + 1 < 2 ^ 64 → intake.expected ≤ intake.count → IsAtRecord terms seen intake
      → IsToOffer terms seen intake (record base { provider = intake.provider; rows = new; count = intake.count + 1; expected = intake.expected })
      (record { provider = intake.provider; place = intake.count; claim = claim })
  to_offer terms seen small later h = record {
    same = refl;
    own = refl;
    filed = λ T is. next_claim law T intake.provider intake.count intake.rows new number place claim (h.claims T is) gives;
    taken = omega (arith, h.has_taken, h.reached, later);
    room = small;
    after = λ seen_later next of_terms reached has_taken. after_claim terms seen seen_later next h of_terms reached has_taken;
    fewer = fewer;
  }
