-- The remaining claims of a provider's file, as its rows are read.
use Rattle.std.proofs.Common.{◌≡◌, ℕ, zero, suc, true, false, ◌<◌, ◌≤◌, ◌+◌, ◌-◌, ◌^◌, List, [], ◌∷◌, ◌++◌, drop, length, length-append, get_or, slice_get, Some, None, refl, sym, ap, subst, ◌∙◌, arith}
use Rattle.std.specs.List.{AllZip}
use Rattle.std.proofs.lemmas.Bool.{false≢true}
use Rattle.std.proofs.lemmas.List.{drop-drop}
use Rattle.std.proofs.lemmas.Option.{none-some, slice_get_within}
use Rattle.settlement.specs.declared.claim.Claim.{Claim}
use Rattle.tables.specs.declared.table.InputData.{InputData}
use Rattle.faults.specs.declared.file_fault.RowFault.{RowFault}
use Rattle.intake_csv.specs.Laws.{BeginLike, GivenRowHasTheClaim, NoRecordsNoRows, StartHasTheRows}
use Rattle.intake_csv.specs.Rows.{GivesRow, IsAtStart, AreRowsLeft, RowsLeft, claim_in, claims_among}
use Rattle.intake_csv.specs.declared.records.Stage.TheVariants.{Over}
use Rattle.intake_csv.specs.declared.rows.Row.{Row}
use Rattle.intake_csv.specs.declared.rows.Row.TheVariants.{Good, Bad}
use Rattle.journal.specs.Terms.{Terms, claims_of}
use Rattle.claim_gate.specs.Terms.{AreClaimsOf, IsTermsOf, TermsParts}
use Rattle.ordered_claims.specs.ReadAhead.{AreClaimsLeft, IsPlaced, IsSound, Reads, ReadsAhead, ReadsClaim, SkipsTo, reached}
use Rattle.ordered_claims.specs.declared.file_reader.FileReader.{FileReader}
use Rattle.ordered_claims.proofs.Lists.{each_more, first_after, no_longer, nothing_after}

-- the claims of the file at a place are those of the text at the place
at_place : (names : List InputData) (texts : List (List ℕ)) (files : List (List Claim)) (i : ℕ) → AllZip (AreClaimsOf names) texts files → i < length texts
    → AreClaimsOf names (get_or texts i []) (get_or files i [])
at_place names [] files i all within = absurd (omega (arith, within))
at_place names (text ∷ texts) [] i all within = absurd all
at_place names (text ∷ texts) (cs ∷ files) zero all within = all.0
at_place names (text ∷ texts) (cs ∷ files) (suc i) all within = at_place names texts files i all.1 (omega (arith, within))

-- there are as many texts as lists of claims
pub as_many_files : (names : List InputData) (texts : List (List ℕ)) (files : List (List Claim)) → AllZip (AreClaimsOf names) texts files → length texts ≡ length files
as_many_files names [] [] all = refl
as_many_files names [] (cs ∷ files) all = absurd all
as_many_files names (text ∷ texts) [] all = absurd all
as_many_files names (text ∷ texts) (cs ∷ files) all = ap suc (as_many_files names texts files all.1)

-- at the start all claims of the provider are left
start_left : StartHasTheRows → (parts : TermsParts) (T : Terms) (provider : ℕ) (left : RowsLeft) → IsTermsOf parts T → 1 ≤ provider → provider ≤ length parts.files
    → IsAtStart parts.plan.names (get_or parts.files (provider - 1) []) left → AreClaimsLeft left (claims_of T provider)
start_left law parts T zero left terms least most start = absurd (omega (arith, least))
start_left law parts T (suc i) left terms least most start =
    let place : suc i - 1 ≡ i = omega arith in
    let text = get_or parts.files i [] in
    let began : IsAtStart parts.plan.names text left = rw place at start in
    let file = at_place parts.plan.names parts.files T.files i terms.files (omega (arith, most)) in
    record { rows = file.rows; are_rows = law parts.plan.names text left file.rows began file.are_rows; claims_are = file.claims_are }

-- if the first of the rows has the claims of this row, the remaining claims begin with them
claims_begin : (row : Row) (left : RowsLeft) (rows : List Row) (b : BeginLike row left rows) → claims_among rows ≡ claim_in row ++ claims_among b.rest
claims_begin row left rows b = ap claims_among b.rows_are ∙ ap (λ cs. cs ++ claims_among b.rest) b.claims

module _ (law : GivenRowHasTheClaim) where
  -- after a refused record the same claims are left
  pub after_refused : (start old new : RowsLeft) (number : ℕ) (fault : RowFault) → SkipsTo start old → GivesRow old new (Bad number fault) → SkipsTo start new
  after_refused start old new number fault skips gives =
      let shorter = ap length gives.next in
      record {
        same = λ claims left.
            let here = skips.same claims left in
            let b = law old new (Bad number fault) here.rows gives here.are_rows in
            record { rows = b.rest; are_rows = b.rest_left; claims_are = here.claims_are ∙ claims_begin (Bad number fault) new here.rows b };
        place = omega (arith, skips.place, gives.place);
        within = omega (arith, skips.within, gives.place, gives.number);
        fewer = omega (arith, skips.fewer, shorter);
      }

  -- the claim of a record is the first of the remaining ones
  pub read_some : (start old new : RowsLeft) (number place : ℕ) (claim : Claim) → SkipsTo start old → GivesRow old new (Good number place claim) → number < 2 ^ 64
      → ReadsClaim start new (Some claim)
  read_some start old new number place claim skips gives fits =
      let shorter = ap length gives.next in
      let reported = gives.is_row.0 in
      record {
        first = λ claims left.
            let here = skips.same claims left in
            let b = law old new (Good number place claim) here.rows gives here.are_rows in
            let begun : claims ≡ claim ∷ claims_among b.rest = here.claims_are ∙ claims_begin (Good number place claim) new here.rows b in (
              sym (ap (λ cs. slice_get cs 0) begun),
              subst (λ cs. AreClaimsLeft new (drop 1 cs)) (sym begun) (record { rows = b.rest; are_rows = b.rest_left; claims_are = refl }),
            );
        place = omega (arith, skips.place, gives.place);
        within = omega (arith, skips.within, gives.place, gives.number);
        fits = omega (arith, skips.within, gives.place, reported, fits);
        fewer = omega (arith, skips.fewer, shorter);
      }

-- if no record is left, no claim is left
pub read_none : NoRecordsNoRows → (start old new : RowsLeft) → SkipsTo start old → start.place < 2 ^ 64 → old.records ≡ [] → new ≡ record old { stage = Over }
    → ReadsClaim start new None
read_none law start old new skips fits none over = rw over (record {
  first = λ claims left.
      let here = skips.same claims left in
      let nothing : claims ≡ [] = here.claims_are ∙ ap claims_among (law old here.rows none here.are_rows) in (
        sym (ap (λ cs. slice_get cs 0) nothing),
        subst (λ cs. AreClaimsLeft (record old { stage = Over }) (drop 1 cs)) (sym nothing)
            (record { rows = []; are_rows = subst (λ rows. AreRowsLeft old rows) (law old here.rows none here.are_rows) here.are_rows; claims_are = refl }),
      );
  place = omega (arith, skips.place);
  within = skips.within;
  fits = omega (arith, skips.place, fits);
  fewer = omega (arith, skips.fewer);
})

-- a new reader is at the first claim of its file
pub opened : StartHasTheRows → (parts : TermsParts) (provider : ℕ) (reader : FileReader) → 1 ≤ provider → provider ≤ length parts.files
    → IsAtStart parts.plan.names (get_or parts.files (provider - 1) []) reader.rows → reader.taken ≡ 0 → reader.ahead.items ≡ [] → reader.is_over ≡ false
    → IsSound parts provider reader
opened law parts provider reader least most start none empty more =
    let long : length reader.ahead.items ≡ 0 = ap length empty in
    let nothing : reached reader ≡ 0 = omega (arith, none, long) in
    record {
      placed = record { place = omega (arith, start.place, none, long); within = omega (arith, start.place, start.number); fits = omega (arith, start.place) };
      at = λ T terms. record {
        ahead = record {
          each = λ k claim there. absurd (none-some claim (subst (λ piece. slice_get piece k ≡ Some claim) empty there));
          most = omega (arith, none, long);
        };
        others = subst (λ n. AreClaimsLeft reader.rows (drop n (claims_of T provider))) (sym nothing) (start_left law parts T provider reader.rows terms least most start);
        over = λ is. absurd (false≢true (sym more ∙ is));
      };
    }

-- the reader has read its next claim
pub one_read : (old new : FileReader) (claim : Claim) → old.has_failed ≡ false → new.has_failed ≡ false → new.is_over ≡ false → ReadsClaim old.rows new.rows (Some claim)
    → new.ahead.items ≡ old.ahead.items ++ claim ∷ [] → new.taken ≡ old.taken → Reads old new
one_read old new claim worked works more reads pushed taken =
    let long : length new.ahead.items ≡ length old.ahead.items + 1 = ap length pushed ∙ length-append old.ahead.items (claim ∷ []) in
    let further : reached new ≡ reached old + 1 = omega (arith, long, taken) in
    record {
      worked = worked;
      works = works;
      placed = λ placed. record { place = omega (arith, placed.place, reads.place, further); within = reads.within; fits = reads.fits };
      at = λ T provider is.
          let claims = claims_of T provider in
          let both = reads.first (drop (reached old) claims) is.others in
          let there : slice_get claims (reached old) ≡ Some claim = sym (first_after (reached old) claims) ∙ sym both.0 in
          let within = slice_get_within claims (reached old) claim there in
          let each = each_more (λ k c. slice_get claims (old.taken + k) ≡ Some c) old.ahead.items claim there is.ahead.each in
          record {
            ahead = record {
              each = λ k c at.
                  let own : slice_get (old.ahead.items ++ claim ∷ []) k ≡ Some c = subst (λ piece. slice_get piece k ≡ Some c) pushed at in
                  subst (λ n. slice_get claims (n + k) ≡ Some c) (sym taken) (each k c own);
              most = omega (arith, within, further);
            };
            others = subst (λ n. AreClaimsLeft new.rows (drop n claims)) (sym further)
                (subst (λ cs. AreClaimsLeft new.rows cs) (drop-drop 1 (reached old) claims) both.1);
            over = λ over. absurd (false≢true (sym more ∙ over));
          };
      fewer = omega (arith, long, reads.fewer);
    }

-- the reader has found that no claim is left
pub over_read : (old new : FileReader) → old.has_failed ≡ false → new.has_failed ≡ false → ReadsClaim old.rows new.rows None → new.ahead.items ≡ old.ahead.items → new.taken ≡ old.taken
    → Reads old new
over_read old new worked works reads items taken =
    let long : length new.ahead.items ≡ length old.ahead.items = ap length items in
    let stays : reached new ≡ reached old = omega (arith, long, taken) in
    record {
      worked = worked;
      works = works;
      placed = λ placed. record { place = omega (arith, placed.place, reads.place, stays); within = reads.within; fits = reads.fits };
      at = λ T provider is.
          let claims = claims_of T provider in
          let both = reads.first (drop (reached old) claims) is.others in
          let none : slice_get claims (reached old) ≡ None = sym (first_after (reached old) claims) ∙ sym both.0 in
          let all : length claims ≤ reached old = no_longer claims (reached old) none in
          let most = is.ahead.most in
          let left : drop 1 (drop (reached old) claims) ≡ drop (reached old) claims = nothing_after (reached old) claims all in
          record {
            ahead = record {
              each = λ k c at.
                  let own : slice_get old.ahead.items k ≡ Some c = subst (λ piece. slice_get piece k ≡ Some c) items at in
                  subst (λ n. slice_get claims (n + k) ≡ Some c) (sym taken) (is.ahead.each k c own);
              most = omega (arith, most, stays);
            };
            others = subst (λ n. AreClaimsLeft new.rows (drop n claims)) (sym stays) (subst (λ cs. AreClaimsLeft new.rows cs) left both.1);
            over = λ over. omega (arith, all, stays);
          };
      fewer = omega (arith, long, reads.fewer);
    }

-- a reader that reads nothing has read ahead
pub reads_nothing : (reader : FileReader) → ReadsAhead reader reader
reads_nothing reader = record {
  taken = refl;
  reads = λ works. record { worked = works; works = works; placed = λ placed. placed; at = λ T provider is. is; fewer = omega arith };
}

-- a reader that fails has taken nothing
pub reads_failed : (old new : FileReader) → new.taken ≡ old.taken → new.has_failed ≡ true → ReadsAhead old new
reads_failed old new taken failed = record { taken = taken; reads = λ works. absurd (false≢true (sym works ∙ failed)) }

-- a reader goes on to read ahead
pub reads_further : (a b c : FileReader) → ReadsAhead a b → ReadsAhead b c → ReadsAhead a c
reads_further a b c first second = record {
  taken = second.taken ∙ first.taken;
  reads = λ works.
      let later = second.reads works in
      let earlier = first.reads later.worked in
      record {
        worked = earlier.worked;
        works = works;
        placed = λ placed. later.placed (earlier.placed placed);
        at = λ T provider is. later.at T provider (earlier.at T provider is);
        fewer = omega (arith, earlier.fewer, later.fewer);
      };
}

-- a reader that works after it has read ahead is placed
pub placed_after : (old new : FileReader) → (old.has_failed ≡ false → IsPlaced old) → ReadsAhead old new → new.has_failed ≡ false → IsPlaced new
placed_after old new placed ahead works =
    let reads = ahead.reads works in
    reads.placed (placed reads.worked)

-- a reader that works after it has read ahead is sound
pub sound_after : (terms : TermsParts) (provider : ℕ) (old new : FileReader) → (old.has_failed ≡ false → IsSound terms provider old) → ReadsAhead old new → new.has_failed ≡ false
    → IsSound terms provider new
sound_after terms provider old new sound ahead works =
    let reads = ahead.reads works in
    let before = sound reads.worked in
    record { placed = reads.placed before.placed; at = λ T is. reads.at T provider (before.at T is) }

-- before its first record is read a reader has passed nothing
pub skips_none : (start : RowsLeft) → start.place < start.number → SkipsTo start start
skips_none start within = record { same = λ claims left. left; place = refl; within = within; fewer = omega arith }
