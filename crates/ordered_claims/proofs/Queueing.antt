-- The queue of a file when it gives a claim, and when it takes those that are read ahead.
use Rattle.std.proofs.Common.{◌≡◌, ◌<◌, ◌≤◌, ◌+◌, ◌^◌, ℕ, zero, suc, List, [], ◌∷◌, ◌++◌, drop, length, length-append, slice_get, Some, refl, sym, ap, subst, ◌∙◌, arith}
use Rattle.std.proofs.lemmas.Option.{none-some}
use Rattle.settlement.specs.declared.claim.Claim.{Claim}
use Rattle.journal.specs.Terms.{claims_of}
use Rattle.ordered_claims.specs.Queued.{GivesClaim, TakesAhead, read_of}
use Rattle.ordered_claims.specs.ReadAhead.{AreClaimsLeft, IsPiece, IsPlaced, reached}
use Rattle.ordered_claims.specs.declared.file_queue.FileQueue.{FileQueue}
use Rattle.ordered_claims.specs.declared.file_reader.FileReader.{FileReader}

-- the piece after its first claim
piece_after : (all : List Claim) (place next : ℕ) (piece rest : List Claim) (claim : Claim) → piece ≡ claim ∷ rest → next ≡ place + 1 → IsPiece all place piece → IsPiece all next rest
piece_after all place next piece rest claim begins further is =
    let long : length piece ≡ length rest + 1 = ap length begins ∙ omega arith in
    record {
      each = λ k c there.
          let at : slice_get piece (suc k) ≡ Some c = ap (λ cs. slice_get cs (suc k)) begins ∙ there in
          let index : next + k ≡ place + suc k = omega (arith, further) in
          ap (slice_get all) index ∙ is.each (suc k) c at;
      most = omega (arith, is.most, long, further);
    }

-- a piece without claims
pub no_piece : (all piece : List Claim) (place : ℕ) → piece ≡ [] → place ≤ length all → IsPiece all place piece
no_piece all piece place empty within =
    let long : length piece ≡ 0 = ap length empty in
    record { each = λ k c there. absurd (none-some c (subst (λ cs. slice_get cs k ≡ Some c) empty there)); most = omega (arith, long, within) }

-- a piece with one more claim in front
cons_each : (all : List Claim) (n : ℕ) (x : Claim) (xs : List Claim) → slice_get all n ≡ Some x → IsPiece all (n + 1) xs → (k : ℕ) (c : Claim) → slice_get (x ∷ xs) k ≡ Some c
    → slice_get all (n + k) ≡ Some c
cons_each all n x xs here is zero c there =
    let place : n + 0 ≡ n = omega arith in
    ap (slice_get all) place ∙ here ∙ there
cons_each all n x xs here is (suc k) c there =
    let place : n + suc k ≡ (n + 1) + k = omega arith in
    ap (slice_get all) place ∙ is.each k c there

-- two pieces, of which the second one follows the first one
piece_append : (all : List Claim) (n : ℕ) (xs ys : List Claim) → IsPiece all n xs → IsPiece all (n + length xs) ys → IsPiece all n (xs ++ ys)
piece_append all n [] ys is rest =
    let place : n + length {A = Claim} [] ≡ n = omega arith in
    subst (λ k. IsPiece all k ys) place rest
piece_append all n (x ∷ xs) ys is rest =
    let place : n + length (x ∷ xs) ≡ (n + 1) + length xs = omega arith in
    let start : n ≡ n + 0 = omega arith in
    let later = piece_append all (n + 1) xs ys (piece_after all n (n + 1) (x ∷ xs) xs x refl refl is) (subst (λ k. IsPiece all k ys) place rest) in
    record { each = cons_each all n x (xs ++ ys) (ap (slice_get all) start ∙ is.each 0 x refl) later; most = omega (arith, later.most) }

-- a reader stays at its place
same_placed : (from left : FileReader) → left.rows ≡ from.rows → reached left ≡ reached from → IsPlaced from → IsPlaced left
same_placed from left rows stays is = record {
  place = ap (λ r. r.place) rows ∙ is.place ∙ sym stays;
  within = subst (λ r. r.place < r.number) (sym rows) is.within;
  fits = subst (λ r. r.place < 2 ^ 64) (sym rows) is.fits;
}

same_left : (from left : FileReader) (claims : List Claim) → left.rows ≡ from.rows → reached left ≡ reached from → AreClaimsLeft from.rows (drop (reached from) claims)
    → AreClaimsLeft left.rows (drop (reached left) claims)
same_left from left claims rows stays others =
    subst (λ r. AreClaimsLeft r (drop (reached left) claims)) (sym rows) (subst (λ n. AreClaimsLeft from.rows (drop n claims)) (sym stays) others)

-- a queue gives its first claim
pub gave : (old new : FileQueue) (claim : Claim) → old.claims.items ≡ claim ∷ new.claims.items → new.given ≡ old.given + 1 → new.is_last ≡ old.is_last → GivesClaim old new claim
gave old new claim begins given last =
    let long : length old.claims.items ≡ length new.claims.items + 1 = ap length begins ∙ omega arith in
    let stays : read_of new ≡ read_of old = omega (arith, long, given) in
    record {
      own = ap (λ cs. slice_get cs 0) begins;
      given = given;
      fewer = sym long;
      at = λ T provider is. record {
        claims = piece_after (claims_of T provider) old.given new.given old.claims.items new.claims.items claim begins given is.claims;
        last = λ over.
            let all = is.last (sym last ∙ over) in
            omega (arith, all, stays);
      };
    }

-- a queue and a reader that keep what they have
pub took_none : (old new : FileQueue) (from left : FileReader) → from.taken ≡ read_of old → read_of old < 2 ^ 64 → new.claims.items ≡ old.claims.items → new.given ≡ old.given
    → new.is_last ≡ old.is_last → left.ahead.items ≡ from.ahead.items → left.taken ≡ from.taken → left.rows ≡ from.rows → left.is_over ≡ from.is_over → TakesAhead old new from left
took_none old new from left joined fits claims given last ahead taken rows over =
    let some : length new.claims.items ≡ length old.claims.items = ap length claims in
    let rest : length left.ahead.items ≡ length from.ahead.items = ap length ahead in
    let records : length left.rows.records ≡ length from.rows.records = ap (λ r. length r.records) rows in
    let end : read_of new ≡ read_of old = omega (arith, some, given) in
    let stays : reached left ≡ reached from = omega (arith, taken, rest) in
    record {
      given = given;
      joined = omega (arith, taken, joined, end);
      as_many = omega (arith, some, rest, records);
      fits = omega (arith, end, fits);
      sound = λ terms provider is. record {
        placed = same_placed from left rows stays is.placed;
        at = λ T of_terms.
            let at = is.at T of_terms in
            record {
              ahead = subst (λ n. IsPiece (claims_of T provider) n left.ahead.items) (sym taken)
                  (subst (λ cs. IsPiece (claims_of T provider) from.taken cs) (sym ahead) at.ahead);
              others = same_left from left (claims_of T provider) rows stays at.others;
              over = λ is_over.
                  let all = at.over (sym over ∙ is_over) in
                  omega (arith, all, stays);
            };
      };
      at = λ T provider is at. record {
        claims = subst (λ n. IsPiece (claims_of T provider) n new.claims.items) (sym given)
            (subst (λ cs. IsPiece (claims_of T provider) old.given cs) (sym claims) is.claims);
        last = λ is_last.
            let all = is.last (sym last ∙ is_last) in
            omega (arith, all, end);
      };
    }

-- a queue takes the claims that are read ahead
pub took_all : (old new : FileQueue) (from left : FileReader) → from.taken ≡ read_of old → IsPlaced from → new.claims.items ≡ old.claims.items ++ from.ahead.items
    → left.ahead.items ≡ [] → new.given ≡ old.given → new.is_last ≡ from.is_over → left.taken ≡ reached from → left.rows ≡ from.rows → left.is_over ≡ from.is_over
    → TakesAhead old new from left
took_all old new from left joined placed moved emptied given last taken rows over =
    let some : length new.claims.items ≡ length old.claims.items + length from.ahead.items = ap length moved ∙ length-append old.claims.items from.ahead.items in
    let rest : length left.ahead.items ≡ 0 = ap length emptied in
    let records : length left.rows.records ≡ length from.rows.records = ap (λ r. length r.records) rows in
    let end : read_of new ≡ reached from = omega (arith, joined, given, some) in
    let stays : reached left ≡ reached from = omega (arith, taken, rest) in
    record {
      given = given;
      joined = omega (arith, taken, end);
      as_many = omega (arith, some, rest, records);
      fits = omega (arith, end, placed.place, placed.fits);
      sound = λ terms provider is. record {
        placed = same_placed from left rows stays is.placed;
        at = λ T of_terms.
            let at = is.at T of_terms in
            let within : left.taken ≤ length (claims_of T provider) = omega (arith, taken, at.ahead.most) in
            record {
              ahead = no_piece (claims_of T provider) left.ahead.items left.taken emptied within;
              others = same_left from left (claims_of T provider) rows stays at.others;
              over = λ is_over.
                  let all = at.over (sym over ∙ is_over) in
                  omega (arith, all, stays);
            };
      };
      at = λ T provider is at. record {
        claims = subst (λ n. IsPiece (claims_of T provider) n new.claims.items) (sym given)
            (subst (λ cs. IsPiece (claims_of T provider) old.given cs) (sym moved)
            (piece_append (claims_of T provider) old.given old.claims.items from.ahead.items is.claims
            (subst (λ n. IsPiece (claims_of T provider) n from.ahead.items) joined at.ahead)));
        last = λ is_last.
            let all = at.over (sym last ∙ is_last) in
            omega (arith, all, end);
      };
    }
