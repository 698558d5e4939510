-- What the queues and the readers of all files keep while they are opened, and when a queue gives a claim.
use Rattle.std.proofs.Common.{◌≡◌, ◌<◌, ◌≤◌, ◌+◌, ◌==◌, ◌-◌, ◌^◌, ℕ, zero, suc, Bool, true, false, cond, List, [], ◌∷◌, ◌++◌, length, replicate, get_or, slice_get, Some, None, refl, sym, ap, subst, ◌∙◌, inl, inr, arith, length-append, eq-eqb, ne_eqb}
use Rattle.std.specs.List.{slice_set}
use Rattle.std.proofs.lemmas.Bool.{cases_eq, cases_lt, cond-false, cond-true, false≢true}
use Rattle.std.proofs.lemmas.List.{get_or-set_other, length-set, map-set}
use Rattle.std.proofs.lemmas.Option.{none-some, same_Some, slice_get_within}
use Rattle.settlement.specs.declared.claim.Claim.{Claim}
use Rattle.journal.specs.Terms.{Terms, claims_of}
use Rattle.journal.specs.Events.{Filed, places}
use Rattle.journal.specs.InOrder.{AreFirstInOrder, IsDue, following_claim}
use Rattle.journal.specs.declared.order.Order.{Order}
use Rattle.journal.proofs.InOrder.{one_more}
use Rattle.claim_gate.specs.Replies.{HasClaims}
use Rattle.claim_gate.specs.Terms.{ForTerms, IsTermsOf, TermsParts}
use Rattle.ordered_claims.specs.FirstHead.{ComesFirst, IsFirstOf}
use Rattle.ordered_claims.specs.Kept.{AreGiven, IsQueued, IsReading, given_in, queued_in, read_in, taken_in}
use Rattle.ordered_claims.specs.OrderedParts.{BeginsUnder, GivesNext, GivesRead, IsNextOffer, OrderedParts, count_of}
use Rattle.ordered_claims.specs.Queued.{GivesClaim, IsQueueAt, IsStocked, read_of}
use Rattle.ordered_claims.specs.ReadAhead.{IsSound}
use Rattle.ordered_claims.specs.declared.heads.Head.{Head}
use Rattle.ordered_claims.specs.declared.next_claim.NextClaim.TheVariants as comes
use Rattle.ordered_claims.specs.declared.file_queue.FileQueue.{FileQueue}
use Rattle.ordered_claims.specs.declared.file_reader.FileReader.{FileReader}
use Rattle.ordered_claims.proofs.Lists.{all_zero, each_after, each_more, item_within, same_numbers, set_same, sum_after}
use Rattle.ordered_claims.proofs.Ordering.{counted_at, counts_append, due_after, given_at, next_in_order, one_counts, some_queued}
use Rattle.ordered_claims.proofs.Queueing.{no_piece}
use Rattle.ordered_claims.proofs.Reading.{as_many_files}

-- a queue of which no claim is read
pub record IsEmpty (queue : FileQueue) : Type 0 where
  pub claims : queue.claims.items ≡ []
  pub given : queue.given ≡ 0
  pub more : queue.is_last ≡ false

-- the queues that are made so far
pub record AreEmpty (n : ℕ) (queues : List FileQueue) : Type 0 where
  pub as_many : length queues ≡ n
  pub each : (i : ℕ) (queue : FileQueue) → slice_get queues i ≡ Some queue → IsEmpty queue

pub empty_none : AreEmpty 0 []
empty_none = record { as_many = refl; each = λ i queue there. absurd (none-some queue there) }

pub empty_more : (n : ℕ) (queues : List FileQueue) (queue : FileQueue) → AreEmpty n queues → IsEmpty queue → AreEmpty (n + 1) (queues ++ queue ∷ [])
empty_more n queues queue before is = record {
  as_many = length-append queues (queue ∷ []) ∙ ap (λ k. k + 1) before.as_many;
  each = each_more (λ i q. IsEmpty q) queues queue is before.each;
}

none_given : (queues : List FileQueue) → ((i : ℕ) (queue : FileQueue) → slice_get queues i ≡ Some queue → IsEmpty queue) → (provider : ℕ) → count_of (given_in queues) provider ≡ 0
none_given queues none zero = refl
none_given [] none (suc i) = refl
none_given (queue ∷ queues) none (suc zero) = (none zero queue refl).given
none_given (queue ∷ queues) none (suc (suc i)) = none_given queues (λ k q there. none (suc k) q there) (suc i)

-- of an empty queue nothing is read
none_read_of : (queue : FileQueue) → IsEmpty queue → read_of queue ≡ 0
none_read_of queue is =
    let long : length queue.claims.items ≡ 0 = ap length is.claims in
    omega (arith, long, is.given)

-- once there is a queue for each file, no claim is given
pub empty_kept : (terms : TermsParts) (n : ℕ) (queues : List FileQueue) → AreEmpty n queues → n ≡ length terms.files → IsQueued terms queues false
empty_kept terms n queues empty all = record {
  as_many = empty.as_many ∙ all;
  fits = λ i queue there.
      let none = none_read_of queue (empty.each i queue there) in
      omega (arith, none);
  stocked = λ is. absurd (false≢true is);
  given = λ T of_terms. record {
    claims = [];
    in_order = λ k filed at. absurd (none-some filed at);
    counted = λ provider. sym (none_given queues empty.each provider);
    at = λ i queue there.
        let is = empty.each i queue there in
        record {
          claims = no_piece (claims_of T (suc i)) queue.claims.items queue.given is.claims (omega (arith, is.given));
          last = λ over. absurd (false≢true (sym is.more ∙ over));
        };
  };
}

pub empty_begins : (terms : TermsParts) (n : ℕ) (queues : List FileQueue) → AreEmpty n queues
    → BeginsUnder terms (record { terms = terms; given = given_in queues; read = read_in queues; left = queued_in queues })
empty_begins terms n queues empty = record { terms_are = refl; none = none_given queues empty.each }

pub empty_read : (terms : TermsParts) (n : ℕ) (queues : List FileQueue) → AreEmpty n queues → n ≡ length terms.files → read_in queues ≡ replicate (length terms.files) 0
empty_read terms n queues empty all =
    all_zero read_of queues (λ i queue there. none_read_of queue (empty.each i queue there)) ∙ ap (λ k. replicate k 0) (empty.as_many ∙ all)

-- the readers that are opened so far, from which no claim is taken
pub record AreOpened (terms : TermsParts) (n : ℕ) (readers : List FileReader) : Type 0 where
  pub as_many : length readers ≡ n
  pub none : (i : ℕ) (reader : FileReader) → slice_get readers i ≡ Some reader → reader.taken ≡ 0
  pub sound : (i : ℕ) (reader : FileReader) → slice_get readers i ≡ Some reader → reader.has_failed ≡ false → IsSound terms (suc i) reader

pub opened_none : (terms : TermsParts) → AreOpened terms 0 []
opened_none terms = record {
  as_many = refl;
  none = λ i reader there. absurd (none-some reader there);
  sound = λ i reader there. absurd (none-some reader there);
}

pub opened_more : (terms : TermsParts) (n : ℕ) (readers : List FileReader) (reader : FileReader) → AreOpened terms n readers → reader.taken ≡ 0
    → (reader.has_failed ≡ false → IsSound terms (n + 1) reader) → AreOpened terms (n + 1) (readers ++ reader ∷ [])
opened_more terms n readers reader opened none sound =
    let number : n + 1 ≡ suc (length readers) = omega (arith, opened.as_many) in
    record {
      as_many = length-append readers (reader ∷ []) ∙ ap (λ k. k + 1) opened.as_many;
      none = each_more (λ i (r : FileReader). r.taken ≡ 0) readers reader none opened.none;
      sound = each_more (λ i (r : FileReader). r.has_failed ≡ false → IsSound terms (suc i) r) readers reader
          (λ works. subst (λ k. IsSound terms k reader) number (sound works)) opened.sound;
    }

pub opened_all : (terms : TermsParts) (n : ℕ) (readers : List FileReader) → AreOpened terms n readers → n ≡ length terms.files → IsReading terms readers
opened_all terms n readers opened all = record { as_many = opened.as_many ∙ all; sound = opened.sound }

pub opened_taken : (terms : TermsParts) (n : ℕ) (readers : List FileReader) → AreOpened terms n readers → n ≡ length terms.files → taken_in readers ≡ replicate (length terms.files) 0
opened_taken terms n readers opened all = all_zero (λ (r : FileReader). r.taken) readers opened.none ∙ ap (λ k. replicate k 0) (opened.as_many ∙ all)

-- the number of given claims of the file that is read for a provider
pub number_read : (files : List FileQueue) (provider : ℕ) (read : FileQueue) → 1 ≤ provider → slice_get files (provider - 1) ≡ Some read
    → read.given ≡ count_of (given_in files) provider
number_read files zero read least there = absurd (omega (arith, least))
number_read files (suc i) read least there =
    let place : suc i - 1 ≡ i = omega arith in
    sym (given_at files i read (rw place at there))

-- the first of the next claims of the files that were looked at
pub first_of_all : (order asked : Order) (looked_at files : List FileQueue) (head : Head) → order ≡ asked → looked_at ≡ files → ComesFirst order looked_at (length looked_at) head
    → ComesFirst asked files (length files) head
first_of_all order asked looked_at files head same all first =
    subst (λ (o : Order). ComesFirst o files (length files) head) same (subst (λ (fs : List FileQueue). ComesFirst order fs (length fs) head) all first)

-- the numbers of given claims after a file gives one
given_after : (files : List FileQueue) (i : ℕ) (old new : FileQueue) → slice_get files i ≡ Some old → new.given ≡ old.given + 1 → (provider : ℕ)
    → count_of (given_in (slice_set files i new)) provider ≡ count_of (given_in files) provider + cond (suc i == provider) 1 0
given_after files i old new there more zero =
    let none : ◌≡◌ {A = ℕ} (cond (suc i == zero) 1 0) 0 = cond-false (suc i == zero) 1 0 (ne_eqb (suc i) zero (λ e. omega (arith, e))) in
    omega (arith, none)
given_after files i old new there more (suc j) =
    elim (cases_eq (suc i) (suc j)) [
      | inl same ↦
          let one : ◌≡◌ {A = ℕ} (cond (suc i == suc j) 1 0) 1 = cond-true (suc i == suc j) 1 0 (eq-eqb (suc i) (suc j) same) in
          let index : j ≡ i = omega (arith, same) in
          let now : get_or (given_in (slice_set files i new)) j 0 ≡ new.given =
          ap (λ k. get_or (given_in (slice_set files i new)) k 0) index ∙ given_at (slice_set files i new) i new (set_same files i old new there) in
          let before : get_or (given_in files) j 0 ≡ old.given = ap (λ k. get_or (given_in files) k 0) index ∙ given_at files i old there in
          omega (arith, one, now, before, more)
      | inr other ↦
          let none : ◌≡◌ {A = ℕ} (cond (suc i == suc j) 1 0) 0 = cond-false (suc i == suc j) 1 0 (ne_eqb (suc i) (suc j) other) in
          let same : get_or (given_in (slice_set files i new)) j 0 ≡ get_or (given_in files) j 0 =
          ap (λ (xs : List ℕ). get_or xs j 0) (map-set (λ (f : FileQueue). f.given) files i new) ∙ get_or-set_other (given_in files) i j new.given 0 (λ e. other (ap suc (sym e))) in
          omega (arith, none, same)
    ]

abbrev claim_of : ℕ → ℕ → Filed
claim_of provider place = record { provider = provider; place = place }

-- the queues of all files, as contracts see them
abbrev pub parts_of : TermsParts → List FileQueue → OrderedParts
parts_of terms files = record { terms = terms; given = given_in files; read = read_in files; left = queued_in files }

module _ (terms : TermsParts) (files : List FileQueue) (kept : IsQueued terms files true) where
  -- there is a list of claims for each file
  long : (T : Terms) → IsTermsOf terms T → length files ≡ length T.files
  long T is = kept.as_many ∙ as_many_files terms.plan.names terms.files T.files is.files

  -- if no file has a next claim, all claims of each provider are given
  pub all_given : IsFirstOf terms.order files (length files) None → (provider : ℕ) → 1 ≤ provider → provider ≤ length terms.files
      → ForTerms terms (λ T. HasClaims T provider (count_of (given_in files) provider))
  all_given none zero least most T is = absurd (omega (arith, least))
  all_given none (suc i) least most T is =
      let within : i < length files = omega (arith, most, kept.as_many) in
      let file = item_within files i within in
      let is_at = (kept.given T is).at i file.item file.there in
      let number : get_or (given_in files) i 0 ≡ file.item.given = given_at files i file.item file.there in
      let enough : length (claims_of T (suc i)) ≤ file.item.given = elim (cases_lt file.item.given (length (claims_of T (suc i)))) [
        | inl more ↦
            let next = item_within file.item.claims.items 0 (some_queued T (suc i) file.item is_at (kept.stocked refl i file.item file.there) more) in
            absurd (none i next.item within (record { file = file.item; there = file.there; next = next.there }))
        | inr enough ↦ enough
      ] in
      record {
        known = record { least = least; most = omega (arith, most, kept.as_many, long T is) };
        count_is = omega (arith, number, is_at.claims.most, enough);
      }

  pub gives_none : IsFirstOf terms.order files (length files) None → GivesNext (parts_of terms files) (parts_of terms files) None
  gives_none none = (refl, λ provider. refl, λ provider least most. all_given none provider least most)

  -- the queue of the first of the next claims has a claim
  pub head_there : (head : Head) → ComesFirst terms.order files (length files) head → (old : FileQueue) → slice_get files head.index ≡ Some old → 0 < length old.claims.items
  head_there head is old there =
      let file : is.has.file ≡ old = same_Some is.has.file old (sym is.has.there ∙ there) in
      slice_get_within old.claims.items 0 is.claim (subst (λ (f : FileQueue). slice_get f.claims.items 0 ≡ Some is.claim) file is.has.next)

  module _ (head : Head) (old new : FileQueue) (claim : Claim) (is : ComesFirst terms.order files (length files) head) (there : slice_get files head.index ≡ Some old)
      (gives : GivesClaim old new claim) where
    first_more : (T : Terms) (of_terms : IsTermsOf terms T)
        → AreFirstInOrder terms.order T.files ((kept.given T of_terms).claims ++ following_claim (kept.given T of_terms).claims (suc head.index) ∷ [])
    first_more T of_terms =
        let given = kept.given T of_terms in
        one_more terms.order T.files given.claims (following_claim given.claims (suc head.index)) given.in_order
        (next_in_order terms.order T files given head (long T of_terms) (kept.stocked refl) is)

    given_next : ForTerms terms (λ T. AreGiven terms.order T (slice_set files head.index new))
    given_next T of_terms =
        let given = kept.given T of_terms in
        let next = following_claim given.claims (suc head.index) in
        record {
          claims = given.claims ++ next ∷ [];
          in_order = first_more T of_terms;
          counted = λ q.
              let before = given.counted q in
              let one = one_counts q next in
              counts_append q given.claims (next ∷ []) ∙ (λ k. before k + one k) ∙ sym (given_after files head.index old new there gives.given q);
          at = each_after (λ i file. IsQueueAt T (suc i) file) files head.index old new there (gives.at T (suc head.index) (given.at head.index old there)) given.at;
        }

    -- as many claims are read as before
    read_same : read_of new ≡ read_of old
    read_same = omega (arith, gives.given, gives.fewer)

    -- the queues are kept after the claim
    pub kept_next : (stocked : Bool) → (stocked ≡ true → IsStocked new) → IsQueued terms (slice_set files head.index new) stocked
    kept_next stocked holds = record {
      as_many = length-set files head.index new ∙ kept.as_many;
      fits = each_after (λ i file. read_of file < 2 ^ 64) files head.index old new there
          (let before = kept.fits head.index old there in omega (arith, before, read_same)) kept.fits;
      stocked = λ works. each_after (λ i file. IsStocked file) files head.index old new there (holds works) (kept.stocked refl);
      given = given_next;
    }

    -- the offer of the claim is the next one
    offer_next : IsNextOffer (parts_of terms files) (parts_of terms (slice_set files head.index new)) (record { provider = suc head.index; place = old.given; claim = claim })
    offer_next = record {
      provider = (omega arith, omega (arith, is.within, kept.as_many));
      filed = λ T of_terms.
          let next = ((kept.given T of_terms).at head.index old there).claims.each 0 claim gives.own in
          let place : old.given ≡ old.given + 0 = omega arith in
          ap (slice_get (claims_of T (suc head.index))) place ∙ next;
      place = sym (given_at files head.index old there);
      room = (let before = kept.fits head.index old there in omega (arith, before, gives.fewer));
      due = λ J accepted T of_terms.
          let given = kept.given T of_terms in
          let next = following_claim given.claims (suc head.index) in
          let place : next ≡ claim_of (suc head.index) old.given = ap (claim_of (suc head.index)) (counted_at terms.order T files given head.index old there) in
          subst (λ (filed : Filed). IsDue terms.order T J filed) place
          (due_after terms.order T files given J next (first_more T of_terms)
          (λ q. subst (λ (n : ℕ). n ≤ length (places J q)) (sym (given.counted q)) (accepted q)));
      terms = refl;
      given = given_after files head.index old new there gives.given;
      fewer = (let sums = sum_after (λ (q : FileQueue). length q.claims.items) files head.index old new there in omega (arith, sums, gives.fewer));
    }

    pub offers : (provider place : ℕ) → provider ≡ suc head.index → place ≡ old.given
        → GivesRead (parts_of terms files) (parts_of terms (slice_set files head.index new)) (comes.Given (record { provider = provider; place = place; claim = claim }))
    offers provider place number at =
        let before : OrderedParts = parts_of terms files in
        let after : OrderedParts = parts_of terms (slice_set files head.index new) in (
          subst (λ (p : ℕ). IsNextOffer before after (record { provider = p; place = place; claim = claim })) (sym number)
              (subst (λ (n : ℕ). IsNextOffer before after (record { provider = suc head.index; place = n; claim = claim })) (sym at) offer_next),
          same_numbers read_of files head.index old new there read_same,
        )
