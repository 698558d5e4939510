-- The first of the files' next claims is the next one in the order.
use Rattle.std.proofs.Common.{◌≡◌, ◌<◌, ◌≤◌, ◌+◌, ◌==◌, ℕ, zero, suc, ℤ, true, false, cond, List, [], ◌∷◌, ◌++◌, flat_map, take, length, get_or, slice_get, Some, refl, sym, ap, subst, ◌∙◌, inl, inr, arith, eq-eqb, length-append}
use Rattle.std.proofs.lemmas.Bool.{cases_lt, cond-true}
use Rattle.std.proofs.lemmas.Int.{ints}
use Rattle.std.proofs.lemmas.List.Concat.{flat_map-append}
use Rattle.std.proofs.lemmas.Option.{none-some, same_Some, slice_get_within}
use Rattle.settlement.specs.declared.claim.Claim.{Claim}
use Rattle.journal.specs.Terms.{Terms, claims_in, claims_of}
use Rattle.journal.specs.Events.{Filed, places}
use Rattle.journal.specs.InOrder.{AreFirstInOrder, IsDue, IsInFile, IsNextInOrder, MayComeFirst, filed_count, following_claim, place_of, service_in, service_of}
use Rattle.journal.specs.declared.event.Event.{Event}
use Rattle.journal.specs.declared.order.Order.{Order}
use Rattle.journal.specs.declared.order.Order.TheVariants.{Any, Files, Service}
use Rattle.ordered_claims.specs.FirstHead.{ComesFirst, HasHead, MayPrecede}
use Rattle.ordered_claims.specs.Kept.{AreGiven, AreStocked, given_in}
use Rattle.ordered_claims.specs.Queued.{IsQueueAt, IsStocked}
use Rattle.ordered_claims.specs.declared.heads.Head.{Head}
use Rattle.ordered_claims.specs.declared.file_queue.FileQueue.{FileQueue}
use Rattle.ordered_claims.proofs.Lists.{item_within, past_end}

-- what comes first by index and day comes first in the order
may_come : (order : Order) (files : List (List Claim)) (claims : List Filed) (i j : ℕ) (one other : Claim)
    → slice_get (claims_in files (suc i)) (filed_count (suc i) claims) ≡ Some one
    → slice_get (claims_in files (suc j)) (filed_count (suc j) claims) ≡ Some other → MayPrecede order i one.service j other.service
    → MayComeFirst order files (following_claim claims (suc i)) (following_claim claims (suc j))
may_come Any files claims i j one other at_one at_other first = tt
may_come Files files claims i j one other at_one at_other first = omega (arith, first)
may_come Service files claims i j one other at_one at_other (inl less) =
    let own : service_of files (following_claim claims (suc i)) ≡ one.service = ap service_in at_one in
    let its : service_of files (following_claim claims (suc j)) ≡ other.service = ap service_in at_other in
    inl (omega (arith, ints, own, its, less))
may_come Service files claims i j one other at_one at_other (inr same) =
    let own : service_of files (following_claim claims (suc i)) ≡ one.service = ap service_in at_one in
    let its : service_of files (following_claim claims (suc j)) ≡ other.service = ap service_in at_other in
    let in_order : i ≤ j = same.1 in
    inr (own ∙ same.0 ∙ sym its, omega (arith, in_order))

-- a claim counts once, for its provider
pub one_counts : (q : ℕ) (filed : Filed) → filed_count q (filed ∷ []) ≡ cond (filed.provider == q) 1 0
one_counts q filed = elim (filed.provider == q) as (λ own. length (cond own (filed.place ∷ []) [] ++ []) ≡ cond own 1 0) [ true ↦ refl | false ↦ refl ]

own_counts : (filed : Filed) → filed_count filed.provider (filed ∷ []) ≡ 1
own_counts filed = ap (λ ps. length (ps ++ [])) (cond-true (filed.provider == filed.provider) (filed.place ∷ []) [] (eq-eqb filed.provider filed.provider refl))

pub counts_append : (q : ℕ) (one other : List Filed) → filed_count q (one ++ other) ≡ filed_count q one + filed_count q other
counts_append q one other = ap length (flat_map-append (place_of q) one other) ∙ length-append (flat_map (place_of q) one) (flat_map (place_of q) other)

-- a claim of a list counts in the list and not before it
counted_in : (claims : List Filed) (n : ℕ) (filed : Filed) → slice_get claims n ≡ Some filed → filed_count filed.provider (take n claims) < filed_count filed.provider claims
counted_in [] n filed there = absurd (none-some filed there)
counted_in (f ∷ claims) zero filed there =
    let one : filed_count filed.provider (f ∷ []) ≡ 1 = ap (λ (x : Filed). filed_count filed.provider (x ∷ [])) (same_Some f filed there) ∙ own_counts filed in
    let both : filed_count filed.provider (f ∷ claims) ≡ filed_count filed.provider (f ∷ []) + filed_count filed.provider claims = counts_append filed.provider (f ∷ []) claims in
    let none : filed_count filed.provider (take zero (f ∷ claims)) ≡ 0 = refl in
    omega (arith, one, both, none)
counted_in (f ∷ claims) (suc n) filed there =
    let fewer = counted_in claims n filed there in
    let front : filed_count filed.provider (take (suc n) (f ∷ claims)) ≡ filed_count filed.provider (f ∷ []) + filed_count filed.provider (take n claims) =
    counts_append filed.provider (f ∷ []) (take n claims) in
    let whole : filed_count filed.provider (f ∷ claims) ≡ filed_count filed.provider (f ∷ []) + filed_count filed.provider claims = counts_append filed.provider (f ∷ []) claims in
    omega (arith, fewer, front, whole)

-- the number of claims given of the file at an index
pub given_at : (files : List FileQueue) (i : ℕ) (file : FileQueue) → slice_get files i ≡ Some file → get_or (given_in files) i 0 ≡ file.given
given_at [] i file there = absurd (none-some file there)
given_at (f ∷ files) zero file there = ap (λ (f : FileQueue). f.given) (same_Some f file there)
given_at (f ∷ files) (suc i) file there = given_at files i file there

-- a stocked queue has a claim if the file has more claims than are given
pub some_queued : (T : Terms) (provider : ℕ) (queue : FileQueue) → IsQueueAt T provider queue → IsStocked queue → queue.given < length (claims_of T provider)
    → 0 < length queue.claims.items
some_queued T provider queue is (inl some) more = some
some_queued T provider queue is (inr over) more =
    let last = is.last over in
    omega (arith, last, more)

-- the file of a provider, with its next claim
record HeadOf (files : List FileQueue) (provider : ℕ) : Type 0 where
  pub index : ℕ
  pub within : index < length files
  pub number : provider ≡ suc index
  pub claim : Claim
  pub has : HasHead files index claim

module _ (order : Order) (T : Terms) (files : List FileQueue) (given : AreGiven order T files) where
  pub counted_at : (i : ℕ) (file : FileQueue) → slice_get files i ≡ Some file → filed_count (suc i) given.claims ≡ file.given
  counted_at i file there = given.counted (suc i) ∙ given_at files i file there

  -- a file's next claim is the one after the given ones
  claim_at : (i : ℕ) (claim : Claim) → HasHead files i claim → slice_get (claims_of T (suc i)) (filed_count (suc i) given.claims) ≡ Some claim
  claim_at i claim has =
      let next = (given.at i has.file has.there).claims.each 0 claim has.next in
      let place : filed_count (suc i) given.claims ≡ has.file.given + 0 = omega (arith, counted_at i has.file has.there) in
      ap (slice_get (claims_of T (suc i))) place ∙ next

  -- a file that has more claims has a next claim
  head_of : length files ≡ length T.files → AreStocked files → (provider : ℕ) → IsInFile T.files (following_claim given.claims provider) → HeadOf files provider
  head_of as_many stocked zero there = absurd (omega (arith, there))
  head_of as_many stocked (suc i) there =
      let more : filed_count (suc i) given.claims < length (claims_of T (suc i)) = there in
      elim (cases_lt i (length files)) [
        | inl within ↦
            let file = item_within files i within in
            let is = given.at i file.item file.there in
            let count = counted_at i file.item file.there in
            let next = item_within file.item.claims.items 0 (some_queued T (suc i) file.item is (stocked i file.item file.there) (omega (arith, more, count))) in
            record { index = i; within = within; number = refl; claim = next.item; has = record { file = file.item; there = file.there; next = next.there } }
        | inr past ↦
            let none : length (claims_of T (suc i)) ≡ 0 = ap length (past_end T.files i [] (omega (arith, past, as_many))) in
            absurd (omega (arith, more, none))
      ]

  -- the first of the files' next claims is the next one in the order
  pub next_in_order : (head : Head) → length files ≡ length T.files → AreStocked files → ComesFirst order files (length files) head
      → IsNextInOrder order T.files given.claims (following_claim given.claims (suc head.index))
  next_in_order head as_many stocked is =
      let own = claim_at head.index is.claim is.has in
      record {
        follows = refl;
        there = slice_get_within (claims_of T (suc head.index)) (filed_count (suc head.index) given.claims) is.claim own;
        first = λ provider in_file.
            let other = head_of as_many stocked provider in_file in
            let first = subst (λ (day : ℤ). MayPrecede order head.index day other.index other.claim.service) is.day (is.first other.index other.claim other.within other.has) in
            subst (λ (q : ℕ). MayComeFirst order T.files (following_claim given.claims (suc head.index)) (following_claim given.claims q)) (sym other.number)
            (may_come order T.files given.claims head.index other.index is.claim other.claim own (claim_at other.index other.claim other.has) first);
      }

  -- once the given claims are accepted, the claim after them is due
  pub due_after : (J : List Event) (next : Filed) → AreFirstInOrder order T.files (given.claims ++ next ∷ [])
      → ((provider : ℕ) → filed_count provider given.claims ≤ length (places J provider)) → IsDue order T J next
  due_after J next in_order accepted = record {
    earlier = given.claims;
    in_order = in_order;
    accepted = λ n other at.
        let place : other.place ≡ filed_count other.provider (take n given.claims) = ap (λ (f : Filed). f.place) (given.in_order n other at).follows in
        let fewer = counted_in given.claims n other at in
        let taken = accepted other.provider in
        omega (arith, place, fewer, taken);
  }
