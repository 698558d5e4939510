-- The claims that are read ahead, on their way from the readers of all files to the queues.
use Rattle.std.proofs.Common.{◌≡◌, ◌<◌, ◌≤◌, ◌+◌, ◌^◌, ℕ, suc, false, List, [], ◌∷◌, length, get_or, slice_get, All, Some, refl, sym, ap, subst, ◌∙◌, inl, inr, arith}
use Rattle.std.specs.List.{slice_set}
use Rattle.std.proofs.lemmas.Bool.{cases_eq, false≢true}
use Rattle.std.proofs.lemmas.List.{length-set, map-set}
use Rattle.std.proofs.lemmas.Option.{same_Some, slice_get-get_or, slice_get_within}
use Rattle.claim_gate.specs.Terms.{TermsParts}
use Rattle.claim_gate.specs.declared.offer.Offer.{Offer}
use Rattle.ordered_claims.specs.Kept.{AreStocked, IsQueued, IsReading, Moves, given_in, read_in, taken_in}
use Rattle.ordered_claims.specs.OrderedParts.{BeginsUnder, IsNextOffer, MovesRead, OrderedParts, ReaderParts, count_of}
use Rattle.ordered_claims.specs.Queued.{IsQueueAt, IsStocked, TakesAhead, read_of}
use Rattle.ordered_claims.specs.ReadAhead.{IsPlaced, IsSound, ReadsAhead, records_in}
use Rattle.ordered_claims.specs.declared.file_queue.FileQueue.{FileQueue}
use Rattle.ordered_claims.specs.declared.file_reader.FileReader.{FileReader}
use Rattle.ordered_claims.proofs.Lists.{each_after, number_at, same_numbers, set_other, set_same, sum_after}
use Rattle.ordered_claims.proofs.Reading.{sound_after}

-- the queues of these files are stocked
abbrev pub StockedBelow : ℕ → List FileQueue → Type 0
StockedBelow n queues = (i : ℕ) (queue : FileQueue) → i < n → slice_get queues i ≡ Some queue → IsStocked queue

-- before the first file nothing has moved
pub moves_nothing : (terms : TermsParts) (queues : List FileQueue) (readers : List FileReader) → IsQueued terms queues false → IsReading terms readers
    → taken_in readers ≡ read_in queues → Moves terms queues queues readers readers
moves_nothing terms queues readers queued reading joined = record { queued = queued; reading = reading; joined = joined; given = refl; as_many = refl }

-- the queue of one more file is stocked
pub stocked_more : (queues : List FileQueue) (i : ℕ) (old new : FileQueue) → slice_get queues i ≡ Some old → IsStocked new → StockedBelow i queues → StockedBelow (i + 1) (slice_set queues i new)
stocked_more queues i old new there stocked below j queue within at =
    elim (cases_eq j i) [
      | inl same ↦
          let here : slice_get (slice_set queues i new) i ≡ Some queue = subst (λ k. slice_get (slice_set queues i new) k ≡ Some queue) same at in
          let is : new ≡ queue = same_Some new queue (sym (set_same queues i old new there) ∙ here) in
          subst (λ (q : FileQueue). IsStocked q) is stocked
      | inr other ↦ below j queue (omega (arith, within, other)) (sym (set_other queues i j new other) ∙ at)
    ]

-- the queues of all files are stocked
pub stocked_all : (queues : List FileQueue) (n : ℕ) → length queues ≤ n → StockedBelow n queues → AreStocked queues
stocked_all queues n all below i queue there =
    let within = slice_get_within queues i queue there in
    below i queue (omega (arith, within, all)) there

module _ (terms : TermsParts) (first queues : List FileQueue) (from readers : List FileReader) (moves : Moves terms first queues from readers) (i : ℕ) (old : FileQueue) (source : FileReader)
    (there : slice_get queues i ≡ Some old) (beside : slice_get readers i ≡ Some source) where
  -- the reader of a file goes on after the claims of its queue
  pub joined_at : source.taken ≡ read_of old
  joined_at = sym (number_at (λ (r : FileReader). r.taken) readers i source beside) ∙ ap (λ ns. get_or ns i 0) moves.joined ∙ number_at read_of queues i old there

  -- the claims of one more file have moved
  pub moves_one : (new : FileQueue) (left : FileReader) → source.has_failed ≡ false → TakesAhead old new source left
      → Moves terms first (slice_set queues i new) from (slice_set readers i left)
  moves_one new left works takes =
      let same : given_in (slice_set queues i new) ≡ given_in queues = same_numbers (λ (q : FileQueue). q.given) queues i old new there takes.given in
      let sound = moves.reading.sound i source beside works in
      let queued = sum_after (λ (q : FileQueue). length q.claims.items) queues i old new there in
      let records = sum_after records_in readers i source left beside in
      record {
        queued = record {
          as_many = length-set queues i new ∙ moves.queued.as_many;
          fits = each_after (λ j q. read_of q < 2 ^ 64) queues i old new there takes.fits moves.queued.fits;
          stocked = λ is. absurd (false≢true is);
          given = λ T of_terms.
              let given = moves.queued.given T of_terms in
              record {
                claims = given.claims;
                in_order = given.in_order;
                counted = λ provider. given.counted provider ∙ ap (λ ns. count_of ns provider) (sym same);
                at = each_after (λ j q. IsQueueAt T (suc j) q) queues i old new there (takes.at T (suc i) (given.at i old there) (sound.at T of_terms)) given.at;
              };
        };
        reading = record {
          as_many = length-set readers i left ∙ moves.reading.as_many;
          sound = each_after (λ j (r : FileReader). r.has_failed ≡ false → IsSound terms (suc j) r) readers i source left beside
              (λ still. takes.sound terms (suc i) sound) moves.reading.sound;
        };
        joined = map-set (λ (r : FileReader). r.taken) readers i left ∙ ap (λ ns. slice_set ns i left.taken) moves.joined
            ∙ ap (λ n. slice_set (read_in queues) i n) takes.joined ∙ sym (map-set read_of queues i new);
        given = same ∙ moves.given;
        as_many = omega (arith, moves.as_many, queued, records, takes.as_many);
      }

-- the reader of one file reads ahead
pub reads_one : (terms : TermsParts) (readers : List FileReader) (i : ℕ) (old new : FileReader) → IsReading terms readers → slice_get readers i ≡ Some old → ReadsAhead old new
    → IsReading terms (slice_set readers i new)
reads_one terms readers i old new reading there ahead = record {
  as_many = length-set readers i new ∙ reading.as_many;
  sound = each_after (λ j (r : FileReader). r.has_failed ≡ false → IsSound terms (suc j) r) readers i old new there
      (sound_after terms (suc i) old new (reading.sound i old there) ahead) reading.sound;
}

pub taken_by_one : (readers : List FileReader) (i : ℕ) (old new : FileReader) → slice_get readers i ≡ Some old → ReadsAhead old new → taken_in (slice_set readers i new) ≡ taken_in readers
taken_by_one readers i old new there ahead = same_numbers (λ (r : FileReader). r.taken) readers i old new there ahead.taken

-- each reader reads ahead
abbrev pub EachReadsAhead : List FileReader → List FileReader → Type 0
EachReadsAhead old new = (i : ℕ) (d : FileReader) → i < length old → ReadsAhead (get_or old i d) (get_or new i d)

pub reads_all : (terms : TermsParts) (old new : List FileReader) → IsReading terms old → length new ≡ length old → EachReadsAhead old new → IsReading terms new
reads_all terms old new reading long each = record {
  as_many = long ∙ reading.as_many;
  sound = λ i reader there works.
      let within = slice_get_within new i reader there in
      let before : i < length old = omega (arith, within, long) in
      let was = get_or old i reader in
      let is : get_or new i reader ≡ reader = same_Some (get_or new i reader) reader (sym (slice_get-get_or new i reader within) ∙ there) in
      sound_after terms (suc i) was reader (reading.sound i was (slice_get-get_or old i reader before))
      (subst (λ (r : FileReader). ReadsAhead was r) is (each i reader before)) works;
}

pub taken_by_all : (old new : List FileReader) → length new ≡ length old → EachReadsAhead old new → taken_in new ≡ taken_in old
taken_by_all [] [] long each = refl
taken_by_all [] (y ∷ new) long each = absurd (omega (arith, long))
taken_by_all (x ∷ old) [] long each = absurd (omega (arith, long))
taken_by_all (x ∷ old) (y ∷ new) long each =
    let first : y.taken ≡ x.taken = (each 0 x (omega arith)).taken in
    let others : taken_in new ≡ taken_in old = taken_by_all old new (omega (arith, long)) (λ i d within. each (suc i) d (omega (arith, within))) in
    ap (λ n. n ∷ taken_in new) first ∙ ap (λ ns. x.taken ∷ ns) others

-- each reader that works is placed
pub all_placed : (terms : TermsParts) (readers : List FileReader) → IsReading terms readers → All (λ (r : FileReader). r.has_failed ≡ false → IsPlaced r) readers
all_placed terms readers reading = λ i d within works. (reading.sound i (get_or readers i d) (slice_get-get_or readers i d within) works).placed

-- a reader of all files, as contracts see it
abbrev pub whole : OrderedParts → ReaderParts → OrderedParts
whole claims readers = record { terms = claims.terms; given = claims.given; read = claims.read; left = claims.left + readers.left }

-- the reader of all files begins with the first claims
pub begins_whole : (terms : TermsParts) (old new : OrderedParts) (from left : ReaderParts) → BeginsUnder terms old → MovesRead old new from left → BeginsUnder terms (whole new left)
begins_whole terms old new from left begins moves = record {
  terms_are = moves.terms ∙ begins.terms_are;
  none = λ provider. ap (λ ns. count_of ns provider) moves.given ∙ begins.none provider;
}

-- the reader of all files gives the claim that the queues give, and reads the one after it
pub gives_whole : (old between new : OrderedParts) (from read left : ReaderParts) (offer : Offer) → IsNextOffer old between offer → read.left ≤ from.left → MovesRead between new read left
    → IsNextOffer (whole old from) (whole new left) offer
gives_whole old between new from read left offer gives fewer moves = record {
  provider = gives.provider;
  filed = gives.filed;
  place = gives.place;
  room = gives.room;
  due = gives.due;
  terms = moves.terms ∙ gives.terms;
  given = λ provider. ap (λ ns. count_of ns provider) moves.given ∙ gives.given provider;
  fewer = omega (arith, moves.as_many, gives.fewer, fewer);
}

-- a reader with other spare boxes has the same claims
pub spared : (old new : FileReader) → new ≡ record old { spare = new.spare } → ReadsAhead old new
spared old new same =
    let ahead : ReadsAhead old (record old { spare = new.spare }) = record {
      taken = refl;
      reads = λ works. record {
        worked = works;
        works = works;
        placed = λ placed. record { place = placed.place; within = placed.within; fits = placed.fits };
        at = λ T provider at. record { ahead = at.ahead; others = at.others; over = at.over };
        fewer = omega arith;
      };
    } in
    subst (λ reader. ReadsAhead old reader) (sym same) ahead
