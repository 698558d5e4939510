-- The records of a text, and a reader with some of them remaining.
use Rattle.std.proofs.Common.{inl, inr, ◌≡◌, ◌<◌, ◌≤◌, ◌+◌, ◌-◌, ℕ, suc, zero, true, false, Bor, List, [], ◌∷◌, length, drop, Option, Some, None, refl, sym, ap, ◌∙◌, arith}
use Rattle.std.proofs.lemmas.Bool.{cases_Bool}
use Rattle.std.proofs.lemmas.Option.{same_Some}
use Rattle.csv.specs.Machine.{Read, ends_at_end, is_end, next_record, step}
use Rattle.csv.specs.Reading.{AreRecords, Reached, ReadRecord, default_config, is_bom, records_from, records_next, strip_bom}
use Rattle.csv.specs.declared.parser.Config.{Config}
use Rattle.csv.specs.declared.parser.State.{State}
use Rattle.csv.specs.declared.parser.State.TheVariants as state
use Rattle.csv.specs.declared.reader.Reader.{Reader}
use Rattle.csv.proofs.ReadFacts.{rows-end, rows-more}
use Rattle.intake_csv.specs.declared.records.Stage.TheVariants.{Reading}
use Rattle.intake_csv.specs.Reader.{HasLeft}
use Rattle.intake_csv.specs.Records.{AreRecordsOf, Fields, Reads, RecordsLeft, records_of, remaining}
use Rattle.intake_csv.proofs.Lists.{one-more}

-- a read consumes at least one byte if there is one
next-shorter : (cfg : Config) (s : State) (fields : Fields) (field xs : List ℕ) (p : Read) → next_record cfg s fields field xs ≡ Some p → length p.2 ≤ length xs - 1
unfolding next_record
next-shorter cfg s fields field [] p e = elim (cases_Bool (ends_at_end s)) [
  | inl ends ↦
      let same = same_Some _ p (rw ends at e) in
      let size = ap (λ (q : Read). length q.2) same in
      omega (arith, size)
  | inr on ↦ absurd (cc (rw on at e))
]
next-shorter cfg s fields field (c ∷ rest) p e = elim (cases_Bool (is_end (step cfg s c).1)) [
  | inl ends ↦
      let same = same_Some _ p (rw ends at e) in
      let size = ap (λ (q : Read). length q.2) same in
      omega (arith, size)
  | inr on ↦
      let shorter = next-shorter cfg (step cfg s c).0 _ _ rest p (rw on at e) in
      omega (arith, shorter)
]

-- no record is after the end of a text
none-following : (cfg : Config) (n : ℕ) → AreRecords cfg state.StartRecord [] (records_from cfg n state.StartRecord [])
unfolding next_record records_from Reached
none-following cfg zero = (state.StartRecord, [], (refl, refl), refl)
none-following cfg (suc n) = (state.StartRecord, [], (refl, refl), refl)

-- a read at the end of the text is the last one
last-read : (cfg : Config) (s : State) (p : Read) → next_record cfg s [] [] [] ≡ Some p → (p.1 ≡ state.StartRecord) × (p.2 ≡ [])
unfolding next_record
last-read cfg s p e = elim (cases_Bool (ends_at_end s)) [
  | inl ends ↦ let same = same_Some _ p (rw ends at e) in (sym (ap (λ (q : Read). q.1) same), sym (ap (λ (q : Read). q.2) same))
  | inr on ↦ absurd (cc (rw on at e))
]

-- n reads return all records if there are fewer than n bytes
all-records : (cfg : Config) (n : ℕ) (s : State) (xs : List ℕ) → length xs < n → AreRecords cfg s xs (records_from cfg n s xs)
unfolding records_from Reached
all-records cfg zero s xs few = absurd (omega (arith, few))
all-records cfg (suc n) s xs few = by (λ q ys fewer. all-records cfg n q ys fewer) (next_record cfg s [] [] xs) refl
  where
    tail : ((q : State) (ys : List ℕ) → length ys < n → AreRecords cfg q ys (records_from cfg n q ys)) → (ys : List ℕ) (p : Read) → xs ≡ ys
        → next_record cfg s [] [] ys ≡ Some p → AreRecords cfg p.1 p.2 (records_from cfg n p.1 p.2)
    tail all [] p same e = let last = last-read cfg s p e in rw (last.0, last.1) (none-following cfg n)
    tail all (y ∷ ys) p same e =
        let shorter = next-shorter cfg s [] [] (y ∷ ys) p e in
        let sizes = ap length same in
        all p.1 p.2 (omega (arith, shorter, sizes, few))

    by : ((q : State) (ys : List ℕ) → length ys < n → AreRecords cfg q ys (records_from cfg n q ys)) → (o : Option Read) → next_record cfg s [] [] xs ≡ o
        → AreRecords cfg s xs (records_from cfg (suc n) s xs)
    by all None e = rw e (s, xs, (refl, refl), e)
    by all (Some p) e = let others = tail all xs p refl e in rw e (others.0, others.1, (p, e, refl, others.2), others.3)

pub are-records-of : (text : List ℕ) → AreRecordsOf text (records_of text)
unfolding records_of
are-records-of text = all-records default_config (length (strip_bom text) + 1) state.StartRecord (strip_bom text) (omega arith)

-- n reads return at most n records
from-few : (cfg : Config) (n : ℕ) (s : State) (xs : List ℕ) → length (records_from cfg n s xs) ≤ n
unfolding records_from
from-few cfg zero s xs = omega arith
from-few cfg (suc n) s xs = by (λ q ys. from-few cfg n q ys) (next_record cfg s [] [] xs)
  where
    by : ((q : State) (ys : List ℕ) → length (records_from cfg n q ys) ≤ n) → (o : Option Read) → length (records_next (records_from cfg n) o) ≤ suc n
    by few None = omega arith
    by few (Some p) = let others = few p.1 p.2 in omega (arith, others)

strip-shorter : (text : List ℕ) → length (strip_bom text) ≤ length text
unfolding strip_bom
strip-shorter [] = omega arith
strip-shorter (a ∷ []) = omega arith
strip-shorter (a ∷ b ∷ []) = omega arith
strip-shorter (a ∷ b ∷ c ∷ rest) = elim (cases_Bool (is_bom a b c)) [
  | inl marked ↦ rw marked (omega arith)
  | inr plain ↦ rw plain (omega arith)
]

-- a text has at most one more record than it has bytes
pub records-few : (text : List ℕ) → length (records_of text) ≤ length text + 1
unfolding records_of
records-few text =
    let few = from-few default_config (length (strip_bom text) + 1) state.StartRecord (strip_bom text) in
    let shorter = strip-shorter text in
    omega (arith, few, shorter)

-- if a read returns a record, it is the first of the remaining ones
first-left : (cfg : Config) (s s2 : State) (xs ys : List ℕ) (fields : Fields) (rows : List Fields) → AreRecords cfg s xs rows → Reached cfg s xs (fields ∷ []) s2 ys
    → (rest : List Fields) × (rows ≡ fields ∷ rest) × AreRecords cfg s2 ys rest
unfolding Reached
first-left cfg s s2 xs ys fields [] h g =
    let none : next_record cfg s [] [] xs ≡ None = rw (h.2.0, h.2.1) h.3 in
    absurd (cc (sym none ∙ g.1))
first-left cfg s s2 xs ys fields (r ∷ rs) h g =
    let read : Some h.2.0 ≡ Some g.0 = sym h.2.1 ∙ g.1 in
    let same : h.2.0 ≡ g.0 = cc read in
    let first : r ≡ fields = h.2.2 ∙ ap (λ (p : Read). p.0) same ∙ sym g.2 in
    let others = rw (same, g.3.0, g.3.1) at h.2.3 in
    (rs, ap (λ x. x ∷ rs) first, (h.0, h.1, others, h.3))

-- if a read returns no record, none remains
none-left : (cfg : Config) (s : State) (xs : List ℕ) (rows : List Fields) → AreRecords cfg s xs rows → next_record cfg s [] [] xs ≡ None → rows ≡ []
unfolding Reached
none-left cfg s xs [] h e = refl
none-left cfg s xs (r ∷ rs) h e = absurd (cc (sym e ∙ h.2.1))

-- the state of the reader after it returned a record
pub record Given (new : Reader (Bor (List ℕ))) (all : List Fields) (given : ℕ) (fields : Fields) : Type 0 where
  pub within : given < length all
  pub next : drop given all ≡ fields ∷ drop (given + 1) all
  pub left : HasLeft new (drop (given + 1) all)

-- the case that the reader returns a record
pub reader-gives : (old new : Reader (Bor (List ℕ))) (all : List Fields) (given : ℕ) (fields : Fields) → HasLeft old (drop given all) → ReadRecord (λ s. Some s.now) old new true fields
    → new.first ≡ true → Given new all given fields
unfolding Reached
reader-gives old new all given fields h read ready =
    let known = λ (s : Bor (List ℕ)). Some s.now in
    let more = rows-more known old new fields default_config old.state h.bytes h.bytes [] h.config h.source (refl, refl) read in
    let left = first-left default_config old.state new.state h.bytes more.0 fields (drop given all) h.are more.2 in
    let one = one-more all given fields left.0 left.1 in
    record {
      within = one.0;
      next = rw one.1 left.1;
      left = record {
        untrimmed = read.3 ∙ h.untrimmed;
        ready = inl ready;
        config = read.2 ∙ h.config;
        bytes = more.0;
        source = more.1;
        are = rw one.1 left.2;
      };
    }

-- the case that the reader is at the end
pub reader-ends : (old new : Reader (Bor (List ℕ))) (rows : List Fields) (fields : Fields) → HasLeft old rows → ReadRecord (λ s. Some s.now) old new false fields → rows ≡ []
reader-ends old new rows fields h read =
    none-left default_config old.state h.bytes rows h.are (rows-end (λ (s : Bor (List ℕ)). Some s.now) old new fields default_config h.bytes h.config h.source read)

-- a text without a record
pub no-records : (text : List ℕ) (new : RecordsLeft) (fields : Fields) → Reads (record { text = text; given = 0; stage = Reading }) new false fields → AreRecordsOf text []
no-records text new fields h = rw h.0 at (are-records-of text)

-- a text with a first record, its header
pub has-header : (text : List ℕ) (new : RecordsLeft) (fields : Fields) → Reads (record { text = text; given = 0; stage = Reading }) new true fields
    → AreRecordsOf text (fields ∷ drop 1 (records_of text))
has-header text new fields h =
    let all : records_of text ≡ fields ∷ remaining new = h.0 in
    let others : remaining new ≡ drop 1 (records_of text) = ap remaining h.1 in
    rw (← others, ← all) (are-records-of text)

-- the record that was read has this index in the list of records
pub read-at : (old new : RecordsLeft) (number : ℕ) (fields : Fields) → old.given ≡ number → Reads old new true fields
    → (number < length (records_of old.text)) × (drop number (records_of old.text) ≡ fields ∷ drop (number + 1) (records_of old.text)) × (new.text ≡ old.text)
read-at old new number fields is h =
    let one = one-more (records_of old.text) old.given fields (remaining new) h.0 in
    let next = h.0 ∙ ap (λ others. fields ∷ others) (sym one.1) in
    (rw is at one.0, rw is at next, ap (λ (r : RecordsLeft). r.text) h.1)
