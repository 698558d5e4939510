-- The sums over paid claims, event by event.
use Rattle.std.proofs.Common.{◌≡◌, ◌<◌, ◌≤◌, ◌+◌, ◌*◌, ◌^◌, ◌+ℤ◌, ℕ, suc, ℤ, pos, List, [], ◌∷◌, ◌++◌, get_or, length, map, take, Some, slice_get, inl, inr, refl, ap, sym, ◌∙◌, append-nil, arith}
use Rattle.std.proofs.Math.IntN.{+ℤ_assoc, +ℤ_idl, +ℤ_idr}
use Rattle.std.proofs.lemmas.Grind.{flat_map-append}
use Rattle.std.proofs.lemmas.List.{get_or-set_other, get_or-set_same, length-set, take_more}
use Rattle.std.proofs.lemmas.Bool.{cases_lt}
use Rattle.std.proofs.Math.ListN.{set}
use Rattle.std.specs.Prelude.{slice_index}
use Rattle.std.proofs.lemmas.Option.{same_Some, slice_get-get_or, slice_get_within}
use Rattle.fixpoint.specs.Money.{money_text}
use Rattle.fixpoint.specs.Number.{greatest_units}
use Rattle.settlement.specs.declared.outcome.Outcome.{Outcome}
use Rattle.journal.specs.declared.event.Event.{Event}
use Rattle.remit_records.specs.Decided.{paid_in, paid_outcomes, sum_of}
use Rattle.remit_records.specs.Amounts.{amounts, amount_of}
use Rattle.remit_records.specs.Looked.{AreGrown, AreSums, HaveRoom, IsGrown, IsSum}
use Rattle.remit_records.specs.Records.{total_text}
use Rattle.remit_records.specs.declared.amount.Amount.{Amount}
use Rattle.remit_records.specs.declared.amount.Amount.TheVariants.{Allowed}
use Rattle.remit_records.specs.declared.sums.Sums.{Sums}

-- the sum over two lists of outcomes in sequence
sum_of-append : (amount : Outcome → ℤ) (front following : List Outcome) → sum_of amount (front ++ following) ≡ sum_of amount front +ℤ sum_of amount following
sum_of-append amount [] following = sym (+ℤ_idl (sum_of amount following))
sum_of-append amount (o ∷ front) following =
    ap (λ s. amount o +ℤ s) (sum_of-append amount front following) ∙ sym (+ℤ_assoc (amount o) (sum_of amount front) (sum_of amount following))

-- one more event appends the outcome that it pays, if any
paid-push : (J : List Event) (event : Event) → paid_outcomes (J ++ event ∷ []) ≡ paid_outcomes J ++ paid_in event
paid-push J event = flat_map-append paid_in J (event ∷ []) ∙ ap (λ following. paid_outcomes J ++ following) (append-nil (paid_in event))

-- a sum after one more event
sum-more : (amount : Outcome → ℤ) (J : List Event) (event : Event) (count old new : ℕ) → IsSum amount (paid_outcomes J) count old → IsGrown amount (paid_in event) old new
    → IsSum amount (paid_outcomes (J ++ event ∷ [])) (count + 1) new
sum-more amount J event count old new before grown = record {
  value =
      grown.value ∙ ap (λ s. s +ℤ sum_of amount (paid_in event)) before.value
      ∙ sym (ap (sum_of amount) (paid-push J event) ∙ sum_of-append amount (paid_outcomes J) (paid_in event));
  bound = omega (arith, before.bound, grown.bound);
}

-- the sums after one more event
sums-more : (J : List Event) (event : Event) (count : ℕ) (old new : Sums) → AreSums J count old → AreGrown (paid_in event) old new
    → AreSums (J ++ event ∷ []) (count + 1) new
sums-more J event count old new before grown = record {
  size = grown.size ∙ before.size;
  each = λ place amount located.
      sum-more (amount_of amount) J event count (slice_index old.units place) (slice_index new.units place) (before.each place amount located) (grown.each place amount located);
}

-- the sums over the events before an index, after the event at the index
pub sums-next : (J : List Event) (place : ℕ) (event : Event) (old new : Sums) → place < length J → event ≡ get_or J place event → AreSums (take place J) place old
    → AreGrown (paid_in event) old new → AreSums (take (place + 1) J) (place + 1) new
sums-next J place event old new within is before grown =
    rw (take_more J place event within ∙ ap (λ e. take place J ++ e ∷ []) (sym is)) (sums-more (take place J) event place old new before grown)

-- a sum over the events of a journal of possible length leaves room for one more amount
sum-room : (count sum : ℕ) → count < 2 ^ 64 → sum ≤ count * greatest_units → sum + greatest_units < 2 ^ 128
sum-room count sum few bound = omega (arith, few, bound)

-- the sums over the events of a journal of possible length leave room for one more amount
pub sums-room : (J : List Event) (count : ℕ) (sums : Sums) → count < 2 ^ 64 → AreSums J count sums → HaveRoom sums
sums-room J count sums few are = record {
  size = are.size;
  each = λ place within.
      sum-room count (slice_index sums.units place) few (are.each place (get_or amounts place Allowed) (slice_get-get_or amounts place Allowed within)).bound;
}

-- the sums before an index have their amounts added, and the others are unchanged
pub record AddedTo (decision : Outcome) (old new : List ℕ) (place : ℕ) : Type 0 where
  pub size : length new ≡ length old
  pub added : (at : ℕ) (amount : Amount) → slice_get amounts at ≡ Some amount → at < place → IsGrown (amount_of amount) (decision ∷ []) (slice_index old at) (slice_index new at)
  pub others : (at : ℕ) → place ≤ at → slice_index new at ≡ slice_index old at

-- one more amount is added
pub added-next : (decision : Outcome) (old new : List ℕ) (place : ℕ) (amount : Amount) (sum : ℕ) → slice_get amounts place ≡ Some amount → place < length old
    → pos sum ≡ pos (slice_index new place) +ℤ amount_of amount decision → sum ≤ slice_index new place + greatest_units
    → AddedTo decision old new place → AddedTo decision old (set new place sum) (place + 1)
added-next decision old new place amount sum located within value bound so_far = record {
  size = length-set new place sum ∙ so_far.size;
  added = λ at other is less. elim (cases_lt at place) [
    | inl before ↦
        rw (get_or-set_other new place at sum 0 (λ e. omega (arith, before, e))) (so_far.added at other is before)
    | inr following ↦
        let here : at ≡ place = omega (arith, following, less) in
        let same : other ≡ amount = same_Some other amount (sym is ∙ ap (slice_get amounts) here ∙ located) in
        rw (here, same, get_or-set_same new place sum 0 (rw so_far.size within)) (record {
          value = value ∙ ap (λ s. pos s +ℤ amount_of amount decision) (so_far.others place (omega arith)) ∙ ap (λ a. pos (slice_index old place) +ℤ a) (sym (+ℤ_idr (amount_of amount decision)));
          bound = rw (so_far.others place (omega arith)) at bound;
        })
  ];
  others = λ at least. get_or-set_other new place at sum 0 (λ e. omega (arith, least, e)) ∙ so_far.others at (omega (arith, least));
}

-- all amounts are added
pub added-all : (decision : Outcome) (old new : Sums) (place : ℕ) → length amounts ≤ place → AddedTo decision old.units new.units place → AreGrown (decision ∷ []) old new
added-all decision old new place all added = record {
  size = added.size;
  each = λ at amount is. added.added at amount is (omega (arith, all, slice_get_within amounts at amount is));
}

-- the texts of units are those of the values of the amounts at the same index
texts-beside : (text : ℤ → List ℕ) (value : Amount → ℤ) (list : List Amount) (units : List ℕ) → length units ≡ length list
    → ((place : ℕ) (amount : Amount) → slice_get list place ≡ Some amount → pos (slice_index units place) ≡ value amount) → map (λ u. text (pos u)) units ≡ map (λ a. text (value a)) list
texts-beside text value [] [] size each = refl
texts-beside text value [] (u ∷ units) size each = absurd (omega (arith, size))
texts-beside text value (a ∷ list) [] size each = absurd (omega (arith, size))
texts-beside text value (a ∷ list) (u ∷ units) size each =
    ap (λ v. text v ∷ map (λ w. text (pos w)) units) (each 0 a refl)
    ∙ ap (λ texts. text (value a) ∷ texts) (texts-beside text value list units (omega (arith, size)) (λ place amount is. each (suc place) amount is))

-- the texts of the sums over a journal are those of its totals
pub sums_reported : (J : List Event) (count : ℕ) (sums : Sums) → AreSums J count sums → map (λ sum. money_text (pos sum)) sums.units ≡ map (total_text J) amounts
sums_reported J count sums are =
    texts-beside money_text (λ amount. sum_of (amount_of amount) (paid_outcomes J)) amounts sums.units are.size (λ place amount is. (are.each place amount is).value)
