-- The number that a text denotes.
use Rattle.std.proofs.Common.{◌≡◌, ℕ, ℤ, unsigned_abs, ◌≤◌, zero, suc, Bool, true, false, List, Ok, Err, refl, sym, ap, ◌∙◌, subst, arith}
use Rattle.fixpoint.specs.declared.fault.NumFault.{NumFault}
use Rattle.fixpoint.specs.declared.fault.NumFault.TheVariants.{NotNumber, TooFine, TooLarge}
use Rattle.fixpoint.specs.Number.{greatest_units, IsInRange, signed}
use Rattle.fixpoint.specs.NumberText.{IsCountOf, IsWorth, Denotes, IsAnswer}
use Rattle.fixpoint.specs.Reading.{HasParts, IsCountAnswer}
use Rattle.fixpoint.proofs.Spelling.{same_parts}
use Rattle.fixpoint.proofs.Counts.{same_count}

pub unsigned_abs-signed : (negative : Bool) (count : ℕ) → unsigned_abs (signed negative count) ≡ count
unsigned_abs-signed false count = refl
unsigned_abs-signed true zero = refl
unsigned_abs-signed true (suc count) = refl

same_count_parts : (whole fraction whole' fraction' : List ℕ) (count : ℕ) → whole ≡ whole' → fraction ≡ fraction' → IsCountOf whole fraction count → IsCountOf whole' fraction' count
same_count_parts whole fraction whole' fraction' count p q h = subst (λ l. IsCountOf l fraction' count) p (subst (λ l. IsCountOf whole l count) q h)

-- a text has at most one value in units
pub same_worth : (bytes : List ℕ) (one other : ℤ) → IsWorth bytes one → IsWorth bytes other → one ≡ other
same_worth bytes one other p q =
    let same = same_parts bytes p.text q.text in
    let counts = same_count q.text.whole q.text.fraction p.count q.count
    (same_count_parts p.text.whole p.text.fraction q.text.whole q.text.fraction p.count same.1 same.2 p.counted) q.counted in
    p.is_signed ∙ ap (λ b. signed b p.count) same.0 ∙ ap (signed q.text.negative) counts ∙ sym q.is_signed

-- the parts that were read have the count of any value of the text
count_of_worth : (bytes : List ℕ) (negative : Bool) (whole fraction : List ℕ) → HasParts bytes negative whole fraction
    → (units : ℤ) (worth : IsWorth bytes units) → IsCountOf whole fraction worth.count
count_of_worth bytes negative whole fraction parts units worth =
    let same = same_parts bytes worth.text parts.text in
    same_count_parts worth.text.whole worth.text.fraction whole fraction worth.count (same.1 ∙ parts.its_whole) (same.2 ∙ parts.its_fraction) worth.counted

worth_of_count : (bytes : List ℕ) (negative : Bool) (whole fraction : List ℕ) → HasParts bytes negative whole fraction
    → (count : ℕ) → IsCountOf whole fraction count → IsWorth bytes (signed negative count)
worth_of_count bytes negative whole fraction parts count h = record {
  text = parts.text;
  count = count;
  counted = same_count_parts whole fraction parts.text.whole parts.text.fraction count (sym parts.its_whole) (sym parts.its_fraction) h;
  is_signed = ap (λ b. signed b count) (sym parts.its_sign);
}

-- the count that was read, with its sign, is what the text denotes
pub Denotes-from_count : (bytes : List ℕ) (negative : Bool) (whole fraction : List ℕ) → HasParts bytes negative whole fraction
    → (count : ℕ) → IsCountAnswer whole fraction (Ok count) → (units : ℤ) → units ≡ signed negative count → Denotes bytes units
Denotes-from_count bytes negative whole fraction parts count h units e = record {
  worth = subst (IsWorth bytes) (sym e) (worth_of_count bytes negative whole fraction parts count h.0);
  in_range = subst IsInRange (sym e) (subst (λ n. n ≤ greatest_units) (sym (unsigned_abs-signed negative count)) h.1);
}

-- an error of the count is an error of the text
pub IsAnswer-from_count : (bytes : List ℕ) (negative : Bool) (whole fraction : List ℕ) → HasParts bytes negative whole fraction
    → (fault : NumFault) → IsCountAnswer whole fraction (Err fault) → IsAnswer bytes (Err fault)
IsAnswer-from_count bytes negative whole fraction parts NotNumber h = absurd h
IsAnswer-from_count bytes negative whole fraction parts TooFine h = record {
  text = parts.text;
  no_units = λ units worth. h worth.count (count_of_worth bytes negative whole fraction parts units worth);
}
IsAnswer-from_count bytes negative whole fraction parts TooLarge h = record {
  units = signed negative h.0;
  worth = worth_of_count bytes negative whole fraction parts h.0 h.1;
  beyond = λ inside. omega (arith, unsigned_abs-signed negative h.0, h.2, inside);
}

-- if the result is an error, the text denotes no number
pub no_number_from_fault : (bytes : List ℕ) (fault : NumFault) → IsAnswer bytes (Err fault) → (units : ℤ) → ¬ Denotes bytes units
no_number_from_fault bytes NotNumber h units d = h d.worth.text
no_number_from_fault bytes TooFine h units d = h.no_units units d.worth
no_number_from_fault bytes TooLarge h units d = h.beyond (subst IsInRange (same_worth bytes units h.units d.worth h.worth) d.in_range)
