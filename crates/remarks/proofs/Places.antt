-- The places of a reader, and its states.
use Rattle.std.proofs.Common.{◌≡◌, ◌≢◌, ◌<◌, ◌≤◌, ◌+◌, ℕ, Bool, true, false, zero, suc, List, [], ◌∷◌, ◌++◌, Some, take, length, ap, sym, subst, refl, ◌∙◌, add-one, arith}
use Rattle.std.proofs.Math.Seq.{take-suc}
use Rattle.std.proofs.lemmas.Bool.Decides.{nat_tests}
use Rattle.csv.specs.Machine.{step}
use Rattle.csv.specs.Reading.{default_config}
use Rattle.csv.specs.declared.parser.State.{State}
use Rattle.csv.specs.declared.parser.State.TheVariants as state
use Rattle.remarks.specs.declared.scan.Place.{Place}
use Rattle.remarks.specs.declared.scan.Place.TheVariants.{FieldStart, Quoted}
use Rattle.remarks.specs.Quotes.{begins_field, byte_at, quote, state_after, state_at}
use Rattle.remarks.specs.Scans.{is_in_quotes, place_after, place_of}

-- a field begins in a state if it begins at the state's place
pub begins_at : (s : State) → place_of s ≡ Some FieldStart → begins_field s ≡ true
begins_at state.StartRecord at = refl
begins_at state.StartField at = refl
begins_at state.AfterCr at = refl
begins_at state.InField at = cc at
begins_at state.InQuoted at = cc at
begins_at state.AfterQuote at = cc at
begins_at state.InEscape at = cc at
begins_at state.InComment at = cc at

pub place_at_start : (s : State) (place : Place) → place_of s ≡ Some place → begins_field s ≡ true → place ≡ FieldStart
place_at_start state.StartRecord place at begins = cc at
place_at_start state.StartField place at begins = cc at
place_at_start state.AfterCr place at begins = cc at
place_at_start state.InField place at begins = cc begins
place_at_start state.InQuoted place at begins = cc begins
place_at_start state.AfterQuote place at begins = cc begins
place_at_start state.InEscape place at begins = cc begins
place_at_start state.InComment place at begins = cc begins

pub quoted_at : (s : State) → place_of s ≡ Some Quoted → s ≡ state.InQuoted
quoted_at state.InQuoted at = refl
quoted_at state.StartRecord at = cc at
quoted_at state.StartField at = cc at
quoted_at state.AfterCr at = cc at
quoted_at state.InField at = cc at
quoted_at state.AfterQuote at = cc at
quoted_at state.InEscape at = cc at
quoted_at state.InComment at = cc at

pub place_in_quotes : (s : State) (place : Place) → place_of s ≡ Some place → s ≡ state.InQuoted → place ≡ Quoted
place_in_quotes s place at is = cc (sym at ∙ ap place_of is)

-- the state after one more byte
state_append : (from : State) (front : List ℕ) (byte : ℕ) → state_after from (front ++ byte ∷ []) ≡ (step default_config (state_after from front) byte).0
unfolding state_after
state_append from [] byte = refl
state_append from (first ∷ rest) byte = state_append (step default_config from first).0 rest byte

pub state_more : (text : List ℕ) (at : ℕ) → at < length text → state_at text (at + 1) ≡ (step default_config (state_at text at) (byte_at text at)).0
state_more text at within = ap (state_after state.StartRecord) (rw (add-one at) (take-suc text at 0 within)) ∙ state_append state.StartRecord (take at text) (byte_at text at)

-- before the first byte a field begins
pub begins_text : (text : List ℕ) → place_of (state_at text 0) ≡ Some FieldStart
unfolding state_after
begins_text text = refl

-- no quoted field is open
abbrev pub is_plain : State → Bool
is_plain state.StartRecord = true
is_plain state.StartField = true
is_plain state.AfterCr = true
is_plain state.InField = true
is_plain state.InQuoted = false
is_plain state.AfterQuote = false
is_plain state.InEscape = false
is_plain state.InComment = false

plain_step : (s : State) (byte : ℕ) → byte ≢ quote → is_plain s ≡ true → is_plain (step default_config s byte).0 ≡ true
plain_step state.StartRecord byte other plain = grind (arith, nat_tests, other)
plain_step state.StartField byte other plain = grind (arith, nat_tests, other)
plain_step state.AfterCr byte other plain = grind (arith, nat_tests, other)
plain_step state.InField byte other plain = grind (arith, nat_tests, other)
plain_step state.InQuoted byte other plain = cc plain
plain_step state.AfterQuote byte other plain = cc plain
plain_step state.InEscape byte other plain = cc plain
plain_step state.InComment byte other plain = cc plain

pub plain_not_quoted : (s : State) → is_plain s ≡ true → s ≢ state.InQuoted
plain_not_quoted s plain is = cc (sym plain ∙ ap is_plain is)

-- where no quoted field is open, the place after a byte that is no quote depends on this byte alone
plain_place : (s : State) (byte : ℕ) → byte ≢ quote → is_plain s ≡ true → place_of (step default_config s byte).0 ≡ Some (place_after byte)
plain_place state.StartRecord byte other plain = grind (arith, nat_tests, other)
plain_place state.StartField byte other plain = grind (arith, nat_tests, other)
plain_place state.AfterCr byte other plain = grind (arith, nat_tests, other)
plain_place state.InField byte other plain = grind (arith, nat_tests, other)
plain_place state.InQuoted byte other plain = cc plain
plain_place state.AfterQuote byte other plain = cc plain
plain_place state.InEscape byte other plain = cc plain
plain_place state.InComment byte other plain = cc plain

pub plain_at : (s : State) (place : Place) → place_of s ≡ Some place → is_in_quotes place ≡ false → is_plain s ≡ true
plain_at state.StartRecord place at outside = refl
plain_at state.StartField place at outside = refl
plain_at state.AfterCr place at outside = refl
plain_at state.InField place at outside = refl
plain_at state.InQuoted place at outside = cc (at, outside)
plain_at state.AfterQuote place at outside = cc (at, outside)
plain_at state.InEscape place at outside = cc at
plain_at state.InComment place at outside = cc at

-- past bytes without quotes no quoted field is open
pub plain_after : (text : List ℕ) (from count : ℕ) → from + count ≤ length text → ((at : ℕ) → from ≤ at → at < from + count → byte_at text at ≢ quote)
    → is_plain (state_at text from) ≡ true → is_plain (state_at text (from + count)) ≡ true
plain_after text from zero within none plain =
    let here : from + 0 ≡ from = omega arith in
    subst (λ at. is_plain (state_at text at) ≡ true) (sym here) plain
plain_after text from (suc count) within none plain =
    let before = plain_after text from count (omega (arith, within)) (λ at least most. none at least (omega (arith, most))) plain in
    let next = state_more text (from + count) (omega (arith, within)) in
    let there : from + suc count ≡ from + count + 1 = omega arith in
    rw (there, next) (plain_step (state_at text (from + count)) (byte_at text (from + count)) (none (from + count) (omega arith) (omega arith)) before)

-- the place after bytes without quotes
pub place_past : (text : List ℕ) (from count : ℕ) → from + count < length text → ((at : ℕ) → from ≤ at → at < from + count + 1 → byte_at text at ≢ quote)
    → is_plain (state_at text from) ≡ true → place_of (state_at text (from + count + 1)) ≡ Some (place_after (byte_at text (from + count)))
place_past text from count within none plain =
    let before = plain_after text from count (omega (arith, within)) (λ at least most. none at least (omega (arith, most))) plain in
    rw (state_more text (from + count) within)
    (plain_place (state_at text (from + count)) (byte_at text (from + count)) (none (from + count) (omega arith) (omega arith)) before)
