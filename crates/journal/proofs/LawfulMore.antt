-- A lawful journal stays lawful when an event that fits is appended, followed by the close if that
-- event makes it due.
use Rattle.std.proofs.Common.{◌≡◌, ℕ, ◌<◌, ◌+◌, Bool, true, false, not, ◌&&◌, List, [], ◌∷◌, ◌++◌, take, length, refl, sym, ap, ◌∙◌, subst, inl, inr, arith}
use Rattle.std.proofs.lemmas.Bool.{both_ways, and_parts, and_cases, not-true, not-false, cases_lt, cond-true, cond-false, false_from_ne_true, or_right}
use Rattle.std.proofs.lemmas.List.{length_push, take-append-le, take_all}
use Rattle.std.proofs.lemmas.List.Folds.{list_any-append}
use Rattle.std.proofs.lemmas.Option.{none-some}
use Rattle.journal.specs.Terms.{Terms}
use Rattle.journal.specs.Events.{closed, is_close, due}
use Rattle.journal.specs.Lawful.{Sound, Lawful, IsNextClose, Fits, closing}
use Rattle.journal.specs.declared.event.Event.{Event}
use Rattle.journal.specs.declared.event.Event.TheVariants.{Close}
use Rattle.journal.proofs.Grown.{list_any_stays}
use Rattle.journal.proofs.SoundMore.{sound_more}

module _ (T : Terms) (J : List Event) (S : Sound T J) (before : (i : ℕ) → i < length J → due T (take i J) ≡ true → closed J ≡ true) where
  no_close : (due T J && not (closed J)) ≡ false → Lawful T J
  no_close h = record {
    sound = S;
    closed_when_due = λ i d.
        elim (cases_lt i (length J)) [
          | inl below ↦ before i below d
          | inr past ↦
              let now : due T J ≡ true = ap (due T) (sym (take_all i J past)) ∙ d in
              elim (and_cases (due T J) (not (closed J)) h) [
                | inl not_due ↦ absurd (both_ways (due T J) not_due now)
                | inr is_closed ↦ not-false (closed J) is_closed
              ]
        ];
  }

  with_close : (due T J && not (closed J)) ≡ true → Lawful T (J ++ Close ∷ [])
  with_close h =
      let parts = and_parts (due T J) (not (closed J)) h in
      let open_yet : closed J ≡ false = not-true (closed J) parts.1 in
      let first : (i : ℕ) → i < length J → due T (take i J) ≡ false =
      λ i below. false_from_ne_true (due T (take i J)) (λ d. both_ways (closed J) open_yet (before i below d)) in
      let next : IsNextClose T J = record { when = parts.0; first = first } in
      record {
        sound = sound_more T J Close S next;
        closed_when_due = λ i d. list_any-append is_close J (Close ∷ []) ∙ or_right (closed J) true refl;
      }

  closing_by : (b : Bool) → (due T J && not (closed J)) ≡ b → Lawful T (closing T J)
  closing_by true h = subst (Lawful T) (sym (cond-true (due T J && not (closed J)) (J ++ Close ∷ []) J h)) (with_close h)
  closing_by false h = subst (Lawful T) (sym (cond-false (due T J && not (closed J)) (J ++ Close ∷ []) J h)) (no_close h)

  -- a sound journal that is closed wherever the close was due earlier is lawful with the close, if
  -- it is due now
  pub lawful_closing : Lawful T (closing T J)
  lawful_closing = closing_by (due T J && not (closed J)) refl

pub lawful_more : (T : Terms) (J : List Event) (event : Event) → Lawful T J → Fits T J event → Lawful T (closing T (J ++ event ∷ []))
lawful_more T J event L fits =
    lawful_closing T (J ++ event ∷ []) (sound_more T J event L.sound fits)
    (λ i below d.
    let long : length (J ++ event ∷ []) ≡ length J + 1 = length_push J event in
    let front : take i (J ++ event ∷ []) ≡ take i J = take-append-le i J (event ∷ []) (omega arith) in
    list_any_stays is_close J (event ∷ []) (L.closed_when_due i (ap (due T) (sym front) ∙ d)))

sound_start : (T : Terms) → Sound T []
sound_start T = record {
  in_order = λ p. refl;
  within = λ p. omega arith;
  ends = λ i p h. absurd (none-some _ h);
  closes = λ i h. absurd (none-some _ h);
  takes = λ i k h. absurd (none-some _ h);
  decides = λ i k o h. absurd (none-some _ h);
}

pub lawful_start : (T : Terms) → Lawful T (closing T [])
lawful_start T = lawful_closing T [] (sound_start T) (λ i below d. let no_room : ⊥ = omega arith in absurd no_room)
