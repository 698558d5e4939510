-- The entries after a decision, position by position.
use Rattle.std.proofs.Common.{◌≡◌, ℕ, zero, suc, Bool, true, false, cond, List, [], ◌∷◌, Some, ◌⊎◌, refl, sym, ap, ◌∙◌, subst, inl, inr}
use Rattle.std.specs.List.{slice_get}
use Rattle.std.proofs.lemmas.Option.{none-some, same_Some}
use Rattle.settlement.specs.Accounts.{account_of}
use Rattle.settlement.specs.declared.acc.Acc.{Acc}
use Rattle.settlement.specs.declared.claim.Claim.{Claim}
use Rattle.journal.specs.Places.{Place, is_of}
use Rattle.journal.specs.declared.phase.Phase.{Phase}
use Rattle.journal.specs.declared.phase.Phase.TheVariants.{Waiting, Ready, InWork, Decided}
use Rattle.journal.specs.Calls.{ready_at, release_first, with_decision}
use Rattle.journal.specs.Terms.{Terms}
use Rattle.journal.specs.Events.{claim_at, before}
use Rattle.journal.specs.declared.event.Event.{Event}
use Rattle.claim_gate.specs.GateIndex.{IsPhaseOf, IsPlaceAt, ArePlacesOf}

-- the entry is the old one at the position, except that it is ready if it waited
record IsReleased (lanes : List Place) (j : ℕ) (place : Place) : Type 0 where
  pub old : Place
  pub there : slice_get lanes j ≡ Some old
  pub place_is : place ≡ record old { phase = ready_at old.phase }

released_by : (b : Bool) (family : List ℕ) (x : Place) (lanes : List Place)
    → ((j : ℕ) (place : Place) → slice_get (release_first family lanes) j ≡ Some place → (slice_get lanes j ≡ Some place) ⊎ IsReleased lanes j place)
    → (j : ℕ) (place : Place) → slice_get (cond b (record x { phase = ready_at x.phase } ∷ lanes) (x ∷ release_first family lanes)) j ≡ Some place
    → (slice_get (x ∷ lanes) j ≡ Some place) ⊎ IsReleased (x ∷ lanes) j place
released_by true family x lanes rest zero place h =
    inr (record { old = x; there = refl; place_is = sym (same_Some (record x { phase = ready_at x.phase }) place h) })
released_by true family x lanes rest (suc j) place h = inl h
released_by false family x lanes rest zero place h = inl h
released_by false family x lanes rest (suc j) place h =
    elim (rest j place h) [ inl same ↦ inl same | inr r ↦ inr (record { old = r.old; there = r.there; place_is = r.place_is }) ]

released_is : (family : List ℕ) (lanes : List Place) (j : ℕ) (place : Place) → slice_get (release_first family lanes) j ≡ Some place
    → (slice_get lanes j ≡ Some place) ⊎ IsReleased lanes j place
released_is family [] j place h = absurd (none-some place h)
released_is family (x ∷ lanes) j place h = released_by (is_of family x) family x lanes (released_is family lanes) j place h

-- the entry is the old one at the decided position, except that it is decided
record IsDecided (lanes : List Place) (k : ℕ) (left : Acc) (j : ℕ) (place : Place) : Type 0 where
  pub old : Place
  pub there : slice_get lanes j ≡ Some old
  pub here : j ≡ k
  pub place_is : place ≡ record old { phase = Decided left }

data Changed (lanes : List Place) (k : ℕ) (left : Acc) (j : ℕ) (place : Place) : Type 0 where
  stays : slice_get lanes j ≡ Some place → Changed lanes k left j place
  decides : IsDecided lanes k left j place → Changed lanes k left j place
  follows : IsReleased lanes j place → Changed lanes k left j place

changed : (lanes : List Place) (k : ℕ) (left : Acc) (j : ℕ) (place : Place) → slice_get (with_decision lanes k left) j ≡ Some place → Changed lanes k left j place
changed [] k left j place h = absurd (none-some place h)
changed (x ∷ lanes) zero left zero place h =
    decides (record { old = x; there = refl; here = refl; place_is = sym (same_Some (record x { phase = Decided left }) place h) })
changed (x ∷ lanes) zero left (suc j) place h =
    elim (released_is x.account.family lanes j place h) [
      | inl same ↦ stays same
      | inr r ↦ follows (record { old = r.old; there = r.there; place_is = r.place_is })
    ]
changed (x ∷ lanes) (suc k) left zero place h = stays h
changed (x ∷ lanes) (suc k) left (suc j) place h =
    elim (changed lanes k left j place h) [
      | stays same ↦ stays same
      | decides d ↦ decides (record { old = d.old; there = d.there; here = ap suc d.here; place_is = d.place_is })
      | follows n ↦ follows (record { old = n.old; there = n.there; place_is = n.place_is })
    ]

module _ (T : Terms) (J : List Event) (lanes : List Place) (are : ArePlacesOf T J lanes)
    (k : ℕ) (claim : Claim) (left : Acc) (located : claim_at T J k ≡ Some claim) (leaves : left ≡ before T J (suc k) (account_of T.plan claim)) where
  decided_place : (j : ℕ) (old : Place) → j ≡ k → IsPlaceAt T J j old → IsPlaceAt T J j (record old { phase = Decided left })
  decided_place j old here is =
      let same : is.claim ≡ claim = same_Some is.claim claim (sym is.located ∙ ap (claim_at T J) here ∙ located) in
      record {
        claim = is.claim;
        located = is.located;
        account = is.account;
        phase = leaves ∙ ap (λ (c : Claim). before T J (suc k) (account_of T.plan c)) (sym same)
            ∙ ap (λ n. before T J (suc n) (account_of T.plan is.claim)) (sym here);
      }

  ready_phase : (c : Claim) (next : Acc) (phase : Phase) → IsPhaseOf c next phase → IsPhaseOf c next (ready_at phase)
  ready_phase c next (Waiting d) h = h
  ready_phase c next (Ready d) h = h
  ready_phase c next InWork h = h
  ready_phase c next (Decided l) h = h

  next_place : (j : ℕ) (old : Place) → IsPlaceAt T J j old → IsPlaceAt T J j (record old { phase = ready_at old.phase })
  next_place j old is = record {
    claim = is.claim;
    located = is.located;
    account = is.account;
    phase = ready_phase is.claim (before T J (suc j) (account_of T.plan is.claim)) old.phase is.phase;
  }

  -- after a decision the entries agree with the journal
  pub places_decision : ArePlacesOf T J (with_decision lanes k left)
  places_decision j place there =
      elim (changed lanes k left j place there) [
        | stays same ↦ are j place same
        | decides d ↦ subst (IsPlaceAt T J j) (sym d.place_is) (decided_place j d.old d.here (are j d.old d.there))
        | follows n ↦ subst (IsPlaceAt T J j) (sym n.place_is) (next_place j n.old (are j n.old n.there))
      ]
