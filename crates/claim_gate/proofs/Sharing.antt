-- How the contracts of the shared gate follow from those of the sequential gate.
use Rattle.std.proofs.Common.{◌≡◌, ◌≢◌, ◌<◌, ◌+◌, ◌∙◌, ◌++◌, ℕ, length, refl, sym, ap, inl, inr, arith, length-append, subst}
use Rattle.claim_gate.specs.Terms.{ForTerms, IsTermsOf, TermsParts}
use Rattle.settlement.specs.declared.acc.Acc.{Acc}
use Rattle.settlement.specs.declared.claim.Claim.{Claim}
use Rattle.journal.specs.Terms.{Terms}
use Rattle.journal.specs.Events.{Filed, IsJob, place_in, places}
use Rattle.journal.specs.Gate.{GateAt, LeadsTo}
use Rattle.journal.specs.Laws.{JobsAreStable}
use Rattle.turn_lock.specs.TicketShown.{HasMet}
use Rattle.turn_lock.specs.declared.ticket.view.LiveView.{LiveView as Seen}
use Rattle.claim_gate.specs.Locked.{known_by}
use Rattle.claim_gate.specs.Parts.{GateParts, at}
use Rattle.claim_gate.specs.Replies.{IsWorkOf}
use Rattle.claim_gate.specs.declared.fault.TakeFault.{TakeFault}
use Rattle.claim_gate.specs.declared.reply.Taken.{Taken}
use Rattle.std.proofs.Common.{Bool, true, List, Result, IfOk}
use Rattle.std.proofs.lemmas.Bool.{or_left}
use Rattle.std.specs.List.{list_any}
use Rattle.std.proofs.lemmas.List.Concat.{flat_map-append}
use Rattle.std.proofs.lemmas.List.Folds.{list_any-append}
use Rattle.journal.specs.Gate.{Continues}
use Rattle.journal.specs.InOrder.{IsDue}
use Rattle.journal.specs.declared.event.Event.{Event}
use Rattle.journal.specs.declared.order.Order.{Order}
use Rattle.journal.specs.declared.order.Order.TheVariants.{Any}
use Rattle.claim_gate.specs.Shared.{HadSection, HaveMet, IsDueAt, IsLawful, IsWornOut, Went}

-- a state that leads to another one as contracts see the two also does so as journals see them
pub leads_at : (T : Terms) (earlier later : GateParts) → LeadsTo earlier later → LeadsTo (at T earlier) (at T later)
leads_at T earlier later leads = record { terms = refl; journal = leads.journal; stop = λ stopped. ap (at T) (leads.stop stopped) }

-- a job in the state that the caller has seen is a job in the state that the section finds
pub job_stays :
    JobsAreStable → (seen found : GateParts) (position : ℕ) (claim : Claim) (acc : Acc) → LeadsTo seen found
    → ForTerms seen.terms (λ T. IsJob T seen.journal position claim acc) → ForTerms found.terms (λ T. IsJob T found.journal position claim acc)
job_stays stay seen found position claim acc leads job =
    λ T is. stay (at T seen) (at T found) position claim acc (leads_at T seen found leads) (job T (subst (λ terms. IsTermsOf terms T) leads.terms is))

module _ {V P : Type 0} (shown : V → GateParts) (seen last : P → V) (tally : P → ℕ) (pass after : P) (found left : V)
    (left_is : seen after ≡ left) (found_is : last after ≡ found) where
  -- a section of the lock is a section of the gate that it protects
  pub section_of :
      LeadsTo (shown (seen pass)) (shown found) → IsLawful (shown found) → LeadsTo (shown found) (shown left) → IsLawful (shown left) → tally after ≡ tally pass + 1
      → HadSection (record { seen = shown (seen pass); found = shown (last pass); tally = tally pass }) (record { seen = shown (seen after); found = shown (last after); tally = tally after })
  section_of fresh found_lawful grown left_lawful tally_is = record {
    fresh = subst (λ v. LeadsTo (shown (seen pass)) (shown v)) (sym found_is) fresh;
    found_lawful = subst (λ v. IsLawful (shown v)) (sym found_is) found_lawful;
    grown = subst (λ v. LeadsTo (shown v) (shown (seen after))) (sym found_is) (subst (λ v. LeadsTo (shown found) (shown v)) (sym left_is) grown);
    left_lawful = subst (λ v. IsLawful (shown v)) (sym left_is) left_lawful;
    tally = tally_is;
  }

  -- what a call of the sequential gate does in the section is what the call of the shared gate does
  pub went_so : (Goes : GateAt → GateAt → Type 0) → ForTerms (shown found).terms (λ T. Goes (at T (shown found)) (at T (shown left)))
      → Went Goes (record { seen = shown (seen after); found = shown (last after); tally = tally after })
  went_so Goes went =
      subst (λ v. ForTerms (shown v).terms (λ T. Goes (at T (shown v)) (at T (shown (seen after))))) (sym found_is)
      (subst (λ v. ForTerms (shown found).terms (λ T. Goes (at T (shown found)) (at T (shown v)))) (sym left_is) went)

  -- the job that the call took in the section is that of the reply of the shared gate
  pub work_so : (reply : Result Taken TakeFault) → IfOk reply (IsWorkOf (shown found) (shown left)) → IfOk reply (IsWorkOf (shown (last after)) (shown (seen after)))
  work_so reply work =
      subst (λ v. IfOk reply (IsWorkOf (shown v) (shown (seen after)))) (sym found_is) (subst (λ v. IfOk reply (IsWorkOf (shown found) (shown v))) (sym left_is) work)

-- a pass that comes back worn knows what it knew
pub worn_so :
    {V P : Type 0} (shown : V → GateParts) (seen last : P → V) (tally : P → ℕ) (has_pass is_worn : P → Type 0) (pass back : P)
    → has_pass back × (seen back ≡ seen pass) × (tally back ≡ tally pass) × (last back ≡ last pass) → is_worn back
    → IsWornOut has_pass is_worn (λ p. record { seen = shown (seen p); found = shown (last p); tally = tally p })
    (record { seen = shown (seen pass); found = shown (last pass); tally = tally pass }) back
worn_so shown seen last tally has_pass is_worn pass back same worn = record {
  own = same.0;
  worn = worn;
  same = λ i. record { seen = shown (same.1 i); found = shown (same.3 i); tally = same.2 i };
}

-- what holds for all readings of the terms in the state seen also does so in the state found
pub still_for : (seen found : GateParts) (P : Terms → Type 0) → LeadsTo seen found → ForTerms seen.terms P → ForTerms found.terms P
still_for seen found P leads holds T is = holds T (subst (λ terms. IsTermsOf terms T) leads.terms is)

-- passes of the lock that have met have also met as passes of the gate that it protects
pub met_known :
    {V : Type 0} (leads : V → V → Type 0) (shown : V → GateParts) → ((earlier later : V) → leads earlier later → LeadsTo (shown earlier) (shown later)) → (one other both : Seen V)
    → HasMet leads one other both → HaveMet (known_by shown one) (known_by shown other) (known_by shown both)
met_known leads shown shows one other both met =
    elim met [
      | inl is ↦ record { later = inl (ap (λ k. shown k.seen) is.1, shows other.seen one.seen is.0); found = ap (λ k. shown k.last) is.1; tally = ap (λ k. k.ended) is.1 }
      | inr is ↦ record { later = inr (ap (λ k. shown k.seen) is.1, shows one.seen other.seen is.0); found = ap (λ k. shown k.last) is.1; tally = ap (λ k. k.ended) is.1 }
    ]

-- if an event of a journal passes a test, so does an event of each continuation of the journal
pub any_goes_on : (test : Event → Bool) (J K : List Event) → Continues J K → list_any test J ≡ true → list_any test K ≡ true
any_goes_on test J K on h =
    subst (λ w. list_any test w ≡ true) (sym on.whole) (list_any-append test J on.rest ∙ or_left (list_any test J) (list_any test on.rest) h)

-- a claim that is due remains due in a continued journal
due_goes_on : (order : Order) (T : Terms) (J K : List Event) (filed : Filed) → Continues J K → IsDue order T J filed → IsDue order T K filed
due_goes_on order T J K filed on due = record {
  earlier = due.earlier;
  in_order = due.in_order;
  accepted = λ n other at.
      let before : other.place < length (places J other.provider) = due.accepted n other at in
      let whole : length (places K other.provider) ≡ length (places (J ++ on.rest) other.provider) = ap (λ w. length (places w other.provider)) on.whole in
      let parts : length (places (J ++ on.rest) other.provider) ≡ length (places J other.provider) + length (places on.rest other.provider) =
      ap length (flat_map-append (place_in other.provider) J on.rest) ∙ length-append (places J other.provider) (places on.rest other.provider) in
      omega (arith, before, whole, parts);
}

-- a claim that is due in the state seen is also due in the state found
pub due_stays : (seen found : GateParts) (provider place : ℕ) → LeadsTo seen found → IsDueAt seen provider place → IsDueAt found provider place
due_stays seen found provider place leads due =
    let filed : Filed = record { provider = provider; place = place } in
    subst (λ (t : TermsParts). t.order ≢ Any → ForTerms t (λ T. IsDue t.order T found.journal filed)) (sym leads.terms)
    (λ asks T is. due_goes_on seen.terms.order T seen.journal found.journal filed leads.journal (due asks T is))
