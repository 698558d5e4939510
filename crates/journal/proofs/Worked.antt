-- The journals that were worked out by hand.
use Rattle.std.proofs.Common.{◌≡◌, ◌≢◌, ℕ, zero, suc, ◌<◌, true, false, List, [], ◌∷◌, ◌++◌, Some, None, refl, sym, ap, ◌∙◌, arith}
use Rattle.std.proofs.lemmas.Bool.{both_ways}
use Rattle.std.proofs.lemmas.Option.{same_Some}
use Rattle.settlement.specs.declared.claim.Claim.{Claim}
use Rattle.settlement.specs.declared.outcome.Outcome.{Outcome}
use Rattle.settlement.specs.Accounts.{family_of}
use Rattle.journal.specs.Terms.{Terms, IsProvider}
use Rattle.journal.specs.Events.{closed, lane_at, has_decision}
use Rattle.journal.specs.Lawful.{Lawful, Finished, IsReady, IsNextClaim, IsNextEnd}
use Rattle.journal.specs.TestWords.{EmptyFileFinishes, NothingIsAccepted, TwoFiles, terms_of, in_work, MembersTakeTurns, AnswersInTurn, AnswersOnce, AnswersStopped, AnswersClosed, gate_at, cutoff_zero}
use Rattle.journal.specs.declared.event.Event.{Event}
use Rattle.journal.specs.declared.event.Event.TheVariants.{Accept, End, Close, Take, Decide}
use Rattle.journal.proofs.LawfulMore.{lawful_start, lawful_more}

pub empty_file_finishes : EmptyFileFinishes
empty_file_finishes plan =
    let T : Terms = record { plan = plan; files = [] ∷ []; balances = []; cutoff = None } in
    let known : IsProvider T 1 = record { least = omega arith; most = omega arith } in
    let fits : IsNextEnd T [] 1 = record { open_yet = refl; known = known; whole = refl; once = refl } in
    record {
      lawful = lawful_more T [] (End 1) (lawful_start T) fits;
      closed = refl;
      all = λ k h. let none : ⊥ = omega arith in absurd none;
    }

pub nothing_is_accepted : NothingIsAccepted
nothing_is_accepted plan files =
    let T : Terms = record { plan = plan; files = files; balances = []; cutoff = Some 0 } in
    record { lawful = lawful_start T; closed = refl; all = λ k h. let none : ⊥ = omega arith in absurd none }

module _ (w : TwoFiles) where
  accepted_first : Lawful (terms_of w) (Accept 1 0 ∷ [])
  accepted_first =
      let fits : IsNextClaim (terms_of w) [] 1 0 = record { open_yet = refl; place_is = refl; there = omega arith } in
      lawful_more (terms_of w) [] (Accept 1 0) (lawful_start (terms_of w)) fits

  taken_first : Lawful (terms_of w) (Accept 1 0 ∷ Take 0 ∷ [])
  taken_first =
      let fits : IsReady (terms_of w) (Accept 1 0 ∷ []) 0 =
      record { following = omega arith; once = refl; in_turn = λ k l m. let none : ⊥ = omega arith in absurd none } in
      lawful_more (terms_of w) (Accept 1 0 ∷ []) (Take 0) accepted_first fits

  accepted_second : Lawful (terms_of w) (Accept 1 0 ∷ Take 0 ∷ Accept 1 1 ∷ [])
  accepted_second =
      let fits : IsNextClaim (terms_of w) (Accept 1 0 ∷ Take 0 ∷ []) 1 1 = record { open_yet = refl; place_is = refl; there = omega arith } in
      lawful_more (terms_of w) (Accept 1 0 ∷ Take 0 ∷ []) (Accept 1 1) taken_first fits

  accepted_other : Lawful (terms_of w) in_work
  accepted_other =
      let fits : IsNextClaim (terms_of w) (Accept 1 0 ∷ Take 0 ∷ Accept 1 1 ∷ []) 2 0 = record { open_yet = refl; place_is = refl; there = omega arith } in
      lawful_more (terms_of w) (Accept 1 0 ∷ Take 0 ∷ Accept 1 1 ∷ []) (Accept 2 0) accepted_second fits

  waits : ¬ IsReady (terms_of w) in_work 1
  waits r =
      let same : lane_at (terms_of w) in_work 0 ≡ lane_at (terms_of w) in_work 1 = ap Some (sym w.same_family) in
      both_ways (has_decision in_work 0) refl (r.in_turn 0 (omega arith) same)

  turn : (k : ℕ) → k < 2 → lane_at (terms_of w) in_work k ≡ lane_at (terms_of w) in_work 2 → has_decision in_work k ≡ true
  turn zero l m = absurd (w.other_family (sym (same_Some (family_of w.first) (family_of w.other) m)))
  turn (suc zero) l m = absurd (w.other_family (sym (same_Some (family_of w.second) (family_of w.other) m) ∙ w.same_family))
  turn (suc (suc k)) l m = let none : ⊥ = omega arith in absurd none

  pub members_take_turns : MembersTakeTurns w
  members_take_turns = record {
    lawful = accepted_other;
    first_in_work = λ r. both_ways true r.once refl;
    second_waits = waits;
    other_is_ready = record { following = omega arith; once = refl; in_turn = turn };
  }

  not_over : (J : List Event) → closed J ≡ false → ¬ Finished (terms_of w) J
  not_over J still F = both_ways (closed J) still F.closed

  zero_one : ◌≢◌ {A = ℕ} 0 1
  zero_one h = let none : ⊥ = omega arith in none

  none_ready : (k : ℕ) → ¬ IsReady (terms_of w) (Accept 1 0 ∷ Take 0 ∷ []) k
  none_ready zero r = both_ways true r.once refl
  none_ready (suc k) r =
      let following : suc k < 1 = r.following in
      let none : ⊥ = omega arith in
      none

  first_ready : IsReady (terms_of w) (Accept 1 0 ∷ []) 0
  first_ready = record { following = omega arith; once = refl; in_turn = λ k l m. let none : ⊥ = omega arith in absurd none }

  pub answers_in_turn : AnswersInTurn w
  answers_in_turn = record {
    first_is_accepted = ((refl, refl), refl, refl, refl);
    first_again = ((refl, refl), refl, zero_one, refl);
    first_is_taken = (refl, not_over (Accept 1 0 ∷ []) refl, record { ready = first_ready; job = record { located = refl; left = refl } }, refl);
    nothing_is_ready = (refl, not_over (Accept 1 0 ∷ Take 0 ∷ []) refl, none_ready, refl);
    too_few = ((refl, refl), refl, omega arith, refl);
    first_ends = ((refl, refl), omega arith, refl, refl);
    ended_already = ((refl, refl), omega arith, refl, refl);
    last_closes = ((refl, refl), omega arith, refl, refl);
  }

  second_ready : (decision : Outcome) → IsReady (terms_of w) (in_work ++ Decide 0 decision ∷ []) 1
  second_ready decision = record { following = omega arith; once = refl; in_turn = before_second } where
    before_second : (k : ℕ) → k < 1 → lane_at (terms_of w) (in_work ++ Decide 0 decision ∷ []) k ≡ lane_at (terms_of w) (in_work ++ Decide 0 decision ∷ []) 1
        → has_decision (in_work ++ Decide 0 decision ∷ []) k ≡ true
    before_second zero l m = refl
    before_second (suc k) l m = let none : ⊥ = omega arith in absurd none

  pub answers_once : (decision : Outcome) → AnswersOnce w decision
  answers_once decision = record {
    is_recorded = (refl, refl, refl);
    decided_already = (refl, refl, refl);
    second_is_ready = second_ready decision;
  }

  pub answers_stopped : (decision : Outcome) → AnswersStopped w decision (record (gate_at (terms_of w) in_work) { stopped = true })
  answers_stopped decision = record {
    stop = refl;
    offer = (refl, refl);
    end = (refl, refl);
    take = (refl, refl);
    finish = (refl, refl);
  }

  pub answers_closed : (files : List (List Claim)) → AnswersClosed w.plan files (gate_at (cutoff_zero w.plan files) (Close ∷ []))
  answers_closed files = record {
    journal = refl;
    offer = (refl, refl, refl);
    end = (refl, refl, refl);
    take = (refl, nothing_is_accepted w.plan files, refl);
  }
