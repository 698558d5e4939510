-- Journals that were worked out by hand, and the properties that they must have. Nothing else cites
-- them.
use Rattle.std.specs.Prelude.{◌≡◌, ◌≢◌, true, false, List, [], ◌∷◌, ◌++◌, Some, None}
use Rattle.tables.specs.Plan.{PlanParts}
use Rattle.settlement.specs.Accounts.{family_of}
use Rattle.settlement.specs.Claim.{nothing_yet}
use Rattle.settlement.specs.declared.claim.Claim.{Claim}
use Rattle.settlement.specs.declared.outcome.Outcome.{Outcome}
use Rattle.journal.specs.Terms.{Terms}
use Rattle.journal.specs.Lawful.{Lawful, Finished, IsReady}
use Rattle.journal.specs.Gate.{GateAt, OfferReply, EndReply, TakeReply, FinishReply, Offers, Ends, Takes, Finishes, Stops}
use Rattle.journal.specs.declared.event.Event.{Event}
use Rattle.journal.specs.declared.event.Event.TheVariants.{Accept, End, Close, Take, Decide}

-- for a single provider without claims, its end and the close are a finished journal
abbrev pub EmptyFileFinishes : Type 0
EmptyFileFinishes = (plan : PlanParts) → Finished (record { plan = plan; files = [] ∷ []; balances = []; cutoff = None }) (End 1 ∷ Close ∷ [])

-- with cutoff 0 the close alone is a finished journal, whatever the files contain
abbrev pub NothingIsAccepted : Type 0
NothingIsAccepted = (plan : PlanParts) (files : List (List Claim)) → Finished (record { plan = plan; files = files; balances = []; cutoff = Some 0 }) (Close ∷ [])

-- two providers: the first one with two claims of one family, the second one with a claim of
-- another family
pub record TwoFiles : Type 0 where
  pub plan : PlanParts
  pub first : Claim
  pub second : Claim
  pub other : Claim
  pub same_family : family_of second ≡ family_of first
  pub other_family : family_of other ≢ family_of first

abbrev pub terms_of : TwoFiles → Terms
terms_of w = record { plan = w.plan; files = (w.first ∷ w.second ∷ []) ∷ (w.other ∷ []) ∷ []; balances = []; cutoff = None }

-- all three claims are accepted, and the first one is taken
abbrev pub in_work : List Event
in_work = Accept 1 0 ∷ Take 0 ∷ Accept 1 1 ∷ Accept 2 0 ∷ []

-- the claims of a family are decided in order: the second claim waits for the first one, and the
-- claim of the other family does not
pub record MembersTakeTurns (w : TwoFiles) : Type 0 where
  pub lawful : Lawful (terms_of w) in_work
  pub first_in_work : ¬ IsReady (terms_of w) in_work 0
  pub second_waits : ¬ IsReady (terms_of w) in_work 1
  pub other_is_ready : IsReady (terms_of w) in_work 2

-- a running gate with this journal
abbrev pub gate_at : Terms → List Event → GateAt
gate_at T J = record { terms = T; journal = J; stopped = false }

-- the first calls of a gate over these files, with their answers and the state of the gate after
-- each call
pub record AnswersInTurn (w : TwoFiles) : Type 0 where
  pub first_is_accepted : Offers (gate_at (terms_of w) []) 1 0 (OfferReply.Accepted 0) (gate_at (terms_of w) (Accept 1 0 ∷ []))
  pub first_again : Offers (gate_at (terms_of w) (Accept 1 0 ∷ [])) 1 0 (OfferReply.OutOfTurn 1) (gate_at (terms_of w) (Accept 1 0 ∷ []))
  pub first_is_taken :
      Takes (gate_at (terms_of w) (Accept 1 0 ∷ [])) (TakeReply.Work 0 w.first nothing_yet) (gate_at (terms_of w) (Accept 1 0 ∷ Take 0 ∷ []))
  pub nothing_is_ready : Takes (gate_at (terms_of w) (Accept 1 0 ∷ Take 0 ∷ [])) TakeReply.NothingReady (gate_at (terms_of w) (Accept 1 0 ∷ Take 0 ∷ []))
  pub too_few : Ends (gate_at (terms_of w) in_work) 1 4 (EndReply.OutOfTurn 2) (gate_at (terms_of w) in_work)
  pub first_ends : Ends (gate_at (terms_of w) in_work) 1 2 EndReply.Ended (gate_at (terms_of w) (in_work ++ End 1 ∷ []))
  pub ended_already :
      Ends (gate_at (terms_of w) (in_work ++ End 1 ∷ [])) 1 2 EndReply.AlreadyEnded (gate_at (terms_of w) (in_work ++ End 1 ∷ []))
  pub last_closes :
      Ends (gate_at (terms_of w) (in_work ++ End 1 ∷ [])) 2 1 EndReply.Ended (gate_at (terms_of w) (in_work ++ End 1 ∷ End 2 ∷ Close ∷ []))

-- a decision is recorded once, and the family's next claim may be taken after it
pub record AnswersOnce (w : TwoFiles) (decision : Outcome) : Type 0 where
  pub is_recorded :
      Finishes (gate_at (terms_of w) in_work) 0 decision FinishReply.Recorded (gate_at (terms_of w) (in_work ++ Decide 0 decision ∷ []))
  pub decided_already :
      Finishes (gate_at (terms_of w) (in_work ++ Decide 0 decision ∷ [])) 0 decision FinishReply.AlreadyDecided
      (gate_at (terms_of w) (in_work ++ Decide 0 decision ∷ []))
  pub second_is_ready : IsReady (terms_of w) (in_work ++ Decide 0 decision ∷ []) 1

-- after a stop every call answers `Stopped` and records nothing
pub record AnswersStopped (w : TwoFiles) (decision : Outcome) (stopped : GateAt) : Type 0 where
  pub stop : Stops (gate_at (terms_of w) in_work) stopped
  pub offer : Offers stopped 1 2 OfferReply.Stopped stopped
  pub end : Ends stopped 1 2 EndReply.Stopped stopped
  pub take : Takes stopped TakeReply.Stopped stopped
  pub finish : Finishes stopped 0 decision FinishReply.Stopped stopped

-- with cutoff 0 the gate is closed and its work is over
pub record AnswersClosed (plan : PlanParts) (files : List (List Claim)) (closed : GateAt) : Type 0 where
  pub journal : closed.journal ≡ Close ∷ []
  pub offer : Offers closed 1 0 OfferReply.Closed closed
  pub end : Ends closed 1 0 EndReply.Closed closed
  pub take : Takes closed TakeReply.Over closed

abbrev pub cutoff_zero : PlanParts → List (List Claim) → Terms
cutoff_zero plan files = record { plan = plan; files = files; balances = []; cutoff = Some 0 }

abbrev pub Worked : Type 0
Worked =
    (w : TwoFiles) (decision : Outcome) (files : List (List Claim))
    → MembersTakeTurns w × AnswersInTurn w × AnswersOnce w decision
    × AnswersStopped w decision (record (gate_at (terms_of w) in_work) { stopped = true })
    × AnswersClosed w.plan files (gate_at (cutoff_zero w.plan files) (Close ∷ []))
