-- The results of the calls in the terms of the sequential gate, and what the calls require.
use Rattle.std.specs.Prelude.{◌≡◌, ◌<◌, ◌++◌, ℕ, true, List, [], ◌∷◌, length, Some, Result, Ok, Err, cond, Option}
use Rattle.journal.specs.Terms.{Terms, IsProvider, claims_of}
use Rattle.journal.specs.Events.{accepted_count, closed, has_decision, claim_filed, reached}
use Rattle.journal.specs.Gate.{OfferReply, EndReply, TakeReply, FinishReply}
use Rattle.journal.specs.declared.event.Event.{Event}
use Rattle.journal.specs.declared.event.Event.TheVariants.{Close, Take}
use Rattle.claim_gate.specs.declared.fault.OfferFault.{OfferFault}
use Rattle.claim_gate.specs.declared.fault.OfferFault.TheVariants as offer
use Rattle.claim_gate.specs.declared.fault.EndFault.{EndFault}
use Rattle.claim_gate.specs.declared.fault.EndFault.TheVariants as end
use Rattle.claim_gate.specs.declared.fault.TakeFault.{TakeFault}
use Rattle.claim_gate.specs.declared.fault.FinishFault.{FinishFault}
use Rattle.claim_gate.specs.declared.fault.FinishFault.TheVariants as finish
use Rattle.claim_gate.specs.Parts.{GateParts}
use Rattle.claim_gate.specs.declared.answer.Refused.{Refused}
use Rattle.claim_gate.specs.declared.job.DecidedJob.{DecidedJob}
use Rattle.claim_gate.specs.declared.offer.Offer.{Offer}
use Rattle.claim_gate.specs.declared.reply.Accepted.{Accepted}
use Rattle.claim_gate.specs.declared.reply.Ended.{Ended}
use Rattle.claim_gate.specs.declared.reply.Recorded.{Recorded}
use Rattle.claim_gate.specs.declared.reply.Taken.{Taken}
use Rattle.claim_gate.specs.declared.reply.Taken.TheVariants.{Stopped, Over, NothingReady, Work}

abbrev pub offer_refusal : OfferFault → OfferReply
offer_refusal offer.Stopped = OfferReply.Stopped
offer_refusal offer.Closed = OfferReply.Closed
offer_refusal (offer.OutOfTurn expected) = OfferReply.OutOfTurn expected
offer_refusal offer.OutOfMemory = OfferReply.NoMemory

-- the result of `offer`
abbrev pub offer_reply : Result Accepted (Refused OfferFault Offer) → OfferReply
offer_reply (Ok accepted_count) = OfferReply.Accepted accepted_count.position
offer_reply (Err refused) = offer_refusal refused.fault

-- the result of `end`
abbrev pub end_reply : Result Ended EndFault → EndReply
end_reply (Ok ended) = EndReply.Ended
end_reply (Err end.Stopped) = EndReply.Stopped
end_reply (Err end.Closed) = EndReply.Closed
end_reply (Err (end.OutOfTurn expected)) = EndReply.OutOfTurn expected
end_reply (Err end.AlreadyEnded) = EndReply.AlreadyEnded
end_reply (Err end.OutOfMemory) = EndReply.NoMemory

-- the result of `take`
abbrev pub take_reply : Result Taken TakeFault → TakeReply
take_reply (Ok Stopped) = TakeReply.Stopped
take_reply (Ok Over) = TakeReply.Over
take_reply (Ok NothingReady) = TakeReply.NothingReady
take_reply (Ok (Work job)) = TakeReply.Work job.position job.claim job.acc
take_reply (Err fault) = TakeReply.NoMemory

abbrev pub finish_refusal : FinishFault → FinishReply
finish_refusal finish.Stopped = FinishReply.Stopped
finish_refusal finish.AlreadyDecided = FinishReply.AlreadyDecided
finish_refusal finish.OutOfMemory = FinishReply.NoMemory

-- the result of `finish`
abbrev pub finish_reply : Result Recorded (Refused FinishFault DecidedJob) → FinishReply
finish_reply (Ok recorded) = FinishReply.Recorded
finish_reply (Err refused) = finish_refusal refused.fault

-- the offered claim is the one at its provider's place
abbrev pub IsFiled : Terms → Offer → Type 0
IsFiled T offer = claim_filed T (record { provider = offer.provider; place = offer.place }) ≡ Some offer.claim

-- the provider exists under these terms and has exactly this number of claims
pub record HasClaims (T : Terms) (provider count : ℕ) : Type 0 where
  pub known : IsProvider T provider
  pub count_is : count ≡ length (claims_of T provider)

-- the journal is closed, and each accepted claim is decided
pub record IsOver (J : List Event) : Type 0 where
  pub closed : closed J ≡ true
  pub all : (position : ℕ) → position < accepted_count J → has_decision J position ≡ true

-- the effect of `take`: it appends the take of the job that it returns, and otherwise changes nothing
abbrev pub IsWorkOf : GateParts → GateParts → Taken → Type 0
IsWorkOf old new (Work job) = new ≡ record old { journal = old.journal ++ Take job.position ∷ [] }
IsWorkOf old new _ = new ≡ old

-- the journal of a new gate: it is closed at once where the cutoff is 0
abbrev pub first_journal : Option ℕ → List Event
first_journal cutoff = cond (reached cutoff 0) (Close ∷ []) []
