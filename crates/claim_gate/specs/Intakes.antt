-- How many claims of each provider's file are accepted.
use Rattle.std.specs.Prelude.{ℕ, zero, suc, ◌+◌, true, false, List, get_or, slice_set}
use Rattle.claim_gate.specs.declared.intakes.Intake.{Intake}

-- no claim of the provider is accepted yet
abbrev pub none_yet : Intake
none_yet = record { accepted = 0; ended = false }

-- an unknown provider has no claims and has ended
abbrev pub no_intake : Intake
no_intake = record { accepted = 0; ended = true }

-- the progress of a provider's file; providers count from 1
abbrev pub intake_of : List Intake → ℕ → Intake
intake_of intakes zero = no_intake
intake_of intakes (suc i) = get_or intakes i no_intake

abbrev pub one_more : Intake → Intake
one_more intake = record { accepted = intake.accepted + 1; ended = intake.ended }

abbrev pub at_end : Intake → Intake
at_end intake = record { accepted = intake.accepted; ended = true }

-- the progress after one more accepted claim of a provider
abbrev pub with_accept : List Intake → ℕ → List Intake
with_accept intakes zero = intakes
with_accept intakes (suc i) = slice_set intakes i (one_more (get_or intakes i no_intake))

-- the progress after the end of a provider
abbrev pub with_end : List Intake → ℕ → List Intake
with_end intakes zero = intakes
with_end intakes (suc i) = slice_set intakes i (at_end (get_or intakes i no_intake))
