-- Gates and finished runs as contracts see them, and gates as journals see them.
use Rattle.std.specs.Prelude.{List}
use Rattle.claim_gate.specs.Terms.{TermsParts}
use Rattle.journal.specs.Terms.{Terms}
use Rattle.journal.specs.Gate.{GateAt, GateOver}
use Rattle.journal.specs.declared.event.Event.{Event}

-- a gate as contracts see it
abbrev pub GateParts : Type 0
GateParts = GateOver TermsParts

-- a finished run: its terms and its journal
pub record BatchParts : Type 0 where
  pub terms : TermsParts
  pub journal : List Event

-- the gate as journals see it, with terms as journals see them
abbrev pub at : Terms → GateParts → GateAt
at T gate = record { terms = T; journal = gate.journal; stopped = gate.stopped }
