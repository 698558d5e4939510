-- A gate that several callers share: what one of them knows of it, and what each call implies.
use Rattle.std.specs.Prelude.{◌≡◌, ◌≢◌, ◌⊎◌, ◌+◌, ℕ}
use Rattle.journal.specs.Gate.{GateAt, LeadsTo}
use Rattle.journal.specs.Events.{accepts}
use Rattle.journal.specs.InOrder.{AreFirstInOrder, IsDue}
use Rattle.journal.specs.Lawful.{Lawful}
use Rattle.journal.specs.declared.order.Order.TheVariants.{Any}
use Rattle.claim_gate.specs.Terms.{ForTerms}
use Rattle.claim_gate.specs.Parts.{GateParts, at}

-- the gate's journal is valid
abbrev pub IsLawful : GateParts → Type 0
IsLawful gate = ForTerms gate.terms (λ T. Lawful T gate.journal)

-- where the gate's terms ask for an order, claims are accepted in that order
abbrev pub IsOrdered : GateParts → Type 0
IsOrdered gate = gate.terms.order ≢ Any → ForTerms gate.terms (λ T. AreFirstInOrder gate.terms.order T.files (accepts gate.journal))

-- where the gate's terms ask for an order, all claims that come before the one at this place are accepted
abbrev pub IsDueAt : GateParts → ℕ → ℕ → Type 0
IsDueAt gate provider place =
    gate.terms.order ≢ Any → ForTerms gate.terms (λ T. IsDue gate.terms.order T gate.journal (record { provider = provider; place = place }))

-- what a caller knows of the gate by its pass: the last state that it has seen, the state that its last section found, and
-- the number of sections that it has ended
pub record Known : Type 0 where
  pub seen : GateParts
  pub found : GateParts
  pub tally : ℕ

-- two passes have met: both have then seen the later of their two states, to which the earlier one leads; the last section
-- and the tally are those of the first pass
pub record HaveMet (first second both : Known) : Type 0 where
  pub later : ((both.seen ≡ first.seen) × LeadsTo second.seen first.seen) ⊎ ((both.seen ≡ second.seen) × LeadsTo first.seen second.seen)
  pub found : both.found ≡ first.found
  pub tally : both.tally ≡ first.tally

-- the pass has had one section: it found a valid state to which the state last seen leads, and left a valid one, which the
-- pass has now seen
pub record HadSection (before after : Known) : Type 0 where
  pub fresh : LeadsTo before.seen after.found
  pub found_lawful : IsLawful after.found
  pub grown : LeadsTo after.found after.seen
  pub left_lawful : IsLawful after.seen
  pub tally : after.tally ≡ before.tally + 1

-- the pass that a call returns belongs to the gate and has had one section
pub record IsServed {P : Type 0} (has_pass : P → Type 0) (known : P → Known) (before : Known) (pass : P) : Type 0 where
  pub own : has_pass pass
  pub section : HadSection before (known pass)

-- the pass that a call returns belongs to the gate, has seen that no ticket is left, and knows what it knew
pub record IsWornOut {P : Type 0} (has_pass is_worn : P → Type 0) (known : P → Known) (before : Known) (pass : P) : Type 0 where
  pub own : has_pass pass
  pub worn : is_worn pass
  pub same : known pass ≡ before

-- the section changed the state that it found into the state that it left as a call of the sequential gate does
abbrev pub Went : (GateAt → GateAt → Type 0) → Known → Type 0
Went Goes known = ForTerms known.found.terms (λ T. Goes (at T known.found) (at T known.seen))
