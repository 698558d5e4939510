-- Lemmas on stages and views, for the proofs of the steps of the ticket lock.
use Rattle.std.proofs.Common.{◌≡◌, ◌≢◌, ◌<◌, ◌≤◌, ◌%◌, ◌^◌, ℕ, ◌+◌, Option, Some, List, [], ◌∷◌, ◌++◌, set, max, sym, refl, ap, ◌∙◌, subst, ⊎_elim, arith}
use mathlib.Core.Option.{some, some-injective, some-ne-none}
use mathlib.Core.Option as maybe
use lib.ListN.{get_elem?}
use Rattle.atomic_table.specs.Table.{Step}
use Rattle.atomic_table.proofs.Lists.{at_set, at_snoc}
use Rattle.turn_lock.specs.declared.ticket.view.Stage.{Stage}
use Rattle.turn_lock.specs.declared.ticket.view.Stage.TheVariants.{Idle, Looked, Waiting, Holding}
use Rattle.turn_lock.specs.declared.ticket.view.LiveView.{LiveView}
use Rattle.turn_lock.specs.declared.ticket.view.TicketView.{TicketView}
use Rattle.turn_lock.specs.declared.ticket.view.TicketView.TheVariants.{Spent, Live}
use Rattle.turn_lock.specs.Ticket.{TicketState, TicketSeat, HasTicket, beside, stage_of, next_of, known, Has}
use Rattle.turn_lock.specs.Steps.{Begins, Serves}

pub ticket_of_stage : (stage : Stage) (ticket : ℕ) (other : Stage) → stage ≡ other → HasTicket ticket other → HasTicket ticket stage
ticket_of_stage stage ticket other e h = subst (HasTicket ticket) (sym e) h

pub ticket_held : (ticket other : ℕ) → Holding ticket ≡ Holding other → ticket ≡ other
ticket_held ticket other same = cc

pub after_it : (ticket other : ℕ) → ticket ≤ other → (ticket ≡ other → ⊥) → ticket + 1 ≤ other
after_it ticket other low apart = omega arith

pub max_le : (a b c : ℕ) → a ≤ c → b ≤ c → max a b ≤ c
max_le a b c h h' = omega arith

pub max_left : (a b : ℕ) → a ≤ max a b
max_left a b = omega arith

pub max_right : (a b : ℕ) → b ≤ max a b
max_right a b = omega arith

-- an incremented word does not wrap
pub up_one : (n : ℕ) → n < 18446744073709551615 → (n + 1) % 2 ^ 64 ≡ n + 1
up_one n small = omega arith

module _ {T : Type 0} where
  abbrev live_or : LiveView T → TicketView T → LiveView T
  live_or d Spent = d
  live_or d (Live k) = k

  pub live_is : (k l : LiveView T) → Live k ≡ Live l → k ≡ l
  live_is k l e = ap (live_or k) e

  pub one_known : (s : TicketState T) (i j : ℕ) (k l : LiveView T) → i ≡ j → Has s i k → Has s j l → k ≡ l
  one_known s i j k l same at there = live_is k l (some-injective (Live k) (Live l) (sym at ∙ (ap (get_elem? s.views) same ∙ there)))

  -- a view that has a stage is live
  pub known_live : (v : TicketView T) (stage : Stage) (is : stage_of v ≡ Some stage) → v ≡ Live (known v stage is)
  known_live Spent stage is = cc
  known_live (Live k) stage is = refl

  pub known_stage : (v : TicketView T) (stage : Stage) (is : stage_of v ≡ Some stage) → (known v stage is).stage ≡ stage
  known_stage Spent stage is = cc
  known_stage (Live k) stage is = cc

  pub known_next : (v : TicketView T) (stage : Stage) (is : stage_of v ≡ Some stage) → (known v stage is).next ≡ next_of v
  known_next Spent stage is = cc
  known_next (Live k) stage is = refl

  pub known_is : (v : TicketView T) (stage : Stage) (is : stage_of v ≡ Some stage) (k : LiveView T) → v ≡ Live k → known v stage is ≡ k
  known_is v stage is k e = live_is _ _ (sym (known_live v stage is) ∙ e)

  -- two idle passes, joined, are an idle one
  pub beside_idle : (v w : TicketView T) → stage_of v ≡ Some Idle → stage_of w ≡ Some Idle → stage_of (beside v w) ≡ Some Idle
  beside_idle Spent w is is' = is
  beside_idle (Live k) Spent is is' = is
  beside_idle (Live k) (Live l) is is' = refl

  -- equal views have the same knowledge
  pub same_known : (v w : TicketView T) (stage : Stage) (is : stage_of v ≡ Some stage) (is' : stage_of w ≡ Some stage) → v ≡ w → known v stage is ≡ known w stage is'
  same_known v w stage is is' e = known_is v stage is (known w stage is') (e ∙ known_live w stage is')

  -- if the load of a waiting pass finds its ticket, the critical section has begun
  pub begun : (leads : T → T → Type 0) (st : Step (Option T)) (before me me' : TicketSeat T) (ticket word : ℕ) → me ≡ before → stage_of before.0 ≡ Some (Waiting ticket) → Serves leads st me word me' → word ≡ ticket
      → Begins leads ticket before me'
  begun leads st before me me' ticket word same is reported hit =
      let stage : Some (Waiting reported.1) ≡ Some (Waiting ticket) = ap Some (sym reported.3) ∙ (ap stage_of (sym reported.2) ∙ (ap (λ (m : TicketSeat T). stage_of m.0) same ∙ is)) in
      let mine : reported.1 ≡ ticket = cc in
      subst (λ (x : TicketSeat T × ℕ). Begins leads x.1 x.0 me') (λ i. (same i, mine i)) (reported.5 (hit ∙ sym mine))

  pub each_set : (K : ℕ → LiveView T → Type 0) (vs : List (TicketView T)) (me : ℕ) (w : LiveView T) → K me w → ((j : ℕ) (k : LiveView T) → j ≢ me → get_elem? vs j ≡ some (Live k) → K j k)
      → (j : ℕ) (k : LiveView T) → get_elem? (set vs me (Live w)) j ≡ some (Live k) → K j k
  each_set K vs me w mine others j k at = ⊎_elim (λ (t : (j ≡ me) × (Live w ≡ Live k)). subst (λ (x : ℕ × LiveView T). K x.0 x.1) (λ i. (sym t.0 i, live_is w k t.1 i)) mine)
      (λ (t : (j ≢ me) × (get_elem? vs j ≡ some (Live k))). others j k t.0 t.1) (at_set vs me j (Live w) (Live k) at)

  pub each_snoc : (K : LiveView T → Type 0) (vs : List (TicketView T)) (w : LiveView T) → ((j : ℕ) (k : LiveView T) → get_elem? vs j ≡ some (Live k) → K k) → K w
      → (j : ℕ) (k : LiveView T) → get_elem? (vs ++ Live w ∷ []) j ≡ some (Live k) → K k
  each_snoc K vs w others mine j k at = ⊎_elim (others j k) (λ (t : Live w ≡ Live k). subst K (live_is w k t) mine) (at_snoc vs (Live w) (Live k) j at)

  -- the stage has no ticket
  abbrev pub Free : LiveView T → Type 0
  Free k = (ticket : ℕ) → HasTicket ticket k.stage → ⊥

  pub holds_ticket : (k : LiveView T) (ticket : ℕ) → k.stage ≡ Holding ticket → HasTicket ticket k.stage
  holds_ticket k ticket e = ticket_of_stage k.stage ticket (Holding ticket) e refl

  pub idle_free : (k : LiveView T) → k.stage ≡ Idle → Free k
  idle_free k e ticket h = subst (HasTicket ticket) e h

  pub looked_free : (k : LiveView T) → k.stage ≡ Looked → Free k
  looked_free k e ticket h = subst (HasTicket ticket) e h

  pub free_holds_not : (k : LiveView T) → Free k → (ticket : ℕ) → k.stage ≡ Holding ticket → ⊥
  free_holds_not k free ticket holds = free ticket (holds_ticket k ticket holds)

  pub no_view : (i : ℕ) (k : LiveView T) → get_elem? [] i ≡ some (Live k) → ⊥
  no_view i k at = some-ne-none (Live k) (sym at)

  spent_live : (l : LiveView T) → Spent ≡ Live l → ⊥
  spent_live l e = cc

  -- a live view that exists after one view is spent existed before
  pub unspent : (vs : List (TicketView T)) (id j : ℕ) (l : LiveView T) → get_elem? (set vs id Spent) j ≡ some (Live l) → get_elem? vs j ≡ some (Live l)
  unspent vs id j l at = ⊎_elim (λ (t : (j ≡ id) × (Spent ≡ Live l)). absurd (spent_live l t.1)) (λ (t : (j ≢ id) × (get_elem? vs j ≡ some (Live l))). t.1) (at_set vs id j Spent (Live l) at)

  -- the state after one pass has a new view
  abbrev pub with_view : TicketState T → List ℕ → List (maybe.Option (Option T)) → ℕ → LiveView T → TicketState T
  with_view s words homes id k = record { words = words; homes = homes; views = set s.views id (Live k) }

  -- the state with one more pass
  abbrev pub with_pass : TicketState T → LiveView T → TicketState T
  with_pass s k = record { words = s.words; homes = s.homes; views = s.views ++ Live k ∷ [] }

  -- the state after one pass is spent
  abbrev pub with_spent : TicketState T → ℕ → TicketState T
  with_spent s id = record { words = s.words; homes = s.homes; views = set s.views id Spent }
