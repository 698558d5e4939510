-- What no number of steps of the ticket lock can undo.
use Rattle.std.proofs.Common.{◌≡◌, ◌<◌, ◌≤◌, ℕ, ◌+◌, eqb, set, get_or, sym, ap, ◌∙◌, arith, eq-eqb, ne_eqb}
use mathlib.Core.Logic.{dite}
use mathlib.Core.Option.{some}
use native.Mathlib.Decide.{ℕ_discrete}
use lib.Seq.{set-get_or}
use prog.Atomic.{either}
use Rattle.turn_lock.specs.declared.ticket.view.LiveView.{LiveView}
use Rattle.turn_lock.specs.Ticket.{TicketState, TicketSeat, HasTicket, Has, last_word, next_of, TicketLockRule}
use Rattle.turn_lock.specs.Later.{next_word, served_word, GoesToDraw, DrawsTicket, GoesToLeave, LeavesTicket, Next, splits, joins, settles, looks, draws, serves, leaves, Later, here, onward}
use Rattle.turn_lock.proofs.TicketViews.{up_one, holds_ticket}

module _ {T : Type 0} (leads : T → T → Type 0) (first : ℕ) where
  abbrev Rule : TicketState T → Type 0
  Rule = TicketLockRule leads first

  abbrev Rises : TicketState T → TicketState T → Type 0
  Rises s s' = (next_word s ≤ next_word s') × (served_word s ≤ served_word s')

  same_words : (s s' : TicketState T) → s'.words ≡ s.words → Rises s s'
  same_words s s' same =
      let next : next_word s' ≡ next_word s = ap (λ ws. get_or ws 0 0) same in
      let served : served_word s' ≡ served_word s = ap (λ ws. get_or ws 1 0) same in (omega arith, omega arith)

  -- the next ticket becomes x, and the served ticket does not change
  next_is : (s s' : TicketState T) (r : Rule s) (x : ℕ) → s'.words ≡ set s.words 0 x → (next_word s' ≡ x) × (served_word s' ≡ served_word s)
  next_is s s' r x are = (
    ap (λ ws. get_or ws 0 0) are ∙ ap (λ ws. get_or (set ws 0 x) 0 0) r.words.words,
    ap (λ ws. get_or ws 1 0) are ∙ (ap (λ ws. get_or (set ws 0 x) 1 0) r.words.words ∙ ap (λ ws. get_or ws 1 0) (sym r.words.words)),
  )

  served_is : (s s' : TicketState T) (r : Rule s) (x : ℕ) → s'.words ≡ set s.words 1 x → (served_word s' ≡ x) × (next_word s' ≡ next_word s)
  served_is s s' r x are = (
    ap (λ ws. get_or ws 1 0) are ∙ ap (λ ws. get_or (set ws 1 x) 1 0) r.words.words,
    ap (λ ws. get_or ws 0 0) are ∙ (ap (λ ws. get_or (set ws 1 x) 0 0) r.words.words ∙ ap (λ ws. get_or ws 0 0) (sym r.words.words)),
  )

  -- an exchange that finds the expected word increments it, and any other exchange leaves it
  exchanged : (word old : ℕ) → word ≡ old → either (eqb word old) (old + 1) word ≡ old + 1
  exchanged word old hit = ap (λ b. either b (old + 1) word) (eq-eqb word old hit)

  not_less : (word old : ℕ) → word ≤ either (eqb word old) (old + 1) word
  not_less word old = dite (ℕ_discrete word old)
      (λ hit. let is : either (eqb word old) (old + 1) word ≡ old + 1 = exchanged word old hit in omega arith)
      (λ miss. let is : either (eqb word old) (old + 1) word ≡ word = ap (λ b. either b (old + 1) word) (ne_eqb word old miss) in omega arith)

  draw_rises : (s s' : TicketState T) (r : Rule s) (id : ℕ) (me me' : TicketSeat T) → GoesToDraw s s' id me me' → Rises s s'
  draw_rises s s' r id me me' goes =
      let is = next_is s s' r _ goes.0.words in
      let word : ℕ = next_word s in
      let old : ℕ = next_of me.0 in
      let next : next_word s' ≡ either (eqb word old) (old + 1) word = is.0 in
      let more : word ≤ either (eqb word old) (old + 1) word = not_less word old in
      let served : served_word s' ≡ served_word s = is.1 in (omega arith, omega arith)

  -- the end of a critical section increments the served ticket, which does not wrap
  leave_raises : (s s' : TicketState T) (r : Rule s) (id : ℕ) (me me' : TicketSeat T) → GoesToLeave leads s s' id me me' → (served_word s' ≡ served_word s + 1) × (next_word s' ≡ next_word s)
  leave_raises s s' r id me me' goes =
      let is = served_is s s' r _ goes.0.words in
      let k : LiveView T = goes.1.0 in
      let there : Has s id k = goes.0.is_there ∙ ap some goes.1.2 in
      let turn = r.words.tickets_in_turn id k (served_word s) there (holds_ticket k (served_word s) goes.1.3) in
      let low : served_word s < r.words.next = turn.1 in
      let high : r.words.next ≤ last_word = r.words.never_wraps in (is.0 ∙ up_one (served_word s) (omega arith), is.1)

  step_rises : (s s' : TicketState T) → Rule s → Next leads s s' → Rises s s'
  step_rises s s' r (splits _ _ _ _ same _) = same_words s s' same
  step_rises s s' r (joins _ _ _ _ _ _ _ _ same _) = same_words s s' same
  step_rises s s' r (settles _ _ _ goes _) = same_words s s' (goes.words ∙ set-get_or s.words 0 0)
  step_rises s s' r (looks _ _ _ goes _) = same_words s s' (goes.words ∙ set-get_or s.words 0 0)
  step_rises s s' r (draws id me me' goes) = draw_rises s s' r id me me' goes
  step_rises s s' r (serves _ _ _ goes _) = same_words s s' (goes.words ∙ set-get_or s.words 1 0)
  step_rises s s' r (leaves id me me' goes) =
      let raised : served_word s' ≡ served_word s + 1 = (leave_raises s s' r id me me' goes).0 in
      let next : next_word s' ≡ next_word s = (leave_raises s s' r id me me' goes).1 in (omega arith, omega arith)

  pub words_rise : (s s' : TicketState T) → Later leads first s s' → Rises s s'
  words_rise s s' here = (omega arith, omega arith)
  words_rise s s' (onward a b later r next) =
      let old = words_rise s a later in
      let last = step_rises a b r next in
      let low : next_word s ≤ next_word a = old.0 in
      let low' : served_word s ≤ served_word a = old.1 in
      let high : next_word a ≤ next_word b = last.0 in
      let high' : served_word a ≤ served_word b = last.1 in (omega arith, omega arith)

  pub drawn_once : (a b c d : TicketState T) (t u : ℕ) → Rule a → DrawsTicket t a b → Later leads first b c → DrawsTicket u c d → t < u
  drawn_once a b c d t u r drawn later again =
      let is = next_is a b r _ drawn.3.0.words in
      let raised : next_word b ≡ next_of drawn.1.0 + 1 = is.0 ∙ exchanged (next_word a) (next_of drawn.1.0) (drawn.5 ∙ sym drawn.4) in
      let saw : next_of drawn.1.0 ≡ t = drawn.4 in
      let low : next_word b ≤ next_word c = (words_rise b c later).0 in
      let found : next_word c ≡ u = again.5 in omega arith

  pub left_for_good : (a b c : TicketState T) (t u : ℕ) → Rule a → LeavesTicket leads t a b → Later leads first b c → Rule c → (i : ℕ) (k : LiveView T) → Has c i k → HasTicket u k.stage → t < u
  left_for_good a b c t u r left later r' i k there has =
      let raised : served_word b ≡ served_word a + 1 = (leave_raises a b r left.0 left.1 left.2 left.3).0 in
      let was : served_word a ≡ t = left.4 in
      let low : served_word b ≤ served_word c = (words_rise b c later).1 in
      let is : served_word c ≡ r'.words.serving = ap (λ ws. get_or ws 1 0) r'.words.words in
      let turn : r'.words.serving ≤ u = (r'.words.tickets_in_turn i k u there has).0 in omega arith
