-- The spin lock: its rule, which holds between any two atomic steps, and the kinds of steps. Word 0
-- is 0 while the lock is free and 1 while it is taken. The table has one slot: the slot is at home
-- (in the table) with the value, or away with the pass in its critical section.
use Rattle.std.specs.Prelude.{◌≡◌, ◌≢◌, ◌⊎◌, ℕ, ◌+◌, true, false, [], ◌∷◌, Option, Some, None}
use mathlib.Core.Option.{some, none}
use lib.ListN.{get_elem?}
use Rattle.atomic_table.specs.Table.{State, Me, Step}
use Rattle.turn_lock.specs.declared.spin.view.SpinView.{SpinView}

-- the words, the slot and the views of a spin lock for values of T
abbrev pub SpinState : Type 0 → Type 0
SpinState T = State (Option T) (SpinView T)

-- a pass in the table: its view, and the slot while the pass is in a critical section
abbrev pub SpinSeat : Type 0 → Type 0
SpinSeat T = Me (Option T) (SpinView T)

module _ {T : Type 0} where
  -- a new pass, which has seen the value and ended no critical section
  abbrev pub newcomer : T → SpinView T
  newcomer value = record { holds = false; seen = value; ended = 0; last = value }

  -- the view after its pass has found the value
  abbrev pub in_section : SpinView T → T → SpinView T
  in_section v value = record { holds = true; seen = value; ended = v.ended; last = v.last }

  -- the view after its pass has left the value, which ends one more critical section
  abbrev pub after_section : SpinView T → T → SpinView T
  after_section v value = record { holds = false; seen = value; ended = v.ended + 1; last = v.seen }

  -- the pass is outside its critical sections and has no slot
  abbrev pub IsIdle : SpinSeat T → Type 0
  IsIdle me = (me.0.holds ≡ false) × (me.1 ≡ [])

  -- the pass is in a critical section and has taken the value out of the slot
  abbrev pub IsHolding : SpinSeat T → Type 0
  IsHolding me = (me.0.holds ≡ true) × (me.1 ≡ (0, None) ∷ [])

  -- the lock is free: the slot is at home with the current value, and no pass is in a critical
  -- section
  pub record IsFree (s : SpinState T) (current : T) : Type 0 where
    pub word : s.words ≡ 0 ∷ []
    pub home : s.homes ≡ some (Some current) ∷ []
    pub nobody : (i : ℕ) (v : SpinView T) → get_elem? s.views i ≡ some v → v.holds ≡ false

  -- the lock is taken: the slot is away, and exactly one pass, which has seen the current value, is
  -- in a critical section
  pub record IsTaken (s : SpinState T) (current : T) : Type 0 where
    pub word : s.words ≡ 1 ∷ []
    pub away : s.homes ≡ none ∷ []
    pub holder : ℕ
    pub view : SpinView T
    pub is_there : get_elem? s.views holder ≡ some view
    pub holds : view.holds ≡ true
    pub value : view.seen ≡ current
    pub alone : (i : ℕ) (v : SpinView T) → get_elem? s.views i ≡ some v → v.holds ≡ true → i ≡ holder

  -- the rule of the lock: the lock is free or taken, and every value that a pass has seen leads to
  -- the current one
  pub record SpinLockRule (leads : T → T → Type 0) (s : SpinState T) : Type 0 where
    pub current : T
    pub slot : IsFree s current ⊎ IsTaken s current
    pub seen : (i : ℕ) (v : SpinView T) → get_elem? s.views i ≡ some v → leads v.seen current

  -- the pass receives the slot, with a value to which everything that it had seen leads
  abbrev pub Wins : (T → T → Type 0) → SpinSeat T → SpinSeat T → Type 0
  Wins leads me me' = (value : T) × leads me.0.seen value × (me'.0 ≡ in_section me.0 value) × (me'.1 ≡ (0, Some value) ∷ [])

  -- the exchange of 0 by 1: if it finds 0, the pass receives the slot; otherwise nothing changes
  abbrev pub Takes : (T → T → Type 0) → Step (Option T) → SpinSeat T → ℕ → SpinSeat T → Type 0
  Takes leads st me word me' = (word ≡ 0 → Wins leads me me') × (word ≢ 0 → me' ≡ me)

  -- the store of 0: the slot goes home with the value that was put into it, to which the value
  -- found leads
  abbrev pub Frees : (T → T → Type 0) → Step (Option T) → SpinSeat T → ℕ → SpinSeat T → Type 0
  Frees leads st me word me' =
      (value : T) × (me.1 ≡ (0, Some value) ∷ []) × leads me.0.seen value × (me'.0 ≡ after_section me.0 value) × (me'.1 ≡ [])
