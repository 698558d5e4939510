-- Each kind of step of the ticket lock preserves both parts of its rule, on words and on values.
use Rattle.std.proofs.Common.{◌≡◌, ◌⊎◌, ◌<◌, ◌≤◌, ◌%◌, ◌^◌, ℕ, ◌+◌, eqb, Option, Some, List, [], ◌∷◌, ◌++◌, set, get_or, sym, refl, ap, ◌∙◌, subst, ⊎_elim, inl, inr, arith, eq-eqb, ne_eqb}
use mathlib.Core.Logic.{dite}
use mathlib.Core.Option.{some, none}
use mathlib.Core.Option as maybe
use native.Mathlib.Decide.{ℕ_discrete}
use lib.ListN.{get_elem?}
use lib.Seq.{set-get_or}
use prog.Atomic.{either}
use Rattle.atomic_table.specs.Table.{Step, opening, step, keeps, takes, gives, stepped, put_back, rest, Allows, Splits, Joins}
use Rattle.atomic_table.proofs.Lists.{set_again, set_else}
use Rattle.turn_lock.specs.declared.ticket.view.Stage.TheVariants.{Idle, Looked, Waiting, Holding}
use Rattle.turn_lock.specs.declared.ticket.view.LiveView.{LiveView}
use Rattle.turn_lock.specs.declared.ticket.view.TicketView.{TicketView}
use Rattle.turn_lock.specs.declared.ticket.view.TicketView.TheVariants.{Spent, Live}
use Rattle.turn_lock.specs.Ticket.{last_word, TicketState, TicketSeat, newcomer, idle_at, looked_at, waiting_for, in_section, after_section, both_known, beside, seen_alone, stage_of, next_of, known, Has, IsHome, IsOut, TicketLockRule}
use Rattle.turn_lock.specs.Steps.{Looks, Draws, Serves, Settles, Leaves, Exchanges}
use Rattle.turn_lock.proofs.TicketViews.{ticket_of_stage, max_le, max_left, max_right, up_one, live_is, known_live, known_stage, known_next, same_known, Free, holds_ticket, idle_free, looked_free, free_holds_not, with_view, with_pass, with_spent}
use Rattle.turn_lock.proofs.TicketWords as on_words
use Rattle.turn_lock.proofs.TicketValues as on_values

module _ {T : Type 0} (leads : T → T → Type 0) (first : ℕ) where
  abbrev Rule : TicketState T → Type 0
  Rule = TicketLockRule leads first

  -- a pass without a ticket changes its view and still has no ticket, no word changes, and what the
  -- pass has seen leads to the current value
  freely : (s : TicketState T) (r : Rule s) (id : ℕ) (k l : LiveView T) (words : List ℕ) → Has s id k → Free k → Free l → leads l.seen r.values.current × leads l.also r.values.current → l.next ≤ r.words.next → words ≡ s.words
      → Rule (with_view s words s.homes id l)
  freely s r id k l words at free free' seen word same = record {
    words = on_words.freely first s r.words id k l words at free free' word same;
    values = on_values.stays leads s r.values id l words (free_holds_not l free') seen;
  }

  pub looks_allowed : (slots id : ℕ) (me : TicketSeat T) → stage_of me.0 ≡ Some Idle → Allows Rule slots id me 0 (λ n. n) (Looks (step slots 0 0 0 none) me)
  looks_allowed slots id me is s r _ at _ =
      let k : LiveView T = known me.0 Idle is in
      let live : me.0 ≡ Live k = known_live me.0 Idle is in
      let here : Has s id k = at ∙ ap some live in
      let word : ℕ = get_or s.words 0 0 in
      let found : word ≡ r.words.next = ap (λ ws. get_or ws 0 0) r.words.words in
      let low : k.next ≤ r.words.next = r.words.words_seen id k here in
      let high : r.words.next ≤ last_word = r.words.never_wraps in
      let free : Free k = idle_free k (known_stage me.0 Idle is) in dite (ℕ_discrete word last_word)
      (λ worn. (
        Live (idle_at k word),
        keeps,
        tt,
        freely s r id k (idle_at k word) (set s.words 0 word) here free (idle_free (idle_at k word) refl) (r.values.values_seen id k here) (omega arith) (set-get_or s.words 0 0),
        (k, live, omega arith, omega arith, (λ left. absurd (left worn)), λ _. refl),
      ))
      (λ left. (
        Live (looked_at k word),
        keeps,
        tt,
        freely s r id k (looked_at k word) (set s.words 0 word) here free (looked_free (looked_at k word) refl) (r.values.values_seen id k here) (omega arith) (set-get_or s.words 0 0),
        (k, live, omega arith, omega arith, (λ _. refl), λ worn. absurd (left worn)),
      ))

  -- the exchange finds the next ticket that the pass has looked at, which becomes the ticket of the
  -- pass
  draws_hit : (s : TicketState T) (r : Rule s) (id old : ℕ) (k : LiveView T) → Has s id k → k.stage ≡ Looked → r.words.next ≡ old → old < last_word → Rule (with_view s (set s.words 0 (old + 1)) s.homes id (waiting_for k old))
  draws_hit s r id old k at stage is left = record {
    words = on_words.drawn first s r.words id old k at stage is left;
    values = on_values.stays leads s r.values id (waiting_for k old) (set s.words 0 (old + 1)) (λ ticket holds. cc) (r.values.values_seen id k at);
  }

  pub draws_allowed : (slots id : ℕ) (me : TicketSeat T) (old : ℕ) → stage_of me.0 ≡ Some Looked → next_of me.0 ≡ old → old < last_word
      → Allows Rule slots id me 0 (λ n. either (eqb n old) (old + 1) n) (Draws (step slots 0 old (old + 1) none) me)
  draws_allowed slots id me old is saw left s r _ at _ =
      let k : LiveView T = known me.0 Looked is in
      let live : me.0 ≡ Live k = known_live me.0 Looked is in
      let stage : k.stage ≡ Looked = known_stage me.0 Looked is in
      let here : Has s id k = at ∙ ap some live in
      let word : ℕ = get_or s.words 0 0 in
      let found : word ≡ r.words.next = ap (λ ws. get_or ws 0 0) r.words.words in
      let saw' : k.next ≡ old = known_next me.0 Looked is ∙ saw in
      let low : k.next ≤ r.words.next = r.words.words_seen id k here in
      let high : r.words.next ≤ last_word = r.words.never_wraps in dite (ℕ_discrete word old)
      (λ hit. (
        Live (waiting_for k word),
        keeps,
        tt,
        subst (λ b. Rule (stepped s 0 (either b (old + 1) word) id me.1 (Live (waiting_for k word)) keeps)) (sym (eq-eqb word old hit))
            (subst (λ (n : ℕ). Rule (with_view s (set s.words 0 (old + 1)) s.homes id (waiting_for k n))) (sym hit) (draws_hit s r id old k here stage (sym found ∙ hit) left)),
        (k, live, (λ _. refl), λ other. absurd (other (hit ∙ sym saw'))),
      ))
      (λ miss. (
        Live (idle_at k word),
        keeps,
        tt,
        subst (λ b. Rule (stepped s 0 (either b (old + 1) word) id me.1 (Live (idle_at k word)) keeps)) (sym (ne_eqb word old miss))
            (freely s r id k (idle_at k word) (set s.words 0 word) here (looked_free k stage) (idle_free (idle_at k word) refl) (r.values.values_seen id k here) (omega arith) (set-get_or s.words 0 0)),
        (k, live, (λ same. absurd (miss (same ∙ saw'))), λ other. (omega arith, refl)),
      ))

  -- the served ticket is that of the pass: the slot is at home, and the pass receives it
  serves_home : (s : TicketState T) (r : Rule s) (id ticket : ℕ) (k : LiveView T) → Has s id k → k.stage ≡ Waiting ticket → r.words.serving ≡ ticket → ((x : T) → leads x x) → IsHome s
      → Rule (with_view s s.words (set s.homes 0 none) id (in_section k ticket r.values.current))
  serves_home s r id ticket k at stage is same h = record {
    words = on_words.entered first s r.words id ticket k r.values.current at stage is h;
    values = on_values.entered leads s r.values id ticket k at same h;
  }

  pub serves_allowed : (slots id : ℕ) (me : TicketSeat T) (ticket : ℕ) → me.1 ≡ [] → stage_of me.0 ≡ Some (Waiting ticket) → ((x : T) → leads x x)
      → Allows Rule slots id me 1 (λ n. n) (Serves leads (step slots 1 0 0 none) me)
  serves_allowed slots id me ticket empty is same s r _ at _ =
      let k : LiveView T = known me.0 (Waiting ticket) is in
      let live : me.0 ≡ Live k = known_live me.0 (Waiting ticket) is in
      let stage : k.stage ≡ Waiting ticket = known_stage me.0 (Waiting ticket) is in
      let here : Has s id k = at ∙ ap some live in
      let word : ℕ = get_or s.words 1 0 in
      let found : word ≡ r.words.serving = ap (λ ws. get_or ws 1 0) r.words.words in
      let words : set s.words 1 word ≡ s.words = set-get_or s.words 1 0 in
      let old : (r.words.serving ≤ ticket) × (ticket < r.words.next) = r.words.tickets_in_turn id k ticket here (ticket_of_stage k.stage ticket (Waiting ticket) stage refl) in dite (ℕ_discrete word ticket)
      (λ hit. ⊎_elim
      (λ (h : IsHome s). (
        Live (in_section k ticket r.values.current),
        takes 0 (Some r.values.current),
        ap (λ hs. get_elem? hs 0) (on_values.home_is_current leads s r.values h),
        subst (λ (ws : List ℕ). Rule (with_view s ws (set s.homes 0 none) id (in_section k ticket r.values.current))) (sym words) (serves_home s r id ticket k here stage (sym found ∙ hit) same h),
        (
          k,
          ticket,
          live,
          stage,
          omega arith,
          (λ _. (k, r.values.current, live, (r.values.values_seen id k here).0, ap (λ c. (Live (in_section k ticket r.values.current), (0, Some r.values.current) ∷ c)) empty)),
          λ other. absurd (other hit),
        ),
      ))
      (λ (o : IsOut s r.words.serving). absurd (on_words.not_out first s r.words id ticket k here stage (sym found ∙ hit) o))
      r.words.slot)
      (λ miss. (
        me.0,
        keeps,
        tt,
        subst (λ (x : List ℕ × List (TicketView T)). Rule record { words = x.0; homes = s.homes; views = x.1 }) (λ i. (sym words i, sym (set_again s.views id me.0 at) i)) r,
        (k, ticket, live, stage, omega arith, (λ hit. absurd (miss hit)), λ _. refl),
      ))

  -- the pass in its critical section leaves a value to which the value found leads
  leaves_out : (s : TicketState T) (r : Rule s) (id ticket : ℕ) (k : LiveView T) (value : T) → Has s id k → k.stage ≡ Holding ticket → leads k.seen value → ((x : T) → leads x x) → ((x y z : T) → leads x y → leads y z → leads x z)
      → IsOut s r.words.serving → Rule (with_view s (set s.words 1 (ticket + 1)) (set s.homes 0 (some (Some value))) id (after_section k ticket value))
  leaves_out s r id ticket k value at stage grown same through o = record {
    words = on_words.left first s r.words id ticket k value at stage o;
    values = on_values.left leads s r.values id ticket k value at stage grown same through o.away (on_words.alone first s r.words id ticket k at stage);
  }

  pub leaves_allowed : (slots id : ℕ) (me : TicketSeat T) (ticket : ℕ) (value : T) (is : stage_of me.0 ≡ Some (Holding ticket)) → me.1 ≡ (0, Some value) ∷ [] → leads (known me.0 (Holding ticket) is).seen value
      → ((x : T) → leads x x) → ((x y z : T) → leads x y → leads y z → leads x z) → Allows Rule slots id me 1 (λ n. (n + 1) % 2 ^ 64) (Leaves leads (step slots 1 1 0 none) me)
  leaves_allowed slots id me ticket value is carried grown same through s r _ at _ =
      let k : LiveView T = known me.0 (Holding ticket) is in
      let live : me.0 ≡ Live k = known_live me.0 (Holding ticket) is in
      let stage : k.stage ≡ Holding ticket = known_stage me.0 (Holding ticket) is in
      let here : Has s id k = at ∙ ap some live in
      let word : ℕ = get_or s.words 1 0 in
      let served : ticket ≡ r.words.serving = r.words.holder_is_served id k ticket here stage in
      let found : word ≡ ticket = ap (λ ws. get_or ws 1 0) r.words.words ∙ sym served in
      let old : (r.words.serving ≤ ticket) × (ticket < r.words.next) = r.words.tickets_in_turn id k ticket here (holds_ticket k ticket stage) in
      let high : r.words.next ≤ last_word = r.words.never_wraps in
      let raised : (word + 1) % 2 ^ 64 ≡ ticket + 1 = up_one word (omega arith) ∙ ap (λ (n : ℕ). n + 1) found in ⊎_elim
      (λ (h : IsHome s). absurd (h.nobody id k ticket here stage))
      (λ (o : IsOut s r.words.serving). (
        Live (after_section k word value),
        gives,
        tt,
        subst (λ (x : (ℕ × ℕ) × List (maybe.Option (Option T))). Rule (with_view s (set s.words 1 x.0.0) x.1 id (after_section k x.0.1 value)))
            (λ i. ((sym raised i, sym found i), sym (ap (put_back s.homes) carried) i)) (leaves_out s r id ticket k value here stage grown same through o),
        (k, value, live, stage ∙ ap Holding (sym found), carried, grown, ap (λ c. (Live (after_section k word value), rest c)) carried),
      ))
      r.words.slot

  -- a pass that has put its value into the slot in the meantime leaves that value
  pub leaves_from : (slots id : ℕ) (before me : TicketSeat T) (ticket : ℕ) (value : T) (is : stage_of before.0 ≡ Some (Holding ticket)) → leads (known before.0 (Holding ticket) is).seen value → me.0 ≡ before.0 → me.1 ≡ (0, Some value) ∷ []
      → ((x : T) → leads x x) → ((x y z : T) → leads x y → leads y z → leads x z) → Allows Rule slots id me 1 (λ n. (n + 1) % 2 ^ 64) (Leaves leads (step slots 1 1 0 none) me)
  leaves_from slots id before me ticket value is grown same carried =
      let is' : stage_of me.0 ≡ Some (Holding ticket) = ap stage_of same ∙ is in
      leaves_allowed slots id me ticket value is' carried (subst (λ (k : LiveView T). leads k.seen value) (sym (same_known me.0 before.0 (Holding ticket) is' is same)) grown)

  -- one more pass without a ticket, which has seen no more than the others
  joins_free : (s : TicketState T) (r : Rule s) (k : LiveView T) → Free k → leads k.seen r.values.current × leads k.also r.values.current → k.next ≤ r.words.next → Rule (with_pass s k)
  joins_free s r k free values word = record { words = on_words.joined first s r.words k free word; values = on_values.joined leads s r.values k free values }

  pub splits_allowed : (id : ℕ) (v : TicketView T) → stage_of v ≡ Some Idle → Splits Rule id v v v
  splits_allowed id v is s r at =
      let k : LiveView T = known v Idle is in
      let live : v ≡ Live k = known_live v Idle is in
      let here : Has s id k = at ∙ ap some live in
      subst (λ (x : List (TicketView T) × TicketView T). Rule record { words = s.words; homes = s.homes; views = x.0 ++ x.1 ∷ [] }) (λ i. (sym (set_again s.views id v at) i, sym live i))
      (joins_free s r k (idle_free k (known_stage v Idle is)) (r.values.values_seen id k here) (r.words.words_seen id k here))

  -- a pass without a ticket is spent
  spends : (s : TicketState T) (r : Rule s) (id : ℕ) (k : LiveView T) → Has s id k → Free k → Rule (with_spent s id)
  spends s r id k at free = record { words = on_words.spent first s r.words id k at free; values = on_values.spent leads s r.values id }

  pub joins_allowed : (id : ℕ) (v : TicketView T) (other : ℕ) (w : TicketView T) → stage_of v ≡ Some Idle → stage_of w ≡ Some Idle → Joins Rule id v other w (beside v w) Spent
  joins_allowed id v other w is is' s r at apart there =
      let k : LiveView T = known v Idle is in
      let l : LiveView T = known w Idle is' in
      let live : v ≡ Live k = known_live v Idle is in
      let live' : w ≡ Live l = known_live w Idle is' in
      let free : Free k = idle_free k (known_stage v Idle is) in
      let free' : Free l = idle_free l (known_stage w Idle is') in
      let both : LiveView T = both_known k l in
      let here : Has s id k = at ∙ ap some live in
      let mate : Has s other l = sym (set_else s.views id other (beside v w) apart) ∙ (there ∙ ap some live') in
      let low : k.next ≤ r.words.next = r.words.words_seen id k here in
      let low' : l.next ≤ r.words.next = r.words.words_seen other l mate in
      let first : Rule (with_view s s.words s.homes id both) = freely s r id k both s.words here free (idle_free both refl) ((r.values.values_seen id k here).0, (r.values.values_seen other l mate).0) (max_le k.next l.next r.words.next low low') refl in
      let still : Has (with_view s s.words s.homes id both) other l = set_else s.views id other (Live both) apart ∙ mate in
      subst (λ (x : TicketView T). Rule record { words = s.words; homes = s.homes; views = set (set s.views id x) other Spent })
      (λ i. beside (sym live i) (sym live' i)) (spends (with_view s s.words s.homes id both) first other l still free')

  pub settles_allowed : (slots id : ℕ) (me : TicketSeat T) → stage_of me.0 ≡ Some Idle → ((x y z : T) → leads x z → leads y z → leads x y ⊎ leads y x)
      → Allows Rule slots id me 0 (λ n. n) (Settles leads (step slots 0 0 0 none) me)
  settles_allowed slots id me is ordered s r _ at _ =
      let k : LiveView T = known me.0 Idle is in
      let live : me.0 ≡ Live k = known_live me.0 Idle is in
      let here : Has s id k = at ∙ ap some live in
      let free : Free k = idle_free k (known_stage me.0 Idle is) in
      let old = r.values.values_seen id k here in
      let word : ℕ = get_or s.words 0 0 in
      let low : k.next ≤ r.words.next = r.words.words_seen id k here in
      let fits : k.next ≤ last_word = on_words.none_beyond first s r.words id k here in ⊎_elim
      (λ (up : leads k.seen k.also). (
        Live (seen_alone k k.also),
        keeps,
        tt,
        freely s r id k (seen_alone k k.also) (set s.words 0 word) here free (idle_free (seen_alone k k.also) refl) (old.1, old.1) low (set-get_or s.words 0 0),
        (k, live, fits, inr (up, refl)),
      ))
      (λ (down : leads k.also k.seen). (
        Live (seen_alone k k.seen),
        keeps,
        tt,
        freely s r id k (seen_alone k k.seen) (set s.words 0 word) here free (idle_free (seen_alone k k.seen) refl) (old.0, old.0) low (set-get_or s.words 0 0),
        (k, live, fits, inl (down, refl)),
      ))
      (ordered k.seen k.also r.values.current old.0 old.1)

  -- after the step the pass is idle
  pub settled_idle : (st : Step (Option T)) (me me' : TicketSeat T) (word : ℕ) → Settles leads st me word me' → stage_of me'.0 ≡ Some Idle
  settled_idle st me me' word reported =
      ⊎_elim (λ (t : leads reported.0.also reported.0.seen × (me' ≡ (Live (seen_alone reported.0 reported.0.seen), me.1))). ap (λ (m : TicketSeat T). stage_of m.0) t.1)
      (λ (t : leads reported.0.seen reported.0.also × (me' ≡ (Live (seen_alone reported.0 reported.0.also), me.1))). ap (λ (m : TicketSeat T). stage_of m.0) t.1) reported.3

  pub opens : ((x : T) → leads x x) → first ≤ last_word → (value : T) → Rule (opening (first ∷ first ∷ []) (Some value ∷ []) (newcomer first value))
  opens same small value = record { words = on_words.opens first small value; values = on_values.opens leads first same value }

module _ {T : Type 0} (leads : T → T → Type 0) (same : (x : T) → leads x x) where
  -- if a step changes the knowledge of the pass from k to l, the pass forgets nothing if l has what
  -- k has
  remembers : (me me' : TicketSeat T) (k l : LiveView T) → me.0 ≡ Live k → me'.0 ≡ Live l → leads k.seen l.seen → k.next ≤ l.next → (a b : LiveView T) → me.0 ≡ Live a → me'.0 ≡ Live b → leads a.seen b.seen × (a.next ≤ b.next)
  remembers me me' k l is is' sees more a b at at' =
      subst (λ (x : LiveView T × LiveView T). leads x.0.seen x.1.seen × (x.0.next ≤ x.1.next)) (λ i. (live_is k a (sym is ∙ at) i, live_is l b (sym is' ∙ at') i)) (sees, more)

  pub joins_remember : (k l m : LiveView T) → beside (Live k) (Live l) ≡ Live m → leads k.seen m.seen × leads l.seen m.also × (k.next ≤ m.next) × (l.next ≤ m.next)
  joins_remember k l m is = subst (λ (x : LiveView T). leads k.seen x.seen × leads l.seen x.also × (k.next ≤ x.next) × (l.next ≤ x.next)) (live_is (both_known k l) m is) (same k.seen, same l.seen, max_left k.next l.next, max_right k.next l.next)

  -- if a step changes the knowledge of the pass from k to l, both values of k lead to the value of
  -- l
  both_remembered : (me me' : TicketSeat T) (k l : LiveView T) → me.0 ≡ Live k → me'.0 ≡ Live l → leads k.seen l.seen → leads k.also l.seen → k.next ≤ l.next → (a b : LiveView T) → me.0 ≡ Live a → me'.0 ≡ Live b → leads a.seen b.seen × leads a.also b.seen × (a.next ≤ b.next)
  both_remembered me me' k l is is' sees sees' more a b at at' =
      subst (λ (x : LiveView T × LiveView T). leads x.0.seen x.1.seen × leads x.0.also x.1.seen × (x.0.next ≤ x.1.next)) (λ i. (live_is k a (sym is ∙ at) i, live_is l b (sym is' ∙ at') i)) (sees, sees', more)

  pub settles_remember : (st : Step (Option T)) (me me' : TicketSeat T) (word : ℕ) → Settles leads st me word me' → (a b : LiveView T) → me.0 ≡ Live a → me'.0 ≡ Live b → leads a.seen b.seen × leads a.also b.seen × (a.next ≤ b.next)
  settles_remember st me me' word reported = let k = reported.0 in ⊎_elim
      (λ (t : leads k.also k.seen × (me' ≡ (Live (seen_alone k k.seen), me.1))). both_remembered me me' k (seen_alone k k.seen) reported.1 (ap (λ (m : TicketSeat T). m.0) t.1) (same k.seen) t.0 (omega arith))
      (λ (t : leads k.seen k.also × (me' ≡ (Live (seen_alone k k.also), me.1))). both_remembered me me' k (seen_alone k k.also) reported.1 (ap (λ (m : TicketSeat T). m.0) t.1) t.0 (same k.also) (omega arith))
      reported.3

  pub looks_remember : (st : Step (Option T)) (me me' : TicketSeat T) (word : ℕ) → Looks st me word me' → (a b : LiveView T) → me.0 ≡ Live a → me'.0 ≡ Live b → leads a.seen b.seen × (a.next ≤ b.next)
  looks_remember st me me' word reported = let k = reported.0 in dite (ℕ_discrete word last_word)
      (λ worn. remembers me me' k (idle_at k word) reported.1 (ap (λ (m : TicketSeat T). m.0) (reported.5 worn)) (same k.seen) reported.2)
      (λ left. remembers me me' k (looked_at k word) reported.1 (ap (λ (m : TicketSeat T). m.0) (reported.4 left)) (same k.seen) reported.2)

  pub draws_remember : (st : Step (Option T)) (me me' : TicketSeat T) (word : ℕ) → Draws st me word me' → (a b : LiveView T) → me.0 ≡ Live a → me'.0 ≡ Live b → leads a.seen b.seen × (a.next ≤ b.next)
  draws_remember st me me' word reported = let k = reported.0 in dite (ℕ_discrete word k.next)
      (λ hit. remembers me me' k (waiting_for k word) reported.1 (ap (λ (m : TicketSeat T). m.0) (reported.2 hit)) (same k.seen) (omega arith))
      (λ miss. let more : k.next < word = (reported.3 miss).0 in remembers me me' k (idle_at k word) reported.1 (ap (λ (m : TicketSeat T). m.0) (reported.3 miss).1) (same k.seen) (omega arith))

  pub serves_remember : (st : Step (Option T)) (me me' : TicketSeat T) (word : ℕ) → Serves leads st me word me' → (a b : LiveView T) → me.0 ≡ Live a → me'.0 ≡ Live b → leads a.seen b.seen × (a.next ≤ b.next)
  serves_remember st me me' word reported = let k = reported.0 in dite (ℕ_discrete word reported.1)
      (λ hit. let b = reported.5 hit in remembers me me' b.0 (in_section b.0 reported.1 b.1) b.2 (ap (λ (m : TicketSeat T). m.0) b.4) b.3 (omega arith))
      (λ miss. remembers me me' k k reported.2 (ap (λ (m : TicketSeat T). m.0) (reported.6 miss) ∙ reported.2) (same k.seen) (omega arith))

  pub leaves_remember : (st : Step (Option T)) (me me' : TicketSeat T) (word : ℕ) → next_of me.0 ≡ word + 1 → Leaves leads st me word me' → (a b : LiveView T) → me.0 ≡ Live a → me'.0 ≡ Live b → leads a.seen b.seen × (a.next ≤ b.next)
  leaves_remember st me me' word saw reported = let k = reported.0 in let saw' : k.next ≡ word + 1 = sym (ap next_of reported.2) ∙ saw in
      remembers me me' k (after_section k word reported.1) reported.2 (ap (λ (m : TicketSeat T). m.0) reported.6) reported.5 (omega arith)

  pub exchanges_remember : (me me' : TicketSeat T) (new : Option T) → Exchanges me new me' → (a b : LiveView T) → me.0 ≡ Live a → me'.0 ≡ Live b → leads a.seen b.seen × (a.next ≤ b.next)
  exchanges_remember me me' new reported a b at at' = remembers me me' a a at (ap (λ (m : TicketSeat T). m.0) reported.2 ∙ at) (same a.seen) (omega arith) a b at at'

module _ {T : Type 0} (leads : T → T → Type 0) where
  abbrev SameTally : LiveView T → LiveView T → Type 0
  SameTally k l = (l.ended ≡ k.ended) × (l.last ≡ k.last)

  -- if a step changes the knowledge of the pass from k to l, the tally of the pass changes from
  -- that of k to that of l
  counts : (Tally : LiveView T → LiveView T → Type 0) (me me' : TicketSeat T) (k l : LiveView T) → me.0 ≡ Live k → me'.0 ≡ Live l → Tally k l → (a b : LiveView T) → me.0 ≡ Live a → me'.0 ≡ Live b → Tally a b
  counts Tally me me' k l is is' tally a b at at' = subst (λ (x : LiveView T × LiveView T). Tally x.0 x.1) (λ i. (live_is k a (sym is ∙ at) i, live_is l b (sym is' ∙ at') i)) tally

  pub joins_keep_tally : (k l m : LiveView T) → beside (Live k) (Live l) ≡ Live m → SameTally k m
  joins_keep_tally k l m is = subst (SameTally k) (live_is (both_known k l) m is) (refl, refl)

  pub settles_keep_tally : (st : Step (Option T)) (me me' : TicketSeat T) (word : ℕ) → Settles leads st me word me' → (a b : LiveView T) → me.0 ≡ Live a → me'.0 ≡ Live b → SameTally a b
  settles_keep_tally st me me' word reported = let k = reported.0 in ⊎_elim
      (λ (t : leads k.also k.seen × (me' ≡ (Live (seen_alone k k.seen), me.1))). counts SameTally me me' k (seen_alone k k.seen) reported.1 (ap (λ (m : TicketSeat T). m.0) t.1) (refl, refl))
      (λ (t : leads k.seen k.also × (me' ≡ (Live (seen_alone k k.also), me.1))). counts SameTally me me' k (seen_alone k k.also) reported.1 (ap (λ (m : TicketSeat T). m.0) t.1) (refl, refl))
      reported.3

  pub looks_keep_tally : (st : Step (Option T)) (me me' : TicketSeat T) (word : ℕ) → Looks st me word me' → (a b : LiveView T) → me.0 ≡ Live a → me'.0 ≡ Live b → SameTally a b
  looks_keep_tally st me me' word reported = let k = reported.0 in dite (ℕ_discrete word last_word)
      (λ worn. counts SameTally me me' k (idle_at k word) reported.1 (ap (λ (m : TicketSeat T). m.0) (reported.5 worn)) (refl, refl))
      (λ left. counts SameTally me me' k (looked_at k word) reported.1 (ap (λ (m : TicketSeat T). m.0) (reported.4 left)) (refl, refl))

  pub draws_keep_tally : (st : Step (Option T)) (me me' : TicketSeat T) (word : ℕ) → Draws st me word me' → (a b : LiveView T) → me.0 ≡ Live a → me'.0 ≡ Live b → SameTally a b
  draws_keep_tally st me me' word reported = let k = reported.0 in dite (ℕ_discrete word k.next)
      (λ hit. counts SameTally me me' k (waiting_for k word) reported.1 (ap (λ (m : TicketSeat T). m.0) (reported.2 hit)) (refl, refl))
      (λ miss. counts SameTally me me' k (idle_at k word) reported.1 (ap (λ (m : TicketSeat T). m.0) (reported.3 miss).1) (refl, refl))

  pub serves_keep_tally : (st : Step (Option T)) (me me' : TicketSeat T) (word : ℕ) → Serves leads st me word me' → (a b : LiveView T) → me.0 ≡ Live a → me'.0 ≡ Live b → SameTally a b
  serves_keep_tally st me me' word reported = let k = reported.0 in dite (ℕ_discrete word reported.1)
      (λ hit. let b = reported.5 hit in counts SameTally me me' b.0 (in_section b.0 reported.1 b.1) b.2 (ap (λ (m : TicketSeat T). m.0) b.4) (refl, refl))
      (λ miss. counts SameTally me me' k k reported.2 (ap (λ (m : TicketSeat T). m.0) (reported.6 miss) ∙ reported.2) (refl, refl))

  pub leaves_count : (st : Step (Option T)) (me me' : TicketSeat T) (word : ℕ) → Leaves leads st me word me' → (a b : LiveView T) → me.0 ≡ Live a → me'.0 ≡ Live b → (b.ended ≡ a.ended + 1) × (b.last ≡ a.seen)
  leaves_count st me me' word reported =
      let k = reported.0 in counts (λ (x y : LiveView T). (y.ended ≡ x.ended + 1) × (y.last ≡ x.seen)) me me' k (after_section k word reported.1) reported.2 (ap (λ (m : TicketSeat T). m.0) reported.6) (refl, refl)

  pub exchanges_keep_tally : (me me' : TicketSeat T) (new : Option T) → Exchanges me new me' → (a b : LiveView T) → me.0 ≡ Live a → me'.0 ≡ Live b → SameTally a b
  exchanges_keep_tally me me' new reported a b at at' = counts SameTally me me' a a at (ap (λ (m : TicketSeat T). m.0) reported.2 ∙ at) (refl, refl) a b at at'
