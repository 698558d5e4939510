-- The rule on words: each kind of step preserves the order of the two words, the tickets and the
-- location of the slot.
use Rattle.std.proofs.Common.{◌≡◌, ◌≢◌, ◌⊎◌, ◌<◌, ◌≤◌, ℕ, ◌+◌, Option, Some, List, [], ◌∷◌, set, get_or, sym, refl, ap, ◌∙◌, subst, ⊎_elim, inl, inr, arith}
use mathlib.Core.Option.{some, none}
use mathlib.Core.Option as maybe
use Rattle.atomic_table.specs.Table.{opening}
use Rattle.atomic_table.proofs.Lists.{set_else, at_longer, at_snoc}
use Rattle.turn_lock.specs.declared.ticket.view.Stage.TheVariants.{Looked, Waiting, Holding}
use Rattle.turn_lock.specs.declared.ticket.view.LiveView.{LiveView}
use Rattle.turn_lock.specs.declared.ticket.view.TicketView.TheVariants.{Spent, Live}
use Rattle.turn_lock.specs.Ticket.{last_word, TicketState, HasTicket, opened, newcomer, waiting_for, in_section, after_section, Has, IsHome, IsOut, WordsRule}
use Rattle.turn_lock.proofs.Views.{there_set}
use Rattle.turn_lock.proofs.TicketViews.{ticket_of_stage, ticket_held, after_it, live_is, one_known, each_set, each_snoc, Free, holds_ticket, idle_free, looked_free, free_holds_not, no_view, unspent, with_view, with_pass, with_spent}

module _ {T : Type 0} (first : ℕ) where
  abbrev Rule : TicketState T → Type 0
  Rule = WordsRule first

  -- the conditions on the new view of a pass
  record Fits (s : TicketState T) (id next serving : ℕ) (k : LiveView T) : Type 0 where
    in_turn : (ticket : ℕ) → HasTicket ticket k.stage → (serving ≤ ticket) × (ticket < next)
    apart : (j : ℕ) (l : LiveView T) (ticket : ℕ) → j ≢ id → Has s j l → HasTicket ticket k.stage → HasTicket ticket l.stage → ⊥
    served : (ticket : ℕ) → k.stage ≡ Holding ticket → ticket ≡ serving
    word : k.next ≤ next

  -- the conditions on the views of the other passes
  record Others (s : TicketState T) (id serving : ℕ) : Type 0 where
    in_turn : (j : ℕ) (l : LiveView T) (ticket : ℕ) → j ≢ id → Has s j l → HasTicket ticket l.stage → serving ≤ ticket
    served : (j : ℕ) (l : LiveView T) (ticket : ℕ) → j ≢ id → Has s j l → l.stage ≡ Holding ticket → ticket ≡ serving

  renewed : (s : TicketState T) (r : Rule s) (id next serving : ℕ) (words : List ℕ) (homes : List (maybe.Option (Option T))) (k : LiveView T) → words ≡ next ∷ serving ∷ [] → first ≤ serving → serving ≤ next → next ≤ last_word → r.next ≤ next
      → Fits s id next serving k → Others s id serving → IsHome (with_view s words homes id k) ⊎ IsOut (with_view s words homes id k) serving → Rule (with_view s words homes id k)
  renewed s r id next serving words homes k are low middle high more fits others slot = record {
    next = next;
    serving = serving;
    words = are;
    from_first = low;
    served_are_drawn = middle;
    never_wraps = high;
    tickets_in_turn = λ i l ticket at. each_set (λ _ (m : LiveView T). HasTicket ticket m.stage → (serving ≤ ticket) × (ticket < next)) s.views id k (fits.in_turn ticket)
        (λ j m other there has. let t = r.tickets_in_turn j m ticket there has in let low' : serving ≤ ticket = others.in_turn j m ticket other there has in (low', omega arith)) i l at;
    tickets_apart = λ i j l m ticket at there. each_set (λ a (x : LiveView T). HasTicket ticket x.stage → HasTicket ticket m.stage → a ≡ j) s.views id k
        (each_set (λ b (y : LiveView T). HasTicket ticket k.stage → HasTicket ticket y.stage → id ≡ b) s.views id k (λ _ _. refl) (λ b y other here mine has. absurd (fits.apart b y ticket other here mine has)) j m there)
        (λ a x other here. each_set (λ b (y : LiveView T). HasTicket ticket x.stage → HasTicket ticket y.stage → a ≡ b) s.views id k (λ has mine. absurd (fits.apart a x ticket other here mine has))
        (λ b y _ here'. r.tickets_apart a b x y ticket here here') j m there)
        i l at;
    holder_is_served = λ i l ticket at. each_set (λ _ (m : LiveView T). m.stage ≡ Holding ticket → ticket ≡ serving) s.views id k (fits.served ticket) (λ j m other there. others.served j m ticket other there) i l at;
    slot = slot;
    words_seen = each_set (λ _ (m : LiveView T). m.next ≤ next) s.views id k fits.word (λ j m _ there. let old : m.next ≤ r.next = r.words_seen j m there in omega arith);
  }

  -- the slot does not move if the pass is outside critical sections before and after the step
  same_slot : (s : TicketState T) (r : Rule s) (id : ℕ) (k l : LiveView T) (words : List ℕ) → Has s id k → ((ticket : ℕ) → k.stage ≡ Holding ticket → ⊥) → ((ticket : ℕ) → l.stage ≡ Holding ticket → ⊥)
      → IsHome (with_view s words s.homes id l) ⊎ IsOut (with_view s words s.homes id l) r.serving
  same_slot s r id k l words at before after = ⊎_elim
      (λ (h : IsHome s). inl record {
        value = h.value;
        home = h.home;
        nobody = λ i m ticket there. each_set (λ _ (x : LiveView T). x.stage ≡ Holding ticket → ⊥) s.views id l (after ticket) (λ j x _ here. h.nobody j x ticket here) i m there;
      })
      (λ (o : IsOut s r.serving). inr record {
        away = o.away;
        holder = o.holder;
        knows = o.knows;
        is_there = set_else s.views id o.holder (Live l) (λ same. before r.serving (ap (λ (x : LiveView T). x.stage) (one_known s id o.holder k o.knows (sym same) at o.is_there) ∙ o.holds)) ∙ o.is_there;
        holds = o.holds;
      })
      r.slot

  -- the conditions on the other passes still hold if the words do not change or the next ticket
  -- grows
  others_stay : (s : TicketState T) (r : Rule s) (id : ℕ) → Others s id r.serving
  others_stay s r id = record {
    in_turn = λ j l ticket _ there has. (r.tickets_in_turn j l ticket there has).0;
    served = λ j l ticket _ there holds. r.holder_is_served j l ticket there holds;
  }

  -- a pass without a ticket changes its view and still has no ticket, and no word changes
  pub freely : (s : TicketState T) (r : Rule s) (id : ℕ) (k l : LiveView T) (words : List ℕ) → Has s id k → Free k → Free l → l.next ≤ r.next → words ≡ s.words → Rule (with_view s words s.homes id l)
  freely s r id k l words at free free' word same =
      let a = r.from_first in let b = r.served_are_drawn in let c = r.never_wraps in
      renewed s r id r.next r.serving words s.homes l (same ∙ r.words) a b c (omega arith)
      record {
        in_turn = λ ticket has. absurd (free' ticket has);
        apart = λ j m ticket _ _ has _. free' ticket has;
        served = λ ticket holds. absurd (free' ticket (holds_ticket l ticket holds));
        word = word;
      }
      (others_stay s r id)
      (same_slot s r id k l words at (free_holds_not k free) (free_holds_not l free'))

  -- a draw finds the next ticket that its pass has looked at, which becomes the ticket of the pass
  pub drawn : (s : TicketState T) (r : Rule s) (id old : ℕ) (k : LiveView T) → Has s id k → k.stage ≡ Looked → r.next ≡ old → old < last_word → Rule (with_view s (set s.words 0 (old + 1)) s.homes id (waiting_for k old))
  drawn s r id old k at stage is left =
      let a = r.from_first in let b : r.serving ≤ r.next = r.served_are_drawn in let low : k.next ≤ r.next = r.words_seen id k at in
      renewed s r id (old + 1) r.serving (set s.words 0 (old + 1)) s.homes (waiting_for k old) (ap (λ ws. set ws 0 (old + 1)) r.words) a (omega arith) (omega arith) (omega arith)
      record {
        in_turn = λ ticket mine. (omega arith, omega arith);
        apart = λ j l ticket _ there mine has. let t = r.tickets_in_turn j l ticket there has in absurd (omega arith);
        served = λ ticket holds. cc;
        word = omega arith;
      }
      (others_stay s r id)
      (same_slot s r id k (waiting_for k old) (set s.words 0 (old + 1)) at (free_holds_not k (looked_free k stage)) (λ ticket holds. cc))

  -- the served ticket is that of the pass, which receives the slot
  pub entered : (s : TicketState T) (r : Rule s) (id ticket : ℕ) (k : LiveView T) (value : T) → Has s id k → k.stage ≡ Waiting ticket → r.serving ≡ ticket → IsHome s
      → Rule (with_view s s.words (set s.homes 0 none) id (in_section k ticket value))
  entered s r id ticket k value at stage is h =
      let a = r.from_first in let b = r.served_are_drawn in let c = r.never_wraps in let mine : HasTicket ticket k.stage = ticket_of_stage k.stage ticket (Waiting ticket) stage refl in
      renewed s r id r.next r.serving s.words (set s.homes 0 none) (in_section k ticket value) r.words a b c (omega arith)
      record {
        in_turn = λ t has. let old = r.tickets_in_turn id k ticket at mine in (omega arith, omega arith);
        apart = λ j l t other there has hers. other (r.tickets_apart j id l k t there at hers (subst (λ (n : ℕ). HasTicket n k.stage) has mine));
        served = λ t holds. sym (ticket_held ticket t holds) ∙ sym is;
        word = r.words_seen id k at;
      }
      (others_stay s r id)
      (inr record {
        away = ap (λ hs. set hs 0 none) h.home;
        holder = id;
        knows = in_section k ticket value;
        is_there = there_set s.views id (Live k) (Live (in_section k ticket value)) at;
        holds = ap Holding (sym is);
      })

  -- while a pass waits for the served ticket, the slot is not away
  pub not_out : (s : TicketState T) (r : Rule s) (id ticket : ℕ) (k : LiveView T) → Has s id k → k.stage ≡ Waiting ticket → r.serving ≡ ticket → IsOut s r.serving → ⊥
  not_out s r id ticket k at stage is o =
      let mine : HasTicket ticket k.stage = ticket_of_stage k.stage ticket (Waiting ticket) stage refl in
      let hers : HasTicket ticket o.knows.stage = ticket_of_stage o.knows.stage ticket (Holding r.serving) o.holds is in
      let same : k ≡ o.knows = one_known s id o.holder k o.knows (r.tickets_apart id o.holder k o.knows ticket at o.is_there mine hers) at o.is_there in
      let clash : Waiting ticket ≡ Holding r.serving = sym stage ∙ (ap (λ (x : LiveView T). x.stage) same ∙ o.holds) in cc

  -- no other pass is in a critical section
  pub alone : (s : TicketState T) (r : Rule s) (id ticket : ℕ) (k : LiveView T) → Has s id k → k.stage ≡ Holding ticket → (j : ℕ) (l : LiveView T) (t : ℕ) → j ≢ id → Has s j l → l.stage ≡ Holding t → ⊥
  alone s r id ticket k at stage j l t other there holds =
      let is : ticket ≡ r.serving = r.holder_is_served id k ticket at stage in
      other (r.tickets_apart j id l k ticket there at (ticket_of_stage l.stage ticket (Holding t) holds (r.holder_is_served j l t there holds ∙ sym is)) (holds_ticket k ticket stage))

  -- the served ticket is incremented, and the slot goes home
  pub left : (s : TicketState T) (r : Rule s) (id ticket : ℕ) (k : LiveView T) (value : T) → Has s id k → k.stage ≡ Holding ticket → IsOut s r.serving
      → Rule (with_view s (set s.words 1 (ticket + 1)) (set s.homes 0 (some (Some value))) id (after_section k ticket value))
  left s r id ticket k value at stage o =
      let a : first ≤ r.serving = r.from_first in let c = r.never_wraps in
      let is : ticket ≡ r.serving = r.holder_is_served id k ticket at stage in
      let mine : HasTicket ticket k.stage = holds_ticket k ticket stage in
      let old : (r.serving ≤ ticket) × (ticket < r.next) = r.tickets_in_turn id k ticket at mine in
      let l : LiveView T = after_section k ticket value in
      renewed s r id r.next (ticket + 1) (set s.words 1 (ticket + 1)) (set s.homes 0 (some (Some value))) l (ap (λ ws. set ws 1 (ticket + 1)) r.words) (omega arith) (omega arith) c (omega arith)
      record {
        in_turn = λ t has. absurd has;
        apart = λ j m t _ _ has _. has;
        served = λ t holds. cc;
        word = omega arith;
      }
      record {
        in_turn = λ j m t other there has. let low = (r.tickets_in_turn j m t there has).0 in after_it ticket t (omega arith) (λ e. other (r.tickets_apart j id m k t there at has (subst (λ (n : ℕ). HasTicket n k.stage) e mine)));
        served = λ j m t other there holds. absurd (alone s r id ticket k at stage j m t other there holds);
      }
      (inl record {
        value = value;
        home = ap (λ hs. set hs 0 (some (Some value))) o.away;
        nobody = λ i m t there. each_set (λ _ (x : LiveView T). x.stage ≡ Holding t → ⊥) s.views id l (λ holds. cc) (λ j x other here. alone s r id ticket k at stage j x t other here) i m there;
      })

  -- one more pass without a ticket, which has seen no later next ticket
  pub joined : (s : TicketState T) (r : Rule s) (k : LiveView T) → Free k → k.next ≤ r.next → Rule (with_pass s k)
  joined s r k free word = record {
    next = r.next;
    serving = r.serving;
    words = r.words;
    from_first = r.from_first;
    served_are_drawn = r.served_are_drawn;
    never_wraps = r.never_wraps;
    tickets_in_turn = λ i l ticket at. each_snoc (λ (m : LiveView T). HasTicket ticket m.stage → (r.serving ≤ ticket) × (ticket < r.next)) s.views k (λ j m there. r.tickets_in_turn j m ticket there) (λ has. absurd (free ticket has)) i l at;
    tickets_apart = λ i j l m ticket at there has has'. ⊎_elim
        (λ (old : Has s i l). ⊎_elim (λ (old' : Has s j m). r.tickets_apart i j l m ticket old old' has has') (λ (e : Live k ≡ Live m). absurd (free ticket (subst (λ (x : LiveView T). HasTicket ticket x.stage) (sym (live_is k m e)) has'))) (at_snoc s.views (Live k) (Live m) j there))
        (λ (e : Live k ≡ Live l). absurd (free ticket (subst (λ (x : LiveView T). HasTicket ticket x.stage) (sym (live_is k l e)) has)))
        (at_snoc s.views (Live k) (Live l) i at);
    holder_is_served = λ i l ticket at. each_snoc (λ (m : LiveView T). m.stage ≡ Holding ticket → ticket ≡ r.serving) s.views k (λ j m there. r.holder_is_served j m ticket there) (λ holds. absurd (free_holds_not k free ticket holds)) i l at;
    slot = ⊎_elim
        (λ (h : IsHome s). inl record {
          value = h.value;
          home = h.home;
          nobody = λ i l ticket at. each_snoc (λ (m : LiveView T). m.stage ≡ Holding ticket → ⊥) s.views k (λ j m there. h.nobody j m ticket there) (free_holds_not k free ticket) i l at;
        })
        (λ (o : IsOut s r.serving). inr record {
          away = o.away;
          holder = o.holder;
          knows = o.knows;
          is_there = at_longer s.views (Live k ∷ []) o.holder (Live o.knows) o.is_there;
          holds = o.holds;
        })
        r.slot;
    words_seen = each_snoc (λ (m : LiveView T). m.next ≤ r.next) s.views k r.words_seen word;
  }

  -- a pass without a ticket is spent
  pub spent : (s : TicketState T) (r : Rule s) (id : ℕ) (k : LiveView T) → Has s id k → Free k → Rule (with_spent s id)
  spent s r id k at free = record {
    next = r.next;
    serving = r.serving;
    words = r.words;
    from_first = r.from_first;
    served_are_drawn = r.served_are_drawn;
    never_wraps = r.never_wraps;
    tickets_in_turn = λ i l ticket there. r.tickets_in_turn i l ticket (unspent s.views id i l there);
    tickets_apart = λ i j l m ticket there there'. r.tickets_apart i j l m ticket (unspent s.views id i l there) (unspent s.views id j m there');
    holder_is_served = λ i l ticket there. r.holder_is_served i l ticket (unspent s.views id i l there);
    slot = ⊎_elim
        (λ (h : IsHome s). inl record { value = h.value; home = h.home; nobody = λ i l ticket there. h.nobody i l ticket (unspent s.views id i l there) })
        (λ (o : IsOut s r.serving). inr record {
          away = o.away;
          holder = o.holder;
          knows = o.knows;
          is_there = set_else s.views id o.holder Spent (λ same. free_holds_not k free r.serving (ap (λ (x : LiveView T). x.stage) (one_known s id o.holder k o.knows (sym same) at o.is_there) ∙ o.holds)) ∙ o.is_there;
          holds = o.holds;
        })
        r.slot;
    words_seen = λ i l there. r.words_seen i l (unspent s.views id i l there);
  }

  pub opens : first ≤ last_word → (value : T) → Rule (opening (first ∷ first ∷ []) (Some value ∷ []) (newcomer first value))
  opens small value = let k : LiveView T = opened first value in let free : Free k = idle_free k refl in record {
    next = first;
    serving = first;
    words = refl;
    from_first = omega arith;
    served_are_drawn = omega arith;
    never_wraps = small;
    tickets_in_turn = λ i l ticket at. each_snoc (λ (m : LiveView T). HasTicket ticket m.stage → (first ≤ ticket) × (ticket < first)) [] k (λ j m there. absurd (no_view j m there)) (λ has. absurd (free ticket has)) i l at;
    tickets_apart = λ i j l m ticket at there has has'. absurd (each_snoc (λ (x : LiveView T). HasTicket ticket x.stage → ⊥) [] k (λ b x here. absurd (no_view b x here)) (free ticket) i l at has);
    holder_is_served = λ i l ticket at. each_snoc (λ (m : LiveView T). m.stage ≡ Holding ticket → ticket ≡ first) [] k (λ j m there. absurd (no_view j m there)) (λ holds. absurd (free_holds_not k free ticket holds)) i l at;
    slot = inl record {
      value = value;
      home = refl;
      nobody = λ i l ticket at. each_snoc (λ (m : LiveView T). m.stage ≡ Holding ticket → ⊥) [] k (λ j m there. absurd (no_view j m there)) (free_holds_not k free ticket) i l at;
    };
    words_seen = each_snoc (λ (m : LiveView T). m.next ≤ first) [] k (λ j m there. absurd (no_view j m there)) (omega arith);
  }

  pub one_holds : (s : TicketState T) → Rule s → (i j : ℕ) (k l : LiveView T) (t u : ℕ) → Has s i k → Has s j l → k.stage ≡ Holding t → l.stage ≡ Holding u → i ≡ j
  one_holds s r i j k l t u at there holds holds' = let same : u ≡ t = r.holder_is_served j l u there holds' ∙ sym (r.holder_is_served i k t at holds) in
      r.tickets_apart i j k l t at there (holds_ticket k t holds) (ticket_of_stage l.stage t (Holding u) holds' same)

  pub worn_for_good : (s : TicketState T) → Rule s → (i : ℕ) (k : LiveView T) → Has s i k → k.next ≡ last_word → get_or s.words 0 0 ≡ last_word
  worn_for_good s r i k at worn = let low : k.next ≤ r.next = r.words_seen i k at in let high : r.next ≤ last_word = r.never_wraps in let is : get_or s.words 0 0 ≡ r.next = ap (λ ws. get_or ws 0 0) r.words in omega arith

  pub none_beyond : (s : TicketState T) → Rule s → (i : ℕ) (k : LiveView T) → Has s i k → k.next ≤ last_word
  none_beyond s r i k at = let low : k.next ≤ r.next = r.words_seen i k at in let high : r.next ≤ last_word = r.never_wraps in omega arith
