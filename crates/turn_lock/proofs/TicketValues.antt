-- The rule on values: each kind of step preserves that there is one current value to which
-- everything seen leads.
use Rattle.std.proofs.Common.{◌≡◌, ◌≢◌, ℕ, ◌+◌, Option, Some, List, [], ◌∷◌, set, get_or, sym, refl, ap, ◌∙◌, subst}
use mathlib.Core.Option.{some, none, some-injective, some-ne-none}
use mathlib.Core.Option as maybe
use Rattle.atomic_table.specs.Table.{opening}
use Rattle.turn_lock.specs.declared.ticket.view.Stage.TheVariants.{Holding}
use Rattle.turn_lock.specs.declared.ticket.view.LiveView.{LiveView}
use Rattle.turn_lock.specs.Ticket.{TicketState, opened, newcomer, in_section, after_section, Has, IsHome, ValuesRule}
use Rattle.turn_lock.proofs.TicketViews.{each_set, each_snoc, Free, idle_free, free_holds_not, no_view, unspent, with_view, with_pass, with_spent}

module _ {T : Type 0} (leads : T → T → Type 0) where
  abbrev Rule : TicketState T → Type 0
  Rule = ValuesRule leads

  -- a slot at home has one value, and a slot that is away has none
  value_is : (a b : T) (homes : List (maybe.Option (Option T))) → homes ≡ some (Some a) ∷ [] → homes ≡ some (Some b) ∷ [] → a ≡ b
  value_is a b homes here there = let same : some (Some a) ≡ some (Some b) = ap (λ hs. get_or hs 0 none) (sym here ∙ there) in cc

  none_home : (a : T) (homes : List (maybe.Option (Option T))) → homes ≡ none ∷ [] → homes ≡ some (Some a) ∷ [] → ⊥
  none_home a homes away here = some-ne-none (Some a) (ap (λ hs. get_or hs 0 none) (sym here ∙ away))

  -- the value in the slot at home is the current one
  pub home_is_current : (s : TicketState T) (r : Rule s) → (h : IsHome s) → s.homes ≡ some (Some r.current) ∷ []
  home_is_current s r h = h.home ∙ ap (λ (x : T). some (Some x) ∷ []) (r.at_home h.value h.home)

  renewed : (s : TicketState T) (r : Rule s) (id : ℕ) (current : T) (words : List ℕ) (homes : List (maybe.Option (Option T))) (k : LiveView T) → ((x : T) → leads x r.current → leads x current)
      → ((value : T) → homes ≡ some (Some value) ∷ [] → value ≡ current) → ((ticket : ℕ) → k.stage ≡ Holding ticket → k.seen ≡ current)
      → ((j : ℕ) (l : LiveView T) (ticket : ℕ) → j ≢ id → Has s j l → l.stage ≡ Holding ticket → l.seen ≡ current) → leads k.seen current × leads k.also current → Rule (with_view s words homes id k)
  renewed s r id current words homes k along home mine others seen = record {
    current = current;
    at_home = home;
    was_found = λ i l ticket at. each_set (λ _ (m : LiveView T). m.stage ≡ Holding ticket → m.seen ≡ current) s.views id k (mine ticket) (λ j m other there. others j m ticket other there) i l at;
    values_seen = each_set (λ _ (m : LiveView T). leads m.seen current × leads m.also current) s.views id k seen (λ j m _ there. let old = r.values_seen j m there in (along m.seen old.0, along m.also old.1));
  }

  -- the slot does not move, and a pass outside critical sections changes its view and stays outside
  pub stays : (s : TicketState T) (r : Rule s) (id : ℕ) (k : LiveView T) (words : List ℕ) → ((ticket : ℕ) → k.stage ≡ Holding ticket → ⊥) → leads k.seen r.current × leads k.also r.current → Rule (with_view s words s.homes id k)
  stays s r id k words not seen = renewed s r id r.current words s.homes k (λ _ l. l) r.at_home (λ ticket holds. absurd (not ticket holds)) (λ j l ticket _ there. r.was_found j l ticket there) seen

  -- the pass receives the slot with the current value
  pub entered : (s : TicketState T) (r : Rule s) (id ticket : ℕ) (k : LiveView T) → Has s id k → ((x : T) → leads x x) → (h : IsHome s) → Rule (with_view s s.words (set s.homes 0 none) id (in_section k ticket r.current))
  entered s r id ticket k at same h =
      renewed s r id r.current s.words (set s.homes 0 none) (in_section k ticket r.current) (λ _ l. l) (λ value home. absurd (none_home value (set s.homes 0 none) (ap (λ hs. set hs 0 none) h.home) home)) (λ _ _. refl)
      (λ j l t _ there holds. absurd (h.nobody j l t there holds)) (same r.current, (r.values_seen id k at).1)

  -- the slot goes home with a value to which the value found leads
  pub left : (s : TicketState T) (r : Rule s) (id ticket : ℕ) (k : LiveView T) (value : T) → Has s id k → k.stage ≡ Holding ticket → leads k.seen value → ((x : T) → leads x x) → ((x y z : T) → leads x y → leads y z → leads x z)
      → s.homes ≡ none ∷ [] → ((j : ℕ) (l : LiveView T) (t : ℕ) → j ≢ id → Has s j l → l.stage ≡ Holding t → ⊥) → Rule (with_view s (set s.words 1 (ticket + 1)) (set s.homes 0 (some (Some value))) id (after_section k ticket value))
  left s r id ticket k value at stage grown same through away alone =
      let grown' : leads r.current value = subst (λ x. leads x value) (r.was_found id k ticket at stage) grown in
      let homes : List (maybe.Option (Option T)) = set s.homes 0 (some (Some value)) in
      renewed s r id value (set s.words 1 (ticket + 1)) homes (after_section k ticket value) (λ x sees. through x r.current value sees grown') (λ other home. value_is other value homes home (ap (λ hs. set hs 0 (some (Some value))) away))
      (λ t holds. cc) (λ j l t other there holds. absurd (alone j l t other there holds)) (same value, same value)

  -- one more pass, which is outside critical sections
  pub joined : (s : TicketState T) (r : Rule s) (k : LiveView T) → Free k → leads k.seen r.current × leads k.also r.current → Rule (with_pass s k)
  joined s r k free values = record {
    current = r.current;
    at_home = r.at_home;
    was_found = λ i l ticket at. each_snoc (λ (m : LiveView T). m.stage ≡ Holding ticket → m.seen ≡ r.current) s.views k (λ j m there. r.was_found j m ticket there) (λ holds. absurd (free_holds_not k free ticket holds)) i l at;
    values_seen = each_snoc (λ (m : LiveView T). leads m.seen r.current × leads m.also r.current) s.views k r.values_seen values;
  }

  -- a pass is spent
  pub spent : (s : TicketState T) (r : Rule s) (id : ℕ) → Rule (with_spent s id)
  spent s r id = record {
    current = r.current;
    at_home = r.at_home;
    was_found = λ i l ticket there. r.was_found i l ticket (unspent s.views id i l there);
    values_seen = λ i l there. r.values_seen i l (unspent s.views id i l there);
  }

  pub opens : (first : ℕ) → ((x : T) → leads x x) → (value : T) → Rule (opening (first ∷ first ∷ []) (Some value ∷ []) (newcomer first value))
  opens first same value = let k : LiveView T = opened first value in record {
    current = value;
    at_home = λ other home. value_is other value (some (Some value) ∷ []) home refl;
    was_found = λ i l ticket at. each_snoc (λ (m : LiveView T). m.stage ≡ Holding ticket → m.seen ≡ value) [] k (λ j m there. absurd (no_view j m there)) (λ holds. absurd (free_holds_not k (idle_free k refl) ticket holds)) i l at;
    values_seen = each_snoc (λ (m : LiveView T). leads m.seen value × leads m.also value) [] k (λ j m there. absurd (no_view j m there)) (same value, same value);
  }
