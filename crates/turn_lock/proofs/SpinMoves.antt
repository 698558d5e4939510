-- Each step of the spin lock preserves its rule.
use Rattle.std.proofs.Common.{◌≡◌, ℕ, eqb, true, false, Option, Some, List, [], ◌∷◌, ◌++◌, set, get_or, sym, refl, ap, ◌∙◌, subst, ⊎_elim, inl, inr, arith}
use mathlib.Core.Option.{some, none, some-ne-none}
use lib.ListN.{get_elem?}
use prog.Atomic.{either}
use Rattle.atomic_table.specs.Table.{Act, opening, step, keeps, takes, gives, stepped, put_back, rest, carried_after, Valid, Allows, Splits}
use Rattle.atomic_table.proofs.Lists.{set_again, at_longer, at_snoc}
use Rattle.turn_lock.specs.declared.spin.view.SpinView.{SpinView}
use Rattle.turn_lock.specs.Spin.{SpinState, SpinSeat, newcomer, in_section, after_section, IsFree, IsTaken, SpinLockRule, Takes, Frees}
use Rattle.turn_lock.proofs.Views.{each_set, each_snoc, there_set, one_view, is_false, not_both}

module _ {T : Type 0} (leads : T → T → Type 0) where
  abbrev Rule : SpinState T → Type 0
  Rule = SpinLockRule leads

  abbrev V : Type 0
  V = SpinView T

  -- the state with one more view at the end
  abbrev joined_by : SpinState T → V → SpinState T
  joined_by s v = record { words = s.words; homes = s.homes; views = s.views ++ v ∷ [] }

  snoc_free : (s : SpinState T) (v : V) (current : T) → v.holds ≡ false → IsFree s current → IsFree (joined_by s v) current
  snoc_free s v current idle f = record {
    word = f.word;
    home = f.home;
    nobody = each_snoc (λ (w : V). w.holds ≡ false) s.views v f.nobody idle;
  }

  snoc_taken : (s : SpinState T) (v : V) (current : T) → v.holds ≡ false → IsTaken s current → IsTaken (joined_by s v) current
  snoc_taken s v current idle t = record {
    word = t.word;
    away = t.away;
    holder = t.holder;
    view = t.view;
    is_there = at_longer s.views (v ∷ []) t.holder t.view t.is_there;
    holds = t.holds;
    value = t.value;
    alone = λ i w at holds. ⊎_elim (λ (o : get_elem? s.views i ≡ some w). t.alone i w o holds) (λ (e : v ≡ w). absurd (not_both v.holds idle (ap (λ (u : V). u.holds) e ∙ holds))) (at_snoc s.views v w i at);
  }

  snoc_rule : (s : SpinState T) (v : V) → v.holds ≡ false → (r : Rule s) → leads v.seen r.current → Rule (joined_by s v)
  snoc_rule s v idle r sees = record {
    current = r.current;
    slot = ⊎_elim (λ (f : IsFree s r.current). inl (snoc_free s v r.current idle f)) (λ (t : IsTaken s r.current). inr (snoc_taken s v r.current idle t)) r.slot;
    seen = each_snoc (λ (w : V). leads w.seen r.current) s.views v r.seen sees;
  }

  pub splits : (id : ℕ) (v : V) → v.holds ≡ false → Splits Rule id v v v
  splits id v idle s r at = subst (λ (vs : List V). Rule record { words = s.words; homes = s.homes; views = vs ++ v ∷ [] }) (sym (set_again s.views id v at)) (snoc_rule s v idle r (r.seen id v at))

  -- the case that the exchange finds 0
  takes_free : (s : SpinState T) (r : Rule s) (id : ℕ) (me : SpinSeat T) → me.1 ≡ [] → get_elem? s.views id ≡ some me.0 → IsFree s r.current → ((x : T) → leads x x)
      → (w : V) × (a : Act (Option T)) × Valid s.homes me.1 a × Rule (stepped s 0 (either (eqb (get_or s.words 0 0) 0) 1 (get_or s.words 0 0)) id me.1 w a)
      × Takes leads (step 1 0 0 1 none) me (get_or s.words 0 0) (w, carried_after me.1 a)
  takes_free s r id me empty at f same = let w : V = in_section me.0 r.current in (
    w,
    takes 0 (Some r.current),
    ap (λ hs. get_elem? hs 0) f.home,
    record {
      current = r.current;
      slot = inr record {
        word = ap (λ ws. set ws 0 (either (eqb (get_or ws 0 0) 0) 1 (get_or ws 0 0))) f.word;
        away = ap (λ hs. set hs 0 none) f.home;
        holder = id;
        view = w;
        is_there = there_set s.views id me.0 w at;
        holds = refl;
        value = refl;
        alone = each_set (λ i (v : V). v.holds ≡ true → i ≡ id) s.views id w (λ _. refl) (λ i v _ there holds. absurd (not_both v.holds (f.nobody i v there) holds));
      };
      seen = each_set (λ _ (v : V). leads v.seen r.current) s.views id w (same r.current) (λ i v _ there. r.seen i v there);
    },
    (
      (λ _. (r.current, r.seen id me.0 at, refl, ap (λ c. (0, Some r.current) ∷ c) empty)),
      λ nonzero. absurd (nonzero (ap (λ ws. get_or ws 0 0) f.word)),
    ),
  )

  -- the case that the exchange finds 1
  takes_taken : (s : SpinState T) (r : Rule s) (id : ℕ) (me : SpinSeat T) → get_elem? s.views id ≡ some me.0 → IsTaken s r.current
      → (w : V) × (a : Act (Option T)) × Valid s.homes me.1 a × Rule (stepped s 0 (either (eqb (get_or s.words 0 0) 0) 1 (get_or s.words 0 0)) id me.1 w a)
      × Takes leads (step 1 0 0 1 none) me (get_or s.words 0 0) (w, carried_after me.1 a)
  takes_taken s r id me at t =
      let words : set s.words 0 (either (eqb (get_or s.words 0 0) 0) 1 (get_or s.words 0 0)) ≡ s.words = ap (λ ws. set ws 0 (either (eqb (get_or ws 0 0) 0) 1 (get_or ws 0 0))) t.word ∙ sym t.word in (
        me.0,
        keeps,
        tt,
        subst (λ (x : List ℕ × List V). Rule record { words = x.0; homes = s.homes; views = x.1 }) (λ i. (sym words i, sym (set_again s.views id me.0 at) i)) r,
        (
          (λ zero. absurd (is_one (get_or s.words 0 0) (ap (λ ws. get_or ws 0 0) t.word) zero)),
          λ _. refl,
        ),
      )
    where
      is_one : (n : ℕ) → n ≡ 1 → n ≡ 0 → ⊥
      is_one n one zero = omega arith

  pub takes_allowed : (slots id : ℕ) (me : SpinSeat T) → me.1 ≡ [] → ((x : T) → leads x x) → Allows Rule slots id me 0 (λ n. either (eqb n 0) 1 n) (Takes leads (step slots 0 0 1 none) me)
  takes_allowed slots id me empty same s r _ at _ = ⊎_elim (λ (f : IsFree s r.current). takes_free s r id me empty at f same) (λ (t : IsTaken s r.current). takes_taken s r id me at t) r.slot

  pub frees_allowed : (slots id : ℕ) (me : SpinSeat T) (value : T) → me.0.holds ≡ true → me.1 ≡ (0, Some value) ∷ [] → leads me.0.seen value → ((x : T) → leads x x) → ((x y z : T) → leads x y → leads y z → leads x z)
      → Allows Rule slots id me 0 (λ _. 0) (λ _. Frees leads (step slots 0 0 0 none) me 0)
  frees_allowed slots id me value holds carried grown same through s r _ at _ = ⊎_elim
      (λ (f : IsFree s r.current). absurd (not_both me.0.holds (f.nobody id me.0 at) holds))
      (λ (t : IsTaken s r.current).
      let mine : id ≡ t.holder = t.alone id me.0 at holds in
      let view : me.0 ≡ t.view = one_view s.views id t.holder me.0 t.view mine at t.is_there in
      let found : me.0.seen ≡ r.current = ap (λ (v : V). v.seen) view ∙ t.value in
      let grown' : leads r.current value = subst (λ x. leads x value) found grown in
      let w : V = after_section me.0 value in (
        w,
        gives,
        tt,
        record {
          current = value;
          slot = inl record {
            word = ap (λ ws. set ws 0 0) t.word;
            home = (ap (put_back s.homes) carried) ∙ ap (λ hs. set hs 0 (some (Some value))) t.away;
            nobody = each_set (λ i (v : V). v.holds ≡ false) s.views id w refl (λ i v other there. is_false v.holds (λ h. other (t.alone i v there h ∙ sym mine)));
          };
          seen = each_set (λ _ (v : V). leads v.seen value) s.views id w (same value) (λ i v _ there. through v.seen r.current value (r.seen i v there) grown');
        },
        (value, carried, grown, refl, ap rest carried),
      ))
      r.slot

  pub opens : ((x : T) → leads x x) → (value : T) → Rule (opening (0 ∷ []) (Some value ∷ []) (newcomer value))
  opens same value = record {
    current = value;
    slot = inl record {
      word = refl;
      home = refl;
      nobody = each_snoc (λ (v : V). v.holds ≡ false) [] (newcomer value) (λ i v at. absurd (some-ne-none v (sym at))) refl;
    };
    seen = each_snoc (λ (v : V). leads v.seen value) [] (newcomer value) (λ i v at. absurd (some-ne-none v (sym at))) (same value);
  }

  pub one_holds : (s : SpinState T) → Rule s → (i j : ℕ) (v w : V) → get_elem? s.views i ≡ some v → get_elem? s.views j ≡ some w → v.holds ≡ true → w.holds ≡ true → i ≡ j
  one_holds s r i j v w at there holds holds' = ⊎_elim
      (λ (f : IsFree s r.current). absurd (not_both v.holds (f.nobody i v at) holds))
      (λ (t : IsTaken s r.current). t.alone i v at holds ∙ sym (t.alone j w there holds'))
      r.slot

  pub one_value : (s : SpinState T) → Rule s → (current : T) × ((i : ℕ) (v : V) → get_elem? s.views i ≡ some v → leads v.seen current × (v.holds ≡ true → v.seen ≡ current))
  one_value s r = (
    r.current,
    λ i v at. (
      r.seen i v at,
      λ holds. ⊎_elim
          (λ (f : IsFree s r.current). absurd (not_both v.holds (f.nobody i v at) holds))
          (λ (t : IsTaken s r.current). ap (λ (u : V). u.seen) (one_view s.views i t.holder v t.view (t.alone i v at holds) at t.is_there) ∙ t.value)
          r.slot,
    ),
  )
