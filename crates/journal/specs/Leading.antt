-- The relation "leads to" is reflexive and transitive, and if two states lead to a third one, one
-- of the two leads to the other.
use Rattle.std.proofs.Common.{◌≡◌, ◌⊎◌, false, List, [], ◌∷◌, ◌++◌, drop, get_or, refl, sym, ap, ◌∙◌, subst, inl, inr, append_assoc, append-nil}
use Rattle.std.proofs.lemmas.Bool.{both_ways, cases_Bool}
use Rattle.journal.specs.Gate.{GateOver, Continues, LeadsTo}
use Rattle.journal.specs.declared.event.Event.{Event}

continues_itself : (J : List Event) → Continues J J
continues_itself J = record { rest = []; whole = sym (append-nil J) }

continues_on : (J K L : List Event) → Continues J K → Continues K L → Continues J L
continues_on J K L first second = record {
  rest = first.rest ++ second.rest;
  whole = second.whole ∙ ap (λ w. w ++ second.rest) first.whole ∙ append_assoc J first.rest second.rest;
}

-- of two prefixes of a list, one continues the other
compared : (J r K s : List Event) → J ++ r ≡ K ++ s → Continues J K ⊎ Continues K J
compared [] r K s h = inl (record { rest = K; whole = refl })
compared (x ∷ J) r [] s h = inr (record { rest = x ∷ J; whole = refl })
compared (x ∷ J) r (y ∷ K) s h =
    let first : x ≡ y = ap (λ l. get_or l 0 x) h in
    elim (compared J r K s (ap (drop 1) h)) [
      | inl on ↦ inl (record { rest = on.rest; whole = ap (λ w. y ∷ w) on.whole ∙ ap (λ w. w ∷ (J ++ on.rest)) (sym first) })
      | inr on ↦ inr (record { rest = on.rest; whole = ap (λ w. x ∷ w) on.whole ∙ ap (λ w. w ∷ (K ++ on.rest)) first })
    ]

module _ {X : Type 0} where
  -- the relation is reflexive
  pub leads_itself : (gate : GateOver X) → LeadsTo gate gate
  leads_itself gate = record { terms = refl; journal = continues_itself gate.journal; stop = λ _. refl }

  -- the relation is transitive
  pub leads_further : (a b c : GateOver X) → LeadsTo a b → LeadsTo b c → LeadsTo a c
  leads_further a b c first second = record {
    terms = second.terms ∙ first.terms;
    journal = continues_on a.journal b.journal c.journal first.journal second.journal;
    stop = λ stopped.
        let same : b ≡ a = first.stop stopped in
        second.stop (ap (λ g. g.stopped) same ∙ stopped) ∙ same;
  }

  -- a state that is not stopped leads to every state with the same terms and a continued journal
  pub running_leads : (a b : GateOver X) → a.stopped ≡ false → b.terms ≡ a.terms → Continues a.journal b.journal → LeadsTo a b
  running_leads a b runs terms on = record { terms = terms; journal = on; stop = λ stopped. absurd (both_ways a.stopped runs stopped) }

  -- if two states lead to a third one, one of the two leads to the other
  pub leads_either : (a b c : GateOver X) → LeadsTo a c → LeadsTo b c → LeadsTo a b ⊎ LeadsTo b a
  leads_either a b c ac bc =
      elim (cases_Bool a.stopped) [
        | inl stopped ↦ inr (subst (λ g. LeadsTo b g) (ac.stop stopped) bc)
        | inr runs ↦
            elim (cases_Bool b.stopped) [
              | inl stopped ↦ inl (subst (λ g. LeadsTo a g) (bc.stop stopped) ac)
              | inr other ↦
                  elim (compared a.journal ac.journal.rest b.journal bc.journal.rest (sym ac.journal.whole ∙ bc.journal.whole)) [
                    | inl on ↦ inl (running_leads a b runs (sym bc.terms ∙ ac.terms) on)
                    | inr on ↦ inr (running_leads b a other (sym ac.terms ∙ bc.terms) on)
                  ]
            ]
      ]
