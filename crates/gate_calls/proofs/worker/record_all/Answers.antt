use Rattle.std.proofs.Common.{◌≡◌, ◌∷◌, ◌++◌, [], sym, ap, ◌∙◌, List, length, append_assoc, append-nil, refl, arith, rules}
use Rattle.std.proofs.lemmas.Grind.{common_steps}
use Rattle.std.proofs.lemmas.List.Elements.{All-head, All-push, All-same, All-tail}
use Rattle.std.specs.Vec.Iter.{into_iter_items}
use Rattle.gate_calls.specs.Sharing.{IsRecordedIn, IsSettledIn}
use Rattle.gate_calls.proofs.HeldClaims.{all_recorded_stay, all_settled_stay}
use Rattle.gate_calls.proofs.Passes.{further, leaves_later, unchanged}
use Rattle.gate_calls.proofs.worker.record_all.Goals as goal

nothing_left : {X : Type 0} (xs : List X) → length xs ≡ 0 → xs ≡ []
nothing_left [] none = refl
nothing_left (x ∷ xs) none = absurd (omega (arith, none))

pub record-requires-clause-settled : goal.record-requires-clause-settled
record-requires-clause-settled g c κs within =
    let P = IsSettledIn (g.G.Gate.known c.loop-one.pass).seen in
    let rest = into_iter_items c.next.new.self in
    All-head P c.in-Some.one rest (All-same P (c.in-Some.one ∷ rest) (into_iter_items c.loop-one.one-iterator) (sym c.in-Some.ensures.steps.0) c.loop-one.invariant.2)

pub loop-one-preserved : goal.loop-one-preserved
loop-one-preserved g c =
    let before = (g.G.Gate.known c.loop-one.pass).seen in
    let after = (g.G.Gate.known c.in-Ok.pass).seen in
    let P = IsSettledIn before in
    let rest = into_iter_items c.next.new.self in
    let on = c.in-Ok.ensures in
    let done = c.loop-one.invariant.3 in (
      further (g.G.Gate.has_pass c.args.shared.now.gate.now) g.G.Gate.known c.args.pass c.loop-one.pass c.in-Ok.pass c.loop-one.invariant.0 on.goes_on,
      on.goes_on.seen.terms ∙ c.loop-one.invariant.1,
      all_settled_stay c.jobs_are_stable.ensures before after rest on.goes_on.seen
          (All-tail P c.in-Some.one rest (All-same P (c.in-Some.one ∷ rest) (into_iter_items c.loop-one.one-iterator) (sym c.in-Some.ensures.steps.0) c.loop-one.invariant.2)),
      done ++ c.in-Some.one ∷ [],
      append_assoc done (c.in-Some.one ∷ []) rest ∙ ap (λ xs. done ++ xs) (sym c.in-Some.ensures.steps.0) ∙ c.loop-one.invariant.4,
      All-push (IsRecordedIn after) done c.in-Some.one (all_recorded_stay before after done on.goes_on.seen c.loop-one.invariant.5) on.decided,
      omega (arith, ap length c.in-Some.ensures.steps.0, c.in-Some.ensures.steps.1, c.loop-one.invariant.6),
    )

pub record-requires-clause-own : goal.record-requires-clause-own
record-requires-clause-own g c κs within = c.loop-one.invariant.0.own

pub record-requires-clause-terms : goal.record-requires-clause-terms
record-requires-clause-terms g c κs within = c.loop-one.invariant.1

pub returns-in-Err-clause-leaves : goal.returns-in-Err-clause-leaves
returns-in-Err-clause-leaves g c =
    leaves_later (g.G.Gate.has_pass c.args.shared.now.gate.now) g.G.Gate.known g.G.Gate.is_worn c.args.pass c.loop-one.pass c.in-Err.exit c.loop-one.invariant.0 c.in-Err.ensures.leaves

pub returns-clause-goes_on : goal.returns-clause-goes_on
returns-clause-goes_on g c = c.loop-one.invariant.0

pub returns-clause-recorded : goal.returns-clause-recorded
returns-clause-recorded g c =
    let none = nothing_left (into_iter_items c.loop-one.one-iterator) (sym c.loop-one.invariant.6 ∙ c.in-None.ensures.steps.0) in
    let done = c.loop-one.invariant.3 in
    let all : done ≡ c.args.settled.items = sym (append-nil done) ∙ ap (λ xs. done ++ xs) (sym none) ∙ c.loop-one.invariant.4 in
    All-same (IsRecordedIn (g.G.Gate.known c.loop-one.pass).seen) c.args.settled.items done (sym all) c.loop-one.invariant.5

pub loop-one-init : goal.loop-one-init
loop-one-init g c =
    let seen = (g.G.Gate.known c.args.pass).seen in
    let items = into_iter_items c.into_iter-one-iterator.result in
    let gives = c.into_iter-one-iterator.ensures.into_iter_gives in (
      unchanged (g.G.Gate.has_pass c.args.shared.now.gate.now) g.G.Gate.known c.args.pass c.args.pass c.requires.own refl,
      c.requires.terms,
      All-same (IsSettledIn seen) items c.args.settled.items gives.0 c.requires.settled,
      [],
      gives.0,
      λ k d within. absurd (omega (arith, within)),
      search rules,
    )

pub returns-in-Err-clause-goes_on : goal.returns-in-Err-clause-goes_on
returns-in-Err-clause-goes_on c = grind (arith, common_steps)

pub returns-clause-leaves : goal.returns-clause-leaves
returns-clause-leaves c = grind (arith, common_steps)

pub loop-one-init-derived : goal.loop-one-init-derived
loop-one-init-derived c = grind (arith, common_steps)

pub returns-in-Err-clause-recorded : goal.returns-in-Err-clause-recorded
returns-in-Err-clause-recorded c = grind (arith, common_steps)
