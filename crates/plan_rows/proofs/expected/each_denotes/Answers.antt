use Rattle.std.proofs.Common.{◌<◌, Bor, List, ℕ, [], map, length, refl, sym, ◌∙◌, arith}
use Rattle.std.proofs.lemmas.Grind.{common_steps}
use Rattle.std.proofs.lemmas.Bool.{false≢true}
use Rattle.std.proofs.lemmas.List.{length-map, get_or-map}
use Rattle.plan_rows.proofs.RowValues.{lengths_differ, one_differs, one_more_denotes}
use Rattle.plan_rows.proofs.expected.each_denotes.Goals as goal

pub returns-then-texts-values : goal.returns-then-texts-values
returns-then-texts-values c =
    let size = length-map c.args.texts.now (λ (t : Bor (List ℕ)). t.now) in
    (λ is. absurd (false≢true is), λ all. absurd (lengths_differ _ _ (λ same. c.if-texts-values.true (sym size ∙ same)) all))

pub returns-then-not-branch : goal.returns-then-not-branch
returns-then-not-branch c =
    let says = rw c.if-not-branch.true at c.in_ok-denotes.ensures in
    let size = length-map c.args.texts.now (λ (t : Bor (List ℕ)). t.now) in
    let within : c.loop-place.place < length c.args.texts.now = omega (arith, c.if-texts-values.false, c.loop-place-test.true) in
    let within_texts : c.loop-place.place < length (map (λ (t : Bor (List ℕ)). t.now) c.args.texts.now) = omega (arith, size, within) in (
      λ is. absurd (false≢true is),
      λ all. absurd (one_differs _ _ c.loop-place.place _ _ within_texts (get_or-map (λ (t : Bor (List ℕ)). t.now) c.args.texts.now c.loop-place.place _ [] within)
          (sym c.index-values-place.is) (λ d. false≢true (says.1 d)) all),
    )

pub loop-place-preserved : goal.loop-place-preserved
loop-place-preserved c =
    let says = rw c.if-not-branch.false at c.in_ok-denotes.ensures in
    let size = length-map c.args.texts.now (λ (t : Bor (List ℕ)). t.now) in
    let within : c.loop-place.place < length c.args.texts.now = omega (arith, c.if-texts-values.false, c.loop-place-test.true) in
    let within_texts : c.loop-place.place < length (map (λ (t : Bor (List ℕ)). t.now) c.args.texts.now) = omega (arith, size, within) in
    one_more_denotes _ _ c.loop-place.place _ _ within_texts c.loop-place-test.true (get_or-map (λ (t : Bor (List ℕ)). t.now) c.args.texts.now c.loop-place.place _ [] within)
    (sym c.index-values-place.is) c.loop-place.invariant (says.0 refl)

pub returns : goal.returns
returns c = grind (arith, common_steps)
