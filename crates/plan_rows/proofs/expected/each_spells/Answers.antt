use Rattle.std.proofs.Common.{◌<◌, ◌≤◌, Bor, List, ℕ, [], map, length, refl, arith}
use Rattle.std.proofs.lemmas.Bool.{false≢true}
use Rattle.std.proofs.lemmas.List.{length-map, get_or-map}
use Rattle.plan_rows.specs.Expected.{SpellsSome}
use Rattle.plan_rows.proofs.Readings.{all_at, all_more, all_whole}
use Rattle.plan_rows.proofs.expected.each_spells.Goals as goal

pub returns-then-not-branch : goal.returns-then-not-branch
returns-then-not-branch c =
    let says = rw c.if-not-branch.true at c.in_ok-spells.ensures in
    let size = length-map c.args.texts.now (λ (t : Bor (List ℕ)). t.now) in
    let within_texts : c.loop-place.place < length (map (λ (t : Bor (List ℕ)). t.now) c.args.texts.now) = omega (arith, size, c.loop-place-test.true) in (
      λ is. absurd (false≢true is),
      λ all. absurd (false≢true (says.1 (all_at (SpellsSome c.args.kind) _ c.loop-place.place _ within_texts (get_or-map (λ (t : Bor (List ℕ)). t.now) c.args.texts.now c.loop-place.place _ [] c.loop-place-test.true) all))),
    )

pub loop-place-preserved : goal.loop-place-preserved
loop-place-preserved c =
    let says = rw c.if-not-branch.false at c.in_ok-spells.ensures in
    let size = length-map c.args.texts.now (λ (t : Bor (List ℕ)). t.now) in
    let within_texts : c.loop-place.place < length (map (λ (t : Bor (List ℕ)). t.now) c.args.texts.now) = omega (arith, size, c.loop-place-test.true) in
    all_more (SpellsSome c.args.kind) _ c.loop-place.place _ within_texts (get_or-map (λ (t : Bor (List ℕ)). t.now) c.args.texts.now c.loop-place.place _ [] c.loop-place-test.true)
    c.loop-place.invariant (says.0 refl)

pub returns : goal.returns
returns c =
    let size = length-map c.args.texts.now (λ (t : Bor (List ℕ)). t.now) in
    let end : length (map (λ (t : Bor (List ℕ)). t.now) c.args.texts.now) ≤ c.loop-place.place = omega (arith, size, c.loop-place-test.false) in
    (λ is. all_whole (SpellsSome c.args.kind) _ c.loop-place.place end c.loop-place.invariant, λ all. refl)
