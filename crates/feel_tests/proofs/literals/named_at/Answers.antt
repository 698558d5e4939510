use Rattle.std.proofs.lemmas.Grind.{common_steps}
use Rattle.std.proofs.Common.{◌≡◌, sym, subst, ◌∙◌, List, ℕ, true, Bool, eqb, arith}
use Rattle.std.specs.Cmp.Lexicographic.{pointwise}
use Rattle.feel_tests.proofs.Denials.{name_denied}
use Rattle.feel_tests.proofs.SameBytes.{bytes_apart, bytes_same}
use Rattle.feel_tests.specs.Words.{Begins, Name}
use Rattle.feel_tests.proofs.literals.named_at.Goals as goal

pub returns-else-eq-3-clause-refused : goal.returns-else-eq-3-clause-refused
returns-else-eq-3-clause-refused c memory =
    name_denied c.args.kind c.args.text.now c.args.name.now c.args.rest.now c.requires
    (λ e. bytes_apart c.args.name.now c.as_slice.result.now c.eq.result c.eq.ensures c.if-eq.false (e ∙ sym c.as_slice.ensures))
    (λ e. bytes_apart c.args.name.now c.as_slice-else-eq.result.now c.eq-else-eq.result c.eq-else-eq.ensures c.if-eq-2.false (e ∙ sym c.as_slice-else-eq.ensures))
    (λ e. bytes_apart c.args.name.now c.as_slice-else-eq-2.result.now c.eq-else-eq-2.result c.eq-else-eq-2.ensures c.if-eq-3.false (e ∙ sym c.as_slice-else-eq-2.ensures))

-- the text begins with the name that was compared
named : (text name rest wanted slice : List ℕ) (answer : Bool) → Begins text (Name name) rest → answer ≡ pointwise eqb name slice → answer ≡ true → slice ≡ wanted → Begins text (Name wanted) rest
named text name rest wanted slice answer begins is equal same =
    subst (λ (n : List ℕ). Begins text (Name n) rest) (bytes_same name slice answer is equal ∙ same) begins

pub flag_at-requires : goal.flag_at-requires
flag_at-requires c =
    named c.args.text.now c.args.name.now c.args.rest.now _ c.as_slice.result.now c.eq.result c.requires c.eq.ensures c.if-eq.true c.as_slice.ensures

pub flag_at-requires-then-eq-2 : goal.flag_at-requires-then-eq-2
flag_at-requires-then-eq-2 c =
    named c.args.text.now c.args.name.now c.args.rest.now _ c.as_slice-else-eq.result.now c.eq-else-eq.result c.requires c.eq-else-eq.ensures c.if-eq-2.true c.as_slice-else-eq.ensures

pub date_at-requires : goal.date_at-requires
date_at-requires c =
    named c.args.text.now c.args.name.now c.args.rest.now _ c.as_slice-else-eq-2.result.now c.eq-else-eq-2.result c.requires c.eq-else-eq-2.ensures c.if-eq-3.true c.as_slice-else-eq-2.ensures

pub returns-then-eq-3-clause-refused : goal.returns-then-eq-3-clause-refused
returns-then-eq-3-clause-refused c = grind (arith, common_steps)

pub returns-then-eq-3-clause-ok : goal.returns-then-eq-3-clause-ok
returns-then-eq-3-clause-ok c = grind (arith, common_steps)

pub returns-then-eq-2-clause-refused : goal.returns-then-eq-2-clause-refused
returns-then-eq-2-clause-refused c = grind (arith, common_steps)

pub returns-then-eq-2-clause-ok : goal.returns-then-eq-2-clause-ok
returns-then-eq-2-clause-ok c = grind (arith, common_steps)
