use Rattle.std.proofs.Common.{◌≡◌, ◌+◌, ◌-◌, ◌++◌, suc, ap, append_assoc, append-nil, arith, chars, encode_utf8, encode_utf8_all, string_bytes, sym, take, ◌∙◌}
use Rattle.std.proofs.lemmas.Grind.{common_steps}
use Rattle.std.proofs.lemmas.Str.{IsUtf8-past_char}
use Rattle.std.specs.Str.Iter.{chars_rest}
use Rattle.explanation.proofs.ShownFields.{first_of_none, first_step}
use Rattle.explanation.proofs.shown_field.first_of.Goals as goal

pub loop-preserved : goal.loop-preserved
loop-preserved c =
    let held = c.loop.invariant in
    let parts = c.in-Some.ensures.steps.0 in
    let old = chars_rest c.loop.characters in
    let rest = chars_rest c.next.new.self in
    let left = c.args.most - (c.loop.counter + 1) in
    let test = c.loop-test.true in
    let more : c.args.most - c.loop.counter ≡ suc left = omega (arith, test) in
    let step = ap (λ n. encode_utf8_all (take n (chars old))) more ∙ first_step left old rest c.in-Some.character held.0 parts in
    let others = encode_utf8_all (take left (chars rest)) in (
      IsUtf8-past_char _ _ c.in-Some.character held.0 parts,
      ap (λ first. first ++ others) c.in_ok-push.ensures.bytes
          ∙ append_assoc (string_bytes c.loop.first) (encode_utf8 c.in-Some.character) others
          ∙ ap (λ next. string_bytes c.loop.first ++ next) (sym step)
          ∙ held.1,
    )

pub returns-in_default : goal.returns-in_default
returns-in_default c =
    let held = c.loop.invariant in
    let none = first_of_none (c.args.most - c.loop.counter) (chars_rest c.loop.characters) c.in_default.ensures.steps.0.0 in
    sym (append-nil (string_bytes c.loop.first)) ∙ ap (λ next. string_bytes c.loop.first ++ next) (sym none) ∙ held.1

pub loop-init : goal.loop-init
loop-init c = grind (arith, common_steps)

pub loop-init-derived : goal.loop-init-derived
loop-init-derived c = grind (arith, common_steps)
