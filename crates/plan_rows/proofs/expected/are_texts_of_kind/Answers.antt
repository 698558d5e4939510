use Rattle.std.proofs.Common.{◌≡◌, ◌↔◌, ◌==◌, Bor, List, ℕ, [], cond, map, false, IfOk, IsTrue, ap, sym, subst, ◌∙◌, lit<, arith}
use Rattle.std.proofs.lemmas.Grind.{common_steps}
use Rattle.std.specs.List.{AllByRecursion, slice_split}
use Rattle.std.specs.Str.{bytes_eq}
use Rattle.std.proofs.lemmas.Iterator.Consumers.{map_from_collect}
use Rattle.std.proofs.lemmas.Iterator.Splits.{YieldsList-from_str_split}
use Rattle.plan_rows.specs.Expected.{SpellsSome, empty_list, listed_texts, semicolon}
use Rattle.plan_rows.proofs.expected.are_texts_of_kind.Goals as goal

pub returns : goal.returns
returns c =
    let text = c.args.text.now in
    let other : bytes_eq text empty_list ≡ false = sym c.eq.ensures ∙ c.if-eq.false in
    let ran = map_from_collect c.collect.result c.collect.ensures.ran (YieldsList-from_str_split {s = c.split.result} 59 text (lit< tt) c.split.ensures.text c.split.ensures.has_more c.split.ensures.pattern) in
    let parts = rw c.in_ok-texts.was at ran in
    let read = ap (map (λ (t : Bor (List ℕ)). t.now)) c.as_slice.ensures.value ∙ parts in
    let listed : map (λ (t : Bor (List ℕ)). t.now) c.as_slice.result.now ≡ listed_texts text =
    read ∙ sym (ap (λ b. cond b [] (slice_split (λ byte. byte == semicolon) text)) other) in
    subst (λ texts. IfOk c.each_spells.result (λ all. IsTrue all ↔ AllByRecursion (SpellsSome c.args.kind) texts)) listed c.each_spells.ensures

pub returns-then-eq : goal.returns-then-eq
returns-then-eq c = grind (arith, common_steps)
