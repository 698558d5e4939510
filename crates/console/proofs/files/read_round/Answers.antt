use Rattle.std.proofs.Common.{◌≡◌, ◌+◌, ◌++◌, ◌∷◌, [], length, vec_len, sym, ap, ◌∙◌, arith, rules, Ok}
use Rattle.std.specs.Vec.Iter.{into_iter_items}
use Rattle.console.proofs.Rounds.{AreResultsFrom, results_after, results_read, text_pushed}
use Rattle.console.proofs.files.read_round.Goals as goal

pub results-init : goal.results-init
results-init g c =
    let sources = c.in_ok-opened in
    let round = c.in-Ok in
    let gives = c.into_iter-result-iterator.ensures.into_iter_gives in
    let items : into_iter_items c.into_iter-result-iterator.result ≡ round.round.items = gives.0 in
    let sizes = ap length items in
    let count : length round.round.items ≡ length sources.opened.items = sym round.round.ok.0 ∙ round.ensures.as_many ∙ sources.opened.ok.0 in
    let first : c.len-first.result ≡ vec_len c.args.texts.now = c.len-first.ensures in
    let some = sources.ensures.some in
    let inside = sources.ensures.inside in
    let many = sources.opened.ok.0 in
    record {
      count = gives.1 ∙ round.round.ok.0 ∙ sym sizes;
      more = omega (arith, sizes, count, first, some, many);
      left = rw (items, ← first) (results_read _ _ _ _ g.S.Source.Read.remaining sources.opened.items _ (omega (arith, inside, many)) count
          (λ k d e within. sources.ensures.opened k d e (omega (arith, within, many))) (λ k d e within. round.ensures.each k d e (omega (arith, within, many))));
      read = c.requires.read;
    }

pub results-preserved : goal.results-preserved
results-preserved g c =
    let was = c.results.invariant in
    let step = c.in-Some.ensures.steps in
    let whole = g.S.Sources.whole c.args.sources.now in
    let left : into_iter_items c.results.result-iterator ≡ Ok c.in-Ok-result.text ∷ into_iter_items c.next.new.self = step.0 ∙ ap (λ first. first ∷ into_iter_items c.next.new.self) c.in-Ok-result.is in
    let results : AreResultsFrom c.args.limit_bytes whole c.args.names.now (vec_len c.results.texts) (Ok c.in-Ok-result.text ∷ into_iter_items c.next.new.self) = rw (← left) was.left in
    let pushed : c.push.new.self.items ≡ c.results.texts.items ++ c.in-Ok-result.text ∷ [] = search rules in
    let longer : vec_len c.push.new.self ≡ vec_len c.results.texts + 1 = search rules in
    let sizes = ap length left in
    record {
      count = let count = was.count in let size = step.1 in omega (arith, count, size, sizes);
      more = let more = was.more in omega (arith, more, sizes, longer);
      left = rw longer (results_after _ _ _ _ _ _ results);
      read = rw longer (text_pushed _ _ _ _ _ _ _ _ results was.read pushed);
    }
