use Rattle.std.proofs.Common.{get_or, sym, ◌∙◌, arith}
use Rattle.std.specs.Str.{bytes_eq}
use Rattle.std.proofs.lemmas.List.{get_or_default}
use Rattle.tables.specs.declared.hit.Hit.TheVariants as hits
use Rattle.dtable.specs.PlanFile.{hit_word}
use Rattle.dtable.proofs.HitWords.{all_hits, unnamed}
use Rattle.tables.proofs.Searches.{position_more}
use Rattle.dtable.proofs.reading.table_list.hit_of.Goals as goal

pub loop-hit-init : goal.loop-hit-init
loop-hit-init c k d below = absurd (omega arith)

pub loop-hit-preserved : goal.loop-hit-preserved
loop-hit-preserved c =
    let i = c.loop-hit.hit-index in
    let hit = get_or all_hits i hits.U in
    let tested = sym c.eq.ensures ∙ c.if-eq.false in
    position_more (λ h. bytes_eq (hit_word h) c.args.word.now) all_hits i hit c.loop-hit-test.true (sym (get_or_default all_hits i hit hits.U c.loop-hit-test.true)) c.loop-hit.invariant (rw c.word_of.ensures at tested)

pub returns-clause-none : goal.returns-clause-none
returns-clause-none c = unnamed c.args.word.now c.loop-hit.hit-index c.loop-hit-test.false c.loop-hit.invariant
