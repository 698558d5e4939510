use Rattle.std.proofs.Common.{◌≡◌, ◌+◌, ◌-◌, ◌<◌, ◌≤◌, [], get_or, length, take, sym, ap, subst, ◌∙◌, arith}
use Rattle.std.proofs.lemmas.List.{take_all}
use Rattle.intake_csv.specs.Rows.{AreRowsOf}
use Rattle.explanation.specs.Finding.{found_in, places_of}
use Rattle.explanation.proofs.FoundClaims.{next_file}
use Rattle.explanation.proofs.Rows.{zip_at, zip_long}
use Rattle.explanation.proofs.finding.find_over.Goals as goal

pub loop-index-preserved : goal.loop-index-preserved
loop-index-preserved c = λ files are.
    let terms = c.args.terms.now in
    let index = c.loop-index.index in
    let within : index < length terms.files = omega (arith, c.loop-index-test.true, c.file_count-count.ensures) in
    let long = zip_long _ _ _ are in
    let inside : index < length files = omega (arith, within, long) in
    let file : index ≡ (index + 1) - 1 = omega arith in
    let rows = zip_at (AreRowsOf terms.plan.names) terms.files files index [] [] are within in
    c.in_ok-more.ensures (get_or files index []) (places_of c.args.id.now 1 (take index files))
    (subst (λ i. AreRowsOf terms.plan.names (get_or terms.files i []) (get_or files index [])) file rows) (c.loop-index.invariant files are)
    ∙ ap found_in (sym (next_file c.args.id.now files index inside))

pub returns : goal.returns
returns c = λ files are.
    let terms = c.args.terms.now in
    let index = c.loop-index.index in
    let long = zip_long _ _ _ are in
    let past : length files ≤ index = omega (arith, c.loop-index-test.false, c.file_count-count.ensures, long) in
    c.loop-index.invariant files are ∙ ap (λ fs. found_in (places_of c.args.id.now 1 fs)) (take_all index files past)
