use Rattle.std.proofs.Common.{◌≡◌, ◌-◌, IfOk, List, ℕ, filter, ap, ◌∙◌, subst}
use Rattle.cutplan.specs.Check.{pairs}
use Rattle.cutplan.specs.CheckSteps.{share_all}
use Rattle.cutplan.specs.CompiledColumns.{masks_kept}
use Rattle.cutplan.proofs.Partners.{shared_meet}
use Rattle.cutplan.proofs.table_check.overlaps_of.Goals as goal

pub returns : goal.returns
returns c =
    let t = c.args.table.now in
    let columns = c.args.columns.now in
    let reported = ap (λ n. filter (λ (pair : ℕ × ℕ). share_all (masks_kept columns) (pair.0 - 1) (pair.1 - 1)) (pairs n)) c.len.ensures ∙ shared_meet t columns c.requires.few c.requires.masks in
    subst (λ (xs : List (ℕ × ℕ)). IfOk c.overlaps.result (λ found. found.items ≡ xs)) reported c.overlaps.ensures
