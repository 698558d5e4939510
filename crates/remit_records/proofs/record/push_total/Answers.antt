use Rattle.std.proofs.Common.{ℕ, pos, List, [], ◌∷◌, ◌++◌, map, ap₂, subst}
use Rattle.std.proofs.lemmas.Result.{on_ok_weaker}
use Rattle.fixpoint.specs.Money.{money_text}
use Rattle.remit_records.specs.Fields.{Pushes}
use Rattle.remit_records.specs.Records.{total_front}
use Rattle.remit_records.proofs.Adding.{sums_reported}
use Rattle.remit_records.proofs.Pushing.{both-pushed-ok}
use Rattle.remit_records.proofs.record.push_total.Goals as goal

-- the record of totals, from the number of accepted claims and the texts of the sums
abbrev totals : ℕ → ℕ → List (List ℕ) → List (List ℕ)
totals version accepted sums = total_front version accepted ++ (sums ++ [] ∷ [])

pub returns : goal.returns
returns c =
    let version = c.args.version in
    let sums = map (λ sum. money_text (pos sum)) c.args.sums.units in
    let pushed = both-pushed-ok _ _ _ _ (sums ++ [] ∷ []) _ c.in_ok-push_total_front.ensures
    (both-pushed-ok _ _ _ sums ([] ∷ []) _ (rw c.as_slice.ensures at c.in_ok-push_sums.ensures) c.push_field.ensures) in
    on_ok_weaker c.push_field.result
    (λ fields J count accepted are.
    subst (Pushes c.args.line.now c.push_field.new.line) (ap₂ (totals version) accepted (sums_reported J count c.args.sums are)) fields) pushed
