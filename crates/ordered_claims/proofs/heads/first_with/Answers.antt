use Rattle.std.proofs.Common.{◌≡◌, ◌+◌, true, false, sym, subst, ◌∙◌}
use Rattle.ordered_claims.specs.FirstHead.{ComesFirst, is_sooner}
use Rattle.ordered_claims.proofs.FirstOfFiles.{first_here, first_stays, head_read, none_here, none_read, sooner_here}
use Rattle.ordered_claims.proofs.heads.first_with.Goals as goal

pub returns-in_default : goal.returns-in_default
returns-in_default c =
    let read = c.index-files-index.result in
    none_here c.args.order c.args.files.now c.args.index c.args.first
    (none_read c.args.files.now c.args.index read c.requires.within c.index-files-index.is (sym c.in_default.is ∙ c.first_day.ensures)) c.requires.first

pub returns-in_default-first : goal.returns-in_default-first
returns-in_default-first c =
    let on = head_read c.args.files.now c.args.index c.index-files-index.result c.in-Some.day c.requires.within c.index-files-index.is (sym c.in-Some.is ∙ c.first_day.ensures) in
    subst (λ day. ComesFirst c.args.order c.args.files.now (c.args.index + 1) (record { index = c.args.index; day = day })) (sym on.day_is)
    (first_here c.args.order c.args.files.now c.args.index on.claim on.has (rw c.in_default-first.is at c.requires.first))

pub returns-then-is_sooner : goal.returns-then-is_sooner
returns-then-is_sooner c =
    let on = head_read c.args.files.now c.args.index c.index-files-index.result c.in-Some.day c.requires.within c.index-files-index.is (sym c.in-Some.is ∙ c.first_day.ensures) in
    let earlier = c.in-Some-first.earlier in
    let sooner = subst (λ day. is_sooner c.args.order day earlier.day ≡ true) on.day_is (sym c.is_sooner.ensures ∙ c.if-is_sooner.true) in
    subst (λ day. ComesFirst c.args.order c.args.files.now (c.args.index + 1) (record { index = c.args.index; day = day })) (sym on.day_is)
    (sooner_here c.args.order c.args.files.now c.args.index on.claim earlier on.has sooner (rw c.in-Some-first.is at c.requires.first))

pub returns : goal.returns
returns c =
    let on = head_read c.args.files.now c.args.index c.index-files-index.result c.in-Some.day c.requires.within c.index-files-index.is (sym c.in-Some.is ∙ c.first_day.ensures) in
    let earlier = c.in-Some-first.earlier in
    let not_sooner = subst (λ day. is_sooner c.args.order day earlier.day ≡ false) on.day_is (sym c.is_sooner.ensures ∙ c.if-is_sooner.false) in
    first_stays c.args.order c.args.files.now c.args.index on.claim earlier on.has not_sooner (rw c.in-Some-first.is at c.requires.first)
