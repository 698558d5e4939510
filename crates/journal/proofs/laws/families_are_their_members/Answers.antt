use Rattle.std.proofs.Common.{take}
use Rattle.settlement.specs.Opening.{opening}
use Rattle.journal.specs.Events.{claims}
use Rattle.journal.proofs.Families.{summed_fold, summed_opening}
use Rattle.journal.proofs.laws.families_are_their_members.Goals as goal

pub returns : goal.returns
returns c = λ T J position family year members openings among.
    summed_fold T.plan family year members (take position (claims T J)) (opening T.balances) (summed_opening family year members T.balances openings) among
