use Rattle.std.proofs.Common.{◌≡◌, Some, refl, rules}
use Rattle.std.specs.List.{slice_get}
use Rattle.settlement.specs.Accounts.{account_in, family_of}
use Rattle.journal.proofs.Growing.{grows_on, key_alone, key_apart}
use Rattle.journal.proofs.lanes.key_of.Goals as goal

pub returns-then-eq-clause-key : goal.returns-then-eq-clause-key
returns-then-eq-clause-key c = search (rules, grows_on, key_alone, key_apart)

pub returns-then-eq-clause-grows : goal.returns-then-eq-clause-grows
returns-then-eq-clause-grows c = c.in_ok-lane.ensures.grows

pub returns-then-eq-clause-distinct : goal.returns-then-eq-clause-distinct
returns-then-eq-clause-distinct c = c.in_ok-lane.ensures.distinct

pub returns-in_err-number-clause-grows : goal.returns-in_err-number-clause-grows
returns-in_err-number-clause-grows c = grows_on c.args.names.now c.number.new.self c.number-2.new.self c.in_ok-lane.ensures.grows c.in_err-number.ensures.grows

pub returns-in_err-number-clause-distinct : goal.returns-in_err-number-clause-distinct
returns-in_err-number-clause-distinct c = c.in_err-number.ensures.distinct

pub returns-clause-key : goal.returns-clause-key
returns-clause-key c =
    let claim = c.args.claim.now in
    let family : slice_get c.number.new.self c.in_ok-lane.lane ≡ Some (family_of claim) = search rules in
    let member : slice_get c.number-2.new.self c.in_ok-number.number ≡ Some claim.member = c.in_ok-number.ensures.number in
    let account = account_in c.args.year claim in
    key_apart c.number.new.self c.number-2.new.self c.in_ok-lane.lane c.in_ok-number.number c.args.year account family c.in_ok-number.ensures.grows member refl

pub returns-clause-grows : goal.returns-clause-grows
returns-clause-grows c = grows_on c.args.names.now c.number.new.self c.number-2.new.self c.in_ok-lane.ensures.grows c.in_ok-number.ensures.grows

pub returns-clause-distinct : goal.returns-clause-distinct
returns-clause-distinct c = c.in_ok-number.ensures.distinct
