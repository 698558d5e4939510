use Rattle.std.proofs.Common.{arith}
use Rattle.std.proofs.lemmas.Grind.{common_steps}
use Rattle.journal.specs.LastByKey.{last_of_key}
use Rattle.journal.proofs.FamilyYears.{found_alike, put_back}
use Rattle.journal.proofs.last_claim_index.LastClaimIndex.insert_member.Goals as goal

pub returns-in-Err-clause-refused : goal.returns-in-Err-clause-refused
returns-in-Err-clause-refused c =
    let own = put_back (last_of_key c.args.self.now.accounts) (last_of_key c.put.new.self) (last_of_key c.set.new.self) c.args.key c.in_ok-own.own c.args.position c.in_ok-own.ensures.before c.in_ok-own.ensures.found c.set.ensures in
    found_alike c.args.self.now (record { accounts = c.set.new.self; family_years = c.put-2.new.self }) own c.in-Err.ensures.refused

pub returns-in-Some-clause-following : goal.returns-in-Some-clause-following
returns-in-Some-clause-following c = grind (arith, common_steps)

pub returns-in-None-clause-family_years : goal.returns-in-None-clause-family_years
returns-in-None-clause-family_years c = grind (arith, common_steps)
