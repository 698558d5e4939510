use Rattle.journal.proofs.FamilyYears.{after_family, family_reported}
use Rattle.journal.proofs.last_claim_index.LastClaimIndex.insert_family.Goals as goal

pub returns-clause-following : goal.returns-clause-following
returns-clause-following c =
    after_family c.args.self.now c.args.key c.in_ok-own.own c.replace_existing.result c.or-family_year.result c.requires.same c.in_ok-own.ensures.before c.replace_existing.ensures.before c.or-family_year.ensures

pub returns-clause-family_years : goal.returns-clause-family_years
returns-clause-family_years c =
    family_reported c.args.self.now (record { accounts = c.put.new.self; family_years = c.replace_existing.new.self }) c.args.key c.args.position c.in_ok-own.ensures.found c.requires.same c.replace_existing.ensures.found
