use Rattle.std.proofs.Common.{string_bytes}
use Rattle.intake_csv.proofs.FamilyYears.{inserted, joined, joined-family_year}
use Rattle.intake_csv.proofs.family_year.FamilyYear.join.Goals.{in-Ok, in-Err}
use Rattle.intake_csv.proofs.family_year.FamilyYear.join.Goals as goal

pub invariant_of-self : goal.invariant_of-self
invariant_of-self c =
    let old = c.self.inside in
    let inserts = inserted c.args.member c.args.balance old.others c.insert.new.self c.in-Ok.ensures.entries c.insert.ensures.ordered c.in-Ok.ensures.updates in
    joined-family_year (string_bytes old.first) old.balance old.others c.insert.new.self c.args.member c.args.balance (rw (← c.self.view_is) at c.requires) inserts old.met old.oop c.in-Some.met c.in-Some-plus.oop
    c.self.invariant c.in-Some.ensures.sum.1 c.in-Some-plus.ensures.sum.1

pub returns-clause-joined : goal.returns-clause-joined
returns-clause-joined c = elim c.match-insert.branch [
  | in-Ok w ↦
      let old = c.self.inside in
      let inserts = inserted c.args.member c.args.balance old.others c.insert.new.self w.in-Ok.ensures.entries c.insert.ensures.ordered w.in-Ok.ensures.updates in
      let has = joined (string_bytes old.first) old.balance old.others c.insert.new.self c.args.member c.args.balance (rw (← c.self.view_is) at c.requires) inserts in
      rw (w.result-is, w.self-is, ← c.self.view_is) has
  | in-Err w ↦ rw w.result-is tt
]

pub returns-clause-once : goal.returns-clause-once
returns-clause-once c = elim c.match-insert.branch [
  | in-Ok w ↦
      let old = c.self.inside in
      let inserts = inserted c.args.member c.args.balance old.others c.insert.new.self w.in-Ok.ensures.entries c.insert.ensures.ordered w.in-Ok.ensures.updates in
      let after = joined-family_year (string_bytes old.first) old.balance old.others c.insert.new.self c.args.member c.args.balance (rw (← c.self.view_is) at c.requires) inserts old.met old.oop c.in-Some.met
      c.in-Some-plus.oop c.self.invariant c.in-Some.ensures.sum.1 c.in-Some-plus.ensures.sum.1 in
      rw w.self-is after.once
  | in-Err w ↦ rw (w.self-is, w.in-Err.ensures.err) c.self.invariant.once
]

pub invariant_of-self-in-Err : goal.invariant_of-self-in-Err
invariant_of-self-in-Err c = rw c.in-Err.ensures.err c.self.invariant
