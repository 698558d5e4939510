use Rattle.std.proofs.Common.{inl}
use Rattle.intake_csv.specs.Balances.{entry_of}
use Rattle.intake_csv.proofs.Entries.{refuses-entry, takes-entry, reported-within}
use Rattle.intake_csv.proofs.balances.Balances.read.Goals as goal

pub fault_of-requires-clause-there : goal.fault_of-requires-clause-there
fault_of-requires-clause-there c = reported-within c.args.version c.args.layout.now.columns c.in-Err-judge.refusal c.requires.balances

pub returns-in-Err-judge-clause-refused : goal.returns-in-Err-judge-clause-refused
returns-in-Err-judge-clause-refused c =
    let read = rw c.in-Ok-Ok.field-0-is at c.in-Ok-Ok.ensures.entry in
    refuses-entry c.args.version c.args.layout.now c.args.row.now (entry_of c.in-Ok-Ok.entry) c.in-Err-judge.refusal c.args.self.now c.fault_of.result read c.in-Err-judge.ensures.refused c.fault_of.ensures

pub returns-clause-entry : goal.returns-clause-entry
returns-clause-entry c =
    let read = rw c.in-Ok-Ok.field-0-is at c.in-Ok-Ok.ensures.entry in
    takes-entry c.args.version c.args.layout.now c.args.row.now (entry_of c.in-Ok-Ok.entry) c.args.self.now c.put.new.self read c.in-Ok.ensures.free c.in_ok-put.ensures

pub fault_of-requires-clause-within : goal.fault_of-requires-clause-within
fault_of-requires-clause-within c = c.requires.within

pub returns-in-Ok-Err-clause-refused : goal.returns-in-Ok-Err-clause-refused
returns-in-Ok-Err-clause-refused c = λ front holds. inl (rw c.in-Ok-Err.field-0-is at c.in-Ok-Err.ensures.fault)
