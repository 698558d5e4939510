use Rattle.adjudicate.proofs.Steps.{decide_accepts_none, idle_again}
use Rattle.adjudicate.proofs.audit.serial.record.Goals as goal

pub returns-in-Ok-clause-idle : goal.returns-in-Ok-clause-idle
returns-in-Ok-clause-idle c =
    let on = c.in-Ok.ensures in
    idle_again c.args.gate.now c.finish.new.self c.args.job c.requires.taken c.args.decided on.lawful on.recorded

pub returns-in-Ok-clause-none : goal.returns-in-Ok-clause-none
returns-in-Ok-clause-none c =
    let on = c.in-Ok.ensures in
    decide_accepts_none c.args.gate.now c.finish.new.self c.args.job c.requires.taken c.args.decided on.lawful on.recorded
