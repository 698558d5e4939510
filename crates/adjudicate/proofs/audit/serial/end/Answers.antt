use Rattle.adjudicate.proofs.Steps.{already_past, closed_past, end_accepts_none, ended_past, idle_ended, idle_same, same_accepts_none}
use Rattle.adjudicate.proofs.audit.serial.end.Goals as goal

pub returns-in-Ok-clause-idle : goal.returns-in-Ok-clause-idle
returns-in-Ok-clause-idle c =
    let on = c.in-Ok.ensures in
    idle_ended c.args.gate.now c.end.new.self c.requires.idle on.leads on.lawful c.args.provider c.args.count on.reply

pub returns-in-Ok-clause-none : goal.returns-in-Ok-clause-none
returns-in-Ok-clause-none c =
    let on = c.in-Ok.ensures in
    end_accepts_none c.args.gate.now c.end.new.self c.requires.idle on.leads on.lawful c.args.provider c.args.count on.reply

pub returns-in-Ok-clause-past : goal.returns-in-Ok-clause-past
returns-in-Ok-clause-past c =
    let on = c.in-Ok.ensures in
    ended_past c.args.gate.now c.end.new.self c.requires.idle on.leads on.lawful c.args.provider c.args.count on.reply

pub returns-in-Err-AlreadyEnded-clause-idle : goal.returns-in-Err-AlreadyEnded-clause-idle
returns-in-Err-AlreadyEnded-clause-idle c = idle_same c.args.gate.now c.end.new.self c.requires.idle c.in-Err-AlreadyEnded.ensures.refused

pub returns-in-Err-AlreadyEnded-clause-none : goal.returns-in-Err-AlreadyEnded-clause-none
returns-in-Err-AlreadyEnded-clause-none c = same_accepts_none c.args.gate.now c.end.new.self c.requires.idle c.in-Err-AlreadyEnded.ensures.refused

pub returns-in-Err-AlreadyEnded-clause-past : goal.returns-in-Err-AlreadyEnded-clause-past
returns-in-Err-AlreadyEnded-clause-past c =
    let on = c.in-Err-AlreadyEnded.ensures in
    already_past c.args.gate.now c.end.new.self c.requires.idle c.args.provider c.args.count on.refused (rw c.in-Err-AlreadyEnded.field-0-is at on.reply)

pub returns-in-Err-Closed-clause-idle : goal.returns-in-Err-Closed-clause-idle
returns-in-Err-Closed-clause-idle c = idle_same c.args.gate.now c.end.new.self c.requires.idle c.in-Err-Closed.ensures.refused

pub returns-in-Err-Closed-clause-none : goal.returns-in-Err-Closed-clause-none
returns-in-Err-Closed-clause-none c = same_accepts_none c.args.gate.now c.end.new.self c.requires.idle c.in-Err-Closed.ensures.refused

pub returns-in-Err-Closed-clause-past : goal.returns-in-Err-Closed-clause-past
returns-in-Err-Closed-clause-past c =
    let on = c.in-Err-Closed.ensures in
    closed_past c.args.gate.now c.end.new.self c.requires.idle c.args.provider c.args.count on.refused (rw c.in-Err-Closed.field-0-is at on.reply)
