use Rattle.adjudicate.proofs.Steps.{accepts_one, has_offered}
use Rattle.adjudicate.proofs.audit.serial.offer_next.Goals as goal

pub returns-in-Ok : goal.returns-in-Ok
returns-in-Ok c =
    let old = c.args.gate.now in
    let new = c.offer.new.self in
    let on = c.in-Ok.ensures in (
      has_offered old new c.requires.idle on.leads on.lawful c.args.offer.provider c.args.offer.place _ on.reply,
      accepts_one old new c.requires.idle on.leads on.lawful c.args.offer.provider c.args.offer.place _ on.reply,
    )
