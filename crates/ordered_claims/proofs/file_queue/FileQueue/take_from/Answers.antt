use Rattle.std.proofs.Common.{arith, refl}
use Rattle.std.proofs.lemmas.Grind.{common_steps}
use Rattle.ordered_claims.proofs.Queueing.{took_all, took_none}
use Rattle.ordered_claims.proofs.file_queue.FileQueue.take_from.Goals as goal

pub returns-clause-takes : goal.returns-clause-takes
returns-clause-takes c =
    took_all c.args.self.now _ c.args.reader.now _ c.requires.joined c.requires.placed c.in_ok-append.ensures.items c.in_ok-append.ensures.other_items refl refl
    (omega (arith, c.len-count.ensures, c.args.reader.now.ahead.ok.0)) refl refl

pub returns-in_err-append-clause-takes : goal.returns-in_err-append-clause-takes
returns-in_err-append-clause-takes c =
    took_none c.args.self.now _ c.args.reader.now _ c.requires.joined c.requires.fits c.in_err-append.ensures.items refl refl c.in_err-append.ensures.other_items refl refl refl

pub returns-clause-stocked : goal.returns-clause-stocked
returns-clause-stocked c = grind (arith, common_steps)
