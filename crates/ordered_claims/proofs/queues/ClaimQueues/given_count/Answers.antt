use Rattle.std.proofs.Common.{◌-◌, arith}
use Rattle.std.proofs.lemmas.Option.{slice_get_read}
use Rattle.ordered_claims.proofs.Keeping.{number_read}
use Rattle.ordered_claims.proofs.queues.ClaimQueues.given_count.Goals as goal

pub returns : goal.returns
returns c =
    let files = c.self.inside.files in
    let most = rw (← c.self.view_is) at c.requires.most in
    let read = c.index.result.now in
    rw (← c.self.view_is)
    (number_read files.items c.args.provider read c.requires.least
    (slice_get_read files.items files.len (c.args.provider - 1) read files.ok.0 (omega (arith, c.requires.least, most, c.self.invariant.as_many, files.ok.0)) c.index.ensures))
