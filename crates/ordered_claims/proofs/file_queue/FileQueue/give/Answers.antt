use Rattle.std.proofs.Common.{◌≡◌, ◌∷◌, refl}
use Rattle.ordered_claims.proofs.Queueing.{gave}
use Rattle.ordered_claims.proofs.file_queue.FileQueue.give.Goals as goal

pub returns : goal.returns
returns c =
    let begins : c.args.self.now.claims.items ≡ c.in-Some.claim ∷ c.pop_front.new.self.items = rw c.in-Some.is at c.pop_front.ensures.items in
    gave c.args.self.now _ c.in-Some.claim begins refl refl
