use Rattle.std.proofs.Common.{ℕ, List, length, ◌≤◌, sym, subst}
use Rattle.settlement.proofs.claim.Claim.duplicate.Goals as goal

pub new-requires-2 : goal.new-requires-2
new-requires-2 c = subst (λ (bytes : List ℕ). length bytes ≤ 256) (sym c.as_str-2.ensures.value) c.as_str-2.ensures.fits
