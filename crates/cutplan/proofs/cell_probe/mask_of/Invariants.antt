use Rattle.std.proofs.Common.{◌≡◌, ℕ, ◌<◌, length}
use Rattle.std.specs.Prelude.{◌&&◌, nat_lt}
use Rattle.cutplan.specs.Masks.{has_rule}
use Rattle.cutplan.specs.CheckSteps.{holds_among}
use Rattle.cutplan.proofs.cell_probe.mask_of.Given as goal

abbrev pub invariant-rules : goal.invariant-rules
invariant-rules l =
    (l.asked ≡ l.fn.asked) × (length l.mask ≡ 4)
    × ((place : ℕ) → place < 256 → has_rule l.mask place ≡ (nat_lt place l.place && holds_among l.fn.asked l.region place))
