use Rattle.std.proofs.Common.{◌≡◌, ℕ, ◌<◌, false, take}
use Rattle.adjudicate.specs.RecordEnds.{ends_at, is_quoted_after}
use Rattle.adjudicate.proofs.audit.difference.first_record.Given as goal

-- no record ends so far
abbrev pub invariant-loop-place : goal.invariant-loop-place
invariant-loop-place l = (l.is_quoted ≡ is_quoted_after (take l.place l.text)) × ((k : ℕ) → k < l.place → ends_at l.text k ≡ false)
