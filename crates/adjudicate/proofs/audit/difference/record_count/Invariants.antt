use Rattle.std.proofs.Common.{◌≡◌, ◌≤◌, take}
use Rattle.std.specs.Prelude.{count_by}
use Rattle.journal.specs.Lawful.{numbers_below}
use Rattle.adjudicate.specs.RecordEnds.{ends_at, is_quoted_after}
use Rattle.adjudicate.proofs.audit.difference.record_count.Given as goal

-- the ends so far are counted
abbrev pub invariant-loop-place : goal.invariant-loop-place
invariant-loop-place l =
    (l.is_quoted ≡ is_quoted_after (take l.place l.text)) × (l.count ≡ count_by (ends_at l.text) (numbers_below l.place)) × (l.count ≤ l.place)
