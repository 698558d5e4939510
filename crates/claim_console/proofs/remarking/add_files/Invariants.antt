use Rattle.std.proofs.Common.{◌≡◌, false, take}
use Rattle.std.specs.List.{All}
use Rattle.remarks.specs.Quotes.{EndsInQuotes}
use Rattle.claim_console.proofs.remarking.add_files.Given as goal

-- if no records may be lost, the files before the index are closed
abbrev pub invariant-loop-place : goal.invariant-loop-place
invariant-loop-place l = (l.remarks.may_lose_records ≡ false → All (λ file. ¬ EndsInQuotes file.items) (take l.place l.files))
    × (l.remarks.may_lose_records ≡ false → l.initial.remarks.may_lose_records ≡ false)
