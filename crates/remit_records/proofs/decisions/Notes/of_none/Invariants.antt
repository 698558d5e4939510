use Rattle.std.proofs.Common.{◌≡◌, ◌<◌, ℕ, [], get_or, length}
use Rattle.std.specs.Global.{Vec}
use Rattle.remit_records.proofs.decisions.Notes.of_none.Given as goal

-- there is one empty list for each round
abbrev pub invariant-loop : goal.invariant-loop
invariant-loop l = record {
  count : length l.positions.items ≡ l.counter;
  each : (i : ℕ) (d : Vec ℕ) → i < l.counter → (get_or l.positions.items i d).items ≡ [];
}
