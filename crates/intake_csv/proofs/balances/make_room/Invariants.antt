use Rattle.std.proofs.Common.{◌≡◌, ◌+◌, length}
use Rattle.intake_csv.specs.Balances.{AreOnce, Holder, books_of, found_in}
use Rattle.intake_csv.proofs.balances.make_room.Given as goal

-- one empty map is appended for each step of the loop
abbrev pub invariant-loop : goal.invariant-loop
invariant-loop l = record {
  count : length l.years.items ≡ length l.initial.years.items + l.counter;
  same : (holder : Holder) → found_in (books_of l.years.items) holder ≡ found_in (books_of l.initial.years.items) holder;
  once : AreOnce (books_of l.initial.years.items) → AreOnce (books_of l.years.items);
}
