use Rattle.std.proofs.Common.{◌≡◌, ◌+◌, ◌<◌, ℕ, slice_index_or, vec_len}
use Rattle.console.proofs.files.open_from.Given as goal

-- the texts from the first place on are open
abbrev pub invariant-names : goal.invariant-names
invariant-names g l =
    let whole = g.S.Sources.whole l.sources in
    record {
      count : l.first + vec_len l.opened ≡ l.place;
      opened : (k : ℕ) (d e : _) → k < vec_len l.opened
          → g.S.Source.Read.remaining (slice_index_or l.opened.items k d) ≡ whole (slice_index_or l.names (l.first + k) e).now;
    }
