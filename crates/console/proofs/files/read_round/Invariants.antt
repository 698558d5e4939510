use Rattle.std.proofs.Common.{◌≡◌, ◌+◌, ◌<◌, length, take, vec_len}
use Rattle.std.specs.Vec.Iter.{into_iter_items, into_iter_len}
use Rattle.console.specs.Reading.{AreReadUpTo, names_of, texts_in}
use Rattle.console.proofs.Rounds.{AreResultsFrom}
use Rattle.console.proofs.files.read_round.Given as goal

-- the texts of the first names are read, and the results that are left are those of the names after them
abbrev pub invariant-results : goal.invariant-results
invariant-results g l =
    let whole = g.S.Sources.whole l.sources in
    let left = into_iter_items l.result-iterator in
    record {
      count : into_iter_len l.result-iterator ≡ length left;
      more : l.first < vec_len l.texts + length left;
      left : AreResultsFrom l.limit_bytes whole l.names (vec_len l.texts) left;
      read : AreReadUpTo l.limit_bytes whole (take (vec_len l.texts) (names_of l.names)) (texts_in l.texts.items);
    }
