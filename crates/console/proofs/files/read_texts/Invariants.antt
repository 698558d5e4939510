use Rattle.std.proofs.Common.{◌-◌, ◌≤◌, length, take, vec_len}
use Rattle.console.specs.Reading.{AreReadUpTo, names_of, texts_in}
use Rattle.console.proofs.files.read_texts.Given as goal

-- the texts of the first names are read
abbrev pub invariant-rounds : goal.invariant-rounds
invariant-rounds g l = record {
  within : vec_len l.texts ≤ length l.names;
  read : AreReadUpTo l.limit_bytes (g.S.Sources.whole l.sources) (take (vec_len l.texts) (names_of l.names)) (texts_in l.texts.items);
}

abbrev pub decreases-rounds : goal.decreases-rounds
decreases-rounds g l = length l.names - vec_len l.texts
