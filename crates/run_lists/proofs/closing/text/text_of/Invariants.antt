use Rattle.std.proofs.Common.{map}
use Rattle.run_lists.specs.Entries.{entries_of, entry_of_key}
use Rattle.run_lists.specs.ClosingText.{AreWritable, closing_text}
use Rattle.run_lists.proofs.Rendering.{RenderedSoFar}
use Rattle.run_lists.proofs.closing.text.text_of.Given as goal

-- the records so far are rendered, and their entries are valid
abbrev pub invariant-loop-account : goal.invariant-loop-account
invariant-loop-account l = record {
  so_far : RenderedSoFar l.version l.writer l.account-iterator (closing_text l.version (entries_of l.closing));
  writable : AreWritable l.version (map entry_of_key l.account-iterator) → AreWritable l.version (entries_of l.closing);
}
