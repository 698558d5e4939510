use Rattle.std.specs.Str.{bytes_eq}
use Rattle.dtable.specs.PlanFile.{hit_word}
use Rattle.dtable.proofs.HitWords.{all_hits}
use Rattle.tables.proofs.Searches.{FailsBefore}
use Rattle.dtable.proofs.reading.table_list.hit_of.Given as goal

-- no hit policy so far has the word
abbrev pub invariant-loop-hit : goal.invariant-loop-hit
invariant-loop-hit l = FailsBefore (λ h. bytes_eq (hit_word h) l.word) all_hits l.hit-index
