use Rattle.std.proofs.Common.{◌≡◌, List, map, take}
use Rattle.csv.specs.Records.{fields_of}
use Rattle.plan_rows.specs.declared.judging.Judgement.{Judgement}
use Rattle.plan_rows.specs.Report.{AreJudged, counts_of}
use Rattle.plan_rows.proofs.report.judge_rows.Given as goal

-- the judgements of the rows so far, and their texts
abbrev pub invariant-loop-index : goal.invariant-loop-index
invariant-loop-index l =
    (judgements : List Judgement) × AreJudged 1 l.plan l.columns (map fields_of (take l.index l.rows)) judgements l.text.items
    × (l.counts ≡ counts_of judgements)
