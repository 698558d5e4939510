use Rattle.std.proofs.Common.{◌≡◌, map, take}
use Rattle.check_report.specs.CheckReport.{marked_region}
use Rattle.check_report.proofs.check.report.region_texts.Given as goal

abbrev pub invariant-loop-region : goal.invariant-loop-region
invariant-loop-region l = l.texts ≡ map (marked_region l.mark) (take l.region-index l.regions)
