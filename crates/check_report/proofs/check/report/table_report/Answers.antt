use Rattle.std.proofs.Common.{◌∙◌}
use Rattle.check_report.proofs.ReportLines.{gaps_reported, wide_reported}
use Rattle.check_report.proofs.check.report.table_report.Goals as goal

pub returns : goal.returns
returns c = record {
  overlaps = c.in_ok-overlaps.ensures;
  wide = c.reports_wide.ensures;
  gaps = gaps_reported c.args.findings c.args.plan.now c.args.table c.as_slice.result.now c.in_ok-check.check.gaps c.reported_gaps-gaps.result.items c.in_ok-columns.columns (c.as_slice.ensures ∙ (rw c.number.ensures.number at c.in_ok-check.ensures.columns)) (rw c.number.ensures.number at c.in_ok-check.ensures.gaps) c.reported_gaps-gaps.ensures (rw c.as_slice-2.ensures.value at c.in_ok-columns.ensures);
}

pub reports_wide-requires-clause-wide : goal.reports_wide-requires-clause-wide
reports_wide-requires-clause-wide c = wide_reported c.args.plan.now c.args.table c.in_ok-check.check.gaps c.is_none-is_wide.result c.is_none-is_wide.ensures (rw c.number.ensures.number at c.in_ok-check.ensures.gaps)
