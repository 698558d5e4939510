use Rattle.std.proofs.Common.{◌≡◌, List, take}
use Rattle.std.specs.List.{AllZip}
use Rattle.intake_csv.specs.Rows.{AreRowsOf}
use Rattle.intake_csv.specs.declared.rows.Row.{Row}
use Rattle.explanation.specs.Finding.{found_in, places_of}
use Rattle.explanation.proofs.finding.find_over.Given as goal

-- the files before this index are searched
abbrev pub invariant-loop-index : goal.invariant-loop-index
invariant-loop-index l = (files : List (List Row)) → AllZip (AreRowsOf l.terms.plan.names) l.terms.files files → l.found ≡ found_in (places_of l.id 1 (take l.index files))
