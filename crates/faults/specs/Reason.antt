-- The reasons why a claim is pended.
use Rattle.std.specs.Prelude.{Option, Some, None}
use Rattle.faults.specs.declared.fault.Fault.{Fault}
use Rattle.faults.specs.declared.fault.Fault.TheVariants as faults
use Rattle.faults.specs.declared.reason.Reason.{Reason}
use Rattle.faults.specs.declared.reason.Reason.TheVariants.{Outside, NoRule, Clash, Range}

-- the reason for which a fault of the tables pends a claim; a lack of memory does not pend it
abbrev pub reason_of : Fault → Option Reason
reason_of (faults.Outside table column) = Some (Outside table column)
reason_of (faults.NoRule table) = Some (NoRule table)
reason_of (faults.Clash table) = Some (Clash table)
reason_of (faults.Range table) = Some (Range table)
reason_of faults.OutOfMemory = None
