use Rattle.std.proofs.Common.{take}
use Rattle.claim_gate.specs.Terms.{AreFilesOf, texts_of}
use Rattle.claim_gate.proofs.terms.validate_files.Given as goal

-- the files before this place are validated
abbrev pub invariant-loop-place : goal.invariant-loop-place
invariant-loop-place l = AreFilesOf l.plan.names (take l.place (texts_of l.files)) l.validated
