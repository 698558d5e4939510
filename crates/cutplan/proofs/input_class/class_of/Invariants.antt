use Rattle.cutplan.proofs.ClassNumbers.{IsInputClassOf}
use Rattle.cutplan.proofs.input_class.class_of.Given as goal

abbrev pub invariant-loop-name : goal.invariant-loop-name
invariant-loop-name l = IsInputClassOf l.plan l.given l.name-index l.input_class
