use Rattle.std.proofs.Common.{subst, sym}
use Rattle.std.specs.Option.{IfSome}
use Rattle.cutplan.specs.InputClasses.{AreCompiledNames, IsInputClass}
use Rattle.cutplan.proofs.ClassNumbers.{alike_in}
use Rattle.cutplan.proofs.cut_plan.CutPlanInputClasses.input_class.Goals as goal

pub class_of-requires : goal.class_of-requires
class_of-requires c = subst (AreCompiledNames c.self.inside.plan.now) (sym c.as_slice.ensures) c.self.invariant.names

pub returns-clause-inside : goal.returns-clause-inside
returns-clause-inside c = subst (λ p. IfSome c.class_of.result (IsInputClass p c.args.inputs.now)) c.self.view_is c.class_of.ensures

pub returns-clause-alike : goal.returns-clause-alike
returns-clause-alike c = alike_in c.self.inside.plan.now c.args.self.now c.args.inputs.now c.class_of.result c.classes_answer_alike.ensures c.self.view_is c.self.invariant.within c.class_of.ensures
