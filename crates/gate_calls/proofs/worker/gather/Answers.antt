use Rattle.std.proofs.Common.{inl, inr, ◌≡◌, ◌∙◌, ◌++◌, ◌∷◌, [], length, ap, refl, rules, arith, length-append}
use Rattle.std.proofs.lemmas.Grind.{common_steps}
use Rattle.std.proofs.lemmas.List.Elements.{All-push, All-same}
use Rattle.gate_calls.specs.Sharing.{IsInWork}
use Rattle.gate_calls.proofs.HeldClaims.{all_in_work_stay}
use Rattle.gate_calls.proofs.Passes.{further, leaves_for_memory, leaves_later, unchanged}
use Rattle.gate_calls.proofs.worker.gather.Goals as goal

pub returns-in-NothingReady-clause-gathered : goal.returns-in-NothingReady-clause-gathered
returns-in-NothingReady-clause-gathered g c =
    let before = (g.G.Gate.known c.calls.pass).seen in
    let after = (g.G.Gate.known c.in-Ok.onward.pass).seen in record {
      in_work = all_in_work_stay c.jobs_are_stable.ensures before after c.calls.jobs.items c.in-Ok.ensures.goes_on.seen c.calls.invariant.2;
      whole = inr (rw c.in-NothingReady.is at c.in-Ok.ensures.task);
    }

pub calls-preserved : goal.calls-preserved
calls-preserved g c =
    let before = (g.G.Gate.known c.calls.pass).seen in
    let after = (g.G.Gate.known c.in-Ok.onward.pass).seen in
    let P = IsInWork after in
    let on = c.in-Ok.ensures in
    let here = rw c.in-Work.is at on.task in
    let items : c.push.new.self.items ≡ c.calls.jobs.items ++ c.in-Work.job ∷ [] = search rules in
    let size = ap length items ∙ length-append c.calls.jobs.items (c.in-Work.job ∷ []) in (
      further (g.G.Gate.has_pass c.args.shared.now.gate.now) g.G.Gate.known c.args.pass c.calls.pass c.in-Ok.onward.pass c.calls.invariant.0 on.goes_on,
      on.goes_on.seen.terms ∙ c.calls.invariant.1,
      All-same P c.push.new.self.items (c.calls.jobs.items ++ c.in-Work.job ∷ []) items
          (All-push P c.calls.jobs.items c.in-Work.job (all_in_work_stay c.jobs_are_stable.ensures before after c.calls.jobs.items on.goes_on.seen c.calls.invariant.2) here),
      omega (arith, size, c.calls.invariant.3),
    )

pub returns-in-Err-clause-leaves : goal.returns-in-Err-clause-leaves
returns-in-Err-clause-leaves g c =
    leaves_later (g.G.Gate.has_pass c.args.shared.now.gate.now) g.G.Gate.known g.G.Gate.is_worn c.args.pass c.calls.pass c.in-Err.exit c.calls.invariant.0 c.in-Err.ensures.leaves

pub returns-in-Over-clause-goes_on : goal.returns-in-Over-clause-goes_on
returns-in-Over-clause-goes_on g c =
    further (g.G.Gate.has_pass c.args.shared.now.gate.now) g.G.Gate.known c.args.pass c.calls.pass c.in-Ok.onward.pass c.calls.invariant.0 c.in-Ok.ensures.goes_on

pub returns-in-Over-clause-gathered : goal.returns-in-Over-clause-gathered
returns-in-Over-clause-gathered g c = rw c.in-Over.is at c.in-Ok.ensures.task

pub returns-in-NothingReady-clause-goes_on : goal.returns-in-NothingReady-clause-goes_on
returns-in-NothingReady-clause-goes_on g c =
    further (g.G.Gate.has_pass c.args.shared.now.gate.now) g.G.Gate.known c.args.pass c.calls.pass c.in-Ok.onward.pass c.calls.invariant.0 c.in-Ok.ensures.goes_on

pub returns-in_default-clause-leaves : goal.returns-in_default-clause-leaves
returns-in_default-clause-leaves g c =
    let own = g.G.Gate.has_pass c.args.shared.now.gate.now in
    let known = g.G.Gate.known in
    leaves_for_memory own known g.G.Gate.is_worn c.args.pass c.in-Ok.onward.pass (further own known c.args.pass c.calls.pass c.in-Ok.onward.pass c.calls.invariant.0 c.in-Ok.ensures.goes_on)

pub returns-clause-goes_on : goal.returns-clause-goes_on
returns-clause-goes_on g c = c.calls.invariant.0

pub returns-clause-gathered : goal.returns-clause-gathered
returns-clause-gathered g c = record { in_work = c.calls.invariant.2; whole = inl (search rules) }

pub calls-init : goal.calls-init
calls-init g c = (
  unchanged (g.G.Gate.has_pass c.args.shared.now.gate.now) g.G.Gate.known c.args.pass c.args.pass c.requires.own refl,
  c.requires.terms,
  All-same (IsInWork (g.G.Gate.known c.args.pass).seen) c.args.jobs.items [] c.requires.none (λ k d within. absurd (omega (arith, within))),
  ap length c.requires.none,
)

pub returns-in-Err-clause-goes_on : goal.returns-in-Err-clause-goes_on
returns-in-Err-clause-goes_on c = grind (arith, common_steps)

pub returns-in_default-clause-gathered : goal.returns-in_default-clause-gathered
returns-in_default-clause-gathered c = grind (arith, common_steps)

pub returns-in-Over-clause-leaves : goal.returns-in-Over-clause-leaves
returns-in-Over-clause-leaves c = grind (arith, common_steps)

pub returns-in_default-clause-goes_on : goal.returns-in_default-clause-goes_on
returns-in_default-clause-goes_on c = grind (arith, common_steps)

pub take-requires-clause-own : goal.take-requires-clause-own
take-requires-clause-own c = grind (arith, common_steps)

pub returns-in-Err-clause-gathered : goal.returns-in-Err-clause-gathered
returns-in-Err-clause-gathered c = grind (arith, common_steps)

pub returns-in-NothingReady-clause-leaves : goal.returns-in-NothingReady-clause-leaves
returns-in-NothingReady-clause-leaves c = grind (arith, common_steps)

pub take-requires-clause-terms : goal.take-requires-clause-terms
take-requires-clause-terms c = grind (arith, common_steps)
