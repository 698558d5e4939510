use Rattle.std.proofs.Common.{◌≡◌, ℕ, ◌++◌, ◌∷◌, [], List, length, sym, subst, ◌∙◌, arith}
use Rattle.std.proofs.lemmas.Result.{on_ok_weaker}
use Rattle.plan_checks.specs.Leaving.{Begins, BeginsBelow, IsLeft}
use Rattle.plan_zones.specs.Runs.{gives_in, meets_in}
use Rattle.plan_zones.specs.Zones.{class_of}
use Rattle.plan_checks.proofs.Leaving.{left_all, left_more, left_regions, left_zone, no_names}
use Rattle.plan_checks.proofs.dead.Zones.+leave.Goals as goal

pub loop-region-init : goal.loop-region-init
loop-region-init m c = (
  left_all (λ zone. gives_in (class_of c.args.self.now.regions.now zone) c.args.self.now.tables.now) (BeginsBelow c.args.first.now c.in-Some.more.now 0) c.args.left.now.rules (λ zone b. (let low = b.1 in omega (arith, low))),
  left_all (λ zone. meets_in (class_of c.args.self.now.regions.now zone) c.args.self.now.tables.now) (BeginsBelow c.args.first.now c.in-Some.more.now 0) c.args.left.now.tests (λ zone b. (let low = b.1 in omega (arith, low))),
)

pub loop-region-preserved : goal.loop-region-preserved
loop-region-preserved m c =
    let gives = λ (zone : List ℕ). gives_in (class_of c.args.self.now.regions.now zone) c.args.self.now.tables.now in
    let meets = λ (zone : List ℕ). meets_in (class_of c.args.self.now.regions.now zone) c.args.self.now.tables.now in
    let first = c.args.first.now in
    let more = c.in-Some.more.now in
    let region = c.loop-region.region in
    let is : c.as_slice.result.now ≡ first ++ region ∷ [] = c.as_slice.ensures ∙ c.in_ok-next-in-Some.ensures in (
      left_more gives first more region c.args.left.now.rules c.loop-region.left.rules _ c.loop-region.invariant.0
          (subst (λ front. IsLeft gives (Begins front more) c.loop-region.left.rules c.leave.new.left.rules) is c.in_ok-leave-in-Some.ensures.rules),
      left_more meets first more region c.args.left.now.tests c.loop-region.left.tests _ c.loop-region.invariant.1
          (subst (λ front. IsLeft meets (Begins front more) c.loop-region.left.tests c.leave.new.left.tests) is c.in_ok-leave-in-Some.ensures.tests),
    )

pub returns-after-loop-region-clause-rules : goal.returns-after-loop-region-clause-rules
returns-after-loop-region-clause-rules m c =
    let gives = λ (zone : List ℕ). gives_in (class_of c.args.self.now.regions.now zone) c.args.self.now.tables.now in
    let first = c.args.first.now in
    let choices = c.in-Some.choices.now in
    let more = c.in-Some.more.now in
    let old = c.args.left.now.rules in
    let new = c.loop-region.left.rules in
    let last = c.loop-region-test.false in
    let within = c.loop-region.auto.region-end in
    let count = c.len-region-end.ensures in
    let end : c.loop-region.region ≡ length choices = omega (arith, last, within, count) in
    subst (λ rs. IsLeft gives (Begins first rs) old new) (sym c.in-Some.ensures.cases.0)
    (left_regions gives first choices more old new (subst (λ n. IsLeft gives (BeginsBelow first more n) old new) end c.loop-region.invariant.0))

pub returns-after-loop-region-clause-tests : goal.returns-after-loop-region-clause-tests
returns-after-loop-region-clause-tests m c =
    let meets = λ (zone : List ℕ). meets_in (class_of c.args.self.now.regions.now zone) c.args.self.now.tables.now in
    let first = c.args.first.now in
    let choices = c.in-Some.choices.now in
    let more = c.in-Some.more.now in
    let old = c.args.left.now.tests in
    let new = c.loop-region.left.tests in
    let last = c.loop-region-test.false in
    let within = c.loop-region.auto.region-end in
    let count = c.len-region-end.ensures in
    let end : c.loop-region.region ≡ length choices = omega (arith, last, within, count) in
    subst (λ rs. IsLeft meets (Begins first rs) old new) (sym c.in-Some.ensures.cases.0)
    (left_regions meets first choices more old new (subst (λ n. IsLeft meets (BeginsBelow first more n) old new) end c.loop-region.invariant.1))

pub returns-in-None-clause-rules : goal.returns-in-None-clause-rules
returns-in-None-clause-rules m c =
    let gives = λ (zone : List ℕ). gives_in (class_of c.args.self.now.regions.now zone) c.args.self.now.tables.now in
    let first = c.args.first.now in
    let none : c.args.more.now ≡ [] = no_names c.args.more.now (omega (arith, c.in-None.ensures.cases)) in
    on_ok_weaker c.leave_zone.result
    (λ is. subst (λ rs. IsLeft gives (Begins first rs) c.args.left.now.rules c.leave_zone.new.left.rules) (sym none) (left_zone gives first c.args.left.now.rules c.leave_zone.new.left.rules is))
    c.leave_zone.ensures.rules

pub returns-in-None-clause-tests : goal.returns-in-None-clause-tests
returns-in-None-clause-tests m c =
    let meets = λ (zone : List ℕ). meets_in (class_of c.args.self.now.regions.now zone) c.args.self.now.tables.now in
    let first = c.args.first.now in
    let none : c.args.more.now ≡ [] = no_names c.args.more.now (omega (arith, c.in-None.ensures.cases)) in
    on_ok_weaker c.leave_zone.result
    (λ is. subst (λ rs. IsLeft meets (Begins first rs) c.args.left.now.tests c.leave_zone.new.left.tests) (sym none) (left_zone meets first c.args.left.now.tests c.leave_zone.new.left.tests is))
    c.leave_zone.ensures.tests
