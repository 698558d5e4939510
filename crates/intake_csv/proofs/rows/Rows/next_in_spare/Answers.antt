use Rattle.std.proofs.lemmas.Bool.{false≢true}
use Rattle.std.proofs.Common.{refl, ap, arith, ◌≡◌, ◌+◌, ◌∙◌, sym}
use Rattle.intake_csv.specs.Records.{is_failed, RecordsLeft}
use Rattle.intake_csv.proofs.AllRecords.{read-at, records-few}
use Rattle.intake_csv.proofs.Handing.{gives-row, left_of, rows-head}
use Rattle.intake_csv.specs.declared.rows.Row.TheVariants.{Good, Bad}
use Rattle.intake_csv.proofs.rows.Rows.next_in_spare.Goals as goal

pub overflow_add-self : goal.overflow_add-self
overflow_add-self c =
    let i = c.self.inside in
    let reads = rw c.in-Ok-true.field-0-test at c.in-Ok-true.ensures.reads in
    let at = read-at i.records c.read.new.records i.next c.read.new.self (c.self.invariant.4 (ap is_failed reads.2)) reads in
    omega (arith, at.0, records-few i.records.text, c.self.invariant.3)

pub overflow_add-self-in-Ok-Err : goal.overflow_add-self-in-Ok-Err
overflow_add-self-in-Ok-Err c =
    let i = c.self.inside in
    let reads = rw c.in-Ok-true.field-0-test at c.in-Ok-true.ensures.reads in
    let at = read-at i.records c.read.new.records i.next c.read.new.self (c.self.invariant.4 (ap is_failed reads.2)) reads in
    omega (arith, at.0, records-few i.records.text, c.self.invariant.3)

pub returns-in-Ok-Ok-clause-head : goal.returns-in-Ok-Ok-clause-head
returns-in-Ok-Ok-clause-head c =
    let i = c.self.inside in
    let reads = rw c.in-Ok-true.field-0-test at c.in-Ok-true.ensures.reads in
    let at = read-at i.records c.read.new.records i.next c.read.new.self (c.self.invariant.4 (ap is_failed reads.2)) reads in
    let has = rw c.in-Ok-Ok.field-0-is at c.in-Ok-Ok.ensures.claim in
    let row = Good i.next i.claims c.in-Ok-Ok.claim in
    let gives = gives-row i.layout i.next i.claims (i.claims + 1) i.records.text i.records.stage c.read.new.self row at.1 (refl, refl, has) refl reads.2 in
    rw (← c.self.view_is, at.2) (rows-head (left_of i.layout i.next i.claims i.records.text i.records.stage) (left_of i.layout (i.next + 1) (i.claims + 1) i.records.text i.records.stage) row gives)

pub returns-in-Ok-Err-clause-head : goal.returns-in-Ok-Err-clause-head
returns-in-Ok-Err-clause-head c =
    let i = c.self.inside in
    let reads = rw c.in-Ok-true.field-0-test at c.in-Ok-true.ensures.reads in
    let at = read-at i.records c.read.new.records i.next c.read.new.self (c.self.invariant.4 (ap is_failed reads.2)) reads in
    let has = rw c.in-Ok-Err.field-0-is at c.in-Ok-Err.ensures.fault in
    let row = Bad i.next c.in-Ok-Err.fault in
    let none : i.claims ≡ i.claims + 0 = omega arith in
    let gives = gives-row i.layout i.next i.claims i.claims i.records.text i.records.stage c.read.new.self row at.1 (refl, has) none reads.2 in
    rw (← c.self.view_is, at.2) (rows-head (left_of i.layout i.next i.claims i.records.text i.records.stage) (left_of i.layout (i.next + 1) i.claims i.records.text i.records.stage) row gives)

pub invariant_of-self-in-Ok-Ok : goal.invariant_of-self-in-Ok-Ok
invariant_of-self-in-Ok-Ok c =
    let i = c.self.inside in
    let reads = rw c.in-Ok-true.field-0-test at c.in-Ok-true.ensures.reads in
    let at = read-at i.records c.read.new.records i.next c.read.new.self (c.self.invariant.4 (ap is_failed reads.2)) reads in (
      c.self.invariant.0,
      c.self.invariant.1,
      omega (arith, c.self.invariant.2),
      rw at.2 c.self.invariant.3,
      λ well. ap (λ (r : RecordsLeft). r.given) reads.1 ∙ ap (λ n. n + 1) (c.self.invariant.4 (ap is_failed reads.2)),
    )

pub invariant_of-self-in-Ok-Err : goal.invariant_of-self-in-Ok-Err
invariant_of-self-in-Ok-Err c =
    let i = c.self.inside in
    let reads = rw c.in-Ok-true.field-0-test at c.in-Ok-true.ensures.reads in
    let at = read-at i.records c.read.new.records i.next c.read.new.self (c.self.invariant.4 (ap is_failed reads.2)) reads in (
      c.self.invariant.0,
      c.self.invariant.1,
      omega (arith, c.self.invariant.2),
      rw at.2 c.self.invariant.3,
      λ well. ap (λ (r : RecordsLeft). r.given) reads.1 ∙ ap (λ n. n + 1) (c.self.invariant.4 (ap is_failed reads.2)),
    )

pub read_claim-requires-clause-within : goal.read_claim-requires-clause-within
read_claim-requires-clause-within c = c.self.invariant.0

pub returns-in-Ok-Ok-clause-gives : goal.returns-in-Ok-Ok-clause-gives
returns-in-Ok-Ok-clause-gives c =
    let i = c.self.inside in
    let reads = rw c.in-Ok-true.field-0-test at c.in-Ok-true.ensures.reads in
    let at = read-at i.records c.read.new.records i.next c.read.new.self (c.self.invariant.4 (ap is_failed reads.2)) reads in
    let has = rw c.in-Ok-Ok.field-0-is at c.in-Ok-Ok.ensures.claim in
    let row = Good i.next i.claims c.in-Ok-Ok.claim in
    let stage : c.read.new.records.stage ≡ i.records.stage = ap (λ (r : RecordsLeft). r.stage) reads.1 in
    rw (← c.self.view_is, at.2, stage) (gives-row i.layout i.next i.claims (i.claims + 1) i.records.text i.records.stage c.read.new.self row at.1 (refl, refl, has) refl reads.2)

pub returns-in-Ok-Err-clause-gives : goal.returns-in-Ok-Err-clause-gives
returns-in-Ok-Err-clause-gives c =
    let i = c.self.inside in
    let reads = rw c.in-Ok-true.field-0-test at c.in-Ok-true.ensures.reads in
    let at = read-at i.records c.read.new.records i.next c.read.new.self (c.self.invariant.4 (ap is_failed reads.2)) reads in
    let has = rw c.in-Ok-Err.field-0-is at c.in-Ok-Err.ensures.fault in
    let row = Bad i.next c.in-Ok-Err.fault in
    let none : i.claims ≡ i.claims + 0 = omega arith in
    let stage : c.read.new.records.stage ≡ i.records.stage = ap (λ (r : RecordsLeft). r.stage) reads.1 in
    rw (← c.self.view_is, at.2, stage) (gives-row i.layout i.next i.claims i.claims i.records.text i.records.stage c.read.new.self row at.1 (refl, has) none reads.2)

pub invariant_of-self : goal.invariant_of-self
invariant_of-self c =
    let reads = rw c.in-Ok-false.field-0-test at c.in-Ok-false.ensures.reads in
    rw reads.1 (c.self.invariant.0, c.self.invariant.1, c.self.invariant.2, c.self.invariant.3, λ well. c.self.invariant.4 reads.2)

pub invariant_of-self-in-Err : goal.invariant_of-self-in-Err
invariant_of-self-in-Err c =
    rw c.in-Err.ensures.refused (c.self.invariant.0, c.self.invariant.1, c.self.invariant.2, c.self.invariant.3, λ well. absurd (false≢true (sym well)))

pub invariant_of-self-in-Err-read_claim : goal.invariant_of-self-in-Err-read_claim
invariant_of-self-in-Err-read_claim c =
    let i = c.self.inside in
    let reads = rw c.in-Ok-true.field-0-test at c.in-Ok-true.ensures.reads in
    let at = read-at i.records c.read.new.records i.next c.read.new.self (c.self.invariant.4 (ap is_failed reads.2)) reads in
    rw (c.fail.ensures, at.2) (c.self.invariant.0, c.self.invariant.1, c.self.invariant.2, c.self.invariant.3, λ well. absurd (false≢true (sym well)))
