-- The rows of a section, and the writing of two sections in sequence.
use Rattle.std.proofs.Common.{◌≡◌, ◌≤◌, ◌-◌, ℕ, zero, suc, Bool, Option, Some, None, Result, Ok, Err, List, [], ◌∷◌, ◌++◌, append_assoc, drop, get_or, take, take-append-drop, option_map, ap, ap₂, sym, subst, ◌∙◌, refl, arith}
use Rattle.std.proofs.Math.Seq.{take-nil}
use Rattle.tables.specs.declared.table.InputData.{InputData}
use Rattle.intake_csv.specs.Laws.{LieApart, StartHasTheRows}
use Rattle.intake_csv.specs.Rows.{AreRowsLeft, AreRowsOf, IsAtStart, RowsLeft}
use Rattle.intake_csv.specs.declared.rows.Row.{Row}
use Rattle.remit_records.specs.Records.{Deciding}
use Rattle.remit_records.specs.RecordWriter.{At, IsNoMemory, Writes, at}
use Rattle.remit_records.specs.Rows.{Begin, IsRead, IsWithin, Skips, WritesFile, WritesLeft, rows_text, up_to}
use Rattle.remit.specs.Sections.{AreCut, WritesBetween, WritesSection}
use Rattle.remit.specs.declared.sections.Section.{Section}
use Rattle.faults.specs.declared.write_fault.WriteFault.{WriteFault}
use Rattle.remit_records.specs.declared.record_writer.RecordWriter.{RecordWriter}
use Rattle.remit_records.proofs.Holding.{no-memory, writes-then}
use Rattle.remit_records.proofs.Passing.{rows-append}

-- the last elements of the first `end` ones, after the first `start` ones
drop-of-take : (start end : ℕ) (rows : List Row) → take (end - start) (drop start rows) ≡ drop start (take end rows)
drop-of-take zero end rows = let all : end - 0 ≡ end = omega arith in ap (λ n. take n rows) all
drop-of-take (suc start) zero rows = let none : 0 - suc start ≡ 0 = omega arith in ap (λ n. take n (drop (suc start) rows)) none
drop-of-take (suc start) (suc end) [] = take-nil (suc end - suc start)
drop-of-take (suc start) (suc end) (row ∷ rows) =
    let less : suc end - suc start ≡ end - start = omega arith in
    ap (λ n. take n (drop start rows)) less ∙ drop-of-take start end rows

-- what remains up to the limit is what lies between the bounds
between : (start : ℕ) (end : Option ℕ) (rest all : List Row) → rest ≡ drop start all → up_to (option_map (λ n. n - start) end) rest ≡ drop start (up_to end all)
between start None rest all is = is
between start (Some end) rest all is = ap (take (end - start)) is ∙ drop-of-take start end all

-- the rows of a text are those that a reader has passed over, and then those that remain
record After (given : List Row) (now : RowsLeft) (start : ℕ) (all : List Row) : Type 0 where
  pub rest : List Row
  pub rest_left : AreRowsLeft now rest
  pub all_is : all ≡ given ++ rest
  pub rest_is : rest ≡ drop start all

after : StartHasTheRows → (names : List InputData) (text : List ℕ) (begin now : RowsLeft) (start : ℕ) → LieApart begin.layout.columns → IsAtStart names text begin
    → (skips : Skips begin now start) → (all : List Row) → AreRowsOf names text all → After skips.given now start all
after begins names text begin now start apart at_start skips all are =
    let behind = skips.passed.only apart all (begins names text begin all at_start are) in
    record {
      rest = behind.rest;
      rest_left = behind.rest_left;
      all_is = behind.rows_are;
      rest_is = skips.counted behind.rest behind.rest_left ∙ ap (drop start) (sym behind.rows_are);
    }

-- the writing of what remains of a reader that has passed over rows is the writing of the rows after them
pub of-skipped : StartHasTheRows → (decided : Deciding) (provider : ℕ) (names : List InputData) (text : List ℕ) (begin now : RowsLeft) (start : ℕ) (end : Option ℕ)
    (old new : At) (result : Result (Unit {0}) WriteFault) → LieApart begin.layout.columns → IsAtStart names text begin
    → ((all : List Row) → AreRowsLeft begin all → AreRowsOf names text all) → Skips begin now start
    → WritesLeft decided provider (option_map (λ n. n - start) end) now old new result → WritesBetween decided provider names text start end old new result
of-skipped begins decided provider names text begin now start None old new (Ok done) apart at_start of_text skips writes =
    let apart_now = subst (λ l. LieApart l.columns) (sym skips.passed.layout) apart in
    let left = writes.1.are_rows in
    let all = skips.given ++ writes.0 in
    let read : IsRead names text all =
    record {
      are_rows = of_text all (skips.passed.forward writes.0 left);
      only = λ others are.
          let rest = after begins names text begin now start apart at_start skips others are in
          rest.all_is ∙ ap (λ rows. skips.given ++ rows) (writes.1.only apart_now rest.rest rest.rest_left);
    } in
    (writes.0, (all, read, skips.counted writes.0 left), writes.2)
of-skipped begins decided provider names text begin now start (Some end) old new (Ok done) apart at_start of_text skips writes =
    let apart_now = subst (λ l. LieApart l.columns) (sym skips.passed.layout) apart in (
      writes.0,
      (λ all are.
          let rest = after begins names text begin now start apart at_start skips all are in
          sym (writes.1 apart_now rest.rest rest.rest_left) ∙ between start (Some end) rest.rest all rest.rest_is),
      writes.2,
    )
of-skipped begins decided provider names text begin now start end old new (Err fault) apart at_start of_text skips writes =
    let apart_now = subst (λ l. LieApart l.columns) (sym skips.passed.layout) apart in (
      writes.0,
      (λ all are.
          let rest = after begins names text begin now start apart at_start skips all are in
          subst (Begin writes.0) (between start end rest.rest all rest.rest_is) (writes.1 apart_now rest.rest rest.rest_left)),
      writes.2,
    )

-- memory runs out for a section
pub section-no-memory : (decided : Deciding) (provider : ℕ) (names : List InputData) (text : List ℕ) (start : ℕ) (end : Option ℕ) (contents : Option (List ℕ)) (failed : Bool)
    (writer : RecordWriter) (fault : WriteFault) → IsNoMemory writer fault
    → WritesBetween decided provider names text start end (at contents failed writer) (at contents failed writer) (Err fault)
section-no-memory decided provider names text start end contents failed writer fault none =
    ([], (λ all are. record { rest = drop start (up_to end all); whole_is = refl }), no-memory contents failed writer writer [] fault none)

-- the section of a whole file is written
pub whole-written : (decided : Deciding) (provider : ℕ) (names : List InputData) (text : List ℕ) (old new : At) (result : Result (Unit {0}) WriteFault)
    → WritesBetween decided provider names text 0 None old new result → WritesFile decided provider names text old new result
whole-written decided provider names text old new (Ok done) writes = (writes.0, subst (IsRead names text) (sym writes.1.2) writes.1.1, writes.2)
whole-written decided provider names text old new (Err fault) writes = writes

-- the first elements of the first ones
take-of-take : (cut end : ℕ) (rows : List Row) → cut ≤ end → take cut (take end rows) ≡ take cut rows
take-of-take zero end rows within = refl
take-of-take (suc cut) zero rows within = absurd (omega (arith, within))
take-of-take (suc cut) (suc end) [] within = refl
take-of-take (suc cut) (suc end) (row ∷ rows) within = ap (λ rs. row ∷ rs) (take-of-take cut end rows (omega (arith, within)))

-- the rows up to the end are those before the cut, and then those after it
joined : (cut : ℕ) (end : Option ℕ) (all : List Row) → IsWithin cut end → take cut all ++ drop cut (up_to end all) ≡ up_to end all
joined cut None all within = take-append-drop cut all
joined cut (Some end) all within = ap (λ rows. rows ++ drop cut (take end all)) (sym (take-of-take cut end all within)) ∙ take-append-drop cut (take end all)

-- rows are written, and then more rows are, or the writing ends within them
both-written : (decided : Deciding) (provider : ℕ) (a b c : At) (front back : List Row) (result : Result (Unit {0}) WriteFault)
    → Writes a b (rows_text decided provider front) (Ok tt) → Writes b c (rows_text decided provider back) result
    → Writes a c (rows_text decided provider (front ++ back)) result
both-written decided provider a b c front back result before then =
    subst (λ text. Writes a c text result) (sym (rows-append decided provider front back))
    (writes-then a b c (rows_text decided provider front) (rows_text decided provider back) tt result before then)

-- the rows before the cut are written, and then those after it are, or the writing ends within them
pub back-written : (decided : Deciding) (provider : ℕ) (names : List InputData) (text : List ℕ) (cut : ℕ) (end : Option ℕ) (a b c : At)
    (result : Result (Unit {0}) WriteFault) → IsWithin cut end → WritesBetween decided provider names text 0 (Some cut) a b (Ok tt)
    → WritesBetween decided provider names text cut end b c result → WritesBetween decided provider names text 0 end a c result
back-written decided provider names text cut None a b c (Ok done) within front back = (
  front.0 ++ back.0,
  (back.1.0, back.1.1, ap₂ (λ xs ys. xs ++ ys) (front.1 back.1.0 back.1.1.are_rows) back.1.2 ∙ joined cut None back.1.0 within),
  both-written decided provider a b c front.0 back.0 (Ok done) front.2 back.2,
)
back-written decided provider names text cut (Some end) a b c (Ok done) within front back = (
  front.0 ++ back.0,
  (λ all are. ap₂ (λ xs ys. xs ++ ys) (front.1 all are) (back.1 all are) ∙ joined cut (Some end) all within),
  both-written decided provider a b c front.0 back.0 (Ok done) front.2 back.2,
)
back-written decided provider names text cut end a b c (Err fault) within front back = (
  front.0 ++ back.0,
  (λ all are.
      let begin = back.1 all are in
      record {
        rest = begin.rest;
        whole_is = sym (joined cut end all within) ∙ ap₂ (λ xs ys. xs ++ ys) (sym (front.1 all are)) begin.whole_is ∙ sym (append_assoc front.0 back.0 begin.rest);
      }),
  both-written decided provider a b c front.0 back.0 (Err fault) front.2 back.2,
)

-- the writing ends before the cut
pub front-refused : (decided : Deciding) (provider : ℕ) (names : List InputData) (text : List ℕ) (cut : ℕ) (end : Option ℕ) (a b : At) (fault : WriteFault)
    → IsWithin cut end → WritesBetween decided provider names text 0 (Some cut) a b (Err fault) → WritesBetween decided provider names text 0 end a b (Err fault)
front-refused decided provider names text cut end a b fault within front = (
  front.0,
  (λ all are.
      let begin = front.1 all are in
      let others = drop cut (up_to end all) in
      record {
        rest = begin.rest ++ others;
        whole_is = sym (joined cut end all within) ∙ ap (λ rows. rows ++ others) begin.whole_is ∙ append_assoc front.0 begin.rest others;
      }),
  front.2,
)

-- the first part of a section at the start of a file is written, and then the second part is, or the writing ends within it
pub cut-written : (decided : Deciding) (section front back : Section) (names : List InputData) (files : List (List ℕ)) (a b c : At) (result : Result (Unit {0}) WriteFault)
    → section.start ≡ 0 → AreCut section front back → WritesSection decided front names (get_or files (front.provider - 1) []) a b (Ok tt)
    → WritesSection decided back names (get_or files (back.provider - 1) []) b c result
    → WritesSection decided section names (get_or files (section.provider - 1) []) a c result
cut-written decided section front back names files a b c result start cut before following =
    let text = get_or files (section.provider - 1) [] in
    let in_front : WritesBetween decided section.provider names text section.start (Some back.start) a b (Ok tt) =
    subst (λ s. WritesSection decided s names (get_or files (s.provider - 1) []) a b (Ok tt)) cut.front_is before in
    let in_back : WritesBetween decided section.provider names text back.start section.end b c result =
    subst (λ s. WritesSection decided s names (get_or files (s.provider - 1) []) b c result) cut.back_is following in
    subst (λ n. WritesBetween decided section.provider names text n section.end a c result) (sym start)
    (back-written decided section.provider names text back.start section.end a b c result cut.within
    (subst (λ n. WritesBetween decided section.provider names text n (Some back.start) a b (Ok tt)) start in_front) in_back)

-- the writing of a section ends within its first part
pub cut-refused : (decided : Deciding) (section front back : Section) (names : List InputData) (files : List (List ℕ)) (a b : At) (fault : WriteFault) → section.start ≡ 0
    → AreCut section front back → WritesSection decided front names (get_or files (front.provider - 1) []) a b (Err fault)
    → WritesSection decided section names (get_or files (section.provider - 1) []) a b (Err fault)
cut-refused decided section front back names files a b fault start cut before =
    let text = get_or files (section.provider - 1) [] in
    let in_front : WritesBetween decided section.provider names text section.start (Some back.start) a b (Err fault) =
    subst (λ s. WritesSection decided s names (get_or files (s.provider - 1) []) a b (Err fault)) cut.front_is before in
    subst (λ n. WritesBetween decided section.provider names text n section.end a b (Err fault)) (sym start)
    (front-refused decided section.provider names text back.start section.end a b fault cut.within
    (subst (λ n. WritesBetween decided section.provider names text n (Some back.start) a b (Err fault)) start in_front))
