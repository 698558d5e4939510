use Rattle.std.proofs.Common.{◌≡◌, Err, None, Ok, ap, arith, length, ◌∙◌}
use Rattle.std.proofs.lemmas.Grind.{common_steps}
use Rattle.std.proofs.lemmas.List.{length-map}
use Rattle.std.proofs.lemmas.Result.{err_from_is_err_and}
use Rattle.remit_records.specs.RecordWriter.{at}
use Rattle.remit_records.proofs.Reporting.{ends-device, ends-memory, ends-ok, ends-refused, ends-written, files-refused, files-same, finished-alike, front-alike, header-refused, none-written, refused-alike, total-refused, written-alike}
use Rattle.remit.proofs.report.write_by.Goals as goal

pub returns-in_default-clause-refused : goal.returns-in_default-clause-refused
returns-in_default-clause-refused g c = none-written c.args.terms.now c.args.batch.now.journal _

pub returns-in_err-write_header-clause-refused : goal.returns-in_err-write_header-clause-refused
returns-in_err-write_header-clause-refused g c =
    let p = err_from_is_err_and c.from_residual.result c.from_residual.ensures.1 in
    rw (p.1, p.2)
    (header-refused c.args.terms.now c.args.batch.now.journal (at _ _ c.new-report.result.writer) (at _ _ c.write_header.new.self.writer) c.in_err-write_header.field-0.0
    c.new-report.ensures.unused c.in_err-write_header.ensures.writes)

pub write_files-requires-clause-all : goal.write_files-requires-clause-all
write_files-requires-clause-all g c =
    let size = length-map c.files-files.result.now (λ f. f.now) in
    let long = ap length c.files-files.ensures.files in
    omega (arith, size, long)

pub returns-in_err-write_files-clause-refused : goal.returns-in_err-write_files-clause-refused
returns-in_err-write_files-clause-refused g c =
    let p = err_from_is_err_and c.from_residual-in_err-write_files.result c.from_residual-in_err-write_files.ensures.1 in
    let made = c.new-report.ensures in
    let kept = ap (λ d. d.now) c.in_ok-write_header.ensures.decisions ∙ made.decisions in
    let size = length-map c.files-files.result.now (λ f. f.now) in
    let long = ap length c.files-files.ensures.files in
    let as_many : length c.files-files.result.now ≡ length c.args.terms.now.files = omega (arith, size, long) in
    let J = c.args.batch.now.journal in
    let K = c.journal-journal.result.now in
    let alike : K ≡ J = c.journal-journal.ensures.journal in
    let finished = finished-alike c.args.terms.now c.args.batch.now.terms J K c.requires.same_terms c.journal-journal.ensures.finished alike in
    rw (p.1, p.2)
    (front-alike c.args.terms.now J K _ _ _ alike
    (files-refused c.args.terms.now K (length c.files-files.result.now) c.in-Ok.decisions (at _ _ c.new-report.result.writer) (at _ _ c.write_header.new.self.writer)
    (at _ _ c.write_files.new.report.writer) c.in_err-write_files.field-0.0 finished c.in-Ok.ensures as_many made.unused c.in_ok-write_header.ensures.writes
    (files-same c.in-Ok.decisions c.write_header.new.self.decisions.now c.args.terms.now.plan.names c.args.terms.now.files
    (at _ _ c.write_header.new.self.writer) (at _ _ c.write_files.new.report.writer) (Err c.in_err-write_files.field-0.0) kept c.in_err-write_files.ensures.writes)))

pub returns-in_err-write_total-clause-refused : goal.returns-in_err-write_total-clause-refused
returns-in_err-write_total-clause-refused g c =
    let p = err_from_is_err_and c.from_residual-in_err-write_total.result c.from_residual-in_err-write_total.ensures.1 in
    let made = c.new-report.ensures in
    let kept = ap (λ d. d.now) c.in_ok-write_header.ensures.decisions ∙ made.decisions in
    let size = length-map c.files-files.result.now (λ f. f.now) in
    let long = ap length c.files-files.ensures.files in
    let as_many : length c.files-files.result.now ≡ length c.args.terms.now.files = omega (arith, size, long) in
    let J = c.args.batch.now.journal in
    let K = c.journal-journal.result.now in
    let alike : K ≡ J = c.journal-journal.ensures.journal in
    let finished = finished-alike c.args.terms.now c.args.batch.now.terms J K c.requires.same_terms c.journal-journal.ensures.finished alike in
    rw (p.1, p.2)
    (front-alike c.args.terms.now J K _ _ _ alike
    (total-refused c.args.terms.now K (length c.files-files.result.now) c.in-Ok.decisions (at _ _ c.new-report.result.writer) (at _ _ c.write_header.new.self.writer)
    (at _ _ c.write_files.new.report.writer) (at _ _ c.write_total.new.self.writer) c.in_err-write_total.field-0.0 finished c.in-Ok.ensures as_many
    made.unused c.in_ok-write_header.ensures.writes
    (files-same c.in-Ok.decisions c.write_header.new.self.decisions.now c.args.terms.now.plan.names c.args.terms.now.files
    (at _ _ c.write_header.new.self.writer) (at _ _ c.write_files.new.report.writer) (Ok tt) kept c.in_ok-write_files.ensures.writes) c.in_err-write_total.ensures))

pub returns-clause-written : goal.returns-clause-written
returns-clause-written g c =
    let made = c.new-report.ensures in
    let kept = ap (λ d. d.now) c.in_ok-write_header.ensures.decisions ∙ made.decisions in
    let size = length-map c.files-files.result.now (λ f. f.now) in
    let long = ap length c.files-files.ensures.files in
    let as_many : length c.files-files.result.now ≡ length c.args.terms.now.files = omega (arith, size, long) in
    let J = c.args.batch.now.journal in
    let K = c.journal-journal.result.now in
    let alike : K ≡ J = c.journal-journal.ensures.journal in
    let finished = finished-alike c.args.terms.now c.args.batch.now.terms J K c.requires.same_terms c.journal-journal.ensures.finished alike in
    written-alike c.args.terms.now J K _ _ c.finish.result alike
    (ends-written c.args.terms.now K (length c.files-files.result.now) c.in-Ok.decisions (at _ _ c.new-report.result.writer) (at _ _ c.write_header.new.self.writer)
    (at _ _ c.write_files.new.report.writer) (at _ _ c.write_total.new.self.writer) (at _ _ c.finish.new.self.writer) c.finish.result finished c.in-Ok.ensures as_many
    made.unused c.in_ok-write_header.ensures.writes
    (files-same c.in-Ok.decisions c.write_header.new.self.decisions.now c.args.terms.now.plan.names c.args.terms.now.files
    (at _ _ c.write_header.new.self.writer) (at _ _ c.write_files.new.report.writer) (Ok tt) kept c.in_ok-write_files.ensures.writes) c.in_ok-write_total.ensures c.finish.ensures.writes
    c.finish.ensures.all)

pub returns-clause-refused : goal.returns-clause-refused
returns-clause-refused g c =
    let made = c.new-report.ensures in
    let kept = ap (λ d. d.now) c.in_ok-write_header.ensures.decisions ∙ made.decisions in
    let size = length-map c.files-files.result.now (λ f. f.now) in
    let long = ap length c.files-files.ensures.files in
    let as_many : length c.files-files.result.now ≡ length c.args.terms.now.files = omega (arith, size, long) in
    let J = c.args.batch.now.journal in
    let K = c.journal-journal.result.now in
    let alike : K ≡ J = c.journal-journal.ensures.journal in
    let finished = finished-alike c.args.terms.now c.args.batch.now.terms J K c.requires.same_terms c.journal-journal.ensures.finished alike in
    refused-alike c.args.terms.now J K _ _ c.finish.result alike
    (ends-refused c.args.terms.now K (length c.files-files.result.now) c.in-Ok.decisions (at _ _ c.new-report.result.writer) (at _ _ c.write_header.new.self.writer)
    (at _ _ c.write_files.new.report.writer) (at _ _ c.write_total.new.self.writer) (at _ _ c.finish.new.self.writer) c.finish.result finished c.in-Ok.ensures as_many
    made.unused c.in_ok-write_header.ensures.writes
    (files-same c.in-Ok.decisions c.write_header.new.self.decisions.now c.args.terms.now.plan.names c.args.terms.now.files
    (at _ _ c.write_header.new.self.writer) (at _ _ c.write_files.new.report.writer) (Ok tt) kept c.in_ok-write_files.ensures.writes) c.in_ok-write_total.ensures c.finish.ensures.writes)

pub returns-clause-device : goal.returns-clause-device
returns-clause-device g c = ends-device (at _ _ c.write_total.new.self.writer) (at _ _ c.finish.new.self.writer) c.finish.result c.finish.ensures.writes

pub returns-clause-memory : goal.returns-clause-memory
returns-clause-memory g c =
    let before = c.in_ok-write_total.ensures.1 ∙ c.in_ok-write_files.ensures.writes.2.1 ∙ c.in_ok-write_header.ensures.writes.1 in
    ends-memory (at None _ c.new-report.result.writer) (at _ _ c.write_total.new.self.writer) (at _ _ c.finish.new.self.writer) c.finish.result before
    c.finish.ensures.writes

pub returns-clause-ok_failed : goal.returns-clause-ok_failed
returns-clause-ok_failed g c =
    let before = c.in_ok-write_total.ensures.1 ∙ c.in_ok-write_files.ensures.writes.2.1 ∙ c.in_ok-write_header.ensures.writes.1 in
    ends-ok (at None _ c.new-report.result.writer) (at _ _ c.write_total.new.self.writer) (at _ _ c.finish.new.self.writer) c.finish.result before
    c.finish.ensures.writes

pub write_files-requires-clause-least : goal.write_files-requires-clause-least
write_files-requires-clause-least g c = grind (arith, common_steps)

pub returns-in_default-clause-memory : goal.returns-in_default-clause-memory
returns-in_default-clause-memory c = grind (arith, common_steps)

pub write_total-requires : goal.write_total-requires
write_total-requires c = grind (arith, common_steps)

pub returns-in_default-clause-device : goal.returns-in_default-clause-device
returns-in_default-clause-device c = grind (arith, common_steps)
