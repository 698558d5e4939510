use Rattle.std.proofs.Common.{[], refl, sym, subst, ◌∙◌, map}
use Rattle.std.proofs.lemmas.Map.Iter.{rest_all, rest_more}
use Rattle.std.specs.Map.Iter.{deref_pair}
use Rattle.csv.specs.Writing.{default_writer}
use Rattle.intake_csv.specs.Columns.{balance_columns}
use Rattle.run_lists.specs.Entries.{entries_of, entry_of_key}
use Rattle.run_lists.specs.ClosingText.{AreWritable, closing_text}
use Rattle.run_lists.proofs.Rendering.{none-rendered, rendered-all, rendered-header, rendered-next, writable-all, writable-next}
use Rattle.run_lists.proofs.closing.text.text_of.Goals as goal

pub loop-account-init : goal.loop-account-init
loop-account-init c =
    let held = c.args.closing.now.accounts.entries in
    let left = c.into_iter-account-iterator.ensures.into_iter_gives ∙ c.iter-account-items.ensures.rest in
    let none = none-rendered c.from_writer-writer.result c.new.result c.from_writer-writer.ensures.wtr c.new.ensures.items c.from_writer-writer.ensures.empty c.from_writer-writer.ensures.cfg
    c.from_writer-writer.ensures.fields c.from_writer-writer.ensures.wrote in
    let header = map (λ n. n.name) (balance_columns c.args.version) in
    record {
      so_far =
          rendered-header c.args.version c.end_record.new.line header held c.into_iter-account-iterator.result (closing_text c.args.version (entries_of c.args.closing.now))
          (c.in_ok-end_record.ensures default_writer [] header (c.in_ok-push_header.ensures default_writer [] [] none)) left refl;
      writable = subst (λ es. AreWritable c.args.version (map entry_of_key es) → AreWritable c.args.version (entries_of c.args.closing.now)) (sym left) (λ all. all);
    }

pub loop-account-preserved : goal.loop-account-preserved
loop-account-preserved c =
    let held = deref_pair c.in-Some.account in
    let step = rest_more deref_pair c.loop-account.account-iterator c.next.new.self c.next.result c.in-Some.account c.in-Some.is c.next.ensures.steps in
    record {
      so_far =
          rendered-next c.args.version c.loop-account.writer c.push_entry.new.line c.end_record-in-loop-account.new.line c.loop-account.account-iterator c.next.new.self held
          (closing_text c.args.version (entries_of c.args.closing.now)) c.loop-account.invariant.so_far step c.in_ok-push_entry.ensures.fields c.in_ok-end_record-2.ensures;
      writable = writable-next c.args.version c.loop-account.account-iterator c.next.new.self held (AreWritable c.args.version (entries_of c.args.closing.now)) step c.in_ok-push_entry.ensures.writable c.loop-account.invariant.writable;
    }

pub returns-in-Ok-clause-text : goal.returns-in-Ok-clause-text
returns-in-Ok-clause-text c =
    rendered-all c.args.version c.loop-account.writer c.loop-account.account-iterator (closing_text c.args.version (entries_of c.args.closing.now)) c.in-Ok.text.items c.loop-account.invariant.so_far
    (rest_all deref_pair c.loop-account.account-iterator c.next.new.self c.next.result c.in-None.is c.next.ensures.steps) c.in-Ok.ensures.ok

pub returns-in-Ok-clause-writable : goal.returns-in-Ok-clause-writable
returns-in-Ok-clause-writable c =
    writable-all c.args.version c.loop-account.account-iterator (AreWritable c.args.version (entries_of c.args.closing.now))
    (rest_all deref_pair c.loop-account.account-iterator c.next.new.self c.next.result c.in-None.is c.next.ensures.steps) c.loop-account.invariant.writable
