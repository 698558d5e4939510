-- The remittance of a run, from the journal of its batch and the bytes that were written, also after an error.
use Rattle.std.proofs.Common.{◌≡◌, ◌≢◌, ◌↔◌, ℕ, Bool, List, [], ◌∷◌, map, Option, Some, None, Result, IfErr, IfSome, OnOk, inl, inr, refl, sym, subst}
use Rattle.std.proofs.KnownBytes.{Keeps-refl}
use Rattle.std.proofs.lemmas.Result.{on_ok_weaker, IfErr-weaker}
use Rattle.std.specs.Global.{Vec}
use Rattle.std.specs.List.{AllZip}
use Rattle.tables.specs.Plan.{PlanParts}
use Rattle.dtable.specs.PlanFile.{IsPlanText}
use Rattle.tables.specs.declared.table.InputData.{InputData}
use Rattle.faults.specs.declared.plan_fault.PlanCause.TheVariants as cause
use Rattle.faults.specs.declared.plan_fault.PlanFault.{PlanFault}
use Rattle.settlement.specs.declared.claim.Claim.{Claim}
use Rattle.intake_csv.specs.Balances.{accounts_of}
use Rattle.intake_csv.specs.Rows.{AreRowsOf, claims_among}
use Rattle.intake_csv.specs.declared.rows.Row.{Row}
use Rattle.journal.specs.declared.event.Event.{Event}
use Rattle.journal.specs.Terms.{Terms}
use Rattle.claim_gate.specs.TermsFault.{HasTermsFault}
use Rattle.claim_gate.specs.Terms.{AreClaimsOf, ForTerms, IsFinishedOver, IsTermsOf, TermsParts}
use Rattle.faults.specs.declared.terms_fault.TermsFault.{TermsFault}
use Rattle.faults.specs.declared.terms_fault.TermsFault.TheVariants as terms
use Rattle.crew.specs.Workers.{IsWorkerCount}
use Rattle.faults.specs.declared.run_fault.RunFault.{RunFault}
use Rattle.faults.specs.declared.run_fault.RunFault.TheVariants as run
use Rattle.run_lists.specs.ClosingText.{IsClosingText}
use Rattle.run_lists.specs.Notes.{AreNotes}
use Rattle.run_lists.specs.declared.notes.Note.{Note}
use Rattle.remit_records.specs.Counts.{AreRunCounts}
use Rattle.remit_records.specs.declared.counts.RunCounts.{RunCounts}
use Rattle.remit_records.specs.Report.{IsReport, report_records, text_of}
use Rattle.remit_records.specs.Writing.{WritesFront, WritesReport}
use Rattle.faults.specs.declared.write_fault.WriteFault.{WriteFault}
use Rattle.evaluation.specs.Stop.{WritesText}
use Rattle.evaluation.specs.declared.stop.ValueStop.TheVariants as value
use Rattle.orders.specs.declared.stop.Stop.{Stop}
use Rattle.orders.specs.declared.stop.Stop.TheVariants as stop
use Rattle.orders.specs.RunTexts.{AreTermsOfTexts, RunTexts}
use Rattle.orders.specs.Stop.{IsStopOfPlan, IsStopOfRun, IsStopOfTerms, IsStopOfWrite, failed_after}
use Rattle.claim_run.specs.RunText.{IsClosedRemittance, IsCountedRemittance, IsNotedRemittance, IsRemittance, IsRemittanceOf, WritesClosed, WritesCounted, WritesNoted, WritesRemittanceFront}
use Rattle.claim_run.specs.RunStop.{IsRunReason, StopsRemittance, WritesRemittanceUntil}

-- the claims of files are the claims among their rows
claims_of_rows : (names : List InputData) (texts : List (List ℕ)) (files : List (List Row)) → AllZip (AreRowsOf names) texts files
    → AllZip (AreClaimsOf names) texts (map claims_among files)
claims_of_rows names [] [] h = tt
claims_of_rows names [] (rows ∷ files) h = absurd h
claims_of_rows names (text ∷ texts) [] h = absurd h
claims_of_rows names (text ∷ texts) (rows ∷ files) h = (record { rows = rows; are_rows = h.0; claims_are = refl }, claims_of_rows names texts files h.1)

-- files of claims have rows
record RowsOf (names : List InputData) (texts : List (List ℕ)) : Type 0 where
  pub files : List (List Row)
  pub are_rows : AllZip (AreRowsOf names) texts files

rows_of_claims : (names : List InputData) (texts : List (List ℕ)) (files : List (List Claim)) → AllZip (AreClaimsOf names) texts files → RowsOf names texts
rows_of_claims names [] [] h = record { files = []; are_rows = tt }
rows_of_claims names [] (claims ∷ files) h = absurd h
rows_of_claims names (text ∷ texts) [] h = absurd h
rows_of_claims names (text ∷ texts) (claims ∷ files) h =
    let rest = rows_of_claims names texts files h.1 in
    record { files = h.0.rows ∷ rest.files; are_rows = (h.0.are_rows, rest.are_rows) }

module _ (parts : TermsParts) (J : List Event) (finished : IsFinishedOver parts J) (old new : Option (List ℕ)) where
  -- the report of a finished journal is a remittance of its terms
  remittance_of : (bytes : List ℕ) → IsReport parts J bytes → IsRemittanceOf parts bytes
  remittance_of bytes report =
      let T : Terms = record { plan = parts.plan; files = map claims_among report.files; balances = accounts_of parts.balances; cutoff = parts.cutoff } in
      let are : IsTermsOf parts T = record {
        plan = refl;
        files = claims_of_rows parts.plan.names parts.files report.files report.are_rows;
        openings = λ account. refl;
        cutoff = refl;
      } in
      record { terms = T; are_terms = are; journal = J; finished = finished T are; report = report }

  pub writes_remittance : WritesReport parts J old new → WritesText (IsRemittanceOf parts) old new
  writes_remittance w = record { text = w.bytes; is_text = remittance_of w.bytes w.is_report; appended = w.appended }

  -- if the terms of a journal exist, its report exists
  some_report : ¬ ForTerms parts (λ T. ⊥) → ¬ ((report : List ℕ) → ¬ IsReport parts J report)
  some_report seen none = seen (λ T are.
      let rows = rows_of_claims parts.plan.names parts.files T.files are.files in
      none (text_of (report_records parts.plan.version J rows.files)) (record { files = rows.files; are_rows = rows.are_rows; bytes_are = refl }))

  -- the first bytes of a report are the first bytes of a remittance
  writes_front : (written : ℕ) → ¬ ForTerms parts (λ T. ⊥) → WritesFront parts J written old new → WritesRemittanceFront parts old new written
  writes_front written seen w = record {
    journal = J;
    finished = finished;
    bytes = w.bytes;
    counted = w.counted;
    appended = w.appended;
    front = w.front;
    is_there = some_report seen;
  }

  -- a fault that ends the report ends the remittance
  pub stops_by_write : (workers : ℕ) (fault : WriteFault) (s : Stop) → ¬ ForTerms parts (λ T. ⊥)
      → WritesFront parts J fault.written old new → IsStopOfWrite fault s → StopsRemittance parts workers old new s
  stops_by_write workers fault (stop.Value (value.Write written)) seen w made = rw made.0 (writes_front fault.written seen w)
  stops_by_write workers fault (stop.Value value.NoMemory) seen w made = inr (fault.written, writes_front fault.written seen w)
  stops_by_write workers fault _ seen w made = absurd made

-- a fault of the run ends it before anything is written
pub stops_by_run : (parts : TermsParts) (workers : ℕ) (contents : Option (List ℕ)) (fault : RunFault) (s : Stop) → ((fault ≡ run.Workers) ↔ (¬ IsWorkerCount workers))
    → IsStopOfRun fault s → StopsRemittance parts workers contents contents s
stops_by_run parts workers contents fault (stop.Run same) refused made =
    let equal : fault ≡ same = sym made.0 in
    let P : RunFault → Type 0 = λ f. f ≢ run.OutOfMemory in
    let Q : RunFault → Type 0 = λ f. (f ≡ run.Workers) ↔ (¬ IsWorkerCount workers) in
    (record { reported = subst P equal made.1; refused = subst Q equal refused }, Keeps-refl contents)
stops_by_run parts workers contents fault (stop.Value value.NoMemory) refused made = inl (Keeps-refl contents)
stops_by_run parts workers contents fault _ refused made = absurd made

-- a plan's text that denotes no plan is a reason for the error
pub reason_of_plan : (texts : RunTexts) (workers : ℕ) (fault : PlanFault) (s : Stop)
    → (fault.cause ≢ cause.OutOfMemory → (plan : PlanParts) → ¬ IsPlanText texts.plan plan) → IsStopOfPlan fault s → IsRunReason texts workers s
reason_of_plan texts workers fault (stop.Value (value.Plan same)) none made =
    let P : PlanFault → Type 0 = λ f. f.cause ≢ cause.OutOfMemory in
    (subst P (sym made.0) made.1, none made.1)
reason_of_plan texts workers fault (stop.Value value.NoMemory) none made = tt
reason_of_plan texts workers fault _ none made = absurd made

-- texts that form no terms under the plan are a reason for the error
pub reason_of_terms : (texts : RunTexts) (workers : ℕ) (plan : PlanParts) (fault : TermsFault) (s : Stop) → IsPlanText texts.plan plan
    → HasTermsFault plan texts.files texts.balances fault → IsStopOfTerms fault s → IsRunReason texts workers s
reason_of_terms texts workers plan fault (stop.Terms same) spelled has made =
    let equal : fault ≡ same = sym made.0 in
    let P : TermsFault → Type 0 = λ f. HasTermsFault plan texts.files texts.balances f in
    let Q : TermsFault → Type 0 = λ f. f ≢ terms.OutOfMemory in
    (plan, spelled, (subst P equal has, subst Q equal made.1))
reason_of_terms texts workers plan fault (stop.Value value.NoMemory) spelled has made = tt
reason_of_terms texts workers plan fault _ spelled has made = absurd made

-- before a fault of the terms nothing is written
pub kept_by_terms : (texts : RunTexts) (contents : Option (List ℕ)) (fault : TermsFault) (s : Stop) → IsStopOfTerms fault s
    → WritesRemittanceUntil texts contents contents s
kept_by_terms texts contents fault (stop.Terms same) made = Keeps-refl contents
kept_by_terms texts contents fault (stop.Value value.NoMemory) made = inl (Keeps-refl contents)
kept_by_terms texts contents fault _ made = absurd made

-- a fault of the terms leaves the state of the writer unchanged
pub failed_by_terms : (failed : Bool) (fault : TermsFault) (s : Stop) → IsStopOfTerms fault s → failed ≡ failed_after failed s
failed_by_terms failed fault (stop.Terms same) made = refl
failed_by_terms failed fault (stop.Value value.NoMemory) made = refl
failed_by_terms failed fault _ made = absurd made

-- a fault of the run leaves the state of the writer unchanged
pub failed_by_run : (failed : Bool) (fault : RunFault) (s : Stop) → IsStopOfRun fault s → failed ≡ failed_after failed s
failed_by_run failed fault (stop.Run same) made = refl
failed_by_run failed fault (stop.Value value.NoMemory) made = refl
failed_by_run failed fault _ made = absurd made

-- before a fault of the plan nothing is written, and the state of the writer is unchanged
pub kept_by_plan : (texts : RunTexts) (contents : Option (List ℕ)) (fault : PlanFault) (s : Stop) → IsStopOfPlan fault s
    → WritesRemittanceUntil texts contents contents s
kept_by_plan texts contents fault (stop.Value (value.Plan same)) made = Keeps-refl contents
kept_by_plan texts contents fault (stop.Value value.NoMemory) made = inl (Keeps-refl contents)
kept_by_plan texts contents fault _ made = absurd made

pub failed_by_plan : (failed : Bool) (fault : PlanFault) (s : Stop) → IsStopOfPlan fault s → failed ≡ failed_after failed s
failed_by_plan failed fault (stop.Value (value.Plan same)) made = refl
failed_by_plan failed fault (stop.Value value.NoMemory) made = refl
failed_by_plan failed fault _ made = absurd made

-- the counts are those of the run whose report is written
pub counts_written : (parts : TermsParts) (J : List Event) → IsFinishedOver parts J → (old new : Option (List ℕ)) (counts : Option RunCounts) → WritesReport parts J old new
    → IfSome counts (AreRunCounts parts J) → IfSome counts (WritesCounted parts old new)
counts_written parts J finished old new None report counted = tt
counts_written parts J finished old new (Some counts) report counted = record { journal = J; finished = finished; report = report; counted = counted }

-- the same of the closing balances
pub closing_written : (parts : TermsParts) (J : List Event) → IsFinishedOver parts J → (old new : Option (List ℕ)) (closing : Option (Vec ℕ)) → WritesReport parts J old new
    → IfSome closing (λ text. IsClosingText parts J text.items) → IfSome closing (λ text. WritesClosed parts old new text.items)
closing_written parts J finished old new None report closed = tt
closing_written parts J finished old new (Some text) report closed = record { journal = J; finished = finished; report = report; closed = closed }

-- and of the notes
pub notes_written : (parts : TermsParts) (J : List Event) → IsFinishedOver parts J → (old new : Option (List ℕ)) (notes : Option (Vec Note)) → WritesReport parts J old new
    → IfSome notes (λ list. AreNotes parts J list.items) → IfSome notes (λ list. WritesNoted parts old new list.items)
notes_written parts J finished old new None report noted = tt
notes_written parts J finished old new (Some list) report noted = record { journal = J; finished = finished; report = report; noted = noted }

-- bytes that are written for the terms of the texts are written for the texts
module _ (texts : RunTexts) (parts : TermsParts) (over : AreTermsOfTexts texts parts) (old new : Option (List ℕ)) where
  pub whole_over : {X E : Type 0} (r : Result X E) → OnOk r (WritesText (IsRemittanceOf parts) old new) → OnOk r (WritesText (IsRemittance texts) old new)
  whole_over r h =
      on_ok_weaker r (λ w. record { text = w.text; is_text = record { parts = parts; over = over; is_remittance = w.is_text }; appended = w.appended }) h

  IfSome-over : (counts : Option RunCounts) → IfSome counts (WritesCounted parts old new) → IfSome counts (IsCountedRemittance texts old new)
  IfSome-over None h = tt
  IfSome-over (Some counts) h = record { parts = parts; over = over; writes = h }

  pub counted_over : {X E : Type 0} (counts : Option RunCounts) (r : Result X E) → OnOk r (IfSome counts (WritesCounted parts old new))
      → OnOk r (IfSome counts (IsCountedRemittance texts old new))
  counted_over counts r h = on_ok_weaker r (IfSome-over counts) h

  closing-over : (closing : Option (Vec ℕ)) → IfSome closing (λ text. WritesClosed parts old new text.items) → IfSome closing (λ text. IsClosedRemittance texts old new text.items)
  closing-over None h = tt
  closing-over (Some text) h = record { parts = parts; over = over; writes = h }

  pub closed_over : {X E : Type 0} (closing : Option (Vec ℕ)) (r : Result X E) → OnOk r (IfSome closing (λ text. WritesClosed parts old new text.items))
      → OnOk r (IfSome closing (λ text. IsClosedRemittance texts old new text.items))
  closed_over closing r h = on_ok_weaker r (closing-over closing) h

  notes-over : (notes : Option (Vec Note)) → IfSome notes (λ list. WritesNoted parts old new list.items) → IfSome notes (λ list. IsNotedRemittance texts old new list.items)
  notes-over None h = tt
  notes-over (Some list) h = record { parts = parts; over = over; writes = h }

  pub noted_over : {X E : Type 0} (notes : Option (Vec Note)) (r : Result X E) → OnOk r (IfSome notes (λ list. WritesNoted parts old new list.items))
      → OnOk r (IfSome notes (λ list. IsNotedRemittance texts old new list.items))
  noted_over notes r h = on_ok_weaker r (notes-over notes) h

  front_over : (workers : ℕ) (s : Stop) → StopsRemittance parts workers old new s → WritesRemittanceUntil texts old new s
  front_over workers (stop.Run fault) h = h.1
  front_over workers (stop.Value (value.Write written)) h = record { parts = parts; over = over; writes = h }
  front_over workers (stop.Value value.NoMemory) (inl kept) = inl kept
  front_over workers (stop.Value value.NoMemory) (inr (written, h)) = inr (written, record { parts = parts; over = over; writes = h })
  front_over workers _ h = absurd h

  pub stopped_over : {X : Type 0} (workers : ℕ) (r : Result X Stop) → IfErr r (StopsRemittance parts workers old new) → IfErr r (WritesRemittanceUntil texts old new)
  stopped_over workers r h = IfErr-weaker r _ _ (front_over workers) h

  -- the remittance ends with a fault of the run, or with an error that can occur for any texts
  reason_over : (workers : ℕ) (s : Stop) → StopsRemittance parts workers old new s → IsRunReason texts workers s
  reason_over workers (stop.Run fault) h = (over.plan, over.spelled, record { parts = parts; are_terms = over.are_terms; refuses = h.0 })
  reason_over workers (stop.Value (value.Write written)) h = tt
  reason_over workers (stop.Value value.NoMemory) h = tt
  reason_over workers _ h = absurd h

  pub reasons_over : {X : Type 0} (workers : ℕ) (r : Result X Stop) → IfErr r (StopsRemittance parts workers old new) → IfErr r (IsRunReason texts workers)
  reasons_over workers r h = IfErr-weaker r _ _ (reason_over workers) h
