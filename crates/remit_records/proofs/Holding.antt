-- The bytes that a writer has received of a text that is written in pieces.
use Rattle.std.proofs.Common.{◌≡◌, ℕ, Bool, false, [], ◌++◌, List, Option, Result, Ok, Err, IfErr, OnOk, is_err, sym, ap, ap₂, subst, refl, ◌∙◌, append_assoc, append-nil}
use Rattle.std.specs.Global.{Vec}
use Rattle.std.proofs.lemmas.Bool.{false≢true}
use Rattle.csv.specs.Writing.{row_text, writer_pending, writer_under}
use Rattle.csv.specs.declared.writer.Writer.{Writer}
use Rattle.fixpoint.specs.BufferedOut.{Puts, Stays, is_cut, starting, unsent_of, written_of, Holds as BufferHolds, at as buffer_at}
use Rattle.fixpoint.proofs.Buffering.{cut-within, holds-sent, sent-whole}
use Rattle.remit_records.specs.Fields.{Ends, HasFields}
use Rattle.remit_records.specs.Report.{record_text, report_style}
use Rattle.remit_records.specs.RecordWriter.{At, Holds, HasFront, HasPushed, IsCutFault, IsNoMemory, IsReady, Writes, at, gathered_of, rendered_of}
use Rattle.faults.specs.declared.write_fault.WriteFault.{WriteFault}
use Rattle.remit_records.specs.declared.record_writer.RecordWriter.{RecordWriter}

-- memory runs out before anything is written
pub no-memory : (contents : Option (List ℕ)) (failed : Bool) (old new : RecordWriter) (more : List ℕ) (fault : WriteFault) → IsNoMemory old fault
    → Writes (at contents failed old) (at contents failed new) more (Err fault)
no-memory contents failed old new more fault none = (
  λ start text h. record {
    gone = h.gone;
    rest = gathered_of old ++ more;
    text_is = ap (λ t. t ++ more) h.text_is ∙ append_assoc h.gone (gathered_of old) more;
    appended = h.appended;
    counted = none.written ∙ h.counted;
  },
  (λ device. cc (none.cause, device), λ memory. refl),
)

-- the parts of a text that grows, in another order
joined : (text gone unsent rendered more piece later : List ℕ) → text ≡ gone ++ (unsent ++ rendered) → rendered ++ more ≡ piece ++ later
    → text ++ more ≡ ((gone ++ unsent) ++ piece) ++ later
joined text gone unsent rendered more piece later is same =
    ap (λ t. t ++ more) (is ∙ sym (append_assoc gone unsent rendered)) ∙ append_assoc (gone ++ unsent) rendered more ∙ ap (λ t. (gone ++ unsent) ++ t) same
    ∙ sym (append_assoc (gone ++ unsent) piece later)

-- the buffer before a text is put into it
before-put : (start a : Option (List ℕ)) (failed : Bool) (old : RecordWriter) (text : List ℕ) (h : Holds start text (at a failed old))
    → BufferHolds (starting start failed) (h.gone ++ unsent_of old.text) (buffer_at a failed old.text)
before-put start a failed old text h =
    holds-sent (starting start failed) (h.gone ++ unsent_of old.text) (buffer_at a failed old.text) h.whole
    (record { front = h.gone; text_is = refl; appended = h.appended; counted = h.counted; same = refl })

-- a text is put into the buffer, and the records that are not in this text stay rendered
pub text-put : (a b : Option (List ℕ)) (failed later : Bool) (old new : RecordWriter) (piece more : List ℕ) (result : Result (Unit {0}) WriteFault)
    → Puts (buffer_at a failed old.text) (buffer_at b later new.text) piece → Stays (is_cut old.text) (is_cut new.text) failed later
    → rendered_of old ++ more ≡ piece ++ rendered_of new → (IsReady old → IsReady new)
    → OnOk result (is_cut new.text ≡ false) → IfErr result (IsCutFault new later) → Writes (at a failed old) (at b later new) more result
text-put a b failed later old new piece more (Ok done) puts stays same ready whole cut = (
  λ start text h.
      let put = (h.gone ++ unsent_of old.text) ++ piece in
      let sent =
      sent-whole (starting start failed) put (buffer_at b later new.text) whole (puts (starting start failed) (h.gone ++ unsent_of old.text) (before-put start a failed old text h)) in
      record {
        gone = sent.front;
        text_is =
            joined text h.gone (unsent_of old.text) (rendered_of old) more piece (rendered_of new) h.text_is same ∙ ap (λ t. t ++ rendered_of new) sent.text_is
            ∙ append_assoc sent.front (unsent_of new.text) (rendered_of new);
        appended = sent.appended;
        counted = sent.counted;
        whole = whole;
        ready = ready h.ready;
      },
  (stays.whole whole).1,
)
text-put a b failed later old new piece more (Err fault) puts stays same ready whole cut = (
  λ start text h.
      let put = (h.gone ++ unsent_of old.text) ++ piece in
      let short =
      cut-within (starting start failed) put (buffer_at b later new.text) cut.cut (puts (starting start failed) (h.gone ++ unsent_of old.text) (before-put start a failed old text h)) in
      record {
        gone = short.gone;
        rest = short.rest ++ rendered_of new;
        text_is =
            joined text h.gone (unsent_of old.text) (rendered_of old) more piece (rendered_of new) h.text_is same ∙ ap (λ t. t ++ rendered_of new) short.text_is
            ∙ append_assoc short.gone short.rest (rendered_of new);
        appended = short.appended;
        counted = cut.written ∙ short.counted;
      },
  (cut.device, λ memory. let sound = cut.memory memory in sound ∙ sym (stays.sound sound)),
)

-- no record is rendered
pub none-rendered : (rendered : Writer (Vec ℕ)) (text : Vec ℕ) → writer_under rendered ≡ text → writer_pending rendered ≡ [] → text.items ≡ []
    → (writer_under rendered).items ++ writer_pending rendered ≡ []
none-rendered rendered text under pending none = ap₂ (λ v p. v.items ++ p) under pending ∙ append-nil text.items ∙ none

-- the rendered records are put, and none is left
pub all-put : (old piece new : List ℕ) → piece ≡ old → new ≡ [] → old ++ [] ≡ piece ++ new
all-put old piece new is none = append-nil old ∙ sym is ∙ sym (append-nil piece) ∙ ap (λ t. piece ++ t) (sym none)

-- a text is put while no record is rendered
pub put-alone : (rendered text : List ℕ) → rendered ≡ [] → rendered ++ text ≡ text ++ rendered
put-alone rendered text none = ap (λ t. t ++ text) none ∙ sym (append-nil text) ∙ ap (λ t. text ++ t) (sym none)

-- a record is rendered
pub gathers : (contents : Option (List ℕ)) (failed : Bool) (old new : RecordWriter) (row : List ℕ) → new.text ≡ old.text
    → (IsReady old → (rendered_of new ≡ rendered_of old ++ row) × IsReady new) → Writes (at contents failed old) (at contents failed new) row (Ok tt)
gathers contents failed old new row same gathered = (
  λ start text h.
      let (grown, ready) = gathered h.ready in
      let unsent = unsent_of old.text in
      record {
        gone = h.gone;
        text_is =
            ap (λ t. t ++ row) h.text_is ∙ append_assoc h.gone (gathered_of old) row
            ∙ ap (λ t. h.gone ++ t)
            (append_assoc unsent (rendered_of old) row ∙ ap (λ t. unsent ++ t) (sym grown) ∙ ap (λ buffer. unsent_of buffer ++ rendered_of new) (sym same));
        appended = h.appended;
        counted = ap written_of same ∙ h.counted;
        whole = ap is_cut same ∙ h.whole;
        ready = ready;
      },
  refl,
)

-- one text is written, and then another
pub writes-then : (a b c : At) (one other : List ℕ) (done : Unit {0}) (result : Result (Unit {0}) WriteFault) → Writes a b one (Ok done) → Writes b c other result
    → Writes a c (one ++ other) result
writes-then a b c one other done (Ok end) first second =
    (λ start text h. subst (λ t. Holds start t c) (append_assoc text one other) (second.0 start (text ++ one) (first.0 start text h)), second.1 ∙ first.1)
writes-then a b c one other done (Err fault) first second =
    (λ start text h. subst (λ t. HasFront start t fault.written c.contents) (append_assoc text one other) (second.0 start (text ++ one) (first.0 start text h)), (second.1.0, λ memory. second.1.1 memory ∙ first.1))

-- a fault within a text is a fault within a longer text
pub writes-within : (a b : At) (text more : List ℕ) (fault : WriteFault) → Writes a b text (Err fault) → Writes a b (text ++ more) (Err fault)
writes-within a b text more fault writes = (
  λ start before h.
      let front = writes.0 start before h in
      record {
        gone = front.gone;
        rest = front.rest ++ more;
        text_is = sym (append_assoc before text more) ∙ ap (λ t. t ++ more) front.text_is ∙ append_assoc front.gone front.rest more;
        appended = front.appended;
        counted = front.counted;
      },
  writes.1,
)

-- a record is rendered and ended
pub gathers-record : (contents : Option (List ℕ)) (failed : Bool) (start old new : RecordWriter) (fields : List (List ℕ)) → HasPushed start old fields → new.text ≡ old.text
    → Ends old.rendered new.rendered → Writes (at contents failed start) (at contents failed new) (record_text fields) (Ok tt)
unfolding record_text
gathers-record contents failed start old new fields pushed same ends =
    gathers contents failed start new (row_text report_style fields) (same ∙ pushed.0)
    (λ ready.
    let before = rendered_of start in
    let begun : HasFields report_style before [] start.rendered =
    record { setup = ready.setup; plain = λ other. cc other; text = sym (append-nil before); count = ready.fields; shown = ready.clean } in
    let ended = ends report_style before fields (pushed.1 report_style before [] begun) in
    (ended.text ∙ append-nil (before ++ row_text report_style fields), record { setup = ended.setup; fields = ended.count; clean = ended.shown }))

-- a record is rendered, and then the rendered records are put
pub gathers-and-hands : (a b c : At) (row : List ℕ) (result : Result (Unit {0}) WriteFault) → Writes a b row (Ok tt) → Writes b c [] result → Writes a c row result
gathers-and-hands a b c row result gathered handed = subst (λ text. Writes a c text result) (append-nil row) (writes-then a b c row [] tt result gathered handed)

-- a postcondition of a call that succeeds
pub on-ok : {X Y : Type 0} (r : Result X Y) (P : Type 0) → is_err r ≡ false → OnOk r P → P
on-ok (Ok x) P ok holds = holds
on-ok (Err e) P ok holds = absurd (false≢true (sym ok))

-- no bytes are written
pub writes-none : (a : At) → Writes a a [] (Ok tt)
writes-none a = (λ start text h. subst (λ t. Holds start t a) (sym (append-nil text)) h, refl)

-- a postcondition of a call that succeeds, if it holds in any case
pub in-any-case : {X Y : Type 0} (r : Result X Y) (P : Type 0) → P → OnOk r P
in-any-case (Ok x) P holds = holds
in-any-case (Err e) P holds = tt
