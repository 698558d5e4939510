-- The whole remittance, and the bytes that a writer has received of it.
use Rattle.std.proofs.Common.{◌≡◌, ◌<◌, ◌≤◌, ◌+◌, ℕ, zero, suc, true, List, [], ◌∷◌, ◌++◌, length, map, take, Option, Result, Ok, Err, ap, ap₂, sym, subst, ◌∙◌, refl, append_assoc, append-nil, arith}
use Rattle.std.specs.Io.KnownBytes.{Appends}
use Rattle.std.specs.List.{AllZip}
use Rattle.std.specs.Result.{IfErr, OnOk}
use Rattle.std.proofs.KnownBytes.{Appends-nil}
use Rattle.std.proofs.lemmas.Grind.{flat_map-append}
use Rattle.std.proofs.lemmas.List.Concat.{flat_map-cons}
use Rattle.std.proofs.lemmas.Slice.Zip.{AllZip-long}
use Rattle.tables.specs.declared.table.InputData.{InputData}
use Rattle.settlement.specs.declared.outcome.Outcome.{Outcome}
use Rattle.intake_csv.specs.Balances.{accounts_of}
use Rattle.intake_csv.specs.Rows.{AreRowsOf, claims_among}
use Rattle.intake_csv.specs.declared.rows.Row.{Row}
use Rattle.intake_csv.specs.declared.rows.Row.TheVariants.{Good, Bad}
use Rattle.journal.specs.Terms.{Terms}
use Rattle.journal.specs.declared.event.Event.{Event}
use Rattle.claim_gate.specs.Terms.{AreClaimsOf, IsFinishedOver, IsTermsOf, TermsParts}
use Rattle.remit_records.specs.Decided.{decided_as}
use Rattle.remit_records.specs.RecordWriter.{At, Holds, IsUnused, Writes, gathered_of}
use Rattle.remit_records.specs.Looked.{LaidOut, found_of, looked_up}
use Rattle.remit_records.specs.Records.{Deciding, id_column_fields, header_fields, line_of, record_of, records_of, reported_of, total_fields}
use Rattle.remit_records.specs.Report.{IsReport, record_text, report_records, text_of, reported_by_journal}
use Rattle.remit_records.specs.Rows.{AreRead, Begin, WritesFiles, files_text}
use Rattle.remit_records.specs.Writing.{WritesFront, WritesReport}
use Rattle.remit_records.specs.declared.decisions.Decisions.{Decisions}
use Rattle.faults.specs.declared.write_fault.WriteCause.TheVariants.{Device, OutOfMemory}
use Rattle.faults.specs.declared.write_fault.WriteFault.{WriteFault}
use Rattle.remit_records.proofs.Holding.{writes-then}
use Rattle.remit_records.proofs.Looking.{looked-right}

-- the claims of files correspond to their texts
claims-beside : (names : List InputData) (texts : List (List ℕ)) (files : List (List Row)) → AllZip (AreRowsOf names) texts files
    → AllZip (AreClaimsOf names) texts (map claims_among files)
claims-beside names [] [] h = tt
claims-beside names [] (f ∷ files) h = absurd h
claims-beside names (t ∷ texts) [] h = absurd h
claims-beside names (t ∷ texts) (f ∷ files) h = (record { rows = f; are_rows = h.0; claims_are = refl }, claims-beside names texts files h.1)

-- the terms of a journal, made of these parts and of the rows of their files
abbrev pub terms-by : TermsParts → List (List Row) → Terms
terms-by parts files = record { plan = parts.plan; files = map claims_among files; balances = accounts_of parts.balances; cutoff = parts.cutoff }

pub are-terms : (parts : TermsParts) (files : List (List Row)) → AllZip (AreRowsOf parts.plan.names) parts.files files → IsTermsOf parts (terms-by parts files)
are-terms parts files are = record {
  plan = refl;
  files = claims-beside parts.plan.names parts.files files are;
  openings = λ account. refl;
  cutoff = refl;
}

-- the decisions under a plan of this version
abbrev pub reported : ℕ → (ℕ → ℕ → Option Outcome) → Deciding
reported version decided = record { version = version; decided = decided }

-- equal decisions give equal records
record-same : (version : ℕ) (f g : ℕ → ℕ → Option Outcome) (provider : ℕ) (row : Row) → ((place : ℕ) → f provider place ≡ g provider place)
    → record_of (reported version f) provider row ≡ record_of (reported version g) provider row
record-same version f g provider (Good number place claim) same =
    ap (λ o. line_of provider number (id_column_fields version claim) (reported_of o)) (same place)
record-same version f g provider (Bad number fault) same = refl

rows-same : (version : ℕ) (f g : ℕ → ℕ → Option Outcome) (provider : ℕ) (rows : List Row) → ((place : ℕ) → f provider place ≡ g provider place)
    → map (record_of (reported version f) provider) rows ≡ map (record_of (reported version g) provider) rows
rows-same version f g provider [] same = refl
rows-same version f g provider (row ∷ rows) same = ap₂ (λ r rs. r ∷ rs) (record-same version f g provider row same) (rows-same version f g provider rows same)

records-same : (version : ℕ) (f g : ℕ → ℕ → Option Outcome) (first : ℕ) (files : List (List Row))
    → ((provider place : ℕ) → first ≤ provider → provider < first + length files → f provider place ≡ g provider place)
    → records_of (reported version f) first files ≡ records_of (reported version g) first files
records-same version f g first [] same = refl
records-same version f g first (rows ∷ files) same =
    ap₂ (λ front following. front ++ following) (rows-same version f g first rows (λ place. same first place (omega arith) (omega arith)))
    (records-same version f g (suc first) files (λ provider place least most. same provider place (omega (arith, least)) (omega (arith, most))))

-- the decisions in the index give the records of the remittance
pub files-alike : (parts : TermsParts) (J : List Event) (providers : ℕ) (decisions : Decisions) (files : List (List Row)) → IsFinishedOver parts J
    → LaidOut parts.plan.version providers J decisions → providers ≡ length parts.files → AllZip (AreRowsOf parts.plan.names) parts.files files
    → files_text (looked_up decisions) 1 files ≡ files_text (reported_by_journal parts.plan.version J) 1 files
files-alike parts J providers decisions files finished noted as_many are =
    let journal = finished (terms-by parts files) (are-terms parts files are) in
    let long = AllZip-long (AreRowsOf parts.plan.names) parts.files files are in
    ap (λ version. files_text (reported version (found_of decisions)) 1 files) noted.version_is
    ∙ ap text_of
    (records-same parts.plan.version (found_of decisions) (decided_as J) 1 files
    (λ provider place least most.
    let known : provider ≤ providers = omega (arith, most, long, as_many) in
    looked-right parts.plan.version providers J decisions noted journal.lawful.sound.in_order provider place least known))

-- the text of the remittance, in its three parts
abbrev pub whole_text : ℕ → List Event → List (List Row) → List ℕ
whole_text version J files = record_text (header_fields version) ++ (files_text (reported_by_journal version J) 1 files ++ record_text (total_fields version J))

whole-is : (version : ℕ) (J : List Event) (files : List (List Row)) → text_of (report_records version J files) ≡ whole_text version J files
whole-is version J files =
    flat_map-cons record_text (header_fields version) (records_of (reported_by_journal version J) 1 files ++ total_fields version J ∷ [])
    ∙ ap (λ t. record_text (header_fields version) ++ t)
    (flat_map-append record_text (records_of (reported_by_journal version J) 1 files) (total_fields version J ∷ [])
    ∙ ap (λ t. files_text (reported_by_journal version J) 1 files ++ t) (append-nil (record_text (total_fields version J))))

-- nothing is written yet
holds-none : (start : At) → IsUnused start.writer → Holds start.contents [] start
holds-none start unused = record {
  gone = [];
  text_is = sym (ap₂ (λ unsent rendered. unsent ++ rendered) unused.text.unsent unused.rendered);
  appended = Appends-nil start.contents;
  counted = unused.text.written;
  whole = unused.text.whole;
  ready = unused.ready;
}

-- a whole text is written, and the buffer is empty at the end
pub written-whole : (start end : At) (text : List ℕ) → IsUnused start.writer → Writes start end text (Ok tt) → gathered_of end.writer ≡ []
    → Appends start.contents end.contents text
written-whole start end text unused writes none =
    let held = writes.0 start.contents [] (holds-none start unused) in
    let all = held.text_is ∙ ap (λ g. held.gone ++ g) none ∙ append-nil held.gone in
    subst (Appends start.contents end.contents) (sym all) held.appended

-- the whole remittance is written
pub report-written : (parts : TermsParts) (J : List Event) (providers : ℕ) (decisions : Decisions) (a b c d e : At) → IsFinishedOver parts J → LaidOut parts.plan.version providers J decisions
    → providers ≡ length parts.files → IsUnused a.writer → Writes a b (record_text (header_fields parts.plan.version)) (Ok tt)
    → WritesFiles (looked_up decisions) parts.plan.names parts.files b c (Ok tt) → Writes c d (record_text (total_fields parts.plan.version J)) (Ok tt) → Writes d e [] (Ok tt)
    → gathered_of e.writer ≡ [] → WritesReport parts J a.contents e.contents
report-written parts J providers decisions a b c d e finished noted as_many unused header files total end none =
    let rows = files.0 in
    let are = files.1.are_rows in
    let alike = files-alike parts J providers decisions rows finished noted as_many are in
    let text = record_text (header_fields parts.plan.version) ++ (files_text (looked_up decisions) 1 rows ++ (record_text (total_fields parts.plan.version J) ++ [])) in
    let writes : Writes a e text (Ok tt) =
    writes-then a b e _ _ tt (Ok tt) header (writes-then b c e _ _ tt (Ok tt) files.2 (writes-then c d e _ _ tt (Ok tt) total end)) in
    let text_is : text ≡ text_of (report_records parts.plan.version J rows) =
    ap₂ (λ f t. record_text (header_fields parts.plan.version) ++ (f ++ t)) alike (append-nil (record_text (total_fields parts.plan.version J))) ∙ sym (whole-is parts.plan.version J rows) in
    record {
      bytes = text;
      is_report = record { files = rows; are_rows = are; bytes_are = text_is };
      appended = written-whole a e text unused writes none;
    }

-- the first n elements of a list that begins with n given elements
front-of : (front following : List ℕ) (n : ℕ) → n ≡ length front → take n (front ++ following) ≡ front
front-of [] following n is = rw is refl
front-of (x ∷ front) following zero is = absurd (omega (arith, is))
front-of (x ∷ front) following (suc n) is = ap (λ xs. x ∷ xs) (front-of front following n (omega (arith, is)))

-- the writing ends within a text with which every remittance begins
pub front-written : (parts : TermsParts) (J : List Event) (start end : At) (text : List ℕ) (fault : WriteFault) → IsUnused start.writer → Writes start end text (Err fault)
    → ((report : List ℕ) → IsReport parts J report → Begin text report)
    → WritesFront parts J fault.written start.contents end.contents
front-written parts J start end text fault unused writes begins =
    let has = writes.0 start.contents [] (holds-none start unused) in
    record {
      bytes = has.gone;
      counted = sym has.counted;
      appended = has.appended;
      front = λ report is.
          let begin = begins report is in
          let split = begin.whole_is ∙ ap (λ t. t ++ begin.rest) has.text_is ∙ append_assoc has.gone has.rest begin.rest in
          sym (ap (take fault.written) split ∙ front-of has.gone (has.rest ++ begin.rest) fault.written has.counted);
    }

-- zero bytes are the beginning of every remittance
pub none-written : (parts : TermsParts) (J : List Event) (contents : Option (List ℕ)) → WritesFront parts J 0 contents contents
none-written parts J contents = record { bytes = []; counted = refl; appended = Appends-nil contents; front = λ report is. refl }

-- every remittance begins with the header
pub begins-header : (parts : TermsParts) (J : List Event) (report : List ℕ) → IsReport parts J report → Begin (record_text (header_fields parts.plan.version)) report
begins-header parts J report is = record {
  rest = files_text (reported_by_journal parts.plan.version J) 1 is.files ++ record_text (total_fields parts.plan.version J);
  whole_is = is.bytes_are ∙ whole-is parts.plan.version J is.files;
}

-- the writing of files under equal decisions
pub files-same : (old new : Decisions) (names : List InputData) (texts : List (List ℕ)) (a b : At) (result : Result (Unit {0}) WriteFault) → new ≡ old
    → WritesFiles (looked_up new) names texts a b result → WritesFiles (looked_up old) names texts a b result
files-same old new names texts a b result kept writes = subst (λ d. WritesFiles (looked_up d) names texts a b result) kept writes

-- the writing ends in the header
pub header-refused : (parts : TermsParts) (J : List Event) (a b : At) (fault : WriteFault) → IsUnused a.writer → Writes a b (record_text (header_fields parts.plan.version)) (Err fault)
    → WritesFront parts J fault.written a.contents b.contents
header-refused parts J a b fault unused header =
    front-written parts J a b (record_text (header_fields parts.plan.version)) fault unused header (λ report is. begins-header parts J report is)

-- the writing ends in the files
pub files-refused : (parts : TermsParts) (J : List Event) (providers : ℕ) (decisions : Decisions) (a b c : At) (fault : WriteFault) → IsFinishedOver parts J
    → LaidOut parts.plan.version providers J decisions → providers ≡ length parts.files → IsUnused a.writer → Writes a b (record_text (header_fields parts.plan.version)) (Ok tt)
    → WritesFiles (looked_up decisions) parts.plan.names parts.files b c (Err fault) → WritesFront parts J fault.written a.contents c.contents
files-refused parts J providers decisions a b c fault finished noted as_many unused header files =
    let text = record_text (header_fields parts.plan.version) ++ files.0 in
    front-written parts J a c text fault unused (writes-then a b c _ _ tt (Err fault) header files.2)
    (λ report is.
    let alike = files-alike parts J providers decisions is.files finished noted as_many is.are_rows in
    let begin = files.1 is.files is.are_rows in
    let total = record_text (total_fields parts.plan.version J) in
    record {
      rest = begin.rest ++ total;
      whole_is =
          is.bytes_are ∙ whole-is parts.plan.version J is.files
          ∙ ap (λ t. record_text (header_fields parts.plan.version) ++ (t ++ total)) (sym alike ∙ begin.whole_is)
          ∙ ap (λ t. record_text (header_fields parts.plan.version) ++ t) (append_assoc files.0 begin.rest total)
          ∙ sym (append_assoc (record_text (header_fields parts.plan.version)) files.0 (begin.rest ++ total));
    })

-- the whole text is every remittance
whole-of-each : (parts : TermsParts) (J : List Event) (providers : ℕ) (decisions : Decisions) (files : List (List Row)) → IsFinishedOver parts J
    → LaidOut parts.plan.version providers J decisions → providers ≡ length parts.files → AreRead parts.plan.names parts.files files → (report : List ℕ)
    → IsReport parts J report → report ≡ record_text (header_fields parts.plan.version) ++ (files_text (looked_up decisions) 1 files ++ record_text (total_fields parts.plan.version J))
whole-of-each parts J providers decisions files finished noted as_many read report is =
    let alike = files-alike parts J providers decisions is.files finished noted as_many is.are_rows in
    let same = read.only is.files is.are_rows in
    is.bytes_are ∙ whole-is parts.plan.version J is.files
    ∙ ap (λ t. record_text (header_fields parts.plan.version) ++ (t ++ record_text (total_fields parts.plan.version J))) (sym alike ∙ ap (files_text (looked_up decisions) 1) same)

-- the writing ends in the totals
pub total-refused : (parts : TermsParts) (J : List Event) (providers : ℕ) (decisions : Decisions) (a b c d : At) (fault : WriteFault) → IsFinishedOver parts J
    → LaidOut parts.plan.version providers J decisions → providers ≡ length parts.files → IsUnused a.writer → Writes a b (record_text (header_fields parts.plan.version)) (Ok tt)
    → WritesFiles (looked_up decisions) parts.plan.names parts.files b c (Ok tt) → Writes c d (record_text (total_fields parts.plan.version J)) (Err fault)
    → WritesFront parts J fault.written a.contents d.contents
total-refused parts J providers decisions a b c d fault finished noted as_many unused header files total =
    let text = record_text (header_fields parts.plan.version) ++ (files_text (looked_up decisions) 1 files.0 ++ record_text (total_fields parts.plan.version J)) in
    front-written parts J a d text fault unused (writes-then a b d _ _ tt (Err fault) header (writes-then b c d _ _ tt (Err fault) files.2 total))
    (λ report is. record {
      rest = [];
      whole_is = whole-of-each parts J providers decisions files.0 finished noted as_many files.1 report is ∙ sym (append-nil text);
    })

-- the writing ends when the last bytes are passed on
pub end-refused : (parts : TermsParts) (J : List Event) (providers : ℕ) (decisions : Decisions) (a b c d e : At) (fault : WriteFault) → IsFinishedOver parts J
    → LaidOut parts.plan.version providers J decisions → providers ≡ length parts.files → IsUnused a.writer → Writes a b (record_text (header_fields parts.plan.version)) (Ok tt)
    → WritesFiles (looked_up decisions) parts.plan.names parts.files b c (Ok tt) → Writes c d (record_text (total_fields parts.plan.version J)) (Ok tt) → Writes d e [] (Err fault)
    → WritesFront parts J fault.written a.contents e.contents
end-refused parts J providers decisions a b c d e fault finished noted as_many unused header files total end =
    let last = record_text (total_fields parts.plan.version J) in
    let front = files_text (looked_up decisions) 1 files.0 in
    let text = record_text (header_fields parts.plan.version) ++ (front ++ (last ++ [])) in
    front-written parts J a e text fault unused
    (writes-then a b e _ _ tt (Err fault) header (writes-then b c e _ _ tt (Err fault) files.2 (writes-then c d e _ _ tt (Err fault) total end)))
    (λ report is. record {
      rest = [];
      whole_is =
          whole-of-each parts J providers decisions files.0 finished noted as_many files.1 report is
          ∙ ap (λ t. record_text (header_fields parts.plan.version) ++ (front ++ t)) (sym (append-nil last)) ∙ sym (append-nil text);
    })

-- the writing ends by passing on the buffer
pub ends-written : (parts : TermsParts) (J : List Event) (providers : ℕ) (decisions : Decisions) (a b c d e : At) (result : Result (Unit {0}) WriteFault)
    → IsFinishedOver parts J → LaidOut parts.plan.version providers J decisions → providers ≡ length parts.files → IsUnused a.writer → Writes a b (record_text (header_fields parts.plan.version)) (Ok tt)
    → WritesFiles (looked_up decisions) parts.plan.names parts.files b c (Ok tt) → Writes c d (record_text (total_fields parts.plan.version J)) (Ok tt) → Writes d e [] result
    → OnOk result (gathered_of e.writer ≡ []) → OnOk result (WritesReport parts J a.contents e.contents)
ends-written parts J providers decisions a b c d e (Ok done) finished noted as_many unused header files total end none =
    report-written parts J providers decisions a b c d e finished noted as_many unused header files total end none
ends-written parts J providers decisions a b c d e (Err fault) finished noted as_many unused header files total end none = tt

pub ends-refused : (parts : TermsParts) (J : List Event) (providers : ℕ) (decisions : Decisions) (a b c d e : At) (result : Result (Unit {0}) WriteFault)
    → IsFinishedOver parts J → LaidOut parts.plan.version providers J decisions → providers ≡ length parts.files → IsUnused a.writer → Writes a b (record_text (header_fields parts.plan.version)) (Ok tt)
    → WritesFiles (looked_up decisions) parts.plan.names parts.files b c (Ok tt) → Writes c d (record_text (total_fields parts.plan.version J)) (Ok tt) → Writes d e [] result
    → IfErr result (λ fault. WritesFront parts J fault.written a.contents e.contents)
ends-refused parts J providers decisions a b c d e (Ok done) finished noted as_many unused header files total end = tt
ends-refused parts J providers decisions a b c d e (Err fault) finished noted as_many unused header files total end =
    end-refused parts J providers decisions a b c d e fault finished noted as_many unused header files total end

-- after a fault of the device the writer has failed
pub ends-device : (d e : At) (result : Result (Unit {0}) WriteFault) → Writes d e [] result → IfErr result (λ fault. fault.cause ≡ Device → e.failed ≡ true)
ends-device d e (Ok done) end = tt
ends-device d e (Err fault) end = end.1.0

-- a lack of memory leaves the state of the writer unchanged
pub ends-memory : (a d e : At) (result : Result (Unit {0}) WriteFault) → d.failed ≡ a.failed → Writes d e [] result
    → IfErr result (λ fault. fault.cause ≡ OutOfMemory → e.failed ≡ a.failed)
ends-memory a d e (Ok done) before end = tt
ends-memory a d e (Err fault) before end = λ memory. end.1.1 memory ∙ before

-- a writing that succeeds leaves the state of the writer unchanged
pub ends-ok : (a d e : At) (result : Result (Unit {0}) WriteFault) → d.failed ≡ a.failed → Writes d e [] result → OnOk result (e.failed ≡ a.failed)
ends-ok a d e (Ok done) before end = end.1 ∙ before
ends-ok a d e (Err fault) before end = tt

-- a journal that is equal to a finished one, over equal terms, is finished
pub finished-alike : (parts other : TermsParts) (J K : List Event) → other ≡ parts → IsFinishedOver other J → K ≡ J → IsFinishedOver parts K
finished-alike parts other J K same finished alike = subst (λ p. IsFinishedOver p K) same (subst (IsFinishedOver other) (sym alike) finished)

-- what is written of the remittance of an equal journal
pub front-alike : (parts : TermsParts) (J K : List Event) (written : ℕ) (old new : Option (List ℕ)) → K ≡ J → WritesFront parts K written old new → WritesFront parts J written old new
front-alike parts J K written old new alike front = subst (λ L. WritesFront parts L written old new) alike front

pub written-alike : (parts : TermsParts) (J K : List Event) (old new : Option (List ℕ)) (result : Result (Unit {0}) WriteFault) → K ≡ J
    → OnOk result (WritesReport parts K old new) → OnOk result (WritesReport parts J old new)
written-alike parts J K old new result alike written = subst (λ L. OnOk result (WritesReport parts L old new)) alike written

pub refused-alike : (parts : TermsParts) (J K : List Event) (old new : Option (List ℕ)) (result : Result (Unit {0}) WriteFault) → K ≡ J
    → IfErr result (λ fault. WritesFront parts K fault.written old new) → IfErr result (λ fault. WritesFront parts J fault.written old new)
refused-alike parts J K old new result alike refused = subst (λ L. IfErr result (λ fault. WritesFront parts L fault.written old new)) alike refused
