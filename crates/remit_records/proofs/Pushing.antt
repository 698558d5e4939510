-- The fields of a record, one after another.
use Rattle.std.proofs.Common.{◌≡◌, ◌≢◌, ◌==◌, ◌||◌, ◌&&◌, ◌+◌, ◌-◌, ◌^◌, ℕ, Bool, true, false, not, List, [], ◌∷◌, ◌++◌, length, min, if◌then◌else◌, Result, Ok, Err, OnOk, refl, sym, ap, ap₂, subst, ◌∙◌, append_assoc, append-nil, arith, length-append}
use Rattle.std.specs.Global.{Vec}
use Rattle.std.specs.List.{list_any}
use Rattle.std.proofs.lemmas.Bool.{ne_eqb}
use Rattle.std.proofs.lemmas.List.Folds.{list_any-append}
use Rattle.csv.specs.Writing.{blank_text, end_text, field_text, fields_text, fields_written, has_written, is_blank, next_sep, row_body, row_text, tail_text, writer_setup}
use Rattle.csv.specs.declared.writer.QuoteStyle.TheVariants.{NonNumeric}
use Rattle.csv.specs.declared.writer.Writer.{Writer}
use Rattle.csv.specs.declared.writer.WriterBuilder.{WriterBuilder}
use Rattle.remit_records.specs.Fields.{Ends, HasFields, Pushes, rendered_in, shows}

-- the greatest count of fields
abbrev most : ℕ
most = 2 ^ 64 - 1

-- one more field after the first one
fields_text-push : (style : WriterBuilder) (fields : List (List ℕ)) (field : List ℕ)
    → fields_text style (fields ++ field ∷ []) ≡ fields_text style fields ++ style.delimiter ∷ field_text style field
unfolding fields_text
fields_text-push style [] field = ap (λ t. style.delimiter ∷ t) (append-nil (field_text style field))
fields_text-push style (first ∷ fields) field =
    ap (λ t. style.delimiter ∷ (field_text style first ++ t)) (fields_text-push style fields field)
    ∙ ap (λ t. style.delimiter ∷ t) (sym (append_assoc (field_text style first) (fields_text style fields) (style.delimiter ∷ field_text style field)))

-- before the first field there is nothing, and before each other one a delimiter
none-before : (style : WriterBuilder) (count : ℕ) → count ≡ 0 → next_sep style count ≡ []
none-before style count is = ap (next_sep style) is

some-before : (style : WriterBuilder) (count : ℕ) → count ≢ 0 → next_sep style count ≡ style.delimiter ∷ []
some-before style count more = ap (λ b. if b then [] else style.delimiter ∷ []) (ne_eqb count 0 more)

-- one more field
row_body-push : (style : WriterBuilder) (fields : List (List ℕ)) (field : List ℕ) (count : ℕ) → count ≡ min (length fields) most
    → row_body style (fields ++ field ∷ []) ≡ row_body style fields ++ (next_sep style count ++ field_text style field)
unfolding fields_text
row_body-push style [] field count is = append-nil (field_text style field) ∙ sym (ap (λ t. t ++ field_text style field) (none-before style count (omega (arith, is))))
row_body-push style (first ∷ fields) field count is =
    ap (λ t. field_text style first ++ t)
    (fields_text-push style fields field ∙ ap (λ t. fields_text style fields ++ (t ++ field_text style field)) (sym (some-before style count (λ zero. omega (arith, is, zero)))))
    ∙ sym (append_assoc (field_text style first) (fields_text style fields) (next_sep style count ++ field_text style field))

-- whether any field shows a byte, after one more
or-none : (x : Bool) → (x || false) ≡ x
or-none true = refl
or-none false = refl

any-shown : (style : WriterBuilder) (fields : List (List ℕ)) (field : List ℕ) (old new : Bool) → old ≡ list_any (shows style) fields
    → (old ≡ false → new ≡ shows style field) → (old ≡ true → new ≡ true) → new ≡ list_any (shows style) (fields ++ field ∷ [])
any-shown style fields field true new is first stays = stays refl ∙ ap (λ b. b || (shows style field || false)) is ∙ sym (list_any-append (shows style) fields (field ∷ []))
any-shown style fields field false new is first stays =
    first refl ∙ sym (or-none (shows style field)) ∙ ap (λ b. b || (shows style field || false)) is ∙ sym (list_any-append (shows style) fields (field ∷ []))

-- the CSV writer has rendered one more field
pub field-pushed : (old new : Writer (Vec ℕ)) (field : List ℕ)
    → ((writer_setup old).style ≢ NonNumeric → rendered_in new ≡ rendered_in old ++ (next_sep (writer_setup old) (fields_written old) ++ field_text (writer_setup old) field))
    → writer_setup new ≡ writer_setup old → fields_written new ≡ min (fields_written old + 1) most
    → (has_written old ≡ false → (writer_setup old).style ≢ NonNumeric → has_written new ≡ not (length (field_text (writer_setup old) field) == 0))
    → (has_written old ≡ true → has_written new ≡ true) → Pushes old new (field ∷ [])
field-pushed old new field text same count wrote stays = λ style before earlier has.
    let plain : (writer_setup old).style ≢ NonNumeric = subst (λ s. s.style ≢ NonNumeric) (sym has.setup) has.plain in
    let here = subst (λ s. rendered_in new ≡ rendered_in old ++ (next_sep s (fields_written old) ++ field_text s field)) has.setup (text plain) in
    let first : has_written old ≡ false → has_written new ≡ shows style field = λ none. subst (λ s. has_written new ≡ shows s field) has.setup (wrote none plain) in
    record {
      setup = same ∙ has.setup;
      plain = has.plain;
      text =
          here ∙ ap (λ t. t ++ (next_sep style (fields_written old) ++ field_text style field)) has.text
          ∙ append_assoc before (row_body style earlier) (next_sep style (fields_written old) ++ field_text style field)
          ∙ ap (λ t. before ++ t) (sym (row_body-push style earlier field (fields_written old) has.count));
      count = count ∙ omega (arith, has.count, length-append earlier (field ∷ []));
      shown = any-shown style earlier field (has_written old) (has_written new) has.shown first stays;
    }

-- the two quotes of a record that shows no byte
abbrev quotes : WriterBuilder → Bool → List ℕ
quotes style blank = if blank then style.quote ∷ style.quote ∷ [] else []

one-blank : (style : WriterBuilder) (empty wrote : Bool) → wrote ≡ (not empty || false) → quotes style (not wrote && true) ≡ quotes style empty
one-blank style true wrote is = ap (λ w. quotes style (not w && true)) is
one-blank style false wrote is = ap (λ w. quotes style (not w && true)) is

more-blank : (style : WriterBuilder) (wrote : Bool) → quotes style (not wrote && false) ≡ []
more-blank style true = refl
more-blank style false = refl

-- the writer knows whether the record shows no byte
blank-known : (style : WriterBuilder) (fields : List (List ℕ)) (count : ℕ) (wrote : Bool) → count ≡ min (length fields) most → wrote ≡ list_any (shows style) fields
    → blank_text style wrote count ≡ quotes style (is_blank style fields)
unfolding is_blank
blank-known style [] count wrote is shown =
    let none : count ≡ 0 = omega (arith, is) in
    ap₂ (λ w n. blank_text style w n) shown none
blank-known style (field ∷ []) count wrote is shown =
    let one : count ≡ 1 = omega (arith, is) in
    ap (blank_text style wrote) one ∙ one-blank style (length (field_text style field) == 0) wrote shown
blank-known style (field ∷ next ∷ fields) count wrote is shown =
    let some : count ≢ 0 = λ e. omega (arith, is, e) in
    let more : count ≢ 1 = λ e. omega (arith, is, e) in
    ap₂ (λ a b. quotes style (not wrote && (a || b))) (ne_eqb count 0 some) (ne_eqb count 1 more) ∙ more-blank style wrote

-- the CSV writer has ended the record
pub record-ended : (old new : Writer (Vec ℕ)) → rendered_in new ≡ rendered_in old ++ tail_text (writer_setup old) (has_written old) (fields_written old)
    → writer_setup new ≡ writer_setup old → fields_written new ≡ 0 → has_written new ≡ false → Ends old new
record-ended old new text same count wrote = λ style before fields has.
    let here = subst (λ s. rendered_in new ≡ rendered_in old ++ tail_text s (has_written old) (fields_written old)) has.setup text in
    let end = end_text style.terminator in
    record {
      setup = same ∙ has.setup;
      plain = has.plain;
      text =
          here ∙ ap₂ (λ t b. t ++ (b ++ end)) has.text (blank-known style fields (fields_written old) (has_written old) has.count has.shown)
          ∙ append_assoc before (row_body style fields) (quotes style (is_blank style fields) ++ end) ∙ sym (append-nil (before ++ row_text style fields));
      count = count;
      shown = wrote;
    }

-- some fields are appended, and then others
pub both-pushed : (a b c : Writer (Vec ℕ)) (fields more : List (List ℕ)) → Pushes a b fields → Pushes b c more → Pushes a c (fields ++ more)
both-pushed a b c fields more first second = λ style before earlier has.
    subst (λ all. HasFields style before all c) (append_assoc earlier fields more) (second style before (earlier ++ fields) (first style before earlier has))

-- no fields are appended
pub none-pushed : (a : Writer (Vec ℕ)) → Pushes a a []
none-pushed a = λ style before earlier has. subst (λ all. HasFields style before all a) (sym (append-nil earlier)) has

pub both-pushed-ok : {E : Type 0} (a b c : Writer (Vec ℕ)) (fields more : List (List ℕ)) (result : Result (Unit {0}) E) → Pushes a b fields → OnOk result (Pushes b c more)
    → OnOk result (Pushes a c (fields ++ more))
both-pushed-ok a b c fields more (Ok done) first second = both-pushed a b c fields more first second
both-pushed-ok a b c fields more (Err fault) first second = tt
