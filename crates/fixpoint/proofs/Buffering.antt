-- The bytes that a writer has received of a text that is put in pieces, and the bytes that are
-- buffered.
use Rattle.std.proofs.Common.{◌≡◌, ℕ, ◌+◌, Bool, true, false, List, [], ◌++◌, length, take, drop, Option, Result, Ok, Err, refl, ap, sym, subst, ◌∙◌, append_assoc, append-nil, take-append-drop, length-append, length-take-le, length-drop, arith}
use Rattle.std.proofs.lemmas.Bool.{false≢true}
use Rattle.std.specs.Io.KnownBytes.{Appends}
use Rattle.std.proofs.KnownBytes.{Appends-nil, Appends-trans}
use Rattle.fixpoint.specs.Out.{PutsFront}
use Rattle.fixpoint.specs.declared.whole_write.ShortWrite.{ShortWrite}
use Rattle.fixpoint.specs.declared.buffered_out.BufferedOut.{BufferedOut}
use Rattle.fixpoint.specs.declared.buffered_out.Progress.{Progress}
use Rattle.fixpoint.specs.BufferedOut.{At, Ends, EndsText, Gone, GoneBy, Holds, IsCutAt, IsEmpty, IsGone, Passes, Puts, Start, Stays, at, at_progress, is_cut, starting, unsent_of, written_of}

-- nothing is put
pub puts-none : (a : At) → Puts a a []
puts-none a start text h = subst (λ t. Holds start t a) (sym (append-nil text)) h

-- one text is put, and then another
pub puts-then : (a b c : At) (one other : List ℕ) → Puts a b one → Puts b c other → Puts a c (one ++ other)
puts-then a b c one other first second start text h = subst (λ t. Holds start t c) (append_assoc text one other) (second start (text ++ one) (first start text h))

-- the writer has received all of the text but its buffered end
pub record IsSent (start : Start) (text : List ℕ) (now : At) : Type 0 where
  pub front : List ℕ
  pub text_is : text ≡ front ++ unsent_of now.pieces
  pub appended : Appends start.contents now.contents front
  pub counted : written_of now.pieces ≡ length front
  pub same : now.failed ≡ start.failed

-- a text that is not cut is sent but for its buffered end
pub sent-whole : (start : Start) (text : List ℕ) (now : At) → is_cut now.pieces ≡ false → Holds start text now → IsSent start text now
sent-whole start text now whole h =
    let gone : IsGone start h.front (at_progress now.contents now.failed now.pieces.progress) = subst (λ cut. GoneBy cut start h.front (at_progress now.contents now.failed now.pieces.progress)) whole h.gone in
    record { front = h.front; text_is = h.text_is; appended = gone.appended; counted = gone.counted; same = gone.same }

pub holds-sent : (start : Start) (text : List ℕ) (now : At) → is_cut now.pieces ≡ false → IsSent start text now → Holds start text now
holds-sent start text now whole sent =
    let gone : IsGone start sent.front (at_progress now.contents now.failed now.pieces.progress) = record { appended = sent.appended; counted = sent.counted; same = sent.same } in
    record {
      front = sent.front;
      text_is = sent.text_is;
      gone = subst (λ cut. GoneBy cut start sent.front (at_progress now.contents now.failed now.pieces.progress)) (sym whole) gone;
    }

-- a text that is cut, with its buffered end
pub cut-within : (start : Start) (text : List ℕ) (now : At) → is_cut now.pieces ≡ true → Holds start text now → IsCutAt start text now.contents now.failed (written_of now.pieces)
cut-within start text now cut h =
    let before : IsCutAt start h.front now.contents now.failed (written_of now.pieces) = subst (λ cut. GoneBy cut start h.front (at_progress now.contents now.failed now.pieces.progress)) cut h.gone in
    let joined = length-append before.rest (unsent_of now.pieces) in
    let longer : length text ≡ length h.front + length (unsent_of now.pieces) = ap length h.text_is ∙ length-append h.front (unsent_of now.pieces) in
    record {
      gone = before.gone;
      rest = before.rest ++ unsent_of now.pieces;
      text_is = h.text_is ∙ ap (λ t. t ++ unsent_of now.pieces) before.text_is ∙ append_assoc before.gone before.rest (unsent_of now.pieces);
      cut = (let some = before.cut in omega (arith, some, joined));
      appended = before.appended;
      counted = before.counted;
      has_failed = λ few. before.has_failed (omega (arith, few, longer));
    }

-- nothing changes
pub stays-same : (cut failed : Bool) → Stays cut cut failed failed
stays-same cut failed = record { whole = λ whole. (whole, refl); sound = λ sound. sound }

-- the text is cut, since the writer has failed
pub stays-failed : (was_cut cut had_failed failed : Bool) → cut ≡ true → failed ≡ true → Stays was_cut cut had_failed failed
stays-failed was_cut cut had_failed failed now failing = record {
  whole = λ whole. absurd (false≢true (sym whole ∙ now));
  sound = λ sound. absurd (false≢true (sym sound ∙ failing));
}

-- the text is whole
pub stays-whole : (was_cut cut had_failed failed : Bool) → was_cut ≡ false → failed ≡ had_failed → Stays was_cut cut had_failed failed
stays-whole was_cut cut had_failed failed whole same = record { whole = λ now. (whole, same); sound = λ sound. sym same ∙ sound }

-- two calls after one another
pub stays-then : (c d e : Bool) (p q r : Bool) → Stays c d p q → Stays d e q r → Stays c e p r
stays-then c d e p q r first second = record {
  whole = λ whole.
      let later = second.whole whole in
      let before = first.whole later.0 in
      (before.0, later.1 ∙ before.1);
  sound = λ sound. first.sound (second.sound sound);
}

-- the writer receives more of the text
pub whole-passes : (a b : Option (List ℕ)) (failed later : Bool) (old new : Progress) (more : List ℕ) → old.is_cut ≡ false → new.is_cut ≡ false → Appends a b more → new.written ≡ old.written + length more → later ≡ failed
    → Passes (at_progress a failed old) (at_progress b later new) more
whole-passes a b failed later old new more whole still appended counted same start text gone =
    let before : IsGone start text (at_progress a failed old) = subst (λ cut. GoneBy cut start text (at_progress a failed old)) whole gone in
    let after : IsGone start (text ++ more) (at_progress b later new) = record {
      appended = Appends-trans start.contents a b text more before.appended appended;
      counted = (let joined = length-append text more in let was : old.written ≡ length text = before.counted in omega (arith, joined, was, counted));
      same = same ∙ before.same;
    } in
    subst (λ cut. GoneBy cut start (text ++ more) (at_progress b later new)) (sym still) after

-- the writer fails within the text
pub part-passes : (a b : Option (List ℕ)) (failed later : Bool) (old new : Progress) (more : List ℕ) (written : ℕ) → old.is_cut ≡ false → new.is_cut ≡ true → PutsFront more written a b → new.written ≡ old.written + written → later ≡ true
    → Passes (at_progress a failed old) (at_progress b later new) more
part-passes a b failed later old new more written whole now puts counted failing start text gone =
    let before : IsGone start text (at_progress a failed old) = subst (λ cut. GoneBy cut start text (at_progress a failed old)) whole gone in
    let short = puts.cut in
    let after : IsCutAt start (text ++ more) b later new.written = record {
      gone = text ++ take written more;
      rest = drop written more;
      text_is = ap (λ t. text ++ t) (sym (take-append-drop written more)) ∙ sym (append_assoc text (take written more) (drop written more));
      cut = (let left = length-drop written more in omega (arith, left, short));
      appended = Appends-trans start.contents a b text (take written more) before.appended puts.appended;
      counted =
          let taken : length (take written more) ≡ written = length-take-le written more (omega (arith, short)) in
          let joined = length-append text (take written more) in
          let was : old.written ≡ length text = before.counted in
          omega (arith, joined, taken, was, counted);
      has_failed = λ few. failing;
    } in
    subst (λ cut. GoneBy cut start (text ++ more) (at_progress b later new)) (sym now) after

-- after a cut nothing more is passed on
pub cut-passes : (a : Option (List ℕ)) (failed : Bool) (old : Progress) (more : List ℕ) → old.is_cut ≡ true → Passes (at_progress a failed old) (at_progress a failed old) more
cut-passes a failed old more now start text gone =
    let before : IsCutAt start text a failed old.written = subst (λ cut. GoneBy cut start text (at_progress a failed old)) now gone in
    let joined = length-append text more in
    let after : IsCutAt start (text ++ more) a failed old.written = record {
      gone = before.gone;
      rest = before.rest ++ more;
      text_is = ap (λ t. t ++ more) before.text_is ∙ append_assoc before.gone before.rest more;
      cut = (let some = before.cut in omega (arith, some, length-append before.rest more));
      appended = before.appended;
      counted = before.counted;
      has_failed = λ few. before.has_failed (omega (arith, few, joined));
    } in
    subst (λ cut. GoneBy cut start (text ++ more) (at_progress a failed old)) (sym now) after

-- a text is buffered
pub gathers : (contents : Option (List ℕ)) (failed : Bool) (old new : BufferedOut) (more : List ℕ) → unsent_of new ≡ unsent_of old ++ more → new.progress ≡ old.progress → Puts (at contents failed old) (at contents failed new) more
gathers contents failed old new more grown same start text h = record {
  front = h.front;
  text_is = ap (λ t. t ++ more) h.text_is ∙ append_assoc h.front (unsent_of old) more ∙ ap (λ t. h.front ++ t) (sym grown);
  gone = subst (λ progress. Gone start h.front (at_progress contents failed progress)) (sym same) h.gone;
}

-- the buffer is passed on
pub hands-over : (a b : Option (List ℕ)) (failed later : Bool) (old new : BufferedOut) (gathered : List ℕ) → gathered ≡ unsent_of old → Passes (at_progress a failed old.progress) (at_progress b later new.progress) gathered → unsent_of new ≡ []
    → Puts (at a failed old) (at b later new) []
hands-over a b failed later old new gathered is passes none start text h = record {
  front = text;
  text_is = ap (λ t. text ++ t) (sym none);
  gone = subst (λ t. Gone start t (at_progress b later new.progress)) (ap (λ t. h.front ++ t) is ∙ sym h.text_is) (passes start h.front h.gone);
}

all-gone : (text front items : List ℕ) → text ++ [] ≡ front ++ items → items ≡ [] → text ≡ front
all-gone text front items is none = sym (append-nil text) ∙ is ∙ ap (λ t. front ++ t) none ∙ append-nil front

-- a text that cannot be buffered is passed on after the buffer
pub hands-more : (a b c : Option (List ℕ)) (failed later last : Bool) (old kept mid new : BufferedOut) (more : List ℕ) → unsent_of kept ≡ unsent_of old → kept.progress ≡ old.progress
    → Puts (at a failed kept) (at b later mid) [] → unsent_of mid ≡ []
    → Passes (at_progress b later mid.progress) (at_progress c last new.progress) more → unsent_of new ≡ unsent_of mid → Puts (at a failed old) (at c last new) more
hands-more a b c failed later last old kept mid new more items progress puts none passes same start text h =
    let before : Holds start text (at a failed kept) = record {
      front = h.front;
      text_is = h.text_is ∙ ap (λ t. h.front ++ t) (sym items);
      gone = subst (λ p. Gone start h.front (at_progress a failed p)) (sym progress) h.gone;
    } in
    let held = puts start text before in
    let front : text ≡ held.front = all-gone text held.front (unsent_of mid) held.text_is none in
    record {
      front = held.front ++ more;
      text_is = ap (λ t. t ++ more) front ∙ sym (append-nil (held.front ++ more)) ∙ ap (λ t. (held.front ++ more) ++ t) (sym (same ∙ none));
      gone = passes start held.front held.gone;
    }

-- at the end the writer has received the whole text
pub end-whole : (a b : Option (List ℕ)) (failed later : Bool) (old new : BufferedOut) (count : ℕ) → Puts (at a failed old) (at b later new) [] → unsent_of new ≡ [] → new.progress.is_cut ≡ false → new.progress.written ≡ count
    → Ends (at a failed old) b later (Ok count)
end-whole a b failed later old new count puts none whole is start text h =
    let held = puts start text h in
    let front : text ≡ held.front = all-gone text held.front (unsent_of new) held.text_is none in
    let gone : IsGone start held.front (at_progress b later new.progress) = subst (λ cut. GoneBy cut start held.front (at_progress b later new.progress)) whole held.gone in (
      subst (λ t. Appends start.contents b t) (sym front) gone.appended,
      sym is ∙ gone.counted ∙ ap length (sym front),
      gone.same,
    )

-- at the end the writer has received a part of the text
pub end-cut : (a b : Option (List ℕ)) (failed later : Bool) (old new : BufferedOut) (short : ShortWrite) → Puts (at a failed old) (at b later new) [] → unsent_of new ≡ [] → new.progress.is_cut ≡ true → new.progress.written ≡ short.written
    → Ends (at a failed old) b later (Err short)
end-cut a b failed later old new short puts none now is start text h =
    let held = puts start text h in
    let front : text ≡ held.front = all-gone text held.front (unsent_of new) held.text_is none in
    let gone : IsCutAt start held.front b later new.progress.written = subst (λ cut. GoneBy cut start held.front (at_progress b later new.progress)) now held.gone in
    subst (λ t. IsCutAt start t b later short.written) (sym front) (subst (λ n. IsCutAt start held.front b later n) is gone)

-- at the start nothing is put
pub starts : (contents : Option (List ℕ)) (failed : Bool) (pieces : BufferedOut) → IsEmpty pieces → Holds (starting contents failed) [] (at contents failed pieces)
starts contents failed pieces empty =
    let gone : IsGone (starting contents failed) [] (at_progress contents failed pieces.progress) = record { appended = Appends-nil contents; counted = empty.written; same = refl } in
    record {
      front = [];
      text_is = sym empty.unsent;
      gone = subst (λ cut. GoneBy cut (starting contents failed) [] (at_progress contents failed pieces.progress)) (sym empty.whole) gone;
    }

-- the end of a text that is put from the start on
pub ends-text : (contents after : Option (List ℕ)) (failed later : Bool) (pieces : BufferedOut) (last : At) (text : List ℕ) (result : Result ℕ ShortWrite) → IsEmpty pieces → Puts (at contents failed pieces) last text
    → Ends last after later result → EndsText (starting contents failed) text after later result
ends-text contents after failed later pieces last text result empty puts ends =
    ends (starting contents failed) text (puts (starting contents failed) [] (starts contents failed pieces empty))
