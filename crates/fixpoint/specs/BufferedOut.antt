-- The writing of a text in pieces: the bytes that the writer has received, and the bytes that are
-- buffered.
use Rattle.std.specs.Prelude.{◌≡◌, ℕ, ◌≤◌, ◌-◌, ◌^◌, ◌++◌, Bool, true, false, List, [], length, Option, Result, Ok, Err}
use Rattle.std.specs.Io.KnownBytes.{Appends}
use Rattle.fixpoint.specs.declared.whole_write.ShortWrite.{ShortWrite}
use Rattle.fixpoint.specs.declared.buffered_out.BufferedOut.{BufferedOut}
use Rattle.fixpoint.specs.declared.buffered_out.Progress.{Progress}

-- the greatest count of bytes
abbrev pub greatest_count : ℕ
greatest_count = 2 ^ 64 - 1

-- the bytes that are buffered
abbrev pub unsent_of : BufferedOut → List ℕ
unsent_of pieces = pieces.gathered.items

-- the number of bytes that the writer has received
abbrev pub written_of : BufferedOut → ℕ
written_of pieces = pieces.progress.written

-- whether the writer receives no more bytes, although the text goes on
abbrev pub is_cut : BufferedOut → Bool
is_cut pieces = pieces.progress.is_cut

-- the state of a writer: its contents, if they are known, and whether it has failed
pub record Start : Type 0 where
  pub contents : Option (List ℕ)
  pub failed : Bool

-- the state of a writer with these parts
abbrev pub starting : Option (List ℕ) → Bool → Start
starting contents failed = record { contents = contents; failed = failed }

-- the state of a writer, and the progress of a text into it
pub record AtProgress : Type 0 where
  pub contents : Option (List ℕ)
  pub failed : Bool
  pub progress : Progress

-- the state of a writer and the progress with these parts
abbrev pub at_progress : Option (List ℕ) → Bool → Progress → AtProgress
at_progress contents failed progress = record { contents = contents; failed = failed; progress = progress }

-- the writer has received the text after its contents at the start
pub record IsGone (start : Start) (text : List ℕ) (now : AtProgress) : Type 0 where
  pub appended : Appends start.contents now.contents text
  pub counted : now.progress.written ≡ length text
  pub same : now.failed ≡ start.failed

-- the writer has received exactly `written` bytes, the first bytes of the text and not all of them;
-- it has failed, unless the text is longer than any count
pub record IsCutAt (start : Start) (text : List ℕ) (contents : Option (List ℕ)) (failed : Bool) (written : ℕ) : Type 0 where
  pub gone : List ℕ
  pub rest : List ℕ
  pub text_is : text ≡ gone ++ rest
  pub cut : 1 ≤ length rest
  pub appended : Appends start.contents contents gone
  pub counted : written ≡ length gone
  pub has_failed : length text ≤ greatest_count → failed ≡ true

-- the writer has received the whole text; or, with `true`, the text is cut
abbrev pub GoneBy : Bool → Start → List ℕ → AtProgress → Type 0
GoneBy false start text now = IsGone start text now
GoneBy true start text now = IsCutAt start text now.contents now.failed now.progress.written

-- the text has been passed on as far as the progress says
abbrev pub Gone : Start → List ℕ → AtProgress → Type 0
Gone start text now = GoneBy now.progress.is_cut start text now

-- whichever text was passed on before, `more` is passed on after it
abbrev pub Passes : AtProgress → AtProgress → List ℕ → Type 0
Passes old new more = (start : Start) (text : List ℕ) → Gone start text old → Gone start (text ++ more) new

-- the state of a writer, and the buffer
pub record At : Type 0 where
  pub contents : Option (List ℕ)
  pub failed : Bool
  pub pieces : BufferedOut

-- the state of a writer and the buffer with these parts
abbrev pub at : Option (List ℕ) → Bool → BufferedOut → At
at contents failed pieces = record { contents = contents; failed = failed; pieces = pieces }

-- the text so far is passed on but for its end, which is buffered
pub record Holds (start : Start) (text : List ℕ) (now : At) : Type 0 where
  pub front : List ℕ
  pub text_is : text ≡ front ++ unsent_of now.pieces
  pub gone : Gone start front (at_progress now.contents now.failed now.pieces.progress)

-- whichever text was put before, `more` is put after it
abbrev pub Puts : At → At → List ℕ → Type 0
Puts old new more = (start : Start) (text : List ℕ) → Holds start text old → Holds start (text ++ more) new

-- a text that is not cut was not cut before, and its writer has not failed since; and a writer that
-- has failed stays so
pub record Stays (was_cut cut had_failed failed : Bool) : Type 0 where
  pub whole : cut ≡ false → (was_cut ≡ false) × (failed ≡ had_failed)
  pub sound : failed ≡ false → had_failed ≡ false

-- nothing is buffered, and nothing was passed on
pub record IsEmpty (pieces : BufferedOut) : Type 0 where
  pub unsent : unsent_of pieces ≡ []
  pub written : written_of pieces ≡ 0
  pub whole : is_cut pieces ≡ false

-- at the end of the text, the writer has received all of it; or the text is cut
abbrev pub EndsText : Start → List ℕ → Option (List ℕ) → Bool → Result ℕ ShortWrite → Type 0
EndsText start text contents failed (Ok count) = Appends start.contents contents text × (count ≡ length text) × (failed ≡ start.failed)
EndsText start text contents failed (Err short) = IsCutAt start text contents failed short.written

-- whichever text was put before, this is the result at its end
abbrev pub Ends : At → Option (List ℕ) → Bool → Result ℕ ShortWrite → Type 0
Ends old contents failed result = (start : Start) (text : List ℕ) → Holds start text old → EndsText start text contents failed result
