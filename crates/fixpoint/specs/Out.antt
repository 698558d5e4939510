-- What contracts see of an `Out`, which is its writer and whether a write has failed, and of a
-- `BoundedBuffer`.
use Rattle.std.specs.Prelude.{◌<◌, ℕ, Bool, List, length, take, Option}
use Rattle.std.specs.Io.KnownBytes.{Appends}
use Rattle.fixpoint.specs.declared.bounded_buffer.BoundedBuffer.{BoundedBuffer}
use Rattle.fixpoint.specs.declared.out.Out.{Out}

-- the writer of an `Out`
abbrev pub writer_of : {W : Type 0} → Out W → W
writer_of out = out.writer

-- whether a write of an `Out` has failed
abbrev pub has_failed : {W : Type 0} → Out W → Bool
has_failed out = out.failed

-- the bytes in a bounded buffer
abbrev pub held_in : BoundedBuffer → List ℕ
held_in held = held.text.items

-- the writer took this number of bytes from the start of the text, and not all of them
pub record PutsFront (text : List ℕ) (written : ℕ) (old new : Option (List ℕ)) : Type 0 where
  pub cut : written < length text
  pub appended : Appends old new (take written text)
