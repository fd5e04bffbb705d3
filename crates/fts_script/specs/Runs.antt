-- What a run did to its streams: each definition says one thing about the streams before it and after it.
use Rattle.std.specs.Prelude.{ℕ, ◌≡◌, ◌+◌, ◌<◌, ◌^◌, List, ◌++◌, length}
use Rattle.fts_script.specs.Streams.{ReadsValue, StreamsValue, WritesValue, Wrote, LosesGiven, GainsTaken}
use Rattle.fts_script.specs.session.Outputs.{output}
use Rattle.fts_script.specs.Stops.{AnswersEnded, AnswersFirst, BeginsOutputUnless, StopsFirst}

-- P holds of what the run read and what it wrote.
pub record Moves (old new : StreamsValue) (P : List ℕ → List ℕ → Type 0) : Type 0 where
  pub input : List ℕ
  pub read : new.0.given ≡ old.0.given ++ input
  pub wrote : Wrote old.1.taken new.1.taken (P input)

-- A read reported the end of the input.
abbrev pub TellsEnd : ReadsValue → ReadsValue → Type 0
TellsEnd old new = old.ends < new.ends

-- The writer was flushed.
abbrev pub Flushes : WritesValue → WritesValue → Type 0
Flushes old new = old.flushes < new.flushes

-- The latest flush that succeeded had all that was written.
abbrev pub FlushesAll : WritesValue → Type 0
FlushesAll new = new.flushed ≡ new.taken

-- No call failed.
abbrev pub FailsNever : StreamsValue → StreamsValue → Type 0
FailsNever old new = (new.0.failed ≡ old.0.failed) × (new.1.failed ≡ old.1.failed)

-- One read failed, and no other call.
abbrev pub FailsRead : StreamsValue → StreamsValue → Type 0
FailsRead old new = (new.0.failed ≡ old.0.failed + 1) × (new.1.failed ≡ old.1.failed)

-- One write or flush failed, and no other call.
abbrev pub FailsWrite : StreamsValue → StreamsValue → Type 0
FailsWrite old new = (new.0.failed ≡ old.0.failed) × (new.1.failed ≡ old.1.failed + 1)

-- What was read is what the reader lost of its remaining bytes, if these are known.
abbrev pub LosesRead : ReadsValue → ReadsValue → Type 0
LosesRead old new = LosesGiven old.given new.given old.remaining new.remaining

-- What was written is what the writer gained in the bytes that it holds, if these are known.
abbrev pub GainsWritten : WritesValue → WritesValue → Type 0
GainsWritten old new = GainsTaken old.taken new.taken old.held new.held

-- What was written is the output of what was read.
abbrev pub WritesOutput : StreamsValue → StreamsValue → Type 0
WritesOutput old new = Moves old new (λ input out. out ≡ output input)

-- What was written is a beginning of the output, however the input might have gone on.
abbrev pub WritesBeginning : StreamsValue → StreamsValue → Type 0
WritesBeginning old new = Moves old new (BeginsOutputUnless (TellsEnd old.0 new.0))

-- What was written is the replies to the first lines, at least to all that ended before the last read, and the next
-- line isn't blank.
abbrev pub StopsInLastRead : StreamsValue → StreamsValue → Type 0
StopsInLastRead old new = Moves old new (StopsFirst (length new.0.latest))

-- What was written is the replies to all lines that ended.
abbrev pub WritesEnded : StreamsValue → StreamsValue → Type 0
WritesEnded old new = Moves old new AnswersEnded

-- Over 2^61 bytes were read. What was written is the replies to the first lines, at least to all that ended before the
-- last read.
abbrev pub ReadsTooMuch : StreamsValue → StreamsValue → Type 0
ReadsTooMuch old new =
    Moves old new (λ input out. AnswersFirst (length new.0.latest) input out × (2 ^ 61 < length input))
