-- The theorem of two ends, over calls and their results: for any calls of the two ends of a connection, in any order,
-- and with any cuts of both streams, neither end refuses what the other sent, and each section is decoded to exactly
-- what was passed to its encode (RFC 9204, sections 2 to 4).
use Rattle.std.specs.Prelude.{◌≡◌, ◌<◌, ◌≤◌, ◌^◌, ℕ, List, [], ◌∷◌, length, Result, Ok, Err}
use Rattle.std.specs.List.{AllByRecursion}
use Rattle.qpack_spec.specs.Field.{fields_of_lines}
use Rattle.qpack_spec.specs.Table.{insert_count}
use Rattle.qpack_spec.specs.WrittenLaws.{IsByteField}
use Rattle.qpack_decoding.specs.declared.decoder.DecodingError.{DecodingError}
use Rattle.qpack_decoding.specs.declared.section.Reading.{Reading}
use Rattle.qpack_decoding.specs.declared.section.Reading.TheVariants as reading
use Rattle.qpack_connection.specs.Connections.{Connection, IsNew, Call, Encode, SetCapacity, Shrink, Hear, Receive}
use Rattle.qpack_connection.specs.Connections.{Decode, Cancel, Step, Run}
use Rattle.qpack_decoding.specs.Decoders.{blocked_streams}
use Rattle.qpack_encoding.specs.Encoders.{StopsTelling, StopsShrinking}
use Rattle.qpack_encoding.specs.Risk.{streams_at_risk}
use Rattle.qpack_connection.specs.RefinedDecodes.{AnswersSection}
use Rattle.qpack_connection.specs.RefinedRefusals.{StopsEncoding, StopsCancelling}
use Rattle.qpack_connection.specs.RefinedStreams.{IsOpen, AnswersTotal}

-- a decoder that returns how many insertions it received, and received all bytes that were written so far, has all
-- insertions that were made
abbrev pub HasAll : Connection → Result ℕ DecodingError → Type 0
HasAll new (Ok total) =
    new.encoder_stream.received ≡ length new.encoder_stream.written
    → insert_count new.decoder.table ≡ insert_count new.encoder.table
HasAll new (Err e) = Unit {0}

-- a section does not wait
abbrev pub DoesNotWait : Result Reading DecodingError → Type 0
DoesNotWait (Ok (reading.Blocked required)) = ⊥
DoesNotWait answer = Unit {0}

-- what a call returns. A section is encoded, unless memory is refused or the stream number is invalid; a capacity is
-- set, unless it is above the maximum, or it would evict an entry that is still needed, or memory is refused; one that
-- may wait is set or waits, unless it is above the maximum or memory is refused; the
-- encoder refuses nothing of the decoder stream; the decoder returns how many insertions it received, or that memory is
-- refused; a section is decoded to what was passed for it, or waits, but not once all insertions were received; a
-- stream is cancelled, unless memory is refused or the stream number is invalid
abbrev pub Answers : (call : Call) (old new : Connection) → Step call old new → Type 0
Answers (Encode s fields (Ok required)) old new step = Unit {0}
Answers (Encode s fields (Err e)) old new step = StopsEncoding s e
Answers (SetCapacity capacity (Ok done)) old new step = Unit {0}
Answers (SetCapacity capacity (Err e)) old new step = StopsTelling old.encoder.table capacity e
Answers (Shrink capacity (Ok done)) old new step = Unit {0}
Answers (Shrink capacity (Err e)) old new step = StopsShrinking old.encoder.table capacity e
Answers (Hear bytes answer) old new step = answer ≡ Ok tt
Answers (Receive bytes answer) old new step = AnswersTotal new answer × HasAll new answer
Answers (Decode s fields answer) old new step =
    AnswersSection old.decoder s step.section fields answer
    × (insert_count old.decoder.table ≡ insert_count old.encoder.table → DoesNotWait answer)
Answers (Cancel s (Ok done)) old new step = Unit {0}
Answers (Cancel s (Err e)) old new step = StopsCancelling s e

-- what a call requires: the names and values of a section are bytes, and what was written of it and of the encoder
-- stream takes fewer than 2^63, as what is kept in one vector does
abbrev pub Fits : (call : Call) (old new : Connection) → Step call old new → Type 0
Fits (Encode s fields (Ok required)) old new step =
    AllByRecursion IsByteField (fields_of_lines fields) × (length new.encoder_stream.written < 2 ^ 63)
    × (length step.section < 2 ^ 63)
Fits (Encode s fields (Err e)) old new step =
    AllByRecursion IsByteField (fields_of_lines fields) × (length new.encoder_stream.written < 2 ^ 63)
Fits call old new step = Unit {0}

-- what holds between calls: no error ended an end; of no more streams than may be blocked is a section neither
-- acknowledged nor cancelled that requires insertions which are not known to be received, and no more wait at the decoder
-- (section 2.1.2); and the encoder takes no insertion for received that was not (section 2.1.4)
pub record IsWithin (most : ℕ) (c : Connection) : Type 0 where
  pub open_ends : IsOpen c
  pub blocked : length (streams_at_risk c.encoder.table) ≤ most
  pub waiting : blocked_streams c.decoder ≤ most
  pub known : c.encoder.table.known_received_count ≤ insert_count c.decoder.table

-- each call in turn asks only that
abbrev pub AllFit : (calls : List Call) (old new : Connection) → Run calls old new → Type 0
AllFit [] old new run = Unit {0}
AllFit (call ∷ calls) old new run = Fits call old run.0 run.1 × AllFit calls run.0 new run.2

-- each call in turn returns this, and this holds after it
abbrev pub AllAnswer : ℕ → (calls : List Call) (old new : Connection) → Run calls old new → Type 0
AllAnswer most [] old new run = Unit {0}
AllAnswer most (call ∷ calls) old new run =
    Answers call old run.0 run.1 × IsWithin most run.0 × AllAnswer most calls run.0 new run.2

-- for all calls from a new connection on
abbrev pub TwoEndsAnswerWhatWasHanded : Type 0
TwoEndsAnswerWhatWasHanded =
    (calls : List Call) (first last : Connection) (new : IsNew first) (run : Run calls first last)
    → AllFit calls first last run → AllAnswer new.decoder_settings.max_blocked calls first last run
