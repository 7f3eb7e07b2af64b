-- A call of a connection in bytes that is refused leaves a session of values: if memory is refused, what was done
-- before it stays (RFC 9204, sections 2.1 and 4.3.1).
use Rattle.std.specs.Prelude.{◌≡◌, ◌<◌, ◌≤◌, ◌^◌, ℕ, ◌⊎◌, List, ◌++◌, length, Err}
use Rattle.std.specs.List.{AllByRecursion}
use Rattle.qpack_spec.specs.Field.{FieldLine, fields_of_lines}
use Rattle.qpack_spec.specs.WrittenLaws.{IsByteField}
use Rattle.qpack_safety.specs.AbstractSession.{abstract_start}
use Rattle.qpack_safety.specs.TwoEnds.{EndStep, after_end_steps}
use Rattle.qpack_decoding.specs.declared.decoder.DecodingError.{DecodingError}
use Rattle.qpack_decoding.specs.declared.decoder.DecodingError.TheVariants as decoding
use Rattle.qpack_encoding.specs.declared.encoder.EncodingError.{EncodingError}
use Rattle.qpack_encoding.specs.declared.encoder.EncodingError.TheVariants as encoding
use Rattle.qpack_connection.specs.Connections.{Connection, EncodesOn, SetsCapacityOn, ShrinksOn, CancelsOn}
use Rattle.qpack_encoding.specs.Encoders.{IsSound, StopsTelling, StopsShrinking}
use Rattle.qpack_connection.specs.RefinedConnections.{RefinesSession}
use Rattle.qpack_connection.specs.RefinedStreams.{IsOpen}

-- why a section is not encoded: memory is refused, or no stream has this number
abbrev pub StopsEncoding : ℕ → EncodingError → Type 0
StopsEncoding s e = (e ≡ encoding.Memory) ⊎ ((e ≡ encoding.NoStream s) × (2 ^ 62 ≤ s))

-- a section that is not encoded is given up by the session after some of its fields, or nothing is done
abbrev pub RefusedEncodesAreRefined : Type 0
RefusedEncodesAreRefined =
    (maximum limit : ℕ) (c new : Connection) (steps : List EndStep) (s : ℕ) (fields : List FieldLine) (e : EncodingError)
    → RefinesSession maximum c (after_end_steps steps (abstract_start 0 maximum limit)) → IsOpen c
    → IsSound c.encoder → AllByRecursion IsByteField (fields_of_lines fields)
    → length new.encoder_stream.written < 2 ^ 63 → EncodesOn c new s fields (Err e)
    → StopsEncoding s e × IsOpen new × (more : List EndStep)
    × RefinesSession maximum new (after_end_steps (steps ++ more) (abstract_start 0 maximum limit))

-- a capacity that is not set changes nothing
abbrev pub RefusedCapacitiesAreRefined : Type 0
RefusedCapacitiesAreRefined =
    (maximum limit : ℕ) (c new : Connection) (steps : List EndStep) (capacity : ℕ) (e : EncodingError)
    → RefinesSession maximum c (after_end_steps steps (abstract_start 0 maximum limit)) → IsOpen c
    → SetsCapacityOn c new capacity (Err e)
    → StopsTelling c.encoder.table capacity e × IsOpen new
    × RefinesSession maximum new (after_end_steps steps (abstract_start 0 maximum limit))

-- nor does one that neither is set nor waits
abbrev pub RefusedShrinksAreRefined : Type 0
RefusedShrinksAreRefined =
    (maximum limit : ℕ) (c new : Connection) (steps : List EndStep) (capacity : ℕ) (e : EncodingError)
    → RefinesSession maximum c (after_end_steps steps (abstract_start 0 maximum limit)) → IsOpen c
    → ShrinksOn c new capacity (Err e)
    → StopsShrinking c.encoder.table capacity e × IsOpen new
    × RefinesSession maximum new (after_end_steps steps (abstract_start 0 maximum limit))

-- why a stream is not cancelled
abbrev pub StopsCancelling : ℕ → DecodingError → Type 0
StopsCancelling s e = (e ≡ decoding.Memory) ⊎ ((e ≡ decoding.NoStream s) × (2 ^ 62 ≤ s))

-- nor does a stream that is not cancelled
abbrev pub RefusedCancellationsAreRefined : Type 0
RefusedCancellationsAreRefined =
    (maximum limit : ℕ) (c new : Connection) (steps : List EndStep) (s : ℕ) (e : DecodingError)
    → RefinesSession maximum c (after_end_steps steps (abstract_start 0 maximum limit)) → IsOpen c
    → CancelsOn c new s (Err e)
    → StopsCancelling s e × IsOpen new
    × RefinesSession maximum new (after_end_steps steps (abstract_start 0 maximum limit))
