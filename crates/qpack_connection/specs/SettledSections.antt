-- A stream whose section was passed to the decoder is not ready again, until more insertions are received.
use Rattle.std.specs.Prelude.{◌≡◌, ℕ, List, None, Some, Result, Ok, Err}
use Rattle.qpack_spec.specs.Field.{FieldLine}
use Rattle.qpack_spec.specs.StrictReading.{strict_reading}
use Rattle.qpack_spec.specs.Table.{insert_count, window}
use Rattle.qpack_decoding.specs.Blocked.{ready}
use Rattle.qpack_decoding.specs.Decoders.{DecodingEnd, Decodes}
use Rattle.qpack_decoding.specs.declared.decoder.DecodingError.{DecodingError}
use Rattle.qpack_decoding.specs.declared.decoder.DecodingError.TheVariants.{Section}
use Rattle.qpack_decoding.specs.declared.section.Reading.{Reading}

-- the section was decoded, waits for more insertions, or is refused
abbrev pub IsSettled : Result Reading DecodingError → Type 0
IsSettled (Ok reading) = Unit {0}
IsSettled (Err (Section stream e)) = Unit {0}
IsSettled (Err e) = ⊥

-- after such a call its stream is not ready: a loop that decodes the section of each ready stream ends
abbrev pub SectionsSettle : Type 0
SectionsSettle =
    (old new : DecodingEnd) (stream : ℕ) (bytes : List ℕ) (fields : List FieldLine) (r : Result Reading DecodingError)
    → old.failure ≡ None
    → Decodes old new stream (strict_reading (window old.table) old.settings.max_section_size bytes) fields r
    → IsSettled r → ready (insert_count new.table) new.blocked ≡ Some stream → ⊥
