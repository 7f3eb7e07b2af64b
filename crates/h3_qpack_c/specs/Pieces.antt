-- What the calls over sections that come in pieces do in C.
use Rattle.std.specs.Prelude.{◌≡◌, ◌-◌, ℕ, Bool, List, length, Option, Some, Result, Ok, Err}
use Rattle.qpack_decoding.specs.declared.decoder.DecodingError.{DecodingError}
use Rattle.qpack_decoding.specs.declared.decoder.DecodingError.TheVariants.{Section, Memory}
use Rattle.qpack_decoding.specs.declared.section.SectionError.TheVariants.{Line}
use Rattle.qpack_decoding.specs.declared.section.reader.Progress.{Progress}
use Rattle.qpack_decoding.specs.declared.section.reader.Progress.TheVariants.{Waits, Prefix, Blocked, Field, Ends}
use Rattle.qpack_decoding.specs.Decoders.{end_of}
use Rattle.qpack_decoding.specs.FieldSections.{GrowsWithin, HoldsNothing}
use Rattle.qpack_decoding.specs.PieceDecoders.{ReadsPiece, NeedsMemoryForPiece, answer_to_next, next_here}
use Rattle.qpack_decoding.specs.Pieces.{KeepsWithin, fresh}
use Rattle.qpack_shared.specs.Unsent.{KeepsRoom}
use Rattle.h3_qpack_c.specs.declared.answers.Piece.{Piece}
use Rattle.h3_qpack_c.specs.declared.decoder.State.{State}
use Rattle.h3_qpack_c.specs.declared.reader.State.{State as Reader}
use Rattle.h3_qpack_c.specs.Statuses.{done, blocked, gives_field, ends, begins, of_decoding}

-- a reader at the start of a section, which has no field
pub record IsReader (stream : ℕ) (r : Reader) : Type 0 where
  pub reader : r.reader ≡ record { section = fresh stream; room = 0 }
  pub fields : HoldsNothing r.fields

-- such a reader is kept
abbrev pub KeepsReader : ℕ → Option Reader → Type 0
KeepsReader stream kept = (r : Reader) × (kept ≡ Some r) × IsReader stream r

-- the result for what a section gave, with this many bytes consumed
abbrev pub told_of_progress : Progress → ℕ → Piece
told_of_progress Waits taken = record { status = done; taken = taken; required = 0; number = 0; offset = 0 }
told_of_progress (Prefix required) taken =
    record { status = begins; taken = taken; required = required; number = 0; offset = 0 }
told_of_progress (Blocked required) taken =
    record { status = blocked; taken = taken; required = required; number = 0; offset = 0 }
told_of_progress Field taken = record { status = gives_field; taken = taken; required = 0; number = 0; offset = 0 }
told_of_progress (Ends required) taken =
    record { status = ends; taken = taken; required = required; number = 0; offset = 0 }

-- the result for a section that is not read on: the status, and where a line was rejected
abbrev pub told_of_stop : DecodingError → ℕ → Piece
told_of_stop (Section stream (Line number offset e)) taken =
    record {
      status = of_decoding (Section stream (Line number offset e));
      taken = taken;
      required = 0;
      number = number;
      offset = offset;
    }
told_of_stop e taken = record { status = of_decoding e; taken = taken; required = 0; number = 0; offset = 0 }

-- the result for a piece
abbrev pub told_of_piece : Result Progress DecodingError → ℕ → Piece
told_of_piece (Ok p) taken = told_of_progress p taken
told_of_piece (Err e) taken = told_of_stop e taken

-- a section is read on as the end does it, of which some bytes are left, and the reader keeps the field that it gives
pub record ReadsPieceTo (old new : State) (was reader : Reader) (bytes : List ℕ) (last : Bool) (told : Piece) :
    Type 0 where
  pub answer : Result Progress DecodingError
  pub left : List ℕ
  pub reads : ReadsPiece (end_of old.end) (end_of new.end) last was.reader.section reader.reader.section bytes left
      reader.fields.fields answer
  pub memory : answer ≡ Err Memory → NeedsMemoryForPiece old.end last was.reader bytes was.fields
  pub kept : KeepsWithin old.end.settings.max_section_size was.reader reader.reader
  pub unsent : KeepsRoom (length (answer_to_next was.reader.section.stream
      (next_here (end_of old.end) last was.reader.section bytes) (end_of old.end))) old.end.unsent new.end.unsent
  pub room : GrowsWithin old.end.settings.max_section_size was.fields reader.fields
  pub fields : new.fields ≡ old.fields
  pub told_is : told ≡ told_of_piece answer (length bytes - length left)
