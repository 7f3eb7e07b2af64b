-- What `next_line` answered where it read no encoder instruction.
use Rattle.std.proofs.Common.{◌≡◌, Option, None, Result, Ok, Err, ap}
use Rattle.qpack_base.specs.Cursor.{CursorView}
use Rattle.qpack_base.specs.declared.parse_error.ParseError.{ParseError}
use Rattle.qpack_base.specs.declared.parse_error.ParseError.TheVariants.{Memory}
use Rattle.qpack_spec.specs.Form.{Truncates}
use Rattle.qpack_spec.specs.Instruction.{SpellsEncoderInstruction, encoder_instruction_form}
use Rattle.qpack_spec.specs.Table.{Table}
use Rattle.qpack_wire.specs.Memory.{AsksForMemory}
use Rattle.qpack_wire.specs.StreamAnswers.{DecodesInstruction, ReadsStream}
use Rattle.qpack_wire.specs.StreamLines.{RefusesEncoderLine, encoder_instruction_of, encoder_instruction_at}
use Rattle.qpack_wire.specs.declared.stream.encoder_stream.EncoderLine.{EncoderLine}
use Rattle.qpack_codec.specs.Errors.{decoder_error_of_parse}
use Rattle.qpack_codec.specs.Receiving.{Stops}
use Rattle.qpack_codec.proofs.Instructions.{stops_at_bytes, truncated_form}

abbrev refused_line : ParseError → Result (Option EncoderLine) ParseError
refused_line e = Err e

-- an error stops at the bytes
pub line_refused : (t : Table) (old new : CursorView) (e : ParseError)
    → DecodesInstruction encoder_instruction_of SpellsEncoderInstruction RefusesEncoderLine old new (Err e)
    → (refused_line e ≡ refused_line Memory → AsksForMemory encoder_instruction_form old.rest)
    → ReadsStream encoder_instruction_of old new (Err e) (encoder_instruction_at old.rest)
    → Stops t old.rest old.rest (decoder_error_of_parse e)
line_refused t old new e decodes asks exact =
    stops_at_bytes t old.rest e (encoder_instruction_at old.rest) exact
    (λ m. asks (ap refused_line m)) (λ fault whole told. (decodes.refused fault).0 whole told)

-- none is the front of one
pub no_line : (old new : CursorView) (o : Option EncoderLine) → o ≡ None
    → DecodesInstruction encoder_instruction_of SpellsEncoderInstruction RefusesEncoderLine old new (Ok o)
    → Truncates encoder_instruction_form old.rest
no_line old new o none decodes =
    truncated_form old.rest (decodes.truncated.0 (ap (λ (x : Option EncoderLine). Ok x) none))
