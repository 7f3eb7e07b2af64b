-- What a reader of encoder instructions returns that keeps no texts above a length (RFC 9204, sections 3.2.2 and 4.3).
use Rattle.std.specs.Prelude.{◌≡◌, ℕ, ◌+◌, ◌<◌, ◌≤◌, List, length, Option, None, Some, Result, Ok, Err, vec_capacity}
use Rattle.qpack_spec.specs.Instruction.{EncoderInstruction, InsertStaticName, InsertDynamicName, InsertLiteralName}
use Rattle.qpack_spec.specs.Instruction.{SpellsEncoderInstruction}
use Rattle.qpack_base.specs.Cursor.{CursorView}
use Rattle.qpack_base.specs.declared.parse_error.ParseError.{ParseError}
use Rattle.qpack_wire.specs.Alone.{KindFault}
use Rattle.qpack_wire.specs.Answers.{FailsForm}
use Rattle.qpack_wire.specs.StreamAnswers.{DecodesInstruction, ReadsStream}
use Rattle.qpack_wire.specs.StreamLines.{RefusesEncoderLine, encoder_instruction_of, encoder_instruction_at}
use Rattle.qpack_wire.specs.declared.stream.bounded.BoundedLine.{BoundedLine}
use Rattle.qpack_wire.specs.declared.stream.bounded.BoundedLine.TheVariants.{Whole, TooLong}
use Rattle.qpack_wire.specs.declared.stream.bounded.NameSource.{NameSource}
use Rattle.qpack_wire.specs.declared.stream.bounded.NameSource.TheVariants as source
use Rattle.qpack_wire.specs.declared.stream.encoder_instructions.InsertWithNameRef.TheVariants as names
use Rattle.qpack_wire.specs.declared.stream.encoder_stream.EncoderLine.TheVariants as line

-- an insertion whose name is from here, and that spells more than `most` bytes of a name and a value
abbrev pub IsLong : ℕ → NameSource → EncoderInstruction → Type 0
IsLong most (source.Static index) i = (value : List ℕ) × (i ≡ InsertStaticName index value) × (most < length value)
IsLong most (source.Dynamic index) i = (value : List ℕ) × (i ≡ InsertDynamicName index value) × (most < length value)
IsLong most source.Literal i =
    (name : List ℕ) × (value : List ℕ) × (i ≡ InsertLiteralName name value) × (most < length name + length value)

-- what is kept of an instruction
abbrev pub IsBounded : ℕ → BoundedLine → EncoderInstruction → Type 0
IsBounded most (Whole l) i = i ≡ encoder_instruction_of l
IsBounded most (TooLong from) i = IsLong most from i

-- its texts have room for at most `most` bytes each
abbrev pub KeepsWithin : ℕ → BoundedLine → Type 0
KeepsWithin most (Whole (line.InsertWithNameRef (names.Static index value))) = vec_capacity value ≤ most
KeepsWithin most (Whole (line.InsertWithNameRef (names.Dynamic index value))) = vec_capacity value ≤ most
KeepsWithin most (Whole (line.InsertWithoutNameRef l)) = (vec_capacity l.name ≤ most) × (vec_capacity l.value ≤ most)
KeepsWithin most l = Unit {0}

-- the result is what is kept of the instruction that was read, and the cursor is after it; or it is the fault
abbrev pub ReadsBounded : ℕ → CursorView → CursorView → Result BoundedLine ParseError
    → Result (EncoderInstruction × List ℕ) KindFault → Type 0
ReadsBounded most old new (Ok l) read =
    ((i : EncoderInstruction) × IsBounded most l i × (read ≡ Ok (i, new.rest))) × (new.total ≡ old.total)
ReadsBounded most old new (Err e) read = FailsForm e read

-- a result of such a reader, and one of a reader that keeps every text
abbrev pub AreOfOne : ℕ → Result (Option BoundedLine) ParseError → Result (Option EncoderInstruction) ParseError
    → Type 0
AreOfOne most (Ok None) told = told ≡ Ok None
AreOfOne most (Ok (Some l)) told = (i : EncoderInstruction) × IsBounded most l i × (told ≡ Ok (Some i))
AreOfOne most (Err e) told = told ≡ Err e

-- the result is what is kept of one which decodes exactly the spellings, reports each refusal, and is none if the bytes
-- are truncated
pub record DecodesBounded (most : ℕ) (old new : CursorView) (r : Result (Option BoundedLine) ParseError)
    : Type 0 where
  pub told : Result (Option EncoderInstruction) ParseError
  pub kept : AreOfOne most r told
  pub decodes : DecodesInstruction (λ i. i) SpellsEncoderInstruction RefusesEncoderLine old new told
  -- the clauses above as one function, which reads from left to right
  pub exact : ReadsStream (λ i. i) old new told (encoder_instruction_at old.rest)
