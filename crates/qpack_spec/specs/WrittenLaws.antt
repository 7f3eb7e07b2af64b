-- What is written of lines, encoder instructions and decoder instructions is a spelling, so that it is read back whole;
-- the crate's law functions promise it.
use Rattle.std.specs.Prelude.{◌≡◌, ℕ, ◌^◌, ◌<◌, List, length}
use Rattle.std.specs.List.{AllByRecursion}
use Rattle.qpack_spec.specs.Prefix.{Prefix, SpellsPrefix, written_prefix}
use Rattle.qpack_spec.specs.Window.{Window}
use Rattle.qpack_spec.specs.Reading.{Block, reading}
use Rattle.qpack_spec.specs.BlockReading.{reading_of_bytes, coded_block}
use Rattle.qpack_spec.specs.Field.{Field}
use Rattle.qpack_spec.specs.Huffman.{AreBytes}
use Rattle.qpack_spec.specs.Text.{Coding, Always, payload_under}
use Rattle.qpack_spec.specs.Line.{Line, IndexedStatic, IndexedDynamic, IndexedPostBase, NamedStatic, NamedDynamic}
use Rattle.qpack_spec.specs.Line.{NamedPostBase, Literal, SpellsLine, coded_line}
use Rattle.qpack_spec.specs.Instruction.{EncoderInstruction, InsertStaticName, InsertDynamicName, InsertLiteralName}
use Rattle.qpack_spec.specs.Instruction.{Duplicate}
use Rattle.qpack_spec.specs.Instruction.{SetCapacity, DecoderInstruction, Acknowledgment, Cancellation, Increment}
use Rattle.qpack_spec.specs.Instruction.{SpellsEncoderInstruction}
use Rattle.qpack_spec.specs.Instruction.{SpellsDecoderInstruction, coded_encoder_instruction}
use Rattle.qpack_spec.specs.Instruction.{written_decoder_instruction}

-- the numbers that are written are below 2^63; those of this layer end at 2^62
abbrev pub IsSmall : ℕ → Type 0
IsSmall n = n < 2 ^ 63

-- a text that can be written under a coding: bytes, with a payload of fewer than 2^63 of them
pub record IsWritableUnder (coding : Coding) (encoding : List ℕ) : Type 0 where
  pub bytes : AreBytes encoding
  pub size : length (payload_under coding encoding) < 2 ^ 63

-- the field can be written, whichever of its parts are
abbrev pub IsWritableFieldUnder : Coding → Field → Type 0
IsWritableFieldUnder coding f = IsWritableUnder coding f.name × IsWritableUnder coding f.value

-- the line can be written
abbrev pub IsWritableLineUnder : Coding → Line → Type 0
IsWritableLineUnder coding (IndexedStatic index) = IsSmall index
IsWritableLineUnder coding (IndexedDynamic relative) = IsSmall relative
IsWritableLineUnder coding (IndexedPostBase post_base) = IsSmall post_base
IsWritableLineUnder coding (NamedStatic index value) = IsSmall index × IsWritableUnder coding value
IsWritableLineUnder coding (NamedDynamic relative value) = IsSmall relative × IsWritableUnder coding value
IsWritableLineUnder coding (NamedPostBase post_base value) = IsSmall post_base × IsWritableUnder coding value
IsWritableLineUnder coding (Literal name value) = IsWritableUnder coding name × IsWritableUnder coding value

-- the encoder instruction can be written
abbrev pub IsWritableInstructionUnder : Coding → EncoderInstruction → Type 0
IsWritableInstructionUnder coding (InsertStaticName index value) = IsSmall index × IsWritableUnder coding value
IsWritableInstructionUnder coding (InsertDynamicName relative value) =
    IsSmall relative × IsWritableUnder coding value
IsWritableInstructionUnder coding (InsertLiteralName name value) =
    IsWritableUnder coding name × IsWritableUnder coding value
IsWritableInstructionUnder coding (Duplicate relative) = IsSmall relative
IsWritableInstructionUnder coding (SetCapacity capacity) = IsSmall capacity

-- the decoder instruction can be written
abbrev pub IsWritableDecoderInstruction : DecoderInstruction → Type 0
IsWritableDecoderInstruction (Acknowledgment stream) = IsSmall stream
IsWritableDecoderInstruction (Cancellation stream) = IsSmall stream
IsWritableDecoderInstruction (Increment by) = IsSmall by

-- name and value are bytes
abbrev pub IsByteField : Field → Type 0
IsByteField f = AreBytes f.name × AreBytes f.value

-- the numbers of the line are small, its strings bytes
abbrev pub IsByteLine : Line → Type 0
IsByteLine (IndexedStatic index) = IsSmall index
IsByteLine (IndexedDynamic relative) = IsSmall relative
IsByteLine (IndexedPostBase post_base) = IsSmall post_base
IsByteLine (NamedStatic index value) = IsSmall index × AreBytes value
IsByteLine (NamedDynamic relative value) = IsSmall relative × AreBytes value
IsByteLine (NamedPostBase post_base value) = IsSmall post_base × AreBytes value
IsByteLine (Literal name value) = AreBytes name × AreBytes value

-- the numbers of the encoder instruction are small, its strings bytes
abbrev pub IsByteEncoderInstruction : EncoderInstruction → Type 0
IsByteEncoderInstruction (InsertStaticName index value) = IsSmall index × AreBytes value
IsByteEncoderInstruction (InsertDynamicName relative value) = IsSmall relative × AreBytes value
IsByteEncoderInstruction (InsertLiteralName name value) = AreBytes name × AreBytes value
IsByteEncoderInstruction (Duplicate relative) = IsSmall relative
IsByteEncoderInstruction (SetCapacity capacity) = IsSmall capacity

-- the prefix can be written
pub record IsWritablePrefix (p : Prefix) : Type 0 where
  pub count : IsSmall p.count
  pub delta : IsSmall p.delta

-- the block can be written under a coding
pub record IsWritableBlockUnder (coding : Coding) (b : Block) : Type 0 where
  pub prefix : IsWritablePrefix b.prefix
  pub lines : AllByRecursion (IsWritableLineUnder coding) b.lines

-- ---- where every string is coded

abbrev pub IsWritableValue : List ℕ → Type 0
IsWritableValue encoding = IsWritableUnder Always encoding

abbrev pub IsWritableField : Field → Type 0
IsWritableField f = IsWritableFieldUnder Always f

abbrev pub IsWritableLine : Line → Type 0
IsWritableLine l = IsWritableLineUnder Always l

abbrev pub IsWritableEncoderInstruction : EncoderInstruction → Type 0
IsWritableEncoderInstruction i = IsWritableInstructionUnder Always i

abbrev pub IsWritableBlock : Block → Type 0
IsWritableBlock b = IsWritableBlockUnder Always b

-- ---- what is promised

-- what is written of a line is a spelling of it, under any coding
abbrev pub WrittenLinesAreSpellings : Type 0
WrittenLinesAreSpellings =
    (coding : Coding) (l : Line) → IsWritableLineUnder coding l → SpellsLine (coded_line coding l) l

-- what is written of an encoder instruction is a spelling of it
abbrev pub WrittenEncoderInstructionsAreSpellings : Type 0
WrittenEncoderInstructionsAreSpellings =
    (coding : Coding) (i : EncoderInstruction) → IsWritableInstructionUnder coding i
    → SpellsEncoderInstruction (coded_encoder_instruction coding i) i

-- what is written of a decoder instruction is a spelling of it
abbrev pub WrittenDecoderInstructionsAreSpellings : Type 0
WrittenDecoderInstructionsAreSpellings = (r : DecoderInstruction) → IsWritableDecoderInstruction r
    → SpellsDecoderInstruction (written_decoder_instruction r) r

-- what is written of a prefix is a spelling of it
abbrev pub WrittenPrefixesAreSpellings : Type 0
WrittenPrefixesAreSpellings = (p : Prefix) → IsWritablePrefix p → SpellsPrefix (written_prefix p) p

-- what is written of a block is read as the block, under every window
abbrev pub WrittenBlocksAreRead : Type 0
WrittenBlocksAreRead =
    (coding : Coding) (w : Window) (b : Block) → IsWritableBlockUnder coding b
    → reading_of_bytes w (coded_block coding b) ≡ reading w b
