-- What a reader of the encoder stream that keeps a truncated instruction relies on, as statements; the crate's law
-- functions promise them (RFC 9204, sections 4.1 and 4.3).
use Rattle.std.specs.Prelude.{◌≡◌, ◌<◌, ◌≤◌, ℕ, ◌+◌, ◌*◌, List, ◌++◌, length}
use Rattle.qpack_spec.specs.Field.{field_size}
use Rattle.qpack_spec.specs.Huffman.{AreBytes}
use Rattle.qpack_spec.specs.Form.{Truncates}
use Rattle.qpack_spec.specs.Instruction.{EncoderInstruction, InsertStaticName, InsertDynamicName, InsertLiteralName}
use Rattle.qpack_spec.specs.Instruction.{Duplicate, SetCapacity, encoder_instruction_form, SpellsEncoderInstruction}
use Rattle.qpack_spec.specs.Wanted.{wanted, least_field_size}

-- a truncated instruction stays truncated until this many bytes are there
abbrev pub NothingStandsBeforeWanted : Type 0
NothingStandsBeforeWanted =
    (bytes more : List ℕ) → Truncates encoder_instruction_form bytes → length (bytes ++ more) < wanted bytes
    → Truncates encoder_instruction_form (bytes ++ more)

-- the least size of the field that an instruction inserts, with any name that it references
unfoldable pub size_of_strings : EncoderInstruction → ℕ
size_of_strings (InsertStaticName index value) = length value + 32
size_of_strings (InsertDynamicName relative value) = length value + 32
size_of_strings (InsertLiteralName name value) = field_size (record { name = name; value = value })
size_of_strings (Duplicate relative) = 0
size_of_strings (SetCapacity capacity) = 0

-- an instruction that a truncated one grows to inserts a field that is as large as that was known to be
abbrev pub FieldsAreAsLarge : Type 0
FieldsAreAsLarge =
    (bytes more encoding rest : List ℕ) (i : EncoderInstruction) → Truncates encoder_instruction_form bytes
    → bytes ++ more ≡ encoding ++ rest → SpellsEncoderInstruction encoding i
    → least_field_size bytes ≤ size_of_strings i

-- the bytes that are needed for one whose field may fit are bounded by the capacity
abbrev pub WaitingBytesAreFew : Type 0
WaitingBytesAreFew =
    (bytes : List ℕ) (capacity : ℕ) → AreBytes bytes → Truncates encoder_instruction_form bytes
    → least_field_size bytes ≤ capacity → wanted bytes ≤ 4 * capacity + 10
