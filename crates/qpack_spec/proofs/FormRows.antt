-- Worked rows of lines, instructions, decoder instructions and prefixes in bytes, computed by the definitions.
use Rattle.std.proofs.Common.{ℕ, ◌-◌, ◌^◌, ◌≡◌, true, false, List, [], ◌∷◌, None, Some, Result, Ok, Err, refl}
use Rattle.std.specs.Prelude.{codes, negsuc}
use Rattle.qpack_spec.specs.Integer.{Overflow, UnexpectedEnd}
use Rattle.qpack_spec.specs.Huffman.{MissingBits, Unhandled}
use Rattle.qpack_spec.specs.Text.{EndsEarly, LengthOverflows, BadHuffman, WhereShorter}
use Rattle.qpack_spec.specs.Form.{Index, IndexAndValue, NameAndValue, FormFault, BadInteger, BadString, form_at}
use Rattle.qpack_spec.specs.Line.{Line, IndexedStatic, IndexedDynamic, IndexedPostBase, NamedStatic, NamedDynamic}
use Rattle.qpack_spec.specs.Line.{NamedPostBase, Literal, line_form, coded_line, written_line}
use Rattle.qpack_spec.specs.Instruction.{EncoderInstruction, InsertStaticName, InsertDynamicName, InsertLiteralName}
use Rattle.qpack_spec.specs.Instruction.{Duplicate, SetCapacity, DecoderInstruction, Acknowledgment, Cancellation}
use Rattle.qpack_spec.specs.Instruction.{Increment, encoder_instruction_form, decoder_instruction_form}
use Rattle.qpack_spec.specs.Instruction.{coded_encoder_instruction, written_encoder_instruction, written_decoder_instruction}
use Rattle.qpack_spec.specs.Prefix.{Prefix, OutOfRange, BelowZero, prefix_for, read_prefix, read_strict_prefix}
use Rattle.qpack_spec.specs.Prefix.{written_prefix, prefix_at}
use Rattle.qpack_spec.specs.Table.{insert_count}
use Rattle.qpack_spec.proofs.Computing.{computed}

-- what was read, and how many bytes were left
line_at : List ℕ → Result (Line × List ℕ) FormFault
line_at bytes = form_at line_form bytes

instruction_at : List ℕ → Result (EncoderInstruction × List ℕ) FormFault
instruction_at bytes = form_at encoder_instruction_form bytes

decoder_instruction_at : List ℕ → Result (DecoderInstruction × List ℕ) FormFault
decoder_instruction_at bytes = form_at decoder_instruction_form bytes

prefix_of : ℕ → ℕ → Prefix
prefix_of insert_count delta = record { count = insert_count; sign = false; delta = delta }

-- all that has to unfold
rows : ℕ
unfolding computed line_at instruction_at decoder_instruction_at prefix_of
rows = 0

-- an insertion without a name reference
write_insert : (written_encoder_instruction (InsertLiteralName (codes "foo") (codes "bar")))
    ≡ 98 ∷ 148 ∷ 231 ∷ 131 ∷ 140 ∷ 118 ∷ 127 ∷ []
unfolding rows
write_insert = refl

-- the same where a string is coded only if that makes it shorter: the name is coded, the value plain
write_insert_plain : (coded_encoder_instruction WhereShorter (InsertLiteralName (codes "foo") (codes "#")))
    ≡ 98 ∷ 148 ∷ 231 ∷ 1 ∷ 35 ∷ []
unfolding rows
write_insert_plain = refl

-- the capacity 4096
write_capacity : (written_encoder_instruction (SetCapacity 4096)) ≡ 63 ∷ 225 ∷ 31 ∷ []
unfolding rows
write_capacity = refl

-- a duplicate
write_duplicate : (written_encoder_instruction (Duplicate 0)) ≡ 0 ∷ []
unfolding rows
write_duplicate = refl

-- an insertion by a static name
write_insert_static : (written_encoder_instruction (InsertStaticName 1 (codes "bar")))
    ≡ 193 ∷ 131 ∷ 140 ∷ 118 ∷ 127 ∷ []
unfolding rows
write_insert_static = refl

-- the same by a plain value, which the code makes no shorter
write_insert_static_plain : (coded_encoder_instruction WhereShorter (InsertStaticName 1 (codes "a!")))
    ≡ 193 ∷ 2 ∷ 97 ∷ 33 ∷ []
unfolding rows
write_insert_static_plain = refl

-- an insertion by the name of an entry
write_insert_dynamic : (written_encoder_instruction (InsertDynamicName 1 (codes "new bar3")))
    ≡ 129 ∷ 134 ∷ 168 ∷ 190 ∷ 20 ∷ 140 ∷ 118 ∷ 51 ∷ []
unfolding rows
write_insert_dynamic = refl

-- a cancellation
write_cancellation : (written_decoder_instruction (Cancellation 2321)) ≡ 127 ∷ 210 ∷ 17 ∷ []
unfolding rows
write_cancellation = refl

-- an acknowledgment
write_acknowledgment : (written_decoder_instruction (Acknowledgment 4)) ≡ 132 ∷ []
unfolding rows
write_acknowledgment = refl

-- an increment of 64
write_increment_64 : (written_decoder_instruction (Increment 64)) ≡ 63 ∷ 1 ∷ []
unfolding rows
write_increment_64 = refl

-- an increment of 63
write_increment_63 : (written_decoder_instruction (Increment 63)) ≡ 63 ∷ 0 ∷ []
unfolding rows
write_increment_63 = refl

-- a static line
write_static : (written_line (IndexedStatic 17)) ≡ 209 ∷ []
unfolding rows
write_static = refl

-- a line by a static name
write_age : (written_line (NamedStatic 2 (codes "1"))) ≡ 82 ∷ 129 ∷ 15 ∷ []
unfolding rows
write_age = refl

-- one whose index is past the prefix
write_status : (written_line (NamedStatic 24 (codes "201"))) ≡ 95 ∷ 9 ∷ 130 ∷ 16 ∷ 3 ∷ []
unfolding rows
write_status = refl

-- a literal
write_literal : (written_line (Literal (codes "foo") (codes "bar"))) ≡ 42 ∷ 148 ∷ 231 ∷ 131 ∷ 140 ∷ 118 ∷ 127 ∷ []
unfolding rows
write_literal = refl

-- the same where a string is coded only if that makes it shorter: a plain name under a plain value, a coded value under
-- a static name, and plain values under a static name, an entry's before the base and one's after it
write_literal_plain : (coded_line WhereShorter (Literal (codes "#") (codes "a!"))) ≡ 33 ∷ 35 ∷ 2 ∷ 97 ∷ 33 ∷ []
unfolding rows
write_literal_plain = refl

write_named_coded : (coded_line WhereShorter (NamedStatic 2 (codes "foo"))) ≡ 82 ∷ 130 ∷ 148 ∷ 231 ∷ []
unfolding rows
write_named_coded = refl

write_named_plain : (coded_line WhereShorter (NamedStatic 2 (codes "1"))) ≡ 82 ∷ 1 ∷ 49 ∷ []
unfolding rows
write_named_plain = refl

write_dynamic_plain : (coded_line WhereShorter (NamedDynamic 1 (codes "#"))) ≡ 65 ∷ 1 ∷ 35 ∷ []
unfolding rows
write_dynamic_plain = refl

write_post_base_plain : (coded_line WhereShorter (NamedPostBase 1 [])) ≡ 1 ∷ 0 ∷ []
unfolding rows
write_post_base_plain = refl

-- an insertion is read, and what follows is left
read_insert : (instruction_at (98 ∷ 148 ∷ 231 ∷ 131 ∷ 140 ∷ 118 ∷ 127 ∷ 0 ∷ []))
    ≡ Ok (InsertLiteralName (codes "foo") (codes "bar"), 0 ∷ [])
unfolding rows
read_insert = refl

-- then a duplicate
read_duplicate : (instruction_at (0 ∷ [])) ≡ Ok (Duplicate 0, [])
unfolding rows
read_duplicate = refl

-- then nothing
read_nothing : (instruction_at ([])) ≡ Err (BadInteger UnexpectedEnd)
unfolding rows
read_nothing = refl

-- a payload of eight ones is refused as soon as it is whole
read_padding : (instruction_at (97 ∷ 255 ∷ [])) ≡ Err (BadString (BadHuffman MissingBits))
unfolding rows
read_padding = refl

-- an instruction without its value is cut, whatever its index
read_cut_value : (instruction_at (255 ∷ 249 ∷ 22 ∷ [])) ≡ Err (BadString EndsEarly)
unfolding rows
read_cut_value = refl

-- with its value it is whole
read_index : (instruction_at (255 ∷ 249 ∷ 22 ∷ 128 ∷ [])) ≡ Ok (InsertStaticName 3000 [], [])
unfolding rows
read_index = refl

-- an increment of 64
read_decoder_instructions_64 : (decoder_instruction_at (63 ∷ 1 ∷ [])) ≡ Ok (Increment 64, [])
unfolding rows
read_decoder_instructions_64 = refl

-- trailing groups of zero are accepted
read_decoder_instructions_63 : (decoder_instruction_at (63 ∷ 128 ∷ 0 ∷ [])) ≡ Ok (Increment 63, [])
unfolding rows
read_decoder_instructions_63 = refl

-- an increment of 65
read_decoder_instructions_65 : (decoder_instruction_at (63 ∷ 2 ∷ [])) ≡ Ok (Increment 65, [])
unfolding rows
read_decoder_instructions_65 = refl

-- nine further bytes that go on
read_overflow : (decoder_instruction_at (63 ∷ 255 ∷ 255 ∷ 255 ∷ 255 ∷ 255 ∷ 255 ∷ 255 ∷ 255 ∷ 255 ∷ []))
    ≡ Err (BadInteger Overflow)
unfolding rows
read_overflow = refl

-- eight of them are truncation
read_truncated_overflow : (decoder_instruction_at (63 ∷ 255 ∷ 255 ∷ 255 ∷ 255 ∷ 255 ∷ 255 ∷ 255 ∷ 255 ∷ []))
    ≡ Err (BadInteger UnexpectedEnd)
unfolding rows
read_truncated_overflow = refl

-- a cut increment
read_cut : (decoder_instruction_at (63 ∷ [])) ≡ Err (BadInteger UnexpectedEnd)
unfolding rows
read_cut = refl

-- a cut cancellation
read_cut_cancellation : (decoder_instruction_at (127 ∷ 210 ∷ [])) ≡ Err (BadInteger UnexpectedEnd)
unfolding rows
read_cut_cancellation = refl

-- N is dropped: a line by a static name
read_never_indexed : (line_at (113 ∷ 128 ∷ [])) ≡ Ok (NamedStatic 1 [], [])
unfolding rows
read_never_indexed = refl

-- by a post-base name
read_never_indexed_post_base : (line_at (8 ∷ 128 ∷ [])) ≡ Ok (NamedPostBase 0 [], [])
unfolding rows
read_never_indexed_post_base = refl

-- and a literal
read_never_indexed_literal : (line_at (56 ∷ 128 ∷ [])) ≡ Ok (Literal [] [], [])
unfolding rows
read_never_indexed_literal = refl

-- a cut static index
read_cut_line : (line_at (255 ∷ [])) ≡ Err (BadInteger UnexpectedEnd)
unfolding rows
read_cut_line = refl

-- a cut name is a fault of its string
read_cut_name : (line_at (39 ∷ [])) ≡ Err (BadString EndsEarly)
unfolding rows
read_cut_name = refl

-- and so is a cut length
read_cut_name_length : (line_at (39 ∷ 255 ∷ 255 ∷ 255 ∷ 255 ∷ 255 ∷ 255 ∷ 255 ∷ 255 ∷ 127 ∷ []))
    ≡ Err (BadString EndsEarly)
unfolding rows
read_cut_name_length = refl

-- a length that overflows
read_name_overflow : (line_at (39 ∷ 255 ∷ 255 ∷ 255 ∷ 255 ∷ 255 ∷ 255 ∷ 255 ∷ 255 ∷ 255 ∷ []))
    ≡ Err (BadString LengthOverflows)
unfolding rows
read_name_overflow = refl

-- thirty ones in a value
read_eos : (line_at (81 ∷ 132 ∷ 255 ∷ 255 ∷ 255 ∷ 255 ∷ [])) ≡ Err (BadString (BadHuffman Unhandled))
unfolding rows
read_eos = refl

-- required 10, base 5
prefix_written : (written_prefix (prefix_for 4096 10 5)) ≡ 11 ∷ 132 ∷ []
unfolding rows
prefix_written = refl

-- is read back
prefix_read : (prefix_at (11 ∷ 132 ∷ [])) ≡ Ok (record { count = 11; sign = true; delta = 4 }, [])
unfolding rows
prefix_read = refl

-- as required 10 and base 5
prefix_get : (read_prefix 13 3332 (record { count = 11; sign = true; delta = 4 })) ≡ Ok (10, 5)
unfolding rows
prefix_get = refl

-- a base below 0
prefix_below : (read_prefix 2 4096 (record { count = 3; sign = true; delta = 2 })) ≡ Err (BelowZero (negsuc 0))
unfolding rows
prefix_below = refl

-- count 200 at total 0 and capacity 4096
count_0 : (read_prefix 0 4096 (prefix_of 200 0)) ≡ Err OutOfRange
unfolding rows
count_0 = refl

-- count 1 at total 0 and capacity 4096
count_1 : (read_prefix 0 4096 (prefix_of 1 0)) ≡ Err OutOfRange
unfolding rows
count_1 = refl

-- count 257 at total 0 and capacity 4096
count_2 : (read_prefix 0 4096 (prefix_of 257 0)) ≡ Err OutOfRange
unfolding rows
count_2 = refl

-- count 256 at total 200 and capacity 4096
count_3 : (read_prefix 200 4096 (prefix_of 256 0)) ≡ Ok (255, 255)
unfolding rows
count_3 = refl

-- count 1 at total 0 and capacity 31
count_4 : (read_prefix 0 31 (prefix_of 1 0)) ≡ Err OutOfRange
unfolding rows
count_4 = refl

-- count 0 at total 0 and capacity 31
count_5 : (read_prefix 0 31 (prefix_of 0 0)) ≡ Ok (0, 0)
unfolding rows
count_5 = refl

-- count 2 at total 0 and capacity 32
count_6 : (read_prefix 0 32 (prefix_of 2 0)) ≡ Ok (1, 1)
unfolding rows
count_6 = refl

-- where nothing is required, whatever base was read
prefix_delta_of_none : (read_prefix 0 4096 (record { count = 0; sign = false; delta = 5 })) ≡ Ok (0, 0)
unfolding rows
prefix_delta_of_none = refl

-- with the sign bit too
prefix_sign_of_none : (read_prefix 0 4096 (record { count = 0; sign = true; delta = 0 })) ≡ Ok (0, 0)
unfolding rows
prefix_sign_of_none = refl

-- capacity 0: whatever was read
prefix_capacity_0 : (read_prefix 7 0 (prefix_of 3 0)) ≡ Ok (0, 0)
unfolding rows
prefix_capacity_0 = refl

-- with the sign bit too
prefix_sign_at_0 : (read_prefix 7 0 (record { count = 3; sign = true; delta = 2 })) ≡ Ok (0, 0)
unfolding rows
prefix_sign_at_0 = refl

-- a strict decoder refuses the sign bit where nothing is required (section 4.5.1.2)
strict_sign_of_none : (read_strict_prefix 0 4096 (record { count = 0; sign = true; delta = 0 }))
    ≡ Err (BelowZero (negsuc 0))
unfolding rows
strict_sign_of_none = refl

-- at capacity 0 too
strict_sign_at_0 : (read_strict_prefix 7 0 (record { count = 3; sign = true; delta = 2 })) ≡ Err (BelowZero (negsuc 2))
unfolding rows
strict_sign_at_0 = refl

-- and a delta without it means nothing there
strict_delta_of_none : (read_strict_prefix 0 4096 (record { count = 0; sign = false; delta = 5 })) ≡ Ok (0, 0)
unfolding rows
strict_delta_of_none = refl

-- where something is required it reads the base as any reader does
strict_get : (read_strict_prefix 13 3332 (record { count = 11; sign = true; delta = 4 })) ≡ Ok (10, 5)
unfolding rows
strict_get = refl

-- required 0 writes 00 00 whatever the base
prefix_no_base : (written_prefix (prefix_for 4096 0 9)) ≡ 0 ∷ 0 ∷ []
unfolding rows
prefix_no_base = refl

-- a base far below 0 is held at the least number
prefix_far_below : (read_prefix 1 4096 (record { count = 2; sign = true; delta = 9223372036854775934 }))
    ≡ Err (BelowZero (negsuc 9223372036854775807))
unfolding rows
prefix_far_below = refl

-- a required insert count past 64 bits
prefix_great_total : (read_prefix (2 ^ 64 - 1) 4096 (prefix_of 1 0)) ≡ Err OutOfRange
unfolding rows
prefix_great_total = refl

-- the last first byte of a form
first_bits_0 : (line_form 15) ≡ Some (IndexAndValue 3 NamedPostBase)
unfolding rows
first_bits_0 = refl

-- the last first byte of a form
first_bits_1 : (line_form 31) ≡ Some (Index 4 IndexedPostBase)
unfolding rows
first_bits_1 = refl

-- the last first byte of a form
first_bits_2 : (line_form 63) ≡ Some (NameAndValue 4 Literal)
unfolding rows
first_bits_2 = refl

-- the last first byte of a form
first_bits_4 : (line_form 79) ≡ Some (IndexAndValue 4 NamedDynamic)
unfolding rows
first_bits_4 = refl

-- the last first byte of a form
first_bits_5 : (line_form 95) ≡ Some (IndexAndValue 4 NamedStatic)
unfolding rows
first_bits_5 = refl

-- the last first byte of a form
first_bits_6 : (line_form 111) ≡ Some (IndexAndValue 4 NamedDynamic)
unfolding rows
first_bits_6 = refl

-- the last first byte of a form
first_bits_7 : (line_form 127) ≡ Some (IndexAndValue 4 NamedStatic)
unfolding rows
first_bits_7 = refl

-- the last first byte of a form
first_bits_10 : (line_form 191) ≡ Some (Index 6 IndexedDynamic)
unfolding rows
first_bits_10 = refl

-- the last first byte of a form
first_bits_11 : (line_form 255) ≡ Some (Index 6 IndexedStatic)
unfolding rows
first_bits_11 = refl

-- the last first byte of a form
no_byte : (line_form 256) ≡ None
unfolding rows
no_byte = refl
