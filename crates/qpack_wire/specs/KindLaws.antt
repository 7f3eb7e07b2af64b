-- The instructions that are read alone make up each stream, as statements; the crate's law functions promise them.
use Rattle.std.specs.Prelude.{ℕ, ◌⊎◌, ◌↔◌, List}
use Rattle.qpack_spec.specs.Instruction.{EncoderInstruction, DecoderInstruction, SpellsEncoderInstruction}
use Rattle.qpack_spec.specs.Instruction.{SpellsDecoderInstruction}
use Rattle.qpack_wire.specs.Alone.{SpellsKind}
use Rattle.qpack_wire.specs.Instructions.{insert_with_name_ref, insert_without_name_ref, duplicate}
use Rattle.qpack_wire.specs.Instructions.{dynamic_table_size_update, insert_count_increment, header_ack, stream_cancel}

-- a spelling of an encoder instruction is a spelling of one of the four kinds
abbrev pub EncodersHaveFourKinds : Type 0
EncodersHaveFourKinds =
    (encoding : List ℕ) (i : EncoderInstruction)
    → SpellsEncoderInstruction encoding i
    ↔ (SpellsKind duplicate encoding i
    ⊎ (SpellsKind dynamic_table_size_update encoding i
    ⊎ (SpellsKind insert_without_name_ref encoding i ⊎ SpellsKind insert_with_name_ref encoding i)))

-- a spelling of a decoder instruction is a spelling of one of the three kinds
abbrev pub DecodersHaveThreeKinds : Type 0
DecodersHaveThreeKinds =
    (encoding : List ℕ) (r : DecoderInstruction)
    → SpellsDecoderInstruction encoding r ↔ (SpellsKind insert_count_increment encoding r
    ⊎ (SpellsKind stream_cancel encoding r ⊎ SpellsKind header_ack encoding r))
