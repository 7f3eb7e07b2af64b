-- What unfolds where a worked row is computed by the definitions.
use Rattle.std.proofs.Common.{ℕ}
use Rattle.qpack_spec.specs.Integer.{written_groups, groups_at, integer_at, written_integer}
use Rattle.qpack_spec.specs.Huffman.{bits_of, ones, bytes_by_length, bytes_of_length, first_code, code_length, code_of}
use Rattle.qpack_spec.specs.Huffman.{number_from, bytes_of_bits, payload_of, code_at, is_padding, item_at, text_at}
use Rattle.qpack_spec.specs.Huffman.{text_of_bits}
use Rattle.qpack_spec.specs.Text.{string_at, coded_string}
use Rattle.qpack_spec.specs.StaticTable.{static_table, static_index, static_name_index}
use Rattle.qpack_spec.specs.Form.{made_at, form_at}
use Rattle.qpack_spec.specs.Line.{line_form, coded_line, coded_lines}
use Rattle.qpack_spec.specs.Instruction.{encoder_instruction_form, decoder_instruction_form}
use Rattle.qpack_spec.specs.Instruction.{coded_encoder_instruction, coded_encoder_instructions}
use Rattle.qpack_spec.specs.Instruction.{written_decoder_instruction, written_decoder_instructions}
use Rattle.qpack_spec.specs.Prefix.{prefix_for, required_at, read_required, read_base, read_prefix, written_prefix}
use Rattle.qpack_spec.specs.Prefix.{read_strict_prefix}
use Rattle.qpack_spec.specs.Prefix.{prefix_at}
use Rattle.qpack_spec.specs.Window.{eviction_count, absolute_entry, relative_entry, insertion, effect, window_after}
use Rattle.qpack_spec.specs.History.{window_of, whole_window, history_after}
use Rattle.qpack_spec.specs.Reading.{static_field, relative_field, post_base_field, line_field, fields_of}
use Rattle.qpack_spec.specs.Reading.{references_of_line, references_of, greatest_of, reading}
use Rattle.qpack_spec.specs.BlockReading.{fields_at, reading_of_bytes, coded_block}
use Rattle.qpack_spec.specs.Table.{window, with_number, with_reference, is_evictable, all_evictable, has_room}
use Rattle.qpack_spec.specs.Table.{may_reference, with_entry, last_position, newest_index, put, with_capacity}
use Rattle.qpack_spec.specs.Table.{apply_encoder_instruction, commit, without_references, without_oldest}
use Rattle.qpack_spec.specs.Table.{without_stream, with_increment, apply_decoder_instruction}
use Rattle.qpack_spec.specs.Rule.{instruction_for, rule_field, rule}

-- all that has to unfold
unfoldable pub computed : ℕ
unfolding eviction_count written_groups groups_at integer_at written_integer bits_of ones bytes_by_length
    bytes_of_length first_code code_length code_of number_from bytes_of_bits payload_of code_at is_padding item_at
    text_at text_of_bits string_at coded_string static_table static_index static_name_index line_form coded_line
    coded_lines encoder_instruction_form decoder_instruction_form coded_encoder_instruction
    coded_encoder_instructions written_decoder_instruction written_decoder_instructions made_at form_at prefix_for
    required_at read_required read_base read_prefix read_strict_prefix written_prefix prefix_at absolute_entry relative_entry insertion
    effect window_after window_of whole_window history_after static_field relative_field post_base_field line_field
    fields_of references_of_line references_of greatest_of reading fields_at reading_of_bytes coded_block window
    with_number with_reference is_evictable all_evictable has_room may_reference with_entry last_position newest_index
    put with_capacity apply_encoder_instruction commit without_references without_oldest without_stream with_increment
    apply_decoder_instruction instruction_for rule_field rule
computed = 0
