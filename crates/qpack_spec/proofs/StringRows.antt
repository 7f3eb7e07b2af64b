-- The definitions of coded strings on worked examples, computed.
use Rattle.std.proofs.Common.{◌≡◌, [], ◌∷◌, Ok, Err, refl}
use Rattle.std.specs.Prelude.{codes}
use Rattle.qpack_spec.specs.Integer.{groups_at, integer_at, written_groups, written_integer}
use Rattle.qpack_spec.specs.Huffman.{MissingBits, Unhandled, bits_of, ones, bytes_by_length, bytes_of_length}
use Rattle.qpack_spec.specs.Huffman.{first_code, code_length, code_of, number_from, bytes_of_bits, payload_of, code_at}
use Rattle.qpack_spec.specs.Huffman.{is_padding, item_at, text_at, text_of_bits}
use Rattle.qpack_spec.specs.Text.{EndsEarly, LengthOverflows, BadHuffman, string_at, WhereShorter, coded_string, written_string}

-- `foo` fills two bytes, with no padding
foo_written : written_string 8 0 (codes "foo") ≡ 130 ∷ 148 ∷ 231 ∷ []
unfolding written_integer written_groups payload_of bits_of ones bytes_by_length bytes_of_length first_code code_length
    code_of number_from bytes_of_bits coded_string
foo_written = refl

-- nothing is a length of 0
nothing_written : written_string 8 0 [] ≡ 128 ∷ []
unfolding written_integer written_groups payload_of bits_of ones bytes_by_length bytes_of_length first_code code_length
    code_of number_from bytes_of_bits coded_string
nothing_written = refl

-- the flags stand above H
flagged_written : written_string 6 1 (codes "name without ref") ≡ 108 ∷ 168 ∷ 116 ∷ 149 ∷ 79 ∷ 6 ∷ 76 ∷ 231 ∷ 181 ∷ 42
    ∷ 88 ∷ 89 ∷ 127 ∷ []
unfolding written_integer written_groups payload_of bits_of ones bytes_by_length bytes_of_length first_code code_length
    code_of number_from bytes_of_bits coded_string
flagged_written = refl

-- where a string is coded only if that makes it shorter: `foo`, which it does; `a!`, which stays as long; and `#`, which
-- gets longer
shorter_coded : coded_string WhereShorter 8 0 (codes "foo") ≡ 130 ∷ 148 ∷ 231 ∷ []
unfolding written_integer written_groups payload_of bits_of ones bytes_by_length bytes_of_length first_code code_length
    code_of number_from bytes_of_bits coded_string
shorter_coded = refl

equal_plain : coded_string WhereShorter 8 0 (codes "a!") ≡ 2 ∷ 97 ∷ 33 ∷ []
unfolding written_integer written_groups payload_of bits_of ones bytes_by_length bytes_of_length first_code code_length
    code_of number_from bytes_of_bits coded_string
equal_plain = refl

longer_plain : coded_string WhereShorter 6 1 (codes "#") ≡ 65 ∷ 35 ∷ []
unfolding written_integer written_groups payload_of bits_of ones bytes_by_length bytes_of_length first_code code_length
    code_of number_from bytes_of_bits coded_string
longer_plain = refl

-- a coded string, and what follows it
new_bar_read : string_at 8 (134 ∷ 168 ∷ 190 ∷ 20 ∷ 140 ∷ 118 ∷ 51 ∷ 7 ∷ []) ≡ Ok (0, codes "new bar3", 7 ∷ [])
unfolding groups_at integer_at bits_of bytes_by_length code_at is_padding item_at text_at text_of_bits string_at
new_bar_read = refl

-- a plain string under a flag, whole and cut
bar_read : string_at 6 (67 ∷ 98 ∷ 97 ∷ 114 ∷ []) ≡ Ok (1, codes "bar", [])
unfolding groups_at integer_at bits_of bytes_by_length code_at is_padding item_at text_at text_of_bits string_at
bar_read = refl

bar_cut : string_at 6 (67 ∷ 98 ∷ 97 ∷ []) ≡ Err EndsEarly
unfolding groups_at integer_at string_at
bar_cut = refl

-- eight ones are no padding
ones_refused : string_at 8 (129 ∷ 255 ∷ []) ≡ Err (BadHuffman MissingBits)
unfolding groups_at integer_at bits_of bytes_by_length code_at is_padding item_at text_at text_of_bits string_at
ones_refused = refl

-- zeros are none either
zeros_refused : string_at 8 (129 ∷ 0 ∷ []) ≡ Err (BadHuffman MissingBits)
unfolding groups_at integer_at bits_of bytes_by_length code_at is_padding item_at text_at text_of_bits string_at
zeros_refused = refl

-- thirty ones, at the front and behind a code
eos_refused : string_at 8 (132 ∷ 255 ∷ 255 ∷ 255 ∷ 255 ∷ []) ≡ Err (BadHuffman Unhandled)
unfolding groups_at integer_at bits_of bytes_by_length code_at is_padding item_at text_at text_of_bits string_at
eos_refused = refl

eos_behind_refused : string_at 8 (133 ∷ 7 ∷ 255 ∷ 255 ∷ 255 ∷ 255 ∷ []) ≡ Err (BadHuffman Unhandled)
unfolding groups_at integer_at bits_of bytes_by_length code_at is_padding item_at text_at text_of_bits string_at
eos_behind_refused = refl

-- a length of ten full bytes
length_refused : string_at 8 (255 ∷ 255 ∷ 255 ∷ 255 ∷ 255 ∷ 255 ∷ 255 ∷ 255 ∷ 255 ∷ 255 ∷ []) ≡ Err LengthOverflows
unfolding groups_at integer_at string_at
length_refused = refl
