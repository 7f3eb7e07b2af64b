use Rattle.std.proofs.Common.{refl}
use Rattle.qpack_spec.specs.Huffman.{bits_of, bytes_by_length, bytes_of_length, first_code, code_length, code_of}
use Rattle.qpack_base.proofs.CodeTables.{short_codes_agree}
use Rattle.qpack_base.proofs.prefix_string.decoding.short_codes.Goals as goal

pub returns : goal.returns
unfolding bits_of bytes_by_length bytes_of_length first_code code_length code_of
returns c = short_codes_agree _ refl refl refl
