use Rattle.std.proofs.Common.{refl}
use Rattle.qpack_spec.specs.Huffman.{bytes_by_length, bytes_of_length, first_code}
use Rattle.qpack_base.specs.HuffmanTables.{long_rows}
use Rattle.qpack_base.proofs.prefix_string.decoding.long_codes.Goals as goal

pub returns : goal.returns
unfolding bytes_by_length bytes_of_length first_code long_rows
returns c = refl
