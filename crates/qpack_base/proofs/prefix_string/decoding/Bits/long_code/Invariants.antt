use Rattle.std.proofs.Common.{◌≡◌, drop}
use Rattle.qpack_spec.specs.Huffman.{bits_of_bytes, bytes_by_length, code_at}
use Rattle.qpack_base.specs.HuffmanTables.{rows_at}
use Rattle.qpack_base.specs.Payloads.{bits_left, IsLoaded}
use Rattle.qpack_base.proofs.LongCodes.{row_code}
use Rattle.qpack_base.proofs.prefix_string.decoding.Bits.long_code.Given as goal

abbrev pub invariant-loop-row : goal.invariant-loop-row
invariant-loop-row l = record {
  loaded : IsLoaded l.self;
  code : row_code (drop l.row-index (rows_at l.rows)) l.self.count l.self.loaded (bits_of_bytes l.self.rest.now)
      ≡ code_at bytes_by_length 0 0 (bits_left l.fn.self);
  rest : l.self.rest.now ≡ l.fn.self.rest.now;
}
