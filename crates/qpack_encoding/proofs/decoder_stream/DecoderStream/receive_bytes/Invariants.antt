use Rattle.std.proofs.Common.{ℕ, List, ◌++◌, take}
use Rattle.qpack_spec.specs.Instruction.{DecoderInstruction}
use Rattle.qpack_encoding.specs.Hearing.{HearsMore, Receives}
use Rattle.qpack_encoding.proofs.decoder_stream.DecoderStream.receive_bytes.Given as goal

abbrev pub invariant-loop-byte : goal.invariant-loop-byte
invariant-loop-byte g l =
    (heard : List DecoderInstruction) (before : List ℕ) → Receives heard before l.fn.self
    → HearsMore l.fn.table l.table heard (λ all. Receives all (before ++ take l.byte-index l.bytes) l.self)
