use Rattle.std.proofs.Common.{take}
use Rattle.qpack_base.specs.WrittenPayloads.{AddsCodes}
use Rattle.qpack_base.proofs.prefix_string.encoding.Pending.with_each.Given as goal

abbrev pub invariant-loop-byte : goal.invariant-loop-byte
invariant-loop-byte l = AddsCodes (take l.byte-index l.text) l.fn.self l.pending
