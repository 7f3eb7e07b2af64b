use Rattle.std.proofs.Common.{ℕ, ◌%◌, ◌^◌, ◌++◌, subst}
use Rattle.qpack_spec.specs.Huffman.{bits_of, bits_of_text}
use Rattle.qpack_base.specs.WrittenPayloads.{AddsLast}
use Rattle.qpack_base.proofs.AddedBits.{added_cut, last_behind}
use Rattle.qpack_base.proofs.prefix_string.encoding.with_narrow_end.Goals as goal

pub returns-clause-items : goal.returns-clause-items
returns-clause-items g c =
    let last = c.put_each-last in
    let pending = c.args.from.0 in
    let whole = bits_of pending.count pending.bits ++ bits_of_text c.args.from.1.now in
    let filled = subst (λ (n : ℕ). AddsLast (bits_of last.result.count (last.result.bits % n)) last.new.buf.items
    c.put_last.new.buf.items) c.power.ensures c.put_last.ensures.items in
    last_behind whole last.result.count (last.result.bits % 2 ^ last.result.count) c.args.buf.items
    last.new.buf.items c.put_last.new.buf.items
    (added_cut whole last.result.count last.result.bits c.args.buf.items last.new.buf.items last.ensures.added) filled
