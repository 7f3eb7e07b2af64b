use Rattle.std.proofs.Common.{◌≤◌, arith}
use Rattle.qpack_spec.specs.Table.{insert_count}
use Rattle.qpack_codec.proofs.Counts.{instructions_count}
use Rattle.qpack_codec.proofs.decoder.Decoder.on_encoder_recv.Goals as goal

pub overflow_sub-self : goal.overflow_sub-self
overflow_sub-self g c =
    let taken = c.take_instructions-taken.ensures.takes in
    let grows = instructions_count taken.lines c.self.inside.table c.take_instructions-taken.new.table taken.applies in
    omega (arith, grows, c.total_inserted-before.ensures, c.total_inserted.ensures)

pub invariant_of-self : goal.invariant_of-self
invariant_of-self g c =
    let taken = c.take_instructions-taken.ensures.takes in
    let grows = instructions_count taken.lines c.self.inside.table c.take_instructions-taken.new.table taken.applies in
    let kept : c.self.inside.unreported ≤ insert_count c.self.inside.table = c.self.invariant in
    omega (arith, grows, kept, c.total_inserted-before.ensures, c.total_inserted.ensures)

pub invariant_of-self-in_err-write_increments : goal.invariant_of-self-in_err-write_increments
invariant_of-self-in_err-write_increments g c =
    let taken = c.take_instructions-taken.ensures.takes in
    let grows = instructions_count taken.lines c.self.inside.table c.take_instructions-taken.new.table taken.applies in
    let kept : c.self.inside.unreported ≤ insert_count c.self.inside.table = c.self.invariant in
    omega (arith, grows, kept, c.total_inserted-before.ensures, c.total_inserted.ensures)
