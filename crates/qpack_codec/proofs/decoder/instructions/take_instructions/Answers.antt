use Rattle.std.proofs.Common.{refl, ◌∙◌}
use Rattle.std.proofs.lemmas.Result.{err_from_is_err_and}
use Rattle.qpack_spec.specs.Instruction.{encoder_instruction_form}
use Rattle.qpack_spec.specs.Table.{apply_encoder_instruction}
use Rattle.qpack_codec.specs.Receiving.{Stops}
use Rattle.qpack_codec.proofs.decoder.instructions.take_instructions.Goals as goal
use Rattle.qpack_codec.proofs.Taking.{taken_none, taken_more, taken_all, taken_until, one_was, one_shortens}

pub loop-init : goal.loop-init
loop-init g c = record { taken = taken_none encoder_instruction_form apply_encoder_instruction Stops _ _; total = refl }

pub returns-in_err-take_instruction-clause-takes : goal.returns-in_err-take_instruction-clause-takes
returns-in_err-take_instruction-clause-takes g c =
    let p = err_from_is_err_and c.from_residual.result c.from_residual.ensures.1 in
    rw (p.1, p.2)
    (taken_until encoder_instruction_form apply_encoder_instruction Stops c.args.table.now c.loop.table
    c.take_instruction.new.table c.args.buf.now.rest c.loop.buf.rest c.take_instruction.new.buf.rest
    c.in_err-take_instruction.field-0.0 c.loop.invariant.taken c.in_err-take_instruction.ensures.takes)

pub returns-in_err-take_instruction-clause-total : goal.returns-in_err-take_instruction-clause-total
returns-in_err-take_instruction-clause-total g c =
    c.in_err-take_instruction.ensures.total ∙ c.loop.invariant.total

pub loop-smaller : goal.loop-smaller
loop-smaller g c =
    one_shortens encoder_instruction_form apply_encoder_instruction Stops c.loop.table c.take_instruction.new.table
    c.loop.buf.rest c.take_instruction.new.buf.rest
    (one_was encoder_instruction_form apply_encoder_instruction Stops c.loop.table c.take_instruction.new.table
    c.loop.buf.rest c.take_instruction.new.buf.rest c.in_ok-take_instruction.field-0
    c.in_ok-take_instruction.ensures.takes c.if-branch.true)

pub loop-preserved : goal.loop-preserved
loop-preserved g c =
    record {
      taken = taken_more encoder_instruction_form apply_encoder_instruction Stops c.args.table.now c.loop.table
          c.take_instruction.new.table c.args.buf.now.rest c.loop.buf.rest c.take_instruction.new.buf.rest
          c.loop.invariant.taken (one_was encoder_instruction_form apply_encoder_instruction Stops c.loop.table
          c.take_instruction.new.table c.loop.buf.rest c.take_instruction.new.buf.rest
          c.in_ok-take_instruction.field-0 c.in_ok-take_instruction.ensures.takes c.if-branch.true);
      total = c.in_ok-take_instruction.ensures.total ∙ c.loop.invariant.total;
    }

pub returns-clause-takes : goal.returns-clause-takes
returns-clause-takes g c =
    taken_all encoder_instruction_form apply_encoder_instruction Stops c.args.table.now c.loop.table
    c.take_instruction.new.table c.args.buf.now.rest c.loop.buf.rest c.take_instruction.new.buf.rest
    c.in_ok-take_instruction.field-0 c.loop.invariant.taken c.in_ok-take_instruction.ensures.takes c.if-branch.false

pub returns-clause-total : goal.returns-clause-total
returns-clause-total g c = c.in_ok-take_instruction.ensures.total ∙ c.loop.invariant.total
