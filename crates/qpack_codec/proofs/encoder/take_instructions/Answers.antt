use Rattle.std.proofs.Common.{refl, ◌∙◌}
use Rattle.std.proofs.lemmas.Result.{err_from_is_err_and}
use Rattle.qpack_spec.specs.Instruction.{decoder_instruction_form}
use Rattle.qpack_spec.specs.Table.{apply_decoder_instruction}
use Rattle.qpack_codec.specs.Hearing.{StopsHearing}
use Rattle.qpack_codec.proofs.encoder.take_instructions.Goals as goal
use Rattle.qpack_codec.proofs.Taking.{taken_none, taken_more, taken_all, taken_until, one_was, one_shortens}

pub loop-init : goal.loop-init
loop-init c = record {
  heard = taken_none decoder_instruction_form apply_decoder_instruction StopsHearing _ _;
  total =
      refl;
}

pub returns-in_err-take_instruction-clause-hears : goal.returns-in_err-take_instruction-clause-hears
returns-in_err-take_instruction-clause-hears c =
    let p = err_from_is_err_and c.from_residual.result c.from_residual.ensures.1 in
    rw (p.1, p.2)
    (taken_until decoder_instruction_form apply_decoder_instruction StopsHearing c.args.table.now c.loop.table
    c.take_instruction.new.table c.args.buf.now.rest c.loop.buf.rest c.take_instruction.new.buf.rest
    c.in_err-take_instruction.field-0.0 c.loop.invariant.heard c.in_err-take_instruction.ensures.hears)

pub returns-in_err-take_instruction-clause-total : goal.returns-in_err-take_instruction-clause-total
returns-in_err-take_instruction-clause-total c =
    c.in_err-take_instruction.ensures.total ∙ c.loop.invariant.total

pub loop-smaller : goal.loop-smaller
loop-smaller c =
    one_shortens decoder_instruction_form apply_decoder_instruction StopsHearing c.loop.table
    c.take_instruction.new.table
    c.loop.buf.rest c.take_instruction.new.buf.rest
    (one_was decoder_instruction_form apply_decoder_instruction StopsHearing c.loop.table c.take_instruction.new.table
    c.loop.buf.rest c.take_instruction.new.buf.rest c.in_ok-take_instruction.field-0
    c.in_ok-take_instruction.ensures.hears c.if-branch.true)

pub loop-preserved : goal.loop-preserved
loop-preserved c =
    record {
      heard = taken_more decoder_instruction_form apply_decoder_instruction StopsHearing c.args.table.now c.loop.table
          c.take_instruction.new.table c.args.buf.now.rest c.loop.buf.rest c.take_instruction.new.buf.rest
          c.loop.invariant.heard (one_was decoder_instruction_form apply_decoder_instruction StopsHearing c.loop.table
          c.take_instruction.new.table c.loop.buf.rest c.take_instruction.new.buf.rest
          c.in_ok-take_instruction.field-0 c.in_ok-take_instruction.ensures.hears c.if-branch.true);
      total = c.in_ok-take_instruction.ensures.total ∙ c.loop.invariant.total;
    }

pub returns-clause-hears : goal.returns-clause-hears
returns-clause-hears c =
    taken_all decoder_instruction_form apply_decoder_instruction StopsHearing c.args.table.now c.loop.table
    c.take_instruction.new.table c.args.buf.now.rest c.loop.buf.rest c.take_instruction.new.buf.rest
    c.in_ok-take_instruction.field-0 c.loop.invariant.heard c.in_ok-take_instruction.ensures.hears c.if-branch.false

pub returns-clause-total : goal.returns-clause-total
returns-clause-total c = c.in_ok-take_instruction.ensures.total ∙ c.loop.invariant.total
