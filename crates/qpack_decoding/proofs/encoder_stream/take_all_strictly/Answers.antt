use Rattle.std.proofs.Common.{refl, ◌∙◌}
use Rattle.std.proofs.lemmas.Result.{err_from_is_err_and}
use Rattle.qpack_spec.specs.Instruction.{encoder_instruction_form}
use Rattle.qpack_decoding.specs.Receiving.{strict_apply}
use Rattle.qpack_decoding.specs.Receiving.{StopsStrictly}
use Rattle.qpack_decoding.proofs.encoder_stream.take_all_strictly.Goals as goal
use Rattle.qpack_decoding.proofs.PlacedTaking.{none_taken, one_further, taken_all, taken_until, one_passed}
use Rattle.qpack_codec.proofs.Taking.{one_was, one_shortens}

pub loop-init : goal.loop-init
loop-init g c = record { taken = none_taken c.args.table.now c.args.place.now c.args.buf.now.rest _ refl; total = refl }

pub returns-in_err-take_and_pass-clause-takes : goal.returns-in_err-take_and_pass-clause-takes
returns-in_err-take_and_pass-clause-takes g c =
    let p = err_from_is_err_and c.from_residual.result c.from_residual.ensures.1 in
    rw (p.1, p.2)
    (taken_until c.args.table.now c.loop.table c.take_and_pass.new.table c.args.place.now c.loop.place
    c.take_and_pass.new.place c.args.buf.now.rest c.loop.buf.rest c.take_and_pass.new.buf.rest
    c.in_err-take_and_pass.field-0.0 c.loop.invariant.taken c.in_err-take_and_pass.ensures.takes
    c.in_err-take_and_pass.ensures.passes)

pub returns-in_err-take_and_pass-clause-total : goal.returns-in_err-take_and_pass-clause-total
returns-in_err-take_and_pass-clause-total g c =
    c.in_err-take_and_pass.ensures.total ∙ c.loop.invariant.total

pub loop-smaller : goal.loop-smaller
loop-smaller g c =
    one_shortens encoder_instruction_form strict_apply StopsStrictly c.loop.table c.take_and_pass.new.table
    c.loop.buf.rest c.take_and_pass.new.buf.rest
    (one_was encoder_instruction_form strict_apply StopsStrictly c.loop.table c.take_and_pass.new.table
    c.loop.buf.rest c.take_and_pass.new.buf.rest c.in_ok-take_and_pass.field-0
    c.in_ok-take_and_pass.ensures.takes c.if-branch.true)

pub loop-preserved : goal.loop-preserved
loop-preserved g c =
    record {
      taken = one_further c.args.table.now c.loop.table c.take_and_pass.new.table c.args.place.now c.loop.place
          c.take_and_pass.new.place c.args.buf.now.rest c.loop.buf.rest c.take_and_pass.new.buf.rest
          c.loop.invariant.taken (one_was encoder_instruction_form strict_apply StopsStrictly c.loop.table
          c.take_and_pass.new.table c.loop.buf.rest c.take_and_pass.new.buf.rest
          c.in_ok-take_and_pass.field-0 c.in_ok-take_and_pass.ensures.takes c.if-branch.true)
          (one_passed c.loop.place c.take_and_pass.new.place c.loop.buf.rest c.take_and_pass.new.buf.rest
          c.in_ok-take_and_pass.field-0 c.in_ok-take_and_pass.ensures.passes c.if-branch.true);
      total = c.in_ok-take_and_pass.ensures.total ∙ c.loop.invariant.total;
    }

pub returns-clause-takes : goal.returns-clause-takes
returns-clause-takes g c =
    taken_all c.args.table.now c.loop.table c.take_and_pass.new.table c.args.place.now c.loop.place
    c.take_and_pass.new.place c.args.buf.now.rest c.loop.buf.rest c.take_and_pass.new.buf.rest
    c.in_ok-take_and_pass.field-0 c.loop.invariant.taken c.in_ok-take_and_pass.ensures.takes
    c.in_ok-take_and_pass.ensures.passes c.if-branch.false

pub returns-clause-total : goal.returns-clause-total
returns-clause-total g c = c.in_ok-take_and_pass.ensures.total ∙ c.loop.invariant.total
