use Rattle.std.proofs.lemmas.Result.{err_from_is_err_and}
use Rattle.qpk.proofs.InspectedInstructions.{refused_whole}
use Rattle.qpk.proofs.OneInstruction.{received_one, refused_one}
use Rattle.qpk.proofs.inspect.instructions.apply_bytes.Goals as goal

pub returns-in_err-on_encoder_recv : goal.returns-in_err-on_encoder_recv
returns-in_err-on_encoder_recv c i s =
    let p = err_from_is_err_and c.from_residual.result c.from_residual.ensures.1 in
    let r = rw c.new.ensures.rest at c.in_err-on_encoder_recv.ensures.receives in
    rw (p.1, p.2)
    (refused_whole c.in_err-on_encoder_recv.field-0.0 c.args.decoder.now.table c.on_encoder_recv.new.self.table
    c.args.instruction.now
    (λ room. refused_one c.args.decoder.now c.on_encoder_recv.new.self c.args.instruction.now _ _ _
    c.in_err-on_encoder_recv.field-0.0 i s r room))

pub returns : goal.returns
returns c i s =
    let r = rw c.new.ensures.rest at c.in_ok-on_encoder_recv.ensures.receives in
    received_one c.args.decoder.now c.on_encoder_recv.new.self c.args.instruction.now _ _ _ _ i s r
