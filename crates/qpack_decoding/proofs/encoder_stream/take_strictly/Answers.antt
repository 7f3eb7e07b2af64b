use Rattle.std.proofs.Common.{◌≡◌, ◌∙◌, sym, subst, List, ℕ, false}
use Rattle.qpack_decoding.specs.Receiving.{begins_unlawfully}
use Rattle.qpack_decoding.proofs.StrictTaking.{next_strictly}
use Rattle.qpack_decoding.proofs.encoder_stream.take_strictly.Goals as goal

pub returns-clause-takes : goal.returns-clause-takes
returns-clause-takes g c =
    next_strictly c.args.table.now c.take_instruction.new.table c.args.buf.now.rest c.take_instruction.new.buf.rest
    c.take_instruction.result
    (subst (λ (x : List ℕ). begins_unlawfully c.args.table.now x ≡ false) c.chunk.ensures
    (sym c.begins_unlawfully.ensures ∙ c.if-begins_unlawfully.false)) c.take_instruction.ensures.takes
