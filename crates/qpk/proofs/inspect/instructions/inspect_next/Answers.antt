use Rattle.std.proofs.Common.{ℕ, List, subst, sym}
use Rattle.std.specs.Prelude.{string_bytes}
use Rattle.std.proofs.lemmas.Result.{err_from_is_err_and}
use Rattle.qpack_spec.specs.Instruction.{SpellsEncoderInstruction}
use Rattle.qpack_wire.specs.StreamLines.{encoder_instruction_of}
use Rattle.qpk.proofs.InspectedInstructions.{refused_next, found_next, slice_is, fails_next}
use Rattle.qpk.proofs.inspect.instructions.inspect_next.Goals as goal

pub returns-in_err-line-clause-inspects : goal.returns-in_err-line-clause-inspects
returns-in_err-line-clause-inspects c =
    let p = err_from_is_err_and c.from_residual.result c.from_residual.ensures.1 in
    rw (p.1, p.2)
    (refused_next c.in_err-line.field-0.0 c.args.decoder.now.table c.args.buf.now.rest (string_bytes c.args.text.now)
    (c.in_err-line.ensures.reads.0 c.args.decoder.now.table))

pub returns-in_err-apply_bytes-clause-inspects : goal.returns-in_err-apply_bytes-clause-inspects
returns-in_err-apply_bytes-clause-inspects c =
    let p = err_from_is_err_and c.from_residual-in_err-apply_bytes.result c.from_residual-in_err-apply_bytes.ensures.1 in
    let at = found_next c.args.buf.now.rest c.next_instruction.new.buf.rest c.in_ok-line.field-0 c.in-Some.line
    c.in-Some.is c.in_ok-line.ensures.reads in
    let slice = slice_is c.chunk-bytes.result.now c.args.buf.now.rest at.0 c.next_instruction.new.buf.rest
    c.remaining.result c.chunk-bytes.ensures c.remaining.ensures at.1 in
    let i = encoder_instruction_of c.in-Some.line in
    let fails = c.in_err-apply_bytes.ensures i
    (subst (λ (b : List ℕ). SpellsEncoderInstruction b i) (sym slice) at.2) in
    let whole = rw slice at fails in
    rw (p.1, p.2)
    (fails_next c.in_err-apply_bytes.field-0.0 c.args.decoder.now.table c.apply_bytes.new.decoder.table c.args.buf.now.rest at.0
    c.next_instruction.new.buf.rest (string_bytes c.args.text.now) at.1 whole)

pub returns-clause-inspects : goal.returns-clause-inspects
returns-clause-inspects c =
    let at = found_next c.args.buf.now.rest c.next_instruction.new.buf.rest c.in_ok-line.field-0 c.in-Some.line
    c.in-Some.is c.in_ok-line.ensures.reads in
    let slice = slice_is c.chunk-bytes.result.now c.args.buf.now.rest at.0 c.next_instruction.new.buf.rest
    c.remaining.result c.chunk-bytes.ensures c.remaining.ensures at.1 in
    let i = encoder_instruction_of c.in-Some.line in
    record {
      takes = record {
        encoding = at.0;
        instruction = i;
        cut = at.1;
        spells = at.2;
        applies = c.in_ok-apply_bytes.ensures i
            (subst (λ (b : List ℕ). SpellsEncoderInstruction b i) (sym slice) at.2);
      };
      text = c.in_ok-push_instruction_line.ensures;
    }
