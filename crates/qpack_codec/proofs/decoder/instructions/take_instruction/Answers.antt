use Rattle.std.proofs.Common.{refl, ap, sym, ◌∙◌, List, ℕ, subst, ◌++◌, Ok, Err}
use Rattle.std.specs.Prelude.{⊤, Result}
use Rattle.std.proofs.lemmas.Result.{err_from_is_err_and}
use Rattle.qpack_base.specs.Cursor.{CursorView}
use Rattle.qpack_spec.specs.Table as table
use Rattle.qpack_wire.specs.Bounded.{IsBounded}
use Rattle.qpack_codec.specs.Receiving.{Applies}
use Rattle.qpack_codec.proofs.Instructions.{found_line, line_refused, no_line, stops_at_table, left_behind}
use Rattle.qpack_codec.specs.declared.error.DecoderError.{DecoderError}
use Rattle.qpack_codec.proofs.decoder.instructions.take_instruction.Goals as goal
use Rattle.qpack_codec.proofs.decoder.instructions.take_instruction.Goals.{then-is_passed, else-is_passed}

pub returns-in_err-line-clause-takes : goal.returns-in_err-line-clause-takes
returns-in_err-line-clause-takes g c =
    let p = err_from_is_err_and c.from_residual.result c.from_residual.ensures.1 in
    rw (p.1, p.2) (
      line_refused c.args.table.now c.longest_texts-most.result c.args.buf.now c.fork-ahead.result c.decode.new.buf
          c.in_err-line.field-0.0 c.fork-ahead.ensures c.in_err-line.ensures.decodes c.in_err-line.ensures.memory,
      refl,
    )

pub returns-in_default-clause-takes : goal.returns-in_default-clause-takes
returns-in_default-clause-takes g c = (
  no_line c.longest_texts-most.result c.args.buf.now c.fork-ahead.result c.decode.new.buf c.in_ok-line.field-0
      c.fork-ahead.ensures c.in_default.is c.in_ok-line.ensures.decodes,
  refl,
  refl,
)

pub returns-in_err-answer-clause-takes : goal.returns-in_err-answer-clause-takes
returns-in_err-answer-clause-takes g c =
    let p = err_from_is_err_and c.from_residual-in_err-answer.result c.from_residual-in_err-answer.ensures.1 in
    let found = found_line c.longest_texts-most.result c.args.buf.now c.fork-ahead.result c.decode.new.buf
    c.in_ok-line.field-0 c.in-Some.line c.fork-ahead.ensures c.in-Some.is c.in_ok-line.ensures.decodes in
    let at = found.at in
    let i = found.instruction in
    let kept = subst (λ (most : ℕ). IsBounded most c.in-Some.line i) c.longest_texts-most.ensures found.kept in
    rw (p.1, p.2)
    (stops_at_table c.args.table.now c.apply_bounded_line-answer.new.table c.args.buf.now.rest at.encoding
    c.decode.new.buf.rest c.if-is_passed.buf.rest i
    c.in_err-answer.field-0.0 at.cut at.spells
    (subst (λ (r : Result ⊤ DecoderError). Applies r (table.apply_encoder_instruction c.args.table.now i)
    c.args.table.now c.apply_bounded_line-answer.new.table) c.in_err-answer.was
    (c.apply_bounded_line-answer.ensures.applies i kept))
    (λ m. c.apply_bounded_line-answer.ensures.memory i kept
    (c.in_err-answer.was ∙ ap (λ (x : DecoderError). Err x) m))
    (left_behind c.is_passed.result c.apply_bounded_line-answer.result (Err c.in_err-answer.field-0.0)
    c.decode.new.buf.rest c.args.buf.now.rest c.if-is_passed.buf.rest c.is_passed.ensures c.in_err-answer.was
    (λ t. elim c.if-is_passed.branch [
      | then-is_passed w ↦ ap (λ (x : CursorView). x.rest) w.buf-is
      | else-is_passed w ↦ absurd (let f = w.if-is_passed in cc)
    ])
    (λ f. elim c.if-is_passed.branch [
      | then-is_passed w ↦ absurd (let t = w.if-is_passed in cc)
      | else-is_passed w ↦ ap (λ (x : CursorView). x.rest) w.buf-is
    ])))

pub returns-clause-takes : goal.returns-clause-takes
returns-clause-takes g c =
    let found = found_line c.longest_texts-most.result c.args.buf.now c.fork-ahead.result c.decode.new.buf
    c.in_ok-line.field-0 c.in-Some.line c.fork-ahead.ensures c.in-Some.is c.in_ok-line.ensures.decodes in
    let at = found.at in
    let i = found.instruction in
    let kept = subst (λ (most : ℕ). IsBounded most c.in-Some.line i) c.longest_texts-most.ensures found.kept in
    let left = left_behind c.is_passed.result c.apply_bounded_line-answer.result (Ok c.in_ok-answer.field-0)
    c.decode.new.buf.rest c.args.buf.now.rest c.if-is_passed.buf.rest c.is_passed.ensures c.in_ok-answer.was
    (λ t. elim c.if-is_passed.branch [
      | then-is_passed w ↦ ap (λ (x : CursorView). x.rest) w.buf-is
      | else-is_passed w ↦ absurd (let f = w.if-is_passed in cc)
    ])
    (λ f. elim c.if-is_passed.branch [
      | then-is_passed w ↦ absurd (let t = w.if-is_passed in cc)
      | else-is_passed w ↦ ap (λ (x : CursorView). x.rest) w.buf-is
    ]) in
    record {
      encoding = at.encoding;
      instruction = i;
      cut = at.cut ∙ ap (λ (x : List ℕ). at.encoding ++ x) (sym left);
      spells = at.spells;
      applies = subst (λ (r : Result ⊤ DecoderError). Applies r (table.apply_encoder_instruction c.args.table.now i)
          c.args.table.now c.apply_bounded_line-answer.new.table) c.in_ok-answer.was
          (c.apply_bounded_line-answer.ensures.applies i kept);
    }
