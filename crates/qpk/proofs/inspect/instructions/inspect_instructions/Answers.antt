use Rattle.std.proofs.Common.{◌++◌, ℕ, ap, ◌∙◌}
use Rattle.std.specs.Prelude.{string_bytes, codes}
use Rattle.std.proofs.lemmas.Result.{err_from_is_err_and}
use Rattle.qpack_spec.specs.Table.{Table, insert_count}
use Rattle.qpk.specs.Inspecting.{index_text}
use Rattle.qpk.proofs.InspectedInstructions.{inspected_until, inspected_more, inspected_all, one_was}
use Rattle.qpk.proofs.inspect.instructions.inspect_instructions.Goals as goal

pub returns-in_err-inspect_next : goal.returns-in_err-inspect_next
returns-in_err-inspect_next c =
    let p = err_from_is_err_and c.from_residual.result c.from_residual.ensures.1 in
    rw (p.1, p.2)
    (inspected_until c.args.decoder.now.table c.loop.decoder.table c.inspect_next.new.decoder.table c.args.bytes.now
    c.loop.buf.rest (string_bytes c.args.text.now) (string_bytes c.loop.text) (string_bytes c.inspect_next.new.text)
    c.in_err-inspect_next.field-0.0 c.loop.invariant.inspected c.in_err-inspect_next.ensures.inspects)

pub loop-preserved : goal.loop-preserved
loop-preserved c =
    record {
      inspected = inspected_more c.args.decoder.now.table c.loop.decoder.table c.inspect_next.new.decoder.table
          c.args.bytes.now
          c.loop.buf.rest c.inspect_next.new.buf.rest (string_bytes c.args.text.now) (string_bytes c.loop.text)
          (string_bytes c.inspect_next.new.text) c.loop.invariant.inspected
          (one_was c.loop.decoder.table c.inspect_next.new.decoder.table c.loop.buf.rest c.inspect_next.new.buf.rest
          (string_bytes c.loop.text) (string_bytes c.inspect_next.new.text) c.in_ok-inspect_next.field-0
          c.in_ok-inspect_next.ensures.inspects c.if-branch.true);
      total = c.in_ok-inspect_next.ensures.total ∙ c.loop.invariant.total;
    }

pub returns : goal.returns
returns c =
    let total = c.total_inserted-total.ensures ∙ ap (λ (t : Table). insert_count t) c.table.ensures in
    inspected_all c.args.decoder.now.table c.loop.decoder.table c.inspect_next.new.decoder.table c.args.bytes.now
    c.loop.buf.rest c.inspect_next.new.buf.rest (string_bytes c.args.text.now) (string_bytes c.loop.text)
    (string_bytes c.inspect_next.new.text) (string_bytes c.push_index_line.new.text) c.in_ok-inspect_next.field-0
    c.position.result c.loop.invariant.inspected c.in_ok-inspect_next.ensures.inspects c.if-branch.false
    (c.in_ok-push_index_line.ensures
    ∙ ap (λ (n : ℕ). string_bytes c.inspect_next.new.text ++ index_text (codes "received") n) total)
    (c.position.ensures ∙ c.in_ok-inspect_next.ensures.total ∙ c.loop.invariant.total)
