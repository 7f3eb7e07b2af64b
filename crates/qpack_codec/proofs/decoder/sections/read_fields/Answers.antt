use Rattle.std.proofs.Common.{◌≡◌, ◌+◌, ◌∷◌, ◌++◌, [], ap, ◌∙◌, arith, inr}
use Rattle.std.proofs.lemmas.Result.{err_from_is_err_and}
use Rattle.qpack_spec.specs.Field.{field_size, total_size}
use Rattle.qpack_spec.specs.Table.{window}
use Rattle.qpack_spec.proofs.Sizes.{total_last}
use Rattle.qpack_base.specs.HeaderFields.{field_of}
use Rattle.qpack_codec.specs.Stateless.{fields_in}
use Rattle.qpack_wire.proofs.Asking.{asks_held, asks_begun}
use Rattle.qpack_codec.proofs.ReadLines.{saturated_is, fields_more}
use Rattle.qpack_codec.proofs.ReadSections.{fields_end, turn_bad, turn_good, line_begun}
use Rattle.qpack_codec.proofs.ReadSections.{none_of}
use Rattle.qpack_codec.proofs.decoder.sections.read_fields.Goals as goal

pub returns-in_err-field-clause-exact : goal.returns-in_err-field-clause-exact
returns-in_err-field-clause-exact g c =
    let p = err_from_is_err_and c.from_residual.result c.from_residual.ensures.1 in
    let inv = c.loop-alloc.invariant.lines in
    rw (p.1, p.2)
    (turn_bad inv.0 (window c.args.table.now.table.now) c.args.table.now.base c.loop-alloc.buf.rest
    (fields_in c.loop-alloc.fields.items) _ c.in_err-field.field-0.0 inv.1 inv.2
    (omega (arith, c.remaining.ensures, c.loop-alloc-test.true)) c.in_err-field.ensures.exact)

pub returns-in_err-field-clause-memory : goal.returns-in_err-field-clause-memory
returns-in_err-field-clause-memory g c e =
    let p = err_from_is_err_and c.from_residual.result c.from_residual.ensures.1 in
    asks_begun c.args.buf.now.rest c.loop-alloc.buf.rest c.loop-alloc.invariant.begun
    (c.in_err-field.ensures.memory (let s = p.1 in let t = p.2 in cc))

pub returns-in_err-push-clause-memory : goal.returns-in_err-push-clause-memory
returns-in_err-push-clause-memory g c e =
    asks_held c.args.buf.now.rest
    (line_begun (window c.args.table.now.table.now) c.args.table.now.base c.args.buf.now.rest c.loop-alloc.buf.rest
    (field_of c.in_ok-field.field) c.read_field.new.buf.rest c.loop-alloc.invariant.begun c.in_ok-field.ensures.exact.0)

pub loop-alloc-smaller : goal.loop-alloc-smaller
loop-alloc-smaller g c =
    let inv = c.loop-alloc.invariant.lines in
    (turn_good inv.0 (window c.args.table.now.table.now) c.args.table.now.base c.loop-alloc.buf.rest
    (fields_in c.loop-alloc.fields.items) _ (field_of c.in_ok-field.field) c.read_field.new.buf.rest inv.1 inv.2
    (omega (arith, c.remaining.ensures, c.loop-alloc-test.true)) c.in_ok-field.ensures.exact.0).shorter

pub loop-alloc-preserved : goal.loop-alloc-preserved
loop-alloc-preserved g c =
    let inv = c.loop-alloc.invariant.lines in
    let sum = total_size (fields_in c.loop-alloc.fields.items) in
    let saturated = saturated_is sum (field_size (field_of c.in_ok-field.field)) c.mem_size.result c.loop-alloc.mem_size
    c.saturating_add-mem_size.result c.loop-alloc.invariant.size c.mem_size.ensures c.saturating_add-mem_size.ensures
    in
    let goes = turn_good inv.0 (window c.args.table.now.table.now) c.args.table.now.base c.loop-alloc.buf.rest
    (fields_in c.loop-alloc.fields.items) _ (field_of c.in_ok-field.field) c.read_field.new.buf.rest inv.1 inv.2
    (omega (arith, c.remaining.ensures, c.loop-alloc-test.true)) c.in_ok-field.ensures.exact.0 in
    let more : fields_in c.push.new.self.items ≡ fields_in c.loop-alloc.fields.items
    ++ field_of c.in_ok-field.field ∷ [] =
    ap fields_in c.in_ok-push.ensures.items ∙ fields_more c.loop-alloc.fields.items c.in_ok-field.field in
    let all : total_size (fields_in c.loop-alloc.fields.items ++ field_of c.in_ok-field.field ∷ [])
    ≡ sum + field_size (field_of c.in_ok-field.field) =
    total_last (fields_in c.loop-alloc.fields.items) (field_of c.in_ok-field.field) in
    record {
      lines = rw more goes.next;
      size = rw (more, all) saturated;
      begun = inr (line_begun (window c.args.table.now.table.now) c.args.table.now.base c.args.buf.now.rest
          c.loop-alloc.buf.rest (field_of c.in_ok-field.field) c.read_field.new.buf.rest c.loop-alloc.invariant.begun
          c.in_ok-field.ensures.exact.0);
      total = c.in_ok-field.ensures.exact.1 ∙ c.loop-alloc.invariant.total;
    }

pub returns-clause-exact : goal.returns-clause-exact
returns-clause-exact g c =
    let inv = c.loop-alloc.invariant.lines in (
      fields_end inv.0 (window c.args.table.now.table.now) c.args.table.now.base c.loop-alloc.buf.rest
          (fields_in c.loop-alloc.fields.items) _ inv.2
          (omega (arith, c.remaining.ensures, c.loop-alloc-test.false)),
      c.loop-alloc.invariant.size,
    )

pub returns-clause-finished : goal.returns-clause-finished
returns-clause-finished g c = (
  none_of c.loop-alloc.buf.rest (omega (arith, c.remaining.ensures, c.loop-alloc-test.false)),
  c.loop-alloc.invariant.total,
)
