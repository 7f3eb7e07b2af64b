use Rattle.std.proofs.Common.{◌++◌, refl, sym, ap, ◌∙◌, arith}
use Rattle.qpack_spec.specs.Field.{field_size, total_size}
use Rattle.std.proofs.lemmas.Result.{err_from_is_err_and}
use Rattle.qpack_spec.specs.Prefix.{Prefix, written_prefix}
use Rattle.qpack_spec.specs.BlockReading.{written_block}
use Rattle.qpack_spec.specs.Stateless.{stateless_block}
use Rattle.qpack_spec.proofs.Sizes.{total_last}
use Rattle.qpack_base.specs.HeaderFields.{field_of, fields_behind}
use Rattle.qpack_codec.proofs.WrittenBlocks.{begun, grown, lent_parts, take-append_front, behind_more}
use Rattle.qpack_codec.proofs.ReadLines.{saturated_is}
use Rattle.qpack_codec.proofs.stateless.append_stateless.Goals as goal

pub loop-field-init : goal.loop-field-init
loop-field-init g c = record {
  written = begun c.args.block.now.items c.encode.new.buf.items
      (c.in_ok-encode.ensures.writes.ok
      ∙ ap (λ (p : Prefix). c.args.block.now.items ++ written_prefix p) c.new.ensures);
  size = refl;
  capacity = c.encode.ensures.writes.capacity;
}

pub returns-in_err-append_unmarked-clause-err : goal.returns-in_err-append_unmarked-clause-err
returns-in_err-append_unmarked-clause-err g c =
    let p = err_from_is_err_and c.from_residual-in_err-append_unmarked.result
    c.from_residual-in_err-append_unmarked.ensures.1
    in
    rw p.1
    (take-append_front c.args.block.now.items (written_block (stateless_block (fields_behind c.loop-field.yielded)))
    c.loop-field.block.items c.append_unmarked.new.block.items _ (sym c.args.block.now.ok.0)
    c.in_err-append_unmarked.ensures.writes.err c.loop-field.invariant.written)

pub loop-field-preserved : goal.loop-field-preserved
loop-field-preserved g c =
    let fs = fields_behind c.loop-field.yielded in
    let f = field_of c.in-Some.field.now in
    let more = behind_more c.loop-field.yielded c.in-Some.field in
    let saturated = saturated_is (total_size fs) (field_size f) c.mem_size.result c.loop-field.size
    c.saturating_add-size.result
    c.loop-field.invariant.size c.mem_size.ensures c.saturating_add-size.ensures in
    rw (more, total_last fs f) (record {
      written = grown c.args.block.now.items c.loop-field.block.items c.append_unmarked.new.block.items fs f
          c.loop-field.invariant.written
          (lent_parts c.loop-field.block.items c.append_unmarked.new.block.items c.as_slice.result.now
          c.as_slice-in-loop-field.result.now f c.as_slice.ensures.value c.as_slice-in-loop-field.ensures.value
          c.in_ok-append_unmarked.ensures.writes.ok);
      size = saturated;
      capacity = omega (arith, c.loop-field.invariant.capacity, c.append_unmarked.ensures.writes.capacity);
    })
