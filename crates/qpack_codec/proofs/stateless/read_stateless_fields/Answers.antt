use Rattle.std.proofs.Common.{◌≡◌, ◌+◌, ◌∷◌, ◌++◌, [], ℕ, List, refl, ap, ◌∙◌, arith, inr}
use Rattle.std.specs.Prelude.{slice_get}
use Rattle.std.proofs.lemmas.Result.{err_from_is_err_and}
use Rattle.qpack_spec.specs.Field.{field_size, total_size}
use Rattle.qpack_spec.proofs.Sizes.{total_last}
use Rattle.qpack_base.specs.HeaderFields.{field_of}
use Rattle.qpack_codec.specs.Stateless.{fields_in}
use Rattle.qpack_codec.proofs.ReadLines.{none_left, lines_end, turn_bad, turn_long, turn_good, saturated_is}
use Rattle.qpack_codec.proofs.ReadLines.{fields_more}
use Rattle.qpack_wire.proofs.Asking.{asks_held, asks_begun}
use Rattle.qpack_codec.proofs.Asking.{held_begun}
use Rattle.qpack_codec.proofs.stateless.read_stateless_fields.Goals as goal

pub returns-in_err-field-clause-exact : goal.returns-in_err-field-clause-exact
returns-in_err-field-clause-exact c =
    let p = err_from_is_err_and c.from_residual.result c.from_residual.ensures.1 in
    let inv = c.loop-byte.invariant.lines in
    let at = c.in-Some.ensures.value ∙ ap (λ (l : List ℕ). slice_get l 0) c.chunk.ensures in
    rw (p.1, p.2)
    (turn_bad inv.0 c.args.max_size (total_size (fields_in c.loop-byte.fields.items)) c.loop-byte.buf.rest
    c.in-Some.byte.now (fields_in c.loop-byte.fields.items) _ c.in_err-field.field-0.0 inv.1 inv.2 at
    c.in_err-field.ensures.exact)

pub returns-in_err-field-clause-memory : goal.returns-in_err-field-clause-memory
returns-in_err-field-clause-memory c e =
    let p = err_from_is_err_and c.from_residual.result c.from_residual.ensures.1 in
    asks_begun c.args.buf.now.rest c.loop-byte.buf.rest c.loop-byte.invariant.begun
    (c.in_err-field.ensures.memory (let s = p.1 in let t = p.2 in cc))

pub returns-then-mem_size-max_size-clause-exact : goal.returns-then-mem_size-max_size-clause-exact
returns-then-mem_size-max_size-clause-exact c =
    let inv = c.loop-byte.invariant.lines in
    let sum = total_size (fields_in c.loop-byte.fields.items) in
    let at = c.in-Some.ensures.value ∙ ap (λ (l : List ℕ). slice_get l 0) c.chunk.ensures in
    let saturated = saturated_is sum (field_size (field_of c.in_ok-field.field)) c.mem_size.result c.loop-byte.mem_size
    c.saturating_add-mem_size.result c.loop-byte.invariant.size c.mem_size.ensures c.saturating_add-mem_size.ensures
    in
    rw saturated
    (turn_long inv.0 c.args.max_size sum c.loop-byte.buf.rest c.in-Some.byte.now (fields_in c.loop-byte.fields.items) _
    (field_of c.in_ok-field.field) c.read_stateless_field.new.buf.rest inv.1 inv.2 at c.in_ok-field.ensures.exact.0
    (omega (arith, saturated, c.if-mem_size-max_size.true)))

pub returns-in_err-push-clause-memory : goal.returns-in_err-push-clause-memory
returns-in_err-push-clause-memory c e =
    let at = c.in-Some.ensures.value ∙ ap (λ (l : List ℕ). slice_get l 0) c.chunk.ensures in
    asks_held c.args.buf.now.rest
    (held_begun c.args.buf.now.rest c.loop-byte.buf.rest c.in-Some.byte.now
    (field_of c.in_ok-field.field) c.read_stateless_field.new.buf.rest c.loop-byte.invariant.begun at
    c.in_ok-field.ensures.exact.0)

pub loop-byte-smaller : goal.loop-byte-smaller
loop-byte-smaller c =
    let inv = c.loop-byte.invariant.lines in
    let sum = total_size (fields_in c.loop-byte.fields.items) in
    let at = c.in-Some.ensures.value ∙ ap (λ (l : List ℕ). slice_get l 0) c.chunk.ensures in
    let saturated = saturated_is sum (field_size (field_of c.in_ok-field.field)) c.mem_size.result c.loop-byte.mem_size
    c.saturating_add-mem_size.result c.loop-byte.invariant.size c.mem_size.ensures c.saturating_add-mem_size.ensures
    in
    (turn_good inv.0 c.args.max_size sum c.loop-byte.buf.rest c.in-Some.byte.now (fields_in c.loop-byte.fields.items) _
    (field_of c.in_ok-field.field) c.read_stateless_field.new.buf.rest inv.1 inv.2 at c.in_ok-field.ensures.exact.0
    (omega (arith, saturated, c.if-mem_size-max_size.false))).shorter

pub loop-byte-preserved : goal.loop-byte-preserved
loop-byte-preserved c =
    let inv = c.loop-byte.invariant.lines in
    let sum = total_size (fields_in c.loop-byte.fields.items) in
    let at = c.in-Some.ensures.value ∙ ap (λ (l : List ℕ). slice_get l 0) c.chunk.ensures in
    let saturated = saturated_is sum (field_size (field_of c.in_ok-field.field)) c.mem_size.result c.loop-byte.mem_size
    c.saturating_add-mem_size.result c.loop-byte.invariant.size c.mem_size.ensures c.saturating_add-mem_size.ensures
    in
    let goes = turn_good inv.0 c.args.max_size sum c.loop-byte.buf.rest c.in-Some.byte.now
    (fields_in c.loop-byte.fields.items) _ (field_of c.in_ok-field.field) c.read_stateless_field.new.buf.rest inv.1 inv.2 at
    c.in_ok-field.ensures.exact.0 (omega (arith, saturated, c.if-mem_size-max_size.false)) in
    let more : fields_in c.push.new.self.items ≡ fields_in c.loop-byte.fields.items
    ++ field_of c.in_ok-field.field ∷ [] =
    ap fields_in c.in_ok-push.ensures.items ∙ fields_more c.loop-byte.fields.items c.in_ok-field.field in
    let all : total_size (fields_in c.loop-byte.fields.items ++ field_of c.in_ok-field.field ∷ [])
    ≡ sum + field_size (field_of c.in_ok-field.field) =
    total_last (fields_in c.loop-byte.fields.items) (field_of c.in_ok-field.field) in
    record {
      lines = rw (more, all) goes.next;
      size = rw (more, all) saturated;
      begun = inr (held_begun c.args.buf.now.rest c.loop-byte.buf.rest c.in-Some.byte.now
          (field_of c.in_ok-field.field) c.read_stateless_field.new.buf.rest c.loop-byte.invariant.begun at
          c.in_ok-field.ensures.exact.0);
      total = c.in_ok-field.ensures.exact.1 ∙ c.loop-byte.invariant.total;
    }

pub returns-clause-exact : goal.returns-clause-exact
returns-clause-exact c =
    let inv = c.loop-byte.invariant.lines in
    let none = none_left c.loop-byte.buf.rest (c.in_default.ensures.value
    ∙ ap (λ (l : List ℕ). slice_get l 0) c.chunk.ensures) in (
      lines_end inv.0 c.args.max_size (total_size (fields_in c.loop-byte.fields.items)) c.loop-byte.buf.rest
          (fields_in c.loop-byte.fields.items) _ inv.2 none,
      c.loop-byte.invariant.size,
      refl,
    )

pub returns-clause-finished : goal.returns-clause-finished
returns-clause-finished c = (
  none_left c.loop-byte.buf.rest (c.in_default.ensures.value ∙ ap (λ (l : List ℕ). slice_get l 0) c.chunk.ensures),
  c.loop-byte.invariant.total,
)
