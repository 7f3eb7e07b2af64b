use Rattle.std.proofs.Common.{◌≡◌, ℕ, suc, ◌+◌, ◌-◌, ◌∷◌, [], List, ap, ◌∙◌, sym, arith, length, length-append, drop}
use Rattle.std.proofs.Common.{inr}
use Rattle.std.specs.Prelude.{slice_get}
use Rattle.qpack_spec.specs.Field.{field_size}
use Rattle.qpack_spec.specs.StrictReading.{strict_line_at}
use Rattle.qpack_decoding.specs.FieldSections.{fields_in}
use Rattle.qpack_decoding.specs.Lines.{under}
use Rattle.qpack_decoding.proofs.SectionLines.{fields_more, goes_bad, goes_on, goes_end, first_is}
use Rattle.qpack_decoding.proofs.SectionLines.{none_is}
use Rattle.qpack_decoding.proofs.SpansInTurn.{in_turn_more}
use Rattle.qpack_wire.proofs.Asking.{asks_begun}
use Rattle.qpack_decoding.proofs.Asking.{held_begun, lacks_before, memory_at}
use Rattle.qpack_decoding.proofs.section.lines.read_lines.Goals as goal

pub loop-byte-preserved : goal.loop-byte-preserved
loop-byte-preserved g c =
    let inv = c.loop-byte.invariant.lines in
    let rest = c.loop-byte.buf.rest in
    let at = first_is rest c.in-Some.byte.now
    (ap (λ (l : List ℕ). slice_get l 0) (sym c.chunk.ensures) ∙ sym c.in-Some.ensures.value) in
    let read = strict_line_at (under c.args.lines.now 0) inv.0 c.in-Some.byte.now (drop 1 rest) in
    let a = c.in-Ok.ensures.exact inv.0 inv.1 in
    let fields = fields_more c.loop-byte.buf c.read_line.new.buf c.loop-byte.text.items c.read_line.new.text.items
    c.loop-byte.spans.items c.read_line.new.spans.items inv.0 c.in-Ok.with read a
    c.loop-byte.invariant.in_turn in
    let number : length c.read_line.new.spans.items ≡ suc (length c.loop-byte.spans.items) =
    omega (arith, ap length a.spans, length-append c.loop-byte.spans.items (a.span ∷ [])) in
    record {
      lines = (
        inv.0 + field_size a.field.field,
        a.sum_is,
        rw (number, fields)
            (goes_on c.args.lines.now c.args.buf.now.total (length c.loop-byte.spans.items) inv.0 rest
            (fields_in c.loop-byte.text.items 0 c.loop-byte.spans.items) _ c.in-Some.byte.now (drop 1 rest) a.field
            c.read_line.new.buf.rest inv.2 at a.is a.shorter),
      );
      in_turn = in_turn_more c.loop-byte.buf c.read_line.new.buf c.loop-byte.text.items c.read_line.new.text.items
          c.loop-byte.spans.items c.read_line.new.spans.items inv.0 c.in-Ok.with read a c.loop-byte.invariant.in_turn;
      begun = inr (held_begun (under c.args.lines.now 0) inv.0 c.in-Some.byte.now c.args.buf.now.rest rest (drop 1 rest)
          a.field c.read_line.new.buf.rest c.loop-byte.invariant.begun at a.is);
      total = a.total ∙ c.loop-byte.invariant.total;
      held = c.in-Ok.ensures.held;
      text = omega (arith, c.in-Ok.ensures.text, c.loop-byte.invariant.text);
      spans = omega (arith, c.in-Ok.ensures.spans, c.loop-byte.invariant.spans);
      kept_text = omega (arith, c.in-Ok.ensures.kept_text, c.loop-byte.invariant.kept_text);
      kept_spans = omega (arith, c.in-Ok.ensures.kept_spans, c.loop-byte.invariant.kept_spans);
    }

pub returns-in-Err-clause-exact : goal.returns-in-Err-clause-exact
returns-in-Err-clause-exact g c =
    let inv = c.loop-byte.invariant.lines in
    let rest = c.loop-byte.buf.rest in
    let at = first_is rest c.in-Some.byte.now
    (ap (λ (l : List ℕ). slice_get l 0) (sym c.chunk.ensures) ∙ sym c.in-Some.ensures.value) in
    let number : c.len-number.result + 1 ≡ suc (length c.loop-byte.spans.items) = omega (arith, c.len-number.ensures) in
    let offset : c.position-offset.result ≡ c.args.buf.now.total - length rest =
    omega (arith, c.position-offset.ensures, c.loop-byte.invariant.total) in
    rw (c.at_line.ensures, number, offset)
    (goes_bad c.args.lines.now c.args.buf.now.total (length c.loop-byte.spans.items) inv.0 rest
    (fields_in c.loop-byte.text.items 0 c.loop-byte.spans.items) _ c.in-Some.byte.now (drop 1 rest) c.in-Err.error inv.2
    at
    (c.in-Err.ensures.exact inv.0 inv.1).0)

pub returns-clause-exact : goal.returns-clause-exact
returns-clause-exact g c =
    let inv = c.loop-byte.invariant.lines in
    goes_end (under c.args.lines.now c.args.buf.now.total) (length c.loop-byte.spans.items) inv.0 c.loop-byte.buf.rest
    (fields_in c.loop-byte.text.items 0 c.loop-byte.spans.items) _ inv.2
    (none_is c.loop-byte.buf.rest
    (ap (λ (l : List ℕ). slice_get l 0) (sym c.chunk.ensures) ∙ sym c.in_default.ensures.value))

pub returns-in-Err-clause-memory : goal.returns-in-Err-clause-memory
returns-in-Err-clause-memory g c e =
    let is = c.at_line.ensures in
    let same = memory_at (c.len-number.result + 1) c.position-offset.result c.in-Err.error cc in
    asks_begun c.args.buf.now.rest c.loop-byte.buf.rest c.loop-byte.invariant.begun (c.in-Err.ensures.memory cc)

pub returns-in-Err-clause-lacks : goal.returns-in-Err-clause-lacks
returns-in-Err-clause-lacks g c e =
    let is = c.at_line.ensures in
    let same = memory_at (c.len-number.result + 1) c.position-offset.result c.in-Err.error cc in
    lacks_before c.args.lines.now.limit _ _ _ _ c.loop-byte.invariant.kept_text c.loop-byte.invariant.kept_spans
    (c.in-Err.ensures.lacks cc)
