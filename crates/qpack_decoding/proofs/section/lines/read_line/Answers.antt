use Rattle.std.proofs.Common.{◌∙◌, ◌+◌, ◌++◌, ◌∷◌, List, [], ap, append_assoc, arith, drop, inl, inr, length, length-append, refl}
use Rattle.qpack_decoding.specs.declared.field_section.Span.{Span}
use Rattle.qpack_decoding.specs.Lines.{under}
use Rattle.qpack_decoding.proofs.LineReads.{line_fails, line_large, line_read, line_shortens, text_again, span_of}
use Rattle.qpack_decoding.proofs.LineReads.{sum_is, room_is}
use Rattle.qpack_wire.proofs.Asking.{asks_held}
use Rattle.qpack_decoding.proofs.Asking.{field_held}
use Rattle.qpack_decoding.proofs.section.lines.read_line.Goals as goal

pub returns-in-Err-clause-exact : goal.returns-in-Err-clause-exact
returns-in-Err-clause-exact g c all held =
    let h = c.in-Err.ensures.exact in (
      line_fails (under c.args.lines.now 0) all c.args.first c.args.buf.now.rest (drop 1 c.args.buf.now.rest) c.in-Err.e
          c.requires.at h.0,
      c.truncate.ensures.items
          ∙ text_again c.args.text.now.items c.append_line.new.text.items h.1.0 c.len-start.result
          (omega (arith, c.len-start.ensures)) h.1.1,
      refl,
    )

pub returns-then-sum-lines-clause-exact : goal.returns-then-sum-lines-clause-exact
returns-then-sum-lines-clause-exact g c all held =
    let h = c.in-Ok.ensures.exact in
    let sum = sum_is all c.args.sum c.in-Ok.lengths.name c.in-Ok.lengths.value _ _ c.saturating_add-sum.result h.0
    h.2.name h.2.value held c.saturating_add.ensures c.saturating_add-2.ensures c.saturating_add-sum.ensures in
    let large = line_large (under c.args.lines.now 0) all c.args.first c.args.buf.now.rest
    (drop 1 c.args.buf.now.rest) c.append_line.new.buf.rest h.0 c.requires.at h.1
    (omega (arith, sum, c.if-sum-lines.true)) in (
      rw large sum,
      c.truncate-then-sum-lines.ensures.items ∙ text_again c.args.text.now.items c.append_line.new.text.items
          h.2.extends.0 c.len-start.result (omega (arith, c.len-start.ensures)) h.2.extends.1,
      refl,
    )

pub returns-in-Ok-make_room_within-clause-exact : goal.returns-in-Ok-make_room_within-clause-exact
returns-in-Ok-make_room_within-clause-exact g c all held =
    let h = c.in-Ok.ensures.exact in
    let start = c.len-start.result in
    let name = c.in-Ok.lengths.name in
    let value = c.in-Ok.lengths.value in
    let sum = sum_is all c.args.sum name value _ _ c.saturating_add-sum.result h.0 h.2.name h.2.value held
    c.saturating_add.ensures c.saturating_add-2.ensures c.saturating_add-sum.ensures in
    let room = room_is c.args.lines.now.limit c.args.sum name value _ _ c.saturating_add-sum.result
    c.most_of_field-most.result c.saturating_add.ensures c.saturating_add-2.ensures c.saturating_add-sum.ensures
    (omega (arith, c.if-sum-lines.false)) (omega (arith, c.if-sum.false, c.saturating_add-sum.ensures))
    c.most_of_field-most.ensures in
    let text = h.2.text (omega (arith, room.0, h.2.name, h.2.value)) in
    let span = span_of c.args.text.now.items c.append_line.new.text.items (start + name) (start + name + value)
    c.args.first h.0 c.is_never_indexed.result text (omega (arith, c.len-start.ensures, h.2.name))
    (omega (arith, c.len-start.ensures, h.2.name, h.2.value)) c.is_never_indexed.ensures in
    let added : Span =
    record {
      middle = start + name;
      end = start + name + value;
      never_indexed = c.is_never_indexed.result;
    } in
    record {
      field = _;
      is = line_read (under c.args.lines.now 0) all c.args.first c.args.buf.now.rest
          (drop 1 c.args.buf.now.rest) c.append_line.new.buf.rest h.0 c.requires.at h.1
          (omega (arith, sum, c.if-sum-lines.false));
      span = added;
      spans = c.push_reserved.ensures.items ∙ ap (λ (l : List Span). l ++ added ∷ []) c.make_room_within.ensures.items;
      more = h.0.name ++ h.0.value;
      text = text ∙ append_assoc c.args.text.now.items h.0.name h.0.value;
      within = span.0;
      end = omega (arith, c.len-start.ensures, h.2.name, h.2.value, ap length text, length-append c.args.text.now.items (h.0.name ++ h.0.value), length-append h.0.name h.0.value, ap length (append_assoc c.args.text.now.items h.0.name h.0.value));
      at = span.1;
      sum_is = sum;
      shorter = line_shortens (under c.args.lines.now 0) c.args.buf.now.rest h.0 c.append_line.new.buf.rest h.1;
      total = h.3;
    }

pub returns-then-sum-clause-memory : goal.returns-then-sum-clause-memory
returns-then-sum-clause-memory g c e =
    let h = c.in-Ok.ensures.exact in
    asks_held c.args.buf.now.rest
    (field_held (under c.args.lines.now 0) c.args.buf.now.rest h.0 c.append_line.new.buf.rest h.1)

pub returns-in-Err-make_room_within-clause-memory : goal.returns-in-Err-make_room_within-clause-memory
returns-in-Err-make_room_within-clause-memory g c e =
    let h = c.in-Ok.ensures.exact in
    asks_held c.args.buf.now.rest
    (field_held (under c.args.lines.now 0) c.args.buf.now.rest h.0 c.append_line.new.buf.rest h.1)

pub returns-in-Err-clause-lacks : goal.returns-in-Err-clause-lacks
returns-in-Err-clause-lacks g c e =
    inl (omega (arith, c.in-Err.ensures.asks cc, c.requires.held, c.most_of_field-most.ensures, c.args.text.now.ok.1))

pub returns-then-sum-clause-lacks : goal.returns-then-sum-clause-lacks
returns-then-sum-clause-lacks g c e =
    inl (omega (arith, c.args.text.now.small, c.if-sum-lines.false, c.if-sum.true))

pub returns-in-Err-make_room_within-clause-lacks : goal.returns-in-Err-make_room_within-clause-lacks
returns-in-Err-make_room_within-clause-lacks g c e =
    let room = room_is c.args.lines.now.limit c.args.sum c.in-Ok.lengths.name c.in-Ok.lengths.value _ _
    c.saturating_add-sum.result _ c.saturating_add.ensures c.saturating_add-2.ensures c.saturating_add-sum.ensures
    (omega (arith, c.if-sum-lines.false)) (omega (arith, c.if-sum.false, c.saturating_add-sum.ensures))
    c.most_of_field-most.ensures in
    inr (omega (arith, c.in-Err-make_room_within.ensures.full, c.requires.held, room.1, c.if-sum-lines.false))
