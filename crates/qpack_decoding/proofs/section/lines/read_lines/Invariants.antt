use Rattle.std.proofs.Common.{◌≡◌, ℕ, ◌+◌, ◌*◌, ◌/◌, ◌≤◌, length, max, vec_len, vec_capacity}
use Rattle.qpack_spec.specs.Stateless.{saturated_size}
use Rattle.qpack_spec.specs.StrictReading.{strict_lines_at}
use Rattle.qpack_wire.proofs.Asking.{HasBegun}
use Rattle.qpack_decoding.specs.FieldSections.{AreInTurn, fields_in}
use Rattle.qpack_decoding.specs.Lines.{under}
use Rattle.qpack_decoding.proofs.SectionLines.{Goes}
use Rattle.qpack_decoding.proofs.section.lines.read_lines.Given as goal

abbrev pub invariant-loop-byte : goal.invariant-loop-byte
invariant-loop-byte g l = record {
  lines :
      (all : ℕ) × (l.sum ≡ saturated_size all)
      × Goes (under l.fn.lines l.fn.buf.total) (length l.spans.items) all l.buf.rest
      (fields_in l.text.items 0 l.spans.items)
      (strict_lines_at (length l.fn.buf.rest) (under l.fn.lines l.fn.buf.total) 0 0 l.fn.buf.rest);
  in_turn : AreInTurn 0 l.spans.items (length l.text.items);
  begun : HasBegun l.fn.buf.rest l.buf.rest;
  total : l.buf.total ≡ l.fn.buf.total;
  held : vec_len l.text + 32 * vec_len l.spans ≤ l.sum;
  text : vec_capacity l.text ≤ max (vec_capacity l.fn.text) l.fn.lines.limit;
  spans : vec_capacity l.spans ≤ max (vec_capacity l.fn.spans) (l.fn.lines.limit / 32);
  kept_text : vec_capacity l.fn.text ≤ vec_capacity l.text;
  kept_spans : vec_capacity l.fn.spans ≤ vec_capacity l.spans;
}

abbrev pub decreases-loop-byte : goal.decreases-loop-byte
decreases-loop-byte g l = length l.buf.rest
