use Rattle.std.proofs.Common.{◌+◌, ℕ, List, ap, subst, sym, ◌∙◌, drop, ◌++◌, Ok, arith}
use Rattle.std.specs.Prelude.{string_bytes}
use Rattle.std.proofs.lemmas.Result.{err_from_is_err_and}
use Rattle.qpk.specs.Inspecting.{Event, Piece, Section}
use Rattle.qpk.specs.Inspections.{events_in, event_of, FailsInstructions, InspectsBlock}
use Rattle.qpk.proofs.InspectedEvents.{Goes, goes_none, goes_next, goes_until, goes_block, goes_all}
use Rattle.qpk.proofs.InspectedEvents.{slice_unread, piece_moves, none_left}
use Rattle.qpk.proofs.inspect.inspect_events.Goals as goal
use Rattle.qpk.proofs.inspect.inspect_events.Goals.{in-Piece+in_ok-extend_from_slice-in-Piece+in_ok-taken-in-Piece}
use Rattle.qpk.proofs.inspect.inspect_events.Goals.{in-Section+in_ok-inspect_block-in-Section}

pub loop-event-init : goal.loop-event-init
loop-event-init c =
    record {
      goes = subst (λ (u : List ℕ). Goes c.args.decoder.now.table (events_in c.args.events.now)
          (string_bytes c.args.text.now) c.args.decoder.now.table u (events_in c.args.events.now)
          (string_bytes c.args.text.now)) (sym (ap (drop 0) c.new-stream.ensures.items))
          (goes_none c.args.decoder.now.table (events_in c.args.events.now) (string_bytes c.args.text.now));
      within = omega arith;
    }

pub returns-in_err-taken-in-Piece : goal.returns-in_err-taken-in-Piece
returns-in_err-taken-in-Piece c =
    let p = err_from_is_err_and c.from_residual-in_err-taken-in-Piece.result
    c.from_residual-in_err-taken-in-Piece.ensures.1 in
    let inv = c.loop-event.invariant in
    let start = c.args.decoder.now.table in
    let all = events_in c.args.events.now in
    let before = string_bytes c.args.text.now in
    let unread = drop c.loop-event.taken c.loop-event.stream.items in
    let goes = goes_next start c.loop-event.decoder.table all before (string_bytes c.loop-event.text) unread
    c.args.events.now c.loop-event.event-index c.event-item.result (Piece c.in-Piece.bytes.items) inv.goes
    c.loop-event-test.true c.event-item.is (ap event_of c.in-Piece.is) in
    let slice = slice_unread c.loop-event.stream.items c.extend_from_slice.new.self.items
    c.deref-in-Piece.result.now c.in-Piece.bytes.items c.deref.result.now c.loop-event.taken inv.within
    c.in_ok-extend_from_slice-in-Piece.ensures.items c.deref.ensures.value c.deref-in-Piece.ensures.value in
    rw (p.1, p.2)
    (goes_until start c.loop-event.decoder.table all
    (events_in (drop (c.loop-event.event-index + 1) c.args.events.now)) before (string_bytes c.loop-event.text)
    (string_bytes c.inspect_instructions.new.text) unread c.in-Piece.bytes.items c.in_err-taken-in-Piece.field-0.0 goes
    (subst (λ (b : List ℕ). FailsInstructions c.loop-event.decoder.table b (string_bytes c.loop-event.text)
    (string_bytes c.inspect_instructions.new.text) c.in_err-taken-in-Piece.field-0.0) slice
    c.in_err-taken-in-Piece.ensures))

pub loop-event-preserved : goal.loop-event-preserved
loop-event-preserved c =
    let inv = c.loop-event.invariant in
    let start = c.args.decoder.now.table in
    let now = c.loop-event.decoder.table in
    let all = events_in c.args.events.now in
    let before = string_bytes c.args.text.now in
    let unread = drop c.loop-event.taken c.loop-event.stream.items in
    let left = events_in (drop (c.loop-event.event-index + 1) c.args.events.now) in
    let next = goes_next start now all before (string_bytes c.loop-event.text) unread c.args.events.now
    c.loop-event.event-index c.event-item.result in
    elim c.match-event.branch [
      | in-Piece+in_ok-extend_from_slice-in-Piece+in_ok-taken-in-Piece w ↦
          rw (w.decoder-is, w.text-is, w.stream-is, w.taken-is)
          (piece_moves start now w.inspect_instructions.new.decoder.table all left before (string_bytes
          c.loop-event.text)
          (string_bytes w.inspect_instructions.new.text) c.loop-event.stream.items w.extend_from_slice.new.self.items
          w.in-Piece.bytes.items _ c.loop-event.taken w.in_ok-taken-in-Piece.field-0
          (next (Piece w.in-Piece.bytes.items) inv.goes c.loop-event-test.true c.event-item.is
          (ap event_of w.in-Piece.is)) inv.within
          (w.in_ok-extend_from_slice-in-Piece.ensures.items
          ∙ ap (λ (x : List ℕ). c.loop-event.stream.items ++ x) w.deref.ensures.value)
          (slice_unread c.loop-event.stream.items w.extend_from_slice.new.self.items w.deref-in-Piece.result.now
          w.in-Piece.bytes.items w.deref.result.now c.loop-event.taken inv.within
          w.in_ok-extend_from_slice-in-Piece.ensures.items w.deref.ensures.value w.deref-in-Piece.ensures.value)
          w.in_ok-taken-in-Piece.ensures)
      | in-Section+in_ok-inspect_block-in-Section w ↦
          rw (w.decoder-is, w.text-is, w.stream-is, w.taken-is)
          (record {
            goes = goes_block start now all left before (string_bytes c.loop-event.text)
                (string_bytes w.inspect_block.new.text) unread w.in-Section.block.items
                (next (Section w.in-Section.block.items) inv.goes c.loop-event-test.true c.event-item.is
                (ap event_of w.in-Section.is))
                (subst (λ (b : List ℕ). InspectsBlock now b (string_bytes c.loop-event.text)
                (string_bytes w.inspect_block.new.text) (Ok tt)) w.deref-in-Section.ensures.value
                w.in_ok-inspect_block-in-Section.ensures);
            within = inv.within;
          })
    ]

pub returns : goal.returns
returns c =
    goes_all c.args.decoder.now.table c.loop-event.decoder.table (events_in c.args.events.now)
    (string_bytes c.args.text.now) (string_bytes c.loop-event.text)
    (drop c.loop-event.taken c.loop-event.stream.items)
    (subst (λ (es : List Event). Goes c.args.decoder.now.table (events_in c.args.events.now)
    (string_bytes c.args.text.now) c.loop-event.decoder.table (drop c.loop-event.taken c.loop-event.stream.items) es
    (string_bytes c.loop-event.text))
    (none_left c.args.events.now c.loop-event.event-index (omega (arith, c.loop-event-test.false)))
    c.loop-event.invariant.goes)
