use Rattle.std.proofs.Common.{◌≡◌, ◌<◌, ◌∙◌, ◌++◌, ℕ, List, Ok, length, refl, sym, ap, subst, arith, inl, inr}
use Rattle.std.proofs.lemmas.Result.{err_from_is_err_and}
use Rattle.qpack_spec.specs.Form.{Truncates}
use Rattle.qpack_spec.specs.Instruction.{encoder_instruction_form}
use Rattle.qpack_decoding.specs.Receiving.{StreamView, FindsWanted}
use Rattle.qpack_decoding.proofs.ReceivedStreams.{rest_not_taken, rest_too_large, rest_unkept, rest_reaches, rest_waits}
use Rattle.qpack_decoding.proofs.ReceivedStreams.{all_passed, nothing_more}
use Rattle.qpack_decoding.proofs.AskingToReceive.{all_asks}
use Rattle.qpack_decoding.proofs.StrictCounts.{all_count}
use Rattle.qpack_decoding.proofs.encoder_stream.EncoderStream.receive_rest.Goals as goal

pub returns-then-remaining-eq0-clause-receives : goal.returns-then-remaining-eq0-clause-receives
returns-then-remaining-eq0-clause-receives g c start before k nothing =
    nothing_more start c.args.table.now before c.args.buf.now.rest c.args.buf.now.rest c.args.self.now k nothing
    (omega (arith, c.remaining.ensures, c.if-remaining-eq0.true)) refl

pub returns-in_err-take_all_strictly-clause-receives : goal.returns-in_err-take_all_strictly-clause-receives
returns-in_err-take_all_strictly-clause-receives g c start before k nothing =
    let p = err_from_is_err_and c.from_residual.result c.from_residual.ensures.1 in
    rw (p.1, p.2)
    (rest_not_taken start c.args.table.now c.take_all_strictly.new.table c.take_all_strictly.new.place before
    c.args.buf.now.rest c.take_all_strictly.new.buf.rest c.self.inside.pending.items c.args.self.now
    c.in_err-take_all_strictly.field-0.0 k nothing (ap (λ (v : StreamView). v.pending) c.self.view_is ∙ nothing)
    (rw (← ap (λ (v : StreamView). v.place) c.self.view_is) c.in_err-take_all_strictly.ensures.takes))

pub returns-in_err-wanted-clause-receives : goal.returns-in_err-wanted-clause-receives
returns-in_err-wanted-clause-receives g c start before k nothing =
    let p = err_from_is_err_and c.from_residual-in_err-wanted.result c.from_residual-in_err-wanted.ensures.1 in
    rw (p.1, p.2)
    (rest_too_large start c.take_all_strictly.new.table before c.args.buf.now.rest c.take_all_strictly.new.buf.rest
    c.args.self.now
    (record { pending = c.self.inside.pending.items; wanted = 0; place = c.take_all_strictly.new.place })
    c.chunk.result.now c.in_err-wanted.field-0.0
    (rest_reaches start c.args.table.now c.take_all_strictly.new.table c.take_all_strictly.new.place before
    c.args.buf.now.rest c.take_all_strictly.new.buf.rest c.chunk.result.now c.args.self.now
    c.in_ok-take_all_strictly.field-0 k nothing
    (rw (← ap (λ (v : StreamView). v.place) c.self.view_is) c.in_ok-take_all_strictly.ensures.takes) c.chunk.ensures)
    c.in_err-wanted.ensures.finds)

pub returns-in_err-extend_from_slice-clause-receives : goal.returns-in_err-extend_from_slice-clause-receives
returns-in_err-extend_from_slice-clause-receives g c start before k nothing =
    let p = err_from_is_err_and c.from_residual-in_err-extend_from_slice.result
    c.from_residual-in_err-extend_from_slice.ensures.1 in
    let some : 0 < length c.take_all_strictly.new.buf.rest =
    omega (
      arith,
      c.in_err-extend_from_slice.ensures.full,
      c.self.inside.pending.ok.1,
      ap length c.chunk-2.ensures,
    ) in
    rw (p.1, p.2)
    (rest_unkept start c.args.table.now c.take_all_strictly.new.table c.take_all_strictly.new.place before
    c.args.buf.now.rest c.take_all_strictly.new.buf.rest c.extend_from_slice.new.self.items c.args.self.now
    c.in_ok-take_all_strictly.field-0 k nothing
    (c.in_err-extend_from_slice.ensures.items ∙ ap (λ (v : StreamView). v.pending) c.self.view_is ∙ nothing)
    (rw (← ap (λ (v : StreamView). v.place) c.self.view_is) c.in_ok-take_all_strictly.ensures.takes) some)

pub returns-clause-receives : goal.returns-clause-receives
returns-clause-receives g c start before k nothing =
    let kept : c.extend_from_slice.new.self.items ≡ c.take_all_strictly.new.buf.rest =
    c.in_ok-extend_from_slice.ensures.items
    ∙ ap (λ (l : List ℕ). l ++ c.chunk-2.result.now) (ap (λ (v : StreamView). v.pending) c.self.view_is ∙ nothing)
    ∙ c.chunk-2.ensures in
    rest_waits start c.args.table.now c.take_all_strictly.new.table before c.args.buf.now.rest c.args.self.now
    c.take_all_strictly.new.place c.extend_from_slice.new.self.items c.in_ok-wanted.wanted c.advance.new.self.rest
    (rest_reaches start c.args.table.now c.take_all_strictly.new.table c.take_all_strictly.new.place before
    c.args.buf.now.rest c.take_all_strictly.new.buf.rest c.extend_from_slice.new.self.items c.args.self.now
    c.in_ok-take_all_strictly.field-0 k nothing
    (rw (← ap (λ (v : StreamView). v.place) c.self.view_is) c.in_ok-take_all_strictly.ensures.takes) kept)
    (all_passed c.remaining-2.result c.take_all_strictly.new.buf.rest c.advance.new.self.rest c.remaining-2.ensures
    c.advance.ensures.rest)
    (subst (λ (l : List ℕ). Truncates encoder_instruction_form l
    → FindsWanted c.take_all_strictly.new.table l (Ok c.in_ok-wanted.wanted)) (c.chunk.ensures ∙ sym kept)
    c.in_ok-wanted.ensures.finds)

pub returns-in_err-take_all_strictly-clause-grows : goal.returns-in_err-take_all_strictly-clause-grows
returns-in_err-take_all_strictly-clause-grows g c =
    let k = c.in_err-take_all_strictly.ensures.takes.0 in
    all_count k.lines c.args.table.now c.take_all_strictly.new.table k.applies

pub returns-in_err-wanted-clause-grows : goal.returns-in_err-wanted-clause-grows
returns-in_err-wanted-clause-grows g c =
    let k = c.in_ok-take_all_strictly.ensures.takes.0 in
    all_count k.lines c.args.table.now c.take_all_strictly.new.table k.applies

pub returns-in_err-extend_from_slice-clause-grows : goal.returns-in_err-extend_from_slice-clause-grows
returns-in_err-extend_from_slice-clause-grows g c =
    let k = c.in_ok-take_all_strictly.ensures.takes.0 in
    all_count k.lines c.args.table.now c.take_all_strictly.new.table k.applies

pub returns-clause-grows : goal.returns-clause-grows
returns-clause-grows g c =
    let k = c.in_ok-take_all_strictly.ensures.takes.0 in
    all_count k.lines c.args.table.now c.take_all_strictly.new.table k.applies

pub returns-in_err-take_all_strictly-clause-memory : goal.returns-in_err-take_all_strictly-clause-memory
returns-in_err-take_all_strictly-clause-memory g c e =
    let p = err_from_is_err_and c.from_residual.result c.from_residual.ensures.1 in
    inr (inl (all_asks _ _ _ _ _ _ c.in_err-take_all_strictly.field-0.0 (let q = sym p.1 ∙ e in cc)
    c.in_err-take_all_strictly.ensures.takes))

pub returns-in_err-wanted-clause-memory : goal.returns-in_err-wanted-clause-memory
returns-in_err-wanted-clause-memory g c e =
    let p = err_from_is_err_and c.from_residual-in_err-wanted.result c.from_residual-in_err-wanted.ensures.1 in
    absurd (c.in_err-wanted.ensures.no_memory (let q = sym p.1 ∙ e in cc))

pub returns-in_err-extend_from_slice-clause-memory : goal.returns-in_err-extend_from_slice-clause-memory
returns-in_err-extend_from_slice-clause-memory g c e =
    inr (inr (λ none. absurd (omega (
      arith,
      c.in_err-extend_from_slice.ensures.full,
      c.self.inside.pending.ok.1,
      ap length c.chunk-2.ensures,
      ap length none,
    ))))
