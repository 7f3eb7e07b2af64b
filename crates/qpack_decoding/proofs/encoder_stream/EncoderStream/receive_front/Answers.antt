use Rattle.std.proofs.Common.{refl, sym, inl, inr, ℕ, List, ◌≡◌, ◌≤◌, ◌<◌, ◌+◌, ◌∙◌, ◌++◌, ap, take, length, length-append, rules, arith}
use Rattle.std.proofs.lemmas.List.{length-take}
use Rattle.std.proofs.lemmas.Result.{err_from_is_err_and}
use Rattle.qpack_decoding.specs.Receiving.{StreamView}
use Rattle.qpack_decoding.proofs.ReceivedStreams.{reaches_same, still_waiting, took_whole, kept_shorter, cut_at}
use Rattle.qpack_decoding.proofs.ReceivedStreams.{front_not_taken, front_waits, front_too_large, front_unkept}
use Rattle.qpack_decoding.proofs.AskingToReceive.{all_asks}
use Rattle.qpack_decoding.proofs.StrictCounts.{all_count}
use Rattle.qpack_decoding.proofs.encoder_stream.EncoderStream.receive_front.Goals as goal
use Rattle.qpack_decoding.proofs.encoder_stream.EncoderStream.receive_front.Goals.{then-len-wanted+in_ok-take_whole}
use Rattle.qpack_decoding.proofs.encoder_stream.EncoderStream.receive_front.Goals.{else-len-wanted}

pub returns-in_err-extend_from_slice-clause-receives : goal.returns-in_err-extend_from_slice-clause-receives
returns-in_err-extend_from_slice-clause-receives g c start before k =
    let p = err_from_is_err_and c.from_residual.result c.from_residual.ensures.1 in
    let same =
    ap (λ (l : List ℕ). let v : StreamView = record {
      pending = l;
      wanted = c.self.inside.wanted;
      place = c.self.inside.place;
    } in v) c.in_err-extend_from_slice.ensures.items
    ∙ c.self.view_is in
    let some : 0 < length c.args.buf.now.rest =
    omega (
      arith,
      c.in_err-extend_from_slice.ensures.full,
      c.self.inside.pending.ok.1,
      length-take c.min-count.result c.chunk.result.now,
      ap length c.chunk.ensures,
    ) in
    rw (p.1, p.2) (front_unkept start c.args.table.now before c.args.buf.now.rest c.args.self.now _ same k some)

pub returns-in_err-take_whole-clause-receives : goal.returns-in_err-take_whole-clause-receives
returns-in_err-take_whole-clause-receives g c start before k =
    let p = err_from_is_err_and c.from_residual-in_err-take_whole.result c.from_residual-in_err-take_whole.ensures.1 in
    let x = take c.min-count.result c.args.buf.now.rest in
    let grown : c.extend_from_slice.new.self.items ≡ c.args.self.now.pending ++ x =
    c.in_ok-extend_from_slice.ensures.items
    ∙ ap (λ (v : StreamView). v.pending ++ take c.min-count.result c.chunk.result.now) c.self.view_is
    ∙ ap (λ (l : List ℕ). c.args.self.now.pending ++ take c.min-count.result l) c.chunk.ensures in
    let cut = cut_at c.min-count.result c.args.buf.now.rest x c.advance.new.self.rest refl
    c.advance.ensures.rest in
    rw (p.1, p.2)
    (front_not_taken start c.args.table.now c.take_whole.new.table c.take_whole.new.place before c.args.buf.now.rest x
    c.advance.new.self.rest c.extend_from_slice.new.self.items c.take_whole.new.pending.items c.args.self.now
    c.in_err-take_whole.field-0.0 k cut grown
    (rw (← ap (λ (v : StreamView). v.place) c.self.view_is) c.in_err-take_whole.ensures))

pub returns-in_err-self-inside-clause-receives : goal.returns-in_err-self-inside-clause-receives
returns-in_err-self-inside-clause-receives g c start before k =
    let p = err_from_is_err_and c.from_residual-in_err-self-inside.result
    c.from_residual-in_err-self-inside.ensures.1 in
    let x = take c.min-count.result c.args.buf.now.rest in
    let grown : c.extend_from_slice.new.self.items ≡ c.args.self.now.pending ++ x =
    c.in_ok-extend_from_slice.ensures.items
    ∙ ap (λ (v : StreamView). v.pending ++ take c.min-count.result c.chunk.result.now) c.self.view_is
    ∙ ap (λ (l : List ℕ). c.args.self.now.pending ++ take c.min-count.result l) c.chunk.ensures in
    let cut = cut_at c.min-count.result c.args.buf.now.rest x c.advance.new.self.rest refl
    c.advance.ensures.rest in
    let len : c.len-2.result ≡ length c.extend_from_slice.new.self.items = search rules in
    rw (p.1, p.2)
    (front_too_large start c.if-len-wanted.table before c.args.buf.now.rest x c.advance.new.self.rest
    c.args.self.now _ c.deref.result.now c.in_err-self-inside.field-0.0
    (elim c.if-len-wanted.branch [
      | then-len-wanted+in_ok-take_whole w ↦
          reaches_same start w.take_whole.new.table _ w.take_whole.new.place _ (before ++ x)
          w.take_whole.new.pending.items _ w.table-is (rw w.self-inside-is refl)
          (c.deref.ensures.value ∙ (rw w.self-inside-is refl))
          (took_whole start c.args.table.now w.take_whole.new.table w.take_whole.new.place before x
          c.extend_from_slice.new.self.items w.take_whole.new.pending.items c.args.self.now w.in_ok-take_whole.field-0 k
          grown (rw (← ap (λ (v : StreamView). v.place) c.self.view_is) w.in_ok-take_whole.ensures))
      | else-len-wanted w ↦
          reaches_same start c.args.table.now _ c.args.self.now.place _ (before ++ x)
          c.extend_from_slice.new.self.items _ w.table-is
          ((rw w.self-inside-is refl) ∙ ap (λ (v : StreamView). v.place) c.self.view_is)
          (c.deref.ensures.value ∙ (rw w.self-inside-is refl))
          (still_waiting start c.args.table.now before x c.extend_from_slice.new.self.items
          c.args.self.now k grown
          (omega (arith, w.if-len-wanted.false, len, ap (λ (v : StreamView). v.wanted) c.self.view_is)))
    ]) cut c.in_err-self-inside.ensures.finds)

pub returns-clause-receives : goal.returns-clause-receives
returns-clause-receives g c start before k =
    let x = take c.min-count.result c.args.buf.now.rest in
    let grown : c.extend_from_slice.new.self.items ≡ c.args.self.now.pending ++ x =
    c.in_ok-extend_from_slice.ensures.items
    ∙ ap (λ (v : StreamView). v.pending ++ take c.min-count.result c.chunk.result.now) c.self.view_is
    ∙ ap (λ (l : List ℕ). c.args.self.now.pending ++ take c.min-count.result l) c.chunk.ensures in
    let cut = cut_at c.min-count.result c.args.buf.now.rest x c.advance.new.self.rest refl
    c.advance.ensures.rest in
    let len : c.len-2.result ≡ length c.extend_from_slice.new.self.items = search rules in
    let shorter : length c.deref.result.now ≤ length c.args.self.now.pending + length x =
    elim c.if-len-wanted.branch [
      | then-len-wanted+in_ok-take_whole w ↦
          omega (
            arith,
            ap length c.deref.ensures.value,
            ap length (ap (λ i. i.pending.items) w.self-inside-is),
            kept_shorter c.args.table.now w.take_whole.new.table c.self.inside.place w.take_whole.new.place
                c.extend_from_slice.new.self.items w.take_whole.new.pending.items w.in_ok-take_whole.field-0
                w.in_ok-take_whole.ensures,
            ap length grown,
            length-append c.args.self.now.pending x,
          )
      | else-len-wanted w ↦
          omega (
            arith,
            ap length c.deref.ensures.value,
            ap length (ap (λ i. i.pending.items) w.self-inside-is),
            ap length grown,
            length-append c.args.self.now.pending x,
          )
    ] in
    rw (← c.deref.ensures.value)
    (front_waits start c.if-len-wanted.table before c.args.buf.now.rest x c.advance.new.self.rest c.args.self.now
    c.if-len-wanted.self-inside.place c.deref.result.now c.in_ok-self-inside.field-0
    (elim c.if-len-wanted.branch [
      | then-len-wanted+in_ok-take_whole w ↦
          reaches_same start w.take_whole.new.table _ w.take_whole.new.place _ (before ++ x)
          w.take_whole.new.pending.items _ w.table-is (rw w.self-inside-is refl)
          (c.deref.ensures.value ∙ (rw w.self-inside-is refl))
          (took_whole start c.args.table.now w.take_whole.new.table w.take_whole.new.place before x
          c.extend_from_slice.new.self.items w.take_whole.new.pending.items c.args.self.now w.in_ok-take_whole.field-0 k
          grown (rw (← ap (λ (v : StreamView). v.place) c.self.view_is) w.in_ok-take_whole.ensures))
      | else-len-wanted w ↦
          reaches_same start c.args.table.now _ c.args.self.now.place _ (before ++ x)
          c.extend_from_slice.new.self.items _ w.table-is
          ((rw w.self-inside-is refl) ∙ ap (λ (v : StreamView). v.place) c.self.view_is)
          (c.deref.ensures.value ∙ (rw w.self-inside-is refl))
          (still_waiting start c.args.table.now before x c.extend_from_slice.new.self.items
          c.args.self.now k grown
          (omega (arith, w.if-len-wanted.false, len, ap (λ (v : StreamView). v.wanted) c.self.view_is)))
    ]) cut shorter c.in_ok-self-inside.ensures.finds)

pub returns-in_err-take_whole-clause-grows : goal.returns-in_err-take_whole-clause-grows
returns-in_err-take_whole-clause-grows g c =
    all_count c.in_err-take_whole.ensures.0.lines c.args.table.now c.take_whole.new.table
    c.in_err-take_whole.ensures.0.applies

pub returns-in_err-self-inside-clause-grows : goal.returns-in_err-self-inside-clause-grows
returns-in_err-self-inside-clause-grows g c =
    elim c.if-len-wanted.branch [
      | then-len-wanted+in_ok-take_whole w ↦
          rw w.table-is (all_count w.in_ok-take_whole.ensures.0.lines c.args.table.now w.take_whole.new.table
          w.in_ok-take_whole.ensures.0.applies)
      | else-len-wanted w ↦ rw w.table-is (omega arith)
    ]

pub returns-clause-grows : goal.returns-clause-grows
returns-clause-grows g c =
    elim c.if-len-wanted.branch [
      | then-len-wanted+in_ok-take_whole w ↦
          rw w.table-is (all_count w.in_ok-take_whole.ensures.0.lines c.args.table.now w.take_whole.new.table
          w.in_ok-take_whole.ensures.0.applies)
      | else-len-wanted w ↦ rw w.table-is (omega arith)
    ]

pub returns-in_err-extend_from_slice-clause-memory : goal.returns-in_err-extend_from_slice-clause-memory
returns-in_err-extend_from_slice-clause-memory g c e =
    inr (inr (λ none. absurd (omega (
      arith,
      c.in_err-extend_from_slice.ensures.full,
      c.self.inside.pending.ok.1,
      length-take c.min-count.result c.chunk.result.now,
      ap length c.chunk.ensures,
      ap length none,
    ))))

pub returns-in_err-take_whole-clause-memory : goal.returns-in_err-take_whole-clause-memory
returns-in_err-take_whole-clause-memory g c e =
    let p = err_from_is_err_and c.from_residual-in_err-take_whole.result c.from_residual-in_err-take_whole.ensures.1 in
    inl (all_asks _ _ _ _ _ _ c.in_err-take_whole.field-0.0 (let q = sym p.1 ∙ e in cc) c.in_err-take_whole.ensures)

pub returns-in_err-self-inside-clause-memory : goal.returns-in_err-self-inside-clause-memory
returns-in_err-self-inside-clause-memory g c e =
    let p = err_from_is_err_and c.from_residual-in_err-self-inside.result
    c.from_residual-in_err-self-inside.ensures.1 in
    absurd (c.in_err-self-inside.ensures.no_memory (let q = sym p.1 ∙ e in cc))
