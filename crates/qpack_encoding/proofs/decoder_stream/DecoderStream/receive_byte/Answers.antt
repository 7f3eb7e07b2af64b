use Rattle.std.proofs.Common.{◌∙◌, ap, sym, subst, ℕ, ◌<◌, List, ◌++◌, ◌∷◌, [], length, Ok}
use Rattle.qpack_encoding.specs.Hearing.{HearsMore, Receives, StreamView}
use Rattle.qpack_shared.specs.Places.{passed}
use Rattle.qpack_encoding.proofs.HeardStreams.{still_waits, is_refused, is_completed}
use Rattle.qpack_encoding.proofs.decoder_stream.DecoderStream.receive_byte.Goals as goal

pub invariant_of-self-in-Ok-false : goal.invariant_of-self-in-Ok-false
invariant_of-self-in-Ok-false g c =
    subst (λ (x : List ℕ). length x < 10) c.as_slice.ensures
    (c.in-Ok-false.ensures.short (ap (λ b. Ok b) c.in-Ok-false.field-0-test))

pub returns-in-Ok-true : goal.returns-in-Ok-true
returns-in-Ok-true g c heard before k =
    let one = rw c.in-Ok-true.field-0-test at c.in-Ok-true.ensures.hears in
    subst
    (λ (x : List ℕ). HearsMore c.args.table.now c.hear.new.table heard
    (λ all. Receives all (before ++ c.args.byte ∷ []) (record { pending = x; place = c.pass-self-inside.result })))
    (sym c.clear.ensures)
    (is_completed c.args.table.now c.hear.new.table heard before c.as_slice.result.now c.args.byte _
    c.pass-self-inside.result (subst (λ (s : StreamView). Receives heard before s) (sym c.self.view_is) k)
    (c.as_slice.ensures ∙ c.push.ensures) one
    (c.pass-self-inside.ensures
    ∙ ap (λ (x : List ℕ). passed c.self.inside.place 1 (length x))
    (c.as_slice-in-Ok-true.ensures ∙ sym c.as_slice.ensures)))

pub returns-in-Ok-false : goal.returns-in-Ok-false
returns-in-Ok-false g c heard before k =
    let waits = rw c.in-Ok-false.field-0-test at c.in-Ok-false.ensures.hears in
    subst
    (λ (x : List ℕ). HearsMore c.args.table.now c.hear.new.table heard
    (λ all. Receives all (before ++ c.args.byte ∷ []) (record { pending = x; place = c.self.inside.place })))
    c.as_slice.ensures
    (still_waits c.args.table.now c.hear.new.table heard before c.as_slice.result.now c.args.byte _
    (subst (λ (s : StreamView). Receives heard before s) (sym c.self.view_is) k)
    (c.as_slice.ensures ∙ c.push.ensures) waits.0 waits.1)

pub returns-in-Err : goal.returns-in-Err
returns-in-Err g c heard before k = (
  is_refused c.args.table.now c.hear.new.table heard before c.as_slice.result.now c.args.byte _ c.in-Err.error
      (subst (λ (s : StreamView). Receives heard before s) (sym c.self.view_is) k)
      (c.as_slice.ensures ∙ c.push.ensures) c.in-Err.ensures.hears.0 c.in-Err.ensures.hears.1,
  c.clear-in-Err.ensures,
)
