use Rattle.std.proofs.Common.{sym, subst, ℕ, ◌+◌, List, ◌++◌, take, append-nil, arith, refl}
use Rattle.std.proofs.lemmas.List.{take_all}
use Rattle.std.proofs.lemmas.Result.{err_from_is_err_and}
use Rattle.qpack_encoding.specs.Hearing.{HearsMore, Receives, HasRefused}
use Rattle.qpack_encoding.proofs.HeardStreams.{next_byte, refused_within, then_more, heard_as, none_more}
use Rattle.qpack_encoding.proofs.decoder_stream.DecoderStream.receive_bytes.Goals as goal

pub loop-byte-init : goal.loop-byte-init
loop-byte-init g c heard before k =
    none_more c.args.table.now c.args.table.now heard _ refl
    (subst (λ (x : List ℕ). Receives heard x c.args.self.now) (sym (append-nil before)) k)

pub loop-byte-preserved : goal.loop-byte-preserved
loop-byte-preserved g c heard before k =
    let front = c.loop-byte.invariant heard before k in
    then_more c.args.table.now c.loop-byte.table c.receive_byte.new.table heard _
    (λ all. Receives all (before ++ take (c.loop-byte.byte-index + 1) c.args.bytes.now) c.receive_byte.new.self) front
    (heard_as c.loop-byte.table c.receive_byte.new.table (heard ++ front.more) _ _
    (λ all h. next_byte (λ (x : List ℕ). Receives all x c.receive_byte.new.self) before c.args.bytes.now
    c.loop-byte.byte-index c.loop-byte-test.true h)
    (c.in_ok-receive_byte.ensures (heard ++ front.more) (before ++ take c.loop-byte.byte-index c.args.bytes.now)
    front.behind_them))

pub returns-in_err-receive_byte : goal.returns-in_err-receive_byte
returns-in_err-receive_byte g c heard before k =
    let p = err_from_is_err_and c.from_residual.result c.from_residual.ensures.1 in
    let front = c.loop-byte.invariant heard before k in
    let refused = c.in_err-receive_byte.ensures (heard ++ front.more)
    (before ++ take c.loop-byte.byte-index c.args.bytes.now) front.behind_them in
    rw (p.1, p.2) (
      then_more c.args.table.now c.loop-byte.table c.receive_byte.new.table heard _
          (λ all. HasRefused c.receive_byte.new.table all (before ++ c.args.bytes.now)
          c.in_err-receive_byte.field-0.0) front
          (heard_as c.loop-byte.table c.receive_byte.new.table (heard ++ front.more) _ _
          (λ all h. refused_within c.receive_byte.new.table all before c.args.bytes.now (c.loop-byte.byte-index + 1)
          c.in_err-receive_byte.field-0.0
          (next_byte (λ (x : List ℕ). HasRefused c.receive_byte.new.table all x c.in_err-receive_byte.field-0.0)
          before c.args.bytes.now c.loop-byte.byte-index c.loop-byte-test.true h)) refused.0),
      refused.1,
    )

pub returns : goal.returns
returns g c heard before k =
    let all = take_all c.loop-byte.byte-index c.args.bytes.now (omega (arith, c.loop-byte-test.false)) in
    subst
    (λ (x : List ℕ). HearsMore c.args.table.now c.loop-byte.table heard
    (λ is. Receives is (before ++ x) c.loop-byte.self)) all (c.loop-byte.invariant heard before k)
