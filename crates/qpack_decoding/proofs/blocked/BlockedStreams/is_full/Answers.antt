use Rattle.std.proofs.Common.{◌<◌, ◌∙◌, subst, List, arith, sym}
use Rattle.std.proofs.lemmas.Bool.{lt-leb}
use Rattle.qpack_shared.specs.declared.streams.BlockedStream.{BlockedStream}
use Rattle.qpack_decoding.specs.Blocked.{blocked_among}
use Rattle.qpack_decoding.proofs.BlockedStreams.{blocked_at_most}
use Rattle.qpack_decoding.proofs.blocked.BlockedStreams.is_full.Goals as goal

pub returns-else-len-most : goal.returns-else-len-most
returns-else-len-most c =
    let fewer = c.if-len-most.false in
    let most = blocked_at_most c.args.inserted c.self.inside.streams.keys in
    let all = c.len.ensures.len in
    lt-leb c.args.most c.len.result fewer
    ∙ sym (lt-leb c.args.most (blocked_among c.args.inserted c.args.self.now)
    (subst (λ (bs : List BlockedStream). blocked_among c.args.inserted bs < c.args.most) c.self.view_is
    (omega (arith, fewer, most, all))))
