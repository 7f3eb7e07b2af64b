use Rattle.std.proofs.Common.{◌∙◌, ap, sym, List, refl}
use Rattle.std.proofs.lemmas.Bool.{lt-ltb, le-ltb}
use Rattle.qpack_shared.specs.declared.streams.BlockedStream.{BlockedStream}
use Rattle.qpack_decoding.specs.Blocked.{ready}
use Rattle.qpack_decoding.proofs.BlockedStreams.{ready_first}
use Rattle.qpack_decoding.proofs.blocked.BlockedStreams.ready.Goals as goal

pub returns-then-first-inserted : goal.returns-then-first-inserted
returns-then-first-inserted c =
    let first = ready_first c.args.inserted c.in_ok-first.first.now c.self.inside.streams.keys
    c.in_ok-first.ensures.first c.self.invariant.ordered in
    sym (ap (λ (bs : List BlockedStream). ready c.args.inserted bs) (sym c.self.view_is) ∙ first
    ∙ rw (lt-ltb c.args.inserted c.in_ok-first.first.now.required c.if-first-inserted.true) refl)

pub returns : goal.returns
returns c =
    let first = ready_first c.args.inserted c.in_ok-first.first.now c.self.inside.streams.keys
    c.in_ok-first.ensures.first c.self.invariant.ordered in
    sym (ap (λ (bs : List BlockedStream). ready c.args.inserted bs) (sym c.self.view_is) ∙ first
    ∙ rw (le-ltb c.args.inserted c.in_ok-first.first.now.required c.if-first-inserted.false) refl)
