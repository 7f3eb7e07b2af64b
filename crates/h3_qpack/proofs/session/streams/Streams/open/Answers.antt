use Rattle.std.proofs.Common.{refl, sym, ◌∙◌}
use Rattle.qpack_codec.proofs.Streams.{stream_opened, none_is, opened_is}
use Rattle.h3_qpack.proofs.session.streams.Streams.open.Goals as goal

pub returns-clause-same : goal.returns-clause-same
returns-clause-same c =
    stream_opened c.args.self.now _ c.self.inside.by_number c.insert.new.self c.args.number c.new.result c.self.view_is
    refl c.new.ensures (none_is _ (sym c.contains_key.ensures ∙ c.if-contains_key.false)) c.in_ok-insert.ensures.updates

pub returns-clause-open : goal.returns-clause-open
returns-clause-open c = opened_is c.self.inside.by_number c.insert.new.self c.args.number c.new.result
    c.in_ok-insert.ensures.updates
