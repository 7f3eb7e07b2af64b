use Rattle.qpack_codec.proofs.Streams.{looked_up, looked_up_none}
use Rattle.h3_qpack.proofs.session.streams.Streams.get.Goals as goal

pub returns-clause-found : goal.returns-clause-found
returns-clause-found c =
    looked_up c.args.self.now c.self.inside.by_number c.args.number c.get.result c.self.view_is c.get.ensures.value

pub returns-clause-none : goal.returns-clause-none
returns-clause-none c =
    looked_up_none c.args.self.now c.self.inside.by_number c.args.number c.get.result c.self.view_is
    c.get.ensures.value
