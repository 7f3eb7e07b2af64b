use Rattle.h3_qpack.proofs.Blocks.{written_among, kept_among}
use Rattle.qpack_codec.specs.Stateless.{fields_in}
use Rattle.h3_qpack.proofs.session.streams.Streams.encode.Goals as goal

pub returns-clause-ok : goal.returns-clause-ok
returns-clause-ok c =
    written_among c.args.self.now c.open.new.self c.self.inside.by_number (c.get_mut.follows.lender c.encode.new.self)
    c.args.number c.in-Some.stream.now c.encode.new.self (fields_in c.args.fields.now) c.args.encoder.now
    c.encode.new.encoder c.args.encoder_stream.now.items c.encode.new.encoder_stream.items c.encode.result
    (c.open.ensures.same, c.self.view_is, c.in-Some.ensures.value, c.get_mut.follows.holds c.encode.new.self)
    c.encode.ensures.ok

pub returns-clause-as_before : goal.returns-clause-as_before
returns-clause-as_before c =
    kept_among c.args.self.now c.open.new.self c.self.inside.by_number (c.get_mut.follows.lender c.encode.new.self)
    c.args.number c.in-Some.stream.now c.encode.new.self c.encode.result
    (c.open.ensures.same, c.self.view_is, c.in-Some.ensures.value, c.get_mut.follows.holds c.encode.new.self)
    c.encode.ensures.as_before
