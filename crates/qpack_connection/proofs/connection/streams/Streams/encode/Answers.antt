use Rattle.qpack_connection.specs.OwnedLines.{lines_of}
use Rattle.qpack_connection.proofs.SentSections.{sent_among, kept_among}
use Rattle.qpack_connection.proofs.connection.streams.Streams.encode.Goals as goal

pub returns-clause-ok : goal.returns-clause-ok
returns-clause-ok c =
    sent_among c.args.self.now c.open.new.self c.self.inside.by_number (c.get_mut.follows.lender c.encode.new.self)
    c.args.number c.in-Some.stream.now c.encode.new.self (lines_of c.args.fields.items) c.args.encoder.now
    c.encode.new.encoder c.encode.result
    (c.open.ensures.same, c.self.view_is, c.in-Some.ensures.value, c.get_mut.follows.holds c.encode.new.self)
    c.encode.ensures.ok

pub returns-clause-err : goal.returns-clause-err
returns-clause-err c =
    kept_among c.args.self.now c.open.new.self c.self.inside.by_number (c.get_mut.follows.lender c.encode.new.self)
    c.args.number c.in-Some.stream.now c.encode.new.self c.encode.result
    (c.open.ensures.same, c.self.view_is, c.in-Some.ensures.value, c.get_mut.follows.holds c.encode.new.self)
    c.encode.ensures.err
