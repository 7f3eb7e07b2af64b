use Rattle.qpack_decoding.specs.Decoders.{end_of}
use Rattle.qpack_connection.proofs.ConnectionStarts.{begins_with}
use Rattle.qpack_connection.proofs.connection.ends.Ends.new.Goals as goal

pub returns-clause-ok : goal.returns-clause-ok
returns-clause-ok c =
    begins_with c.args.settings c.in_ok-new-2.field-0 (end_of c.in_ok-new.field-0) c.encoder.result c.new-3.result
    c.encoder.ensures c.in_ok-new-2.ensures.ok c.in_ok-new.ensures.ok c.new-3.ensures
