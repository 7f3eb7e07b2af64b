use Rattle.qpack_wire.specs.BlockLines.{line_of}
use Rattle.qpack_wire.proofs.Asking.{asks_found}
use Rattle.qpack_codec.proofs.stateless.read_stateless_field.Goals as goal

pub returns-in_ok-decode-in_default-clause-memory : goal.returns-in_ok-decode-in_default-clause-memory
returns-in_ok-decode-in_default-clause-memory c e =
    asks_found c.args.buf.now c.decode-in_default.new.buf
    (line_of c.in_ok-decode-in_default.field-0) c.in_ok-decode-in_default.ensures.decodes.found
