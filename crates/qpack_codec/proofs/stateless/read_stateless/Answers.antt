use Rattle.qpack_wire.specs.Prefixes.{prefix_of}
use Rattle.qpack_wire.proofs.Asking.{asks_section}
use Rattle.qpack_codec.proofs.stateless.read_stateless.Goals as goal

pub returns-clause-memory : goal.returns-clause-memory
returns-clause-memory c e =
    asks_section c.args.buf.now c.decode.new.buf (prefix_of c.in_ok-_prefix._prefix)
    c.in_ok-_prefix.ensures.decodes.found (c.read_stateless_fields.ensures.memory e)
