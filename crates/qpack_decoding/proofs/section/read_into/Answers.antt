use Rattle.std.proofs.Common.{subst}
use Rattle.qpack_wire.specs.Memory.{AsksSectionForMemory}
use Rattle.qpack_wire.specs.Prefixes.{prefix_of}
use Rattle.qpack_wire.proofs.Asking.{asks_section}
use Rattle.qpack_decoding.proofs.section.read_into.Goals as goal

pub returns-clause-memory : goal.returns-clause-memory
returns-clause-memory g c e =
    subst AsksSectionForMemory c.new-buf.ensures.rest
    (asks_section c.new-buf.result c.decode.new.buf (prefix_of c.in_ok-prefix.prefix)
    c.in_ok-prefix.ensures.decodes.found (c.read_behind.ensures.memory e))
