use Rattle.qpack_wire.specs.Lines.{literal_with_name_ref}
use Rattle.qpack_wire.proofs.Asking.{asks_alone}
use Rattle.qpack_wire.proofs.Readers.{decodes}
use Rattle.qpack_wire.proofs.LineForms.{name_ref_follows}
use Rattle.qpack_wire.proofs.block.literals.LiteralWithNameRef.decode.Goals as goal

pub returns-clause-decodes : goal.returns-clause-decodes
returns-clause-decodes c = decodes name_ref_follows c.read_literal_with_name_ref.ensures.exact

pub returns-clause-memory : goal.returns-clause-memory
returns-clause-memory c e =
    asks_alone literal_with_name_ref c.args.buf.now.rest (c.read_literal_with_name_ref.ensures.memory e)
