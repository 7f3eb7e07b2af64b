use Rattle.std.proofs.Common.{sym, ◌∙◌}
use Rattle.qpack_wire.specs.Instructions.{insert_with_name_ref}
use Rattle.qpack_wire.proofs.Asking.{asks_alone, memory_kept}
use Rattle.qpack_wire.proofs.StreamReaders.{decodes_instruction}
use Rattle.qpack_wire.proofs.InstructionForms.{insert_with_name_ref_follows}
use Rattle.qpack_wire.proofs.stream.encoder_instructions.InsertWithNameRef.decode.Goals as goal

pub returns-clause-decodes : goal.returns-clause-decodes
returns-clause-decodes c = decodes_instruction insert_with_name_ref_follows c.read_insert_with_name_ref.result
    c.or_none.ensures c.read_insert_with_name_ref.ensures.exact

pub returns-clause-memory : goal.returns-clause-memory
returns-clause-memory c e = asks_alone insert_with_name_ref c.args.buf.now.rest
    (c.read_insert_with_name_ref.ensures.memory (memory_kept c.read_insert_with_name_ref.result
    (sym c.or_none.ensures ∙ e)))
