use Rattle.std.proofs.Common.{map}
use Rattle.qpack_encoding.proofs.NoFields.{refused_alone}
use Rattle.qpack_encoding.proofs.encoder.encode_alone.Goals as goal

pub returns-in-Err-clause-memory : goal.returns-in-Err-clause-memory
returns-in-Err-clause-memory g c =
    refused_alone (map g.H.AsField.line c.args.fields.now) c.args.section.now c.encode_section_stateless.result
    c.in-Err.field-0 c.encode_section_stateless.ensures.succeeds c.in-Err.is
