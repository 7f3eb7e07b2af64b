use Rattle.std.proofs.Common.{List, subst}
use Rattle.std.specs.Prelude.{string_bytes}
use Rattle.qpack_codec.specs.Stateless.{fields_in}
use Rattle.qpack_wire.specs.declared.block.line.BlockLine.{BlockLine}
use Rattle.qpk.specs.Inspections.{PrintsRead, block_of_lines}
use Rattle.qpk.proofs.PrintedBlocks.{section_printed}
use Rattle.qpk.proofs.inspect.blocks.push_section_lines.Goals as goal

pub returns : goal.returns
returns c =
    let fs = fields_in c.args.decoded.now.fields.items in
    let before = string_bytes c.args.text.now in
    let after = string_bytes c.push_read_lines.new.text in
    let t = c.args.decoder.now.table in
    section_printed t c.args.block.now (block_of_lines c.in-Ok.prefix c.in-Ok.lines.items) fs before after
    c.push_read_lines.result c.in-Ok.ensures.found
    (subst (λ (ls : List BlockLine). PrintsRead t (block_of_lines c.in-Ok.prefix ls) fs before after
    c.push_read_lines.result)
    c.deref.ensures.value c.push_read_lines.ensures)
