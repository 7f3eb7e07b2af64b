use Rattle.qpack_base.proofs.WholePayloads.{string_within_memory}
use Rattle.qpack_base.proofs.prefix_string.decode_within.Goals as goal

pub returns-clause-whole : goal.returns-clause-whole
returns-clause-whole g c =
    string_within_memory c.args.most c.args.size c.args.buf.now.rest c.in_ok-take_payload.field-0.flags
    c.take_payload.new.buf.rest c.in_ok-take_payload.field-0.bytes.now c.args.text.now c.read_within.new.text
    c.read_within.result c.in_ok-take_payload.ensures.is c.read_within.ensures.exact
