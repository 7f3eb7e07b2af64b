use Rattle.qpack_codec.proofs.Meanings.{decoded_found, decoded_only, decoded_refused, decoded_told}
use Rattle.qpack_codec.proofs.stateless.decode_stateless.Goals as goal

pub returns-clause-found : goal.returns-clause-found
returns-clause-found c =
    decoded_found c.args.max_size c.args.buf.now.rest c.read_stateless.result c.read_stateless.ensures.exact

pub returns-clause-only : goal.returns-clause-only
returns-clause-only c = decoded_only c.args.max_size c.args.buf.now.rest c.read_stateless.result c.read_stateless.ensures.exact

pub returns-clause-refused : goal.returns-clause-refused
returns-clause-refused c =
    decoded_refused c.args.max_size c.args.buf.now.rest c.read_stateless.result c.read_stateless.ensures.exact

pub returns-clause-told : goal.returns-clause-told
returns-clause-told c = decoded_told c.args.max_size c.args.buf.now.rest c.read_stateless.result c.read_stateless.ensures.exact
