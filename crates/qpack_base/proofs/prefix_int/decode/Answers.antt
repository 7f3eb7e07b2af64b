use Rattle.qpack_base.proofs.Readers.{integer_found, integer_only, integer_overflows, integer_truncates}
use Rattle.qpack_base.proofs.prefix_int.decode.Goals as goal

pub returns-clause-found : goal.returns-clause-found
returns-clause-found c = integer_found c.args.size c.args.buf.now c.read.new.buf c.read.result c.read.ensures

pub returns-clause-only : goal.returns-clause-only
returns-clause-only c = integer_only c.args.size c.args.buf.now c.read.new.buf c.read.result c.read.ensures

pub returns-clause-overflow : goal.returns-clause-overflow
returns-clause-overflow c = integer_overflows c.args.size c.args.buf.now c.read.new.buf c.read.result c.read.ensures

pub returns-clause-truncated : goal.returns-clause-truncated
returns-clause-truncated c = integer_truncates c.args.size c.args.buf.now c.read.new.buf c.read.result c.read.ensures
