use Rattle.qpack_base.proofs.StringReaders.{string_found, string_only, string_overflows, string_truncates}
use Rattle.qpack_base.proofs.StringReaders.{string_faulty, string_refused}
use Rattle.qpack_base.proofs.WholePayloads.{string_memory}
use Rattle.qpack_base.proofs.prefix_string.decode.Goals as goal

pub returns-clause-found : goal.returns-clause-found
returns-clause-found c = string_found c.args.size c.args.buf.now c.read.new.buf c.read.result c.read.ensures

pub returns-clause-only : goal.returns-clause-only
returns-clause-only c = string_only c.args.size c.args.buf.now c.read.new.buf c.read.result c.read.ensures

pub returns-clause-overflow : goal.returns-clause-overflow
returns-clause-overflow c = string_overflows c.args.size c.args.buf.now c.read.new.buf c.read.result c.read.ensures

pub returns-clause-truncated : goal.returns-clause-truncated
returns-clause-truncated c = string_truncates c.args.size c.args.buf.now c.read.new.buf c.read.result c.read.ensures

pub returns-clause-faulty : goal.returns-clause-faulty
returns-clause-faulty c = string_faulty c.args.size c.args.buf.now c.read.new.buf c.read.result c.read.ensures

pub returns-clause-refused : goal.returns-clause-refused
returns-clause-refused c = string_refused c.args.size c.args.buf.now c.read.new.buf c.read.result c.read.ensures

pub returns-clause-memory : goal.returns-clause-memory
returns-clause-memory c = string_memory c.args.size c.args.buf.now c.read.new.buf c.read.result c.read.ensures
