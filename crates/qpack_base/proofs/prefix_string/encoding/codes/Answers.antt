use Rattle.qpack_base.proofs.CodeTables.{codes_are}
use Rattle.qpack_base.proofs.prefix_string.encoding.codes.Goals as goal

pub returns : goal.returns
returns c = codes_are
