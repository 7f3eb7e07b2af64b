use Rattle.std.proofs.Common.{refl}
use Rattle.qpack_base.specs.declared.prefix_string.encoding.TheConstants.{CODES}
use Rattle.qpack_base.proofs.CodeTables.{codes_are}
use Rattle.qpack_base.proofs.PairTables.{pairs_agree}
use Rattle.qpack_base.proofs.prefix_string.pair_table.pairs.Goals as goal

pub returns : goal.returns
returns c = pairs_agree CODES _ codes_are refl refl
