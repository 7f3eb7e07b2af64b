use Rattle.std.proofs.Common.{rules, arith}
use Rattle.std.proofs.lemmas.Grind.{common_steps}
use Rattle.qpack_table.specs.Hashes.{few_bytes}
use Rattle.qpack_table.proofs.dynamic.index.hash.few_bytes.Goals as goal

pub loop-byte-init : goal.loop-byte-init
unfolding few_bytes
loop-byte-init c = search rules

pub loop-byte-preserved : goal.loop-byte-preserved
unfolding few_bytes
loop-byte-preserved c = grind (arith, common_steps)
