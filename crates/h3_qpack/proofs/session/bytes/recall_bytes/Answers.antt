use Rattle.std.proofs.Common.{arith}
use Rattle.qpack_base.proofs.PutCodes.{bytes_from}
use Rattle.h3_qpack.proofs.session.bytes.recall_bytes.Goals as goal

pub returns : goal.returns
returns c = bytes_from c.args.bytes.now (λ i. omega (arith, c.type_inv.bytes i))
