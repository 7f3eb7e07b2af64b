use Rattle.qpk.proofs.Writes.{Written}
use Rattle.qpk.proofs.writing.write_bytes.Given as goal

abbrev pub invariant-loop : goal.invariant-loop
invariant-loop g l = Written (g.W.Write.contents l.initial.to) (g.W.Write.contents l.to) l.bytes l.rest
