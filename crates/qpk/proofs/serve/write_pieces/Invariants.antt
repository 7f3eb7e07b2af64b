use Rattle.qpk.specs.Refusals.{AppendsSome}
use Rattle.qpk.proofs.serve.write_pieces.Given as goal

abbrev pub invariant-loop : goal.invariant-loop
invariant-loop g l = AppendsSome (g.W.Write.contents l.initial.output) (g.W.Write.contents l.output)
