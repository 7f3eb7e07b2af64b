use Rattle.std.proofs.Common.{sym, arith}
use Rattle.std.proofs.Math.Nat.{mod-lt}
use Rattle.qpack_decoding.proofs.ReportLengths.{report_even, report_long, report_short}
use Rattle.qpack_decoding.proofs.unsent.report_len.Goals as goal

pub returns-then-rest-eq0-clause-is : goal.returns-then-rest-eq0-clause-is
returns-then-rest-eq0-clause-is c = sym (report_even c.args.insertions c.if-rest-eq0.true)

pub returns-then-rest-lt63-clause-is : goal.returns-then-rest-lt63-clause-is
returns-then-rest-lt63-clause-is c = sym (report_short c.args.insertions c.if-rest-eq0.false c.if-rest-lt63.true)

pub returns-else-rest-lt63-clause-is : goal.returns-else-rest-lt63-clause-is
returns-else-rest-lt63-clause-is c =
    sym (report_long c.args.insertions (omega (arith, c.if-rest-lt63.false, mod-lt c.args.insertions {m = 64} (omega arith))))
