use Rattle.std.proofs.Common.{append_assoc}
use Rattle.qpk_check.proofs.report.push_counts.Goals as goal

pub returns : goal.returns
returns c = λ h. let e = c.push_numbers.ensures h in let p = c.push_str.ensures e.0 in
    (p.0, e.1, rw (e.2, p.1, append_assoc))
