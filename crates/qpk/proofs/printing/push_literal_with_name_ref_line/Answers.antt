use Rattle.qpk.proofs.printing.push_literal_with_name_ref_line.Goals as goal

pub returns-in-Dynamic : goal.returns-in-Dynamic
returns-in-Dynamic c =
    let pushed = rw c.deref-in-Dynamic.ensures.value at c.push_index_value_line-in-Dynamic.ensures in
    rw c.in-Dynamic.is pushed
