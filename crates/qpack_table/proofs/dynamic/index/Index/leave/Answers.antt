use Rattle.qpack_table.proofs.dynamic.index.Index.leave.Goals as goal

pub returns-clause-room : goal.returns-clause-room
returns-clause-room g c = λ has. record {
  field = c.leave.ensures.room has.field;
  name = c.leave-2.ensures.room has.name;
}
