use Rattle.qpack_spec.specs.Field.{Field, field_size}
use Rattle.std.proofs.Common.{ap, arith}
use Rattle.qpack_base.proofs.FirstIndexes.{name_found}
use Rattle.qpack_table.proofs.Insertions.{room_fits, room_few, passed_within}
use Rattle.qpack_table.proofs.dynamic.table.DynamicTable.insert_in_room.Goals as goal

pub insertion_of-insertion-requires-clause-few : goal.insertion_of-insertion-requires-clause-few
insertion_of-insertion-requires-clause-few g c = room_few _ _ c.requires.room

pub insertion_of-insertion-requires-clause-passed : goal.insertion_of-insertion-requires-clause-passed
insertion_of-insertion-requires-clause-passed g c =
    passed_within _ _ _ _ _ c.requires.room c.requires.evicted c.passed_over.ensures

pub insert_sent-requires-clause-few : goal.insert_sent-requires-clause-few
insert_sent-requires-clause-few g c = room_few _ _ c.requires.room

pub insert_sent-requires-clause-fits : goal.insert_sent-requires-clause-fits
insert_sent-requires-clause-fits g c = omega (
  arith,
  room_fits _ _ c.requires.room,
  ap (λ (f : Field). field_size f) c.in_ok-copy.ensures,
)

pub copy_of-requires : goal.copy_of-requires
copy_of-requires g c = name_found c.args.field.now.name.now _ c.requires.sought.static_name
