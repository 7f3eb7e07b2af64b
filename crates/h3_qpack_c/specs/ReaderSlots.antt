-- What a slot owns.
use base.Fml.{Fml, ftrue}
use denote.RawPtr.{Ptr}
use Rattle.std.specs.Prelude.{Option, None, Some}
use Rattle.std.specs.Box.Ownership.{box_owns}
use Rattle.h3_qpack_c.specs.Tokens.{token}
use Rattle.h3_qpack_c.specs.declared.reader.State.{State}
use Rattle.h3_qpack_c.specs.contracts.reader.State.{the_row}

-- the box of a reader, or nothing
abbrev pub slot_owns : Ptr → Option State → Fml
slot_owns at None = ftrue
slot_owns at (Some v) = box_owns token the_row at v
