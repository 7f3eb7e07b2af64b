-- Instructions that insert, at a capacity above 0, as the instruction of a new entry does.
use Rattle.std.proofs.Common.{ℕ, ◌<◌, ◌≡◌, List, length, Option}
use Rattle.std.proofs.Common.{None, Some}
use Rattle.std.specs.List.{AllByRecursion}
use Rattle.qpack_spec.specs.Field.{Field, has_name, is_field}
use Rattle.qpack_spec.specs.Instruction.{EncoderInstruction, InsertStaticName, InsertDynamicName, InsertLiteralName}
use Rattle.qpack_spec.specs.Instruction.{Duplicate, SetCapacity}
use Rattle.qpack_spec.specs.Rule.{Draft}
use Rattle.qpack_spec.specs.Rule.{by_name, by_static_name, by_equal, instruction_for}
use Rattle.qpack_spec.specs.StaticTable.{static_name_index}
use Rattle.qpack_spec.specs.Table.{last_position}

-- an instruction that inserts, at a capacity above 0
abbrev pub InsertsAt : ℕ → EncoderInstruction → Type 0
InsertsAt c (InsertStaticName index value) = 0 < c
InsertsAt c (InsertDynamicName relative value) = 0 < c
InsertsAt c (InsertLiteralName name value) = 0 < c
InsertsAt c (Duplicate relative) = 0 < c
InsertsAt c (SetCapacity n) = ⊥

-- a block in progress that inserted so
abbrev pub OnlyInserts : ℕ → Draft → Type 0
OnlyInserts c d = (d.table.capacity ≡ c) × AllByRecursion (InsertsAt c) d.instructions

name_inserts : (c : ℕ) (f : Field) (stay : ℕ) (o : Option ℕ) → 0 < c → InsertsAt c (by_name f stay o)
name_inserts c f stay (Some i) h = h
name_inserts c f stay None h = h

static_inserts : (c : ℕ) (f : Field) (stay : List Field) (o : Option ℕ) → 0 < c → InsertsAt c (by_static_name f stay o)
static_inserts c f stay (Some i) h = h
static_inserts c f stay None h = name_inserts c f (length stay) (last_position (has_name f.name) stay) h

equal_inserts : (c : ℕ) (f : Field) (stay : List Field) (o : Option ℕ) → 0 < c → InsertsAt c (by_equal f stay o)
equal_inserts c f stay (Some i) h = h
equal_inserts c f stay None h = static_inserts c f stay (static_name_index f.name) h

pub instruction_inserts : (c : ℕ) (f : Field) (stay : List Field) → 0 < c → InsertsAt c (instruction_for f stay)
unfolding instruction_for
instruction_inserts c f stay h = equal_inserts c f stay (last_position (is_field f) stay) h
