-- What a reader of integers returns, by the definition of integers.
use Rattle.std.specs.Prelude.{◌≡◌, ℕ, List, Result, Ok, Err}
use Rattle.qpack_spec.specs.Integer.{IntegerFault}
use Rattle.qpack_spec.specs.Integer as integer
use Rattle.qpack_base.specs.declared.prefix_int.Error.{Error}
use Rattle.qpack_base.specs.declared.prefix_int.Error.TheVariants.{Overflow, UnexpectedEnd}
use Rattle.qpack_base.specs.Cursor.{CursorView}

-- the fault that an error reports
abbrev pub integer_fault_of : Error → IntegerFault
integer_fault_of Overflow = integer.Overflow
integer_fault_of UnexpectedEnd = integer.UnexpectedEnd

-- the result is what was read, and the cursor is after it; or it is the fault
abbrev pub ReadsInteger : CursorView → CursorView → Result (ℕ × ℕ) Error → Result (ℕ × ℕ × List ℕ) IntegerFault → Type 0
ReadsInteger old new (Ok x) read = (read ≡ Ok (x.0, x.1, new.rest)) × (new.total ≡ old.total)
ReadsInteger old new (Err e) read = read ≡ Err (integer_fault_of e)

-- the result is what was read of the groups after a full prefix, and the cursor is after them; or it is the fault
abbrev pub ReadsGroups : CursorView → CursorView → Result ℕ Error → Result (ℕ × List ℕ) IntegerFault → Type 0
ReadsGroups old new (Ok x) read = (read ≡ Ok (x, new.rest)) × (new.total ≡ old.total)
ReadsGroups old new (Err e) read = read ≡ Err (integer_fault_of e)
