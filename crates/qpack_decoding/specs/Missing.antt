-- How many bytes are missing at the end of a prefix or of a line, by the lengths that they spell (RFC 9204, sections 4.1
-- and 4.5).
use Rattle.std.specs.Prelude.{ℕ, ◌-◌, if◌then◌else◌, nat_lt, List, [], ◌∷◌, length, drop, Option, None, Some, Result, Ok, Err}
use Rattle.qpack_spec.specs.Form.{Form, Index, IndexAndValue, NameAndValue}
use Rattle.qpack_spec.specs.Integer.{IntegerFault, Overflow, UnexpectedEnd, integer_at}
use Rattle.qpack_spec.specs.Line.{line_form}

-- at the end of an integer that can't be read: one at least, if the bytes end within it
abbrev pub fault_missing : IntegerFault → ℕ
fault_missing Overflow = 0
fault_missing UnexpectedEnd = 1

-- at the end of an integer
abbrev pub integer_missing : Result (ℕ × ℕ × List ℕ) IntegerFault → ℕ
integer_missing (Ok x) = 0
integer_missing (Err fault) = fault_missing fault

-- at the end of a string whose length was read
abbrev pub string_missing : Result (ℕ × ℕ × List ℕ) IntegerFault → ℕ
string_missing (Ok x) = x.1 - length x.2
string_missing (Err fault) = fault_missing fault

-- at the end of a value after an index that was read
abbrev pub missing_behind_index : Result (ℕ × ℕ × List ℕ) IntegerFault → ℕ
missing_behind_index (Ok i) = string_missing (integer_at 7 i.2)
missing_behind_index (Err fault) = fault_missing fault

-- at the end of a value after a name whose length was read; or, if that is not whole, of the name
abbrev pub missing_behind_name : Result (ℕ × ℕ × List ℕ) IntegerFault → ℕ
missing_behind_name (Ok x) =
    if nat_lt (length x.2) x.1 then x.1 - length x.2 else string_missing (integer_at 7 (drop x.1 x.2))
missing_behind_name (Err fault) = fault_missing fault

-- at the end of a form, by the lengths that it spells
abbrev pub form_missing : {L : Type 0} → Option (Form L) → List ℕ → ℕ
form_missing None bytes = 1
form_missing (Some (Index n make)) bytes = integer_missing (integer_at n bytes)
form_missing (Some (IndexAndValue n make)) bytes = missing_behind_index (integer_at n bytes)
form_missing (Some (NameAndValue n make)) bytes = missing_behind_name (integer_at (n - 1) bytes)

-- how many bytes a line that begins so lacks at least, by the lengths that it spells; none if it is whole
unfoldable pub line_missing : List ℕ → ℕ
line_missing [] = 1
line_missing (b ∷ bytes) = form_missing (line_form b) (b ∷ bytes)

-- at the end of the second integer of a prefix
abbrev pub missing_behind_count : Result (ℕ × ℕ × List ℕ) IntegerFault → ℕ
missing_behind_count (Ok c) = integer_missing (integer_at 7 c.2)
missing_behind_count (Err fault) = fault_missing fault

-- how many bytes a prefix that begins so lacks at least; none if it is whole
unfoldable pub prefix_missing : List ℕ → ℕ
prefix_missing bytes = missing_behind_count (integer_at 8 bytes)
