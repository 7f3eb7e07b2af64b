-- What is known of an encoder instruction whose bytes end early: how many bytes there must be before it can end, and
-- how large a field it inserts at least (RFC 9204, sections 3.2.1, 4.1 and 4.3).
use Rattle.std.specs.Prelude.{ℕ, suc, ◌+◌, ◌-◌, ◌/◌, ◌%◌, List, [], ◌∷◌, length, drop, Option, None, Some, Result, Ok}
use Rattle.std.specs.Prelude.{Err, nat_lt, ◌==◌, if◌then◌else◌}
use Rattle.qpack_spec.specs.Integer.{IntegerFault, integer_at}
use Rattle.qpack_spec.specs.Form.{Form, Index, IndexAndValue, NameAndValue}
use Rattle.qpack_spec.specs.Instruction.{encoder_instruction_form}

-- ---- how many bytes

-- of a string whose length was read, with `rest` after it of `seen` bytes in all: the bytes up to its end
abbrev pub string_end : ℕ → ℕ → List ℕ → ℕ
string_end seen len rest = seen - length rest + len

-- up to the end of a value, if its length was read; else one byte more at least
abbrev pub value_wanted : ℕ → Result (ℕ × ℕ × List ℕ) IntegerFault → ℕ
value_wanted seen (Err e) = suc seen
value_wanted seen (Ok x) = string_end seen x.1 x.2

-- how many bytes are needed for a value after an index, if that was read
abbrev pub value_behind_index_wanted : ℕ → Result (ℕ × ℕ × List ℕ) IntegerFault → ℕ
value_behind_index_wanted seen (Err e) = suc seen
value_behind_index_wanted seen (Ok i) = value_wanted seen (integer_at 7 i.2)

-- how many bytes are needed for a value after a name. If the name isn't whole: up to its end if it is coded, where it
-- may be refused, and one byte more, of the value, if it is plain
abbrev pub value_behind_name_wanted : ℕ → Result (ℕ × ℕ × List ℕ) IntegerFault → ℕ
value_behind_name_wanted seen (Err e) = suc seen
value_behind_name_wanted seen (Ok x) =
    if nat_lt (length x.2) x.1 then (if x.0 % 2 == 0 then suc (string_end seen x.1 x.2) else string_end seen x.1 x.2)
    else value_wanted seen (integer_at 7 (drop x.1 x.2))

-- how many bytes there must be in all before the form can be whole, or be refused
abbrev pub wanted_in : {L : Type 0} → Option (Form L) → List ℕ → ℕ
wanted_in None bytes = suc (length bytes)
wanted_in (Some (Index n make)) bytes = suc (length bytes)
wanted_in (Some (IndexAndValue n make)) bytes = value_behind_index_wanted (length bytes) (integer_at n bytes)
wanted_in (Some (NameAndValue n make)) bytes = value_behind_name_wanted (length bytes) (integer_at (n - 1) bytes)

-- how many bytes an encoder instruction that begins so needs in all
unfoldable pub wanted : List ℕ → ℕ
wanted [] = 1
wanted (b ∷ bytes) = wanted_in (encoder_instruction_form b) (b ∷ bytes)

-- ---- how large a field

-- the fewest bytes of a text whose payload has this length: no code has more than 31 bits, and fewer than eight follow
-- them (RFC 7541, section 5.2)
abbrev pub least_text : ℕ → ℕ → ℕ
least_text flags len = if flags % 2 == 0 then len else (len + 3) / 4

-- the fewest bytes of a string, if its length was read
abbrev pub least_string : Result (ℕ × ℕ × List ℕ) IntegerFault → ℕ
least_string (Err e) = 0
least_string (Ok x) = least_text x.0 x.1

-- the least length of a value after an index
abbrev pub least_value_behind_index : Result (ℕ × ℕ × List ℕ) IntegerFault → ℕ
least_value_behind_index (Err e) = 0
least_value_behind_index (Ok i) = least_string (integer_at 7 i.2)

-- the least length of a name and a value
abbrev pub least_name_and_value : Result (ℕ × ℕ × List ℕ) IntegerFault → ℕ
least_name_and_value (Err e) = 0
least_name_and_value (Ok x) =
    if nat_lt (length x.2) x.1 then least_text x.0 x.1
    else least_text x.0 x.1 + least_string (integer_at 7 (drop x.1 x.2))

-- the least size of a field that the form inserts: what is known of its strings, and 32 (section 3.2.1); 0 of a form
-- without strings
abbrev pub least_size_in : {L : Type 0} → Option (Form L) → List ℕ → ℕ
least_size_in None bytes = 0
least_size_in (Some (Index n make)) bytes = 0
least_size_in (Some (IndexAndValue n make)) bytes = least_value_behind_index (integer_at n bytes) + 32
least_size_in (Some (NameAndValue n make)) bytes = least_name_and_value (integer_at (n - 1) bytes) + 32

-- the least size of the field that an encoder instruction inserts that begins so
unfoldable pub least_field_size : List ℕ → ℕ
least_field_size [] = 0
least_field_size (b ∷ bytes) = least_size_in (encoder_instruction_form b) (b ∷ bytes)
