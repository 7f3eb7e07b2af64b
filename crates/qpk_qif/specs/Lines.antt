-- Text of lines, and the field of a line: its name and its value separated by the first TAB.
use Rattle.std.specs.Prelude.{ℕ, List, [], ◌∷◌, Option, Some, None, nat_eq, if◌then◌else◌}
use Rattle.qpack_spec.specs.Field.{Field}

-- a byte more at the front of the first line
abbrev pub with_byte : ℕ → List (List ℕ) → List (List ℕ)
with_byte b [] = (b ∷ []) ∷ []
with_byte b (line ∷ lines) = (b ∷ line) ∷ lines

-- the lines, parted by line feeds alone; the last one may lack its line feed
abbrev pub lines_of : List ℕ → List (List ℕ)
lines_of [] = []
lines_of (b ∷ bytes) = if nat_eq b 10 then [] ∷ lines_of bytes else with_byte b (lines_of bytes)

-- a byte more at the front of the name
abbrev pub with_name_byte : ℕ → Option Field → Option Field
with_name_byte b None = None
with_name_byte b (Some f) = Some (record { name = b ∷ f.name; value = f.value })

-- the field of a line: the name ends at the first TAB
abbrev pub field_of_line : List ℕ → Option Field
field_of_line [] = None
field_of_line (b ∷ bytes) = if nat_eq b 9 then Some (record { name = []; value = bytes }) else with_name_byte b
    (field_of_line bytes)
