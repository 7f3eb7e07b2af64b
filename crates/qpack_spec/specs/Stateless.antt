-- Field sections that reference no entry: what is written without a table, and read so (RFC 9204, sections 2.1 and
-- 4.5).
use Rattle.std.specs.Prelude.{◌≡◌, ℕ, zero, suc, ◌+◌, ◌-◌, ◌^◌, min, false, if◌then◌else◌, nat_lt, List, [], ◌∷◌}
use Rattle.std.specs.Prelude.{length, map, Option, None, Some, Result, Ok, Err}
use Rattle.std.specs.List.{AllByRecursion}
use Rattle.qpack_spec.specs.Bytes.{◌>>=◌}
use Rattle.qpack_spec.specs.Field.{Field, field_size}
use Rattle.qpack_spec.specs.StaticTable.{static_index, static_name_index}
use Rattle.qpack_spec.specs.Form.{FormFault, form_at}
use Rattle.qpack_spec.specs.Line.{Line, IndexedStatic, NamedStatic}
use Rattle.qpack_spec.specs.Line.{Literal, line_form}
use Rattle.qpack_spec.specs.Prefix.{prefix_at}
use Rattle.qpack_spec.specs.Reading.{Fault, BadForm, static_field, field_with_value, Block}
use Rattle.qpack_spec.specs.BlockReading.{coded_block}
use Rattle.qpack_spec.specs.Table.{empty_table}
use Rattle.qpack_spec.specs.Rule.{rule, block_of}
use Rattle.qpack_spec.specs.Text.{Coding}
use Rattle.qpack_spec.specs.WrittenLaws.{IsWritableFieldUnder}

-- a literal, by the least static field of the name
abbrev pub stateless_literal : Field → Option ℕ → Line
stateless_literal f (Some i) = NamedStatic i f.value
stateless_literal f None = Literal f.name f.value

-- an equal static field, else a literal
abbrev pub stateless_line_of : Field → Option ℕ → Line
stateless_line_of f (Some i) = IndexedStatic i
stateless_line_of f None = stateless_literal f (static_name_index f.name)

-- the line of a field without entries
abbrev pub stateless_line : Field → Line
stateless_line f = stateless_line_of f (static_index f)

-- the block of fields without entries: nothing is required
abbrev pub stateless_block : List Field → Block
stateless_block fs =
    record { prefix = record { count = 0; sign = false; delta = 0 }; lines = map (λ f. stateless_line f) fs }

-- why a section can't be read alone: its bytes or a static index, a line that references an entry, or a sum of sizes
-- that passes the limit
pub data StatelessFault : Type 0 where
  BadSection : (fault : Fault) → StatelessFault
  NamesEntry : StatelessFault
  TooLong : (sum : ℕ) → StatelessFault

-- a sum of sizes, saturating at the greatest number of 64 bits
abbrev pub saturated_size : ℕ → ℕ
saturated_size n = min n (2 ^ 64 - 1)

-- a fault of a section
abbrev pub or_bad_section : {A : Type 0} → Result A Fault → Result A StatelessFault
or_bad_section (Ok x) = Ok x
or_bad_section (Err e) = Err (BadSection e)

-- the field that a line means alone
abbrev pub stateless_field : Line → Result Field StatelessFault
stateless_field (IndexedStatic index) = or_bad_section (static_field index)
stateless_field (NamedStatic index value) = or_bad_section (field_with_value value (static_field index))
stateless_field (Literal name value) = Ok (record { name = name; value = value })
stateless_field line = Err NamesEntry

-- a form's fault
abbrev pub or_bad_bytes : {A : Type 0} → Result A FormFault → Result A StatelessFault
or_bad_bytes (Ok x) = Ok x
or_bad_bytes (Err e) = Err (BadSection (BadForm e))

-- the next field, if the sizes so far have this sum: refused if the limit is passed
abbrev pub within_limit : ℕ → ℕ → Field → Result Field StatelessFault
within_limit limit sum f =
    if nat_lt limit (saturated_size (sum + field_size f)) then Err
    (TooLong (saturated_size (sum + field_size f))) else Ok f

-- the fields of the lines in turn, in at most this many steps; a post-base line, whose first bits are 000, is refused
-- by its first byte alone
unfoldable pub stateless_at : ℕ → ℕ → ℕ → List ℕ → Result (List Field) StatelessFault
stateless_at steps limit sum [] = Ok []
stateless_at zero limit sum (b ∷ bytes) = Ok []
stateless_at (suc steps) limit sum (b ∷ bytes) =
    if nat_lt b 32 then Err NamesEntry
    else (or_bad_bytes (form_at line_form (b ∷ bytes)) >>= λ r. stateless_field r.0 >>= λ f. within_limit limit sum f
    >>= λ g. stateless_at steps limit (sum + field_size g) r.1 >>= λ fs. Ok (g ∷ fs))

-- what the bytes of a section mean alone, with a limit on the sum of sizes; the prefix is read, and its values are
-- ignored
unfoldable pub stateless_reading : ℕ → List ℕ → Result (List Field) StatelessFault
stateless_reading limit bytes = or_bad_bytes (prefix_at bytes) >>= λ p. stateless_at (length p.1) limit 0 p.1

-- ---- what is promised

-- without a table, the rule writes just these lines
abbrev pub RuleWithoutTable : Type 0
RuleWithoutTable =
    (fs : List Field) → block_of (empty_table 0 None 0) (rule (empty_table 0 None 0) fs) ≡ stateless_block fs

-- the fields themselves, or the sum at the first one that passes the limit
abbrev pub up_to_limit : ℕ → ℕ → List Field → Result (List Field) StatelessFault
up_to_limit limit sum [] = Ok []
up_to_limit limit sum (f ∷ fs) =
    within_limit limit sum f >>= λ g. up_to_limit limit (sum + field_size g) fs >>= λ gs. Ok (g ∷ gs)

-- what is written alone is read alone as the fields, up to the limit
abbrev pub StatelessPairAgrees : Type 0
StatelessPairAgrees =
    (coding : Coding) (limit : ℕ) (fs : List Field) → AllByRecursion (IsWritableFieldUnder coding) fs
    → stateless_reading limit (coded_block coding (stateless_block fs)) ≡ up_to_limit limit 0 fs
