-- Fields, and bytes, as they cross to C and from it.
use Rattle.std.specs.Prelude.{◌≡◌, ◌%◌, ◌/◌, ◌-◌, ◌^◌, nat_eq, nat_le, min, ℕ, ℤ, if◌then◌else◌, ◌⊎◌, ◌&&◌, Bool}
use Rattle.std.specs.Prelude.{List, ◌++◌, length, map, drop, Option, None, Some}
use Rattle.h3_qpack_c.specs.declared.answers.Given.{Given}
use Rattle.qpack_spec.specs.Field.{FieldLine, fields_of_lines, total_size}
use Rattle.qpack_codec.specs.declared.encoder.choices.Wish.{Wish}
use Rattle.qpack_codec.specs.declared.encoder.choices.Wish.TheVariants.{Unmarked, Never, Reuse, Insert}
use Rattle.h3_qpack_c.specs.declared.answers.Written.{Written}
use Rattle.qpack_decoding.specs.FieldSections.{text_of, text_of_field}
use Rattle.h3_qpack_c.specs.declared.fields.Field.{Field}
use Rattle.h3_qpack_c.specs.Statuses.{done, no_memory, no_room, invalid}

-- the field line of a borrowed field: its lowest flag says that it is never to be indexed (RFC 9204, section 7.1.3)
abbrev pub line_of_lent : Field → FieldLine
line_of_lent f =
    record { field = record { name = f.name.now; value = f.value.now }; never_indexed = nat_eq (f.flags % 2) 1 }

-- the wish in a borrowed field's flags: the lowest, that it is never to be indexed; else the fifth, that nothing is
-- inserted for it; else the fourth, that it is inserted
abbrev pub wish_of_lent : Field → Wish
wish_of_lent f =
    if nat_eq (f.flags % 2) 1 then Never
    else if nat_eq (f.flags / 16 % 2) 1 then Reuse
    else if nat_eq (f.flags / 8 % 2) 1 then Insert
    else Unmarked

-- memory with bytes, or what else it has, at its front
abbrev pub written_over : {A : Type 0} → List A → List A → List A
written_over front old = front ++ drop (length front) old

-- memory after a call that copies bytes to its front if they fit
abbrev pub copied : List ℕ → List ℕ → List ℕ
copied bytes old = if nat_le (length bytes) (length old) then written_over bytes old else old

-- the status of that call
abbrev pub status_of_copy : List ℕ → List ℕ → ℤ
status_of_copy bytes old = if nat_le (length bytes) (length old) then done else no_room

-- what the copy returns: its status, and how many bytes there are
abbrev pub told_of_copy : List ℕ → List ℕ → Written
told_of_copy bytes old = record { status = status_of_copy bytes old; len = length bytes }

-- a field's flags: the lowest says that it is never to be indexed
abbrev pub flags_of : FieldLine → ℕ
flags_of f = if f.never_indexed then 1 else 0

-- the result for a field that does not exist
abbrev pub no_such_field : Given
no_such_field = record { status = invalid; flags = 0; name = 0; value = 0 }

-- the result for a field that is copied
abbrev pub told_of_field : FieldLine → Given
told_of_field f =
    record { status = done; flags = flags_of f; name = length f.field.name; value = length f.field.value }

-- the field's name and value are copied to the caller's memory, one after the other, if both fit, and their lengths are
-- returned; or there is no such field
abbrev pub Gives : Option FieldLine → List ℕ → List ℕ → Given → Type 0
Gives None old new told = (told ≡ no_such_field) × (new ≡ old)
Gives (Some f) old new told =
    (told ≡ record (told_of_field f) { status = status_of_copy (text_of_field f) old })
    × (new ≡ copied (text_of_field f) old)

-- the size of a list of fields: the names, the values, and 32 bytes for each field (RFC 9114, section 4.2.2),
-- saturating
abbrev pub list_size : List FieldLine → ℕ
list_size fs = min (total_size (fields_of_lines fs)) (2 ^ 64 - 1)

-- whether there is room for an entry of each field, and for their text
abbrev pub fit : List FieldLine → List Given → List ℕ → Bool
fit fs told old = nat_le (length fs) (length told) && nat_le (length (text_of fs)) (length old)

-- the fields are copied to the caller's memory if all fit, and else none is; the length of their text in bytes is
-- returned
pub record GivesAll (fields : List FieldLine) (told_before told_after : List Given) (before after : List ℕ)
    (answer : Written) : Type 0 where
  pub status_is : answer.status ≡ (if fit fields told_before before then done else no_room)
  pub len_is : answer.len ≡ length (text_of fields)
  pub told_is : told_after
      ≡ (if fit fields told_before before then written_over (map told_of_field fields) told_before else told_before)
  pub text_is : after ≡ (if fit fields told_before before then written_over (text_of fields) before else before)

-- an end was made, as the settings ask, which are in range; or memory was refused for it, or the settings are out of
-- range, and what the caller keeps is unchanged
abbrev pub Makes : Type 0 → Type 0 → Type 0 → ℤ → Type 0
Makes InRange IsMade AsBefore status =
    ((status ≡ done) × InRange × IsMade)
    ⊎ ((status ≡ no_memory) × InRange × AsBefore)
    ⊎ ((status ≡ invalid) × (InRange → ⊥) × AsBefore)

-- a value is stored, and 1 is returned; or there is none, and 0 is
abbrev pub StoresOption : Option ℕ → ℕ → ℕ → ℕ → Type 0
StoresOption None old new told = (told ≡ 0) × (new ≡ old)
StoresOption (Some value) old new told = (told ≡ 1) × (new ≡ value)
