-- The rule of the calls of h3's names as one choice for each field (RFC 9204, section 2.1).
use Rattle.std.specs.Prelude.{◌≡◌, ℕ, false, if◌then◌else◌, ◌&&◌, nat_le, Option, None, Some}
use Rattle.qpack_spec.specs.Chosen.{Choice, Alone, References, Names, Inserts, Staying, Chosen}
use Rattle.qpack_spec.specs.Field.{Field, FieldLine, has_name, is_field}
use Rattle.qpack_spec.specs.StaticTable.{static_name_index}
use Rattle.qpack_spec.specs.Table.{Table, below_limit, has_room, may_reference, newest_index}
use Rattle.qpack_codec.specs.Choices.{by_entry}
use Rattle.qpack_codec.specs.ChoosesAlong.{Chooses}
use Rattle.qpack_codec.specs.declared.encoder.choices.Wish.{Wish}

-- a literal, by the newest entry of the name if no static field has it
abbrev pub literal_first : Table → Field → Option ℕ → Choice
literal_first t f (Some i) = Alone
literal_first t f None = by_entry Names (newest_index t (has_name f.name))

-- an insertion if one more block may be blocked and there is room, else a literal
abbrev pub insertion_first : Table → Field → Choice
insertion_first t f =
    if below_limit t && has_room t f then Inserts else literal_first t f (static_name_index f.name)

-- the newest equal entry, if it was live at the block's start and may be referenced
abbrev pub entry_first : ℕ → Table → Field → Option ℕ → Choice
entry_first base t f (Some a) =
    if nat_le a base && may_reference t a then References a else insertion_first t f
entry_first base t f None = insertion_first t f

-- for a field that may be indexed, and that no static field equals
abbrev pub unmarked_first : ℕ → Table → Field → Choice
unmarked_first base t f = entry_first base t f (newest_index t (is_field f))

-- for any field; a marked one is a literal (section 7.1.3), and an insertion names what stays
abbrev pub newest_first : ℕ → Table → FieldLine → Chosen
newest_first base t l =
    record {
      line = if l.never_indexed then literal_first t l.field (static_name_index l.field.name)
          else unmarked_first base t l.field;
      unreferenced = false;
      names = Staying;
    }

-- a chooser that chooses this alone
abbrev pub by_newest : (K : Type 0) → Chooses K Wish
by_newest K before base t l w c after = c ≡ newest_first base t l
