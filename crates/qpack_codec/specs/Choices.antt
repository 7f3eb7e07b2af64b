-- What is chosen for a field, as the definition of choices has it (RFC 9204, section 2.1).
use Rattle.std.specs.Prelude.{ℕ, Bool, true, false, ◌||◌, Option, Some, None}
use Rattle.qpack_spec.specs.Chosen as chosen
use Rattle.qpack_spec.specs.Chosen.{Chosen}
use Rattle.qpack_spec.specs.Field.{Field, FieldLine, has_name}
use Rattle.qpack_spec.specs.Table.{Table, newest_index}
use Rattle.qpack_codec.specs.declared.encoder.choices.Choice.{Choice}
use Rattle.qpack_codec.specs.declared.encoder.choices.Choice.TheVariants.{Alone, Equal, Named, Inserted}
use Rattle.qpack_codec.specs.declared.encoder.choices.Wish.{Wish}
use Rattle.qpack_codec.specs.declared.encoder.choices.Wish.TheVariants.{Unmarked, Never}

-- what a field line's mark asks (section 7.1.3)
abbrev pub wish_of_mark : Bool → Wish
wish_of_mark true = Never
wish_of_mark false = Unmarked

-- the wish marks its field line (section 7.1.3)
abbrev pub is_never : Wish → Bool
is_never Never = true
is_never w = false

-- a field line with a wish
abbrev pub line_as_wished : FieldLine → Wish → FieldLine
line_as_wished l w = record l { never_indexed = is_never w || l.never_indexed }

-- a reference to an entry, if there is one
abbrev pub by_entry : (ℕ → chosen.Choice) → Option ℕ → chosen.Choice
by_entry refers None = chosen.Alone
by_entry refers (Some a) = refers a

-- the line that is chosen for a field at a table: a name is that of the newest entry that has it
abbrev pub line_choice : Table → Field → Choice → chosen.Choice
line_choice t f (Alone inserts) = chosen.Alone
line_choice t f (Equal entry inserts) = chosen.References entry
line_choice t f (Named inserts) = by_entry chosen.Names (newest_index t (has_name f.name))
line_choice t f Inserted = chosen.Inserts

-- whether the field is inserted after its line
abbrev pub inserts_after : Choice → Bool
inserts_after (Alone inserts) = inserts
inserts_after (Equal entry inserts) = inserts
inserts_after (Named inserts) = inserts
inserts_after Inserted = false

-- what is chosen for a field at a table, by a chooser whose insertions may name these entries
abbrev pub chosen_of : chosen.Naming → Table → Field → Choice → Chosen
chosen_of names t f c = record { line = line_choice t f c; unreferenced = inserts_after c; names = names }
