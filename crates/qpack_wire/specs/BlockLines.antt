-- One line of an encoded field section, whichever form it has (RFC 9204, section 4.5).
use Rattle.std.specs.Prelude.{ℕ, List, Result, if◌then◌else◌, nat_eq, nat_lt, ◌%◌}
use Rattle.qpack_spec.specs.Form.{Form, Index, IndexAndValue, NameAndValue, form_at}
use Rattle.qpack_spec.specs.Line.{Line, IndexedStatic, IndexedDynamic, IndexedPostBase, NamedStatic, NamedDynamic}
use Rattle.qpack_spec.specs.Line.{NamedPostBase, Literal, line_form, RefusesLine}
use Rattle.qpack_wire.specs.Alone.{KindFault, Unreadable, Foreign, or_unreadable}
use Rattle.qpack_wire.specs.Lines.{line_of_indexed, line_of_indexed_with_post_base, line_of_literal_with_name_ref}
use Rattle.qpack_wire.specs.Lines.{line_of_literal_with_post_base_name_ref, line_of_literal}
use Rattle.qpack_wire.specs.declared.block.line.HeaderBlockField.{HeaderBlockField}
use Rattle.qpack_wire.specs.declared.block.line.HeaderBlockField.TheVariants as field
use Rattle.qpack_wire.specs.declared.block.line.BlockLine.{BlockLine}
use Rattle.qpack_wire.specs.declared.block.line.BlockLine.TheVariants as block
use Rattle.qpack_wire.specs.declared.block.line.LineParts.{LineParts}
use Rattle.qpack_wire.specs.declared.block.line.LineParts.TheVariants as parts
use Rattle.qpack_wire.specs.declared.block.line.Reference.{Reference}
use Rattle.qpack_wire.specs.declared.block.line.Reference.TheVariants.{Static, Relative, PostBase}

-- the form that a first byte determines: 0000N, 0001, 001NH, 01NT and 1T
abbrev pub field_of_first : ℕ → HeaderBlockField
field_of_first first =
    if nat_lt first 16 then field.LiteralWithPostBaseNameRef
    else if nat_lt first 32 then field.IndexedWithPostBase
    else if nat_lt first 64 then field.Literal
    else if nat_lt first 128 then field.LiteralWithNameRef
    else field.Indexed

-- the indexed field line of an index
abbrev pub indexed_line : Reference → ℕ → Line
indexed_line Static index = IndexedStatic index
indexed_line Relative index = IndexedDynamic index
indexed_line PostBase index = IndexedPostBase index

-- the literal field line with the name of an index
abbrev pub named_line : Reference → ℕ → List ℕ → Line
named_line Static index value = NamedStatic index value
named_line Relative index value = NamedDynamic index value
named_line PostBase index value = NamedPostBase index value

-- how many bits the prefix of an index has: in an indexed field line, and in a literal one with a name reference
abbrev pub index_size : Reference → ℕ
index_size Static = 6
index_size Relative = 6
index_size PostBase = 4

abbrev pub name_index_size : Reference → ℕ
name_index_size Static = 4
name_index_size Relative = 4
name_index_size PostBase = 3

-- the form of what a line is made of
abbrev pub form_of_parts : LineParts → Form Line
form_of_parts (parts.Index r) = Index (index_size r) (indexed_line r)
form_of_parts (parts.IndexAndValue r) = IndexAndValue (name_index_size r) (named_line r)
form_of_parts parts.NameAndValue = NameAndValue 4 Literal

-- the table that an index counts, by the first bits before it, whose last is T
abbrev pub table_of_bit : ℕ → Reference
table_of_bit bits = if nat_eq (bits % 2) 1 then Static else Relative

-- the line that a value of the code represents
abbrev pub line_of : BlockLine → Line
line_of (block.Indexed l) = line_of_indexed l
line_of (block.IndexedWithPostBase l) = line_of_indexed_with_post_base l
line_of (block.LiteralWithNameRef l) = line_of_literal_with_name_ref l
line_of (block.LiteralWithPostBaseNameRef l) = line_of_literal_with_post_base_name_ref l
line_of (block.Literal l) = line_of_literal l

-- the bytes are refused as a line; no first bits are foreign
abbrev pub RefusesBlockLine : List ℕ → KindFault → Type 0
RefusesBlockLine encoding (Unreadable fault) = RefusesLine encoding fault
RefusesBlockLine encoding (Foreign bits) = ⊥

-- the line at the front of the bytes, and the bytes after it
abbrev pub line_at : List ℕ → Result (Line × List ℕ) KindFault
line_at bytes = or_unreadable (form_at line_form bytes)
