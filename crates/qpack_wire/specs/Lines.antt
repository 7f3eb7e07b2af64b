-- The five forms of a field line, each read alone (RFC 9204, sections 4.5.2 to 4.5.6), and the lines that values of the
-- code represent.
use Rattle.std.specs.Prelude.{ℕ, ◌/◌, ◌%◌, if◌then◌else◌, nat_lt, nat_eq, Option, None, Some}
use Rattle.qpack_spec.specs.Form.{Form, Index, IndexAndValue, NameAndValue}
use Rattle.qpack_spec.specs.Line as line
use Rattle.qpack_spec.specs.Line.{Line, IndexedStatic, IndexedDynamic, IndexedPostBase, NamedStatic, NamedDynamic}
use Rattle.qpack_spec.specs.Line.{NamedPostBase}
use Rattle.qpack_wire.specs.Alone.{Kind, ByFlags, ByFirstByte}
use Rattle.qpack_wire.specs.declared.block.indexes.Indexed.{Indexed}
use Rattle.qpack_wire.specs.declared.block.indexes.Indexed.TheVariants as indexes
use Rattle.qpack_wire.specs.declared.block.indexes.IndexedWithPostBase.{IndexedWithPostBase}
use Rattle.qpack_wire.specs.declared.block.literals.LiteralWithNameRef.{LiteralWithNameRef}
use Rattle.qpack_wire.specs.declared.block.literals.LiteralWithNameRef.TheVariants as names
use Rattle.qpack_wire.specs.declared.block.literals.LiteralWithPostBaseNameRef.{LiteralWithPostBaseNameRef}
use Rattle.qpack_wire.specs.declared.block.literals.Literal.{Literal}

-- the first bits 1T, T being 1 for the static table
abbrev pub indexed_form : ℕ → Option (Form Line)
indexed_form flags =
    if nat_eq flags 3 then Some (Index 6 IndexedStatic)
    else if nat_eq flags 2 then Some (Index 6 IndexedDynamic)
    else None

-- an indexed field line (section 4.5.2)
abbrev pub indexed_line : Kind Line
indexed_line = ByFlags 6 indexed_form

-- the first bits 0001
abbrev pub indexed_with_post_base_form : ℕ → Option (Form Line)
indexed_with_post_base_form flags = if nat_eq flags 1 then Some (Index 4 IndexedPostBase) else None

-- an indexed field line with a post-base index (section 4.5.3)
abbrev pub indexed_line_with_post_base : Kind Line
indexed_line_with_post_base = ByFlags 4 indexed_with_post_base_form

-- the first bits 01NT, T being 1 for the static table; N is free
abbrev pub literal_with_name_ref_form : ℕ → Option (Form Line)
literal_with_name_ref_form flags =
    if nat_eq (flags / 4) 1
    then (if nat_eq (flags % 2) 1 then Some (IndexAndValue 4 NamedStatic) else Some (IndexAndValue 4 NamedDynamic))
    else None

-- a literal field line with a name reference (section 4.5.4)
abbrev pub literal_with_name_ref : Kind Line
literal_with_name_ref = ByFlags 4 literal_with_name_ref_form

-- the first bits 0000N; N is free
abbrev pub literal_with_post_base_name_ref_form : ℕ → Option (Form Line)
literal_with_post_base_name_ref_form flags = if nat_lt flags 2 then Some (IndexAndValue 3 NamedPostBase) else None

-- a literal field line with a post-base name reference (section 4.5.5)
abbrev pub literal_with_post_base_name_ref : Kind Line
literal_with_post_base_name_ref = ByFlags 3 literal_with_post_base_name_ref_form

-- the first bits 001NH; N is free
abbrev pub literal_form : ℕ → Option (Form Line)
literal_form first = if nat_eq (first / 32) 1 then Some (NameAndValue 4 line.Literal) else None

-- a literal field line with a literal name (section 4.5.6), known by its whole first byte
abbrev pub literal : Kind Line
literal = ByFirstByte literal_form

-- ---- the lines that values of the code represent

abbrev pub line_of_indexed : Indexed → Line
line_of_indexed (indexes.Static index) = IndexedStatic index
line_of_indexed (indexes.Dynamic index) = IndexedDynamic index

abbrev pub line_of_indexed_with_post_base : IndexedWithPostBase → Line
line_of_indexed_with_post_base l = IndexedPostBase l.0

abbrev pub line_of_literal_with_name_ref : LiteralWithNameRef → Line
line_of_literal_with_name_ref (names.Static index value) = NamedStatic index value.items
line_of_literal_with_name_ref (names.Dynamic index value) = NamedDynamic index value.items

abbrev pub line_of_literal_with_post_base_name_ref : LiteralWithPostBaseNameRef → Line
line_of_literal_with_post_base_name_ref l = NamedPostBase l.index l.value.items

abbrev pub line_of_literal : Literal → Line
line_of_literal l = line.Literal l.name.items l.value.items
