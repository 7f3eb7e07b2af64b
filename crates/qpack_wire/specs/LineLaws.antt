-- The five forms that are read alone make up the lines, as statements; the crate's law functions promise them.
use Rattle.std.specs.Prelude.{ℕ, ◌⊎◌, ◌↔◌, List}
use Rattle.qpack_spec.specs.Line.{Line, SpellsLine}
use Rattle.qpack_wire.specs.Alone.{SpellsKind}
use Rattle.qpack_wire.specs.Lines.{indexed_line, indexed_line_with_post_base, literal_with_name_ref}
use Rattle.qpack_wire.specs.Lines.{literal_with_post_base_name_ref, literal}

-- a spelling of a line is a spelling in one of the five forms
abbrev pub LinesHaveFiveForms : Type 0
LinesHaveFiveForms =
    (encoding : List ℕ) (l : Line)
    → SpellsLine encoding l
    ↔ (SpellsKind indexed_line encoding l
    ⊎ (SpellsKind indexed_line_with_post_base encoding l
    ⊎ (SpellsKind literal_with_name_ref encoding l ⊎ (SpellsKind literal_with_post_base_name_ref encoding l
    ⊎ SpellsKind literal encoding l))))
