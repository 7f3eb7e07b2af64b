-- Text of header fields: a field a line, its name and its value separated by the first TAB.
use Rattle.std.specs.Prelude.{ℕ, List, [], ◌∷◌, ◌++◌, Result}
use Rattle.std.specs.List.{flat_map}
use Rattle.qpack_spec.specs.Field.{Field}
use Rattle.qpack_base.specs.HeaderFields.{text_of}
use Rattle.qpk_qif.specs.Lines.{field_of_line}
use Rattle.qpk.specs.LineItems.{items_from}

-- the field of each line, or the number of the first line without a TAB, the lines being numbered from n
abbrev pub fields_from : ℕ → List (List ℕ) → Result (List Field) ℕ
fields_from n lines = items_from field_of_line n lines

-- fields as they are printed, a line each
abbrev pub text_of_fields : List Field → List ℕ
text_of_fields fs = flat_map (λ f. text_of f ++ 10 ∷ []) fs
