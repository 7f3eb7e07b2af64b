-- The size of a list of fields that are lent, field by field.
use Rattle.std.proofs.Common.{◌≡◌, ◌+◌, ◌<◌, ◌∙◌, ℕ, List, [], ◌∷◌, ◌++◌, ap, sym, get_or, length, map, take}
use Rattle.std.proofs.lemmas.List.{map-append, take_more}
use Rattle.qpack_spec.specs.Field.{FieldLine, field_size, fields_of_lines, total_size}
use Rattle.qpack_spec.proofs.Sizes.{total_last}
use Rattle.h3_qpack_c.specs.Crossing.{line_of_lent}
use Rattle.h3_qpack_c.specs.declared.fields.Field.{Field}

-- the size of one field more
lines_next : (ls : List FieldLine) (l : FieldLine)
    → total_size (fields_of_lines (ls ++ l ∷ [])) ≡ total_size (fields_of_lines ls) + field_size l.field
lines_next ls l =
    ap total_size (map-append (λ (x : FieldLine). x.field) ls (l ∷ [])) ∙ total_last (fields_of_lines ls) l.field

pub lent_next : (fs : List Field) (i : ℕ) (d : Field) (l : FieldLine) → i < length fs → l ≡ line_of_lent (get_or fs i d)
    → total_size (fields_of_lines (map line_of_lent (take (i + 1) fs)))
    ≡ total_size (fields_of_lines (map line_of_lent (take i fs))) + field_size l.field
lent_next fs i d l within is =
    let before = map line_of_lent (take i fs) in
    let f = get_or fs i d in
    ap (λ (xs : List Field). total_size (fields_of_lines (map line_of_lent xs))) (take_more fs i d within)
    ∙ ap (λ (ls : List FieldLine). total_size (fields_of_lines ls)) (map-append line_of_lent (take i fs) (f ∷ []))
    ∙ lines_next before (line_of_lent f)
    ∙ ap (λ (x : FieldLine). total_size (fields_of_lines before) + field_size x.field) (sym is)
