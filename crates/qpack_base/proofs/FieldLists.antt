-- The fields that an iterator over a slice gives.
use Rattle.std.proofs.Common.{◌≡◌, List, [], ◌∷◌, map, refl, ap, ◌∙◌}
use Rattle.std.proofs.iter.Yields.{fronts}
use Rattle.std.specs.Borrow.{Bor}
use Rattle.std.specs.Iterator.{Drains}
use Rattle.std.specs.Slice.Iter.{iter_rest}
use Rattle.std.specs.declared.slice.Iter.{Iter}
use Rattle.std.proofs.lemmas.Iterator.{items_from_drains, YieldsList-from_slice}
use Rattle.qpack_spec.specs.Field.{Field}
use Rattle.qpack_base.specs.declared.field.HeaderField.{HeaderField}
use Rattle.qpack_base.specs.HeaderFields.{field_of, fields_behind}

behind_are : (fs : List (Bor HeaderField)) → fields_behind fs ≡ map field_of (map (λ f. f.now) fs)
behind_are [] = refl
behind_are (f ∷ fs) = ap (λ (xs : List Field). field_of f.now ∷ xs) (behind_are fs)

-- they are the slice's, in order
pub fields_from_slice : (s : Iter HeaderField) (xs : List HeaderField) (fs : List (Bor HeaderField))
    → iter_rest s ≡ xs → Drains fronts s fs → fields_behind fs ≡ map field_of xs
fields_from_slice s xs fs e d =
    let items = items_from_drains fs (d.1.0, d.1.1, λ _. (d.0, d.1.2)) (YieldsList-from_slice xs e) in
    behind_are fs ∙ ap (map field_of) items
