-- The order of fields.
use Rattle.std.proofs.Common.{◌≡◌, ◌↔◌, IsTrue, true, ◌&&◌, refl, sym, subst, ◌∙◌}
use Rattle.std.specs.declared.cmp.Ordering.{Ordering}
use Rattle.std.specs.declared.cmp.Ordering.TheVariants.{Less, Equal, Greater}
use Rattle.std.specs.Ordering.{is_eq, ordering_then}
use Rattle.std.proofs.lemmas.Map.Text.{is_eq-slice_cmp}
use Rattle.std.proofs.lemmas.Slice.Eq.{bytes_eq-Decides}
use Rattle.qpack_spec.specs.Field.{Field, is_field}
use Rattle.qpack_spec.proofs.Positions.{same_field}
use Rattle.qpack_base.specs.HeaderFields.{field_cmp}

is_eq_then : (r s : Ordering) → is_eq (ordering_then r s) ≡ (is_eq r && is_eq s)
is_eq_then Less s = refl
is_eq_then Equal s = refl
is_eq_then Greater s = refl

-- fields tie exactly where they are the same
pub equal_is_field : (f g : Field) → is_eq (field_cmp f g) ≡ is_field f g
unfolding field_cmp
equal_is_field f g = is_eq_then _ _ ∙ (λ i. is_eq-slice_cmp f.name g.name i && is_eq-slice_cmp f.value g.value i)

ties_itself : (f : Field) → is_eq (field_cmp f f) ≡ true
ties_itself f =
    let name = (bytes_eq-Decides f.name f.name).1 refl in
    let value = (bytes_eq-Decides f.value f.value).1 refl in
    equal_is_field f f ∙ (λ i. name i && value i)

-- fields tie exactly where they are equal
pub ties_are_equal : (f g : Field) → IsTrue (is_eq (field_cmp f g)) ↔ (f ≡ g)
ties_are_equal f g = (
  (λ h. same_field f g (sym (equal_is_field f g) ∙ h)),
  λ e. subst (λ (x : Field). is_eq (field_cmp f x) ≡ true) e (ties_itself f),
)
