-- The results for fields, one after the other in memory.
use Rattle.std.proofs.Common.{◌≡◌, ◌+◌, ◌<◌, ℕ, List, [], ◌∷◌, ◌++◌, length, map, take, drop, get_or, zero, suc, None, Some}
use Rattle.std.proofs.Common.{sym, ap, ◌∙◌, arith, append_assoc, length-append, drop-cons}
use Rattle.std.proofs.lemmas.List.{map-append, take_more}
use Rattle.std.proofs.Math.ListN.{set}
use Rattle.std.proofs.Math.Seq.{set-append_seam}
use Rattle.std.proofs.lemmas.Option.{slice_get_within, get_or_from_slice_get, none-some}
use Rattle.std.specs.List.{slice_get}
use Rattle.qpack_spec.specs.Field.{FieldLine}
use Rattle.h3_qpack_c.specs.Crossing.{written_over, told_of_field}
use Rattle.h3_qpack_c.specs.declared.answers.Given.{Given}

-- at an index within there is a field
pub some_within : (fs : List FieldLine) (i : ℕ) → i < length fs → slice_get fs i ≡ None → ⊥
some_within [] i within is = omega (arith, within)
some_within (f ∷ fs) zero within is = none-some f (sym is)
some_within (f ∷ fs) (suc i) within is = some_within fs i (omega (arith, within)) is

-- a field more
fields_next : (fs : List FieldLine) (i : ℕ) (f : FieldLine) → slice_get fs i ≡ Some f
    → take (i + 1) fs ≡ take i fs ++ f ∷ []
fields_next fs i f is =
    take_more fs i f (slice_get_within fs i f is)
    ∙ ap (λ (x : FieldLine). take i fs ++ x ∷ []) (get_or_from_slice_get fs i f f is)

set_more : {X : Type 0} (front : List X) (x : X) (old : List X) → length front < length old
    → set (written_over front old) (length front) x ≡ written_over (front ++ x ∷ []) old
set_more {X} front x old room =
    let one : suc (length front) ≡ length (front ++ x ∷ []) = omega (arith, length-append front (x ∷ [])) in
    ap (λ (z : List X). set (front ++ z) (length front) x) (drop-cons old (length front) x room)
    ∙ set-append_seam front (get_or old (length front) x) (drop (suc (length front)) old) x
    ∙ ap (λ (n : ℕ). front ++ x ∷ drop n old) one
    ∙ sym (append_assoc front (x ∷ []) (drop (length (front ++ x ∷ [])) old))

pub told_put : (written now old after : List Given) (x r : Given) (i : ℕ) → now ≡ written_over written old
    → i ≡ length written → r ≡ x → length written < length old → after ≡ set now i r
    → after ≡ written_over (written ++ x ∷ []) old
told_put written now old after x r i is at same room put =
    put ∙ ap (λ (o : List Given). set o i r) is
    ∙ ap (λ (n : ℕ). set (written_over written old) n r) at
    ∙ ap (λ (y : Given). set (written_over written old) (length written) y) same
    ∙ set_more written x old room

-- what is told of a field more
pub told_next : (fs : List FieldLine) (i : ℕ) (f : FieldLine) → slice_get fs i ≡ Some f
    → map told_of_field (take (i + 1) fs) ≡ map told_of_field (take i fs) ++ told_of_field f ∷ []
told_next fs i f is =
    ap (map told_of_field) (fields_next fs i f is) ∙ map-append told_of_field (take i fs) (f ∷ [])
