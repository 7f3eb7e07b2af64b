-- How many bytes a line lacks, by its form.
use Rattle.std.proofs.Common.{◌≡◌, ◌<◌, ℕ, List, [], ◌∷◌, length, drop, Option, Some, refl, ap, ◌∙◌, arith}
use Rattle.qpack_spec.specs.Form.{Form}
use Rattle.qpack_spec.specs.Line.{Line, line_form}
use Rattle.qpack_spec.specs.Integer.{integer_at}
use Rattle.qpack_decoding.specs.Missing.{form_missing, line_missing, prefix_missing}

pub missing_of_nothing : (bytes : List ℕ) → length bytes ≡ 0 → line_missing bytes ≡ 1
unfolding line_missing
missing_of_nothing [] none = refl
missing_of_nothing (b ∷ bytes) none = absurd (omega (arith, none))

pub missing_by_form : (bytes : List ℕ) (b : ℕ) (form : Form Line) → bytes ≡ b ∷ drop 1 bytes → line_form b ≡ Some form
    → line_missing bytes ≡ form_missing (Some form) bytes
unfolding line_missing
missing_by_form [] b form begins names = absurd (omega (arith, ap length begins))
missing_by_form (c ∷ bytes) b form begins names =
    let same : c ≡ b = cc in
    ap (λ (o : Option (Form Line)). form_missing o (c ∷ bytes)) (ap line_form same ∙ names)

-- no prefix stands in no bytes
pub nothing_is_prefix : (bytes : List ℕ) → bytes ≡ [] → 0 < prefix_missing bytes
unfolding prefix_missing integer_at
nothing_is_prefix [] none = omega arith
nothing_is_prefix (b ∷ bytes) none = absurd (omega (arith, ap length none))
