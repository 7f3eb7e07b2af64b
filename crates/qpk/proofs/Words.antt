-- Words of another count than is asked for.
use Rattle.std.proofs.Common.{◌≡◌, ◌≢◌, ℕ, List, [], ◌∷◌, length, map, Err, refl}
use Rattle.qpk.specs.Commands.{OtherWords, only_numbers}

pub not_only_two : {A : Type 0} (f : A → List ℕ) (words : List A) → length words ≢ 2
    → only_numbers (map f words) ≡ Err OtherWords
not_only_two f [] other = refl
not_only_two f (first ∷ []) other = refl
not_only_two f (first ∷ second ∷ []) other = absurd (other refl)
not_only_two f (first ∷ second ∷ third ∷ words) other = refl
