-- Vectors with free room, which are not grown.
use Rattle.std.proofs.Common.{◌≡◌, ◌+◌, ◌≤◌, ◌++◌, ℕ, List, length, vec_len, vec_capacity, ap, ◌∙◌, arith}
use Rattle.std.proofs.Common.{length-append}
use Rattle.std.specs.declared.vec.Vec.{Vec}

-- what is appended to a vector with free room for it
pub still_written : {A : Type 0} (encoding : List ℕ) (old new : Vec ℕ A) → new.items ≡ old.items ++ encoding
    → (vec_len old + length encoding ≤ vec_capacity old → vec_capacity new ≡ vec_capacity old)
    → vec_len new ≤ vec_capacity old → vec_capacity new ≡ vec_capacity old
still_written encoding old new wrote still fits =
    still (omega (
      arith,
      fits,
      ap (λ (l : List ℕ). length l) wrote,
      length-append old.items encoding,
      old.ok.0,
      new.ok.0,
    ))

-- one behind the other
pub still_next : {A : Type 0} (first old new : Vec ℕ A) → vec_len old ≤ vec_len new
    → (vec_len old ≤ vec_capacity first → vec_capacity old ≡ vec_capacity first)
    → (vec_len new ≤ vec_capacity old → vec_capacity new ≡ vec_capacity old)
    → vec_len new ≤ vec_capacity first → vec_capacity new ≡ vec_capacity first
still_next first old new longer before still fits =
    let same = before (omega (arith, longer, fits)) in
    still (omega (arith, same, fits)) ∙ same

-- what is appended makes it longer
pub longer_written : {A : Type 0} (encoding : List ℕ) (old new : Vec ℕ A) → new.items ≡ old.items ++ encoding
    → vec_len old ≤ vec_len new
longer_written encoding old new wrote =
    omega (arith, ap (λ (l : List ℕ). length l) wrote, length-append old.items encoding, old.ok.0, new.ok.0)
