-- What a writer of an integer, a string, a line, an instruction or a prefix leaves in the vector.
use Rattle.std.specs.Prelude.{◌≡◌, ℕ, ◌+◌, ◌≤◌, List, ◌++◌, length, vec_len, vec_capacity, Result, OnOk, OnErr, IsOk}
use Rattle.std.specs.Prelude.{if◌then◌else◌, nat_le, []}
use Rattle.std.specs.declared.vec.Vec.{Vec}

-- the encoding is appended, or the vector is unchanged; with free room for the encoding it is appended, and the vector
-- does not grow
pub record Writes {A E : Type 0} (encoding : List ℕ) (old new : Vec ℕ A) (r : Result (Unit {0}) E) : Type 0 where
  pub ok : OnOk r (new.items ≡ old.items ++ encoding)
  pub err : OnErr r (new.items ≡ old.items)
  pub succeeds : vec_len old + length encoding ≤ vec_capacity old → IsOk r
  pub still : vec_len old + length encoding ≤ vec_capacity old → vec_capacity new ≡ vec_capacity old
  pub capacity : vec_capacity old ≤ vec_capacity new

-- the bytes if there are at most this many of them, else none
abbrev pub kept_within : ℕ → List ℕ → List ℕ
kept_within most bytes = if nat_le (length bytes) most then bytes else []
