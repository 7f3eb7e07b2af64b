-- Texts that are appended to.
use Rattle.std.specs.Prelude.{◌≡◌, ℕ, Bool, false, List, ◌++◌}

-- a text: its bytes, and whether memory for some of it was refused
pub record Written : Type 0 where
  pub bytes : List ℕ
  pub lacks_memory : Bool

-- a text goes on with these bytes, if memory was never refused
abbrev pub Appends : Written → Written → List ℕ → Type 0
Appends old new out = new.lacks_memory ≡ false → (old.lacks_memory ≡ false) × (new.bytes ≡ old.bytes ++ out)

-- a text stays as the front of a longer one, if memory was never refused
abbrev pub Extends : Written → Written → Type 0
Extends old new =
    new.lacks_memory ≡ false → (old.lacks_memory ≡ false) × (out : List ℕ) × (new.bytes ≡ old.bytes ++ out)

-- a text goes on with these bytes, and with more after them, or memory was refused
abbrev pub BeginsWith : List ℕ → Written → Written → Type 0
BeginsWith front old new =
    new.lacks_memory ≡ false
    → (old.lacks_memory ≡ false) × (out : List ℕ) × (new.bytes ≡ old.bytes ++ (front ++ out))
