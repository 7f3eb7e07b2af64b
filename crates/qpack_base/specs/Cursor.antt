-- What is left to read at a cursor over bytes.
use Rattle.std.specs.Prelude.{◌≡◌, ℕ, List, [], ◌∷◌, ◌++◌, Result, Ok, Err}
use Rattle.qpack_base.specs.declared.coding.UnexpectedEnd.{UnexpectedEnd}

-- the bytes that are left of a list of this many
pub record CursorView : Type 0 where
  pub rest : List ℕ
  pub total : ℕ

-- the cursor moved past the text at the front, and no further
abbrev pub MovesPast : List ℕ → CursorView → CursorView → Type 0
MovesPast encoding old new = (old.rest ≡ encoding ++ new.rest) × (new.total ≡ old.total)

-- the next byte, or the end with nothing read
abbrev pub ReadsByte : CursorView → Result ℕ UnexpectedEnd → CursorView → Type 0
ReadsByte old (Ok b) new = MovesPast (b ∷ []) old new
ReadsByte old (Err e) new = (old.rest ≡ []) × (e ≡ record { 0 = 1 }) × (new ≡ old)

-- how reading a value relates what was left, the result, and what is left
abbrev pub Reads : Type 0 → Type 1
Reads T = CursorView → Result T UnexpectedEnd → CursorView → Type 0
