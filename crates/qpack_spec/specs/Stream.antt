-- The lines of a byte list: a stream of instructions that comes in pieces (RFC 9204, sections 4.2 to 4.4), or a
-- block's.
use Rattle.std.specs.Prelude.{◌≡◌, ℕ, List, [], ◌∷◌, ◌++◌, length}

-- the bytes are spellings of the lines, one after the other
abbrev pub SpellsAll : {L : Type 0} → (List ℕ → L → Type 0) → List ℕ → List L → Type 0
SpellsAll Spells bytes [] = bytes ≡ []
SpellsAll Spells bytes (l ∷ ls) =
    (encoding : List ℕ) × (more : List ℕ) × (bytes ≡ encoding ++ more) × Spells encoding l × SpellsAll Spells more ls

-- no front of the rest is a spelling
abbrev pub IsCutOff : {L : Type 0} → (List ℕ → L → Type 0) → List ℕ → Type 0
IsCutOff {L} Spells rest = (encoding more : List ℕ) (l : L) → rest ≡ encoding ++ more → Spells encoding l → ⊥

-- the lines of a byte list, and the rest after them, of which no front is a line
pub record Holds (L : Type 0) (Spells : List ℕ → L
    → Type 0) (bytes : List ℕ) (lines : List L) (rest : List ℕ) : Type 0 where
  pub front : List ℕ
  pub cut : bytes ≡ front ++ rest
  pub joined : SpellsAll Spells front lines
  pub cut_off : IsCutOff Spells rest

-- a stream of which the first lines were taken, up to a position, and the others are under way
pub record Carries (L : Type 0) (Spells : List ℕ → L
    → Type 0) (bytes : List ℕ) (position : ℕ) (taken in_flight : List L) : Type 0 where
  pub front : List ℕ
  pub rest : List ℕ
  pub cut : bytes ≡ front ++ rest
  pub ends : length front ≡ position
  pub front_joined : SpellsAll Spells front taken
  pub rest_joined : SpellsAll Spells rest in_flight
