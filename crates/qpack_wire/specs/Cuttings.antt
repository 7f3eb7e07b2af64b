-- A stream that comes in pieces, each passed after the bytes left unread; the crate's law functions promise that the
-- lines don't depend on the pieces.
use Rattle.std.specs.Prelude.{◌≡◌, ℕ, List, [], ◌∷◌, ◌++◌}
use Rattle.qpack_spec.specs.Stream.{Holds}

-- the pieces, one after the other
abbrev pub joined_pieces : List (List ℕ) → List ℕ
joined_pieces [] = []
joined_pieces (piece ∷ pieces) = piece ++ joined_pieces pieces

-- each piece is passed after the unread bytes, all whole lines are read, and the rest is passed again
abbrev pub ReadInPieces : {L : Type 0} → (List ℕ → L → Type 0) → List ℕ → List (List ℕ) → List L → List ℕ → Type 0
ReadInPieces spells unread [] lines rest = (lines ≡ []) × (rest ≡ unread)
ReadInPieces {L} spells unread (piece ∷ pieces) lines rest =
    (first : List L) × (left : List ℕ) × (more : List L)
    × Holds L spells (unread ++ piece) first left × ReadInPieces spells left pieces more rest × (lines ≡ first ++ more)

-- however the bytes were cut, the lines are those of the whole, and so is the rest, from a refusal or a cut line on
abbrev pub CuttingChangesNothing : {L : Type 0} → (List ℕ → L → Type 0) → Type 0
CuttingChangesNothing {L} spells =
    (pieces : List (List ℕ)) (lines whole : List L) (rest left : List ℕ)
    → ReadInPieces spells [] pieces lines rest → Holds L spells (joined_pieces pieces) whole left
    → (lines ≡ whole) × (rest ≡ left)
