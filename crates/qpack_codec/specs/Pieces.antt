-- A stream of instructions that comes in pieces, at either end: how it is cut changes nothing.
use Rattle.std.specs.Prelude.{◌≡◌, ◌⊎◌, ℕ, ⊤, List, [], ◌∷◌, ◌++◌, Option, Some, Result, Ok, Err}
use Rattle.qpack_spec.specs.Form.{FormFault}
use Rattle.qpack_spec.specs.Table.{Table}
use Rattle.qpack_spec.specs.Window.{TableRefusal}
use Rattle.qpack_wire.specs.Cuttings.{joined_pieces}

-- whether there is one more call, or the last one was refused
abbrev pub GoesOn : {E : Type 0} → Result ⊤ E → Type 0 → (E → Type 0) → Type 0
GoesOn (Ok done) More Last = More
GoesOn (Err e) More Last = Last e

-- calls in turn, each over the bytes that the one before left and the next piece, up to the first that is refused.
-- `rest` is what is left of the stream then, with the pieces that no call got
abbrev pub TakesPieces : {E : Type 0} → (Table → Table → List ℕ → List ℕ → Result ⊤ E → Type 0)
    → Table → List ℕ → List (List ℕ) → Table → List ℕ → Result ⊤ E → Type 0
TakesPieces Takes old kept [] new rest r = (new ≡ old) × (rest ≡ kept) × (r ≡ Ok tt)
TakesPieces {E} Takes old kept (piece ∷ pieces) new rest r =
    (now : Table) × (left : List ℕ) × (first : Result ⊤ E) × Takes old now (kept ++ piece) left first
    × GoesOn first (TakesPieces Takes now left pieces new rest r)
    (λ e. (new ≡ now) × (rest ≡ left ++ joined_pieces pieces) × (r ≡ Err e))

-- two errors report the same fault of bytes, or the same refusal of the table
abbrev pub SameRefusal : {E : Type 0} → (E → Option FormFault) → (E → Option TableRefusal) → E → E → Type 0
SameRefusal fault_of refusal_of e other =
    ((fault : FormFault) × (fault_of e ≡ Some fault) × (fault_of other ≡ Some fault))
    ⊎ ((refusal : TableRefusal) × (refusal_of e ≡ Some refusal) × (refusal_of other ≡ Some refusal))

abbrev pub SameEnd : {E : Type 0} → (E → Option FormFault) → (E → Option TableRefusal) → Result ⊤ E → Result ⊤ E
    → Type 0
SameEnd fault_of refusal_of (Ok done) (Ok more) = ⊤
SameEnd fault_of refusal_of (Ok done) (Err e) = ⊥
SameEnd fault_of refusal_of (Err e) (Ok done) = ⊥
SameEnd fault_of refusal_of (Err e) (Err other) = SameRefusal fault_of refusal_of e other

-- the same table, the same rest of the stream, and the same first refusal, if there is one
pub record TakenAlike {E : Type 0} (fault_of : E → Option FormFault) (refusal_of : E → Option TableRefusal)
    (new other : Table) (rest left : List ℕ) (r s : Result ⊤ E) : Type 0 where
  pub table : new ≡ other
  pub rests : rest ≡ left
  pub ends : SameEnd fault_of refusal_of r s

-- however a stream is cut, what calls for its pieces make of it is the same, if none is refused for memory
abbrev pub PiecesChangeNothing : {E : Type 0} → (E → Option FormFault) → (E → Option TableRefusal) → E
    → (Table → Table → List ℕ → List ℕ → Result ⊤ E → Type 0) → Type 0
PiecesChangeNothing {E} fault_of refusal_of memory Takes =
    (t new other : Table) (pieces others : List (List ℕ)) (rest left : List ℕ) (r s : Result ⊤ E)
    → joined_pieces pieces ≡ joined_pieces others
    → TakesPieces Takes t [] pieces new rest r → TakesPieces Takes t [] others other left s
    → (r ≡ Err memory → ⊥) → (s ≡ Err memory → ⊥)
    → TakenAlike fault_of refusal_of new other rest left r s
