-- Successive calls of `next_line`, until one reads no line; a law function promises that they find what the bytes hold.
use Rattle.std.specs.Prelude.{◌≡◌, ℕ, List, [], ◌∷◌, Option, None, Some, Result, Ok, Err}
use Rattle.qpack_base.specs.Cursor.{CursorView}
use Rattle.qpack_base.specs.declared.parse_error.ParseError.{ParseError}
use Rattle.qpack_base.specs.declared.parse_error.ParseError.TheVariants.{Memory}
use Rattle.qpack_spec.specs.Stream.{Holds}
use Rattle.qpack_wire.specs.Alone.{KindFault}
use Rattle.qpack_wire.specs.StreamAnswers.{DecodesInstruction, StaysUnlessRead}

-- no line is read: the bytes are truncated, or refused, and not for memory
abbrev pub ReadsNoLine : {V : Type 0} → Result (Option V) ParseError → Type 0
ReadsNoLine (Ok None) = Unit {0}
ReadsNoLine (Ok (Some v)) = ⊥
ReadsNoLine (Err Memory) = ⊥
ReadsNoLine (Err e) = Unit {0}

-- the calls read these lines in turn, and the last of them reads none and leaves the cursor there
abbrev pub ReadsInTurn : {V L : Type 0} → (V → L) → (List ℕ → L → Type 0) → (List ℕ → KindFault → Type 0) → CursorView
    → List L → CursorView → Type 0
ReadsInTurn {V} {L} view spells refuses old [] new =
    (r : Result (Option V) ParseError) × ReadsNoLine r × DecodesInstruction view spells refuses old new r
    × StaysUnlessRead old new r
ReadsInTurn {V} {L} view spells refuses old (l ∷ lines) new =
    (v : V) × (next : CursorView) × (view v ≡ l) × DecodesInstruction view spells refuses old next (Ok (Some v))
    × ReadsInTurn view spells refuses next lines new

-- the lines are those that the bytes hold, and the cursor is left at the rest
abbrev pub NextLinesAreTheReading : {V L : Type 0} → (V → L) → (List ℕ → L → Type 0) → (List ℕ → KindFault → Type 0)
    → Type 0
NextLinesAreTheReading {V} {L} view spells refuses =
    (lines : List L) (old new : CursorView) → ReadsInTurn view spells refuses old lines new
    → Holds L spells old.rest lines new.rest
