-- What readers of instructions return: one, none for a truncated front, or an error.
use Rattle.std.specs.Prelude.{◌≡◌, ℕ, ◌⊎◌, List, ◌++◌, Option, None, Some, Result, Ok, Err, true}
use Rattle.qpack_base.specs.Cursor.{CursorView, MovesPast}
use Rattle.qpack_base.specs.declared.prefix_int.Error.TheVariants as integer
use Rattle.qpack_base.specs.declared.prefix_string.Error.TheVariants as string
use Rattle.qpack_base.specs.declared.parse_error.ParseError.{ParseError}
use Rattle.qpack_base.specs.declared.parse_error.ParseError.TheVariants.{Integer, String, Memory}
use Rattle.qpack_wire.specs.Alone.{KindFault, is_cut_kind}
use Rattle.qpack_wire.specs.Answers.{FailsEarly, IsTruncated, TellsRefusal, FailsForm}

-- what is read is spelled so, and the cursor moves past exactly it
abbrev pub FindsInstruction : {V L : Type 0} → (V → L) → (List ℕ → L → Type 0) → CursorView → CursorView
    → Result (Option V) ParseError → Type 0
FindsInstruction view spells old new (Ok None) = Unit {0}
FindsInstruction view spells old new (Ok (Some v)) = (encoding : List ℕ) × spells encoding (view v)
    × MovesPast encoding old new
FindsInstruction view spells old new (Err e) = Unit {0}

-- the result is seen as this, and what moves moved
abbrev pub GivesInstruction : {V L : Type 0} → (V → L) → Result (Option V) ParseError → L → Type 0 → Type 0
GivesInstruction view (Ok None) l moved = ⊥
GivesInstruction view (Ok (Some v)) l moved = (view v ≡ l) × moved
GivesInstruction view (Err e) l moved = ⊥

-- what is spelled so is read, whatever follows, unless memory is refused
abbrev pub ReadsInstruction : {V L : Type 0} → (V → L) → (List ℕ → L → Type 0) → CursorView → CursorView
    → Result (Option V) ParseError → Type 0
ReadsInstruction {V} {L} view spells old new r =
    (encoding rest : List ℕ) (l : L) → spells encoding l → old.rest ≡ encoding ++ rest
    → GivesInstruction view r l (MovesPast encoding old new) ⊎ (r ≡ Err Memory)

-- none exactly if the bytes are truncated, unless memory is refused; an early end is no refusal
abbrev pub TellsNone : {V L : Type 0} → (List ℕ → L → Type 0) → (List ℕ → KindFault → Type 0) → CursorView
    → Result (Option V) ParseError → Type 0
TellsNone spells refuses old r =
    (r ≡ Ok None → IsTruncated spells refuses old.rest)
    × (IsTruncated spells refuses old.rest → (r ≡ Ok None) ⊎ (r ≡ Err Memory))
    × (FailsEarly r → ⊥)

-- a reader decodes exactly the spellings, reports each refusal, and returns none if the bytes are truncated
pub record DecodesInstruction {V L : Type 0} (view : V → L) (spells : List ℕ → L → Type 0)
    (refuses : List ℕ → KindFault → Type 0) (old new : CursorView) (r : Result (Option V) ParseError) : Type 0 where
  pub found : FindsInstruction view spells old new r
  pub only : ReadsInstruction view spells old new r
  pub refused : TellsRefusal refuses old r
  pub truncated : TellsNone spells refuses old r

-- only a line that is read moves the cursor
abbrev pub StaysUnlessRead : {V : Type 0} → CursorView → CursorView → Result (Option V) ParseError → Type 0
StaysUnlessRead old new (Ok None) = new ≡ old
StaysUnlessRead old new (Ok (Some v)) = Unit {0}
StaysUnlessRead old new (Err e) = new ≡ old

-- ---- reading from left to right

-- the reading ends early
abbrev pub EndsEarly : {A : Type 0} → Result A KindFault → Type 0
EndsEarly (Ok x) = ⊥
EndsEarly (Err fault) = is_cut_kind fault ≡ true

-- the error is a fault, and no early end
abbrev pub FailsWhole : {A : Type 0} → ParseError → Result A KindFault → Type 0
FailsWhole (Integer integer.UnexpectedEnd) read = ⊥
FailsWhole (String string.UnexpectedEnd) read = ⊥
FailsWhole e read = FailsForm e read

-- the result is what was read, and the cursor is after it; or none for an early end; or the fault
abbrev pub ReadsStream : {V L : Type 0} → (V → L) → CursorView → CursorView → Result (Option V) ParseError
    → Result (L × List ℕ) KindFault → Type 0
ReadsStream view old new (Ok None) read = EndsEarly read
ReadsStream view old new (Ok (Some v)) read = (read ≡ Ok (view v, new.rest)) × (new.total ≡ old.total)
ReadsStream view old new (Err e) read = FailsWhole e read

-- a result with none in place of an early end
abbrev pub without_end : {V : Type 0} → Result V ParseError → Result (Option V) ParseError
without_end (Ok v) = Ok (Some v)
without_end (Err (Integer integer.UnexpectedEnd)) = Ok None
without_end (Err (String string.UnexpectedEnd)) = Ok None
without_end (Err e) = Err e
