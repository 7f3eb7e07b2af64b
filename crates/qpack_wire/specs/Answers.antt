-- What readers of lines and instructions return, by the definitions of their bytes.
use Rattle.std.specs.Prelude.{◌≡◌, ℕ, ◌⊎◌, List, ◌++◌, Option, None, Some, Result, Ok, Err, true, false, IfOk}
use Rattle.qpack_spec.specs.Bytes.{Begins}
use Rattle.qpack_spec.specs.Text.{EndsEarly, LengthOverflows, BadHuffman}
use Rattle.qpack_spec.specs.Form.{BadInteger, BadString}
use Rattle.qpack_base.specs.Cursor.{CursorView, MovesPast}
use Rattle.qpack_base.specs.Integers.{integer_fault_of}
use Rattle.qpack_base.specs.Payloads.{huffman_fault_of}
use Rattle.qpack_base.specs.declared.prefix_int.Error.TheVariants as integer
use Rattle.qpack_base.specs.declared.prefix_string.Error.TheVariants as string
use Rattle.qpack_base.specs.declared.parse_error.ParseError.{ParseError}
use Rattle.qpack_base.specs.declared.parse_error.ParseError.TheVariants.{Integer, String, InvalidPrefix, Memory}
use Rattle.qpack_wire.specs.Alone.{KindFault, Unreadable, Foreign, is_cut_kind}

-- the fault that an error reports, if a reader of forms can return it
abbrev pub fault_of : ParseError → Option KindFault
fault_of (Integer e) = Some (Unreadable (BadInteger (integer_fault_of e)))
fault_of (String string.UnexpectedEnd) = Some (Unreadable (BadString EndsEarly))
fault_of (String (string.Integer integer.Overflow)) = Some (Unreadable (BadString LengthOverflows))
fault_of (String (string.HuffmanDecoding e)) = Some (Unreadable (BadString (BadHuffman (huffman_fault_of e))))
fault_of (InvalidPrefix bits) = Some (Foreign bits)
fault_of e = None

-- the error reports this fault
abbrev pub Tells : ParseError → KindFault → Type 0
Tells e fault = fault_of e ≡ Some fault

-- the result is an error for this fault
abbrev pub Fails : {V : Type 0} → Result V ParseError → KindFault → Type 0
Fails (Ok v) fault = ⊥
Fails (Err e) fault = Tells e fault

-- the result is seen as this value, and what moves moved
abbrev pub Gives : {V L : Type 0} → (V → L) → Result V ParseError → L → Type 0 → Type 0
Gives view (Ok v) l moved = (view v ≡ l) × moved
Gives view (Err e) l moved = ⊥

-- the result is an error because the bytes end early
abbrev pub FailsEarly : {V : Type 0} → Result V ParseError → Type 0
FailsEarly r = (fault : KindFault) × (is_cut_kind fault ≡ true) × Fails r fault

-- ---- the clauses of a reader, for what spells a value and what is refused

-- no front is a spelling or a refusal
abbrev pub IsTruncated : {L : Type 0} → (List ℕ → L → Type 0) → (List ℕ → KindFault → Type 0) → List ℕ → Type 0
IsTruncated {L} spells refuses bytes =
    (encoding rest : List ℕ) → bytes ≡ encoding ++ rest
    → ((l : L) → spells encoding l → ⊥) × ((fault : KindFault) → refuses encoding fault → ⊥)

-- what is read is spelled so, and the cursor moves past exactly it
abbrev pub FindsSpelling : {V L : Type 0} → (V → L) → (List ℕ → L → Type 0) → CursorView → CursorView
    → Result V ParseError
    → Type 0
FindsSpelling view spells old new r = IfOk r
    (λ v. (encoding : List ℕ) × spells encoding (view v) × MovesPast encoding old new)

-- what is spelled so is read, whatever follows, unless memory is refused
abbrev pub ReadsSpelling : {V L : Type 0} → (V → L) → (List ℕ → L → Type 0) → CursorView → CursorView
    → Result V ParseError
    → Type 0
ReadsSpelling {V} {L} view spells old new r =
    (encoding rest : List ℕ) (l : L) → spells encoding l → old.rest ≡ encoding ++ rest
    → Gives view r l (MovesPast encoding old new) ⊎ (r ≡ Err Memory)

-- each refusal is reported exactly if the bytes have it, unless memory is refused
abbrev pub TellsRefusal : {V : Type 0} → (List ℕ → KindFault → Type 0) → CursorView → Result V ParseError → Type 0
TellsRefusal refuses old r =
    (fault : KindFault)
    → (is_cut_kind fault ≡ false → Fails r fault → Begins (λ encoding. refuses encoding fault) old.rest)
    × (Begins (λ encoding. refuses encoding fault) old.rest → Fails r fault ⊎ (r ≡ Err Memory))

-- an early end exactly if the bytes are truncated, unless memory is refused
abbrev pub TellsEnd : {V L : Type 0} → (List ℕ → L → Type 0) → (List ℕ → KindFault → Type 0) → CursorView
    → Result V ParseError → Type 0
TellsEnd spells refuses old r =
    (FailsEarly r → IsTruncated spells refuses old.rest)
    × (IsTruncated spells refuses old.rest → FailsEarly r ⊎ (r ≡ Err Memory))

-- a reader decodes exactly the spellings, and reports each refusal and each early end
pub record Decodes {V L : Type 0} (view : V → L) (spells : List ℕ → L → Type 0) (refuses : List ℕ → KindFault → Type 0)
    (old new : CursorView) (r : Result V ParseError) : Type 0 where
  pub found : FindsSpelling view spells old new r
  pub only : ReadsSpelling view spells old new r
  pub refused : TellsRefusal refuses old r
  pub truncated : TellsEnd spells refuses old r

-- ---- reading from left to right

-- what was read is this fault
abbrev pub ReadAs : {A F : Type 0} → Result A F → Option F → Type 0
ReadAs read None = ⊥
ReadAs read (Some fault) = read ≡ Err fault

-- the error is the fault that was read, or out of memory
abbrev pub FailsForm : {A : Type 0} → ParseError → Result A KindFault → Type 0
FailsForm Memory read = Unit {0}
FailsForm e read = ReadAs read (fault_of e)

-- the result is what was read, and the cursor is after it; or it is the fault
abbrev pub ReadsForm : {V L : Type 0} → (V → L) → CursorView → CursorView → Result V ParseError
    → Result (L × List ℕ) KindFault → Type 0
ReadsForm view old new (Ok v) read = (read ≡ Ok (view v, new.rest)) × (new.total ≡ old.total)
ReadsForm view old new (Err e) read = FailsForm e read
