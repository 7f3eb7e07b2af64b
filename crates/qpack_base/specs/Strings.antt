-- What readers of string literals return.
use Rattle.std.specs.Prelude.{◌≡◌, ◌≢◌, ℕ, ◌%◌, List, [], ◌++◌, Option, Some, None, Result, Ok, Err, ◌==◌}
use Rattle.std.specs.Prelude.{if◌then◌else◌, ◌≤◌, length}
use Rattle.std.specs.Global.{Vec}
use Rattle.std.specs.declared.vec.Vec.{Vec as AnyVec}
use Rattle.qpack_spec.specs.Huffman.{HuffmanFault, bits_of_bytes, text_of_bits}
use Rattle.qpack_spec.specs.Text.{StringFault, EndsEarly, LengthOverflows, BadHuffman}
use Rattle.qpack_base.specs.declared.prefix_int.Error.{Error as IntegerError}
use Rattle.qpack_base.specs.declared.prefix_int.Error.TheVariants as integer
use Rattle.qpack_base.specs.declared.prefix_string.Error.{Error}
use Rattle.qpack_base.specs.declared.prefix_string.Error.TheVariants.{UnexpectedEnd, Integer, HuffmanDecoding}
use Rattle.qpack_base.specs.declared.prefix_string.Error.TheVariants.{Memory}
use Rattle.qpack_base.specs.Cursor.{CursorView}
use Rattle.qpack_base.specs.Payloads.{huffman_fault_of}
use Rattle.qpack_base.specs.Refusals.{IsRefusedFor}
use Rattle.qpack_base.specs.Writes.{kept_within}

-- the error of a string whose length has this one
abbrev pub error_of_integer : IntegerError → Error
error_of_integer integer.UnexpectedEnd = UnexpectedEnd
error_of_integer integer.Overflow = Integer integer.Overflow

-- a whole payload that is not empty was read, so that memory may be asked for (RFC 9204, section 4.1.2)
abbrev pub IsWhole : Result (ℕ × List ℕ × List ℕ) StringFault → Type 0
IsWhole (Ok x) = x.1 ≢ []
IsWhole (Err EndsEarly) = ⊥
IsWhole (Err LengthOverflows) = ⊥
IsWhole (Err (BadHuffman fault)) = Unit {0}

-- the fault of a string that an error reports; none for out of memory and for what is never returned (RFC 9204, section
-- 4.1.2)
abbrev pub string_fault_of : Error → Option StringFault
string_fault_of UnexpectedEnd = Some EndsEarly
string_fault_of (Integer integer.Overflow) = Some LengthOverflows
string_fault_of (HuffmanDecoding e) = Some (BadHuffman (huffman_fault_of e))
string_fault_of e = None

-- the error is the fault that was read, or out of memory for a whole payload that is not empty
abbrev pub FailsString : Error → Result (ℕ × List ℕ × List ℕ) StringFault → Type 0
FailsString Memory read = IsWhole read
FailsString e read = IsRefusedFor read (string_fault_of e)

-- the result is the value that was read, under some flags, and the cursor is after it; or it is the fault
abbrev pub ReadsString : CursorView → CursorView → Result (Vec ℕ) Error → Result (ℕ × List ℕ × List ℕ) StringFault
    → Type 0
ReadsString old new (Ok v) read = ((flags : ℕ) × (read ≡ Ok (flags, v.items, new.rest))) × (new.total ≡ old.total)
ReadsString old new (Err e) read = FailsString e read

-- what a payload means, which the lowest flag says to be plain or coded
abbrev pub meaning : ℕ → List ℕ → Result (List ℕ) HuffmanFault
meaning flags payload = if flags % 2 == 0 then Ok payload else text_of_bits (bits_of_bytes payload)

-- memory may be asked for: the payload means a text that is not empty, or nothing (RFC 7541, section 5.2)
abbrev pub TakesMemory : Result (List ℕ) HuffmanFault → Type 0
TakesMemory (Ok value) = value ≢ []
TakesMemory (Err fault) = Unit {0}

-- the value of a payload alone is appended; or it is the fault, or memory was refused, which it is not for an empty
-- text
abbrev pub AppendsText : {A : Type 0} → AnyVec ℕ A → AnyVec ℕ A → Result (Unit {0}) Error → Result (List ℕ) HuffmanFault
    → Type 0
AppendsText old new (Ok u) read = (value : List ℕ) × (read ≡ Ok value) × (new.items ≡ old.items ++ value)
AppendsText old new (Err (HuffmanDecoding e)) read = (read ≡ Err (huffman_fault_of e)) × (new.items ≡ old.items)
AppendsText old new (Err Memory) read = TakesMemory read × (new.items ≡ old.items)
AppendsText old new (Err e) read = ⊥

-- ---- values of at most this many bytes

-- the value that was read, under some flags, is appended if it has at most this many bytes, and its length is returned;
-- the cursor is after it. Or it is the fault, and the text is unchanged
abbrev pub AppendsStringWithin : {A : Type 0} → ℕ → CursorView → CursorView → AnyVec ℕ A → AnyVec ℕ A → Result ℕ Error
    → Result (ℕ × List ℕ × List ℕ) StringFault → Type 0
AppendsStringWithin most old new text_old text_new (Ok len) read = ((flags : ℕ) × (value : List ℕ)
    × (read ≡ Ok (flags, value, new.rest)) × (len ≡ length value)
    × (text_new.items ≡ text_old.items ++ kept_within most value)) × (new.total ≡ old.total)
AppendsStringWithin most old new text_old text_new (Err e) read =
    FailsString e read × (text_new.items ≡ text_old.items)

-- the value that was read, if any was, has at most this many bytes
abbrev pub FitsStringWithin : ℕ → Result (ℕ × List ℕ × List ℕ) StringFault → Type 0
FitsStringWithin most (Ok x) = length x.1 ≤ most
FitsStringWithin most (Err fault) = Unit {0}

-- the value of a payload alone is appended if it has at most this many bytes; or it is the fault, or memory was refused
abbrev pub AppendsTextWithin : {A : Type 0} → ℕ → AnyVec ℕ A → AnyVec ℕ A → Result ℕ Error
    → Result (List ℕ) HuffmanFault → Type 0
AppendsTextWithin most old new (Ok len) read = (value : List ℕ) × (read ≡ Ok value) × (len ≡ length value)
    × (new.items ≡ old.items ++ kept_within most value)
AppendsTextWithin most old new (Err (HuffmanDecoding e)) read =
    (read ≡ Err (huffman_fault_of e)) × (new.items ≡ old.items)
AppendsTextWithin most old new (Err Memory) read = TakesMemory read × (new.items ≡ old.items)
AppendsTextWithin most old new (Err e) read = ⊥

-- the text, if the payload means any, has at most this many bytes
abbrev pub FitsWithin : ℕ → Result (List ℕ) HuffmanFault → Type 0
FitsWithin most (Ok value) = length value ≤ most
FitsWithin most (Err fault) = Unit {0}

-- ---- reading by cases

-- the result is the value, and what moves moved; or memory was refused
abbrev pub GivesValue : Result (Vec ℕ) Error → List ℕ → Type 0 → Type 0
GivesValue (Ok v) value moved = (v.items ≡ value) × moved
GivesValue (Err Memory) value moved = Unit {0}
GivesValue (Err e) value moved = ⊥

-- the result is that the payload is malformed, for this fault
abbrev pub IsFaulty : Result (Vec ℕ) Error → HuffmanFault → Type 0
IsFaulty (Err (HuffmanDecoding e)) fault = huffman_fault_of e ≡ fault
IsFaulty result fault = ⊥

-- the result is that the payload is malformed, for this fault; or memory was refused
abbrev pub GivesFault : Result (Vec ℕ) Error → HuffmanFault → Type 0
GivesFault (Err Memory) fault = Unit {0}
GivesFault result fault = IsFaulty result fault
