-- What a strict decoder makes of the bytes of the encoder stream, each passed once and cut anywhere (RFC 9204, section
-- 4.3).
use Rattle.std.specs.Prelude.{◌≡◌, ◌≢◌, ◌<◌, ◌≤◌, ℕ, ⊤, ◌⊎◌, Bool, true, ◌&&◌, nat_eq}
use Rattle.std.specs.Prelude.{◌+◌, ◌-◌, ◌*◌, List, [], ◌++◌, length, Option, None, Some, Result, Ok, Err}
use Rattle.qpack_spec.specs.Bytes.{Begins}
use Rattle.qpack_spec.specs.Form.{FormFault, Truncates}
use Rattle.qpack_spec.specs.Instruction.{EncoderInstruction}
use Rattle.qpack_spec.specs.Instruction.{encoder_instruction_form, SpellsEncoderInstruction, RefusesEncoderInstruction}
use Rattle.qpack_spec.specs.Table.{Table}
use Rattle.qpack_rules.specs.Taking.{TakesAllOf}
use Rattle.qpack_spec.specs.Wanted.{wanted, least_field_size}
use Rattle.qpack_spec.specs.Window.{TableRefusal, DoesNotFit}
use Rattle.qpack_codec.specs.Receiving.{refusal_of, AsksToTake}
use Rattle.qpack_codec.specs.Sections.{form_fault_of}
use Rattle.qpack_codec.specs.Taking.{TakesNextOf, EndsTakingOf}
use Rattle.qpack_codec.specs.declared.error.DecoderError.{DecoderError}
use Rattle.qpack_codec.specs.declared.error.DecoderError.TheVariants as decoder
use Rattle.qpack_shared.specs.Places.{first_place, passed, behind}
use Rattle.qpack_shared.specs.declared.place.Place.{Place}
use Rattle.qpack_decoding.specs.declared.encoder_stream.EncoderStreamError.{EncoderStreamError}
use Rattle.qpack_decoding.specs.declared.encoder_stream.EncoderStreamError.TheVariants.{Refused, Memory}
-- ---- one instruction

-- what a strict decoder makes of an instruction, which of them insert, whether bytes begin one that does, and what
-- waits of the stream
pub use Rattle.qpack_rules.specs.LawfulStreams.{begins_insertion, MayGrow}
pub use Rattle.qpack_rules.specs.StrictInstructions.{inserts}
unfoldable pub use Rattle.qpack_rules.specs.StrictInstructions.{strict_apply}

-- the bytes begin an insertion, and none is lawful
abbrev pub begins_unlawfully : Table → List ℕ → Bool
begins_unlawfully t bytes = nat_eq t.capacity 0 && begins_insertion bytes

-- ---- why the stream is refused

-- why the stream is refused at these bytes: they are no instruction; the instruction is not to be applied; it begins an
-- insertion at capacity 0; or it is truncated, and what it grows to is larger than the capacity
pub data Refuses (t : Table) (rest : List ℕ) (e : DecoderError) : Type 0 where
  bad_bytes : (fault : FormFault) → Begins (λ encoding. RefusesEncoderInstruction encoding fault) rest
      → form_fault_of e ≡ Some fault → Refuses t rest e
  bad_instruction : (i : EncoderInstruction) (refusal : TableRefusal)
      → Begins (λ encoding. SpellsEncoderInstruction encoding i) rest
      → strict_apply t i ≡ Err refusal → refusal_of e ≡ Some refusal → Refuses t rest e
  no_capacity : t.capacity ≡ 0 → begins_insertion rest ≡ true → refusal_of e ≡ Some DoesNotFit → Refuses t rest e
  too_large : Truncates encoder_instruction_form rest → t.capacity < least_field_size rest
      → refusal_of e ≡ Some DoesNotFit → Refuses t rest e

-- why an instruction is not taken: memory is refused, and then the bytes are left; or the stream is
abbrev pub StopsStrictly : Table → List ℕ → List ℕ → DecoderError → Type 0
StopsStrictly t rest left e = (AsksToTake t rest × (e ≡ decoder.Memory) × (left ≡ rest)) ⊎ Refuses t rest e

-- an instruction is applied, or none is whole, or it is not applied
abbrev pub TakesNextStrictly : Table → Table → List ℕ → List ℕ → Result Bool DecoderError → Type 0
TakesNextStrictly old new rest left r =
    TakesNextOf encoder_instruction_form strict_apply StopsStrictly old new rest left r

-- the place moves past an instruction that is applied, by its bytes; otherwise it does not move
abbrev pub PassesOne : Place → Place → List ℕ → List ℕ → Result Bool DecoderError → Type 0
PassesOne from at rest left (Ok true) = at ≡ passed from 1 (length rest - length left)
PassesOne from at rest left r = at ≡ from

-- one place is this many instructions of this many bytes after another, wherever on its stream that is
abbrev pub IsBehind : Place → Place → ℕ → ℕ → Type 0
IsBehind from at many len =
    (lines bytes : ℕ) → from ≡ passed first_place lines bytes → at ≡ passed first_place (lines + many) (bytes + len)

-- the instructions at the front of the bytes are applied, from one place to another; this holds of the bytes after them
abbrev pub TakesFrom : Table → Table → Place → Place → List ℕ → (List ℕ → Type 0) → Type 0
TakesFrom old new from at bytes Ends =
    (k : TakesAllOf encoder_instruction_form strict_apply old new bytes (λ front rest. Ends rest))
    × IsBehind from at (length k.lines) (length k.front)

-- the instructions at the front are applied, until none is whole or one is not applied
abbrev pub TakesAllStrictly : Table → Table → Place → Place → List ℕ → List ℕ → Result ⊤ DecoderError → Type 0
TakesAllStrictly old new from at bytes left r =
    TakesFrom old new from at bytes (λ rest. EndsTakingOf encoder_instruction_form StopsStrictly new rest left r)

-- the instructions at the front of a stream's bytes, from its start, are applied; after them is this place, and this
-- holds of the bytes there
abbrev pub TakesUpTo : Table → Table → List ℕ → Place → (List ℕ → Type 0) → Type 0
TakesUpTo start now bytes place Ends =
    (k : TakesAllOf encoder_instruction_form strict_apply start now bytes (λ front rest. Ends rest))
    × (place ≡ behind k.lines k.front)

-- ---- the error

-- the error of the instruction at this place; out of memory stays itself
abbrev pub stream_error_at : Place → DecoderError → EncoderStreamError
stream_error_at place decoder.Memory = Memory
stream_error_at place e = Refused place e

-- the result of the instruction at this place
abbrev pub answer_at : Place → Result ⊤ DecoderError → Result ⊤ EncoderStreamError
answer_at place (Ok done) = Ok done
answer_at place (Err e) = Err (stream_error_at place e)

-- QPACK_ENCODER_STREAM_ERROR (section 6)
abbrev pub encoder_stream_error : ℕ
encoder_stream_error = 0x201

-- the code of an error that ends the connection; out of memory has none
abbrev pub stream_code_of : EncoderStreamError → Option ℕ
stream_code_of (Refused place e) = Some encoder_stream_error
stream_code_of Memory = None

-- ---- what waits

-- what waits is short: fewer than four bytes for each byte of the capacity, and ten more
abbrev pub IsShort : Table → List ℕ → Type 0
IsShort t pending = length pending < 4 * t.capacity + 10

-- a stream that is received: the bytes that wait; how many of them there must be before they are read again, 0 if they
-- are read in any case; and the place of the first instruction that was not taken
pub record StreamView : Type 0 where
  pub pending : List ℕ
  pub wanted : ℕ
  pub place : Place

-- how many bytes are needed before those that wait can be whole, or the refusal of a field that can't fit
abbrev pub FindsWanted : Table → List ℕ → Result ℕ DecoderError → Type 0
FindsWanted t pending (Ok many) = MayGrow t pending × (many ≤ wanted pending) × IsShort t pending
FindsWanted t pending (Err e) = Refuses t pending e

-- all bytes that were passed so far are instructions that were applied in turn, up to this place, then the bytes that
-- wait
abbrev pub HasReceived : Table → Table → List ℕ → Place → List ℕ → Type 0
HasReceived start now bytes place pending =
    TakesUpTo start now bytes place (λ rest. (rest ≡ pending) × MayGrow now rest)

-- if a number of bytes is needed, those that wait may grow, and nothing is whole before that number
abbrev pub Waits : Table → StreamView → Type 0
Waits now s = 0 < s.wanted → MayGrow now s.pending × (s.wanted ≤ wanted s.pending)

-- all bytes passed so far, of a stream that is to be received further: if memory was refused, the bytes that wait may
-- be whole
abbrev pub Receives : Table → Table → List ℕ → StreamView → Type 0
Receives start now bytes s = TakesUpTo start now bytes s.place (λ rest. (rest ≡ s.pending) × Waits now s)

-- the bytes up to an instruction are instructions that were taken, and there, at this place, the stream is refused
abbrev pub HasRefused : Table → Table → List ℕ → Place → DecoderError → Type 0
HasRefused start now bytes place e = TakesUpTo start now bytes place (λ rest. Refuses now rest e)

-- a front of the bytes was consumed, and these are left: the stream is received up to there, and no more bytes wait
-- than waited before and were consumed
pub record TakesIn (start new : Table) (before bytes left : List ℕ) (s u : StreamView) : Type 0 where
  pub taken : List ℕ
  pub cut : bytes ≡ taken ++ left
  pub stream : Receives start new (before ++ taken) u
  pub no_longer : length u.pending ≤ length s.pending + length taken

-- memory may be asked for: for the instruction at the front of what waits, or of what is left; or for bytes, of which some
-- are left
abbrev pub AsksToReceive : Table → List ℕ → StreamView → Type 0
AsksToReceive t left s = AsksToTake t s.pending ⊎ AsksToTake t left ⊎ (left ≡ [] → ⊥)

-- memory was refused, when it was asked for
abbrev pub WantsMemory : Table → Table → List ℕ → List ℕ → List ℕ → StreamView → StreamView → Type 0
WantsMemory start new before bytes left s u =
    TakesIn start new before bytes left s u × AsksToReceive new left u

-- the stream is refused by a front of the bytes
pub record RefusesFront (start now : Table) (before bytes : List ℕ) (place : Place) (e : DecoderError) : Type 0 where
  pub front : List ℕ
  pub back : List ℕ
  pub cut : bytes ≡ front ++ back
  pub refused : HasRefused start now (before ++ front) place e

-- why bytes are not received: memory is refused; or the stream is rejected, at the place of the error, and not for
-- memory
abbrev pub FailsReceiving : Table → Table → List ℕ → List ℕ → List ℕ → StreamView → StreamView → EncoderStreamError
    → Type 0
FailsReceiving start new before bytes left s u Memory = WantsMemory start new before bytes left s u
FailsReceiving start new before bytes left s u (Refused place e) =
    (e ≢ decoder.Memory) × RefusesFront start new before bytes place e

-- what a step makes of bytes that follow others: it consumes a front of them, and applies what is whole then; or why
-- not
abbrev pub ReceivesFront : Table → Table → List ℕ → List ℕ → List ℕ → StreamView → StreamView
    → Result ⊤ EncoderStreamError → Type 0
ReceivesFront start new before bytes left s u (Ok done) =
    (t : TakesIn start new before bytes left s u) × HasReceived start new (before ++ t.taken) u.place u.pending
    × IsShort new u.pending
ReceivesFront start new before bytes left s u (Err e) = FailsReceiving start new before bytes left s u e

-- what a call makes of bytes after those before them, of which these are left: all are received, and few wait; or why
-- not
abbrev pub ReceivesMore : Table → Table → Table → List ℕ → List ℕ → List ℕ → StreamView → StreamView
    → Result ⊤ EncoderStreamError → Type 0
ReceivesMore start old new before bytes left s u (Ok done) =
    (left ≡ []) × HasReceived start new (before ++ bytes) u.place u.pending × Receives start new (before ++ bytes) u
    × IsShort new u.pending
ReceivesMore start old new before bytes left s u (Err e) = FailsReceiving start new before bytes left s u e
