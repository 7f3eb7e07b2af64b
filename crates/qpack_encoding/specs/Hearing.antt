-- What a strict encoder makes of the bytes of the decoder stream, each passed once and cut anywhere (RFC 9204, section
-- 4.4).
use Rattle.std.specs.Prelude.{◌≡◌, ℕ, ⊤, Bool, true, false, List, []}
use Rattle.std.specs.Prelude.{◌++◌, Option, None, Some, Result, Ok, Err}
use Rattle.qpack_spec.specs.Bytes.{Begins}
use Rattle.qpack_spec.specs.Integer.{Overflow}
use Rattle.qpack_spec.specs.Form.{BadInteger, Truncates}
use Rattle.qpack_spec.specs.Instruction.{DecoderInstruction}
use Rattle.qpack_spec.specs.Instruction.{decoder_instruction_form, SpellsDecoderInstruction, RefusesDecoderInstruction}
use Rattle.qpack_spec.specs.Stream.{SpellsAll}
use Rattle.qpack_spec.specs.Table.{Table}
use Rattle.qpack_shared.specs.Places.{behind}
use Rattle.qpack_encoding.specs.declared.decoder_stream.DecoderStreamError.{DecoderStreamError}
use Rattle.qpack_encoding.specs.declared.decoder_stream.HearingError.{HearingError}
use Rattle.qpack_encoding.specs.declared.decoder_stream.HearingError.TheVariants as error
use Rattle.qpack_shared.specs.declared.place.Place.{Place}
-- ---- one instruction

-- what a strict encoder makes of an instruction, why it refuses one, and what it makes of some in turn
pub use Rattle.qpack_rules.specs.StrictInstructions.{HearingRefusal, ZeroIncrement, PastInsertions, UnknownStream}
pub use Rattle.qpack_rules.specs.StrictInstructions.{or_unknown, known_at_least, hear_in_turn}
unfoldable pub use Rattle.qpack_rules.specs.StrictInstructions.{strict_hear}

-- the refusal that an error reports
abbrev pub refusal_of : HearingError → Option HearingRefusal
refusal_of error.IntegerOverflow = None
refusal_of error.ZeroIncrement = Some ZeroIncrement
refusal_of (error.IncrementPastInsertions by) = Some (PastInsertions by)
refusal_of (error.UnknownStream stream) = Some (UnknownStream stream)

-- the error reports this refusal
abbrev pub TellsRefusal : HearingError → Result Table HearingRefusal → Type 0
TellsRefusal e (Ok t) = ⊥
TellsRefusal e (Err refusal) = refusal_of e ≡ Some refusal

-- the table is what the instruction makes of it, or unchanged if it is refused
abbrev pub Applies : Result ⊤ HearingError → Result Table HearingRefusal → Table → Table → Type 0
Applies (Ok done) heard old new = heard ≡ Ok new
Applies (Err e) heard old new = TellsRefusal e heard × (new ≡ old)

-- why the stream is refused at these bytes: they are no instruction, since its integer is too large; or the
-- instruction is not to be applied
pub data Refuses (t : Table) (rest : List ℕ) (e : HearingError) : Type 0 where
  bad_bytes : Begins (λ encoding. RefusesDecoderInstruction encoding (BadInteger Overflow)) rest
      → e ≡ error.IntegerOverflow → Refuses t rest e
  bad_instruction : (i : DecoderInstruction) → Begins (λ encoding. SpellsDecoderInstruction encoding i) rest
      → TellsRefusal e (strict_hear t i) → Refuses t rest e

-- the instruction at the front of the bytes is applied
pub record HearsOne (old new : Table) (bytes : List ℕ) : Type 0 where
  pub instruction : DecoderInstruction
  pub stands : Begins (λ encoding. SpellsDecoderInstruction encoding instruction) bytes
  pub applies : strict_hear old instruction ≡ Ok new

-- the instruction at the front of the bytes is applied, or none is whole, or it is rejected
abbrev pub HearsNext : Table → Table → List ℕ → Result Bool HearingError → Type 0
HearsNext old new bytes (Ok true) = HearsOne old new bytes
HearsNext old new bytes (Ok false) = Truncates decoder_instruction_form bytes × (new ≡ old)
HearsNext old new bytes (Err e) = Refuses old bytes e × (new ≡ old)

-- ---- the stream

-- a stream that is received: the bytes that wait, and where the next instruction is
pub record StreamView : Type 0 where
  pub pending : List ℕ
  pub place : Place

-- the bytes begin with these instructions, and after them, at this place, this holds of the rest
pub record StandsBehind (heard : List DecoderInstruction) (bytes : List ℕ) (place : Place) (Ends : List ℕ
    → Type 0) : Type 0 where
  pub front : List ℕ
  pub rest : List ℕ
  pub cut : bytes ≡ front ++ rest
  pub joined : SpellsAll SpellsDecoderInstruction front heard
  pub at : place ≡ behind heard front
  pub ends : Ends rest

-- all bytes that were passed so far, joined, are these instructions, then the bytes that wait, of an instruction that
-- is not whole
abbrev pub Receives : List DecoderInstruction → List ℕ → StreamView → Type 0
Receives heard bytes s =
    StandsBehind heard bytes s.place (λ rest. (rest ≡ s.pending) × Truncates decoder_instruction_form rest)

-- after these instructions, at the place of the error, the stream is rejected
abbrev pub HasRefused : Table → List DecoderInstruction → List ℕ → DecoderStreamError → Type 0
HasRefused t heard bytes e = StandsBehind heard bytes e.place (λ rest. Refuses t rest e.error)

-- more instructions are applied in turn to the table that a call borrows
pub record HearsMore (old new : Table) (heard : List DecoderInstruction) (Then : List DecoderInstruction
    → Type 0) : Type 0 where
  pub more : List DecoderInstruction
  pub applies : hear_in_turn old more ≡ Ok new
  pub behind_them : Then (heard ++ more)

-- what a call makes of bytes after those before them: more instructions are applied, and all is received; or after them
-- the stream is rejected, and nothing waits
abbrev pub ReceivesMore : Table → Table → List DecoderInstruction → List ℕ → List ℕ → StreamView
    → Result ⊤ DecoderStreamError → Type 0
ReceivesMore old new heard before bytes s (Ok done) =
    HearsMore old new heard (λ all. Receives all (before ++ bytes) s)
ReceivesMore old new heard before bytes s (Err e) =
    HearsMore old new heard (λ all. HasRefused new all (before ++ bytes) e) × (s.pending ≡ [])

-- QPACK_DECODER_STREAM_ERROR (section 6)
abbrev pub decoder_stream_error : ℕ
decoder_stream_error = 0x202
