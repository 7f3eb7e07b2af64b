-- What the calls of an encoding end do in C.
use Rattle.std.specs.Prelude.{◌≡◌, ◌-◌, ℕ, ℤ, ⊤, min, List, [], length, take, drop, Option, None, Some}
use Rattle.std.specs.Prelude.{Result, Ok, Err}
use Rattle.std.specs.Option.{IfSome}
use Rattle.qpack_spec.specs.Field.{FieldLine}
use Rattle.qpack_spec.specs.Instruction.{DecoderInstruction}
use Rattle.qpack_encoding.specs.declared.encoder.EncodingError.{EncodingError}
use Rattle.qpack_encoding.specs.declared.encoder.EncodingError.TheVariants.{DecoderStream}
use Rattle.qpack_encoding.specs.declared.encoder.EncoderSettings.{EncoderSettings}
use Rattle.qpack_encoding.specs.Encoders.{Starts, Encodes, ReceivesBytes, SetsCapacity, Shrinks, TakesPeer}
use Rattle.qpack_encoding.specs.Hearing.{Receives}
use Rattle.qpack_encoding.specs.Wishes.{EncodesAsWished}
use Rattle.qpack_codec.specs.declared.encoder.choices.Wish.{Wish}
use Rattle.h3_qpack_c.specs.declared.answers.Encoded.{Encoded}
use Rattle.h3_qpack_c.specs.declared.answers.Received.{Received}
use Rattle.h3_qpack_c.specs.declared.encoder.State.{State}
use Rattle.h3_qpack_c.specs.Crossing.{copied, list_size, status_of_copy, written_over}
use Rattle.h3_qpack_c.specs.Statuses.{done, of_encoding, of_encoding_call}

-- an end at which nothing happened yet, and no section
abbrev pub IsNew : EncoderSettings → State → Type 0
IsNew settings s = Starts settings s.end × (s.section.items ≡ [])

-- such an end is kept
abbrev pub KeepsNew : EncoderSettings → Option State → Type 0
KeepsNew settings kept = (s : State) × (kept ≡ Some s) × IsNew settings s

-- the result of encoding fields whose section is these bytes, with this memory of the caller
abbrev pub told_of_encoding : Result ℕ EncodingError → List FieldLine → List ℕ → List ℕ → Encoded
told_of_encoding (Ok required) fields section before =
    record {
      status = status_of_copy section before;
      len = length section;
      required = required;
      size = list_size fields;
    }
told_of_encoding (Err e) fields section before = record { status = of_encoding e; len = 0; required = 0; size = 0 }

-- a section is encoded as the end does it, and as the caller wishes; it is copied to the caller's memory if it fits. On
-- error there is none
pub record EncodesTo (old new : State) (stream : ℕ) (fields : List FieldLine) (wishes : List Wish) (before after : List ℕ)
    (told : Encoded) : Type 0 where
  pub answer : Result ℕ EncodingError
  pub encodes : Encodes old.end new.end stream fields [] new.section.items answer
  pub wished : EncodesAsWished old.end new.end stream fields wishes [] new.section.items answer
  pub copied_is : after ≡ copied new.section.items before
  pub told_is : told ≡ told_of_encoding answer fields new.section.items before

-- a front of the encoder stream, as much as the caller's memory has room for, is copied there, and dropped
pub record TakesStream (old new : State) (before after : List ℕ) (taken : ℕ) : Type 0 where
  pub taken_is : taken ≡ min (length old.end.unsent) (length before)
  pub copied_is : after ≡ written_over (take taken old.end.unsent) before
  pub new_is : new ≡ record old { end = record old.end { unsent = drop taken old.end.unsent } }

-- the result for bytes of the decoder stream, of which this many were consumed
abbrev pub told_of_hearing : Result ⊤ EncodingError → ℕ → Received
told_of_hearing (Ok done_) taken = record { status = done; taken = taken; number = 0; offset = 0 }
told_of_hearing (Err (DecoderStream e)) taken =
    record { status = of_encoding (DecoderStream e); taken = taken; number = e.place.number; offset = e.place.offset }
told_of_hearing (Err e) taken = record { status = of_encoding e; taken = taken; number = 0; offset = 0 }

-- bytes of the decoder stream are received as the end does it: all of them, or none if the connection was ended
pub record HearsTo (old new : State) (bytes : List ℕ) (told : Received) : Type 0 where
  pub answer : Result ⊤ EncodingError
  pub left : List ℕ
  pub receives : old.end.failure ≡ None → (left ≡ [])
      × ((heard : List DecoderInstruction) (before : List ℕ)
      → Receives heard before old.end.stream → ReceivesBytes heard before old.end new.end bytes answer)
  pub ended : IfSome old.end.failure (λ e. (answer ≡ Err e) × (new.end ≡ old.end) × (left ≡ bytes))
  pub section : new.section ≡ old.section
  pub told_is : told ≡ told_of_hearing answer (length bytes - length left)

-- a capacity is set as the end does it
pub record SetsCapacityTo (old new : State) (capacity : ℕ) (status : ℤ) : Type 0 where
  pub answer : Result ⊤ EncodingError
  pub sets : SetsCapacity old.end new.end capacity answer
  pub section : new.section ≡ old.section
  pub status_is : status ≡ of_encoding_call answer

-- a capacity is set as the end does it, or waits
pub record ShrinksTo (old new : State) (capacity : ℕ) (status : ℤ) : Type 0 where
  pub answer : Result ⊤ EncodingError
  pub shrinks : Shrinks old.end new.end capacity answer
  pub section : new.section ≡ old.section
  pub status_is : status ≡ of_encoding_call answer

-- the settings of the peer are taken as the end does it
pub record TakesPeerTo (old new : State) (maximum blocked : ℕ) (status : ℤ) : Type 0 where
  pub answer : Result ⊤ EncodingError
  pub takes : TakesPeer old.end new.end maximum blocked answer
  pub section : new.section ≡ old.section
  pub status_is : status ≡ of_encoding_call answer
