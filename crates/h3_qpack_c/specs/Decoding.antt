-- What the calls of a decoding end do in C.
use Rattle.std.specs.Prelude.{◌≡◌, ◌<◌, ◌^◌, ◌-◌, ℕ, ℤ, ⊤, min, if◌then◌else◌, nat_lt}
use Rattle.std.specs.Prelude.{List, [], length, take, drop, Option, None, Some, Result, Ok, Err}
use Rattle.std.specs.Option.{IfSome}
use Rattle.qpack_spec.specs.Field.{FieldLine}
use Rattle.qpack_spec.specs.StrictReading.{strict_reading}
use Rattle.qpack_spec.specs.Table.{Table, window, insert_count}
use Rattle.qpack_decoding.specs.declared.decoder.DecodingError.{DecodingError}
use Rattle.qpack_decoding.specs.declared.decoder.DecodingError.TheVariants.{EncoderStream, Section, Memory}
use Rattle.qpack_decoding.specs.SectionPrefixes.{GivesPrefix, strict_prefix}
use Rattle.qpack_decoding.specs.declared.section.SectionError.{SectionError}
use Rattle.qpack_decoding.specs.declared.section.SectionError.TheVariants.{Line}
use Rattle.qpack_decoding.specs.declared.section.SectionPrefix.{SectionPrefix}
use Rattle.qpack_decoding.specs.declared.section.Reading.{Reading}
use Rattle.qpack_decoding.specs.declared.section.Reading.TheVariants.{Fields, Blocked}
use Rattle.qpack_decoding.specs.declared.decoder.DecoderSettings.{DecoderSettings}
use Rattle.qpack_decoding.specs.Decoders.{DecoderView, end_of, Begins, TakesStream, Decodes, Cancels, ReceivesBytes}
use Rattle.qpack_decoding.specs.Decoders.{NeedsMemoryToDecode, answer_to, cancellation_of}
use Rattle.qpack_decoding.specs.FieldSections.{IsRoomWithin, HoldsNothing, text_of}
use Rattle.qpack_decoding.specs.Receiving.{Receives, AsksToReceive}
use Rattle.qpack_shared.specs.Unsent.{LacksRoom, KeepsRoom, Drops}
use Rattle.h3_qpack_c.specs.declared.answers.Decoding.{Decoding}
use Rattle.h3_qpack_c.specs.declared.answers.Prefixed.{Prefixed}
use Rattle.h3_qpack_c.specs.declared.answers.Received.{Received}
use Rattle.h3_qpack_c.specs.declared.decoder.State.{State}
use Rattle.h3_qpack_c.specs.Crossing.{written_over}
use Rattle.h3_qpack_c.specs.Statuses.{done, blocked, of_decoding, of_decoding_call, of_section}

-- the settings that an end takes
abbrev pub InRange : ℕ → ℕ → Type 0
InRange max_capacity max_blocked = (max_capacity < 2 ^ 30) × (max_blocked < 65535)

-- an end at which nothing happened yet, and no field
pub record IsNew (settings : DecoderSettings) (s : State) : Type 0 where
  pub end : Begins settings (end_of s.end)
  pub unsent : s.end.unsent ≡ record { bytes = []; front = 0; capacity = 0 }
  pub fields : HoldsNothing s.fields

-- such an end is kept
abbrev pub KeepsNew : DecoderSettings → Option State → Type 0
KeepsNew settings kept = (s : State) × (kept ≡ Some s) × IsNew settings s

-- whether a section waits that requires this many insertions, where that many were received
abbrev pub of_waiting : ℕ → ℕ → ℤ
of_waiting required received = if nat_lt received required then blocked else done

-- the result for what a prefix says, where this many insertions were received
abbrev pub told_of_prefix : ℕ → Result SectionPrefix SectionError → Prefixed
told_of_prefix received (Ok p) =
    record { status = of_waiting p.required received; required = p.required; base = p.base; len = p.length }
told_of_prefix received (Err e) = record { status = of_section e; required = 0; base = 0; len = 0 }

-- what the prefix that bytes begin with says is reported, under the table of an end
pub record SaysPrefix (t : Table) (bytes : List ℕ) (told : Prefixed) : Type 0 where
  pub answer : Result SectionPrefix SectionError
  pub gives : GivesPrefix answer (strict_prefix (window t) bytes)
  pub told_is : told ≡ told_of_prefix (insert_count t) answer

-- the result for a section that is rejected: the status, and where a line was rejected
abbrev pub told_of_refusal : DecodingError → Decoding
told_of_refusal (Section stream (Line number offset e)) =
    record {
      status = of_decoding (Section stream (Line number offset e));
      fields = 0;
      len = 0;
      required = 0;
      number = number;
      offset = offset;
    }
told_of_refusal e = record { status = of_decoding e; fields = 0; len = 0; required = 0; number = 0; offset = 0 }

-- the result for a section that has these fields
abbrev pub told_of_decoding : Result Reading DecodingError → List FieldLine → Decoding
told_of_decoding (Ok (Fields required)) fields =
    record {
      status = done;
      fields = length fields;
      len = length (text_of fields);
      required = required;
      number = 0;
      offset = 0;
    }
told_of_decoding (Ok (Blocked required)) fields =
    record { status = blocked; fields = 0; len = 0; required = required; number = 0; offset = 0 }
told_of_decoding (Err e) fields = told_of_refusal e

-- a section is decoded as the end does it, and its fields are kept; if there are none, none are kept. Memory is kept
-- for no more fields than before, or than a section within the limit can have, and that of the decoder stream is
-- unchanged if the acknowledgment fits
pub record DecodesTo (old new : State) (stream : ℕ) (bytes : List ℕ) (told : Decoding) : Type 0 where
  pub answer : Result Reading DecodingError
  pub decodes : Decodes (end_of old.end) (end_of new.end) stream
      (strict_reading (window old.end.table) old.end.settings.max_section_size bytes) new.fields.fields answer
  pub memory : answer ≡ Err Memory → NeedsMemoryToDecode old.end stream bytes old.fields
  pub unsent : KeepsRoom (length (answer_to stream
      (strict_reading (window old.end.table) old.end.settings.max_section_size bytes) (end_of old.end)))
      old.end.unsent new.end.unsent
  pub room : IsRoomWithin old.end.settings.max_section_size old.fields new.fields
  pub told_is : told ≡ told_of_decoding answer new.fields.fields

-- the result for bytes of the encoder stream, of which this many were consumed
abbrev pub told_of_receiving : Result ℕ DecodingError → ℕ → Received
told_of_receiving (Ok total) taken = record { status = done; taken = taken; number = 0; offset = 0 }
told_of_receiving (Err (EncoderStream place e)) taken =
    record {
      status = of_decoding (EncoderStream place e);
      taken = taken;
      number = place.number;
      offset = place.offset;
    }
told_of_receiving (Err e) taken = record { status = of_decoding e; taken = taken; number = 0; offset = 0 }

-- how many bytes a call took: all if it refused the stream, which no earlier call did; otherwise those that are not left
abbrev pub taken_of : Option DecodingError → Result ℕ DecodingError → ℕ → ℕ → ℕ
taken_of None (Err (EncoderStream place e)) len left = len
taken_of ended answer len left = len - left

-- bytes of the encoder stream are received as the end does it, of which some are left
pub record ReceivesTo (old new : State) (bytes : List ℕ) (told : Received) : Type 0 where
  pub answer : Result ℕ DecodingError
  pub left : List ℕ
  pub receives : old.end.failure ≡ None → (start : Table) (before : List ℕ)
      → Receives start old.end.table before old.end.stream
      → ReceivesBytes start before (end_of old.end) (end_of new.end) bytes left answer
  pub ended : IfSome old.end.failure (λ e. (answer ≡ Err e) × (new.end ≡ old.end) × (left ≡ bytes))
  pub memory : answer ≡ Err Memory → AsksToReceive new.end.table left new.end.stream
  pub unsent : new.end.unsent ≡ old.end.unsent
  pub fields : new.fields ≡ old.fields
  pub told_is : told ≡ told_of_receiving answer (taken_of old.end.failure answer (length bytes) (length left))

-- the decoder stream is taken, and a front of it, as much as the caller's memory has room for, is copied there and
-- dropped
pub record TakesFront (old new : State) (before after : List ℕ) (taken : ℕ) : Type 0 where
  pub end : DecoderView
  pub takes : TakesStream old.end end
  pub taken_is : taken ≡ min (length end.unsent.bytes) (length before)
  pub copied_is : after ≡ written_over (take taken end.unsent.bytes) before
  pub end_is : end_of new.end ≡ record (end_of end) { unsent = drop taken end.unsent.bytes }
  pub unsent : Drops taken end.unsent new.end.unsent
  pub fields : new.fields ≡ old.fields

-- a stream is cancelled as the end does it
pub record CancelsTo (old new : State) (stream : ℕ) (status : ℤ) : Type 0 where
  pub answer : Result ⊤ DecodingError
  pub cancels : Cancels (end_of old.end) (end_of new.end) stream answer
  pub memory : answer ≡ Err Memory → LacksRoom (length (cancellation_of stream (end_of old.end))) old.end.unsent
  pub unsent : KeepsRoom (length (cancellation_of stream (end_of old.end))) old.end.unsent new.end.unsent
  pub fields : new.fields ≡ old.fields
  pub status_is : status ≡ of_decoding_call answer
