-- The events of a connection of two ends: which call of an end each is, with its result, and what becomes of the
-- connection (RFC 9204, sections 2 and 4).
use Rattle.std.specs.Prelude.{◌≡◌, ◌<◌, ◌^◌, ◌+◌, ℕ, nat_lt, if◌then◌else◌, List, [], ◌∷◌, ◌++◌, length}
use Rattle.std.specs.Prelude.{Option, None, Some, Result, Ok, Err}
use Rattle.std.specs.List.{AllByRecursion}
use Rattle.std.specs.Option.{is_some}
use Rattle.qpack_spec.specs.Field.{FieldLine, fields_of_lines}
use Rattle.qpack_rules.specs.Session.{RequestStream, stream_at, oldest_undecoded}
use Rattle.qpack_spec.specs.WrittenLaws.{IsByteField}
use Rattle.qpack_codec.specs.RequestStreams.{KeepsStreams, ChangesStream}
use Rattle.qpack_connection.specs.declared.connection.ConnectionSettings.{ConnectionSettings}
use Rattle.qpack_connection.specs.declared.connection.Event.{Event}
use Rattle.qpack_connection.specs.declared.connection.Event.TheVariants as event
use Rattle.qpack_connection.specs.declared.connection.Outcome.{Outcome}
use Rattle.qpack_connection.specs.declared.connection.Outcome.TheVariants as outcome
use Rattle.qpack_connection.specs.declared.connection.Skip.{Skip}
use Rattle.qpack_connection.specs.declared.connection.Skip.TheVariants.{NothingToDecode, StreamCancelled}
use Rattle.qpack_encoding.specs.declared.encoder.EncoderSettings.{EncoderSettings}
use Rattle.qpack_encoding.specs.declared.encoder.EncodingError.{EncodingError}
use Rattle.qpack_connection.specs.Connections.{SentSection, Connection, IsNew, Call, Encode, SetCapacity, Shrink}
use Rattle.qpack_connection.specs.Connections.{Hear, Receive, Decode, Cancel, Step, Run}
use Rattle.qpack_decoding.specs.Decoders.{DecodingEnd}
use Rattle.qpack_encoding.specs.Encoders.{EncodingEnd, Encodes}
use Rattle.qpack_connection.specs.OwnedLines.{lines_of}
use Rattle.qpack_connection.specs.TwoEndsHeadline.{Fits, AllFit}

-- ---- what is kept

-- the connection of two ends of which each has kept all bytes that it wrote, this many of each stream being received,
-- and of these request streams
abbrev pub connection_of : EncodingEnd → DecodingEnd → ℕ → ℕ → List (ℕ × RequestStream SentSection) → Connection
connection_of e d encoder_received decoder_received streams =
    record {
      encoder = record e { unsent = [] };
      decoder = record d { unsent = [] };
      encoder_stream = record { written = e.unsent; received = encoder_received };
      decoder_stream = record { written = d.unsent; received = decoder_received };
      streams = streams;
    }

-- one connection shows another: all is equal but how the list of the request streams is laid out
pub record Shows (s c : Connection) : Type 0 where
  pub encoder : c.encoder ≡ s.encoder
  pub decoder : c.decoder ≡ s.decoder
  pub encoder_stream : c.encoder_stream ≡ s.encoder_stream
  pub decoder_stream : c.decoder_stream ≡ s.decoder_stream
  pub streams : KeepsStreams s.streams c.streams

-- what the encoding end is made from
abbrev pub encoder_settings : ConnectionSettings → EncoderSettings
encoder_settings s =
    record {
      max_capacity = s.decoder.max_capacity;
      max_blocked = s.decoder.max_blocked;
      capacity = s.capacity;
      most_unacknowledged = s.most_unacknowledged;
      seed = 0;
    }

-- both ends were made with these settings, and nothing has happened (section 3.2.3)
pub record BeginsWith (settings : ConnectionSettings) (c : Connection) : Type 0 where
  pub new : IsNew c
  pub encoder_is : new.encoder_settings ≡ encoder_settings settings
  pub decoder_is : new.decoder_settings ≡ settings.decoder

-- calls that fit lead from a new connection to one that is shown
pub record IsReached (s : Connection) : Type 0 where
  pub first : Connection
  pub new : IsNew first
  pub calls : List Call
  pub last : Connection
  pub run : Run calls first last
  pub fits : AllFit calls first last run
  pub shows : Shows s last

-- ---- a request stream

-- there is a section, of these bytes
abbrev pub HasBytes : Option SentSection → List ℕ → Type 0
HasBytes None bytes = ⊥
HasBytes (Some k) bytes = bytes ≡ k.bytes

-- the stream after its oldest undecoded section, which required this many insertions, and was acknowledged if it
-- required any (section 4.4.1)
abbrev pub decoded_with : ℕ → RequestStream SentSection → RequestStream SentSection
decoded_with required st =
    record st {
      decoded = st.decoded + 1;
      acknowledged = st.acknowledged + (if nat_lt 0 required then 1 else 0);
    }

-- the stream after a section that was encoded, if it was
abbrev pub sent_with : List FieldLine → List ℕ → Result ℕ EncodingError → RequestStream SentSection
    → RequestStream SentSection
sent_with fields section (Ok required) st =
    record st { blocks = st.blocks ++ record { fields = fields; bytes = section; required = required } ∷ [] }
sent_with fields section (Err e) st = st

-- a section of the fields, which are bytes, was encoded for a stream, and is kept; it and all that the end wrote take
-- fewer than 2^63 bytes
pub record Sends (s : ℕ) (fields : List FieldLine) (e e' : EncodingEnd) (old new : RequestStream SentSection)
    (answer : Result ℕ EncodingError) : Type 0 where
  pub section : List ℕ
  pub call : Encodes e e' s fields [] section answer
  pub kept : new ≡ sent_with fields section answer old
  pub are_bytes : AllByRecursion IsByteField (fields_of_lines fields)
  pub short : length section < 2 ^ 63
  pub written_short : length e'.unsent < 2 ^ 63

-- a section was sent, or not, on one of the streams
pub record SendsAmong (s : ℕ) (fields : List FieldLine) (e e' : EncodingEnd)
    (old new : List (ℕ × RequestStream SentSection)) (answer : Result ℕ EncodingError) : Type 0 where
  pub stream : RequestStream SentSection
  pub sends : Sends s fields e e' (stream_at old s) stream answer
  pub changes : ChangesStream s stream old new

-- ---- what is skipped

-- why a decode on a stream is skipped: it is cancelled, or has no section that was not decoded
abbrev pub decode_skip : RequestStream SentSection → Option Skip
decode_skip st =
    if st.cancelled then Some StreamCancelled
    else if is_some (oldest_undecoded st) then None else Some NothingToDecode

-- why a cancellation of a stream is skipped: it is cancelled
abbrev pub cancel_skip : RequestStream SentSection → Option Skip
cancel_skip st = if st.cancelled then Some StreamCancelled else None

-- why an event is skipped; none of one that is not
abbrev pub skip_of : Connection → Event → Option Skip
skip_of c (event.Decode s) = decode_skip (stream_at c.streams s)
skip_of c (event.Cancel s) = cancel_skip (stream_at c.streams s)
skip_of c e = None

-- ---- what an event makes of a connection

-- the call that an outcome reports, of an event of its kind
abbrev pub call_of : Outcome → Event → Option Call
call_of (outcome.Encoded answer) (event.Encode s fields) = Some (Encode s (lines_of fields.items) answer)
call_of (outcome.Encoded answer) e = None
call_of (outcome.CapacitySet answer) (event.SetCapacity capacity) = Some (SetCapacity capacity answer)
call_of (outcome.CapacitySet answer) (event.Shrink capacity) = Some (Shrink capacity answer)
call_of (outcome.CapacitySet answer) e = None
call_of (outcome.Delivered answer) (event.ToDecoder many) = Some (Receive many answer)
call_of (outcome.Delivered answer) e = None
call_of (outcome.Heard answer) (event.ToEncoder many) = Some (Hear many answer)
call_of (outcome.Heard answer) e = None
call_of (outcome.Decoded answer fields) (event.Decode s) = Some (Decode s fields.fields answer)
call_of (outcome.Decoded answer fields) e = None
call_of (outcome.Cancelled answer) (event.Cancel s) = Some (Cancel s answer)
call_of (outcome.Cancelled answer) e = None
call_of (outcome.Skipped why) e = None
call_of outcome.NoRoom e = None

-- a call is made, which fits, and the connection after it is shown
pub record Makes (call : Call) (old new : Connection) : Type 0 where
  pub next : Connection
  pub step : Step call old next
  pub fits : Fits call old next step
  pub shows : Shows new next

-- there is a call, and it is made
abbrev pub MakesOne : Option Call → Connection → Connection → Type 0
MakesOne None old new = ⊥
MakesOne (Some call) old new = Makes call old new

-- the connection keeps something of the event: a section, or that a stream is cancelled
abbrev pub KeepsOf : Event → Type 0
KeepsOf (event.Encode s fields) = Unit {0}
KeepsOf (event.Cancel s) = Unit {0}
KeepsOf e = ⊥

-- what an event makes of the connection: it is skipped, for this reason, and nothing changes; or there was no memory
-- for what is kept of it, and nothing changes; or a call is made, and its result is this
abbrev pub Goes : Connection → Connection → Event → Outcome → Type 0
Goes old new e (outcome.Skipped why) = (skip_of old e ≡ Some why) × (new ≡ old)
Goes old new e outcome.NoRoom = (skip_of old e ≡ None) × KeepsOf e × Shows new old
Goes old new e o = (skip_of old e ≡ None) × MakesOne (call_of o e) old new

-- events in turn, each with its outcome
abbrev pub GoesAll : List Event → List Outcome → Connection → Connection → Type 0
GoesAll [] [] old new = new ≡ old
GoesAll (e ∷ es) (o ∷ os) old new = (now : Connection) × Goes old now e o × GoesAll es os now new
GoesAll es os old new = ⊥
