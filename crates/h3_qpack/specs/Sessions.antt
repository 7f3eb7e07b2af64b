-- A session as the code keeps it, and how it shows the session of the definitions (RFC 9204, section 2).
use Rattle.std.specs.Prelude.{◌≡◌, ◌<◌, ◌≤◌, ◌^◌, ◌⊎◌, ◌++◌, [], ◌∷◌, ℕ, Bool, true, not, nat_eq, nat_le, nat_lt}
use Rattle.std.specs.Prelude.{if◌then◌else◌, IsSome}
use Rattle.std.specs.Prelude.{List, map, filter, take, length, Option, None, Some, Ok, Err}
use Rattle.std.specs.BTreeMap.{is_at}
use Rattle.std.specs.Map.{lookup}
use Rattle.std.specs.Ordering.{nat_cmp}
use Rattle.qpack_spec.specs.Field.{Field}
use Rattle.qpack_spec.specs.Form.{FormFault}
use Rattle.qpack_rules.specs.Session as spec
use Rattle.qpack_rules.specs.Session.{KeptBlock, KeptStream, RequestStream, stream_at, Session, Run, Passes}
use Rattle.qpack_rules.specs.Session.{initial_session, awaits_acknowledgment}
use Rattle.qpack_codec.specs.RequestStreams.{ChangesStream}
use Rattle.qpack_spec.specs.Table.{Table}
use Rattle.qpack_spec.specs.Window.{TableRefusal}
use Rattle.qpack_codec.specs.Encoding.{EncodesBlock, GivesUpBlock}
use Rattle.qpack_codec.specs.Hearing as hearing
use Rattle.qpack_codec.specs.Receiving as receiving
use Rattle.qpack_codec.specs.Receiving.{DecoderView}
use Rattle.qpack_codec.specs.Sections.{Tells, form_fault_of}
use Rattle.qpack_codec.specs.Stateless.{fields_in}
use Rattle.qpack_codec.specs.declared.error.DecoderError.{DecoderError}
use Rattle.qpack_codec.specs.declared.error.DecoderError.TheVariants as decoder
use Rattle.qpack_codec.specs.declared.error.EncoderError.TheVariants as encoder
use Rattle.h3_qpack.specs.declared.session.Event.{Event}
use Rattle.h3_qpack.specs.declared.session.Event.TheVariants as event
use Rattle.h3_qpack.specs.declared.session.Outcome.{Outcome}
use Rattle.h3_qpack.specs.declared.session.Outcome.TheVariants as outcome

-- ---- the request streams

-- a block: its bytes, and its required insert count
pub record StoredBlock : Type 0 where
  pub bytes : List ℕ
  pub required : ℕ

-- a block requires an entry
abbrev pub stored_requires_entry : StoredBlock → Bool
stored_requires_entry b = not (nat_eq b.required 0)

-- there is a block, of these bytes
abbrev pub HasBytes : Option StoredBlock → List ℕ → Type 0
HasBytes None bytes = ⊥
HasBytes (Some b) bytes = bytes ≡ b.bytes

-- a request stream with what is kept of its blocks
abbrev pub StoredStream : Type 0
StoredStream = RequestStream StoredBlock

-- this many of a stream's blocks are decoded, and this many of these require an entry
pub record CountsDecoded (blocks : List StoredBlock) (decoded dynamic : ℕ) : Type 0 where
  pub within : decoded ≤ length blocks
  pub dynamic_are : dynamic ≡ length (filter stored_requires_entry (take decoded blocks))

-- what is kept of a block
abbrev pub stored_block : KeptBlock → StoredBlock
stored_block b = record { bytes = b.bytes; required = b.required }

-- what is kept of a stream
abbrev pub stored_stream : KeptStream → StoredStream
stored_stream k =
    record {
      blocks = map stored_block k.blocks;
      decoded = k.decoded;
      acknowledged = k.acknowledged;
      cancelled = k.cancelled;
    }

-- ---- what is skipped, as the session's definition has it

-- an event on a stream of this number, which is lawful if it is not cancelled and this holds of it
abbrev pub stored_skip : ℕ → StoredStream → Bool → ℕ → Option ℕ
stored_skip number k lawful reason =
    if nat_le (2 ^ 62) number then Some 1
    else (if k.cancelled then Some 3 else if lawful then None else Some reason)

abbrev pub encode_skip : ℕ → Option ℕ
encode_skip number = if nat_le (2 ^ 62) number then Some 1 else None

abbrev pub decode_skip : List (ℕ × StoredStream) → ℕ → Option ℕ
decode_skip streams number =
    let k = stream_at streams number in stored_skip number k (nat_lt k.decoded (length k.blocks)) 2

abbrev pub acknowledgment_skip : List (ℕ × StoredStream) → ℕ → Option ℕ
acknowledgment_skip streams number =
    let k = stream_at streams number in stored_skip number k (awaits_acknowledgment stored_requires_entry k) 4

abbrev pub cancellation_skip : List (ℕ × StoredStream) → ℕ → Option ℕ
cancellation_skip streams number = stored_skip number (stream_at streams number) true 0

-- ---- a block

-- a block was written for a stream, as the encoder writes it; its bytes are kept with its required insert count
pub record WritesBlock (number : ℕ) (fields : List Field) (encoder encoder' : Table) (written written' : List ℕ)
    (old new : StoredStream) (required : ℕ) : Type 0 where
  pub bytes : List ℕ
  pub encodes : EncodesBlock number fields encoder encoder' [] bytes written written' required
  pub keeps : new ≡ record old { blocks = old.blocks ++ record { bytes = bytes; required = required } ∷ [] }
  pub block_fits : length bytes < 2 ^ 63
  pub written_fits : length written' < 2 ^ 63

-- no block was written: nothing changed, or the block was given up after some of the fields
pub record GivesUp (fields : List Field) (encoder encoder' : Table) (written written' : List ℕ) : Type 0 where
  pub gives_up : ((encoder' ≡ encoder) × (written' ≡ written)) ⊎ GivesUpBlock fields encoder encoder' written written'
  pub written_fits : length written' < 2 ^ 63

-- a block was written among the streams
pub record WritesStream (number : ℕ) (fields : List Field) (encoder encoder' : Table) (written written' : List ℕ)
    (old new : List (ℕ × StoredStream)) (required : ℕ) : Type 0 where
  pub stream : StoredStream
  pub writes : WritesBlock number fields encoder encoder' written written' (stream_at old number) stream required
  pub changes : ChangesStream number stream old new

-- ---- the session

-- what a session keeps: both ends, both streams between them with how much of each was delivered and taken, and the
-- request streams
pub record SessionView : Type 0 where
  pub encoder : Table
  pub decoder : DecoderView
  pub encoder_stream : List ℕ
  pub encoder_stream_delivered : ℕ
  pub encoder_stream_taken : ℕ
  pub decoder_stream : List ℕ
  pub decoder_stream_delivered : ℕ
  pub decoder_stream_taken : ℕ
  pub streams : List (ℕ × StoredStream)

-- it shows a session of the definitions, which has besides the fields that were passed to the encoder: all else is
-- equal
pub record Shows (s : SessionView) (v : Session) : Type 0 where
  pub encoder : v.encoder ≡ s.encoder
  pub decoder : v.decoder ≡ s.decoder.table
  pub unreported : v.unreported ≡ s.decoder.unreported
  pub encoder_stream : v.encoder_stream ≡ s.encoder_stream
  pub encoder_stream_delivered : v.encoder_stream_delivered ≡ s.encoder_stream_delivered
  pub encoder_stream_taken : v.encoder_stream_taken ≡ s.encoder_stream_taken
  pub decoder_stream : v.decoder_stream ≡ s.decoder_stream
  pub decoder_stream_delivered : v.decoder_stream_delivered ≡ s.decoder_stream_delivered
  pub decoder_stream_taken : v.decoder_stream_taken ≡ s.decoder_stream_taken
  pub streams : (number : ℕ) → stream_at s.streams number ≡ stored_stream (stream_at v.streams number)

-- it shows a session that these events with their outcomes lead to, from the beginning of this capacity, which is
-- within this maximum capacity, and of this limit
pub record Reaches (s : SessionView) (capacity maximum limit : ℕ) (events : List (spec.Event × spec.Outcome))
    (v : Session) : Type 0 where
  pub within : capacity ≤ maximum
  pub shows : Shows s v
  pub run : Run (initial_session capacity maximum limit) events v

-- it is one that events lead to
pub record IsReached (s : SessionView) : Type 0 where
  pub capacity : ℕ
  pub maximum : ℕ
  pub limit : ℕ
  pub events : List (spec.Event × spec.Outcome)
  pub session : Session
  pub reaches : Reaches s capacity maximum limit events session

-- ---- events and their outcomes

-- an event of the definitions
abbrev pub event_of : Event → spec.Event
event_of (event.Encode number fields) = spec.Encode number (fields_in fields.items)
event_of (event.Decode number) = spec.Decode number
event_of (event.ToDecoder bytes) = spec.ToDecoder bytes
event_of (event.ToEncoder bytes) = spec.ToEncoder bytes
event_of (event.Ack number) = spec.Acknowledge number
event_of (event.Cancel number) = spec.Cancel number
event_of (event.SetCapacity capacity) = spec.ChangeCapacity capacity

-- an error reports why a stream is refused: its fault, or the refusal of a table
abbrev pub TellsStreamFault : Option FormFault → Option TableRefusal → spec.StreamFault → Type 0
TellsStreamFault told_fault told_refusal (spec.BadBytes fault) = told_fault ≡ Some fault
TellsStreamFault told_fault told_refusal (spec.BadInstruction refusal) = told_refusal ≡ Some refusal

-- an error reports why a block was not decoded
abbrev pub TellsUndecoded : DecoderError → spec.Outcome → Type 0
TellsUndecoded e (spec.MissingReferences required) = e ≡ decoder.MissingRefs required
TellsUndecoded e (spec.BadBlock fault) = Tells e fault
TellsUndecoded e o = ⊥

-- the outcome is this one of the definitions; out of memory is the same everywhere
abbrev pub Answers : Outcome → spec.Outcome → Type 0
Answers (outcome.Encoded (Ok required)) o = o ≡ spec.Encoded required
Answers (outcome.Encoded (Err e)) o = (e ≡ encoder.Memory) × (o ≡ spec.NoMemory)
Answers (outcome.Decoded (Ok d)) o = o ≡ spec.Decoded (fields_in d.fields.items) d.mem_size d.dyn_ref
Answers (outcome.Decoded (Err decoder.Memory)) o = o ≡ spec.NoMemory
Answers (outcome.Decoded (Err e)) o = TellsUndecoded e o
Answers (outcome.Delivered (Ok total)) o = o ≡ spec.Delivered total
Answers (outcome.Delivered (Err decoder.Memory)) o = o ≡ spec.NoMemory
Answers (outcome.Delivered (Err e)) o =
    (fault : spec.StreamFault) × (o ≡ spec.Refused fault)
    × TellsStreamFault (form_fault_of e) (receiving.refusal_of e) fault
Answers (outcome.Heard (Ok done)) o = o ≡ spec.Heard
Answers (outcome.Heard (Err e)) o =
    (fault : spec.StreamFault) × (o ≡ spec.Refused fault)
    × TellsStreamFault (hearing.form_fault_of e) (hearing.refusal_of e) fault
Answers (outcome.Acknowledged (Ok done)) o = o ≡ spec.Acknowledged
Answers (outcome.Acknowledged (Err e)) o = o ≡ spec.NoMemory
Answers (outcome.Cancelled (Ok done)) o = o ≡ spec.Cancelled
Answers (outcome.Cancelled (Err e)) o = o ≡ spec.NoMemory
Answers (outcome.CapacitySet (Ok done)) o = o ≡ spec.CapacitySet
Answers (outcome.CapacitySet (Err encoder.Memory)) o = o ≡ spec.NoMemory
Answers (outcome.CapacitySet (Err e)) o =
    (refusal : TableRefusal) × (o ≡ spec.CapacityRefused refusal) × (hearing.refusal_of e ≡ Some refusal)
Answers (outcome.Skipped reason) o = o ≡ spec.Skipped reason

-- the outcome is one of the event's kind, or it says why the event is skipped
abbrev pub IsAnswerTo : spec.Event → Outcome → Type 0
IsAnswerTo event (outcome.Skipped reason) = Unit {0}
IsAnswerTo (spec.Encode number fields) (outcome.Encoded r) = Unit {0}
IsAnswerTo (spec.Decode number) (outcome.Decoded r) = Unit {0}
IsAnswerTo (spec.ToDecoder bytes) (outcome.Delivered r) = Unit {0}
IsAnswerTo (spec.ToEncoder bytes) (outcome.Heard r) = Unit {0}
IsAnswerTo (spec.Acknowledge number) (outcome.Acknowledged r) = Unit {0}
IsAnswerTo (spec.Cancel number) (outcome.Cancelled r) = Unit {0}
IsAnswerTo (spec.ChangeCapacity capacity) (outcome.CapacitySet r) = Unit {0}
IsAnswerTo event result = ⊥

-- from a session that is shown an event leads, with this outcome of its kind, to a session that is shown after it
pub record Goes (new : SessionView) (event : spec.Event) (result : Outcome) (v : Session) : Type 0 where
  pub answer : spec.Outcome
  pub next : Session
  pub answers : Answers result answer
  pub kind : IsAnswerTo event result
  pub shows : Shows new next
  pub passes : Passes v event answer next

-- an event leads so from every session that is shown before it
abbrev pub Follows : SessionView → SessionView → spec.Event → Outcome → Type 0
Follows old new event result = (v : Session) → Shows old v → Goes new event result v

-- ---- the headline

-- after the events so far and this one with its outcome, P holds of a session that is shown
pub record Holds (new : SessionView) (capacity maximum limit : ℕ) (events : List (spec.Event × spec.Outcome))
    (event : spec.Event) (result : Outcome) (P : List (spec.Event × spec.Outcome) → Session → Type 0) : Type 0 where
  pub answer : spec.Outcome
  pub next : Session
  pub answers : Answers result answer
  pub reaches : Reaches new capacity maximum limit (events ++ (event, answer) ∷ []) next
  pub holds : P (events ++ (event, answer) ∷ []) next

-- P holds so for any capacities, limit, events and session that reached the session before it
abbrev pub Keeps : SessionView → SessionView → spec.Event → Outcome
    → (ℕ → ℕ → ℕ → List (spec.Event × spec.Outcome) → Session → Type 0) → Type 0
Keeps old new event result P =
    (capacity maximum limit : ℕ) (events : List (spec.Event × spec.Outcome)) (v : Session)
    → Reaches old capacity maximum limit events v
    → Holds new capacity maximum limit events event result (P capacity maximum limit)
