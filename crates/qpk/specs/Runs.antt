-- What a run of a script prints: a session of the definitions, event by event (RFC 9204, section 2).
use Rattle.std.specs.Prelude.{◌≡◌, ◌<◌, ◌⊎◌, ℕ, ◌-◌, ⊤, List, [], ◌∷◌, ◌++◌, length, take, drop, codes, Option}
use Rattle.std.specs.Prelude.{None, Some, Result, Ok, Err, slice_get, String, string_bytes}
use Rattle.std.specs.Option.{option_map}
use Rattle.qpack_rules.specs.Session as spec
use Rattle.qpack_rules.specs.Session.{Session, KeptBlock, stream_at, next_block, Passes, begin_session}
use Rattle.qpack_rules.specs.Session.{CapacityTooLarge, LimitTooLarge}
use Rattle.qpack_spec.specs.Window.{TableRefusal, DoesNotFit, AboveMaximum, UnknownStream}
use Rattle.qpack_wire.specs.Memory.{AsksSectionForMemory}
use Rattle.h3_qpack.below.qpack_table.specs.declared.dynamic.Error.{Error as TableError}
use Rattle.h3_qpack.below.qpack_table.specs.declared.dynamic.Error.TheVariants as table
use Rattle.qpack_codec.specs.Receiving.{AsksToTake}
use Rattle.h3_qpack.specs.Sessions.{SessionView, StoredBlock, Reaches}
use Rattle.qpack_codec.specs.declared.error.EncoderError.TheVariants.{Insertion}
use Rattle.qpk.specs.ErrorWords.{encoder_words, memory_words, refused_text}
use Rattle.qpk.specs.Inspecting.{index_text}
use Rattle.qpk.specs.Outcomes.{added_text, encoded_text, decoded_text, received_text}
use Rattle.qpk.specs.Scripts.{script_events}
use Rattle.qpk.specs.declared.text.Fault.{Fault}
use Rattle.qpk.specs.declared.text.Fault.TheVariants.{BadEvent, Capacity, Limit, Memory}

-- the error of the dynamic table that reports a refusal which needs no entry
abbrev pub error_of_refusal : TableRefusal → Option TableError
error_of_refusal DoesNotFit = Some table.MaxTableSizeReached
error_of_refusal AboveMaximum = Some table.MaximumTableSizeTooLarge
error_of_refusal (UnknownStream stream) = Some (table.UnknownStreamId stream)
error_of_refusal refusal = None

-- what is printed of an event, by its outcome, the bytes of the block that it made, if it made one, and the bytes that
-- it added to a stream; nothing is printed of a bad block and a refused stream, since no session has these outcomes
abbrev pub printed_answer : spec.Outcome → List ℕ → List ℕ → Option (List ℕ)
printed_answer (spec.Encoded required) block added = Some (encoded_text required block added)
printed_answer (spec.Decoded fs size is_dynamic) block added = Some (decoded_text size fs)
printed_answer (spec.MissingReferences required) block added = Some (index_text (codes "missing") required)
printed_answer (spec.Delivered total) block added = Some (received_text total added)
printed_answer spec.Heard block added = Some (codes "heard\n")
printed_answer spec.Acknowledged block added = Some (added_text (codes "acked") added)
printed_answer spec.Cancelled block added = Some (added_text (codes "cancelled") added)
printed_answer spec.CapacitySet block added = Some (added_text (codes "capacity") added)
printed_answer (spec.Skipped reason) block added = Some (index_text (codes "skipped") reason)
printed_answer (spec.CapacityRefused refusal) block added = option_map (λ e. refused_text (encoder_words (Insertion e)))
    (error_of_refusal refusal)
printed_answer spec.NoMemory block added = Some (refused_text memory_words)
printed_answer (spec.BadBlock fault) block added = None
printed_answer (spec.Refused fault) block added = None

-- the stream that an event adds bytes to, if it adds any: an encode and a capacity add to the encoder stream, all else
-- to the decoder stream
abbrev pub written_stream : spec.Event → Session → List ℕ
written_stream (spec.Encode stream fs) v = v.encoder_stream
written_stream (spec.ChangeCapacity capacity) v = v.encoder_stream
written_stream e v = v.decoder_stream

-- the bytes that an event added
abbrev pub added_bytes : spec.Event → Session → Session → List ℕ
added_bytes e v next = drop (length (written_stream e v)) (written_stream e next)

-- the bytes of a block, none if there is none
abbrev pub bytes_of_block : Option KeptBlock → List ℕ
bytes_of_block None = []
bytes_of_block (Some block) = block.bytes

-- those of the newest block
abbrev pub newest_bytes : List KeptBlock → List ℕ
newest_bytes blocks = bytes_of_block (slice_get blocks (length blocks - 1))

-- the bytes of the newest block of the stream that is encoded for
abbrev pub made_block : spec.Event → Session → List ℕ
made_block (spec.Encode stream fs) v = newest_bytes (stream_at v.streams stream).blocks
made_block e v = []

-- an event that leads from a session to another asks for memory: a decode, if in the stream's oldest undecoded block a
-- prefix is followed by a whole line, or by a string whose payload is not empty; a delivery to the decoder, if after it
-- insertions are still to be reported, or the next instruction that was delivered asks for memory; a delivery to the
-- encoder never; any other event may, since it writes bytes
abbrev pub MayWantMemory : spec.Event → Session → Session → Type 0
MayWantMemory (spec.Decode stream) v next = AsksSectionForMemory (bytes_of_block (next_block v stream))
MayWantMemory (spec.ToDecoder bytes) v next =
    (0 < next.unreported)
    ⊎ AsksToTake next.decoder
    (drop next.encoder_stream_taken (take next.encoder_stream_delivered next.encoder_stream))
MayWantMemory (spec.ToEncoder bytes) v next = ⊥
MayWantMemory e v next = ⊤

-- an event has an outcome and leads to another session, and this is printed of it; memory is refused only if it asks
-- for some
pub record PrintsEvent (v : Session) (e : spec.Event) (next : Session) (out : List ℕ) : Type 0 where
  pub answer : spec.Outcome
  pub passes : Passes v e answer next
  pub prints : printed_answer answer (made_block e next) (added_bytes e v next) ≡ Some out
  pub asks : answer ≡ spec.NoMemory → MayWantMemory e v next

-- events in turn lead from a session to another, and this is printed of them
abbrev pub PrintsEvents : Session → List spec.Event → Session → List ℕ → Type 0
PrintsEvents v [] last out = (last ≡ v) × (out ≡ [])
PrintsEvents v (e ∷ events) last out =
    (next : Session) × (here : List ℕ) × (more : List ℕ) × PrintsEvent v e next here
    × PrintsEvents next events last more × (out ≡ here ++ more)

-- this is printed of a script: its session begins with this capacity, which is the maximum too, and this limit of
-- blocked blocks, and its events lead on from there
pub record PrintsRun (capacity limit : ℕ) (text out : List ℕ) : Type 0 where
  pub events : List spec.Event
  pub are_events : script_events text ≡ Ok events
  pub first : Session
  pub begins : begin_session capacity capacity limit ≡ Ok first
  pub last : Session
  pub prints : PrintsEvents first events last out

-- a fault of a script, reported before that of its session; or out of memory
abbrev pub HasRunFault : ℕ → ℕ → List ℕ → Fault → Type 0
HasRunFault capacity limit text (BadEvent n) = script_events text ≡ Err n
HasRunFault capacity limit text Capacity =
    (events : List spec.Event) × (script_events text ≡ Ok events)
    × (begin_session capacity capacity limit ≡ Err CapacityTooLarge)
HasRunFault capacity limit text Limit =
    (events : List spec.Event) × (script_events text ≡ Ok events)
    × (begin_session capacity capacity limit ≡ Err LimitTooLarge)
HasRunFault capacity limit text Memory = Unit {0}
HasRunFault capacity limit text fault = ⊥

-- what a script prints, or the fault in it
abbrev pub RunsScript : {Z : Type 0} → ℕ → ℕ → List ℕ → Result (String Z) Fault → Type 0
RunsScript capacity limit text (Ok out) = PrintsRun capacity limit text (string_bytes out)
RunsScript capacity limit text (Err fault) = HasRunFault capacity limit text fault

-- ---- what the session of the code does

-- it shows a session that events lead to from its beginning
abbrev pub ShowsReached : SessionView → Session → Type 0
ShowsReached s v =
    (capacity : ℕ) × (maximum : ℕ) × (limit : ℕ) × (events : List (spec.Event × spec.Outcome))
    × Reaches s capacity maximum limit events v

-- one event, from whichever session is shown before it
pub record Prints (new : SessionView) (v : Session) (e : spec.Event) (out : List ℕ) : Type 0 where
  pub next : Session
  pub shows : ShowsReached new next
  pub prints : PrintsEvent v e next out

abbrev pub PrintsOne : SessionView → SessionView → spec.Event → List ℕ → Type 0
PrintsOne old new e out = (v : Session) → ShowsReached old v → Prints new v e out

-- events in turn, from whichever session is shown before them
pub record PrintsMore (new : SessionView) (v : Session) (events : List spec.Event) (out : List ℕ) : Type 0 where
  pub last : Session
  pub shows : ShowsReached new last
  pub prints : PrintsEvents v events last out

abbrev pub PrintsAll : SessionView → SessionView → List spec.Event → List ℕ → Type 0
PrintsAll old new events out = (v : Session) → ShowsReached old v → PrintsMore new v events out

-- what events print comes after the earlier text, or memory was refused
abbrev pub RunsEvents : SessionView → SessionView → List spec.Event → List ℕ → List ℕ → Result ⊤ Fault → Type 0
RunsEvents old new events before after (Ok done) =
    (out : List ℕ) × PrintsAll old new events out × (after ≡ before ++ out)
RunsEvents old new events before after (Err fault) = fault ≡ Memory

-- a session begins as the definition says, or is refused as it says, or for memory
abbrev pub FailsToBegin : Fault → ℕ → ℕ → Type 0
FailsToBegin Capacity capacity limit = begin_session capacity capacity limit ≡ Err CapacityTooLarge
FailsToBegin Limit capacity limit = begin_session capacity capacity limit ≡ Err LimitTooLarge
FailsToBegin Memory capacity limit = Unit {0}
FailsToBegin fault capacity limit = ⊥

abbrev pub BeginsRun : Result SessionView Fault → ℕ → ℕ → Type 0
BeginsRun (Ok s) capacity limit = (v : Session) × (begin_session capacity capacity limit ≡ Ok v) × ShowsReached s v
BeginsRun (Err fault) capacity limit = FailsToBegin fault capacity limit

-- a session begins, and the events print this in it
pub record PrintsSession (capacity limit : ℕ) (events : List spec.Event) (out : List ℕ) : Type 0 where
  pub first : Session
  pub begins : begin_session capacity capacity limit ≡ Ok first
  pub last : Session
  pub prints : PrintsEvents first events last out

-- a session begins, and what events print comes after the earlier text; or it does not begin, or memory was refused
abbrev pub RunsSession : ℕ → ℕ → List spec.Event → List ℕ → List ℕ → Result ⊤ Fault → Type 0
RunsSession capacity limit events before after (Ok done) =
    (out : List ℕ) × PrintsSession capacity limit events out × (after ≡ before ++ out)
RunsSession capacity limit events before after (Err fault) = FailsToBegin fault capacity limit

-- the stream that an event adds bytes to, and the bytes of the newest block of the stream that is encoded for, in the
-- session of the code
abbrev pub stored_stream_bytes : spec.Event → SessionView → List ℕ
stored_stream_bytes (spec.Encode stream fs) s = s.encoder_stream
stored_stream_bytes (spec.ChangeCapacity capacity) s = s.encoder_stream
stored_stream_bytes e s = s.decoder_stream

abbrev pub bytes_of_stored : Option StoredBlock → List ℕ
bytes_of_stored None = []
bytes_of_stored (Some block) = block.bytes

abbrev pub newest_stored : List StoredBlock → List ℕ
newest_stored blocks = bytes_of_stored (slice_get blocks (length blocks - 1))

abbrev pub stored_block_bytes : spec.Event → SessionView → List ℕ
stored_block_bytes (spec.Encode stream fs) s = newest_stored (stream_at s.streams stream).blocks
stored_block_bytes e s = []
