-- The decoding end of a connection (RFC 9204, sections 2.1.2, 2.2, 4.4 and 5).
use Rattle.std.specs.Prelude.{◌≡◌, ◌<◌, ◌≤◌, ◌^◌, ℕ, zero, suc, ◌-◌, ⊤, ◌⊎◌, Bool, false, if◌then◌else◌, nat_eq, nat_lt}
use Rattle.std.specs.Prelude.{List, [], ◌++◌, length, Option, None, Some, Result, Ok, Err}
use Rattle.std.specs.Option.{is_some, IfSome, IsSome}
use Rattle.qpack_spec.specs.Field.{FieldLine}
use Rattle.qpack_spec.specs.Instruction.{Acknowledgment, Cancellation, written_decoder_instruction}
use Rattle.qpack_spec.specs.StrictReading.{StrictReading, Read, Blocked, strict_reading}
use Rattle.qpack_spec.specs.Table.{Table, empty_table, insert_count, window}
use Rattle.qpack_wire.specs.Memory.{AsksSectionForMemory}
use Rattle.qpack_codec.specs.Receiving.{written_report}
use Rattle.qpack_shared.specs.declared.streams.BlockedStream.{BlockedStream}
use Rattle.qpack_decoding.specs.declared.decoder.DecoderSettings.{DecoderSettings}
use Rattle.qpack_shared.specs.declared.settings.SettingsError.{SettingsError}
use Rattle.qpack_shared.specs.declared.settings.SettingsError.TheVariants.{CapacityTooLarge, BlockedTooLarge}
use Rattle.qpack_decoding.specs.declared.decoder.DecodingError.{DecodingError}
use Rattle.qpack_decoding.specs.declared.decoder.DecodingError.TheVariants.{EncoderStream, Section, TooManyBlocked}
use Rattle.qpack_decoding.specs.declared.decoder.DecodingError.TheVariants.{NoStream, Memory}
use Rattle.qpack_decoding.specs.declared.encoder_stream.EncoderStreamError.{EncoderStreamError}
use Rattle.qpack_decoding.specs.declared.encoder_stream.EncoderStreamError.TheVariants as stream
use Rattle.qpack_decoding.specs.declared.section.Reading.{Reading}
use Rattle.qpack_decoding.specs.declared.section.Reading.TheVariants as reading
use Rattle.qpack_decoding.specs.declared.section.SectionError.{SectionError}
use Rattle.qpack_shared.specs.Streams.{without}
use Rattle.qpack_decoding.specs.Blocked.{IsCountedAnew, MayBlockAmong, is_blocked, blocked_among, with_blocked}
use Rattle.qpack_decoding.specs.FieldSections.{SectionView, LacksRoomWithin}
use Rattle.qpack_decoding.specs.Receiving.{StreamView, Receives, ReceivesMore, encoder_stream_error}
use Rattle.qpack_decoding.specs.Sections.{decompression_failed, TellsReading}
use Rattle.qpack_decoding.specs.Sections as sections
use Rattle.qpack_shared.specs.Unsent.{UnsentView, LacksRoom, KeepsRoom}

-- a decoding end: its settings; the table; the bytes that wait from the encoder stream; how many insertions it has
-- reported, by increments and acknowledgments; the streams that became blocked and were not decoded since; the bytes of the decoder stream that are not
-- sent; and the error that ended the connection
pub record DecodingEnd : Type 0 where
  pub settings : DecoderSettings
  pub table : Table
  pub stream : StreamView
  pub reported : ℕ
  pub blocked : List BlockedStream
  pub unsent : List ℕ
  pub failure : Option DecodingError

-- a decoding end, with the room for the bytes of the decoder stream
pub record DecoderView : Type 0 where
  pub settings : DecoderSettings
  pub table : Table
  pub stream : StreamView
  pub reported : ℕ
  pub blocked : List BlockedStream
  pub unsent : UnsentView
  pub failure : Option DecodingError

-- the end without that room
abbrev pub end_of : DecoderView → DecodingEnd
end_of d =
    record {
      settings = d.settings;
      table = d.table;
      stream = d.stream;
      reported = d.reported;
      blocked = d.blocked;
      unsent = d.unsent.bytes;
      failure = d.failure;
    }

-- ---- its beginning

-- the settings are in range, and nothing has happened: the table is empty and of capacity 0 (section 3.2.3)
pub record Begins (settings : DecoderSettings) (d : DecodingEnd) : Type 0 where
  pub capacity_in_range : settings.max_capacity < 2 ^ 30
  pub blocked_in_range : settings.max_blocked < 65535
  pub settings_are : d.settings ≡ settings
  pub table : d.table ≡ empty_table 0 (Some settings.max_capacity) 0
  pub stream : Receives d.table d.table [] d.stream
  pub reported : d.reported ≡ 0
  pub blocked : d.blocked ≡ []
  pub unsent : d.unsent ≡ []
  pub failure : d.failure ≡ None

-- why settings are rejected: one is out of range, the maximum capacity before the limit of blocked streams
abbrev pub FailsSettings : DecoderSettings → SettingsError → Type 0
FailsSettings settings CapacityTooLarge = 2 ^ 30 ≤ settings.max_capacity
FailsSettings settings BlockedTooLarge = (settings.max_capacity < 2 ^ 30) × (65535 ≤ settings.max_blocked)

-- ---- errors

-- the code of an error that ends the connection; none of one that does not (section 6)
abbrev pub code_of : DecodingError → Option ℕ
code_of (EncoderStream place e) = Some encoder_stream_error
code_of (Section stream e) = sections.code_of e
code_of (TooManyBlocked stream) = Some decompression_failed
code_of (NoStream stream) = None
code_of Memory = None

-- the error of the end for an error of the encoder stream
abbrev pub stream_failure : EncoderStreamError → DecodingError
stream_failure (stream.Refused place e) = EncoderStream place e
stream_failure stream.Memory = Memory

-- how many streams are blocked: of those that became blocked, the ones that still wait for insertions (section 2.1.2)
abbrev pub blocked_streams : DecodingEnd → ℕ
blocked_streams d = blocked_among (insert_count d.table) d.blocked

-- no more streams are blocked than may be (section 2.1.2), and the connection is ended only by an error that has a code
pub record IsSound (d : DecodingEnd) : Type 0 where
  pub blocked : blocked_streams d ≤ d.settings.max_blocked
  pub failure : IfSome d.failure (λ e. IsSome (code_of e))

-- the end after an error, which is kept if it ends the connection
abbrev pub refused : DecodingError → DecodingEnd → DecodingEnd
refused e d = record d { failure = if is_some (code_of e) then Some e else d.failure }

-- the end after a section of this stream was refused: the stream is no longer blocked
abbrev pub section_refused : ℕ → SectionError → DecodingEnd → DecodingEnd
section_refused stream e d = record (refused (Section stream e) d) { blocked = without stream d.blocked }

-- a call for a stream may go on; or it fails, because the connection was ended, or because the stream number is invalid
-- (RFC 9000, section 2.1)
abbrev pub Checks : DecodingEnd → ℕ → Result ⊤ DecodingError → Type 0
Checks d stream (Ok done) = (d.failure ≡ None) × (stream < 2 ^ 62)
Checks d stream (Err e) = (d.failure ≡ Some e) ⊎ ((d.failure ≡ None) × (2 ^ 62 ≤ stream) × (e ≡ NoStream stream))

-- ---- the decoder stream

-- how many insertions were received and are not reported
abbrev pub unreported : DecodingEnd → ℕ
unreported d = insert_count d.table - d.reported

-- the end after increments for the insertions not yet reported (section 4.4.3)
abbrev pub with_report : DecodingEnd → DecodingEnd
with_report d =
    record d { reported = insert_count d.table; unsent = d.unsent ++ written_report (unreported d) }

-- the increments were written; or memory was refused for them, and nothing changes
abbrev pub Reports : DecodingEnd → DecodingEnd → Result ⊤ DecodingError → Type 0
Reports old new (Ok done) = new ≡ with_report old
Reports old new (Err e) = (e ≡ Memory) × (0 < unreported old) × (new ≡ old)

-- the stream is taken: what is not reported is reported, or memory is refused for that, and nothing changes
abbrev pub IsTaken : DecodingEnd → DecodingEnd → Type 0
IsTaken old new = (new ≡ with_report old) ⊎ (new ≡ old)

-- and it is refused only if there is no room for these increments
pub record TakesStream (old new : DecoderView) : Type 0 where
  pub is : (end_of new ≡ with_report (end_of old))
      ⊎ ((end_of new ≡ end_of old) × LacksRoom (length (written_report (unreported (end_of old)))) old.unsent)
  pub room : KeepsRoom (length (written_report (unreported (end_of old)))) old.unsent new.unsent

-- the increments before the acknowledgment of a section that requires this many insertions: for those not yet reported,
-- unless the acknowledgment reports all that were received (section 2.1.4)
abbrev pub report_before : ℕ → DecodingEnd → List ℕ
report_before required d = if nat_lt required (insert_count d.table) then written_report (unreported d) else []

-- the end after it acknowledged a section that requires insertions (section 4.4.1): all that were received are reported
abbrev pub acknowledged : ℕ → ℕ → DecodingEnd → DecodingEnd
acknowledged stream zero d = record d { blocked = without stream d.blocked }
acknowledged stream (suc required) d =
    record d {
      reported = insert_count d.table;
      blocked = without stream d.blocked;
      unsent = (d.unsent ++ report_before (suc required) d) ++ written_decoder_instruction (Acknowledgment stream);
    }

-- what is written for a section that requires this many insertions: nothing for none; otherwise the acknowledgment,
-- after the increments before it
abbrev pub acknowledgment_of : ℕ → ℕ → DecodingEnd → List ℕ
acknowledgment_of stream zero d = []
acknowledgment_of stream (suc required) d =
    report_before (suc required) d ++ written_decoder_instruction (Acknowledgment stream)

-- memory was refused for the acknowledgment or the increments before it, and nothing changes, or these were written
abbrev pub StopsBehindReport : DecodingEnd → DecodingEnd → ℕ → Type 0
StopsBehindReport old new required =
    (new ≡ old) ⊎ ((required < insert_count old.table) × (new ≡ with_report old))

-- memory was refused for an acknowledgment
abbrev pub StopsAcknowledging : DecodingEnd → DecodingEnd → ℕ → DecodingError → Type 0
StopsAcknowledging old new required e = (e ≡ Memory) × (0 < required) × StopsBehindReport old new required

-- the acknowledgment was written, if one is to be; or memory was refused
abbrev pub Acknowledges : DecodingEnd → DecodingEnd → ℕ → ℕ → Result ⊤ DecodingError → Type 0
Acknowledges old new stream required (Ok done) = new ≡ acknowledged stream required old
Acknowledges old new stream required (Err e) = StopsAcknowledging old new required e

-- ---- blocked streams

-- this stream is one of those that are blocked
abbrev pub is_blocked_now : ℕ → DecodingEnd → Bool
is_blocked_now stream d = is_blocked (insert_count d.table) stream d.blocked

-- a stream may become blocked: it is already, or fewer are than may be (section 2.1.2)
abbrev pub MayBlock : DecodingEnd → ℕ → Type 0
MayBlock d stream = MayBlockAmong (insert_count d.table) d.settings.max_blocked stream d.blocked

-- as many streams are blocked as may be, and this is another
abbrev pub IsOneTooMany : DecodingEnd → ℕ → Type 0
IsOneTooMany d stream = (is_blocked_now stream d ≡ false) × (d.settings.max_blocked ≤ blocked_streams d)

-- the end after a section of this stream that waits for this many insertions
abbrev pub blocked_behind : ℕ → ℕ → DecodingEnd → DecodingEnd
blocked_behind stream required d =
    record d { blocked = with_blocked (record { stream = stream; required = required }) d.blocked }

-- why a stream was not counted as blocked: it would be one too many; or memory was refused, if it may be blocked
abbrev pub StopsBlocking : DecodingEnd → DecodingEnd → BlockedStream → DecodingError → Type 0
StopsBlocking old new b (TooManyBlocked s) =
    (s ≡ b.stream) × IsOneTooMany old b.stream × (new ≡ refused (TooManyBlocked b.stream) old)
StopsBlocking old new b Memory = (new ≡ old) × IsCountedAnew b old.blocked × MayBlock old b.stream
StopsBlocking old new b e = ⊥

-- the stream was counted as blocked; or why not
abbrev pub BlocksStream : DecodingEnd → DecodingEnd → ℕ → ℕ → Result ⊤ DecodingError → Type 0
BlocksStream old new stream required (Ok done) =
    MayBlock old stream × (new ≡ blocked_behind stream required old)
BlocksStream old new stream required (Err e) =
    StopsBlocking old new (record { stream = stream; required = required }) e

-- ---- a section

-- the fields of a section, and its acknowledgment is written, if one is to be; or its stream is counted as blocked
abbrev pub GivesReading : DecodingEnd → DecodingEnd → ℕ → StrictReading → List FieldLine → Reading → Type 0
GivesReading old new stream read fields (reading.Fields required) =
    (read ≡ Read fields required) × (new ≡ acknowledged stream required old)
GivesReading old new stream read fields (reading.Blocked required) =
    (read ≡ Blocked required) × (fields ≡ []) × MayBlock old stream × (new ≡ blocked_behind stream required old)

-- memory was refused: for the section or a stream that becomes blocked, and nothing changes; or for an acknowledgment,
-- before which the increments may have been written
abbrev pub StopsForMemory : DecodingEnd → DecodingEnd → StrictReading → Type 0
StopsForMemory old new (Read fields (suc required)) = StopsBehindReport old new (suc required)
StopsForMemory old new read = new ≡ old

-- why a section was not decoded: its bytes are refused; its stream would be one blocked stream too many; or memory was
-- refused
abbrev pub StopsDecoding : DecodingEnd → DecodingEnd → ℕ → StrictReading → DecodingError → Type 0
StopsDecoding old new stream read (Section s e) =
    (s ≡ stream) × TellsReading e read × (new ≡ section_refused stream e old)
StopsDecoding old new stream read (TooManyBlocked s) =
    (s ≡ stream) × ((required : ℕ) × (read ≡ Blocked required)) × IsOneTooMany old stream
    × (new ≡ refused (TooManyBlocked stream) old)
StopsDecoding old new stream read Memory = StopsForMemory old new read
StopsDecoding old new stream read e = ⊥

-- a section that is read as this was decoded; or why not
abbrev pub DecodesInto : DecodingEnd → DecodingEnd → ℕ → StrictReading → List FieldLine
    → Result Reading DecodingError → Type 0
DecodesInto old new stream read fields (Ok r) = GivesReading old new stream read fields r
DecodesInto old new stream read fields (Err e) = StopsDecoding old new stream read e

-- the call did not begin: the connection was ended, or the stream number is invalid; and nothing changes
abbrev pub IsNotAnswered : DecodingEnd → DecodingEnd → ℕ → DecodingError → Type 0
IsNotAnswered old new stream e = Checks old stream (Err e) × (new ≡ old)

-- the section that is read as this was decoded; or there are no fields, and this is why
abbrev pub Decodes : DecodingEnd → DecodingEnd → ℕ → StrictReading → List FieldLine → Result Reading DecodingError
    → Type 0
Decodes old new stream read fields (Ok r) =
    Checks old stream (Ok tt) × GivesReading old new stream read fields r
Decodes old new stream read fields (Err e) =
    (fields ≡ [])
    × (IsNotAnswered old new stream e ⊎ (Checks old stream (Ok tt) × StopsDecoding old new stream read e))

-- memory may be asked for after a reading: an acknowledgment is to be written; or the stream may become blocked, and
-- does not yet count with what the section requires
abbrev pub AsksBehind : DecodingEnd → ℕ → StrictReading → Type 0
AsksBehind d stream (Read fields required) = 0 < required
AsksBehind d stream (Blocked required) =
    IsCountedAnew (record { stream = stream; required = required }) d.blocked × MayBlock d stream
AsksBehind d stream read = ⊥

-- memory may be asked for: by the section, or after its reading
abbrev pub AsksToDecode : DecodingEnd → ℕ → List ℕ → Type 0
AsksToDecode d stream bytes =
    AsksSectionForMemory bytes
    ⊎ AsksBehind d stream (strict_reading (window d.table) d.settings.max_section_size bytes)

-- what is written for a section that is read as this: its acknowledgment, or nothing
abbrev pub answer_to : ℕ → StrictReading → DecodingEnd → List ℕ
answer_to stream (Read fields required) d = acknowledgment_of stream required d
answer_to stream read d = []

-- memory is needed after a reading: it may be asked for; and if an acknowledgment is to be written, it does not fit with
-- the increments before it
abbrev pub NeedsMemoryBehind : DecoderView → ℕ → StrictReading → Type 0
NeedsMemoryBehind d stream (Read fields required) =
    (0 < required) × LacksRoom (length (acknowledgment_of stream required (end_of d))) d.unsent
NeedsMemoryBehind d stream read = AsksBehind (end_of d) stream read

-- memory is needed: the section may ask for it, and there is less room for its fields than one within the limit can use;
-- or it is needed after its reading
abbrev pub NeedsMemoryToDecode : DecoderView → ℕ → List ℕ → SectionView → Type 0
NeedsMemoryToDecode d stream bytes fields =
    (AsksSectionForMemory bytes × LacksRoomWithin d.settings.max_section_size fields)
    ⊎ NeedsMemoryBehind d stream (strict_reading (window d.table) d.settings.max_section_size bytes)

-- ---- a stream that is given up

-- what is written for a stream's cancellation: nothing if the maximum capacity is 0 (section 2.2.2.2)
abbrev pub cancellation_of : ℕ → DecodingEnd → List ℕ
cancellation_of stream d =
    if nat_eq d.settings.max_capacity 0 then [] else written_decoder_instruction (Cancellation stream)

-- the end after a stream's cancellation, which is not written if the maximum capacity is 0 (section 2.2.2.2)
abbrev pub cancelled : ℕ → DecodingEnd → DecodingEnd
cancelled stream d =
    record d {
      blocked = without stream d.blocked;
      unsent = if nat_eq d.settings.max_capacity 0 then d.unsent else
          d.unsent ++ written_decoder_instruction (Cancellation stream);
    }

-- the stream was cancelled; or the call did not begin; or memory was refused for a cancellation that is to be written,
-- and nothing changes
abbrev pub Cancels : DecodingEnd → DecodingEnd → ℕ → Result ⊤ DecodingError → Type 0
Cancels old new stream (Ok done) = Checks old stream (Ok tt) × (new ≡ cancelled stream old)
Cancels old new stream (Err e) =
    IsNotAnswered old new stream e
    ⊎ (Checks old stream (Ok tt) × (e ≡ Memory) × (0 < old.settings.max_capacity) × (new ≡ old))

-- ---- the encoder stream

-- the end with what was received, of which nothing is reported yet
abbrev pub received : Table → StreamView → DecodingEnd → DecodingEnd
received t s d = record d { table = t; stream = s }

-- how a call ends after the bytes that it received: it returns how many insertions were ever made; or the stream is
-- rejected, or memory is refused for it
abbrev pub EndsReceiving : DecodingEnd → DecodingEnd → Result ⊤ EncoderStreamError → Result ℕ DecodingError → Type 0
EndsReceiving d new (Ok done) (Ok total) = (total ≡ insert_count d.table) × (new ≡ d)
EndsReceiving d new (Ok done) (Err e) = ⊥
EndsReceiving d new (Err e) r = (r ≡ Err (stream_failure e)) × (new ≡ refused (stream_failure e) d)

-- the next bytes of the encoder stream were received, of which these are left
pub record ReceivesBytes (start : Table) (before : List ℕ) (old new : DecodingEnd) (bytes left : List ℕ)
    (r : Result ℕ DecodingError) : Type 0 where
  pub taken : Result ⊤ EncoderStreamError
  pub stream : ReceivesMore start old.table new.table before bytes left old.stream new.stream taken
  pub ends : EndsReceiving (received new.table new.stream old) new taken r
