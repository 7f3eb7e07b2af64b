-- The encoding end of a connection (RFC 9204, sections 2.1, 3.2.3, 4.3.1 and 4.4).
use Rattle.std.specs.Prelude.{◌≡◌, ◌<◌, ◌≤◌, ◌^◌, ℕ, min, ⊤, ◌⊎◌, Bool, true, false, if◌then◌else◌, nat_eq, nat_le, nat_lt, ◌||◌}
use Rattle.std.specs.Prelude.{List, [], ◌+◌, ◌++◌, length, Option, None, Some, Result, Ok, Err, IsOk}
use Rattle.std.specs.Prelude.{vec_len, vec_capacity}
use Rattle.std.specs.declared.vec.Vec.{Vec}
use Rattle.std.specs.Option.{IfSome, IsSome, is_some}
use Rattle.qpack_spec.specs.Field.{FieldLine}
use Rattle.qpack_spec.specs.Instruction.{DecoderInstruction, SetCapacity, written_encoder_instruction}
use Rattle.qpack_spec.specs.Marked.{stateless_block_marked, coded_marked_block}
use Rattle.qpack_spec.specs.Table.{Table, empty_table, with_capacity, has_number}
use Rattle.qpack_spec.specs.Window.{TableRefusal, DoesNotFit, AboveMaximum, greatest_capacity}
use Rattle.qpack_spec.specs.Text.{WhereShorter}
use Rattle.qpack_table.specs.declared.dynamic.Error.TheVariants.{MaxTableSizeReached}
use Rattle.qpack_codec.specs.ChosenSections.{EncodesChosen, GivesUpChosen}
use Rattle.qpack_codec.specs.declared.error.EncoderError.{EncoderError}
use Rattle.qpack_codec.specs.declared.error.EncoderError.TheVariants as encoder
use Rattle.qpack_encoding.specs.declared.encoder.EncoderSettings.{EncoderSettings}
use Rattle.qpack_encoding.specs.declared.encoder.EncodingError.{EncodingError}
use Rattle.qpack_encoding.specs.declared.encoder.EncodingError.TheVariants.{DecoderStream, CapacityTooLarge}
use Rattle.qpack_encoding.specs.declared.encoder.EncodingError.TheVariants.{EntriesHeld, NoStream, Memory}
use Rattle.qpack_encoding.specs.declared.encoder.EncodingError.TheVariants.{MaximumChanged, LimitLowered, MaximumTooLarge}
use Rattle.qpack_encoding.specs.Risk.{streams_at_risk}
use Rattle.qpack_encoding.specs.Hearing.{StreamView, Receives, ReceivesMore, decoder_stream_error}

-- an encoding end: its settings; the table; the capacity that waits to be announced with a section, if any; the bytes
-- that wait from the decoder stream; the bytes of the encoder stream that are not sent; and the error that ended the
-- connection
pub record EncodingEnd : Type 0 where
  pub settings : EncoderSettings
  pub table : Table
  pub wanted : Option ℕ
  pub stream : StreamView
  pub unsent : List ℕ
  pub failure : Option EncodingError

-- ---- its beginning

-- the capacity to announce before the first section: that of the settings, at most the maximum; none for 0, which a
-- table has from the start (section 3.2.3)
abbrev pub first_capacity : EncoderSettings → Option ℕ
first_capacity s = if nat_eq (min s.capacity s.max_capacity) 0 then None else Some (min s.capacity s.max_capacity)

-- the maximum capacity is in range, and nothing has happened: the table is empty and of capacity 0 (section 3.2.3), and
-- keeps at most 4,096 sections that may be blocked
pub record Starts (settings : EncoderSettings) (d : EncodingEnd) : Type 0 where
  pub capacity_in_range : settings.max_capacity < 2 ^ 30
  pub settings_are : d.settings ≡ settings
  pub table : d.table ≡ empty_table 0 (Some settings.max_capacity) 4096
  pub wanted : d.wanted ≡ first_capacity settings
  pub stream : Receives [] [] d.stream
  pub unsent : d.unsent ≡ []
  pub failure : d.failure ≡ None

-- the stream is what some instructions and bytes make of it
abbrev pub HasReceived : StreamView → Type 0
HasReceived s = (heard : List DecoderInstruction) × (before : List ℕ) × Receives heard before s

-- the end is as a new one of these settings, except that bytes of the decoder stream may have come
pub record IsUnused (settings : EncoderSettings) (d : EncodingEnd) : Type 0 where
  pub capacity_in_range : settings.max_capacity < 2 ^ 30
  pub settings_are : d.settings ≡ settings
  pub table : d.table ≡ empty_table 0 (Some settings.max_capacity) 4096
  pub wanted : d.wanted ≡ first_capacity settings
  pub stream : HasReceived d.stream
  pub unsent : d.unsent ≡ []
  pub failure : d.failure ≡ None

-- ---- errors

-- H3_SETTINGS_ERROR (RFC 9114, section 8.1)
abbrev pub settings_error : ℕ
settings_error = 0x109

-- the code of an error that ends the connection (section 6, and RFC 9114, section 8.1); none of one that does not
abbrev pub code_of : EncodingError → Option ℕ
code_of (DecoderStream e) = Some decoder_stream_error
code_of MaximumChanged = Some decoder_stream_error
code_of LimitLowered = Some settings_error
code_of e = None

-- the error of a capacity that was not set, as an end's
abbrev pub capacity_failure : EncoderError → EncodingError
capacity_failure (encoder.Insertion MaxTableSizeReached) = EntriesHeld
capacity_failure encoder.Memory = Memory
capacity_failure e = CapacityTooLarge

-- ---- what always holds

-- a capacity that waits is within the maximum, so only entries that are held refuse it
abbrev pub IsToBeTold : EncodingEnd → ℕ → Type 0
IsToBeTold d capacity = capacity ≤ greatest_capacity d.table.agreed_max

-- a capacity that waits is within the maximum, the stream was received unless it was rejected, and the connection is
-- ended only by an error that has a code
pub record IsSound (d : EncodingEnd) : Type 0 where
  pub wanted : IfSome d.wanted (λ capacity. IsToBeTold d capacity)
  pub stream : d.failure ≡ None → HasReceived d.stream
  pub failure : IfSome d.failure (λ e. IsSome (code_of e))

-- if the maximum is 0 the table is as it began: nothing was inserted, and no section waits for an acknowledgment
abbrev pub IsBareAtZero : EncoderSettings → Table → Type 0
IsBareAtZero settings t = settings.max_capacity ≡ 0 → t ≡ empty_table 0 (Some 0) 4096

-- ---- the settings of the peer

-- the settings, with what the peer sent
abbrev pub of_peer : ℕ → ℕ → EncoderSettings → EncoderSettings
of_peer maximum blocked s = record s { max_capacity = maximum; max_blocked = blocked }

-- why an end with these settings does not take those of the peer, if it does not. The limit of blocked streams is not
-- lowered (RFC 9114, section 7.2.4.2), and a maximum other than 0 does not change (section 3.2.3). A new maximum is
-- below 2^30
abbrev pub peer_refusal : EncoderSettings → ℕ → ℕ → Option EncodingError
peer_refusal s maximum blocked =
    if nat_lt blocked s.max_blocked then Some LimitLowered
    else if nat_eq maximum s.max_capacity then None
    else if nat_lt 0 s.max_capacity then Some MaximumChanged
    else if nat_lt maximum (2 ^ 30) then None else Some MaximumTooLarge

-- the end with the settings of the peer. If the maximum is new, the table is an empty one of that maximum, whose
-- capacity is to be announced before the first section (section 3.2.3)
abbrev pub with_peer : ℕ → ℕ → EncodingEnd → EncodingEnd
with_peer maximum blocked d =
    if nat_eq maximum d.settings.max_capacity
    then record d { settings = of_peer maximum blocked d.settings }
    else
    record d {
      settings = of_peer maximum blocked d.settings;
      table = empty_table 0 (Some maximum) 4096;
      wanted = first_capacity (of_peer maximum blocked d.settings);
    }

-- the end with an error, which is kept if it has a code
abbrev pub kept_if : Option ℕ → EncodingError → EncodingEnd → EncodingEnd
kept_if None e d = d
kept_if (Some code) e d = record d { failure = Some e }

abbrev pub refused : EncodingError → EncodingEnd → EncodingEnd
refused e d = kept_if (code_of e) e d

-- the settings of the peer were taken; or the connection was ended, and nothing changes; or why they were not taken
abbrev pub TakesPeer : EncodingEnd → EncodingEnd → ℕ → ℕ → Result ⊤ EncodingError → Type 0
TakesPeer old new maximum blocked (Ok done) =
    (old.failure ≡ None) × (peer_refusal old.settings maximum blocked ≡ None) × (new ≡ with_peer maximum blocked old)
TakesPeer old new maximum blocked (Err e) =
    ((old.failure ≡ Some e) × (new ≡ old))
    ⊎ ((old.failure ≡ None) × (peer_refusal old.settings maximum blocked ≡ Some e)
    × (new ≡ refused e old))

-- ---- a capacity

-- the end after its table was given a capacity, which it announces (section 4.3.1)
abbrev pub told : ℕ → Table → EncodingEnd → EncodingEnd
told capacity t d =
    record d {
      table = t;
      wanted = None;
      unsent = d.unsent ++ written_encoder_instruction (SetCapacity capacity);
    }

-- why a capacity was not announced: it is above the maximum (section 3.2.3), or it would evict an entry that is not
-- evictable (section 2.1.1); or memory was refused for one that the table takes
abbrev pub StopsTelling : Table → ℕ → EncodingError → Type 0
StopsTelling t capacity CapacityTooLarge = with_capacity t capacity ≡ Err AboveMaximum
StopsTelling t capacity EntriesHeld = with_capacity t capacity ≡ Err DoesNotFit
StopsTelling t capacity Memory = IsOk (with_capacity t capacity)
StopsTelling t capacity e = ⊥

-- the table was given a capacity, which is announced; or why not, and nothing changes
abbrev pub TellsCapacity : EncodingEnd → EncodingEnd → ℕ → Result ⊤ EncodingError → Type 0
TellsCapacity old new capacity (Ok done) =
    (with_capacity old.table capacity ≡ Ok new.table) × (new ≡ told capacity new.table old)
TellsCapacity old new capacity (Err e) = StopsTelling old.table capacity e × (new ≡ old)

-- the maximum is 0, and so is the capacity, which the table has: nothing may be written then (section 3.2.3)
abbrev pub IsNoCapacity : EncodingEnd → ℕ → Type 0
IsNoCapacity d capacity = (d.settings.max_capacity ≡ 0) × (capacity ≡ 0)

-- there is nothing to do for the capacity, or it is announced
abbrev pub SetsIt : EncodingEnd → EncodingEnd → ℕ → Type 0
SetsIt old new capacity =
    (IsNoCapacity old capacity × (new ≡ old))
    ⊎ ((IsNoCapacity old capacity → ⊥) × TellsCapacity old new capacity (Ok tt))

-- a capacity was set; or the connection was ended, and nothing changes; or why it was not set, if there is something to
-- do for it, and nothing changes
abbrev pub SetsCapacity : EncodingEnd → EncodingEnd → ℕ → Result ⊤ EncodingError → Type 0
SetsCapacity old new capacity (Ok done) = (old.failure ≡ None) × SetsIt old new capacity
SetsCapacity old new capacity (Err e) =
    ((old.failure ≡ Some e) × (new ≡ old))
    ⊎ ((old.failure ≡ None) × (IsNoCapacity old capacity → ⊥) × TellsCapacity old new capacity (Err e))

-- the end after a capacity that waits, by what the table makes of it: it is announced, or it waits on
abbrev pub told_if : ℕ → EncodingEnd → Result Table TableRefusal → EncodingEnd
told_if capacity d (Ok t) = told capacity t d
told_if capacity d (Err e) = d

-- the end after the capacity that waits, if any
abbrev pub begun_with : Option ℕ → EncodingEnd → EncodingEnd
begun_with None d = d
begun_with (Some capacity) d = told_if capacity d (with_capacity d.table capacity)

-- the end as a section meets it: the capacity that waits is announced, if the table takes it
abbrev pub begun : EncodingEnd → EncodingEnd
begun d = begun_with d.wanted d

-- a capacity waits, and the table takes it
abbrev pub IsDue : EncodingEnd → Type 0
IsDue d = (capacity : ℕ) × (d.wanted ≡ Some capacity) × IsOk (with_capacity d.table capacity)

-- the capacity that waits is announced, if the table takes it; or memory was refused for that, and nothing changes
abbrev pub Begins : EncodingEnd → EncodingEnd → Result ⊤ EncodingError → Type 0
Begins old new (Ok done) = new ≡ begun old
Begins old new (Err e) = (e ≡ Memory) × IsDue old × (new ≡ old)

-- why a capacity neither was set nor waits: it is above the maximum, or memory was refused for one that the table takes
abbrev pub StopsShrinking : Table → ℕ → EncodingError → Type 0
StopsShrinking t capacity e = (e ≡ EntriesHeld → ⊥) × StopsTelling t capacity e

-- a capacity was not set because it would evict an entry that is not evictable
abbrev pub is_held : Result ⊤ EncodingError → Bool
is_held (Err EntriesHeld) = true
is_held r = false

-- the end while a capacity waits
abbrev pub waiting : ℕ → EncodingEnd → EncodingEnd
waiting capacity d = record d { wanted = Some capacity }

-- the capacity that waits for entries to be evictable, if any: an empty table takes each one, also that of the settings
abbrev pub pending_capacity : EncodingEnd → Option ℕ
pending_capacity d = if nat_eq (length d.table.live) 0 then None else d.wanted

-- a capacity was set; or it would evict an entry that is not evictable, and waits; or why it was neither set nor waits,
-- and nothing changes
abbrev pub Shrinks : EncodingEnd → EncodingEnd → ℕ → Result ⊤ EncodingError → Type 0
Shrinks old new capacity (Ok done) =
    (old.failure ≡ None)
    × (SetsIt old new capacity
    ⊎ ((with_capacity old.table capacity ≡ Err DoesNotFit) × (new ≡ waiting capacity old)))
Shrinks old new capacity (Err e) = (e ≡ EntriesHeld → ⊥) × SetsCapacity old new capacity (Err e)

-- ---- the decoder stream

-- the end with what was received
abbrev pub received : Table → StreamView → EncodingEnd → EncodingEnd
received t s d = record d { table = t; stream = s }

-- the next bytes of the decoder stream were received; or it is refused, which ends the connection
abbrev pub ReceivesBytes : List DecoderInstruction → List ℕ → EncodingEnd → EncodingEnd → List ℕ
    → Result ⊤ EncodingError → Type 0
ReceivesBytes heard before old new bytes (Ok done) =
    ReceivesMore old.table new.table heard before bytes new.stream (Ok tt)
    × (new ≡ received new.table new.stream old)
ReceivesBytes heard before old new bytes (Err (DecoderStream e)) =
    ReceivesMore old.table new.table heard before bytes new.stream (Err e)
    × (new ≡ record (received new.table new.stream old) { failure = Some (DecoderStream e) })
ReceivesBytes heard before old new bytes (Err e) = ⊥

-- ---- a section

-- a call for a stream may go on; or it fails, because the connection was ended, or because the stream number is invalid
-- (RFC 9000, section 2.1)
abbrev pub Checks : EncodingEnd → ℕ → Result ⊤ EncodingError → Type 0
Checks d stream (Ok done) = (d.failure ≡ None) × (stream < 2 ^ 62)
Checks d stream (Err e) = (d.failure ≡ Some e) ⊎ ((d.failure ≡ None) × (2 ^ 62 ≤ stream) × (e ≡ NoStream stream))

-- as many sections wait for acknowledgments as may
abbrev pub is_full : EncodingEnd → Bool
is_full d = nat_le d.settings.most_unacknowledged (length d.table.unacknowledged)

-- a section references no entry: a capacity waits, or as many sections wait for acknowledgments as may
abbrev pub is_alone : EncodingEnd → Bool
is_alone d = is_some d.wanted || is_full d

-- a section of a stream may require insertions that are not known to be received: its stream may be blocked already, or
-- fewer streams may be blocked than the peer permits (section 2.1.2)
abbrev pub may_block : EncodingEnd → ℕ → Bool
may_block d stream =
    has_number stream (streams_at_risk d.table) || nat_lt (length (streams_at_risk d.table)) d.settings.max_blocked

-- the section of fields that references no entry, which means them under every table
abbrev pub written_alone : List FieldLine → List ℕ
written_alone fields = coded_marked_block WhereShorter fields (stateless_block_marked fields)

-- the end with another table and other bytes that are to be sent
abbrev pub with_section : Table → List ℕ → EncodingEnd → EncodingEnd
with_section t unsent d = record d { table = t; unsent = unsent }

-- if sections may wait, the section was written under some choices, and so were its instructions; if none of its stream
-- may be blocked, it requires nothing that is not known to be received (sections 2.1 and 2.1.2)
pub record WritesSection (d new : EncodingEnd) (stream : ℕ) (fields : List FieldLine) (before after : List ℕ)
    (required : ℕ) : Type 0 where
  pub room : is_alone d ≡ false
  pub section : EncodesChosen WhereShorter stream fields d.table new.table before after d.unsent new.unsent required
  pub known : may_block d stream ≡ false → required ≤ d.table.known_received_count
  pub new_is : new ≡ with_section new.table new.unsent d

-- while a capacity waits, and at the limit of sections that wait, the section references no entry, and nothing else
-- changes
pub record WritesAlone (d new : EncodingEnd) (fields : List FieldLine) (before after : List ℕ) (required : ℕ) :
    Type 0 where
  pub alone : is_alone d ≡ true
  pub required_is : required ≡ 0
  pub section : after ≡ before ++ written_alone fields
  pub new_is : new ≡ d

-- memory ran out after some of the fields: their insertions stay and were written, and nothing is referenced
pub record GivesUpSection (d new : EncodingEnd) (fields : List FieldLine) : Type 0 where
  pub room : is_alone d ≡ false
  pub lines : GivesUpChosen WhereShorter fields d.table new.table d.unsent new.unsent
  pub new_is : new ≡ with_section new.table new.unsent d

-- before any field, memory is asked for a section that references no entry, and for its stream if that may be blocked
abbrev pub AsksFirst : EncodingEnd → ℕ → Type 0
AsksFirst d stream = (is_alone d ≡ true) ⊎ (may_block d stream ≡ true)

-- memory was refused: for the capacity that was due, and nothing changes; after it, before any field; or among the
-- fields
abbrev pub StopsForMemory : EncodingEnd → EncodingEnd → ℕ → List FieldLine → Type 0
StopsForMemory old new stream fields =
    (IsDue old × (new ≡ old))
    ⊎ (AsksFirst (begun old) stream × (new ≡ begun old))
    ⊎ GivesUpSection (begun old) new fields

-- a section was encoded, after the capacity that was due; or the call did not begin, and nothing changes; or memory was
-- refused. On error nothing is appended
abbrev pub Encodes : EncodingEnd → EncodingEnd → ℕ → List FieldLine → List ℕ → List ℕ → Result ℕ EncodingError
    → Type 0
Encodes old new stream fields before after (Ok required) =
    Checks old stream (Ok tt)
    × (WritesSection (begun old) new stream fields before after required
    ⊎ WritesAlone (begun old) new fields before after required)
Encodes old new stream fields before after (Err e) =
    (after ≡ before)
    × ((Checks old stream (Err e) × (new ≡ old))
    ⊎ (Checks old stream (Ok tt) × (e ≡ Memory) × StopsForMemory old new stream fields))

-- memory may be asked for to write a section: there is a field; or there is none, and the vector has no room for the
-- two bytes of the prefix
abbrev pub AsksForSection : {A : Type 0} → List FieldLine → Vec ℕ A → Type 0
AsksForSection fields section = (fields ≡ [] → ⊥) ⊎ (vec_capacity section < vec_len section + 2)

-- the section that references no entry does not fit the vector
abbrev pub HasNoRoomAlone : {A : Type 0} → List FieldLine → Vec ℕ A → Type 0
HasNoRoomAlone fields section = vec_capacity section < vec_len section + length (written_alone fields)

-- memory may be asked for to encode a section: for the capacity to announce, or to write the section
abbrev pub AsksToEncode : {A : Type 0} → EncodingEnd → List FieldLine → Vec ℕ A → Type 0
AsksToEncode d fields section = IsDue d ⊎ AsksForSection fields section
