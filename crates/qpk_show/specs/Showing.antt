-- What an onlooker is shown of a connection, one thing after the other (RFC 9204, sections 2.1 and 4.2 to 4.5).
use Rattle.std.specs.Prelude.{ℕ, suc, Bool, true, false, not, if◌then◌else◌, ◌&&◌, ◌||◌, nat_le, nat_lt, nat_eq, List}
use Rattle.std.specs.Prelude.{[]}
use Rattle.std.specs.Prelude.{◌∷◌, ◌++◌, filter, position, insert, remove, is_some, slice_get, Option, None, Some}
use Rattle.std.specs.Prelude.{Result, Ok, Err}
use Rattle.std.specs.List.{list_any}
use Rattle.qpack_spec.specs.Field.{Field}
use Rattle.qpack_spec.specs.Instruction.{EncoderInstruction, DecoderInstruction}
use Rattle.qpack_rules.specs.StrictInstructions.{HearingRefusal, strict_apply}
use Rattle.qpack_spec.specs.Table.{Table, empty_table, insert_count}
use Rattle.qpack_spec.specs.Window.{TableRefusal}
use Rattle.qpack_wire.specs.Alone.{KindFault}
use Rattle.qpack_wire.specs.StreamLines.{encoder_instruction_at, decoder_instruction_at}
use Rattle.qpack_codec.specs.Receiving.{field_to_insert}
use Rattle.qpk_show.specs.Streams.{Stream, refused, next_of}
use Rattle.qpk_show.specs.Sections.{Reading, Lines, Blocked, Refused, shown_section}
use Rattle.qpk_show.specs.Awaited.{Awaited, hear, nothing_awaited, with_sent}

-- a field section that came, and is not shown yet: its stream, its bytes, and how many insertions it waits for, if that
-- is known
pub record Arrived : Type 0 where
  pub stream : ℕ
  pub bytes : List ℕ
  pub waits_for : Option ℕ

-- what came of a connection: the table after the instructions that were applied, the limit of blocked streams, the two
-- streams, the sections that are not shown yet, in the order in which they came, and what the decoder stream may report
pub record Observed : Type 0 where
  pub table : Table
  pub limit : ℕ
  pub encoder_stream : Stream
  pub decoder_stream : Stream
  pub arrived : List Arrived
  pub awaited : Awaited

-- an onlooker to whom nothing came: the table begins at capacity 0 with this maximum (section 3.2.2)
abbrev pub observed_at_first : ℕ → ℕ → Observed
observed_at_first maximum limit =
    record {
      table = empty_table 0 (Some maximum) 0;
      limit = limit;
      encoder_stream = record { received = []; taken = 0; is_refused = false };
      decoder_stream = record { received = []; taken = 0; is_refused = false };
      arrived = [];
      awaited = nothing_awaited;
    }

-- one more section, after those that came before
abbrev pub with_section : Observed → ℕ → List ℕ → Observed
with_section o stream section =
    record o { arrived = o.arrived ++ record { stream = stream; bytes = section; waits_for = None } ∷ [] }

-- the sections of other streams
abbrev pub of_other_streams : ℕ → List Arrived → List Arrived
of_other_streams stream arrived = filter (λ a. not (nat_eq a.stream stream)) arrived

abbrev pub without_stream : Observed → ℕ → Observed
without_stream o stream = record o { arrived = of_other_streams stream o.arrived }

-- what is shown: an encoder instruction that was applied, at the offset of its stream where it begins, with the field
-- that it inserts; one that the table refuses; bytes that are no instruction; a decoder instruction; one that the
-- sections and insertions before it refuse; bytes that are no instruction; a section of a stream, and whether it was
-- blocked before; one that is blocked until this many insertions; and one that would be, if the limit of blocked
-- streams permitted it (section 2.1.2)
pub data Shown : Type 0 where
  Applied : (offset : ℕ) (instruction : EncoderInstruction) (inserted : Option Field) → Shown
  NotApplied : (offset : ℕ) (instruction : EncoderInstruction) (refusal : TableRefusal) → Shown
  NoEncoderInstruction : (offset : ℕ) (fault : KindFault) → Shown
  Told : (offset : ℕ) (instruction : DecoderInstruction) → Shown
  NotTold : (offset : ℕ) (instruction : DecoderInstruction) (refusal : HearingRefusal) → Shown
  NoDecoderInstruction : (offset : ℕ) (fault : KindFault) → Shown
  Section : (stream : ℕ) (was_blocked : Bool) (reading : Reading) → Shown
  BlockedUntil : (stream required : ℕ) → Shown
  TooManyBlocked : (stream required : ℕ) → Shown

-- ---- sections

-- whether a section can be read now: it was not tried yet, or what it waits for has come
abbrev pub is_due : ℕ → Arrived → Bool
is_due inserted a = is_past a.waits_for
  where
    is_past : Option ℕ → Bool
    is_past None = true
    is_past (Some required) = nat_le required inserted

-- whether a section waits
abbrev pub is_waiting : Arrived → Bool
is_waiting a = is_some a.waits_for

-- whether a section waits on this stream
abbrev pub waits_on : ℕ → Arrived → Bool
waits_on stream a = nat_eq a.stream stream && is_some a.waits_for

-- how many streams have a section that waits
unfoldable pub blocked_streams : List Arrived → ℕ
blocked_streams [] = 0
blocked_streams (a ∷ more) =
    if is_waiting a && not (list_any (λ b. waits_on a.stream b) more) then suc (blocked_streams more)
    else blocked_streams more

-- whether a section of this stream may wait (section 2.1.2)
abbrev pub may_wait : ℕ → List Arrived → ℕ → Bool
may_wait limit arrived stream =
    list_any (λ a. waits_on stream a) arrived || nat_lt (blocked_streams arrived) limit

-- a section that was taken from this index waits there for this many insertions, if it may
abbrev pub blocked_at : Observed → ℕ → Arrived → ℕ → Shown × Observed
blocked_at o index a required =
    if may_wait o.limit o.arrived a.stream
    then (
      BlockedUntil a.stream required,
      record o {
        arrived = insert o.arrived index
            (record { stream = a.stream; bytes = a.bytes; waits_for = Some required });
      },
    )
    else (TooManyBlocked a.stream required, o)

-- the required insert count of a section, 0 if it has none
abbrev pub required_of : Reading → ℕ
required_of (Lines required base lines stop) = required
required_of (Blocked required) = required
required_of (Refused refusal) = 0

-- a section with a required insert count is to be acknowledged, from the moment on when it came
abbrev pub noted : Observed → Arrived → ℕ → Observed
noted o a required =
    if is_waiting a || nat_eq required 0 then o
    else record o { awaited = with_sent o.awaited a.stream required }

-- a section that was taken from this index, and read: it waits there, or it is shown
abbrev pub section_read : Observed → ℕ → Arrived → Reading → Shown × Observed
section_read o index a (Blocked required) = blocked_at o index a required
section_read o index a reading = (Section a.stream (is_waiting a) reading, o)

-- ---- instructions

-- a decoder instruction: what it makes of what is awaited, or why it is refused, which ends the stream
abbrev pub heard : Observed → ℕ → DecoderInstruction → Stream → Result Awaited HearingRefusal → Shown × Observed
heard o offset i s (Ok w) = (Told offset i, record o { awaited = w; decoder_stream = s })
heard o offset i s (Err refusal) = (NotTold offset i refusal, record o { decoder_stream = refused s })

-- what the next bytes of the decoder stream are
abbrev pub told : Observed → ℕ → Result (Option DecoderInstruction) KindFault × Stream → Option (Shown × Observed)
told o offset (Ok None, s) = None
told o offset (Ok (Some i), s) = Some (heard o offset i s (hear (insert_count o.table) o.awaited i))
told o offset (Err fault, s) = Some (NoDecoderInstruction offset fault, record o { decoder_stream = s })

abbrev pub next_told : Observed → Option (Shown × Observed)
next_told o = told o o.decoder_stream.taken (next_of decoder_instruction_at o.decoder_stream)

-- an encoder instruction: what a strict decoder makes of the table (section 3.2.2), or why it refuses it, which ends
-- the stream
abbrev pub applied : Observed → ℕ → EncoderInstruction → Stream → Result Table TableRefusal → Shown × Observed
applied o offset i s (Ok t) =
    (Applied offset i (field_to_insert o.table i), record o { table = t; encoder_stream = s })
applied o offset i s (Err refusal) =
    (NotApplied offset i refusal, record o { encoder_stream = refused s })

-- what the next bytes of the encoder stream are, or else those of the decoder stream
abbrev pub taken : Observed → ℕ → Result (Option EncoderInstruction) KindFault × Stream → Option (Shown × Observed)
taken o offset (Ok None, s) = next_told o
taken o offset (Ok (Some i), s) = Some (applied o offset i s (strict_apply o.table i))
taken o offset (Err fault, s) = Some (NoEncoderInstruction offset fault, record o { encoder_stream = s })

abbrev pub next_taken : Observed → Option (Shown × Observed)
next_taken o = taken o o.encoder_stream.taken (next_of encoder_instruction_at o.encoder_stream)

-- ---- the next thing

-- a section that was taken from this index, and read: it is noted, and then it waits there, or it is shown
abbrev pub section_tried : Observed → ℕ → Arrived → Reading → Shown × Observed
section_tried o index a reading = section_read (noted o a (required_of reading)) index a reading

-- the section at an index, if it is there
abbrev pub section_at : Observed → ℕ → Option Arrived → Option (Shown × Observed)
section_at o index None = None
section_at o index (Some a) =
    Some (section_tried (record o { arrived = remove o.arrived index }) index a (shown_section o.table a.bytes))

-- the first section that can be read now, or else the next instruction
abbrev pub next_by : Observed → Option ℕ → Option (Shown × Observed)
next_by o None = next_taken o
next_by o (Some index) = section_at o index (slice_get o.arrived index)

-- what is shown next, and what is left then; none if more has to come
unfoldable pub next_shown : Observed → Option (Shown × Observed)
next_shown o = next_by o (position (λ a. is_due (insert_count o.table) a) o.arrived)
