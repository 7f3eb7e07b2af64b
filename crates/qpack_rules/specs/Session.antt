-- A session in bytes: two ends, the two streams between them, the blocks of each request stream, and what each event
-- makes of it (RFC 9204, section 2).
use Rattle.std.specs.Prelude.{◌≡◌, ◌<◌, ℕ, ◌+◌, ◌-◌, ◌^◌, ◌≤◌, ◌⊎◌, min, Bool, true, false, if◌then◌else◌, not, nat_lt}
use Rattle.std.specs.Prelude.{nat_le, nat_eq, List, [], ◌∷◌, ◌++◌, length, take, drop, Option, None, Some, slice_get}
use Rattle.std.specs.Prelude.{Result, Ok, Err, replicate, ◌/◌, ◌%◌, ◌&&◌}
use Rattle.std.specs.List.{AllByRecursion, filter}
use Rattle.qpack_spec.specs.Bytes.{Begins}
use Rattle.qpack_spec.specs.Field.{Field, total_size}
use Rattle.qpack_spec.specs.Form.{FormFault, Truncates}
use Rattle.qpack_spec.specs.Instruction.{EncoderInstruction, SetCapacity, DecoderInstruction, Acknowledgment}
use Rattle.qpack_spec.specs.Instruction.{Cancellation, Increment}
use Rattle.qpack_spec.specs.Instruction.{encoder_instruction_form, decoder_instruction_form, SpellsEncoderInstruction}
use Rattle.qpack_spec.specs.Instruction.{RefusesEncoderInstruction}
use Rattle.qpack_spec.specs.Instruction.{SpellsDecoderInstruction, RefusesDecoderInstruction}
use Rattle.qpack_spec.specs.Instruction.{written_encoder_instruction, written_encoder_instructions}
use Rattle.qpack_spec.specs.Instruction.{written_decoder_instruction, written_decoder_instructions}
use Rattle.qpack_spec.specs.Window.{TableRefusal, NoEntry, NoStaticField}
use Rattle.qpack_spec.specs.History.{initial_history, window_of}
use Rattle.qpack_spec.specs.Reading.{Fault, Reading, Fields, Missing, Faulty}
use Rattle.qpack_spec.specs.BlockReading.{reading_of_bytes, written_block}
use Rattle.qpack_spec.specs.Table.{Table, empty_table, table_of, window, insert_count, has_number, without_references}
use Rattle.qpack_spec.specs.Table.{apply_encoder_instruction, apply_decoder_instruction}
use Rattle.qpack_spec.specs.Table.{with_capacity}
use Rattle.qpack_spec.specs.Rule.{rule, required_insert_count, block_of, committed_table}
use Rattle.qpack_spec.specs.Stateless.{saturated_size}
use Rattle.qpack_spec.specs.WrittenLaws.{IsByteField}
use Rattle.qpack_rules.specs.Taking.{apply_in_turn, TakesAllOf}

-- a block: its bytes, the required insert count that the encoder returned, how long the encoder stream was at its end,
-- and the fields that were passed to the encoder
pub record KeptBlock : Type 0 where
  pub bytes : List ℕ
  pub required : ℕ
  pub end : ℕ
  pub fields : List Field

-- a request stream: its blocks, how many were decoded, how many of the dynamic ones acknowledged, whether it is
-- cancelled
pub record RequestStream (B : Type 0) : Type 0 where
  pub blocks : List B
  pub decoded : ℕ
  pub acknowledged : ℕ
  pub cancelled : Bool

-- a request stream with its blocks in bytes
abbrev pub KeptStream : Type 0
KeptStream = RequestStream KeptBlock

-- the two ends, the insertions that the decoder did not yet report, the encoder stream with how much of it was
-- delivered and taken, the decoder stream likewise, and the request streams
pub record Session : Type 0 where
  pub encoder : Table
  pub decoder : Table
  pub unreported : ℕ
  pub encoder_stream : List ℕ
  pub encoder_stream_delivered : ℕ
  pub encoder_stream_taken : ℕ
  pub decoder_stream : List ℕ
  pub decoder_stream_delivered : ℕ
  pub decoder_stream_taken : ℕ
  pub streams : List (ℕ × KeptStream)

-- what may happen (the session's surface): a block is written, decoded, this many bytes of a stream are delivered, a
-- block is acknowledged, a stream cancelled, a capacity set
pub data Event : Type 0 where
  Encode : (stream : ℕ) (fields : List Field) → Event
  Decode : (stream : ℕ) → Event
  ToDecoder : (bytes : ℕ) → Event
  ToEncoder : (bytes : ℕ) → Event
  Acknowledge : (stream : ℕ) → Event
  Cancel : (stream : ℕ) → Event
  ChangeCapacity : (capacity : ℕ) → Event

-- why a stream is refused: its bytes, or what an instruction asks of the table
pub data StreamFault : Type 0 where
  BadBytes : (fault : FormFault) → StreamFault
  BadInstruction : (refusal : TableRefusal) → StreamFault

-- the outcome of an event; any that takes memory may be refused it. An encode returns the required insert count of its
-- block; a decode the fields, the sum of their sizes and whether any entry is required, or how many insertions it waits
-- for, or a fault
pub data Outcome : Type 0 where
  Encoded : (required : ℕ) → Outcome
  Decoded : (fields : List Field) (size : ℕ) (is_dynamic : Bool) → Outcome
  MissingReferences : (required : ℕ) → Outcome
  BadBlock : (fault : Fault) → Outcome
  Delivered : (total : ℕ) → Outcome
  Heard : Outcome
  Acknowledged : Outcome
  Cancelled : Outcome
  CapacitySet : Outcome
  CapacityRefused : (refusal : TableRefusal) → Outcome
  Refused : (fault : StreamFault) → Outcome
  NoMemory : Outcome
  Skipped : (reason : ℕ) → Outcome

-- ---- what is kept

-- the stream of a number; the first pair of a number counts, and one that was never used is empty
abbrev pub stream_at : {B : Type 0} → List (ℕ × RequestStream B) → ℕ → RequestStream B
stream_at [] s = record { blocks = []; decoded = 0; acknowledged = 0; cancelled = false }
stream_at (p ∷ ps) s = if nat_eq p.0 s then p.1 else stream_at ps s

-- the streams with one changed
abbrev pub with_stream : {B : Type 0} → List (ℕ × RequestStream B) → ℕ → RequestStream B → List (ℕ × RequestStream B)
with_stream ps s k = (s, k) ∷ ps

-- the session with one stream changed
abbrev pub with_kept_stream : Session → ℕ → KeptStream → Session
with_kept_stream v s k = record v { streams = with_stream v.streams s k }

-- how a session begins: both tables empty and of this capacity, this maximum capacity agreed (sections 3.2.2 and
-- 3.2.3), and at most this many blocks may be blocked (section 2.1.2)
abbrev pub initial_session : ℕ → ℕ → ℕ → Session
initial_session capacity maximum limit =
    record {
      encoder = empty_table capacity (Some maximum) limit;
      decoder = table_of (window_of (initial_history capacity maximum));
      unreported = 0;
      encoder_stream = [];
      encoder_stream_delivered = 0;
      encoder_stream_taken = 0;
      decoder_stream = [];
      decoder_stream_delivered = 0;
      decoder_stream_taken = 0;
      streams = [];
    }

-- the greatest maximum capacity that a session begins with
abbrev pub greatest_maximum : ℕ
greatest_maximum = 2 ^ 30 - 1

-- the greatest limit of blocked blocks
abbrev pub greatest_limit : ℕ
greatest_limit = 65534

-- why a session doesn't begin: its capacity is above its maximum capacity (section 3.2.3), or that above the greatest
-- one; or its limit is above the greatest one
pub data StartRefusal : Type 0 where
  CapacityTooLarge : StartRefusal
  LimitTooLarge : StartRefusal

-- a session begins, unless its capacity, its maximum capacity or its limit is too great; the limit is tested last
abbrev pub begin_session : ℕ → ℕ → ℕ → Result Session StartRefusal
begin_session capacity maximum limit =
    if nat_le capacity maximum && nat_le maximum greatest_maximum
    then (if nat_le limit greatest_limit then Ok (initial_session capacity maximum limit) else Err LimitTooLarge)
    else Err CapacityTooLarge

-- the oldest undecoded block of a request stream
abbrev pub oldest_undecoded : {B : Type 0} → RequestStream B → Option B
oldest_undecoded k = slice_get k.blocks k.decoded

-- the oldest undecoded block of a stream
abbrev pub next_block : Session → ℕ → Option KeptBlock
next_block v s = oldest_undecoded (stream_at v.streams s)

-- a block requires an entry
abbrev pub requires_entry : KeptBlock → Bool
requires_entry b = not (nat_eq b.required 0)

-- a decoded block that requires an entry is to be acknowledged
abbrev pub awaits_acknowledgment : {B : Type 0} → (B → Bool) → RequestStream B → Bool
awaits_acknowledgment requires k = nat_lt k.acknowledged (length (filter requires (take k.decoded k.blocks)))

-- ---- what is blocked

-- how many blocks of a request stream require more insertions than this count
abbrev pub blocked_on : ℕ → KeptStream → ℕ
blocked_on known_received_count k = length (filter (λ b. nat_lt known_received_count b.required) k.blocks)

-- how many blocks of the streams do, each stream counted once: of the pairs of a number the first counts
abbrev pub blocked_among : ℕ → List ℕ → List (ℕ × KeptStream) → ℕ
blocked_among known_received_count counted [] = 0
blocked_among known_received_count counted (p ∷ ps) =
    if has_number p.0 counted then blocked_among known_received_count counted ps
    else blocked_on known_received_count p.1 + blocked_among known_received_count (p.0 ∷ counted) ps

-- the blocked blocks (section 2.1.2): those of all request streams, cancelled ones too, decoded or not, that require
-- more insertions than the encoder knows to be received
abbrev pub blocked_blocks : Session → ℕ
blocked_blocks v = blocked_among v.encoder.known_received_count [] v.streams

-- the blocks that require more insertions than the decoder received: those that it could not read yet
abbrev pub unreadable_blocks : Session → ℕ
unreadable_blocks v = blocked_among (insert_count v.decoder) [] v.streams

-- ---- what is skipped

-- the first reason why an event on a stream that is in use is outside a lawful session
abbrev pub unless_cancelled : KeptStream → Bool → ℕ → Option ℕ
unless_cancelled k lawful reason = if k.cancelled then Some 3 else if lawful then None else Some reason

-- the first reason why an event is outside a lawful session, in the order 1, 3, 2, 4: a stream number of 2^62 or more;
-- an event on a cancelled stream; nothing to decode; nothing to acknowledge
unfoldable pub skip_reason : Session → Event → Option ℕ
skip_reason v (Encode s fs) = if nat_le (2 ^ 62) s then Some 1 else None
skip_reason v (Decode s) =
    let k = stream_at v.streams s in
    if nat_le (2 ^ 62) s then Some 1 else unless_cancelled k (nat_lt k.decoded (length k.blocks)) 2
skip_reason v (ToDecoder n) = None
skip_reason v (ToEncoder n) = None
skip_reason v (Acknowledge s) =
    let k = stream_at v.streams s in if nat_le (2 ^ 62) s then Some 1 else unless_cancelled k
    (awaits_acknowledgment requires_entry k) 4
skip_reason v (Cancel s) = if nat_le (2 ^ 62) s then Some 1 else unless_cancelled (stream_at v.streams s) true 0
skip_reason v (ChangeCapacity n) = None

-- ---- what happens

-- the session with one more block
abbrev pub with_block : Session → ℕ → List Field → Session
with_block v s fs =
    let d = rule v.encoder fs in
    let k = stream_at v.streams s in
    let encoder_stream = v.encoder_stream ++ written_encoder_instructions d.instructions in
    let b : KeptBlock =
    record {
      bytes = written_block (block_of v.encoder d);
      required = required_insert_count d;
      end = length encoder_stream;
      fields = fs;
    } in
    record v {
      encoder = committed_table d s;
      encoder_stream = encoder_stream;
      streams = with_stream v.streams s (record k { blocks = k.blocks ++ b ∷ [] });
    }

-- the session after a block that was given up: its insertions stay and were written
abbrev pub after_refused_encode : Session → List Field → Session
after_refused_encode v fs =
    let d = rule v.encoder fs in
    record v {
      encoder = without_references d.table;
      encoder_stream = v.encoder_stream
          ++ written_encoder_instructions d.instructions;
    }

-- the session after a decoded block
abbrev pub with_decoded : Session → ℕ → Session
with_decoded v s = let k = stream_at v.streams s in with_kept_stream v s (record k { decoded = k.decoded + 1 })

-- the table after some instructions
abbrev pub apply_encoder_instructions : Table → List EncoderInstruction → Result Table TableRefusal
apply_encoder_instructions t is = apply_in_turn apply_encoder_instruction t is

-- the table after some decoder instructions
abbrev pub apply_decoder_instructions : Table → List DecoderInstruction → Result Table TableRefusal
apply_decoder_instructions t rs = apply_in_turn apply_decoder_instruction t rs

-- the sum of some numbers
abbrev pub sum_of : List ℕ → ℕ
sum_of [] = 0
sum_of (n ∷ ns) = n + sum_of ns

-- an increment for each piece
abbrev pub increments : List ℕ → List DecoderInstruction
increments [] = []
increments (n ∷ ns) = Increment n ∷ increments ns

-- the sum of the increments among decoder instructions
unfoldable pub increment_sum : List DecoderInstruction → ℕ
increment_sum [] = 0
increment_sum (Acknowledgment stream ∷ rs) = increment_sum rs
increment_sum (Cancellation stream ∷ rs) = increment_sum rs
increment_sum (Increment n ∷ rs) = n + increment_sum rs

-- an increment is from 1 to 64
abbrev pub IsPiece : ℕ → Type 0
IsPiece n = (1 ≤ n) × (n ≤ 64)

-- the pieces in which this many insertions are reported (section 4.4.3): as many of 64 as possible, and then the rest,
-- if there is one
unfoldable pub pieces_of : ℕ → List ℕ
pieces_of many = replicate (many / 64) 64 ++ (if nat_eq (many % 64) 0 then [] else many % 64 ∷ [])

-- a table's refusal that consumes its instruction: what it asks for is known, and only the table refuses it
abbrev pub is_consumed : TableRefusal → Bool
is_consumed (NoEntry relative) = false
is_consumed (NoStaticField index) = false
is_consumed refusal = true

-- the session when the next n bytes were delivered to the decoder, this many consumed, and this table made
abbrev pub with_decoder_moved : Session → ℕ → Table → ℕ → ℕ → List ℕ → Session
with_decoder_moved v n t consumed unreported decoder_stream =
    record v {
      decoder = t;
      unreported = unreported;
      encoder_stream_delivered = min (v.encoder_stream_delivered + n) (length v.encoder_stream);
      encoder_stream_taken = v.encoder_stream_taken + consumed;
      decoder_stream = decoder_stream;
    }

-- the insertions that are to be reported
abbrev pub unreported_after : Session → Table → ℕ
unreported_after v t = v.unreported + (insert_count t - insert_count v.decoder)

-- how a delivery to the decoder ends, after lines that it applied: nothing whole is left, and its insertions are
-- reported; memory is refused; the next bytes are refused; or the next instruction is. If any of these is refused, it
-- reports nothing
pub data EndsAtDecoder (v : Session) (n : ℕ) (t : Table) (front rest : List ℕ) (o : Outcome) (v' : Session) : Type 0
  where
    takes_all : Truncates encoder_instruction_form rest
        → o ≡ Delivered (insert_count t) → v' ≡ with_decoder_moved v n t (length front) 0
        (v.decoder_stream ++ written_decoder_instructions (increments (pieces_of (unreported_after v t))))
        → EndsAtDecoder v n t front rest o v'
    no_memory : o ≡ NoMemory → v' ≡ with_decoder_moved v n t (length front) (unreported_after v t) v.decoder_stream
        → EndsAtDecoder v n t front rest o v'
    bad_bytes : (fault : FormFault) → Begins (λ encoding. RefusesEncoderInstruction encoding fault) rest → o
        ≡ Refused (BadBytes fault)
        → v' ≡ with_decoder_moved v n t (length front) (unreported_after v t) v.decoder_stream
        → EndsAtDecoder v n t front rest o v'
    bad_instruction : (encoding more : List ℕ) (i : EncoderInstruction) (e : TableRefusal) → rest ≡ encoding ++ more
        → SpellsEncoderInstruction encoding i
        → apply_encoder_instruction t i ≡ Err e → o ≡ Refused (BadInstruction e)
        → v' ≡ with_decoder_moved v n t (length front + (if is_consumed e then length encoding else 0))
        (unreported_after v t) v.decoder_stream
        → EndsAtDecoder v n t front rest o v'

-- the next n bytes are delivered to the decoder, after those that it left; it applies instructions at their front
pub record DeliversToDecoder (v : Session) (n : ℕ) (o : Outcome) (v' : Session) : Type 0 where
  pub table : Table
  pub takes : TakesAllOf encoder_instruction_form apply_encoder_instruction v.decoder table
      (drop v.encoder_stream_taken (take (v.encoder_stream_delivered + n) v.encoder_stream))
      (λ front rest. EndsAtDecoder v n table front rest o v')

-- the session when the next n bytes were delivered to the encoder, this many consumed, and this table made
abbrev pub with_encoder_moved : Session → ℕ → Table → ℕ → Session
with_encoder_moved v n t consumed =
    record v {
      encoder = t;
      decoder_stream_delivered = min (v.decoder_stream_delivered + n) (length v.decoder_stream);
      decoder_stream_taken = v.decoder_stream_taken + consumed;
    }

-- how a delivery to the encoder ends; it takes no memory
pub data EndsAtEncoder (v : Session) (n : ℕ) (t : Table) (front rest : List ℕ) (o : Outcome)
    (v' : Session) : Type 0 where
  takes_all_at_encoder : Truncates decoder_instruction_form rest → o ≡ Heard → v'
      ≡ with_encoder_moved v n t (length front)
      → EndsAtEncoder v n t front rest o v'
  bad_bytes_at_encoder : (fault : FormFault) → Begins (λ encoding. RefusesDecoderInstruction encoding fault) rest → o
      ≡ Refused (BadBytes fault)
      → v' ≡ with_encoder_moved v n t (length front) → EndsAtEncoder v n t front rest o v'
  bad_decoder_instruction : (encoding more : List ℕ) (r : DecoderInstruction) (e : TableRefusal) → rest ≡ encoding
      ++ more → SpellsDecoderInstruction encoding r
      → apply_decoder_instruction t r ≡ Err e
      → o ≡ Refused (BadInstruction e) → v' ≡ with_encoder_moved v n t (length front + length encoding)
      → EndsAtEncoder v n t front rest o v'

-- the next n bytes are delivered to the encoder, after those that it left; it applies decoder instructions at their
-- front
pub record DeliversToEncoder (v : Session) (n : ℕ) (o : Outcome) (v' : Session) : Type 0 where
  pub table : Table
  pub takes : TakesAllOf decoder_instruction_form apply_decoder_instruction v.encoder table
      (drop v.decoder_stream_taken (take (v.decoder_stream_delivered + n) v.decoder_stream))
      (λ front rest. EndsAtEncoder v n table front rest o v')

-- an event refused for memory, if it leaves everything as it was
abbrev pub LeavesAll : Session → Outcome → Session → Type 0
LeavesAll v o v' = (o ≡ NoMemory) × (v' ≡ v)

-- a block was decoded
abbrev pub is_read : Option Reading → Bool
is_read (Some (Fields fs b)) = true
is_read read = false

-- the outcome of a decode for a reading; a sum of sizes saturates at 2^64 - 1
abbrev pub decode_outcome : Reading → Outcome
decode_outcome (Fields fs is_dynamic) = Decoded fs (saturated_size (total_size fs)) is_dynamic
decode_outcome (Missing required) = MissingReferences required
decode_outcome (Faulty fault) = BadBlock fault

-- the next block of a stream is read
pub record DecodesNext (v : Session) (s : ℕ) (o : Outcome) (v' : Session) : Type 0 where
  pub block : KeptBlock
  pub is_next : next_block v s ≡ Some block
  pub answers : o ≡ decode_outcome (reading_of_bytes (window v.decoder) block.bytes)
  pub moves : v' ≡ (if is_read (Some (reading_of_bytes (window v.decoder) block.bytes)) then with_decoded v s else v)

-- an encode that is refused memory after some of its fields
pub record GivesUp (v : Session) (fields : List Field) (o : Outcome) (v' : Session) : Type 0 where
  pub many : ℕ
  pub answers : o ≡ NoMemory
  pub leads : v' ≡ after_refused_encode v (take many fields)

-- the encoder sets a capacity, and writes it
pub record SetsCapacity (v : Session) (n : ℕ) (o : Outcome) (v' : Session) : Type 0 where
  pub table : Table
  pub is_set : with_capacity v.encoder n ≡ Ok table
  pub answers : o ≡ CapacitySet
  pub leads : v' ≡ record v {
    encoder = table;
    encoder_stream = v.encoder_stream
        ++ written_encoder_instruction (SetCapacity n);
  }

-- the encoder's table refuses a capacity
pub record RefusesCapacity (v : Session) (n : ℕ) (o : Outcome) (v' : Session) : Type 0 where
  pub refusal : TableRefusal
  pub is_refused : with_capacity v.encoder n ≡ Err refusal
  pub answers : o ≡ CapacityRefused refusal
  pub stays : v' ≡ v

-- the session after an acknowledgment of a block, which is written
abbrev pub with_acknowledged : Session → ℕ → Session
with_acknowledged v s =
    let k = stream_at v.streams s in
    record (with_kept_stream v s (record k { acknowledged = k.acknowledged + 1 })) {
      decoder_stream = v.decoder_stream ++ written_decoder_instruction (Acknowledgment s);
    }

-- the session after a cancellation of a stream, which is written
abbrev pub with_cancelled : Session → ℕ → Session
with_cancelled v s =
    let k = stream_at v.streams s in
    record (with_kept_stream v s (record k { cancelled = true })) {
      decoder_stream = v.decoder_stream
          ++ written_decoder_instruction (Cancellation s);
    }

-- what a lawful event does
unfoldable pub LawfulStep : Session → Event → Outcome → Session → Type 0
LawfulStep v (Encode s fs) o v' =
    ((o ≡ Encoded (required_insert_count (rule v.encoder fs))) × (v' ≡ with_block v s fs)) ⊎ GivesUp v fs o v'
    ⊎ LeavesAll v o v'
LawfulStep v (Decode s) o v' = DecodesNext v s o v' ⊎ LeavesAll v o v'
LawfulStep v (ToDecoder n) o v' = DeliversToDecoder v n o v'
LawfulStep v (ToEncoder n) o v' = DeliversToEncoder v n o v'
LawfulStep v (Acknowledge s) o v' = ((o ≡ Acknowledged) × (v' ≡ with_acknowledged v s)) ⊎ LeavesAll v o v'
LawfulStep v (Cancel s) o v' = ((o ≡ Cancelled) × (v' ≡ with_cancelled v s)) ⊎ LeavesAll v o v'
LawfulStep v (ChangeCapacity n) o v' = SetsCapacity v n o v' ⊎ RefusesCapacity v n o v' ⊎ LeavesAll v o v'

-- an event outside a lawful session changes nothing
pub record Skips (v : Session) (e : Event) (o : Outcome) (v' : Session) : Type 0 where
  pub reason : ℕ
  pub is_reason : skip_reason v e ≡ Some reason
  pub answers : o ≡ Skipped reason
  pub stays : v' ≡ v

-- an event, its outcome, and the session after it: skipped for the first reason that applies, or done
abbrev pub Step : Session → Event → Outcome → Session → Type 0
Step v e o v' = Skips v e o v' ⊎ ((skip_reason v e ≡ None) × LawfulStep v e o v')

-- names and values of an event's fields are bytes
abbrev pub IsByteEvent : Event → Type 0
IsByteEvent (Encode s fs) = AllByRecursion IsByteField fs
IsByteEvent e = Unit {0}

-- what is kept has fewer than 2^63 bytes, as every vector has: what was sent, and each block
pub record FitsMemory (v : Session) : Type 0 where
  pub encoder_stream_fits : length v.encoder_stream < 2 ^ 63
  pub blocks_fit : (s : ℕ) → AllByRecursion (λ b. length b.bytes < 2 ^ 63) (stream_at v.streams s).blocks

-- an event of a run: names and values are bytes, and what is kept after it fits memory
pub record Passes (v : Session) (e : Event) (o : Outcome) (v' : Session) : Type 0 where
  pub has_bytes : IsByteEvent e
  pub goes : Step v e o v'
  pub fits : FitsMemory v'

-- events in turn, each with its outcome, lead from a session to another
abbrev pub Run : Session → List (Event × Outcome) → Session → Type 0
Run v [] v' = v ≡ v'
Run v (p ∷ ps) v' = (next : Session) × Passes v p.0 p.1 next × Run next ps v'
