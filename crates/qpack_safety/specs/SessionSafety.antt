-- The session theorem, in four parts (RFC 9204, section 2): what holds of every session in bytes at every moment, after
-- any events with their outcomes, and of any event that comes next. An event that is refused memory is an event like
-- the others.
use Rattle.std.specs.Prelude.{◌≡◌, ℕ, ◌+◌, ◌<◌, ◌≤◌, ◌⊎◌, Bool, false, nat_lt, List, [], ◌∷◌}
use Rattle.std.specs.Prelude.{◌++◌, length, map, Some, Ok, slice_get}
use Rattle.qpack_spec.specs.Field.{Field, total_size}
use Rattle.qpack_spec.specs.Instruction.{EncoderInstruction, DecoderInstruction, SpellsEncoderInstruction}
use Rattle.qpack_spec.specs.Instruction.{SpellsDecoderInstruction, written_encoder_instructions}
use Rattle.qpack_spec.specs.Stream.{SpellsAll, Carries}
use Rattle.qpack_spec.specs.History.{History, initial_history, window_of, Leads}
use Rattle.qpack_spec.specs.Reading.{Fields, Missing, references_of, greatest_of}
use Rattle.qpack_spec.specs.BlockReading.{reading_of_bytes, meaning_over_all, written_block}
use Rattle.qpack_spec.specs.Table.{table_of, fields_in, window, insert_count, with_numbers, with_unacknowledged}
use Rattle.qpack_spec.specs.Table.{below_limit}
use Rattle.qpack_spec.specs.Rule.{rule, block_of}
use Rattle.qpack_rules.specs.Session.{KeptBlock, stream_at, Session, Event, Encode, Decode, ToDecoder, ToEncoder}
use Rattle.qpack_rules.specs.Session.{Outcome, Encoded, Decoded, MissingReferences, Delivered, Heard, Refused, NoMemory}
use Rattle.qpack_rules.specs.Session.{Skipped, StreamFault, initial_session, next_block, increment_sum, blocked_blocks}
use Rattle.qpack_rules.specs.Session.{unreadable_blocks, skip_reason, Step, Run}
use Rattle.qpack_spec.specs.Stateless.{saturated_size}
use Rattle.qpack_safety.specs.Headline.{AnsweredEncode, encodes_on, decodes_on, next_encode}

-- ---- (a) the run

-- what an encode that returned a required insert count did: the block that it kept is the written block of the rule, it
-- requires that count, which is the greatest index that its lines reference, and it ends where the encoder stream does,
-- which gained exactly the written instructions of the rule; the block is unacknowledged with what its lines reference
pub record WritesBlock (v : Session) (s : ℕ) (fields : List Field) (required : ℕ) (v' : Session) : Type 0 where
  pub block : KeptBlock
  pub kept : (stream_at v'.streams s).blocks ≡ (stream_at v.streams s).blocks ++ block ∷ []
  pub bytes_are : block.bytes ≡ written_block (block_of v.encoder (rule v.encoder fields))
  pub required_is : block.required ≡ required
  pub is_greatest : greatest_of (references_of (insert_count v.encoder) (rule v.encoder fields).lines) ≡ required
  pub handed_are : block.fields ≡ fields
  pub ends : block.end ≡ length v'.encoder_stream
  pub stream_gains : v'.encoder_stream ≡ v.encoder_stream
      ++ written_encoder_instructions (rule v.encoder fields).instructions
  pub keeps_references : v'.encoder.unacknowledged ≡ with_unacknowledged v.encoder.unacknowledged s
      (with_numbers [] (references_of (insert_count v.encoder) (rule v.encoder fields).lines))

-- lockstep: the bytes sent are instructions, of which the first are taken; what those make of an empty table is the
-- decoder's, and what all of them make of it the encoder's
pub record Lockstep (capacity maximum : ℕ) (v : Session) : Type 0 where
  pub taken : List EncoderInstruction
  pub in_flight : List EncoderInstruction
  pub received : History
  pub made : History
  pub carried : Carries EncoderInstruction SpellsEncoderInstruction v.encoder_stream v.encoder_stream_taken taken
      in_flight
  pub taken_lead : Leads (initial_history capacity maximum) taken received
  pub in_flight_lead : Leads received in_flight made
  pub decoder_is : v.decoder ≡ table_of (window_of received)
  pub encoder_is : window v.encoder ≡ window_of made

-- every insertion received is reported and heard, reported and under way as an increment, or not reported yet
pub record Accounts (v : Session) : Type 0 where
  pub taken : List DecoderInstruction
  pub in_flight : List DecoderInstruction
  pub carried : Carries DecoderInstruction SpellsDecoderInstruction v.decoder_stream v.decoder_stream_taken taken
      in_flight
  pub adds_up : v.encoder.known_received_count + increment_sum in_flight + v.unreported ≡ insert_count v.decoder

-- of both streams no more is taken than was delivered, and no more delivered than written
pub record IsOrdered (v : Session) : Type 0 where
  pub encoder_stream_taken : v.encoder_stream_taken ≤ v.encoder_stream_delivered
  pub encoder_stream_delivered : v.encoder_stream_delivered ≤ length v.encoder_stream
  pub decoder_stream_taken : v.decoder_stream_taken ≤ v.decoder_stream_delivered
  pub decoder_stream_delivered : v.decoder_stream_delivered ≤ length v.decoder_stream

-- one list begins with the other
abbrev pub Extends : {X : Type 0} → List X → List X → Type 0
Extends {X} xs ys = (more : List X) × (ys ≡ xs ++ more)

-- from one session to a later one: both streams and the blocks only grow, and nothing taken or delivered goes back
pub record Advances (v v' : Session) : Type 0 where
  pub encoder_stream : Extends v.encoder_stream v'.encoder_stream
  pub decoder_stream : Extends v.decoder_stream v'.decoder_stream
  pub encoder_stream_taken : v.encoder_stream_taken ≤ v'.encoder_stream_taken
  pub encoder_stream_delivered : v.encoder_stream_delivered ≤ v'.encoder_stream_delivered
  pub decoder_stream_taken : v.decoder_stream_taken ≤ v'.decoder_stream_taken
  pub decoder_stream_delivered : v.decoder_stream_delivered ≤ v'.decoder_stream_delivered
  pub blocks : (s : ℕ) → Extends (stream_at v.streams s).blocks (stream_at v'.streams s).blocks

-- (a) The outcomes and the state are a run of the session. Each block and the encoder stream are the rule's. Both
-- tables are those that the instructions make of an empty one, and within their capacity of the moment (section 3.2.2),
-- which never exceeds the maximum capacity agreed on (section 3.2.3). No more blocks are blocked than may be (section
-- 2.1.2): of those kept the ones that require more than the encoder knows to be received. The encoder compares their
-- number with its limit, and no more are unreadable at the decoder, which received what is known to be received.
pub record RunsByTheRule (capacity maximum limit : ℕ) (events : List (Event × Outcome)) (v : Session) : Type 0 where
  -- the events with their outcomes lead here
  pub run : Run (initial_session capacity maximum limit) events v
  -- what an encode returns next is its block's required insert count, and what it writes is the rule's
  pub writes : (s : ℕ) (fields : List Field) (required : ℕ) (v' : Session)
      → Step v (Encode s fields) (Encoded required) v'
      → WritesBlock v s fields required v'
  -- each table is what its instructions make of an empty one, and within its capacity; that is at most the maximum
  pub lockstep : Lockstep capacity maximum v
  pub encoder_capacity : v.encoder.capacity ≤ maximum
  pub decoder_capacity : v.decoder.capacity ≤ maximum
  pub encoder_fits : total_size (fields_in v.encoder.live) ≤ v.encoder.capacity
  pub decoder_fits : total_size (fields_in v.decoder.live) ≤ v.decoder.capacity
  -- the blocked blocks are within the limit; the encoder counts them so, and blocks one more only below the limit
  pub blocked : blocked_blocks v ≤ limit
  pub counts_blocked : length v.encoder.blocked ≡ blocked_blocks v
  pub limit_is : v.encoder.limit ≡ limit
  pub may_block_more : below_limit v.encoder ≡ nat_lt (blocked_blocks v) limit
  pub unreadable_within : unreadable_blocks v ≤ blocked_blocks v
  -- what the encoder knows to be received was received, and all else that was is accounted for
  pub received : v.encoder.known_received_count ≤ insert_count v.decoder
  pub accounts : Accounts v
  -- both streams are in order, and go only forward
  pub ordered : IsOrdered v
  pub advances : (e : Event) (o : Outcome) (v' : Session) → Step v e o v' → Advances v v'

-- ---- (b) no refusal

-- (b) No instruction is refused except for memory: whatever happens next, no event has a refusal of a stream as its
-- outcome. A delivery to the decoder returns how many insertions were received, or is refused memory; one to the
-- encoder is heard.
pub record RefusesNothing (v : Session) : Type 0 where
  pub no_refusal : (e : Event) (fault : StreamFault) (v' : Session) → Step v e (Refused fault) v' → ⊥
  pub delivers : (n : ℕ) (o : Outcome) (v' : Session) → Step v (ToDecoder n) o v'
      → (o ≡ Delivered (insert_count v'.decoder)) ⊎ (o ≡ NoMemory)
  pub hears : (n : ℕ) (o : Outcome) (v' : Session) → Step v (ToEncoder n) o v' → o ≡ Heard

-- ---- (c) the fields

-- an outcome with fields: those that were passed to the encode that wrote the stream's next block, the sum of their
-- sizes, which saturates at 2^64 - 1, and whether any entry is required
pub record AnswersFields (events : List (Event × Outcome)) (s : ℕ) (fields : List Field) (size : ℕ)
    (is_dynamic : Bool) : Type 0 where
  pub encode : AnsweredEncode
  pub is_next : next_encode s events ≡ Some encode
  pub fields_are : fields ≡ encode.fields
  pub size_is : size ≡ saturated_size (total_size encode.fields)
  pub dynamic_is : is_dynamic ≡ nat_lt 0 encode.required

-- what was passed to the encode that wrote a block, and what it returned
abbrev pub encode_behind : KeptBlock → AnsweredEncode
encode_behind b = record { fields = b.fields; required = b.required }

-- (c) A decode that returns fields returns exactly the fields that were passed to the encode that wrote its block, in
-- order, with the sum of their sizes, and whether any entry is required. The bytes of the next block are read so under
-- the decoder's table, once it received what the block requires. The lines of every block mean these fields over all
-- insertions ever made, those of the bytes sent.
pub record DecodesWhatWasHanded (capacity maximum : ℕ) (events : List (Event × Outcome)) (v : Session) : Type 0 where
  pub answers : (s : ℕ) (fields : List Field) (size : ℕ) (is_dynamic : Bool) (v' : Session)
      → Step v (Decode s) (Decoded fields size is_dynamic) v'
      → AnswersFields events s fields size is_dynamic
  -- the blocks of a stream are those of its encodes, and as many are decoded as decodes returned fields
  pub blocks_are : (s : ℕ) → map (λ b. encode_behind b) (stream_at v.streams s).blocks ≡ encodes_on s events
  pub decoded_are : (s : ℕ) → (stream_at v.streams s).decoded ≡ decodes_on s events
  -- the bytes of the next block, and the lines of every block
  pub reads : (s : ℕ) (b : KeptBlock) → (stream_at v.streams s).cancelled ≡ false → next_block v s ≡ Some b
      → b.required ≤ insert_count v.decoder
      → reading_of_bytes (window v.decoder) b.bytes ≡ Fields b.fields (nat_lt 0 b.required)
  pub meanings : (instructions : List EncoderInstruction) (all : History)
      → SpellsAll SpellsEncoderInstruction v.encoder_stream instructions
      → Leads (initial_history capacity maximum) instructions all
      → (s position : ℕ) (b : KeptBlock) → slice_get (stream_at v.streams s).blocks position ≡ Some b
      → meaning_over_all all b.bytes b.required ≡ Ok b.fields

-- ---- (d) the other outcomes

-- what a decode returns: it is skipped, as its event is outside a lawful session; out of memory; fields; or that its
-- block's required insert count is missing, which exceeds the insertions received
pub data DecodeAnswer (events : List (Event × Outcome)) (v : Session) (s : ℕ) (o : Outcome) : Type 0 where
  is_skipped : (reason : ℕ) → skip_reason v (Decode s) ≡ Some reason → o ≡ Skipped reason → DecodeAnswer events v s o
  wants_memory : o ≡ NoMemory → DecodeAnswer events v s o
  gives_fields : (fields : List Field) (size : ℕ) (is_dynamic : Bool) → o ≡ Decoded fields size is_dynamic
      → DecodeAnswer events v s o
  waits_for : (encode : AnsweredEncode) → next_encode s events ≡ Some encode → insert_count v.decoder < encode.required
      → o ≡ MissingReferences encode.required → DecodeAnswer events v s o

-- (d) The only other outcomes of a decode are out of memory, or that the required insert count of its block is missing
-- while that exceeds the insertions received; and never once the encoder bytes that were written by the block's end
-- were delivered by a delivery that succeeded, whatever happened since.
pub record WaitsOnlyForInsertions (events : List (Event × Outcome)) (v : Session) : Type 0 where
  pub answers : (s : ℕ) (o : Outcome) (v' : Session) → Step v (Decode s) o v' → DecodeAnswer events v s o
  -- once a delivery succeeds that reached the block's end, its decode never again returns that anything is missing
  pub never_again : (n received : ℕ) (delivered : Session) → Step v (ToDecoder n) (Delivered received) delivered
      → (later : List (Event × Outcome)) (u : Session) → Run delivered later u
      → (s : ℕ) (b : KeptBlock) → next_block u s ≡ Some b → b.end ≤ delivered.encoder_stream_delivered
      → (required : ℕ) (u' : Session) → Step u (Decode s) (MissingReferences required) u' → ⊥
  -- such a delivery applies the instructions of each block whose end it reached, and after those nothing is missing
  pub takes : (n received : ℕ) (v' : Session) → Step v (ToDecoder n) (Delivered received) v'
      → (s position : ℕ) (b : KeptBlock) → slice_get (stream_at v'.streams s).blocks position ≡ Some b
      → b.end ≤ v'.encoder_stream_delivered → b.end ≤ v'.encoder_stream_taken
  pub in_time : (s : ℕ) (b : KeptBlock) → (stream_at v.streams s).cancelled ≡ false → next_block v s ≡ Some b
      → b.end ≤ v.encoder_stream_taken
      → b.required ≤ insert_count v.decoder
  -- the bytes of the next block are read so under the decoder's table
  pub missing : (s : ℕ) (b : KeptBlock) → (stream_at v.streams s).cancelled ≡ false → next_block v s ≡ Some b
      → insert_count v.decoder < b.required
      → reading_of_bytes (window v.decoder) b.bytes ≡ Missing b.required

-- ---- the theorem

-- a session is safe: all four parts hold
pub record IsSafe (capacity maximum limit : ℕ) (events : List (Event × Outcome)) (v : Session) : Type 0 where
  pub follows : RunsByTheRule capacity maximum limit events v
  pub refuses : RefusesNothing v
  pub decodes : DecodesWhatWasHanded capacity maximum events v
  pub waits : WaitsOnlyForInsertions events v

-- for every capacity up to every maximum capacity, every limit and every list of events with their outcomes, events
-- refused for memory among them
abbrev pub SessionsAreSafe : Type 0
SessionsAreSafe =
    (capacity maximum limit : ℕ) → capacity ≤ maximum → (events : List (Event × Outcome)) (v : Session)
    → Run (initial_session capacity maximum limit) events v → IsSafe capacity maximum limit events v
