-- A connection in bytes refines a session of values of two strict ends (RFC 9204, section 2).
use Rattle.std.specs.Prelude.{◌≡◌, ◌<◌, ◌≤◌, ◌^◌, ◌+◌, ℕ, List, [], ◌++◌, length, take, Some, Ok}
use Rattle.std.specs.List.{AllByRecursion}
use Rattle.qpack_spec.specs.Field.{FieldLine, fields_of_lines}
use Rattle.qpack_spec.specs.Instruction.{DecoderInstruction, SpellsEncoderInstruction, SpellsDecoderInstruction}
use Rattle.qpack_rules.specs.Session.{RequestStream, stream_at}
use Rattle.qpack_spec.specs.Stream.{SpellsAll}
use Rattle.qpack_spec.specs.Table.{empty_table, table_of, insert_count}
use Rattle.qpack_spec.specs.WrittenLaws.{IsByteField}
use Rattle.qpack_spec.specs.Text.{WhereShorter}
use Rattle.qpack_safety.specs.AbstractSession.{AbstractBlock, required_count, AbstractStream, AbstractSession}
use Rattle.qpack_safety.specs.AbstractSession.{abstract_start}
use Rattle.qpack_safety.specs.HandedSections.{IsBlockOf, section_of}
use Rattle.qpack_safety.specs.Refines.{Agrees}
use Rattle.qpack_safety.specs.TwoEnds.{EndStep, after_end_steps}
use Rattle.qpack_connection.specs.Connections.{Wire, SentSection, Connection, IsNew, EncodesOn, SetsCapacityOn}
use Rattle.qpack_connection.specs.Connections.{ShrinksOn, CancelsOn}
use Rattle.qpack_connection.specs.Thinned.{Thins}
use Rattle.qpack_encoding.specs.Encoders.{IsSound}
use Rattle.qpack_encoding.specs.Hearing as hearing
use Rattle.qpack_decoding.specs.Receiving as receiving

-- what came of a stream
abbrev pub received_of : Wire → List ℕ
received_of w = take w.received w.written

-- a section's bytes are those of its block, and so is its count; the block is of its fields, which are bytes, and it
-- takes fewer than 2^63
pub record RefinesSection (k : SentSection) (b : AbstractBlock) : Type 0 where
  pub bytes_are : k.bytes ≡ section_of WhereShorter k.fields b
  pub required_is : k.required ≡ required_count b
  pub block_is : IsBlockOf k.fields b
  pub are_bytes : AllByRecursion IsByteField (fields_of_lines k.fields)
  pub short : length k.bytes < 2 ^ 63

-- a request stream's sections are those, as many of them are decoded and acknowledged, and it is cancelled if that one
-- is
pub record RefinesStream (k : RequestStream SentSection) (st : AbstractStream) : Type 0 where
  pub sections : Agrees RefinesSection k.blocks st.blocks
  pub decoded_is : k.decoded ≡ st.decoded
  pub acknowledged_is : k.acknowledged ≡ st.acknowledged
  pub cancelled_is : k.cancelled ≡ st.cancelled

-- both tables are those of the session, all bytes are sent, and of both streams they are the instructions that were
-- taken and those under way, on the decoder stream without increments that an acknowledgment reports; the decoder received so much of its stream as the session's decoder took, and what it did
-- not report of it is what that one did not
pub record RefinesSession (maximum : ℕ) (c : Connection) (w : AbstractSession) : Type 0 where
  pub encoder_is : c.encoder.table ≡ w.encoder
  pub decoder_is : c.decoder.table ≡ table_of w.decoder
  pub reported_is : c.decoder.reported + w.unreported ≡ insert_count c.decoder.table
  pub encoder_sent : c.encoder.unsent ≡ []
  pub decoder_sent : c.decoder.unsent ≡ []
  pub encoder_stream : SpellsAll SpellsEncoderInstruction c.encoder_stream.written (w.taken ++ w.in_flight)
  pub encoder_stream_order : c.encoder_stream.received ≤ length c.encoder_stream.written
  pub received : receiving.Receives (empty_table 0 (Some maximum) 0) c.decoder.table (received_of c.encoder_stream)
      c.decoder.stream
  pub taken_are : received.0.lines ≡ w.taken
  pub heard : List DecoderInstruction
  pub under_way : List DecoderInstruction
  pub decoder_stream : SpellsAll SpellsDecoderInstruction c.decoder_stream.written (heard ++ under_way)
  pub thins : Thins w.encoder.known_received_count w.encoder.unacknowledged under_way w.decoder_in_flight
  pub decoder_stream_order : c.decoder_stream.received ≤ length c.decoder_stream.written
  pub hears : hearing.Receives heard (received_of c.decoder_stream) c.encoder.stream
  pub streams : (s : ℕ) → RefinesStream (stream_at c.streams s) (stream_at w.streams s)

-- a section that is encoded is one that the session writes, after the capacity that is announced with it; its fields are
-- bytes, and what was written of it and of the stream takes fewer than 2^63
abbrev pub EncodesAreRefined : Type 0
EncodesAreRefined =
    (maximum limit : ℕ) (c new : Connection) (steps : List EndStep) (s : ℕ) (fields : List FieldLine) (required : ℕ)
    → RefinesSession maximum c (after_end_steps steps (abstract_start 0 maximum limit)) → IsSound c.encoder
    → AllByRecursion IsByteField (fields_of_lines fields) → length new.encoder_stream.written < 2 ^ 63
    → (call : EncodesOn c new s fields (Ok required)) → length call.section < 2 ^ 63
    → (more : List EndStep)
    × RefinesSession maximum new (after_end_steps (steps ++ more) (abstract_start 0 maximum limit))

-- a new connection is the session at its beginning: capacity 0, and the maximum that was agreed on; the encoder's table
-- keeps at most 4,096 sections that may be blocked
abbrev pub NewConnectionsAreRefined : Type 0
NewConnectionsAreRefined =
    (c : Connection) (k : IsNew c)
    → RefinesSession k.encoder_settings.max_capacity c
    (abstract_start 0 k.encoder_settings.max_capacity 4096)

-- a capacity that is set is one that the session sets, or nothing is done
abbrev pub CapacitiesAreRefined : Type 0
CapacitiesAreRefined =
    (maximum limit : ℕ) (c new : Connection) (steps : List EndStep) (capacity : ℕ)
    → RefinesSession maximum c (after_end_steps steps (abstract_start 0 maximum limit))
    → SetsCapacityOn c new capacity (Ok tt)
    → (more : List EndStep)
    × RefinesSession maximum new (after_end_steps (steps ++ more) (abstract_start 0 maximum limit))

-- so is one that may wait, and while it waits nothing is done
abbrev pub ShrinksAreRefined : Type 0
ShrinksAreRefined =
    (maximum limit : ℕ) (c new : Connection) (steps : List EndStep) (capacity : ℕ)
    → RefinesSession maximum c (after_end_steps steps (abstract_start 0 maximum limit))
    → ShrinksOn c new capacity (Ok tt)
    → (more : List EndStep)
    × RefinesSession maximum new (after_end_steps (steps ++ more) (abstract_start 0 maximum limit))

-- a stream that is cancelled is one that the session cancels, or forgets if no cancellation is written
abbrev pub CancellationsAreRefined : Type 0
CancellationsAreRefined =
    (maximum limit : ℕ) (c new : Connection) (steps : List EndStep) (s : ℕ)
    → RefinesSession maximum c (after_end_steps steps (abstract_start 0 maximum limit))
    → CancelsOn c new s (Ok tt)
    → (more : List EndStep)
    × RefinesSession maximum new (after_end_steps (steps ++ more) (abstract_start 0 maximum limit))
