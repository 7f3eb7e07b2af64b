-- A connection in bytes: an encoding end and the decoding end of its peer, the two instruction streams between them,
-- and the sections of each request stream (RFC 9204, sections 2 and 4.2). A step is a call of an end, and what it makes
-- of that end is what the call's contract says.
use Rattle.std.specs.Prelude.{◌≡◌, ◌≤◌, ℕ, ⊤, ◌+◌, ◌-◌, nat_lt, true, false, if◌then◌else◌, List, [], ◌∷◌, ◌++◌}
use Rattle.std.specs.Prelude.{length, take, drop, None, Some, Result, Ok, Err}
use Rattle.std.specs.Option.{IfSome}
use Rattle.qpack_spec.specs.Field.{FieldLine}
use Rattle.qpack_spec.specs.Instruction.{DecoderInstruction}
use Rattle.qpack_rules.specs.Session.{RequestStream, stream_at, with_stream, oldest_undecoded}
use Rattle.qpack_spec.specs.StrictReading.{strict_reading}
use Rattle.qpack_spec.specs.Table.{Table, window}
use Rattle.qpack_decoding.specs.declared.decoder.DecoderSettings.{DecoderSettings}
use Rattle.qpack_decoding.specs.declared.decoder.DecodingError.{DecodingError}
use Rattle.qpack_decoding.specs.declared.decoder.DecodingError.TheVariants as decoding
use Rattle.qpack_encoding.specs.declared.encoder.EncoderSettings.{EncoderSettings}
use Rattle.qpack_encoding.specs.declared.encoder.EncodingError.{EncodingError}
use Rattle.qpack_decoding.specs.declared.section.Reading.{Reading}
use Rattle.qpack_decoding.specs.declared.section.Reading.TheVariants as reading
use Rattle.qpack_decoding.specs.Decoders.{DecodingEnd, Begins, IsTaken, Decodes, AsksToDecode, Cancels}
use Rattle.qpack_decoding.specs.Decoders as decoders
use Rattle.qpack_encoding.specs.Encoders.{EncodingEnd, Starts, SetsCapacity, Shrinks, Encodes}
use Rattle.qpack_encoding.specs.Encoders as encoders
use Rattle.qpack_encoding.specs.Hearing as hearing
use Rattle.qpack_decoding.specs.Receiving as receiving

-- ---- what there is

-- an instruction stream: all bytes that were written, and how many of them were received
pub record Wire : Type 0 where
  pub written : List ℕ
  pub received : ℕ

-- the bytes that come next, this many of them or all
abbrev pub next_of : ℕ → Wire → List ℕ
next_of many w = take many (drop w.received w.written)

-- the stream after more bytes that were written, or received
abbrev pub behind_written : List ℕ → Wire → Wire
behind_written more w = record w { written = w.written ++ more }

abbrev pub behind_received : ℕ → Wire → Wire
behind_received many w = record w { received = w.received + many }

-- a section that was written: the fields that were passed to its encode, its bytes, and its required insert count,
-- which was returned
pub record SentSection : Type 0 where
  pub fields : List FieldLine
  pub bytes : List ℕ
  pub required : ℕ

-- the two ends, whose bytes are sent after each call; the encoder stream and the decoder stream; and the request
-- streams
pub record Connection : Type 0 where
  pub encoder : EncodingEnd
  pub decoder : DecodingEnd
  pub encoder_stream : Wire
  pub decoder_stream : Wire
  pub streams : List (ℕ × RequestStream SentSection)

-- both ends were made with one maximum capacity, the encoding end permits no more blocked streams than the decoding end
-- does, and nothing has happened (sections 2.1.2 and 3.2.3)
pub record IsNew (c : Connection) : Type 0 where
  pub encoder_settings : EncoderSettings
  pub decoder_settings : DecoderSettings
  pub same_capacity : encoder_settings.max_capacity ≡ decoder_settings.max_capacity
  pub blocks_within : encoder_settings.max_blocked ≤ decoder_settings.max_blocked
  pub encoder : Starts encoder_settings c.encoder
  pub decoder : Begins decoder_settings c.decoder
  pub encoder_stream : c.encoder_stream ≡ record { written = []; received = 0 }
  pub decoder_stream : c.decoder_stream ≡ record { written = []; received = 0 }
  pub streams : c.streams ≡ []

-- the connection after a call of an end, of which all bytes are sent
abbrev pub with_encoder : EncodingEnd → Connection → Connection
with_encoder e c =
    record c {
      encoder = record e { unsent = [] };
      encoder_stream = behind_written e.unsent c.encoder_stream;
    }

abbrev pub with_decoder : DecodingEnd → Connection → Connection
with_decoder d c =
    record c {
      decoder = record d { unsent = [] };
      decoder_stream = behind_written d.unsent c.decoder_stream;
    }

-- ---- calls of the encoding end

-- the connection after a section that was encoded, if it was
abbrev pub with_section : ℕ → List FieldLine → List ℕ → Result ℕ EncodingError → Connection → Connection
with_section s fields section (Ok required) c =
    let st = stream_at c.streams s in
    record c {
      streams = with_stream c.streams s (record st {
        blocks = st.blocks ++ record { fields = fields; bytes = section; required = required } ∷ [];
      });
    }
with_section s fields section (Err e) c = c

-- a section is encoded
pub record EncodesOn (old new : Connection) (s : ℕ) (fields : List FieldLine) (answer : Result ℕ EncodingError) :
    Type 0 where
  pub encoder : EncodingEnd
  pub section : List ℕ
  pub call : Encodes old.encoder encoder s fields [] section answer
  pub new_is : new ≡ with_section s fields section answer (with_encoder encoder old)

-- a capacity is set
pub record SetsCapacityOn (old new : Connection) (capacity : ℕ) (answer : Result ⊤ EncodingError) : Type 0 where
  pub encoder : EncodingEnd
  pub call : SetsCapacity old.encoder encoder capacity answer
  pub new_is : new ≡ with_encoder encoder old

-- a capacity is set, or waits
pub record ShrinksOn (old new : Connection) (capacity : ℕ) (answer : Result ⊤ EncodingError) : Type 0 where
  pub encoder : EncodingEnd
  pub call : Shrinks old.encoder encoder capacity answer
  pub new_is : new ≡ with_encoder encoder old

-- the next bytes of the decoder stream are received, all but those that are left
pub record HearsOn (old new : Connection) (many : ℕ) (answer : Result ⊤ EncodingError) : Type 0 where
  pub encoder : EncodingEnd
  pub left : List ℕ
  pub receives : old.encoder.failure ≡ None → (heard : List DecoderInstruction) (before : List ℕ)
      → hearing.Receives heard before old.encoder.stream
      → encoders.ReceivesBytes heard before old.encoder encoder (next_of many old.decoder_stream) answer
  pub nothing_left : old.encoder.failure ≡ None → left ≡ []
  pub ended : IfSome old.encoder.failure
      (λ e. (answer ≡ Err e) × (encoder ≡ old.encoder) × (left ≡ next_of many old.decoder_stream))
  pub new_is : new ≡ record (with_encoder encoder old) {
    decoder_stream = behind_received (length (next_of many old.decoder_stream) - length left) old.decoder_stream;
  }

-- the decoder stream is taken from the decoding end, and sent; and the next bytes of it are received
pub record TakesAndHears (old new : Connection) (many : ℕ) (answer : Result ⊤ EncodingError) : Type 0 where
  pub decoder : DecodingEnd
  pub takes : IsTaken old.decoder decoder
  pub hears : HearsOn (with_decoder decoder old) new many answer

-- ---- calls of the decoding end

-- the next bytes of the encoder stream are received, all but those that are left
pub record ReceivesOn (old new : Connection) (many : ℕ) (answer : Result ℕ DecodingError) : Type 0 where
  pub decoder : DecodingEnd
  pub left : List ℕ
  pub receives : old.decoder.failure ≡ None → (start : Table) (before : List ℕ)
      → receiving.Receives start old.decoder.table before old.decoder.stream
      → decoders.ReceivesBytes start before old.decoder decoder (next_of many old.encoder_stream) left answer
  pub ended : IfSome old.decoder.failure
      (λ e. (answer ≡ Err e) × (decoder ≡ old.decoder) × (left ≡ next_of many old.encoder_stream))
  pub new_is : new ≡ record (with_decoder decoder old) {
    encoder_stream = behind_received (length (next_of many old.encoder_stream) - length left) old.encoder_stream;
  }

-- the connection after the oldest section of a stream that was not decoded, if it is now; one that requires insertions
-- is acknowledged (section 4.4.1)
abbrev pub with_reading : ℕ → Result Reading DecodingError → Connection → Connection
with_reading s (Ok (reading.Fields required)) c =
    let st = stream_at c.streams s in
    record c {
      streams = with_stream c.streams s (record st {
        decoded = st.decoded + 1;
        acknowledged = st.acknowledged + (if nat_lt 0 required then 1 else 0);
      });
    }
with_reading s (Ok (reading.Blocked required)) c = c
with_reading s (Err e) c = c

-- the oldest section of a stream that was not decoded is passed to the decoder, if the stream isn't cancelled
pub record DecodesOn (old new : Connection) (s : ℕ) (fields : List FieldLine) (answer : Result Reading DecodingError) :
    Type 0 where
  pub live : (stream_at old.streams s).cancelled ≡ false
  pub section : SentSection
  pub is_next : oldest_undecoded (stream_at old.streams s) ≡ Some section
  pub decoder : DecodingEnd
  pub call : Decodes old.decoder decoder s
      (strict_reading (window old.decoder.table) old.decoder.settings.max_section_size section.bytes) fields answer
  pub memory : answer ≡ Err decoding.Memory → AsksToDecode old.decoder s section.bytes
  pub new_is : new ≡ with_reading s answer (with_decoder decoder old)

-- the connection after a stream that was cancelled, if it was
abbrev pub with_cancelled : ℕ → Result ⊤ DecodingError → Connection → Connection
with_cancelled s (Ok done) c =
    record c { streams = with_stream c.streams s (record (stream_at c.streams s) { cancelled = true }) }
with_cancelled s (Err e) c = c

-- a stream is cancelled that isn't yet (section 4.4.2)
pub record CancelsOn (old new : Connection) (s : ℕ) (answer : Result ⊤ DecodingError) : Type 0 where
  pub live : (stream_at old.streams s).cancelled ≡ false
  pub decoder : DecodingEnd
  pub call : Cancels old.decoder decoder s answer
  pub new_is : new ≡ with_cancelled s answer (with_decoder decoder old)

-- ---- steps

-- a call of one of the ends, and its result
pub data Call : Type 0 where
  Encode : (stream : ℕ) (fields : List FieldLine) (answer : Result ℕ EncodingError) → Call
  SetCapacity : (capacity : ℕ) (answer : Result ⊤ EncodingError) → Call
  Shrink : (capacity : ℕ) (answer : Result ⊤ EncodingError) → Call
  Hear : (bytes : ℕ) (answer : Result ⊤ EncodingError) → Call
  Receive : (bytes : ℕ) (answer : Result ℕ DecodingError) → Call
  Decode : (stream : ℕ) (fields : List FieldLine) (answer : Result Reading DecodingError) → Call
  Cancel : (stream : ℕ) (answer : Result ⊤ DecodingError) → Call

-- what a call makes of the connection
abbrev pub Step : Call → Connection → Connection → Type 0
Step (Encode s fields answer) old new = EncodesOn old new s fields answer
Step (SetCapacity capacity answer) old new = SetsCapacityOn old new capacity answer
Step (Shrink capacity answer) old new = ShrinksOn old new capacity answer
Step (Hear many answer) old new = TakesAndHears old new many answer
Step (Receive many answer) old new = ReceivesOn old new many answer
Step (Decode s fields answer) old new = DecodesOn old new s fields answer
Step (Cancel s answer) old new = CancelsOn old new s answer

-- what calls in turn make of it
abbrev pub Run : List Call → Connection → Connection → Type 0
Run [] old new = new ≡ old
Run (call ∷ calls) old new = (now : Connection) × Step call old now × Run calls now new
