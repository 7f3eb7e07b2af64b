-- A session in bytes refines a session of values: what the proof of the session theorem keeps. No contract names it.
use Rattle.std.specs.Prelude.{◌≡◌, ℕ, ◌≤◌, List, [], ◌∷◌, ◌++◌, length}
use Rattle.qpack_spec.specs.Instruction.{EncoderInstruction, DecoderInstruction, SpellsEncoderInstruction}
use Rattle.qpack_spec.specs.Instruction.{SpellsDecoderInstruction}
use Rattle.qpack_spec.specs.Stream.{SpellsAll, Carries}
use Rattle.qpack_spec.specs.BlockReading.{written_block}
use Rattle.qpack_spec.specs.Table.{table_of}
use Rattle.qpack_safety.specs.AbstractSession.{AbstractBlock, required_count, AbstractStream, AbstractSession}
use Rattle.qpack_rules.specs.Session.{KeptBlock, KeptStream, stream_at, Session}
use Rattle.qpack_spec.specs.WrittenLaws.{IsWritableBlock}

-- two lists agree, element by element
abbrev pub Agrees : {X Y : Type 0} → (X → Y → Type 0) → List X → List Y → Type 0
Agrees P [] [] = Unit {0}
Agrees P [] (y ∷ ys) = ⊥
Agrees P (x ∷ xs) [] = ⊥
Agrees P (x ∷ xs) (y ∷ ys) = P x y × Agrees P xs ys

-- this many first instructions end at a position of the bytes sent
pub record EndsAt (encoder_stream : List ℕ) (instructions : List EncoderInstruction) (position many : ℕ) : Type 0 where
  pub front : List ℕ
  pub rest : List ℕ
  pub cut : encoder_stream ≡ front ++ rest
  pub position_is : length front ≡ position
  pub first : List EncoderInstruction
  pub others : List EncoderInstruction
  pub split : instructions ≡ first ++ others
  pub many_is : length first ≡ many
  pub joined : SpellsAll SpellsEncoderInstruction front first

-- a block in bytes is the written one
pub record RefinesBlock (encoder_stream : List ℕ) (instructions : List EncoderInstruction) (k : KeptBlock)
    (b : AbstractBlock) : Type 0
  where
    pub bytes_are : k.bytes ≡ written_block b.block
    pub writable : IsWritableBlock b.block
    pub required_is : k.required ≡ required_count b
    pub handed_are : k.fields ≡ b.fields
    pub ends : EndsAt encoder_stream instructions k.end b.end

-- a stream's blocks are those, as many of them are decoded and acknowledged, and it is cancelled if that one is
pub record RefinesStream (encoder_stream : List ℕ) (instructions : List EncoderInstruction) (k : KeptStream)
    (st : AbstractStream) :
    Type 0 where
  pub blocks_are : Agrees (RefinesBlock encoder_stream instructions) k.blocks st.blocks
  pub decoded_is : k.decoded ≡ st.decoded
  pub acknowledged_is : k.acknowledged ≡ st.acknowledged
  pub cancelled_is : k.cancelled ≡ st.cancelled

-- the session refines that of values: its tables are those, and its bytes are the instructions taken and under way
pub record Refines (v : Session) (w : AbstractSession) : Type 0 where
  pub encoder_is : v.encoder ≡ w.encoder
  pub decoder_is : v.decoder ≡ table_of w.decoder
  pub unreported_is : v.unreported ≡ w.unreported
  pub encoder_stream : Carries EncoderInstruction SpellsEncoderInstruction v.encoder_stream v.encoder_stream_taken
      w.taken w.in_flight
  pub encoder_stream_order : v.encoder_stream_taken ≤ v.encoder_stream_delivered
  pub decoder_taken : List DecoderInstruction
  pub decoder_stream : Carries DecoderInstruction SpellsDecoderInstruction v.decoder_stream v.decoder_stream_taken
      decoder_taken w.decoder_in_flight
  pub decoder_stream_order : v.decoder_stream_taken ≤ v.decoder_stream_delivered
  pub streams_are : (s : ℕ) → RefinesStream v.encoder_stream (w.taken ++ w.in_flight) (stream_at v.streams s)
      (stream_at w.streams s)
