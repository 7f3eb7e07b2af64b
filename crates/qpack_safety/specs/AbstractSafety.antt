-- What holds of a session of values at every moment, after any steps (RFC 9204, section 2). No contract refers to it.
use Rattle.std.specs.Prelude.{ℕ, ◌<◌, ◌≤◌, ◌≡◌, false, nat_lt, List, ◌∷◌, length, Some, slice_get, IsOk}
use Rattle.qpack_spec.specs.Field.{total_size}
use Rattle.qpack_spec.specs.Instruction.{EncoderInstruction, DecoderInstruction}
use Rattle.qpack_spec.specs.Window.{window_insert_count, apply}
use Rattle.qpack_spec.specs.History.{History, initial_history, window_of, Leads}
use Rattle.qpack_spec.specs.Reading.{Fields, Missing, reading}
use Rattle.qpack_spec.specs.Table.{fields_in, window, apply_decoder_instruction}
use Rattle.qpack_rules.specs.Session.{stream_at}
use Rattle.qpack_safety.specs.AbstractSession.{AbstractBlock, required_count, AbstractSession}

-- what the decoder returns for a block
pub record DecodesExactly (w : AbstractSession) (b : AbstractBlock) : Type 0 where
  -- while it requires more insertions than were received, it waits, and returns how many it requires
  pub missing : window_insert_count w.decoder < required_count b → reading w.decoder b.block
      ≡ Missing (required_count b)
  -- after that it is read as exactly the fields that were passed to the encoder
  pub exact : required_count b ≤ window_insert_count w.decoder
      → reading w.decoder b.block ≡ Fields b.fields (nat_lt 0 (required_count b))
  -- it waits no longer than until the instructions that were written by its end are taken
  pub in_time : b.end ≤ length w.taken → required_count b ≤ window_insert_count w.decoder

-- what holds at every moment
pub record Safe (capacity maximum limit : ℕ) (w : AbstractSession) : Type 0 where
  -- the decoder refuses no instruction
  pub takes_next : (i : EncoderInstruction) (rest : List EncoderInstruction) → w.in_flight ≡ i ∷ rest
      → IsOk (apply w.decoder i)
  -- the encoder refuses no decoder instruction
  pub hears_next : (r : DecoderInstruction) (rest : List DecoderInstruction) → w.decoder_in_flight ≡ r ∷ rest
      → IsOk (apply_decoder_instruction w.encoder r)
  -- the next block of each stream that isn't cancelled is decoded exactly
  pub decodes : (s : ℕ) (b : AbstractBlock) → (stream_at w.streams s).cancelled ≡ false
      → slice_get (stream_at w.streams s).blocks (stream_at w.streams s).decoded ≡ Some b → DecodesExactly w b
  -- no more blocks are blocked than may be (section 2.1.2)
  pub blocked : length w.encoder.blocked ≤ limit
  -- what the encoder knows to be received was received
  pub received : w.encoder.known_received_count ≤ window_insert_count w.decoder
  -- each table is within its capacity of the moment (section 3.2.2)
  pub encoder_fits : total_size (fields_in w.encoder.live) ≤ w.encoder.capacity
  pub decoder_fits : total_size w.decoder.live ≤ w.decoder.capacity
  -- lockstep: both windows are what the instructions make of an empty table, the decoder's those that it took
  pub received_history : History
  pub made_history : History
  pub taken_lead : Leads (initial_history capacity maximum) w.taken received_history
  pub in_flight_lead : Leads received_history w.in_flight made_history
  pub decoder_is : w.decoder ≡ window_of received_history
  pub encoder_is : window w.encoder ≡ window_of made_history
