-- What the two ends of a connection do to a session of values, and what holds of it at every moment (RFC 9204, section
-- 2): each end is strict, writes acknowledgments after the increments for all that it received, and knows marked
-- fields. No contract refers to it.
use Rattle.std.specs.Prelude.{◌≡◌, ℕ, ◌≤◌, not, if◌then◌else◌, List, [], ◌∷◌, Option, None, Some, Ok}
use Rattle.qpack_spec.specs.Chosen.{Chosen}
use Rattle.qpack_spec.specs.Field.{FieldLine}
use Rattle.qpack_spec.specs.Instruction.{EncoderInstruction, DecoderInstruction}
use Rattle.qpack_rules.specs.Session.{stream_at, oldest_undecoded, is_read, pieces_of}
use Rattle.qpack_rules.specs.StrictInstructions.{strict_apply, strict_hear}
use Rattle.qpack_spec.specs.Table.{Table, table_of, apply_encoder_instruction, apply_decoder_instruction}
use Rattle.qpack_safety.specs.AbstractSafety.{Safe}
use Rattle.qpack_safety.specs.AbstractSession.{AbstractBlock, is_dynamic, AbstractSession, SmallStep, abstract_start}
use Rattle.qpack_safety.specs.AbstractSession.{next_reading, after_steps}
use Rattle.qpack_safety.specs.AbstractSession as small

-- what an end does: the encoder writes a section under any choices, runs out of memory after some of its fields, writes
-- one that references no entry, or sets a capacity; the decoder applies an instruction, or reports what it received;
-- the encoder hears an instruction; the decoder decodes the next section of a stream, cancels a stream, or gives it up
-- and reports nothing
pub data EndStep : Type 0 where
  Encode : (stream : ℕ) (lines : List FieldLine) (choices : List Chosen) → EndStep
  Abandon : (lines : List FieldLine) (choices : List Chosen) → EndStep
  EncodeAlone : (stream : ℕ) (lines : List FieldLine) → EndStep
  Resize : (capacity : ℕ) → EndStep
  Take : EndStep
  Report : EndStep
  Hear : EndStep
  Decode : (stream : ℕ) → EndStep
  Cancel : (stream : ℕ) → EndStep
  Forget : (stream : ℕ) → EndStep

-- a section that can be read is decoded; if it requires an entry, what was received is reported first, and the section
-- acknowledged (sections 2.2.2.1 and 4.4.1)
abbrev pub decode_steps : AbstractSession → ℕ → Option AbstractBlock → List SmallStep
decode_steps w s None = []
decode_steps w s (Some b) =
    if not (is_read (next_reading w s)) then []
    else if is_dynamic b
    then small.Report (pieces_of w.unreported) ∷ small.Decode s ∷ small.Acknowledge s ∷ []
    else small.Decode s ∷ []

-- the small steps of what an end does
abbrev pub small_steps : AbstractSession → EndStep → List SmallStep
small_steps w (Encode s ls cs) = small.EncodeChosen s ls cs ∷ []
small_steps w (Abandon ls cs) = small.AbandonChosen ls cs ∷ []
small_steps w (EncodeAlone s ls) = small.EncodeAlone s ls ∷ []
small_steps w (Resize n) = small.Resize n ∷ []
small_steps w Take = small.Take ∷ []
small_steps w Report = small.Report (pieces_of w.unreported) ∷ []
small_steps w Hear = small.Hear ∷ []
small_steps w (Decode s) = decode_steps w s (oldest_undecoded (stream_at w.streams s))
small_steps w (Cancel s) = small.Cancel s ∷ []
small_steps w (Forget s) = small.Forget s ∷ []

-- the session after what an end does
abbrev pub after_end_step : AbstractSession → EndStep → AbstractSession
after_end_step w e = after_steps (small_steps w e) w

-- the session after all that the ends did
abbrev pub after_end_steps : List EndStep → AbstractSession → AbstractSession
after_end_steps [] w = w
after_end_steps (e ∷ es) w = after_end_steps es (after_end_step w e)

-- what is under way is lawful: a strict end makes of it what any end does, and refuses nothing
pub record StrictlySafe (w : AbstractSession) : Type 0 where
  pub takes : (i : EncoderInstruction) (rest : List EncoderInstruction) → w.in_flight ≡ i ∷ rest
      → strict_apply (table_of w.decoder) i ≡ apply_encoder_instruction (table_of w.decoder) i
  pub hears : (r : DecoderInstruction) (rest : List DecoderInstruction) → w.decoder_in_flight ≡ r ∷ rest
      → (u : Table) × (strict_hear w.encoder r ≡ Ok u) × (apply_decoder_instruction w.encoder r ≡ Ok u)

-- at every moment, whatever the ends did, from every capacity up to every maximum capacity on
abbrev pub StrictEndsAreSafe : Type 0
StrictEndsAreSafe =
    (capacity maximum limit : ℕ) → capacity ≤ maximum → (steps : List EndStep)
    → (let w = after_end_steps steps (abstract_start capacity maximum limit) in
    Safe capacity maximum limit w × StrictlySafe w)
