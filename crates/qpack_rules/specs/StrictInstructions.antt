-- What a strict end of a connection makes of an instruction: it refuses what a lawful peer never sends (RFC 9204,
-- sections 3.2.2 and 4.4).
use Rattle.std.specs.Prelude.{ℕ, Bool, true, false, if◌then◌else◌, ◌&&◌, nat_eq, nat_lt, ◌+◌, ◌-◌, List, [], ◌∷◌}
use Rattle.std.specs.Prelude.{Option}
use Rattle.std.specs.Prelude.{Result, Ok, Err, find}
use Rattle.std.specs.Option.{option_map, unwrap_or}
use Rattle.qpack_spec.specs.Bytes.{◌>>=◌}
use Rattle.qpack_spec.specs.Instruction.{EncoderInstruction, InsertStaticName, InsertDynamicName, InsertLiteralName}
use Rattle.qpack_spec.specs.Instruction.{DecoderInstruction, Acknowledgment, Cancellation, Increment}
use Rattle.qpack_spec.specs.Reading.{greatest_of}
use Rattle.qpack_spec.specs.Table.{Table, UnacknowledgedBlock, insert_count, with_increment, apply_encoder_instruction}
use Rattle.qpack_spec.specs.Table.{apply_decoder_instruction}
use Rattle.qpack_spec.specs.Window.{TableRefusal, DoesNotFit}

-- ---- the decoder

-- whether an instruction inserts a field that it spells (sections 4.3.2 and 4.3.3)
abbrev pub inserts : EncoderInstruction → Bool
inserts (InsertStaticName index value) = true
inserts (InsertDynamicName relative value) = true
inserts (InsertLiteralName name value) = true
inserts i = false

-- what a strict decoder makes of an instruction: at capacity 0 no insertion is lawful (section 3.2.2)
unfoldable pub strict_apply : Table → EncoderInstruction → Result Table TableRefusal
strict_apply t i = if nat_eq t.capacity 0 && inserts i then Err DoesNotFit else apply_encoder_instruction t i

-- ---- the encoder

-- why a strict encoder does not apply a decoder instruction: it is an increment of 0; it raises the known received
-- count above the insertions made (section 4.4.3); or no section of its stream waits for it (section 4.4.1)
pub data HearingRefusal : Type 0 where
  ZeroIncrement : HearingRefusal
  PastInsertions : (by : ℕ) → HearingRefusal
  UnknownStream : (stream : ℕ) → HearingRefusal

-- the table refuses an acknowledgment of this stream
abbrev pub or_unknown : {A : Type 0} → ℕ → Result A TableRefusal → Result A HearingRefusal
or_unknown stream (Ok x) = Ok x
or_unknown stream (Err refusal) = Err (UnknownStream stream)

-- the required insert count of an unacknowledged block
abbrev pub required_by : UnacknowledgedBlock → ℕ
required_by b = greatest_of b.entries

-- the required insert count of the oldest unacknowledged block of a stream
abbrev pub oldest_required : ℕ → List UnacknowledgedBlock → Option ℕ
oldest_required stream bs = option_map required_by (find (λ b. nat_eq b.stream stream) bs)

-- the known received count is the greater of what it was and this count
abbrev pub known_at_least : ℕ → Table → Table
known_at_least count t = with_increment t (count - t.known_received_count)

-- what a strict encoder makes of a decoder instruction: an acknowledgment also reports as received all that its section
-- required (section 2.1.4), and an increment is of 1 at least and of insertions that were made (section 4.4.3)
unfoldable pub strict_hear : Table → DecoderInstruction → Result Table HearingRefusal
strict_hear t (Acknowledgment stream) =
    or_unknown stream (apply_decoder_instruction t (Acknowledgment stream))
    >>= λ u. Ok (known_at_least (unwrap_or (oldest_required stream t.unacknowledged) 0) u)
strict_hear t (Cancellation stream) = or_unknown stream (apply_decoder_instruction t (Cancellation stream))
strict_hear t (Increment by) =
    if nat_eq by 0 then Err ZeroIncrement
    else if nat_lt (insert_count t) (t.known_received_count + by) then Err (PastInsertions by)
    else Ok (with_increment t by)

-- the table after some instructions
abbrev pub hear_in_turn : Table → List DecoderInstruction → Result Table HearingRefusal
hear_in_turn t [] = Ok t
hear_in_turn t (i ∷ is) = strict_hear t i >>= λ u. hear_in_turn u is
