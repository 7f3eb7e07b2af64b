-- When an event of a session asks for memory.
use Rattle.std.specs.Prelude.{◌<◌, ℕ, ◌⊎◌, List, take, drop, Err, IsOk}
use Rattle.qpack_rules.specs.Session as spec
use Rattle.qpack_rules.specs.Session.{stream_at, oldest_undecoded}
use Rattle.qpack_spec.specs.Table.{with_capacity}
use Rattle.qpack_wire.specs.Memory.{AsksSectionForMemory}
use Rattle.qpack_codec.specs.Receiving.{AsksToTake}
use Rattle.h3_qpack.specs.Sessions.{SessionView, HasBytes}
use Rattle.qpack_codec.specs.declared.error.DecoderError.TheVariants as decoder
use Rattle.qpack_codec.specs.declared.error.EncoderError.TheVariants as encoder
use Rattle.h3_qpack.specs.declared.session.Outcome.{Outcome}
use Rattle.h3_qpack.specs.declared.session.Outcome.TheVariants as outcome

-- a decode may: in the stream's oldest undecoded block a prefix is followed by a whole line, or by a string whose
-- payload is not empty
pub record AsksToDecode (s : SessionView) (number : ℕ) : Type 0 where
  pub bytes : List ℕ
  pub is_next : HasBytes (oldest_undecoded (stream_at s.streams number)) bytes
  pub asks : AsksSectionForMemory bytes

-- a delivery to the decoder may, that leaves the session so: insertions are still to be reported, or the next of the
-- instructions that were delivered asks for memory
abbrev pub AsksAtDecoder : SessionView → Type 0
AsksAtDecoder s =
    (0 < s.decoder.unreported)
    ⊎ AsksToTake s.decoder.table (drop s.encoder_stream_taken (take s.encoder_stream_delivered s.encoder_stream))

-- out of memory is returned only if memory is asked for: by these two, by a capacity that the encoder's table takes,
-- never by a delivery to the encoder, and by any other event that is not skipped, since each of them writes bytes
abbrev pub IsAskedFor : SessionView → SessionView → spec.Event → Outcome → Type 0
IsAskedFor old new (spec.Decode number) (outcome.Decoded (Err decoder.Memory)) = AsksToDecode old number
IsAskedFor old new event (outcome.Delivered (Err decoder.Memory)) = AsksAtDecoder new
IsAskedFor old new event (outcome.Heard (Err encoder.Memory)) = ⊥
IsAskedFor old new (spec.ChangeCapacity capacity) (outcome.CapacitySet (Err encoder.Memory)) =
    IsOk (with_capacity old.encoder capacity)
IsAskedFor old new event result = Unit {0}
