-- An encoding end that is made before the settings of its peer come (RFC 9204, section 3.2.3).
use Rattle.std.specs.Prelude.{◌≡◌, ℕ, List, None, Ok}
use Rattle.qpack_encoding.specs.declared.encoder.EncoderSettings.{EncoderSettings}
use Rattle.qpack_encoding.specs.Encoders.{EncodingEnd, Starts, IsUnused, of_peer, TakesPeer}
use Rattle.qpack_connection.specs.LawfulDecoders.{Call, Run}

-- a new end is unused
abbrev pub NewEndsAreUnused : Type 0
NewEndsAreUnused = (settings : EncoderSettings) (d : EncodingEnd) → Starts settings d → IsUnused settings d

-- an end of maximum 0 is unused after any calls, unless an error ended the connection: it wrote nothing on the encoder
-- stream
abbrev pub EndsWithoutATableStayUnused : Type 0
EndsWithoutATableStayUnused =
    (settings : EncoderSettings) (calls : List Call) (first last : EncodingEnd) → settings.max_capacity ≡ 0
    → IsUnused settings first → Run calls first last → last.failure ≡ None → IsUnused settings last

-- an unused end of maximum 0 that takes the settings of its peer is unused with those
abbrev pub LateSettingsAreAsEarly : Type 0
LateSettingsAreAsEarly =
    (settings : EncoderSettings) (old new : EncodingEnd) (maximum blocked : ℕ) → settings.max_capacity ≡ 0
    → IsUnused settings old → TakesPeer old new maximum blocked (Ok tt)
    → IsUnused (of_peer maximum blocked settings) new
