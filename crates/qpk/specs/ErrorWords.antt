-- The words of errors, as they are printed.
use Rattle.std.specs.Prelude.{◌≡◌, ℕ, List, ◌++◌, codes, Option, None, Some}
use Rattle.std.specs.Fmt.{decimal, signed_decimal}
use Rattle.qpack_base.specs.declared.prefix_int.Error.{Error as IntegerError}
use Rattle.qpack_base.specs.declared.prefix_int.Error.TheVariants as integer
use Rattle.qpack_base.specs.declared.prefix_string.Error.{Error as StringError}
use Rattle.qpack_base.specs.declared.prefix_string.Error.TheVariants as string
use Rattle.qpack_base.specs.declared.prefix_string.bitwin.BitWindow.{BitWindow}
use Rattle.qpack_base.specs.declared.prefix_string.decoding.HuffmanDecodingError.{HuffmanDecodingError}
use Rattle.qpack_base.specs.declared.prefix_string.decoding.HuffmanDecodingError.TheVariants.{MissingBits, Unhandled}
use Rattle.h3_qpack.below.qpack_table.specs.declared.dynamic.Error.{Error as TableError}
use Rattle.h3_qpack.below.qpack_table.specs.declared.dynamic.Error.TheVariants as table
use Rattle.h3_qpack.below.qpack_table.specs.declared.vas.Error.{Error as AddressError}
use Rattle.h3_qpack.below.qpack_table.specs.declared.vas.Error.TheVariants as address
use Rattle.qpack_codec.specs.declared.error.DecoderError.{DecoderError}
use Rattle.qpack_codec.specs.declared.error.DecoderError.TheVariants as decoder
use Rattle.qpack_codec.specs.declared.error.EncoderError.{EncoderError}
use Rattle.qpack_codec.specs.declared.error.EncoderError.TheVariants as encoder
use Rattle.qpk_qif.specs.declared.session.Fault.{Fault as RecordingFault}
use Rattle.qpk_qif.specs.declared.session.Fault.TheVariants as recording

-- the line of what is refused, in these words
abbrev pub refused_text : List ℕ → List ℕ
refused_text words = codes "refused " ++ words ++ codes "\n"

-- out of memory
abbrev pub memory_words : List ℕ
memory_words = codes "out of memory"

-- an integer that could not be read
abbrev pub integer_words : IntegerError → List ℕ
integer_words integer.Overflow = codes "value overflow"
integer_words integer.UnexpectedEnd = codes "unexpected end"

-- an integer that could not be read, by its name
abbrev pub integer_name : IntegerError → List ℕ
integer_name integer.Overflow = codes "Overflow"
integer_name integer.UnexpectedEnd = codes "UnexpectedEnd"

-- a position in a payload, and how many bits are meant
abbrev pub window_name : BitWindow → List ℕ
window_name w =
    codes "BitWindow { byte: " ++ decimal w.byte ++ codes ", bit: " ++ decimal w.bit ++ codes ", count: "
    ++ decimal w.count ++ codes " }"

-- a malformed Huffman coded payload
abbrev pub huffman_name : HuffmanDecodingError → List ℕ
huffman_name (MissingBits w) = codes "MissingBits(" ++ window_name w ++ codes ")"
huffman_name (Unhandled w code) = codes "Unhandled(" ++ window_name w ++ codes ", " ++ decimal code ++ codes ")"

-- a string that could not be read, by its name
abbrev pub string_name : StringError → List ℕ
string_name string.UnexpectedEnd = codes "UnexpectedEnd"
string_name (string.Integer e) = codes "Integer(" ++ integer_name e ++ codes ")"
string_name (string.HuffmanDecoding e) = codes "HuffmanDecoding(" ++ huffman_name e ++ codes ")"
string_name (string.HuffmanEncoding e) = codes "HuffmanEncoding(HuffmanEncodingError)"
string_name string.BufSize = codes "BufSize"
string_name string.Memory = codes "Memory"

-- a string that could not be read, in words
abbrev pub string_words : StringError → List ℕ
string_words string.UnexpectedEnd = codes "unexpected end"
string_words (string.Integer e) = codes "could not parse integer: " ++ integer_words e
string_words (string.HuffmanDecoding e) = codes "Huffman decode failed: " ++ huffman_name e
string_words (string.HuffmanEncoding e) = codes "Huffman encode failed: HuffmanEncodingError"
string_words string.BufSize = codes "number in buffer wrong size"
string_words string.Memory = memory_words

-- what the dynamic table refused, by its name
abbrev pub table_name : TableError → List ℕ
table_name (table.BadRelativeIndex index) = codes "BadRelativeIndex(" ++ decimal index ++ codes ")"
table_name (table.BadPostbaseIndex index) = codes "BadPostbaseIndex(" ++ decimal index ++ codes ")"
table_name (table.BadIndex position) = codes "BadIndex(" ++ decimal position ++ codes ")"
table_name table.MaxTableSizeReached = codes "MaxTableSizeReached"
table_name table.MaximumTableSizeTooLarge = codes "MaximumTableSizeTooLarge"
table_name table.MaxBlockedStreamsTooLarge = codes "MaxBlockedStreamsTooLarge"
table_name (table.UnknownStreamId stream) = codes "UnknownStreamId(" ++ decimal stream ++ codes ")"
table_name table.NoTrackingData = codes "NoTrackingData"
table_name table.InvalidTrackingCount = codes "InvalidTrackingCount"
table_name table.Memory = codes "Memory"

-- an index of no live entry, by the name of its kind
abbrev pub address_name : AddressError → List ℕ
address_name (address.RelativeIndex index) = codes "RelativeIndex(" ++ decimal index ++ codes ")"
address_name (address.PostbaseIndex index) = codes "PostbaseIndex(" ++ decimal index ++ codes ")"
address_name (address.Index position) = codes "Index(" ++ decimal position ++ codes ")"

-- why a block was not decoded, or an instruction of the encoder not applied
abbrev pub decoder_words : DecoderError → List ℕ
decoder_words (decoder.InvalidInteger e) = codes "invalid integer: " ++ integer_words e
decoder_words (decoder.InvalidString e) = codes "invalid string: " ++ string_name e
decoder_words (decoder.InvalidIndex e) = codes "invalid dynamic index: " ++ address_name e
decoder_words (decoder.DynamicTable e) = codes "dynamic table error: " ++ table_name e
decoder_words (decoder.InvalidStaticIndex index) = codes "unknown static index: " ++ decimal index
decoder_words (decoder.UnknownPrefix bits) = codes "unknown instruction code: 0x" ++ decimal bits
decoder_words (decoder.MissingRefs required) = codes "missing " ++ decimal required ++ codes " refs to decode bloc"
decoder_words (decoder.BadBaseIndex base) = codes "out of bounds base index: " ++ signed_decimal base
decoder_words decoder.UnexpectedEnd = codes "unexpected end"
decoder_words (decoder.HeaderTooLong size) = codes "header too long"
decoder_words decoder.BufSize = codes "number in buffer wrong size"
decoder_words decoder.Memory = memory_words

-- why fields were not encoded, a capacity not set, or an instruction of the decoder not applied
abbrev pub encoder_words : EncoderError → List ℕ
encoder_words (encoder.Insertion e) = codes "dynamic table insertion: " ++ table_name e
encoder_words (encoder.InvalidString e) = codes "could not parse string: " ++ string_words e
encoder_words (encoder.InvalidInteger e) = codes "could not parse integer: " ++ integer_words e
encoder_words (encoder.UnknownDecoderInstruction bits) = codes "got unkown decoder instruction: " ++ decimal bits
encoder_words encoder.Memory = memory_words

-- why header lists were not encoded to a recording, or a recording was not decoded
abbrev pub recording_words : RecordingFault → List ℕ
recording_words (recording.NoTab number) = codes "line " ++ decimal number ++ codes ": no tab"
recording_words (recording.TooLong number) = codes "list " ++ decimal number ++ codes ": too long for a record"
recording_words (recording.NotHeard number e) = codes "list " ++ decimal number ++ codes ": " ++ encoder_words e
recording_words (recording.Cut number) = codes "record " ++ decimal number ++ codes ": cut off"
recording_words (recording.Refused number e) = codes "record " ++ decimal number ++ codes ": " ++ decoder_words e
recording_words (recording.TooManyBlocked number) = codes "record " ++ decimal number ++ codes ": too many streams are blocked"
recording_words (recording.BlockedToTheEnd number) = codes "record " ++ decimal number ++ codes ": blocked to the end"
recording_words (recording.EndsWithin number) = codes "record " ++ decimal number ++ codes ": ends within an instruction"
recording_words recording.Capacity = codes "capacity too large"
recording_words recording.Limit = codes "limit of blocked streams too large"
recording_words recording.Memory = memory_words

-- ---- what their parts return

-- words, followed by a number and more words, if there is one
abbrev pub counted_words : List ℕ → Option ℕ → List ℕ → List ℕ
counted_words front None back = front
counted_words front (Some number) back = front ++ decimal number ++ back

-- the words of an error that contains no other error, nor a base
abbrev pub TellsAlone : DecoderError → List ℕ → Type 0
TellsAlone (decoder.InvalidInteger e) words = Unit {0}
TellsAlone (decoder.InvalidString e) words = Unit {0}
TellsAlone (decoder.InvalidIndex e) words = Unit {0}
TellsAlone (decoder.DynamicTable e) words = Unit {0}
TellsAlone (decoder.BadBaseIndex base) words = Unit {0}
TellsAlone e words = words ≡ decoder_words e
