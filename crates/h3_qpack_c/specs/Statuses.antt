-- What calls return in C: 0, a number below it if the connection goes on after the error, and the code that ends the
-- connection above it (RFC 9204, section 6, and RFC 9114, section 8.1).
use Rattle.std.specs.Prelude.{ℤ, pos, negsuc, Result, Ok, Err, ⊤}
use Rattle.qpack_encoding.specs.declared.encoder.EncodingError.{EncodingError}
use Rattle.qpack_encoding.specs.declared.encoder.EncodingError.TheVariants.{DecoderStream, CapacityTooLarge}
use Rattle.qpack_encoding.specs.declared.encoder.EncodingError.TheVariants as encoding
use Rattle.qpack_decoding.specs.declared.decoder.DecodingError.{DecodingError}
use Rattle.qpack_decoding.specs.declared.decoder.DecodingError.TheVariants as decoding
use Rattle.qpack_decoding.specs.declared.section.SectionError.{SectionError}
use Rattle.qpack_decoding.specs.declared.section.SectionError.TheVariants as section
use Rattle.qpack_decoding.specs.declared.section.LineError.{LineError}
use Rattle.qpack_decoding.specs.declared.section.LineError.TheVariants as line

-- done
abbrev pub done : ℤ
done = pos 0

-- no memory was left
abbrev pub no_memory : ℤ
no_memory = negsuc 0

-- the caller's memory is too small
abbrev pub no_room : ℤ
no_room = negsuc 1

-- the section waits for insertions
abbrev pub blocked : ℤ
blocked = negsuc 2

-- an argument is out of its range
abbrev pub invalid : ℤ
invalid = negsuc 3

-- the sizes of the section's fields sum to more than the limit
abbrev pub too_large : ℤ
too_large = negsuc 4

-- the capacity would evict entries that may still be referenced
abbrev pub held : ℤ
held = negsuc 5

-- of a section that comes in pieces: its next field, its end, and its prefix, after which the call is made again
abbrev pub gives_field : ℤ
gives_field = negsuc 7

abbrev pub ends : ℤ
ends = negsuc 8

abbrev pub begins : ℤ
begins = negsuc 9

-- the status of an error of an encoding end
abbrev pub of_encoding : EncodingError → ℤ
of_encoding (DecoderStream e) = pos 0x202
of_encoding CapacityTooLarge = invalid
of_encoding encoding.EntriesHeld = held
of_encoding (encoding.NoStream stream) = invalid
of_encoding encoding.MaximumChanged = pos 0x202
of_encoding encoding.LimitLowered = pos 0x109
of_encoding encoding.MaximumTooLarge = invalid
of_encoding encoding.Memory = no_memory

-- the status of an error of a line
abbrev pub of_line : LineError → ℤ
of_line (line.Meaningless e) = pos 0x200
of_line (line.PastRequired index) = pos 0x200
of_line (line.TooLarge sum) = too_large
of_line line.Memory = no_memory

-- the status of an error of a section
abbrev pub of_section : SectionError → ℤ
of_section section.TooLong = too_large
of_section (section.Prefix e) = pos 0x200
of_section section.CountAtZero = pos 0x200
of_section (section.Line number offset e) = of_line e
of_section section.Memory = no_memory

-- the status of an error of a decoding end
abbrev pub of_decoding : DecodingError → ℤ
of_decoding (decoding.EncoderStream place e) = pos 0x201
of_decoding (decoding.Section stream e) = of_section e
of_decoding (decoding.TooManyBlocked stream) = pos 0x200
of_decoding (decoding.NoStream stream) = invalid
of_decoding decoding.Memory = no_memory

-- the status of a call of an encoding end that returns nothing else
abbrev pub of_encoding_call : Result ⊤ EncodingError → ℤ
of_encoding_call (Ok _) = done
of_encoding_call (Err e) = of_encoding e

-- the status of a call of a decoding end that returns nothing else
abbrev pub of_decoding_call : Result ⊤ DecodingError → ℤ
of_decoding_call (Ok _) = done
of_decoding_call (Err e) = of_decoding e
