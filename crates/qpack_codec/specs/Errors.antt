-- The errors of the encoder and the decoder, made of those of the layers below.
use Rattle.qpack_base.specs.declared.prefix_int.Error.{Error as IntegerError}
use Rattle.qpack_base.specs.declared.prefix_int.Error.TheVariants as integer
use Rattle.qpack_base.specs.declared.prefix_string.Error.{Error as StringError}
use Rattle.qpack_base.specs.declared.prefix_string.Error.TheVariants as string
use Rattle.qpack_base.specs.declared.static_.Error.{Error as StaticError}
use Rattle.qpack_base.specs.declared.static_.Error.TheVariants.{Unknown}
use Rattle.qpack_base.specs.declared.parse_error.ParseError.{ParseError}
use Rattle.qpack_base.specs.declared.parse_error.ParseError.TheVariants as parse
use Rattle.qpack_table.specs.declared.dynamic.Error.{Error as TableError}
use Rattle.qpack_table.specs.declared.dynamic.Error.TheVariants as table
use Rattle.qpack_codec.specs.declared.error.DecoderError.{DecoderError}
use Rattle.qpack_codec.specs.declared.error.DecoderError.TheVariants as decoder
use Rattle.qpack_codec.specs.declared.error.EncoderError.{EncoderError}
use Rattle.qpack_codec.specs.declared.error.EncoderError.TheVariants as encoder

-- ---- the decoder's; out of memory stays itself, whatever it was wrapped in

-- a line or a prefix that can't be read
abbrev pub decoder_error_of_parse : ParseError → DecoderError
decoder_error_of_parse (parse.Integer e) = decoder.InvalidInteger e
decoder_error_of_parse (parse.String string.Memory) = decoder.Memory
decoder_error_of_parse (parse.String e) = decoder.InvalidString e
decoder_error_of_parse (parse.InvalidPrefix bits) = decoder.UnknownPrefix bits
decoder_error_of_parse (parse.InvalidBase base) = decoder.BadBaseIndex base
decoder_error_of_parse parse.Memory = decoder.Memory

-- a refusal of the dynamic table
abbrev pub decoder_error_of_table : TableError → DecoderError
decoder_error_of_table table.Memory = decoder.Memory
decoder_error_of_table e = decoder.DynamicTable e

-- an index past the static table
abbrev pub decoder_error_of_static : StaticError → DecoderError
decoder_error_of_static (Unknown index) = decoder.InvalidStaticIndex index

-- an integer alone
abbrev pub decoder_error_of_integer : IntegerError → DecoderError
decoder_error_of_integer integer.UnexpectedEnd = decoder.UnexpectedEnd
decoder_error_of_integer e = decoder.InvalidInteger e

-- a string alone
abbrev pub decoder_error_of_string : StringError → DecoderError
decoder_error_of_string string.UnexpectedEnd = decoder.UnexpectedEnd
decoder_error_of_string string.Memory = decoder.Memory
decoder_error_of_string (string.HuffmanEncoding e) = decoder.Memory
decoder_error_of_string e = decoder.InvalidString e

-- ---- the encoder's; here too out of memory stays itself

-- a refusal of the dynamic table
abbrev pub encoder_error_of_table : TableError → EncoderError
encoder_error_of_table table.Memory = encoder.Memory
encoder_error_of_table e = encoder.Insertion e

-- a string
abbrev pub encoder_error_of_string : StringError → EncoderError
encoder_error_of_string string.Memory = encoder.Memory
encoder_error_of_string (string.HuffmanEncoding e) = encoder.Memory
encoder_error_of_string e = encoder.InvalidString e

-- an instruction of the decoder that can't be read; it has no base
abbrev pub encoder_error_of_parse : ParseError → EncoderError
encoder_error_of_parse (parse.Integer e) = encoder.InvalidInteger e
encoder_error_of_parse (parse.String e) = encoder_error_of_string e
encoder_error_of_parse (parse.InvalidPrefix bits) = encoder.UnknownDecoderInstruction bits
encoder_error_of_parse (parse.InvalidBase base) = encoder.InvalidInteger integer.Overflow
encoder_error_of_parse parse.Memory = encoder.Memory
