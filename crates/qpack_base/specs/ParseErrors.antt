-- The errors of lines, prefixes and instructions, made of those of their parts.
use Rattle.qpack_base.specs.declared.prefix_string.Error.{Error}
use Rattle.qpack_base.specs.declared.prefix_string.Error.TheVariants.{Memory, HuffmanEncoding}
use Rattle.qpack_base.specs.declared.parse_error.ParseError.{ParseError}
use Rattle.qpack_base.specs.declared.parse_error.ParseError.TheVariants as parse

-- the error of a line for one of a string; out of memory stays itself, whatever it was wrapped in
abbrev pub error_of_string : Error → ParseError
error_of_string Memory = parse.Memory
error_of_string (HuffmanEncoding e) = parse.Memory
error_of_string e = parse.String e
