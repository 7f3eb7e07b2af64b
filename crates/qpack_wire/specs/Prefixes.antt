-- The prefix of an encoded field section, as it is read and what it is read as (RFC 9204, section 4.5.1).
use Rattle.std.specs.Prelude.{ℕ, ◌⊎◌, List, Result, Ok, Err}
use Rattle.qpack_spec.specs.Form.{HoldsIndex, InTurn, RefusesIndex}
use Rattle.qpack_spec.specs.Prefix.{Prefix, PrefixFault, OutOfRange, BelowZero, prefix_at}
use Rattle.qpack_base.specs.declared.prefix_int.Error.TheVariants.{Overflow}
use Rattle.qpack_base.specs.declared.parse_error.ParseError.{ParseError}
use Rattle.qpack_base.specs.declared.parse_error.ParseError.TheVariants.{Integer, InvalidBase}
use Rattle.qpack_wire.specs.Alone.{KindFault, Unreadable, Foreign, or_unreadable}
use Rattle.qpack_wire.specs.declared.block.prefix.HeaderPrefix.{HeaderPrefix}

-- the prefix that a value of the code represents
abbrev pub prefix_of : HeaderPrefix → Prefix
prefix_of p = record { count = p.encoded_insert_count; sign = p.sign_negative; delta = p.delta_base }

-- the bytes are refused: the count is, or the delta after a whole count
abbrev pub RefusesPrefix : List ℕ → KindFault → Type 0
RefusesPrefix encoding (Unreadable fault) =
    RefusesIndex 8 encoding fault
    ⊎ InTurn (λ t. (count : ℕ) × HoldsIndex 8 count t) (λ t. RefusesIndex 7 t fault) encoding
RefusesPrefix encoding (Foreign bits) = ⊥

-- the prefix at the front of the bytes, and the bytes after it
abbrev pub read_prefix_at : List ℕ → Result (Prefix × List ℕ) KindFault
read_prefix_at bytes = or_unreadable (prefix_at bytes)

-- the error that reports a prefix out of range
abbrev pub error_of_prefix : PrefixFault → ParseError
error_of_prefix OutOfRange = Integer Overflow
error_of_prefix (BelowZero base) = InvalidBase base

-- what a prefix is read as, or why it is out of range
abbrev pub or_prefix_error : {A : Type 0} → Result A PrefixFault → Result A ParseError
or_prefix_error (Ok x) = Ok x
or_prefix_error (Err fault) = Err (error_of_prefix fault)
