-- Worked rows of field sections that reference no entry, and of what a session skips, computed by the definitions.
use Rattle.std.proofs.Common.{ℕ, ◌^◌, ◌≡◌, true, false, List, [], ◌∷◌, None, Some, Ok, Err, refl}
use Rattle.std.specs.Prelude.{codes}
use Rattle.qpack_spec.specs.Integer.{UnexpectedEnd}
use Rattle.qpack_spec.specs.Text.{EndsEarly, LengthOverflows}
use Rattle.qpack_spec.specs.Field.{Field}
use Rattle.qpack_spec.specs.StaticTable.{field}
use Rattle.qpack_spec.specs.Form.{BadInteger, BadString}
use Rattle.qpack_spec.specs.Window.{NoEntry, NoStaticField, DoesNotFit, AboveMaximum, UnknownStream}
use Rattle.qpack_spec.specs.Reading.{BadForm, NotStatic}
use Rattle.qpack_spec.specs.BlockReading.{written_block}
use Rattle.qpack_rules.specs.Session.{Encode, Decode, Acknowledge, Cancel, Session, initial_session, with_block}
use Rattle.qpack_rules.specs.Session.{with_decoded, with_kept_stream, stream_at, skip_reason, is_consumed}
use Rattle.qpack_spec.specs.Stateless.{stateless_block, BadSection, NamesEntry, TooLong, stateless_at}
use Rattle.qpack_spec.specs.Stateless.{stateless_reading}
use Rattle.qpack_spec.proofs.Computing.{computed}

alone : List Field → List ℕ
alone fs = written_block (stateless_block fs)

-- sessions: a block on stream 4; the same decoded, where its insertion was taken; acknowledged; cancelled
one_block : Session
one_block = with_block (initial_session 4096 4096 1) 4 (field (codes "foo") (codes "bar") ∷ [])

decoded_block : Session
decoded_block = with_decoded one_block 4

acknowledged_block : Session
acknowledged_block = with_kept_stream decoded_block 4 (record (stream_at decoded_block.streams 4) { acknowledged = 1 })

cancelled_stream : Session
cancelled_stream = with_kept_stream one_block 4 (record (stream_at one_block.streams 4) { cancelled = true })

-- all that has to unfold
rows : ℕ
unfolding computed alone one_block decoded_block acknowledged_block cancelled_stream stateless_at stateless_reading
    skip_reason
rows = 0

-- no fields
no_fields : (alone ([])) ≡ 0 ∷ 0 ∷ []
unfolding rows
no_fields = refl

-- :method GET
method_get : (alone ((field (codes ":method") (codes "GET")) ∷ [])) ≡ 0 ∷ 0 ∷ 209 ∷ []
unfolding rows
method_get = refl

-- age 1
age_1 : (alone ((field (codes "age") (codes "1")) ∷ [])) ≡ 0 ∷ 0 ∷ 82 ∷ 129 ∷ 15 ∷ []
unfolding rows
age_1 = refl

-- :status 201
status_201 : (alone ((field (codes ":status") (codes "201")) ∷ [])) ≡ 0 ∷ 0 ∷ 95 ∷ 9 ∷ 130 ∷ 16 ∷ 3 ∷ []
unfolding rows
status_201 = refl

-- a literal
foo_bar : (alone ((field (codes "foo") (codes "bar")) ∷ [])) ≡ 0 ∷ 0 ∷ 42 ∷ 148 ∷ 231 ∷ 131 ∷ 140 ∷ 118 ∷ 127 ∷ []
unfolding rows
foo_bar = refl

-- no lines
read_nothing : (stateless_reading 0 (5 ∷ 0 ∷ [])) ≡ Ok []
unfolding rows
read_nothing = refl

-- whatever the prefix says: a count, a delta
read_any_prefix : (stateless_reading 42 (3 ∷ 5 ∷ 209 ∷ [])) ≡ Ok ((field (codes ":method") (codes "GET")) ∷ [])
unfolding rows
read_any_prefix = refl

-- or the sign bit
read_sign : (stateless_reading 42 (0 ∷ 128 ∷ 209 ∷ [])) ≡ Ok ((field (codes ":method") (codes "GET")) ∷ [])
unfolding rows
read_sign = refl

-- no bytes
read_no_bytes : (stateless_reading 9 ([])) ≡ Err (BadSection (BadForm (BadInteger UnexpectedEnd)))
unfolding rows
read_no_bytes = refl

-- half a prefix
read_half_prefix : (stateless_reading 9 (0 ∷ [])) ≡ Err (BadSection (BadForm (BadInteger UnexpectedEnd)))
unfolding rows
read_half_prefix = refl

-- a post-base line, by its first byte
post_base : (stateless_reading 9 (0 ∷ 0 ∷ 16 ∷ [])) ≡ Err NamesEntry
unfolding rows
post_base = refl

-- a dynamic line
dynamic : (stateless_reading 9 (0 ∷ 0 ∷ 128 ∷ [])) ≡ Err NamesEntry
unfolding rows
dynamic = refl

-- which is read first
cut_dynamic : (stateless_reading 9 (0 ∷ 0 ∷ 191 ∷ [])) ≡ Err (BadSection (BadForm (BadInteger UnexpectedEnd)))
unfolding rows
cut_dynamic = refl

-- no static field 99
no_static : (stateless_reading 9 (0 ∷ 0 ∷ 255 ∷ 36 ∷ [])) ≡ Err (BadSection (NotStatic 99))
unfolding rows
no_static = refl

-- a name that is cut
cut_name : (stateless_reading 9 (0 ∷ 0 ∷ 39 ∷ 255 ∷ 255 ∷ 255 ∷ 255 ∷ 255 ∷ 255 ∷ 255 ∷ 255 ∷ 127 ∷ []))
    ≡ Err (BadSection (BadForm (BadString EndsEarly)))
unfolding rows
cut_name = refl

-- a length that overflows
long_name : (stateless_reading 9 (0 ∷ 0 ∷ 39 ∷ 255 ∷ 255 ∷ 255 ∷ 255 ∷ 255 ∷ 255 ∷ 255 ∷ 255 ∷ 255 ∷ []))
    ≡ Err (BadSection (BadForm (BadString LengthOverflows)))
unfolding rows
long_name = refl

-- two fields with the limit 2
limit_2 : (stateless_reading 2 (alone ((field (codes "trailer") (codes "value"))
    ∷ (field (codes "trailer2") (codes "value2")) ∷ []))) ≡ Err (TooLong 44)
unfolding rows
limit_2 = refl

-- two fields with the limit 89
limit_89 : (stateless_reading 89 (alone ((field (codes "trailer") (codes "value"))
    ∷ (field (codes "trailer2") (codes "value2")) ∷ []))) ≡ Err (TooLong 90)
unfolding rows
limit_89 = refl

-- two fields with the limit 90
limit_90 : (stateless_reading 90 (alone ((field (codes "trailer") (codes "value"))
    ∷ (field (codes "trailer2") (codes "value2")) ∷ [])))
    ≡ Ok ((field (codes "trailer") (codes "value")) ∷ (field (codes "trailer2") (codes "value2")) ∷ [])
unfolding rows
limit_90 = refl

-- a stream number of 2^62
great_stream : (skip_reason one_block (Encode (2 ^ 62) [])) ≡ Some 1
unfolding rows
great_stream = refl

-- also to cancel
great_stream_cancel : (skip_reason one_block (Cancel (2 ^ 62))) ≡ Some 1
unfolding rows
great_stream_cancel = refl

-- a block to decode
may_decode : (skip_reason one_block (Decode 4)) ≡ None
unfolding rows
may_decode = refl

-- none on another stream
nothing_to_decode : (skip_reason one_block (Decode 8)) ≡ Some 2
unfolding rows
nothing_to_decode = refl

-- none behind the last
decoded_already : (skip_reason decoded_block (Decode 4)) ≡ Some 2
unfolding rows
decoded_already = refl

-- nothing to acknowledge before it is decoded
not_decoded : (skip_reason one_block (Acknowledge 4)) ≡ Some 4
unfolding rows
not_decoded = refl

-- behind that
may_acknowledge : (skip_reason decoded_block (Acknowledge 4)) ≡ None
unfolding rows
may_acknowledge = refl

-- once
acknowledged_already : (skip_reason acknowledged_block (Acknowledge 4)) ≡ Some 4
unfolding rows
acknowledged_already = refl

-- on a cancelled stream
cancelled_decode : (skip_reason cancelled_stream (Decode 4)) ≡ Some 3
unfolding rows
cancelled_decode = refl

-- nothing is acknowledged
cancelled_acknowledge : (skip_reason cancelled_stream (Acknowledge 4)) ≡ Some 3
unfolding rows
cancelled_acknowledge = refl

-- nor cancelled again
cancelled_again : (skip_reason cancelled_stream (Cancel 4)) ≡ Some 3
unfolding rows
cancelled_again = refl

-- but encoding goes on
cancelled_encode : (skip_reason cancelled_stream (Encode 4 [])) ≡ None
unfolding rows
cancelled_encode = refl

-- an instruction that only the table refuses is consumed
consumed_too_large : (is_consumed DoesNotFit) ≡ true
unfolding rows
consumed_too_large = refl

-- so is a capacity above the maximum
consumed_maximum : (is_consumed AboveMaximum) ≡ true
unfolding rows
consumed_maximum = refl

-- one that names nothing is not
consumed_no_entry : (is_consumed (NoEntry 0)) ≡ false
unfolding rows
consumed_no_entry = refl

-- nor one that names no static field
consumed_no_static : (is_consumed (NoStaticField 99)) ≡ false
unfolding rows
consumed_no_static = refl

-- an acknowledgment that finds no unacknowledged block is
consumed_decoder_instruction : (is_consumed (UnknownStream 4)) ≡ true
unfolding rows
consumed_decoder_instruction = refl
