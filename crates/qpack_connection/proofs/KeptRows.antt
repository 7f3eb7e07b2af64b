-- The headline of two ends on what is kept after an event, above all after one that fails, that has no room or that is
-- skipped: short runs, each of which is right or is refused for one thing.
use Rattle.std.proofs.Common.{ℕ, ◌^◌, ◌⊎◌, false, List, [], ◌∷◌, Ok, Err, arith}
use Rattle.qpack_decoding.specs.declared.decoder.DecodingError.TheVariants as decoding
use Rattle.qpack_encoding.specs.declared.encoder.EncodingError.TheVariants as encoding
use Rattle.qpack_decoding.specs.declared.section.SectionError.TheVariants.{TooLong}
use Rattle.qpack_connection.specs.declared.connection.Event.{Event}
use Rattle.qpack_connection.specs.declared.connection.Event.TheVariants as event
use Rattle.qpack_connection.specs.declared.connection.Outcome.{Outcome}
use Rattle.qpack_connection.specs.declared.connection.Outcome.TheVariants.{Encoded, CapacitySet, Delivered, Heard}
use Rattle.qpack_connection.specs.declared.connection.Outcome.TheVariants.{Decoded, Cancelled, Skipped, NoRoom}
use Rattle.qpack_connection.specs.declared.connection.Skip.TheVariants.{NothingToDecode, StreamCancelled}
use Rattle.qpack_connection.proofs.HeadlineRows.{line, shown, decoded, waits, section_of}
use Rattle.qpack_connection.proofs.CancellationRows.{Right, RightWithin, Wrong, WrongWithin, two_fields}

-- a section that is past the limit of 67 bytes
abbrev too_long : ℕ → Outcome
too_long s = Decoded (Err (decoding.Section s TooLong)) (shown [])

abbrev decode_without_memory : Outcome
decode_without_memory = Decoded (Err decoding.Memory) (shown [])

-- ---- which section is next

-- a section that was not decoded is: after one is past the limit, after memory was refused, and after it waited
past_the_limit_again : RightWithin 67 (two_fields 0 ∷ event.Decode 0 ∷ event.Decode 0 ∷ [])
    (Encoded (Ok 1) ∷ too_long 0 ∷ too_long 0 ∷ [])
past_the_limit_again = grind arith

gone_past_the_limit : WrongWithin 67 (two_fields 0 ∷ event.Decode 0 ∷ event.Decode 0 ∷ [])
    (Encoded (Ok 1) ∷ too_long 0 ∷ Skipped NothingToDecode ∷ [])
gone_past_the_limit r = grind (r, arith)

decoded_after_no_memory : Right (section_of 0 ∷ event.ToDecoder 9 ∷ event.Decode 0 ∷ event.Decode 0 ∷ [])
    (Encoded (Ok 1) ∷ Delivered (Ok 1) ∷ decode_without_memory ∷ decoded 1 (line 1 0 false ∷ []) ∷ [])
decoded_after_no_memory = grind arith

gone_without_memory : Wrong (section_of 0 ∷ event.Decode 0 ∷ event.Decode 0 ∷ [])
    (Encoded (Ok 1) ∷ decode_without_memory ∷ Skipped NothingToDecode ∷ [])
gone_without_memory r = grind (r, arith)

-- a section that was not encoded is not decoded
refused_is_not_decoded : Right (section_of 0 ∷ event.Decode 0 ∷ [])
    (Encoded (Err encoding.Memory) ∷ Skipped NothingToDecode ∷ [])
refused_is_not_decoded = grind arith

refused_is_decoded : Wrong (section_of 0 ∷ event.Decode 0 ∷ [])
    (Encoded (Err encoding.Memory) ∷ decoded 0 (line 1 0 false ∷ []) ∷ [])
refused_is_decoded r = grind (r, arith)

without_room_is_not_decoded : Right (section_of 0 ∷ event.Decode 0 ∷ []) (NoRoom ∷ Skipped NothingToDecode ∷ [])
without_room_is_not_decoded = grind arith

without_room_is_decoded : Wrong (section_of 0 ∷ event.Decode 0 ∷ []) (NoRoom ∷ decoded 0 (line 1 0 false ∷ []) ∷ [])
without_room_is_decoded r = grind (r, arith)

-- a stream that was not cancelled is not skipped as one that was
not_cancelled_without_room : Right (event.Cancel 4 ∷ event.Cancel 4 ∷ []) (NoRoom ∷ Cancelled (Ok tt) ∷ [])
not_cancelled_without_room = grind arith

cancelled_without_room : Wrong (event.Cancel 4 ∷ event.Cancel 4 ∷ []) (NoRoom ∷ Skipped StreamCancelled ∷ [])
cancelled_without_room r = grind (r, arith)

cancelled_without_memory : Wrong (event.Cancel 4 ∷ event.Cancel 4 ∷ [])
    (Cancelled (Err decoding.Memory) ∷ Skipped StreamCancelled ∷ [])
cancelled_without_memory r = grind (r, arith)

cancelled_with_another : Wrong (event.Cancel 4 ∷ section_of 0 ∷ event.Decode 0 ∷ [])
    (Cancelled (Ok tt) ∷ Encoded (Ok 1) ∷ Skipped StreamCancelled ∷ [])
cancelled_with_another r = grind (r, arith)

-- ---- who waits

-- one stream may wait, and stream 0 does; after one event more a second one does not
abbrev NotBeside : Event → Outcome → Type 0
NotBeside e o = Wrong (section_of 0 ∷ section_of 4 ∷ event.Decode 0 ∷ e ∷ event.Decode 4 ∷ [])
    (Encoded (Ok 1) ∷ Encoded (Ok 2) ∷ waits 1 ∷ o ∷ waits 2 ∷ [])

not_beside_an_encode : NotBeside (section_of 8) (Encoded (Ok 3))
not_beside_an_encode r = grind (r, arith)

not_beside_a_refused_encode : NotBeside (section_of 8) (Encoded (Err encoding.Memory))
not_beside_a_refused_encode r = grind (r, arith)

not_beside_no_room : NotBeside (section_of 8) NoRoom
not_beside_no_room r = grind (r, arith)

not_beside_a_refused_capacity : NotBeside (event.SetCapacity 5000) (CapacitySet (Err encoding.CapacityTooLarge))
not_beside_a_refused_capacity r = grind (r, arith)

not_beside_no_insertion : NotBeside (event.ToDecoder 1) (Delivered (Ok 0))
not_beside_no_insertion r = grind (r, arith)

not_beside_no_memory : NotBeside (event.Decode 0) decode_without_memory
not_beside_no_memory r = grind (r, arith)

not_beside_a_cancellation : NotBeside (event.Cancel 8) (Cancelled (Ok tt))
not_beside_a_cancellation r = grind (r, arith)

not_beside_a_refused_cancellation : NotBeside (event.Cancel 0) (Cancelled (Err decoding.Memory))
not_beside_a_refused_cancellation r = grind (r, arith)

not_beside_a_cancellation_without_room : NotBeside (event.Cancel 0) NoRoom
not_beside_a_cancellation_without_room r = grind (r, arith)

not_beside_a_skip : NotBeside (event.Decode 8) (Skipped NothingToDecode)
not_beside_a_skip r = grind (r, arith)

-- nor after a section of another stream was decoded, or was past the limit
not_beside_a_decode : Wrong
    (section_of 0 ∷ section_of 4 ∷ section_of 8 ∷ event.Decode 0 ∷ event.Decode 8 ∷ event.Decode 4 ∷ [])
    (Encoded (Ok 1) ∷ Encoded (Ok 2) ∷ Encoded (Ok 0) ∷ waits 1 ∷ decoded 0 (line 1 8 false ∷ []) ∷ waits 2 ∷ [])
not_beside_a_decode r = grind (r, arith)

not_beside_one_past_the_limit : WrongWithin 67
    (section_of 0 ∷ section_of 4 ∷ two_fields 8 ∷ event.Decode 0 ∷ event.Decode 8 ∷ event.Decode 4 ∷ [])
    (Encoded (Ok 1) ∷ Encoded (Ok 2) ∷ Encoded (Ok 3) ∷ waits 1 ∷ too_long 8 ∷ waits 2 ∷ [])
not_beside_one_past_the_limit r = grind (r, arith)

-- who waited waits no longer where its section is past the limit
waits_no_longer_past_the_limit : RightWithin 67
    (two_fields 0 ∷ section_of 4 ∷ event.Decode 0 ∷ event.Decode 0 ∷ event.Decode 4 ∷ [])
    (Encoded (Ok 1) ∷ Encoded (Ok 2) ∷ waits 1 ∷ too_long 0 ∷ waits 2 ∷ [])
waits_no_longer_past_the_limit = grind arith

-- ---- who waits after a delivery without memory

-- two sections are written, and some of the first two insertions come before memory is refused
abbrev After : List Event → List Outcome → Type 0
After events outcomes =
    Right (section_of 0 ∷ section_of 4 ∷ event.Decode 0 ∷ event.ToDecoder 9 ∷ events)
    (Encoded (Ok 1) ∷ Encoded (Ok 2) ∷ waits 1 ∷ Delivered (Err decoding.Memory) ∷ outcomes)

-- the stream that waited may wait no longer, so another one may; or it does, or its section is decoded
another_waits : After (event.Decode 4 ∷ []) (waits 2 ∷ [])
another_waits = grind arith

waits_still : After (event.Decode 0 ∷ event.ToDecoder 9 ∷ []) (waits 1 ∷ Delivered (Ok 0) ∷ [])
waits_still = grind arith

decoded_then : After (event.Decode 0 ∷ event.Decode 4 ∷ event.ToDecoder 9 ∷ [])
    (decoded 1 (line 1 0 false ∷ []) ∷ waits 2 ∷ Delivered (Ok 1) ∷ [])
decoded_then = grind arith

-- it waits where it is known not to be received what it requires: by what a delivery returns, or as another one waits for
-- as much or less
waits_beside_a_total : After (event.ToDecoder 0 ∷ event.Decode 4 ∷ []) (Delivered (Ok 0) ∷ waits 2 ∷ []) → ⊥
waits_beside_a_total r = grind (r, arith)

waits_beside_another : After (event.Decode 0 ∷ event.Decode 4 ∷ []) (waits 1 ∷ waits 2 ∷ []) → ⊥
waits_beside_another r = grind (r, arith)

waits_for_more : Wrong (section_of 0 ∷ section_of 4 ∷ event.Decode 4 ∷ event.ToDecoder 9 ∷ event.Decode 0 ∷ [])
    (Encoded (Ok 1) ∷ Encoded (Ok 2) ∷ waits 2 ∷ Delivered (Err decoding.Memory) ∷ waits 1 ∷ [])
waits_for_more r = grind (r, arith)

-- where a section waits, none that requires as much is decoded; where one is decoded, none that requires no more waits,
-- and the number returned is no less
decoded_where_one_waits : After (event.Decode 0 ∷ event.Decode 4 ∷ [])
    (waits 1 ∷ decoded 2 (line 1 4 false ∷ []) ∷ []) → ⊥
decoded_where_one_waits r = grind (r, arith)

waits_where_one_is_decoded : After (event.Decode 4 ∷ event.Decode 0 ∷ [])
    (decoded 2 (line 1 4 false ∷ []) ∷ waits 1 ∷ []) → ⊥
waits_where_one_is_decoded r = grind (r, arith)

fewer_than_was_decoded : After (event.Decode 4 ∷ event.ToDecoder 9 ∷ [])
    (decoded 2 (line 1 4 false ∷ []) ∷ Delivered (Ok 1) ∷ []) → ⊥
fewer_than_was_decoded r = grind (r, arith)

-- ---- what was received, and what is required

-- the number received does not fall, and all is received that is required, also after a delivery without memory; after
-- the next one it is known how many were received
falls_after_no_memory : Wrong (section_of 0 ∷ event.ToDecoder 9 ∷ event.ToDecoder 9 ∷ event.ToDecoder 9 ∷ [])
    (Encoded (Ok 1) ∷ Delivered (Ok 1) ∷ Delivered (Err decoding.Memory) ∷ Delivered (Ok 0) ∷ [])
falls_after_no_memory r = grind (r, arith)

not_all_after_no_memory : Wrong (section_of 0 ∷ event.ToDecoder 9 ∷ event.ToDecoder (2 ^ 63) ∷ [])
    (Encoded (Ok 1) ∷ Delivered (Err decoding.Memory) ∷ Delivered (Ok 0) ∷ [])
not_all_after_no_memory r = grind (r, arith)

falls_after_a_decode : Wrong
    (section_of 0 ∷ section_of 4 ∷ event.ToDecoder 9 ∷ event.Decode 0 ∷ event.ToDecoder 9 ∷ [])
    (Encoded (Ok 1) ∷ Encoded (Ok 2) ∷ Delivered (Ok 2) ∷ decoded 1 (line 1 0 false ∷ []) ∷ Delivered (Ok 1) ∷ [])
falls_after_a_decode r = grind (r, arith)

known_again : Wrong (section_of 0 ∷ event.ToDecoder 9 ∷ event.ToDecoder 0 ∷ event.Decode 0 ∷ [])
    (Encoded (Ok 1) ∷ Delivered (Err decoding.Memory) ∷ Delivered (Ok 0) ∷ decoded 1 (line 1 0 false ∷ []) ∷ [])
known_again r = grind (r, arith)

-- sections require 1, 2 and 1 insertions, of which one was received; then an event, and another one
abbrev Later : Event → Outcome → Event → Outcome → Type 0
Later e o later answer =
    Right (section_of 0 ∷ section_of 4 ∷ section_of 8 ∷ event.ToDecoder 9 ∷ e ∷ later ∷ [])
    (Encoded (Ok 1) ∷ Encoded (Ok 2) ∷ Encoded (Ok 1) ∷ Delivered (Ok 1) ∷ o ∷ answer ∷ [])

-- what was received and is required is forgotten with an event: the number falls, or is less than is required once all
-- was delivered; or a section is decoded too early, or waits in vain
abbrev Forgets : Event → Outcome → Type 0
Forgets e o =
    Later e o (event.ToDecoder 9) (Delivered (Ok 0)) ⊎ Later e o (event.ToDecoder (2 ^ 63)) (Delivered (Ok 1))
    ⊎ Later e o (event.Decode 4) (decoded 2 (line 1 4 false ∷ [])) ⊎ Later e o (event.Decode 8) (waits 1)

-- of no event, except that it is not known how many were received after a delivery without memory
known_after_an_encode : Forgets (section_of 12) (Encoded (Ok 0)) → ⊥
known_after_an_encode r = grind (r, arith)

known_after_a_refused_encode : Forgets (section_of 12) (Encoded (Err encoding.Memory)) → ⊥
known_after_a_refused_encode r = grind (r, arith)

known_after_no_room : Forgets (section_of 12) NoRoom → ⊥
known_after_no_room r = grind (r, arith)

known_after_a_capacity : Forgets (event.SetCapacity 4096) (CapacitySet (Ok tt)) → ⊥
known_after_a_capacity r = grind (r, arith)

known_after_a_refused_capacity : Forgets (event.SetCapacity 64) (CapacitySet (Err encoding.EntriesHeld)) → ⊥
known_after_a_refused_capacity r = grind (r, arith)

known_after_a_delivery : Forgets (event.ToDecoder 0) (Delivered (Ok 1)) → ⊥
known_after_a_delivery r = grind (r, arith)

known_after_heard_bytes : Forgets (event.ToEncoder 9) (Heard (Ok tt)) → ⊥
known_after_heard_bytes r = grind (r, arith)

known_after_a_decode : Forgets (event.Decode 0) (decoded 1 (line 1 0 false ∷ [])) → ⊥
known_after_a_decode r = grind (r, arith)

known_after_a_wait : Forgets (event.Decode 4) (waits 2) → ⊥
known_after_a_wait r = grind (r, arith)

known_after_a_decode_without_memory : Forgets (event.Decode 0) decode_without_memory → ⊥
known_after_a_decode_without_memory r = grind (r, arith)

known_after_a_cancellation : Forgets (event.Cancel 0) (Cancelled (Ok tt)) → ⊥
known_after_a_cancellation r = grind (r, arith)

known_after_a_refused_cancellation : Forgets (event.Cancel 0) (Cancelled (Err decoding.Memory)) → ⊥
known_after_a_refused_cancellation r = grind (r, arith)

known_after_a_cancellation_without_room : Forgets (event.Cancel 0) NoRoom → ⊥
known_after_a_cancellation_without_room r = grind (r, arith)

known_after_a_skip : Forgets (event.Decode 12) (Skipped NothingToDecode) → ⊥
known_after_a_skip r = grind (r, arith)

-- ---- whether an encode was done

-- no event but an encode leaves entries that are held
abbrev Holds : Event → Outcome → Type 0
Holds e o = Right (e ∷ event.SetCapacity 30 ∷ []) (o ∷ CapacitySet (Err encoding.EntriesHeld) ∷ [])

capacity_holds : Holds (event.SetCapacity 4096) (CapacitySet (Ok tt)) → ⊥
capacity_holds r = grind (r, arith)

refused_capacity_holds : Holds (event.SetCapacity 5000) (CapacitySet (Err encoding.CapacityTooLarge)) → ⊥
refused_capacity_holds r = grind (r, arith)

delivery_holds : Holds (event.ToDecoder 9) (Delivered (Ok 0)) → ⊥
delivery_holds r = grind (r, arith)

refused_delivery_holds : Holds (event.ToDecoder 9) (Delivered (Err decoding.Memory)) → ⊥
refused_delivery_holds r = grind (r, arith)

heard_bytes_hold : Holds (event.ToEncoder 9) (Heard (Ok tt)) → ⊥
heard_bytes_hold r = grind (r, arith)

cancellation_holds : Holds (event.Cancel 4) (Cancelled (Ok tt)) → ⊥
cancellation_holds r = grind (r, arith)

skip_holds : Holds (event.Decode 4) (Skipped NothingToDecode) → ⊥
skip_holds r = grind (r, arith)
