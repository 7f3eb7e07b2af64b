-- The headline of two ends on outcomes that an event has never: of another kind, without room, skipped for a reason that
-- there is not, and errors of other calls.
use Rattle.std.proofs.Common.{ℕ, ◌⊎◌, ◌++◌, false, List, [], ◌∷◌, Ok, Err, arith}
use Rattle.qpack_decoding.specs.declared.decoder.DecodingError.TheVariants as decoding
use Rattle.qpack_encoding.specs.declared.encoder.EncodingError.TheVariants as encoding
use Rattle.qpack_decoding.specs.declared.section.SectionError.TheVariants.{TooLong, CountAtZero, Memory}
use Rattle.qpack_connection.specs.declared.connection.Event.{Event}
use Rattle.qpack_connection.specs.declared.connection.Event.TheVariants as event
use Rattle.qpack_connection.specs.declared.connection.Outcome.{Outcome}
use Rattle.qpack_connection.specs.declared.connection.Outcome.TheVariants.{Encoded, CapacitySet, Delivered, Heard}
use Rattle.qpack_connection.specs.declared.connection.Outcome.TheVariants.{Decoded, Cancelled, Skipped, NoRoom}
use Rattle.qpack_connection.specs.declared.connection.Skip.TheVariants.{NothingToDecode, StreamCancelled}
use Rattle.qpack_connection.proofs.HeadlineRows.{line, shown, decoded, waits, section_of}
use Rattle.qpack_connection.proofs.CancellationRows.{Right, RightWithin, two_fields}

-- an event after others has one of these outcomes
abbrev HasOne : List Event → List Outcome → Event → List Outcome → Type 0
HasOne before answers e [] = ⊥
HasOne before answers e (o ∷ os) = Right (before ++ e ∷ []) (answers ++ o ∷ []) ⊎ HasOne before answers e os

-- ---- of an encode

encode_of_another_kind : HasOne [] [] (section_of 0)
    (CapacitySet (Ok tt) ∷ Delivered (Ok 0) ∷ Heard (Ok tt) ∷ waits 1 ∷ Cancelled (Ok tt) ∷ []) → ⊥
encode_of_another_kind r = grind (r, arith)

encode_is_skipped : HasOne [] [] (section_of 0) (Skipped NothingToDecode ∷ Skipped StreamCancelled ∷ []) → ⊥
encode_is_skipped r = grind (r, arith)

encode_fails : HasOne [] [] (section_of 0)
    (Encoded (Err encoding.CapacityTooLarge) ∷ Encoded (Err encoding.EntriesHeld) ∷ Encoded (Err (encoding.NoStream 0))
    ∷ Encoded (Err encoding.MaximumChanged) ∷ Encoded (Err encoding.LimitLowered)
    ∷ Encoded (Err encoding.MaximumTooLarge) ∷ []) → ⊥
encode_fails r = grind (r, arith)

-- ---- of a capacity, after an encode too

capacity_of_another_kind : HasOne [] [] (event.SetCapacity 64)
    (Encoded (Ok 0) ∷ Delivered (Ok 0) ∷ Heard (Ok tt) ∷ waits 1 ∷ Cancelled (Ok tt) ∷ NoRoom ∷ []) → ⊥
capacity_of_another_kind r = grind (r, arith)

capacity_is_skipped : HasOne [] [] (event.SetCapacity 64) (Skipped NothingToDecode ∷ Skipped StreamCancelled ∷ []) → ⊥
capacity_is_skipped r = grind (r, arith)

capacity_fails : HasOne (section_of 0 ∷ []) (Encoded (Ok 1) ∷ []) (event.SetCapacity 64)
    (CapacitySet (Err encoding.CapacityTooLarge) ∷ CapacitySet (Err (encoding.NoStream 0))
    ∷ CapacitySet (Err encoding.MaximumChanged) ∷ CapacitySet (Err encoding.LimitLowered)
    ∷ CapacitySet (Err encoding.MaximumTooLarge) ∷ []) → ⊥
capacity_fails r = grind (r, arith)

-- ---- of a capacity that may wait, after an encode too

shrink_of_another_kind : HasOne [] [] (event.Shrink 64)
    (Encoded (Ok 0) ∷ Delivered (Ok 0) ∷ Heard (Ok tt) ∷ waits 1 ∷ Cancelled (Ok tt) ∷ NoRoom ∷ []) → ⊥
shrink_of_another_kind r = grind (r, arith)

shrink_is_skipped : HasOne [] [] (event.Shrink 64) (Skipped NothingToDecode ∷ Skipped StreamCancelled ∷ []) → ⊥
shrink_is_skipped r = grind (r, arith)

shrink_fails : HasOne (section_of 0 ∷ []) (Encoded (Ok 1) ∷ []) (event.Shrink 64)
    (CapacitySet (Err encoding.EntriesHeld) ∷ CapacitySet (Err encoding.CapacityTooLarge)
    ∷ CapacitySet (Err (encoding.NoStream 0)) ∷ CapacitySet (Err encoding.MaximumChanged)
    ∷ CapacitySet (Err encoding.LimitLowered) ∷ CapacitySet (Err encoding.MaximumTooLarge) ∷ []) → ⊥
shrink_fails r = grind (r, arith)

shrink_above_the_maximum : HasOne [] [] (event.Shrink 4097) (CapacitySet (Ok tt) ∷ CapacitySet (Err encoding.Memory) ∷ []) → ⊥
shrink_above_the_maximum r = grind (r, arith)

shrink_may_wait : Right (section_of 0 ∷ event.Shrink 30 ∷ []) (Encoded (Ok 1) ∷ CapacitySet (Ok tt) ∷ [])
shrink_may_wait = grind arith

shrink_without_memory : Right (section_of 0 ∷ event.Shrink 30 ∷ []) (Encoded (Ok 1) ∷ CapacitySet (Err encoding.Memory) ∷ [])
shrink_without_memory = grind arith

-- ---- of a delivery, to either end

delivery_of_another_kind : HasOne [] [] (event.ToDecoder 9)
    (Encoded (Ok 0) ∷ CapacitySet (Ok tt) ∷ Heard (Ok tt) ∷ waits 1 ∷ Cancelled (Ok tt) ∷ NoRoom ∷ []) → ⊥
delivery_of_another_kind r = grind (r, arith)

delivery_is_skipped : HasOne [] [] (event.ToDecoder 9) (Skipped NothingToDecode ∷ Skipped StreamCancelled ∷ []) → ⊥
delivery_is_skipped r = grind (r, arith)

delivery_fails : HasOne [] [] (event.ToDecoder 9)
    (Delivered (Err (decoding.Section 0 TooLong)) ∷ Delivered (Err (decoding.TooManyBlocked 0))
    ∷ Delivered (Err (decoding.NoStream 0)) ∷ []) → ⊥
delivery_fails r = grind (r, arith)

hearing_of_another_kind : HasOne [] [] (event.ToEncoder 9)
    (Encoded (Ok 0) ∷ CapacitySet (Ok tt) ∷ Delivered (Ok 0) ∷ waits 1 ∷ Cancelled (Ok tt) ∷ NoRoom ∷ []) → ⊥
hearing_of_another_kind r = grind (r, arith)

hearing_is_skipped : HasOne [] [] (event.ToEncoder 9) (Skipped NothingToDecode ∷ Skipped StreamCancelled ∷ []) → ⊥
hearing_is_skipped r = grind (r, arith)

hearing_fails : HasOne [] [] (event.ToEncoder 9)
    (Heard (Err encoding.Memory) ∷ Heard (Err encoding.MaximumChanged) ∷ Heard (Err (encoding.NoStream 0)) ∷ []) → ⊥
hearing_fails r = grind (r, arith)

-- ---- of a decode

decode_of_another_kind : HasOne (section_of 0 ∷ []) (Encoded (Ok 1) ∷ []) (event.Decode 0)
    (Encoded (Ok 0) ∷ CapacitySet (Ok tt) ∷ Delivered (Ok 0) ∷ Heard (Ok tt) ∷ Cancelled (Ok tt) ∷ NoRoom ∷ []) → ⊥
decode_of_another_kind r = grind (r, arith)

decode_is_skipped : HasOne (section_of 0 ∷ []) (Encoded (Ok 1) ∷ []) (event.Decode 0)
    (Skipped NothingToDecode ∷ Skipped StreamCancelled ∷ []) → ⊥
decode_is_skipped r = grind (r, arith)

decode_fails : HasOne (section_of 0 ∷ []) (Encoded (Ok 1) ∷ []) (event.Decode 0)
    (Decoded (Err (decoding.Section 0 TooLong)) (shown []) ∷ Decoded (Err (decoding.Section 0 Memory)) (shown [])
    ∷ Decoded (Err (decoding.TooManyBlocked 0)) (shown []) ∷ Decoded (Err (decoding.NoStream 0)) (shown []) ∷ []) → ⊥
decode_fails r = grind (r, arith)

-- a section past the limit gives no field, and its error is of the limit
past_the_limit_otherwise :
    RightWithin 67 (two_fields 0 ∷ event.Decode 0 ∷ [])
    (Encoded (Ok 1) ∷ Decoded (Err (decoding.Section 0 TooLong)) (shown (line 1 2 false ∷ [])) ∷ [])
    ⊎ RightWithin 67 (two_fields 0 ∷ event.Decode 0 ∷ [])
    (Encoded (Ok 1) ∷ Decoded (Err (decoding.Section 0 CountAtZero)) (shown []) ∷ [])
    ⊎ RightWithin 67 (two_fields 0 ∷ event.Decode 0 ∷ [])
    (Encoded (Ok 1) ∷ Decoded (Err (decoding.Section 0 Memory)) (shown []) ∷ []) → ⊥
past_the_limit_otherwise r = grind (r, arith)

-- there is no section to decode: before any encode, and for another stream
nothing_to_decode : HasOne (section_of 4 ∷ []) (Encoded (Ok 0) ∷ []) (event.Decode 0)
    (decoded 0 [] ∷ waits 1 ∷ Decoded (Err decoding.Memory) (shown []) ∷ Decoded (Err (decoding.NoStream 0)) (shown [])
    ∷ Skipped StreamCancelled ∷ Cancelled (Ok tt) ∷ NoRoom ∷ []) → ⊥
nothing_to_decode r = grind (r, arith)

-- ---- of a cancellation

cancel_of_another_kind : HasOne [] [] (event.Cancel 4)
    (Encoded (Ok 0) ∷ CapacitySet (Ok tt) ∷ Delivered (Ok 0) ∷ Heard (Ok tt) ∷ waits 1 ∷ []) → ⊥
cancel_of_another_kind r = grind (r, arith)

cancel_fails : HasOne [] [] (event.Cancel 4)
    (Cancelled (Err (decoding.Section 4 TooLong)) ∷ Cancelled (Err (decoding.TooManyBlocked 4))
    ∷ Cancelled (Err (decoding.NoStream 4)) ∷ []) → ⊥
cancel_fails r = grind (r, arith)

-- a cancelled stream is neither decoded nor cancelled again
cancelled_is_decoded : HasOne (section_of 4 ∷ event.Cancel 4 ∷ []) (Encoded (Ok 0) ∷ Cancelled (Ok tt) ∷ [])
    (event.Decode 4)
    (decoded 0 (line 1 4 false ∷ []) ∷ waits 1 ∷ Decoded (Err decoding.Memory) (shown []) ∷ Skipped NothingToDecode
    ∷ Cancelled (Ok tt) ∷ NoRoom ∷ []) → ⊥
cancelled_is_decoded r = grind (r, arith)

cancelled_again : HasOne (event.Cancel 4 ∷ []) (Cancelled (Ok tt) ∷ []) (event.Cancel 4)
    (Cancelled (Ok tt) ∷ Cancelled (Err decoding.Memory) ∷ Cancelled (Err (decoding.NoStream 4)) ∷ NoRoom
    ∷ Skipped NothingToDecode ∷ waits 1 ∷ []) → ⊥
cancelled_again r = grind (r, arith)
