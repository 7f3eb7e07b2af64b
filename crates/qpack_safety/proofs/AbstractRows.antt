-- Worked rows of sessions, computed by the definitions.
use Rattle.std.proofs.Common.{ℕ, ◌≡◌, true, List, [], ◌∷◌, Option, None, Some, refl}
use Rattle.std.specs.Prelude.{codes}
use Rattle.qpack_spec.specs.StaticTable.{field}
use Rattle.qpack_spec.specs.Instruction.{written_encoder_instructions, written_decoder_instructions}
use Rattle.qpack_spec.specs.Reading.{Fields, Missing}
use Rattle.qpack_spec.specs.BlockReading.{written_block}
use Rattle.qpack_rules.specs.Session.{stream_at}
use Rattle.qpack_safety.specs.AbstractSession.{AbstractBlock, AbstractSession, SmallStep, Encode, Abandon, Resize, Take}
use Rattle.qpack_safety.specs.AbstractSession.{Report, Hear, Decode, Acknowledge, Cancel, abstract_start, next_reading}
use Rattle.qpack_safety.specs.AbstractSession.{after_steps}
use Rattle.qpack_spec.proofs.Computing.{computed}

-- the bytes of the last block of a stream, those of the instructions under way, and the last required insert count
last_block : List AbstractBlock → Option AbstractBlock
last_block [] = None
last_block (x ∷ []) = Some x
last_block (x ∷ y ∷ xs) = last_block (y ∷ xs)

bytes_of : Option AbstractBlock → List ℕ
bytes_of None = []
bytes_of (Some x) = written_block x.block

block_on : AbstractSession → ℕ → List ℕ
block_on w s = bytes_of (last_block (stream_at w.streams s).blocks)

in_flight_of : AbstractSession → List ℕ
in_flight_of w = written_encoder_instructions w.in_flight

decoder_instructions_of : AbstractSession → List ℕ
decoder_instructions_of w = written_decoder_instructions w.decoder_in_flight

session_after : ℕ → ℕ → List SmallStep → AbstractSession
session_after capacity limit steps = after_steps steps (abstract_start capacity capacity limit)

-- all that has to unfold
rows : ℕ
unfolding computed last_block bytes_of block_on in_flight_of decoder_instructions_of session_after
rows = 0

-- one field is inserted
first_instruction : (in_flight_of (session_after 4096 1 (Encode 4 ((field (codes "foo") (codes "bar")) ∷ []) ∷ [])))
    ≡ 98 ∷ 148 ∷ 231 ∷ 131 ∷ 140 ∷ 118 ∷ 127 ∷ []
unfolding rows
first_instruction = refl

-- and named by its post-base index: 02 80 10
first_block : (block_on (session_after 4096 1 (Encode 4 ((field (codes "foo") (codes "bar")) ∷ []) ∷ [])) 4)
    ≡ 2 ∷ 128 ∷ 16 ∷ []
unfolding rows
first_block = refl

-- the block waits for the insertion
first_waits : (next_reading (session_after 4096 1 (Encode 4 ((field (codes "foo") (codes "bar")) ∷ []) ∷ [])) 4)
    ≡ Some (Missing 1)
unfolding rows
first_waits = refl

-- and is read behind it
first_reads : (next_reading (session_after 4096 1 (Encode 4 ((field (codes "foo") (codes "bar")) ∷ []) ∷ Take ∷ [])) 4)
    ≡ Some (Fields ((field (codes "foo") (codes "bar")) ∷ []) true)
unfolding rows
first_reads = refl

-- the increment and the acknowledgment: 01 84
first_decoder_instructions :
    (decoder_instructions_of (session_after 4096 1 (Encode 4 ((field (codes "foo") (codes "bar")) ∷ []) ∷ Take
    ∷ Report (1 ∷ []) ∷ Decode 4 ∷ Acknowledge 4 ∷ []))) ≡ 1 ∷ 132 ∷ []
unfolding rows
first_decoder_instructions = refl

-- no block is left to decode
nothing_to_decode : (next_reading (session_after 4096 1 (Encode 4 ((field (codes "foo") (codes "bar")) ∷ []) ∷ Take
    ∷ Decode 4 ∷ [])) 4) ≡ None
unfolding rows
nothing_to_decode = refl

-- a block is acknowledged once
acknowledged_once : (decoder_instructions_of
    (session_after 4096 1 (Encode 4 ((field (codes "foo") (codes "bar")) ∷ []) ∷ Take
    ∷ Decode 4 ∷ Acknowledge 4 ∷ Acknowledge 4 ∷ []))) ≡ 132 ∷ []
unfolding rows
acknowledged_once = refl

-- and not before it was decoded
acknowledged_late : (decoder_instructions_of
    (session_after 4096 1 (Encode 4 ((field (codes "foo") (codes "bar")) ∷ []) ∷ Take
    ∷ Acknowledge 4 ∷ []))) ≡ []
unfolding rows
acknowledged_late = refl

-- at the limit an unreceived entry is not named
at_limit : (block_on (session_after 4096 1 (Encode 4 ((field (codes "foo") (codes "bar")) ∷ [])
    ∷ Encode 8 ((field (codes "foo") (codes "bar")) ∷ []) ∷ [])) 8) ≡ 0 ∷ 0 ∷ 42 ∷ 148 ∷ 231 ∷ 131 ∷ 140 ∷ 118 ∷ 127
    ∷ []
unfolding rows
at_limit = refl

-- and nothing is inserted
at_limit_inserts_nothing : (in_flight_of
    (session_after 4096 1 (Encode 4 ((field (codes "foo") (codes "bar")) ∷ [])
    ∷ Encode 8 ((field (codes "foo") (codes "bar")) ∷ []) ∷ []))) ≡ 98 ∷ 148 ∷ 231 ∷ 131 ∷ 140 ∷ 118 ∷ 127 ∷ []
unfolding rows
at_limit_inserts_nothing = refl

-- once the increment is heard it is named
received_named : (block_on (session_after 4096 1 (Encode 4 ((field (codes "foo") (codes "bar")) ∷ []) ∷ Take
    ∷ Report (1 ∷ []) ∷ Hear ∷ Encode 8 ((field (codes "foo") (codes "bar")) ∷ []) ∷ [])) 8) ≡ 2 ∷ 0 ∷ 128 ∷ []
unfolding rows
received_named = refl

-- at the limit the last entry known to be received is named
known_is_named : (block_on (session_after 4096 1 (Encode 4 ((field (codes "foo") (codes "bar")) ∷ []) ∷ Take
    ∷ Report (1 ∷ []) ∷ Hear ∷ Encode 8 ((field (codes "baz") (codes "bar")) ∷ [])
    ∷ Encode 12 ((field (codes "foo") (codes "bar")) ∷ []) ∷ [])) 12) ≡ 2 ∷ 1 ∷ 129 ∷ []
unfolding rows
known_is_named = refl

-- an entry that the block in progress names is held, received as it may be
named_held : (block_on (session_after 64 4 (Encode 4 ((field (codes "foo") (codes "bar")) ∷ []) ∷ Take
    ∷ Report (1 ∷ []) ∷ Decode 4 ∷ Acknowledge 4 ∷ Hear ∷ Hear
    ∷ Encode 8 ((field (codes "foo") (codes "bar")) ∷ (field (codes "baz") (codes "bar")) ∷ []) ∷ [])) 8)
    ≡ 2 ∷ 0 ∷ 128 ∷ 43 ∷ 140 ∷ 126 ∷ 255 ∷ 131 ∷ 140 ∷ 118 ∷ 127 ∷ []
unfolding rows
named_held = refl

-- and one that an unacknowledged block names
open_held : (block_on (session_after 64 4 (Encode 4 ((field (codes "foo") (codes "bar")) ∷ []) ∷ Take ∷ Report (1 ∷ [])
    ∷ Decode 4 ∷ Hear ∷ Encode 8 ((field (codes "baz") (codes "bar")) ∷ []) ∷ [])) 8)
    ≡ 0 ∷ 0 ∷ 43 ∷ 140 ∷ 126 ∷ 255 ∷ 131 ∷ 140 ∷ 118 ∷ 127 ∷ []
unfolding rows
open_held = refl

-- an equal field is inserted, then duplicated
twice_block : (block_on (session_after 4096 1
    (Encode 4 ((field (codes "foo") (codes "bar")) ∷ (field (codes "foo") (codes "bar")) ∷ []) ∷ [])) 4)
    ≡ 3 ∷ 129 ∷ 16 ∷ 17 ∷ []
unfolding rows
twice_block = refl

-- by the newest entry
twice_instructions : (in_flight_of (session_after 4096 1
    (Encode 4 ((field (codes "foo") (codes "bar")) ∷ (field (codes "foo") (codes "bar")) ∷ []) ∷ [])))
    ≡ 98 ∷ 148 ∷ 231 ∷ 131 ∷ 140 ∷ 118 ∷ 127 ∷ 0 ∷ []
unfolding rows
twice_instructions = refl

-- an entry that the block names is held: the name alone is used
no_room_block : (block_on (session_after 63 1
    (Encode 4 ((field (codes "foo") (codes "bar")) ∷ (field (codes "foo") (codes "quxx")) ∷ []) ∷ [])) 4)
    ≡ 2 ∷ 128 ∷ 16 ∷ 0 ∷ 132 ∷ 237 ∷ 111 ∷ 159 ∷ 63 ∷ []
unfolding rows
no_room_block = refl

-- and one instruction is written
no_room_instructions : (in_flight_of (session_after 63 1
    (Encode 4 ((field (codes "foo") (codes "bar")) ∷ (field (codes "foo") (codes "quxx")) ∷ []) ∷ [])))
    ≡ 98 ∷ 148 ∷ 231 ∷ 131 ∷ 140 ∷ 118 ∷ 127 ∷ []
unfolding rows
no_room_instructions = refl

-- an equal entry of the same block is not named by its index
equal_before_start : (block_on (session_after 64 1
    (Encode 4 ((field (codes "foo") (codes "bar")) ∷ (field (codes "foo") (codes "bar")) ∷ []) ∷ [])) 4)
    ≡ 2 ∷ 128 ∷ 16 ∷ 0 ∷ 131 ∷ 140 ∷ 118 ∷ 127 ∷ []
unfolding rows
equal_before_start = refl

-- a cancellation: 44
cancelled : (decoder_instructions_of
    (session_after 64 4 (Encode 4 ((field (codes "foo") (codes "bar")) ∷ []) ∷ Cancel 4 ∷ [])))
    ≡ 68 ∷ []
unfolding rows
cancelled = refl

-- an unreceived entry of a cancelled block is held
unreceived_held : (block_on (session_after 64 4 (Encode 4 ((field (codes "foo") (codes "bar")) ∷ []) ∷ Cancel 4 ∷ Hear
    ∷ Encode 8 ((field (codes "baz") (codes "bar")) ∷ []) ∷ [])) 8) ≡ 0 ∷ 0 ∷ 43 ∷ 140 ∷ 126 ∷ 255 ∷ 131 ∷ 140 ∷ 118
    ∷ 127 ∷ []
unfolding rows
unreceived_held = refl

-- and goes once it is known to be received
received_goes : (block_on (session_after 64 4 (Encode 4 ((field (codes "foo") (codes "bar")) ∷ []) ∷ Cancel 4 ∷ Hear
    ∷ Encode 8 ((field (codes "baz") (codes "bar")) ∷ []) ∷ Take ∷ Report (1 ∷ []) ∷ Hear
    ∷ Encode 12 ((field (codes "baz") (codes "bar")) ∷ []) ∷ [])) 12) ≡ 3 ∷ 128 ∷ 16 ∷ []
unfolding rows
received_goes = refl

-- .. for the new one
received_goes_instructions : (in_flight_of
    (session_after 64 4 (Encode 4 ((field (codes "foo") (codes "bar")) ∷ []) ∷ Cancel 4 ∷ Hear
    ∷ Encode 8 ((field (codes "baz") (codes "bar")) ∷ []) ∷ Take ∷ Report (1 ∷ []) ∷ Hear
    ∷ Encode 12 ((field (codes "baz") (codes "bar")) ∷ []) ∷ []))) ≡ 99 ∷ 140 ∷ 126 ∷ 255 ∷ 131 ∷ 140 ∷ 118 ∷ 127 ∷ []
unfolding rows
received_goes_instructions = refl

-- nothing is decoded on a cancelled stream
cancelled_decodes_nothing : (next_reading
    (session_after 64 4 (Encode 4 ((field (codes "foo") (codes "bar")) ∷ []) ∷ Cancel 4 ∷ Hear
    ∷ Encode 8 ((field (codes "baz") (codes "bar")) ∷ []) ∷ Take ∷ Report (1 ∷ []) ∷ Hear ∷ [])) 4) ≡ None
unfolding rows
cancelled_decodes_nothing = refl

-- the newest equal entry alone is considered, although an older one may be referenced
newest_alone : (block_on (session_after 4096 1
    (Encode 4 ((field (codes "foo") (codes "bar")) ∷ (field (codes "foo") (codes "bar")) ∷ []) ∷ Take ∷ Report (1 ∷ [])
    ∷ Hear ∷ Encode 8 ((field (codes "foo") (codes "bar")) ∷ []) ∷ [])) 8) ≡ 0 ∷ 0 ∷ 42 ∷ 148 ∷ 231 ∷ 131 ∷ 140 ∷ 118
    ∷ 127 ∷ []
unfolding rows
newest_alone = refl

-- one entry at a time goes round: the 1. block
turn_1 : (block_on (session_after 64 1 (Encode 0 ((field (codes "n") (codes "1")) ∷ []) ∷ [])) 0) ≡ 2 ∷ 128 ∷ 16 ∷ []
unfolding rows
turn_1 = refl

-- one entry at a time goes round: the 2. block
turn_2 : (block_on (session_after 64 1 (Encode 0 ((field (codes "n") (codes "1")) ∷ []) ∷ Take ∷ Report (1 ∷ [])
    ∷ Decode 0 ∷ Acknowledge 0 ∷ Hear ∷ Hear ∷ Encode 0 ((field (codes "n") (codes "2")) ∷ []) ∷ [])) 0)
    ≡ 3 ∷ 128 ∷ 16 ∷ []
unfolding rows
turn_2 = refl

-- one entry at a time goes round: the 3. block
turn_3 : (block_on (session_after 64 1 (Encode 0 ((field (codes "n") (codes "1")) ∷ []) ∷ Take ∷ Report (1 ∷ [])
    ∷ Decode 0 ∷ Acknowledge 0 ∷ Hear ∷ Hear ∷ Encode 0 ((field (codes "n") (codes "2")) ∷ []) ∷ Take ∷ Report (1 ∷ [])
    ∷ Decode 0 ∷ Acknowledge 0 ∷ Hear ∷ Hear ∷ Encode 0 ((field (codes "n") (codes "3")) ∷ []) ∷ [])) 0)
    ≡ 4 ∷ 128 ∷ 16 ∷ []
unfolding rows
turn_3 = refl

-- one entry at a time goes round: the 4. block
turn_4 : (block_on (session_after 64 1 (Encode 0 ((field (codes "n") (codes "1")) ∷ []) ∷ Take ∷ Report (1 ∷ [])
    ∷ Decode 0 ∷ Acknowledge 0 ∷ Hear ∷ Hear ∷ Encode 0 ((field (codes "n") (codes "2")) ∷ []) ∷ Take ∷ Report (1 ∷ [])
    ∷ Decode 0 ∷ Acknowledge 0 ∷ Hear ∷ Hear ∷ Encode 0 ((field (codes "n") (codes "3")) ∷ []) ∷ Take ∷ Report (1 ∷ [])
    ∷ Decode 0 ∷ Acknowledge 0 ∷ Hear ∷ Hear ∷ Encode 0 ((field (codes "n") (codes "4")) ∷ []) ∷ [])) 0)
    ≡ 1 ∷ 128 ∷ 16 ∷ []
unfolding rows
turn_4 = refl

-- one entry at a time goes round: the 5. block
turn_5 : (block_on (session_after 64 1 (Encode 0 ((field (codes "n") (codes "1")) ∷ []) ∷ Take ∷ Report (1 ∷ [])
    ∷ Decode 0 ∷ Acknowledge 0 ∷ Hear ∷ Hear ∷ Encode 0 ((field (codes "n") (codes "2")) ∷ []) ∷ Take ∷ Report (1 ∷ [])
    ∷ Decode 0 ∷ Acknowledge 0 ∷ Hear ∷ Hear ∷ Encode 0 ((field (codes "n") (codes "3")) ∷ []) ∷ Take ∷ Report (1 ∷ [])
    ∷ Decode 0 ∷ Acknowledge 0 ∷ Hear ∷ Hear ∷ Encode 0 ((field (codes "n") (codes "4")) ∷ []) ∷ Take ∷ Report (1 ∷ [])
    ∷ Decode 0 ∷ Acknowledge 0 ∷ Hear ∷ Hear ∷ Encode 0 ((field (codes "n") (codes "5")) ∷ []) ∷ [])) 0)
    ≡ 2 ∷ 128 ∷ 16 ∷ []
unfolding rows
turn_5 = refl

-- one entry at a time goes round: the 6. block
turn_6 : (block_on (session_after 64 1 (Encode 0 ((field (codes "n") (codes "1")) ∷ []) ∷ Take ∷ Report (1 ∷ [])
    ∷ Decode 0 ∷ Acknowledge 0 ∷ Hear ∷ Hear ∷ Encode 0 ((field (codes "n") (codes "2")) ∷ []) ∷ Take ∷ Report (1 ∷ [])
    ∷ Decode 0 ∷ Acknowledge 0 ∷ Hear ∷ Hear ∷ Encode 0 ((field (codes "n") (codes "3")) ∷ []) ∷ Take ∷ Report (1 ∷ [])
    ∷ Decode 0 ∷ Acknowledge 0 ∷ Hear ∷ Hear ∷ Encode 0 ((field (codes "n") (codes "4")) ∷ []) ∷ Take ∷ Report (1 ∷ [])
    ∷ Decode 0 ∷ Acknowledge 0 ∷ Hear ∷ Hear ∷ Encode 0 ((field (codes "n") (codes "5")) ∷ []) ∷ Take ∷ Report (1 ∷ [])
    ∷ Decode 0 ∷ Acknowledge 0 ∷ Hear ∷ Hear ∷ Encode 0 ((field (codes "n") (codes "6")) ∷ []) ∷ [])) 0)
    ≡ 3 ∷ 128 ∷ 16 ∷ []
unfolding rows
turn_6 = refl

-- a capacity is written before the insertion
resize_written : (in_flight_of (session_after 64 4 (Resize 38 ∷ Encode 4 ((field (codes "foo") (codes "bar")) ∷ [])
    ∷ []))) ≡ 63 ∷ 7 ∷ 98 ∷ 148 ∷ 231 ∷ 131 ∷ 140 ∷ 118 ∷ 127 ∷ []
unfolding rows
resize_written = refl

-- where capacity 0 stands first too
resize_first : (in_flight_of (after_steps (Resize 38 ∷ Encode 4 ((field (codes "foo") (codes "bar")) ∷ []) ∷ [])
    (abstract_start 0 64 4))) ≡ 63 ∷ 7 ∷ 98 ∷ 148 ∷ 231 ∷ 131 ∷ 140 ∷ 118 ∷ 127 ∷ []
unfolding rows
resize_first = refl

-- the count is of the maximum capacity, whatever the capacity is
resize_block : (block_on (session_after 64 4 (Resize 38 ∷ Encode 4 ((field (codes "foo") (codes "bar")) ∷ []) ∷ [])) 4)
    ≡ 2 ∷ 128 ∷ 16 ∷ []
unfolding rows
resize_block = refl

-- behind it
resize_next_block : (block_on (session_after 64 4 (Resize 38 ∷ Encode 4 ((field (codes "foo") (codes "bar")) ∷ [])
    ∷ Take ∷ Take ∷ Report (1 ∷ []) ∷ Decode 4 ∷ Acknowledge 4 ∷ Hear ∷ Hear
    ∷ Encode 8 ((field (codes "baz") (codes "bar")) ∷ []) ∷ [])) 8) ≡ 3 ∷ 128 ∷ 16 ∷ []
unfolding rows
resize_next_block = refl

-- which is read as its field
resize_next_reads : (next_reading (session_after 64 4 (Resize 38 ∷ Encode 4 ((field (codes "foo") (codes "bar")) ∷ [])
    ∷ Take ∷ Take ∷ Report (1 ∷ []) ∷ Decode 4 ∷ Acknowledge 4 ∷ Hear ∷ Hear
    ∷ Encode 8 ((field (codes "baz") (codes "bar")) ∷ []) ∷ Take ∷ [])) 8)
    ≡ Some (Fields ((field (codes "baz") (codes "bar")) ∷ []) true)
unfolding rows
resize_next_reads = refl

-- a capacity that a held entry stands against, or above the maximum, is refused
resize_refused : (in_flight_of (session_after 64 4 (Encode 4 ((field (codes "foo") (codes "bar")) ∷ []) ∷ Resize 37
    ∷ Resize 65 ∷ []))) ≡ 98 ∷ 148 ∷ 231 ∷ 131 ∷ 140 ∷ 118 ∷ 127 ∷ []
unfolding rows
resize_refused = refl

-- capacity 0 is written as 20
resize_zero : (in_flight_of (session_after 64 4 (Encode 4 ((field (codes "foo") (codes "bar")) ∷ []) ∷ Resize 37
    ∷ Resize 65 ∷ Take ∷ Report (1 ∷ []) ∷ Decode 4 ∷ Acknowledge 4 ∷ Hear ∷ Hear ∷ Resize 0
    ∷ Encode 8 ((field (codes "foo") (codes "bar")) ∷ []) ∷ []))) ≡ 32 ∷ []
unfolding rows
resize_zero = refl

-- nothing is inserted at capacity 0
resize_zero_block : (block_on (session_after 64 4 (Encode 4 ((field (codes "foo") (codes "bar")) ∷ []) ∷ Resize 37
    ∷ Resize 65 ∷ Take ∷ Report (1 ∷ []) ∷ Decode 4 ∷ Acknowledge 4 ∷ Hear ∷ Hear ∷ Resize 0
    ∷ Encode 8 ((field (codes "foo") (codes "bar")) ∷ []) ∷ [])) 8) ≡ 0 ∷ 0 ∷ 42 ∷ 148 ∷ 231 ∷ 131 ∷ 140 ∷ 118 ∷ 127
    ∷ []
unfolding rows
resize_zero_block = refl

-- and 64 as 3F 21
resize_again : (in_flight_of (session_after 64 4 (Encode 4 ((field (codes "foo") (codes "bar")) ∷ []) ∷ Resize 37
    ∷ Resize 65 ∷ Take ∷ Report (1 ∷ []) ∷ Decode 4 ∷ Acknowledge 4 ∷ Hear ∷ Hear ∷ Resize 0
    ∷ Encode 8 ((field (codes "foo") (codes "bar")) ∷ []) ∷ Resize 64
    ∷ Encode 12 ((field (codes "foo") (codes "bar")) ∷ []) ∷ []))) ≡ 32 ∷ 63 ∷ 33 ∷ 98 ∷ 148 ∷ 231 ∷ 131 ∷ 140 ∷ 118
    ∷ 127 ∷ []
unfolding rows
resize_again = refl

-- the second insertion
resize_again_block : (block_on (session_after 64 4 (Encode 4 ((field (codes "foo") (codes "bar")) ∷ []) ∷ Resize 37
    ∷ Resize 65 ∷ Take ∷ Report (1 ∷ []) ∷ Decode 4 ∷ Acknowledge 4 ∷ Hear ∷ Hear ∷ Resize 0
    ∷ Encode 8 ((field (codes "foo") (codes "bar")) ∷ []) ∷ Resize 64
    ∷ Encode 12 ((field (codes "foo") (codes "bar")) ∷ []) ∷ [])) 12) ≡ 3 ∷ 128 ∷ 16 ∷ []
unfolding rows
resize_again_block = refl

-- waits for it
resize_waits : (next_reading (session_after 64 4 (Encode 4 ((field (codes "foo") (codes "bar")) ∷ []) ∷ Resize 37
    ∷ Resize 65 ∷ Take ∷ Report (1 ∷ []) ∷ Decode 4 ∷ Acknowledge 4 ∷ Hear ∷ Hear ∷ Resize 0
    ∷ Encode 8 ((field (codes "foo") (codes "bar")) ∷ []) ∷ Resize 64
    ∷ Encode 12 ((field (codes "foo") (codes "bar")) ∷ []) ∷ Take ∷ [])) 12) ≡ Some (Missing 2)
unfolding rows
resize_waits = refl

-- and is read
resize_reads : (next_reading (session_after 64 4 (Encode 4 ((field (codes "foo") (codes "bar")) ∷ []) ∷ Resize 37
    ∷ Resize 65 ∷ Take ∷ Report (1 ∷ []) ∷ Decode 4 ∷ Acknowledge 4 ∷ Hear ∷ Hear ∷ Resize 0
    ∷ Encode 8 ((field (codes "foo") (codes "bar")) ∷ []) ∷ Resize 64
    ∷ Encode 12 ((field (codes "foo") (codes "bar")) ∷ []) ∷ Take ∷ Take ∷ Take ∷ [])) 12)
    ≡ Some (Fields ((field (codes "foo") (codes "bar")) ∷ []) true)
unfolding rows
resize_reads = refl

-- a second and a third block name the entry
third_block : (block_on (session_after 64 4 (Encode 4 ((field (codes "foo") (codes "bar")) ∷ [])
    ∷ Encode 4 ((field (codes "foo") (codes "bar")) ∷ []) ∷ Encode 4 ((field (codes "foo") (codes "bar")) ∷ []) ∷ []))
    4) ≡ 2 ∷ 0 ∷ 128 ∷ []
unfolding rows
third_block = refl

-- the cancellation and the increment
cancelled_and_reported :
    (decoder_instructions_of (session_after 64 4 (Encode 4 ((field (codes "foo") (codes "bar")) ∷ [])
    ∷ Encode 4 ((field (codes "foo") (codes "bar")) ∷ []) ∷ Encode 4 ((field (codes "foo") (codes "bar")) ∷ [])
    ∷ Cancel 4 ∷ Take ∷ Report (1 ∷ []) ∷ []))) ≡ 68 ∷ 1 ∷ []
unfolding rows
cancelled_and_reported = refl

-- a cancellation releases every unacknowledged block of its stream
cancellation_releases_all : (block_on (session_after 64 4 (Encode 4 ((field (codes "foo") (codes "bar")) ∷ [])
    ∷ Encode 4 ((field (codes "foo") (codes "bar")) ∷ []) ∷ Encode 4 ((field (codes "foo") (codes "bar")) ∷ [])
    ∷ Cancel 4 ∷ Take ∷ Report (1 ∷ []) ∷ Hear ∷ Hear ∷ Encode 8 ((field (codes "baz") (codes "bar")) ∷ []) ∷ [])) 8)
    ≡ 3 ∷ 128 ∷ 16 ∷ []
unfolding rows
cancellation_releases_all = refl

-- so that its entry goes
cancellation_releases_all_instructions :
    (in_flight_of (session_after 64 4 (Encode 4 ((field (codes "foo") (codes "bar")) ∷ [])
    ∷ Encode 4 ((field (codes "foo") (codes "bar")) ∷ []) ∷ Encode 4 ((field (codes "foo") (codes "bar")) ∷ [])
    ∷ Cancel 4 ∷ Take ∷ Report (1 ∷ []) ∷ Hear ∷ Hear ∷ Encode 8 ((field (codes "baz") (codes "bar")) ∷ []) ∷ [])))
    ≡ 99 ∷ 140 ∷ 126 ∷ 255 ∷ 131 ∷ 140 ∷ 118 ∷ 127 ∷ []
unfolding rows
cancellation_releases_all_instructions = refl

-- a block given up behind 0 insertions, and written again
abandoned_0 : (block_on (session_after 76 4
    (Abandon ([]) ∷ Encode 4 ((field (codes "foo") (codes "bar")) ∷ (field (codes "baz") (codes "bar"))
    ∷ (field (codes "foo") (codes "quxx")) ∷ []) ∷ [])) 4) ≡ 3 ∷ 129 ∷ 16 ∷ 17 ∷ 0 ∷ 132 ∷ 237 ∷ 111 ∷ 159 ∷ 63 ∷ []
unfolding rows
abandoned_0 = refl

-- has the same instructions
abandoned_0_instructions : (in_flight_of
    (session_after 76 4 (Abandon ([]) ∷ Encode 4
    ((field (codes "foo") (codes "bar")) ∷ (field (codes "baz") (codes "bar")) ∷ (field (codes "foo") (codes "quxx"))
    ∷ []) ∷ []))) ≡ 98 ∷ 148 ∷ 231 ∷ 131 ∷ 140 ∷ 118 ∷ 127 ∷ 99 ∷ 140 ∷ 126 ∷ 255 ∷ 131 ∷ 140 ∷ 118 ∷ 127 ∷ []
unfolding rows
abandoned_0_instructions = refl

-- a block given up behind 1 insertions, and written again
abandoned_1 : (block_on (session_after 76 4 (Abandon ((field (codes "foo") (codes "bar")) ∷ [])
    ∷ Encode 4 ((field (codes "foo") (codes "bar")) ∷ (field (codes "baz") (codes "bar"))
    ∷ (field (codes "foo") (codes "quxx")) ∷ []) ∷ [])) 4) ≡ 3 ∷ 128 ∷ 128 ∷ 16 ∷ 64 ∷ 132 ∷ 237 ∷ 111 ∷ 159 ∷ 63 ∷ []
unfolding rows
abandoned_1 = refl

-- has the same instructions
abandoned_1_instructions : (in_flight_of
    (session_after 76 4 (Abandon ((field (codes "foo") (codes "bar")) ∷ [])
    ∷ Encode 4 ((field (codes "foo") (codes "bar")) ∷ (field (codes "baz") (codes "bar"))
    ∷ (field (codes "foo") (codes "quxx")) ∷ []) ∷ []))) ≡ 98 ∷ 148 ∷ 231 ∷ 131 ∷ 140 ∷ 118 ∷ 127 ∷ 99 ∷ 140 ∷ 126
    ∷ 255 ∷ 131 ∷ 140 ∷ 118 ∷ 127 ∷ []
unfolding rows
abandoned_1_instructions = refl

-- a block given up behind 2 insertions, and written again
abandoned_2 : (block_on (session_after 76 4
    (Abandon ((field (codes "foo") (codes "bar")) ∷ (field (codes "baz") (codes "bar")) ∷ [])
    ∷ Encode 4 ((field (codes "foo") (codes "bar")) ∷ (field (codes "baz") (codes "bar"))
    ∷ (field (codes "foo") (codes "quxx")) ∷ []) ∷ [])) 4) ≡ 3 ∷ 0 ∷ 129 ∷ 128 ∷ 65 ∷ 132 ∷ 237 ∷ 111 ∷ 159 ∷ 63 ∷ []
unfolding rows
abandoned_2 = refl

-- has the same instructions
abandoned_2_instructions : (in_flight_of
    (session_after 76 4 (Abandon ((field (codes "foo") (codes "bar")) ∷ (field (codes "baz") (codes "bar")) ∷ [])
    ∷ Encode 4 ((field (codes "foo") (codes "bar")) ∷ (field (codes "baz") (codes "bar"))
    ∷ (field (codes "foo") (codes "quxx")) ∷ []) ∷ []))) ≡ 98 ∷ 148 ∷ 231 ∷ 131 ∷ 140 ∷ 118 ∷ 127 ∷ 99 ∷ 140 ∷ 126
    ∷ 255 ∷ 131 ∷ 140 ∷ 118 ∷ 127 ∷ []
unfolding rows
abandoned_2_instructions = refl
