-- The headline of two ends on cancellations, on errors, and on what is kept after an event that changes nothing: short
-- runs, each of which is right or is refused for one thing.
use Rattle.std.proofs.Common.{ℕ, ◌+◌, ◌^◌, true, false, List, [], ◌∷◌, Ok, Err, arith}
use Rattle.qpack_decoding.specs.declared.decoder.DecodingError.TheVariants as decoding
use Rattle.qpack_encoding.specs.declared.encoder.EncodingError.TheVariants as encoding
use Rattle.qpack_decoding.specs.declared.section.LineError.TheVariants.{TooLarge, PastRequired}
use Rattle.qpack_decoding.specs.declared.section.SectionError.TheVariants.{TooLong, Line}
use Rattle.qpack_connection.specs.declared.connection.Event.{Event}
use Rattle.qpack_connection.specs.declared.connection.Event.TheVariants as event
use Rattle.qpack_connection.specs.declared.connection.Outcome.{Outcome}
use Rattle.qpack_connection.specs.declared.connection.Outcome.TheVariants.{Encoded, CapacitySet, Delivered, Heard}
use Rattle.qpack_connection.specs.declared.connection.Outcome.TheVariants.{Decoded, Cancelled, Skipped, NoRoom}
use Rattle.qpack_connection.specs.declared.connection.Skip.TheVariants.{NothingToDecode, StreamCancelled}
use Rattle.qpack_connection.specs.declared.connection.ConnectionSettings.{ConnectionSettings}
use Rattle.qpack_connection.specs.Headline.{EventsAnswerWhatWasHanded}
use Rattle.qpack_connection.proofs.HeadlineRows.{owned, line, settings, shown, encode, decoded, waits, section_of}

-- the events and outcomes where one stream may wait, and where a limit of 67 bytes lets one of these fields pass
abbrev pub Right : List Event → List Outcome → Type 0
Right events outcomes = EventsAnswerWhatWasHanded (settings 1 1000) events outcomes

abbrev pub Wrong : List Event → List Outcome → Type 0
Wrong events outcomes = Right events outcomes → ⊥

abbrev pub RightWithin : ℕ → List Event → List Outcome → Type 0
RightWithin limit events outcomes = EventsAnswerWhatWasHanded (settings 1 limit) events outcomes

abbrev pub WrongWithin : ℕ → List Event → List Outcome → Type 0
WrongWithin limit events outcomes = RightWithin limit events outcomes → ⊥

-- ---- a cancellation

cancel : Right (event.Cancel 4 ∷ []) (Cancelled (Ok tt) ∷ [])
cancel = grind arith

cancel_without_memory : Right (event.Cancel 4 ∷ []) (Cancelled (Err decoding.Memory) ∷ [])
cancel_without_memory = grind arith

cancel_without_room : Right (event.Cancel 4 ∷ []) (NoRoom ∷ [])
cancel_without_room = grind arith

cancel_twice : Right (event.Cancel 4 ∷ event.Cancel 4 ∷ []) (Cancelled (Ok tt) ∷ Skipped StreamCancelled ∷ [])
cancel_twice = grind arith

cancel_after_no_memory : Right (event.Cancel 4 ∷ event.Cancel 4 ∷ [])
    (Cancelled (Err decoding.Memory) ∷ Cancelled (Ok tt) ∷ [])
cancel_after_no_memory = grind arith

cancel_a_great_number : Right (event.Cancel (2 ^ 62) ∷ []) (Cancelled (Err (decoding.NoStream (2 ^ 62))) ∷ [])
cancel_a_great_number = grind arith

-- another kind of outcome, a skip for no reason or for the other one, and done twice
of_another_kind : Wrong (event.Cancel 4 ∷ []) (Heard (Ok tt) ∷ [])
of_another_kind r = grind (r, arith)

decoded_nothing : Wrong (event.Cancel 4 ∷ []) (waits 1 ∷ [])
decoded_nothing r = grind (r, arith)

skipped_at_first : Wrong (event.Cancel 4 ∷ []) (Skipped StreamCancelled ∷ [])
skipped_at_first r = grind (r, arith)

skipped_as_empty : Wrong (event.Cancel 4 ∷ []) (Skipped NothingToDecode ∷ [])
skipped_as_empty r = grind (r, arith)

done_twice : Wrong (event.Cancel 4 ∷ event.Cancel 4 ∷ []) (Cancelled (Ok tt) ∷ Cancelled (Ok tt) ∷ [])
done_twice r = grind (r, arith)

no_room_twice : Wrong (event.Cancel 4 ∷ event.Cancel 4 ∷ []) (Cancelled (Ok tt) ∷ NoRoom ∷ [])
no_room_twice r = grind (r, arith)

-- an error that is none of a cancellation, an invalid number that is valid or another one, and one that is not refused
another_error : Wrong (event.Cancel 4 ∷ []) (Cancelled (Err (decoding.TooManyBlocked 4)) ∷ [])
another_error r = grind (r, arith)

valid_number_refused : Wrong (event.Cancel 4 ∷ []) (Cancelled (Err (decoding.NoStream 4)) ∷ [])
valid_number_refused r = grind (r, arith)

another_number_refused : Wrong (event.Cancel (2 ^ 62) ∷ []) (Cancelled (Err (decoding.NoStream (2 ^ 62 + 1))) ∷ [])
another_number_refused r = grind (r, arith)

great_number_cancelled : Wrong (event.Cancel (2 ^ 62) ∷ []) (Cancelled (Ok tt) ∷ [])
great_number_cancelled r = grind (r, arith)

great_number_without_memory : Wrong (event.Cancel (2 ^ 62) ∷ []) (Cancelled (Err decoding.Memory) ∷ [])
great_number_without_memory r = grind (r, arith)

-- of a maximum capacity of 0 nothing is sent for a cancellation, so there is no want of memory
abbrev no_table : ConnectionSettings
no_table =
    record {
      decoder = record { max_capacity = 0; max_blocked = 0; max_section_size = 1000 };
      capacity = 0;
      most_unacknowledged = 100;
    }

cancel_without_table : EventsAnswerWhatWasHanded no_table (event.Cancel 4 ∷ []) (Cancelled (Ok tt) ∷ [])
cancel_without_table = grind arith

memory_without_table : EventsAnswerWhatWasHanded no_table (event.Cancel 4 ∷ []) (Cancelled (Err decoding.Memory) ∷ [])
    → ⊥
memory_without_table r = grind (r, arith)

-- ---- which error there is

-- memory is no answer to an invalid number, nor to a capacity above the maximum
encode_without_memory : Wrong (encode (2 ^ 62) [] (omega arith) ∷ []) (Encoded (Err encoding.Memory) ∷ [])
encode_without_memory r = grind (r, arith)

capacity_without_memory : Wrong (event.SetCapacity 4097 ∷ []) (CapacitySet (Err encoding.Memory) ∷ [])
capacity_without_memory r = grind (r, arith)

-- the number that is refused is that of the stream
no_stream_of_another : Wrong (encode (2 ^ 62) [] (omega arith) ∷ []) (Encoded (Err (encoding.NoStream (2 ^ 62 + 4))) ∷ [])
no_stream_of_another r = grind (r, arith)

-- entries are held once a section was encoded, also without memory, and only within the maximum
held_after_an_encode : Right (section_of 0 ∷ event.SetCapacity 30 ∷ [])
    (Encoded (Ok 1) ∷ CapacitySet (Err encoding.EntriesHeld) ∷ [])
held_after_an_encode = grind arith

held_after_no_memory : Right (section_of 0 ∷ event.SetCapacity 30 ∷ [])
    (Encoded (Err encoding.Memory) ∷ CapacitySet (Err encoding.EntriesHeld) ∷ [])
held_after_no_memory = grind arith

held_above_the_maximum : Wrong (section_of 0 ∷ event.SetCapacity 4097 ∷ [])
    (Encoded (Ok 1) ∷ CapacitySet (Err encoding.EntriesHeld) ∷ [])
held_above_the_maximum r = grind (r, arith)

held_without_room : Wrong (section_of 0 ∷ event.SetCapacity 30 ∷ [])
    (NoRoom ∷ CapacitySet (Err encoding.EntriesHeld) ∷ [])
held_without_room r = grind (r, arith)

-- the section that is past the limit is that of the stream, and its line is past it
abbrev pub two_fields : ℕ → Event
two_fields s = encode s (owned 1 2 false ∷ owned 3 4 true ∷ []) (omega arith)

past_the_limit : RightWithin 67 (two_fields 0 ∷ event.Decode 0 ∷ [])
    (Encoded (Ok 1) ∷ Decoded (Err (decoding.Section 0 (Line 2 5 (TooLarge 68)))) (shown []) ∷ [])
past_the_limit = grind arith

section_of_another : WrongWithin 67 (two_fields 0 ∷ event.Decode 0 ∷ [])
    (Encoded (Ok 1) ∷ Decoded (Err (decoding.Section 4 (Line 2 5 (TooLarge 68)))) (shown []) ∷ [])
section_of_another r = grind (r, arith)

another_line_error : WrongWithin 67 (two_fields 0 ∷ event.Decode 0 ∷ [])
    (Encoded (Ok 1) ∷ Decoded (Err (decoding.Section 0 (Line 2 5 (PastRequired 2)))) (shown []) ∷ [])
another_line_error r = grind (r, arith)

-- ---- what is kept

-- who waits is kept where a capacity is set, and where the encoding end hears bytes: a second stream is one too many
waits_beside_a_capacity : Wrong
    (section_of 0 ∷ section_of 4 ∷ event.Decode 0 ∷ event.SetCapacity 4096 ∷ event.Decode 4 ∷ [])
    (Encoded (Ok 1) ∷ Encoded (Ok 2) ∷ waits 1 ∷ CapacitySet (Ok tt) ∷ waits 2 ∷ [])
waits_beside_a_capacity r = grind (r, arith)

waits_beside_heard_bytes : Wrong
    (section_of 0 ∷ section_of 4 ∷ event.Decode 0 ∷ event.ToEncoder 9 ∷ event.Decode 4 ∷ [])
    (Encoded (Ok 1) ∷ Encoded (Ok 2) ∷ waits 1 ∷ Heard (Ok tt) ∷ waits 2 ∷ [])
waits_beside_heard_bytes r = grind (r, arith)

-- what was received is known after a decode without memory, a cancellation, and a section past the limit: no section that
-- requires more is decoded
known_after_no_memory : Wrong (section_of 0 ∷ event.Decode 0 ∷ event.Decode 0 ∷ [])
    (Encoded (Ok 1) ∷ Decoded (Err decoding.Memory) (shown []) ∷ decoded 1 (line 1 0 false ∷ []) ∷ [])
known_after_no_memory r = grind (r, arith)

known_after_a_cancellation : Wrong (section_of 0 ∷ event.Cancel 4 ∷ event.Decode 0 ∷ [])
    (Encoded (Ok 1) ∷ Cancelled (Ok tt) ∷ decoded 1 (line 1 0 false ∷ []) ∷ [])
known_after_a_cancellation r = grind (r, arith)

known_past_the_limit : WrongWithin 67 (two_fields 0 ∷ section_of 4 ∷ event.Decode 0 ∷ event.Decode 4 ∷ [])
    (Encoded (Ok 1) ∷ Encoded (Ok 2) ∷ Decoded (Err (decoding.Section 0 TooLong)) (shown [])
    ∷ decoded 2 (line 1 4 false ∷ []) ∷ [])
known_past_the_limit r = grind (r, arith)

-- it is not after a delivery without memory
unknown_after_a_delivery : Right (section_of 0 ∷ event.ToDecoder 40 ∷ event.Decode 0 ∷ [])
    (Encoded (Ok 1) ∷ Delivered (Err decoding.Memory) ∷ decoded 1 (line 1 0 false ∷ []) ∷ [])
unknown_after_a_delivery = grind arith
