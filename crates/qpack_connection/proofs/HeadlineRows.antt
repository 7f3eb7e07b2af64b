-- The headline of two ends on an example: a run that is right, and others that differ from it by one thing. Each of
-- these is refused.
use Rattle.std.proofs.Common.{◌<◌, ◌^◌, ℕ, suc, Bool, true, false, List, [], ◌∷◌, ◌++◌, take, length, Ok, Err}
use Rattle.std.proofs.Common.{refl, arith}
use Rattle.std.specs.Global.{Vec}
use denote.RawPtr.{null_ptr}
use Rattle.qpack_spec.specs.Field.{FieldLine}
use Rattle.qpack_codec.specs.declared.encoder.choices.Wish.TheVariants.{Unmarked}
use denote.RawPtr.{null_ptr}
use Rattle.qpack_decoding.specs.FieldSections.{SectionView}
use Rattle.qpack_decoding.specs.declared.decoder.DecodingError.TheVariants as decoding
use Rattle.qpack_encoding.specs.declared.encoder.EncodingError.TheVariants as encoding
use Rattle.qpack_decoding.specs.declared.section.LineError.TheVariants.{TooLarge}
use Rattle.qpack_decoding.specs.declared.section.Reading.TheVariants.{Fields, Blocked}
use Rattle.qpack_decoding.specs.declared.section.SectionError.TheVariants.{TooLong, CountAtZero, Line}
use Rattle.qpack_connection.specs.declared.connection.ConnectionSettings.{ConnectionSettings}
use Rattle.qpack_connection.specs.declared.connection.Event.{Event}
use Rattle.qpack_connection.specs.declared.connection.Event.TheVariants as event
use Rattle.qpack_connection.specs.declared.connection.Outcome.{Outcome}
use Rattle.qpack_connection.specs.declared.connection.Outcome.TheVariants.{Encoded, CapacitySet, Delivered, Heard}
use Rattle.qpack_connection.specs.declared.connection.Outcome.TheVariants.{Decoded, Cancelled, Skipped, NoRoom}
use Rattle.qpack_connection.specs.declared.connection.Skip.TheVariants.{NothingToDecode, StreamCancelled}
use Rattle.qpack_connection.specs.declared.connection.fields.OwnedFieldLine.{OwnedFieldLine}
use Rattle.qpack_connection.specs.Headline.{EventsAnswerWhatWasHanded}

-- ---- the run

-- a vector of these elements
abbrev pub vec : {X : Type 0} → (xs : List X) → length xs < 2 ^ 63 → Vec X
vec xs few =
    record {
      ptr = null_ptr;
      len = length xs;
      cap = length xs;
      alloc = record { memory = record { seal = tt } };
      items = xs;
      ok = (refl, omega arith);
      small = few;
    }

-- a field of a name and a value of one byte each
abbrev pub owned : ℕ → ℕ → Bool → OwnedFieldLine
owned name value mark =
    record {
      name = vec (name ∷ []) (omega arith);
      value = vec (value ∷ []) (omega arith);
      never_indexed = mark;
      wish = Unmarked;
    }

abbrev pub line : ℕ → ℕ → Bool → FieldLine
line name value mark = record { field = record { name = name ∷ []; value = value ∷ [] }; never_indexed = mark }

abbrev pub settings : ℕ → ℕ → ConnectionSettings
settings most limit =
    record {
      decoder = record { max_capacity = 4096; max_blocked = most; max_section_size = limit };
      capacity = 4096;
      most_unacknowledged = 100;
    }

-- fields that were answered, in as much memory as it may be
abbrev pub shown : List FieldLine → SectionView
shown fields = record { fields = fields; text_at = null_ptr; text_room = 0; fields_room = 0 }

-- an encode of these fields, and a decode that answered these
abbrev pub encode : ℕ → (fields : List OwnedFieldLine) → length fields < 2 ^ 63 → Event
encode s fields few = event.Encode s (vec fields few)

abbrev pub decoded : ℕ → List FieldLine → Outcome
decoded required fields = Decoded (Ok (Fields required)) (shown fields)

abbrev pub waits : ℕ → Outcome
waits required = Decoded (Ok (Blocked required)) (shown [])

abbrev events : List Event
events =
    event.SetCapacity 4096
    ∷ encode 0 (owned 1 2 false ∷ owned 3 4 true ∷ []) (omega arith)
    ∷ encode 4 (owned 1 5 false ∷ []) (omega arith)
    ∷ encode 0 (owned 1 6 false ∷ []) (omega arith)
    ∷ event.Decode 0
    ∷ event.ToDecoder 40
    ∷ event.Decode 0
    ∷ event.Decode 0
    ∷ event.Decode 0
    ∷ event.ToEncoder 100
    ∷ event.Decode 4
    ∷ event.Cancel 4
    ∷ event.Decode 4
    ∷ event.ToDecoder (2 ^ 63)
    ∷ encode 8 [] (omega arith)
    ∷ event.SetCapacity 5000
    ∷ encode (2 ^ 62) [] (omega arith)
    ∷ []

abbrev outcomes : List Outcome
outcomes =
    CapacitySet (Ok tt)
    ∷ Encoded (Ok 1)
    ∷ Encoded (Ok 2)
    ∷ Encoded (Ok 0)
    ∷ waits 1
    ∷ Delivered (Ok 1)
    ∷ decoded 1 (line 1 2 false ∷ line 3 4 true ∷ [])
    ∷ decoded 0 (line 1 6 false ∷ [])
    ∷ Skipped NothingToDecode
    ∷ Heard (Ok tt)
    ∷ waits 2
    ∷ Cancelled (Ok tt)
    ∷ Skipped StreamCancelled
    ∷ Delivered (Ok 2)
    ∷ NoRoom
    ∷ CapacitySet (Err encoding.CapacityTooLarge)
    ∷ Encoded (Err (encoding.NoStream (2 ^ 62)))
    ∷ []

-- it is right, where one stream may wait, and the sizes of a section may be 1,000
accepted : EventsAnswerWhatWasHanded (settings 1 1000) events outcomes
accepted = grind arith

-- the run up to an event, from 0 on, with another outcome of this event
abbrev Answered : ConnectionSettings → ℕ → Outcome → Type 0
Answered settings n o = EventsAnswerWhatWasHanded settings (take (suc n) events) (take n outcomes ++ o ∷ [])

-- memory may be refused, or a section be past the limit
no_memory : Answered (settings 1 1000) 6 (Decoded (Err decoding.Memory) (shown []))
no_memory = grind arith

past_the_limit : Answered (settings 1 67) 6 (Decoded (Err (decoding.Section 0 (Line 2 5 (TooLarge 68)))) (shown []))
past_the_limit = grind arith

-- ---- runs that differ by one thing

-- with this outcome the run up to an event is refused
abbrev Refused : ℕ → Outcome → Type 0
Refused n o = Answered (settings 1 1000) n o → ⊥

-- of fields that were decoded: another value, a lost mark, a field too few, a field too many, another order
another_value : Refused 6 (decoded 1 (line 1 9 false ∷ line 3 4 true ∷ []))
another_value r = grind (r, arith)

lost_mark : Refused 6 (decoded 1 (line 1 2 false ∷ line 3 4 false ∷ []))
lost_mark r = grind (r, arith)

field_too_few : Refused 6 (decoded 1 (line 1 2 false ∷ []))
field_too_few r = grind (r, arith)

field_too_many : Refused 7 (decoded 0 (line 1 6 false ∷ line 1 6 false ∷ []))
field_too_many r = grind (r, arith)

fields_in_another_order : Refused 6 (decoded 1 (line 3 4 true ∷ line 1 2 false ∷ []))
fields_in_another_order r = grind (r, arith)

-- of sections: none, a later one first, one of another stream, one twice, one more than were handed
no_fields : Refused 6 (decoded 1 [])
no_fields r = grind (r, arith)

later_section_first : Refused 6 (decoded 0 (line 1 6 false ∷ []))
later_section_first r = grind (r, arith)

section_of_another_stream : Refused 6 (decoded 1 (line 1 5 false ∷ []))
section_of_another_stream r = grind (r, arith)

section_twice : Refused 7 (decoded 1 (line 1 2 false ∷ line 3 4 true ∷ []))
section_twice r = grind (r, arith)

section_too_many : Refused 8 (decoded 0 (line 1 6 false ∷ []))
section_too_many r = grind (r, arith)

-- of required insert counts: another one is answered, or waited for
another_count : Refused 6 (decoded 2 (line 1 2 false ∷ line 3 4 true ∷ []))
another_count r = grind (r, arith)

waits_for_another_count : Refused 4 (waits 2)
waits_for_another_count r = grind (r, arith)

-- of waits: with fields, where all was received that is required, or none where it was not
waits_with_fields : Refused 4 (Decoded (Ok (Blocked 1)) (shown (line 1 2 false ∷ [])))
waits_with_fields r = grind (r, arith)

waits_in_vain : Refused 6 (waits 1)
waits_in_vain r = grind (r, arith)

waits_for_nothing : Refused 7 (waits 0)
waits_for_nothing r = grind (r, arith)

does_not_wait_at_first : Refused 4 (decoded 1 (line 1 2 false ∷ line 3 4 true ∷ []))
does_not_wait_at_first r = grind (r, arith)

does_not_wait : Refused 10 (decoded 2 (line 1 5 false ∷ []))
does_not_wait r = grind (r, arith)

-- of skips: for the other reason, with no reason, or none where there is one
skipped_as_cancelled : Refused 8 (Skipped StreamCancelled)
skipped_as_cancelled r = grind (r, arith)

skipped_as_empty : Refused 12 (Skipped NothingToDecode)
skipped_as_empty r = grind (r, arith)

skipped_for_no_reason : Refused 6 (Skipped NothingToDecode)
skipped_for_no_reason r = grind (r, arith)

encode_is_skipped : Refused 1 (Skipped StreamCancelled)
encode_is_skipped r = grind (r, arith)

cancelled_stream_waits : Refused 12 (waits 2)
cancelled_stream_waits r = grind (r, arith)

-- of errors: a stream is refused, a section is, its fields are within the limit, a stream is one too many, or an end
-- is over
encoder_stream_refused : Refused 5 (Delivered (Err (decoding.TooManyBlocked 0)))
encoder_stream_refused r = grind (r, arith)

decoder_stream_refused : Refused 9 (Heard (Err encoding.Memory))
decoder_stream_refused r = grind (r, arith)

count_at_zero : Refused 6 (Decoded (Err (decoding.Section 0 CountAtZero)) (shown []))
count_at_zero r = grind (r, arith)

within_the_limit : Refused 6 (Decoded (Err (decoding.Section 0 TooLong)) (shown []))
within_the_limit r = grind (r, arith)

too_many_blocked : Refused 4 (Decoded (Err (decoding.TooManyBlocked 0)) (shown []))
too_many_blocked r = grind (r, arith)

memory_with_fields : Refused 6 (Decoded (Err decoding.Memory) (shown (line 1 2 false ∷ [])))
memory_with_fields r = grind (r, arith)

no_room_to_decode : Refused 6 NoRoom
no_room_to_decode r = grind (r, arith)

no_such_stream : Refused 1 (Encoded (Err (encoding.NoStream 0)))
no_such_stream r = grind (r, arith)

nothing_to_hold : Refused 0 (CapacitySet (Err encoding.EntriesHeld))
nothing_to_hold r = grind (r, arith)

encode_holds_entries : Refused 1 (Encoded (Err encoding.EntriesHeld))
encode_holds_entries r = grind (r, arith)

-- of deliveries and capacities: fewer insertions than all that was delivered, a capacity that is refused, or is not
not_all : Refused 13 (Delivered (Ok 1))
not_all r = grind (r, arith)

capacity_within_refused : Refused 0 (CapacitySet (Err encoding.CapacityTooLarge))
capacity_within_refused r = grind (r, arith)

capacity_above_set : Refused 15 (CapacitySet (Ok tt))
capacity_above_set r = grind (r, arith)

great_number_encoded : Refused 16 (Encoded (Ok 0))
great_number_encoded r = grind (r, arith)

answer_of_another_kind : Refused 9 (Delivered (Ok 1))
answer_of_another_kind r = grind (r, arith)

-- of the run as it is: no stream may wait, the limit is lower, an outcome is missing, or there is one more
none_may_wait : EventsAnswerWhatWasHanded (settings 0 1000) events outcomes → ⊥
none_may_wait r = grind (r, arith)

lower_limit : EventsAnswerWhatWasHanded (settings 1 67) events outcomes → ⊥
lower_limit r = grind (r, arith)

one_missing : EventsAnswerWhatWasHanded (settings 1 1000) events (take 16 outcomes) → ⊥
one_missing r = grind (r, arith)

one_more : EventsAnswerWhatWasHanded (settings 1 1000) events (outcomes ++ NoRoom ∷ []) → ⊥
one_more r = grind (r, arith)

-- ---- how many streams wait

-- of five streams with a section each, two may wait at a time. One waits once, however often that is answered; it waits
-- no longer once enough insertions were received, its section is decoded, or it is cancelled
abbrev pub section_of : ℕ → Event
section_of s = encode s (owned 1 s false ∷ []) (omega arith)

abbrev waiting_events : List Event
waiting_events =
    section_of 0
    ∷ section_of 4
    ∷ section_of 8
    ∷ section_of 12
    ∷ section_of 16
    ∷ event.Decode 0
    ∷ event.Decode 0
    ∷ event.Decode 4
    ∷ event.ToDecoder 40
    ∷ event.Decode 8
    ∷ event.Cancel 8
    ∷ event.Decode 0
    ∷ event.Decode 12
    ∷ []

abbrev waiting_outcomes : List Outcome
waiting_outcomes =
    Encoded (Ok 1)
    ∷ Encoded (Ok 2)
    ∷ Encoded (Ok 3)
    ∷ Encoded (Ok 4)
    ∷ Encoded (Ok 5)
    ∷ waits 1
    ∷ waits 1
    ∷ waits 2
    ∷ Delivered (Ok 1)
    ∷ waits 3
    ∷ Cancelled (Ok tt)
    ∷ decoded 1 (line 1 0 false ∷ [])
    ∷ waits 4
    ∷ []

two_wait : EventsAnswerWhatWasHanded (settings 2 1000) waiting_events waiting_outcomes
two_wait = grind arith

-- after these events no third stream waits
abbrev NoThird : ℕ → ℕ → ℕ → Type 0
NoThird n s required =
    EventsAnswerWhatWasHanded (settings 2 1000) (take n waiting_events ++ event.Decode s ∷ [])
    (take n waiting_outcomes ++ waits required ∷ []) → ⊥

not_beside_two : NoThird 8 8 3
not_beside_two r = grind (r, arith)

not_after_a_delivery : NoThird 10 12 4
not_after_a_delivery r = grind (r, arith)

not_after_a_cancellation : NoThird 13 16 5
not_after_a_cancellation r = grind (r, arith)

-- after these the decoding end does not answer fewer insertions than before
does_not_fall : EventsAnswerWhatWasHanded (settings 2 1000) (waiting_events ++ event.ToDecoder 40 ∷ [])
    (waiting_outcomes ++ Delivered (Ok 0) ∷ []) → ⊥
does_not_fall r = grind (r, arith)
