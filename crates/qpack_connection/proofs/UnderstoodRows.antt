-- What a decoding end promises with a lawful encoder, on a section and on results that differ from the right one by one
-- thing: the promise refuses each, whatever the end is before the call and after it.
use Rattle.std.proofs.Common.{◌≡◌, ◌+◌, ◌<◌, ◌≤◌, ◌^◌, ℕ, Bool, true, false, List, [], ◌∷◌, ◌++◌, length, Ok, Err, arith}
use Rattle.qpack_spec.specs.Field.{FieldLine}
use Rattle.qpack_spec.specs.Table.{insert_count}
use Rattle.qpack_codec.specs.declared.error.DecoderError.{DecoderError}
use Rattle.qpack_decoding.specs.declared.decoder.DecodingError.TheVariants as decoding
use Rattle.qpack_shared.specs.declared.place.Place.{Place}
use Rattle.qpack_decoding.specs.declared.section.Reading.TheVariants.{Fields, Blocked}
use Rattle.qpack_decoding.specs.declared.section.SectionError.TheVariants.{TooLong, CountAtZero}
use Rattle.qpack_connection.specs.Connections.{SentSection}
use Rattle.qpack_connection.specs.LawfulEncoders.{Decoder, Call, Receive, Decode, Cancel, Run, AreLawful, AllAnswer}
use Rattle.qpack_connection.proofs.PromiseRows.{Breaks}

-- ---- the encoder stream

-- a call that receives these bytes, and returns this many insertions
abbrev received : List ℕ → ℕ → Call
received bytes total = Receive bytes [] (Ok total)

-- fewer insertions are returned than were received, or than were made once all bytes have come
counts_too_few : (total : ℕ) (bytes : List ℕ) (old new : Decoder) (run : Run (received bytes total ∷ []) old new)
    (asked : AreLawful (received bytes total ∷ []) old new run) → total < insert_count run.0.end.table
    → AllAnswer (received bytes total ∷ []) old new run asked → ⊥
counts_too_few total bytes old new run asked less r = omega (arith, less, r.0.0)

not_all_have_come : (total : ℕ) (bytes : List ℕ) (old new : Decoder) (run : Run (received bytes total ∷ []) old new)
    (asked : AreLawful (received bytes total ∷ []) old new run) → asked.0.0.bytes ≡ old.come ++ bytes
    → total < length asked.0.0.made.inserted → AllAnswer (received bytes total ∷ []) old new run asked → ⊥
not_all_have_come total bytes old new run asked all less r = omega (arith, less, r.0.2 all)

-- an instruction is rejected
instruction_rejected : (bytes left : List ℕ) (place : Place) (e : DecoderError)
    → Breaks (Receive bytes left (Err (decoding.EncoderStream place e)))
instruction_rejected bytes left place e old new run asked r = grind (r, arith)

-- ---- a section

abbrev line : ℕ → ℕ → Bool → FieldLine
line name value mark = record { field = record { name = name ∷ []; value = value ∷ [] }; never_indexed = mark }

-- two fields, the second of which is marked, whose sizes sum to 68; they require two insertions
abbrev sent : List ℕ → SentSection
sent bytes = record { fields = line 1 2 false ∷ line 3 4 true ∷ []; bytes = bytes; required = 2 }

-- it is decoded to other fields
abbrev GivesOthers : List FieldLine → Type 0
GivesOthers fields = (s : ℕ) (bytes : List ℕ) → Breaks (Decode s (sent bytes) fields (Ok (Fields 2)))

another_value : GivesOthers (line 1 9 false ∷ line 3 4 true ∷ [])
another_value s bytes old new run asked r = grind (r, arith)

another_name : GivesOthers (line 9 2 false ∷ line 3 4 true ∷ [])
another_name s bytes old new run asked r = grind (r, arith)

lost_mark : GivesOthers (line 1 2 false ∷ line 3 4 false ∷ [])
lost_mark s bytes old new run asked r = grind (r, arith)

a_mark_more : GivesOthers (line 1 2 true ∷ line 3 4 true ∷ [])
a_mark_more s bytes old new run asked r = grind (r, arith)

field_too_few : GivesOthers (line 1 2 false ∷ [])
field_too_few s bytes old new run asked r = grind (r, arith)

another_order : GivesOthers (line 3 4 true ∷ line 1 2 false ∷ [])
another_order s bytes old new run asked r = grind (r, arith)

-- it waits for another number, or though all was received that it requires
waits_for_another : (s required : ℕ) (bytes : List ℕ) → required < 2
    → Breaks (Decode s (sent bytes) [] (Ok (Blocked required)))
waits_for_another s required bytes fewer old new run asked r = omega (arith, fewer, r.0.1)

waits_in_vain : (s : ℕ) (bytes : List ℕ) (old new : Decoder)
    (run : Run (Decode s (sent bytes) [] (Ok (Blocked 2)) ∷ []) old new)
    (asked : AreLawful (Decode s (sent bytes) [] (Ok (Blocked 2)) ∷ []) old new run) → 2 ≤ insert_count old.end.table
    → AllAnswer (Decode s (sent bytes) [] (Ok (Blocked 2)) ∷ []) old new run asked → ⊥
waits_in_vain s bytes old new run asked there r = omega (arith, there, r.0.2)

-- out of memory it gives a field
memory_with_a_field : (s : ℕ) (bytes : List ℕ) → Breaks (Decode s (sent bytes) (line 1 2 false ∷ []) (Err decoding.Memory))
memory_with_a_field s bytes old new run asked r = grind (r, arith)

-- its stream's number is taken for invalid, or another one is named
valid_number_refused : (s : ℕ) (bytes : List ℕ) → s < 2 ^ 62 → Breaks (Decode s (sent bytes) [] (Err (decoding.NoStream s)))
valid_number_refused s bytes valid old new run asked r = omega (arith, valid, r.0.2)

another_number_refused : (s : ℕ) (bytes : List ℕ) → Breaks (Decode s (sent bytes) [] (Err (decoding.NoStream (s + 4))))
another_number_refused s bytes old new run asked r = omega (arith, r.0.1)

number_with_a_field : (s : ℕ) (bytes : List ℕ)
    → Breaks (Decode s (sent bytes) (line 1 2 false ∷ []) (Err (decoding.NoStream s)))
number_with_a_field s bytes old new run asked r = grind (r, arith)

-- it is rejected for an error that ends the connection; or for the limit, on another stream, with a field, or within it
section_rejected : (s : ℕ) (bytes : List ℕ)
    → Breaks (Decode s (sent bytes) [] (Err (decoding.Section s CountAtZero)))
section_rejected s bytes old new run asked r = grind (r, arith)

section_of_another : (s : ℕ) (bytes : List ℕ) → Breaks (Decode s (sent bytes) [] (Err (decoding.Section (s + 4) TooLong)))
section_of_another s bytes old new run asked r = omega (arith, r.0.1)

too_long_with_a_field : (s : ℕ) (bytes : List ℕ)
    → Breaks (Decode s (sent bytes) (line 1 2 false ∷ []) (Err (decoding.Section s TooLong)))
too_long_with_a_field s bytes old new run asked r = grind (r, arith)

within_the_limit : (s : ℕ) (bytes : List ℕ) (old new : Decoder)
    (run : Run (Decode s (sent bytes) [] (Err (decoding.Section s TooLong)) ∷ []) old new)
    (asked : AreLawful (Decode s (sent bytes) [] (Err (decoding.Section s TooLong)) ∷ []) old new run)
    → 68 ≤ old.end.settings.max_section_size
    → AllAnswer (Decode s (sent bytes) [] (Err (decoding.Section s TooLong)) ∷ []) old new run asked → ⊥
within_the_limit s bytes old new run asked within r = omega (arith, within, r.0.3)

-- the encoder stream is rejected at it
stream_rejected : (s : ℕ) (bytes : List ℕ) (place : Place) (e : DecoderError)
    → Breaks (Decode s (sent bytes) [] (Err (decoding.EncoderStream place e)))
stream_rejected s bytes place e old new run asked r = grind (r, arith)

-- ---- a cancellation

-- its number is taken for invalid, another one is named, or a section is rejected
valid_number_not_cancelled : (s : ℕ) → s < 2 ^ 62 → Breaks (Cancel s (Err (decoding.NoStream s)))
valid_number_not_cancelled s valid old new run asked r = grind (r, valid, arith)

another_number_not_cancelled : (s : ℕ) → Breaks (Cancel s (Err (decoding.NoStream (s + 4))))
another_number_not_cancelled s old new run asked r = grind (r, arith)

cancel_rejects_a_section : (s : ℕ) → Breaks (Cancel s (Err (decoding.Section s CountAtZero)))
cancel_rejects_a_section s old new run asked r = grind (r, arith)
