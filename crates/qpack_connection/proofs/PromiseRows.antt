-- What the laws of each end with any peer promise, on calls that break it: each promise refuses such a call, whatever the
-- end is before it and after it.
use Rattle.std.proofs.Common.{Bool, true, length-append, refl}
use Rattle.std.proofs.Common.{◌≡◌, ◌+◌, ◌<◌, ◌≤◌, ◌^◌, ℕ, false, List, [], ◌∷◌, length, Option, Some, None, Ok, Err, ap, sym, ◌∙◌, arith}
use Rattle.std.proofs.lemmas.Option.{none-some}
use Rattle.qpack_spec.specs.Field.{FieldLine}
use Rattle.qpack_rules.specs.LawfulDecoders.{KeepsNeeded, IsQuiet, IsToBeInserted}
use Rattle.qpack_spec.specs.Table.{insert_count}
use Rattle.qpack_codec.specs.declared.encoder.choices.Wish.{Wish}
use Rattle.qpack_codec.specs.declared.encoder.choices.Wish.TheVariants.{Insert}
use Rattle.qpack_encoding.specs.Encoders.{EncodingEnd, begun, is_full}
use Rattle.qpack_encoding.specs.Risk.{streams_at_risk}
use Rattle.qpack_decoding.specs.declared.decoder.DecodingError.{DecodingError}
use Rattle.qpack_decoding.specs.declared.decoder.DecodingError.TheVariants as decoding
use Rattle.qpack_encoding.specs.declared.encoder.EncoderSettings.{EncoderSettings}
use Rattle.qpack_encoding.specs.declared.encoder.EncodingError.{EncodingError}
use Rattle.qpack_encoding.specs.declared.encoder.EncodingError.TheVariants as encoding
use Rattle.qpack_decoding.specs.Decoders.{DecodingEnd}
use Rattle.qpack_decoding.specs.declared.section.Reading.TheVariants.{Fields, Blocked}
use Rattle.qpack_decoding.specs.declared.section.SectionError.{SectionError}
use Rattle.qpack_decoding.specs.declared.section.reader.Progress.TheVariants.{Waits, Prefix, Field, Ends}
use Rattle.qpack_connection.specs.Connections.{SentSection}
use Rattle.qpack_connection.specs.LawfulDecoders as decoders
use Rattle.qpack_connection.specs.LawfulEncoders as encoders

-- ---- a decoding end, with a lawful encoder

-- what is promised refuses a call with such a result
abbrev pub Breaks : encoders.Call → Type 0
Breaks call =
    (old new : encoders.Decoder) (run : encoders.Run (call ∷ []) old new)
    (asked : encoders.AreLawful (call ∷ []) old new run) → encoders.AllAnswer (call ∷ []) old new run asked → ⊥

-- the encoder stream is refused, or some of it is left
stream_refused : Breaks (encoders.Receive [] [] (Err (decoding.TooManyBlocked 0)))
stream_refused old new run asked r = grind (r, arith)

bytes_left : Breaks (encoders.Receive (1 ∷ []) (1 ∷ []) (Ok 0))
bytes_left old new run asked r = grind (r, arith)

-- more insertions are returned than were received
counts_too_many : (total : ℕ) (bytes : List ℕ) (old new : encoders.Decoder)
    (run : encoders.Run (encoders.Receive bytes [] (Ok total) ∷ []) old new)
    (asked : encoders.AreLawful (encoders.Receive bytes [] (Ok total) ∷ []) old new run)
    → insert_count run.0.end.table < total
    → encoders.AllAnswer (encoders.Receive bytes [] (Ok total) ∷ []) old new run asked → ⊥
counts_too_many total bytes old new run asked more r = omega (arith, more, r.0.0)

-- a section is decoded with a field more, or with another count; it waits and gives a field
field_more : (s : ℕ) (k : SentSection) (l : FieldLine) → Breaks (encoders.Decode s k (l ∷ k.fields) (Ok (Fields k.required)))
field_more s k l old new run asked r = omega (arith, ap length r.0.0)

another_count : (s : ℕ) (k : SentSection) → Breaks (encoders.Decode s k k.fields (Ok (Fields (k.required + 1))))
another_count s k old new run asked r = omega (arith, r.0.1)

waits_with_a_field : (s : ℕ) (k : SentSection) (l : FieldLine)
    → Breaks (encoders.Decode s k (l ∷ []) (Ok (Blocked k.required)))
waits_with_a_field s k l old new run asked r = omega (arith, ap length r.0.0)

-- it is decoded before it can be
too_early : (s : ℕ) (k : SentSection) (old new : encoders.Decoder)
    (run : encoders.Run (encoders.Decode s k k.fields (Ok (Fields k.required)) ∷ []) old new)
    (asked : encoders.AreLawful (encoders.Decode s k k.fields (Ok (Fields k.required)) ∷ []) old new run)
    → insert_count old.end.table < k.required
    → encoders.AllAnswer (encoders.Decode s k k.fields (Ok (Fields k.required)) ∷ []) old new run asked → ⊥
too_early s k old new run asked early r = omega (arith, early, r.0.2)

-- a section, or a cancellation, is refused as one stream too many
one_too_many : (s : ℕ) (k : SentSection) → Breaks (encoders.Decode s k [] (Err (decoding.TooManyBlocked s)))
one_too_many s k old new run asked r = grind (r, arith)

cancel_refused : (s : ℕ) → Breaks (encoders.Cancel s (Err (decoding.TooManyBlocked s)))
cancel_refused s old new run asked r = grind (r, arith)

-- a piece of a section gives two fields; or another than the next, as one that was given already
two_fields : (s : ℕ) (bytes left : List ℕ) (last : Bool) (f g : FieldLine)
    → Breaks (encoders.Read s bytes left last (f ∷ g ∷ []) (Ok Field))
two_fields s bytes left last f g old new run asked r = omega (arith, ap length r.0.2)

given_again : (s : ℕ) (bytes left : List ℕ) (last : Bool) (f g : FieldLine) (others : List FieldLine)
    (old new : encoders.Decoder) (run : encoders.Run (encoders.Read s bytes left last (f ∷ []) (Ok Field) ∷ []) old new)
    (asked : encoders.AreLawful (encoders.Read s bytes left last (f ∷ []) (Ok Field) ∷ []) old new run)
    → asked.0.coming.fields ≡ g ∷ others → (f ≡ g → ⊥)
    → encoders.AllAnswer (encoders.Read s bytes left last (f ∷ []) (Ok Field) ∷ []) old new run asked → ⊥
given_again s bytes left last f g others old new run asked next other r =
    let given : (f ∷ []) ≡ (r.0.0 ∷ []) = r.0.2 in
    let is : (g ∷ others) ≡ (r.0.0 ∷ r.0.1) = sym next ∙ r.0.3 in
    other (let same : f ≡ g = cc in same)

-- bytes of a line that is cut are left; more is waited for, though these are the last
cut_line_left : (s b : ℕ) (bytes left : List ℕ) (last : Bool) → Breaks (encoders.Read s bytes (b ∷ left) last [] (Ok Waits))
cut_line_left s b bytes left last old new run asked r = omega (arith, ap length r.0.1)

waits_for_more : (s : ℕ) (bytes left : List ℕ) → Breaks (encoders.Read s bytes left true [] (Ok Waits))
waits_for_more s bytes left old new run asked r = absurd (let e = r.0.2 in cc)

-- a section ends, and so is acknowledged, before its last field was given, or before its last byte has come
ends_before_a_field : (s required : ℕ) (bytes left : List ℕ) (last : Bool) (f : FieldLine) (others : List FieldLine)
    (old new : encoders.Decoder)
    (run : encoders.Run (encoders.Read s bytes left last [] (Ok (Ends required)) ∷ []) old new)
    (asked : encoders.AreLawful (encoders.Read s bytes left last [] (Ok (Ends required)) ∷ []) old new run)
    → asked.0.coming.fields ≡ f ∷ others
    → encoders.AllAnswer (encoders.Read s bytes left last [] (Ok (Ends required)) ∷ []) old new run asked → ⊥
ends_before_a_field s required bytes left last f others old new run asked next r =
    omega (arith, ap length (sym next ∙ r.0.1))

ends_before_a_byte : (s required b : ℕ) (bytes left behind : List ℕ) (last : Bool) (old new : encoders.Decoder)
    (run : encoders.Run (encoders.Read s bytes left last [] (Ok (Ends required)) ∷ []) old new)
    (asked : encoders.AreLawful (encoders.Read s bytes left last [] (Ok (Ends required)) ∷ []) old new run)
    → asked.0.more ≡ b ∷ behind
    → encoders.AllAnswer (encoders.Read s bytes left last [] (Ok (Ends required)) ∷ []) old new run asked → ⊥
ends_before_a_byte s required b bytes left behind last old new run asked next r =
    omega (arith, ap length r.0.2, length-append left asked.0.more, ap length next)

-- no call acknowledges a section at its prefix, or with a field
acknowledges_a_prefix : (s required : ℕ) (bytes left : List ℕ) (last : Bool) (old new : encoders.Decoder)
    (run : encoders.Run (encoders.Read s bytes left last [] (Ok (Prefix required)) ∷ []) old new)
    → length old.end.unsent < length run.0.end.unsent → ⊥
acknowledges_a_prefix s required bytes left last old new run more =
    omega (arith, more, ap (λ (d : DecodingEnd). length d.unsent) run.1.0.reads.1.2)

acknowledges_a_field : (s : ℕ) (bytes left : List ℕ) (last : Bool) (fields : List FieldLine) (old new : encoders.Decoder)
    (run : encoders.Run (encoders.Read s bytes left last fields (Ok Field) ∷ []) old new)
    → length old.end.unsent < length run.0.end.unsent → ⊥
acknowledges_a_field s bytes left last fields old new run more =
    omega (arith, more, ap (λ (d : DecodingEnd). length d.unsent) run.1.0.reads.1.2)

-- a piece is refused
piece_refused : (s : ℕ) (bytes left : List ℕ) (last : Bool) (e : SectionError)
    → Breaks (encoders.Read s bytes left last [] (Err (decoding.Section s e)))
piece_refused s bytes left last e old new run asked r = r.0

-- an error ends the connection, whatever the call returns
ended : (call : encoders.Call) (e : DecodingError) (old new : encoders.Decoder)
    (run : encoders.Run (call ∷ []) old new) (asked : encoders.AreLawful (call ∷ []) old new run)
    → run.0.end.failure ≡ Some e → encoders.AllAnswer (call ∷ []) old new run asked → ⊥
ended call e old new run asked failed r = none-some e (sym r.1 ∙ failed)

-- ---- an encoding end, with any peer

-- one stream more is at risk than the settings allow
one_more_at_risk : (settings : EncoderSettings) (call : decoders.Call) (old new : EncodingEnd)
    (run : decoders.Run (call ∷ []) old new) → settings.max_blocked < length (streams_at_risk run.0.table)
    → decoders.AllCareful settings (call ∷ []) old new run → ⊥
one_more_at_risk settings call old new run many r = omega (arith, many, r.1.blocked)

-- an entry is evicted that may still be needed
needed_is_evicted : (settings : EncoderSettings) (call : decoders.Call) (old new : EncodingEnd)
    (run : decoders.Run (call ∷ []) old new) → (KeepsNeeded run.0.table → ⊥)
    → decoders.AllCareful settings (call ∷ []) old new run → ⊥
needed_is_evicted settings call old new run evicted r = evicted r.1.needed

-- a section that was written does not count
not_counted : (settings : EncoderSettings) (s required : ℕ) (fields : List FieldLine) (wishes : List Wish)
    (section : List ℕ) (old new : EncodingEnd)
    (run : decoders.Run (decoders.Encode s fields wishes section (Ok required) ∷ []) old new)
    → (decoders.CountsSection (begun old) run.0 s fields section → ⊥)
    → decoders.AllCareful settings (decoders.Encode s fields wishes section (Ok required) ∷ []) old new run → ⊥
not_counted settings s required fields wishes section old new run forgotten r = forgotten r.0

-- ---- an encoding end, with a lawful decoder

-- the decoder stream is refused, a section or a capacity is for a reason that there is not
heard_refused : (settings : EncoderSettings) (bytes : List ℕ) (e : EncodingError) (old new : EncodingEnd)
    (run : decoders.Run (decoders.Receive bytes (Err e) ∷ []) old new)
    → decoders.AllAnswer settings (decoders.Receive bytes (Err e) ∷ []) old new run → ⊥
heard_refused settings bytes e old new run r = grind (r, arith)

encode_holds_entries : (settings : EncoderSettings) (s : ℕ) (old new : EncodingEnd)
    (run : decoders.Run (decoders.Encode s [] [] [] (Err encoding.EntriesHeld) ∷ []) old new)
    → decoders.AllAnswer settings (decoders.Encode s [] [] [] (Err encoding.EntriesHeld) ∷ []) old new run → ⊥
encode_holds_entries settings s old new run r = grind (r, arith)

capacity_has_no_stream : (settings : EncoderSettings) (capacity : ℕ) (old new : EncodingEnd)
    (run : decoders.Run (decoders.SetCapacity capacity (Err (encoding.NoStream 4)) ∷ []) old new)
    → decoders.AllAnswer settings (decoders.SetCapacity capacity (Err (encoding.NoStream 4)) ∷ []) old new run → ⊥
capacity_has_no_stream settings capacity old new run r = grind (r, arith)

shrink_holds_entries : (settings : EncoderSettings) (capacity : ℕ) (old new : EncodingEnd)
    (run : decoders.Run (decoders.Shrink capacity (Err encoding.EntriesHeld) ∷ []) old new)
    → decoders.AllAnswer settings (decoders.Shrink capacity (Err encoding.EntriesHeld) ∷ []) old new run → ⊥
shrink_holds_entries settings capacity old new run r = r.0.0 refl

-- insertions do not go on where nothing is under way
stops_inserting : (settings : EncoderSettings) (s required : ℕ) (l : FieldLine) (section : List ℕ)
    (old new : EncodingEnd)
    (run : decoders.Run (decoders.Encode s (l ∷ []) (Insert ∷ []) section (Ok required) ∷ []) old new)
    → IsQuiet (begun old).table → IsToBeInserted (begun old).table l → 0 < settings.max_blocked
    → is_full (begun old) ≡ false → insert_count (begun old).table < 2 ^ 62
    → required ≤ insert_count (begun old).table
    → decoders.AllAnswer settings (decoders.Encode s (l ∷ []) (Insert ∷ []) section (Ok required) ∷ []) old new run → ⊥
stops_inserting settings s required l section old new run quiet wanted some room small none r =
    omega (arith, none, r.0 quiet wanted some room small)

-- an error ends the connection
encoder_ended : (settings : EncoderSettings) (call : decoders.Call) (e : EncodingError) (old new : EncodingEnd)
    (run : decoders.Run (call ∷ []) old new) → run.0.failure ≡ Some e
    → decoders.AllAnswer settings (call ∷ []) old new run → ⊥
encoder_ended settings call e old new run failed r = none-some e (sym r.1 ∙ failed)
