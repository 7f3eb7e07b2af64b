-- THE HEADLINE of two ends: the outcomes of the events of a connection, by events and outcomes alone. No table, no byte
-- of a stream and no rule of the compression occurs in it.
--
-- How to read it. Events are performed one by one, and each has an outcome; `Event` and `Outcome` are those of the
-- code. What they say up to some event is kept in one record, `SoFar`:
--   * of each stream the sections that were passed to encodes and not decoded yet, in order, each with its fields,
--     their marks, and the required insert count that its encode returned; and whether the stream was cancelled;
--   * how many insertions the decoding end is known to have received, and how many it is known not to have; the greatest
--     required insert count that an encode returned; and whether an encode was done;
--   * which streams may wait.
-- `Answers` says what the outcome of an event may be, by what was kept before it. `after` is what is kept after it.
-- `EventsAnswerWhatWasHanded`, at the end, asks that of each event in turn, and that no more streams are known to wait
-- than may.
use Rattle.std.specs.Prelude.{◌≡◌, ◌<◌, ◌≤◌, ◌^◌, ℕ, suc, min, max, ⊤, Bool, true, false, not, if◌then◌else◌, nat_eq}
use Rattle.std.specs.Prelude.{nat_le, nat_lt, List, [], ◌∷◌, ◌++◌, length, drop, filter, Option, None, Some, Result, Ok}
use Rattle.std.specs.Prelude.{Err}
use Rattle.std.specs.Option.{IfSome}
use Rattle.qpack_spec.specs.Field.{FieldLine, fields_of_lines, total_size}
use Rattle.qpack_spec.specs.Stateless.{saturated_size}
use Rattle.qpack_shared.specs.declared.streams.BlockedStream.{BlockedStream}
use Rattle.qpack_decoding.specs.declared.decoder.DecodingError.{DecodingError}
use Rattle.qpack_decoding.specs.declared.decoder.DecodingError.TheVariants as decoding
use Rattle.qpack_encoding.specs.declared.encoder.EncodingError.{EncodingError}
use Rattle.qpack_encoding.specs.declared.encoder.EncodingError.TheVariants as encoding
use Rattle.qpack_decoding.specs.declared.section.LineError.TheVariants as line
use Rattle.qpack_decoding.specs.declared.section.Reading.{Reading}
use Rattle.qpack_decoding.specs.declared.section.Reading.TheVariants as reading
use Rattle.qpack_decoding.specs.declared.section.SectionError.{SectionError}
use Rattle.qpack_decoding.specs.declared.section.SectionError.TheVariants as section
use Rattle.qpack_connection.specs.declared.connection.ConnectionSettings.{ConnectionSettings}
use Rattle.qpack_connection.specs.declared.connection.Event.{Event}
use Rattle.qpack_connection.specs.declared.connection.Event.TheVariants as event
use Rattle.qpack_connection.specs.declared.connection.Outcome.{Outcome}
use Rattle.qpack_connection.specs.declared.connection.Outcome.TheVariants as outcome
use Rattle.qpack_connection.specs.declared.connection.Skip.TheVariants.{NothingToDecode, StreamCancelled}
use Rattle.qpack_connection.specs.OwnedLines.{lines_of}

-- ---- what events and outcomes say, up to here

-- a section that was passed to an encode: its fields, with their marks, and the required insert count that was returned
pub record HandedSection : Type 0 where
  pub fields : List FieldLine
  pub required : ℕ

-- a stream: the sections that were passed and are not decoded, in order, and whether it was cancelled
pub record HandedStream : Type 0 where
  pub sections : List HandedSection
  pub cancelled : Bool

-- each stream; how many insertions the decoding end has received at least; a number that it has not received, if one is
-- known; the greatest required insert count that an encode returned; whether an encode was done; and the streams that may
-- wait, each with the required insert count of its section
pub record SoFar : Type 0 where
  pub streams : ℕ → HandedStream
  pub received : ℕ
  pub below : Option ℕ
  pub required : ℕ
  pub has_encoded : Bool
  pub waiting : List BlockedStream

-- nothing has happened
abbrev pub nothing_yet : SoFar
nothing_yet =
    record {
      streams = λ s. record { sections = []; cancelled = false };
      received = 0;
      below = Some 1;
      required = 0;
      has_encoded = false;
      waiting = [];
    }

-- the streams with one changed
abbrev pub with_handed : ℕ → HandedStream → (ℕ → HandedStream) → ℕ → HandedStream
with_handed s stream streams q = if nat_eq s q then stream else streams q

-- those that wait, without this stream
abbrev pub others : ℕ → List BlockedStream → List BlockedStream
others s waiting = filter (λ w. not (nat_eq w.stream s)) waiting

-- those that wait for certain: their sections require a number of insertions that was not received
abbrev pub known_to_wait : Option ℕ → List BlockedStream → List BlockedStream
known_to_wait None waiting = []
known_to_wait (Some n) waiting = filter (λ w. nat_le n w.required) waiting

-- a number, or another one if it is less
abbrev pub least_of : ℕ → Option ℕ → ℕ
least_of n None = n
least_of n (Some m) = min n m

-- what is kept after an event with this outcome. A section is added at the end, and goes from the front once it is
-- decoded. A stream may wait from the outcome that says so until enough insertions are returned, or its section is decoded
-- or refused, or the stream is cancelled. A delivery for which memory was refused may have received any number more; a
-- section that waits after it shows a number that was not received
abbrev pub after : Event → Outcome → SoFar → SoFar
after (event.Encode s fields) (outcome.Encoded (Ok required)) h =
    record h {
      streams = with_handed s (record (h.streams s) {
        sections = (h.streams s).sections ++ record { fields = lines_of fields.items; required = required } ∷ [];
      }) h.streams;
      required = max h.required required;
      has_encoded = true;
    }
after (event.Encode s fields) (outcome.Encoded (Err e)) h = record h { has_encoded = true }
after (event.ToDecoder many) (outcome.Delivered (Ok total)) h =
    record h { received = total; below = Some (suc total); waiting = filter (λ w. nat_lt total w.required) h.waiting }
after (event.ToDecoder many) (outcome.Delivered (Err e)) h = record h { below = None }
after (event.Decode s) (outcome.Decoded (Ok (reading.Fields required)) fields) h =
    record h {
      streams = with_handed s (record (h.streams s) { sections = drop 1 (h.streams s).sections }) h.streams;
      received = max h.received required;
      waiting = others s h.waiting;
    }
after (event.Decode s) (outcome.Decoded (Ok (reading.Blocked required)) fields) h =
    record h {
      below = Some (least_of required h.below);
      waiting = record { stream = s; required = required } ∷ others s h.waiting;
    }
after (event.Decode s) (outcome.Decoded (Err (decoding.Section q e)) fields) h =
    record h { waiting = others s h.waiting }
after (event.Cancel s) (outcome.Cancelled (Ok done)) h =
    record h {
      streams = with_handed s (record (h.streams s) { cancelled = true }) h.streams;
      waiting = others s h.waiting;
    }
after e o h = h

-- ---- the outcome of an event

-- an encode returns a required insert count, or that memory was refused; or that the stream number is invalid, exactly
-- if it is
abbrev pub AnswersEncode : ℕ → Result ℕ EncodingError → Type 0
AnswersEncode s (Ok required) = s < 2 ^ 62
AnswersEncode s (Err encoding.Memory) = s < 2 ^ 62
AnswersEncode s (Err (encoding.NoStream q)) = (q ≡ s) × (2 ^ 62 ≤ s)
AnswersEncode s (Err e) = ⊥

-- a capacity is refused as too large exactly if it is above the maximum. Otherwise it is set, or memory was refused, or
-- entries that are needed do not fit it, of which there are none before an encode
abbrev pub AnswersCapacity : Bool → ℕ → ℕ → Result ⊤ EncodingError → Type 0
AnswersCapacity has_encoded maximum capacity (Ok done) = capacity ≤ maximum
AnswersCapacity has_encoded maximum capacity (Err encoding.EntriesHeld) =
    (capacity ≤ maximum) × (has_encoded ≡ true)
AnswersCapacity has_encoded maximum capacity (Err encoding.Memory) = capacity ≤ maximum
AnswersCapacity has_encoded maximum capacity (Err encoding.CapacityTooLarge) = maximum < capacity
AnswersCapacity has_encoded maximum capacity (Err e) = ⊥

-- a delivery to the decoding end is never refused. It returns how many insertions were received, or that memory was
-- refused. The number never falls. If all bytes were delivered, it is no less than any section requires that was passed
abbrev pub AnswersDelivery : SoFar → ℕ → Result ℕ DecodingError → Type 0
AnswersDelivery h many (Ok total) = (h.received ≤ total) × (2 ^ 63 ≤ many → h.required ≤ total)
AnswersDelivery h many (Err decoding.Memory) = Unit {0}
AnswersDelivery h many (Err e) = ⊥

-- the decoding end's own limit is passed
abbrev pub IsOfLimit : SectionError → Type 0
IsOfLimit section.TooLong = Unit {0}
IsOfLimit (section.Line number offset (line.TooLarge sum)) = Unit {0}
IsOfLimit e = ⊥

-- the next section of a stream returns exactly the fields that were passed, with their marks, unless it requires a number
-- of insertions that was not received. It waits only if it requires more than are known to be received. Or the sizes of its fields are past the decoding end's own limit, or
-- memory was refused. No field is given unless fields are returned. A sum of sizes saturates at 2^64 - 1
abbrev pub AnswersSection : ℕ → SoFar → ℕ → HandedSection → Result Reading DecodingError → List FieldLine → Type 0
AnswersSection limit h s next (Ok (reading.Fields required)) fields =
    (fields ≡ next.fields) × (required ≡ next.required) × IfSome h.below (λ n. next.required < n)
    × (saturated_size (total_size (fields_of_lines next.fields)) ≤ limit)
AnswersSection limit h s next (Ok (reading.Blocked required)) fields =
    (fields ≡ []) × (required ≡ next.required) × (h.received < next.required)
AnswersSection limit h s next (Err (decoding.Section q e)) fields =
    (fields ≡ []) × (q ≡ s) × IsOfLimit e × (limit < total_size (fields_of_lines next.fields))
AnswersSection limit h s next (Err decoding.Memory) fields = fields ≡ []
AnswersSection limit h s next (Err e) fields = ⊥

-- a decode is skipped exactly if its stream was cancelled, or has no section left. Otherwise its outcome is that of its
-- next section
abbrev pub AnswersDecode : ℕ → SoFar → ℕ → Bool → List HandedSection → Outcome → Type 0
AnswersDecode limit h s true sections o = o ≡ outcome.Skipped StreamCancelled
AnswersDecode limit h s false [] o = o ≡ outcome.Skipped NothingToDecode
AnswersDecode limit h s false (next ∷ more) (outcome.Decoded r fields) = AnswersSection limit h s next r fields.fields
AnswersDecode limit h s false (next ∷ more) o = ⊥

-- a cancellation is done, or the stream number is invalid. Or memory was refused for the bytes that are sent for it, of
-- which there are none if the maximum capacity is 0
abbrev pub AnswersCancellation : ℕ → ℕ → Result ⊤ DecodingError → Type 0
AnswersCancellation maximum s (Ok done) = s < 2 ^ 62
AnswersCancellation maximum s (Err decoding.Memory) = (s < 2 ^ 62) × (0 < maximum)
AnswersCancellation maximum s (Err (decoding.NoStream q)) = (q ≡ s) × (2 ^ 62 ≤ s)
AnswersCancellation maximum s (Err e) = ⊥

-- it is skipped exactly if the stream was cancelled before. Otherwise it returns, or there was no memory to keep it
abbrev pub AnswersCancel : ℕ → ℕ → Bool → Outcome → Type 0
AnswersCancel maximum s true o = o ≡ outcome.Skipped StreamCancelled
AnswersCancel maximum s false (outcome.Cancelled r) = AnswersCancellation maximum s r
AnswersCancel maximum s false outcome.NoRoom = Unit {0}
AnswersCancel maximum s false o = ⊥

-- each event has an outcome of its own kind. A capacity that may wait is refused for no entry. The encoding end refuses
-- nothing of what was delivered to it. There may be no memory to keep a section
abbrev pub Answers : ConnectionSettings → SoFar → Event → Outcome → Type 0
Answers settings h (event.Encode s fields) (outcome.Encoded r) = AnswersEncode s r
Answers settings h (event.Encode s fields) outcome.NoRoom = Unit {0}
Answers settings h (event.SetCapacity capacity) (outcome.CapacitySet r) =
    AnswersCapacity h.has_encoded settings.decoder.max_capacity capacity r
Answers settings h (event.Shrink capacity) (outcome.CapacitySet r) =
    AnswersCapacity false settings.decoder.max_capacity capacity r
Answers settings h (event.ToDecoder many) (outcome.Delivered r) = AnswersDelivery h many r
Answers settings h (event.ToEncoder many) (outcome.Heard r) = r ≡ Ok tt
Answers settings h (event.Decode s) o =
    AnswersDecode settings.decoder.max_section_size h s (h.streams s).cancelled (h.streams s).sections o
Answers settings h (event.Cancel s) o = AnswersCancel settings.decoder.max_capacity s (h.streams s).cancelled o
Answers settings h e o = ⊥

-- ---- the headline

-- each event in turn has such an outcome, and after it no more streams are known to wait than may
abbrev pub AllAnswer : ConnectionSettings → SoFar → List Event → List Outcome → Type 0
AllAnswer settings h [] [] = Unit {0}
AllAnswer settings h (e ∷ es) (o ∷ os) =
    Answers settings h e o
    × (length (known_to_wait (after e o h).below (after e o h).waiting) ≤ settings.decoder.max_blocked)
    × AllAnswer settings (after e o h) es os
AllAnswer settings h es os = ⊥

-- of all events of a connection that was made with these settings
abbrev pub EventsAnswerWhatWasHanded : ConnectionSettings → List Event → List Outcome → Type 0
EventsAnswerWhatWasHanded settings events outcomes = AllAnswer settings nothing_yet events outcomes
