-- THE HEADLINE: the outcomes of a session, by its events and outcomes alone. No table, no byte and no rule occurs in
-- it.
--
-- How to read it. A session is a list of pairs, each an event with its outcome, in the order in which they happened;
-- `Event` and `Outcome` name them (Session of qpack_spec). From such a list are read off
--   * the encodes of a stream that succeeded: the fields passed to each, and the required insert count returned;
--   * the decodes of a stream that returned fields: those fields.
-- `AnswersWhatWasHanded`, at the end, says two things of the list.
--   1. On each stream the fields that were decoded are the first of those that were encoded, in order: the k-th decode
--      that returned fields returned exactly the fields that were passed to the k-th encode that succeeded.
--   2. Each outcome is right after the pairs before it (`IsRight`, an event a line). No stream is ever refused. Each
--      event may run out of memory, except a delivery to the encoder. What is skipped is skipped for its reason: a
--      stream number that is too great (1), nothing to decode (2), a cancelled stream (3), nothing to acknowledge (4).
--      A decode that returns no fields returns the required insert count that the encode of its block returned.
-- The law `sessions_answer_what_was_handed` proves it of every run of the definitions, `run` of h3_qpack of the code.
use Rattle.std.specs.Prelude.{◌≡◌, ◌≤◌, ◌^◌, ◌+◌, ◌⊎◌, ◌||◌, ℕ, Bool, true, false, not, if◌then◌else◌, nat_lt, nat_eq}
use Rattle.std.specs.Prelude.{List, [], ◌∷◌, ◌++◌, length, map, take, filter, Option, Some, slice_get}
use Rattle.qpack_spec.specs.Field.{Field, total_size}
use Rattle.qpack_rules.specs.Session.{Event, Encode, Decode, ToDecoder, ToEncoder, Acknowledge, Cancel, ChangeCapacity}
use Rattle.qpack_rules.specs.Session.{Outcome, Encoded, Decoded, MissingReferences, Delivered, Heard, Acknowledged}
use Rattle.qpack_rules.specs.Session.{Cancelled, CapacitySet, CapacityRefused, NoMemory, Skipped, Session, Run}
use Rattle.qpack_rules.specs.Session.{initial_session}
use Rattle.qpack_spec.specs.Stateless.{saturated_size}
use Rattle.qpack_spec.specs.Window.{TableRefusal}

-- ---- what is read off a list of events with their outcomes

-- an encode that succeeded: the fields that were passed to it, and the required insert count that it returned
pub record AnsweredEncode : Type 0 where
  pub fields : List Field
  pub required : ℕ

-- the encode of an event on this stream, if it is one that succeeded
abbrev pub encode_of : ℕ → Event → Outcome → List AnsweredEncode
encode_of s (Encode stream fields) (Encoded required) =
    if nat_eq stream s then record { fields = fields; required = required } ∷ [] else []
encode_of s e o = []

-- the encodes of a stream that succeeded, in order: each wrote the next block of the stream
abbrev pub encodes_on : ℕ → List (Event × Outcome) → List AnsweredEncode
encodes_on s [] = []
encodes_on s (p ∷ ps) = encode_of s p.0 p.1 ++ encodes_on s ps

-- the fields of a decode of an event on this stream, if it is one that returned fields
abbrev pub fields_decoded_of : ℕ → Event → Outcome → List (List Field)
fields_decoded_of s (Decode stream) (Decoded fields size is_dynamic) = if nat_eq stream s then fields ∷ [] else []
fields_decoded_of s e o = []

-- the fields that were decoded on a stream, decode by decode
abbrev pub fields_decoded_on : ℕ → List (Event × Outcome) → List (List Field)
fields_decoded_on s [] = []
fields_decoded_on s (p ∷ ps) = fields_decoded_of s p.0 p.1 ++ fields_decoded_on s ps

-- 1 if the event is a decode on this stream that returned fields
abbrev pub decode_of : ℕ → Event → Outcome → ℕ
decode_of s (Decode stream) (Decoded fields size is_dynamic) = if nat_eq stream s then 1 else 0
decode_of s e o = 0

-- how many decodes of a stream returned fields: each read the next block of the stream
abbrev pub decodes_on : ℕ → List (Event × Outcome) → ℕ
decodes_on s [] = 0
decodes_on s (p ∷ ps) = decode_of s p.0 p.1 + decodes_on s ps

-- the encode that wrote the next block to be decoded on a stream
abbrev pub next_encode : ℕ → List (Event × Outcome) → Option AnsweredEncode
next_encode s events = slice_get (encodes_on s events) (decodes_on s events)

-- 1 if the event is an acknowledgment on this stream that was written
abbrev pub acknowledgment_of : ℕ → Event → Outcome → ℕ
acknowledgment_of s (Acknowledge stream) Acknowledged = if nat_eq stream s then 1 else 0
acknowledgment_of s e o = 0

-- how many acknowledgments of a stream were written
abbrev pub acknowledgments_on : ℕ → List (Event × Outcome) → ℕ
acknowledgments_on s [] = 0
acknowledgments_on s (p ∷ ps) = acknowledgment_of s p.0 p.1 + acknowledgments_on s ps

-- how many blocks of a stream that require an entry were decoded: this many are to be acknowledged
abbrev pub to_acknowledge_on : ℕ → List (Event × Outcome) → ℕ
to_acknowledge_on s events =
    length (filter (λ encode. not (nat_eq encode.required 0)) (take (decodes_on s events) (encodes_on s events)))

-- the event cancelled this stream
abbrev pub cancels : ℕ → Event → Outcome → Bool
cancels s (Cancel stream) Cancelled = nat_eq stream s
cancels s e o = false

-- a stream was cancelled
abbrev pub is_cancelled : ℕ → List (Event × Outcome) → Bool
is_cancelled s [] = false
is_cancelled s (p ∷ ps) = cancels s p.0 p.1 || is_cancelled s ps

-- ---- each outcome

-- an event on a stream is skipped for its reason
pub data IsSkippedRightly (before : List (Event × Outcome)) (s : ℕ) (o : Outcome) : Type 0 where
  great_number : 2 ^ 62 ≤ s → o ≡ Skipped 1 → IsSkippedRightly before s o
  stream_cancelled : is_cancelled s before ≡ true → o ≡ Skipped 3 → IsSkippedRightly before s o

-- what a decode returns: the fields that were passed to the encode of its block, the sum of their sizes, which
-- saturates at 2^64 - 1, and whether any entry is required; that the required insert count is missing which that encode
-- returned; out of memory; or that it is skipped
pub data IsRightDecode (before : List (Event × Outcome)) (s : ℕ) (o : Outcome) : Type 0 where
  fields_handed : (encode : AnsweredEncode) → next_encode s before ≡ Some encode
      → o ≡ Decoded encode.fields (saturated_size (total_size encode.fields)) (nat_lt 0 encode.required)
      → IsRightDecode before s o
  count_missing : (encode : AnsweredEncode) → next_encode s before ≡ Some encode
      → o ≡ MissingReferences encode.required → IsRightDecode before s o
  decode_wants_memory : o ≡ NoMemory → IsRightDecode before s o
  nothing_to_decode : length (encodes_on s before) ≤ decodes_on s before → o ≡ Skipped 2 → IsRightDecode before s o
  decode_skipped : IsSkippedRightly before s o → IsRightDecode before s o

-- the outcome of an event after these pairs
abbrev pub IsRight : List (Event × Outcome) → Event → Outcome → Type 0
IsRight before (Encode s fields) o =
    ((required : ℕ) × (o ≡ Encoded required)) ⊎ (o ≡ NoMemory) ⊎ ((2 ^ 62 ≤ s) × (o ≡ Skipped 1))
IsRight before (Decode s) o = IsRightDecode before s o
IsRight before (ToDecoder n) o = ((received : ℕ) × (o ≡ Delivered received)) ⊎ (o ≡ NoMemory)
IsRight before (ToEncoder n) o = o ≡ Heard
IsRight before (Acknowledge s) o =
    (o ≡ Acknowledged) ⊎ (o ≡ NoMemory)
    ⊎ ((to_acknowledge_on s before ≤ acknowledgments_on s before) × (o ≡ Skipped 4)) ⊎ IsSkippedRightly before s o
IsRight before (Cancel s) o = (o ≡ Cancelled) ⊎ (o ≡ NoMemory) ⊎ IsSkippedRightly before s o
IsRight before (ChangeCapacity n) o =
    (o ≡ CapacitySet) ⊎ ((refusal : TableRefusal) × (o ≡ CapacityRefused refusal)) ⊎ (o ≡ NoMemory)

-- ---- the headline

pub record AnswersWhatWasHanded (events : List (Event × Outcome)) : Type 0 where
  -- on each stream the fields that were decoded are the first of those that were encoded
  pub in_order : (s : ℕ) → (more : List (List Field))
      × (map (λ encode. encode.fields) (encodes_on s events) ≡ fields_decoded_on s events ++ more)
  -- each outcome is right after the pairs before it
  pub each : (before after : List (Event × Outcome)) (e : Event) (o : Outcome) → events ≡ before ++ (e, o) ∷ after
      → IsRight before e o

-- of every session, at every capacity up to its maximum capacity, and every limit
abbrev pub SessionsAnswerWhatWasHanded : Type 0
SessionsAnswerWhatWasHanded =
    (capacity maximum limit : ℕ) → capacity ≤ maximum → (events : List (Event × Outcome)) (v : Session)
    → Run (initial_session capacity maximum limit) events v → AnswersWhatWasHanded events
