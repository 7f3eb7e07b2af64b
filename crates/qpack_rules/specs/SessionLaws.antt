-- The laws of a session's definitions, as statements; the crate's law functions promise them.
use Rattle.std.specs.Prelude.{◌≡◌, ◌<◌, ◌≤◌, ◌^◌, ◌↔◌, ℕ, true, false, length, filter, take, Some}
use Rattle.qpack_rules.specs.Session.{sum_of, IsPiece, pieces_of, KeptStream, requires_entry, stream_at, skip_reason}
use Rattle.qpack_rules.specs.Session.{Session, Event, Encode, Decode, ToDecoder, ToEncoder, Acknowledge, Cancel}
use Rattle.qpack_rules.specs.Session.{ChangeCapacity, Outcome, NoMemory, Step}
use Rattle.std.specs.List.{AllByRecursion}

-- every event has an outcome at every session, without a refusal for memory: so what is promised of all outcomes is no
-- empty promise
abbrev pub EventsHaveAnswers : Type 0
EventsHaveAnswers = (v : Session) (e : Event) → (o : Outcome) × (v' : Session) × Step v e o v' × (o ≡ NoMemory → ⊥)

-- ---- what is skipped

-- why an event on a stream is skipped, in this order: the stream number is invalid (RFC 9000, section 2.1); the stream
-- is cancelled; what the event asks for is not there
pub data IsOutsideOn (v : Session) (s : ℕ) (IsThere : Type 0) (missing reason : ℕ) : Type 0 where
  number_too_great : 2 ^ 62 ≤ s → reason ≡ 1 → IsOutsideOn v s IsThere missing reason
  was_cancelled : s < 2 ^ 62 → (stream_at v.streams s).cancelled ≡ true → reason ≡ 3
      → IsOutsideOn v s IsThere missing reason
  is_not_there : s < 2 ^ 62 → (stream_at v.streams s).cancelled ≡ false → (IsThere → ⊥) → reason ≡ missing
      → IsOutsideOn v s IsThere missing reason

-- a block of the stream is not decoded yet
abbrev pub HasUndecoded : KeptStream → Type 0
HasUndecoded k = k.decoded < length k.blocks

-- a decoded block of the stream that requires an entry is not acknowledged yet
abbrev pub HasUnacknowledged : KeptStream → Type 0
HasUnacknowledged k = k.acknowledged < length (filter requires_entry (take k.decoded k.blocks))

-- an event is outside a lawful session, for this reason: 1, its stream number is too great; 2, nothing is to be decoded
-- on its stream; 3, its stream is cancelled; 4, nothing is to be acknowledged on it. A delivery and a capacity never
-- are
abbrev pub IsOutside : Session → Event → ℕ → Type 0
IsOutside v (Encode s fields) reason = (2 ^ 62 ≤ s) × (reason ≡ 1)
IsOutside v (Decode s) reason = IsOutsideOn v s (HasUndecoded (stream_at v.streams s)) 2 reason
IsOutside v (ToDecoder n) reason = ⊥
IsOutside v (ToEncoder n) reason = ⊥
IsOutside v (Acknowledge s) reason = IsOutsideOn v s (HasUnacknowledged (stream_at v.streams s)) 4 reason
IsOutside v (Cancel s) reason = IsOutsideOn v s (Unit {0}) 0 reason
IsOutside v (ChangeCapacity n) reason = ⊥

-- an event is skipped exactly if it is outside a lawful session, for that reason
abbrev pub EventsAreSkippedExactly : Type 0
EventsAreSkippedExactly =
    (v : Session) (e : Event) (reason : ℕ) → (skip_reason v e ≡ Some reason) ↔ IsOutside v e reason

-- the pieces in which insertions are reported add up to them
abbrev pub PiecesAddUp : Type 0
PiecesAddUp = (many : ℕ) → sum_of (pieces_of many) ≡ many

-- each of them is an increment from 1 to 64
abbrev pub PiecesAreSmall : Type 0
PiecesAreSmall = (many : ℕ) → AllByRecursion IsPiece (pieces_of many)
