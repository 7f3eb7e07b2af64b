-- The streams that may be blocked, as an encoder knows of them (RFC 9204, section 2.1.2).
use Rattle.std.specs.Prelude.{◌≡◌, ◌≤◌, ◌<◌, ◌^◌, ℕ, Bool, true, false, ◌&&◌, if◌then◌else◌, nat_eq, nat_lt, nat_le, List, [], ◌∷◌, ◌++◌}
use Rattle.std.specs.Prelude.{map, filter}
use Rattle.std.specs.List.{list_any, AllByRecursion}
use Rattle.std.specs.Option.{is_some}
use Rattle.qpack_spec.specs.Reading.{greatest_of}
use Rattle.qpack_rules.specs.StrictInstructions.{oldest_required}
use Rattle.qpack_spec.specs.Table.{Table, UnacknowledgedBlock, has_number, with_numbers}
use Rattle.qpack_shared.specs.declared.streams.BlockedStream.{BlockedStream}
use Rattle.qpack_shared.specs.Streams.{without}

-- ---- of a table

-- a section requires more insertions than this many
abbrev pub requires_above : ℕ → UnacknowledgedBlock → Bool
requires_above known b = nat_lt known (greatest_of b.entries)

-- a stream has such a section among these
abbrev pub is_at_risk : ℕ → ℕ → List UnacknowledgedBlock → Bool
is_at_risk known stream bs = list_any (λ b. nat_eq b.stream stream && requires_above known b) bs

-- the streams, each once, that have a section which is neither acknowledged nor cancelled and requires insertions that are
-- not known to be received
abbrev pub streams_at_risk : Table → List ℕ
streams_at_risk t =
    with_numbers [] (map (λ b. b.stream) (filter (λ b. requires_above t.known_received_count b) t.unacknowledged))

-- the table with another limit of blocked sections
abbrev pub with_limit : ℕ → Table → Table
with_limit n t = record t { limit = n }

-- its limit while a section is written: as many as it keeps if the stream may be blocked, else none
abbrev pub limit_for : Bool → ℕ
limit_for may = if may then 4096 else 0

-- ---- as an end keeps them

-- the stream of a number is among these, with more insertions required than this many
abbrev pub is_kept_above : ℕ → ℕ → List BlockedStream → Bool
is_kept_above known stream rs = list_any (λ r. nat_eq r.stream stream && nat_lt known r.required) rs

-- the stream is among these, with as many insertions required or more
abbrev pub covers : BlockedStream → List BlockedStream → Bool
covers b rs = list_any (λ r. nat_eq r.stream b.stream && nat_le b.required r.required) rs

-- the streams with one more, or with more insertions required of it
abbrev pub with_stream : BlockedStream → List BlockedStream → List BlockedStream
with_stream b rs = if covers b rs then rs else without b.stream rs ++ b ∷ []

-- the streams with an unacknowledged section that requires more than is known to be received
abbrev pub still_at_risk : Table → List BlockedStream → List BlockedStream
still_at_risk t rs =
    filter (λ r. nat_lt t.known_received_count r.required && is_some (oldest_required r.stream t.unacknowledged)) rs

-- no number comes twice
abbrev pub AreDistinct : List ℕ → Type 0
AreDistinct [] = Unit {0}
AreDistinct (n ∷ ns) = (has_number n ns ≡ false) × AreDistinct ns

-- these are the streams at risk, each once, with the most insertions that a section of each requires
pub record AreAtRisk (rs : List BlockedStream) (t : Table) : Type 0 where
  pub once : AreDistinct (map (λ r. r.stream) rs)
  pub above : AllByRecursion (λ r. nat_lt t.known_received_count r.required ≡ true) rs
  pub small : AllByRecursion (λ r. r.required < 2 ^ 64) rs
  pub known : t.known_received_count < 2 ^ 64
  pub each : (known stream : ℕ) → t.known_received_count ≤ known
      → is_kept_above known stream rs ≡ is_at_risk known stream t.unacknowledged

-- an end keeps the streams at risk of its table, which takes the sections of them for as many as it can keep
pub record TracksRisk (rs : List BlockedStream) (t : Table) : Type 0 where
  pub streams : AreAtRisk rs t
  pub limit : t.limit ≡ 4096
