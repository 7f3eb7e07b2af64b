-- The streams that are blocked: each has a section that waits for insertions (RFC 9204, sections 2.1.2 and 2.2.1).
use Rattle.std.specs.Prelude.{◌≡◌, ◌≤◌, ◌<◌, ◌&&◌, ◌||◌, ℕ, ⊤, Bool, false, if◌then◌else◌, nat_eq, nat_lt, nat_le}
use Rattle.std.specs.Prelude.{List, [], ◌∷◌, length, filter, find, Option, None, Some, Result, Ok, Err}
use Rattle.std.specs.Option.{option_map, is_some}
use Rattle.std.specs.declared.cmp.Ordering.{Ordering}
use Rattle.std.specs.Ordering.{nat_cmp, ordering_then}
use Rattle.std.specs.List.Sorted.{IsStrictlySortedBy}
use Rattle.std.specs.BTreeMap.{BTreeMap, get}
use Rattle.qpack_shared.specs.Streams.{without}
use Rattle.qpack_shared.specs.declared.streams.BlockedStream.{BlockedStream}
use Rattle.qpack_decoding.specs.declared.blocked.NotBlocked.{NotBlocked}
use Rattle.qpack_decoding.specs.declared.blocked.NotBlocked.TheVariants.{TooMany, Memory}

-- the required insert count of the stream's section when it was last passed, if the stream is here
abbrev pub required_of : ℕ → List BlockedStream → Option ℕ
required_of stream bs = option_map (λ b. b.required) (find (λ b. nat_eq b.stream stream) bs)

-- whether a stream is among these
abbrev pub is_listed : ℕ → List BlockedStream → Bool
is_listed stream bs = is_some (required_of stream bs)

-- more insertions than this many are required
abbrev pub exceeds : ℕ → Option ℕ → Bool
exceeds inserted None = false
exceeds inserted (Some required) = nat_lt inserted required

-- whether a stream is blocked after this many insertions (section 2.1.2)
abbrev pub is_blocked : ℕ → ℕ → List BlockedStream → Bool
is_blocked inserted stream bs = exceeds inserted (required_of stream bs)

-- how many of the streams are blocked after this many insertions
abbrev pub blocked_among : ℕ → List BlockedStream → ℕ
blocked_among inserted bs = length (filter (λ b. nat_lt inserted b.required) bs)

-- the first stream that waits for no more than this many insertions
abbrev pub ready : ℕ → List BlockedStream → Option ℕ
ready inserted bs = option_map (λ b. b.stream) (find (λ b. nat_le b.required inserted) bs)

-- a stream comes before another one: it waits for fewer insertions, or for as many and its number is lower
abbrev pub comes_before : BlockedStream → BlockedStream → Bool
comes_before a b =
    nat_lt a.required b.required || (nat_eq a.required b.required && nat_lt a.stream b.stream)

-- the streams with one more, at its place in this order
abbrev pub in_order : BlockedStream → List BlockedStream → List BlockedStream
in_order b [] = b ∷ []
in_order b (x ∷ xs) = if comes_before b x then b ∷ x ∷ xs else x ∷ in_order b xs

-- the streams with this one, at its place, in place of the one of its number
abbrev pub with_blocked : BlockedStream → List BlockedStream → List BlockedStream
with_blocked b bs = in_order b (without b.stream bs)

-- a stream is not counted yet with what its section requires
abbrev pub IsCountedAnew : BlockedStream → List BlockedStream → Type 0
IsCountedAnew b bs = required_of b.stream bs ≡ Some b.required → ⊥

-- no two of them are of one stream
abbrev pub AreOfOneEach : List BlockedStream → Type 0
AreOfOneEach [] = Unit {0}
AreOfOneEach (b ∷ bs) = (is_listed b.stream bs ≡ false) × AreOfOneEach bs

-- the order of two streams: by how many insertions they wait for, and then by their numbers
abbrev pub by_count : BlockedStream → BlockedStream → Ordering
by_count a b = ordering_then (nat_cmp a.required b.required) (nat_cmp a.stream b.stream)

-- streams in this order, each once, and a map from each stream to what its section requires
pub record AreMapped (bs : List BlockedStream) (m : BTreeMap ℕ ℕ) : Type 0 where
  pub ordered : IsStrictlySortedBy by_count bs
  pub once : AreOfOneEach bs
  pub each : (stream : ℕ) → get nat_cmp m stream ≡ required_of stream bs

-- a stream may become blocked after this many insertions, under this limit of blocked streams: it is blocked already,
-- or fewer are (section 2.1.2)
abbrev pub MayBlockAmong : ℕ → ℕ → ℕ → List BlockedStream → Type 0
MayBlockAmong inserted most stream bs = is_blocked inserted stream bs ≡ false → blocked_among inserted bs < most

-- a stream becomes blocked, if it may; it is one too many; or memory is refused, if it may be blocked and does not yet
-- count with what its section requires. Unless it becomes blocked, nothing changes
abbrev pub Blocks : List BlockedStream → List BlockedStream → BlockedStream → ℕ → ℕ → Result ⊤ NotBlocked → Type 0
Blocks old new b inserted most (Ok done) =
    (new ≡ with_blocked b old) × MayBlockAmong inserted most b.stream old
Blocks old new b inserted most (Err TooMany) =
    (new ≡ old) × (is_blocked inserted b.stream old ≡ false) × (most ≤ blocked_among inserted old)
Blocks old new b inserted most (Err Memory) =
    (new ≡ old) × IsCountedAnew b old × MayBlockAmong inserted most b.stream old
