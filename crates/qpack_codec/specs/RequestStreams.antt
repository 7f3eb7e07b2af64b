-- Request streams, found by their numbers, and what becomes of them.
use Rattle.std.specs.Prelude.{◌≡◌, ℕ, List, nat_eq, if◌then◌else◌}
use Rattle.std.specs.Ordering.{nat_cmp}
use Rattle.std.specs.Map.{lookup}
use Rattle.std.specs.BTreeMap.{is_at}
use Rattle.std.specs.Option.{IsSome}
use Rattle.qpack_rules.specs.Session.{RequestStream, stream_at}

-- no stream changes
abbrev pub KeepsStreams : {B : Type 0} → List (ℕ × RequestStream B) → List (ℕ × RequestStream B) → Type 0
KeepsStreams old new = (s : ℕ) → stream_at new s ≡ stream_at old s

-- one stream becomes this, and no other one changes
abbrev pub ChangesStream : {B : Type 0} → ℕ → RequestStream B → List (ℕ × RequestStream B) → List (ℕ × RequestStream B)
    → Type 0
ChangesStream number k old new = (s : ℕ) → stream_at new s ≡ (if nat_eq number s then k else stream_at old s)

-- there is room for a stream
abbrev pub IsOpen : {B : Type 0} → ℕ → List (ℕ × RequestStream B) → Type 0
IsOpen number streams = IsSome (lookup (is_at (nat_cmp number)) streams)
