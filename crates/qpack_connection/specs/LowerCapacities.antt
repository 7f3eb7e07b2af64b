-- A capacity that waits comes: while it waits no section is added to those that hold entries, and an encode announces it
-- once none of them is left (RFC 9204, sections 2.1.1, 3.2.3 and 4.3.1).
use Rattle.std.specs.Prelude.{◌≡◌, ◌≤◌, ◌+◌, ℕ, ◌⊎◌, List, [], ◌∷◌, None, Some, Ok, Err}
use Rattle.std.specs.List.{AllByRecursion}
use Rattle.qpack_spec.specs.Instruction.{DecoderInstruction}
use Rattle.qpack_spec.specs.Table.{fields_in}
use Rattle.qpack_spec.specs.Window.{eviction_count}
use Rattle.qpack_rules.specs.StrictInstructions.{hear_in_turn}
use Rattle.qpack_encoding.specs.declared.encoder.EncoderSettings.{EncoderSettings}
use Rattle.qpack_encoding.specs.Encoders.{EncodingEnd, IsUnused, begun, told, written_alone}
use Rattle.qpack_connection.specs.LawfulDecoders.{Call, Encode, SetCapacity, Shrink, Receive, Step, Run}

-- no section is unacknowledged, and the peer is known to have received the newest entry that the capacity evicts
pub record IsSettled (capacity : ℕ) (e : EncodingEnd) : Type 0 where
  pub acknowledged : e.table.unacknowledged ≡ []
  pub known : e.table.dropped + eviction_count capacity (fields_in e.table.live) ≤ e.table.known_received_count

-- the capacity waits on: a section references no entry, an encode changes nothing, and the table changes only by what the
-- peer acknowledges, cancels and reports
abbrev pub WaitsOn : ℕ → Call → EncodingEnd → EncodingEnd → Type 0
WaitsOn capacity (Encode s fields wishes section (Ok required)) old new =
    (required ≡ 0) × (section ≡ written_alone fields) × (new ≡ old)
WaitsOn capacity (Encode s fields wishes section (Err e)) old new = new ≡ old
WaitsOn capacity (Receive bytes answer) old new =
    (new.wanted ≡ Some capacity)
    × (heard : List DecoderInstruction) × (hear_in_turn old.table heard ≡ Ok new.table)
WaitsOn capacity call old new = (new.wanted ≡ Some capacity) × (new.table ≡ old.table)

-- the capacity is announced: an encode gives it to the table, and none waits any more
pub record IsAnnounced (capacity : ℕ) (old new : EncodingEnd) : Type 0 where
  pub begins : begun old ≡ told capacity (begun old).table old
  pub capacity_is : (begun old).table.capacity ≡ capacity
  pub wanted : new.wanted ≡ None

abbrev pub Comes : ℕ → Call → EncodingEnd → EncodingEnd → Type 0
Comes capacity (Encode s fields wishes section answer) old new = IsAnnounced capacity old new
Comes capacity call old new = ⊥

-- an encode that returns a section announces it where nothing holds what it evicts
abbrev pub MustCome : ℕ → Call → EncodingEnd → EncodingEnd → Type 0
MustCome capacity (Encode s fields wishes section (Ok required)) old new =
    IsSettled capacity old → IsAnnounced capacity old new
MustCome capacity call old new = Unit {0}

-- no capacity is set
abbrev pub SetsNone : Call → Type 0
SetsNone (SetCapacity capacity answer) = ⊥
SetsNone (Shrink capacity answer) = ⊥
SetsNone call = Unit {0}

-- each call in turn leaves the capacity waiting, up to the encode that announces it
abbrev pub AllWait : ℕ → (calls : List Call) (old new : EncodingEnd) → Run calls old new → Type 0
AllWait capacity [] old new run = Unit {0}
AllWait capacity (call ∷ calls) old new run =
    MustCome capacity call old run.0
    × (Comes capacity call old run.0 ⊎ (WaitsOn capacity call old run.0 × AllWait capacity calls run.0 new run.2))

-- for a capacity that waits after any calls of an unused encoder, and any calls since that set none, whatever the peer
-- writes
abbrev pub LowerCapacitiesCome : Type 0
LowerCapacitiesCome =
    (settings : EncoderSettings) (before since : List Call) (first old waits now : EncodingEnd) (capacity : ℕ)
    → IsUnused settings first → Run before first old → Step (Shrink capacity (Ok tt)) old waits
    → waits.wanted ≡ Some capacity → (run : Run since waits now) → AllByRecursion SetsNone since
    → AllWait capacity since waits now run
