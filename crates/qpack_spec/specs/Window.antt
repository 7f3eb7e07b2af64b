-- The part of a dynamic table that both ends share, and what an instruction does to it (RFC 9204, section 3.2).
use Rattle.std.specs.Prelude.{ℕ, suc, ◌+◌, ◌-◌, ◌^◌, min, if◌then◌else◌, nat_lt, nat_le, nat_eq, List, [], ◌∷◌, ◌++◌}
use Rattle.std.specs.Prelude.{length, drop, Option, None, Some, slice_get, Result, Ok, Err}
use Rattle.qpack_spec.specs.Bytes.{◌>>=◌}
use Rattle.qpack_spec.specs.Field.{Field, field_size, total_size}
use Rattle.qpack_spec.specs.StaticTable.{static_table}
use Rattle.qpack_spec.specs.Instruction.{EncoderInstruction, InsertStaticName, InsertDynamicName, InsertLiteralName}
use Rattle.qpack_spec.specs.Instruction.{Duplicate}
use Rattle.qpack_spec.specs.Instruction.{SetCapacity}

-- capacity, maximum capacity, how many entries were dropped, and the live ones, the oldest first. Absolute indexes
-- begin at 1: the live ones are dropped + 1 to dropped + length live (section 3.2.4, which begins at 0).
--     absolute index   1 .. dropped | dropped + 1 ..       .. dropped + length live
--                      evicted      | the oldest live one   the newest one, an instruction's relative index 0
pub record Window : Type 0 where
  pub capacity : ℕ
  pub agreed_max : Option ℕ
  pub dropped : ℕ
  pub live : List Field

-- the maximum table capacity of section 3.2.3: what was agreed, and the present capacity until then
abbrev pub maximum_capacity : Option ℕ → ℕ → ℕ
maximum_capacity None capacity = capacity
maximum_capacity (Some most) capacity = most

-- the greatest capacity that may be set (section 3.2.3): the maximum capacity, and never 2^30 or more
abbrev pub greatest_capacity : Option ℕ → ℕ
greatest_capacity None = 2 ^ 30 - 1
greatest_capacity (Some most) = min most (2 ^ 30 - 1)

-- how many insertions were ever made
abbrev pub window_insert_count : Window → ℕ
window_insert_count w = w.dropped + length w.live

-- the live entry of an absolute index (section 3.2.4)
unfoldable pub absolute_entry : Window → ℕ → Option Field
absolute_entry w absolute = if nat_lt w.dropped absolute then slice_get w.live (absolute - w.dropped - 1) else None

-- the live entry of an instruction's relative index: 0 is the newest (section 3.2.5)
unfoldable pub relative_entry : Window → ℕ → Option Field
relative_entry w relative = if nat_lt relative (length w.live) then slice_get w.live
    (length w.live - 1 - relative) else None

-- the least number of oldest entries whose removal lets the rest fit (section 3.2.2)
unfoldable pub eviction_count : ℕ → List Field → ℕ
eviction_count capacity [] = 0
eviction_count capacity (f ∷ fs) = if nat_le (total_size (f ∷ fs)) capacity then 0 else suc (eviction_count capacity fs)

-- why an instruction is refused: it references no live entry or no static field, a field is larger than the capacity, a
-- capacity would evict an entry that is not evictable, a capacity is above the greatest one, or no block of the stream
-- is open
pub data TableRefusal : Type 0 where
  NoEntry : (relative : ℕ) → TableRefusal
  NoStaticField : (index : ℕ) → TableRefusal
  DoesNotFit : TableRefusal
  AboveMaximum : TableRefusal
  UnknownStream : (stream : ℕ) → TableRefusal

-- what an encoder instruction does once what it references is found
pub data Effect : Type 0 where
  Inserts : (field : Field) → Effect
  Ignored : Effect
  Resizes : (capacity : ℕ) → Effect

-- what is there, or the refusal
abbrev pub or_refusal : {X : Type 0} → Option X → TableRefusal → Result X TableRefusal
or_refusal None e = Err e
or_refusal (Some x) e = Ok x

-- the field with another value
abbrev pub with_value : List ℕ → Field → Field
with_value value f = record { name = f.name; value = value }

-- an insertion at capacity 0 or after the 2^62th does nothing, one larger than the capacity is refused
unfoldable pub insertion : Window → Field → Result Effect TableRefusal
insertion w f =
    if nat_eq w.capacity 0 then Ok Ignored
    else if nat_le (field_size f) w.capacity
    then (if nat_lt (window_insert_count w) (2 ^ 62) then Ok (Inserts f) else Ok Ignored)
    else Err DoesNotFit

-- what an instruction does at a window (section 4.3), or why it is refused
unfoldable pub effect : Window → EncoderInstruction → Result Effect TableRefusal
effect w (InsertStaticName index value) =
    or_refusal (slice_get static_table index) (NoStaticField index) >>= λ f. insertion w (with_value value f)
effect w (InsertDynamicName relative value) =
    or_refusal (relative_entry w relative) (NoEntry relative) >>= λ f. insertion w (with_value value f)
effect w (InsertLiteralName name value) = insertion w (record { name = name; value = value })
effect w (Duplicate relative) = or_refusal (relative_entry w relative) (NoEntry relative) >>= λ f. insertion w f
effect w (SetCapacity n) = if nat_le n (greatest_capacity w.agreed_max) then Ok (Resizes n) else Err AboveMaximum

-- the window after an effect: entries that no longer fit are evicted, the oldest first (section 3.2.2)
unfoldable pub window_after : Window → Effect → Window
window_after w (Inserts f) =
    let all = w.live ++ f ∷ [] in
    let evicted = eviction_count w.capacity all in
    record w { dropped = w.dropped + evicted; live = drop evicted all }
window_after w Ignored = w
window_after w (Resizes n) =
    let evicted = eviction_count n w.live in
    record { capacity = n; agreed_max = w.agreed_max; dropped = w.dropped + evicted; live = drop evicted w.live }

-- the window after an instruction
abbrev pub apply : Window → EncoderInstruction → Result Window TableRefusal
apply w i = effect w i >>= λ e. Ok (window_after w e)
