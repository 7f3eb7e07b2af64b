-- The absolute index of a slot, by its low 32 bits.
use Rattle.std.proofs.Common.{◌≡◌, ℕ, ◌+◌, ◌^◌, ◌<◌, arith}
use Rattle.qpack_table.specs.Rows.{index_of, slot_of}
use Rattle.qpack_table.specs.declared.dynamic.index.row.Slot.{Slot}

-- a slot that is made of the index of one of fewer than 2^32 entries
pub index_made : (dropped index hash : ℕ) → dropped < index → index < dropped + 2 ^ 32
    → index_of dropped (slot_of hash index) ≡ index
unfolding index_of
index_made dropped index hash above below = omega (arith, above, below)

-- an eviction changes no index but the oldest
pub index_kept : (dropped : ℕ) (s : Slot) → dropped + 1 < index_of dropped s
    → index_of (dropped + 1) s ≡ index_of dropped s
unfolding index_of
index_kept dropped s above = omega (arith, above)
