-- The indexes that reference the entries of a dynamic table, and the positions of the live ones (RFC 9204, section
-- 3.2).
use Rattle.std.specs.Prelude.{◌≡◌, ℕ, ◌+◌, ◌-◌, ◌<◌, ◌≤◌}
use Rattle.qpack_spec.specs.Window.{Window, window_insert_count}

-- how many entries were ever inserted, and how many of them were dropped, the oldest first
pub record Positions : Type 0 where
  pub total : ℕ
  pub dropped : ℕ

-- those of a window, which both ends share
abbrev pub positions_of : Window → Positions
positions_of w = record { total = window_insert_count w; dropped = w.dropped }

-- a table that nothing was inserted to
abbrev pub no_positions : Positions
no_positions = record { total = 0; dropped = 0 }

-- how many entries are live
abbrev pub live_count : Positions → ℕ
live_count p = p.total - p.dropped

-- the entry of an absolute index is live: it was inserted and not dropped (section 3.2.4, which begins at 0)
abbrev pub IsLive : Positions → ℕ → Type 0
IsLive p absolute = (p.dropped < absolute) × (absolute ≤ p.total)

-- the entry of an absolute index was inserted and dropped (section 3.2.2)
abbrev pub WasEvicted : Positions → ℕ → Type 0
WasEvicted p absolute = (0 < absolute) × (absolute ≤ p.dropped)

-- a position is counted from 0, that of the oldest live entry, whose absolute index is dropped + 1
abbrev pub IsPositionOf : Positions → ℕ → ℕ → Type 0
IsPositionOf p absolute position = absolute ≡ p.dropped + position + 1

-- the absolute index that an instruction's relative index means, 0 the newest; 0, which is no entry's, past the start
-- (section 3.2.5)
abbrev pub newest_relative_index : Positions → ℕ → ℕ
newest_relative_index p relative = p.total - relative

-- the absolute index that a line's relative index means under a base; 0, which is no entry's, past the start (section
-- 3.2.5)
abbrev pub relative_index : ℕ → ℕ → ℕ
relative_index base relative = base - relative

-- the absolute index that a post-base index means (section 3.2.6)
abbrev pub post_base_index : ℕ → ℕ → ℕ
post_base_index base post_base = base + post_base + 1

-- what is checked of a relative index under a base: something is live, the index is at most the base, and the entry
-- that it references is not dropped. It is not checked that the base is at most the total, so under a greater one it
-- may reference none (section 3.2.5)
abbrev pub IsNotEvicted : Positions → ℕ → ℕ → Type 0
IsNotEvicted p base relative = (p.dropped < p.total) × (relative ≤ base) × (p.dropped < relative_index base relative)
