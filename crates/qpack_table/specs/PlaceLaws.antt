-- How indexes and positions are those of a window's entries, as statements; the crate's law functions promise them.
use Rattle.std.specs.Prelude.{◌≡◌, ℕ, ◌↔◌, slice_get, IsSome, Err}
use Rattle.qpack_spec.specs.Window.{Window, absolute_entry, relative_entry}
use Rattle.qpack_spec.specs.Reading.{BelowWindow, AboveWindow, BehindBase, or_fault, relative_field, post_base_field}
use Rattle.qpack_table.specs.Positions.{positions_of, IsLive, IsPositionOf, IsNotEvicted, newest_relative_index}
use Rattle.qpack_table.specs.Positions.{relative_index}
use Rattle.qpack_table.specs.Positions.{post_base_index}

-- an absolute index has an entry exactly if it is live, and the entry is at its position (RFC 9204, section 3.2.4)
abbrev pub EntriesStandAtPositions : Type 0
EntriesStandAtPositions =
    (w : Window) (absolute : ℕ)
    → (IsSome (absolute_entry w absolute) ↔ IsLive (positions_of w) absolute)
    × ((position : ℕ) → IsPositionOf (positions_of w) absolute position → absolute_entry w absolute
    ≡ slice_get w.live position)

-- the entry of an instruction's relative index is that of the absolute index which it means (section 3.2.5)
abbrev pub RecentEntriesAreNamed : Type 0
RecentEntriesAreNamed = (w : Window) (relative : ℕ) → relative_entry w relative
    ≡ absolute_entry w (newest_relative_index (positions_of w) relative)

-- the field of a line's relative index is at the position of the entry it references, unless that is dropped (section
-- 3.2.5)
abbrev pub RelativeFieldsAreNamed : Type 0
RelativeFieldsAreNamed =
    (w : Window) (base relative : ℕ)
    → ((position : ℕ) → IsNotEvicted (positions_of w) base relative
    → IsPositionOf (positions_of w) (relative_index base relative) position
    → relative_field w base relative ≡ or_fault (slice_get w.live position) (AboveWindow position))
    × (¬ IsNotEvicted (positions_of w) base relative → relative_field w base relative ≡ Err (BelowWindow relative))

-- the field of a line's post-base index is the entry of the absolute index which it means (section 3.2.6)
abbrev pub PostBaseFieldsAreNamed : Type 0
PostBaseFieldsAreNamed =
    (w : Window) (base post_base : ℕ)
    → post_base_field w base post_base
    ≡ or_fault (absolute_entry w (post_base_index base post_base)) (BehindBase post_base)
