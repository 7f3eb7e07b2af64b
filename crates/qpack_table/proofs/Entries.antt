-- A window's entries by absolute index, by relative index and by position.
use Rattle.std.proofs.Common.{◌≡◌, ℕ, ◌+◌, ◌-◌, ◌<◌, ◌≤◌, Option, None, Some, length, refl, sym, ap, ◌∙◌, inl, inr}
use Rattle.std.proofs.Common.{arith}
use Rattle.std.specs.Prelude.{slice_get, IsSome, Err}
use Rattle.std.proofs.lemmas.Bool.{cases_lt, lt-ltb, le-ltb}
use Rattle.std.proofs.lemmas.Option.{slice_get_cases, slice_get_past}
use Rattle.qpack_spec.specs.Window.{Window, window_insert_count, absolute_entry, relative_entry}
use Rattle.qpack_spec.specs.Reading.{BelowWindow, AboveWindow, BehindBase, or_fault, relative_field, post_base_field}
use Rattle.qpack_table.specs.Positions.{positions_of, IsLive, IsPositionOf, IsNotEvicted, newest_relative_index}
use Rattle.qpack_table.specs.Positions.{relative_index}
use Rattle.qpack_table.specs.Positions.{post_base_index}

-- ---- absolute indexes

-- above the dropped ones, the list of the live ones has the entry or not
above : (w : Window) (absolute : ℕ) → w.dropped < absolute
    → absolute_entry w absolute ≡ slice_get w.live (absolute - w.dropped - 1)
unfolding absolute_entry
above w absolute h = rw (lt-ltb w.dropped absolute h) refl

-- a dropped one has none
evicted : (w : Window) (absolute : ℕ) → absolute ≤ w.dropped → absolute_entry w absolute ≡ None
unfolding absolute_entry
evicted w absolute h = rw (le-ltb w.dropped absolute h) refl

-- behind the newest there is none
ahead : (w : Window) (absolute : ℕ) → window_insert_count w < absolute → absolute_entry w absolute ≡ None
ahead w absolute h = above w absolute (omega (arith, h))
    ∙ slice_get_past w.live (absolute - w.dropped - 1) (omega (arith, h))

some_is : {X : Type 0} (o : Option X) (x : X) → o ≡ Some x → IsSome o
some_is o x e = rw e refl

pub live_is_there : (w : Window) (absolute : ℕ) → IsLive (positions_of w) absolute → IsSome (absolute_entry w absolute)
live_is_there w absolute live =
    elim (slice_get_cases w.live (absolute - w.dropped - 1)).1 [
      | inl h ↦ some_is (absolute_entry w absolute) h.0 (above w absolute live.0 ∙ h.2)
      | inr h ↦ absurd (omega (arith, live.0, live.1, h.0))
    ]

pub not_there : {X : Type 0} (o : Option X) → o ≡ None → IsSome o → ⊥
not_there o e h = cc

pub there_is_live : (w : Window) (absolute : ℕ) → IsSome (absolute_entry w absolute) → IsLive (positions_of w) absolute
there_is_live w absolute there =
    elim (cases_lt w.dropped absolute) [
      | inl h ↦ elim (cases_lt (window_insert_count w) absolute) [
        | inl k ↦ absurd (not_there (absolute_entry w absolute) (ahead w absolute k) there)
        | inr k ↦ (h, k)
      ]
      | inr h ↦ absurd (not_there (absolute_entry w absolute) (evicted w absolute h) there)
    ]

pub at_position : (w : Window) (absolute position : ℕ) → IsPositionOf (positions_of w) absolute position
    → absolute_entry w absolute ≡ slice_get w.live position
at_position w absolute position is =
    let same : absolute - w.dropped - 1 ≡ position = omega (arith, is) in
    above w absolute (omega (arith, is)) ∙ ap (slice_get w.live) same

-- ---- relative indexes

pub recent_is_entry : (w : Window) (relative : ℕ) → relative_entry w relative
    ≡ absolute_entry w (newest_relative_index (positions_of w) relative)
unfolding relative_entry
recent_is_entry w relative =
    elim (cases_lt relative (length w.live)) [
      | inl h ↦
          let position : IsPositionOf (positions_of w) (window_insert_count w - relative)
          (length w.live - 1 - relative) = omega (arith, h) in
          rw (lt-ltb relative (length w.live) h) (sym
          (at_position w (window_insert_count w - relative) (length w.live - 1 - relative) position))
      | inr h ↦
          rw (le-ltb relative (length w.live) h) (sym (evicted w (window_insert_count w - relative) (omega (arith, h))))
    ]

pub relative_at_position : (w : Window) (base relative position : ℕ) → IsNotEvicted (positions_of w) base relative
    → IsPositionOf (positions_of w) (relative_index base relative) position
    → relative_field w base relative ≡ or_fault (slice_get w.live position) (AboveWindow position)
unfolding relative_field
relative_at_position w base relative position kept is =
    let same : base - relative - w.dropped - 1 ≡ position = omega (arith, is) in
    let some : 0 < length w.live = omega (arith, kept.0) in
    rw (lt-ltb w.dropped (base - relative) kept.2, lt-ltb 0 (length w.live) some)
    (ap (λ (p : ℕ). or_fault (slice_get w.live p) (AboveWindow p)) same)

pub relative_dropped : (w : Window) (base relative : ℕ) → ¬ IsNotEvicted (positions_of w) base relative
    → relative_field w base relative ≡ Err (BelowWindow relative)
unfolding relative_field
relative_dropped w base relative none =
    elim (cases_lt w.dropped (base - relative)) [
      | inl h ↦ elim (cases_lt 0 (length w.live)) [
        | inl k ↦ absurd (none (omega (arith, k), omega (arith, h), h))
        | inr k ↦ rw (lt-ltb w.dropped (base - relative) h, le-ltb 0 (length w.live) k) refl
      ]
      | inr h ↦ rw (le-ltb w.dropped (base - relative) h) refl
    ]

-- ---- post-base indexes

pub post_base_is_entry : (w : Window) (base post_base : ℕ)
    → post_base_field w base post_base
    ≡ or_fault (absolute_entry w (post_base_index base post_base)) (BehindBase post_base)
unfolding post_base_field
post_base_is_entry w base post_base =
    elim (cases_lt w.dropped (base + post_base + 1)) [
      | inl h ↦
          let same : base + post_base - w.dropped ≡ base + post_base + 1 - w.dropped - 1 = omega arith in
          rw (lt-ltb w.dropped (base + post_base + 1) h, above w (base + post_base + 1) h, same) refl
      | inr h ↦ rw (le-ltb w.dropped (base + post_base + 1) h, evicted w (base + post_base + 1) h) refl
    ]
