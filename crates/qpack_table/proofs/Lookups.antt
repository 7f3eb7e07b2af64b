-- Lookups by index are those of the window.
use Rattle.std.proofs.Common.{◌≡◌, ℕ, zero, suc, ◌+◌, ◌-◌, ◌<◌, ◌≤◌, List, [], ◌∷◌, length, get_or, Option, Some, None}
use Rattle.std.proofs.Common.{refl, sym, ap, subst, ◌∙◌, arith, inl, inr, Bool}
use Rattle.std.specs.Prelude.{slice_get, min, IsSome, IfErr, IsErr, IsErrAnd, IfOk, Result, Ok, Err}
use Rattle.std.proofs.lemmas.Bool.{cases_lt, le-ltb, lt-ltb}
use Rattle.std.proofs.lemmas.List.{length-map}
use Rattle.std.proofs.lemmas.Option.{same_Some, slice_get-map, slice_get_read, get_or_from_slice_get, slice_get_past}
use Rattle.std.specs.Borrow.{Bor}
use Rattle.std.specs.Option.{option_map}
use Rattle.qpack_spec.specs.Chosen.{passes_at, some_passes}
use Rattle.qpack_spec.specs.Field.{Field, field_size, total_size}
use Rattle.qpack_spec.specs.Reading.{Fault, BelowWindow, AboveWindow, BehindBase, or_fault, relative_field}
use Rattle.qpack_spec.specs.Reading.{post_base_field}
use Rattle.qpack_spec.specs.Table as table
use Rattle.qpack_spec.specs.Table.{insert_count, window, fields_in}
use Rattle.qpack_spec.specs.Window.{absolute_entry, relative_entry}
use Rattle.qpack_spec.proofs.Sizes.{total_first}
use Rattle.qpack_table.specs.Positions.{Positions, positions_of, IsLive, IsPositionOf, IsNotEvicted}
use Rattle.qpack_table.specs.Positions.{newest_relative_index, relative_index}
use Rattle.qpack_table.specs.Positions.{post_base_index}
use Rattle.qpack_table.specs.Tables.{entry_of, entries_of, LooksUp, live_fields}
use Rattle.qpack_table.specs.declared.dynamic.Error.{Error}
use Rattle.qpack_table.specs.declared.dynamic.Error.TheVariants.{BadIndex}
use Rattle.qpack_table.specs.Entries.{Entry}
use Rattle.qpack_table.proofs.Entries.{there_is_live, live_is_there, at_position, recent_is_entry, relative_at_position}
use Rattle.qpack_table.proofs.Entries.{relative_dropped, post_base_is_entry, not_there}

-- there are as many fields as entries
pub fields_long : (es : List Entry) → length (live_fields es) ≡ length es
fields_long es = length-map (entries_of es) _ ∙ length-map es entry_of

-- an entry that is read there, and its field
pub entry_there : (es : List Entry) (position : ℕ) (e : Entry) → position < length es → e ≡ get_or es position e
    → slice_get (entries_of es) position ≡ Some (entry_of e)
entry_there es position e h is =
    slice_get-map entry_of es position
    ∙ ap (λ (o : Option Entry). option_map entry_of o) (slice_get_read es (length es) position e refl h is)

pub field_there : (es : List Entry) (position : ℕ) (e : Entry) → position < length es → e ≡ get_or es position e
    → slice_get (live_fields es) position ≡ Some e.field
field_there es position e h is =
    slice_get-map (λ (x : table.Entry). x.field) (entries_of es) position
    ∙ ap (λ (o : Option table.Entry). option_map (λ (x : table.Entry). x.field) o) (entry_there es position e h is)

pub field_read : (es : List Entry) (position : ℕ) (e : Entry) (d : Field) → position < length es
    → e ≡ get_or es position e → get_or (live_fields es) position d ≡ e.field
field_read es position e d h is =
    get_or_from_slice_get (live_fields es) position e.field d (field_there es position e h is)

pub field_missing : (es : List Entry) (position : ℕ) → length es ≤ position
    → slice_get (live_fields es) position ≡ None
field_missing es position h = slice_get_past (live_fields es) position (omega (arith, h, fields_long es))

same_positions : (a b m n : ℕ) → a ≡ m → b ≡ n → (let p : Positions = record { total = a; dropped = b } in
    let q : Positions = record { total = m; dropped = n } in p ≡ q)
same_positions a b m n e f = cc

-- the positions of a table are those of its window
positions_are : (v : Positions) (t : table.Table) → v.total ≡ insert_count t → v.dropped ≡ t.dropped → v
    ≡ positions_of (window t)
unfolding window
positions_are v t total dropped =
    let all : v.total ≡ t.dropped + length (fields_in t.live) =
    omega (arith, total, length-map t.live (λ (e : table.Entry). e.field)) in
    same_positions v.total v.dropped (t.dropped + length (fields_in t.live)) t.dropped all dropped

none_unless : {X : Type 0} (o : Option X) → (IsSome o → ⊥) → o ≡ None
none_unless None h = refl
none_unless (Some x) h = absurd (h refl)

pub recent_missing : (v : Positions) (t : table.Table) (index : ℕ) → v ≡ positions_of (window t)
    → (IsLive v (newest_relative_index v index) → ⊥) → relative_entry (window t) index ≡ None
recent_missing v t index e none =
    let not : IsLive (positions_of (window t)) (newest_relative_index (positions_of (window t)) index) → ⊥ =
    subst (λ (p : Positions). IsLive p (newest_relative_index p index) → ⊥) e none in
    recent_is_entry (window t) index
    ∙ none_unless (absolute_entry (window t) (newest_relative_index (positions_of (window t)) index))
    (λ some. not (there_is_live (window t) (newest_relative_index (positions_of (window t)) index) some))

pub recent_there : (v : Positions) (t : table.Table) (index position : ℕ) → v ≡ positions_of (window t)
    → IsPositionOf v (newest_relative_index v index) position → relative_entry (window t) index
    ≡ slice_get (fields_in t.live) position
unfolding window
recent_there v t index position e at =
    let there : IsPositionOf (positions_of (window t))
    (newest_relative_index (positions_of (window t)) index) position =
    subst (λ (p : Positions). IsPositionOf p (newest_relative_index p index) position) e at in
    recent_is_entry (window t) index
    ∙ at_position (window t) (newest_relative_index (positions_of (window t)) index) position there

-- a live entry is found
pub recent_live : (v : Positions) (t : table.Table) (index position : ℕ) → v ≡ positions_of (window t)
    → IsLive v (newest_relative_index v index) → IsPositionOf v (newest_relative_index v index) position
    → slice_get (fields_in t.live) position ≡ None → ⊥
recent_live v t index position e live at none =
    let there : IsLive (positions_of (window t)) (newest_relative_index (positions_of (window t)) index) =
    subst (λ (p : Positions). IsLive p (newest_relative_index p index)) e live in
    let some = live_is_there (window t) (newest_relative_index (positions_of (window t)) index) there in
    let missing : absolute_entry (window t) (newest_relative_index (positions_of (window t)) index) ≡ None =
    sym (recent_is_entry (window t) index) ∙ recent_there v t index position e at ∙ none in
    not_there (absolute_entry (window t) (newest_relative_index (positions_of (window t)) index)) missing some

pub never_refused : {X E : Type 0} (r : Result X E) (P Q : E → Type 0) (N : Type 0) → IfErr r (λ e. P e × N)
    → (N → ⊥) → IfErr r Q
never_refused (Ok x) P Q N h not = tt
never_refused (Err e) P Q N h not = absurd (not h.1)

pub not_less : (a b : ℕ) → (a < b → ⊥) → b ≤ a
not_less a b h = elim (cases_lt a b) [
  | inl lt ↦ absurd (h lt)
  | inr le ↦ le
]

-- what a table keeps of its positions
pub kept_positions : (v : Positions) (t : table.Table) (es : List Entry) → v.total ≡ v.dropped + length es
    → t.live ≡ entries_of es → t.dropped ≡ v.dropped → v ≡ positions_of (window t)
kept_positions v t es counted same evicted =
    let all : v.total ≡ insert_count t = omega (
      arith,
      counted,
      evicted,
      ap (λ (l : List table.Entry). length l) same,
      length-map es entry_of,
    ) in
    positions_are v t all (sym evicted)

pub refused_as : {X E : Type 0} (r : Result X E) (P Q : E → Type 0) → IsErr r × IsErrAnd r P → ((e : E) → P e → Q e)
    → IfErr r Q
refused_as (Ok x) P Q h told = tt
refused_as (Err e) P Q h told = told e h.1

-- ---- whether the entry of an absolute index passes

pub passes_as : (s t : table.Table) (p : Field → Bool) (a dropped : ℕ) (o : Option Field) → s ≡ t → dropped ≡ s.dropped
    → dropped < a → slice_get (fields_in s.live) (a - dropped - 1) ≡ o → passes_at t p a ≡ some_passes p o
passes_as s t p a dropped o same is above there =
    rw (← same, ← is, lt-ltb dropped a above, there) refl

-- ---- under a base

pub under_base : {S : Type 0} (field : S → Field) (v : Positions) (t : table.Table) (base index position : ℕ) (r : Result (Bor S) Error)
    → v ≡ positions_of (window t) → IsNotEvicted v base index → IsPositionOf v (relative_index base index) position
    → IfOk r (λ f. slice_get (fields_in t.live) position ≡ Some (field f.now))
    → IfErr r (λ e. (e ≡ BadIndex position) × (slice_get (fields_in t.live) position ≡ None))
    → LooksUp field r (relative_field (window t) base index)
unfolding window
under_base field v t base index position (Ok f) e kept at found refused =
    relative_at_position (window t) base index position (subst (λ (p : Positions). IsNotEvicted p base index) e kept)
    (subst (λ (p : Positions). IsPositionOf p (relative_index base index) position) e at)
    ∙ ap (λ (o : Option Field). or_fault o (AboveWindow position)) found
under_base field v t base index position (Err x) e kept at found refused =
    let is = relative_at_position (window t) base index position
    (subst (λ (p : Positions). IsNotEvicted p base index) e kept)
    (subst (λ (p : Positions). IsPositionOf p (relative_index base index) position) e at)
    ∙ ap (λ (o : Option Field). or_fault o (AboveWindow position)) refused.1 in
    subst (λ (y : Error). LooksUp field (Err y) (relative_field (window t) base index)) (sym refused.0) is

pub below_base : (v : Positions) (t : table.Table) (base index : ℕ) → v ≡ positions_of (window t)
    → (IsNotEvicted v base index → ⊥) → relative_field (window t) base index ≡ Err (BelowWindow index)
below_base v t base index e evicted = relative_dropped (window t) base index
    (subst (λ (p : Positions). IsNotEvicted p base index → ⊥) e evicted)

pub behind_base : {S : Type 0} (field : S → Field) (v : Positions) (t : table.Table) (base index position : ℕ) (r : Result (Bor S) Error)
    → v ≡ positions_of (window t) → IsLive v (post_base_index base index)
    → IsPositionOf v (post_base_index base index) position
    → IfOk r (λ f. slice_get (fields_in t.live) position ≡ Some (field f.now))
    → IfErr r (λ e. (e ≡ BadIndex position) × (slice_get (fields_in t.live) position ≡ None))
    → LooksUp field r (post_base_field (window t) base index)
unfolding window
behind_base field v t base index position (Ok f) e live at found refused =
    post_base_is_entry (window t) base index
    ∙ ap (λ (o : Option Field). or_fault o (BehindBase index))
    (at_position (window t) (post_base_index base index) position
    (subst (λ (p : Positions). IsPositionOf p (post_base_index base index) position) e at) ∙ found)
behind_base field v t base index position (Err x) e live at found refused =
    let some = live_is_there (window t) (post_base_index base index)
    (subst (λ (p : Positions). IsLive p (post_base_index base index)) e live) in
    let none : absolute_entry (window t) (post_base_index base index) ≡ None =
    at_position (window t) (post_base_index base index) position
    (subst (λ (p : Positions). IsPositionOf p (post_base_index base index) position) e at) ∙ refused.1 in
    absurd (not_there (absolute_entry (window t) (post_base_index base index)) none some)

pub past_base : (v : Positions) (t : table.Table) (base index : ℕ) → v ≡ positions_of (window t)
    → (IsLive v (post_base_index base index) → ⊥) → post_base_field (window t) base index ≡ Err (BehindBase index)
past_base v t base index e evicted =
    let not : IsLive (positions_of (window t)) (post_base_index base index) → ⊥ =
    subst (λ (p : Positions). IsLive p (post_base_index base index) → ⊥) e evicted in
    post_base_is_entry (window t) base index
    ∙ ap (λ (o : Option Field). or_fault o (BehindBase index))
    (none_unless (absolute_entry (window t) (post_base_index base index))
    (λ some. not (there_is_live (window t) (post_base_index base index) some)))

-- an index's refusal, passed on
pub told : {S : Type 0} (field : S → Field) (r : Result (Bor S) Error) (e : Error) (read : Result Field Fault) → IsErr r
    × IsErrAnd r (λ x. x ≡ e) → LooksUp field (Err e) read → LooksUp field r read
told field (Ok f) e read h looks = absurd h.1
told field (Err x) e read h looks = subst (λ (y : Error). LooksUp field (Err y) read) (sym h.1) looks

pub given_as : {S : Type 0} (r : Result (Bor S) Error) (d e : Error) → IsErr r × IsErrAnd r (λ x. x ≡ d) → d ≡ e
    → IsErr r × IsErrAnd r (λ x. x ≡ e)
given_as (Ok f) d e h same = absurd h.1
given_as (Err x) d e h same = (h.0, h.1 ∙ same)

-- ---- the size of an entry by its absolute index

-- a field among others is no larger than all
part_within : (fs : List Field) (position : ℕ) (f : Field) → slice_get fs position ≡ Some f
    → field_size f ≤ total_size fs
part_within [] position f is = absurd cc
part_within (g ∷ fs) zero f is =
    let same : g ≡ f = same_Some g f is in
    omega (arith, ap (λ (x : Field). field_size x) same, total_first g fs)
part_within (g ∷ fs) (suc position) f is = omega (arith, part_within fs position f is, total_first g fs)

pub entry_measured : (t : table.Table) (absolute position size dropped most : ℕ) (f : Field) → dropped ≡ t.dropped
    → dropped < absolute → position ≡ absolute - dropped - 1 → slice_get (fields_in t.live) position ≡ Some f
    → size ≡ min (field_size f) most → total_size (fields_in t.live) ≤ most
    → Some size ≡ option_map field_size (absolute_entry (window t) absolute)
unfolding absolute_entry window
entry_measured t absolute position size dropped most f same above at there measured small =
    let within = part_within (fields_in t.live) position f there in
    let is : size ≡ field_size f = omega (arith, measured, within, small) in
    rw (lt-ltb t.dropped absolute (omega (arith, same, above)), ← same, ← at, there, is) refl

pub entry_unmeasured : (t : table.Table) (absolute position dropped : ℕ) → dropped ≡ t.dropped
    → dropped < absolute → position ≡ absolute - dropped - 1 → slice_get (fields_in t.live) position ≡ None
    → option_map field_size (absolute_entry (window t) absolute) ≡ None
unfolding absolute_entry window
entry_unmeasured t absolute position dropped same above at there =
    rw (lt-ltb t.dropped absolute (omega (arith, same, above)), ← same, ← at, there) refl

pub entry_gone : (t : table.Table) (absolute dropped : ℕ) → dropped ≡ t.dropped → absolute ≤ dropped
    → option_map field_size (absolute_entry (window t) absolute) ≡ None
unfolding absolute_entry window
entry_gone t absolute dropped same below = rw (le-ltb t.dropped absolute (omega (arith, same, below))) refl
