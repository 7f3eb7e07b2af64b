-- An entry that is sent, and referenced by the block in progress.
use Rattle.std.proofs.Common.{◌≡◌, ℕ, ◌+◌, ◌^◌, ◌<◌, ◌≤◌, Bool, true, false, List, [], ◌∷◌, ◌++◌}
use Rattle.std.proofs.Common.{length, drop, Option, Some, None, refl, sym, ap, ◌∙◌, arith}
use Rattle.std.specs.Prelude.{⊤, slice_set, nat_le, IfSome, IfNone}
use Rattle.std.proofs.lemmas.Bool.{lt-ltb, le-ltb, lt-leb, le-leb}
use Rattle.std.proofs.lemmas.List.{length-drop}
use Rattle.std.proofs.Math.Seq.{set-append_seam}
use Rattle.qpack_spec.specs.Field.{Field, field_size, total_size}
use Rattle.qpack_spec.specs.Table as table
use Rattle.qpack_spec.specs.Table.{Table, fields_in, insert_count, has_number, sent_entry, with_entry, with_reference}
use Rattle.qpack_spec.specs.Table.{eviction_count_for, can_evict, has_room, below_limit, may_reference}
use Rattle.qpack_spec.specs.Window.{eviction_count}
use Rattle.qpack_spec.proofs.Lists.{get_append_end}
use Rattle.qpack_table.specs.Positions.{Positions}
use Rattle.qpack_table.specs.Tables.{entries_of, references_in, IsKept, CountsReferences}
use Rattle.qpack_table.specs.Entries.{Entry}
use Rattle.qpack_table.proofs.Changes.{entered}
use Rattle.qpack_table.proofs.Evictions.{evicted_within, joined_entries}
use Rattle.qpack_table.proofs.References.{times_append, not_among}
use Rattle.qpack_table.proofs.Kept.{kept_put, sized_as}
use Rattle.qpack_table.proofs.InProgress.{references_of_block, with_new}

-- an entry that is sent and referenced, and as if it were neither referenced nor used yet
abbrev pub sent_now : Field → Entry
sent_now f = record { field = f; sent = true; referenced = true; uses = 1 }

abbrev sent_before : Field → Entry
sent_before f = record { field = f; sent = true; referenced = false; uses = 0 }

pub kept_sent : {index shown : ℕ → List Entry → Type 0} (v w : Positions) (es now : List Entry)
    (size left capacity : ℕ)
    (referenced more : List ℕ) (unacknowledged : List table.UnacknowledgedBlock)
    (f : Field) (k n : ℕ)
    → IsKept v es size capacity referenced unacknowledged index
    → field_size f ≤ capacity
    → k ≡ eviction_count capacity (fields_in (entries_of es) ++ f ∷ [])
    → now ≡ drop k es ++ sent_now f ∷ []
    → left ≡ total_size (drop k (fields_in (entries_of es))) + field_size f
    → w.dropped ≡ v.dropped + k → w.total ≡ v.total + 1 → n ≡ w.total → more ≡ referenced ++ n ∷ []
    → shown w.dropped now
    → IsKept w now left capacity more unacknowledged shown
kept_sent {index} {shown} v w es now size left capacity referenced more unacknowledged f k n kept room
    evicted items sum dropped total new last indexed =
    let mid : List Entry = drop k es ++ sent_before f ∷ [] in
    let few : k ≤ length es = evicted_within es f capacity k room evicted in
    let same : entries_of now ≡ entries_of mid =
    ap (λ (l : List Entry). entries_of l) items ∙ joined_entries (drop k es) (sent_now f)
    ∙ sym (joined_entries (drop k es) (sent_before f)) in
    let put = kept_put {index = index} {more = λ _ _. ⊤} v w es mid size left capacity referenced unacknowledged
    (sent_before f) k kept room evicted refl sum refl refl dropped total tt in
    let set : now ≡ slice_set mid (length (drop k es)) (sent_now f) =
    items ∙ sym (set-append_seam (drop k es) (sent_before f) [] (sent_now f)) in
    record {
      sized = sized_as w mid now left capacity same put.sized;
      references = references_of_block w mid now referenced more unacknowledged n (length (drop k es)) (sent_before f)
          (sent_now f) put.references
          (omega (arith, new, total, dropped, kept.sized.counted, few, length-drop k es)) (omega (arith, new))
          (get_append_end (drop k es) (sent_before f)) refl refl set last;
      indexed = indexed;
    }

-- a number that is to come is not referenced yet
pub not_referenced : (v : Positions) (es : List Entry) (referenced : List ℕ)
    (unacknowledged : List table.UnacknowledgedBlock) (a : ℕ) → CountsReferences v es referenced unacknowledged
    → v.total < a
    → has_number a referenced ≡ false
not_referenced v es referenced unacknowledged a kept above = not_among a referenced (omega (
  arith,
  kept.behind a above,
  times_append a referenced (references_in unacknowledged),
))

referenced_behind : (t : Table) (e : table.Entry) (a : ℕ) (more : List ℕ) → has_number a t.referenced ≡ false
    → more ≡ t.referenced ++ a ∷ []
    → record (with_entry t e) { referenced = more } ≡ with_reference (with_entry t e) a
unfolding with_reference with_entry
referenced_behind t e a more none is = rw (with_new a t.referenced none, is) refl

pub entered_and_referenced : (t : Table) (f : Field) (dropped a : ℕ) (live : List table.Entry) (more : List ℕ)
    → field_size f ≤ t.capacity → dropped ≡ t.dropped + eviction_count_for t f
    → live ≡ drop (eviction_count_for t f) t.live ++ sent_entry f ∷ [] → a ≡ insert_count t + 1
    → has_number a t.referenced ≡ false → more ≡ t.referenced ++ a ∷ []
    → record t { dropped = dropped; live = live; referenced = more }
    ≡ with_reference (with_entry t (sent_entry f)) (insert_count t + 1)
entered_and_referenced t f dropped a live more fits d l new none is =
    ap (λ (u : Table). record u { referenced = more }) (entered t (sent_entry f) dropped live fits d l)
    ∙ referenced_behind t (sent_entry f) a more none is
    ∙ ap (λ (n : ℕ). with_reference (with_entry t (sent_entry f)) n) new

-- ---- whether an entry may be referenced, and whether there is room

pub may_below : (t : Table) (a : ℕ) → below_limit t ≡ true → true ≡ may_reference t a
unfolding may_reference
may_below t a e = rw e refl

pub may_received : (t : Table) (a known : ℕ) → below_limit t ≡ false → known ≡ t.known_received_count
    → nat_le a known ≡ may_reference t a
unfolding may_reference
may_received t a known e is = rw (e, is) refl

pub room_too_large : (t : Table) (f : Field) → t.capacity < field_size f → has_room t f ≡ false
unfolding has_room
room_too_large t f large = rw (lt-leb (field_size f) t.capacity large) refl

pub room_too_late : (t : Table) (f : Field) → field_size f ≤ t.capacity → 2 ^ 62 ≤ insert_count t
    → has_room t f ≡ false
unfolding has_room
room_too_late t f fits late =
    rw (le-leb (field_size f) t.capacity fits, le-ltb (insert_count t) (2 ^ 62) late) refl

room_by_entries : (t : Table) (f : Field) (evicted : ℕ) (b : Bool) → field_size f ≤ t.capacity
    → insert_count t < 2 ^ 62 → evicted ≡ eviction_count_for t f → can_evict t evicted ≡ b → has_room t f ≡ b
unfolding has_room
room_by_entries t f evicted b fits few is e =
    rw (le-leb (field_size f) t.capacity fits, lt-ltb (insert_count t) (2 ^ 62) few)
    (ap (λ (n : ℕ). can_evict t n) (sym is) ∙ e)

pub least_by_walk : (t : Table) (f : Field) (size : ℕ) (r : Option ℕ) → field_size f ≡ size
    → IfSome r (λ evicted. (g : Field) → field_size g ≡ size → evicted ≡ eviction_count_for t g)
    → IfSome r (λ evicted. evicted ≡ eviction_count_for t f)
least_by_walk t f size None same h = tt
least_by_walk t f size (Some evicted) same h = h f same

pub room_by_walk : (t : Table) (f : Field) (size : ℕ) (r : Option ℕ) → field_size f ≡ size
    → field_size f ≤ t.capacity → insert_count t < 2 ^ 62
    → IfSome r (λ evicted. (g : Field) → field_size g ≡ size → evicted ≡ eviction_count_for t g)
    → IfSome r (λ evicted. can_evict t evicted ≡ true) → IfSome r (λ evicted. has_room t f ≡ true)
room_by_walk t f size None same fits few least evictable = tt
room_by_walk t f size (Some evicted) same fits few least evictable =
    room_by_entries t f evicted true fits few (least f same) evictable

pub no_room_by_walk : (t : Table) (f : Field) (size : ℕ) (r : Option ℕ) → field_size f ≡ size
    → field_size f ≤ t.capacity → insert_count t < 2 ^ 62
    → IfNone r ((g : Field) → field_size g ≡ size → can_evict t (eviction_count_for t g) ≡ false)
    → IfNone r (has_room t f ≡ false)
no_room_by_walk t f size None same fits few held =
    room_by_entries t f (eviction_count_for t f) false fits few refl (held f same)
no_room_by_walk t f size (Some evicted) same fits few held = tt
