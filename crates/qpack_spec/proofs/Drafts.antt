-- What each field of the rule keeps: the lines mean the fields, and the instructions lead from table to table.
use Rattle.std.proofs.Common.{ℕ, ◌+◌, ◌-◌, ◌^◌, ◌<◌, ◌≤◌, ◌≡◌, Bool, true, false, List, [], ◌∷◌, ◌++◌, length, drop}
use Rattle.std.proofs.Common.{Option, None, Some, Result, Ok, refl, sym, ap, ◌∙◌, subst, inl, inr, ◌⊎◌, arith}
use Rattle.std.proofs.Common.{length-append, length-drop}
use Rattle.std.specs.List.{AllByRecursion, slice_get, list_any}
use Rattle.std.specs.Prelude.{nat_lt, nat_le, ◌&&◌}
use Rattle.std.proofs.lemmas.Bool.{cond_both, lt-ltb, or_cases, and_parts, ltb-true, leb-true, leb-false}
use Rattle.std.proofs.lemmas.List.{append-nil, append_assoc, length-map}
use Rattle.qpack_spec.specs.Chosen.{Naming, Staying, Live, passed_over}
use Rattle.qpack_spec.specs.Field.{Field, field_size, has_name, is_field}
use Rattle.qpack_spec.specs.StaticTable.{static_table, static_index, static_name_index}
use Rattle.qpack_spec.specs.Line.{Line, IndexedStatic, IndexedDynamic, IndexedPostBase, NamedStatic, NamedDynamic}
use Rattle.qpack_spec.specs.Line.{NamedPostBase, Literal}
use Rattle.qpack_spec.specs.Window.{Window, absolute_entry, window_after, effect, Inserts}
use Rattle.qpack_spec.specs.History.{History, window_of, whole_window, history_after, Leads}
use Rattle.qpack_spec.specs.Reading.{Fault, field_with_value, static_field, line_field, fields_of, references_of_line}
use Rattle.qpack_spec.specs.Reading.{references_of}
use Rattle.qpack_spec.specs.Table.{Entry, UnacknowledgedBlock, Table, sent_entry, fields_in, window, insert_count}
use Rattle.qpack_spec.specs.Table.{has_number, with_number}
use Rattle.qpack_spec.specs.Table.{with_reference, can_evict, eviction_count_for, has_room, below_limit, may_reference}
use Rattle.qpack_spec.specs.Table.{with_entry}
use Rattle.qpack_spec.specs.Table.{newest_index, without_references}
use Rattle.qpack_spec.specs.Rule.{Draft, with_line, with_referencing_line, instruction_for}
use Rattle.qpack_spec.specs.Rule.{with_inserted, with_new_entry, name_reference_line}
use Rattle.qpack_spec.specs.Rule.{literal_by_entry, literal, insertion_or_literal, by_entry, by_static, rule_field}
use Rattle.qpack_spec.specs.Rule.{rule_fields, empty_draft, rule}
use Rattle.qpack_spec.proofs.Lists.{every_all, every_append, every_drop, every_weaker, get_drop, get_append_end}
use Rattle.qpack_spec.proofs.Windows.{Sound, leads_append, leads_sound, window_grown, grows_one, Kept, kept_growing}
use Rattle.qpack_spec.proofs.Windows.{eviction_count_push}
use Rattle.qpack_spec.proofs.References.{KeepsReferences, refers_plain, refers_named, refers_inserts, refers_blank}
use Rattle.qpack_spec.proofs.References.{static_names, static_name_names, literal_names, indexed_names}
use Rattle.qpack_spec.proofs.References.{named_line_names}
use Rattle.qpack_spec.proofs.Readings.{static_means, entry_relative, entry_post_base, fields_kept, fields_push}
use Rattle.qpack_spec.proofs.Positions.{FoundEntry, newest_found, static_found, static_name_found, same_name}
use Rattle.qpack_spec.proofs.Positions.{same_field}
use Rattle.qpack_spec.proofs.Positions.{named_field, instruction_effect, window_entered, IsFree, evicted_free}
use Rattle.qpack_spec.proofs.Positions.{every_track, above_dropped, opened_above, drops_received}

abbrev pub IsLive : Table → ℕ → Type 0
IsLive t a = (t.dropped < a) × (a ≤ insert_count t)

abbrev pub MayStand : Table → ℕ → Type 0
MayStand t a = (length t.blocked < t.limit) ⊎ (a ≤ t.known_received_count)

abbrev pub IsSent : Entry → Type 0
IsSent e = e.sent ≡ true

-- a table at which every live entry was sent, and every named one is live
pub record KeepsTable (h : History) (t : Table) : Type 0 where
  pub shares : window t ≡ window_of h
  pub marked : AllByRecursion IsSent t.live
  pub behind : t.dropped ≤ t.known_received_count
  pub held : AllByRecursion (λ (b : UnacknowledgedBlock). AllByRecursion (IsLive t) b.entries) t.unacknowledged

-- a block in progress, whose lines mean the fields done so far
pub record Drafting (t0 : Table) (h0 : History) (done : List Field) (d : Draft) : Type 0 where
  pub history : History
  pub leads : Leads h0 d.instructions history
  pub table : KeepsTable history d.table
  pub references : KeepsReferences t0 d
  pub referenced : AllByRecursion (IsLive d.table) d.table.referenced
  pub means : fields_of (whole_window history) (insert_count t0) d.lines ≡ Ok done
  pub may : AllByRecursion (MayStand t0) d.table.referenced

-- the count of a table is that of all insertions
pub count_inserted : (t : Table) (h : History) → window t ≡ window_of h → Sound h → insert_count t ≡ length h.inserted
unfolding window window_of
count_inserted t h e s =
    let d : t.dropped ≡ h.dropped = ap (λ (w : Window). w.dropped) e in
    let l : length (fields_in t.live) ≡ length (drop h.dropped h.inserted) = ap (λ (w : Window). length w.live) e in
    omega (arith, length-map t.live (λ (x : Entry). x.field), length-drop h.dropped h.inserted, s.in_range)

-- a live entry among all insertions
live_whole : (t : Table) (h : History) (i : ℕ) (g : Field) → window t ≡ window_of h
    → slice_get (fields_in t.live) i ≡ Some g → absolute_entry (whole_window h) (t.dropped + i + 1) ≡ Some g
unfolding window window_of absolute_entry whole_window
live_whole t h i g e q =
    let d : t.dropped ≡ h.dropped = ap (λ (w : Window). w.dropped) e in
    let l : fields_in t.live ≡ drop h.dropped h.inserted = ap (λ (w : Window). w.live) e in
    let n : t.dropped + i + 1 - 0 - 1 ≡ h.dropped + i = omega arith in
    rw (lt-ltb 0 (t.dropped + i + 1) (omega arith), n, ← get_drop, ← l) q

-- a line that names nothing
pub drafting_writes : (t0 : Table) (h0 : History) (done : List Field) (d : Draft) (l : Line) (f : Field)
    (k : Drafting t0 h0 done d)
    → references_of_line (insert_count t0) l ≡ [] → line_field (whole_window k.history) (insert_count t0) l ≡ Ok f
    → Drafting t0 h0 (done ++ f ∷ []) (with_line d l)
drafting_writes t0 h0 done d l f k plain m =
    record {
      history = k.history;
      leads = k.leads;
      table = k.table;
      references = refers_plain t0 d l plain k.references;
      referenced = k.referenced;
      means = fields_push (whole_window k.history) (insert_count t0) d.lines l done f k.means m;
      may = k.may;
    }

-- the block in progress names a live entry
keeps_naming : (h : History) (t : Table) (a : ℕ) → KeepsTable h t → KeepsTable h (with_reference t a)
unfolding with_reference window
keeps_naming h t a k = record { shares = k.shares; marked = k.marked; behind = k.behind; held = k.held }

-- a line that names a live entry
pub drafting_names : (t0 : Table) (h0 : History) (done : List Field) (d : Draft) (a : ℕ) (l : Line) (f : Field)
    (k : Drafting t0 h0 done d)
    → references_of_line (insert_count t0) l ≡ a ∷ [] → line_field (whole_window k.history) (insert_count t0) l ≡ Ok f
    → IsLive d.table a
    → MayStand t0 a → Drafting t0 h0 (done ++ f ∷ []) (with_referencing_line d a l)
unfolding with_reference
drafting_names t0 h0 done d a l f k referenced m live may =
    record {
      history = k.history;
      leads = k.leads;
      table = keeps_naming k.history d.table a k.table;
      references = refers_named t0 d a l referenced k.references;
      referenced = every_track (IsLive d.table) d.table.referenced a k.referenced live;
      means = fields_push (whole_window k.history) (insert_count t0) d.lines l done f k.means m;
      may = every_track (MayStand t0) d.table.referenced a k.may may;
    }

valued_found : (r : Result Field Fault) (g f : Field) → r ≡ Ok g → f.name ≡ g.name → field_with_value f.value r ≡ Ok f
valued_found r g f e n = rw e (ap (λ (x : Field). let q : Result Field Fault = Ok x in q) (named_field f g n))

-- what may be referenced stays within the limit
pub may_stand : (t0 : Table) (h0 : History) (done : List Field) (d : Draft) (a : ℕ) → Drafting t0 h0 done d
    → may_reference d.table a ≡ true → MayStand t0 a
unfolding may_reference
may_stand t0 h0 done d a k h = pick (or_cases (below_limit d.table) (nat_le a d.table.known_received_count) h)
  where
    pick : (below_limit d.table ≡ true) ⊎ (nat_le a d.table.known_received_count ≡ true) → MayStand t0 a
    pick (inl t) = let lt : length d.table.blocked < d.table.limit =
        ltb-true _ _ t in inl (rw (← k.references.blocked, ← k.references.limit) lt)
    pick (inr t) = let le : a
        ≤ d.table.known_received_count = leb-true _ _ t in inr (rw (← k.references.known_received_count) le)

-- the new table of an insertion
pub record Room (t : Table) (f : Field) : Type 0 where
  pub fits : field_size f ≤ t.capacity
  pub few : insert_count t < 2 ^ 62
  pub drops : can_evict t (eviction_count_for t f) ≡ true

pub room : (t : Table) (f : Field) → has_room t f ≡ true → Room t f
unfolding has_room
room t f h =
    let p = and_parts (nat_le (field_size f) t.capacity) _ h in
    let q = and_parts (nat_lt (insert_count t) (2 ^ 62)) _ p.1 in
    record { fits = leb-true _ _ p.0; few = ltb-true _ _ q.0; drops = q.1 }

pub evicted_bound : (t : Table) (f : Field) → field_size f ≤ t.capacity → eviction_count_for t f ≤ length t.live
evicted_bound t f h =
    omega (arith, eviction_count_push t.capacity (fields_in t.live) f h, length-map t.live (λ (x : Entry). x.field))

-- the entries that an instruction passes over are live
pub passed_live : (t : Table) (names : Naming) (f : Field) → Room t f
    → passed_over names (eviction_count_for t f) ≤ length t.live
passed_live t Staying f r = evicted_bound t f r.fits
passed_live t Live f r = omega arith

pub count_after : (t : Table) (f : Field) → eviction_count_for t f ≤ length t.live
    → insert_count (with_entry t (sent_entry f)) ≡ insert_count t + 1
unfolding with_entry
count_after t f h =
    omega (
      arith,
      length-drop (eviction_count_for t f) (t.live ++ sent_entry f ∷ []),
      length-append t.live
          (sent_entry f ∷ []),
    )

dropped_after : (t : Table) (f : Field) → (with_entry t (sent_entry f)).dropped ≡ t.dropped + eviction_count_for t f
unfolding with_entry
dropped_after t f = refl

-- numbers live before, none of which went, are live after
pub live_after : (t : Table) (f : Field) (xs : List ℕ) → eviction_count_for t f ≤ length t.live
    → ((x : ℕ) → t.dropped < x → x ≤ t.dropped + eviction_count_for t f → has_number x xs ≡ false)
    → AllByRecursion (IsLive t) xs → AllByRecursion (IsLive (with_entry t (sent_entry f))) xs
live_after t f xs b none h =
    every_weaker (λ a. (t.dropped + eviction_count_for t f < a) × (a ≤ insert_count t))
    (IsLive (with_entry t (sent_entry f)))
    (λ a r. (rw (dropped_after t f) r.0, omega (arith, count_after t f b, r.1)))
    xs (above_dropped t.dropped (insert_count t) (eviction_count_for t f) xs none h)

opened_after : (t : Table) (f : Field) → eviction_count_for t f ≤ length t.live
    → ((x : ℕ) → t.dropped < x → x ≤ t.dropped + eviction_count_for t f
    → list_any (λ (b : UnacknowledgedBlock). has_number x b.entries) t.unacknowledged ≡ false)
    → AllByRecursion (λ (b : UnacknowledgedBlock). AllByRecursion (IsLive t) b.entries) t.unacknowledged
    → AllByRecursion (λ (b : UnacknowledgedBlock). AllByRecursion
    (IsLive (with_entry t (sent_entry f))) b.entries) t.unacknowledged
opened_after t f b none h =
    every_weaker (λ (x : UnacknowledgedBlock). AllByRecursion
    (λ a. (t.dropped + eviction_count_for t f < a) × (a ≤ insert_count t)) x.entries)
    (λ (x : UnacknowledgedBlock). AllByRecursion (IsLive (with_entry t (sent_entry f))) x.entries)
    (λ x r. every_weaker (λ a. (t.dropped + eviction_count_for t f < a)
    × (a ≤ insert_count t)) (IsLive (with_entry t (sent_entry f)))
    (λ a q. (rw (dropped_after t f) q.0, omega (arith, count_after t f b, q.1))) x.entries r)
    t.unacknowledged (opened_above t.dropped (insert_count t) (eviction_count_for t f) t.unacknowledged none h)

pub keeps_inserted : (h : History) (t : Table) (f : Field) → Sound h → KeepsTable h t → Room t f
    → KeepsTable (history_after h (Inserts f)) (with_entry t (sent_entry f))
unfolding with_entry
keeps_inserted h t f s k r =
    let b : eviction_count_for t f ≤ length t.live = evicted_bound t f r.fits in
    let none : (x : ℕ) → t.dropped < x → x ≤ t.dropped + eviction_count_for t f → IsFree t x =
    evicted_free t (eviction_count_for t f) r.drops b k.marked in
    record {
      shares = window_entered t (sent_entry f) ∙ ap (λ (w : Window). window_after w (Inserts f)) k.shares
          ∙ sym (window_grown h (Inserts f) s.in_range);
      marked =
          every_drop IsSent (eviction_count_for t f) (t.live ++ sent_entry f ∷ [])
          (every_append IsSent t.live (sent_entry f ∷ []) k.marked (refl, tt));
      behind = drops_received t (eviction_count_for t f) k.behind none;
      held = opened_after t f b (λ x low high. (none x low high).unopened) k.held;
    }

-- the new entry among all insertions
new_whole : (h : History) (f : Field)
    → absolute_entry (whole_window (history_after h (Inserts f))) (length h.inserted + 1) ≡ Some f
unfolding absolute_entry whole_window history_after
new_whole h f =
    let n : length h.inserted + 1 - 0 - 1 ≡ length h.inserted = omega arith in
    rw (lt-ltb 0 (length h.inserted + 1) (omega arith), n) (get_append_end h.inserted f)

post_line : (w : Window) (base n : ℕ) (f : Field) → base ≤ n → absolute_entry w (n + 1) ≡ Some f
    → line_field w base (IndexedPostBase (n - base)) ≡ Ok f
unfolding line_field
post_line w base n f le e = let q : base + (n - base) + 1 ≡ n + 1 =
    omega arith in entry_post_base w base (n - base) f (rw q e)

-- an instruction that passes over this many of the oldest entries inserts the field
pub one_effect : (t : Table) (h : History) (f : Field) (passed : ℕ) → window t ≡ window_of h → passed ≤ length t.live
    → Room t f → effect (window_of h) (instruction_for f (drop passed (fields_in t.live))) ≡ Ok (Inserts f)
unfolding window
one_effect t h f passed e b r =
    rw (← e) (instruction_effect (window t) f passed
    (omega (arith, length-map t.live (λ (x : Entry). x.field))) r.fits
    (omega (arith, r.few, length-map t.live (λ (x : Entry). x.field))))

-- what an insertion that is named leaves alone, and what it names
record SameRest (t t' : Table) (f : Field) : Type 0 where
  pub now_named : t'.referenced ≡ with_number t.referenced (insert_count t + 1)
  pub same_dropped : t'.dropped ≡ (with_entry t (sent_entry f)).dropped
  pub same_live : t'.live ≡ (with_entry t (sent_entry f)).live

same_rest : (t : Table) (f : Field) → SameRest t (with_reference (with_entry t (sent_entry f)) (insert_count t + 1)) f
unfolding with_entry with_reference
same_rest t f = record { now_named = refl; same_dropped = refl; same_live = refl }

live_same : (t t' : Table) (xs : List ℕ) → t'.dropped ≡ t.dropped → t'.live ≡ t.live → AllByRecursion (IsLive t) xs
    → AllByRecursion (IsLive t') xs
live_same t t' xs d l h =
    every_weaker (IsLive t) (IsLive t') (λ a q. (omega (arith, q.0, d), omega (arith, q.1, d, ap length l))) xs h

pub drafting_inserts : (t0 : Table) (h0 : History) (done : List Field) (d : Draft) (f : Field) (passed : ℕ) → Sound h0
    → Drafting t0 h0 done d → length t0.blocked < t0.limit → Room d.table f → passed ≤ length d.table.live
    → Drafting t0 h0 (done ++ f ∷ [])
    (with_inserted (insert_count t0) d f (instruction_for f (drop passed (fields_in d.table.live))))
drafting_inserts t0 h0 done d f passed s0 k blocked r few =
    let t = d.table in
    let i = instruction_for f (drop passed (fields_in t.live)) in
    let h = k.history in
    let s : Sound h = leads_sound h0 d.instructions h k.leads s0 in
    let b : eviction_count_for t f ≤ length t.live = evicted_bound t f r.fits in
    let none : (x : ℕ) → t.dropped < x → x ≤ t.dropped + eviction_count_for t f → IsFree t x =
    evicted_free t (eviction_count_for t f) r.drops b k.table.marked in
    let same_count : insert_count t ≡ length h.inserted = count_inserted t h k.table.shares s in
    let new : absolute_entry (whole_window (history_after h (Inserts f))) (insert_count t + 1)
    ≡ Some f = rw same_count (new_whole h f) in
    let same = same_rest t f in
    let live : AllByRecursion (IsLive (with_entry t (sent_entry f))) (with_number t.referenced (insert_count t + 1)) =
    every_track (IsLive (with_entry t (sent_entry f))) t.referenced (insert_count t + 1)
    (live_after t f t.referenced b (λ x low high. (none x low high).unnamed) k.referenced)
    (rw (dropped_after t f) (omega arith), omega (arith, count_after t f b)) in
    record {
      history = history_after h (Inserts f);
      leads = leads_append h0 d.instructions (i ∷ []) h (history_after h (Inserts f)) k.leads
          (Inserts f, one_effect t h f passed k.table.shares few r, refl);
      table = keeps_naming (history_after h (Inserts f)) (with_entry t (sent_entry f)) (insert_count t + 1)
          (keeps_inserted h t f s k.table r);
      references = refers_inserts t0 d f i k.references;
      referenced = rw same.now_named (live_same (with_entry t (sent_entry f))
          (with_reference (with_entry t (sent_entry f)) (insert_count t + 1))
          (with_number t.referenced (insert_count t + 1)) same.same_dropped
          same.same_live live);
      means = fields_push (whole_window (history_after h (Inserts f))) (insert_count t0) d.lines
          (IndexedPostBase (insert_count t - insert_count t0)) done f
          (fields_kept (whole_window h) (whole_window (history_after h (Inserts f))) (insert_count t0) d.lines done
          (every_all (Kept (whole_window h) (whole_window (history_after h (Inserts f))))
          (λ a. kept_growing h (history_after h (Inserts f)) a (grows_one h (Inserts f)))
          (references_of (insert_count t0) d.lines)) k.means)
          (post_line (whole_window (history_after h (Inserts f))) (insert_count t0)
          (insert_count t) f k.references.base new);
      may = rw same.now_named (every_track (MayStand t0) t.referenced (insert_count t + 1) k.may (inl blocked));
    }

pub indexed_line : (w : Window) (base a : ℕ) (f : Field) → a ≤ base → absolute_entry w a ≡ Some f
    → line_field w base (IndexedDynamic (base - a)) ≡ Ok f
unfolding line_field
indexed_line w base a f le e = let q : base - (base - a) ≡ a =
    omega arith in entry_relative w base (base - a) f (rw q e)

pub static_line : (w : Window) (base i : ℕ) (f : Field) → slice_get static_table i ≡ Some f
    → line_field w base (IndexedStatic i) ≡ Ok f
unfolding line_field
static_line w base i f e = static_means i f e

pub static_name_line : (w : Window) (base i : ℕ) (f g : Field) → slice_get static_table i ≡ Some g → f.name ≡ g.name
    → line_field w base (NamedStatic i f.value) ≡ Ok f
unfolding line_field
static_name_line w base i f g e q = valued_found (static_field i) g f (static_means i g e) q

pub literal_line : (w : Window) (base : ℕ) (f : Field) → line_field w base (Literal f.name f.value) ≡ Ok f
unfolding line_field
literal_line w base f = refl

-- a name's line, before or after the base
pub line_by_name : (w : Window) (base a : ℕ) (f g : Field) → absolute_entry w a ≡ Some g → f.name ≡ g.name
    → line_field w base (name_reference_line base a f) ≡ Ok f
unfolding line_field
line_by_name w base a f g e q =
    cond_both (nat_le a base) (NamedDynamic (base - a) f.value) (NamedPostBase (a - base - 1) f.value)
    (λ l. line_field w base l ≡ Ok f)
    (λ t. let le : a ≤ base = leb-true _ _ t in let n : base - (base - a) ≡ a = omega arith in
    valued_found _ g f (entry_relative w base (base - a) g (rw n e)) q)
    (λ t. let lt : base < a = leb-false _ _ t in let n : base + (a - base - 1) + 1 ≡ a = omega arith in
    valued_found _ g f (entry_post_base w base (a - base - 1) g (rw n e)) q)

-- an entry that was found, among all insertions
pub found_whole : (t : Table) (h : History) (p : Field → Bool) (a : ℕ) → window t ≡ window_of h
    → (at : FoundEntry t p a) → absolute_entry (whole_window h) a ≡ Some at.item
found_whole t h p a e at =
    subst (λ (x : ℕ). absolute_entry (whole_window h) x ≡ Some at.item) at.index
    (live_whole t h at.position at.item e at.there)

drafting_literal_by_entry : (t0 : Table) (h0 : History) (done : List Field) (d : Draft) (f : Field)
    → Drafting t0 h0 done d
    → (o : Option ℕ) → newest_index d.table (has_name f.name) ≡ o
    → Drafting t0 h0 (done ++ f ∷ []) (literal_by_entry (insert_count t0) d f o)
drafting_literal_by_entry t0 h0 done d f k None e =
    drafting_writes t0 h0 done d (Literal f.name f.value) f k (literal_names (insert_count t0) f.name f.value)
    (literal_line (whole_window k.history) (insert_count t0) f)
drafting_literal_by_entry t0 h0 done d f k (Some a) e =
    let at = newest_found d.table (has_name f.name) a e in
    let means =
    line_by_name (whole_window k.history) (insert_count t0) a f at.item
    (found_whole d.table k.history (has_name f.name) a k.table.shares at) (same_name f.name at.item at.passes) in
    cond_both (may_reference d.table a) (with_referencing_line d a (name_reference_line (insert_count t0) a f))
    (with_line d (Literal f.name f.value))
    (Drafting t0 h0 (done ++ f ∷ []))
    (λ t. drafting_names t0 h0 done d a (name_reference_line (insert_count t0) a f) f k
    (named_line_names (insert_count t0) a f) means
    (at.above, at.within) (may_stand t0 h0 done d a k t))
    (λ _. drafting_writes t0 h0 done d (Literal f.name f.value) f k (literal_names (insert_count t0) f.name f.value)
    (literal_line (whole_window k.history) (insert_count t0) f))

drafting_literal : (t0 : Table) (h0 : History) (done : List Field) (d : Draft) (f : Field) → Drafting t0 h0 done d
    → (o : Option ℕ) → static_name_index f.name ≡ o → Drafting t0 h0 (done ++ f ∷ []) (literal (insert_count t0) d f o)
drafting_literal t0 h0 done d f k None e =
    drafting_literal_by_entry t0 h0 done d f k (newest_index d.table (has_name f.name)) refl
drafting_literal t0 h0 done d f k (Some i) e =
    let at = static_name_found f.name i e in
    drafting_writes t0 h0 done d (NamedStatic i f.value) f k (static_name_names (insert_count t0) i f.value)
    (static_name_line (whole_window k.history) (insert_count t0) i f at.0 at.1 at.2)

drafting_insertion_or_literal : (t0 : Table) (h0 : History) (done : List Field) (d : Draft) (f : Field) → Sound h0
    → Drafting t0 h0 done d → Drafting t0 h0 (done ++ f ∷ []) (insertion_or_literal (insert_count t0) d f)
drafting_insertion_or_literal t0 h0 done d f s k =
    cond_both (below_limit d.table && has_room d.table f) (with_new_entry (insert_count t0) d f)
    (literal (insert_count t0) d f (static_name_index f.name)) (Drafting t0 h0 (done ++ f ∷ []))
    (λ t. let p = and_parts (below_limit d.table) (has_room d.table f) t in
    let lt : length d.table.blocked < d.table.limit = ltb-true _ _ p.0 in
    let r = room d.table f p.1 in
    drafting_inserts t0 h0 done d f (eviction_count_for d.table f) s k
    (rw (← k.references.blocked, ← k.references.limit) lt) r (evicted_bound d.table f r.fits))
    (λ _. drafting_literal t0 h0 done d f k (static_name_index f.name) refl)

drafting_by_entry : (t0 : Table) (h0 : History) (done : List Field) (d : Draft) (f : Field) → Sound h0
    → Drafting t0 h0 done d
    → (o : Option ℕ) → newest_index d.table (is_field f) ≡ o
    → Drafting t0 h0 (done ++ f ∷ []) (by_entry (insert_count t0) d f o)
drafting_by_entry t0 h0 done d f s k None e = drafting_insertion_or_literal t0 h0 done d f s k
drafting_by_entry t0 h0 done d f s k (Some a) e =
    let at = newest_found d.table (is_field f) a e in
    let there : absolute_entry (whole_window k.history) a ≡ Some f =
    found_whole d.table k.history (is_field f) a k.table.shares at
    ∙ ap Some (sym (same_field f at.item at.passes)) in
    cond_both (nat_le a (insert_count t0) && may_reference d.table a)
    (with_referencing_line d a (IndexedDynamic (insert_count t0 - a)))
    (insertion_or_literal (insert_count t0) d f) (Drafting t0 h0 (done ++ f ∷ []))
    (λ t. let p = and_parts (nat_le a (insert_count t0)) (may_reference d.table a) t in
    let le : a ≤ insert_count t0 = leb-true _ _ p.0 in
    drafting_names t0 h0 done d a (IndexedDynamic (insert_count t0 - a)) f k (indexed_names (insert_count t0) a le)
    (indexed_line (whole_window k.history) (insert_count t0) a f le there) (at.above, at.within)
    (may_stand t0 h0 done d a k p.1))
    (λ _. drafting_insertion_or_literal t0 h0 done d f s k)

drafting_by_static : (t0 : Table) (h0 : History) (done : List Field) (d : Draft) (f : Field) → Sound h0
    → Drafting t0 h0 done d
    → (o : Option ℕ) → static_index f ≡ o → Drafting t0 h0 (done ++ f ∷ []) (by_static (insert_count t0) d f o)
drafting_by_static t0 h0 done d f s k None e = drafting_by_entry t0 h0 done d f s k
    (newest_index d.table (is_field f)) refl
drafting_by_static t0 h0 done d f s k (Some i) e =
    drafting_writes t0 h0 done d (IndexedStatic i) f k (static_names (insert_count t0) i)
    (static_line (whole_window k.history) (insert_count t0) i f (static_found f i e))

-- one field
drafting_field : (t0 : Table) (h0 : History) (done : List Field) (d : Draft) (f : Field) → Sound h0
    → Drafting t0 h0 done d → Drafting t0 h0 (done ++ f ∷ []) (rule_field (insert_count t0) d f)
unfolding rule_field
drafting_field t0 h0 done d f s k = drafting_by_static t0 h0 done d f s k (static_index f) refl

drafting_fields : (t0 : Table) (h0 : History) (done : List Field) (d : Draft) (fs : List Field) → Sound h0
    → Drafting t0 h0 done d → Drafting t0 h0 (done ++ fs) (rule_fields (insert_count t0) d fs)
drafting_fields t0 h0 done d [] s k = rw append-nil k
drafting_fields t0 h0 done d (f ∷ fs) s k =
    subst (λ (l : List Field). Drafting t0 h0 l (rule_fields (insert_count t0) (rule_field (insert_count t0) d f) fs))
    (append_assoc done (f ∷ []) fs)
    (drafting_fields t0 h0 (done ++ f ∷ []) (rule_field (insert_count t0) d f) fs s (drafting_field t0 h0 done d f s k))

pub keeps_unnamed : (h : History) (t : Table) → KeepsTable h t → KeepsTable h (without_references t)
unfolding without_references window
keeps_unnamed h t k = record { shares = k.shares; marked = k.marked; behind = k.behind; held = k.held }

pub drafting_blank : (t0 : Table) (h0 : History) → KeepsTable h0 t0 → Drafting t0 h0 [] (empty_draft t0)
unfolding fields_of references_of without_references
drafting_blank t0 h0 k =
    record {
      history = h0;
      leads = refl;
      table = keeps_unnamed h0 t0 k;
      references = refers_blank t0;
      referenced = tt;
      means = refl;
      may = tt;
    }

-- THE RULE: the block means the fields under all insertions, its instructions lead from the old table to the new one,
-- each entry that it names is live, and may be referenced
pub rule_drafts : (t : Table) (h : History) (fs : List Field) → Sound h → KeepsTable h t → Drafting t h fs (rule t fs)
unfolding rule
rule_drafts t h fs s k = drafting_fields t h [] (empty_draft t) fs s (drafting_blank t h k)
