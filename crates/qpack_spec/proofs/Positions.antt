-- Positions found in lists and tables, the instruction of an insertion, and which entries are evictable.
use Rattle.std.proofs.Common.{length-append, ℕ, zero, suc, ◌+◌, ◌-◌, ◌^◌, ◌<◌, ◌≤◌, ◌≡◌, Bool, true, false, List, []}
use Rattle.std.proofs.Common.{◌∷◌, ◌++◌, length, drop, take, Option, None, Some, Ok, refl, sym, ap, ◌∙◌, subst, inl}
use Rattle.std.proofs.Common.{inr, ◌⊎◌, arith, length-drop}
use Rattle.std.specs.List.{AllByRecursion, slice_get, list_any}
use Rattle.std.specs.Option.{option_map}
use Rattle.std.specs.Prelude.{nat_eq, MatchOption}
use Rattle.std.specs.Str.{bytes_eq}
use Rattle.std.proofs.lemmas.Slice.Eq.{bytes_eq-Decides}
use Rattle.std.proofs.lemmas.Bool.{or_cases, eqb-true, cond_both, lt-ltb, le-leb, eq-eqb, ne_eqb, or_parts, and_parts}
use Rattle.std.proofs.lemmas.Bool.{or_right, or_left, cases_lt, ltb-false, not-true}
use Rattle.std.proofs.lemmas.Option.{slice_get_within, same_Some}
use Rattle.std.proofs.lemmas.List.{length-map, length-take-le, drop-map, map-append}
use Rattle.qpack_spec.specs.Field.{Field, field_size, has_name, is_field}
use Rattle.qpack_spec.specs.StaticTable.{static_table, IsLeastStatic, NoStatic, static_index, static_name_index}
use Rattle.qpack_spec.specs.Window.{Window, window_insert_count, relative_entry, insertion, effect, with_value}
use Rattle.qpack_spec.specs.Window.{window_after, Inserts, eviction_count}
use Rattle.qpack_spec.specs.Table.{Entry, UnacknowledgedBlock, Table, fields_in, window, insert_count, has_number}
use Rattle.qpack_spec.specs.Table.{with_number, with_numbers}
use Rattle.qpack_spec.specs.Table.{is_evictable, all_evictable, can_evict, eviction_count_for, with_entry}
use Rattle.qpack_spec.specs.Table.{later_position, last_position, newest_index}
use Rattle.qpack_spec.specs.Rule.{by_name, by_static_name, by_equal, instruction_for}
use Rattle.qpack_spec.proofs.StaticIndexes.{field_is, index_is_least, name_index_is_least}
use Rattle.qpack_spec.proofs.Lists.{every_append, every_left, every_right, get_drop, every_both, every_weaker}
use Rattle.qpack_spec.proofs.Windows.{size_least, eviction_count_bound}

-- an element that passes, and its place
record FoundAt (X : Type 0) (p : X → Bool) (xs : List X) (i : ℕ) : Type 0 where
  pub item : X
  pub there : slice_get xs i ≡ Some item
  pub passes : p item ≡ true

last_found : {X : Type 0} (p : X → Bool) (xs : List X) (i : ℕ) → last_position p xs ≡ Some i → FoundAt X p xs i
unfolding last_position
last_found p [] i h = absurd (cc)
last_found {X} p (x ∷ xs) i h = pick (last_position p xs) refl (p x) refl (last_found p xs) i h
  where
    pick : (o : Option ℕ) → last_position p xs ≡ o → (b : Bool) → p x ≡ b
        → ((j : ℕ) → last_position p xs ≡ Some j → FoundAt X p xs j) → (n : ℕ) → later_position o b ≡ Some n
        → FoundAt X p (x ∷ xs) n
    pick (Some j) e b q rest n k = let r = rest j e in let s : suc j ≡ n =
        cc in subst (FoundAt X p (x ∷ xs)) s (record { item = r.item; there = r.there; passes = r.passes })
    pick None e true q rest n k = let s : 0 ≡ n =
        same_Some 0 n k in subst (FoundAt X p (x ∷ xs)) s (record { item = x; there = refl; passes = q })
    pick None e false q rest n k = absurd (cc)

-- the static field of a position that was found
pub static_found : (f : Field) (i : ℕ) → static_index f ≡ Some i → slice_get static_table i ≡ Some f
static_found f i e =
    let is : IsLeastStatic (λ g. g ≡ f) i =
    subst (λ (o : Option ℕ). MatchOption o (NoStatic (λ g. g ≡ f)) (IsLeastStatic (λ g. g ≡ f))) e (index_is_least f) in
    is.at.1 ∙ ap Some is.at.2

pub static_name_found : (name : List ℕ) (i : ℕ) → static_name_index name ≡ Some i
    → (g : Field) × (slice_get static_table i ≡ Some g) × (name ≡ g.name)
static_name_found name i e =
    let is : IsLeastStatic (λ g. g.name ≡ name) i =
    subst (λ (o : Option ℕ). MatchOption o (NoStatic (λ g. g.name ≡ name)) (IsLeastStatic (λ g. g.name ≡ name))) e
    (name_index_is_least name) in
    (is.at.0, is.at.1, sym is.at.2)

pub same_name : (n : List ℕ) (g : Field) → has_name n g ≡ true → n ≡ g.name
same_name n g h = (bytes_eq-Decides n g.name).0 h

pub same_field : (f g : Field) → is_field f g ≡ true → f ≡ g
same_field f g h =
    let p = and_parts (bytes_eq f.name g.name) (bytes_eq f.value g.value) h in
    field_is f.name g.name f.value g.value ((bytes_eq-Decides f.name g.name).0 p.0)
    ((bytes_eq-Decides f.value g.value).0 p.1)

pub named_field : (f g : Field) → f.name ≡ g.name → with_value f.value g ≡ f
named_field f g e = field_is g.name f.name f.value f.value (sym e) refl

-- the newest entry that passes, by its absolute index
pub record FoundEntry (t : Table) (p : Field → Bool) (a : ℕ) : Type 0 where
  pub item : Field
  pub position : ℕ
  pub index : t.dropped + position + 1 ≡ a
  pub there : slice_get (fields_in t.live) position ≡ Some item
  pub passes : p item ≡ true
  pub above : t.dropped < a
  pub within : a ≤ insert_count t

pub newest_found : (t : Table) (p : Field → Bool) (a : ℕ) → newest_index t p ≡ Some a → FoundEntry t p a
unfolding newest_index
newest_found t p a h = pick (last_position p (fields_in t.live)) refl h
  where
    pick : (o : Option ℕ) → last_position p (fields_in t.live) ≡ o → option_map (λ i. t.dropped + i + 1) o ≡ Some a
        → FoundEntry t p a
    pick None e k = absurd cc
    pick (Some i) e k =
        let at = last_found p (fields_in t.live) i e in
        let is : t.dropped + i + 1 ≡ a = same_Some _ _ k in
        let lt : i < length (fields_in t.live) = slice_get_within (fields_in t.live) i at.item at.there in
        let n : length (fields_in t.live) ≡ length t.live = length-map t.live (λ (x : Entry). x.field) in
        record {
          item = at.item;
          position = i;
          index = is;
          there = at.there;
          passes = at.passes;
          above = omega arith;
          within = omega arith;
        }

-- an entry that stays, as instructions name it
recent_kept : (w : Window) (k i : ℕ) (g : Field) → k ≤ length w.live → slice_get (drop k w.live) i ≡ Some g
    → relative_entry w (length (drop k w.live) - 1 - i) ≡ Some g
unfolding relative_entry
recent_kept w k i g le h =
    let within : i < length (drop k w.live) = slice_get_within (drop k w.live) i g h in
    let n : length (drop k w.live) ≡ length w.live - k = length-drop k w.live in
    let lt : length (drop k w.live) - 1 - i < length w.live = omega arith in
    let e : length w.live - 1 - (length (drop k w.live) - 1 - i) ≡ k + i = omega arith in
    rw (lt-ltb _ _ lt, e, ← get_drop) h

name_effect : (w : Window) (f : Field) (k : ℕ) → k ≤ length w.live → (o : Option ℕ)
    → last_position (has_name f.name) (drop k w.live) ≡ o → effect w (by_name f (length (drop k w.live)) o)
    ≡ insertion w f
unfolding effect
name_effect w f k le (Some i) e =
    let at = last_found (has_name f.name) (drop k w.live) i e in
    rw (recent_kept w k i at.item le at.there)
    (ap (insertion w) (named_field f at.item (same_name f.name at.item at.passes)))
name_effect w f k le None e = refl

static_effect : (w : Window) (f : Field) (k : ℕ) → k ≤ length w.live → (o : Option ℕ) → static_name_index f.name ≡ o
    → effect w (by_static_name f (drop k w.live) o) ≡ insertion w f
unfolding effect
static_effect w f k le (Some i) e =
    let at = static_name_found f.name i e in
    rw at.1 (ap (insertion w) (named_field f at.0 at.2))
static_effect w f k le None e = name_effect w f k le (last_position (has_name f.name) (drop k w.live)) refl

equal_effect : (w : Window) (f : Field) (k : ℕ) → k ≤ length w.live → (o : Option ℕ)
    → last_position (is_field f) (drop k w.live) ≡ o → effect w (by_equal f (drop k w.live) o) ≡ insertion w f
unfolding effect
equal_effect w f k le (Some i) e =
    let at = last_found (is_field f) (drop k w.live) i e in
    rw (recent_kept w k i at.item le at.there) (ap (insertion w) (sym (same_field f at.item at.passes)))
equal_effect w f k le None e = static_effect w f k le (static_name_index f.name) refl

-- the instruction inserts the field, whichever form it has
pub instruction_effect : (w : Window) (f : Field) (k : ℕ) → k ≤ length w.live → field_size f ≤ w.capacity
    → window_insert_count w < 2 ^ 62 → effect w (instruction_for f (drop k w.live)) ≡ Ok (Inserts f)
unfolding instruction_for insertion
instruction_effect w f k le fits few =
    equal_effect w f k le (last_position (is_field f) (drop k w.live)) refl
    ∙ (rw (
      ne_eqb w.capacity 0 (λ e. absurd (omega (arith, size_least f))),
      le-leb (field_size f) w.capacity fits,
      lt-ltb (window_insert_count w) (2 ^ 62) few,
    ) refl)

pub window_entered : (t : Table) (e : Entry) → window (with_entry t e) ≡ window_after (window t) (Inserts e.field)
unfolding window with_entry window_after
window_entered t x =
    let f = x.field in
    let k = eviction_count_for t f in
    let e : fields_in (drop k (t.live ++ x ∷ [])) ≡ drop k (fields_in t.live ++ f ∷ []) =
    sym (drop-map (λ (y : Entry). y.field) k (t.live ++ x ∷ []))
    ∙ ap (drop k) (map-append (λ (y : Entry). y.field) t.live (x ∷ [])) in
    ap (λ (l : List Field). let w : Window = record {
      capacity = t.capacity;
      agreed_max = t.agreed_max;
      dropped = t.dropped + k;
      live = l;
    } in w) e

-- what goes is live
pub eviction_count_live : (t : Table) (n : ℕ) → eviction_count n (fields_in t.live) ≤ length t.live
eviction_count_live t n =
    omega (arith, eviction_count_bound n (fields_in t.live), length-map t.live (λ (x : Entry). x.field))

-- no block references the entry, and it was received
pub record IsFree (t : Table) (x : ℕ) : Type 0 where
  pub unnamed : has_number x t.referenced ≡ false
  pub unopened : list_any (λ (b : UnacknowledgedBlock). has_number x b.entries) t.unacknowledged ≡ false
  pub received : x ≤ t.known_received_count

evictable_free : (t : Table) (x : ℕ) → is_evictable t x true ≡ true → IsFree t x
unfolding is_evictable
evictable_free t x h =
    let p = or_parts (has_number x t.referenced) _ (not-true _ h) in
    let q = or_parts (list_any (λ (b : UnacknowledgedBlock). has_number x b.entries) t.unacknowledged) _ p.1 in
    record { unnamed = p.0; unopened = q.0; received = ltb-false _ _ q.1 }

all_evictable_at : (t : Table) (a : ℕ) (es : List Entry) → all_evictable t a es ≡ true
    → AllByRecursion (λ (e : Entry). e.sent ≡ true) es → (x : ℕ) → a ≤ x → x < a + length es → IsFree t x
unfolding all_evictable
all_evictable_at t a [] h m x low high = absurd (omega arith)
all_evictable_at t a (e ∷ es) h m x low high =
    let rest = all_evictable_at t (suc a) es in
    cond_both (is_evictable t a e.sent) (all_evictable t (suc a) es) false (λ b. b ≡ true → IsFree t x)
    (λ free q. pick free (rest q m.1) (cases_lt a x))
    (λ _ q. absurd (cc))
    h
  where
    pick : is_evictable t a e.sent ≡ true → ((y : ℕ) → suc a ≤ y → y < suc a + length es → IsFree t y) → (a < x)
        ⊎ (x ≤ a)
        → IsFree t x
    pick free rest (inl lt) = rest x (omega arith) (omega arith)
    pick free rest (inr le) = let same : a
        ≡ x = omega arith in subst (IsFree t) same (evictable_free t a (rw m.0 at free))

pub every_take : {X : Type 0} (P : X → Type 0) (n : ℕ) (xs : List X) → AllByRecursion P xs
    → AllByRecursion P (take n xs)
every_take P zero xs h = tt
every_take P (suc n) [] h = tt
every_take P (suc n) (x ∷ xs) h = (h.0, every_take P n xs h.1)

pub evicted_free : (t : Table) (k : ℕ) → can_evict t k ≡ true → k ≤ length t.live
    → AllByRecursion (λ (e : Entry). e.sent ≡ true) t.live → (x : ℕ) → t.dropped < x → x ≤ t.dropped + k → IsFree t x
evicted_free t k h le m x low high =
    all_evictable_at t (suc t.dropped) (take k t.live) h (every_take (λ (e : Entry). e.sent ≡ true) k t.live m) x
    (omega arith) (omega (arith, length-take-le k t.live le))

has_each : (xs : List ℕ) → AllByRecursion (λ x. has_number x xs ≡ true) xs
has_each [] = tt
has_each (a ∷ xs) = (
  or_left (nat_eq a a) (has_number a xs) (eq-eqb a a refl),
  every_weaker (λ x. has_number x xs ≡ true) (λ x. has_number x (a ∷ xs) ≡ true)
      (λ x h. or_right (nat_eq a x) (has_number x xs) h) xs (has_each xs),
)

-- what holds of the numbers named and of one more
pub every_track : (P : ℕ → Type 0) (referenced : List ℕ) (a : ℕ) → AllByRecursion P referenced → P a
    → AllByRecursion P (with_number referenced a)
unfolding with_number
every_track P referenced a h k =
    cond_both (has_number a referenced) referenced (referenced ++ a ∷ []) (AllByRecursion P) (λ _. h)
    (λ _. every_append P referenced (a ∷ []) h (k, tt))

every_has : (P : ℕ → Type 0) (referenced : List ℕ) (a : ℕ) → has_number a referenced ≡ true
    → AllByRecursion P referenced → P a
every_has P [] a t h = absurd (cc)
every_has P (x ∷ xs) a t h = let rest = λ (m : has_number a xs ≡ true). every_has P xs a m h.1 in
    pick rest (or_cases (nat_eq x a) (has_number a xs) t)
  where
    pick : (has_number a xs ≡ true → P a) → (nat_eq x a ≡ true) ⊎ (has_number a xs ≡ true) → P a
    pick rest (inl e) = subst P (eqb-true x a e) h.0
    pick rest (inr m) = rest m

every_untrack : (P : ℕ → Type 0) (referenced : List ℕ) (a : ℕ) → AllByRecursion P (with_number referenced a)
    → AllByRecursion P referenced × P a
unfolding with_number
every_untrack P referenced a =
    cond_both (has_number a referenced) referenced (referenced ++ a ∷ [])
    (λ xs. AllByRecursion P xs → AllByRecursion P referenced × P a)
    (λ t h. (h, every_has P referenced a t h))
    (λ _ h. (every_left P referenced (a ∷ []) h, (every_right P referenced (a ∷ []) h).0))

pub every_number : (P : ℕ → Type 0) (xs referenced : List ℕ) → AllByRecursion P (with_numbers referenced xs)
    → AllByRecursion P referenced × AllByRecursion P xs
every_number P [] referenced h = (h, tt)
every_number P (x ∷ xs) referenced h =
    let r = every_number P xs (with_number referenced x) h in
    let q = every_untrack P referenced x r.0 in
    (q.0, (q.1, r.1))

pub numbers_append : (referenced xs ys : List ℕ) → with_numbers referenced (xs ++ ys)
    ≡ with_numbers (with_numbers referenced xs) ys
numbers_append referenced [] ys = refl
numbers_append referenced (x ∷ xs) ys = numbers_append (with_number referenced x) xs ys

track_some : (referenced : List ℕ) (a : ℕ) → 0 < length (with_number referenced a)
unfolding with_number
track_some [] a = omega arith
track_some (x ∷ xs) a =
    cond_both (has_number a (x ∷ xs)) (x ∷ xs) ((x ∷ xs) ++ a ∷ []) (λ l. 0 < length l) (λ _. omega arith)
    (λ _. omega arith)

track_longer : (referenced : List ℕ) (a : ℕ) → length referenced ≤ length (with_number referenced a)
unfolding with_number
track_longer referenced a =
    cond_both (has_number a referenced) referenced (referenced ++ a ∷ []) (λ l. length referenced ≤ length l)
    (λ _. omega arith)
    (λ _. omega (arith, length-append referenced (a ∷ [])))

numbers_longer : (xs referenced : List ℕ) → length referenced ≤ length (with_numbers referenced xs)
numbers_longer [] referenced = omega arith
numbers_longer (x ∷ xs) referenced = omega
    (arith, track_longer referenced x, numbers_longer xs (with_number referenced x))

pub numbers_none : (xs : List ℕ) → with_numbers [] xs ≡ [] → xs ≡ []
numbers_none [] e = refl
numbers_none (x ∷ xs) e = absurd (omega (arith, track_some [] x, numbers_longer xs (with_number [] x), ap length e))

-- numbers that stood above d stand above d + k where none between is among them
pub above_dropped : (d n k : ℕ) (xs : List ℕ) → ((x : ℕ) → d < x → x ≤ d + k → has_number x xs ≡ false)
    → AllByRecursion (λ a. (d < a) × (a ≤ n)) xs → AllByRecursion (λ a. (d + k < a) × (a ≤ n)) xs
above_dropped d n k xs none h =
    every_both (λ a. (d < a) × (a ≤ n)) (λ a. has_number a xs ≡ true) (λ a. (d + k < a) × (a ≤ n))
    (λ a r t. (up a r.0 t, r.1)) xs h (has_each xs)
  where
    pick : (a : ℕ) → d < a → has_number a xs ≡ true → (d + k < a) ⊎ (a ≤ d + k) → d + k < a
    pick a lt t (inl up) = up
    pick a lt t (inr le) = let free = none a lt le in absurd (cc)

    up : (a : ℕ) → d < a → has_number a xs ≡ true → d + k < a
    up a lt t = pick a lt t (cases_lt (d + k) a)

pub opened_above : (d n k : ℕ) (bs : List UnacknowledgedBlock)
    → ((x : ℕ) → d < x → x ≤ d + k → list_any (λ (b : UnacknowledgedBlock). has_number x b.entries) bs ≡ false)
    → AllByRecursion (λ (b : UnacknowledgedBlock). AllByRecursion (λ a. (d < a) × (a ≤ n)) b.entries) bs
    → AllByRecursion (λ (b : UnacknowledgedBlock). AllByRecursion (λ a. (d + k < a) × (a ≤ n)) b.entries) bs
opened_above d n k [] none h = tt
opened_above d n k (b ∷ bs) none h = (
  above_dropped d n k b.entries (λ x low high. (or_parts (has_number x b.entries) _ (none x low high)).0) h.0,
  opened_above d n k bs (λ x low high. (or_parts (has_number x b.entries) _ (none x low high)).1) h.1,
)

-- what goes was received
pub drops_received : (t : Table) (k : ℕ) → t.dropped ≤ t.known_received_count
    → ((x : ℕ) → t.dropped < x → x ≤ t.dropped + k → IsFree t x) → t.dropped + k ≤ t.known_received_count
drops_received t zero b none = omega arith
drops_received t (suc k) b none = omega (arith, (none (t.dropped + suc k) (omega arith) (omega arith)).received)
