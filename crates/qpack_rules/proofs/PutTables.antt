-- A table at which everything is evictable, as a decoder's is: an instruction does to it what it does to its window.
use Rattle.std.proofs.Common.{ℕ, zero, suc, ◌+◌, ◌^◌, ◌≡◌, Bool, true, false, List, [], ◌∷◌, ◌++◌, take, drop, map}
use Rattle.std.proofs.Common.{Option, None, Some, Result, Ok, Err, refl, sym, ap, ◌∙◌}
use Rattle.std.specs.List.{slice_get}
use Rattle.std.specs.Prelude.{nat_lt, nat_le, nat_eq, cond, ◌&&◌}
use Rattle.std.proofs.lemmas.List.{drop-map, map-append, length-map}
use Rattle.qpack_spec.specs.Bytes.{◌>>=◌}
use Rattle.qpack_spec.specs.Field.{Field, field_size}
use Rattle.qpack_spec.specs.StaticTable.{static_table}
use Rattle.qpack_spec.specs.Instruction.{EncoderInstruction, InsertStaticName, InsertDynamicName, InsertLiteralName}
use Rattle.qpack_spec.specs.Instruction.{Duplicate}
use Rattle.qpack_spec.specs.Instruction.{SetCapacity}
use Rattle.qpack_spec.specs.Window.{Window, greatest_capacity, window_insert_count, relative_entry, eviction_count}
use Rattle.qpack_spec.specs.Window.{TableRefusal, NoEntry, NoStaticField}
use Rattle.qpack_spec.specs.Window.{DoesNotFit, AboveMaximum, Effect, Inserts, Ignored, Resizes, or_refusal, with_value}
use Rattle.qpack_spec.specs.Window.{insertion, effect, window_after, apply}
use Rattle.qpack_spec.specs.Table.{Table, put_entry, fields_in, window, insert_count, is_evictable, all_evictable}
use Rattle.qpack_spec.specs.Table.{can_evict}
use Rattle.qpack_spec.specs.Table.{eviction_count_for, with_entry, put, with_capacity, apply_encoder_instruction}
use Rattle.qpack_spec.specs.Table.{table_of}

fields_put : (fs : List Field) → fields_in (map (λ f. put_entry f) fs) ≡ fs
fields_put [] = refl
fields_put (f ∷ fs) = ap (λ (l : List Field). f ∷ l) (fields_put fs)

pub window_put : (w : Window) → window (table_of w) ≡ w
unfolding window table_of
window_put w =
    ap (λ (l : List Field). let x : Window = record {
      capacity = w.capacity;
      agreed_max = w.agreed_max;
      dropped = w.dropped;
      live = l;
    } in x) (fields_put w.live)

pub count_put : (w : Window) → insert_count (table_of w) ≡ window_insert_count w
unfolding table_of
count_put w = ap (λ n. w.dropped + n) (length-map w.live (λ (f : Field). put_entry f))

-- everything is evictable
none_put : (w : Window) (a k : ℕ) (fs : List Field)
    → all_evictable (table_of w) a (take k (map (λ f. put_entry f) fs)) ≡ true
unfolding all_evictable is_evictable table_of
none_put w a zero fs = refl
none_put w a (suc k) [] = refl
none_put w a (suc k) (f ∷ fs) = none_put w (suc a) k fs

drops_put : (w : Window) (k : ℕ) → can_evict (table_of w) k ≡ true
unfolding table_of
drops_put w k = none_put w (suc w.dropped) k w.live

-- the parts of such a table
capacity_put : (w : Window) → (table_of w).capacity ≡ w.capacity
unfolding table_of
capacity_put w = refl

-- a put entry
entered_put : (w : Window) (f : Field) → with_entry (table_of w) (put_entry f) ≡ table_of (window_after w (Inserts f))
unfolding with_entry table_of window_after
entered_put w f =
    let e : fields_in (map (λ g. put_entry g) w.live) ++ f ∷ [] ≡ w.live ++ f ∷ [] =
    ap (λ (l : List Field). l ++ f ∷ []) (fields_put w.live) in
    let k = eviction_count w.capacity (w.live ++ f ∷ []) in
    let l : drop k (map (λ g. put_entry g) w.live ++ put_entry f ∷ [])
    ≡ map (λ g. put_entry g) (drop k (w.live ++ f ∷ [])) =
    ap (drop k) (sym (map-append (λ (g : Field). put_entry g) w.live (f ∷ [])))
    ∙ drop-map (λ (g : Field). put_entry g) k (w.live ++ f ∷ []) in
    rw (e, l) refl

one_choice : (b : Bool) (g : Effect → Table) (x : Table) (e : Effect) (r : TableRefusal) → x ≡ g e
    → cond b (Ok x) (Err r) ≡ (cond b (Ok e) (Err r) >>= λ y. Ok (g y))
one_choice true g x e r h = ap (λ (z : Table). let q : Result Table TableRefusal = Ok z in q) h
one_choice false g x e r h = refl

resized_put : (w : Window) (n : ℕ) → with_capacity (table_of w) n
    ≡ (cond (nat_le n (greatest_capacity w.agreed_max)) (Ok (Resizes n)) (Err AboveMaximum)
    >>= λ e. Ok (table_of (window_after w e)))
unfolding with_capacity window_after table_of
resized_put w n =
    let k = eviction_count n w.live in
    let e : fields_in (map (λ g. put_entry g) w.live) ≡ w.live = fields_put w.live in
    let l : drop k (map (λ g. put_entry g) w.live) ≡ map (λ g. put_entry g) (drop k w.live) =
    drop-map (λ (g : Field). put_entry g) k w.live in
    rw (e, drops_put w k, l) (one_choice (nat_le n (greatest_capacity w.agreed_max)) (λ y. table_of (window_after w y))
    (table_of (window_after w (Resizes n))) (Resizes n) AboveMaximum refl)

three_choices : (b c d d' : Bool) (g : Effect → Table) (t x : Table) (f : Field) → d ≡ d' → t ≡ g Ignored
    → x ≡ g (Inserts f)
    → cond b (Ok t) (cond c (cond d (Ok x) (Ok t)) (Err DoesNotFit))
    ≡ (cond b (Ok Ignored) (cond c (cond d' (Ok (Inserts f)) (Ok Ignored)) (Err DoesNotFit)) >>= λ y. Ok (g y))
three_choices true c d d' g t x f e h k = ap (λ (z : Table). let q : Result Table TableRefusal = Ok z in q) h
three_choices false true true true g t x f e h k = ap (λ (z : Table). let q : Result Table TableRefusal = Ok z in q) k
three_choices false true false false g t x f e h k = ap (λ (z : Table). let q : Result Table TableRefusal = Ok z in q) h
three_choices false true true false g t x f e h k = absurd cc
three_choices false true false true g t x f e h k = absurd cc
three_choices false false d d' g t x f e h k = refl

both_hold : (a b : Bool) → b ≡ true → (a && b) ≡ a
both_hold true b e = e
both_hold false b e = refl

ignored_put : (w : Window) → table_of w ≡ table_of (window_after w Ignored)
unfolding window_after
ignored_put w = refl

put_is : (w : Window) (f : Field) → put (table_of w) f ≡ (insertion w f >>= λ e. Ok (table_of (window_after w e)))
unfolding put insertion
put_is w f =
    let k = eviction_count_for (table_of w) f in
    let d : (nat_lt (insert_count (table_of w)) (2 ^ 62) && can_evict (table_of w) k)
    ≡ nat_lt (window_insert_count w) (2 ^ 62) =
    both_hold (nat_lt (insert_count (table_of w)) (2 ^ 62)) (can_evict (table_of w) k) (drops_put w k)
    ∙ ap (λ n. nat_lt n (2 ^ 62)) (count_put w) in
    three_choices (nat_eq (table_of w).capacity 0) (nat_le (field_size f) (table_of w).capacity) _ _
    (λ e. table_of (window_after w e)) (table_of w) (with_entry (table_of w) (put_entry f)) f d (ignored_put w)
    (entered_put w f)
    ∙ ap (λ (c : ℕ). cond (nat_eq c 0) (Ok Ignored)
    (cond (nat_le (field_size f) c) (cond (nat_lt (window_insert_count w) (2 ^ 62)) (Ok (Inserts f)) (Ok Ignored))
    (Err DoesNotFit))
    >>= λ e. (let q : Result Table TableRefusal = Ok (table_of (window_after w e)) in q)) (capacity_put w)

-- what is found goes on alike on both sides
found_put : (w : Window) (o : Option Field) (r : TableRefusal) (g : Field → Field)
    → (or_refusal o r >>= λ f. put (table_of w) (g f))
    ≡ ((or_refusal o r >>= λ f. insertion w (g f)) >>= λ e. Ok (table_of (window_after w e)))
found_put w None r g = refl
found_put w (Some f) r g = put_is w (g f)

recent_put : (w : Window) (i : ℕ) → relative_entry (window (table_of w)) i ≡ relative_entry w i
recent_put w i = ap (λ (x : Window). relative_entry x i) (window_put w)

applies : (w : Window) (i : EncoderInstruction) → apply_encoder_instruction (table_of w) i
    ≡ (effect w i >>= λ e. Ok (table_of (window_after w e)))
unfolding apply_encoder_instruction effect
applies w (InsertStaticName i v) = found_put w (slice_get static_table i) (NoStaticField i) (with_value v)
applies w (InsertDynamicName i v) = rw (recent_put w i) (found_put w (relative_entry w i) (NoEntry i) (with_value v))
applies w (InsertLiteralName n v) = put_is w (record { name = n; value = v })
applies w (Duplicate i) = rw (recent_put w i) (found_put w (relative_entry w i) (NoEntry i) (λ f. f))
applies w (SetCapacity n) = resized_put w n

twice : (r : Result Effect TableRefusal) (g : Effect → Window)
    → (r >>= λ e. Ok (table_of (g e))) ≡ ((r >>= λ e. Ok (g e)) >>= λ w. Ok (table_of w))
twice (Ok e) g = refl
twice (Err d) g = refl

-- an instruction makes of a decoder's table the table of what it makes of its window, and is refused alike
pub applied_put : (w : Window) (i : EncoderInstruction) → apply_encoder_instruction (table_of w) i
    ≡ (apply w i >>= λ x. Ok (table_of x))
applied_put w i = applies w i ∙ twice (effect w i) (window_after w)
