-- The encoder sets a capacity.
use Rattle.std.proofs.Common.{ℕ, ◌+◌, ◌<◌, ◌≤◌, ◌≡◌, true, cond, List, [], ◌∷◌, ◌++◌, length, drop, Option, Result, Ok}
use Rattle.std.proofs.Common.{Err, refl, sym, ap, ◌∙◌, subst, inl, inr, ◌⊎◌, arith, length-drop}
use Rattle.std.specs.List.{AllByRecursion}
use Rattle.std.specs.Prelude.{nat_le}
use Rattle.std.proofs.lemmas.Bool.{cond_both, le-leb, leb-true}
use Rattle.std.proofs.lemmas.List.{append_assoc, drop-map}
use Rattle.qpack_spec.specs.Field.{Field}
use Rattle.qpack_spec.specs.Instruction.{SetCapacity}
use Rattle.qpack_spec.specs.Window.{Window, greatest_capacity, eviction_count, TableRefusal, DoesNotFit, AboveMaximum}
use Rattle.qpack_spec.specs.Window.{Resizes}
use Rattle.qpack_spec.specs.Window.{effect, window_after}
use Rattle.qpack_spec.specs.History.{History, window_of, history_after}
use Rattle.qpack_spec.specs.Table.{Entry, UnacknowledgedBlock, Table, fields_in, window, insert_count, can_evict}
use Rattle.qpack_spec.specs.Table.{with_capacity}
use Rattle.qpack_rules.specs.Session.{stream_at}
use Rattle.qpack_safety.specs.AbstractSession.{AbstractSession, after_resize}
use Rattle.qpack_spec.proofs.Lists.{every_drop, every_weaker}
use Rattle.qpack_spec.proofs.Windows.{Sound, leads_append, window_grown, grows_one}
use Rattle.qpack_spec.proofs.Positions.{IsFree, evicted_free, opened_above, drops_received, eviction_count_live}
use Rattle.qpack_spec.proofs.Drafts.{IsLive, IsSent, KeepsTable}
use Rattle.qpack_safety.proofs.Invariant.{stream_grows, Invariant, sound_made}

pub record CanResize (t : Table) (n : ℕ) : Type 0 where
  pub within : n ≤ greatest_capacity t.agreed_max
  pub drops : can_evict t (eviction_count n (fields_in t.live)) ≡ true

pub resized_table : Table → ℕ → Table
resized_table t n =
    record t {
      capacity = n;
      dropped = t.dropped + eviction_count n (fields_in t.live);
      live = drop (eviction_count n (fields_in t.live)) t.live;
    }

-- a capacity is taken, or refused for the one reason or the other
pub resized_cases : (t : Table) (n : ℕ) → (CanResize t n × (with_capacity t n ≡ Ok (resized_table t n)))
    ⊎ ((e : TableRefusal) × (with_capacity t n ≡ Err e))
unfolding with_capacity resized_table
resized_cases t n =
    let evicted = eviction_count n (fields_in t.live) in
    let drops = cond (can_evict t evicted) (Ok (resized_table t n)) (Err DoesNotFit) in
    cond_both (nat_le n (greatest_capacity t.agreed_max)) drops (Err AboveMaximum)
    (λ r. (CanResize t n × (r ≡ Ok (resized_table t n))) ⊎ ((e : TableRefusal) × (r ≡ Err e)))
    (λ t1. cond_both (can_evict t evicted) (Ok (resized_table t n)) (Err DoesNotFit)
    (λ r. (CanResize t n × (r ≡ Ok (resized_table t n))) ⊎ ((e : TableRefusal) × (r ≡ Err e)))
    (λ t2. inl (record { within = leb-true _ _ t1; drops = t2 }, refl))
    (λ _. inr (DoesNotFit, refl)))
    (λ _. inr (AboveMaximum, refl))

pub resize_effect : (w : Window) (n : ℕ) → n ≤ greatest_capacity w.agreed_max
    → effect w (SetCapacity n) ≡ Ok (Resizes n)
unfolding effect
resize_effect w n h = rw (le-leb n (greatest_capacity w.agreed_max) h) refl

window_resized : (t : Table) (n : ℕ) → window (resized_table t n) ≡ window_after (window t) (Resizes n)
unfolding window resized_table window_after
window_resized t n =
    let k = eviction_count n (fields_in t.live) in
    ap (λ (l : List Field). let w : Window = record {
      capacity = n;
      agreed_max = t.agreed_max;
      dropped = t.dropped + k;
      live = l;
    } in w) (sym (drop-map (λ (x : Entry). x.field) k t.live))

-- the parts of a resized table
pub record SameResized (t t' : Table) (k : ℕ) : Type 0 where
  pub z_known : t'.known_received_count ≡ t.known_received_count
  pub z_limit : t'.limit ≡ t.limit
  pub z_opened : t'.unacknowledged ≡ t.unacknowledged
  pub z_waiting : t'.blocked ≡ t.blocked
  pub z_dropped : t'.dropped ≡ t.dropped + k
  pub z_live : t'.live ≡ drop k t.live

pub same_resized : (t : Table) (n : ℕ) → SameResized t (resized_table t n) (eviction_count n (fields_in t.live))
unfolding resized_table
same_resized t n =
    record { z_known = refl; z_limit = refl; z_opened = refl; z_waiting = refl; z_dropped = refl; z_live = refl }

pub resized_capacity : (t : Table) (n : ℕ) → (resized_table t n).capacity ≡ n
unfolding resized_table
resized_capacity t n = refl

pub kept_resized : (h : History) (t : Table) (n : ℕ) → Sound h → KeepsTable h t → CanResize t n
    → KeepsTable (history_after h (Resizes n)) (resized_table t n)
kept_resized h t n s k c =
    let evicted = eviction_count n (fields_in t.live) in
    let b : evicted ≤ length t.live = eviction_count_live t n in
    let none : (x : ℕ) → t.dropped < x → x ≤ t.dropped + evicted → IsFree t x =
    evicted_free t evicted c.drops b k.marked in
    let z = same_resized t n in
    record {
      shares =
          window_resized t n ∙ ap (λ (w : Window). window_after w (Resizes n)) k.shares
          ∙ sym (window_grown h (Resizes n) s.in_range);
      marked = rw z.z_live (every_drop IsSent evicted t.live k.marked);
      behind = rw (z.z_dropped, z.z_known) (drops_received t evicted k.behind none);
      held = rw z.z_opened (every_weaker (λ (x : UnacknowledgedBlock). AllByRecursion (λ a. (t.dropped + evicted < a)
          × (a ≤ insert_count t)) x.entries)
          (λ (x : UnacknowledgedBlock). AllByRecursion (IsLive (resized_table t n)) x.entries)
          (λ x r. every_weaker (λ a. (t.dropped + evicted < a) × (a ≤ insert_count t)) (IsLive (resized_table t n))
          (λ a q. (
            rw z.z_dropped q.0,
            omega (
              arith,
              q.1,
              z.z_dropped,
              ap length z.z_live,
              length-drop evicted t.live,
            ),
          )) x.entries r)
          t.unacknowledged (opened_above t.dropped (insert_count t) evicted t.unacknowledged
          (λ x low high. (none x low high).unopened) k.held));
    }

pub bound_same : (t : Table) (h : History) (n : ℕ) → window t ≡ window_of h → n ≤ greatest_capacity t.agreed_max
    → n ≤ greatest_capacity (window_of h).agreed_max
unfolding window window_of
bound_same t h n e le = subst (λ (o : Option ℕ). n ≤ greatest_capacity o) (ap (λ (w : Window). w.agreed_max) e) le

inv_resized : (capacity maximum limit : ℕ) (w : AbstractSession) (n : ℕ) → CanResize w.encoder n
    → Invariant capacity maximum limit w
    → Invariant capacity maximum limit (record w {
      encoder = resized_table w.encoder n;
      in_flight = w.in_flight ++ SetCapacity n ∷ [];
    })
inv_resized capacity maximum limit w n c k =
    let s : Sound k.made = sound_made capacity maximum limit w k in
    let z = same_resized w.encoder n in
    let one : effect (window_of k.made) (SetCapacity n) ≡ Ok (Resizes n) =
    resize_effect (window_of k.made) n (bound_same w.encoder k.made n k.encoder.shares c.within) in
    record {
      within = k.within;
      received = k.received;
      made = history_after k.made (Resizes n);
      taken_leads = k.taken_leads;
      in_flight_leads =
          leads_append k.received w.in_flight (SetCapacity n ∷ []) k.made
          (history_after k.made (Resizes n)) k.in_flight_leads
          (Resizes n, one, refl);
      decoder = k.decoder;
      encoder = kept_resized k.made w.encoder n s k.encoder c;
      same_limit = z.z_limit ∙ k.same_limit;
      known_received_count = omega (arith, k.known_received_count, z.z_known);
      blocked = rw z.z_waiting k.blocked;
      streams =
          λ q. rw (z.z_opened, ← append_assoc) (stream_grows capacity maximum k.made (history_after k.made (Resizes n))
          (w.taken ++ w.in_flight) (SetCapacity n ∷ []) w.encoder.unacknowledged w.decoder_in_flight q
          (stream_at w.streams q)
          (grows_one k.made (Resizes n)) (k.streams q));
    }

pub inv_with_resized : (capacity maximum limit : ℕ) (w : AbstractSession) (n : ℕ) → Invariant capacity maximum limit w
    → Invariant capacity maximum limit (after_resize w n (with_capacity w.encoder n))
inv_with_resized capacity maximum limit w n k = pick (resized_cases w.encoder n)
  where
    pick : (CanResize w.encoder n × (with_capacity w.encoder n ≡ Ok (resized_table w.encoder n)))
        ⊎ ((e : TableRefusal) × (with_capacity w.encoder n ≡ Err e))
        → Invariant capacity maximum limit (after_resize w n (with_capacity w.encoder n))
    pick (inl p) =
        subst (λ (r : Result Table TableRefusal). Invariant capacity maximum limit (after_resize w n r)) (sym p.1)
        (inv_resized capacity maximum limit w n p.0 k)
    pick (inr e) = subst (λ (r : Result Table TableRefusal). Invariant capacity maximum limit (after_resize w n r))
        (sym e.1) k
