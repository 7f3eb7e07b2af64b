-- The laws of a table's window: what was dropped, in closed form.
use Rattle.std.proofs.Common.{ℕ, ◌+◌, ◌-◌, ◌<◌, ◌≤◌, ◌≡◌, List, [], ◌∷◌, ◌++◌, length, drop, max, Result, Ok}
use Rattle.std.proofs.Common.{Err, refl, sym, ap, ◌∙◌, subst, inl, inr, ◌⊎◌, arith, length-drop}
use Rattle.std.specs.List.{AllByRecursion, slice_get}
use Rattle.std.specs.Prelude.{nat_lt, nat_le, nat_eq}
use Rattle.std.proofs.lemmas.Bool.{cases_lt, cond_both}
use Rattle.std.proofs.lemmas.List.{drop-drop, drop-append-le}
use Rattle.std.proofs.lemmas.List.Sums.{sum_by-append}
use Rattle.qpack_spec.specs.Bytes.{◌>>=◌}
use Rattle.qpack_spec.specs.Field.{Field, field_size, total_size}
use Rattle.qpack_spec.specs.StaticTable.{static_table}
use Rattle.qpack_spec.specs.Instruction.{EncoderInstruction, InsertStaticName, InsertDynamicName, InsertLiteralName}
use Rattle.qpack_spec.specs.Instruction.{Duplicate}
use Rattle.qpack_spec.specs.Instruction.{SetCapacity}
use Rattle.qpack_spec.specs.Window.{Window, window_insert_count, relative_entry, eviction_count, TableRefusal, NoEntry}
use Rattle.qpack_spec.specs.Window.{NoStaticField, DoesNotFit, Effect}
use Rattle.qpack_spec.specs.Window.{Inserts, Ignored, Resizes, or_refusal, with_value, insertion, effect, window_after}
use Rattle.qpack_spec.specs.Window.{apply}
use Rattle.qpack_spec.specs.History.{History, window_of, history_after, empty_history, Leads}
use Rattle.qpack_rules.specs.WindowLaws.{LiveEntriesAreFew, EvictionCountIsLeast, FrontLeads, DroppedIsGreatest}
use Rattle.qpack_rules.specs.WindowLaws.{SetsNoCapacity}
use Rattle.qpack_rules.specs.WindowLaws.{LiveIsLongestTail, all_taken, WindowsFollowHistories}
use Rattle.qpack_spec.proofs.Results.{bind_ok, ok_is}
use Rattle.qpack_spec.proofs.Sizes.{drop_smaller}
use Rattle.qpack_spec.proofs.Windows.{eviction_count_bound, eviction_count_fits, eviction_count_least, Sound}
use Rattle.qpack_spec.proofs.Windows.{sound_begin}
use Rattle.qpack_spec.proofs.Windows.{sound_grown, allowed, sound_few, live_push, window_grown, leads_sound}
use Rattle.qpack_spec.proofs.Windows.{leads_split, leads_unique, leads_grows}

-- behind d entries, the least number is that of all, or d
eviction_count_drop : (c : ℕ) (fs : List Field) (d : ℕ) → d + eviction_count c (drop d fs) ≡ max d (eviction_count c fs)
eviction_count_drop c fs d =
    let up : d + eviction_count c (drop d fs) ≤ max d (eviction_count c fs) = pick (cases_lt d (eviction_count c fs)) in
    let low : eviction_count c fs ≤ d + eviction_count c (drop d fs) =
    eviction_count_least c fs (d + eviction_count c (drop d fs))
    (rw (← drop-drop) (eviction_count_fits c (drop d fs))) in
    omega arith
  where
    pick : (d < eviction_count c fs) ⊎ (eviction_count c fs ≤ d) → d + eviction_count c (drop d fs)
        ≤ max d (eviction_count c fs)
    pick (inl lt) =
        let n : d + (eviction_count c fs - d) ≡ eviction_count c fs = omega arith in
        let m : eviction_count c (drop d fs) ≤ eviction_count c fs - d =
        eviction_count_least c (drop d fs) (eviction_count c fs - d) (rw (drop-drop, n) (eviction_count_fits c fs)) in
        omega arith
    pick (inr le) =
        let n : eviction_count c fs + (d - eviction_count c fs) ≡ d = omega arith in
        let m : eviction_count c (drop d fs) ≤ 0 =
        eviction_count_least c (drop d fs) 0 (subst (λ (k : ℕ). total_size (drop k fs) ≤ c) n
        (rw (← drop-drop) (omega
        (arith, drop_smaller (d - eviction_count c fs) (drop (eviction_count c fs) fs), eviction_count_fits c fs)))) in
        omega arith

-- what was dropped is the greater of what was dropped before and what has to go now
grown_dropped : (h : History) (e : Effect) → Sound h
    → (history_after h e).dropped
    ≡ max h.dropped (eviction_count (history_after h e).capacity (history_after h e).inserted)
unfolding history_after
grown_dropped h (Inserts f) s =
    ap (λ l. h.dropped + eviction_count h.capacity l) (sym (live_push h f s.in_range))
    ∙ eviction_count_drop h.capacity (h.inserted ++ f ∷ []) h.dropped
grown_dropped h Ignored s = let le : eviction_count h.capacity h.inserted ≤ h.dropped =
    eviction_count_least h.capacity h.inserted h.dropped s.fits in omega arith
grown_dropped h (Resizes n) s = eviction_count_drop n h.inserted h.dropped

live_many : (h : History) → length (window_of h).live ≡ length h.inserted - h.dropped
unfolding window_of
live_many h = length-drop h.dropped h.inserted

pub live_few : LiveEntriesAreFew
live_few capacity agreed_max is h l =
    omega (
      arith,
      sound_few h
          (leads_sound (empty_history capacity agreed_max) is h l (sound_begin capacity agreed_max)),
      live_many h,
    )

pub eviction_count_is_least : EvictionCountIsLeast
eviction_count_is_least capacity fs = (eviction_count_fits capacity fs, eviction_count_least capacity fs)

-- what has to go at a front's end was dropped
at_least : (from : History) (is : List EncoderInstruction) (h : History) → Sound from → Leads from is h → (m : History)
    → FrontLeads from is m → eviction_count m.capacity m.inserted ≤ h.dropped
at_least from is h s l m f =
    let split = leads_split from f.front f.rest h
    (subst (λ (x : List EncoderInstruction). Leads from x h) (sym f.cut) l) in
    let same : split.0 ≡ m = leads_unique from f.front split.0 m split.1 f.leads in
    let on : Leads m f.rest h = subst (λ (x : History). Leads x f.rest h) same split.2 in
    let sound : Sound m = leads_sound from f.front m f.leads s in
    omega (arith, eviction_count_least m.capacity m.inserted m.dropped sound.fits, (leads_grows m f.rest h on).drops)

-- what was dropped was dropped before, or had to go at the end of a front
attained : (from : History) (is : List EncoderInstruction) (h : History) → Sound from → Leads from is h
    → (h.dropped ≡ from.dropped)
    ⊎ ((m : History) × FrontLeads from is m × (h.dropped ≡ eviction_count m.capacity m.inserted))
attained from [] h s l = inl (ap (λ (x : History). x.dropped) (sym l))
attained from (i ∷ is) h s l =
    let next = history_after from l.0 in
    pick (attained next is h (sound_grown from l.0 s (allowed (window_of from) i l.0 l.1)) l.2)
    (cases_lt from.dropped (eviction_count next.capacity next.inserted))
  where
    pick : (h.dropped ≡ (history_after from l.0).dropped)
        ⊎ ((m : History) × FrontLeads (history_after from l.0) is m
        × (h.dropped ≡ eviction_count m.capacity m.inserted))
        → (from.dropped < eviction_count (history_after from l.0).capacity (history_after from l.0).inserted)
        ⊎ (eviction_count (history_after from l.0).capacity (history_after from l.0).inserted ≤ from.dropped)
        → (h.dropped ≡ from.dropped) ⊎ ((m : History) × FrontLeads from (i ∷ is) m
        × (h.dropped ≡ eviction_count m.capacity m.inserted))
    pick (inl e) (inl lt) = inr (
      history_after from l.0,
      record { front = i ∷ []; rest = is; cut = refl; leads = (l.0, l.1, refl) },
      omega (arith, e, grown_dropped from l.0 s, lt),
    )
    pick (inl e) (inr le) = inl (omega (arith, e, grown_dropped from l.0 s, le))
    pick (inr m) c = inr (
      m.0,
      record {
        front = i ∷ m.1.front;
        rest = m.1.rest;
        cut = ap (λ (x : List EncoderInstruction). i ∷ x) m.1.cut;
        leads = (l.0, l.1, m.1.leads);
      },
      m.2,
    )

nothing_goes : (capacity : ℕ) → eviction_count capacity [] ≡ 0
unfolding eviction_count
nothing_goes capacity = refl

pub dropped_greatest : DroppedIsGreatest
dropped_greatest capacity agreed_max is h l = (
  at_least (empty_history capacity agreed_max) is h (sound_begin capacity agreed_max) l,
  pick (attained (empty_history capacity agreed_max) is h (sound_begin capacity agreed_max) l),
)
  where
    pick : (h.dropped ≡ 0) ⊎ ((m : History) × FrontLeads (empty_history capacity agreed_max) is m
        × (h.dropped ≡ eviction_count m.capacity m.inserted))
        → (m : History) × FrontLeads (empty_history capacity agreed_max) is m
        × (h.dropped ≡ eviction_count m.capacity m.inserted)
    pick (inl e) = (
      empty_history capacity agreed_max,
      record { front = []; rest = is; cut = refl; leads = refl },
      e
          ∙ sym (nothing_goes capacity),
    )
    pick (inr m) = m

-- ---- one capacity

abbrev IsNoResize : Effect → Type 0
IsNoResize (Inserts f) = Unit {0}
IsNoResize Ignored = Unit {0}
IsNoResize (Resizes n) = ⊥

insertion_keeps : (w : Window) (f : Field) (e : Effect) → insertion w f ≡ Ok e → IsNoResize e
unfolding insertion
insertion_keeps w f e h =
    cond_both (nat_eq w.capacity 0) (Ok Ignored) _ (λ r. r ≡ Ok e → IsNoResize e)
    (λ _ q. subst IsNoResize (ok_is _ _ q) tt)
    (λ _. cond_both (nat_le (field_size f) w.capacity) _ (Err DoesNotFit) (λ r. r ≡ Ok e → IsNoResize e)
    (λ _. cond_both (nat_lt (window_insert_count w) _) (Ok (Inserts f)) (Ok Ignored) (λ r. r ≡ Ok e → IsNoResize e)
    (λ _ q. subst IsNoResize (ok_is _ _ q) tt)
    (λ _ q. subst IsNoResize (ok_is _ _ q) tt))
    (λ _ q. absurd cc))
    h

keeps_capacity : (w : Window) (i : EncoderInstruction) (e : Effect) → SetsNoCapacity i → effect w i ≡ Ok e
    → IsNoResize e
unfolding effect
keeps_capacity w (InsertStaticName i v) e n h =
    let r = bind_ok (or_refusal (slice_get static_table i) (NoStaticField i)) (λ f. insertion w (with_value v f)) e
    h in insertion_keeps w (with_value v r.0) e r.2
keeps_capacity w (InsertDynamicName i v) e n h =
    let r = bind_ok (or_refusal (relative_entry w i) (NoEntry i)) (λ f. insertion w (with_value v f)) e h in
    insertion_keeps w (with_value v r.0) e r.2
keeps_capacity w (InsertLiteralName m v) e n h = insertion_keeps w (record { name = m; value = v }) e h
keeps_capacity w (Duplicate i) e n h =
    let r = bind_ok (or_refusal (relative_entry w i) (NoEntry i))
    (λ f. insertion w f) e h in insertion_keeps w r.0 e r.2
keeps_capacity w (SetCapacity c) e n h = absurd n

-- a longer list has no fewer that have to go
more_goes : (c : ℕ) (fs : List Field) (f : Field) → eviction_count c fs ≤ eviction_count c (fs ++ f ∷ [])
more_goes c fs f =
    let k = eviction_count c (fs ++ f ∷ []) in
    pick k (cases_lt k (length fs)) (eviction_count_fits c (fs ++ f ∷ []))
  where
    within : (k : ℕ) → k ≤ length fs → total_size (drop k (fs ++ f ∷ [])) ≤ c → total_size (drop k fs) ≤ c
    within k le h =
        let e : drop k (fs ++ f ∷ []) ≡ drop k fs ++ f ∷ [] = drop-append-le k fs (f ∷ []) le in
        let s = sum_by-append field_size (drop k fs) (f ∷ []) in
        omega (arith, h, ap total_size e, s)

    pick : (k : ℕ) → (k < length fs) ⊎ (length fs ≤ k) → total_size (drop k (fs ++ f ∷ [])) ≤ c → eviction_count c fs
        ≤ k
    pick k (inl lt) h = eviction_count_least c fs k (within k (omega arith) h)
    pick k (inr le) h = omega (arith, eviction_count_bound c fs, le)

-- one capacity, and as many dropped as have to go of all
record OneCapacity (capacity : ℕ) (h : History) : Type 0 where
  pub same : h.capacity ≡ capacity
  pub least : h.dropped ≡ eviction_count capacity h.inserted

capacity_kept : (x : History) (g : Field) → (history_after x (Inserts g)).capacity ≡ x.capacity
unfolding history_after
capacity_kept x g = refl

inserted_more : (x : History) (g : Field) → (history_after x (Inserts g)).inserted ≡ x.inserted ++ g ∷ []
unfolding history_after
inserted_more x g = refl

ignored_same : (capacity : ℕ) (x : History) → OneCapacity capacity x → OneCapacity capacity (history_after x Ignored)
unfolding history_after
ignored_same capacity x k = k

one_grown : (capacity : ℕ) (h : History) (e : Effect) → Sound h → IsNoResize e → OneCapacity capacity h
    → OneCapacity capacity (history_after h e)
one_grown capacity h (Inserts f) s n o =
    let d = grown_dropped h (Inserts f) s in
    let c : (history_after h (Inserts f)).capacity ≡ capacity = capacity_kept h f ∙ o.same in
    let i = inserted_more h f in
    let low = more_goes capacity h.inserted f in
    let now : eviction_count (history_after h (Inserts f)).capacity (history_after h (Inserts f)).inserted
    ≡ eviction_count capacity (h.inserted ++ f ∷ []) = ap
    (λ x. eviction_count x (history_after h (Inserts f)).inserted) c
    ∙ ap (eviction_count capacity) i in
    let then : eviction_count capacity (history_after h (Inserts f)).inserted
    ≡ eviction_count capacity (h.inserted ++ f ∷ []) =
    ap (eviction_count capacity) i in
    record { same = c; least = omega (arith, d, o.least, low, now, then) }
one_grown capacity h Ignored s n o = ignored_same capacity h o
one_grown capacity h (Resizes m) s n o = absurd n

one_leads : (capacity : ℕ) (from : History) (is : List EncoderInstruction) (h : History) → Sound from
    → AllByRecursion SetsNoCapacity is → Leads from is h → OneCapacity capacity from → OneCapacity capacity h
one_leads capacity from [] h s n l o = subst (OneCapacity capacity) l o
one_leads capacity from (i ∷ is) h s n l o =
    let a = allowed (window_of from) i l.0 l.1 in
    one_leads capacity (history_after from l.0) is h (sound_grown from l.0 s a) n.1 l.2
    (one_grown capacity from l.0 s (keeps_capacity (window_of from) i l.0 n.0 l.1) o)

live_is : (h : History) → (window_of h).live ≡ drop h.dropped h.inserted
unfolding window_of
live_is h = refl

pub live_longest : LiveIsLongestTail
live_longest capacity agreed_max is h n l =
    let s = sound_begin capacity agreed_max in
    let o = one_leads capacity (empty_history capacity agreed_max) is h s n l
    (record { same = refl; least = sym (nothing_goes capacity) }) in
    let sound = leads_sound (empty_history capacity agreed_max) is h l s in
    record {
      evicted = h.dropped;
      is = live_is h;
      fits = subst (λ (fs : List Field). total_size fs ≤ capacity) (sym (live_is h))
          (omega (arith, sound.fits, o.same));
      longest = λ k fits. omega (arith, o.least, eviction_count_least capacity h.inserted k fits);
    }

-- ---- windows follow histories

follows : (from : History) (is : List EncoderInstruction) (h : History) → Sound from → Leads from is h
    → all_taken (window_of from) is ≡ Ok (window_of h)
follows from [] h s l = ap (λ (x : History). let r : Result Window TableRefusal = Ok (window_of x) in r) l
follows from (i ∷ is) h s l =
    let e : apply (window_of from) i ≡ Ok (window_of (history_after from l.0)) =
    ap (λ (r : Result Effect TableRefusal). r >>= λ x.
    (let q : Result Window TableRefusal = Ok (window_after (window_of from) x) in q))
    l.1 ∙ ap (λ (x : Window). let q : Result Window TableRefusal = Ok x in q)
    (sym (window_grown from l.0 s.in_range)) in
    ap (λ (r : Result Window TableRefusal). r >>= λ x. all_taken x is) e
    ∙ follows (history_after from l.0) is h (sound_grown from l.0 s (allowed (window_of from) i l.0 l.1)) l.2

followed : (from : History) (is : List EncoderInstruction) (w : Window) → Sound from → all_taken (window_of from) is
    ≡ Ok w
    → (h : History) × Leads from is h × (w ≡ window_of h)
followed from [] w s e = (from, refl, sym (ok_is _ _ e))
followed from (i ∷ is) w s e =
    let a = bind_ok (apply (window_of from) i) (λ x. all_taken x is) w e in
    let b = bind_ok (effect (window_of from) i) (λ x. Ok (window_after (window_of from) x)) a.0 a.1 in
    let same : a.0 ≡ window_of (history_after from b.0) = sym (ok_is _ _ b.2)
    ∙ sym (window_grown from b.0 s.in_range) in
    let r = followed (history_after from b.0) is w (sound_grown from b.0 s (allowed (window_of from) i b.0 b.1))
    (ap (λ (x : Window). all_taken x is) (sym same) ∙ a.2) in
    (r.0, (b.0, b.1, r.1), r.2)

pub windows_follow : WindowsFollowHistories
windows_follow capacity agreed_max is w = (
  λ e. followed (empty_history capacity agreed_max) is w (sound_begin capacity agreed_max) e,
  λ p. follows (empty_history capacity agreed_max) is p.0 (sound_begin capacity agreed_max) p.1
      ∙ ap (λ (x : Window). let q : Result Window TableRefusal = Ok x in q) (sym p.2),
)
