-- The longest fitting tail, histories, and what instructions lead to.
use Rattle.std.proofs.Common.{ℕ, zero, suc, ◌+◌, ◌-◌, ◌*◌, ◌^◌, ◌<◌, ◌≤◌, ◌≡◌, List, [], ◌∷◌, ◌++◌, length, drop}
use Rattle.std.proofs.Common.{Option, None, Some, Ok, Err, refl, sym, ap, ◌∙◌, subst, arith, length-append, length-drop}
use Rattle.std.proofs.Common.{lit≤}
use Rattle.std.specs.List.{slice_get}
use Rattle.std.specs.Prelude.{nat_lt, nat_le, nat_eq}
use Rattle.std.proofs.lemmas.Bool.{cond_both, lt-ltb, ltb-true, leb-true, le-leb}
use Rattle.std.proofs.lemmas.Bool.Decides.{nat_tests}
use Rattle.std.proofs.lemmas.List.{drop-drop, drop-append-le, append_assoc, append-nil, drop_at}
use Rattle.qpack_spec.specs.Field.{Field, field_size, total_size}
use Rattle.qpack_spec.specs.StaticTable.{static_table}
use Rattle.qpack_spec.specs.Instruction.{EncoderInstruction, InsertStaticName, InsertDynamicName, InsertLiteralName}
use Rattle.qpack_spec.specs.Instruction.{Duplicate}
use Rattle.qpack_spec.specs.Instruction.{SetCapacity}
use Rattle.qpack_spec.specs.Window.{Window, greatest_capacity, window_insert_count, absolute_entry, relative_entry}
use Rattle.qpack_spec.specs.Window.{eviction_count, NoEntry, NoStaticField}
use Rattle.qpack_spec.specs.Window.{DoesNotFit, AboveMaximum, Effect, Inserts, Ignored, Resizes, or_refusal, with_value}
use Rattle.qpack_spec.specs.Window.{insertion, effect, window_after}
use Rattle.qpack_spec.specs.History.{History, window_of, whole_window, history_after, empty_history, initial_history}
use Rattle.qpack_spec.specs.History.{Leads}
use Rattle.qpack_spec.proofs.Sizes.{total_one, total_first}
use Rattle.qpack_spec.proofs.Results.{bind_ok, ok_is}
use Rattle.qpack_spec.proofs.Lists.{get_drop, get_append, get_append_within}

pub size_least : (f : Field) → 32 ≤ field_size f
size_least f = omega arith

-- each entry takes 32
pub entries_fit : (fs : List Field) → 32 * length fs ≤ total_size fs
entries_fit [] = omega arith
entries_fit (f ∷ fs) = omega (arith, entries_fit fs, total_first f fs)

pub eviction_count_fits : (c : ℕ) (fs : List Field) → total_size (drop (eviction_count c fs) fs) ≤ c
unfolding eviction_count
eviction_count_fits c [] = omega arith
eviction_count_fits c (f ∷ fs) =
    let rest = eviction_count_fits c fs in
    cond_both (nat_le (total_size (f ∷ fs)) c) 0 (suc (eviction_count c fs)) (λ k. total_size (drop k (f ∷ fs)) ≤ c)
    (λ e. leb-true (total_size (f ∷ fs)) c e) (λ e. rest)

pub eviction_count_least : (c : ℕ) (fs : List Field) (k : ℕ) → total_size (drop k fs) ≤ c → eviction_count c fs ≤ k
unfolding eviction_count
eviction_count_least c [] k h = omega arith
eviction_count_least c (f ∷ fs) zero h =
    cond_both (nat_le (total_size (f ∷ fs)) c) 0 (suc (eviction_count c fs)) (λ k. k ≤ 0) (λ e. omega arith)
    (λ e. absurd (let x = le-leb (total_size (f ∷ fs)) c h in cc))
eviction_count_least c (f ∷ fs) (suc k) h =
    let rest = eviction_count_least c fs k h in
    cond_both (nat_le (total_size (f ∷ fs)) c) 0 (suc (eviction_count c fs)) (λ n. n ≤ suc k) (λ e. omega arith)
    (λ e. omega arith)

drop_all : (fs : List Field) → drop (length fs) fs ≡ []
drop_all [] = refl
drop_all (f ∷ fs) = drop_all fs

pub eviction_count_bound : (c : ℕ) (fs : List Field) → eviction_count c fs ≤ length fs
eviction_count_bound c fs = eviction_count_least c fs (length fs) (rw (drop_all fs) (omega arith))

-- a field that fits alone is no part of what goes
pub eviction_count_push : (c : ℕ) (fs : List Field) (f : Field) → field_size f ≤ c → eviction_count c (fs ++ f ∷ [])
    ≤ length fs
eviction_count_push c fs f h =
    eviction_count_least c (fs ++ f ∷ []) (length fs) (rw (drop_at fs (f ∷ []) (length fs) refl, total_one f) h)

-- a history as instructions make it of an empty table
pub record Sound (h : History) : Type 0 where
  pub in_range : h.dropped ≤ length h.inserted
  pub fits : total_size (drop h.dropped h.inserted) ≤ h.capacity
  pub few : length h.inserted ≤ 2 ^ 62

-- the same where a maximum was agreed
pub record Agreed (most : ℕ) (h : History) : Type 0 where
  pub is_agreed : h.agreed_max ≡ Some most
  pub within : h.capacity ≤ most
  pub roomy : 0 < length h.inserted → 32 ≤ most

-- the live entries number at most a 32nd of the capacity
pub sound_few : (h : History) → Sound h → 32 * (length h.inserted - h.dropped) ≤ h.capacity
sound_few h s = omega (arith, entries_fit (drop h.dropped h.inserted), length-drop h.dropped h.inserted, s.fits)

abbrev pub Allowed : Window → Effect → Type 0
Allowed w (Inserts f) = (field_size f ≤ w.capacity) × (window_insert_count w < 2 ^ 62)
Allowed w Ignored = Unit {0}
Allowed w (Resizes n) = n ≤ greatest_capacity w.agreed_max

allowed_insertion : (w : Window) (f : Field) (e : Effect) → insertion w f ≡ Ok e → Allowed w e
unfolding insertion
allowed_insertion w f e h =
    cond_both (nat_eq w.capacity 0) (Ok Ignored) _ (λ r. r ≡ Ok e → Allowed w e)
    (λ _ q. subst (Allowed w) (ok_is _ _ q) tt)
    (λ _. cond_both (nat_le (field_size f) w.capacity) _ (Err DoesNotFit) (λ r. r ≡ Ok e → Allowed w e)
    (λ fits. cond_both (nat_lt (window_insert_count w) (2 ^ 62)) (Ok (Inserts f)) (Ok Ignored)
    (λ r. r ≡ Ok e → Allowed w e)
    (λ few q. subst (Allowed w) (ok_is _ _ q) (leb-true _ _ fits, ltb-true _ _ few))
    (λ _ q. subst (Allowed w) (ok_is _ _ q) tt))
    (λ _ q. absurd cc))
    h

pub allowed : (w : Window) (i : EncoderInstruction) (e : Effect) → effect w i ≡ Ok e → Allowed w e
unfolding effect
allowed w (InsertStaticName i v) e h =
    let r = bind_ok (or_refusal (slice_get static_table i) (NoStaticField i)) (λ f. insertion w (with_value v f)) e h in
    allowed_insertion w (with_value v r.0) e r.2
allowed w (InsertDynamicName i v) e h =
    let r = bind_ok (or_refusal (relative_entry w i) (NoEntry i)) (λ f. insertion w (with_value v f)) e h in
    allowed_insertion w (with_value v r.0) e r.2
allowed w (InsertLiteralName n v) e h = allowed_insertion w (record { name = n; value = v }) e h
allowed w (Duplicate i) e h =
    let r = bind_ok (or_refusal (relative_entry w i) (NoEntry i))
    (λ f. insertion w f) e h in allowed_insertion w r.0 e r.2
allowed w (SetCapacity n) e h =
    cond_both (nat_le n (greatest_capacity w.agreed_max)) (Ok (Resizes n)) (Err AboveMaximum)
    (λ r. r ≡ Ok e → Allowed w e)
    (λ t q. subst (Allowed w) (ok_is _ _ q) (leb-true _ _ t))
    (λ _ q. absurd cc)
    h

pub live_push : (h : History) (f : Field) → h.dropped ≤ length h.inserted
    → drop h.dropped (h.inserted ++ f ∷ []) ≡ drop h.dropped h.inserted ++ f ∷ []
live_push h f r = drop-append-le h.dropped h.inserted (f ∷ []) r

-- what is live after an effect
pub window_grown : (h : History) (e : Effect) → h.dropped ≤ length h.inserted
    → window_of (history_after h e) ≡ window_after (window_of h) e
unfolding window_of history_after window_after
window_grown h (Inserts f) r =
    let k = eviction_count h.capacity (drop h.dropped h.inserted ++ f ∷ []) in
    let e : drop (h.dropped + k) (h.inserted ++ f ∷ []) ≡ drop k (drop h.dropped h.inserted ++ f ∷ []) =
    sym (drop-drop k h.dropped (h.inserted ++ f ∷ [])) ∙ ap (drop k) (live_push h f r) in
    ap (λ (l : List Field). let w : Window = record {
      capacity = h.capacity;
      agreed_max = h.agreed_max;
      dropped = h.dropped + k;
      live = l;
    } in w) e
window_grown h Ignored r = refl
window_grown h (Resizes n) r =
    let k = eviction_count n (drop h.dropped h.inserted) in
    ap (λ (l : List Field). let w : Window = record {
      capacity = n;
      agreed_max = h.agreed_max;
      dropped = h.dropped + k;
      live = l;
    } in w) (sym (drop-drop k h.dropped h.inserted))

pub sound_begin : (capacity : ℕ) (agreed_max : Option ℕ) → Sound (empty_history capacity agreed_max)
sound_begin capacity agreed_max = record { in_range = omega arith; fits = omega arith; few = lit≤ tt }

pub sound_start : (capacity maximum : ℕ) → Sound (initial_history capacity maximum)
sound_start capacity maximum = sound_begin capacity (Some maximum)

pub agreed_start : (capacity maximum : ℕ) → capacity ≤ maximum → Agreed maximum (initial_history capacity maximum)
agreed_start capacity maximum within =
    record { is_agreed = refl; within = within; roomy = λ z. absurd (omega arith) }

-- what an effect keeps
pub sound_grown : (h : History) (e : Effect) → Sound h → Allowed (window_of h) e → Sound (history_after h e)
unfolding history_after window_of
sound_grown h (Inserts f) s a =
    let all = drop h.dropped h.inserted ++ f ∷ [] in
    let k = eviction_count h.capacity all in
    let e : drop (h.dropped + k) (h.inserted ++ f ∷ []) ≡ drop k all =
    sym (drop-drop k h.dropped (h.inserted ++ f ∷ [])) ∙ ap (drop k) (live_push h f s.in_range) in
    record {
      in_range =
          omega (
            arith,
            eviction_count_bound h.capacity all,
            length-append (drop h.dropped h.inserted) (f ∷ []),
            length-append h.inserted (f ∷ []),
            length-drop h.dropped h.inserted,
            s.in_range,
          );
      fits = rw e (eviction_count_fits h.capacity all);
      few = omega (arith, a.1, length-append h.inserted (f ∷ []), length-drop h.dropped h.inserted, s.in_range);
    }
sound_grown h Ignored s a = s
sound_grown h (Resizes n) s a =
    let all = drop h.dropped h.inserted in
    record {
      in_range = omega (arith, eviction_count_bound n all, length-drop h.dropped h.inserted, s.in_range);
      fits = rw (← drop-drop) (eviction_count_fits n all);
      few = s.few;
    }

agreed_grown : (most : ℕ) (h : History) (e : Effect) → Agreed most h → Allowed (window_of h) e
    → Agreed most (history_after h e)
unfolding history_after window_of
agreed_grown most h (Inserts f) s a =
    record { is_agreed = s.is_agreed; within = s.within; roomy = λ _. omega (arith, a.0, s.within) }
agreed_grown most h Ignored s a = s
agreed_grown most h (Resizes n) s a =
    let least = subst (λ (o : Option ℕ). n ≤ greatest_capacity o) s.is_agreed a in
    record { is_agreed = s.is_agreed; within = omega (arith, least); roomy = s.roomy }

-- h' has all insertions of h and more, and dropped no fewer
pub record Grows (h h' : History) : Type 0 where
  pub drops : h.dropped ≤ h'.dropped
  pub agreed_max : h.agreed_max ≡ h'.agreed_max
  pub more : List Field
  pub inserts : h.inserted ++ more ≡ h'.inserted

pub grows_one : (h : History) (e : Effect) → Grows h (history_after h e)
unfolding history_after
grows_one h (Inserts f) = record { drops = omega arith; agreed_max = refl; more = f ∷ []; inserts = refl }
grows_one h Ignored = record { drops = omega arith; agreed_max = refl; more = []; inserts = append-nil h.inserted }
grows_one h (Resizes n) = record { drops = omega arith; agreed_max = refl; more = []; inserts = append-nil h.inserted }

grows_both : (a b c : History) → Grows a b → Grows b c → Grows a c
grows_both a b c g k =
    record {
      drops = omega (arith, g.drops, k.drops);
      agreed_max = g.agreed_max ∙ k.agreed_max;
      more = g.more ++ k.more;
      inserts = sym (append_assoc a.inserted g.more k.more) ∙ ap (λ l. l ++ k.more) g.inserts ∙ k.inserts;
    }

grows_none : (h : History) → Grows h h
grows_none h = record { drops = omega arith; agreed_max = refl; more = []; inserts = append-nil h.inserted }

pub leads_sound : (h : History) (is : List EncoderInstruction) (h' : History) → Leads h is h' → Sound h → Sound h'
leads_sound h [] h' l s = subst Sound l s
leads_sound h (i ∷ is) h' l s =
    leads_sound (history_after h l.0) is h' l.2 (sound_grown h l.0 s (allowed (window_of h) i l.0 l.1))

pub leads_agreed : (most : ℕ) (h : History) (is : List EncoderInstruction) (h' : History) → Leads h is h'
    → Agreed most h
    → Agreed most h'
leads_agreed most h [] h' l s = subst (Agreed most) l s
leads_agreed most h (i ∷ is) h' l s =
    leads_agreed most (history_after h l.0) is h' l.2 (agreed_grown most h l.0 s (allowed (window_of h) i l.0 l.1))

pub leads_grows : (h : History) (is : List EncoderInstruction) (h' : History) → Leads h is h' → Grows h h'
leads_grows h [] h' l = subst (Grows h) l (grows_none h)
leads_grows h (i ∷ is) h' l = grows_both h (history_after h l.0) h' (grows_one h l.0)
    (leads_grows (history_after h l.0) is h' l.2)

pub leads_append : (h : History) (is js : List EncoderInstruction) (m h' : History) → Leads h is m → Leads m js h'
    → Leads h (is ++ js) h'
leads_append h [] js m h' l k = subst (λ (x : History). Leads x js h') (sym l) k
leads_append h (i ∷ is) js m h' l k = (l.0, l.1, leads_append (history_after h l.0) is js m h' l.2 k)

pub leads_split : (h : History) (is js : List EncoderInstruction) (h' : History) → Leads h (is ++ js) h'
    → (m : History) × Leads h is m × Leads m js h'
leads_split h [] js h' l = (h, refl, l)
leads_split h (i ∷ is) js h' l = let r = leads_split (history_after h l.0) is js h' l.2 in (r.0, (l.0, l.1, r.1), r.2)

pub leads_unique : (h : History) (is : List EncoderInstruction) (a b : History) → Leads h is a → Leads h is b → a ≡ b
leads_unique h [] a b l k = sym l ∙ k
leads_unique h (i ∷ is) a b l k =
    let same : l.0 ≡ k.0 = ok_is _ _ (sym l.1 ∙ k.1) in
    leads_unique (history_after h k.0) is a b (subst (λ (e : Effect). Leads (history_after h e) is a) same l.2) k.2

-- the entry of an absolute index stays what it is
abbrev pub Kept : Window → Window → ℕ → Type 0
Kept w w' a = (f : Field) → absolute_entry w a ≡ Some f → absolute_entry w' a ≡ Some f

whole_entry : (h : History) (a : ℕ) (f : Field) → absolute_entry (whole_window h) a ≡ Some f
    → (0 < a) × (slice_get h.inserted (a - 1) ≡ Some f)
unfolding absolute_entry whole_window
whole_entry h a f =
    cond_both (nat_lt 0 a) (slice_get h.inserted (a - 0 - 1)) None (λ r. r ≡ Some f
    → (0 < a) × (slice_get h.inserted (a - 1) ≡ Some f))
    (λ t q. (grind (arith, nat_tests), let e : a - 1 ≡ a - 0 - 1 = omega arith in rw e q))
    (λ _ q. absurd (cc))

pub entry_whole : (h : History) (a : ℕ) (f : Field) → 0 < a → slice_get h.inserted (a - 1) ≡ Some f
    → absolute_entry (whole_window h) a ≡ Some f
unfolding absolute_entry whole_window
entry_whole h a f p q = rw (lt-ltb 0 a p) (let e : a - 0 - 1 ≡ a - 1 = omega arith in rw e q)

entry_live : (h : History) (a : ℕ) (f : Field) → h.dropped < a → slice_get h.inserted (a - 1) ≡ Some f
    → absolute_entry (window_of h) a ≡ Some f
unfolding absolute_entry window_of
entry_live h a f p q =
    rw (lt-ltb h.dropped a p, get_drop h.dropped h.inserted (a - h.dropped - 1))
    (let e : h.dropped + (a - h.dropped - 1) ≡ a - 1 = omega arith in rw e q)

pub kept_growing : (h h' : History) (a : ℕ) → Grows h h' → Kept (whole_window h) (whole_window h') a
kept_growing h h' a g f q = let w = whole_entry h a f q in
    entry_whole h' a f w.0 (rw (← g.inserts) (get_append h.inserted g.more (a - 1) f w.1))

-- what is not dropped at the later moment and was received at the earlier one is live at the earlier one
pub kept_received : (h h' : History) (a : ℕ) → Grows h h' → h'.dropped < a → a ≤ length h.inserted
    → Kept (whole_window h') (window_of h) a
kept_received h h' a g low high f q =
    let w = whole_entry h' a f q in
    let fits : a - 1 < length h.inserted = omega arith in
    let same : slice_get h.inserted (a - 1) ≡ Some f =
    sym (get_append_within h.inserted g.more (a - 1) fits) ∙ (rw g.inserts w.1) in
    entry_live h a f (omega (arith, g.drops)) same
