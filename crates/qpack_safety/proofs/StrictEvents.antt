-- What strict ends rely on stays so when an end takes an instruction, decodes and acknowledges, or hears.
use Rattle.std.proofs.Common.{ℕ, zero, suc, ◌+◌, ◌-◌, ◌^◌, ◌<◌, ◌≤◌, ◌≡◌, Bool, true, false, cond, List, [], ◌∷◌, ◌++◌}
use Rattle.std.proofs.Common.{length, drop, take, map, min, Some, Result, Ok, refl, sym, ap, ◌∙◌, subst}
use Rattle.std.proofs.Common.{inl, inr, ◌⊎◌, arith, length-append}
use Rattle.std.specs.List.{AllByRecursion, filter, slice_get}
use Rattle.std.specs.Option.{option_map, unwrap_or}
use Rattle.std.specs.Prelude.{nat_eq, nat_lt, find}
use Rattle.std.proofs.lemmas.Bool.{cond_both, cases_eq, ne_eqb, ltb-true, lt-ltb, le-ltb}
use Rattle.std.proofs.lemmas.Option.{slice_get_within}
use Rattle.qpack_spec.specs.Instruction.{EncoderInstruction, SetCapacity, DecoderInstruction, Acknowledgment}
use Rattle.qpack_spec.specs.Instruction.{Cancellation, Increment}
use Rattle.qpack_rules.specs.Session.{stream_at, with_stream, increment_sum}
use Rattle.qpack_rules.specs.StrictInstructions.{HearingRefusal, required_by, oldest_required}
use Rattle.qpack_rules.specs.StrictInstructions.{strict_hear}
use Rattle.qpack_spec.specs.Table.{Table, UnacknowledgedBlock, insert_count, with_increment, apply_decoder_instruction}
use Rattle.qpack_spec.specs.Table.{without_stream}
use Rattle.qpack_spec.specs.Window.{Window, window_insert_count, TableRefusal, apply}
use Rattle.qpack_spec.proofs.Drafts.{count_inserted}
use Rattle.qpack_spec.proofs.Lists.{every_append}
use Rattle.qpack_spec.proofs.Windows.{Grows, leads_grows}
use Rattle.qpack_safety.specs.AbstractSession.{AbstractBlock, required_count, is_dynamic, AbstractStream, AbstractSession}
use Rattle.qpack_safety.specs.AbstractSession.{after_take}
use Rattle.qpack_safety.proofs.DecoderInstructions.{acks_in}
use Rattle.qpack_safety.proofs.Hearing.{ack_finds, same_raised, increments_cons}
use Rattle.qpack_safety.proofs.Invariant.{Invariant, streams_update, sound_received, sound_made, total_window}
use Rattle.qpack_safety.proofs.LawfulInsertions.{capacity_after, NoneAtZero, none_append}
use Rattle.qpack_safety.proofs.LawfulInsertions.{capacity_append, applied_capacity}
use Rattle.qpack_safety.proofs.OpenBlocks.{open_of, Released, ReleasedAll, releases_stream}
use Rattle.qpack_safety.proofs.Resizing.{resized_table, same_resized, resized_capacity}
use Rattle.qpack_safety.proofs.StrictSession.{TellsSome, Answered, Strict}
use Rattle.qpack_safety.proofs.ToldCounts.{first_required, TellsNoMore, told_own, told_other, cancelled_own}
use Rattle.qpack_safety.proofs.ToldCounts.{cancelled_other, increment_told, tells_also, tells_push}

-- ---- the decoder takes an instruction

pub strict_taken : (w : AbstractSession) (i : EncoderInstruction) (rest : List EncoderInstruction) (new : Window)
    → w.in_flight ≡ i ∷ rest → apply w.decoder i ≡ Ok new → Strict w → Strict (after_take w i rest (Ok new))
strict_taken w i rest new e made t =
    let same = applied_capacity w.decoder new i made in
    let lawful : NoneAtZero w.decoder.capacity (i ∷ rest) =
    subst (λ (is : List EncoderInstruction). NoneAtZero w.decoder.capacity is) e t.lawful in
    record {
      tells = t.tells;
      positive = t.positive;
      answered = t.answered;
      lawful = subst (λ (n : ℕ). NoneAtZero n rest) (sym same) lawful.1;
      capacity =
          ap (λ (n : ℕ). capacity_after n rest) same
          ∙ ap (λ (is : List EncoderInstruction). capacity_after w.decoder.capacity is) (sym e) ∙ t.capacity;
      blocked = t.blocked;
    }

-- ---- the encoder sets a capacity

pub strict_resized : (w : AbstractSession) (n : ℕ) → Strict w → Strict (record w {
  encoder = resized_table w.encoder n;
  in_flight = w.in_flight ++ SetCapacity n ∷ [];
})
strict_resized w n t =
    let z = same_resized w.encoder n in
    record {
      tells = λ q. rw (z.z_known, z.z_opened) (t.tells q);
      positive = t.positive;
      answered = t.answered;
      lawful = none_append w.decoder.capacity w.in_flight (SetCapacity n ∷ []) t.lawful (λ e. refl, tt);
      capacity =
          capacity_append w.decoder.capacity w.in_flight (SetCapacity n ∷ []) ∙ sym (resized_capacity w.encoder n);
      blocked = rw (z.z_known, z.z_waiting) t.blocked;
    }

-- ---- the decoder decodes

pub next_passes : (n : ℕ) (p : AbstractBlock → Bool) (xs : List AbstractBlock) (x : AbstractBlock)
    → slice_get xs n ≡ Some x
    → length (filter p (take (suc n) xs)) ≡ length (filter p (take n xs)) + cond (p x) 1 0
next_passes n p [] x e = absurd cc
next_passes zero p (y ∷ ys) x e =
    let same : y ≡ x = cc in
    subst (λ (z : AbstractBlock). length (cond (p y) (y ∷ []) []) ≡ cond (p z) 1 0) same
    (elim (p y) as (λ b. length (cond b (y ∷ []) []) ≡ cond b 1 0) [ true ↦ refl | false ↦ refl ])
    ∙ (let none : cond (p x) 1 0 ≡ 0 + cond (p x) 1 0 = omega arith in none)
next_passes (suc n) p (y ∷ ys) x e =
    let rest = next_passes n p ys x e in
    elim (p y) as (λ b. length (cond b (y ∷ filter p (take (suc n) ys)) (filter p (take (suc n) ys)))
    ≡ length (cond b (y ∷ filter p (take n ys)) (filter p (take n ys))) + cond (p x) 1 0)
    [ true ↦ omega (arith, rest) | false ↦ rest ]

-- a stream of which the next block is decoded, and acknowledged if it requires an entry
answered_next : (st : AbstractStream) (b : AbstractBlock) (many : ℕ) → slice_get st.blocks st.decoded ≡ Some b
    → many ≡ cond (is_dynamic b) 1 0 → Answered st
    → Answered (record st { decoded = st.decoded + 1; acknowledged = st.acknowledged + many })
answered_next st b many e is k =
    let within = slice_get_within st.blocks st.decoded b e in
    let one : st.decoded + 1 ≡ suc st.decoded = omega arith in
    let next = next_passes st.decoded is_dynamic st.blocks b e in
    record {
      decoded = omega (arith, within);
      acknowledged = λ c.
          ap (λ (n : ℕ). n + many) (k.acknowledged c)
          ∙ ap (λ (n : ℕ). length (filter is_dynamic (take st.decoded st.blocks)) + n) is ∙ sym next
          ∙ ap (λ (n : ℕ). length (filter is_dynamic (take n st.blocks))) (sym one);
    }

-- a block that requires no entry is decoded
pub strict_decoded : (w : AbstractSession) (s : ℕ) (b : AbstractBlock)
    → slice_get (stream_at w.streams s).blocks (stream_at w.streams s).decoded ≡ Some b → is_dynamic b ≡ false
    → Strict w → Strict (record w {
      streams = with_stream w.streams s
          (record (stream_at w.streams s) { decoded = (stream_at w.streams s).decoded + 1 });
    })
strict_decoded w s b e plain t =
    let st = stream_at w.streams s in
    let next = answered_next st b 0 e (sym (ap (λ (x : Bool). cond x 1 0) plain)) (t.answered s) in
    record {
      tells = t.tells;
      positive = t.positive;
      answered = streams_update (λ (q : ℕ) (v : AbstractStream). Answered v) w.streams s
          (record st { decoded = st.decoded + 1 })
          (record {
            decoded = next.decoded;
            acknowledged = λ c. (let n : st.acknowledged ≡ st.acknowledged + 0 = omega arith in n) ∙ next.acknowledged c;
          }) (λ q apart. t.answered q);
      lawful = t.lawful;
      capacity = t.capacity;
      blocked = t.blocked;
    }

-- the first of those that pass behind so many is the element there, if it passes
first_behind : (n : ℕ) (p : AbstractBlock → Bool) (xs : List AbstractBlock) (x : AbstractBlock)
    → slice_get xs n ≡ Some x → p x ≡ true
    → (more : List AbstractBlock) × (drop (length (filter p (take n xs))) (filter p xs) ≡ x ∷ more)
first_behind n p [] x e h = absurd cc
first_behind zero p (y ∷ ys) x e h =
    let same : y ≡ x = cc in (
      filter p ys,
      subst (λ (z : AbstractBlock). cond (p y) (y ∷ filter p ys) (filter p ys) ≡ z ∷ filter p ys) same
          (rw (ap p same ∙ h) refl),
    )
first_behind (suc n) p (y ∷ ys) x e h =
    let rest = first_behind n p ys x e h in (
      rest.0,
      elim (p y) as (λ b. drop (length (cond b (y ∷ filter p (take n ys)) (filter p (take n ys))))
          (cond b (y ∷ filter p ys) (filter p ys)) ≡ x ∷ rest.0) [ true ↦ rest.1 | false ↦ rest.1 ],
    )

-- the next block of a stream is the first that is open and has no acknowledgment under way
first_open : (capacity maximum limit : ℕ) (w : AbstractSession) (s : ℕ) (b : AbstractBlock)
    → Invariant capacity maximum limit w → Strict w → (stream_at w.streams s).cancelled ≡ false
    → slice_get (stream_at w.streams s).blocks (stream_at w.streams s).decoded ≡ Some b → is_dynamic b ≡ true
    → first_required (drop (acks_in s w.decoder_in_flight) (open_of s w.encoder.unacknowledged)) ≡ required_count b
first_open capacity maximum limit w s b k t live e dynamic =
    let st = stream_at w.streams s in
    let first = first_behind st.decoded is_dynamic st.blocks b e dynamic in
    let same : drop (acks_in s w.decoder_in_flight) (open_of s w.encoder.unacknowledged)
    ≡ map (λ (x : AbstractBlock). x.referenced) (b ∷ first.0) =
    (k.streams s).stays_open live
    ∙ ap (λ (n : ℕ). map (λ (x : AbstractBlock). x.referenced) (drop n (filter is_dynamic st.blocks)))
    ((t.answered s).acknowledged live)
    ∙ ap (map (λ (x : AbstractBlock). x.referenced)) first.1 in
    ap first_required same

-- a block that requires an entry is decoded and acknowledged, where all insertions were reported
pub strict_acknowledged : (capacity maximum limit : ℕ) (w : AbstractSession) (s : ℕ) (b : AbstractBlock)
    → Invariant capacity maximum limit w → (stream_at w.streams s).cancelled ≡ false
    → slice_get (stream_at w.streams s).blocks (stream_at w.streams s).decoded ≡ Some b → is_dynamic b ≡ true
    → required_count b ≤ window_insert_count w.decoder → w.unreported ≡ 0 → Strict w
    → (ps : List (ℕ × AbstractStream))
    → ((q : ℕ) → (s ≡ q → ⊥) → stream_at ps q ≡ stream_at w.streams q)
    → Strict (record w {
      decoder_in_flight = w.decoder_in_flight ++ Acknowledgment s ∷ [];
      streams = with_stream ps s (record (stream_at w.streams s) {
        decoded = (stream_at w.streams s).decoded + 1;
        acknowledged = (stream_at w.streams s).acknowledged + 1;
      });
    })
strict_acknowledged capacity maximum limit w s b k live e dynamic within reported t ps others =
    let st = stream_at w.streams s in
    let total = total_window k.received (sound_received capacity maximum limit w k) in
    let decoder = ap window_insert_count k.decoder in
    let sum = k.known_received_count in
    let first = first_open capacity maximum limit w s b k t live e dynamic in
    record {
      tells = λ q. pick q (cases_eq s q)
          (tells_push s w.encoder.known_received_count (open_of s w.encoder.unacknowledged) w.decoder_in_flight
          ((k.streams s).quiet live) (omega (arith, first, within, total, decoder, sum, reported)) (t.tells s));
      positive = every_append TellsSome w.decoder_in_flight (Acknowledgment s ∷ []) t.positive (tt, tt);
      answered = streams_update (λ (q : ℕ) (v : AbstractStream). Answered v) ps s
          (record st { decoded = st.decoded + 1; acknowledged = st.acknowledged + 1 })
          (answered_next st b 1 e (sym (ap (λ (x : Bool). cond x 1 0) dynamic)) (t.answered s))
          (λ q apart. rw (others q apart) (t.answered q));
      lawful = t.lawful;
      capacity = t.capacity;
      blocked = t.blocked;
    }
  where
    pick : (q : ℕ) → (s ≡ q) ⊎ (s ≡ q → ⊥)
        → TellsNoMore s w.encoder.known_received_count (open_of s w.encoder.unacknowledged)
        (w.decoder_in_flight ++ Acknowledgment s ∷ [])
        → TellsNoMore q w.encoder.known_received_count (open_of q w.encoder.unacknowledged)
        (w.decoder_in_flight ++ Acknowledgment s ∷ [])
    pick q (inl same) own =
        subst (λ (x : ℕ). TellsNoMore x w.encoder.known_received_count (open_of x w.encoder.unacknowledged)
        (w.decoder_in_flight ++ Acknowledgment s ∷ [])) same own
    pick q (inr apart) own =
        tells_also q w.encoder.known_received_count (open_of q w.encoder.unacknowledged) w.decoder_in_flight
        (Acknowledgment s) apart (t.tells q)

-- ---- the encoder hears

known_fits : (capacity maximum limit : ℕ) (w : AbstractSession) (n : ℕ) (rest : List DecoderInstruction)
    → Invariant capacity maximum limit w → w.decoder_in_flight ≡ Increment n ∷ rest
    → (w.encoder.known_received_count + n ≤ 2 ^ 62) × (w.encoder.known_received_count + n ≤ insert_count w.encoder)
known_fits capacity maximum limit w n rest k e =
    let sum = k.known_received_count in
    let ahead = ap increment_sum e in
    let one = increments_cons n rest in
    let few = (sound_received capacity maximum limit w k).few in
    let g : Grows k.received k.made = leads_grows k.received w.in_flight k.made k.in_flight_leads in
    let grown = ap length g.inserts in
    let parts = length-append k.received.inserted g.more in
    let made = count_inserted w.encoder k.made k.encoder.shares (sound_made capacity maximum limit w k) in
    (omega (arith, sum, ahead, one, few), omega (arith, sum, ahead, one, grown, parts, made))

heard_acknowledgment : (w : AbstractSession) (s : ℕ) (rest : List DecoderInstruction) (bs : List UnacknowledgedBlock)
    → w.decoder_in_flight ≡ Acknowledgment s ∷ rest → Released s w.encoder.unacknowledged bs → Strict w
    → Strict (record w { encoder = record w.encoder { unacknowledged = bs }; decoder_in_flight = rest })
heard_acknowledgment w s rest bs e r t =
    record {
      tells = λ q. pick q (cases_eq s q);
      positive = (subst (AllByRecursion TellsSome) e t.positive).1;
      answered = t.answered;
      lawful = t.lawful;
      capacity = t.capacity;
      blocked = t.blocked;
    }
  where
    pick : (q : ℕ) → (s ≡ q) ⊎ (s ≡ q → ⊥)
        → TellsNoMore q w.encoder.known_received_count (open_of q bs) rest
    pick q (inl same) =
        subst (λ (x : ℕ). TellsNoMore x w.encoder.known_received_count (open_of x bs) rest) same
        (rw r.own (told_own s w.encoder.known_received_count (open_of s w.encoder.unacknowledged) rest
        (rw (← e) (t.tells s))).1)
    pick q (inr apart) =
        rw (r.others q apart) (told_other q s w.encoder.known_received_count (open_of q w.encoder.unacknowledged) rest
        apart (rw (← e) (t.tells q)))

heard_cancellation : (w : AbstractSession) (s : ℕ) (rest : List DecoderInstruction) (bs : List UnacknowledgedBlock)
    → w.decoder_in_flight ≡ Cancellation s ∷ rest → ReleasedAll s w.encoder.unacknowledged bs → Strict w
    → Strict (record w { encoder = record w.encoder { unacknowledged = bs }; decoder_in_flight = rest })
heard_cancellation w s rest bs e r t =
    record {
      tells = λ q. pick q (cases_eq s q);
      positive = (subst (AllByRecursion TellsSome) e t.positive).1;
      answered = t.answered;
      lawful = t.lawful;
      capacity = t.capacity;
      blocked = t.blocked;
    }
  where
    pick : (q : ℕ) → (s ≡ q) ⊎ (s ≡ q → ⊥)
        → TellsNoMore q w.encoder.known_received_count (open_of q bs) rest
    pick q (inl same) =
        subst (λ (x : ℕ). TellsNoMore x w.encoder.known_received_count (open_of x bs) rest) same
        (rw r.none_left (cancelled_own s w.encoder.known_received_count (open_of s w.encoder.unacknowledged) rest
        (rw (← e) (t.tells s))))
    pick q (inr apart) =
        rw (r.others_stay q apart) (cancelled_other q s w.encoder.known_received_count
        (open_of q w.encoder.unacknowledged) rest apart (rw (← e) (t.tells q)))

left_above : (n : ℕ) (rs : List ℕ) → AllByRecursion (λ r. n < r) (filter (λ r. nat_lt n r) rs)
left_above n [] = tt
left_above n (r ∷ rs) =
    let more = left_above n rs in
    cond_both (nat_lt n r) (r ∷ filter (λ r. nat_lt n r) rs) (filter (λ r. nat_lt n r) rs)
    (AllByRecursion (λ r. n < r)) (λ e. (ltb-true n r e, more)) (λ _. more)

raised_blocked : (t : Table) (n : ℕ)
    → AllByRecursion (λ r. (with_increment t n).known_received_count < r) (with_increment t n).blocked
unfolding with_increment
raised_blocked t n = left_above (min (t.known_received_count + n) (2 ^ 64 - 1)) t.blocked

raised_capacity : (t : Table) (n : ℕ) → (with_increment t n).capacity ≡ t.capacity
unfolding with_increment
raised_capacity t n = refl

heard_increment : (w : AbstractSession) (n : ℕ) (rest : List DecoderInstruction)
    → w.decoder_in_flight ≡ Increment n ∷ rest → w.encoder.known_received_count + n ≤ 2 ^ 62 → Strict w
    → Strict (record w { encoder = with_increment w.encoder n; decoder_in_flight = rest })
heard_increment w n rest e few t =
    let same = same_raised w.encoder n few in
    record {
      tells = λ q. rw (same.r_known, same.r_opened) (increment_told q w.encoder.known_received_count n
          (open_of q w.encoder.unacknowledged) rest (rw (← e) (t.tells q)));
      positive = (subst (AllByRecursion TellsSome) e t.positive).1;
      answered = t.answered;
      lawful = t.lawful;
      capacity = t.capacity ∙ sym (raised_capacity w.encoder n);
      blocked = raised_blocked w.encoder n;
    }

-- ---- what is heard is heard strictly

first_found : (s : ℕ) (bs : List UnacknowledgedBlock)
    → unwrap_or (oldest_required s bs) 0 ≡ first_required (open_of s bs)
unfolding open_of
first_found s [] = refl
first_found s (b ∷ bs) =
    let more = first_found s bs in
    elim (nat_eq b.stream s) as (λ (x : Bool). unwrap_or (option_map required_by
    (cond x (Some b) (find (λ b. nat_eq b.stream s) bs))) 0
    ≡ first_required (cond x (b.entries ∷ open_of s bs) (open_of s bs))) [ true ↦ refl | false ↦ more ]

all_left : (n : ℕ) (rs : List ℕ) → AllByRecursion (λ r. n < r) rs → filter (λ r. nat_lt n r) rs ≡ rs
all_left n [] h = refl
all_left n (r ∷ rs) h = let more = all_left n rs h.1 in rw (lt-ltb n r h.0) (ap (λ (l : List ℕ). r ∷ l) more)

-- raising the count by nothing changes nothing
raised_by_none : (t : Table) (n : ℕ) → n ≡ 0 → t.known_received_count ≤ 2 ^ 62
    → AllByRecursion (λ r. t.known_received_count < r) t.blocked → with_increment t n ≡ t
unfolding with_increment
raised_by_none t n none few h =
    let known : min (t.known_received_count + n) (2 ^ 64 - 1) ≡ t.known_received_count = omega (arith, none, few) in
    rw (known, all_left t.known_received_count t.blocked h) refl

-- a strict encoder hears the next instruction as any encoder does
pub strictly_hears : (capacity maximum limit : ℕ) (w : AbstractSession) (r : DecoderInstruction)
    (rest : List DecoderInstruction) → w.decoder_in_flight ≡ r ∷ rest → Invariant capacity maximum limit w → Strict w
    → (u : Table) × (strict_hear w.encoder r ≡ Ok u) × (apply_decoder_instruction w.encoder r ≡ Ok u)
unfolding strict_hear apply_decoder_instruction
strictly_hears capacity maximum limit w (Acknowledgment s) rest e k t =
    let f = ack_finds capacity maximum limit w s rest k e in
    let u : Table = record w.encoder { unacknowledged = f.0 } in
    let least = (told_own s w.encoder.known_received_count (open_of s w.encoder.unacknowledged) rest
    (rw (← e) (t.tells s))).0 in
    let same = first_found s w.encoder.unacknowledged in
    let sum = k.known_received_count in
    let few = (sound_received capacity maximum limit w k).few in
    let none : unwrap_or (oldest_required s w.encoder.unacknowledged) 0 - w.encoder.known_received_count ≡ 0 =
    omega (arith, least, same) in (
      u,
      rw f.1 (ap (λ (x : Table). let y : Result Table HearingRefusal = Ok x in y)
          (raised_by_none u (unwrap_or (oldest_required s w.encoder.unacknowledged) 0 - w.encoder.known_received_count) none
          (omega (arith, sum, few)) t.blocked)),
      rw f.1 refl,
    )
strictly_hears capacity maximum limit w (Cancellation s) rest e k t =
    (record w.encoder { unacknowledged = without_stream s w.encoder.unacknowledged }, refl, refl)
strictly_hears capacity maximum limit w (Increment n) rest e k t =
    let some : 0 < n = (subst (AllByRecursion TellsSome) e t.positive).0 in
    let fits = known_fits capacity maximum limit w n rest k e in (
      with_increment w.encoder n,
      rw (
        ne_eqb n 0 (λ z. absurd (omega (arith, some, z))),
        le-ltb (insert_count w.encoder) (w.encoder.known_received_count + n) fits.1,
      ) refl,
      refl,
    )

-- and what holds then
pub strict_heard : (capacity maximum limit : ℕ) (w : AbstractSession) (r : DecoderInstruction)
    (rest : List DecoderInstruction) (u : Table) → w.decoder_in_flight ≡ r ∷ rest
    → apply_decoder_instruction w.encoder r ≡ Ok u → Invariant capacity maximum limit w → Strict w
    → Strict (record w { encoder = u; decoder_in_flight = rest })
unfolding apply_decoder_instruction
strict_heard capacity maximum limit w (Acknowledgment s) rest u e is k t =
    let f = ack_finds capacity maximum limit w s rest k e in
    subst (λ (x : Table). Strict (record w { encoder = x; decoder_in_flight = rest }))
    (go (rw f.1 at is)) (heard_acknowledgment w s rest f.0 e f.2 t)
  where
    go : {x : Table} → (let y : Result Table TableRefusal = Ok x in y) ≡ Ok u → x ≡ u
    go h = cc
strict_heard capacity maximum limit w (Cancellation s) rest u e is k t =
    subst (λ (x : Table). Strict (record w { encoder = x; decoder_in_flight = rest })) (go is)
    (heard_cancellation w s rest (without_stream s w.encoder.unacknowledged) e
    (releases_stream s w.encoder.unacknowledged) t)
  where
    go : {x : Table} → (let y : Result Table TableRefusal = Ok x in y) ≡ Ok u → x ≡ u
    go h = cc
strict_heard capacity maximum limit w (Increment n) rest u e is k t =
    subst (λ (x : Table). Strict (record w { encoder = x; decoder_in_flight = rest })) (go is)
    (heard_increment w n rest e (known_fits capacity maximum limit w n rest k e).0 t)
  where
    go : {x : Table} → (let y : Result Table TableRefusal = Ok x in y) ≡ Ok u → x ≡ u
    go h = cc
