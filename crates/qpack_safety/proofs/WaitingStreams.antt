-- A stream that waits for insertions has a section which the encoder counts as unacknowledged, and which requires them.
use Rattle.std.proofs.Common.{ℕ, zero, suc, ◌<◌, ◌≤◌, ◌≡◌, Bool, true, false, cond, List, [], ◌∷◌, length, drop, take, map}
use Rattle.std.proofs.Common.{Some, refl, sym, subst, arith}
use Rattle.std.specs.List.{filter, slice_get, list_any}
use Rattle.std.specs.Prelude.{nat_eq, nat_lt, ◌&&◌, ◌||◌}
use Rattle.std.proofs.lemmas.Bool.{lt-ltb, ne_eqb}
use Rattle.qpack_spec.specs.Reading.{greatest_of}
use Rattle.qpack_rules.specs.Session.{stream_at, oldest_undecoded}
use Rattle.qpack_spec.specs.Table.{UnacknowledgedBlock}
use Rattle.qpack_safety.specs.AbstractSession.{AbstractBlock, required_count, is_dynamic}
use Rattle.qpack_safety.specs.AbstractSession.{abstract_start}
use Rattle.qpack_safety.specs.TwoEnds.{EndStep, after_end_steps}
use Rattle.qpack_safety.proofs.OpenBlocks.{open_of}
use Rattle.qpack_safety.proofs.TwoEnds.{holds_started, holds_behind}

or_later : (b c : Bool) → c ≡ true → (b || c) ≡ true
or_later true c h = refl
or_later false c h = h

-- a block requires more insertions than so many
requires_above : ℕ → AbstractBlock → Bool
requires_above n b = nat_lt n (required_count b)

-- a block that requires some is among those that are not acknowledged, if no more are than were decoded before it
left_open : (n : ℕ) (b : AbstractBlock) (bs : List AbstractBlock) (i acknowledged : ℕ) → slice_get bs i ≡ Some b
    → is_dynamic b ≡ true → requires_above n b ≡ true → acknowledged ≤ length (filter is_dynamic (take i bs))
    → list_any (requires_above n) (drop acknowledged (filter is_dynamic bs)) ≡ true
left_open n b [] i acknowledged e dynamic more le = absurd cc
left_open n b (x ∷ bs) zero (suc a) e dynamic more le = absurd (omega (arith, le))
left_open n b (x ∷ bs) zero zero e dynamic more le =
    let same : x ≡ b = cc in
    rw (same, dynamic, more) refl
left_open n b (x ∷ bs) (suc i) acknowledged e dynamic more le =
    by (is_dynamic x) acknowledged le (λ a k. left_open n b bs i a e dynamic more k)
  where
    by : (t : Bool) (a : ℕ)
        → a ≤ length (cond t (x ∷ filter is_dynamic (take i bs)) (filter is_dynamic (take i bs)))
        → ((a : ℕ) → a ≤ length (filter is_dynamic (take i bs))
        → list_any (requires_above n) (drop a (filter is_dynamic bs)) ≡ true)
        → list_any (requires_above n) (drop a (cond t (x ∷ filter is_dynamic bs) (filter is_dynamic bs))) ≡ true
    by true zero k rest = or_later (requires_above n x) _ (rest zero (omega arith))
    by true (suc a) k rest = rest a (omega (arith, k))
    by false a k rest = rest a k

any_mapped : (n : ℕ) (bs : List AbstractBlock) → list_any (requires_above n) bs ≡ true
    → list_any (λ (es : List ℕ). nat_lt n (greatest_of es)) (map (λ (b : AbstractBlock). b.referenced) bs) ≡ true
unfolding requires_above
any_mapped n [] h = absurd cc
any_mapped n (b ∷ bs) h = by (nat_lt n (required_count b)) (any_mapped n bs) h
  where
    by : (t : Bool)
        → (list_any (requires_above n) bs ≡ true
        → list_any (λ (es : List ℕ). nat_lt n (greatest_of es)) (map (λ (x : AbstractBlock). x.referenced) bs) ≡ true)
        → (t || list_any (requires_above n) bs) ≡ true
        → (t || list_any (λ (es : List ℕ). nat_lt n (greatest_of es)) (map (λ (x : AbstractBlock). x.referenced) bs))
        ≡ true
    by true k e = refl
    by false k e = k e

any_dropped : (p : List ℕ → Bool) (k : ℕ) (xs : List (List ℕ)) → list_any p (drop k xs) ≡ true → list_any p xs ≡ true
any_dropped p zero xs h = h
any_dropped p (suc k) [] h = h
any_dropped p (suc k) (x ∷ xs) h = or_later (p x) (list_any p xs) (any_dropped p k xs h)

any_open : (n s : ℕ) (bs : List UnacknowledgedBlock)
    → list_any (λ (es : List ℕ). nat_lt n (greatest_of es)) (open_of s bs) ≡ true
    → list_any (λ (b : UnacknowledgedBlock). nat_eq b.stream s && nat_lt n (greatest_of b.entries)) bs ≡ true
unfolding open_of
any_open n s [] h = absurd cc
any_open n s (b ∷ bs) h = by (nat_eq b.stream s) (nat_lt n (greatest_of b.entries)) refl (any_open n s bs) h
  where
    by : (t m : Bool) → nat_lt n (greatest_of b.entries) ≡ m
        → (list_any (λ (es : List ℕ). nat_lt n (greatest_of es)) (open_of s bs) ≡ true
        → list_any (λ (x : UnacknowledgedBlock). nat_eq x.stream s && nat_lt n (greatest_of x.entries)) bs ≡ true)
        → list_any (λ (es : List ℕ). nat_lt n (greatest_of es)) (cond t (b.entries ∷ open_of s bs) (open_of s bs))
        ≡ true
        → ((t && m) || list_any (λ (x : UnacknowledgedBlock). nat_eq x.stream s && nat_lt n (greatest_of x.entries)) bs)
        ≡ true
    by true true e k h = refl
    by true false e k h = k (subst (λ (x : Bool). (x
        || list_any (λ (es : List ℕ). nat_lt n (greatest_of es)) (open_of s bs)) ≡ true) e h)
    by false m e k h = k h

-- at every moment, whatever the ends did: if the next section of a stream that is not cancelled requires more than so many
-- insertions, the encoder counts it as unacknowledged
pub waiting_unacknowledged : (capacity maximum limit n : ℕ) → capacity ≤ maximum → (steps : List EndStep) (s : ℕ)
    (b : AbstractBlock)
    → (let w = after_end_steps steps (abstract_start capacity maximum limit) in
    (stream_at w.streams s).cancelled ≡ false → oldest_undecoded (stream_at w.streams s) ≡ Some b → n < required_count b
    → list_any (λ (x : UnacknowledgedBlock). nat_eq x.stream s && nat_lt n (greatest_of x.entries))
    w.encoder.unacknowledged ≡ true)
unfolding requires_above
waiting_unacknowledged capacity maximum limit n within steps s b live next more =
    let w = after_end_steps steps (abstract_start capacity maximum limit) in
    let h = holds_behind capacity maximum limit steps (abstract_start capacity maximum limit)
    (holds_started capacity maximum limit within) in
    let k = h.invariant.streams s in
    let st = stream_at w.streams s in
    let dynamic : is_dynamic b ≡ true =
    rw (ne_eqb (required_count b) 0 (λ e. omega (arith, e, more))) refl in
    let left = left_open n b st.blocks st.decoded st.acknowledged next dynamic
    (lt-ltb n (required_count b) more) k.acknowledged in
    any_open n s w.encoder.unacknowledged
    (any_dropped (λ (es : List ℕ). nat_lt n (greatest_of es)) _ (open_of s w.encoder.unacknowledged)
    (subst (λ (l : List (List ℕ)). list_any (λ (es : List ℕ). nat_lt n (greatest_of es)) l ≡ true)
    (sym (k.stays_open live)) (any_mapped n (drop st.acknowledged (filter is_dynamic st.blocks)) left)))
