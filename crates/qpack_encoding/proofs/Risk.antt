-- The streams that may be blocked, as a table has them and as an end keeps them.
use Rattle.std.proofs.Common.{ℕ, ◌+◌, ◌-◌, ◌<◌, ◌≤◌, ◌≡◌, ◌⊎◌, inl, inr, Bool, true, false, cond, List, [], ◌∷◌, ◌++◌}
use Rattle.std.proofs.Common.{length, map, min, refl, sym, ap, ◌∙◌, subst, arith, Option, None, Some, Ok, unwrap_or, ◌^◌, length-append}
use Rattle.std.specs.List.{AllByRecursion, list_any}
use Rattle.std.specs.Option.{is_some, option_map}
use Rattle.std.specs.Prelude.{nat_eq, nat_lt, nat_le, not, ◌&&◌, ◌||◌, filter, find}
use Rattle.std.proofs.lemmas.Bool.{cond_both, eqb-true, eq-eqb, ltb-true, lt-ltb, le-ltb, leb-true, le-leb, ltb-false}
use Rattle.std.proofs.lemmas.List.{length-map}
use Rattle.qpack_spec.specs.Bytes.{◌>>=◌}
use Rattle.qpack_spec.specs.Instruction.{DecoderInstruction, Acknowledgment, Cancellation, Increment}
use Rattle.qpack_spec.specs.Reading.{greatest_of}
use Rattle.qpack_rules.specs.StrictInstructions.{strict_hear, hear_in_turn, or_unknown, known_at_least, oldest_required}
use Rattle.qpack_rules.specs.StrictInstructions.{required_by}
use Rattle.qpack_spec.specs.Table.{Table, UnacknowledgedBlock, has_number, with_number, with_numbers, with_unacknowledged}
use Rattle.qpack_spec.specs.Table.{without_oldest, without_stream, apply_decoder_instruction, with_increment, insert_count}
use Rattle.qpack_spec.specs.Window.{or_refusal, UnknownStream}
use Rattle.qpack_spec.proofs.Results.{bind_ok, ok_is}
use Rattle.qpack_shared.specs.declared.streams.BlockedStream.{BlockedStream}
use Rattle.qpack_shared.specs.Streams.{without}
use Rattle.qpack_encoding.specs.Risk.{requires_above, is_at_risk, streams_at_risk, is_kept_above}
use Rattle.qpack_encoding.specs.Risk.{covers, with_stream, still_at_risk, AreDistinct, AreAtRisk}

-- ---- truth values

or_none : (b : Bool) → (b || false) ≡ b
or_none true = refl
or_none false = refl

or_assoc : (a b c : Bool) → ((a || b) || c) ≡ (a || (b || c))
or_assoc true b c = refl
or_assoc false b c = refl

absorbed : (h e : Bool) → (e ≡ true → h ≡ true) → h ≡ (h || e)
absorbed true e k = refl
absorbed false true k = k refl
absorbed false false k = refl

or_left : (b c : Bool) → b ≡ true → (b || c) ≡ true
or_left true c h = refl
or_left false c h = absurd cc

or_right : (b c : Bool) → c ≡ true → (b || c) ≡ true
or_right true c h = refl
or_right false c h = h

or_not : (b c : Bool) → b ≡ false → (b || c) ≡ true → c ≡ true
or_not true c e h = absurd cc
or_not false c e h = h

or_more : (b c d : Bool) → (c ≡ true → d ≡ true) → (b || c) ≡ true → (b || d) ≡ true
or_more true c d k h = refl
or_more false c d k h = k h

or_pick : (P : Type 0) (b c : Bool) → (b ≡ true → P) → (c ≡ true → P) → (b || c) ≡ true → P
or_pick P true c f g h = f refl
or_pick P false c f g h = g h

and_both : (b c : Bool) → (b && c) ≡ true → (b ≡ true) × (c ≡ true)
and_both true c h = (refl, h)
and_both false c h = absurd cc

and_none : (b : Bool) → (b && false) ≡ false
and_none true = refl
and_none false = refl

or_all : (b : Bool) → (b || true) ≡ true
or_all true = refl
or_all false = refl

or_neither : (b c : Bool) → (b || c) ≡ false → (b ≡ false) × (c ≡ false)
or_neither true c h = absurd cc
or_neither false c h = (refl, h)

-- ---- numbers, each once

differs : (x a : ℕ) → nat_eq x a ≡ false → nat_eq a x ≡ false
differs x a e = go (nat_eq a x) refl
  where
    go : (b : Bool) → nat_eq a x ≡ b → b ≡ false
    go true q = absurd (let r : nat_eq x a ≡ true = eq-eqb x a (sym (eqb-true a x q)) in cc)
    go false q = refl

has_last : (s a : ℕ) (xs : List ℕ) → has_number s (xs ++ a ∷ []) ≡ (has_number s xs || nat_eq a s)
has_last s a [] = or_none (nat_eq a s)
has_last s a (x ∷ xs) =
    ap (λ b. nat_eq x s || b) (has_last s a xs) ∙ sym (or_assoc (nat_eq x s) (has_number s xs) (nat_eq a s))

has_with : (s a : ℕ) (xs : List ℕ) → has_number s (with_number xs a) ≡ (has_number s xs || nat_eq a s)
unfolding with_number
has_with s a xs =
    cond_both (has_number a xs) xs (xs ++ a ∷ []) (λ l. has_number s l ≡ (has_number s xs || nat_eq a s))
    (λ there. absorbed (has_number s xs) (nat_eq a s)
    (λ e. subst (λ (n : ℕ). has_number n xs ≡ true) (eqb-true a s e) there))
    (λ _. has_last s a xs)

has_withs : (s : ℕ) (xs ys : List ℕ) → has_number s (with_numbers xs ys) ≡ (has_number s xs || has_number s ys)
has_withs s xs [] = sym (or_none (has_number s xs))
has_withs s xs (y ∷ ys) =
    has_withs s (with_number xs y) ys ∙ ap (λ b. b || has_number s ys) (has_with s y xs)
    ∙ or_assoc (has_number s xs) (nat_eq y s) (has_number s ys)

apart_last : (x a : ℕ) (ys : List ℕ) → has_number x ys ≡ false → nat_eq a x ≡ false → has_number x (ys ++ a ∷ []) ≡ false
apart_last x a ys h e = has_last x a ys ∙ rw (h, e) refl

distinct_last : (xs : List ℕ) (a : ℕ) → AreDistinct xs → has_number a xs ≡ false → AreDistinct (xs ++ a ∷ [])
distinct_last [] a d none = (refl, tt)
distinct_last (x ∷ xs) a d none = by (nat_eq x a) refl (distinct_last xs a d.1) none
  where
    by : (b : Bool) → nat_eq x a ≡ b → (has_number a xs ≡ false → AreDistinct (xs ++ a ∷ []))
        → (b || has_number a xs) ≡ false → AreDistinct ((x ∷ xs) ++ a ∷ [])
    by true e rest h = absurd cc
    by false e rest h = (apart_last x a xs d.0 (differs x a e), rest h)

distinct_with : (xs : List ℕ) (a : ℕ) → AreDistinct xs → AreDistinct (with_number xs a)
unfolding with_number
distinct_with xs a d =
    cond_both (has_number a xs) xs (xs ++ a ∷ []) AreDistinct (λ _. d) (λ none. distinct_last xs a d none)

distinct_withs : (xs ys : List ℕ) → AreDistinct xs → AreDistinct (with_numbers xs ys)
distinct_withs xs [] d = d
distinct_withs xs (y ∷ ys) d = distinct_withs (with_number xs y) ys (distinct_with xs y d)

-- ---- numbers that differ and are among others are no more

-- a list without the first of these
abbrev less : ℕ → List ℕ → List ℕ
less a [] = []
less a (x ∷ xs) = cond (nat_eq x a) xs (x ∷ less a xs)

shorter_if : (b : Bool) (a x : ℕ) (xs : List ℕ) → (has_number a xs ≡ true → length (less a xs) + 1 ≡ length xs)
    → (b || has_number a xs) ≡ true → length (cond b xs (x ∷ less a xs)) + 1 ≡ length (x ∷ xs)
shorter_if true a x xs k h = omega arith
shorter_if false a x xs k h = omega (arith, k h)

shorter : (a : ℕ) (xs : List ℕ) → has_number a xs ≡ true → length (less a xs) + 1 ≡ length xs
shorter a [] e = absurd cc
shorter a (x ∷ xs) e = shorter_if (nat_eq x a) a x xs (shorter a xs) e

another : (a b x : ℕ) → nat_eq a b ≡ false → nat_eq x a ≡ true → nat_eq x b ≡ false
another a b x d q = subst (λ (n : ℕ). nat_eq n b ≡ false) (sym (eqb-true x a q)) d

still_there : (a b : ℕ) (xs : List ℕ) → nat_eq a b ≡ false → has_number b xs ≡ true → has_number b (less a xs) ≡ true
still_there a b [] d e = absurd cc
still_there a b (x ∷ xs) d e =
    cond_both (nat_eq x a) xs (x ∷ less a xs) (λ l. has_number b l ≡ true)
    (λ q. or_not (nat_eq x b) (has_number b xs) (another a b x d q) e)
    (λ _. or_more (nat_eq x b) (has_number b xs) (has_number b (less a xs)) (still_there a b xs d) e)

abbrev pub AreAmong : List ℕ → List ℕ → Type 0
AreAmong xs ys = (a : ℕ) → has_number a xs ≡ true → has_number a ys ≡ true

not_first : (x a : ℕ) (xs : List ℕ) → has_number x xs ≡ false → has_number a xs ≡ true → nat_eq x a ≡ false
not_first x a xs none there = go (nat_eq x a) refl
  where
    go : (b : Bool) → nat_eq x a ≡ b → b ≡ false
    go true q =
        let s : has_number x xs ≡ true = subst (λ (n : ℕ). has_number n xs ≡ true) (sym (eqb-true x a q)) there in
        absurd cc
    go false q = refl

pub no_longer : (xs ys : List ℕ) → AreDistinct xs → AreAmong xs ys → length xs ≤ length ys
no_longer [] ys d h = omega arith
no_longer (x ∷ xs) ys d h =
    let there : has_number x ys ≡ true = h x (rw (eq-eqb x x refl) refl) in
    let rest : AreAmong xs (less x ys) =
    λ a e. still_there x a ys (not_first x a xs d.0 e) (h a (or_right (nat_eq x a) (has_number a xs) e)) in
    omega (arith, no_longer xs (less x ys) d.1 rest, shorter x ys there)

-- ---- the streams at risk of a table

risk_listed : (known s : ℕ) (bs : List UnacknowledgedBlock)
    → has_number s (map (λ (b : UnacknowledgedBlock). b.stream) (filter (λ b. requires_above known b) bs))
    ≡ is_at_risk known s bs
risk_listed known s [] = refl
risk_listed known s (b ∷ bs) = by (requires_above known b) (risk_listed known s bs)
  where
    by : (t : Bool)
        → has_number s (map (λ (x : UnacknowledgedBlock). x.stream) (filter (λ x. requires_above known x) bs))
        ≡ is_at_risk known s bs
        → has_number s (map (λ (x : UnacknowledgedBlock). x.stream) (cond t (b ∷ filter (λ x. requires_above known x) bs)
        (filter (λ x. requires_above known x) bs)))
        ≡ ((nat_eq b.stream s && t) || is_at_risk known s bs)
    by true h = both (nat_eq b.stream s)
      where
        both : (e : Bool)
            → (e || has_number s (map (λ (x : UnacknowledgedBlock). x.stream) (filter (λ x. requires_above known x) bs)))
            ≡ ((e && true) || is_at_risk known s bs)
        both true = refl
        both false = h
    by false h = h ∙ ap (λ (x : Bool). x || is_at_risk known s bs) (sym (and_none (nat_eq b.stream s)))

pub at_risk_is : (t : Table) (s : ℕ)
    → has_number s (streams_at_risk t) ≡ is_at_risk t.known_received_count s t.unacknowledged
at_risk_is t s =
    has_withs s [] (map (λ (b : UnacknowledgedBlock). b.stream)
    (filter (λ b. requires_above t.known_received_count b) t.unacknowledged))
    ∙ risk_listed t.known_received_count s t.unacknowledged

pub at_risk_distinct : (t : Table) → AreDistinct (streams_at_risk t)
at_risk_distinct t =
    distinct_withs [] (map (λ (b : UnacknowledgedBlock). b.stream)
    (filter (λ b. requires_above t.known_received_count b) t.unacknowledged)) tt

-- streams that differ and are at risk are no more than those that are counted
pub at_risk_within : (t : Table) (ss : List ℕ) → AreDistinct ss
    → AllByRecursion (λ (s : ℕ). is_at_risk t.known_received_count s t.unacknowledged ≡ true) ss
    → length ss ≤ length (streams_at_risk t)
at_risk_within t ss d h = no_longer ss (streams_at_risk t) d (among ss h)
  where
    among : (xs : List ℕ) → AllByRecursion (λ (s : ℕ). is_at_risk t.known_received_count s t.unacknowledged ≡ true) xs
        → AreAmong xs (streams_at_risk t)
    among [] k a e = absurd cc
    among (x ∷ xs) k a e =
        or_pick (has_number a (streams_at_risk t) ≡ true) (nat_eq x a) (has_number a xs)
        (λ q. at_risk_is t a
        ∙ subst (λ (n : ℕ). is_at_risk t.known_received_count n t.unacknowledged ≡ true) (eqb-true x a q) k.0)
        (λ q. among xs k.1 a q) e

-- ---- what an end keeps is those

kept_listed : (known s : ℕ) (rs : List BlockedStream) → AllByRecursion (λ (r : BlockedStream). nat_lt known r.required ≡ true) rs
    → has_number s (map (λ (r : BlockedStream). r.stream) rs) ≡ is_kept_above known s rs
kept_listed known s [] h = refl
kept_listed known s (r ∷ rs) h =
    rw (h.0) (both (nat_eq r.stream s) (kept_listed known s rs h.1))
  where
    both : (e : Bool) → has_number s (map (λ (x : BlockedStream). x.stream) rs) ≡ is_kept_above known s rs
        → (e || has_number s (map (λ (x : BlockedStream). x.stream) rs)) ≡ ((e && true) || is_kept_above known s rs)
    both true k = refl
    both false k = k

pub kept_is : (rs : List BlockedStream) (t : Table) (s : ℕ) → AreAtRisk rs t
    → has_number s (map (λ (r : BlockedStream). r.stream) rs) ≡ has_number s (streams_at_risk t)
kept_is rs t s k =
    kept_listed t.known_received_count s rs k.above ∙ k.each t.known_received_count s (omega arith)
    ∙ sym (at_risk_is t s)

pub kept_count : (rs : List BlockedStream) (t : Table) → AreAtRisk rs t → length rs ≡ length (streams_at_risk t)
kept_count rs t k =
    let streams = map (λ (r : BlockedStream). r.stream) rs in
    omega (
      arith,
      length-map rs (λ (r : BlockedStream). r.stream),
      no_longer streams (streams_at_risk t) k.once (λ a e. sym (kept_is rs t a k) ∙ e),
      no_longer (streams_at_risk t) streams (at_risk_distinct t) (λ a e. kept_is rs t a k ∙ e),
    )

-- it stays so where the table changes otherwise
pub kept_same : (rs : List BlockedStream) (t u : Table) → u.known_received_count ≡ t.known_received_count
    → u.unacknowledged ≡ t.unacknowledged → AreAtRisk rs t → AreAtRisk rs u
kept_same rs t u known same k =
    record {
      once = k.once;
      above = rw known k.above;
      small = k.small;
      known = omega (arith, known, k.known);
      each = λ n s le. k.each n s (omega (arith, le, known)) ∙ ap (λ (bs : List UnacknowledgedBlock). is_at_risk n s bs) (sym same);
    }

-- ---- some are taken away

any_filtered : (p q : BlockedStream → Bool) (rs : List BlockedStream) → ((r : BlockedStream) → q r ≡ true → p r ≡ true)
    → list_any q (filter p rs) ≡ list_any q rs
any_filtered p q [] k = refl
any_filtered p q (r ∷ rs) k = by (p r) refl (any_filtered p q rs k)
  where
    none : (b : Bool) → q r ≡ b → p r ≡ false → q r ≡ false
    none true e f = absurd (let x = sym (k r e) ∙ f in cc)
    none false e f = e

    by : (b : Bool) → p r ≡ b → list_any q (filter p rs) ≡ list_any q rs
        → list_any q (cond b (r ∷ filter p rs) (filter p rs)) ≡ (q r || list_any q rs)
    by true e h = ap (λ x. q r || x) h
    by false e h = rw (none (q r) refl e) h

-- none of those that are left passes
any_gone : (p q : BlockedStream → Bool) (rs : List BlockedStream)
    → ((r : BlockedStream) → p r ≡ true → q r ≡ false) → list_any q (filter p rs) ≡ false
any_gone p q [] k = refl
any_gone p q (r ∷ rs) k = by (p r) refl (any_gone p q rs k)
  where
    by : (b : Bool) → p r ≡ b → list_any q (filter p rs) ≡ false → list_any q (cond b (r ∷ filter p rs) (filter p rs)) ≡ false
    by true e h = rw (k r e) h
    by false e h = h

all_filtered : (P : BlockedStream → Type 0) (p : BlockedStream → Bool) (rs : List BlockedStream) → AllByRecursion P rs
    → AllByRecursion P (filter p rs)
all_filtered P p [] h = tt
all_filtered P p (r ∷ rs) h = by (p r) (all_filtered P p rs h.1)
  where
    by : (b : Bool) → AllByRecursion P (filter p rs) → AllByRecursion P (cond b (r ∷ filter p rs) (filter p rs))
    by true k = (h.0, k)
    by false k = k

absent_filtered : (s : ℕ) (p : BlockedStream → Bool) (rs : List BlockedStream)
    → has_number s (map (λ (r : BlockedStream). r.stream) rs) ≡ false
    → has_number s (map (λ (r : BlockedStream). r.stream) (filter p rs)) ≡ false
absent_filtered s p [] h = refl
absent_filtered s p (r ∷ rs) h = by (p r) (nat_eq r.stream s) refl (absent_filtered s p rs) h
  where
    by : (b e : Bool) → nat_eq r.stream s ≡ e
        → (has_number s (map (λ (x : BlockedStream). x.stream) rs) ≡ false
        → has_number s (map (λ (x : BlockedStream). x.stream) (filter p rs)) ≡ false)
        → (e || has_number s (map (λ (x : BlockedStream). x.stream) rs)) ≡ false
        → has_number s (map (λ (x : BlockedStream). x.stream) (cond b (r ∷ filter p rs) (filter p rs))) ≡ false
    by b true q k none = absurd cc
    by true false q k none = rw q (k none)
    by false false q k none = k none

distinct_filtered : (p : BlockedStream → Bool) (rs : List BlockedStream)
    → AreDistinct (map (λ (r : BlockedStream). r.stream) rs)
    → AreDistinct (map (λ (r : BlockedStream). r.stream) (filter p rs))
distinct_filtered p [] d = tt
distinct_filtered p (r ∷ rs) d = by (p r) (distinct_filtered p rs d.1)
  where
    by : (b : Bool) → AreDistinct (map (λ (x : BlockedStream). x.stream) (filter p rs))
        → AreDistinct (map (λ (x : BlockedStream). x.stream) (cond b (r ∷ filter p rs) (filter p rs)))
    by true k = (absent_filtered r.stream p rs d.0, k)
    by false k = k

-- ---- what is heard

pub is_open : ℕ → List UnacknowledgedBlock → Bool
is_open s bs = list_any (λ b. nat_eq b.stream s) bs

open_is : (s : ℕ) (bs : List UnacknowledgedBlock) → is_some (oldest_required s bs) ≡ is_open s bs
unfolding is_open
open_is s [] = refl
open_is s (b ∷ bs) = by (nat_eq b.stream s) (open_is s bs)
  where
    by : (t : Bool) → is_some (oldest_required s bs) ≡ is_open s bs
        → is_some (option_map required_by (cond t (Some b) (find (λ x. nat_eq x.stream s) bs))) ≡ (t || is_open s bs)
    by true h = refl
    by false h = h

-- a stream that is at risk is open
risk_open : (n s : ℕ) (bs : List UnacknowledgedBlock) → is_at_risk n s bs ≡ true → is_open s bs ≡ true
unfolding is_open
risk_open n s [] h = absurd cc
risk_open n s (b ∷ bs) h = by (nat_eq b.stream s) (risk_open n s bs) h
  where
    by : (t : Bool) → (is_at_risk n s bs ≡ true → is_open s bs ≡ true)
        → ((t && requires_above n b) || is_at_risk n s bs) ≡ true → (t || is_open s bs) ≡ true
    by true k e = refl
    by false k e = k e

-- what an end kept before it heard tells of every stream that has a section still
abbrev pub TellsOpen : List BlockedStream → Table → Type 0
TellsOpen rs t =
    (known stream : ℕ) → t.known_received_count ≤ known → is_open stream t.unacknowledged ≡ true
    → is_kept_above known stream rs ≡ is_at_risk known stream t.unacknowledged

-- without the oldest section of a stream, which requires no more than so many
oldest_risk : (n s0 s : ℕ) (bs others : List UnacknowledgedBlock) → without_oldest s0 bs ≡ Some others
    → unwrap_or (oldest_required s0 bs) 0 ≤ n
    → (is_at_risk n s others ≡ is_at_risk n s bs) × (is_open s others ≡ true → is_open s bs ≡ true)
unfolding without_oldest is_open
oldest_risk n s0 s [] others e le = absurd cc
oldest_risk n s0 s (b ∷ bs) others e le =
    by (nat_eq b.stream s0) (without_oldest s0 bs) refl (λ rest q. oldest_risk n s0 s bs rest q) e le
  where
    same : (x y : List UnacknowledgedBlock) → Some x ≡ Some y → x ≡ y
    same x y q = cc

    by : (t : Bool) (o : Option (List UnacknowledgedBlock)) → without_oldest s0 bs ≡ o
        → ((rest : List UnacknowledgedBlock) → without_oldest s0 bs ≡ Some rest
        → unwrap_or (oldest_required s0 bs) 0 ≤ n
        → (is_at_risk n s rest ≡ is_at_risk n s bs) × (is_open s rest ≡ true → is_open s bs ≡ true))
        → cond t (Some bs) (option_map (λ rest. b ∷ rest) o) ≡ Some others
        → unwrap_or (option_map required_by (cond t (Some b) (find (λ c. nat_eq c.stream s0) bs))) 0 ≤ n
        → (is_at_risk n s others ≡ is_at_risk n s (b ∷ bs)) × (is_open s others ≡ true → is_open s (b ∷ bs) ≡ true)
    by true o q rest is le' =
        subst (λ (x : List UnacknowledgedBlock). (is_at_risk n s x ≡ is_at_risk n s (b ∷ bs))
        × (is_open s x ≡ true → is_open s (b ∷ bs) ≡ true)) (same bs others is) (
          sym (ap (λ (x : Bool). (nat_eq b.stream s && x) || is_at_risk n s bs) (le-ltb n (greatest_of b.entries) le')
              ∙ ap (λ (x : Bool). x || is_at_risk n s bs) (and_none (nat_eq b.stream s))),
          λ h. or_right (nat_eq b.stream s) (is_open s bs) h,
        )
    by false None q rest is le' = absurd cc
    by false (Some more) q rest is le' =
        let r = rest more q le' in
        subst (λ (x : List UnacknowledgedBlock). (is_at_risk n s x ≡ is_at_risk n s (b ∷ bs))
        × (is_open s x ≡ true → is_open s (b ∷ bs) ≡ true)) (same (b ∷ more) others is) (
          ap (λ (x : Bool). (nat_eq b.stream s && requires_above n b) || x) r.0,
          λ h. or_more (nat_eq b.stream s) (is_open s more) (is_open s bs) r.1 h,
        )

-- without the sections of a stream
cancelled_risk : (n s0 s : ℕ) (bs : List UnacknowledgedBlock) → is_open s (without_stream s0 bs) ≡ true
    → (is_at_risk n s (without_stream s0 bs) ≡ is_at_risk n s bs) × (is_open s bs ≡ true)
unfolding without_stream is_open
cancelled_risk n s0 s bs h = by (nat_eq s s0) refl
  where
    none_left : (xs : List UnacknowledgedBlock) → nat_eq s s0 ≡ true
        → list_any (λ b. nat_eq b.stream s) (filter (λ b. not (nat_eq b.stream s0)) xs) ≡ false
    none_left [] e = refl
    none_left (x ∷ xs) e = each (nat_eq x.stream s0) refl (none_left xs e)
      where
        each : (t : Bool) → nat_eq x.stream s0 ≡ t
            → list_any (λ b. nat_eq b.stream s) (filter (λ b. not (nat_eq b.stream s0)) xs) ≡ false
            → list_any (λ b. nat_eq b.stream s) (cond (not t) (x ∷ filter (λ b. not (nat_eq b.stream s0)) xs)
            (filter (λ b. not (nat_eq b.stream s0)) xs)) ≡ false
        each true q k = k
        each false q k = rw (subst (λ (m : ℕ). nat_eq x.stream m ≡ false) (sym (eqb-true s s0 e)) q) k

    apart : (x : UnacknowledgedBlock) → nat_eq s s0 ≡ false → nat_eq x.stream s0 ≡ true → nat_eq x.stream s ≡ false
    apart x e q = subst (λ (m : ℕ). nat_eq m s ≡ false) (sym (eqb-true x.stream s0 q)) (differs s s0 e)

    left : (p : UnacknowledgedBlock → Bool) (xs : List UnacknowledgedBlock) → nat_eq s s0 ≡ false
        → list_any (λ b. nat_eq b.stream s && p b) (filter (λ b. not (nat_eq b.stream s0)) xs)
        ≡ list_any (λ b. nat_eq b.stream s && p b) xs
    left p [] e = refl
    left p (x ∷ xs) e = each (nat_eq x.stream s0) refl (left p xs e)
      where
        each : (t : Bool) → nat_eq x.stream s0 ≡ t
            → list_any (λ b. nat_eq b.stream s && p b) (filter (λ b. not (nat_eq b.stream s0)) xs)
            ≡ list_any (λ b. nat_eq b.stream s && p b) xs
            → list_any (λ b. nat_eq b.stream s && p b) (cond (not t) (x ∷ filter (λ b. not (nat_eq b.stream s0)) xs)
            (filter (λ b. not (nat_eq b.stream s0)) xs))
            ≡ ((nat_eq x.stream s && p x) || list_any (λ b. nat_eq b.stream s && p b) xs)
        each true q k = rw (apart x e q) k
        each false q k = ap (λ (y : Bool). (nat_eq x.stream s && p x) || y) k

    opened : (xs : List UnacknowledgedBlock)
        → list_any (λ b. nat_eq b.stream s) (filter (λ b. not (nat_eq b.stream s0)) xs) ≡ true
        → list_any (λ b. nat_eq b.stream s) xs ≡ true
    opened [] k = absurd cc
    opened (x ∷ xs) k = each (nat_eq x.stream s0) (opened xs) k
      where
        each : (t : Bool)
            → (list_any (λ b. nat_eq b.stream s) (filter (λ b. not (nat_eq b.stream s0)) xs) ≡ true
            → list_any (λ b. nat_eq b.stream s) xs ≡ true)
            → list_any (λ b. nat_eq b.stream s) (cond (not t) (x ∷ filter (λ b. not (nat_eq b.stream s0)) xs)
            (filter (λ b. not (nat_eq b.stream s0)) xs)) ≡ true
            → (nat_eq x.stream s || list_any (λ b. nat_eq b.stream s) xs) ≡ true
        each true rest j = or_right (nat_eq x.stream s) (list_any (λ b. nat_eq b.stream s) xs) (rest j)
        each false rest j =
            or_more (nat_eq x.stream s) _ (list_any (λ b. nat_eq b.stream s) xs) rest j

    by : (t : Bool) → nat_eq s s0 ≡ t
        → (is_at_risk n s (filter (λ b. not (nat_eq b.stream s0)) bs) ≡ is_at_risk n s bs)
        × (list_any (λ b. nat_eq b.stream s) bs ≡ true)
    by true e = absurd (let x = sym h ∙ none_left bs e in cc)
    by false e = (left (λ b. requires_above n b) bs e, opened bs h)

-- nothing is kept above the greatest number of 64 bits
none_above : (n s : ℕ) (rs : List BlockedStream) → 2 ^ 64 - 1 ≤ n → AllByRecursion (λ (r : BlockedStream). r.required < 2 ^ 64) rs
    → is_kept_above n s rs ≡ false
none_above n s [] le h = refl
none_above n s (r ∷ rs) le h =
    rw (le-ltb n r.required (omega (arith, le, h.0)), and_none (nat_eq r.stream s)) (none_above n s rs le h.1)

oldest_at_risk : (n s : ℕ) (bs : List UnacknowledgedBlock) → n < unwrap_or (oldest_required s bs) 0
    → (is_at_risk n s bs ≡ true) × (is_open s bs ≡ true)
unfolding is_open
oldest_at_risk n s [] more = absurd (omega (arith, more))
oldest_at_risk n s (b ∷ bs) more = by (nat_eq b.stream s) (oldest_at_risk n s bs) more
  where
    by : (t : Bool) → (n < unwrap_or (oldest_required s bs) 0 → (is_at_risk n s bs ≡ true) × (is_open s bs ≡ true))
        → n < unwrap_or (option_map required_by (cond t (Some b) (find (λ x. nat_eq x.stream s) bs))) 0
        → (((t && requires_above n b) || is_at_risk n s bs) ≡ true) × ((t || is_open s bs) ≡ true)
    by true k h = (or_left (requires_above n b) (is_at_risk n s bs) (lt-ltb n (greatest_of b.entries) h), refl)
    by false k h = k h

-- so the oldest section of a stream requires no more than that
oldest_small : (rs : List BlockedStream) (t : Table) (s : ℕ) → AllByRecursion (λ (r : BlockedStream). r.required < 2 ^ 64) rs
    → t.known_received_count < 2 ^ 64 → TellsOpen rs t → unwrap_or (oldest_required s t.unacknowledged) 0 ≤ 2 ^ 64 - 1
oldest_small rs t s small known k = go (nat_lt (2 ^ 64 - 1) (unwrap_or (oldest_required s t.unacknowledged) 0)) refl
  where
    go : (b : Bool) → nat_lt (2 ^ 64 - 1) (unwrap_or (oldest_required s t.unacknowledged) 0) ≡ b
        → unwrap_or (oldest_required s t.unacknowledged) 0 ≤ 2 ^ 64 - 1
    go true q =
        let r = oldest_at_risk (2 ^ 64 - 1) s t.unacknowledged (ltb-true (2 ^ 64 - 1) _ q) in
        absurd (let x = sym (none_above (2 ^ 64 - 1) s rs (omega arith) small)
        ∙ k (2 ^ 64 - 1) s (omega (arith, known)) r.1 ∙ r.0 in cc)
    go false q = ltb-false (2 ^ 64 - 1) _ q

-- an instruction is heard
tells_heard : (rs : List BlockedStream) (t u : Table) (i : DecoderInstruction) → strict_hear t i ≡ Ok u
    → AllByRecursion (λ (r : BlockedStream). r.required < 2 ^ 64) rs → t.known_received_count < 2 ^ 64 → TellsOpen rs t
    → (u.known_received_count < 2 ^ 64) × TellsOpen rs u
unfolding strict_hear apply_decoder_instruction with_increment
tells_heard rs t u (Acknowledgment s0) e small known k = go (without_oldest s0 t.unacknowledged) refl e
  where
    required : ℕ
    required = unwrap_or (oldest_required s0 t.unacknowledged) 0

    heard : List UnacknowledgedBlock → Table
    heard bs = known_at_least required (record t { unacknowledged = bs })

    go : (o : Option (List UnacknowledgedBlock)) → without_oldest s0 t.unacknowledged ≡ o
        → (or_unknown s0 (or_refusal o (UnknownStream s0) >>= λ bs. Ok (record t { unacknowledged = bs }))
        >>= λ v. Ok (known_at_least required v)) ≡ Ok u → (u.known_received_count < 2 ^ 64) × TellsOpen rs u
    go None is q = absurd cc
    go (Some bs) is q =
        let most = oldest_small rs t s0 small known k in
        subst (λ (v : Table). (v.known_received_count < 2 ^ 64) × TellsOpen rs v) (ok_is _ _ q) (
          omega arith,
          λ n s le is_left.
              (let r = oldest_risk n s0 s t.unacknowledged bs is (omega (arith, le, most)) in
              k n s (omega (arith, le, known)) (r.1 is_left) ∙ sym r.0),
        )
tells_heard rs t u (Cancellation s0) e small known k =
    subst (λ (v : Table). (v.known_received_count < 2 ^ 64) × TellsOpen rs v) (ok_is _ _ e) (
      known,
      λ n s le is_left.
          (let r = cancelled_risk n s0 s t.unacknowledged is_left in k n s le r.1 ∙ sym r.0),
    )
tells_heard rs t u (Increment by) e small known k =
    cond_both (nat_eq by 0) _ _ (λ r. r ≡ Ok u → (u.known_received_count < 2 ^ 64) × TellsOpen rs u) (λ _ q. absurd cc)
    (λ _. cond_both (nat_lt (insert_count t) (t.known_received_count + by)) _ _
    (λ r. r ≡ Ok u → (u.known_received_count < 2 ^ 64) × TellsOpen rs u) (λ _ q. absurd cc)
    (λ _ q. subst (λ (v : Table). (v.known_received_count < 2 ^ 64) × TellsOpen rs v) (ok_is _ _ q) (
      omega arith,
      λ n s le is_left. k n s (omega (arith, le, known)) is_left,
    )))
    e

-- and so are some in turn
tells_all : (rs : List BlockedStream) (t u : Table) (is : List DecoderInstruction) → hear_in_turn t is ≡ Ok u
    → AllByRecursion (λ (r : BlockedStream). r.required < 2 ^ 64) rs → t.known_received_count < 2 ^ 64 → TellsOpen rs t
    → (u.known_received_count < 2 ^ 64) × TellsOpen rs u
tells_all rs t u [] e small known k =
    subst (λ (v : Table). (v.known_received_count < 2 ^ 64) × TellsOpen rs v) (ok_is t u e) (known, k)
tells_all rs t u (i ∷ is) e small known k =
    let one = bind_ok (strict_hear t i) (λ v. hear_in_turn v is) u e in
    let h = tells_heard rs t one.0 i one.1 small known k in
    tells_all rs one.0 u is one.2 small h.0 h.1

-- those that are at risk still are taken
swept_above : (t : Table) (rs : List BlockedStream)
    → AllByRecursion (λ (r : BlockedStream). nat_lt t.known_received_count r.required ≡ true) (still_at_risk t rs)
swept_above t [] = tt
swept_above t (r ∷ rs) =
    by (nat_lt t.known_received_count r.required && is_some (oldest_required r.stream t.unacknowledged)) refl
    (swept_above t rs)
  where
    by : (b : Bool)
        → (nat_lt t.known_received_count r.required && is_some (oldest_required r.stream t.unacknowledged)) ≡ b
        → AllByRecursion (λ (x : BlockedStream). nat_lt t.known_received_count x.required ≡ true) (still_at_risk t rs)
        → AllByRecursion (λ (x : BlockedStream). nat_lt t.known_received_count x.required ≡ true)
        (cond b (r ∷ still_at_risk t rs) (still_at_risk t rs))
    by true e k = ((and_both _ _ e).0, k)
    by false e k = k

swept_each : (t : Table) (rs : List BlockedStream) (n s : ℕ) → t.known_received_count ≤ n
    → (b : Bool) → is_open s t.unacknowledged ≡ b
    → (b ≡ true → is_kept_above n s rs ≡ is_at_risk n s t.unacknowledged)
    → is_kept_above n s (still_at_risk t rs) ≡ is_at_risk n s t.unacknowledged
swept_each t rs n s le true is k =
    any_filtered
    (λ r. nat_lt t.known_received_count r.required && is_some (oldest_required r.stream t.unacknowledged))
    (λ r. nat_eq r.stream s && nat_lt n r.required) rs
    (λ r q. (let p = and_both (nat_eq r.stream s) (nat_lt n r.required) q in
    let more : t.known_received_count < r.required = omega (arith, le, ltb-true n r.required p.1) in
    rw (lt-ltb t.known_received_count r.required more, eqb-true r.stream s p.0, open_is s t.unacknowledged) is))
    ∙ k refl
swept_each t rs n s le false is k =
    any_gone
    (λ r. nat_lt t.known_received_count r.required && is_some (oldest_required r.stream t.unacknowledged))
    (λ r. nat_eq r.stream s && nat_lt n r.required) rs
    (λ r q. (let p = and_both (nat_lt t.known_received_count r.required) _ q in gone r (nat_eq r.stream s) refl p.1))
    ∙ sym (no_risk (is_at_risk n s t.unacknowledged) refl)
  where
    gone : (r : BlockedStream) (e : Bool) → nat_eq r.stream s ≡ e
        → is_some (oldest_required r.stream t.unacknowledged) ≡ true → (nat_eq r.stream s && nat_lt n r.required) ≡ false
    gone r true q o =
        absurd (let x = sym (sym (open_is s t.unacknowledged)
        ∙ subst (λ (m : ℕ). is_some (oldest_required m t.unacknowledged) ≡ true) (eqb-true r.stream s q) o) ∙ is in cc)
    gone r false q o = rw q refl

    no_risk : (x : Bool) → is_at_risk n s t.unacknowledged ≡ x → is_at_risk n s t.unacknowledged ≡ false
    no_risk true q = absurd (let x = sym (risk_open n s t.unacknowledged q) ∙ is in cc)
    no_risk false q = q

-- what was heard changes what is at risk: those go that are known to be received, acknowledged or cancelled
pub heard_at_risk : (rs : List BlockedStream) (t u : Table) (is : List DecoderInstruction) → hear_in_turn t is ≡ Ok u
    → AreAtRisk rs t → AreAtRisk (still_at_risk u rs) u
heard_at_risk rs t u is e k =
    let h = tells_all rs t u is e k.small k.known (λ n s le _. k.each n s le) in
    record {
      once = distinct_filtered
          (λ r. nat_lt u.known_received_count r.required && is_some (oldest_required r.stream u.unacknowledged)) rs k.once;
      above = swept_above u rs;
      small = all_filtered (λ (r : BlockedStream). r.required < 2 ^ 64)
          (λ r. nat_lt u.known_received_count r.required && is_some (oldest_required r.stream u.unacknowledged)) rs k.small;
      known = h.0;
      each = λ n s le. swept_each u rs n s le (is_open s u.unacknowledged) refl (λ o. h.1 n s le o);
    }

-- ---- a section is written

risk_more : (n s stream : ℕ) (refs : List ℕ) (bs : List UnacknowledgedBlock)
    → is_at_risk n s (with_unacknowledged bs stream refs)
    ≡ (is_at_risk n s bs || (nat_eq stream s && nat_lt n (greatest_of refs)))
unfolding greatest_of
risk_more n s stream [] bs =
    sym (rw (le-ltb n 0 (omega arith), and_none (nat_eq stream s)) (or_none (is_at_risk n s bs)))
risk_more n s stream (a ∷ more) bs = last bs
  where
    last : (xs : List UnacknowledgedBlock)
        → is_at_risk n s (xs ++ record { stream = stream; entries = a ∷ more } ∷ [])
        ≡ (is_at_risk n s xs || (nat_eq stream s && nat_lt n (greatest_of (a ∷ more))))
    last [] = or_none _
    last (x ∷ xs) =
        ap (λ b. (nat_eq x.stream s && requires_above n x) || b) (last xs)
        ∙ sym (or_assoc (nat_eq x.stream s && requires_above n x) (is_at_risk n s xs) _)

kept_last : (n s : ℕ) (b : BlockedStream) (rs : List BlockedStream)
    → is_kept_above n s (rs ++ b ∷ []) ≡ (is_kept_above n s rs || (nat_eq b.stream s && nat_lt n b.required))
kept_last n s b [] = or_none _
kept_last n s b (r ∷ rs) =
    ap (λ x. (nat_eq r.stream s && nat_lt n r.required) || x) (kept_last n s b rs)
    ∙ sym (or_assoc (nat_eq r.stream s && nat_lt n r.required) (is_kept_above n s rs) _)

-- a stream that is covered is kept with as much
covered : (n s : ℕ) (b : BlockedStream) (rs : List BlockedStream) → covers b rs ≡ true
    → (nat_eq b.stream s && nat_lt n b.required) ≡ true → is_kept_above n s rs ≡ true
covered n s b [] h e = absurd cc
covered n s b (r ∷ rs) h e =
    let p = and_both (nat_eq b.stream s) (nat_lt n b.required) e in
    or_pick (is_kept_above n s (r ∷ rs) ≡ true) (nat_eq r.stream b.stream && nat_le b.required r.required) (covers b rs)
    (λ q. (let k = and_both (nat_eq r.stream b.stream) (nat_le b.required r.required) q in
    or_left (nat_eq r.stream s && nat_lt n r.required) (is_kept_above n s rs)
    (rw (
      eq-eqb r.stream s (eqb-true r.stream b.stream k.0 ∙ eqb-true b.stream s p.0),
      lt-ltb n r.required (omega (arith, ltb-true n b.required p.1, leb-true b.required r.required k.1)),
    ) refl)))
    (λ q. or_right (nat_eq r.stream s && nat_lt n r.required) (is_kept_above n s rs) (covered n s b rs q e))
    h

-- one that is not is kept with less, if it is
uncovered : (n s : ℕ) (b : BlockedStream) (rs : List BlockedStream) → covers b rs ≡ false
    → (is_kept_above n s (without b.stream rs) || (nat_eq b.stream s && nat_lt n b.required))
    ≡ (is_kept_above n s rs || (nat_eq b.stream s && nat_lt n b.required))
uncovered n s b rs h = by (nat_eq b.stream s) refl (nat_lt n b.required) refl
  where
    apart : (xs : List BlockedStream) → nat_eq b.stream s ≡ false
        → is_kept_above n s (without b.stream xs) ≡ is_kept_above n s xs
    apart xs e =
        any_filtered (λ r. not (nat_eq r.stream b.stream)) (λ r. nat_eq r.stream s && nat_lt n r.required) xs
        (λ r q. by_stream r (nat_eq r.stream b.stream) refl (and_both (nat_eq r.stream s) _ q).0)
      where
        by_stream : (r : BlockedStream) (t : Bool) → nat_eq r.stream b.stream ≡ t → nat_eq r.stream s ≡ true
            → not t ≡ true
        by_stream r true q k =
            absurd (let x = sym e ∙ eq-eqb b.stream s (sym (eqb-true r.stream b.stream q) ∙ eqb-true r.stream s k) in cc)
        by_stream r false q k = refl

    none : (xs : List BlockedStream) → nat_eq b.stream s ≡ true → is_kept_above n s (without b.stream xs) ≡ false
    none xs e =
        any_gone (λ r. not (nat_eq r.stream b.stream)) (λ r. nat_eq r.stream s && nat_lt n r.required) xs
        (λ r q. by_stream r (nat_eq r.stream s) refl q)
      where
        by_stream : (r : BlockedStream) (t : Bool) → nat_eq r.stream s ≡ t → not (nat_eq r.stream b.stream) ≡ true
            → (nat_eq r.stream s && nat_lt n r.required) ≡ false
        by_stream r true q k =
            let same : nat_eq r.stream b.stream ≡ true =
            eq-eqb r.stream b.stream (eqb-true r.stream s q ∙ sym (eqb-true b.stream s e)) in
            absurd (let x = sym k ∙ ap not same in cc)
        by_stream r false q k = rw q refl

    lower : (r : BlockedStream) → nat_eq b.stream s ≡ true → nat_lt n b.required ≡ false
        → (nat_eq r.stream b.stream && nat_le b.required r.required) ≡ false
        → (t : Bool) → nat_eq r.stream s ≡ t → (m : Bool) → nat_lt n r.required ≡ m → (t && m) ≡ false
    lower r e l c false q m k = refl
    lower r e l c true q false k = refl
    lower r e l c true q true k =
        let above : n < r.required = ltb-true n r.required k in
        let most : b.required ≤ n = ltb-false n b.required l in
        let covers_it : (nat_eq r.stream b.stream && nat_le b.required r.required) ≡ true =
        rw (
          eq-eqb r.stream b.stream (eqb-true r.stream s q ∙ sym (eqb-true b.stream s e)),
          le-leb b.required r.required (omega (arith, above, most)),
        ) refl in
        absurd (let x : true ≡ false = sym covers_it ∙ c in cc)

    fewer : (xs : List BlockedStream) → covers b xs ≡ false → nat_eq b.stream s ≡ true → nat_lt n b.required ≡ false
        → is_kept_above n s xs ≡ false
    fewer [] c e l = refl
    fewer (r ∷ xs) c e l =
        let p = or_neither (nat_eq r.stream b.stream && nat_le b.required r.required) (covers b xs) c in
        rw (lower r e l p.0 (nat_eq r.stream s) refl (nat_lt n r.required) refl) (fewer xs p.1 e l)

    by : (t : Bool) → nat_eq b.stream s ≡ t → (m : Bool) → nat_lt n b.required ≡ m
        → (is_kept_above n s (without b.stream rs) || (t && m)) ≡ (is_kept_above n s rs || (t && m))
    by true e true l = or_all (is_kept_above n s (without b.stream rs)) ∙ sym (or_all (is_kept_above n s rs))
    by true e false l = ap (λ x. x || false) (none rs e ∙ sym (fewer rs h e l))
    by false e m l = ap (λ x. x || false) (apart rs e)

-- a stream with one more section is kept with the most that one requires
kept_with : (n s : ℕ) (b : BlockedStream) (rs : List BlockedStream)
    → is_kept_above n s (with_stream b rs) ≡ (is_kept_above n s rs || (nat_eq b.stream s && nat_lt n b.required))
kept_with n s b rs = by (covers b rs) refl
  where
    by : (t : Bool) → covers b rs ≡ t
        → is_kept_above n s (cond t rs (without b.stream rs ++ b ∷ []))
        ≡ (is_kept_above n s rs || (nat_eq b.stream s && nat_lt n b.required))
    by true e = absorbed (is_kept_above n s rs) (nat_eq b.stream s && nat_lt n b.required) (covered n s b rs e)
    by false e = kept_last n s b (without b.stream rs) ∙ uncovered n s b rs e

absent_without : (b : BlockedStream) (rs : List BlockedStream)
    → has_number b.stream (map (λ (r : BlockedStream). r.stream) (without b.stream rs)) ≡ false
absent_without b [] = refl
absent_without b (r ∷ rs) = by (nat_eq r.stream b.stream) refl (absent_without b rs)
  where
    by : (t : Bool) → nat_eq r.stream b.stream ≡ t
        → has_number b.stream (map (λ (x : BlockedStream). x.stream) (without b.stream rs)) ≡ false
        → has_number b.stream (map (λ (x : BlockedStream). x.stream) (cond (not t) (r ∷ without b.stream rs)
        (without b.stream rs))) ≡ false
    by true e k = k
    by false e k = rw e k

mapped_last : (b : BlockedStream) (rs : List BlockedStream)
    → map (λ (r : BlockedStream). r.stream) (rs ++ b ∷ []) ≡ map (λ (r : BlockedStream). r.stream) rs ++ b.stream ∷ []
mapped_last b [] = refl
mapped_last b (r ∷ rs) = ap (λ (l : List ℕ). r.stream ∷ l) (mapped_last b rs)

all_last : (P : BlockedStream → Type 0) (b : BlockedStream) (rs : List BlockedStream) → AllByRecursion P rs → P b
    → AllByRecursion P (rs ++ b ∷ [])
all_last P b [] h k = (k, tt)
all_last P b (r ∷ rs) h k = (h.0, all_last P b rs h.1 k)

all_with : (P : BlockedStream → Type 0) (b : BlockedStream) (rs : List BlockedStream) → AllByRecursion P rs → P b
    → AllByRecursion P (with_stream b rs)
all_with P b rs h k =
    cond_both (covers b rs) rs (without b.stream rs ++ b ∷ []) (AllByRecursion P) (λ _. h)
    (λ _. all_last P b (without b.stream rs) (all_filtered P (λ r. not (nat_eq r.stream b.stream)) rs h) k)

once_with : (b : BlockedStream) (rs : List BlockedStream) → AreDistinct (map (λ (r : BlockedStream). r.stream) rs)
    → AreDistinct (map (λ (r : BlockedStream). r.stream) (with_stream b rs))
once_with b rs d =
    cond_both (covers b rs) rs (without b.stream rs ++ b ∷ []) (λ l. AreDistinct (map (λ (r : BlockedStream). r.stream) l))
    (λ _. d)
    (λ _. subst AreDistinct (sym (mapped_last b (without b.stream rs)))
    (distinct_last (map (λ (r : BlockedStream). r.stream) (without b.stream rs)) b.stream
    (distinct_filtered (λ r. not (nat_eq r.stream b.stream)) rs d) (absent_without b rs)))

-- a section that requires more than is known puts its stream at risk
pub written_at_risk : (rs : List BlockedStream) (t u : Table) (stream required : ℕ) (refs : List ℕ)
    → u.known_received_count ≡ t.known_received_count
    → u.unacknowledged ≡ with_unacknowledged t.unacknowledged stream refs → required ≡ greatest_of refs
    → t.known_received_count < required → required < 2 ^ 64 → AreAtRisk rs t
    → AreAtRisk (with_stream (record { required = required; stream = stream }) rs) u
written_at_risk rs t u stream required refs known more is above small k =
    let b : BlockedStream = record { required = required; stream = stream } in
    record {
      once = once_with b rs k.once;
      above = all_with (λ (r : BlockedStream). nat_lt u.known_received_count r.required ≡ true) b rs (rw known k.above)
          (lt-ltb u.known_received_count required (omega (arith, known, above)));
      small = all_with (λ (r : BlockedStream). r.required < 2 ^ 64) b rs k.small small;
      known = omega (arith, known, k.known);
      each = λ n s le.
          kept_with n s b rs
          ∙ ap (λ x. x || (nat_eq stream s && nat_lt n required)) (k.each n s (omega (arith, le, known)))
          ∙ ap (λ (m : ℕ). is_at_risk n s t.unacknowledged || (nat_eq stream s && nat_lt n m)) is
          ∙ sym (risk_more n s stream refs t.unacknowledged)
          ∙ ap (λ (bs : List UnacknowledgedBlock). is_at_risk n s bs) (sym more);
    }

-- one that does not changes nothing
pub known_at_risk : (rs : List BlockedStream) (t u : Table) (stream required : ℕ) (refs : List ℕ)
    → u.known_received_count ≡ t.known_received_count
    → u.unacknowledged ≡ with_unacknowledged t.unacknowledged stream refs → required ≡ greatest_of refs
    → required ≤ t.known_received_count → AreAtRisk rs t → AreAtRisk rs u
known_at_risk rs t u stream required refs known more is low k =
    record {
      once = k.once;
      above = rw known k.above;
      small = k.small;
      known = omega (arith, known, k.known);
      each = λ n s le.
          k.each n s (omega (arith, le, known))
          ∙ sym (or_none (is_at_risk n s t.unacknowledged))
          ∙ ap (λ x. is_at_risk n s t.unacknowledged || x)
          (sym (rw (le-ltb n (greatest_of refs) (omega (arith, le, known, low, is))) (and_none (nat_eq stream s))))
          ∙ sym (risk_more n s stream refs t.unacknowledged)
          ∙ ap (λ (bs : List UnacknowledgedBlock). is_at_risk n s bs) (sym more);
    }

-- no more streams are at risk than may be, where a section is written of a stream that may be, or that requires nothing
-- that is not known
pub risk_within : (t u : Table) (most stream : ℕ) (refs : List ℕ) → u.known_received_count ≡ t.known_received_count
    → u.unacknowledged ≡ with_unacknowledged t.unacknowledged stream refs
    → length (streams_at_risk t) ≤ most
    → ((has_number stream (streams_at_risk t) || nat_lt (length (streams_at_risk t)) most) ≡ false
    → greatest_of refs ≤ t.known_received_count)
    → length (streams_at_risk u) ≤ most
risk_within t u most stream refs known more few low =
    by (has_number stream (streams_at_risk t)) refl (nat_lt (length (streams_at_risk t)) most) refl low
  where
    is : (s : ℕ) → has_number s (streams_at_risk u)
        ≡ (has_number s (streams_at_risk t) || (nat_eq stream s && nat_lt t.known_received_count (greatest_of refs)))
    is s =
        at_risk_is u s
        ∙ ap (λ (bs : List UnacknowledgedBlock). is_at_risk u.known_received_count s bs) more
        ∙ ap (λ (n : ℕ). is_at_risk n s (with_unacknowledged t.unacknowledged stream refs)) known
        ∙ risk_more t.known_received_count s stream refs t.unacknowledged
        ∙ ap (λ x. x || (nat_eq stream s && nat_lt t.known_received_count (greatest_of refs))) (sym (at_risk_is t s))

    -- none is new
    old : (s : ℕ) (x : Bool) → (x ≡ true → has_number s (streams_at_risk t) ≡ true)
        → (has_number s (streams_at_risk t) || x) ≡ true → has_number s (streams_at_risk t) ≡ true
    old s x k h = or_pick (has_number s (streams_at_risk t) ≡ true) (has_number s (streams_at_risk t)) x (λ q. q) k h

    among_old : (has_number stream (streams_at_risk t) ≡ true) ⊎ (greatest_of refs ≤ t.known_received_count)
        → length (streams_at_risk u) ≤ most
    among_old (inl there) =
        omega (
          arith,
          few,
          no_longer (streams_at_risk u) (streams_at_risk t) (at_risk_distinct u)
              (λ a e. old a (nat_eq stream a && nat_lt t.known_received_count (greatest_of refs))
              (λ q. subst (λ (n : ℕ). has_number n (streams_at_risk t) ≡ true)
              (eqb-true stream a (and_both (nat_eq stream a) _ q).0) there) (sym (is a) ∙ e)),
        )
    among_old (inr none) =
        omega (
          arith,
          few,
          no_longer (streams_at_risk u) (streams_at_risk t) (at_risk_distinct u)
              (λ a e. old a (nat_eq stream a && nat_lt t.known_received_count (greatest_of refs))
              (λ q. absurd (let x = sym (and_both (nat_eq stream a) _ q).1
              ∙ le-ltb t.known_received_count (greatest_of refs) none in cc)) (sym (is a) ∙ e)),
        )

    one_more : (there : has_number stream (streams_at_risk t) ≡ false)
        → nat_lt (length (streams_at_risk t)) most ≡ true → length (streams_at_risk u) ≤ most
    one_more there below =
        omega (
          arith,
          ltb-true (length (streams_at_risk t)) most below,
          no_longer (streams_at_risk u) (streams_at_risk t ++ stream ∷ []) (at_risk_distinct u)
              (λ a e. has_last a stream (streams_at_risk t)
              ∙ or_more (has_number a (streams_at_risk t)) (nat_eq stream a && nat_lt t.known_received_count (greatest_of refs))
              (nat_eq stream a) (λ q. (and_both (nat_eq stream a) _ q).0) (sym (is a) ∙ e)),
          length-append (streams_at_risk t) (stream ∷ []),
        )

    by : (h : Bool) → has_number stream (streams_at_risk t) ≡ h → (b : Bool)
        → nat_lt (length (streams_at_risk t)) most ≡ b
        → ((h || b) ≡ false → greatest_of refs ≤ t.known_received_count) → length (streams_at_risk u) ≤ most
    by true there b below q = among_old (inl there)
    by false there true below q = one_more there below
    by false there false below q = among_old (inr (q refl))

-- ---- what is heard puts no stream at risk

risk_lower : (known n s : ℕ) (bs : List UnacknowledgedBlock) → known ≤ n → is_at_risk n s bs ≡ true
    → is_at_risk known s bs ≡ true
risk_lower known n s [] le h = absurd cc
risk_lower known n s (b ∷ bs) le h =
    or_pick (is_at_risk known s (b ∷ bs) ≡ true) (nat_eq b.stream s && requires_above n b) (is_at_risk n s bs)
    (λ q. (let p = and_both (nat_eq b.stream s) (requires_above n b) q in
    or_left (nat_eq b.stream s && requires_above known b) (is_at_risk known s bs)
    (rw (p.0, lt-ltb known (greatest_of b.entries) (omega (arith, le, ltb-true n (greatest_of b.entries) p.1))) refl)))
    (λ q. or_right (nat_eq b.stream s && requires_above known b) (is_at_risk known s bs) (risk_lower known n s bs le q))
    h

-- the sections that are not acknowledged require no more than a number of 64 bits
abbrev pub AreSmall : Table → Type 0
AreSmall t = (s : ℕ) → unwrap_or (oldest_required s t.unacknowledged) 0 < 2 ^ 64

at_risk_before : (t u : Table) (i : DecoderInstruction) → strict_hear t i ≡ Ok u → t.known_received_count < 2 ^ 64
    → AreSmall t → (a : ℕ) → is_at_risk u.known_received_count a u.unacknowledged ≡ true
    → is_at_risk t.known_received_count a t.unacknowledged ≡ true
unfolding strict_hear apply_decoder_instruction with_increment
at_risk_before t u (Acknowledgment s0) e known small a h = go (without_oldest s0 t.unacknowledged) refl e h
  where
    required : ℕ
    required = unwrap_or (oldest_required s0 t.unacknowledged) 0

    go : (o : Option (List UnacknowledgedBlock)) → without_oldest s0 t.unacknowledged ≡ o
        → (or_unknown s0 (or_refusal o (UnknownStream s0) >>= λ bs. Ok (record t { unacknowledged = bs }))
        >>= λ v. Ok (known_at_least required v)) ≡ Ok u → is_at_risk u.known_received_count a u.unacknowledged ≡ true
        → is_at_risk t.known_received_count a t.unacknowledged ≡ true
    go None is q = absurd cc
    go (Some bs) is q =
        subst (λ (v : Table). is_at_risk v.known_received_count a v.unacknowledged ≡ true
        → is_at_risk t.known_received_count a t.unacknowledged ≡ true) (ok_is _ _ q)
        (λ k. (let n : ℕ = min (t.known_received_count + (required - t.known_received_count)) (2 ^ 64 - 1) in
        let r = oldest_risk n s0 a t.unacknowledged bs is (omega (arith, small s0)) in
        risk_lower t.known_received_count n a t.unacknowledged (omega (arith, known)) (sym r.0 ∙ k)))
at_risk_before t u (Cancellation s0) e known small a h =
    subst (λ (v : Table). is_at_risk v.known_received_count a v.unacknowledged ≡ true
    → is_at_risk t.known_received_count a t.unacknowledged ≡ true) (ok_is _ _ e)
    (λ k. (let r = cancelled_risk t.known_received_count s0 a t.unacknowledged
    (risk_open t.known_received_count a (without_stream s0 t.unacknowledged) k) in sym r.0 ∙ k)) h
at_risk_before t u (Increment by) e known small a h =
    cond_both (nat_eq by 0) _ _ (λ r. r ≡ Ok u → is_at_risk t.known_received_count a t.unacknowledged ≡ true)
    (λ _ q. absurd cc)
    (λ _. cond_both (nat_lt (insert_count t) (t.known_received_count + by)) _ _
    (λ r. r ≡ Ok u → is_at_risk t.known_received_count a t.unacknowledged ≡ true) (λ _ q. absurd cc)
    (λ _ q. subst (λ (v : Table). is_at_risk v.known_received_count a v.unacknowledged ≡ true
    → is_at_risk t.known_received_count a t.unacknowledged ≡ true) (ok_is _ _ q)
    (λ k. risk_lower t.known_received_count (min (t.known_received_count + by) (2 ^ 64 - 1)) a t.unacknowledged
    (omega (arith, known)) k) h))
    e

pub heard_within : (t u : Table) (i : DecoderInstruction) → strict_hear t i ≡ Ok u → t.known_received_count < 2 ^ 64
    → AreSmall t → length (streams_at_risk u) ≤ length (streams_at_risk t)
heard_within t u i e known small =
    no_longer (streams_at_risk u) (streams_at_risk t) (at_risk_distinct u)
    (λ a h. at_risk_is t a ∙ at_risk_before t u i e known small a (sym (at_risk_is u a) ∙ h))

-- the same sections, and as many insertions known
pub same_at_risk : (t u : Table) → u.known_received_count ≡ t.known_received_count
    → u.unacknowledged ≡ t.unacknowledged → streams_at_risk u ≡ streams_at_risk t
same_at_risk t u known same = rw (known, same) refl

pub none_yet : (t : Table) → t.unacknowledged ≡ [] → streams_at_risk t ≡ []
none_yet t none = rw none refl

-- ---- what an end asks of them

listed_any : (s : ℕ) (rs : List BlockedStream)
    → list_any (λ (r : BlockedStream). nat_eq r.stream s) rs ≡ has_number s (map (λ (r : BlockedStream). r.stream) rs)
listed_any s [] = refl
listed_any s (r ∷ rs) = ap (λ b. nat_eq r.stream s || b) (listed_any s rs)

-- whether a stream is among them tells whether it is at risk
pub kept_any : (rs : List BlockedStream) (t : Table) (s : ℕ) → AreAtRisk rs t
    → list_any (λ (r : BlockedStream). nat_eq r.stream s) rs ≡ has_number s (streams_at_risk t)
kept_any rs t s k = listed_any s rs ∙ kept_is rs t s k
