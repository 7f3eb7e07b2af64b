-- The decoder instructions that are under way: each acknowledgment will find an unacknowledged block.
use Rattle.std.proofs.Common.{ℕ, suc, ◌+◌, ◌-◌, ◌<◌, ◌≤◌, ◌≡◌, Bool, true, false, cond, List, [], ◌∷◌, ◌++◌, refl}
use Rattle.std.proofs.Common.{arith}
use Rattle.std.specs.Prelude.{nat_eq, MatchBool}
use Rattle.std.proofs.lemmas.Bool.{eq-eqb, ne_eqb}
use Rattle.qpack_spec.specs.Instruction.{DecoderInstruction, Acknowledgment, Cancellation, Increment}
use Rattle.qpack_rules.specs.Session.{sum_of, increments, increment_sum}

-- how many acknowledgements and cancellations of a stream are under way
unfoldable pub acks_in : ℕ → List DecoderInstruction → ℕ
acks_in s [] = 0
acks_in s (Acknowledgment t ∷ rs) = cond (nat_eq t s) (suc (acks_in s rs)) (acks_in s rs)
acks_in s (Cancellation t ∷ rs) = acks_in s rs
acks_in s (Increment n ∷ rs) = acks_in s rs

unfoldable pub cancels_in : ℕ → List DecoderInstruction → ℕ
cancels_in s [] = 0
cancels_in s (Acknowledgment t ∷ rs) = cancels_in s rs
cancels_in s (Cancellation t ∷ rs) = cond (nat_eq t s) (suc (cancels_in s rs)) (cancels_in s rs)
cancels_in s (Increment n ∷ rs) = cancels_in s rs

-- each acknowledgement finds an unacknowledged block, n being open now
unfoldable pub AcksFit : ℕ → List DecoderInstruction → ℕ → Type 0
AcksFit s [] n = Unit {0}
AcksFit s (Acknowledgment t ∷ rs) n = MatchBool (nat_eq t s) ((0 < n) × AcksFit s rs (n - 1)) (AcksFit s rs n)
AcksFit s (Cancellation t ∷ rs) n = MatchBool (nat_eq t s) (AcksFit s rs 0) (AcksFit s rs n)
AcksFit s (Increment k ∷ rs) n = AcksFit s rs n

pub fits_more : (s : ℕ) (rs : List DecoderInstruction) (n m : ℕ) → n ≤ m → AcksFit s rs n → AcksFit s rs m
unfolding AcksFit
fits_more s [] n m le h = tt
fits_more s (Acknowledgment t ∷ rs) n m le h = let low = fits_more s rs (n - 1) (m - 1) (omega arith) in let same =
    fits_more s rs n m le in pick (nat_eq t s) low same h
  where
    pick : (b : Bool) → (AcksFit s rs (n - 1) → AcksFit s rs (m - 1)) → (AcksFit s rs n → AcksFit s rs m)
        → MatchBool b ((0 < n) × AcksFit s rs (n - 1)) (AcksFit s rs n)
        → MatchBool b ((0 < m) × AcksFit s rs (m - 1)) (AcksFit s rs m)
    pick true low same k = (omega (arith, k.0), low k.1)
    pick false low same k = same k
fits_more s (Cancellation t ∷ rs) n m le h = let low = fits_more s rs 0 0 (omega arith) in let same =
    fits_more s rs n m le in pick (nat_eq t s) low same h
  where
    pick : (b : Bool) → (AcksFit s rs 0 → AcksFit s rs 0) → (AcksFit s rs n → AcksFit s rs m)
        → MatchBool b (AcksFit s rs 0) (AcksFit s rs n) → MatchBool b (AcksFit s rs 0) (AcksFit s rs m)
    pick true low same k = low k
    pick false low same k = same k
fits_more s (Increment k ∷ rs) n m le h = fits_more s rs n m le h

-- with no cancellation, the acknowledgements are at most the unacknowledged blocks
pub fits_count : (s : ℕ) (rs : List DecoderInstruction) (n : ℕ) → AcksFit s rs n → cancels_in s rs ≡ 0 → acks_in s rs
    ≤ n
unfolding AcksFit acks_in cancels_in
fits_count s [] n h c = omega arith
fits_count s (Acknowledgment t ∷ rs) n h c = let low = λ (x : AcksFit s rs (n - 1)). fits_count s rs (n - 1) x c in
    let same = λ (x : AcksFit s rs n). fits_count s rs n x c in pick (nat_eq t s) low same h
  where
    pick : (b : Bool) → (AcksFit s rs (n - 1) → acks_in s rs ≤ n - 1) → (AcksFit s rs n → acks_in s rs ≤ n)
        → MatchBool b ((0 < n) × AcksFit s rs (n - 1)) (AcksFit s rs n) → cond b (suc (acks_in s rs)) (acks_in s rs) ≤ n
    pick true low same k = omega (arith, low k.1, k.0)
    pick false low same k = same k
fits_count s (Cancellation t ∷ rs) n h c = let same =
    λ (x : AcksFit s rs n) (d : cancels_in s rs ≡ 0). fits_count s rs n x d in pick (nat_eq t s) same h c
  where
    pick : (b : Bool) → (AcksFit s rs n → cancels_in s rs ≡ 0 → acks_in s rs ≤ n)
        → MatchBool b (AcksFit s rs 0) (AcksFit s rs n) → cond b (suc (cancels_in s rs)) (cancels_in s rs) ≡ 0
        → acks_in s rs ≤ n
    pick true same k e = absurd (omega (arith, e))
    pick false same k e = same k e
fits_count s (Increment k ∷ rs) n h c = fits_count s rs n h c

-- one more acknowledgement fits where one more block is open
pub fits_push : (s : ℕ) (rs : List DecoderInstruction) (n : ℕ) → AcksFit s rs n → cancels_in s rs ≡ 0 → acks_in s rs < n
    → AcksFit s (rs ++ Acknowledgment s ∷ []) n
unfolding AcksFit acks_in cancels_in
fits_push s [] n h c lt = rw (eq-eqb s s refl) (lt, tt)
fits_push s (Acknowledgment t ∷ rs) n h c lt =
    let low = λ (x : AcksFit s rs (n - 1)) (y : acks_in s rs < n - 1). fits_push s rs (n - 1) x c y in
    let same = λ (x : AcksFit s rs n) (y : acks_in s rs < n). fits_push s rs n x c y in pick (nat_eq t s) low same h lt
  where
    pick : (b : Bool) → (AcksFit s rs (n - 1) → acks_in s rs < n - 1 → AcksFit s (rs ++ Acknowledgment s ∷ []) (n - 1))
        → (AcksFit s rs n → acks_in s rs < n → AcksFit s (rs ++ Acknowledgment s ∷ []) n)
        → MatchBool b ((0 < n) × AcksFit s rs (n - 1)) (AcksFit s rs n) → cond b (suc (acks_in s rs)) (acks_in s rs) < n
        → MatchBool b ((0 < n) × AcksFit s (rs ++ Acknowledgment s ∷ []) (n - 1))
        (AcksFit s (rs ++ Acknowledgment s ∷ []) n)
    pick true low same k e = (k.0, low k.1 (omega (arith, e)))
    pick false low same k e = same k e
fits_push s (Cancellation t ∷ rs) n h c lt = let same =
    λ (x : AcksFit s rs n) (d : cancels_in s rs ≡ 0). fits_push s rs n x d lt in pick (nat_eq t s) same h c
  where
    pick : (b : Bool) → (AcksFit s rs n → cancels_in s rs ≡ 0 → AcksFit s (rs ++ Acknowledgment s ∷ []) n)
        → MatchBool b (AcksFit s rs 0) (AcksFit s rs n) → cond b (suc (cancels_in s rs)) (cancels_in s rs) ≡ 0
        → MatchBool b (AcksFit s (rs ++ Acknowledgment s ∷ []) 0) (AcksFit s (rs ++ Acknowledgment s ∷ []) n)
    pick true same k e = absurd (omega (arith, e))
    pick false same k e = same k e
fits_push s (Increment k ∷ rs) n h c lt = fits_push s rs n h c lt

-- a decoder_instruction that is no acknowledgement of the stream
abbrev pub IsNoAck : ℕ → DecoderInstruction → Type 0
IsNoAck s (Acknowledgment t) = t ≡ s → ⊥
IsNoAck s (Cancellation t) = Unit {0}
IsNoAck s (Increment n) = Unit {0}

pub fits_other : (s : ℕ) (rs : List DecoderInstruction) (r : DecoderInstruction) (n : ℕ) → IsNoAck s r → AcksFit s rs n
    → AcksFit s (rs ++ r ∷ []) n
unfolding AcksFit
fits_other s [] (Acknowledgment t) n a h = rw (ne_eqb t s a) tt
fits_other s [] (Cancellation t) n a h =
    elim (nat_eq t s) as (λ b. MatchBool b (Unit {0}) (Unit {0})) [ true ↦ tt | false ↦ tt ]
fits_other s [] (Increment k) n a h = tt
fits_other s (Acknowledgment t ∷ rs) r n a h =
    let low = fits_other s rs r (n - 1) a in let same = fits_other s rs r n a in pick (nat_eq t s) low same h
  where
    pick : (b : Bool) → (AcksFit s rs (n - 1) → AcksFit s (rs ++ r ∷ []) (n - 1))
        → (AcksFit s rs n → AcksFit s (rs ++ r ∷ []) n)
        → MatchBool b ((0 < n) × AcksFit s rs (n - 1)) (AcksFit s rs n)
        → MatchBool b ((0 < n) × AcksFit s (rs ++ r ∷ []) (n - 1)) (AcksFit s (rs ++ r ∷ []) n)
    pick true low same k = (k.0, low k.1)
    pick false low same k = same k
fits_other s (Cancellation t ∷ rs) r n a h =
    let low = fits_other s rs r 0 a in let same = fits_other s rs r n a in pick (nat_eq t s) low same h
  where
    pick : (b : Bool) → (AcksFit s rs 0 → AcksFit s (rs ++ r ∷ []) 0) → (AcksFit s rs n → AcksFit s (rs ++ r ∷ []) n)
        → MatchBool b (AcksFit s rs 0) (AcksFit s rs n)
        → MatchBool b (AcksFit s (rs ++ r ∷ []) 0) (AcksFit s (rs ++ r ∷ []) n)
    pick true low same k = low k
    pick false low same k = same k
fits_other s (Increment k ∷ rs) r n a h = fits_other s rs r n a h

pub acks_push : (s : ℕ) (rs : List DecoderInstruction) → acks_in s (rs ++ Acknowledgment s ∷ []) ≡ suc (acks_in s rs)
unfolding acks_in
acks_push s [] = rw (eq-eqb s s refl) refl
acks_push s (Acknowledgment t ∷ rs) =
    rw (acks_push s rs) (elim (nat_eq t s) as (λ b. cond b (suc (suc (acks_in s rs))) (suc (acks_in s rs))
    ≡ suc (cond b (suc (acks_in s rs)) (acks_in s rs))) [ true ↦ refl | false ↦ refl ])
acks_push s (Cancellation t ∷ rs) = acks_push s rs
acks_push s (Increment n ∷ rs) = acks_push s rs

pub acks_other : (s : ℕ) (rs : List DecoderInstruction) (r : DecoderInstruction) → IsNoAck s r
    → acks_in s (rs ++ r ∷ []) ≡ acks_in s rs
unfolding acks_in
acks_other s [] (Acknowledgment t) a = rw (ne_eqb t s a) refl
acks_other s [] (Cancellation t) a = refl
acks_other s [] (Increment n) a = refl
acks_other s (Acknowledgment t ∷ rs) r a = rw (acks_other s rs r a) refl
acks_other s (Cancellation t ∷ rs) r a = acks_other s rs r a
acks_other s (Increment n ∷ rs) r a = acks_other s rs r a

abbrev pub IsNoCancel : ℕ → DecoderInstruction → Type 0
IsNoCancel s (Acknowledgment t) = Unit {0}
IsNoCancel s (Cancellation t) = t ≡ s → ⊥
IsNoCancel s (Increment n) = Unit {0}

pub cancels_other : (s : ℕ) (rs : List DecoderInstruction) (r : DecoderInstruction) → IsNoCancel s r
    → cancels_in s (rs ++ r ∷ []) ≡ cancels_in s rs
unfolding cancels_in
cancels_other s [] (Acknowledgment t) a = refl
cancels_other s [] (Cancellation t) a = rw (ne_eqb t s a) refl
cancels_other s [] (Increment n) a = refl
cancels_other s (Acknowledgment t ∷ rs) r a = cancels_other s rs r a
cancels_other s (Cancellation t ∷ rs) r a = rw (cancels_other s rs r a) refl
cancels_other s (Increment n ∷ rs) r a = cancels_other s rs r a

pub increments_append : (rs qs : List DecoderInstruction) → increment_sum (rs ++ qs)
    ≡ increment_sum rs + increment_sum qs
unfolding increment_sum
increments_append [] qs = omega arith
increments_append (Acknowledgment t ∷ rs) qs = increments_append rs qs
increments_append (Cancellation t ∷ rs) qs = increments_append rs qs
increments_append (Increment n ∷ rs) qs = omega (arith, increments_append rs qs)

pub increments_sum : (ns : List ℕ) → increment_sum (increments ns) ≡ sum_of ns
unfolding increment_sum
increments_sum [] = refl
increments_sum (n ∷ ns) = omega (arith, increments_sum ns)
