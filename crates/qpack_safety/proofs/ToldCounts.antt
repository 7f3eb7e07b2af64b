-- The acknowledgments under way tell no count above what is known by then.
use Rattle.std.proofs.Common.{ℕ, suc, ◌+◌, ◌-◌, ◌<◌, ◌≤◌, ◌≡◌, Bool, true, false, cond, List, [], ◌∷◌, ◌++◌, length}
use Rattle.std.proofs.Common.{drop, refl, sym, ap, ◌∙◌, subst, arith, length-drop}
use Rattle.std.specs.Prelude.{nat_eq, MatchBool}
use Rattle.std.proofs.lemmas.Bool.{eq-eqb, ne_eqb}
use Rattle.std.proofs.lemmas.List.{append-nil, append_assoc, drop-drop}
use Rattle.qpack_spec.specs.Instruction.{DecoderInstruction, Acknowledgment, Cancellation, Increment}
use Rattle.qpack_spec.specs.Reading.{greatest_of}
use Rattle.qpack_rules.specs.Session.{increments, increment_sum}
use Rattle.qpack_safety.proofs.DecoderInstructions.{acks_in, cancels_in, AcksFit, IsNoAck}

-- what the first of some blocks requires, by the entries that each references
abbrev pub first_required : List (List ℕ) → ℕ
first_required [] = 0
first_required (r ∷ rs) = greatest_of r

-- with so much known, and these blocks of the stream open, each acknowledgment of the stream under way is of a block
-- that requires no more than is known by then
unfoldable pub TellsNoMore : ℕ → ℕ → List (List ℕ) → List DecoderInstruction → Type 0
TellsNoMore s known blocks [] = Unit {0}
TellsNoMore s known blocks (Acknowledgment t ∷ rs) =
    MatchBool (nat_eq t s) ((first_required blocks ≤ known) × TellsNoMore s known (drop 1 blocks) rs)
    (TellsNoMore s known blocks rs)
TellsNoMore s known blocks (Cancellation t ∷ rs) =
    MatchBool (nat_eq t s) (TellsNoMore s known [] rs) (TellsNoMore s known blocks rs)
TellsNoMore s known blocks (Increment n ∷ rs) = TellsNoMore s (known + n) blocks rs

-- ---- one is heard

pub told_own : (s known : ℕ) (blocks : List (List ℕ)) (rs : List DecoderInstruction)
    → TellsNoMore s known blocks (Acknowledgment s ∷ rs)
    → (first_required blocks ≤ known) × TellsNoMore s known (drop 1 blocks) rs
unfolding TellsNoMore
told_own s known blocks rs h =
    subst (λ b. MatchBool b ((first_required blocks ≤ known) × TellsNoMore s known (drop 1 blocks) rs)
    (TellsNoMore s known blocks rs)) (eq-eqb s s refl) h

pub told_other : (s t known : ℕ) (blocks : List (List ℕ)) (rs : List DecoderInstruction) → (t ≡ s → ⊥)
    → TellsNoMore s known blocks (Acknowledgment t ∷ rs) → TellsNoMore s known blocks rs
unfolding TellsNoMore
told_other s t known blocks rs apart h =
    subst (λ b. MatchBool b ((first_required blocks ≤ known) × TellsNoMore s known (drop 1 blocks) rs)
    (TellsNoMore s known blocks rs)) (ne_eqb t s apart) h

pub cancelled_own : (s known : ℕ) (blocks : List (List ℕ)) (rs : List DecoderInstruction)
    → TellsNoMore s known blocks (Cancellation s ∷ rs) → TellsNoMore s known [] rs
unfolding TellsNoMore
cancelled_own s known blocks rs h =
    subst (λ b. MatchBool b (TellsNoMore s known [] rs) (TellsNoMore s known blocks rs)) (eq-eqb s s refl) h

pub cancelled_other : (s t known : ℕ) (blocks : List (List ℕ)) (rs : List DecoderInstruction) → (t ≡ s → ⊥)
    → TellsNoMore s known blocks (Cancellation t ∷ rs) → TellsNoMore s known blocks rs
unfolding TellsNoMore
cancelled_other s t known blocks rs apart h =
    subst (λ b. MatchBool b (TellsNoMore s known [] rs) (TellsNoMore s known blocks rs)) (ne_eqb t s apart) h

pub increment_told : (s known n : ℕ) (blocks : List (List ℕ)) (rs : List DecoderInstruction)
    → TellsNoMore s known blocks (Increment n ∷ rs) → TellsNoMore s (known + n) blocks rs
unfolding TellsNoMore
increment_told s known n blocks rs h = h

-- ---- a block more

first_same : (blocks more : List (List ℕ)) → 0 < length blocks → first_required (blocks ++ more) ≡ first_required blocks
first_same [] more h = absurd (omega (arith, h))
first_same (r ∷ rs) more h = refl

rest_same : (blocks more : List (List ℕ)) → 0 < length blocks → drop 1 (blocks ++ more) ≡ drop 1 blocks ++ more
rest_same [] more h = absurd (omega (arith, h))
rest_same (r ∷ rs) more h = refl

pub tells_more : (s known : ℕ) (blocks more : List (List ℕ)) (rs : List DecoderInstruction) → AcksFit s rs (length blocks)
    → TellsNoMore s known blocks rs → TellsNoMore s known (blocks ++ more) rs
unfolding TellsNoMore AcksFit
tells_more s known blocks more [] f h = tt
tells_more s known blocks more (Acknowledgment t ∷ rs) f h =
    pick (nat_eq t s) (tells_more s known (drop 1 blocks) more rs) (tells_more s known blocks more rs) f h
  where
    pick : (b : Bool)
        → (AcksFit s rs (length (drop 1 blocks)) → TellsNoMore s known (drop 1 blocks) rs
        → TellsNoMore s known (drop 1 blocks ++ more) rs)
        → (AcksFit s rs (length blocks) → TellsNoMore s known blocks rs → TellsNoMore s known (blocks ++ more) rs)
        → MatchBool b ((0 < length blocks) × AcksFit s rs (length blocks - 1)) (AcksFit s rs (length blocks))
        → MatchBool b ((first_required blocks ≤ known) × TellsNoMore s known (drop 1 blocks) rs)
        (TellsNoMore s known blocks rs)
        → MatchBool b ((first_required (blocks ++ more) ≤ known) × TellsNoMore s known (drop 1 (blocks ++ more)) rs)
        (TellsNoMore s known (blocks ++ more) rs)
    pick true own other fit told = (
      rw (first_same blocks more fit.0) told.0,
      rw (rest_same blocks more fit.0) (own (rw (length-drop 1 blocks) fit.1) told.1),
    )
    pick false own other fit told = other fit told
tells_more s known blocks more (Cancellation t ∷ rs) f h =
    pick (nat_eq t s) (tells_more s known blocks more rs) f h
  where
    pick : (b : Bool)
        → (AcksFit s rs (length blocks) → TellsNoMore s known blocks rs → TellsNoMore s known (blocks ++ more) rs)
        → MatchBool b (AcksFit s rs 0) (AcksFit s rs (length blocks))
        → MatchBool b (TellsNoMore s known [] rs) (TellsNoMore s known blocks rs)
        → MatchBool b (TellsNoMore s known [] rs) (TellsNoMore s known (blocks ++ more) rs)
    pick true other fit told = told
    pick false other fit told = other fit told
tells_more s known blocks more (Increment n ∷ rs) f h = tells_more s (known + n) blocks more rs f h

-- ---- one is written

-- another than an acknowledgment of the stream
pub tells_also : (s known : ℕ) (blocks : List (List ℕ)) (rs : List DecoderInstruction) (r : DecoderInstruction)
    → IsNoAck s r → TellsNoMore s known blocks rs → TellsNoMore s known blocks (rs ++ r ∷ [])
unfolding TellsNoMore
tells_also s known blocks [] (Acknowledgment t) a h = rw (ne_eqb t s a) tt
tells_also s known blocks [] (Cancellation t) a h =
    elim (nat_eq t s) as (λ b. MatchBool b (Unit {0}) (Unit {0})) [ true ↦ tt | false ↦ tt ]
tells_also s known blocks [] (Increment n) a h = tt
tells_also s known blocks (Acknowledgment t ∷ rs) r a h =
    pick (nat_eq t s) (tells_also s known (drop 1 blocks) rs r a) (tells_also s known blocks rs r a) h
  where
    pick : (b : Bool) → (TellsNoMore s known (drop 1 blocks) rs → TellsNoMore s known (drop 1 blocks) (rs ++ r ∷ []))
        → (TellsNoMore s known blocks rs → TellsNoMore s known blocks (rs ++ r ∷ []))
        → MatchBool b ((first_required blocks ≤ known) × TellsNoMore s known (drop 1 blocks) rs)
        (TellsNoMore s known blocks rs)
        → MatchBool b ((first_required blocks ≤ known) × TellsNoMore s known (drop 1 blocks) (rs ++ r ∷ []))
        (TellsNoMore s known blocks (rs ++ r ∷ []))
    pick true own other told = (told.0, own told.1)
    pick false own other told = other told
tells_also s known blocks (Cancellation t ∷ rs) r a h =
    pick (nat_eq t s) (tells_also s known [] rs r a) (tells_also s known blocks rs r a) h
  where
    pick : (b : Bool) → (TellsNoMore s known [] rs → TellsNoMore s known [] (rs ++ r ∷ []))
        → (TellsNoMore s known blocks rs → TellsNoMore s known blocks (rs ++ r ∷ []))
        → MatchBool b (TellsNoMore s known [] rs) (TellsNoMore s known blocks rs)
        → MatchBool b (TellsNoMore s known [] (rs ++ r ∷ [])) (TellsNoMore s known blocks (rs ++ r ∷ []))
    pick true own other told = own told
    pick false own other told = other told
tells_also s known blocks (Increment n ∷ rs) r a h = tells_also s (known + n) blocks rs r a h

pub tells_increments : (s known : ℕ) (blocks : List (List ℕ)) (ps : List ℕ) (rs : List DecoderInstruction)
    → TellsNoMore s known blocks rs → TellsNoMore s known blocks (rs ++ increments ps)
tells_increments s known blocks [] rs h = rw append-nil h
tells_increments s known blocks (p ∷ ps) rs h =
    subst (λ (l : List DecoderInstruction). TellsNoMore s known blocks l)
    (append_assoc rs (Increment p ∷ []) (increments ps))
    (tells_increments s known blocks ps (rs ++ Increment p ∷ []) (tells_also s known blocks rs (Increment p) tt h))

drop_one : (blocks : List (List ℕ)) (n : ℕ) → drop n (drop 1 blocks) ≡ drop (suc n) blocks
drop_one blocks n =
    drop-drop n 1 blocks ∙ ap (λ (k : ℕ). drop k blocks) (let e : 1 + n ≡ suc n = omega arith in e)

-- an acknowledgment of a block that requires no more than is known behind all others
pub tells_push : (s known : ℕ) (blocks : List (List ℕ)) (rs : List DecoderInstruction) → cancels_in s rs ≡ 0
    → first_required (drop (acks_in s rs) blocks) ≤ known + increment_sum rs
    → TellsNoMore s known blocks rs → TellsNoMore s known blocks (rs ++ Acknowledgment s ∷ [])
unfolding TellsNoMore acks_in cancels_in increment_sum
tells_push s known blocks [] none least h = rw (eq-eqb s s refl) (omega (arith, least), tt)
tells_push s known blocks (Acknowledgment t ∷ rs) none least h =
    pick (nat_eq t s) (tells_push s known (drop 1 blocks) rs none) (tells_push s known blocks rs none) least h
  where
    pick : (b : Bool)
        → (first_required (drop (acks_in s rs) (drop 1 blocks)) ≤ known + increment_sum rs
        → TellsNoMore s known (drop 1 blocks) rs → TellsNoMore s known (drop 1 blocks) (rs ++ Acknowledgment s ∷ []))
        → (first_required (drop (acks_in s rs) blocks) ≤ known + increment_sum rs
        → TellsNoMore s known blocks rs → TellsNoMore s known blocks (rs ++ Acknowledgment s ∷ []))
        → first_required (drop (cond b (suc (acks_in s rs)) (acks_in s rs)) blocks) ≤ known + increment_sum rs
        → MatchBool b ((first_required blocks ≤ known) × TellsNoMore s known (drop 1 blocks) rs)
        (TellsNoMore s known blocks rs)
        → MatchBool b
        ((first_required blocks ≤ known) × TellsNoMore s known (drop 1 blocks) (rs ++ Acknowledgment s ∷ []))
        (TellsNoMore s known blocks (rs ++ Acknowledgment s ∷ []))
    pick true own other low told = (
      told.0,
      own (subst (λ (l : List (List ℕ)). first_required l ≤ known + increment_sum rs)
          (sym (drop_one blocks (acks_in s rs))) low) told.1,
    )
    pick false own other low told = other low told
tells_push s known blocks (Cancellation t ∷ rs) none least h =
    pick (nat_eq t s) (tells_push s known blocks rs) none least h
  where
    pick : (b : Bool)
        → (cancels_in s rs ≡ 0 → first_required (drop (acks_in s rs) blocks) ≤ known + increment_sum rs
        → TellsNoMore s known blocks rs → TellsNoMore s known blocks (rs ++ Acknowledgment s ∷ []))
        → cond b (suc (cancels_in s rs)) (cancels_in s rs) ≡ 0
        → first_required (drop (acks_in s rs) blocks) ≤ known + increment_sum rs
        → MatchBool b (TellsNoMore s known [] rs) (TellsNoMore s known blocks rs)
        → MatchBool b (TellsNoMore s known [] (rs ++ Acknowledgment s ∷ []))
        (TellsNoMore s known blocks (rs ++ Acknowledgment s ∷ []))
    pick true other n low told = absurd (omega (arith, n))
    pick false other n low told = other n low told
tells_push s known blocks (Increment n ∷ rs) none least h =
    tells_push s (known + n) blocks rs none (omega (arith, least)) h
