-- Which events are skipped.
use Rattle.std.proofs.Common.{ℕ, ◌<◌, ◌≤◌, ◌^◌, ◌≡◌, Bool, true, false, cond, Option, None, Some, refl, sym, ap, ◌∙◌}
use Rattle.std.proofs.Common.{arith, length, filter, take}
use Rattle.std.specs.Prelude.{nat_lt, nat_le, ◌↔◌}
use Rattle.std.proofs.lemmas.Bool.{leb-true, leb-false, ltb-true, ltb-false}
use Rattle.qpack_rules.specs.Session.{stream_at, requires_entry, skip_reason, Session, Encode, Decode, ToDecoder}
use Rattle.qpack_rules.specs.Session.{ToEncoder, Acknowledge, Cancel, ChangeCapacity}
use Rattle.qpack_rules.specs.SessionLaws.{IsOutsideOn, number_too_great, was_cancelled, is_not_there}
use Rattle.qpack_rules.specs.SessionLaws.{EventsAreSkippedExactly}

-- the number of a reason
reason_is : (n m : ℕ) → Some n ≡ Some m → m ≡ n
reason_is n m e = cc

none_is_not : (m : ℕ) → None ≡ Some m → ⊥
none_is_not m e = absurd cc

-- the reason of an event on a stream, by what is tested of it
abbrev reason_on : Bool → Bool → Bool → ℕ → Option ℕ
reason_on great cancelled there missing = cond great (Some 1) (cond cancelled (Some 3) (cond there None (Some missing)))

module _ (v : Session) (s : ℕ) (IsThere : Type 0) (missing reason : ℕ) where
  on_great : 2 ^ 62 ≤ s → IsOutsideOn v s IsThere missing reason → Some 1 ≡ Some reason
  on_great le (number_too_great most is) = ap (λ (n : ℕ). Some n) (sym is)
  on_great le (was_cancelled small cancelled is) = absurd (omega (arith, le, small))
  on_great le (is_not_there small live none is) = absurd (omega (arith, le, small))

  on_cancelled : s < 2 ^ 62 → (stream_at v.streams s).cancelled ≡ true → IsOutsideOn v s IsThere missing reason
      → Some 3 ≡ Some reason
  on_cancelled lt c (number_too_great most is) = absurd (omega (arith, lt, most))
  on_cancelled lt c (was_cancelled small cancelled is) = ap (λ (n : ℕ). Some n) (sym is)
  on_cancelled lt c (is_not_there small live none is) = absurd (let e = sym c ∙ live in cc)

  on_missing : s < 2 ^ 62 → (stream_at v.streams s).cancelled ≡ false → IsOutsideOn v s IsThere missing reason
      → Some missing ≡ Some reason
  on_missing lt c (number_too_great most is) = absurd (omega (arith, lt, most))
  on_missing lt c (was_cancelled small cancelled is) = absurd (let e = sym c ∙ cancelled in cc)
  on_missing lt c (is_not_there small live none is) = ap (λ (n : ℕ). Some n) (sym is)

  on_there : s < 2 ^ 62 → (stream_at v.streams s).cancelled ≡ false → IsThere
      → IsOutsideOn v s IsThere missing reason → None ≡ Some reason
  on_there lt c there (number_too_great most is) = absurd (omega (arith, lt, most))
  on_there lt c there (was_cancelled small cancelled is) = absurd (let e = sym c ∙ cancelled in cc)
  on_there lt c there (is_not_there small live none is) = absurd (none there)

  skipped_on : (there : Bool) → (there ≡ true → IsThere) → (there ≡ false → IsThere → ⊥)
      → (reason_on (nat_le (2 ^ 62) s) (stream_at v.streams s).cancelled there missing ≡ Some reason)
      ↔ IsOutsideOn v s IsThere missing reason
  skipped_on there holds fails = go (nat_le (2 ^ 62) s) refl (stream_at v.streams s).cancelled refl there refl
    where
      go : (great : Bool) → nat_le (2 ^ 62) s ≡ great → (c : Bool) → (stream_at v.streams s).cancelled ≡ c
          → (t : Bool) → there ≡ t → (reason_on great c t missing ≡ Some reason)
          ↔ IsOutsideOn v s IsThere missing reason
      go true g c p t q = let le = leb-true (2 ^ 62) s g in
          (λ e. number_too_great le (reason_is 1 reason e), λ o. on_great le o)
      go false g true p t q = let lt = leb-false (2 ^ 62) s g in
          (λ e. was_cancelled lt p (reason_is 3 reason e), λ o. on_cancelled lt p o)
      go false g false p true q = let lt = leb-false (2 ^ 62) s g in
          (λ e. absurd (none_is_not reason e), λ o. on_there lt p (holds q) o)
      go false g false p false q = let lt = leb-false (2 ^ 62) s g in
          (λ e. is_not_there lt p (fails q) (reason_is missing reason e), λ o. on_missing lt p o)

-- a test of numbers that fails
not_less : (a b : ℕ) → nat_lt a b ≡ false → a < b → ⊥
not_less a b e lt = absurd (omega (arith, lt, ltb-false a b e))

number_skips : (s reason : ℕ) → (b : Bool) → nat_le (2 ^ 62) s ≡ b
    → (cond b (Some 1) None ≡ Some reason) ↔ ((2 ^ 62 ≤ s) × (reason ≡ 1))
number_skips s reason true q = (
  λ e. (leb-true (2 ^ 62) s q, reason_is 1 reason e),
  λ h. ap (λ (n : ℕ). Some n) (sym h.1),
)
number_skips s reason false q = (
  λ e. absurd (none_is_not reason e),
  λ h. absurd (omega (arith, h.0, leb-false (2 ^ 62) s q)),
)

pub skipped_exactly : EventsAreSkippedExactly
unfolding skip_reason
skipped_exactly v (Encode s fields) reason = number_skips s reason (nat_le (2 ^ 62) s) refl
skipped_exactly v (Decode s) reason =
    let k = stream_at v.streams s in
    skipped_on v s (k.decoded < length k.blocks) 2 reason (nat_lt k.decoded (length k.blocks))
    (λ e. ltb-true k.decoded (length k.blocks) e) (λ e. not_less k.decoded (length k.blocks) e)
skipped_exactly v (ToDecoder n) reason = (λ e. absurd (none_is_not reason e), λ h. absurd h)
skipped_exactly v (ToEncoder n) reason = (λ e. absurd (none_is_not reason e), λ h. absurd h)
skipped_exactly v (Acknowledge s) reason =
    let k = stream_at v.streams s in
    let dynamic = length (filter requires_entry (take k.decoded k.blocks)) in
    skipped_on v s (k.acknowledged < dynamic) 4 reason (nat_lt k.acknowledged dynamic)
    (λ e. ltb-true k.acknowledged dynamic e) (λ e. not_less k.acknowledged dynamic e)
skipped_exactly v (Cancel s) reason =
    skipped_on v s (Unit {0}) 0 reason true (λ e. tt) (λ e. absurd (let x = e in cc))
skipped_exactly v (ChangeCapacity n) reason = (λ e. absurd (none_is_not reason e), λ h. absurd h)
