-- Reading groups of seven bits from the left, with what was read of them so far.
use Rattle.std.proofs.Common.{◌≡◌, ℕ, zero, suc, ◌+◌, ◌-◌, ◌*◌, ◌%◌, ◌^◌, ◌<◌, ◌≤◌, List, [], ◌∷◌, Result, Ok, Err}
use Rattle.std.proofs.Common.{refl, sym, ap, ◌∙◌, arith, lit<}
use Rattle.std.proofs.Math.Nat.{pow-le-pow_right, mul-le-mul_right, pow-succ'}
use Rattle.std.proofs.lemmas.Bool.{lt-ltb, le-ltb}
use Rattle.qpack_spec.specs.Bytes.{◌>>=◌}
use Rattle.qpack_spec.specs.Integer.{IntegerFault, Overflow, UnexpectedEnd, groups_at}

abbrev pub Groups : Type 0
Groups = Result (ℕ × List ℕ) IntegerFault

-- the groups that are left, above the sum of those that were read
abbrev pub above : ℕ → ℕ → Groups → Groups
above sum weight read = read >>= λ r. Ok (sum + weight * r.0, r.1)

abbrev group : ℕ → List ℕ → Groups
group n rest = Ok (n, rest)

above_end : (k sum weight : ℕ) → 0 < k → above sum weight (groups_at k []) ≡ Err UnexpectedEnd
unfolding groups_at
above_end zero sum weight h = absurd (omega arith)
above_end (suc k) sum weight h = refl

above_full : (sum weight : ℕ) (rest : List ℕ) → above sum weight (groups_at 0 rest) ≡ Err Overflow
unfolding groups_at
above_full sum weight rest = refl

above_last : (k sum weight byte : ℕ) (rest : List ℕ) → 0 < k → byte < 128
    → above sum weight (groups_at k (byte ∷ rest)) ≡ Ok (sum + byte % 128 * weight, rest)
unfolding groups_at
above_last zero sum weight byte rest h low = absurd (omega arith)
above_last (suc k) sum weight byte rest h low =
    let m : byte % 128 ≡ byte = omega arith in
    let e : sum + weight * byte ≡ sum + byte % 128 * weight = rw m (omega arith) in
    rw (lt-ltb byte 128 low) (ap (λ (n : ℕ). group n rest) e)

above_both : (sum weight low : ℕ) (read : Groups) → above sum weight (read >>= λ r. Ok (low + 128 * r.0, r.1))
    ≡ above (sum + low * weight) (weight * 128) read
above_both sum weight low (Ok r) =
    let e : sum + weight * (low + 128 * r.0) ≡ sum + low * weight + weight * 128 * r.0 = omega arith in
    ap (λ (n : ℕ). group n r.1) e
above_both sum weight low (Err e) = refl

above_more : (k sum weight byte : ℕ) (rest : List ℕ) → 0 < k → 128 ≤ byte
    → above sum weight (groups_at k (byte ∷ rest))
    ≡ above (sum + byte % 128 * weight) (weight * 128) (groups_at (k - 1) rest)
unfolding groups_at
above_more zero sum weight byte rest h high = absurd (omega arith)
above_more (suc k) sum weight byte rest h high =
    let e : suc k - 1 ≡ k = omega arith in
    rw (le-ltb byte 128 high, e) (above_both sum weight (byte % 128) (groups_at k rest))

-- ---- the bounds of nine groups

-- the weight of a group, the i-th of nine, fits with seven bits above it
pub weight_fits : (i weight : ℕ) → i < 9 → weight ≡ 128 ^ i → weight ≤ 2 ^ 56
weight_fits i weight h e = let p : 128 ^ i ≤ 2 ^ 56 =
    pow-le-pow_right {n = 128} (lit< tt) {i = i} {j = 8} (omega arith) in rw e p

-- a group on top of those below it stays below the next weight
pub sum_fits : (sum weight byte : ℕ) → sum < weight → sum + byte % 128 * weight < weight * 128
sum_fits sum weight byte h =
    let m : byte % 128 * weight ≤ 127 * weight = mul-le-mul_right weight (omega arith) in omega (arith, m)

-- ---- one turn of the loop: i groups were read, the sum of which stands below the weight

pub ends_early : (i sum weight : ℕ) (rest : List ℕ) (whole : Groups) → i < 9
    → above sum weight (groups_at (9 - i) rest) ≡ whole → rest ≡ [] → whole ≡ Err UnexpectedEnd
ends_early i sum weight rest whole h is none =
    sym is ∙ ap (λ (bytes : List ℕ). above sum weight (groups_at (9 - i) bytes)) none
    ∙ above_end (9 - i) sum weight (omega arith)

pub ends_here : (i sum weight byte : ℕ) (rest more : List ℕ) (whole : Groups) → i < 9
    → above sum weight (groups_at (9 - i) rest) ≡ whole
    → rest ≡ byte ∷ more → byte < 128 → whole ≡ Ok (sum + byte % 128 * weight, more)
ends_here i sum weight byte rest more whole h is next low =
    sym is ∙ ap (λ (bytes : List ℕ). above sum weight (groups_at (9 - i) bytes)) next
    ∙ above_last (9 - i) sum weight byte more (omega arith) low

pub goes_on : (i sum weight byte : ℕ) (rest more : List ℕ) (whole : Groups) → i < 9
    → above sum weight (groups_at (9 - i) rest) ≡ whole
    → rest ≡ byte ∷ more → 128 ≤ byte → above (sum + byte % 128 * weight) (weight * 128)
    (groups_at (9 - (i + 1)) more) ≡ whole
goes_on i sum weight byte rest more whole h is next high =
    let e : 9 - (i + 1) ≡ 9 - i - 1 = omega arith in
    ap (λ (k : ℕ). above (sum + byte % 128 * weight) (weight * 128) (groups_at k more)) e
    ∙ sym (above_more (9 - i) sum weight byte more (omega arith) high)
    ∙ ap (λ (bytes : List ℕ). above sum weight (groups_at (9 - i) bytes)) (sym next) ∙ is

pub overflows : (i sum weight : ℕ) (rest : List ℕ) (whole : Groups) → 9 ≤ i
    → above sum weight (groups_at (9 - i) rest) ≡ whole → whole ≡ Err Overflow
overflows i sum weight rest whole h is =
    let e : 9 - i ≡ 0 = omega arith in
    sym is ∙ ap (λ (k : ℕ). above sum weight (groups_at k rest)) e ∙ above_full sum weight rest

pub next_weight : (i weight : ℕ) → weight ≡ 128 ^ i → weight * 128 ≡ 128 ^ (i + 1)
next_weight i weight e =
    let s : i + 1 ≡ suc i = omega arith in
    let p : 128 ^ (i + 1) ≡ 128 * 128 ^ i = ap (λ (k : ℕ). 128 ^ k) s ∙ pow-succ' 128 i in
    omega (arith, p, e)
