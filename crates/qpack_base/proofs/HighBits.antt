-- Bits that are loaded from the highest on.
use Rattle.std.proofs.Common.{◌≡◌, ℕ, ◌+◌, ◌-◌, ◌*◌, ◌/◌, ◌%◌, ◌^◌, ◌<◌, ◌≤◌, List, ◌++◌, sym, ap, subst, ◌∙◌}
use Rattle.std.proofs.Common.{arith, append_assoc, pow-add}
use Rattle.std.proofs.lemmas.Nat.{shr-shr, shl-shr, pow_pos, mod-mul-add, mul-add-lt, mod_below}
use Rattle.std.proofs.Math.Nat.{div-add-mod}
use Rattle.std.proofs.Math.Pow.{shr_lt}
use Rattle.qpack_spec.specs.Huffman.{bits_of}
use Rattle.qpack_spec.proofs.Bits.{bits_append, bits_cut}

-- the highest `count` of 64 bits are the number, and below them there are zeros
pub record IsHigh (loaded count number : ℕ) : Type 0 where
  pub few : count ≤ 64
  pub is : loaded ≡ number * 2 ^ (64 - count)
  pub fits : number < 2 ^ count

-- the number that they are
high_number : (loaded count number : ℕ) → IsHigh loaded count number → loaded / 2 ^ (64 - count) ≡ number
high_number loaded count number h = ap (λ (n : ℕ). n / 2 ^ (64 - count)) h.is ∙ shl-shr number (64 - count)

pub high_zeros : (loaded count number : ℕ) → IsHigh loaded count number
    → loaded ≡ loaded / 2 ^ (64 - count) * 2 ^ (64 - count)
high_zeros loaded count number h = h.is ∙ ap (λ (n : ℕ). n * 2 ^ (64 - count)) (sym (high_number loaded count number h))

pub high_of : (loaded count : ℕ) → count ≤ 64 → loaded < 2 ^ 64 → loaded ≡ loaded / 2 ^ (64 - count) * 2 ^ (64 - count)
    → IsHigh loaded count (loaded / 2 ^ (64 - count))
high_of loaded count few small zeros =
    let e : count + (64 - count) ≡ 64 = omega arith in
    record { few = few; is = zeros; fits = shr_lt count (64 - count) (subst (λ (k : ℕ). loaded < 2 ^ k) (sym e) small) }

-- the highest n of them
pub high_front : (loaded count number n : ℕ) → IsHigh loaded count number → n ≤ count
    → loaded / 2 ^ (64 - n) ≡ number / 2 ^ (count - n)
high_front loaded count number n h le =
    let few = h.few in
    let e : 64 - n ≡ 64 - count + (count - n) = omega arith in
    ap (λ (k : ℕ). loaded / 2 ^ k) e ∙ sym (shr-shr loaded (64 - count) (count - n))
    ∙ ap (λ (m : ℕ). m / 2 ^ (count - n)) (high_number loaded count number h)

-- ---- more of them

times_power : (code j k m : ℕ) → j ≡ k + m → code * 2 ^ j / 2 ^ k ≡ code * 2 ^ m
times_power code j k m e =
    let p : code * 2 ^ j ≡ code * 2 ^ m * 2 ^ k =
    ap (λ (n : ℕ). code * 2 ^ n) e ∙ ap (λ (n : ℕ). code * n) (pow-add 2 k m) ∙ omega arith in
    ap (λ (n : ℕ). n / 2 ^ k) p ∙ shl-shr (code * 2 ^ m) k

split_power : (number j k m : ℕ) → j ≡ k + m → number * 2 ^ j ≡ number * 2 ^ k * 2 ^ m
split_power number j k m e = ap (λ (n : ℕ). number * 2 ^ n) e ∙ ap (λ (n : ℕ). number * n) (pow-add 2 k m) ∙ omega arith

distributed : (a b c : ℕ) → a * c + b * c ≡ (a + b) * c
distributed a b c = omega arith

-- k bits more behind them
high_more : (loaded count number k code : ℕ) → IsHigh loaded count number → count + k ≤ 64 → code < 2 ^ k
    → IsHigh (loaded + code * 2 ^ (64 - k) / 2 ^ count) (count + k) (number * 2 ^ k + code)
high_more loaded count number k code h room fits = record {
  few = room;
  is = let m = 64 - (count + k) in
      let a : loaded ≡ number * 2 ^ k * 2 ^ m = h.is ∙ split_power number (64 - count) k m (omega arith) in
      let b : code * 2 ^ (64 - k) / 2 ^ count ≡ code * 2 ^ m = times_power code (64 - k) count m (omega arith) in
      ap (λ (n : ℕ). n + code * 2 ^ (64 - k) / 2 ^ count) a ∙ ap (λ (n : ℕ). number * 2 ^ k * 2 ^ m + n) b
      ∙ distributed (number * 2 ^ k) code (2 ^ m);
  fits = let p = pow-add 2 count k in
      let q = mul-add-lt number (2 ^ k) code (2 ^ count) h.fits fits in
      rw p (omega (arith, q));
}

small_times : (number P Q : ℕ) → number < P → 0 < Q → number * Q < P * Q
small_times number P Q h q = omega (arith, mul-add-lt number Q 0 P h q)

-- they are a number of 64 bits
high_small : (loaded count number : ℕ) → IsHigh loaded count number → loaded < 2 ^ 64
high_small loaded count number h =
    let few = h.few in
    let e : count + (64 - count) ≡ 64 = omega arith in
    let p : 2 ^ 64 ≡ 2 ^ count * 2 ^ (64 - count) = ap (λ (k : ℕ). 2 ^ k) (sym e) ∙ pow-add 2 count (64 - count) in
    let q = small_times number (2 ^ count) (2 ^ (64 - count)) h.fits (pow_pos (64 - count)) in
    omega (arith, h.is, p, q)

-- ---- fewer of them

spread : (q b r c : ℕ) → (b * q + r) * c ≡ q * (b * c) + r * c
spread q b r c = omega arith

products : (a b c : ℕ) → a * c ≡ a / b * (b * c) + a % b * c
products a b c = ap (λ (n : ℕ). n * c) (sym (div-add-mod a b)) ∙ spread (a / b) b (a % b) c

pub cut_product : (a b c : ℕ) → 0 < b → 0 < c → a * c % (b * c) ≡ a % b * c
cut_product a b c pb pc =
    let low = mod_below a b pb in
    let small = small_times (a % b) b c low pc in
    let whole : a * c ≡ a / b * (b * c) + a % b * c = products a b c in
    ap (λ (n : ℕ). n % (b * c)) whole ∙ mod-mul-add (a / b) (b * c) (a % b * c) small

pub high_fewer : (loaded count number n : ℕ) → IsHigh loaded count number → n ≤ count
    → IsHigh (loaded * 2 ^ n % 2 ^ 64) (count - n) (number % 2 ^ (count - n))
high_fewer loaded count number n h le = record {
  few = let few = h.few in omega arith;
  is = let few = h.few in
      let left = count - n in
      let all : 64 ≡ left + (64 - left) = omega arith in
      let p : 2 ^ 64 ≡ 2 ^ left * 2 ^ (64 - left) = ap (λ (k : ℕ). 2 ^ k) all ∙ pow-add 2 left (64 - left) in
      let q : loaded * 2 ^ n ≡ number * 2 ^ (64 - left) =
      ap (λ (m : ℕ). m * 2 ^ n) h.is ∙ sym (split_power number (64 - left) (64 - count) n (omega arith)) in
      ap (λ (m : ℕ). m % 2 ^ 64) q ∙ ap (λ (m : ℕ). number * 2 ^ (64 - left) % m) p
      ∙ cut_product number (2 ^ left) (2 ^ (64 - left)) (pow_pos left) (pow_pos (64 - left));
  fits = mod_below number (2 ^ (count - n)) (pow_pos (count - n));
}

-- passing them leaves the lowest
pub high_passed : (loaded count number n : ℕ) (more : List ℕ) → IsHigh loaded count number → n ≤ count
    → bits_of count number ++ more
    ≡ bits_of n (number / 2 ^ (count - n))
    ++ (bits_of (count - n) (loaded * 2 ^ n % 2 ^ 64 / 2 ^ (64 - (count - n))) ++ more)
high_passed loaded count number n more h le =
    let few = high_fewer loaded count number n h le in
    let cut : bits_of (count - n) (loaded * 2 ^ n % 2 ^ 64 / 2 ^ (64 - (count - n))) ≡ bits_of (count - n) number =
    ap (bits_of (count - n)) (high_number _ (count - n) _ few) ∙ bits_cut (count - n) number in
    ap (λ (l : List ℕ). l ++ more) (bits_append n (count - n) count number (omega arith))
    ∙ append_assoc (bits_of n (number / 2 ^ (count - n))) (bits_of (count - n) number) more
    ∙ ap (λ (l : List ℕ). bits_of n (number / 2 ^ (count - n)) ++ (l ++ more)) (sym cut)

-- in two shifts
pub one_and : (loaded count : ℕ) → count < 64 → loaded / 2 / 2 ^ (63 - count) ≡ loaded / 2 ^ (64 - count)
one_and loaded count few =
    let e : 1 + (63 - count) ≡ 64 - count = omega arith in
    shr-shr loaded 1 (63 - count) ∙ ap (λ (k : ℕ). loaded / 2 ^ k) e

-- what is loaded with k bits more behind it
pub record LoadsMore (loaded count k code more : ℕ) : Type 0 where
  pub small : more < 2 ^ 64
  pub zeros : more ≡ more / 2 ^ (64 - (count + k)) * 2 ^ (64 - (count + k))
  pub number : more / 2 ^ (64 - (count + k)) ≡ loaded / 2 ^ (64 - count) * 2 ^ k + code

pub loads_more : (loaded count k code y : ℕ) → count + k ≤ 64 → loaded < 2 ^ 64
    → loaded ≡ loaded / 2 ^ (64 - count) * 2 ^ (64 - count) → code < 2 ^ k → y ≡ code * 2 ^ (64 - k)
    → LoadsMore loaded count k code (loaded + y / 2 ^ count)
loads_more loaded count k code y room small zeros fits e =
    let high = high_of loaded count (omega arith) small zeros in
    let more = high_more loaded count _ k code high room fits in
    let same : loaded + code * 2 ^ (64 - k) / 2 ^ count ≡ loaded + y / 2 ^ count =
    ap (λ (n : ℕ). loaded + n / 2 ^ count) (sym e) in
    subst (λ (x : ℕ). LoadsMore loaded count k code x) same (record {
      small = high_small _ (count + k) _ more;
      zeros = high_zeros _ (count + k) _ more;
      number = high_number _ (count + k) _ more;
    })
