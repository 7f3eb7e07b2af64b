-- The written spelling is a spelling, and the shortest one.
use Rattle.std.proofs.Common.{◌≡◌, ℕ, zero, suc, ◌+◌, ◌-◌, ◌*◌, ◌/◌, ◌%◌, ◌^◌, ◌<◌, ◌≤◌, List, [], ◌∷◌, length, refl}
use Rattle.std.proofs.Common.{sym, ap, ◌∙◌, arith, inl, inr, lit≤}
use Rattle.std.proofs.Math.Nat.{pow-succ', mod-eq_of_lt}
use Rattle.std.proofs.lemmas.Bool.{cases_lt, le-ltb, lt-ltb}
use Rattle.std.proofs.lemmas.Nat.{div-mul-add, mod-mul-add, pow_pos, pow-add, mul-add-lt, mod_below}
use Rattle.qpack_spec.specs.Integer.{full, EndsAtLast, groups_sum, written_groups, written_integer, StandsFor}
use Rattle.qpack_spec.specs.Integer.{SpellsInteger, integer_at}
use Rattle.qpack_spec.specs.IntegerLaws.{IsWritable, WrittenIntegersAreShortest, WrittenIntegersAreReadBack}
use Rattle.qpack_spec.proofs.Results.{ok_triple}
use Rattle.qpack_spec.proofs.Integers.{ends_cons, integer_again}

record SpellsGroups (cs : List ℕ) (value : ℕ) : Type 0 where
  pub ends : EndsAtLast cs
  pub sum : groups_sum cs ≡ value

one_group : (value : ℕ) → value < 128 → SpellsGroups (value ∷ []) value
one_group value h = record { ends = h; sum = omega arith }

groups_spell : (k value : ℕ) → value < 128 ^ suc k → SpellsGroups (written_groups k value) value
unfolding written_groups
groups_spell zero value h = one_group value (omega (arith, pow-succ' 128 0))
groups_spell (suc k) value h =
    elim (cases_lt value 128) [
      | inl lt ↦ rw (lt-ltb value 128 lt) (one_group value lt)
      | inr le ↦
          let g = groups_spell k (value / 128) (omega (arith, pow-succ' 128 (suc k))) in
          rw (le-ltb value 128 le) (record {
            ends = ends_cons (128 + value % 128) (written_groups k (value / 128))
                (omega arith) g.ends;
            sum = omega (arith, g.sum);
          })
    ]

groups_shortest : (k value : ℕ) (cs : List ℕ) → SpellsGroups cs value → length (written_groups k value) ≤ length cs
unfolding written_groups
groups_shortest k value [] s = absurd s.ends
groups_shortest zero value (c ∷ cs) s = omega arith
groups_shortest (suc k) value (c ∷ []) s =
    let lt : value < 128 = omega (arith, s.sum) in rw (lt-ltb value 128 lt) (omega arith)
groups_shortest (suc k) value (c ∷ d ∷ cs) s =
    elim (cases_lt value 128) [
      | inl lt ↦ rw (lt-ltb value 128 lt) (omega arith)
      | inr le ↦
          let i = groups_shortest k (value / 128) (d ∷ cs) (record { ends = s.ends.1; sum = omega (arith, s.sum) }) in
          rw (le-ltb value 128 le) (omega (arith, i))
    ]

groups_few : (k j value : ℕ) → value < 128 ^ suc j → length (written_groups k value) ≤ suc j
unfolding written_groups
groups_few zero j value h = omega arith
groups_few (suc k) zero value h =
    let lt : value < 128 = omega (arith, pow-succ' 128 0) in rw (lt-ltb value 128 lt) (omega arith)
groups_few (suc k) (suc j) value h =
    elim (cases_lt value 128) [
      | inl lt ↦ rw (lt-ltb value 128 lt) (omega arith)
      | inr le ↦
          let i = groups_few k j (value / 128) (omega (arith, pow-succ' 128 (suc j))) in
          rw (le-ltb value 128 le) (omega (arith, i))
    ]

-- ---- integers

-- the first byte of a spelling has the flags above the prefix
first_byte : (n flags low : ℕ) → low < 2 ^ n → ((flags * 2 ^ n + low) / 2 ^ n ≡ flags)
    × ((flags * 2 ^ n + low) % 2 ^ n ≡ low)
first_byte n flags low h = (div-mul-add flags (2 ^ n) low h, mod-mul-add flags (2 ^ n) low h)

-- flags that fit are not cut
uncut : (n flags value : ℕ) → IsWritable n flags value → flags % 2 ^ (8 - n) ≡ flags
uncut n flags value w = mod-eq_of_lt w.high

written_stands : (n flags value : ℕ) → IsWritable n flags value
    → StandsFor n (written_integer n flags value) flags value
unfolding written_integer
written_stands n flags value w =
    elim (cases_lt value (full n)) [
      | inl lt ↦
          let f = first_byte n flags value (omega (arith, pow_pos n)) in
          rw (uncut n flags value w, lt-ltb value (full n) lt)
          (sym f.0, inl (record { alone = refl; below = rw f.1 lt; is = sym f.1 }))
      | inr le ↦
          let f = first_byte n flags (full n) (omega (arith, pow_pos n)) in
          let g = groups_spell 9 (value - full n) (let l : 2 ^ 64 ≤ 128 ^ 10 = lit≤ tt in omega (arith, w.low, l)) in
          rw (uncut n flags value w, le-ltb value (full n) le)
          (sym f.0, inr (record { prefix = f.1; ends = g.ends; sum = omega (arith, g.sum) }))
    ]

written_few : (n flags value : ℕ) → value < 2 ^ 63 + full n → length (written_integer n flags value) ≤ 10
unfolding written_integer
written_few n flags value h =
    elim (cases_lt value (full n)) [
      | inl lt ↦ rw (lt-ltb value (full n) lt) (omega arith)
      | inr le ↦
          let g = groups_few 9 8 (value - full n) (let l : 2 ^ 63 ≤ 128 ^ 9 = lit≤ tt in omega (arith, l)) in
          rw (le-ltb value (full n) le) (omega (arith, g))
    ]

pub written_spells : (n flags value : ℕ) → IsWritable n flags value → value < 2 ^ 63 + full n
    → SpellsInteger n (written_integer n flags value) flags value
written_spells n flags value w h = record { stands = written_stands n flags value w; few = written_few n flags value h }

no_shorter : (n flags value : ℕ) (encoding : List ℕ) → StandsFor n encoding flags value
    → length (written_integer n flags value) ≤ length encoding
unfolding written_integer
no_shorter n flags value [] s = absurd s
no_shorter n flags value (b ∷ cs) s =
    elim (cases_lt value (full n)) [
      | inl lt ↦ rw (lt-ltb value (full n) lt) (omega arith)
      | inr le ↦
          elim (s.1) [
            | inl h ↦ absurd (omega (arith, h.below, h.is))
            | inr h ↦
                let g = groups_shortest 9 (value - full n) cs (record { ends = h.ends; sum = omega (arith, h.sum) }) in
                rw (le-ltb value (full n) le) (omega (arith, g))
          ]
    ]

pub written_shortest : WrittenIntegersAreShortest
written_shortest n flags value w = (written_stands n flags value w, no_shorter n flags value)

pub written_back : WrittenIntegersAreReadBack
written_back n flags value w h = (
  written_spells n flags value w h,
  λ rest encoding more f v s e.
      let r = integer_again n (written_integer n flags value) rest flags value (written_spells n flags value w h) in
      let q = integer_again n encoding more f v s in
      ok_triple f flags v value more rest (sym q ∙ ap (integer_at n) (sym e) ∙ r),
)

-- ---- writing the groups one by one

-- more groups than a number takes change nothing
groups_enough : (k value : ℕ) → value < 128 ^ suc k → written_groups (suc k) value ≡ written_groups k value
unfolding written_groups
groups_enough zero value h =
    let lt : value < 128 = omega (arith, pow-succ' 128 0) in rw (lt-ltb value 128 lt) refl
groups_enough (suc k) value h =
    elim (cases_lt value 128) [
      | inl lt ↦ rw (lt-ltb value 128 lt) refl
      | inr le ↦
          let i = groups_enough k (value / 128) (omega (arith, pow-succ' 128 (suc k))) in
          rw (le-ltb value 128 le) (ap (λ (gs : List ℕ). (128 + value % 128) ∷ gs) i)
    ]

-- the last group
pub groups_last : (value : ℕ) → value < 128 → written_groups 9 value ≡ value ∷ []
unfolding written_groups
groups_last value h = rw (lt-ltb value 128 h) refl

-- a group with others behind it
pub groups_more : (value : ℕ) → value < 2 ^ 64 → 128 ≤ value
    → written_groups 9 value ≡ (128 + value % 128) ∷ written_groups 9 (value / 128)
unfolding written_groups
groups_more value small high =
    let l : 2 ^ 57 ≤ 128 ^ 9 = lit≤ tt in
    let e = groups_enough 8 (value / 128) (omega (arith, l)) in
    rw (le-ltb value 128 high) (ap (λ (gs : List ℕ). (128 + value % 128) ∷ gs) (sym e))

-- at most one group more than the fuel
pub groups_most : (k value : ℕ) → length (written_groups k value) ≤ suc k
unfolding written_groups
groups_most zero value = omega arith
groups_most (suc k) value =
    elim (cases_lt value 128) [
      | inl lt ↦ rw (lt-ltb value 128 lt) (omega arith)
      | inr le ↦ let i = groups_most k (value / 128) in rw (le-ltb value 128 le) (omega (arith, i))
    ]

-- a spelling has a first group
pub groups_least : (k value : ℕ) → 1 ≤ length (written_groups k value)
unfolding written_groups
groups_least zero value = omega arith
groups_least (suc k) value =
    elim (cases_lt value 128) [
      | inl lt ↦ rw (lt-ltb value 128 lt) (omega arith)
      | inr le ↦ rw (le-ltb value 128 le) (omega arith)
    ]

-- the flags above a prefix, and what stands in it, fit a byte
pub byte_fits : (n flags low : ℕ) → n ≤ 8 → low < 2 ^ n → flags % 2 ^ (8 - n) * 2 ^ n + low < 256
byte_fits n flags low le lt =
    let e : 8 ≡ n + (8 - n) = omega arith in
    let whole : 256 ≡ 2 ^ n * 2 ^ (8 - n) = ap (λ (k : ℕ). 2 ^ k) e ∙ pow-add 2 n (8 - n) in
    let m = mul-add-lt (flags % 2 ^ (8 - n)) (2 ^ n) low (2 ^ (8 - n))
    (mod_below flags (2 ^ (8 - n)) (pow_pos (8 - n))) lt in
    rw whole m
