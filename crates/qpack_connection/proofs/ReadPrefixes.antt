-- The prefix that a strict decoder reads tells the count and the base that it reads.
use Rattle.std.proofs.Common.{ℕ, zero, suc, ◌+◌, ◌-◌, ◌*◌, ◌%◌, ◌^◌, ◌<◌, ◌≤◌, ◌≡◌, Bool, true, false, List, [], ◌∷◌}
use Rattle.std.proofs.Common.{length, Result, Ok, Err, inl, inr, refl, sym, ap, ◌∙◌, subst, arith}
use Rattle.std.specs.Prelude.{nat_lt, nat_le, nat_eq, ◌||◌}
use Rattle.std.proofs.lemmas.Bool.{ltb-true, ltb-false, eqb-true, ne_eqb, or_parts, or_cases}
use Rattle.qpack_spec.specs.Integer.{SpellsInteger, groups_sum}
use Rattle.qpack_spec.proofs.Results.{chosen, ok_is, ok_pair}
use Rattle.qpack_spec.proofs.BlockLaws.{counts_read}
use Rattle.qpack_spec.specs.Prefix.{Prefix, PrefixFault, OutOfRange, most_entries, required_at, read_required}
use Rattle.qpack_spec.specs.Prefix.{read_base, strict_base, with_base, required_in_range}

groups_small : (k : ℕ) (cs : List ℕ) → length cs ≤ k → groups_sum cs < 128 ^ k
groups_small zero [] low = omega arith
groups_small zero (c ∷ cs) low = absurd (omega (arith, low))
groups_small (suc k) [] low = let positive = groups_small k [] (omega arith) in omega (arith, positive)
groups_small (suc k) (c ∷ cs) low = let more = groups_small k cs (omega (arith, low)) in omega (arith, more)

-- a number that is spelled has 64 bits
pub spelled_small : (encoding : List ℕ) (flags value : ℕ) → SpellsInteger 7 encoding flags value → value < 2 ^ 64
spelled_small [] flags value s = absurd s.stands
spelled_small (b ∷ cs) flags value s =
    elim s.stands.1 [
      | inl k ↦ omega (arith, k.below, k.is)
      | inr k ↦ omega (arith, k.sum, groups_small 9 cs (omega (arith, s.few)))
    ]

abbrev done : ℕ → Result ℕ PrefixFault
done n = Ok n

pub based : (base_of : ℕ → Result ℕ PrefixFault) (r : Result ℕ PrefixFault) (required base : ℕ)
    → with_base base_of r ≡ Ok (required, base) → (r ≡ Ok required) × (base_of required ≡ Ok base)
based base_of (Err d) required base e = absurd cc
based base_of (Ok n) required base e = go (base_of n) refl
  where
    go : (x : Result ℕ PrefixFault) → base_of n ≡ x → (done n ≡ Ok required) × (base_of required ≡ Ok base)
    go (Err d) q = absurd (let x : with_base base_of (Ok n) ≡ Err d = rw q refl in let y = sym x ∙ e in cc)
    go (Ok b) q =
        let x : with_base base_of (Ok n) ≡ Ok (n, b) = rw q refl in
        let p = ok_pair n required b base (sym x ∙ e) in
        (ap done p.0, subst (λ (m : ℕ). base_of m ≡ Ok base) p.0 (q ∙ ap done p.1))

pub positive_of : (n : ℕ) → nat_eq n 0 ≡ false → 0 < n
positive_of zero e = absurd cc
positive_of (suc n) e = omega arith

-- a prefix tells the required insert count that is read
pub record TellsCount (maximum required count : ℕ) : Type 0 where
  pub none : required ≡ 0 → count ≡ 0
  pub some : 0 < required → count ≡ required % (2 * most_entries maximum) + 1

count_of_none : (maximum count : ℕ) → (nat_eq maximum 0 || nat_eq count 0) ≡ true → (maximum ≡ 0 → count ≡ 0)
    → count ≡ 0
count_of_none maximum count e free =
    elim (or_cases (nat_eq maximum 0) (nat_eq count 0) e) [
      | inl m ↦ free (eqb-true maximum 0 m)
      | inr c ↦ eqb-true count 0 c
    ]

count_of_some : (total m count required : ℕ) → 0 < count → count ≤ m + m
    → required_in_range (required_at (total + m) m count) ≡ Ok required
    → (0 < required) × (count ≡ required % (2 * m) + 1)
count_of_some total m count required low high e =
    elim (chosen (nat_eq (required_at (total + m) m count) 0 || nat_le (2 ^ 64) (required_at (total + m) m count))
    (Err OutOfRange) (Ok (required_at (total + m) m count)) (Ok required) e) [
      | inl k ↦ absurd (let x = k.1 in cc)
      | inr k ↦
          let is = ok_is (required_at (total + m) m count) required k.1 in
          let positive : 0 < required =
          subst (λ (n : ℕ). 0 < n) is (positive_of (required_at (total + m) m count) (or_parts _ _ k.0).0) in
          let residue = ((counts_read total m count required low high).1 (positive, is)).residue in
          (positive, omega (arith, residue, low))
    ]

pub count_told : (total maximum count required : ℕ) → read_required total maximum count ≡ Ok required
    → (maximum ≡ 0 → count ≡ 0) → TellsCount maximum required count
unfolding read_required
count_told total maximum count required e free =
    elim (chosen (nat_eq maximum 0 || nat_eq count 0) (Ok 0) _ (Ok required) e) [
      | inl k ↦
          let none = ok_is 0 required k.1 in
          record {
            none = λ _. count_of_none maximum count k.0 free;
            some = λ positive. absurd (omega (arith, none, positive));
          }
      | inr k ↦
          elim (chosen (nat_eq (most_entries maximum) 0 || nat_lt (2 * most_entries maximum) count) (Err OutOfRange) _
          (Ok required) k.1) [
            | inl j ↦ absurd (let x = j.1 in cc)
            | inr j ↦
                let low : 0 < count = positive_of count (or_parts (nat_eq maximum 0) (nat_eq count 0) k.0).1 in
                let high : count ≤ 2 * most_entries maximum =
                ltb-false (2 * most_entries maximum) count
                (or_parts (nat_eq (most_entries maximum) 0) (nat_lt (2 * most_entries maximum) count) j.0).1 in
                let some : (0 < required) × (count ≡ required % (2 * most_entries maximum) + 1) =
                count_of_some total (most_entries maximum) count required low (omega (arith, high)) j.1 in
                record {
                  none = λ none. absurd (omega (arith, none, some.0));
                  some = λ _. some.1;
                }
          ]
    ]

-- and the base, which is not read where nothing is required
pub record TellsBase (required base : ℕ) (p : Prefix) : Type 0 where
  pub whole : ℕ
  pub small : whole < 2 ^ 64
  pub above : p.sign ≡ false → whole ≡ required + p.delta
  pub below : p.sign ≡ true → required ≡ whole + p.delta + 1
  pub same : 0 < required → whole ≡ base

base_above : (required base delta : ℕ) → read_base false required delta ≡ Ok base
    → (base < 2 ^ 64) × (base ≡ required + delta)
unfolding read_base
base_above required base delta e =
    elim (chosen (nat_lt (required + delta) (2 ^ 64)) _ _ (Ok base) e) [
      | inl k ↦
          let is = ok_is (required + delta) base k.1 in
          let low = ltb-true (required + delta) (2 ^ 64) k.0 in
          (omega (arith, is, low), sym is)
      | inr k ↦ absurd (let x = k.1 in cc)
    ]

base_below : (required base delta : ℕ) → read_base true required delta ≡ Ok base → required ≡ base + delta + 1
unfolding read_base
base_below required base delta e =
    elim (chosen (nat_lt delta required) _ _ (Ok base) e) [
      | inl k ↦
          let is = ok_is (required - delta - 1) base k.1 in
          let low = ltb-true delta required k.0 in
          omega (arith, is, low)
      | inr k ↦ absurd (let x = k.1 in cc)
    ]

pub base_told : (required base : ℕ) (p : Prefix) → p.delta < 2 ^ 64 → required < 2 ^ 64
    → strict_base p required ≡ Ok base → TellsBase required base p
base_told zero base p low few e = by p.sign refl
  where
    by : (sign : Bool) → p.sign ≡ sign → TellsBase 0 base p
    by false q =
        record {
          whole = p.delta;
          small = low;
          above = λ _. omega arith;
          below = λ t. absurd (let x = sym q ∙ t in cc);
          same = λ positive. absurd (omega (arith, positive));
        }
    by true q =
        let x : strict_base p 0 ≡ read_base true 0 p.delta = rw q refl in
        absurd (omega (arith, base_below 0 base p.delta (sym x ∙ e)))
base_told (suc n) base p low few e = by p.sign refl
  where
    by : (sign : Bool) → p.sign ≡ sign → TellsBase (suc n) base p
    by false q =
        let x : strict_base p (suc n) ≡ read_base false (suc n) p.delta =
        rw (ne_eqb (suc n) 0 (λ z. absurd (omega (arith, z))), q) refl in
        let k = base_above (suc n) base p.delta (sym x ∙ e) in
        record {
          whole = base;
          small = k.0;
          above = λ _. k.1;
          below = λ t. absurd (let y = sym q ∙ t in cc);
          same = λ _. refl;
        }
    by true q =
        let x : strict_base p (suc n) ≡ read_base true (suc n) p.delta =
        rw (ne_eqb (suc n) 0 (λ z. absurd (omega (arith, z))), q) refl in
        let k = base_below (suc n) base p.delta (sym x ∙ e) in
        record {
          whole = base;
          small = omega (arith, k, few);
          above = λ t. absurd (let y = sym q ∙ t in cc);
          below = λ _. k;
          same = λ _. refl;
        }
