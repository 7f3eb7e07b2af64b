-- A search that halves makes at most as many steps as its row's length has digits.
use Rattle.std.proofs.Common.{ℕ, zero, suc, ◌+◌, ◌^◌, ◌<◌, ◌≤◌, arith}
use Rattle.std.proofs.Math.Nat.{pow-suc}
use Rattle.qpack_table.specs.Rows.{Counts}

-- of so many positions some are left, and as many steps may be made yet as their number has digits
pub record CountsHalved (n left old new : ℕ) : Type 0 where
  pub least : old ≤ new
  pub most : (all : ℕ) → n < 2 ^ all → (digits : ℕ) × (left < 2 ^ digits) × (new + digits ≤ old + all)

-- one step leaves at most half of them
pub counts_more : (n left less old now new : ℕ) → CountsHalved n left old now → 0 < left → less + less ≤ left
    → new ≤ now + 1 → now ≤ new → CountsHalved n less old new
counts_more n left less old now new h some half raised grows = record {
  least = omega (arith, h.least, grows);
  most = λ all g. let m = h.most all g in fewer all m.0 m.1 m.2;
}
  where
    fewer : (all digits : ℕ) → left < 2 ^ digits → now + digits ≤ old + all
        → (d : ℕ) × (less < 2 ^ d) × (new + d ≤ old + all)
    fewer all zero below most = absurd (omega (arith, below, some))
    fewer all (suc d) below most =
        (d, omega (arith, below, half, pow-suc 2 d), omega (arith, most, raised))

-- at the end of a search
pub counts_all : (n left old new : ℕ) → CountsHalved n left old new → Counts n old new
counts_all n left old new h = (h.least, λ all g. let m = h.most all g in omega (arith, m.2))

pub counts_fewer : (m n old new : ℕ) → m ≤ n → Counts m old new → Counts n old new
counts_fewer m n old new h c = (c.0, λ digits g. c.1 digits (omega (arith, h, g)))
