-- The laws of field sections.
use Rattle.std.proofs.Common.{◌≡◌, ℕ, zero, suc, ◌+◌, ◌-◌, ◌*◌, ◌/◌, ◌%◌, ◌<◌, ◌≤◌, length, refl, sym, ap, subst, ◌∙◌}
use Rattle.std.proofs.Common.{arith}
use Rattle.std.proofs.Math.Nat.{mod-lt, div-add-mod, add-mul-mod_self_left, mod-eq_of_lt}
use Rattle.qpack_spec.specs.Prefix.{IsRequired, required_at, prefix_at}
use Rattle.qpack_spec.specs.BlockReading.{ReadsTo}
use Rattle.qpack_spec.specs.BlockLaws.{ReadingFindsPrefixes, CountsHaveOneReading, CountsAreRead}
use Rattle.qpack_spec.specs.BlockLaws.{ReadingLinesFindsFields}
use Rattle.qpack_spec.proofs.Prefixes.{required_found}
use Rattle.qpack_spec.proofs.BlockReadings.{prefix_takes, prefix_again, fields_found, fields_only}

pub reads_prefixes : ReadingFindsPrefixes
reads_prefixes bytes p rest = (
  λ e. let t = prefix_takes bytes p rest e in (t.encoding, t.parts, t.spells),
  λ q. ap prefix_at q.1 ∙ prefix_again q.0 rest p q.2,
)

pub one_reading : CountsHaveOneReading
one_reading total entries count r s positive p q =
    sym (required_found total entries count r positive p) ∙ required_found total entries count s positive q

-- where something is left of the top, there is a whole turn
turned : (n q r top back : ℕ) → n * q + r ≡ top + n - back → back < n → 0 < top - r → (p : ℕ) × (q ≡ suc p)
turned n zero r top back e low high = absurd (omega arith)
turned n (suc p) r top back e low high = (p, refl)

shaped : (n top back r p : ℕ) → n * suc p + r ≡ top + n - back → back ≤ n → 0 < top - r → top - r ≡ back + n * p
shaped n top back r p e le positive = omega arith

-- a number that was computed is in the window and has the residue
in_window : (total entries count : ℕ) → 0 < count → count ≤ entries + entries
    → 0 < required_at (total + entries) entries count
    → IsRequired total entries count (required_at (total + entries) entries count)
unfolding required_at
in_window total entries count positive most r =
    let n = 2 * entries in
    let top = total + entries in
    let from = top + n - (count - 1) in
    let split : n * (from / n) + from % n ≡ from = div-add-mod from n in
    let low : from % n < n = mod-lt from (omega arith) in
    let back : count - 1 < n = omega arith in
    let turn = turned n (from / n) (from % n) top (count - 1) split back r in
    let shape : top - from % n ≡ (count - 1) + n * turn.0 =
    shaped n top (count - 1) (from % n) turn.0 (ap (λ x. n * x + from % n) (sym turn.1) ∙ split) (omega arith) r in
    record {
      positive = r;
      residue = ap (λ x. x % n) shape ∙ add-mul-mod_self_left (count - 1) n turn.0 ∙ mod-eq_of_lt back;
      above = omega arith;
      most = omega arith;
    }

pub counts_read : CountsAreRead
counts_read total entries count r positive most = (
  λ p. (p.positive, required_found total entries count r positive p),
  λ q. subst (IsRequired total entries count) q.1
      (in_window total entries count positive most (omega (arith, q.0, q.1))),
)

pub reads_lines : ReadingLinesFindsFields
reads_lines w base bytes r = (
  λ e. subst (ReadsTo w base bytes) e (fields_found (length bytes) w base bytes (omega arith)),
  λ k. fields_only w base bytes r k,
)
