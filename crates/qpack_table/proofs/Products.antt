-- Products of 64 bits, and the steps of a hash.
use Rattle.std.proofs.Common.{◌≡◌, ℕ, suc, ◌+◌, ◌-◌, ◌*◌, ◌/◌, ◌^◌, ◌<◌, ◌≤◌, List, length, take, drop, refl, sym, ap}
use Rattle.std.proofs.Common.{◌∙◌, arith}
use Rattle.std.proofs.Math.Nat.{mul-le-mul_right}
use Rattle.std.specs.Int.{from_le_bytes, w32, w64}
use Rattle.std.proofs.lemmas.Bool.{le-leb, lt-leb}
use Rattle.qpack_table.specs.Hashes.{words_hash, few_bytes, pieces_hash, piece_hash, rest_hash, short_hash}

pub product_below : (a b : ℕ) → a < 2 ^ 64 → b < 2 ^ 64 → a * b ≤ (2 ^ 64 - 1) * (2 ^ 64 - 1)
product_below a b g h =
    let most : a ≤ 2 ^ 64 - 1 = omega (arith, g) in
    omega (arith, mul-le-mul_right b most, h)

-- one piece more, and none
pub piece_taken : (factor hash : ℕ) (bytes piece rest : List ℕ) → piece ≡ take 16 bytes → rest ≡ drop 16 bytes
    → length rest + 16 ≡ length bytes
    → pieces_hash factor (length rest / 16) (piece_hash factor hash piece) rest
    ≡ pieces_hash factor (length bytes / 16) hash bytes
unfolding pieces_hash
piece_taken factor hash bytes piece rest first behind long =
    let count : length bytes / 16 ≡ suc (length rest / 16) = omega (arith, long) in
    (λ i. pieces_hash factor (length rest / 16) (piece_hash factor hash (first i)) (behind i))
    ∙ sym (ap (λ (n : ℕ). pieces_hash factor n hash bytes) count)

pub no_piece : (factor hash : ℕ) (bytes : List ℕ) → length bytes < 16
    → rest_hash factor hash bytes ≡ pieces_hash factor (length bytes / 16) hash bytes
unfolding pieces_hash
no_piece factor hash bytes few =
    let count : length bytes / 16 ≡ 0 = omega (arith, few) in
    sym (ap (λ (n : ℕ). pieces_hash factor n hash bytes) count)

pub rest_short : (factor hash : ℕ) (rest : List ℕ) → length rest < 8
    → short_hash factor hash rest ≡ rest_hash factor hash rest
unfolding rest_hash
rest_short factor hash rest few = rw (lt-leb 8 (length rest) few) refl

pub rest_long : (factor hash : ℕ) (rest first last : List ℕ) → 8 ≤ length rest → first ≡ take 8 rest
    → last ≡ drop (length rest - 8) rest
    → words_hash factor hash (from_le_bytes w64 first) (from_le_bytes w64 last) ≡ rest_hash factor hash rest
unfolding rest_hash
rest_long factor hash rest first last long a b = rw (a, b, le-leb 8 (length rest) long) refl

pub short_few : (factor hash : ℕ) (rest : List ℕ) → length rest < 4
    → words_hash factor hash (few_bytes rest) 0 ≡ short_hash factor hash rest
unfolding short_hash
short_few factor hash rest few = rw (lt-leb 4 (length rest) few) refl

pub short_long : (factor hash : ℕ) (rest first last : List ℕ) → 4 ≤ length rest → first ≡ take 4 rest
    → last ≡ drop (length rest - 4) rest
    → words_hash factor hash (from_le_bytes w32 first) (from_le_bytes w32 last) ≡ short_hash factor hash rest
unfolding short_hash
short_long factor hash rest first last long a b = rw (a, b, le-leb 4 (length rest) long) refl
