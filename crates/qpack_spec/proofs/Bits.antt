-- Bits of numbers and of bytes.
use Rattle.std.proofs.Common.{◌≡◌, ℕ, zero, suc, ◌+◌, ◌-◌, ◌*◌, ◌/◌, ◌%◌, ◌^◌, ◌<◌, ◌≤◌, List, [], ◌∷◌, ◌++◌, length}
use Rattle.std.proofs.Common.{take, drop, refl, sym, ap, ◌∙◌, arith, append_assoc, inl, inr}
use Rattle.std.specs.List.{AllByRecursion}
use Rattle.std.proofs.Math.Nat.{pow-succ', mul-add-div_right}
use Rattle.std.proofs.lemmas.Nat.{pow_pos, shr-shr, mod-pow-add, div-mul-add, shr_split}
use Rattle.std.proofs.lemmas.List.{drop_all, take-append-le, take-append-drop, length-append, take_at, length-take-le}
use Rattle.std.proofs.lemmas.List.{length-drop}
use Rattle.std.proofs.Math.Seq.{take-append-add}
use Rattle.std.proofs.lemmas.List.Concat.{flat_map-cons}
use Rattle.std.proofs.lemmas.Bool.{cases_lt}
use Rattle.qpack_spec.specs.Huffman.{bits_of, bits_of_bytes, ones, AreBytes, number_from, bytes_of_bits}

abbrev pub AreBits : List ℕ → Type 0
AreBits bits = AllByRecursion (λ bit. bit < 2) bits

abbrev pub AreOnes : List ℕ → Type 0
AreOnes bits = AllByRecursion (λ bit. bit ≡ 1) bits

-- ---- lists of bits

pub bits_join : (a b : List ℕ) → AreBits a → AreBits b → AreBits (a ++ b)
bits_join [] b p q = q
bits_join (x ∷ a) b p q = (p.0, bits_join a b p.1 q)

pub bits_behind : (a b : List ℕ) → AreBits (a ++ b) → AreBits b
bits_behind [] b ok = ok
bits_behind (x ∷ a) b ok = bits_behind a b ok.1

bits_before : (a b : List ℕ) → AreBits (a ++ b) → AreBits a
bits_before [] b ok = tt
bits_before (x ∷ a) b ok = (ok.0, bits_before a b ok.1)

pub bits_are : (k n : ℕ) → AreBits (bits_of k n)
unfolding bits_of
bits_are zero n = tt
bits_are (suc k) n = (omega arith, bits_are k n)

pub bytes_bits : (bytes : List ℕ) → AreBits (bits_of_bytes bytes)
bytes_bits [] = tt
bytes_bits (b ∷ bytes) =
    rw flat_map-cons (bits_join (bits_of 8 b) (bits_of_bytes bytes) (bits_are 8 b) (bytes_bits bytes))

pub bits_length : (k n : ℕ) → length (bits_of k n) ≡ k
unfolding bits_of
bits_length zero n = refl
bits_length (suc k) n = ap suc (bits_length k n)

pub bytes_length : (bytes : List ℕ) → length (bits_of_bytes bytes) ≡ 8 * length bytes
bytes_length [] = refl
bytes_length (b ∷ bytes) = rw (flat_map-cons, length-append) (omega (arith, bits_length 8 b, bytes_length bytes))

-- ---- ones

pub ones_are : (bits : List ℕ) → AreOnes bits → bits ≡ ones (length bits)
unfolding ones
ones_are [] o = refl
ones_are (b ∷ bs) o = ap (λ (x : ℕ). x ∷ bs) o.0 ∙ ap (λ (l : List ℕ). 1 ∷ l) (ones_are bs o.1)

pub ones_all : (k : ℕ) → AreOnes (ones k)
unfolding ones
ones_all zero = tt
ones_all (suc k) = (refl, ones_all k)

ones_bits : (k : ℕ) → AreBits (ones k)
unfolding ones
ones_bits zero = tt
ones_bits (suc k) = (omega arith, ones_bits k)

pub ones_length : (k : ℕ) → length (ones k) ≡ k
unfolding ones
ones_length zero = refl
ones_length (suc k) = ap suc (ones_length k)

ones_none : ones 0 ≡ []
unfolding ones
ones_none = refl

ones_join : (j k : ℕ) → ones j ++ ones k ≡ ones (j + k)
unfolding ones
ones_join zero k = ap ones (let e : k ≡ 0 + k = omega arith in e)
ones_join (suc j) k = let e : suc j + k ≡ suc (j + k) = omega arith in rw (ones_join j k, e) refl

-- ---- bits of numbers

-- a number's bits are those of its high part and those of its low part
pub bits_append : (p q s n : ℕ) → s ≡ p + q → bits_of s n ≡ bits_of p (n / 2 ^ q) ++ bits_of q n
unfolding bits_of
bits_append zero q s n e = let z : s ≡ q = omega arith in rw z refl
bits_append (suc p) q zero n e = absurd (omega arith)
bits_append (suc p) q (suc s) n e =
    let t : s ≡ q + p = omega arith in
    let head : n / 2 ^ s ≡ n / 2 ^ q / 2 ^ p = ap (λ (k : ℕ). n / 2 ^ k) t ∙ sym (shr-shr n q p) in
    rw (head, bits_append p q s n (omega arith)) refl

low_bit : (hi x : ℕ) → (2 * hi + x) % 2 ≡ x % 2
low_bit hi x = omega arith

-- the low bits don't see what stands above them
bits_low : (q hi lo : ℕ) → bits_of q (hi * 2 ^ q + lo) ≡ bits_of q lo
unfolding bits_of
bits_low zero hi lo = refl
bits_low (suc q) hi lo =
    let whole : hi * 2 ^ suc q + lo ≡ 2 * hi * 2 ^ q + lo = let p = pow-succ' 2 q in rw p (omega arith) in
    let head : (2 * hi * 2 ^ q + lo) / 2 ^ q % 2 ≡ lo / 2 ^ q % 2 =
    ap (λ (k : ℕ). k % 2) (mul-add-div_right (pow_pos q) (2 * hi) lo) ∙ low_bit hi (lo / 2 ^ q) in
    rw (whole, head, bits_low q (2 * hi) lo) refl

pub bits_cut : (q n : ℕ) → bits_of q (n % 2 ^ q) ≡ bits_of q n
bits_cut q n = sym (bits_low q (n / 2 ^ q) (n % 2 ^ q)) ∙ ap (bits_of q) (shr_split n q)

-- a number, and a number of q bits behind it
pub bits_push : (p q hi lo : ℕ) → lo < 2 ^ q → bits_of (p + q) (hi * 2 ^ q + lo) ≡ bits_of p hi ++ bits_of q lo
bits_push p q hi lo h =
    bits_append p q (p + q) (hi * 2 ^ q + lo) refl ∙ rw (div-mul-add hi (2 ^ q) lo h, bits_low q hi lo) refl

one_bit : (bit : ℕ) → bit < 2 → bits_of 1 bit ≡ bit ∷ []
unfolding bits_of
one_bit bit h = let b : bit / 2 ^ 0 % 2 ≡ bit = omega arith in rw b refl

-- one more bit
pub bits_next : (k n bit : ℕ) → bit < 2 → bits_of (suc k) (2 * n + bit) ≡ bits_of k n ++ (bit ∷ [])
bits_next k n bit h =
    let e : 2 * n + bit ≡ n * 2 ^ 1 + bit = omega arith in
    let s : suc k ≡ k + 1 = omega arith in
    ap (bits_of (suc k)) e ∙ ap (λ (j : ℕ). bits_of j (n * 2 ^ 1 + bit)) s ∙ bits_push k 1 n bit (omega arith)
    ∙ ap (λ (l : List ℕ). bits_of k n ++ l) (one_bit bit h)

-- all bits of the greatest number are ones
pub ones_number : (k n : ℕ) → n + 1 ≡ 2 ^ k → bits_of k n ≡ ones k
unfolding bits_of ones
ones_number zero n e = refl
ones_number (suc k) n e =
    let p = pow-succ' 2 k in
    let pos = pow_pos k in
    let s : n ≡ 1 * 2 ^ k + (2 ^ k - 1) = omega arith in
    let m : 2 ^ k - 1 < 2 ^ k = omega arith in
    let h : n / 2 ^ k ≡ 1 = ap (λ (x : ℕ). x / 2 ^ k) s ∙ div-mul-add 1 (2 ^ k) (2 ^ k - 1) m in
    let low : bits_of k n ≡ bits_of k (2 ^ k - 1) = ap (bits_of k) s ∙ bits_low k 1 (2 ^ k - 1) in
    rw (h, low, ones_number k (2 ^ k - 1) (omega arith)) refl

-- ---- numbers of bits

high_part : (n b P lo : ℕ) → (2 * n + b) * P + lo ≡ n * (2 * P) + (b * P + lo)
high_part n b P lo = omega arith

-- the number of a number's low bits, behind those of n
pub number_bits : (k n m : ℕ) → number_from n (bits_of k m) ≡ n * 2 ^ k + m % 2 ^ k
unfolding bits_of number_from
number_bits zero n m = let e : m % 2 ^ 0 ≡ 0 = omega arith in rw e (omega arith)
number_bits (suc k) n m =
    let low : m % 2 ^ suc k ≡ (m / 2 ^ k % 2) * 2 ^ k + m % 2 ^ k = let s : suc k ≡ 1 + k =
    omega arith in rw s (mod-pow-add m 1 k) in
    number_bits k (2 * n + m / 2 ^ k % 2) m ∙ high_part n (m / 2 ^ k % 2) (2 ^ k) (m % 2 ^ k)
    ∙ (let p = pow-succ' 2 k in rw (low, p) refl)

pub record SplitsNumber (n : ℕ) (bits : List ℕ) : Type 0 where
  pub low : ℕ
  pub small : low < 2 ^ length bits
  pub is : number_from n bits ≡ n * 2 ^ length bits + low

low_fits : (b P lo : ℕ) → b < 2 → lo < P → b * P + lo < 2 * P
low_fits zero P lo h l = omega arith
low_fits (suc zero) P lo h l = omega arith
low_fits (suc (suc b)) P lo h l = absurd (omega arith)

pub number_splits : (n : ℕ) (bits : List ℕ) → AreBits bits → SplitsNumber n bits
unfolding number_from
number_splits n [] ok = record { low = 0; small = omega arith; is = omega arith }
number_splits n (b ∷ bits) ok =
    let t = number_splits (2 * n + b) bits ok.1 in
    let p = pow-succ' 2 (length bits) in
    record {
      low = b * 2 ^ length bits + t.low;
      small = rw p (low_fits b (2 ^ length bits) t.low ok.0 t.small);
      is = t.is ∙ high_part n b (2 ^ length bits) t.low ∙ rw p refl;
    }

-- the bits of the number of bits
pub bits_number : (n : ℕ) (bits : List ℕ) → AreBits bits → bits_of (length bits) (number_from n bits) ≡ bits
unfolding bits_of number_from
bits_number n [] ok = refl
bits_number n (b ∷ bits) ok =
    let t = number_splits (2 * n + b) bits ok.1 in
    let head : number_from (2 * n + b) bits / 2 ^ length bits % 2 ≡ b =
    ap (λ (x : ℕ). x / 2 ^ length bits % 2) t.is
    ∙ ap (λ (x : ℕ). x % 2) (div-mul-add (2 * n + b) (2 ^ length bits) t.low t.small)
    ∙ (let h = ok.0 in omega arith) in
    rw (head, bits_number (2 * n + b) bits ok.1) refl

-- ---- bytes and their bits

-- fronts that are as long of equal lists are the same, and so are the rests
pub parts_same : (a b x y : List ℕ) → length a ≡ length b → a ++ x ≡ b ++ y → (a ≡ b) × (x ≡ y)
parts_same [] [] x y l e = (refl, e)
parts_same [] (d ∷ b) x y l e = absurd (omega arith)
parts_same (c ∷ a) [] x y l e = absurd (omega arith)
parts_same (c ∷ a) (d ∷ b) x y l e =
    let h : c ≡ d = cc in
    let t : a ++ x ≡ b ++ y = cc in
    let r = parts_same a b x y (omega arith) t in
    (let q = r.0 in cc, r.1)

-- bytes with the same bits are the same
bytes_same : (p q : List ℕ) → AreBytes p → AreBytes q → bits_of_bytes p ≡ bits_of_bytes q → p ≡ q
bytes_same [] [] ok ok' e = refl
bytes_same [] (c ∷ q) ok ok' e = absurd (let l = ap length e in omega (arith, bytes_length [], bytes_length (c ∷ q)))
bytes_same (b ∷ p) [] ok ok' e = absurd (let l = ap length e in omega (arith, bytes_length [], bytes_length (b ∷ p)))
bytes_same (b ∷ p) (c ∷ q) ok ok' e =
    let s : bits_of 8 b ++ bits_of_bytes p ≡ bits_of 8 c ++ bits_of_bytes q =
    sym (flat_map-cons (bits_of 8) b p) ∙ e ∙ flat_map-cons (bits_of 8) c q in
    let t = parts_same (bits_of 8 b) (bits_of 8 c) (bits_of_bytes p) (bits_of_bytes q) (bits_length 8 b
    ∙ sym (bits_length 8 c)) s in
    let n : b % 2 ^ 8 ≡ c % 2 ^ 8 = let x = number_bits 8 0 b in let y = number_bits 8 0 c in let z =
    ap (number_from 0) t.0 in omega arith in
    let h : b ≡ c = let x = ok.0 in let y = ok'.0 in omega arith in
    let r = bytes_same p q ok.1 ok'.1 t.1 in
    cc

-- ---- bits in bytes

front_bits : (bits : List ℕ) → AreBits bits → AreBits (take 8 (bits ++ ones 8))
front_bits bits ok =
    bits_before (take 8 (bits ++ ones 8)) (drop 8 (bits ++ ones 8))
    (rw (take-append-drop 8 (bits ++ ones 8)) (bits_join bits (ones 8) ok (ones_bits 8)))

front_length : (bits : List ℕ) → length (take 8 (bits ++ ones 8)) ≡ 8
front_length bits = length-take-le 8 (bits ++ ones 8) (omega (arith, length-append bits (ones 8), ones_length 8))

rest_bits : (bits : List ℕ) → AreBits bits → AreBits (drop 8 bits)
rest_bits bits ok = bits_behind (take 8 bits) (drop 8 bits) (rw (take-append-drop 8 bits) ok)

pub packed_bytes : (k : ℕ) (bits : List ℕ) → AreBits bits → AreBytes (bytes_of_bits k bits)
unfolding bytes_of_bits
packed_bytes zero bits ok = tt
packed_bytes (suc k) bits ok =
    let t = number_splits 0 (take 8 (bits ++ ones 8)) (front_bits bits ok) in
    let small = rw (front_length bits) at t.small in
    (omega (arith, t.is, small), packed_bytes k (drop 8 bits) (rest_bits bits ok))

pub packed_length : (k : ℕ) (bits : List ℕ) → length (bytes_of_bits k bits) ≡ k
unfolding bytes_of_bits
packed_length zero bits = refl
packed_length (suc k) bits = ap suc (packed_length k (drop 8 bits))

filled : (bits : List ℕ) → length bits ≤ 8 → take 8 (bits ++ ones 8) ≡ bits ++ ones (8 - length bits)
filled bits le =
    let m = 8 - length bits in
    let e : 8 ≡ length bits + m = omega arith in
    let o : ones 8 ≡ ones m ++ ones (length bits) =
    (let g : 8 ≡ m + length bits = omega arith in ap ones g) ∙ sym (ones_join m (length bits)) in
    ap (λ (j : ℕ). take j (bits ++ ones 8)) e ∙ take-append-add bits (ones 8) m
    ∙ ap (λ (l : List ℕ). bits ++ take m l) o
    ∙ ap (λ (l : List ℕ). bits ++ l) (take_at (ones m) (ones (length bits)) m (ones_length m))

-- eight bits of those, filled up with ones, and then the others
eight_more : (k : ℕ) (bits : List ℕ) → length bits ≤ 8 * suc k
    → take 8 (bits ++ ones 8) ++ (drop 8 bits ++ ones (8 * k - length (drop 8 bits)))
    ≡ bits ++ ones (8 * suc k - length bits)
eight_more k bits le =
    elim (cases_lt (length bits) 8) [
      | inl lt ↦
          let d : drop 8 bits ≡ [] = drop_all 8 bits (omega arith) in
          let f : take 8 (bits ++ ones 8) ≡ bits ++ ones (8 - length bits) = filled bits (omega arith) in
          let g : 8 - length bits + (8 * k - length {A = ℕ} []) ≡ 8 * suc k - length bits = omega arith in
          rw (d, f) (append_assoc bits (ones (8 - length bits)) (ones (8 * k - length {A = ℕ} []))
          ∙ ap (λ (l : List ℕ). bits ++ l) (ones_join (8 - length bits) (8 * k - length {A = ℕ} []) ∙ ap ones g))
      | inr ge ↦
          let f : take 8 (bits ++ ones 8) ≡ take 8 bits = take-append-le 8 bits (ones 8) ge in
          let g : 8 * k - length (drop 8 bits) ≡ 8 * suc k - length bits = omega (arith, length-drop 8 bits) in
          rw (f, g) (sym (append_assoc (take 8 bits) (drop 8 bits) (ones (8 * suc k - length bits)))
          ∙ ap (λ (l : List ℕ). l ++ ones (8 * suc k - length bits)) (take-append-drop 8 bits))
    ]

-- the bits of packed bits are these, and ones behind them
pub packed_bits : (k : ℕ) (bits : List ℕ) → AreBits bits → length bits ≤ 8 * k
    → bits_of_bytes (bytes_of_bits k bits) ≡ bits ++ ones (8 * k - length bits)
unfolding bytes_of_bits
packed_bits zero [] ok le = let e : 8 * 0 - length {A = ℕ} [] ≡ 0 = omega arith in rw e (sym (ones_none))
packed_bits zero (b ∷ bits) ok le = absurd (omega arith)
packed_bits (suc k) bits ok le =
    let front = take 8 (bits ++ ones 8) in
    let f : bits_of 8 (number_from 0 front) ≡ front =
    ap (λ (j : ℕ). bits_of j (number_from 0 front)) (sym (front_length bits))
    ∙ bits_number 0 front (front_bits bits ok) in
    flat_map-cons (bits_of 8) (number_from 0 front) (bytes_of_bits k (drop 8 bits))
    ∙ ap (λ (l : List ℕ). l ++ bits_of_bytes (bytes_of_bits k (drop 8 bits))) f
    ∙ ap (λ (l : List ℕ). front ++ l) (packed_bits k (drop 8 bits) (rest_bits bits ok)
    (omega (arith, length-drop 8 bits)))
    ∙ eight_more k bits le

-- bytes whose bits are these and fewer than eight ones behind them are these bits, packed
pub packed_is : (bytes bits : List ℕ) (padding : ℕ) → AreBytes bytes → AreBits bits → padding < 8
    → bits_of_bytes bytes ≡ bits ++ ones padding → bytes ≡ bytes_of_bits ((length bits + 7) / 8) bits
packed_is bytes bits padding ok are few e =
    let len : 8 * length bytes ≡ length bits + padding =
    omega (arith, bytes_length bytes, ap length e, length-append bits (ones padding), ones_length padding) in
    let k : (length bits + 7) / 8 ≡ length bytes = omega arith in
    let pad : 8 * length bytes - length bits ≡ padding = omega arith in
    rw k (bytes_same bytes (bytes_of_bits (length bytes) bits) ok (packed_bytes (length bytes) bits are)
    (e ∙ ap (λ (j : ℕ). bits ++ ones j) (sym pad) ∙ sym (packed_bits (length bytes) bits are (omega arith))))

-- no bits of a number
pub no_bits : (n : ℕ) → bits_of 0 n ≡ []
unfolding bits_of
no_bits n = refl
