-- The codes of a text, byte by byte, and how many bits they have.
use Rattle.std.proofs.Common.{◌≡◌, ℕ, ◌+◌, ◌-◌, ◌/◌, ◌%◌, ◌^◌, ◌<◌, ◌≤◌, List, [], ◌∷◌, ◌++◌, length, take, get_or}
use Rattle.std.proofs.Common.{min, ap, ◌∙◌, arith, append-nil}
use Rattle.std.specs.Prelude.{slice_index}
use Rattle.std.proofs.lemmas.List.{take_more, take_all, length-append}
use Rattle.std.proofs.lemmas.List.Concat.{flat_map-cons}
use Rattle.std.proofs.lemmas.Grind.{flat_map-append}
use Rattle.qpack_spec.specs.Huffman.{code_of, bits_of_text, payload_of}
use Rattle.qpack_spec.proofs.Bits.{bits_length}
use Rattle.qpack_spec.proofs.WrittenPayloads.{payload_length}
use Rattle.qpack_base.specs.HuffmanTables.{IsCodeOf}

pub code_bits : (b : ℕ) (entry : ℕ × ℕ) → IsCodeOf b entry → length (code_of b) ≡ entry.0
code_bits b entry w = ap length w.is ∙ bits_length entry.0 entry.1

pub one_code : (b : ℕ) → bits_of_text (b ∷ []) ≡ code_of b
one_code b = flat_map-cons code_of b [] ∙ append-nil (code_of b)

-- one byte more
pub text_more : (text : List ℕ) (i : ℕ) → i < length text
    → bits_of_text (take (i + 1) text) ≡ bits_of_text (take i text) ++ code_of (get_or text i 0)
text_more text i h =
    ap (λ (l : List ℕ). bits_of_text l) (take_more text i 0 h)
    ∙ flat_map-append code_of (take i text) (get_or text i 0 ∷ [])
    ∙ ap (λ (l : List ℕ). bits_of_text (take i text) ++ l) (one_code (get_or text i 0))

-- how many whole bytes the codes of the first bytes fill, held at the greatest number, and how many bits stand over
pub record IsCounted (text : List ℕ) (i bytes bits : ℕ) : Type 0 where
  pub whole : bytes ≡ min (length (bits_of_text (take i text)) / 8) (2 ^ 64 - 1)
  pub over : bits ≡ length (bits_of_text (take i text)) % 8

pub count_more : (text : List ℕ) (i bytes bits n : ℕ) → i < length text → IsCounted text i bytes bits
    → n ≡ length (code_of (get_or text i 0))
    → IsCounted text (i + 1) (min (bytes + (bits + n) / 8) (2 ^ 64 - 1)) ((bits + n) % 8)
count_more text i bytes bits n h c e =
    let len : length (bits_of_text (take (i + 1) text)) ≡ length (bits_of_text (take i text)) + n =
    omega (
      arith,
      ap length (text_more text i h),
      length-append (bits_of_text (take i text))
          (code_of (get_or text i 0)),
      e,
    ) in
    record { whole = omega (arith, len, c.whole, c.over); over = omega (arith, len, c.over) }

count_all : (text : List ℕ) (i bytes bits : ℕ) → length text ≤ i → IsCounted text i bytes bits
    → (bytes ≡ min (length (bits_of_text text) / 8) (2 ^ 64 - 1)) × (bits ≡ length (bits_of_text text) % 8)
count_all text i bytes bits h c =
    let all = ap (λ (l : List ℕ). length (bits_of_text l)) (take_all i text h) in
    (c.whole ∙ ap (λ (n : ℕ). min (n / 8) (2 ^ 64 - 1)) all, c.over ∙ ap (λ (n : ℕ). n % 8) all)

pub count_even : (text : List ℕ) (i bytes bits : ℕ) → length text ≤ i → IsCounted text i bytes bits → bits ≡ 0
    → bytes ≡ min (length (payload_of text)) (2 ^ 64 - 1)
count_even text i bytes bits h c e = let k = count_all text i bytes bits h c in
    omega (arith, k.0, k.1, payload_length text)

pub count_odd : (text : List ℕ) (i bytes bits : ℕ) → length text ≤ i → IsCounted text i bytes bits → (bits ≡ 0 → ⊥)
    → min (bytes + 1) (2 ^ 64 - 1) ≡ min (length (payload_of text)) (2 ^ 64 - 1)
count_odd text i bytes bits h c n = let k = count_all text i bytes bits h c in
    omega (arith, k.0, k.1, payload_length text)

-- ---- the bits summed

pub sum_more : (text : List ℕ) (i bits n : ℕ) → i < length text → bits ≡ length (bits_of_text (take i text))
    → n ≡ length (code_of (get_or text i 0)) → bits + n ≡ length (bits_of_text (take (i + 1) text))
sum_more text i bits n h s e =
    omega (
      arith,
      ap (λ (l : List ℕ). length l) (text_more text i h),
      length-append (bits_of_text (take i text)) (code_of (get_or text i 0)),
      e,
    )

pub sum_all : (text : List ℕ) (i bits : ℕ) → length text ≤ i → bits ≡ length (bits_of_text (take i text))
    → bits ≡ length (bits_of_text text)
sum_all text i bits h s =
    let all = ap (λ (l : List ℕ). length (bits_of_text l)) (take_all i text h) in
    omega (arith, all, s)

first_code_more : (b : ℕ) (text : List ℕ)
    → length (bits_of_text (b ∷ text)) ≡ length (code_of b) + length (bits_of_text text)
first_code_more b text = ap (λ (l : List ℕ). length l) (flat_map-cons code_of b text)
    ∙ length-append (code_of b) (bits_of_text text)

pub sum_four : (xs : List ℕ) → length xs ≡ 4
    → length (code_of (slice_index xs 0)) + length (code_of (slice_index xs 1)) + length (code_of (slice_index xs 2))
    + length (code_of (slice_index xs 3)) ≡ length (bits_of_text xs)
sum_four [] h = absurd (omega (arith, h))
sum_four (a ∷ []) h = absurd (omega (arith, h))
sum_four (a ∷ b ∷ []) h = absurd (omega (arith, h))
sum_four (a ∷ b ∷ c ∷ []) h = absurd (omega (arith, h))
sum_four (a ∷ b ∷ c ∷ d ∷ []) h =
    omega (
      arith,
      first_code_more a (b ∷ c ∷ d ∷ []),
      first_code_more b (c ∷ d ∷ []),
      first_code_more c (d ∷ []),
      ap (λ (l : List ℕ). length l) (one_code d),
    )
sum_four (a ∷ b ∷ c ∷ d ∷ e ∷ xs) h = absurd (omega (arith, h))

-- the bits of a text in two parts
pub sum_parts : (text part behind : List ℕ) → text ≡ part ++ behind
    → length (bits_of_text text) ≡ length (bits_of_text part) + length (bits_of_text behind)
sum_parts text part behind e =
    ap (λ (l : List ℕ). length (bits_of_text l)) e
    ∙ ap (λ (l : List ℕ). length l) (flat_map-append code_of part behind)
    ∙ length-append (bits_of_text part) (bits_of_text behind)
