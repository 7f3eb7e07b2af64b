-- Loading bytes keeps the bits that are left.
use Rattle.std.proofs.Common.{◌≡◌, ℕ, ◌+◌, ◌*◌, ◌^◌, ◌<◌, ◌≤◌, List, [], ◌∷◌, ◌++◌, length, refl, sym, ap, ◌∙◌, arith}
use Rattle.std.proofs.Common.{append_assoc, pow-add}
use Rattle.std.specs.Prelude.{slice_index}
use Rattle.std.proofs.Math.Pow.{pow_mono}
use Rattle.std.proofs.lemmas.List.Concat.{flat_map-cons}
use Rattle.qpack_spec.specs.Huffman.{bits_of, bits_of_bytes}
use Rattle.qpack_spec.proofs.Bits.{bits_push}

pub none_loaded : (bytes : List ℕ) → bits_of 0 0 ++ bits_of_bytes bytes ≡ bits_of_bytes bytes
unfolding bits_of
none_loaded bytes = refl

-- one byte more
pub load_one : (count loaded first : ℕ) (rest : List ℕ) → first < 256
    → bits_of (count + 8) (loaded * 256 + first) ++ bits_of_bytes rest
    ≡ bits_of count loaded ++ bits_of_bytes (first ∷ rest)
load_one count loaded first rest h =
    ap (λ (l : List ℕ). l ++ bits_of_bytes rest) (bits_push count 8 loaded first h)
    ∙ append_assoc (bits_of count loaded) (bits_of 8 first) (bits_of_bytes rest)
    ∙ ap (λ (l : List ℕ). bits_of count loaded ++ l) (sym (flat_map-cons (bits_of 8) first rest))

code_times : (loaded code P : ℕ) → loaded < P → code < 4294967296 → loaded * 4294967296 + code < P * 4294967296
code_times loaded code P h f = omega arith

eight_times : (count loaded first P : ℕ) → loaded < P → first < 256 → loaded * 256 + first < P * 256
eight_times count loaded first P h f = omega arith

pub one_fits : (count loaded first : ℕ) → loaded < 2 ^ count → first < 256 → loaded * 256 + first < 2 ^ (count + 8)
one_fits count loaded first h f = let p = pow-add 2 count 8 in rw p (eight_times count loaded first (2 ^ count) h f)

-- eight bits more fit where 55 are loaded at most
pub one_small : (count loaded first : ℕ) → loaded < 2 ^ count → count < 56 → first < 256 → loaded * 256 + first < 2 ^ 64
one_small count loaded first h few f =
    let le : count + 8 ≤ 63 = omega arith in omega (arith, one_fits count loaded first h f, pow_mono le)

-- four bytes more, of which the code is made
pub record IsFour (bytes : List ℕ) (code : ℕ) : Type 0 where
  pub four : length bytes ≡ 4
  pub first : slice_index bytes 0 < 256
  pub second : slice_index bytes 1 < 256
  pub third : slice_index bytes 2 < 256
  pub fourth : slice_index bytes 3 < 256
  pub is : code ≡ slice_index bytes 0 * 16777216 + slice_index bytes 1 * 65536 + slice_index bytes 2 * 256 +
      slice_index bytes 3

together : (count loaded a b c d : ℕ) (rest : List ℕ) → a < 256 → b < 256 → c < 256 → d < 256
    → bits_of (count + 8 + 8 + 8 + 8) ((((loaded * 256 + a) * 256 + b) * 256 + c) * 256 + d) ++ bits_of_bytes rest
    ≡ bits_of count loaded ++ bits_of_bytes (a ∷ b ∷ c ∷ d ∷ rest)
together count loaded a b c d rest ha hb hc hd =
    load_one (count + 8 + 8 + 8) (((loaded * 256 + a) * 256 + b) * 256 + c) d rest hd
    ∙ load_one (count + 8 + 8) ((loaded * 256 + a) * 256 + b) c (d ∷ rest) hc
    ∙ load_one (count + 8) (loaded * 256 + a) b (c ∷ d ∷ rest) hb
    ∙ load_one count loaded a (b ∷ c ∷ d ∷ rest) ha

pub load_four : (count loaded code : ℕ) (bytes rest : List ℕ) → IsFour bytes code
    → bits_of (count + 32) (loaded * 4294967296 + code) ++ bits_of_bytes rest
    ≡ bits_of count loaded ++ bits_of_bytes (bytes ++ rest)
load_four count loaded code [] rest h = absurd (omega (arith, h.four))
load_four count loaded code (a ∷ []) rest h = absurd (omega (arith, h.four))
load_four count loaded code (a ∷ b ∷ []) rest h = absurd (omega (arith, h.four))
load_four count loaded code (a ∷ b ∷ c ∷ []) rest h = absurd (omega (arith, h.four))
load_four count loaded code (a ∷ b ∷ c ∷ d ∷ []) rest h =
    let n : count + 32 ≡ count + 8 + 8 + 8 + 8 = omega arith in
    let e : loaded * 4294967296 + code ≡ (((loaded * 256 + a) * 256 + b) * 256 + c) * 256 + d = omega (arith, h.is) in
    rw (n, e) (together count loaded a b c d rest h.first h.second h.third h.fourth)
load_four count loaded code (a ∷ b ∷ c ∷ d ∷ x ∷ bytes) rest h = absurd (omega (arith, h.four))

pub four_fit : (count loaded code : ℕ) → loaded < 2 ^ count → code < 4294967296
    → loaded * 4294967296 + code < 2 ^ (count + 32)
four_fit count loaded code h f = let p = pow-add 2 count 32 in rw p (code_times loaded code (2 ^ count) h f)
