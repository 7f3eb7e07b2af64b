-- A record that is cut off is the one that stands at the front.
use Rattle.std.proofs.Common.{◌≡◌, ℕ, ◌+◌, ◌^◌, ◌<◌, ◌≤◌, List, ◌++◌, length, get_or, take, drop, sym, ap}
use Rattle.std.proofs.Common.{◌∙◌, append_assoc, arith, inl, inr}
use Rattle.std.specs.Int.{w32, w64, from_be_bytes, to_be_bytes}
use Rattle.std.proofs.lemmas.Bool.{cases_lt}
use Rattle.std.proofs.lemmas.List.{take-append-drop, length-take, length-take-le, get_or-drop, get_or-take, get_or_past}
use Rattle.std.proofs.lemmas.Nat.{be_bytes_4, be_bytes_8, from_be_bytes-to_be_bytes_4, from_be_bytes-to_be_bytes_8}
use Rattle.std.proofs.Math.Seq.{take-append_seam, drop-append_seam}
use Rattle.qpk_qif.specs.Records.{written_record}

abbrev pub AreBytes : List ℕ → Type 0
AreBytes bytes = (i : ℕ) → get_or bytes i 0 < 256

behind_bytes : (n : ℕ) (bytes : List ℕ) → AreBytes bytes → AreBytes (drop n bytes)
behind_bytes n bytes h i = rw get_or-drop (h (n + i))

first_bytes : (n : ℕ) (bytes : List ℕ) → AreBytes bytes → AreBytes (take n bytes)
first_bytes n bytes h i =
    elim (cases_lt i n) [
      | inl lt ↦ rw (get_or-take n bytes i 0 lt) (h i)
      | inr le ↦ rw (get_or_past (take n bytes) i 0 (omega (arith, length-take n bytes))) (omega arith)
    ]

pub stands : (input a r b s bytes rest : List ℕ) (n k : ℕ) → AreBytes input → a ≡ take 8 input → r ≡ drop 8 input
    → b ≡ take 4 r → s ≡ drop 4 r → 8 ≤ length input → 4 ≤ length r → n ≡ from_be_bytes w64 a
    → k ≡ from_be_bytes w32 b → k ≤ length s → bytes ≡ take k s → rest ≡ drop k s
    → input ≡ written_record n bytes ++ rest
stands input a r b s bytes rest n k small ai ri bi si la lr ni ki fits yi ti =
    let small_a : AreBytes a = rw ai (first_bytes 8 input small) in
    let small_r : AreBytes r = rw ri (behind_bytes 8 input small) in
    let small_b : AreBytes b = rw bi (first_bytes 4 r small_r) in
    let len_a : length a ≡ 8 = rw ai (length-take-le 8 input la) in
    let len_b : length b ≡ 4 = rw bi (length-take-le 4 r lr) in
    let len_y : length bytes ≡ k = rw yi (length-take-le k s fits) in
    let wa : to_be_bytes w64 n ≡ a = be_bytes_8 a n len_a small_a ni in
    let wb : to_be_bytes w32 (length bytes) ≡ b = be_bytes_4 b (length bytes) len_b small_b (len_y ∙ ki) in
    let whole_s : s ≡ bytes ++ rest = sym (rw (yi, ti) (take-append-drop k s)) in
    let whole_r : r ≡ b ++ s = sym (rw (bi, si) (take-append-drop 4 r)) in
    let whole : input ≡ a ++ r = sym (rw (ai, ri) (take-append-drop 8 input)) in
    let parts : written_record n bytes ++ rest ≡ a ++ (b ++ (bytes ++ rest)) =
    ap (λ (t : List ℕ). (t ++ to_be_bytes w32 (length bytes) ++ bytes) ++ rest) wa
    ∙ ap (λ (t : List ℕ). (a ++ t ++ bytes) ++ rest) wb
    ∙ append_assoc (a ++ b) bytes rest ∙ append_assoc a b (bytes ++ rest) in
    whole ∙ ap (λ (t : List ℕ). a ++ t) (whole_r ∙ ap (λ (t : List ℕ). b ++ t) whole_s) ∙ sym parts

-- what the parts of the input are, where a record stands there
pub record IsRecord (stream : ℕ) (bytes rest : List ℕ) (n k : ℕ) (s : List ℕ) : Type 0 where
  pub stream_is : n ≡ stream
  pub length_is : k ≡ length bytes
  pub behind_is : s ≡ bytes ++ rest

pub is_record : (input a r b s : List ℕ) (n k : ℕ) → a ≡ take 8 input → r ≡ drop 8 input → b ≡ take 4 r → s ≡ drop 4 r
    → n ≡ from_be_bytes w64 a → k ≡ from_be_bytes w32 b
    → (stream : ℕ) (bytes rest : List ℕ) → stream < 2 ^ 64 → length bytes < 2 ^ 32
    → input ≡ written_record stream bytes ++ rest → IsRecord stream bytes rest n k s
is_record input a r b s n k ai ri bi si ni ki stream bytes rest small short is =
    let fa : a ≡ to_be_bytes w64 stream = ai ∙ ap (take 8) is in
    let fr : r ≡ to_be_bytes w32 (length bytes) ++ (bytes ++ rest) = ri ∙ ap (drop 8) is in
    let fb : b ≡ to_be_bytes w32 (length bytes) = bi ∙ ap (take 4) fr in
    let fs : s ≡ bytes ++ rest = si ∙ ap (drop 4) fr in
    record {
      stream_is = ni ∙ ap (from_be_bytes w64) fa ∙ from_be_bytes-to_be_bytes_8 stream small;
      length_is = ki ∙ ap (from_be_bytes w32) fb ∙ from_be_bytes-to_be_bytes_4 (length bytes) short;
      behind_is = fs;
    }

pub is_cut : (stream : ℕ) (bytes rest : List ℕ) (n k : ℕ) (s bs t : List ℕ) → IsRecord stream bytes rest n k s
    → bs ≡ take k s → t ≡ drop k s → (n ≡ stream) × (bs ≡ bytes) × (t ≡ rest)
is_cut stream bytes rest n k s bs t is bi ti = (
  is.stream_is,
  bi ∙ rw (is.length_is, is.behind_is) (take-append_seam bytes rest),
  ti ∙ rw (is.length_is, is.behind_is) (drop-append_seam bytes rest),
)

pub pushed : (o p q r a b bytes : List ℕ) → p ≡ o ++ a → q ≡ p ++ b → r ≡ q ++ bytes → r ≡ o ++ (a ++ b ++ bytes)
pushed o p q r a b bytes pi qi ri =
    rw (ri, qi, pi) (ap (λ (t : List ℕ). t ++ bytes) (append_assoc o a b) ∙ append_assoc o (a ++ b) bytes)
