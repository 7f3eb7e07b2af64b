-- The code that comes next, read whole.
use Rattle.std.proofs.Common.{◌≡◌, ℕ, ◌+◌, ◌-◌, ◌*◌, ◌/◌, ◌%◌, ◌^◌, ◌<◌, ◌≤◌, List, []}
use Rattle.std.proofs.Common.{◌∷◌, ◌++◌, length, Ok, refl, sym, ap, subst}
use Rattle.std.proofs.Common.{◌∙◌, arith, append-nil, append_assoc, inl, inr}
use Rattle.std.proofs.lemmas.List.{length-append}
use Rattle.qpack_spec.specs.Huffman.{bits_of, bits_of_bytes, code_of, bytes_by_length, code_at, bits_of_text, AreBytes}
use Rattle.qpack_spec.proofs.Bits.{bits_are, bits_length, bits_append, parts_same}
use Rattle.qpack_spec.proofs.Codes.{code_found}
use Rattle.std.specs.Prelude.{slice_index_or}
use Rattle.std.proofs.lemmas.Bool.{cases_lt}
use Rattle.std.proofs.lemmas.Nat.{shr-shr}
use Rattle.qpack_base.specs.HuffmanTables.{BeginsWithCode, AreShortCodes, ArePairs, pair_bits, pair_bytes}
use Rattle.qpack_base.specs.Payloads.{BeginsCode, BeginsCodes, PassesCodes, bytes_of_codes}
use Rattle.qpack_base.specs.declared.prefix_string.ahead.Codes.{Codes}
use Rattle.std.proofs.lemmas.Grind.{flat_map-append}
use Rattle.qpack_base.proofs.AddedBits.{bytes_join}
use Rattle.qpack_base.proofs.WrittenCodes.{one_code}
use Rattle.qpack_base.proofs.HighBits.{IsHigh, high_front}
use Rattle.qpack_base.proofs.PairTables.{pair_bytes_are}

pub none_ahead : (n : ℕ) (bytes : List ℕ) → bits_of 0 n ++ bits_of_bytes bytes ≡ bits_of_bytes bytes
unfolding bits_of
none_ahead n bytes = refl

abbrev alone : ℕ → ℕ → List ℕ
alone count loaded = bits_of count loaded ++ bits_of_bytes []

-- a code was read of bits that stand alone, and so many are left
pub record ReadsAlone (count loaded left number b : ℕ) : Type 0 where
  pub byte : b < 256
  pub parts : bits_of count loaded ≡ code_of b ++ bits_of left number
  pub sum : count ≡ length (code_of b) + left

pub reads_alone : (count loaded left number b : ℕ)
    → code_at bytes_by_length 0 0 (alone count loaded) ≡ Ok (b, alone left number)
    → ReadsAlone count loaded left number b
reads_alone count loaded left number b e =
    let one = append-nil (bits_of count loaded) in
    let two = append-nil (bits_of left number) in
    let read : code_at bytes_by_length 0 0 (bits_of count loaded) ≡ Ok (b, bits_of left number) =
    ap (code_at bytes_by_length 0 0) (sym one) ∙ e ∙ ap (λ (l : List ℕ). Ok (b, l)) two in
    let f = code_found (bits_of count loaded) b (bits_of left number) (bits_are count loaded) read in
    record {
      byte = f.byte;
      parts = f.parts;
      sum = omega (
        arith,
        ap (λ (l : List ℕ). length l) f.parts,
        length-append (code_of b) (bits_of left number),
        bits_length count loaded,
        bits_length left number,
      );
    }

pub begins_alone : (count loaded left number b : ℕ) → ReadsAlone count loaded left number b
    → BeginsCode count loaded b (count - left)
begins_alone count loaded left number b r =
    let n = count - left in
    let sum = r.sum in
    let back : count - n ≡ left = omega arith in
    let whole : bits_of count loaded ≡ bits_of n (loaded / 2 ^ (count - n)) ++ bits_of (count - n) loaded =
    bits_append n (count - n) count loaded (omega arith) in
    let same : length (code_of b) ≡ length (bits_of n (loaded / 2 ^ (count - n))) =
    omega (arith, bits_length n (loaded / 2 ^ (count - n))) in
    record {
      byte_is = λ _. r.byte;
      is = λ _. (parts_same (code_of b) (bits_of n (loaded / 2 ^ (count - n))) (bits_of left number)
          (bits_of (count - n) loaded) same (sym r.parts ∙ whole)).0;
    }

-- byte and bits as one number
pub one_number : (count loaded b n x : ℕ) → b < 256 → x ≡ b + 256 * n → BeginsCode count loaded b n
    → BeginsCode count loaded (x % 256) (x / 256)
one_number count loaded b n x h e w =
    let m : x % 256 ≡ b = omega arith in
    let d : x / 256 ≡ n = omega arith in
    rw (m, d) w

-- ---- by the table

abbrev entry_at : List (ℕ × ℕ) → ℕ → ℕ × ℕ
entry_at table window = slice_index_or table window (0, 0)

-- the highest eight bits begin with it
short_code : (loaded count number bits : ℕ) (entry : ℕ × ℕ) → IsHigh loaded count number
    → BeginsWithCode (loaded / 2 ^ 56) entry → bits ≡ entry.1 → bits ≤ count
    → code_of entry.0 ≡ bits_of bits (number / 2 ^ (count - bits))
short_code loaded count number bits entry h w e le =
    let most : bits ≤ 8 = omega (arith, w.most) in
    let k : 56 + (8 - bits) ≡ 64 - bits = omega arith in
    w.is ∙ ap (λ (n : ℕ). bits_of n (loaded / 2 ^ 56 / 2 ^ (8 - n))) (sym e)
    ∙ ap (bits_of bits) (shr-shr loaded 56 (8 - bits) ∙ ap (λ (n : ℕ). loaded / 2 ^ n) k
    ∙ high_front loaded count number bits h le)

pub short_begins : (loaded count number bits : ℕ) (table : List (ℕ × ℕ)) → IsHigh loaded count number → count < 64
    → loaded / 2 ^ 56 < 256 → AreShortCodes table → bits ≡ (entry_at table (loaded / 2 ^ 56)).1 → bits ≤ count
    → BeginsCode count number (entry_at table (loaded / 2 ^ 56)).0 bits
short_begins loaded count number bits table h few within t e le =
    elim (cases_lt (loaded / 2 ^ 56) 254) [
      | inl lt ↦
          let w = t.at (loaded / 2 ^ 56) lt in
          record {
            byte_is = λ _. w.byte;
            is = λ _. short_code loaded count number bits (entry_at table (loaded / 2 ^ 56)) h w e le;
          }
      | inr ge ↦ absurd (let p = t.past (loaded / 2 ^ 56) ge within in omega arith)
    ]

abbrev pair_at : List ℕ → ℕ → ℕ
pair_at table window = slice_index_or table window 0

-- the highest twelve bits begin with the codes of an entry's bytes
pub pair_begins : (loaded count number : ℕ) (codes : Codes) (table : List ℕ) → IsHigh loaded count number
    → codes.bits ≤ 12 → 12 ≤ count → loaded / 2 ^ 52 < 4096 → ArePairs table
    → codes.bits ≡ pair_bits (pair_at table (loaded / 2 ^ 52))
    → bytes_of_codes codes ≡ pair_bytes (pair_at table (loaded / 2 ^ 52))
    → BeginsCodes count number codes.bits (bytes_of_codes codes)
pair_begins loaded count number codes table h most enough within t b are =
    elim (cases_lt (loaded / 2 ^ 52) 4092) [
      | inl lt ↦
          let w = t.at (loaded / 2 ^ 52) lt in
          let bits = codes.bits in
          let there : bits ≤ count = omega arith in
          let k : 52 + (12 - bits) ≡ 64 - bits = omega arith in record {
            are = subst AreBytes (sym are) (pair_bytes_are (pair_at table (loaded / 2 ^ 52)));
            some = subst (λ (l : List ℕ). 1 ≤ length l) (sym are) w.some;
            there = there;
            is = ap bits_of_text are ∙ w.is ∙ ap (λ (n : ℕ). bits_of n (loaded / 2 ^ 52 / 2 ^ (12 - n))) (sym b)
                ∙ ap (bits_of bits) (shr-shr loaded 52 (12 - bits) ∙ ap (λ (n : ℕ). loaded / 2 ^ n) k
                ∙ high_front loaded count number bits h there);
          }
      | inr ge ↦ absurd (let p = t.past (loaded / 2 ^ 52) ge within in omega arith)
    ]

-- ---- codes that were passed

pub nothing_passed : (old new items : List ℕ) → new ≡ old → PassesCodes old new items items
nothing_passed old new items e = record { text = []; are = tt; bits = sym e; append = sym (append-nil items) }

-- codes behind codes
pub passes_on : (old now left items appended more : List ℕ) → PassesCodes old now items appended
    → PassesCodes now left appended more → PassesCodes old left items more
passes_on old now left items appended more p q = record {
  text = p.text ++ q.text;
  are = bytes_join p.text q.text p.are q.are;
  bits = p.bits ∙ ap (λ (l : List ℕ). bits_of_text p.text ++ l) q.bits
      ∙ sym (append_assoc (bits_of_text p.text) (bits_of_text q.text) left)
      ∙ ap (λ (l : List ℕ). l ++ left) (sym (flat_map-append code_of p.text q.text));
  append = q.append ∙ ap (λ (l : List ℕ). l ++ q.text) p.append ∙ append_assoc items p.text q.text;
}

-- a code alone
pub one_begins : (count loaded byte bits : ℕ) → bits ≤ count → BeginsCode count loaded byte bits
    → BeginsCodes count loaded bits (byte ∷ [])
one_begins count loaded byte bits there w = record {
  are = (w.byte_is there, tt);
  some = omega arith;
  there = there;
  is = one_code byte ∙ w.is there;
}
