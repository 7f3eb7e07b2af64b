-- What comes next of the last bits, which are fewer than eight, filled up with ones.
use Rattle.std.proofs.Common.{◌≡◌, ℕ, zero, suc, ◌+◌, ◌-◌, ◌*◌, ◌/◌, ◌%◌, ◌^◌, ◌<◌, ◌≤◌, Bool, true, false, List, []}
use Rattle.std.proofs.Common.{◌∷◌, ◌++◌, length, Some, None, Ok, Err, refl, sym, ap, ◌∙◌, arith, append-nil, inl, inr}
use Rattle.std.specs.Prelude.{nat_lt, slice_index}
use Rattle.std.proofs.Math.Nat.{mod-eq_of_lt}
use Rattle.std.proofs.lemmas.Nat.{shr-shr, div-mul-add, pow_pos}
use Rattle.std.proofs.lemmas.List.{length-append}
use Rattle.qpack_spec.specs.Huffman.{HuffmanFault, MissingBits, bits_of, bits_of_bytes, ones, code_of}
use Rattle.qpack_spec.specs.Huffman.{bytes_by_length, code_at, is_padding, number_from}
use Rattle.qpack_spec.proofs.Results.{chosen, ok_pair}
use Rattle.qpack_spec.proofs.Bits.{bits_append, bits_length, ones_length, ones_number, number_bits}
use Rattle.qpack_spec.proofs.Codes.{code_read}
use Rattle.qpack_spec.proofs.Payloads.{ones_end, end_is}
use Rattle.qpack_base.specs.declared.prefix_string.bitwin.BitWindow.{BitWindow}
use Rattle.qpack_base.specs.declared.prefix_string.decoding.Bits.{Bits}
use Rattle.qpack_base.specs.declared.prefix_string.decoding.HuffmanDecodingError.{HuffmanDecodingError}
use Rattle.qpack_base.specs.HuffmanTables.{BeginsWithCode}
use Rattle.qpack_base.specs.Payloads.{huffman_fault_of, bits_left, KeepsRest, GivesItem}
use Rattle.qpack_base.proofs.Items.{kept, item_end, item_fault, item_code, begins_with}

-- eight bits of which the last are ones
abbrev pub filled : ℕ → ℕ → ℕ
filled count loaded = loaded * 2 ^ (8 - count) + (2 ^ (8 - count) - 1)

all_ones : (count loaded : ℕ) → count < 8 → filled count loaded ≡ 255 → loaded + 1 ≡ 2 ^ count
all_ones zero loaded h e = omega arith
all_ones (suc zero) loaded h e = omega arith
all_ones (suc (suc zero)) loaded h e = omega arith
all_ones (suc (suc (suc zero))) loaded h e = omega arith
all_ones (suc (suc (suc (suc zero)))) loaded h e = omega arith
all_ones (suc (suc (suc (suc (suc zero))))) loaded h e = omega arith
all_ones (suc (suc (suc (suc (suc (suc zero)))))) loaded h e = omega arith
all_ones (suc (suc (suc (suc (suc (suc (suc zero))))))) loaded h e = omega arith
all_ones (suc (suc (suc (suc (suc (suc (suc (suc n)))))))) loaded h e = absurd (omega arith)

ones_fill : (count loaded : ℕ) → count < 8 → loaded + 1 ≡ 2 ^ count → filled count loaded ≡ 255
ones_fill zero loaded h e = omega arith
ones_fill (suc zero) loaded h e = omega arith
ones_fill (suc (suc zero)) loaded h e = omega arith
ones_fill (suc (suc (suc zero))) loaded h e = omega arith
ones_fill (suc (suc (suc (suc zero)))) loaded h e = omega arith
ones_fill (suc (suc (suc (suc (suc zero))))) loaded h e = omega arith
ones_fill (suc (suc (suc (suc (suc (suc zero)))))) loaded h e = omega arith
ones_fill (suc (suc (suc (suc (suc (suc (suc zero))))))) loaded h e = omega arith
ones_fill (suc (suc (suc (suc (suc (suc (suc (suc n)))))))) loaded h e = absurd (omega arith)

pub filled_short : (count loaded : ℕ) → count < 8 → loaded < 2 ^ count → (filled count loaded ≡ 255 → ⊥)
    → filled count loaded < 254
filled_short zero loaded h f n = absurd (n (omega arith))
filled_short (suc zero) loaded h f n = omega arith
filled_short (suc (suc zero)) loaded h f n = omega arith
filled_short (suc (suc (suc zero))) loaded h f n = omega arith
filled_short (suc (suc (suc (suc zero)))) loaded h f n = omega arith
filled_short (suc (suc (suc (suc (suc zero))))) loaded h f n = omega arith
filled_short (suc (suc (suc (suc (suc (suc zero)))))) loaded h f n = omega arith
filled_short (suc (suc (suc (suc (suc (suc (suc zero))))))) loaded h f n = omega arith
filled_short (suc (suc (suc (suc (suc (suc (suc (suc n')))))))) loaded h f n = absurd (omega arith)

-- ---- the bits themselves

bits_alone : (b : Bits) → b.rest.now ≡ [] → bits_left b ≡ bits_of b.count b.loaded
bits_alone b e = ap (λ (l : List ℕ). bits_of b.count b.loaded ++ bits_of_bytes l) e
    ∙ append-nil (bits_of b.count b.loaded)

pub last_end : (old new : Bits) → old.count < 8 → old.rest.now ≡ [] → filled old.count old.loaded ≡ 255
    → bits_left new ≡ [] → GivesItem (bits_left old) None (bits_left new)
last_end old new few none e stop =
    let is = bits_alone old none ∙ ones_number old.count old.loaded (all_ones old.count old.loaded few e) in
    item_end (bits_left old) (bits_left new) (ap (is_padding 8) is ∙ ones_end old.count few) stop

-- fewer than eight ones are the end
pub is_the_end : (count loaded : ℕ) (rest : List ℕ) → count < 8 → length rest ≡ 0 → loaded + 1 ≡ 2 ^ count
    → is_padding 8 (bits_of count loaded ++ bits_of_bytes rest) ≡ true
is_the_end count loaded [] few none e =
    ap (is_padding 8) (append-nil (bits_of count loaded) ∙ ones_number count loaded e) ∙ ones_end count few
is_the_end count loaded (b ∷ rest) few none e = absurd (omega (arith, none))

-- bits that are no ones don't end a text
no_end : (count loaded : ℕ) → count < 8 → loaded < 2 ^ count → (filled count loaded ≡ 255 → ⊥)
    → is_padding 8 (bits_of count loaded) ≡ false
no_end count loaded few fits n = go (is_padding 8 (bits_of count loaded)) refl
  where
    go : (p : Bool) → is_padding 8 (bits_of count loaded) ≡ p → p ≡ false
    go true e =
        let q = end_is (bits_of count loaded) e in
        let k : q.count ≡ count = omega (arith, ap length q.is, ones_length q.count, bits_length count loaded) in
        let pos = pow_pos count in
        let all : bits_of count loaded ≡ bits_of count (2 ^ count - 1) = q.is ∙ ap ones k
        ∙ sym (ones_number count (2 ^ count - 1) (omega arith)) in
        let low = number_bits count 0 loaded in
        let high = number_bits count 0 (2 ^ count - 1) in
        let same = ap (number_from 0) all in
        let small : loaded % 2 ^ count ≡ loaded = mod-eq_of_lt fits in
        let big : (2 ^ count - 1) % 2 ^ count ≡ 2 ^ count - 1 = let lt : 2 ^ count - 1 < 2 ^ count = omega arith in
        mod-eq_of_lt lt in
        absurd (n (ones_fill count loaded few (omega arith)))
    go false e = refl

-- the highest n of the eight bits, where so many are no filling
highest : (count loaded n : ℕ) → n ≤ count → count < 8 → filled count loaded / 2 ^ (8 - n) ≡ loaded / 2 ^ (count - n)
highest count loaded n le few =
    let e : 8 - n ≡ 8 - count + (count - n) = omega arith in
    let pos = pow_pos (8 - count) in
    ap (λ (k : ℕ). filled count loaded / 2 ^ k) e ∙ sym (shr-shr (filled count loaded) (8 - count) (count - n))
    ∙ ap (λ (k : ℕ). k / 2 ^ (count - n)) (div-mul-add loaded (2 ^ (8 - count)) (2 ^ (8 - count) - 1) (omega arith))

pub last_code : (old new : Bits) (entry : ℕ × ℕ) (n : ℕ) → old.count < 8
    → BeginsWithCode (filled old.count old.loaded) entry → n ≡ entry.1 → n ≤ old.count → KeepsRest n old new
    → GivesItem (bits_left old) (Some (Ok entry.0)) (bits_left new)
last_code old new entry n few w e le k =
    let n' : n ≡ entry.1 = e in
    let is : code_of entry.0 ≡ bits_of n (old.loaded / 2 ^ (old.count - n)) =
    w.is ∙ ap (λ (m : ℕ). bits_of m (filled old.count old.loaded / 2 ^ (8 - m))) (sym e)
    ∙ ap (bits_of n) (highest old.count old.loaded n le few) in
    item_code (bits_left old) (bits_left new) entry.0 w.byte
    (begins_with old.count old.loaded n entry.0 (bits_of_bytes old.rest.now) le is
    ∙ ap (λ (l : List ℕ). code_of entry.0 ++ l) (sym (kept n old new k)))

-- a code that is cut is missing bits
cut_missing : (rs : List (List ℕ)) (number next b : ℕ) (bits tail : List ℕ)
    → code_at rs number next (bits ++ tail) ≡ Ok (b, []) → 0 < length tail
    → code_at rs number next bits ≡ Err MissingBits
unfolding code_at
cut_missing [] number next b bits tail e h = absurd cc
cut_missing (r ∷ rs) number next b [] tail e h = refl
cut_missing (r ∷ rs) number next b (bit ∷ bits) tail e h =
    elim (chosen (nat_lt (2 * number + bit) (2 * next + length r))
    (Ok (slice_index r (2 * number + bit - 2 * next), bits ++ tail))
    (code_at rs (2 * number + bit) (2 * next + length r) (bits ++ tail)) (Ok (b, [])) e) [
      | inl t ↦
          let p = ok_pair (slice_index r (2 * number + bit - 2 * next)) b (bits ++ tail) [] t.1 in
          absurd (omega (arith, length-append bits tail, ap length p.1))
      | inr t ↦ rw t.0 (cut_missing rs (2 * number + bit) (2 * next + length r) b bits tail t.1 h)
    ]

pub last_cut : (old new : Bits) (entry : ℕ × ℕ) (n : ℕ) (window : BitWindow) (error : HuffmanDecodingError)
    → old.count < 8 → old.loaded < 2 ^ old.count → old.rest.now ≡ [] → (filled old.count old.loaded ≡ 255 → ⊥)
    → BeginsWithCode (filled old.count old.loaded) entry → n ≡ entry.1 → old.count < n
    → huffman_fault_of error ≡ MissingBits → bits_left new ≡ []
    → GivesItem (bits_left old) (Some (Err error)) (bits_left new)
last_cut old new entry n window error few fits none not_all w e lt is stop =
    let count = old.count in
    let loaded = old.loaded in
    let m = entry.1 - count in
    let x = filled count loaded / 2 ^ (8 - entry.1) in
    let k : 8 - entry.1 + m ≡ 8 - count = omega (arith, w.most) in
    let pos = pow_pos (8 - count) in
    let head : x / 2 ^ m ≡ loaded =
    shr-shr (filled count loaded) (8 - entry.1) m ∙ ap (λ (j : ℕ). filled count loaded / 2 ^ j) k
    ∙ div-mul-add loaded (2 ^ (8 - count)) (2 ^ (8 - count) - 1) (omega arith) in
    let parts : code_of entry.0 ≡ bits_of count loaded ++ bits_of m x = w.is
    ∙ bits_append count m entry.1 x (omega arith) ∙ ap (λ (j : ℕ). bits_of count j ++ bits_of m x) head in
    let read = ap (code_at bytes_by_length 0 0) (sym parts) ∙ code_read entry.0 w.byte in
    let missing = cut_missing bytes_by_length 0 0 entry.0 (bits_of count loaded) (bits_of m x) read
    (omega (arith, bits_length m x)) in
    let alone = bits_alone old none in
    item_fault (bits_left old) (bits_left new) error (ap (is_padding 8) alone ∙ no_end count loaded few fits not_all)
    (ap (code_at bytes_by_length 0 0) alone ∙ missing ∙ ap (λ (f : HuffmanFault). Err f) (sym is)) stop
