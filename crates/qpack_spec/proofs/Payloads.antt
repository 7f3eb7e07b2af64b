-- Reading a payload's bits from left to right gives the text that they mean, and no other.
use Rattle.std.proofs.Common.{◌≡◌, ℕ, zero, suc, ◌<◌, Bool, true, false, cond, List, [], ◌∷◌, ◌++◌, length, None}
use Rattle.std.proofs.Common.{Result, Ok, Err, refl, sym, ap, subst, ◌∙◌, arith, append_assoc, append-nil, inl, inr}
use Rattle.std.specs.Prelude.{◌==◌}
use Rattle.std.proofs.lemmas.Bool.{eqb-true}
use Rattle.std.proofs.lemmas.List.Concat.{flat_map-cons}
use Rattle.qpack_spec.specs.Huffman.{HuffmanFault, MissingBits, bytes_by_length, code_of, code_at, is_padding, item_of}
use Rattle.qpack_spec.specs.Huffman.{item_at, with_front, text_after, text_at, text_of_bits, ones, AreBytes}
use Rattle.qpack_spec.specs.Huffman.{bits_of_text, BitsMean}
use Rattle.qpack_spec.proofs.Results.{chosen, ok_is}
use Rattle.qpack_spec.proofs.Bits.{AreBits, AreOnes, bits_behind, ones_are, ones_all, ones_length}
use Rattle.qpack_spec.proofs.CodeTable.{ones_missing}
use Rattle.qpack_spec.proofs.Codes.{code_again, code_found, code_shorter}

-- ---- padding

pad_is : (k : ℕ) (bits : List ℕ) → is_padding k bits ≡ true → (length bits < k) × AreOnes bits
unfolding is_padding
pad_is zero bits e = absurd cc
pad_is (suc k) [] e = (omega arith, tt)
pad_is (suc k) (b ∷ bs) e =
    elim (chosen (b == 1) (is_padding k bs) false true e) [
      | inl h ↦ let p = pad_is k bs h.1 in (omega (arith, p.0), (eqb-true _ _ h.0, p.1))
      | inr h ↦ absurd (let q = h.1 in cc)
    ]

pad_again : (k : ℕ) (bits : List ℕ) → length bits < k → AreOnes bits → is_padding k bits ≡ true
unfolding is_padding
pad_again zero bits lt o = absurd (omega arith)
pad_again (suc k) [] lt o = refl
pad_again (suc k) (b ∷ bs) lt o = rw (o.0, pad_again k bs (omega arith) o.1) refl

-- fewer than eight ones are the end
pub ones_end : (k : ℕ) → k < 8 → is_padding 8 (ones k) ≡ true
ones_end k h = pad_again 8 (ones k) (omega (arith, ones_length k)) (ones_all k)

pub record IsEnd (bits : List ℕ) : Type 0 where
  pub count : ℕ
  pub few : count < 8
  pub is : bits ≡ ones count

pub end_is : (bits : List ℕ) → is_padding 8 bits ≡ true → IsEnd bits
end_is bits e = let p = pad_is 8 bits e in record { count = length bits; few = p.0; is = ones_are bits p.1 }

pad_missing : (bits : List ℕ) → is_padding 8 bits ≡ true → code_at bytes_by_length 0 0 bits ≡ Err MissingBits
pad_missing bits e = let p = end_is bits e in ap (code_at bytes_by_length 0 0) p.is ∙ ones_missing p.count p.few

-- what begins with a code is not the end
pub code_no_end : (bits : List ℕ) (b : ℕ) (rest : List ℕ) → code_at bytes_by_length 0 0 bits ≡ Ok (b, rest)
    → is_padding 8 bits ≡ false
code_no_end bits b rest e = go (is_padding 8 bits) refl
  where
    go : (p : Bool) → is_padding 8 bits ≡ p → p ≡ false
    go true h = absurd (let m = pad_missing bits h in cc)
    go false h = refl

-- ---- texts

front_is : (b : ℕ) (r : Result (List ℕ) HuffmanFault) (text : List ℕ) → with_front (b ∷ []) r ≡ Ok text
    → (t : List ℕ) × (r ≡ Ok t) × (b ∷ t ≡ text)
front_is b (Ok t) text e = (t, refl, ok_is (b ∷ t) text e)
front_is b (Err f) text e = absurd cc

-- a code, and then bits that mean a text
more_text : (bits rest text : List ℕ) (b : ℕ) → b < 256 → bits ≡ code_of b ++ rest → BitsMean rest text
    → BitsMean bits (b ∷ text)
more_text bits rest text b h e m = record {
  bytes = (h, m.bytes);
  padding = m.padding;
  few = m.few;
  parts = e ∙ ap (λ (l : List ℕ). code_of b ++ l) m.parts
      ∙ sym (append_assoc (code_of b) (bits_of_text text) (ones m.padding))
      ∙ ap (λ (l : List ℕ). l ++ ones m.padding) (sym (flat_map-cons code_of b text));
}

abbrev TakesAt : ℕ → Type 0
TakesAt k = (bits text : List ℕ) → length bits < k → AreBits bits → text_at k bits ≡ Ok text → BitsMean bits text

at_code : (k : ℕ) (bits text : List ℕ) (r : Result (ℕ × List ℕ) HuffmanFault) → TakesAt k → length bits < suc k
    → AreBits bits → code_at bytes_by_length 0 0 bits ≡ r
    → text_after (item_of r).0 (text_at k (item_of r).1) ≡ Ok text → BitsMean bits text
at_code k bits text (Ok x) ih lt ok w h =
    let f = front_is x.0 (text_at k x.1) text h in
    let t = code_found bits x.0 x.1 ok w in
    let s = code_shorter bytes_by_length 0 0 bits x.1 x.0 w in
    let left = bits_behind (code_of x.0) x.1 (subst AreBits t.parts ok) in
    subst (BitsMean bits) f.2 (more_text bits x.1 f.0 x.0 t.byte t.parts (ih x.1 f.0 (omega arith) left f.1))
at_code k bits text (Err f) ih lt ok w h = absurd cc

at_item : (k : ℕ) (bits text : List ℕ) (p : Bool) → TakesAt k → length bits < suc k → AreBits bits
    → is_padding 8 bits ≡ p
    → text_after (cond p (None, []) (item_of (code_at bytes_by_length 0 0 bits))).0
    (text_at k (cond p (None, []) (item_of (code_at bytes_by_length 0 0 bits))).1) ≡ Ok text
    → BitsMean bits text
at_item k bits text true ih lt ok p h =
    let q = end_is bits p in
    subst (BitsMean bits) (ok_is [] text h) (record { bytes = tt; padding = q.count; few = q.few; parts = q.is })
at_item k bits text false ih lt ok p h = at_code k bits text (code_at bytes_by_length 0 0 bits) ih lt ok refl h

text_takes : (k : ℕ) (bits text : List ℕ) → length bits < k → AreBits bits → text_at k bits ≡ Ok text
    → BitsMean bits text
unfolding text_at item_at
text_takes zero bits text lt ok e = absurd (omega arith)
text_takes (suc k) bits text lt ok e = at_item k bits text (is_padding 8 bits) (text_takes k) lt ok refl e

-- what is read is what the bits mean
pub text_means : (bits text : List ℕ) → AreBits bits → text_of_bits bits ≡ Ok text → BitsMean bits text
unfolding text_of_bits
text_means bits text ok e = text_takes (suc (length bits)) bits text (omega arith) ok e

-- The codes of a text in front of a rest are read, and then the rest.
pub record ReadsOn (k : ℕ) (text rest bits : List ℕ) : Type 0 where
  pub left : ℕ
  pub enough : length rest < left
  pub is : text_at k bits ≡ with_front text (text_at left rest)

fronts_join : (b : ℕ) (text : List ℕ) (r : Result (List ℕ) HuffmanFault)
    → with_front (b ∷ []) (with_front text r) ≡ with_front (b ∷ text) r
fronts_join b text (Ok t) = refl
fronts_join b text (Err f) = refl

front_none : (r : Result (List ℕ) HuffmanFault) → r ≡ with_front [] r
front_none (Ok t) = refl
front_none (Err f) = refl

code_step : (k b : ℕ) (bits rest : List ℕ) → is_padding 8 bits ≡ false
    → code_at bytes_by_length 0 0 bits ≡ Ok (b, rest) → text_at (suc k) bits ≡ with_front (b ∷ []) (text_at k rest)
unfolding text_at item_at
code_step k b bits rest p e = rw (p, e) refl

pub codes_read : (k : ℕ) (text rest bits : List ℕ) → length bits < k → AreBytes text → bits ≡ bits_of_text text ++ rest
    → ReadsOn k text rest bits
codes_read zero text rest bits lt ok e = absurd (omega arith)
codes_read (suc k) [] rest bits lt ok e =
    record {
      left = suc k;
      enough = omega (arith, ap length e);
      is = ap (text_at (suc k)) e
          ∙ front_none (text_at (suc k) rest);
    }
codes_read (suc k) (b ∷ text) rest bits lt ok e =
    let parts : bits ≡ code_of b ++ (bits_of_text text ++ rest) =
    e ∙ ap (λ (l : List ℕ). l ++ rest) (flat_map-cons code_of b text)
    ∙ append_assoc (code_of b) (bits_of_text text) rest in
    let read : code_at bytes_by_length 0 0 bits ≡ Ok (b, bits_of_text text ++ rest) =
    ap (code_at bytes_by_length 0 0) parts ∙ code_again b (bits_of_text text ++ rest) ok.0 in
    let shorter = code_shorter bytes_by_length 0 0 bits (bits_of_text text ++ rest) b read in
    let t = codes_read k text rest (bits_of_text text ++ rest) (omega arith) ok.1 refl in
    record {
      left = t.left;
      enough = t.enough;
      is = code_step k b bits (bits_of_text text ++ rest) (code_no_end bits b (bits_of_text text ++ rest) read) read
          ∙ ap (with_front (b ∷ [])) t.is ∙ fronts_join b text (text_at t.left rest);
    }

end_read : (k : ℕ) (bits : List ℕ) → length bits < k → is_padding 8 bits ≡ true → text_at k bits ≡ Ok []
unfolding text_at item_at
end_read zero bits lt e = absurd (omega arith)
end_read (suc k) bits lt e = rw e refl

-- what the bits mean is read
pub text_again : (bits text : List ℕ) → BitsMean bits text → text_of_bits bits ≡ Ok text
unfolding text_of_bits
text_again bits text m =
    let t = codes_read (suc (length bits)) text (ones m.padding) bits (omega arith) m.bytes m.parts in
    let e = end_read t.left (ones m.padding) t.enough (ones_end m.padding m.few) in
    t.is ∙ ap (with_front text) e ∙ ap (λ (l : List ℕ). Ok l) (append-nil text)
