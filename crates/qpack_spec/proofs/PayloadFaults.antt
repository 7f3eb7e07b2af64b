-- Each fault of a payload comes exactly where its bits mean nothing.
use Rattle.std.proofs.Common.{◌≡◌, ℕ, zero, suc, ◌+◌, ◌-◌, ◌*◌, ◌^◌, ◌<◌, ◌≤◌, Bool, true, false, cond, List, [], ◌∷◌}
use Rattle.std.proofs.Common.{◌++◌, length, None, Result, Ok, Err, refl, sym, ap, subst, ◌∙◌, arith, append_assoc, inl}
use Rattle.std.proofs.Common.{inr}
use Rattle.std.specs.Prelude.{nat_lt, slice_index}
use Rattle.std.proofs.lemmas.Bool.{ltb-false}
use Rattle.std.proofs.lemmas.List.Concat.{flat_map-cons}
use Rattle.qpack_spec.specs.Huffman.{HuffmanFault, MissingBits, Unhandled, bytes_by_length, code_of, code_at}
use Rattle.qpack_spec.specs.Huffman.{is_padding, item_of, item_at, with_front, text_after, text_at, text_of_bits, ones}
use Rattle.qpack_spec.specs.Huffman.{number_from, bits_of_text, BitsMeanNothing}
use Rattle.qpack_spec.proofs.Results.{chosen}
use Rattle.qpack_spec.proofs.Bits.{AreBits, bits_behind, ones_number, bits_number, number_splits}
use Rattle.qpack_spec.proofs.CodeTable.{end_of, all_end, thirty_rows, ones_unhandled}
use Rattle.qpack_spec.proofs.Codes.{code_again, code_found, code_shorter}
use Rattle.qpack_spec.proofs.Payloads.{codes_read, end_is, ones_end}

-- ---- what runs through all rows begins with thirty ones

record PassesRows (rs : List (List ℕ)) (n next : ℕ) (bits : List ℕ) : Type 0 where
  text : List ℕ
  more : List ℕ
  parts : bits ≡ text ++ more
  are_bits : AreBits text
  len : length text ≡ length rs
  above : end_of rs next ≤ number_from n text

passes : (rs : List (List ℕ)) (n next : ℕ) (bits : List ℕ) → AreBits bits → next ≤ n
    → code_at rs n next bits ≡ Err Unhandled → PassesRows rs n next bits
unfolding code_at number_from
passes [] n next bits ok le e = record { text = []; more = bits; parts = refl; are_bits = tt; len = refl; above = le }
passes (r ∷ rs) n next [] ok le e = absurd cc
passes (r ∷ rs) n next (bit ∷ bits) ok le e =
    elim (chosen (nat_lt (2 * n + bit) (2 * next + length r)) (Ok (slice_index r (2 * n + bit - 2 * next), bits))
    (code_at rs (2 * n + bit) (2 * next + length r) bits) (Err Unhandled) e) [
      | inl h ↦ absurd (let q = h.1 in cc)
      | inr h ↦
          let t = passes rs (2 * n + bit) (2 * next + length r) bits ok.1 (ltb-false _ _ h.0) h.1 in
          record {
            text = bit ∷ t.text;
            more = t.more;
            parts = ap (λ (l : List ℕ). bit ∷ l) t.parts;
            are_bits = (ok.0, t.are_bits);
            len = ap suc t.len;
            above = t.above;
          }
    ]

-- the greatest number of so many bits has ones alone
greatest : (bits : List ℕ) → AreBits bits → 2 ^ length bits ≤ suc (number_from 0 bits) → bits ≡ ones (length bits)
greatest bits ok h =
    let t = number_splits 0 bits ok in
    sym (bits_number 0 bits ok) ∙ ones_number (length bits) (number_from 0 bits) (omega (arith, t.is, t.small))

unhandled_ones : (bits : List ℕ) → AreBits bits → code_at bytes_by_length 0 0 bits ≡ Err Unhandled
    → (more : List ℕ) × (bits ≡ ones 30 ++ more)
unhandled_ones bits ok e =
    let t = passes bytes_by_length 0 0 bits ok (omega arith) e in
    let len : length t.text ≡ 30 = t.len ∙ thirty_rows in
    let big : 2 ^ length t.text ≤ suc (number_from 0 t.text) = rw len (omega (arith, t.above, all_end)) in
    (t.more, t.parts ∙ ap (λ (l : List ℕ). l ++ t.more) (greatest t.text t.are_bits big ∙ ap ones len))

-- ---- what is read

fault_behind : (b : ℕ) (r : Result (List ℕ) HuffmanFault) (f : HuffmanFault) → with_front (b ∷ []) r ≡ Err f → r ≡ Err f
fault_behind b (Ok t) f e = absurd cc
fault_behind b (Err g) f e = cc

same_fault : (f g : HuffmanFault) (r : Result (ℕ × List ℕ) HuffmanFault) → r ≡ Err f → r ≡ Err g → f ≡ g
same_fault f g r p q = cc

here : (bits : List ℕ) (f : HuffmanFault) → AreBits bits → is_padding 8 bits ≡ false
    → code_at bytes_by_length 0 0 bits ≡ Err f → BitsMeanNothing bits f
here bits f ok p w = record {
  text = [];
  rest = bits;
  bytes = tt;
  parts = refl;
  no_code = λ b more h e. absurd (let a = ap (code_at bytes_by_length 0 0) e ∙ code_again b more h in cc);
  no_end = λ k h e. absurd (let a = ap (is_padding 8) e ∙ ones_end k h in cc);
  eos = (
    λ e. unhandled_ones bits ok (subst (λ (g : HuffmanFault). code_at bytes_by_length 0 0 bits ≡ Err g) e w),
    λ m. same_fault f Unhandled (code_at bytes_by_length 0 0 bits) w (ap (code_at bytes_by_length 0 0) m.1
        ∙ ones_unhandled m.0),
  );
}

later : (bits rest : List ℕ) (b : ℕ) (f : HuffmanFault) → b < 256 → bits ≡ code_of b ++ rest → BitsMeanNothing rest f
    → BitsMeanNothing bits f
later bits rest b f h e m = record {
  text = b ∷ m.text;
  rest = m.rest;
  bytes = (h, m.bytes);
  parts = e ∙ ap (λ (l : List ℕ). code_of b ++ l) m.parts ∙ sym (append_assoc (code_of b) (bits_of_text m.text) m.rest)
      ∙ ap (λ (l : List ℕ). l ++ m.rest) (sym (flat_map-cons code_of b m.text));
  no_code = m.no_code;
  no_end = m.no_end;
  eos = m.eos;
}

abbrev FaultsAt : ℕ → Type 0
FaultsAt k = (bits : List ℕ) (f : HuffmanFault) → length bits < k → AreBits bits → text_at k bits ≡ Err f
    → BitsMeanNothing bits f

fault_code : (k : ℕ) (bits : List ℕ) (f : HuffmanFault) (r : Result (ℕ × List ℕ) HuffmanFault) → FaultsAt k
    → length bits < suc k → AreBits bits → is_padding 8 bits ≡ false
    → code_at bytes_by_length 0 0 bits ≡ r → text_after (item_of r).0 (text_at k (item_of r).1) ≡ Err f
    → BitsMeanNothing bits f
fault_code k bits f (Ok x) ih lt ok p w h =
    let t = code_found bits x.0 x.1 ok w in
    let s = code_shorter bytes_by_length 0 0 bits x.1 x.0 w in
    let left = bits_behind (code_of x.0) x.1 (subst AreBits t.parts ok) in
    later bits x.1 x.0 f t.byte t.parts (ih x.1 f (omega arith) left (fault_behind x.0 (text_at k x.1) f h))
fault_code k bits f (Err g) ih lt ok p w h =
    here bits f ok p (let q : g ≡ f = cc in w ∙ ap (λ (x : HuffmanFault). Err x) q)

fault_item : (k : ℕ) (bits : List ℕ) (f : HuffmanFault) (p : Bool) → FaultsAt k → length bits < suc k → AreBits bits
    → is_padding 8 bits ≡ p
    → text_after (cond p (None, []) (item_of (code_at bytes_by_length 0 0 bits))).0
    (text_at k (cond p (None, []) (item_of (code_at bytes_by_length 0 0 bits))).1) ≡ Err f → BitsMeanNothing bits f
fault_item k bits f true ih lt ok p h = absurd cc
fault_item k bits f false ih lt ok p h = fault_code k bits f (code_at bytes_by_length 0 0 bits) ih lt ok p refl h

text_faulty : (k : ℕ) (bits : List ℕ) (f : HuffmanFault) → length bits < k → AreBits bits → text_at k bits ≡ Err f
    → BitsMeanNothing bits f
unfolding text_at item_at
text_faulty zero bits f lt ok e = absurd (omega arith)
text_faulty (suc k) bits f lt ok e = fault_item k bits f (is_padding 8 bits) (text_faulty k) lt ok refl e

-- where a fault is read, the bits mean nothing
pub fault_means : (bits : List ℕ) (f : HuffmanFault) → AreBits bits → text_of_bits bits ≡ Err f → BitsMeanNothing bits f
unfolding text_of_bits
fault_means bits f ok e = text_faulty (suc (length bits)) bits f (omega arith) ok e

-- ---- what means nothing is refused

no_end_read : (bits : List ℕ) → ((k : ℕ) → k < 8 → bits ≡ ones k → ⊥) → is_padding 8 bits ≡ false
no_end_read bits never = go (is_padding 8 bits) refl
  where
    go : (p : Bool) → is_padding 8 bits ≡ p → p ≡ false
    go true e = let q = end_is bits e in absurd (never q.count q.few q.is)
    go false e = refl

at_rest : (rest : List ℕ) (f : HuffmanFault) → AreBits rest
    → ((b : ℕ) (more : List ℕ) → b < 256 → rest ≡ code_of b ++ more → ⊥)
    → (f ≡ Unhandled → (more : List ℕ) × (rest ≡ ones 30 ++ more))
    → ((more : List ℕ) × (rest ≡ ones 30 ++ more) → f ≡ Unhandled) → code_at bytes_by_length 0 0 rest ≡ Err f
at_rest rest f ok never u m = go (code_at bytes_by_length 0 0 rest) f refl u m
  where
    go : (r : Result (ℕ × List ℕ) HuffmanFault) (g : HuffmanFault) → code_at bytes_by_length 0 0 rest ≡ r
        → (g ≡ Unhandled → (more : List ℕ) × (rest ≡ ones 30 ++ more))
        → ((more : List ℕ) × (rest ≡ ones 30 ++ more) → g ≡ Unhandled) → r ≡ Err g
    go (Ok x) g e u m = let t = code_found rest x.0 x.1 ok e in absurd (never x.0 x.1 t.byte t.parts)
    go (Err MissingBits) MissingBits e u m = refl
    go (Err Unhandled) Unhandled e u m = refl
    go (Err MissingBits) Unhandled e u m =
        let o = u refl in
        absurd (let a = ap (code_at bytes_by_length 0 0) o.1 ∙ ones_unhandled o.0 in
        let q = same_fault MissingBits Unhandled (code_at bytes_by_length 0 0 rest) e a in cc)
    go (Err Unhandled) MissingBits e u m = absurd (let q = m (unhandled_ones rest ok e) in cc)

fault_read : (k : ℕ) (bits : List ℕ) (f : HuffmanFault) → length bits < k → is_padding 8 bits ≡ false
    → code_at bytes_by_length 0 0 bits ≡ Err f → text_at k bits ≡ Err f
unfolding text_at item_at
fault_read zero bits f lt p w = absurd (omega arith)
fault_read (suc k) bits f lt p w = rw (p, w) refl

-- bits that mean nothing are refused for that fault
pub fault_again : (bits : List ℕ) (f : HuffmanFault) → AreBits bits → BitsMeanNothing bits f → text_of_bits bits ≡ Err f
unfolding text_of_bits
fault_again bits f ok m =
    let t = codes_read (suc (length bits)) m.text m.rest bits (omega arith) m.bytes m.parts in
    let rest = bits_behind (bits_of_text m.text) m.rest (subst AreBits m.parts ok) in
    let w = at_rest m.rest f rest m.no_code m.eos.0 m.eos.1 in
    t.is ∙ ap (with_front m.text) (fault_read t.left m.rest f t.enough (no_end_read m.rest m.no_end) w)
