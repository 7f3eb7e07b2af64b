-- Reading strings from left to right is the relation of literals and of their refusals.
use Rattle.std.proofs.Common.{◌≡◌, ℕ, ◌+◌, ◌-◌, ◌*◌, ◌/◌, ◌%◌, ◌≤◌, Bool, true, false, cond, List, [], ◌++◌, length}
use Rattle.std.proofs.Common.{take, drop, Result, Ok, Err, refl, sym, ap, subst, ◌∙◌, arith, append_assoc, inl, inr}
use Rattle.std.proofs.Common.{◌⊎◌}
use Rattle.std.specs.Prelude.{nat_lt, ◌==◌}
use Rattle.std.proofs.lemmas.Bool.{ltb-false, le-ltb, eqb-true}
use Rattle.std.proofs.lemmas.List.{take_at, drop_at, take-append-drop, length-take-le, length-append}
use Rattle.std.proofs.lemmas.List.{append_cancel_left}
use Rattle.qpack_spec.specs.Bytes.{Begins}
use Rattle.qpack_spec.specs.Integer.{IntegerFault, Overflow, UnexpectedEnd, SpellsInteger, OverflowsInteger, integer_at}
use Rattle.qpack_spec.specs.Huffman.{HuffmanFault, bits_of_bytes, PayloadMeans, PayloadMeansNothing, text_of_bits}
use Rattle.qpack_spec.specs.Text.{StringFault, EndsEarly, LengthOverflows, BadHuffman, IsLiteral, SpellsString}
use Rattle.qpack_spec.specs.Text.{RefusesString, TruncatesString, value_before, payload_at, string_behind, string_at}
use Rattle.qpack_spec.specs.TextLaws.{StringsHaveOneValue, NoStringBeginsAnother, ReadingFindsStrings}
use Rattle.qpack_spec.specs.TextLaws.{ReadingFindsRefusals, ReadingFindsTruncation}
use Rattle.qpack_spec.proofs.Results.{chosen, ok_triple}
use Rattle.qpack_spec.proofs.Bits.{bytes_bits, parts_same}
use Rattle.qpack_spec.proofs.Integers.{integer_takes, integer_again, integer_overflows, overflow_begins, none_begins}
use Rattle.qpack_spec.proofs.Integers.{one_value as one_integer}
use Rattle.qpack_spec.proofs.Payloads.{text_means, text_again}
use Rattle.qpack_spec.proofs.PayloadFaults.{fault_means, fault_again}

-- ---- payloads behind their length

abbrev meaning : Bool → List ℕ → Result (List ℕ) HuffmanFault
meaning plain payload = cond plain (Ok payload) (text_of_bits (bits_of_bytes payload))

record TakesPayload (fl len : ℕ) (bytes : List ℕ) : Type 0 where
  pub payload : List ℕ
  pub rest : List ℕ
  pub parts : bytes ≡ payload ++ rest
  pub size : len ≡ length payload

abbrev payload_taken : (fl len : ℕ) (bytes : List ℕ) → len ≤ length bytes → TakesPayload fl len bytes
payload_taken fl len bytes le = record {
  payload = take len bytes;
  rest = drop len bytes;
  parts = sym (take-append-drop len bytes);
  size = sym (length-take-le len bytes le);
}

-- what the payload says, under its flags
abbrev Says : ℕ → ℕ → List ℕ → List ℕ → Type 0
Says fl flags payload value =
    ((fl ≡ 2 * flags + 0) × (payload ≡ value)) ⊎ ((fl ≡ 2 * flags + 1) × PayloadMeans payload value)

says : (fl flags : ℕ) (payload value rest rest' : List ℕ) (plain : Bool) → (fl % 2 == 0) ≡ plain
    → value_before (fl / 2) rest (meaning plain payload) ≡ Ok (flags, value, rest')
    → Says fl flags payload value × (rest ≡ rest')
says fl flags payload value rest rest' true p e =
    let t = ok_triple (fl / 2) flags payload value rest rest' e in
    let z = eqb-true _ _ p in
    (inl (let f = t.0 in omega arith, t.1), t.2)
says fl flags payload value rest rest' false p e = coded (text_of_bits (bits_of_bytes payload)) refl e
  where
    odd : fl % 2 ≡ 0 → ⊥
    odd z = absurd (let q = ap (λ (m : ℕ). m == 0) z in cc)

    coded : (r : Result (List ℕ) HuffmanFault) → text_of_bits (bits_of_bytes payload) ≡ r
        → value_before (fl / 2) rest r ≡ Ok (flags, value, rest') → Says fl flags payload value × (rest ≡ rest')
    coded (Ok t) w h =
        let u = ok_triple (fl / 2) flags t value rest rest' h in (
          inr (
            let f = u.0 in let n = odd in omega arith,
            text_means (bits_of_bytes payload) value (bytes_bits payload) (w ∙ ap (λ (l : List ℕ). Ok l) u.1),
          ),
          u.2,
        )
    coded (Err f) w h = absurd cc

-- the value that a whole payload has, or its fault
payload_reads : (fl : ℕ) (payload rest : List ℕ)
    → payload_at fl (length payload) (payload ++ rest) ≡ value_before (fl / 2) rest (meaning (fl % 2 == 0) payload)
payload_reads fl payload rest =
    let le : length payload ≤ length (payload ++ rest) = omega (arith, length-append payload rest) in
    rw (le-ltb _ _ le, take_at payload rest (length payload) refl, drop_at payload rest (length payload) refl) refl

coded_flags : (flags : ℕ) → ((2 * flags + 1) / 2 ≡ flags) × ((2 * flags + 1) % 2 ≡ 1)
coded_flags flags = (omega arith, omega arith)

plain_flags : (flags : ℕ) → ((2 * flags + 0) / 2 ≡ flags) × ((2 * flags + 0) % 2 ≡ 0)
plain_flags flags = (omega arith, omega arith)

plain_reads : (flags : ℕ) (value rest : List ℕ)
    → payload_at (2 * flags + 0) (length value) (value ++ rest) ≡ Ok (flags, value, rest)
plain_reads flags value rest =
    let f = plain_flags flags in payload_reads (2 * flags + 0) value rest ∙ rw (f.0, f.1) refl

coded_reads : (flags : ℕ) (payload rest : List ℕ)
    → payload_at (2 * flags + 1) (length payload) (payload ++ rest)
    ≡ value_before flags rest (text_of_bits (bits_of_bytes payload))
coded_reads flags payload rest =
    let f = coded_flags flags in payload_reads (2 * flags + 1) payload rest ∙ rw (f.0, f.1) refl

-- ---- literals

pub record TakesString (n : ℕ) (bytes : List ℕ) (flags : ℕ) (value rest : List ℕ) : Type 0 where
  pub encoding : List ℕ
  pub parts : bytes ≡ encoding ++ rest
  pub spells : SpellsString n encoding flags value

literal : (n fl len flags : ℕ) (bytes value rest : List ℕ) (head : List ℕ) (t : TakesPayload fl len bytes)
    → SpellsInteger (n - 1) head fl len → Says fl flags t.payload value → t.rest ≡ rest
    → TakesString n (head ++ bytes) flags value rest
literal n fl len flags bytes value rest head t s says e = record {
  encoding = head ++ t.payload;
  parts = ap (λ (l : List ℕ). head ++ l) t.parts ∙ sym (append_assoc head t.payload t.rest)
      ∙ ap (λ (l : List ℕ). (head ++ t.payload) ++ l) e;
  spells = elim says [
    | inl p ↦ inl (record {
      head = head;
      parts = ap (λ (l : List ℕ). head ++ l) p.1;
      spells =
          subst (λ (f : ℕ). SpellsInteger (n - 1) head f (length value)) p.0
          (subst (λ (m : ℕ). SpellsInteger (n - 1) head fl m) (t.size ∙ ap (λ (l : List ℕ). length l) p.1) s);
    })
    | inr p ↦ inr (
      t.payload,
      record {
        head = head;
        parts = refl;
        spells =
            subst (λ (f : ℕ). SpellsInteger (n - 1) head f (length t.payload)) p.0
            (subst (λ (m : ℕ). SpellsInteger (n - 1) head fl m) t.size s);
      },
      p.1,
    )
  ];
}

-- what is read is spelled so
pub string_takes : (n : ℕ) (bytes : List ℕ) (flags : ℕ) (value rest : List ℕ)
    → string_at n bytes ≡ Ok (flags, value, rest) → TakesString n bytes flags value rest
unfolding string_at
string_takes n bytes flags value rest e = go (integer_at (n - 1) bytes) refl e
  where
    whole : (x : ℕ × ℕ × List ℕ) → integer_at (n - 1) bytes ≡ Ok x → x.1 ≤ length x.2
        → value_before (x.0 / 2) (drop x.1 x.2) (meaning (x.0 % 2 == 0) (take x.1 x.2)) ≡ Ok (flags, value, rest)
        → TakesString n bytes flags value rest
    whole x i le h =
        let t = payload_taken x.0 x.1 x.2 le in
        let s = says x.0 flags t.payload value t.rest rest (x.0 % 2 == 0) refl h in
        let k = integer_takes (n - 1) bytes x.0 x.1 x.2 i in
        subst (λ (l : List ℕ). TakesString n l flags value rest) (sym k.parts)
        (literal n x.0 x.1 flags x.2 value rest k.encoding t k.spells s.0 s.1)

    go : (r : Result (ℕ × ℕ × List ℕ) IntegerFault) → integer_at (n - 1) bytes ≡ r
        → string_behind r ≡ Ok (flags, value, rest) → TakesString n bytes flags value rest
    go (Err Overflow) i h = absurd cc
    go (Err UnexpectedEnd) i h = absurd cc
    go (Ok x) i h =
        elim (chosen (nat_lt (length x.2) x.1) (Err EndsEarly)
        (value_before (x.0 / 2) (drop x.1 x.2) (meaning (x.0 % 2 == 0) (take x.1 x.2))) (Ok (flags, value, rest))
        h) [
          | inl p ↦ absurd (let q = p.1 in cc)
          | inr p ↦ whole x i (ltb-false _ _ p.0) p.1
        ]

-- a whole literal is read by its length and its payload
behind : (n : ℕ) (encoding rest payload : List ℕ) (flags huffman : ℕ) → IsLiteral n encoding flags huffman payload
    → string_at n (encoding ++ rest) ≡ payload_at (2 * flags + huffman) (length payload) (payload ++ rest)
unfolding string_at
behind n encoding rest payload flags huffman l =
    let e : encoding ++ rest ≡ l.head ++ (payload ++ rest) =
    ap (λ (t : List ℕ). t ++ rest) l.parts ∙ append_assoc l.head payload rest in
    ap (λ (t : List ℕ). string_behind (integer_at (n - 1) t)) e
    ∙ ap string_behind (integer_again (n - 1) l.head (payload ++ rest) (2 * flags + huffman) (length payload) l.spells)

-- what is spelled so is read, whatever follows
pub string_again : (n : ℕ) (encoding rest : List ℕ) (flags : ℕ) (value : List ℕ) → SpellsString n encoding flags value
    → string_at n (encoding ++ rest) ≡ Ok (flags, value, rest)
string_again n encoding rest flags value (inl l) = behind n encoding rest value flags 0 l ∙ plain_reads flags value rest
string_again n encoding rest flags value (inr p) =
    behind n encoding rest p.0 flags 1 p.1 ∙ coded_reads flags p.0 rest
    ∙ ap (value_before flags rest) (text_again (bits_of_bytes p.0) value p.2)

-- ---- refusals

-- what is refused for a fault of its payload is read so, whatever follows
string_faulty : (n : ℕ) (encoding rest : List ℕ) (fault : HuffmanFault) → RefusesString n encoding (BadHuffman fault)
    → string_at n (encoding ++ rest) ≡ Err (BadHuffman fault)
string_faulty n encoding rest fault p =
    behind n encoding rest p.1 p.0 1 p.2 ∙ coded_reads p.0 p.1 rest
    ∙ ap (value_before p.0 rest) (fault_again (bits_of_bytes p.1) fault (bytes_bits p.1) p.3)

-- what is refused for its length is read so
string_overflows : (n : ℕ) (encoding rest : List ℕ) → RefusesString n encoding LengthOverflows
    → string_at n (encoding ++ rest) ≡ Err LengthOverflows
unfolding string_at
string_overflows n encoding rest o = ap string_behind (integer_overflows (n - 1) encoding rest o)

pub string_refused : (n : ℕ) (encoding rest : List ℕ) (fault : StringFault) → RefusesString n encoding fault
    → string_at n (encoding ++ rest) ≡ Err fault
string_refused n encoding rest EndsEarly r = absurd r
string_refused n encoding rest LengthOverflows r = string_overflows n encoding rest r
string_refused n encoding rest (BadHuffman f) r = string_faulty n encoding rest f r

-- a payload that is refused is coded, and means nothing
faults : (fl : ℕ) (payload rest : List ℕ) (fault : HuffmanFault) (plain : Bool) → (fl % 2 == 0) ≡ plain
    → value_before (fl / 2) rest (meaning plain payload) ≡ Err (BadHuffman fault)
    → (fl ≡ 2 * (fl / 2) + 1) × PayloadMeansNothing payload fault
faults fl payload rest fault true p e = absurd cc
faults fl payload rest fault false p e = coded (text_of_bits (bits_of_bytes payload)) refl e
  where
    odd : fl % 2 ≡ 0 → ⊥
    odd z = absurd (let q = ap (λ (m : ℕ). m == 0) z in cc)

    coded : (r : Result (List ℕ) HuffmanFault) → text_of_bits (bits_of_bytes payload) ≡ r
        → value_before (fl / 2) rest r ≡ Err (BadHuffman fault)
        → (fl ≡ 2 * (fl / 2) + 1) × PayloadMeansNothing payload fault
    coded (Ok t) w h = absurd cc
    coded (Err f) w h =
        let q : f ≡ fault = cc in (
          let n = odd in omega arith,
          fault_means (bits_of_bytes payload) fault (bytes_bits payload) (w
              ∙ ap (λ (g : HuffmanFault). Err g) q),
        )

refused_literal : (n fl len : ℕ) (bytes head : List ℕ) (fault : HuffmanFault) (t : TakesPayload fl len bytes)
    → SpellsInteger (n - 1) head fl len → (fl ≡ 2 * (fl / 2) + 1) × PayloadMeansNothing t.payload fault
    → Begins (λ encoding. RefusesString n encoding (BadHuffman fault)) (head ++ bytes)
refused_literal n fl len bytes head fault t s says = record {
  encoding = head ++ t.payload;
  rest = t.rest;
  parts = ap (λ (l : List ℕ). head ++ l) t.parts ∙ sym (append_assoc head t.payload t.rest);
  holds = (
    fl / 2,
    t.payload,
    record {
      head = head;
      parts = refl;
      spells =
          subst (λ (f : ℕ). SpellsInteger (n - 1) head f (length t.payload)) says.0
          (subst (λ (m : ℕ). SpellsInteger (n - 1) head fl m) t.size s);
    },
    says.1,
  );
}

-- a whole payload is refused for its own fault alone
only_bad : (flags : ℕ) (rest : List ℕ) (r : Result (List ℕ) HuffmanFault) (fault : StringFault)
    → value_before flags rest r ≡ Err fault → (f : HuffmanFault) × (fault ≡ BadHuffman f)
only_bad flags rest (Ok t) fault h = absurd cc
only_bad flags rest (Err f) fault h = (f, cc)

-- where a refusal is read, it stands at the front
pub refusal_begins : (n : ℕ) (bytes : List ℕ) (fault : StringFault) → string_at n bytes ≡ Err fault
    → (fault ≡ EndsEarly → ⊥) → Begins (λ encoding. RefusesString n encoding fault) bytes
unfolding string_at
refusal_begins n bytes fault e more = go (integer_at (n - 1) bytes) fault refl e more
  where
    payload : (x : ℕ × ℕ × List ℕ) (g : StringFault) → integer_at (n - 1) bytes ≡ Ok x → x.1 ≤ length x.2
        → value_before (x.0 / 2) (drop x.1 x.2) (meaning (x.0 % 2 == 0) (take x.1 x.2)) ≡ Err g
        → Begins (λ encoding. RefusesString n encoding g) bytes
    payload x (BadHuffman f) i le h =
        let t = payload_taken x.0 x.1 x.2 le in
        let s = faults x.0 t.payload t.rest f (x.0 % 2 == 0) refl h in
        let k = integer_takes (n - 1) bytes x.0 x.1 x.2 i in
        subst (λ (l : List ℕ). Begins (λ encoding. RefusesString n encoding (BadHuffman f)) l) (sym k.parts)
        (refused_literal n x.0 x.1 x.2 k.encoding f t k.spells s)
    payload x EndsEarly i le h =
        absurd (let b = only_bad (x.0 / 2) (drop x.1 x.2) (meaning (x.0 % 2 == 0) (take x.1 x.2)) EndsEarly h in
        let q = b.1 in cc)
    payload x LengthOverflows i le h =
        absurd (let b = only_bad (x.0 / 2) (drop x.1 x.2) (meaning (x.0 % 2 == 0) (take x.1 x.2)) LengthOverflows h in
        let q = b.1 in cc)

    go : (r : Result (ℕ × ℕ × List ℕ) IntegerFault) (g : StringFault) → integer_at (n - 1) bytes ≡ r
        → string_behind r ≡ Err g → (g ≡ EndsEarly → ⊥) → Begins (λ encoding. RefusesString n encoding g) bytes
    go (Err Overflow) LengthOverflows i h m = overflow_begins (n - 1) bytes i
    go (Err Overflow) EndsEarly i h m = absurd cc
    go (Err Overflow) (BadHuffman f) i h m = absurd cc
    go (Err UnexpectedEnd) g i h m = absurd (let q : g ≡ EndsEarly = cc in m q)
    go (Ok x) g i h m =
        elim (chosen (nat_lt (length x.2) x.1) (Err EndsEarly)
        (value_before (x.0 / 2) (drop x.1 x.2) (meaning (x.0 % 2 == 0) (take x.1 x.2))) (Err g) h) [
          | inl p ↦ absurd (let q : g ≡ EndsEarly = let r = p.1 in cc in m q)
          | inr p ↦ payload x g i (ltb-false _ _ p.0) p.1
        ]

end_truncated : (n : ℕ) (bytes : List ℕ) → string_at n bytes ≡ Err EndsEarly → TruncatesString n bytes
end_truncated n bytes e encoding rest parts = (
  λ flags value spells. absurd (let a = string_again n encoding rest flags value spells in
      let b = ap (string_at n) parts in cc),
  λ fault refuses. ended n encoding rest fault (sym (ap (string_at n) parts) ∙ e) refuses,
)
  where
    ended : (n : ℕ) (encoding rest : List ℕ) (fault : StringFault) → string_at n (encoding ++ rest) ≡ Err EndsEarly
        → RefusesString n encoding fault → ⊥
    ended n encoding rest EndsEarly e r = absurd r
    ended n encoding rest LengthOverflows e r = absurd (let a = string_refused n encoding rest LengthOverflows r in cc)
    ended n encoding rest (BadHuffman f) e r = absurd (let a = string_refused n encoding rest (BadHuffman f) r in cc)

truncated_end : (n : ℕ) (bytes : List ℕ) → TruncatesString n bytes → string_at n bytes ≡ Err EndsEarly
truncated_end n bytes t = go (string_at n bytes) refl
  where
    refuted : (fault : StringFault) → string_at n bytes ≡ Err fault → (fault ≡ EndsEarly → ⊥) → ⊥
    refuted fault e m = let k = refusal_begins n bytes fault e m in (t k.encoding k.rest k.parts).1 fault k.holds

    go : (r : Result (ℕ × List ℕ × List ℕ) StringFault) → string_at n bytes ≡ r → r ≡ Err EndsEarly
    go (Ok x) e = let k = string_takes n bytes x.0 x.1 x.2 e in absurd ((t k.encoding x.2 k.parts).0 x.0 x.1 k.spells)
    go (Err EndsEarly) e = refl
    go (Err LengthOverflows) e = absurd (refuted LengthOverflows e (λ q. cc))
    go (Err (BadHuffman f)) e = absurd (refuted (BadHuffman f) e (λ q. cc))

-- ---- the laws

pub reads_strings : ReadingFindsStrings
reads_strings n bytes flags value rest = (
  λ e. let t = string_takes n bytes flags value rest e in (t.encoding, t.parts, t.spells),
  λ p. ap (string_at n) p.1 ∙ string_again n p.0 rest flags value p.2,
)

pub reads_refusals : ReadingFindsRefusals
reads_refusals n bytes = (
  (
    λ e. refusal_begins n bytes LengthOverflows e (λ q. cc),
    λ b. ap (string_at n) b.parts ∙ string_refused n b.encoding b.rest LengthOverflows b.holds,
  ),
  λ fault. (
    λ e. refusal_begins n bytes (BadHuffman fault) e (λ q. cc),
    λ b. ap (string_at n) b.parts ∙ string_refused n b.encoding b.rest (BadHuffman fault) b.holds,
  ),
)

pub reads_truncation : ReadingFindsTruncation
reads_truncation n bytes = (end_truncated n bytes, truncated_end n bytes)

pub one_value : StringsHaveOneValue
one_value n encoding f g v w p q =
    let r = string_again n encoding [] f v p in
    let s = string_again n encoding [] g w q in
    let t = ok_triple f g v w [] [] (sym r ∙ s) in
    (t.0, t.1)

literals_same : (n f h g k : ℕ) (a b p q x y : List ℕ) → IsLiteral n a f h p → IsLiteral n b g k q → a ++ x ≡ b ++ y
    → a ≡ b
literals_same n f h g k a b p q x y l m e =
    let both : l.head ++ (p ++ x) ≡ m.head ++ (q ++ y) =
    sym (append_assoc l.head p x) ∙ ap (λ (t : List ℕ). t ++ x) (sym l.parts) ∙ e ∙ ap (λ (t : List ℕ). t ++ y) m.parts
    ∙ append_assoc m.head q y in
    let head =
    none_begins (n - 1) l.head m.head (p ++ x) (q ++ y) (inl (2 * f + h, length p, l.spells))
    (inl (2 * g + k, length q, m.spells)) both in
    let again = subst (λ (t : List ℕ). SpellsInteger (n - 1) t (2 * g + k) (length q)) (sym head) m.spells in
    let len = one_integer (n - 1) l.head (2 * f + h) (2 * g + k) (length p) (length q) l.spells again in
    let left = append_cancel_left l.head (p ++ x) (q ++ y) (both ∙ ap (λ (t : List ℕ). t ++ (q ++ y)) (sym head)) in
    let payload = parts_same p q x y len.1 left in
    l.parts ∙ ap (λ (t : List ℕ). t ++ p) head ∙ ap (λ (t : List ℕ). m.head ++ t) payload.0 ∙ sym m.parts

-- what ends a string: a whole literal, or the overflow of its length
abbrev Ends : ℕ → List ℕ → Type 0
Ends n encoding = ((flags : ℕ) × (huffman : ℕ) × (payload : List ℕ) × IsLiteral n encoding flags huffman payload)
    ⊎ OverflowsInteger (n - 1) encoding

ends : (n : ℕ) (encoding : List ℕ) → ((flags : ℕ) × (value : List ℕ) × SpellsString n encoding flags value)
    ⊎ ((fault : StringFault) × RefusesString n encoding fault) → Ends n encoding
ends n encoding (inl (flags, value, inl l)) = inl (flags, 0, value, l)
ends n encoding (inl (flags, value, inr p)) = inl (flags, 1, p.0, p.1)
ends n encoding (inr (EndsEarly, r)) = absurd r
ends n encoding (inr (LengthOverflows, r)) = inr r
ends n encoding (inr (BadHuffman f, r)) = inl (r.0, 1, r.1, r.2)

not_both : (n flags huffman : ℕ) (a b payload x y : List ℕ) → IsLiteral n a flags huffman payload
    → OverflowsInteger (n - 1) b → a ++ x ≡ b ++ y → ⊥
not_both n flags huffman a b payload x y l o e =
    let r = integer_again (n - 1) l.head (payload ++ x) (2 * flags + huffman) (length payload) l.spells in
    let s = integer_overflows (n - 1) b y o in
    let w : l.head ++ (payload ++ x) ≡ b ++ y =
    sym (append_assoc l.head payload x) ∙ ap (λ (t : List ℕ). t ++ x) (sym l.parts) ∙ e in
    absurd (let t = ap (integer_at (n - 1)) w in cc)

ends_same : (n : ℕ) (a b x y : List ℕ) → Ends n a → Ends n b → a ++ x ≡ b ++ y → a ≡ b
ends_same n a b x y (inl p) (inl q) e = literals_same n p.0 p.1 q.0 q.1 a b p.2 q.2 x y p.3 q.3 e
ends_same n a b x y (inl p) (inr o) e = absurd (not_both n p.0 p.1 a b p.2 x y p.3 o e)
ends_same n a b x y (inr o) (inl q) e = absurd (not_both n q.0 q.1 b a q.2 y x q.3 o (sym e))
ends_same n a b x y (inr o) (inr o') e = none_begins (n - 1) a b x y (inr o) (inr o') e

pub no_string_begins : NoStringBeginsAnother
no_string_begins n a b x y p q e = ends_same n a b x y (ends n a p) (ends n b q) e
