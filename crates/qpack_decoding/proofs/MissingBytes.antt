-- What is read of bytes of which none is missing is read the same with more bytes behind, and what waits never holds it.
use Rattle.std.proofs.Common.{◌≡◌, ℕ, ◌-◌, ◌/◌, ◌≤◌, Bool, true, false, cond, List, ◌++◌}
use Rattle.std.proofs.Common.{length, take, drop, Option, None, Some, Result, Ok, Err, refl, sym, ap, ◌∙◌, arith}
use Rattle.std.proofs.Common.{append_assoc, length-append}
use Rattle.std.specs.Prelude.{nat_lt}
use Rattle.std.proofs.lemmas.Bool.{ltb-true, ltb-false, le-ltb}
use Rattle.std.proofs.lemmas.List.{drop-append-le}
use Rattle.qpack_spec.specs.Bytes.{◌>>=◌}
use Rattle.qpack_spec.specs.Integer.{IntegerFault, Overflow, UnexpectedEnd, integer_at}
use Rattle.qpack_spec.specs.Huffman.{HuffmanFault}
use Rattle.qpack_spec.specs.Text.{StringFault, EndsEarly, LengthOverflows, BadHuffman, value_before, string_behind, string_at}
use Rattle.qpack_spec.specs.Form.{FormFault, BadInteger, BadString, is_cut, Form, Index, IndexAndValue, NameAndValue}
use Rattle.qpack_spec.specs.Form.{or_bad_integer, or_bad_string, value_at, made_at}
use Rattle.qpack_spec.proofs.Integers.{integer_overflows, overflow_begins}
use Rattle.qpack_spec.proofs.Forms.{made_takes, made_again, made_refused, made_refusal}
use Rattle.qpack_rules.proofs.Waiting.{reads_integer, string_cut, string_whole, meaning_of}
use Rattle.qpack_decoding.specs.Missing.{fault_missing, integer_missing, string_missing, missing_behind_index}
use Rattle.qpack_decoding.specs.Missing.{missing_behind_name, form_missing}

-- ---- none is missing: what can't be read does not end early

string_not_cut : (n : ℕ) (bytes : List ℕ) (f : StringFault) → string_missing (integer_at (n - 1) bytes) ≡ 0
    → string_at n bytes ≡ Err f → is_cut (BadString f) ≡ false
unfolding string_at
string_not_cut n bytes f none e = go (integer_at (n - 1) bytes) refl none
  where
    meant : (flags : ℕ) (rest : List ℕ) (r : Result (List ℕ) HuffmanFault) → value_before flags rest r ≡ Err f
        → is_cut (BadString f) ≡ false
    meant flags rest (Ok text) q = absurd cc
    meant flags rest (Err h) q = let same : BadHuffman h ≡ f = cc in ap (λ (x : StringFault). is_cut (BadString x)) (sym same)

    go : (r : Result (ℕ × ℕ × List ℕ) IntegerFault) → integer_at (n - 1) bytes ≡ r → string_missing r ≡ 0
        → is_cut (BadString f) ≡ false
    go (Err Overflow) q h =
        let same : LengthOverflows ≡ f = (let k = sym (ap string_behind q) ∙ e in cc) in
        ap (λ (x : StringFault). is_cut (BadString x)) (sym same)
    go (Err UnexpectedEnd) q h = absurd cc
    go (Ok x) q h =
        meant (x.0 / 2) (drop x.1 x.2) (meaning_of x.0 (take x.1 x.2)) (sym (string_whole n bytes x q (omega (arith, h))) ∙ e)

value_not_cut : {L : Type 0} (make : List ℕ → L) (bytes : List ℕ) (e : FormFault)
    → string_missing (integer_at 7 bytes) ≡ 0 → value_at make bytes ≡ Err e → is_cut e ≡ false
value_not_cut {L} make bytes e none h = go (string_at 8 bytes) refl h
  where
    go : (r : Result (ℕ × List ℕ × List ℕ) StringFault) → string_at 8 bytes ≡ r
        → (or_bad_string r >>= λ v. (let x : Result (L × List ℕ) FormFault = Ok (make v.1, v.2) in x)) ≡ Err e
        → is_cut e ≡ false
    go (Ok v) q k = absurd cc
    go (Err f) q k =
        let same : BadString f ≡ e = cc in ap is_cut (sym same) ∙ string_not_cut 8 bytes f none q

integer_not_cut : (r : Result (ℕ × ℕ × List ℕ) IntegerFault) (e : IntegerFault) → r ≡ Err e → fault_missing e ≡ 0
    → is_cut (BadInteger e) ≡ false
integer_not_cut r Overflow q h = refl
integer_not_cut r UnexpectedEnd q h = absurd cc

pub form_not_cut : {L : Type 0} (form : Form L) (bytes : List ℕ) (e : FormFault) → form_missing (Some form) bytes ≡ 0
    → made_at form bytes ≡ Err e → is_cut e ≡ false
unfolding made_at string_at
form_not_cut {L} (Index n make) bytes e none h = go (integer_at n bytes) none h
  where
    go : (r : Result (ℕ × ℕ × List ℕ) IntegerFault) → integer_missing r ≡ 0
        → (or_bad_integer r >>= λ i. (let x : Result (L × List ℕ) FormFault = Ok (make i.1, i.2) in x)) ≡ Err e
        → is_cut e ≡ false
    go (Ok i) k q = absurd cc
    go (Err f) k q = let same : BadInteger f ≡ e = cc in ap is_cut (sym same) ∙ integer_not_cut (Err f) f refl k
form_not_cut {L} (IndexAndValue n make) bytes e none h = go (integer_at n bytes) none h
  where
    go : (r : Result (ℕ × ℕ × List ℕ) IntegerFault) → missing_behind_index r ≡ 0
        → (or_bad_integer r >>= λ i. value_at (make i.1) i.2) ≡ Err e → is_cut e ≡ false
    go (Ok i) k q = value_not_cut (make i.1) i.2 e k q
    go (Err f) k q = let same : BadInteger f ≡ e = cc in ap is_cut (sym same) ∙ integer_not_cut (Err f) f refl k
form_not_cut {L} (NameAndValue n make) bytes e none h = go (integer_at (n - 1) bytes) refl none
  where
    -- by what the name is
    named : (r : Result (ℕ × List ℕ × List ℕ) StringFault) → string_at n bytes ≡ r
        → (or_bad_string r >>= λ m. value_at (make m.1) m.2) ≡ Err e
    named r q = ap (λ (x : Result (ℕ × List ℕ × List ℕ) StringFault). or_bad_string x >>= λ m. value_at (make m.1) m.2) (sym q) ∙ h

    bad : (f : StringFault) → string_at n bytes ≡ Err f → is_cut (BadString f) ≡ false → is_cut e ≡ false
    bad f q c = let k = named (Err f) q in let same : BadString f ≡ e = cc in ap is_cut (sym same) ∙ c

    meant : (flags : ℕ) (rest : List ℕ) (r : Result (List ℕ) HuffmanFault) → string_at n bytes ≡ value_before flags rest r
        → string_missing (integer_at 7 rest) ≡ 0 → is_cut e ≡ false
    meant flags rest (Ok text) q z = value_not_cut (make text) rest e z (named (Ok (flags, text, rest)) q)
    meant flags rest (Err f) q z = bad (BadHuffman f) q refl

    go : (r : Result (ℕ × ℕ × List ℕ) IntegerFault) → integer_at (n - 1) bytes ≡ r → missing_behind_name r ≡ 0
        → is_cut e ≡ false
    go (Err Overflow) q k = bad LengthOverflows (ap string_behind q) refl
    go (Err UnexpectedEnd) q k = absurd cc
    go (Ok x) q k = pick (nat_lt (length x.2) x.1) refl k
      where
        pick : (b : Bool) → nat_lt (length x.2) x.1 ≡ b
            → cond b (x.1 - length x.2) (string_missing (integer_at 7 (drop x.1 x.2))) ≡ 0 → is_cut e ≡ false
        pick true p z = absurd (omega (arith, ltb-true _ _ p, z))
        pick false p z =
            meant (x.0 / 2) (drop x.1 x.2) (meaning_of x.0 (take x.1 x.2)) (string_whole n bytes x q (ltb-false _ _ p)) z

-- ---- none is missing: nor is any with more bytes behind

pub integer_fault_more : (n : ℕ) (bytes more : List ℕ) → integer_at n bytes ≡ Err Overflow
    → integer_at n (bytes ++ more) ≡ Err Overflow
integer_fault_more n bytes more e =
    let b = overflow_begins n bytes e in
    ap (λ (x : List ℕ). integer_at n (x ++ more)) b.parts ∙ ap (integer_at n) (append_assoc b.encoding b.rest more)
    ∙ integer_overflows n b.encoding (b.rest ++ more) b.holds

pub integer_missing_more : (n : ℕ) (bytes more : List ℕ) → integer_missing (integer_at n bytes) ≡ 0
    → integer_missing (integer_at n (bytes ++ more)) ≡ 0
integer_missing_more n bytes more none = go (integer_at n bytes) refl none
  where
    go : (r : Result (ℕ × ℕ × List ℕ) IntegerFault) → integer_at n bytes ≡ r → integer_missing r ≡ 0
        → integer_missing (integer_at n (bytes ++ more)) ≡ 0
    go (Ok x) q h = ap integer_missing ((reads_integer n bytes x q).again more)
    go (Err Overflow) q h = ap integer_missing (integer_fault_more n bytes more q)
    go (Err UnexpectedEnd) q h = absurd cc

string_missing_more : (n : ℕ) (bytes more : List ℕ) → string_missing (integer_at n bytes) ≡ 0
    → string_missing (integer_at n (bytes ++ more)) ≡ 0
string_missing_more n bytes more none = go (integer_at n bytes) refl none
  where
    go : (r : Result (ℕ × ℕ × List ℕ) IntegerFault) → integer_at n bytes ≡ r → string_missing r ≡ 0
        → string_missing (integer_at n (bytes ++ more)) ≡ 0
    go (Ok x) q h =
        ap string_missing ((reads_integer n bytes x q).again more) ∙ omega (arith, h, length-append x.2 more)
    go (Err Overflow) q h = ap string_missing (integer_fault_more n bytes more q)
    go (Err UnexpectedEnd) q h = absurd cc

pub form_missing_more : {L : Type 0} (o : Option (Form L)) (bytes more : List ℕ) → form_missing o bytes ≡ 0
    → form_missing o (bytes ++ more) ≡ 0
form_missing_more None bytes more none = absurd (omega (arith, none))
form_missing_more (Some (Index n make)) bytes more none = integer_missing_more n bytes more none
form_missing_more (Some (IndexAndValue n make)) bytes more none = go (integer_at n bytes) refl none
  where
    go : (r : Result (ℕ × ℕ × List ℕ) IntegerFault) → integer_at n bytes ≡ r → missing_behind_index r ≡ 0
        → missing_behind_index (integer_at n (bytes ++ more)) ≡ 0
    go (Ok x) q h =
        ap missing_behind_index ((reads_integer n bytes x q).again more) ∙ string_missing_more 7 x.2 more h
    go (Err Overflow) q h = ap missing_behind_index (integer_fault_more n bytes more q)
    go (Err UnexpectedEnd) q h = absurd cc
form_missing_more (Some (NameAndValue n make)) bytes more none = go (integer_at (n - 1) bytes) refl none
  where
    go : (r : Result (ℕ × ℕ × List ℕ) IntegerFault) → integer_at (n - 1) bytes ≡ r → missing_behind_name r ≡ 0
        → missing_behind_name (integer_at (n - 1) (bytes ++ more)) ≡ 0
    go (Ok x) q h = pick (nat_lt (length x.2) x.1) refl h
      where
        pick : (b : Bool) → nat_lt (length x.2) x.1 ≡ b
            → cond b (x.1 - length x.2) (string_missing (integer_at 7 (drop x.1 x.2))) ≡ 0
            → missing_behind_name (integer_at (n - 1) (bytes ++ more)) ≡ 0
        pick true p z = absurd (omega (arith, ltb-true _ _ p, z))
        pick false p z =
            let fits : x.1 ≤ length x.2 = ltb-false _ _ p in
            let longer : x.1 ≤ length (x.2 ++ more) = omega (arith, fits, length-append x.2 more) in
            ap missing_behind_name ((reads_integer (n - 1) bytes x q).again more)
            ∙ rw (le-ltb (length (x.2 ++ more)) x.1 longer, drop-append-le x.1 x.2 more fits)
            (string_missing_more 7 (drop x.1 x.2) more z)
    go (Err Overflow) q h = ap missing_behind_name (integer_fault_more (n - 1) bytes more q)
    go (Err UnexpectedEnd) q h = absurd cc

-- ---- what was read has all its bytes

string_has_all : (n : ℕ) (bytes : List ℕ) (v : ℕ × List ℕ × List ℕ) → string_at n bytes ≡ Ok v
    → string_missing (integer_at (n - 1) bytes) ≡ 0
unfolding string_at
string_has_all n bytes v e = go (integer_at (n - 1) bytes) refl
  where
    go : (r : Result (ℕ × ℕ × List ℕ) IntegerFault) → integer_at (n - 1) bytes ≡ r → string_missing r ≡ 0
    go (Err Overflow) q = refl
    go (Err UnexpectedEnd) q = absurd (let k = sym (ap string_behind q) ∙ e in cc)
    go (Ok x) q = pick (nat_lt (length x.2) x.1) refl
      where
        pick : (b : Bool) → nat_lt (length x.2) x.1 ≡ b → x.1 - length x.2 ≡ 0
        pick true p = absurd (let k = sym (string_cut n bytes x q (ltb-true _ _ p)) ∙ e in cc)
        pick false p = omega (arith, ltb-false _ _ p)

value_has_all : {L : Type 0} (make : List ℕ → L) (bytes : List ℕ) (l : L × List ℕ) → value_at make bytes ≡ Ok l
    → string_missing (integer_at 7 bytes) ≡ 0
value_has_all {L} make bytes l e = go (string_at 8 bytes) refl e
  where
    go : (r : Result (ℕ × List ℕ × List ℕ) StringFault) → string_at 8 bytes ≡ r
        → (or_bad_string r >>= λ v. (let x : Result (L × List ℕ) FormFault = Ok (make v.1, v.2) in x)) ≡ Ok l
        → string_missing (integer_at 7 bytes) ≡ 0
    go (Ok v) q k = string_has_all 8 bytes v q
    go (Err f) q k = absurd cc

pub form_has_all : {L : Type 0} (form : Form L) (bytes : List ℕ) (l : L × List ℕ) → made_at form bytes ≡ Ok l
    → form_missing (Some form) bytes ≡ 0
unfolding made_at string_at
form_has_all {L} (Index n make) bytes l e = go (integer_at n bytes) e
  where
    go : (r : Result (ℕ × ℕ × List ℕ) IntegerFault)
        → (or_bad_integer r >>= λ i. (let x : Result (L × List ℕ) FormFault = Ok (make i.1, i.2) in x)) ≡ Ok l
        → integer_missing r ≡ 0
    go (Ok i) k = refl
    go (Err f) k = absurd cc
form_has_all {L} (IndexAndValue n make) bytes l e = go (integer_at n bytes) e
  where
    go : (r : Result (ℕ × ℕ × List ℕ) IntegerFault)
        → (or_bad_integer r >>= λ i. value_at (make i.1) i.2) ≡ Ok l → missing_behind_index r ≡ 0
    go (Ok i) k = value_has_all (make i.1) i.2 l k
    go (Err f) k = absurd cc
form_has_all {L} (NameAndValue n make) bytes l e = go (integer_at (n - 1) bytes) refl
  where
    named : (r : Result (ℕ × List ℕ × List ℕ) StringFault) → string_at n bytes ≡ r
        → (or_bad_string r >>= λ m. value_at (make m.1) m.2) ≡ Ok l
    named r q = ap (λ (x : Result (ℕ × List ℕ × List ℕ) StringFault). or_bad_string x >>= λ m. value_at (make m.1) m.2) (sym q) ∙ e

    meant : (flags : ℕ) (rest : List ℕ) (r : Result (List ℕ) HuffmanFault) → string_at n bytes ≡ value_before flags rest r
        → string_missing (integer_at 7 rest) ≡ 0
    meant flags rest (Ok text) q = value_has_all (make text) rest l (named (Ok (flags, text, rest)) q)
    meant flags rest (Err f) q = absurd (let k = named (Err (BadHuffman f)) q in cc)

    go : (r : Result (ℕ × ℕ × List ℕ) IntegerFault) → integer_at (n - 1) bytes ≡ r → missing_behind_name r ≡ 0
    go (Err Overflow) q = refl
    go (Err UnexpectedEnd) q = absurd (let k = named (Err EndsEarly) (ap string_behind q) in cc)
    go (Ok x) q = pick (nat_lt (length x.2) x.1) refl
      where
        pick : (b : Bool) → nat_lt (length x.2) x.1 ≡ b
            → cond b (x.1 - length x.2) (string_missing (integer_at 7 (drop x.1 x.2))) ≡ 0
        pick true p = absurd (let k = named (Err EndsEarly) (string_cut n bytes x q (ltb-true _ _ p)) in cc)
        pick false p =
            meant (x.0 / 2) (drop x.1 x.2) (meaning_of x.0 (take x.1 x.2)) (string_whole n bytes x q (ltb-false _ _ p))

-- ---- more bytes behind

pub made_more : {L : Type 0} (form : Form L) (bytes more : List ℕ) (l : L) (rest : List ℕ)
    → made_at form bytes ≡ Ok (l, rest) → made_at form (bytes ++ more) ≡ Ok (l, rest ++ more)
made_more form bytes more l rest e =
    let t = made_takes form bytes l rest e in
    ap (λ (x : List ℕ). made_at form (x ++ more)) t.parts ∙ ap (made_at form) (append_assoc t.encoding rest more)
    ∙ made_again form t.encoding (rest ++ more) l t.spells

pub made_fault_more : {L : Type 0} (form : Form L) (bytes more : List ℕ) (e : FormFault)
    → made_at form bytes ≡ Err e → is_cut e ≡ false → made_at form (bytes ++ more) ≡ Err e
made_fault_more form bytes more e h c =
    let b = made_refusal form bytes e h c in
    ap (λ (x : List ℕ). made_at form (x ++ more)) b.parts ∙ ap (made_at form) (append_assoc b.encoding b.rest more)
    ∙ made_refused form b.encoding (b.rest ++ more) e b.holds
