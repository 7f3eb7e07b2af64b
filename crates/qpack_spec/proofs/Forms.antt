-- Reading a form from left to right is its relation, and no spelling or refusal begins another.
use Rattle.std.proofs.Common.{◌≡◌, ℕ, false, List, ◌++◌, Result, Ok, Err, refl, sym, ap, subst, ◌∙◌, append_assoc, inl}
use Rattle.std.proofs.Common.{inr, ◌⊎◌}
use Rattle.qpack_spec.specs.Bytes.{Begins, ◌>>=◌}
use Rattle.qpack_spec.specs.Integer.{IntegerFault, Overflow, UnexpectedEnd, integer_at}
use Rattle.qpack_spec.specs.Text.{StringFault, EndsEarly, string_at}
use Rattle.qpack_spec.specs.Form.{FormFault, BadInteger, BadString, is_cut, Form, Index, IndexAndValue, NameAndValue}
use Rattle.qpack_spec.specs.Form.{HoldsIndex, HoldsText, SpellsForm, RefusesIndex, RefusesText, RefusesForm}
use Rattle.qpack_spec.specs.Form.{or_bad_integer, or_bad_string, value_at, made_at}
use Rattle.qpack_spec.proofs.Results.{bind_ok, ok_pair}
use Rattle.qpack_spec.proofs.Integers.{integer_takes, integer_again, integer_overflows, overflow_begins}
use Rattle.qpack_spec.proofs.Texts.{string_takes, string_again, string_refused, refusal_begins}

-- ---- the parts

pub record TakesIndex (n : ℕ) (bytes : List ℕ) (index : ℕ) (rest : List ℕ) : Type 0 where
  pub encoding : List ℕ
  pub parts : bytes ≡ encoding ++ rest
  pub holds : HoldsIndex n index encoding

pub index_takes : (n : ℕ) (bytes : List ℕ) (i : ℕ × ℕ × List ℕ) → or_bad_integer (integer_at n bytes) ≡ Ok i
    → TakesIndex n bytes i.1 i.2
index_takes n bytes i e = go (integer_at n bytes) refl e
  where
    go : (r : Result (ℕ × ℕ × List ℕ) IntegerFault) → integer_at n bytes ≡ r → or_bad_integer r ≡ Ok i
        → TakesIndex n bytes i.1 i.2
    go (Ok j) q h =
        let same : j ≡ i = cc in
        let t = integer_takes n bytes i.0 i.1 i.2 (q
        ∙ ap (λ (x : ℕ × ℕ × List ℕ). let r : Result (ℕ × ℕ × List ℕ) IntegerFault = Ok x in r) same) in
        record { encoding = t.encoding; parts = t.parts; holds = (i.0, t.spells) }
    go (Err f) q h = absurd cc

pub index_again : (n : ℕ) (encoding rest : List ℕ) (index : ℕ) (h : HoldsIndex n index encoding)
    → or_bad_integer (integer_at n (encoding ++ rest)) ≡ Ok (h.0, index, rest)
index_again n encoding rest index h = rw (integer_again n encoding rest h.0 index h.1) refl

pub index_refused : (n : ℕ) (encoding rest : List ℕ) (e : FormFault) → RefusesIndex n encoding e
    → or_bad_integer (integer_at n (encoding ++ rest)) ≡ Err e
index_refused n encoding rest (BadInteger Overflow) h = rw (integer_overflows n encoding rest h) refl
index_refused n encoding rest (BadInteger UnexpectedEnd) h = absurd h
index_refused n encoding rest (BadString f) h = absurd h

pub index_refusal : (n : ℕ) (bytes : List ℕ) (e : FormFault) → or_bad_integer (integer_at n bytes) ≡ Err e
    → is_cut e ≡ false → Begins (λ t. RefusesIndex n t e) bytes
index_refusal n bytes e h c = go (integer_at n bytes) refl h
  where
    go : (r : Result (ℕ × ℕ × List ℕ) IntegerFault) → integer_at n bytes ≡ r → or_bad_integer r ≡ Err e
        → Begins (λ t. RefusesIndex n t e) bytes
    go (Ok j) q k = absurd cc
    go (Err Overflow) q k =
        let same : BadInteger Overflow ≡ e = cc in
        subst (λ (f : FormFault). Begins (λ t. RefusesIndex n t f) bytes) same
        (let b = overflow_begins n bytes q in record {
          encoding = b.encoding;
          rest = b.rest;
          parts = b.parts;
          holds = b.holds;
        })
    go (Err UnexpectedEnd) q k = let same : BadInteger UnexpectedEnd ≡ e = cc in let d = ap is_cut same in absurd cc

record TakesText (n : ℕ) (bytes : List ℕ) (value : List ℕ) (rest : List ℕ) : Type 0 where
  pub encoding : List ℕ
  pub parts : bytes ≡ encoding ++ rest
  pub holds : HoldsText n value encoding

text_takes : (n : ℕ) (bytes : List ℕ) (v : ℕ × List ℕ × List ℕ) → or_bad_string (string_at n bytes) ≡ Ok v
    → TakesText n bytes v.1 v.2
text_takes n bytes v e = go (string_at n bytes) refl e
  where
    go : (r : Result (ℕ × List ℕ × List ℕ) StringFault) → string_at n bytes ≡ r → or_bad_string r ≡ Ok v
        → TakesText n bytes v.1 v.2
    go (Ok j) q h =
        let same : j ≡ v = cc in
        let t = string_takes n bytes v.0 v.1 v.2 (q
        ∙ ap (λ (x : ℕ × List ℕ × List ℕ). let r : Result (ℕ × List ℕ × List ℕ) StringFault = Ok x in r) same) in
        record { encoding = t.encoding; parts = t.parts; holds = (v.0, t.spells) }
    go (Err f) q h = absurd cc

pub text_again : (n : ℕ) (encoding rest value : List ℕ) (h : HoldsText n value encoding)
    → or_bad_string (string_at n (encoding ++ rest)) ≡ Ok (h.0, value, rest)
text_again n encoding rest value h = rw (string_again n encoding rest h.0 value h.1) refl

pub text_refused : (n : ℕ) (encoding rest : List ℕ) (e : FormFault) → RefusesText n encoding e
    → or_bad_string (string_at n (encoding ++ rest)) ≡ Err e
text_refused n encoding rest (BadInteger f) h = absurd h
text_refused n encoding rest (BadString f) h = rw (string_refused n encoding rest f h) refl

text_refusal : (n : ℕ) (bytes : List ℕ) (e : FormFault) → or_bad_string (string_at n bytes) ≡ Err e → is_cut e ≡ false
    → Begins (λ t. RefusesText n t e) bytes
text_refusal n bytes e h c = go (string_at n bytes) refl h
  where
    go : (r : Result (ℕ × List ℕ × List ℕ) StringFault) → string_at n bytes ≡ r → or_bad_string r ≡ Err e
        → Begins (λ t. RefusesText n t e) bytes
    go (Ok j) q k = absurd cc
    go (Err f) q k =
        let same : BadString f ≡ e = cc in
        let apart : f ≡ EndsEarly → ⊥ =
        λ d. (let x = ap is_cut same in let y = ap (λ (z : StringFault). is_cut (BadString z)) d in cc) in
        subst (λ (x : FormFault). Begins (λ t. RefusesText n t x) bytes) same
        (let b = refusal_begins n bytes f q apart in
        record { encoding = b.encoding; rest = b.rest; parts = b.parts; holds = b.holds })

-- ---- a form

pub record TakesForm (L : Type 0) (form : Form L) (bytes : List ℕ) (l : L) (rest : List ℕ) : Type 0 where
  pub encoding : List ℕ
  pub parts : bytes ≡ encoding ++ rest
  pub spells : SpellsForm form encoding l

pub made_takes : {L : Type 0} (form : Form L) (bytes : List ℕ) (l : L) (rest : List ℕ)
    → made_at form bytes ≡ Ok (l, rest) → TakesForm L form bytes l rest
unfolding made_at
made_takes {L} (Index n make) bytes l rest e =
    let b = bind_ok (or_bad_integer (integer_at n bytes)) (λ i. Ok (make i.1, i.2)) (l, rest) e in
    let t = index_takes n bytes b.0 b.1 in
    let p = ok_pair (make b.0.1) l b.0.2 rest b.2 in
    record {
      encoding = t.encoding;
      parts = t.parts
          ∙ ap (λ x. t.encoding ++ x) p.1;
      spells = (b.0.1, t.holds, sym p.0);
    }
made_takes {L} (IndexAndValue n make) bytes l rest e =
    let b = bind_ok (or_bad_integer (integer_at n bytes)) (λ i. value_at (make i.1) i.2) (l, rest) e in
    let c = bind_ok (or_bad_string (string_at 8 b.0.2)) (λ v. Ok (make b.0.1 v.1, v.2)) (l, rest) b.2 in
    let t = index_takes n bytes b.0 b.1 in
    let u = text_takes 8 b.0.2 c.0 c.1 in
    let p = ok_pair (make b.0.1 c.0.1) l c.0.2 rest c.2 in
    record {
      encoding = t.encoding ++ u.encoding;
      parts = t.parts ∙ ap (λ x. t.encoding ++ x) (u.parts ∙ ap (λ x. u.encoding ++ x) p.1)
          ∙ sym (append_assoc t.encoding u.encoding rest);
      spells = (
        b.0.1,
        c.0.1,
        record { head = t.encoding; tail = u.encoding; parts = refl; first = t.holds; second = u.holds },
        sym p.0,
      );
    }
made_takes {L} (NameAndValue n make) bytes l rest e =
    let b = bind_ok (or_bad_string (string_at n bytes)) (λ m. value_at (make m.1) m.2) (l, rest) e in
    let c = bind_ok (or_bad_string (string_at 8 b.0.2)) (λ v. Ok (make b.0.1 v.1, v.2)) (l, rest) b.2 in
    let t = text_takes n bytes b.0 b.1 in
    let u = text_takes 8 b.0.2 c.0 c.1 in
    let p = ok_pair (make b.0.1 c.0.1) l c.0.2 rest c.2 in
    record {
      encoding = t.encoding ++ u.encoding;
      parts = t.parts ∙ ap (λ x. t.encoding ++ x) (u.parts ∙ ap (λ x. u.encoding ++ x) p.1)
          ∙ sym (append_assoc t.encoding u.encoding rest);
      spells = (
        b.0.1,
        c.0.1,
        record { head = t.encoding; tail = u.encoding; parts = refl; first = t.holds; second = u.holds },
        sym p.0,
      );
    }

pub made_again : {L : Type 0} (form : Form L) (encoding rest : List ℕ) (l : L) → SpellsForm form encoding l
    → made_at form (encoding ++ rest) ≡ Ok (l, rest)
unfolding made_at
made_again (Index n make) encoding rest l s = rw (index_again n encoding rest s.0 s.1, s.2) refl
made_again (IndexAndValue n make) encoding rest l s =
    let e : encoding ++ rest ≡ s.2.head ++ (s.2.tail ++ rest) =
    ap (λ x. x ++ rest) s.2.parts ∙ append_assoc s.2.head s.2.tail rest in
    rw (e, index_again n s.2.head (s.2.tail ++ rest) s.0 s.2.first, text_again 8 s.2.tail rest s.1 s.2.second, s.3) refl
made_again (NameAndValue n make) encoding rest l s =
    let e : encoding ++ rest ≡ s.2.head ++ (s.2.tail ++ rest) =
    ap (λ x. x ++ rest) s.2.parts ∙ append_assoc s.2.head s.2.tail rest in
    rw (e, text_again n s.2.head (s.2.tail ++ rest) s.0 s.2.first, text_again 8 s.2.tail rest s.1 s.2.second, s.3) refl

pub made_refused : {L : Type 0} (form : Form L) (encoding rest : List ℕ) (e : FormFault) → RefusesForm form encoding e
    → made_at form (encoding ++ rest) ≡ Err e
unfolding made_at
made_refused (Index n make) encoding rest e s = rw (index_refused n encoding rest e s) refl
made_refused (IndexAndValue n make) encoding rest e (inl s) = rw (index_refused n encoding rest e s) refl
made_refused (IndexAndValue n make) encoding rest e (inr s) =
    let q : encoding ++ rest ≡ s.head ++ (s.tail ++ rest) = ap (λ x. x ++ rest) s.parts
    ∙ append_assoc s.head s.tail rest in
    rw (q, index_again n s.head (s.tail ++ rest) s.first.0 s.first.1, text_refused 8 s.tail rest e s.second) refl
made_refused (NameAndValue n make) encoding rest e (inl s) = rw (text_refused n encoding rest e s) refl
made_refused (NameAndValue n make) encoding rest e (inr s) =
    let q : encoding ++ rest ≡ s.head ++ (s.tail ++ rest) = ap (λ x. x ++ rest) s.parts
    ∙ append_assoc s.head s.tail rest in
    rw (q, text_again n s.head (s.tail ++ rest) s.first.0 s.first.1, text_refused 8 s.tail rest e s.second) refl

-- a refusal is that of the first reading, or of the second behind it
err_cases : {A B E : Type 0} (r : Result A E) (f : A → Result B E) (d : E) → (r >>= f) ≡ Err d
    → (r ≡ Err d) ⊎ ((x : A) × (r ≡ Ok x) × (f x ≡ Err d))
err_cases (Ok x) f d e = inr (x, refl, e)
err_cases (Err c) f d e = inl cc

pub value_whole : {L : Type 0} (make : List ℕ → L) (bytes : List ℕ) (e : FormFault) → value_at make bytes ≡ Err e
    → or_bad_string (string_at 8 bytes) ≡ Err e
value_whole {L} make bytes e h = go (or_bad_string (string_at 8 bytes)) h
  where
    go : (r : Result (ℕ × List ℕ × List ℕ) FormFault)
        → (r >>= λ v. (let x : Result (L × List ℕ) FormFault = Ok (make v.1, v.2) in x)) ≡ Err e → r ≡ Err e
    go (Ok x) q = absurd cc
    go (Err d) q = cc

index_whole : {L : Type 0} (make : ℕ → L) (n : ℕ) (bytes : List ℕ) (e : FormFault)
    → made_at (Index n make) bytes ≡ Err e → or_bad_integer (integer_at n bytes) ≡ Err e
unfolding made_at
index_whole {L} make n bytes e h = go (or_bad_integer (integer_at n bytes)) h
  where
    go : (r : Result (ℕ × ℕ × List ℕ) FormFault)
        → (r >>= λ v. (let x : Result (L × List ℕ) FormFault = Ok (make v.1, v.2) in x)) ≡ Err e → r ≡ Err e
    go (Ok x) q = absurd cc
    go (Err d) q = cc

pub made_refusal : {L : Type 0} (form : Form L) (bytes : List ℕ) (e : FormFault) → made_at form bytes ≡ Err e
    → is_cut e ≡ false → Begins (λ t. RefusesForm form t e) bytes
unfolding made_at
made_refusal (Index n make) bytes e h c =
    let b = index_refusal n bytes e (index_whole make n bytes e h) c in
    record { encoding = b.encoding; rest = b.rest; parts = b.parts; holds = b.holds }
made_refusal (IndexAndValue n make) bytes e h c =
    pick (err_cases (or_bad_integer (integer_at n bytes)) (λ i. value_at (make i.1) i.2) e h)
  where
    pick : (or_bad_integer (integer_at n bytes) ≡ Err e)
        ⊎ ((i : ℕ × ℕ × List ℕ) × (or_bad_integer (integer_at n bytes) ≡ Ok i) × (value_at (make i.1) i.2 ≡ Err e))
        → Begins (λ t. RefusesForm (IndexAndValue n make) t e) bytes
    pick (inl k) = let b =
        index_refusal n bytes e k c in record {
          encoding = b.encoding;
          rest = b.rest;
          parts = b.parts;
          holds = inl b.holds;
        }
    pick (inr k) =
        let t = index_takes n bytes k.0 k.1 in
        let b = text_refusal 8 k.0.2 e (value_whole (make k.0.1) k.0.2 e k.2) c in
        record {
          encoding = t.encoding ++ b.encoding;
          rest = b.rest;
          parts = t.parts ∙ ap (λ x. t.encoding ++ x) b.parts ∙ sym (append_assoc t.encoding b.encoding b.rest);
          holds = inr (record {
            head = t.encoding;
            tail = b.encoding;
            parts = refl;
            first = (k.0.1, t.holds);
            second = b.holds;
          });
        }
made_refusal (NameAndValue n make) bytes e h c =
    pick (err_cases (or_bad_string (string_at n bytes)) (λ m. value_at (make m.1) m.2) e h)
  where
    pick : (or_bad_string (string_at n bytes) ≡ Err e)
        ⊎ ((m : ℕ × List ℕ × List ℕ) × (or_bad_string (string_at n bytes) ≡ Ok m) × (value_at (make m.1) m.2 ≡ Err e))
        → Begins (λ t. RefusesForm (NameAndValue n make) t e) bytes
    pick (inl k) = let b =
        text_refusal n bytes e k c in record {
          encoding = b.encoding;
          rest = b.rest;
          parts = b.parts;
          holds = inl b.holds;
        }
    pick (inr k) =
        let t = text_takes n bytes k.0 k.1 in
        let b = text_refusal 8 k.0.2 e (value_whole (make k.0.1) k.0.2 e k.2) c in
        record {
          encoding = t.encoding ++ b.encoding;
          rest = b.rest;
          parts = t.parts ∙ ap (λ x. t.encoding ++ x) b.parts ∙ sym (append_assoc t.encoding b.encoding b.rest);
          holds = inr (record {
            head = t.encoding;
            tail = b.encoding;
            parts = refl;
            first = (k.0.1, t.holds);
            second = b.holds;
          });
        }
