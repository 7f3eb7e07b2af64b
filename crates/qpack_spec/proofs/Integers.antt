-- Reading integers from left to right is the relation: what is read is spelled so, and what is spelled so is read.
use Rattle.std.proofs.Common.{◌≡◌, ℕ, zero, suc, ◌+◌, ◌*◌, ◌/◌, ◌%◌, ◌^◌, ◌<◌, ◌≤◌, ltb, List, [], ◌∷◌, ◌++◌, length}
use Rattle.std.proofs.Common.{take, Result, Ok, Err, refl, sym, ap, ◌∙◌, arith, lit≤, inl, inr}
use Rattle.std.specs.List.{AllByRecursion}
use Rattle.std.proofs.lemmas.Bool.{ltb-false, le-ltb, ltb-true, lt-ltb}
use Rattle.std.proofs.lemmas.List.{append_cancel_right, take_at}
use Rattle.std.proofs.lemmas.Nat.{pow_pos, mod_below}
use Rattle.qpack_spec.specs.Bytes.{Begins, ◌>>=◌}
use Rattle.qpack_spec.specs.Integer.{IntegerFault, Overflow, UnexpectedEnd, full, EndsAtLast, groups_sum, SpellsInteger}
use Rattle.qpack_spec.specs.Integer.{OverflowsInteger, TruncatesInteger, groups_at, integer_at}
use Rattle.qpack_spec.specs.IntegerLaws.{IntegersHaveOneValue, NoIntegerBeginsAnother, ReadingFindsSpellings}
use Rattle.qpack_spec.specs.IntegerLaws.{ReadingFindsFaults}
use Rattle.qpack_spec.proofs.Results.{bind_ok, bind_err, chosen, ok_pair, ok_triple}

-- ---- groups

record TakesGroups (k : ℕ) (cs : List ℕ) (sum : ℕ) (rest : List ℕ) : Type 0 where
  pub encoding : List ℕ
  pub parts : cs ≡ encoding ++ rest
  pub ends : EndsAtLast encoding
  pub few : length encoding ≤ k
  pub sum_is : sum ≡ groups_sum encoding

pub ends_cons : (c : ℕ) (cs : List ℕ) → 128 ≤ c → EndsAtLast cs → EndsAtLast (c ∷ cs)
ends_cons c [] h e = absurd e
ends_cons c (d ∷ cs) h e = (h, e)

groups_take : (k : ℕ) (cs : List ℕ) (sum : ℕ) (rest : List ℕ) → groups_at k cs ≡ Ok (sum, rest)
    → TakesGroups k cs sum rest
unfolding groups_at
groups_take zero cs sum rest e = absurd cc
groups_take (suc k) [] sum rest e = absurd cc
groups_take (suc k) (c ∷ cs) sum rest e =
    elim (chosen (ltb c 128) (Ok (c, cs)) (groups_at k cs >>= λ r. Ok (c % 128 + 128 * r.0, r.1)) (Ok (sum, rest)) e) [
      | inl h ↦
          let low : c < 128 = ltb-true _ _ h.0 in
          let p = ok_pair c sum cs rest h.1 in
          record {
            encoding = c ∷ [];
            parts = ap (λ (t : List ℕ). c ∷ t) p.1;
            ends = low;
            few = omega arith;
            sum_is = omega (arith, p.0);
          }
      | inr h ↦
          let high : 128 ≤ c = ltb-false _ _ h.0 in
          let b = bind_ok (groups_at k cs) (λ r. Ok (c % 128 + 128 * r.0, r.1)) (sum, rest) h.1 in
          let t = groups_take k cs b.0.0 b.0.1 b.1 in
          let p = ok_pair (c % 128 + 128 * b.0.0) sum b.0.1 rest b.2 in
          let s = p.0 in
          let r = p.1 in
          record {
            encoding = c ∷ t.encoding;
            parts = ap (λ (u : List ℕ). c ∷ u) t.parts
                ∙ ap (λ (u : List ℕ). c ∷ (t.encoding ++ u)) r;
            ends = ends_cons c t.encoding high t.ends;
            few =
                omega (arith, t.few);
            sum_is = sym s ∙ ap (λ (n : ℕ). c % 128 + 128 * n) t.sum_is;
          }
    ]

groups_again : (k : ℕ) (encoding rest : List ℕ) → EndsAtLast encoding → length encoding ≤ k
    → groups_at k (encoding ++ rest) ≡ Ok (groups_sum encoding, rest)
unfolding groups_at
groups_again k [] rest e few = absurd e
groups_again zero (c ∷ cs) rest e few = absurd (omega arith)
groups_again (suc k) (c ∷ []) rest e few =
    let s : c ≡ c % 128 + 128 * 0 = omega arith in
    rw (lt-ltb c 128 e) (ap (λ (n : ℕ). Ok (n, rest)) s)
groups_again (suc k) (c ∷ d ∷ cs) rest e few =
    rw (le-ltb c 128 e.0, groups_again k (d ∷ cs) rest e.1 (omega arith)) refl

groups_overflow : (k : ℕ) (encoding rest : List ℕ) → length encoding ≡ k → AllByRecursion (λ c. 128 ≤ c) encoding
    → groups_at k (encoding ++ rest) ≡ Err Overflow
unfolding groups_at
groups_overflow zero [] rest len all = refl
groups_overflow zero (c ∷ cs) rest len all = absurd (omega arith)
groups_overflow (suc k) [] rest len all = absurd (omega arith)
groups_overflow (suc k) (c ∷ cs) rest len all =
    rw (le-ltb c 128 all.0, groups_overflow k cs rest (omega arith) all.1) refl

record PassesGroups (k : ℕ) (cs : List ℕ) : Type 0 where
  pub encoding : List ℕ
  pub rest : List ℕ
  pub parts : cs ≡ encoding ++ rest
  pub len : length encoding ≡ k
  pub high : AllByRecursion (λ c. 128 ≤ c) encoding

groups_pass : (k : ℕ) (cs : List ℕ) → groups_at k cs ≡ Err Overflow → PassesGroups k cs
unfolding groups_at
groups_pass zero cs e = record { encoding = []; rest = cs; parts = refl; len = refl; high = tt }
groups_pass (suc k) [] e = absurd cc
groups_pass (suc k) (c ∷ cs) e =
    elim (chosen (ltb c 128) (Ok (c, cs)) (groups_at k cs >>= λ r. Ok (c % 128 + 128 * r.0, r.1)) (Err Overflow) e) [
      | inl h ↦ absurd (cc (h.1))
      | inr h ↦
          let p = groups_pass k cs (bind_err (groups_at k cs) (λ r. (c % 128 + 128 * r.0, r.1)) Overflow h.1) in
          record {
            encoding = c ∷ p.encoding;
            rest = p.rest;
            parts = ap (λ (u : List ℕ). c ∷ u) p.parts;
            len = omega (arith, p.len);
            high = (ltb-false _ _ h.0, p.high);
          }
    ]

-- ---- integers

full_prefix : (n b : ℕ) → full n ≤ b % 2 ^ n → b % 2 ^ n ≡ full n
full_prefix n b h = let p = pow_pos n in let m = mod_below b (2 ^ n) p in omega arith

pub record TakesInteger (n : ℕ) (bytes : List ℕ) (flags value : ℕ) (rest : List ℕ) : Type 0 where
  pub encoding : List ℕ
  pub parts : bytes ≡ encoding ++ rest
  pub spells : SpellsInteger n encoding flags value

pub integer_takes : (n : ℕ) (bytes : List ℕ) (flags value : ℕ) (rest : List ℕ)
    → integer_at n bytes ≡ Ok (flags, value, rest) → TakesInteger n bytes flags value rest
unfolding integer_at
integer_takes n [] flags value rest e = absurd cc
integer_takes n (b ∷ cs) flags value rest e =
    elim (chosen (ltb (b % 2 ^ n) (full n)) (Ok (b / 2 ^ n, b % 2 ^ n, cs))
    (groups_at 9 cs >>= λ r. Ok (b / 2 ^ n, full n + r.0, r.1)) (Ok (flags, value, rest)) e) [
      | inl h ↦
          let p = ok_triple (b / 2 ^ n) flags (b % 2 ^ n) value cs rest h.1 in
          record {
            encoding = b ∷ [];
            parts = ap (λ (t : List ℕ). b ∷ t) p.2;
            spells = record {
              stands = (
                sym p.0,
                inl
                    (record { alone = refl; below = ltb-true _ _ h.0; is = sym p.1 }),
              );
              few = lit≤ tt;
            };
          }
      | inr h ↦
          let k = bind_ok (groups_at 9 cs) (λ r. Ok (b / 2 ^ n, full n + r.0, r.1)) (flags, value, rest) h.1 in
          let q = ok_triple (b / 2 ^ n) flags (full n + k.0.0) value k.0.1 rest k.2 in
          let f = q.0 in
          let v = q.1 in
          let r = q.2 in
          let t = groups_take 9 cs k.0.0 k.0.1 k.1 in
          let p : b % 2 ^ n ≡ full n = full_prefix n b (ltb-false _ _ h.0) in
          record {
            encoding = b ∷ t.encoding;
            parts = ap (λ (u : List ℕ). b ∷ u) t.parts
                ∙ ap (λ (u : List ℕ). b ∷ (t.encoding ++ u)) r;
            spells =
                record {
                  stands = (
                    sym f,
                    inr (record {
                      prefix = p;
                      ends = t.ends;
                      sum = sym v
                          ∙ ap (λ (m : ℕ). full n + m) t.sum_is;
                    }),
                  );
                  few = omega (arith, t.few);
                };
          }
    ]

pub integer_again : (n : ℕ) (encoding rest : List ℕ) (flags value : ℕ) → SpellsInteger n encoding flags value
    → integer_at n (encoding ++ rest) ≡ Ok (flags, value, rest)
unfolding integer_at
integer_again n [] rest flags value s = absurd s.stands
integer_again n (b ∷ cs) rest flags value s =
    elim (s.stands.1) [
      | inl h ↦
          rw (h.alone, lt-ltb _ _ h.below, s.stands.0, h.is) refl
      | inr h ↦
          rw (
            le-ltb (b % 2 ^ n) (full n) (omega (arith, h.prefix)),
            groups_again 9 cs rest h.ends (omega (arith, s.few)),
            s.stands.0,
            h.sum,
          ) refl
    ]

pub integer_overflows : (n : ℕ) (encoding rest : List ℕ) → OverflowsInteger n encoding
    → integer_at n (encoding ++ rest) ≡ Err Overflow
unfolding integer_at
integer_overflows n [] rest o = absurd o
integer_overflows n (b ∷ cs) rest o =
    rw (le-ltb (b % 2 ^ n) (full n) (omega (arith, o.0)), groups_overflow 9 cs rest o.1 o.2) refl

pub overflow_begins : (n : ℕ) (bytes : List ℕ) → integer_at n bytes ≡ Err Overflow → Begins (OverflowsInteger n) bytes
unfolding integer_at
overflow_begins n [] e = absurd cc
overflow_begins n (b ∷ cs) e =
    elim (chosen (ltb (b % 2 ^ n) (full n)) (Ok (b / 2 ^ n, b % 2 ^ n, cs))
    (groups_at 9 cs >>= λ r. Ok (b / 2 ^ n, full n + r.0, r.1)) (Err Overflow) e) [
      | inl h ↦ absurd (cc (h.1))
      | inr h ↦
          let p = groups_pass 9 cs (bind_err (groups_at 9 cs) (λ r. (b / 2 ^ n, full n + r.0, r.1)) Overflow h.1) in
          record {
            encoding = b ∷ p.encoding;
            rest = p.rest;
            parts = ap (λ (u : List ℕ). b ∷ u) p.parts;
            holds = (full_prefix n b (ltb-false _ _ h.0), p.len, p.high);
          }
    ]

end_truncated : (n : ℕ) (bytes : List ℕ) → integer_at n bytes ≡ Err UnexpectedEnd → TruncatesInteger n bytes
end_truncated n bytes e s rest parts = (
  λ flags value spells. absurd (let a = integer_again n s rest flags value spells in let b = ap (integer_at n) parts in
      cc),
  λ overflows. absurd (let a = integer_overflows n s rest overflows in let b = ap (integer_at n) parts in cc),
)

truncated_end : (n : ℕ) (bytes : List ℕ) → TruncatesInteger n bytes → integer_at n bytes ≡ Err UnexpectedEnd
truncated_end n bytes t = go (integer_at n bytes) refl
  where
    go : (r : Result (ℕ × ℕ × List ℕ) IntegerFault) → integer_at n bytes ≡ r → r ≡ Err UnexpectedEnd
    go (Ok x) e = let k = integer_takes n bytes x.0 x.1 x.2 e in absurd ((t k.encoding x.2 k.parts).0 x.0 x.1 k.spells)
    go (Err Overflow) e = let k = overflow_begins n bytes e in absurd ((t k.encoding k.rest k.parts).1 k.holds)
    go (Err UnexpectedEnd) e = refl

-- ---- the laws

pub reads_spellings : ReadingFindsSpellings
reads_spellings n bytes flags value rest = (
  λ e. let t = integer_takes n bytes flags value rest e in (t.encoding, t.parts, t.spells),
  λ p. ap (integer_at n) p.1 ∙ integer_again n p.0 rest flags value p.2,
)

pub reads_faults : ReadingFindsFaults
reads_faults n bytes = (
  (
    overflow_begins n bytes,
    λ b. ap (integer_at n) b.parts ∙ integer_overflows n b.encoding b.rest b.holds,
  ),
  (end_truncated n bytes, truncated_end n bytes),
)

pub one_value : IntegersHaveOneValue
one_value n encoding f g v w p q =
    let r = integer_again n encoding [] f v p in
    let s = integer_again n encoding [] g w q in
    let t = ok_triple f g v w [] [] (sym r ∙ s) in
    (t.0, t.1)

-- lists that end before the same rest are the same
pub same_front : (a b x y : List ℕ) → a ++ x ≡ b ++ y → x ≡ y → a ≡ b
same_front a b x y e same = append_cancel_right a b x (e ∙ ap (λ (z : List ℕ). b ++ z) (sym same))

-- a refusal has ten bytes
ten : (n : ℕ) (a : List ℕ) → OverflowsInteger n a → length a ≡ 10
ten n [] o = absurd o
ten n (b ∷ cs) o = omega (arith, o.1)

-- fronts of one list that are as long are the same
as_long : (a b x y : List ℕ) → length a ≡ length b → a ++ x ≡ b ++ y → a ≡ b
as_long a b x y len e = sym (take_at a x (length a) refl) ∙ ap (take (length a)) e ∙ take_at b y (length a) (sym len)

pub none_begins : NoIntegerBeginsAnother
none_begins n a b x y (inl p) (inl q) e =
    let r = integer_again n a x p.0 p.1 p.2 in
    let s = integer_again n b y q.0 q.1 q.2 in
    let t = ok_triple p.0 q.0 p.1 q.1 x y (sym r ∙ ap (integer_at n) e ∙ s) in
    same_front a b x y e t.2
none_begins n a b x y (inl p) (inr o) e =
    let r = integer_again n a x p.0 p.1 p.2 in
    let s = integer_overflows n b y o in
    absurd (let t = ap (integer_at n) e in cc)
none_begins n a b x y (inr o) (inl q) e =
    let r = integer_overflows n a x o in
    let s = integer_again n b y q.0 q.1 q.2 in
    absurd (let t = ap (integer_at n) e in cc)
none_begins n a b x y (inr o) (inr o') e = as_long a b x y (ten n a o ∙ sym (ten n b o')) e
