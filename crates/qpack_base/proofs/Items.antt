-- What comes next of the bits that are left: a code's byte, a fault, or the end.
use Rattle.std.proofs.Common.{◌≡◌, ℕ, suc, ◌+◌, ◌*◌, ◌-◌, ◌/◌, ◌^◌, ◌<◌, ◌≤◌, Bool, true, false, cond, List, []}
use Rattle.std.proofs.Common.{◌∷◌, ◌++◌, length, Option, Some, None, Result, Ok, Err, refl, sym, ap, subst, ◌∙◌, arith}
use Rattle.std.proofs.Common.{append_assoc, inl, inr, ◌⊎◌}
use Rattle.std.proofs.lemmas.Bool.{ltb-true}
use Rattle.std.proofs.lemmas.Nat.{shr-shr}
use Rattle.std.specs.Prelude.{nat_lt}
use Rattle.std.specs.Iterator.{MakesProgress, at_most}
use Rattle.std.proofs.lemmas.List.{length-append}
use Rattle.qpack_spec.specs.Huffman.{HuffmanFault, bits_of, bits_of_bytes, ones, code_of, bytes_by_length, code_at}
use Rattle.qpack_spec.specs.Huffman.{is_padding, item_at}
use Rattle.qpack_spec.specs.Huffman as huffman
use Rattle.qpack_spec.proofs.Bits.{bits_append, bits_cut, bits_length, ones_length}
use Rattle.qpack_spec.proofs.Codes.{code_again, code_shorter}
use Rattle.qpack_spec.proofs.Payloads.{code_no_end, end_is}
use Rattle.qpack_spec.proofs.Results.{chosen}
use Rattle.qpack_base.specs.declared.prefix_string.decoding.Bits.{Bits}
use Rattle.qpack_base.specs.declared.prefix_string.decoding.HuffmanDecodingError.{HuffmanDecodingError}
use Rattle.qpack_base.specs.HuffmanTables.{BeginsWithCode}
use Rattle.qpack_base.specs.Payloads.{huffman_fault_of, item_of, bits_left, IsFull, KeepsRest, ReadsCode, GivesItem}

-- what is left after so many bits
pub kept : (n : ℕ) (old new : Bits) → KeepsRest n old new
    → bits_left new ≡ bits_of (old.count - n) old.loaded ++ bits_of_bytes old.rest.now
kept n old new k =
    ap (λ (m : ℕ). bits_of m new.loaded ++ bits_of_bytes new.rest.now) k.count
    ∙ ap (λ (l : ℕ). bits_of (old.count - n) l ++ bits_of_bytes new.rest.now) k.loaded
    ∙ ap (λ (l : List ℕ). l ++ bits_of_bytes new.rest.now) (bits_cut (old.count - n) old.loaded)
    ∙ ap (λ (l : List ℕ). bits_of (old.count - n) old.loaded ++ bits_of_bytes l) k.rest

-- enough bits for every code, or none behind those that are loaded
pub enough : (b : Bits) → IsFull b → (30 ≤ b.count) ⊎ (bits_of_bytes b.rest.now ≡ [])
enough b (inl h) = inl (omega (arith, h))
enough b (inr e) = inr (ap bits_of_bytes e)

-- ---- items

pub item_end : (old new : List ℕ) → is_padding 8 old ≡ true → new ≡ [] → GivesItem old None new
unfolding item_at
item_end old new h e = record { is = rw h refl; left = rw h e }

pub item_fault : (old new : List ℕ) (e : HuffmanDecodingError) → is_padding 8 old ≡ false
    → code_at bytes_by_length 0 0 old ≡ Err (huffman_fault_of e) → new ≡ [] → GivesItem old (Some (Err e)) new
unfolding item_at
item_fault old new e p w n = record { is = rw (p, w) refl; left = rw (p, w) n }

item_read : (old new : List ℕ) (b : ℕ) → is_padding 8 old ≡ false → code_at bytes_by_length 0 0 old ≡ Ok (b, new)
    → GivesItem old (Some (Ok b)) new
unfolding item_at
item_read old new b p w = record { is = rw (p, w) refl; left = rw (p, w) refl }

item_byte : (old new : List ℕ) (b : ℕ) → code_at bytes_by_length 0 0 old ≡ Ok (b, new) → GivesItem old (Some (Ok b)) new
item_byte old new b w = item_read old new b (code_no_end old b new w) w

-- a code in front gives its byte
pub item_code : (old new : List ℕ) (b : ℕ) → b < 256 → old ≡ code_of b ++ new → GivesItem old (Some (Ok b)) new
item_code old new b h e = item_byte old new b (ap (code_at bytes_by_length 0 0) e ∙ code_again b new h)

-- ---- where eight bits or more are left

long_no_end : (count loaded : ℕ) (more : List ℕ) → 8 ≤ count → is_padding 8 (bits_of count loaded ++ more) ≡ false
long_no_end count loaded more h = go (is_padding 8 (bits_of count loaded ++ more)) refl
  where
    go : (p : Bool) → is_padding 8 (bits_of count loaded ++ more) ≡ p → p ≡ false
    go true e =
        let q = end_is (bits_of count loaded ++ more) e in
        absurd (omega (
          arith,
          q.few,
          ap length q.is,
          ones_length q.count,
          length-append (bits_of count loaded) more,
          bits_length count loaded,
        ))
    go false e = refl

-- the loaded bits begin with a code that is their highest n
pub begins_with : (count loaded n b : ℕ) (more : List ℕ) → n ≤ count
    → code_of b ≡ bits_of n (loaded / 2 ^ (count - n))
    → bits_of count loaded ++ more ≡ code_of b ++ (bits_of (count - n) loaded ++ more)
begins_with count loaded n b more le w =
    ap (λ (l : List ℕ). l ++ more) (bits_append n (count - n) count loaded (omega arith)
    ∙ ap (λ (l : List ℕ). l ++ bits_of (count - n) loaded) (sym w))
    ∙ append_assoc (code_of b) (bits_of (count - n) loaded) more

-- the highest n of the highest eight bits are the highest n
highest : (count loaded n : ℕ) → n ≤ 8 → 8 ≤ count → loaded / 2 ^ (count - 8) / 2 ^ (8 - n) ≡ loaded / 2 ^ (count - n)
highest count loaded n le eight =
    let e : count - 8 + (8 - n) ≡ count - n = omega arith in
    shr-shr loaded (count - 8) (8 - n) ∙ ap (λ (k : ℕ). loaded / 2 ^ k) e

short_item : (old new : Bits) (entry : ℕ × ℕ) → 8 ≤ old.count
    → BeginsWithCode (old.loaded / 2 ^ (old.count - 8)) entry → KeepsRest entry.1 old new
    → GivesItem (bits_left old) (Some (Ok entry.0)) (bits_left new)
short_item old new entry eight w k =
    let is = w.is ∙ ap (bits_of entry.1) (highest old.count old.loaded entry.1 w.most eight) in
    let le : entry.1 ≤ old.count = omega (arith, w.most) in
    item_code (bits_left old) (bits_left new) entry.0 w.byte
    (begins_with old.count old.loaded entry.1 entry.0 (bits_of_bytes old.rest.now) le is
    ∙ ap (λ (l : List ℕ). code_of entry.0 ++ l) (sym (kept entry.1 old new k)))

pub short_item_of : (old new : Bits) (entry : ℕ × ℕ) (n : ℕ) → 8 ≤ old.count
    → BeginsWithCode (old.loaded / 2 ^ (old.count - 8)) entry → n ≡ entry.1 → KeepsRest n old new
    → GivesItem (bits_left old) (Some (Ok entry.0)) (bits_left new)
short_item_of old new entry n eight w e k = short_item old new entry eight w
    (subst (λ (m : ℕ). KeepsRest m old new) e k)

pub long_item : (old new : Bits) (r : Result ℕ HuffmanDecodingError) → 8 ≤ old.count
    → ReadsCode (bits_left old) (bits_left new) r (code_at bytes_by_length 0 0 (bits_left old))
    → GivesItem (bits_left old) (Some r) (bits_left new)
long_item old new (Ok b) eight w = item_byte (bits_left old) (bits_left new) b w
long_item old new (Err e) eight w = item_fault (bits_left old) (bits_left new) e
    (long_no_end old.count old.loaded (bits_of_bytes old.rest.now) eight) w.0 w.1

-- ---- each item takes bits

some_bits : (bits : List ℕ) → is_padding 8 bits ≡ false → 0 < length bits
unfolding is_padding
some_bits [] h = absurd cc
some_bits (b ∷ bits) h = omega arith

read_shorter : (bits : List ℕ) (r : Result (ℕ × List ℕ) HuffmanFault) → is_padding 8 bits ≡ false
    → code_at bytes_by_length 0 0 bits ≡ r → length (huffman.item_of r).1 < length bits
read_shorter bits (Ok x) p e = code_shorter bytes_by_length 0 0 bits x.1 x.0 e
read_shorter bits (Err f) p e = some_bits bits p

pub item_shorter : (bits : List ℕ) (x : Result ℕ HuffmanFault) → (item_at bits).0 ≡ Some x
    → length (item_at bits).1 < length bits
unfolding item_at
item_shorter bits x e = go (is_padding 8 bits) refl e
  where
    go : (p : Bool) → is_padding 8 bits ≡ p
        → (cond p (None, []) (huffman.item_of (code_at bytes_by_length 0 0 bits))).0 ≡ Some x
        → length (cond p (None, []) (huffman.item_of (code_at bytes_by_length 0 0 bits))).1 < length bits
    go true h s = absurd cc
    go false h s = read_shorter bits (code_at bytes_by_length 0 0 bits) h refl

-- the first four rows have no codes
skips : (rows : List (List ℕ)) (n b k : ℕ) (bits rest : List ℕ)
    → ((m : ℕ) (more : List ℕ) → code_at rows m 0 more ≡ Ok (b, rest) → length rest + k ≤ length more)
    → code_at ([] ∷ rows) n 0 bits ≡ Ok (b, rest) → length rest + suc k ≤ length bits
unfolding code_at
skips rows n b k [] rest h e = absurd cc
skips rows n b k (bit ∷ bits) rest h e =
    elim (chosen (nat_lt (2 * n + bit) 0) (Ok (0, bits)) (code_at rows (2 * n + bit) 0 bits) (Ok (b, rest)) e) [
      | inl q ↦ absurd (let l = ltb-true _ _ q.0 in omega arith)
      | inr q ↦ let s = h (2 * n + bit) bits q.1 in omega (arith, s)
    ]

-- so that a code has at least five bits
long_code : (bits rest : List ℕ) (b : ℕ) → code_at bytes_by_length 0 0 bits ≡ Ok (b, rest)
    → length rest + 5 ≤ length bits
unfolding bytes_by_length
long_code bits rest b e = skips _ 0 b 4 bits rest (λ m1 bits1 e1. skips _ m1 b 3 bits1 rest (λ m2 bits2 e2.
    skips _ m2 b 2 bits2 rest (λ m3 bits3 e3. skips _ m3 b 1 bits3 rest (λ m4 bits4 e4.
    let s = code_shorter _ m4 0 bits4 rest b e4 in omega (arith, s)) e3) e2) e1) e

read_long : (bits new : List ℕ) (b : ℕ) (r : Result (ℕ × List ℕ) HuffmanFault) → code_at bytes_by_length 0 0 bits ≡ r
    → (huffman.item_of r).0 ≡ Some (Ok b) → new ≡ (huffman.item_of r).1 → length new + 5 ≤ length bits
read_long bits new b (Ok x) e s n = let l = long_code bits x.1 x.0 e in omega (arith, l, ap length n)
read_long bits new b (Err f) e s n = absurd cc

-- and so does the item that it is
pub byte_long : (old new : List ℕ) (b : ℕ) → GivesItem old (Some (Ok b)) new → length new + 5 ≤ length old
unfolding item_at
byte_long old new b g = go (is_padding 8 old) refl (sym g.is) g.left
  where
    go : (p : Bool) → is_padding 8 old ≡ p
        → (cond p (None, []) (huffman.item_of (code_at bytes_by_length 0 0 old))).0 ≡ Some (Ok b)
        → new ≡ (cond p (None, []) (huffman.item_of (code_at bytes_by_length 0 0 old))).1
        → length new + 5 ≤ length old
    go true h s n = absurd cc
    go false h s n = read_long old new b (code_at bytes_by_length 0 0 old) refl s n

given_shorter : (old new : List ℕ) (r : Result ℕ HuffmanDecodingError) (x : Result ℕ HuffmanFault)
    → item_of (Some r) ≡ Some x → GivesItem old (Some r) new → length new < length old
given_shorter old new r x e g = let s = item_shorter old x (sym g.is ∙ e) in omega (arith, s, ap length g.left)

pub goes_on : (old new : List ℕ) (r : Option (Result ℕ HuffmanDecodingError)) → GivesItem old r new
    → MakesProgress (λ (s : List ℕ). Unit {0}) (λ (s : List ℕ). at_most (length s)) old r new
goes_on old new None g = record { on = λ _. tt; keeps = tt; rests = λ _. tt }
goes_on old new (Some (Ok b)) g = record {
  on = λ _. (tt, tt, given_shorter old new (Ok b) (Ok b) refl g);
  keeps = tt;
  rests = λ _. tt;
}
goes_on old new (Some (Err e)) g = record {
  on = λ _.
      (tt, tt, given_shorter old new (Err e) (Err (huffman_fault_of e)) refl g);
  keeps = tt;
  rests = λ _. tt;
}
