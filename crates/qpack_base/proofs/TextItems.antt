-- The text of a payload, item by item.
use Rattle.std.proofs.Common.{◌≡◌, ℕ, zero, suc, ◌<◌, List, [], ◌∷◌, ◌++◌, length, take, Option, Some, None, Result, Ok}
use Rattle.std.proofs.Common.{Err, true, refl, sym, ap, ◌∙◌, arith, append_assoc, append-nil, ◌+◌, inl, inr}
use Rattle.std.specs.Prelude.{OnOk, OnErr, IfErr}
use Rattle.qpack_spec.specs.Huffman.{HuffmanFault, code_of, bits_of_text, AreBytes, is_padding}
use Rattle.qpack_spec.specs.Huffman.{item_at, with_front, text_after, text_at, text_of_bits}
use Rattle.qpack_base.specs.declared.prefix_string.decoding.HuffmanDecodingError.{HuffmanDecodingError}
use Rattle.std.proofs.Math.Seq.{take-append_seam}
use Rattle.std.proofs.lemmas.List.Concat.{flat_map-cons}
use Rattle.qpack_base.specs.Payloads.{huffman_fault_of, item_of, GivesItem, PassesCodes, HasRoom}
use Rattle.qpack_base.proofs.Items.{item_shorter, item_code, item_end, byte_long}

same_after : (o : Option (Result ℕ HuffmanFault)) (m n : Result (List ℕ) HuffmanFault)
    → ((x : Result ℕ HuffmanFault) → o ≡ Some x → m ≡ n) → text_after o m ≡ text_after o n
same_after None m n h = refl
same_after (Some (Ok b)) m n h = ap (with_front (b ∷ [])) (h (Ok b) refl)
same_after (Some (Err f)) m n h = refl

-- enough fuel is enough
fuel : (j k : ℕ) (bits : List ℕ) → length bits < j → length bits < k → text_at j bits ≡ text_at k bits
unfolding text_at
fuel zero k bits a b = absurd (omega arith)
fuel (suc j) zero bits a b = absurd (omega arith)
fuel (suc j) (suc k) bits a b =
    same_after (item_at bits).0 (text_at j (item_at bits).1) (text_at k (item_at bits).1)
    (λ x e. let s = item_shorter bits x e in fuel j k (item_at bits).1 (omega arith) (omega arith))

text_step : (old new : List ℕ) (r : Option (Result ℕ HuffmanDecodingError)) → GivesItem old r new
    → text_of_bits old ≡ text_after (item_of r) (text_of_bits new)
unfolding text_of_bits text_at
text_step old new r g =
    rw (g.is, g.left)
    (same_after (item_at old).0 (text_at (length old) (item_at old).1)
    (text_at (suc (length (item_at old).1)) (item_at old).1)
    (λ x e. let s = item_shorter old x e in fuel (length old) (suc (length (item_at old).1)) (item_at old).1 s
    (omega arith)))

front_more : (out : List ℕ) (b : ℕ) (m : Result (List ℕ) HuffmanFault)
    → with_front out (with_front (b ∷ []) m) ≡ with_front (out ++ b ∷ []) m
front_more out b (Ok t) = ap (λ (l : List ℕ). Ok l) (sym (append_assoc out (b ∷ []) t))
front_more out b (Err f) = refl

front_joined : (a b : List ℕ) (m : Result (List ℕ) HuffmanFault) → with_front a (with_front b m) ≡ with_front (a ++ b) m
front_joined a b (Ok t) = ap (λ (l : List ℕ). Ok l) (sym (append_assoc a b t))
front_joined a b (Err f) = refl

pub front_none : (m : Result (List ℕ) HuffmanFault) → with_front [] m ≡ m
front_none (Ok t) = refl
front_none (Err f) = refl

-- a fault stands behind a list as it stands alone
pub front_fault : (a : List ℕ) (m : Result (List ℕ) HuffmanFault) (f : HuffmanFault) → with_front a m ≡ Err f
    → m ≡ Err f
front_fault a (Ok t) f e = absurd cc
front_fault a (Err g) f e = e

pub at_end : (old new out : List ℕ) (whole : Result (List ℕ) HuffmanFault) → GivesItem old None new
    → with_front out (text_of_bits old) ≡ whole → whole ≡ Ok out
at_end old new out whole g inv = sym inv ∙ ap (with_front out) (text_step old new None g)
    ∙ ap (λ (l : List ℕ). Ok l) (append-nil out)

pub at_fault : (old new out : List ℕ) (e : HuffmanDecodingError) (whole : Result (List ℕ) HuffmanFault)
    → GivesItem old (Some (Err e)) new → with_front out (text_of_bits old) ≡ whole → whole ≡ Err (huffman_fault_of e)
at_fault old new out e whole g inv = sym inv ∙ ap (with_front out) (text_step old new (Some (Err e)) g)

pub at_byte : (old new out : List ℕ) (b : ℕ) (whole : Result (List ℕ) HuffmanFault) → GivesItem old (Some (Ok b)) new
    → with_front out (text_of_bits old) ≡ whole → with_front (out ++ b ∷ []) (text_of_bits new) ≡ whole
at_byte old new out b whole g inv = sym (front_more out b (text_of_bits new))
    ∙ sym (ap (with_front out) (text_step old new (Some (Ok b)) g)) ∙ inv

-- ---- codes that were passed

codes_passed : (text old new : List ℕ) → AreBytes text → old ≡ bits_of_text text ++ new
    → text_of_bits old ≡ with_front text (text_of_bits new)
codes_passed [] old new h e = ap text_of_bits e ∙ sym (front_none (text_of_bits new))
codes_passed (b ∷ text) old new h e =
    let behind = bits_of_text text ++ new in
    let front : old ≡ code_of b ++ behind = e ∙ ap (λ (l : List ℕ). l ++ new) (flat_map-cons code_of b text)
    ∙ append_assoc (code_of b) (bits_of_text text) new in
    text_step old behind (Some (Ok b)) (item_code old behind b h.0 front)
    ∙ ap (with_front (b ∷ [])) (codes_passed text behind new h.1 refl) ∙ front_joined (b ∷ []) text (text_of_bits new)

-- what was appended, and what the rest means
pub text_passed : (old new items appended : List ℕ) → PassesCodes old new items appended
    → with_front appended (text_of_bits new) ≡ with_front items (text_of_bits old)
text_passed old new items appended p =
    ap (λ (l : List ℕ). with_front l (text_of_bits new)) p.append ∙ sym (front_joined items p.text (text_of_bits new))
    ∙ sym (ap (with_front items) (codes_passed p.text old new p.are p.bits))

-- all was passed, up to the end
pub whole_passed : (old new items appended : List ℕ) → PassesCodes old new items appended → is_padding 8 new ≡ true
    → with_front items (text_of_bits old) ≡ Ok appended
whole_passed old new items appended p e =
    at_end new [] appended (with_front items (text_of_bits old)) (item_end new [] e refl)
    (text_passed old new items appended p)

-- a fault of the rest is the fault of all
pub fault_passed : (old new items appended : List ℕ) (f : HuffmanFault) → PassesCodes old new items appended
    → text_of_bits new ≡ Err f → text_of_bits old ≡ Err f
fault_passed old new items appended f p e =
    codes_passed p.text old new p.are p.bits ∙ ap (with_front p.text) e

-- before what was appended stands what was there
pub items_kept : (start : ℕ) (old new items appended : List ℕ) → PassesCodes old new items appended
    → start ≡ length items → take start appended ≡ items
items_kept start old new items appended p e = rw (e, p.append) (take-append_seam items p.text)

-- the text behind a list, by itself
pub front_is : (a : List ℕ) (m : Result (List ℕ) HuffmanFault) (b : List ℕ) → with_front a m ≡ Ok b
    → (value : List ℕ) × (m ≡ Ok value) × (b ≡ a ++ value)
front_is a (Ok t) b e = (t, refl, cc)
front_is a (Err f) b e = absurd cc

-- ---- the room for a text

text_behind : (old new value : List ℕ) (b : ℕ) → GivesItem old (Some (Ok b)) new → text_of_bits old ≡ Ok value
    → (more : List ℕ) × (text_of_bits new ≡ Ok more) × (value ≡ b ∷ more)
text_behind old new value b g is = go (text_of_bits new) (sym (text_step old new (Some (Ok b)) g) ∙ is)
  where
    go : (m : Result (List ℕ) HuffmanFault) → with_front (b ∷ []) m ≡ Ok value
        → (more : List ℕ) × (m ≡ Ok more) × (value ≡ b ∷ more)
    go (Ok more) e = (more, refl, cc)
    go (Err f) e = absurd cc

-- where there is room for the text there is room for its first byte
pub room_for_byte : (old new : List ℕ) (b free : ℕ) → GivesItem old (Some (Ok b)) new → HasRoom old free → 0 < free
room_for_byte old new b free g (inl fits) = omega (arith, byte_long old new b g, fits)
room_for_byte old new b free g (inr means) =
    let t = text_behind old new means.0 b g means.1 in omega (arith, ap length t.2, means.2)

-- and behind it for what is left
pub room_behind_byte : (old new : List ℕ) (b free after : ℕ) → GivesItem old (Some (Ok b)) new → HasRoom old free
    → free ≡ after + 1 → HasRoom new after
room_behind_byte old new b free after g (inl fits) one = inl (omega (arith, byte_long old new b g, fits, one))
room_behind_byte old new b free after g (inr means) one =
    let t = text_behind old new means.0 b g means.1 in inr (t.0, t.1, omega (arith, ap length t.2, means.2, one))

-- ---- what follows from what a part answers

pub after_ok : {E : Type 0} (r : Result (Unit {0}) E) (A B : Type 0) → (A → B) → OnOk r A → OnOk r B
after_ok (Ok x) A B f h = f h
after_ok (Err e) A B f h = tt

pub after_err : {E : Type 0} (r : Result (Unit {0}) E) (A B : Type 0) → (A → B) → OnErr r A → OnErr r B
after_err (Ok x) A B f h = tt
after_err (Err e) A B f h = f h

pub after_fault : {E : Type 0} (r : Result (Unit {0}) E) (A B : E → Type 0) → ((e : E) → A e → B e) → IfErr r A
    → IfErr r B
after_fault (Ok x) A B f h = tt
after_fault (Err e) A B f h = f e h
