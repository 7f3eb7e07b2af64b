-- Writing the codes of a text, one after the other.
use Rattle.std.proofs.Common.{◌≡◌, ℕ, suc, ◌+◌, ◌-◌, ◌*◌, ◌/◌, ◌%◌, ◌^◌, ◌<◌, ◌≤◌, List, [], ◌∷◌, ◌++◌, length, take}
use Rattle.std.proofs.Common.{get_or, refl, sym, ap, subst, ◌∙◌, arith, append_assoc, append-nil, pow-add}
use Rattle.std.specs.Prelude.{slice_index}
use Rattle.std.proofs.lemmas.List.{length-append}
use Rattle.std.proofs.lemmas.List.Folds.{length-flat_map-take}
use Rattle.std.proofs.lemmas.Nat.{pow_pos, mul-add-lt, mod_below}
use Rattle.std.proofs.Math.Pow.{mod-mod-pow}
use Rattle.std.proofs.lemmas.Grind.{flat_map-append}
use Rattle.qpack_spec.specs.Huffman.{bits_of, bits_of_bytes, ones, code_of, AreBytes, bits_of_text, payload_of}
use Rattle.qpack_spec.specs.Huffman.{PayloadMeans}
use Rattle.qpack_spec.proofs.Bits.{bits_length, bits_push, bits_cut}
use Rattle.qpack_spec.proofs.WrittenPayloads.{payload_is, payload_length}
use Rattle.qpack_base.specs.declared.prefix_string.encoding.Pending.{Pending}
use Rattle.qpack_base.specs.HuffmanTables.{IsCodeOf}
use Rattle.qpack_base.specs.WrittenPayloads.{AddsBits, AddsLast, AddsCodes, HasAdded}
use Rattle.qpack_base.proofs.HighBits.{cut_product}
use Rattle.qpack_base.proofs.WrittenCodes.{one_code, text_more}
use Rattle.qpack_base.proofs.AddedBits.{bytes_join, nothing_added, added_more}

-- ---- a code behind the bits

-- a number of 64 bits, shifted, with n bits more
pub record IsShifted (number n code : ℕ) : Type 0 where
  pub small : number * 2 ^ n % 2 ^ 64 + code < 2 ^ 64
  pub is : number * 2 ^ n % 2 ^ 64 + code ≡ number % 2 ^ (64 - n) * 2 ^ n + code

pub shifted : (number n code : ℕ) → n ≤ 64 → code < 2 ^ n → IsShifted number n code
shifted number n code le fits =
    let e : 64 - n + n ≡ 64 = omega arith in
    let p : 2 ^ (64 - n) * 2 ^ n ≡ 2 ^ 64 = sym (pow-add 2 (64 - n) n) ∙ ap (λ (k : ℕ). 2 ^ k) e in
    let cut : number * 2 ^ n % 2 ^ 64 ≡ number % 2 ^ (64 - n) * 2 ^ n =
    ap (λ (m : ℕ). number * 2 ^ n % m) (sym p)
    ∙ cut_product number (2 ^ (64 - n)) (2 ^ n) (pow_pos (64 - n)) (pow_pos n) in
    let low = mod_below number (2 ^ (64 - n)) (pow_pos (64 - n)) in
    let small = mul-add-lt (number % 2 ^ (64 - n)) (2 ^ n) code (2 ^ (64 - n)) low fits in
    record { small = omega (arith, small, cut, p); is = ap (λ (m : ℕ). m + code) cut }

-- the lowest bits are the lowest of more
bits_low : (k m number : ℕ) → k ≤ m → bits_of k (number % 2 ^ m) ≡ bits_of k number
bits_low k m number le =
    let e : m ≡ m - k + k = omega arith in
    let cut : number % 2 ^ m % 2 ^ k ≡ number % 2 ^ k =
    ap (λ (j : ℕ). number % 2 ^ j % 2 ^ k) e ∙ mod-mod-pow number (m - k) k in
    sym (bits_cut k (number % 2 ^ m)) ∙ ap (bits_of k) cut ∙ bits_cut k number

pub code_behind : (count number n code : ℕ) → count + n ≤ 64 → code < 2 ^ n
    → bits_of (count + n) (number * 2 ^ n % 2 ^ 64 + code) ≡ bits_of count number ++ bits_of n code
code_behind count number n code room fits =
    ap (bits_of (count + n)) ((shifted number n code (omega arith) fits).is)
    ∙ bits_push count n (number % 2 ^ (64 - n)) code fits
    ∙ ap (λ (l : List ℕ). l ++ bits_of n code) (bits_low count (64 - n) number (omega arith))

-- an entry of the table, as the code has it
pub record IsEntry (byte n code : ℕ) : Type 0 where
  pub most : n ≤ 30
  pub fits : code < 2 ^ n
  pub is : code_of byte ≡ bits_of n code

pub entry_is : (byte n code : ℕ) (entry : ℕ × ℕ) → IsCodeOf byte entry → n ≡ entry.0 → code ≡ entry.1
    → IsEntry byte n code
entry_is byte n code entry w e f = record {
  most = omega (arith, w.most);
  fits = subst (λ (k : ℕ). code < 2 ^ k) (sym e) (subst (λ (m : ℕ). m < 2 ^ entry.0) (sym f) w.fits);
  is = w.is ∙ ap (λ (k : ℕ). bits_of k entry.1) (sym e) ∙ ap (bits_of n) (sym f);
}

abbrev with_code : Pending → ℕ → ℕ → Pending
with_code old n code = record { bits = old.bits * 2 ^ n % 2 ^ 64 + code; count = old.count + n }

pub adds_code : (old : Pending) (byte n code : ℕ) → IsEntry byte n code
    → AddsCodes (byte ∷ []) old (with_code old n code)
adds_code old byte n code w =
    let one = one_code byte in record {
      count = omega (arith, ap (λ (l : List ℕ). length l) (one ∙ w.is), bits_length n code);
      most = omega (arith, w.most);
      bits = λ room. code_behind old.count old.bits n code room w.fits
          ∙ ap (λ (l : List ℕ). bits_of old.count old.bits ++ l) (sym (one ∙ w.is));
    }

adds_join : (s t : List ℕ) (a b c : Pending) → AddsCodes s a b → AddsCodes t b c → AddsCodes (s ++ t) a c
adds_join s t a b c p q =
    let whole : bits_of_text (s ++ t) ≡ bits_of_text s ++ bits_of_text t = flat_map-append code_of s t in record {
      count = omega (
        arith,
        p.count,
        q.count,
        ap (λ (l : List ℕ). length l) whole,
        length-append (bits_of_text s) (bits_of_text t),
      );
      most = omega (arith, p.most, q.most, length-append s t);
      bits = λ room. q.bits room ∙ ap (λ (l : List ℕ). l ++ bits_of_text t) (p.bits (omega (arith, q.count, room)))
          ∙ append_assoc (bits_of a.count a.bits) (bits_of_text s) (bits_of_text t)
          ∙ ap (λ (l : List ℕ). bits_of a.count a.bits ++ l) (sym whole);
    }

four_are : (xs : List ℕ) → length xs ≡ 4
    → (slice_index xs 0 ∷ []) ++ (slice_index xs 1 ∷ []) ++ (slice_index xs 2 ∷ []) ++ (slice_index xs 3 ∷ []) ≡ xs
four_are [] h = absurd (omega (arith, h))
four_are (a ∷ []) h = absurd (omega (arith, h))
four_are (a ∷ b ∷ []) h = absurd (omega (arith, h))
four_are (a ∷ b ∷ c ∷ []) h = absurd (omega (arith, h))
four_are (a ∷ b ∷ c ∷ d ∷ []) h = refl
four_are (a ∷ b ∷ c ∷ d ∷ e ∷ xs) h = absurd (omega (arith, h))

pub adds_four : (xs : List ℕ) (p q r s t : Pending) → length xs ≡ 4 → AddsCodes (slice_index xs 0 ∷ []) p q
    → AddsCodes (slice_index xs 1 ∷ []) q r → AddsCodes (slice_index xs 2 ∷ []) r s
    → AddsCodes (slice_index xs 3 ∷ []) s t → AddsCodes xs p t
adds_four xs p q r s t h a b c d =
    subst (λ (l : List ℕ). AddsCodes l p t) (four_are xs h)
    (adds_join (slice_index xs 0 ∷ []) _ p q t a
    (adds_join (slice_index xs 1 ∷ []) _ q r t b (adds_join (slice_index xs 2 ∷ []) _ r s t c d)))

-- ---- bits that are appended

-- the bits are still to be written
all_pending : (count number : ℕ) (old : List ℕ) → HasAdded (bits_of count number) count number old old
all_pending count number old = record { bytes = []; are = tt; items = sym (append-nil old); bits = refl }

pub flushed : (count number : ℕ) (old new : List ℕ) → 32 ≤ count
    → AddsBits 32 (number / 2 ^ (count - 32) % 2 ^ 32) old new
    → HasAdded (bits_of count number) (count - 32) number old new
flushed count number old new le a =
    let m = count - 32 in
    let e : count ≡ 32 + m = omega arith in
    let b : AddsBits 32 (number / 2 ^ m) old new = record {
      bytes = a.bytes;
      are = a.are;
      items = a.items;
      bits = a.bits ∙ bits_cut 32 (number / 2 ^ m);
    } in
    let all = subst (λ (k : ℕ). HasAdded (bits_of count number) k number old old) e (all_pending count number old) in
    added_more (bits_of count number) 32 m number (number / 2 ^ m) old old new all refl b

-- first some bits, then what was left of them with others behind
pub added_twice : (whole more : List ℕ) (p number q left : ℕ) (old mid new : List ℕ) → HasAdded whole p number old mid
    → HasAdded (bits_of p number ++ more) q left mid new → HasAdded (whole ++ more) q left old new
added_twice whole more p number q left old mid new a b = record {
  bytes = a.bytes ++ b.bytes;
  are = bytes_join a.bytes b.bytes a.are b.are;
  items = b.items ∙ ap (λ (l : List ℕ). l ++ b.bytes) a.items ∙ append_assoc old a.bytes b.bytes;
  bits = ap (λ (l : List ℕ). l ++ bits_of q left) (flat_map-append (bits_of 8) a.bytes b.bytes)
      ∙ append_assoc (bits_of_bytes a.bytes) (bits_of_bytes b.bytes) (bits_of q left)
      ∙ ap (λ (l : List ℕ). bits_of_bytes a.bytes ++ l) b.bits
      ∙ sym (append_assoc (bits_of_bytes a.bytes) (bits_of p number) more)
      ∙ ap (λ (l : List ℕ). l ++ more) a.bits;
}

abbrev so_far : List ℕ → ℕ → List ℕ
so_far text i = bits_of_text (take i text)

-- one code more of a text
pub text_one_more : (front text : List ℕ) (i : ℕ) → i < length text
    → (front ++ so_far text i) ++ bits_of_text (get_or text i 0 ∷ []) ≡ front ++ so_far text (i + 1)
text_one_more front text i h =
    append_assoc front (so_far text i) (bits_of_text (get_or text i 0 ∷ []))
    ∙ ap (λ (l : List ℕ). front ++ l) (ap (λ (l : List ℕ). so_far text i ++ l) (one_code (get_or text i 0))
    ∙ sym (text_more text i h))

pub length_one_more : (text : List ℕ) (i : ℕ) → i < length text
    → length (so_far text (i + 1)) ≡ length (so_far text i) + length (bits_of_text (get_or text i 0 ∷ []))
length_one_more text i h = ap (λ (l : List ℕ). length l) (sym (text_one_more [] text i h))
    ∙ length-append (so_far text i) (bits_of_text (get_or text i 0 ∷ []))

pub length_room : (text : List ℕ) (i : ℕ) → i < length text
    → length (so_far text i) + length (bits_of_text (get_or text i 0 ∷ [])) ≤ length (bits_of_text text)
length_room text i h =
    omega (
      arith,
      length-flat_map-take code_of text i 0 h,
      ap (λ (l : List ℕ). length l) (one_code (get_or text i 0)),
    )

-- ---- a text in parts

-- what is written of a text, and the bits of it that are still to be, before the rest
pub record IsPut (text rest : List ℕ) (count number before after : ℕ) (old now : List ℕ) : Type 0 where
  pub done : List ℕ
  pub parts : bits_of_text text ≡ done ++ bits_of_text rest
  pub added : HasAdded done count number old now
  pub len : 8 * after + count ≡ 8 * before + length done

pub none_put : (text : List ℕ) (len : ℕ) (old : List ℕ) → IsPut text text 0 0 len len old old
none_put text len old = record { done = []; parts = refl; added = nothing_added old; len = omega arith }

pub more_put : (text rest part behind : List ℕ) (p number q left before mid after : ℕ) (old now new : List ℕ)
    → IsPut text rest p number before mid old now → rest ≡ part ++ behind
    → HasAdded (bits_of p number ++ bits_of_text part) q left now new
    → 8 * after + q ≡ 8 * mid + p + length (bits_of_text part) → IsPut text behind q left before after old new
more_put text rest part behind p number q left before mid after old now new a e b l = record {
  done = a.done ++ bits_of_text part;
  parts = a.parts ∙ ap (λ (xs : List ℕ). a.done ++ bits_of_text xs) e
      ∙ ap (λ (xs : List ℕ). a.done ++ xs) (flat_map-append code_of part behind)
      ∙ sym (append_assoc a.done (bits_of_text part) (bits_of_text behind));
  added = added_twice a.done (bits_of_text part) p number q left old now new a.added b;
  len = omega (arith, l, a.len, length-append a.done (bits_of_text part));
}

-- there is room for the next part
pub put_room : (text rest part behind : List ℕ) (count number before after capacity : ℕ) (old now : List ℕ)
    → IsPut text rest count number before after old now → rest ≡ part ++ behind
    → before + length (payload_of text) ≤ capacity
    → 8 * after + count + length (bits_of_text part) ≤ 8 * capacity
put_room text rest part behind count number before after capacity old now a e room =
    omega (
      arith,
      room,
      a.len,
      payload_length text,
      ap (λ (l : List ℕ). length l) a.parts,
      length-append a.done (bits_of_text rest),
      ap (λ (l : List ℕ). length (bits_of_text l)) e,
      ap (λ (l : List ℕ). length l) (flat_map-append code_of part behind),
      length-append (bits_of_text part) (bits_of_text behind),
    )

-- there is room for the last bits
pub last_room : (text rest : List ℕ) (count number before after capacity : ℕ) (old now : List ℕ)
    → IsPut text rest count number before after old now → before + length (payload_of text) ≤ capacity
    → after + (count + length (bits_of_text rest) + 7) / 8 ≤ capacity
last_room text rest count number before after capacity old now a room =
    omega (
      arith,
      room,
      a.len,
      payload_length text,
      ap (λ (l : List ℕ). length l) a.parts,
      length-append a.done (bits_of_text rest),
    )

-- all is written with the last bits
pub all_put : (text rest : List ℕ) (count number before after : ℕ) (old now new : List ℕ) → AreBytes text
    → IsPut text rest count number before after old now
    → AddsLast (bits_of count number ++ bits_of_text rest) now new → new ≡ old ++ payload_of text
all_put text rest count number before after old now new ok p b =
    let a = p.added in
    let m : PayloadMeans (a.bytes ++ b.bytes) text = record {
      bytes = ok;
      padding = b.padding;
      few = b.few;
      parts = flat_map-append (bits_of 8) a.bytes b.bytes ∙ ap (λ (l : List ℕ). bits_of_bytes a.bytes ++ l) b.bits
          ∙ sym (append_assoc (bits_of_bytes a.bytes) (bits_of count number ++ bits_of_text rest) (ones b.padding))
          ∙ ap (λ (l : List ℕ). l ++ ones b.padding)
          (sym (append_assoc (bits_of_bytes a.bytes) (bits_of count number) (bits_of_text rest))
          ∙ ap (λ (l : List ℕ). l ++ bits_of_text rest) a.bits ∙ sym p.parts);
    } in
    b.items ∙ ap (λ (l : List ℕ). l ++ b.bytes) a.items ∙ append_assoc old a.bytes b.bytes
    ∙ ap (λ (l : List ℕ). old ++ l) (payload_is (a.bytes ++ b.bytes) text (bytes_join a.bytes b.bytes a.are b.are) m)

pub bytes_from : (text : List ℕ) → ((i : ℕ) → get_or text i 0 < 256) → AreBytes text
bytes_from [] h = tt
bytes_from (b ∷ text) h = (h 0, bytes_from text (λ i. h (suc i)))
