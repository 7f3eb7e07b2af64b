-- A literal is its length and its payload, one after the other.
use Rattle.std.proofs.Common.{◌≡◌, ℕ, ◌+◌, ◌-◌, ◌*◌, ◌%◌, ◌^◌, ◌≤◌, List, [], ◌∷◌, ◌++◌, length, sym, ap, ◌∙◌, arith}
use Rattle.std.proofs.Common.{append_assoc, refl, subst, true, false, ◌<◌, lit≤}
use Rattle.std.proofs.Math.Pow.{mod-mod-pow}
use Rattle.std.proofs.Math.Seq.{set-append_seam}
use Rattle.std.proofs.lemmas.List.{length-append}
use Rattle.std.specs.Prelude.{slice_set, vec_len, vec_capacity, Result, OnOk, OnErr}
use Rattle.std.specs.declared.vec.Vec.{Vec}
use Rattle.qpack_spec.specs.Integer.{written_integer}
use Rattle.qpack_spec.specs.Huffman.{payload_of}
use Rattle.qpack_base.specs.Writes.{Writes}
use Rattle.qpack_spec.specs.Text.{Coding, is_coded, written_literal_of, coded_string}

-- flags that agree in their lowest eight bits agree where they are cut
cut_same : (k f g : ℕ) → k ≤ 8 → f % 256 ≡ g % 256 → f % 2 ^ k ≡ g % 2 ^ k
cut_same k f g le e =
    let s : 8 ≡ 8 - k + k = omega arith in
    let a : f % 256 ≡ f % 2 ^ (8 - k + k) = ap (λ (j : ℕ). f % 2 ^ j) s in
    let b : g % 256 ≡ g % 2 ^ (8 - k + k) = ap (λ (j : ℕ). g % 2 ^ j) s in
    sym (mod-mod-pow f (8 - k) k) ∙ ap (λ (n : ℕ). n % 2 ^ k) (sym a ∙ e ∙ b) ∙ mod-mod-pow g (8 - k) k

flags_same : (n f g value : ℕ) → f % 256 ≡ g % 256 → written_integer n f value ≡ written_integer n g value
unfolding written_integer
flags_same n f g value e = let c = cut_same (8 - n) f g (omega arith) e in rw c refl

-- the parts of a literal, one after the other
pub literal_put : (n flags huffman len : ℕ) (payload old head new : List ℕ) → huffman < 2 → len ≡ length payload
    → head ≡ old ++ written_integer (n - 1) (flags % 128 * 2 + huffman) len → new ≡ head ++ payload
    → new ≡ old ++ written_literal_of n flags huffman payload
literal_put n flags huffman len payload old head new few l h p =
    p ∙ ap (λ (a : List ℕ). a ++ payload) h
    ∙ append_assoc old (written_integer (n - 1) (flags % 128 * 2 + huffman) len) payload
    ∙ ap (λ (a : List ℕ). old ++ (a ++ payload))
    (flags_same (n - 1) (flags % 128 * 2 + huffman) (2 * flags + huffman) len (omega (arith, few))
    ∙ ap (written_integer (n - 1) (2 * flags + huffman)) l)

-- how many bytes that takes
pub literal_len : (n flags huffman len head : ℕ) (payload : List ℕ) → len ≡ length payload
    → head ≡ length (written_integer (n - 1) (2 * flags + huffman) len)
    → length (written_literal_of n flags huffman payload) ≡ head + len
literal_len n flags huffman len head payload l h =
    let a = length-append (written_integer (n - 1) (2 * flags + huffman) (length payload)) payload in
    let b = ap (λ (k : ℕ). length (written_integer (n - 1) (2 * flags + huffman) k)) l in
    omega (arith, a, b, l, h)

-- the same where the byte of the length is written behind the payload, in the place of another
pub literal_headed : (n flags len start head : ℕ) (payload old pushed put : List ℕ) → start ≡ length old
    → pushed ≡ old ++ 0 ∷ [] → put ≡ pushed ++ payload → len ≡ length payload
    → written_integer (n - 1) (flags % 128 * 2 + 1) len ≡ head ∷ []
    → slice_set put start head ≡ old ++ written_literal_of n flags 1 payload
literal_headed n flags len start head payload old pushed put s p q l h =
    let is : put ≡ old ++ 0 ∷ payload = q ∙ ap (λ (a : List ℕ). a ++ payload) p ∙ append_assoc old (0 ∷ []) payload in
    let headed : slice_set put start head ≡ old ++ head ∷ payload = ap (λ (a : List ℕ). slice_set a start head) is
    ∙ ap (λ (k : ℕ). slice_set (old ++ 0 ∷ payload) k head) s ∙ set-append_seam old 0 payload head in
    literal_put n flags 1 len payload old (old ++ head ∷ []) (slice_set put start head) (lit≤ tt) l
    (ap (λ (a : List ℕ). old ++ a) (sym h))
    (headed ∙ sym (append_assoc old (head ∷ []) payload))

-- the same where the length is two bytes
pub literal_paired : (n flags len start first second : ℕ) (payload old one two put : List ℕ) → start ≡ length old
    → one ≡ old ++ 0 ∷ [] → two ≡ one ++ 0 ∷ [] → put ≡ two ++ payload → len ≡ length payload
    → written_integer (n - 1) (flags % 128 * 2 + 1) len ≡ first ∷ second ∷ []
    → slice_set (slice_set put start first) (start + 1) second ≡ old ++ written_literal_of n flags 1 payload
literal_paired n flags len start first second payload old one two put s p q r l h =
    let is : put ≡ old ++ 0 ∷ 0 ∷ payload =
    r ∙ ap (λ (a : List ℕ). a ++ payload) (q ∙ ap (λ (a : List ℕ). a ++ 0 ∷ []) p) ∙ simp append_assoc in
    let one_set : slice_set put start first ≡ (old ++ first ∷ []) ++ 0 ∷ payload =
    ap (λ (a : List ℕ). slice_set a start first) is
    ∙ ap (λ (k : ℕ). slice_set (old ++ 0 ∷ 0 ∷ payload) k first) s ∙ set-append_seam old 0 (0 ∷ payload) first
    ∙ sym (append_assoc old (first ∷ []) (0 ∷ payload)) in
    let next : start + 1 ≡ length (old ++ first ∷ []) = omega (arith, s, length-append old (first ∷ [])) in
    let both : slice_set (slice_set put start first) (start + 1) second ≡ (old ++ first ∷ []) ++ second ∷ payload =
    ap (λ (a : List ℕ). slice_set a (start + 1) second) one_set
    ∙ ap (λ (k : ℕ). slice_set ((old ++ first ∷ []) ++ 0 ∷ payload) k second) next
    ∙ set-append_seam (old ++ first ∷ []) 0 payload second in
    literal_put n flags 1 len payload old (old ++ first ∷ second ∷ []) (slice_set (slice_set put start first) (start + 1)
    second) (lit≤ tt) l
    (ap (λ (a : List ℕ). old ++ a) (sym h))
    (both ∙ simp append_assoc)

-- ---- under a coding

pub string_coded : (coding : Coding) (n flags : ℕ) (value : List ℕ) → is_coded coding value ≡ true
    → coded_string coding n flags value ≡ written_literal_of n flags 1 (payload_of value)
unfolding coded_string
string_coded coding n flags value e = rw e refl

pub string_plain : (coding : Coding) (n flags : ℕ) (value : List ℕ) → is_coded coding value ≡ false
    → coded_string coding n flags value ≡ written_literal_of n flags 0 value
unfolding coded_string
string_plain coding n flags value e = rw e refl

-- a plain literal that was written is that of a value that is not coded
pub writes_plain : {A E : Type 0} (coding : Coding) (n flags : ℕ) (value : List ℕ) (old new : Vec ℕ A)
    (r : Result (Unit {0}) E) → is_coded coding value ≡ false
    → Writes (written_literal_of n flags 0 value) old new r → Writes (coded_string coding n flags value) old new r
writes_plain coding n flags value old new r e w =
    subst (λ (encoding : List ℕ). Writes encoding old new r) (sym (string_plain coding n flags value e)) w

pub writes_coded : {A E : Type 0} (coding : Coding) (n flags : ℕ) (value : List ℕ) (old new : Vec ℕ A)
    (r : Result (Unit {0}) E) → is_coded coding value ≡ true
    → Writes (written_literal_of n flags 1 (payload_of value)) old new r
    → Writes (coded_string coding n flags value) old new r
writes_coded coding n flags value old new r e w =
    subst (λ (encoding : List ℕ). Writes encoding old new r) (sym (string_coded coding n flags value e)) w

-- what was written to a vector with the same items and room
pub writes_again : {A E : Type 0} (encoding : List ℕ) (old same new : Vec ℕ A) (r : Result (Unit {0}) E)
    → same.items ≡ old.items → vec_capacity same ≡ vec_capacity old → Writes encoding same new r
    → Writes encoding old new r
writes_again encoding old same new r items capacity w =
    let len : vec_len same ≡ vec_len old = omega (arith, same.ok.0, old.ok.0, ap (λ (l : List ℕ). length l) items) in
    record {
      ok = subst (λ (l : List ℕ). OnOk r (new.items ≡ l ++ encoding)) items w.ok;
      err = subst (λ (l : List ℕ). OnErr r (new.items ≡ l)) items w.err;
      succeeds = λ room. w.succeeds (omega (arith, room, len, capacity));
      still = λ room. w.still (omega (arith, room, len, capacity)) ∙ capacity;
      capacity = omega (arith, capacity, w.capacity);
    }
