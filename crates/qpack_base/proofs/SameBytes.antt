-- Byte strings are equal exactly where their parts are.
use Rattle.std.proofs.Common.{◌≡◌, ℕ, zero, suc, ◌+◌, ◌-◌, ◌<◌, ◌≤◌, Bool, true, false, List, [], ◌∷◌, ◌++◌}
use Rattle.std.proofs.Common.{eqb-true, eq-eqb}
use Rattle.std.specs.Prelude.{nat_eq}
use Rattle.std.proofs.Common.{◌∙◌, length, take, drop, get_or, take-append-drop, refl, sym, ap, arith, w32, w64}
use Rattle.std.specs.Int.{from_le_bytes, to_le_bytes}
use Rattle.std.specs.Str.{bytes_eq}
use Rattle.std.proofs.lemmas.List.{take_all, drop-drop}
use Rattle.std.proofs.lemmas.Nat.{le_bytes_4, le_bytes_8}
use Rattle.std.proofs.lemmas.Slice.Eq.{bytes_eq-Decides}
use Rattle.qpack_spec.specs.Huffman.{AreBytes}
use Rattle.qpack_spec.proofs.Bits.{parts_same}

-- strings that are equal, or not
pub equal_true : (a b : List ℕ) → a ≡ b → true ≡ bytes_eq a b
equal_true a b e = sym ((bytes_eq-Decides a b).1 e)

equal_false : (a b : List ℕ) → (a ≡ b → ⊥) → false ≡ bytes_eq a b
equal_false a b n = go (bytes_eq a b) refl
  where
    go : (r : Bool) → bytes_eq a b ≡ r → false ≡ r
    go true e = absurd (n ((bytes_eq-Decides a b).0 e))
    go false e = refl

-- strings that are equal exactly where others are
equal_as : (a b c d : List ℕ) → (a ≡ b → c ≡ d) → (c ≡ d → a ≡ b) → bytes_eq c d ≡ bytes_eq a b
equal_as a b c d f g = go (bytes_eq c d) refl
  where
    go : (r : Bool) → bytes_eq c d ≡ r → r ≡ bytes_eq a b
    go true e = equal_true a b (g ((bytes_eq-Decides c d).0 e))
    go false e = equal_false a b (λ h. let t = sym e ∙ (bytes_eq-Decides c d).1 (f h) in absurd cc)

are_at : (xs : List ℕ) → AreBytes xs → (i : ℕ) → get_or xs i 0 < 256
are_at [] h i = omega arith
are_at (b ∷ xs) h zero = h.0
are_at (b ∷ xs) h (suc i) = are_at xs h.1 i

pub are_taken : (n : ℕ) (xs : List ℕ) → AreBytes xs → AreBytes (take n xs)
are_taken zero xs h = tt
are_taken (suc n) [] h = tt
are_taken (suc n) (b ∷ xs) h = (h.0, are_taken n xs h.1)

pub are_dropped : (n : ℕ) (xs : List ℕ) → AreBytes xs → AreBytes (drop n xs)
are_dropped zero xs h = h
are_dropped (suc n) [] h = tt
are_dropped (suc n) (b ∷ xs) h = are_dropped n xs h.1

-- eight bytes are their number
pub words_same : (x y : List ℕ) → length x ≡ 8 → length y ≡ 8 → AreBytes x → AreBytes y
    → from_le_bytes w64 x ≡ from_le_bytes w64 y → x ≡ y
words_same x y h k p q e = sym (le_bytes_8 x _ h (are_at x p) refl) ∙ ap (to_le_bytes w64) e
    ∙ le_bytes_8 y _ k (are_at y q) refl

-- and so are four
pub halves_same : (x y : List ℕ) → length x ≡ 4 → length y ≡ 4 → AreBytes x → AreBytes y
    → from_le_bytes w32 x ≡ from_le_bytes w32 y → x ≡ y
halves_same x y h k p q e = sym (le_bytes_4 x _ h (are_at x p) refl) ∙ ap (to_le_bytes w32) e
    ∙ le_bytes_4 y _ k (are_at y q) refl

pub front_same : (x y a b : List ℕ) → x ≡ y → bytes_eq a b ≡ bytes_eq (x ++ a) (y ++ b)
front_same x y a b e =
    equal_as (x ++ a) (y ++ b) a b (λ h. (parts_same x y a b (ap (λ (l : List ℕ). length l) e) h).1)
    (λ h. ap (λ (l : List ℕ). l ++ a) e ∙ ap (λ (l : List ℕ). y ++ l) h)

pub fronts_all : (a b : List ℕ) (i : ℕ) → length a ≤ i → length b ≤ i → take i a ≡ take i b → a ≡ b
fronts_all a b i h k e = sym (take_all i a h) ∙ e ∙ take_all i b k

-- what is equal from one place on is so from any later one
pub drops_same : (a b : List ℕ) (m n : ℕ) → m ≤ n → drop m a ≡ drop m b → drop n a ≡ drop n b
drops_same a b m n le e =
    let k : m + (n - m) ≡ n = omega arith in
    sym (ap (λ (i : ℕ). drop i a) k) ∙ sym (drop-drop (n - m) m a) ∙ ap (drop (n - m)) e ∙ drop-drop (n - m) m b
    ∙ ap (λ (i : ℕ). drop i b) k

-- the same of what is behind eight bytes
pub dropped_same : (a b behind beyond : List ℕ) (n : ℕ) → behind ≡ drop 8 a → beyond ≡ drop 8 b
    → drop (8 + n) a ≡ drop (8 + n) b → drop n behind ≡ drop n beyond
dropped_same a b behind beyond n p q e =
    ap (drop n) p ∙ drop-drop n 8 a ∙ e ∙ sym (drop-drop n 8 b) ∙ sym (ap (drop n) q)

-- strings are equal whose first bytes are, and whose last ones, which overlap
pub ends_same : (a b : List ℕ) (m n : ℕ) → m ≤ n → take n a ≡ take n b → drop m a ≡ drop m b → a ≡ b
ends_same a b m n le first last =
    sym (take-append-drop n a) ∙ ap (λ (l : List ℕ). l ++ drop n a) first
    ∙ ap (λ (l : List ℕ). take n b ++ l) (drops_same a b m n le last) ∙ take-append-drop n b

-- the last bytes are equal where their copies are
pub last_same : (a b x y : List ℕ) (n : ℕ) → length a ≡ length b → x ≡ drop (length a - n) a
    → y ≡ drop (length b - n) b → x ≡ y → drop (length a - n) a ≡ drop (length a - n) b
last_same a b x y n len p q e = sym p ∙ e ∙ q ∙ ap (λ (k : ℕ). drop (k - n) b) (sym len)

-- strings are equal exactly where two numbers are
pub numbers_decide : (a b : List ℕ) (p q : ℕ) → (p ≡ q → a ≡ b) → (a ≡ b → p ≡ q) → nat_eq p q ≡ bytes_eq a b
numbers_decide a b p q f g = go (nat_eq p q) refl
  where
    go : (r : Bool) → nat_eq p q ≡ r → r ≡ bytes_eq a b
    go true e = equal_true a b (f (eqb-true p q e))
    go false e = equal_false a b (λ h. let t = sym e ∙ eq-eqb p q (g h) in absurd cc)
