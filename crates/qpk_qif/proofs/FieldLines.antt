-- Lines and their fields, parted at the first line feed and the first TAB.
use Rattle.std.proofs.Common.{◌≡◌, ℕ, suc, ◌+◌, ◌<◌, ◌≤◌, Bool, true, false, not, cond, eqb, List, [], ◌∷◌, length}
use Rattle.std.proofs.Common.{take, drop, Option, Some, None, refl, sym, ap, ◌∙◌, inl, inr}
use Rattle.std.proofs.Common.{arith}
use Rattle.std.specs.Prelude.{position, MatchOption, unwrap_or}
use Rattle.std.specs.Borrow.{Bor}
use Rattle.std.specs.List.{position_or_len}
use Rattle.std.proofs.lemmas.Bool.{cases_lt, lt-ltb, le-ltb}
use Rattle.qpk_qif.specs.Lines.{with_byte, lines_of, with_name_byte, field_of_line}

abbrev at : ℕ → List ℕ → ℕ
at byte bytes = position_or_len (λ b. eqb b byte) bytes

abbrev found : ℕ → List ℕ → Option ℕ
found byte bytes = position (λ b. eqb b byte) bytes

index_is : (byte : ℕ) (bytes : List ℕ) (n : ℕ) → found byte bytes ≡ Some n → (n ≡ at byte bytes) × (n < length bytes)
index_is byte bytes n e =
    elim (cases_lt (at byte bytes) (length bytes)) [
      | inl lt ↦
          let s : Some (at byte bytes) ≡ Some n = sym (rw (lt-ltb _ _ lt) refl) ∙ e in
          let m : at byte bytes ≡ n = cc in
          (sym m, omega arith)
      | inr le ↦ absurd (let s : None ≡ Some n = sym (rw (le-ltb _ _ le) refl) ∙ e in cc)
    ]

nowhere : (byte : ℕ) (bytes : List ℕ) → found byte bytes ≡ None → length bytes ≤ at byte bytes
nowhere byte bytes e =
    elim (cases_lt (at byte bytes) (length bytes)) [
      | inl lt ↦ absurd (let s : Some (at byte bytes) ≡ None = sym (rw (lt-ltb _ _ lt) refl) ∙ e in cc)
      | inr le ↦ le
    ]

one_more : (n : ℕ) → 1 + n ≡ suc n
one_more n = omega arith

-- ---- lines

-- the first line ends at the first line feed
line_ends : (bytes : List ℕ) → at 10 bytes < length bytes → lines_of bytes
    ≡ take (at 10 bytes) bytes ∷ lines_of (drop (suc (at 10 bytes)) bytes)
line_ends [] h = absurd (omega arith)
line_ends (b ∷ bytes) h = go (eqb b 10) (at 10 bytes) h (λ l. line_ends bytes l)
  where
    go : (t : Bool) (n : ℕ) → cond (not t) (1 + n) 0 < length (b ∷ bytes)
        → (n < length bytes → lines_of bytes ≡ take n bytes ∷ lines_of (drop (suc n) bytes))
        → cond t ([] ∷ lines_of bytes) (with_byte b (lines_of bytes))
        ≡ take (cond (not t) (1 + n) 0) (b ∷ bytes) ∷ lines_of (drop (suc (cond (not t) (1 + n) 0)) (b ∷ bytes))
    go true n h more = refl
    go false n h more = rw (one_more n, more (omega arith)) refl

with_whole : (b : ℕ) (bytes : List ℕ) → (0 < length bytes → lines_of bytes ≡ bytes ∷ []) → with_byte b (lines_of bytes)
    ≡ (b ∷ bytes) ∷ []
with_whole b [] h = refl
with_whole b (c ∷ cs) h = ap (with_byte b) (h (omega arith))

-- or at the end
line_whole : (bytes : List ℕ) → 0 < length bytes → length bytes ≤ at 10 bytes → lines_of bytes ≡ bytes ∷ []
line_whole [] h le = absurd (omega arith)
line_whole (b ∷ bytes) h le = go (eqb b 10) (at 10 bytes) le (λ l. with_whole b bytes (λ some. line_whole bytes some l))
  where
    go : (t : Bool) (n : ℕ) → length (b ∷ bytes) ≤ cond (not t) (1 + n) 0
        → (length bytes ≤ n → with_byte b (lines_of bytes) ≡ (b ∷ bytes) ∷ [])
        → cond t ([] ∷ lines_of bytes) (with_byte b (lines_of bytes)) ≡ (b ∷ bytes) ∷ []
    go true n le more = absurd (omega arith)
    go false n le more = more (omega arith)

-- two parts, as `split_at_byte` answers them
abbrev pub Parts : Type 0
Parts = Bor (List ℕ) × Bor (List ℕ)

abbrev pub PartsAt : ℕ → List ℕ → Parts → Type 0
PartsAt byte bytes parts = (index : ℕ) × (found byte bytes ≡ Some index) × (parts.0.now ≡ take index bytes)
    × (parts.1.now ≡ drop (index + 1) bytes)

pub first_line : (bytes : List ℕ) (o : Option Parts) (d r : Parts) → 0 < length bytes
    → MatchOption o (found 10 bytes ≡ None) (PartsAt 10 bytes)
    → d.0.now ≡ bytes → d.1.now ≡ [] → r ≡ unwrap_or o d → lines_of bytes ≡ r.0.now ∷ lines_of r.1.now
first_line bytes None d r h parts whole none is =
    let l = line_whole bytes h (nowhere 10 bytes parts) in
    rw (is, whole, none) l
first_line bytes (Some x) d r h parts whole none is =
    let n = index_is 10 bytes parts.0 parts.1 in
    let l = line_ends bytes (omega arith) in
    let s : parts.0 + 1 ≡ suc parts.0 = omega arith in
    rw (is, parts.2, parts.3, s, n.0) l

-- ---- fields

field_ends : (bytes : List ℕ) → at 9 bytes < length bytes → field_of_line bytes
    ≡ Some (record { name = take (at 9 bytes) bytes; value = drop (suc (at 9 bytes)) bytes })
field_ends [] h = absurd (omega arith)
field_ends (b ∷ bytes) h = go (eqb b 9) (at 9 bytes) h (λ l. field_ends bytes l)
  where
    go : (t : Bool) (n : ℕ) → cond (not t) (1 + n) 0 < length (b ∷ bytes)
        → (n < length bytes → field_of_line bytes ≡ Some (record { name = take n bytes; value = drop (suc n) bytes }))
        → cond t (Some (record { name = []; value = bytes })) (with_name_byte b (field_of_line bytes))
        ≡ Some (record {
          name = take (cond (not t) (1 + n) 0) (b ∷ bytes);
          value = drop
              (suc (cond (not t) (1 + n) 0)) (b ∷ bytes);
        })
    go true n h more = refl
    go false n h more = rw (one_more n, more (omega arith)) refl

no_field : (bytes : List ℕ) → length bytes ≤ at 9 bytes → field_of_line bytes ≡ None
no_field [] h = refl
no_field (b ∷ bytes) h = go (eqb b 9) (at 9 bytes) h (λ l. no_field bytes l)
  where
    go : (t : Bool) (n : ℕ) → length (b ∷ bytes) ≤ cond (not t) (1 + n) 0
        → (length bytes ≤ n → field_of_line bytes ≡ None)
        → cond t (Some (record { name = []; value = bytes })) (with_name_byte b (field_of_line bytes)) ≡ None
    go true n h more = absurd (omega arith)
    go false n h more = ap (with_name_byte b) (more (omega arith))

pub field_parts : (bytes : List ℕ) (o : Option Parts) → MatchOption o (found 9 bytes ≡ None) (PartsAt 9 bytes)
    → MatchOption o (field_of_line bytes ≡ None)
    (λ parts. field_of_line bytes ≡ Some (record { name = parts.0.now; value = parts.1.now }))
field_parts bytes None h = no_field bytes (nowhere 9 bytes h)
field_parts bytes (Some x) h =
    let n = index_is 9 bytes h.0 h.1 in
    let s : h.0 + 1 ≡ suc h.0 = omega arith in
    rw (h.2, h.3, s, n.0) (field_ends bytes (omega arith))
