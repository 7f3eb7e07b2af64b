-- A list of which so many of the last elements are moved to the front, one by one.
use Rattle.std.proofs.Common.{◌≡◌, ℕ, ◌+◌, ◌-◌, ◌<◌, List, ◌++◌, length, take, drop}
use Rattle.std.proofs.Common.{sym, ap, ◌∙◌, arith, append_assoc, length-append, drop-drop}
use Rattle.std.proofs.Math.Seq.{take-add}
use Rattle.std.proofs.lemmas.List.{take_at, drop_at, take-append-drop, length-drop, length-take-le}

-- so many of the last elements in front
abbrev pub turned : ℕ → List ℕ → List ℕ
turned k l = drop (length l - k) l ++ take (length l - k) l

-- the last of a list of which some are in front already
module _ (l : List ℕ) (m n : ℕ) (within : m < length l) (whole : n + 1 ≡ length l) where
  abbrev last : List ℕ
  last = take 1 (drop m l)

  abbrev others : List ℕ
  others = drop 1 (drop m l) ++ take m l

  cut : drop (m + 1) l ++ take (m + 1) l ≡ others ++ last
  cut =
      ap (λ (x : List ℕ). x ++ take (m + 1) l) (sym (drop-drop 1 m l))
      ∙ ap (λ (x : List ℕ). drop 1 (drop m l) ++ x) (take-add m 1 l)
      ∙ sym (append_assoc (drop 1 (drop m l)) (take m l) last)

  others_len : length others ≡ n
  others_len = omega (
    arith,
    whole,
    within,
    length-append (drop 1 (drop m l)) (take m l),
    length-drop 1 (drop m l),
    length-drop m l,
    length-take-le m l (omega (arith, within)),
  )

  joined : last ++ others ≡ drop m l ++ take m l
  joined =
      sym (append_assoc last (drop 1 (drop m l)) (take m l))
      ∙ ap (λ (x : List ℕ). x ++ take m l) (take-append-drop 1 (drop m l))

  last_moved : (x : List ℕ) → x ≡ drop (m + 1) l ++ take (m + 1) l → drop n x ++ take n x ≡ drop m l ++ take m l
  last_moved x e =
      ap (λ (y : List ℕ). drop n y ++ take n y) (e ∙ cut)
      ∙ ap (λ (y : List ℕ). y ++ take n (others ++ last)) (drop_at others last n others_len)
      ∙ ap (λ (y : List ℕ). last ++ y) (take_at others last n others_len)
      ∙ joined

-- one more in front
pub turned_more : (k : ℕ) (l x : List ℕ) → k < length l → length x ≡ length l → x ≡ turned k l
    → turned 1 x ≡ turned (k + 1) l
turned_more k l x within same e =
    last_moved l (length l - (k + 1)) (length x - 1) (omega (arith, within)) (omega (arith, within, same)) x
    (e ∙ ap (λ (m : ℕ). drop m l ++ take m l) (omega (arith, within)))
