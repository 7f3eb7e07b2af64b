-- Elements of lists, and pairs of them, after a change.
use Rattle.std.proofs.Common.{◌≡◌, ℕ, zero, suc, ◌+◌, ◌-◌, ◌<◌, ◌≤◌, Bool, true, false, cond, List, [], ◌∷◌}
use Rattle.std.proofs.Common.{length, get_or, set, sym, ap, subst, ◌∙◌, inl, inr, ◌⊎◌, arith}
use Rattle.std.specs.Prelude.{Contains}
use Rattle.std.specs.List.{AllPairs, insert, filter}
use Rattle.std.proofs.lemmas.Bool.{cases_lt, cases_eq}
use Rattle.std.proofs.lemmas.List.{length-set, get_or-set_other, get_or-set_same}
use Rattle.std.proofs.lemmas.List.Edits.{length-insert, get_or-insert_below, get_or-insert_at, get_or-insert_above}
use Rattle.std.proofs.lemmas.List.Elements.{All-contains, All-contains_itself, All-filter, filter_passes}

-- ---- elements of changed lists

pub contains_more : {X : Type 0} → (xs : List X) (x a : X) → Contains xs a → Contains (x ∷ xs) a
contains_more xs x a c = (suc c.0, omega (arith, c.1), c.2)

pub contains_either : {X : Type 0} → (xs : List X) (x a : X) → Contains (x ∷ xs) a → (x ≡ a) ⊎ Contains xs a
contains_either {X} xs x a c = pick c.0 c.1 c.2
  where
    pick : (k : ℕ) → k < length (x ∷ xs) → get_or (x ∷ xs) k a ≡ a → (x ≡ a) ⊎ Contains xs a
    pick zero h e = inl e
    pick (suc k) h e = inr (k, omega (arith, h), e)

-- an element of a list with one replaced
pub set_either : {X : Type 0} → (xs : List X) (p : ℕ) (y a : X) → p < length xs → Contains (set xs p y) a
    → (y ≡ a) ⊎ Contains xs a
set_either xs p y a lt c = elim (cases_eq c.0 p) [
  | inl e ↦ inl (sym (get_or-set_same xs p y a lt) ∙ ap (λ (i : ℕ). get_or (set xs p y) i a) (sym e) ∙ c.2)
  | inr ne ↦ inr (c.0, omega (arith, c.1, length-set xs p y), sym (get_or-set_other xs p c.0 y a ne) ∙ c.2)
]

-- an insertion between what is before and what is after
pub all_pairs_insert : {X : Type 0} → (R : X → X → Type 0) (xs : List X) (n : ℕ) (y : X) → n ≤ length xs
    → AllPairs R xs → ((k : ℕ) (d : X) → k < n → R (get_or xs k d) y) → ((k : ℕ) (d : X) → n ≤ k → k < length xs
    → R y (get_or xs k d)) → AllPairs R (insert xs n y)
all_pairs_insert {X} R xs n y le all below above i j d lt within = pick (cases_lt i n) (cases_lt j n) (cases_lt n j)
  where
    new : List X
    new = insert xs n y

    inside : j < length xs + 1
    inside = omega (arith, within, length-insert xs n y le)

    -- an element of the new list after the position
    moved : (k : ℕ) → n < k → get_or new k d ≡ get_or xs (k - 1) d
    moved k g = subst (λ (q : ℕ). get_or new q d ≡ get_or xs (k - 1) d) {x =
        k - 1 + 1} (omega (arith, g)) (get_or-insert_above xs n y d (k - 1) (omega (arith, g)) le)

    here : (k : ℕ) → k ≤ n → n ≤ k → get_or new k d ≡ y
    here k a b = subst (λ (q : ℕ). get_or new q d ≡ y) {x = n} (omega (arith, a, b)) (get_or-insert_at xs n y d le)

    two : (a b c e : X) → a ≡ b → c ≡ e → R b e → R a c
    two a b c e p q r = subst (λ (x : X). R x c) (sym p) (subst (λ (x : X). R b x) (sym q) r)

    pick : (i < n) ⊎ (n ≤ i) → (j < n) ⊎ (n ≤ j) → (n < j) ⊎ (j ≤ n) → R (get_or new i d) (get_or new j d)
    pick (inl a) (inl b) c = two _ _ _ _ (get_or-insert_below xs n y d i a le) (get_or-insert_below xs n y d j b le)
        (all i j d lt (omega (arith, b, le)))
    pick (inl a) (inr b) (inl c) = two _ _ _ _ (get_or-insert_below xs n y d i a le) (moved j c) (all i (j - 1) d
        (omega (arith, a, c)) (omega (arith, inside, c)))
    pick (inl a) (inr b) (inr c) = two _ _ _ _ (get_or-insert_below xs n y d i a le) (here j c b) (below i d a)
    pick (inr a) (inl b) c = absurd (omega (arith, a, b, lt))
    pick (inr a) (inr b) (inl c) = pick_first (cases_lt n i)
      where
        pick_first : (n < i) ⊎ (i ≤ n) → R (get_or new i d) (get_or new j d)
        pick_first (inl e) = two _ _ _ _ (moved i e) (moved j c) (all (i - 1) (j - 1) d (omega (arith, lt, e))
            (omega (arith, inside, c)))
        pick_first (inr e) = two _ _ _ _ (here i e a) (moved j c) (above (j - 1) d (omega (arith, c)) (omega
            (arith, inside, c)))
    pick (inr a) (inr b) (inr c) = absurd (omega (arith, a, c, lt))

-- ---- lists that are filtered

-- an element of what is kept, and one that is kept
pub in_filter : {X : Type 0} → (p : X → Bool) (xs : List X) (x : X) → Contains (filter p xs) x
    → Contains xs x × (p x ≡ true)
in_filter {X} p xs x c = (
  All-contains (λ (y : X). Contains xs y) (filter p xs) x
      (All-filter p (λ (y : X). Contains xs y) xs (All-contains_itself xs)) c,
  All-contains (λ (y : X). p y ≡ true) (filter p xs) x (filter_passes p xs) c,
)

first_kept : {X : Type 0} → (b : Bool) (xs : List X) (y x : X) → b ≡ true → y ≡ x
    → Contains (cond b (y ∷ xs) xs) x
first_kept true xs y x e same = (0, omega arith, same)
first_kept false xs y x e same = absurd cc

later_kept : {X : Type 0} → (b : Bool) (xs : List X) (y x : X) → Contains xs x → Contains (cond b (y ∷ xs) xs) x
later_kept true xs y x c = contains_more xs y x c
later_kept false xs y x c = c

pub contains_filter : {X : Type 0} → (p : X → Bool) (xs : List X) (x : X) → p x ≡ true → Contains xs x
    → Contains (filter p xs) x
contains_filter p [] x e c = absurd (omega (arith, c.1))
contains_filter p (y ∷ ys) x e c = elim (contains_either ys y x c) [
  | inl same ↦ first_kept (p y) (filter p ys) y x (ap p same ∙ e) same
  | inr there ↦ later_kept (p y) (filter p ys) y x (contains_filter p ys x e there)
]
