-- Elements that pass a test among the first of a list, and fronts of lists.
use Rattle.std.proofs.Common.{ℕ, zero, suc, ◌≤◌, ◌≡◌, Bool, true, false, cond, List, [], ◌∷◌, ◌++◌, length, drop, take}
use Rattle.std.proofs.Common.{map, Some, subst, arith}
use Rattle.std.specs.List.{AllByRecursion, slice_get, filter}

-- an element behind the first n that passes is among those that pass, but for a that are within the first n
pub undecoded_in : {X : Type 0} (P : X → Type 0) (p : X → Bool) (xs : List X) (n a : ℕ) (x : X)
    → AllByRecursion P (drop a (filter p xs)) → a ≤ length (filter p (take n xs)) → slice_get xs n ≡ Some x
    → p x ≡ true → P x
undecoded_in P p [] n a x h le e t = absurd (cc)
undecoded_in {X} P p (y ∷ ys) zero a x h le e t =
    let same : y ≡ x = cc in
    let passes : p y ≡ true = rw same t in
    let none : a ≡ 0 = omega arith in
    let all : AllByRecursion P (drop 0 (cond (p y) (y ∷ filter p ys) (filter p ys))) =
    subst (λ (k : ℕ). AllByRecursion P (drop k (cond (p y) (y ∷ filter p ys) (filter p ys)))) none h in
    let all' : AllByRecursion P (y ∷ filter p ys) = rw passes at all in
    subst P same all'.0
undecoded_in {X} P p (y ∷ ys) (suc n) a x h le e t = let rest =
    λ (b : ℕ) (k : AllByRecursion P (drop b (filter p ys))) (l : b ≤ length (filter p (take n ys))). undecoded_in P p
    ys n b x k l e t in
    pick (p y) a rest h le
  where
    pick : (b : Bool) (c : ℕ) → ((d : ℕ) → AllByRecursion P (drop d (filter p ys)) → d ≤ length (filter p (take n ys))
        → P x)
        → AllByRecursion P (drop c (cond b (y ∷ filter p ys) (filter p ys)))
        → c ≤ length (cond b (y ∷ filter p (take n ys)) (filter p (take n ys))) → P x
    pick true zero rest k l = rest 0 k.1 (omega arith)
    pick true (suc c) rest k l = rest c k (omega arith)
    pick false c rest k l = rest c k l

pub filter_take : {X : Type 0} (p : X → Bool) (n : ℕ) (xs : List X)
    → length (filter p (take n xs)) ≤ length (filter p xs)
filter_take p zero xs = omega arith
filter_take p (suc n) [] = omega arith
filter_take p (suc n) (x ∷ xs) = let rest = filter_take p n xs in
    elim (p x) as (λ b. length (cond b (x ∷ filter p (take n xs)) (filter p (take n xs)))
    ≤ length (cond b (x ∷ filter p xs) (filter p xs))) [ true ↦ omega (arith, rest) | false ↦ rest ]

pub filter_take_append : {X : Type 0} (p : X → Bool) (n : ℕ) (xs ys : List X)
    → length (filter p (take n xs)) ≤ length (filter p (take n (xs ++ ys)))
filter_take_append p zero xs ys = omega arith
filter_take_append p (suc n) [] ys = omega arith
filter_take_append p (suc n) (x ∷ xs) ys = let rest = filter_take_append p n xs ys in
    elim (p x) as (λ b. length (cond b (x ∷ filter p (take n xs)) (filter p (take n xs)))
    ≤ length (cond b (x ∷ filter p (take n (xs ++ ys))) (filter p (take n (xs ++ ys)))))
    [ true ↦ omega (arith, rest) | false ↦ rest ]

pub filter_take_more : {X : Type 0} (p : X → Bool) (n : ℕ) (xs : List X)
    → length (filter p (take n xs)) ≤ length (filter p (take (suc n) xs))
filter_take_more p zero xs = omega arith
filter_take_more p (suc n) [] = omega arith
filter_take_more p (suc n) (x ∷ xs) = let rest = filter_take_more p n xs in
    elim (p x) as (λ b. length (cond b (x ∷ filter p (take n xs)) (filter p (take n xs)))
    ≤ length (cond b (x ∷ filter p (take (suc n) xs)) (filter p (take (suc n) xs))))
    [ true ↦ omega (arith, rest) | false ↦ rest ]

pub every_map : {X Y : Type 0} (P : Y → Type 0) (f : X → Y) (xs : List X) → AllByRecursion P (map f xs)
    → AllByRecursion (λ x. P (f x)) xs
every_map P f [] h = tt
every_map P f (x ∷ xs) h = (h.0, every_map P f xs h.1)

pub length_filter : {X : Type 0} (p : X → Bool) (xs : List X) → length (filter p xs) ≤ length xs
length_filter p [] = omega arith
length_filter p (x ∷ xs) = let rest = length_filter p xs in
    elim (p x) as (λ b. length (cond b (x ∷ filter p xs) (filter p xs)) ≤ suc (length xs))
    [ true ↦ omega (arith, rest) | false ↦ omega (arith, rest) ]
