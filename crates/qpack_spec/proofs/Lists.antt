-- What holds of each element of a list, and of elements found by their positions.
use Rattle.std.proofs.Common.{◌≤◌, ℕ, zero, ◌+◌, ◌<◌, ◌≡◌, suc, List, [], ◌∷◌, ◌++◌, length}
use Rattle.std.proofs.Common.{drop, Some, refl, ap, subst, arith}
use Rattle.std.specs.List.{AllByRecursion, slice_get}

pub every_append : {X : Type 0} (P : X → Type 0) (xs ys : List X) → AllByRecursion P xs → AllByRecursion P ys
    → AllByRecursion P (xs ++ ys)
every_append P [] ys h k = k
every_append P (x ∷ xs) ys h k = (h.0, every_append P xs ys h.1 k)

pub every_left : {X : Type 0} (P : X → Type 0) (xs ys : List X) → AllByRecursion P (xs ++ ys) → AllByRecursion P xs
every_left P [] ys h = tt
every_left P (x ∷ xs) ys h = (h.0, every_left P xs ys h.1)

pub every_right : {X : Type 0} (P : X → Type 0) (xs ys : List X) → AllByRecursion P (xs ++ ys) → AllByRecursion P ys
every_right P [] ys h = h
every_right P (x ∷ xs) ys h = every_right P xs ys h.1

pub every_weaker : {X : Type 0} (P Q : X → Type 0) → ((x : X) → P x → Q x) → (xs : List X) → AllByRecursion P xs
    → AllByRecursion Q xs
every_weaker P Q f [] h = tt
every_weaker P Q f (x ∷ xs) h = (f x h.0, every_weaker P Q f xs h.1)

-- what holds of everything
pub every_all : {X : Type 0} (P : X → Type 0) → ((x : X) → P x) → (xs : List X) → AllByRecursion P xs
every_all P f [] = tt
every_all P f (x ∷ xs) = (f x, every_all P f xs)

-- from two facts of each
pub every_both : {X : Type 0} (P Q R : X → Type 0) → ((x : X) → P x → Q x → R x) → (xs : List X) → AllByRecursion P xs
    → AllByRecursion Q xs → AllByRecursion R xs
every_both P Q R f [] h k = tt
every_both P Q R f (x ∷ xs) h k = (f x h.0 k.0, every_both P Q R f xs h.1 k.1)

pub every_drop : {X : Type 0} (P : X → Type 0) (n : ℕ) (xs : List X) → AllByRecursion P xs
    → AllByRecursion P (drop n xs)
every_drop P zero xs h = h
every_drop P (suc n) [] h = tt
every_drop P (suc n) (x ∷ xs) h = every_drop P n xs h.1

pub every_get : {X : Type 0} (P : X → Type 0) (xs : List X) (i : ℕ) (x : X) → slice_get xs i ≡ Some x
    → AllByRecursion P xs → P x
every_get P [] i x e h = absurd (cc)
every_get P (y ∷ ys) zero x e h = let q : y ≡ x = cc in subst P q h.0
every_get P (y ∷ ys) (suc i) x e h = every_get P ys i x e h.1

-- a position within a list has an element
pub get_within : {X : Type 0} (xs : List X) (i : ℕ) → i < length xs → (x : X) × (slice_get xs i ≡ Some x)
get_within [] i h = absurd (omega arith)
get_within (y ∷ xs) zero h = (y, refl)
get_within (y ∷ xs) (suc i) h = get_within xs i (omega arith)

-- an element of a list's end
pub get_drop : {X : Type 0} (d : ℕ) (xs : List X) (i : ℕ) → slice_get (drop d xs) i ≡ slice_get xs (d + i)
get_drop zero xs i = ap (slice_get xs) (omega arith)
get_drop (suc d) [] i = refl
get_drop (suc d) (x ∷ xs) i = let e : suc d + i ≡ suc (d + i) = omega arith in rw e (get_drop d xs i)

pub get_append : {X : Type 0} (xs ys : List X) (i : ℕ) (x : X) → slice_get xs i ≡ Some x
    → slice_get (xs ++ ys) i ≡ Some x
get_append [] ys i x e = absurd (cc)
get_append (y ∷ xs) ys zero x e = e
get_append (y ∷ xs) ys (suc i) x e = get_append xs ys i x e

pub get_append_within : {X : Type 0} (xs ys : List X) (i : ℕ) → i < length xs → slice_get (xs ++ ys) i ≡ slice_get xs i
get_append_within [] ys i h = absurd (omega arith)
get_append_within (y ∷ xs) ys zero h = refl
get_append_within (y ∷ xs) ys (suc i) h = get_append_within xs ys i (omega arith)

pub get_append_end : {X : Type 0} (xs : List X) (x : X) → slice_get (xs ++ x ∷ []) (length xs) ≡ Some x
get_append_end [] x = refl
get_append_end (y ∷ xs) x = get_append_end xs x

-- of two ways to cut a list, the front of the shorter cut is a front of the other
pub front_of : {X : Type 0} (as' bs cs ds : List X) → as' ++ bs ≡ cs ++ ds → length as' ≤ length cs
    → (x : List X) × (as' ++ x ≡ cs)
front_of [] bs cs ds e h = (cs, refl)
front_of (a ∷ as') bs [] ds e h = absurd (omega arith)
front_of (a ∷ as') bs (c ∷ cs) ds e h =
    let head : a ≡ c = cc in
    let tail : as' ++ bs ≡ cs ++ ds = cc in
    let r = front_of as' bs cs ds tail (omega arith) in
    (r.0, λ i. head i ∷ r.1 i)
