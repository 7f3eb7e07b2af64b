-- Taking apart what a reading gave.
use Rattle.std.proofs.Common.{◌≡◌, Bool, true, false, cond, Result, Ok, Err, refl, ap, inl, inr, ◌⊎◌}
use Rattle.qpack_spec.specs.Bytes.{◌>>=◌}

pub bind_ok : {A B E : Type 0} (r : Result A E) (f : A → Result B E) (y : B) → (r >>= f) ≡ Ok y
    → (x : A) × (r ≡ Ok x) × (f x ≡ Ok y)
bind_ok (Ok x) f y e = (x, refl, e)
bind_ok (Err d) f y e = absurd cc

pub bind_err : {A B E : Type 0} (r : Result A E) (f : A → B) (d : E) → (r >>= λ x. Ok (f x)) ≡ Err d → r ≡ Err d
bind_err (Ok x) f d e = absurd cc
bind_err (Err d') f d e = cc

pub chosen : {A : Type 0} (b : Bool) (x y z : A) → cond b x y ≡ z → ((b ≡ true) × (x ≡ z)) ⊎ ((b ≡ false) × (y ≡ z))
chosen true x y z e = inl (refl, e)
chosen false x y z e = inr (refl, e)

abbrev done : {A E : Type 0} → A → Result A E
done x = Ok x

pub ok_is : {A E : Type 0} (x y : A) → done {A = A} {E = E} x ≡ done y → x ≡ y
ok_is x y e = cc

pub ok_pair : {A B E : Type 0} (a c : A) (b d : B) → done {A = A × B} {E = E} (a, b) ≡ done (c, d) → (a ≡ c) × (b ≡ d)
ok_pair {A} {B} a c b d e =
    let p = ok_is (a, b) (c, d) e in (ap (λ (x : A × B). x.0) p, ap (λ (x : A × B). x.1) p)

pub ok_triple : {A B C E : Type 0} (a d : A) (b e : B) (c f : C)
    → done {A = A × B × C} {E = E} (a, b, c) ≡ done (d, e, f) → (a ≡ d) × (b ≡ e) × (c ≡ f)
ok_triple {A} {B} {C} a d b e c f h =
    let p = ok_is (a, b, c) (d, e, f) h in (
      ap (λ (x : A × B × C). x.0) p,
      ap (λ (x : A × B × C). x.1) p,
      ap (λ (x : A × B × C). x.2) p,
    )

pub pair_is : {A B : Type 0} (a c : A) (b d : B) → a ≡ c → b ≡ d
    → (let x : A × B = (a, b) in let y : A × B = (c, d) in x ≡ y)
pair_is {A} {B} a c b d p q = cc
