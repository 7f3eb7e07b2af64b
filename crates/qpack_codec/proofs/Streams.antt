-- Request streams, found by their numbers.
use Rattle.std.proofs.Common.{◌≡◌, ℕ, List, [], ◌∷◌, true, false, Option, None, Some, nat_eq}
use Rattle.std.proofs.Common.{IsSome, is_some, IfSome, IfNone, refl, sym, ap, ◌∙◌, arith, subst}
use Rattle.std.proofs.lemmas.Bool.Decides.{nat_tests}
use Rattle.std.proofs.lemmas.Grind.{common_steps}
use Rattle.std.specs.Ordering.{nat_cmp, is_eq}
use Rattle.std.specs.BTreeMap.{BTreeMap, is_at, Updates, WritesThrough}
use Rattle.std.specs.Map.{lookup}
use Rattle.std.specs.Option.{unwrap_or, option_copied}
use Rattle.std.specs.Borrow.{Bor}
use Rattle.qpack_rules.specs.Session.{RequestStream, stream_at}
use Rattle.qpack_codec.specs.RequestStreams.{KeepsStreams, ChangesStream, IsOpen}

-- a stream that was never used
abbrev pub unused : {B : Type 0} → RequestStream B
unused = record { blocks = []; decoded = 0; acknowledged = 0; cancelled = false }

-- equality of numbers is tried either way round
nat_eq_swap : (a b : ℕ) → nat_eq a b ≡ nat_eq b a
nat_eq_swap a b = grind (arith, nat_tests, common_steps)

-- a query by a number finds that number
at_number : (q k : ℕ) → is_eq (nat_cmp q k) ≡ nat_eq k q
at_number q k = grind (arith, nat_tests, common_steps)

-- the stream of a number is what a look-up finds
stream_is : {B : Type 0} (es : List (ℕ × RequestStream B)) (q : ℕ)
    → stream_at es q ≡ unwrap_or (lookup (is_at (nat_cmp q)) es) unused
stream_is [] q = refl
stream_is (e ∷ es) q = grind (arith, at_number q e.0, stream_is es q)

pub stream_found : {B : Type 0} (es : List (ℕ × RequestStream B)) (q : ℕ) (k : RequestStream B)
    → Some k ≡ lookup (is_at (nat_cmp q)) es → stream_at es q ≡ k
stream_found es q k h = stream_is es q ∙ ap (λ o. unwrap_or o unused) (sym h)

pub stream_missing : {B : Type 0} (es : List (ℕ × RequestStream B)) (q : ℕ)
    → None ≡ lookup (is_at (nat_cmp q)) es → stream_at es q ≡ unused
stream_missing es q h = stream_is es q ∙ ap (λ o. unwrap_or o unused) (sym h)

-- a value that was put at a number is its stream
pub stream_put : {B : Type 0} (m n : BTreeMap ℕ (RequestStream B)) (number : ℕ) (k : RequestStream B)
    → Updates nat_cmp m n number (Some k) → ChangesStream number k m.entries n.entries
stream_put m n number k h q =
    grind (arith, stream_is n.entries q, h.0 q, at_number number q, stream_is m.entries q, nat_eq_swap number q)

-- and what was written through a look-up is
pub stream_written : {B : Type 0} (es es' : List (ℕ × RequestStream B)) (m n : BTreeMap ℕ (RequestStream B))
    (number : ℕ) (seen k : RequestStream B) (next : RequestStream B → RequestStream B)
    → m.entries ≡ es → n.entries ≡ es' → Some seen ≡ lookup (is_at (nat_cmp number)) m.entries → k ≡ next seen
    → WritesThrough nat_cmp (nat_cmp number) m k n
    → ChangesStream number (next (stream_at es number)) es es'
stream_written es es' m n number seen k next was is found gives writes =
    let put = stream_put m n number k (writes.3 (subst (λ o. IsSome o) found refl)) in
    let same : k ≡ next (stream_at m.entries number) =
    gives ∙ ap next (sym (stream_found m.entries number seen found)) in
    subst (λ (l : List (ℕ × RequestStream _)). ChangesStream number (next (stream_at es number)) es l) is
    (subst (λ (l : List (ℕ × RequestStream _)). ChangesStream number (next (stream_at l number)) l n.entries) was
    (subst (λ (x : RequestStream _). ChangesStream number x m.entries n.entries) same put))

-- a new stream that was never used changes nothing
pub stream_opened : {B : Type 0} (es es' : List (ℕ × RequestStream B)) (m n : BTreeMap ℕ (RequestStream B))
    (number : ℕ) (k : RequestStream B) → m.entries ≡ es → n.entries ≡ es' → k ≡ unused
    → None ≡ lookup (is_at (nat_cmp number)) m.entries → Updates nat_cmp m n number (Some k) → KeepsStreams es es'
stream_opened es es' m n number k was is empty absent put q =
    let changed = stream_put m n number k put q in
    let missing = stream_missing m.entries number absent in
    grind (arith, nat_tests, changed, missing, was, is, empty)

-- what a look-up answers is the stream, or it was never used
pub looked_up : {B : Type 0} (es : List (ℕ × RequestStream B)) (m : BTreeMap ℕ (RequestStream B)) (number : ℕ)
    (r : Option (Bor (RequestStream B))) → m.entries ≡ es
    → option_copied r ≡ lookup (is_at (nat_cmp number)) m.entries
    → IfSome r (λ x. x.now ≡ stream_at es number)
looked_up es m number (Some x) was h =
    sym (ap (λ (l : List (ℕ × RequestStream _)). stream_at l number) (sym was) ∙ stream_found m.entries number x.now h)
looked_up es m number None was h = tt

pub looked_up_none : {B : Type 0} (es : List (ℕ × RequestStream B)) (m : BTreeMap ℕ (RequestStream B)) (number : ℕ)
    (r : Option (Bor (RequestStream B))) → m.entries ≡ es
    → option_copied r ≡ lookup (is_at (nat_cmp number)) m.entries
    → IfNone r (stream_at es number ≡ unused)
looked_up_none es m number (Some x) was h = tt
looked_up_none es m number None was h =
    ap (λ (l : List (ℕ × RequestStream _)). stream_at l number) (sym was) ∙ stream_missing m.entries number h

pub none_is : {X : Type 0} (o : Option X) → is_some o ≡ false → None ≡ o
none_is (Some x) h = absurd cc
none_is None h = refl

pub opened_is : {B : Type 0} (m n : BTreeMap ℕ (RequestStream B)) (number : ℕ) (k : RequestStream B)
    → Updates nat_cmp m n number (Some k) → IsOpen number n.entries
opened_is m n number k put = subst (λ o. IsSome o) (sym put.1) refl

pub is_not : false ≡ true → ⊥
is_not h = cc
