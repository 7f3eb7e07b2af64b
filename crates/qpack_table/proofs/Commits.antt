-- What is kept of commits: what comes in last, and what is taken out.
use Rattle.std.proofs.Common.{◌≡◌, ℕ, zero, suc, ◌+◌, ◌<◌, ◌≤◌, ◌^◌, Bool, true, false, List, [], ◌∷◌, ◌++◌, length}
use Rattle.std.proofs.Common.{map, None, refl, sym, ap, ◌∙◌, arith, inl, inr, add-one, rules}
use Rattle.std.proofs.lemmas.List.{length-append, map-append}
use Rattle.std.proofs.lemmas.Bool.{eqb-true, ne_eqb, cases_eq}
use Rattle.std.proofs.lemmas.Cmp.{ranked, tied_itself}
use Rattle.std.specs.Cmp.{nat_cmp_total}
use Rattle.std.specs.Prelude.{nat_eq, IsSome}
use Rattle.std.specs.List.{AllByRecursion}
use Rattle.std.specs.Map.{lookup, remove_entry}
use Rattle.std.specs.BTreeMap.{BTreeMap, insert_entry, is_at, get}
use Rattle.std.specs.BTreeMap.Range.{IsRangeOf}
use Rattle.std.specs.declared.ops.Bound.TheVariants.{Included, Unbounded}
use Rattle.std.specs.declared.cmp.Ordering.{Ordering}
use Rattle.std.specs.declared.cmp.Ordering.TheVariants.{Less, Equal, Greater}
use Rattle.std.specs.Ordering.{nat_cmp, is_eq, is_gt, ordering_then, MatchOrdering}
use Rattle.qpack_spec.proofs.Lists.{every_append, every_weaker}
use Rattle.qpack_table.specs.Commits.{at_order, in_order, AreNumbered, IsOldest, HasNone, key_cmp}
use Rattle.qpack_table.specs.declared.dynamic.open_blocks.CommitKey.{CommitKey}

-- ---- keys

pub same_key : (a b : CommitKey) → a.number ≡ b.number → a.order ≡ b.order → a ≡ b
same_key a b n o =
    let first : a ≡ record { number = b.number; order = a.order } =
    ap (λ (x : ℕ). record { number = x; order = a.order }) n in
    first ∙ ap (λ (x : ℕ). record { number = b.number; order = x }) o

pub key_exact : (k q : CommitKey) → key_cmp k q ≡ Equal → q ≡ k
key_exact k q e = by (nat_cmp k.number q.number) (nat_cmp k.order q.order)
    (ranked k.number q.number (nat_cmp k.number q.number) refl) (ranked k.order q.order (nat_cmp k.order q.order) refl)
    e
  where
    by : (r s : Ordering) → MatchOrdering r (k.number < q.number) (k.number ≡ q.number) (q.number < k.number)
        → MatchOrdering s (k.order < q.order) (k.order ≡ q.order) (q.order < k.order)
        → ordering_then r s ≡ Equal → q ≡ k
    by Less s h i e = absurd cc
    by Equal Less h i e = absurd cc
    by Equal Equal h i e = same_key q k (sym h) (sym i)
    by Equal Greater h i e = absurd cc
    by Greater s h i e = absurd cc

pub found_key : (k q : CommitKey) → is_at (key_cmp k) q ≡ true → q ≡ k
found_key k q e = key_exact k q (by (key_cmp k q) e)
  where
    by : (r : Ordering) → is_eq r ≡ true → r ≡ Equal
    by Less e = absurd cc
    by Equal e = refl
    by Greater e = absurd cc

pub key_itself : (k : CommitKey) → is_at (key_cmp k) k ≡ true
key_itself k = rw (tied_itself nat_cmp_total k.number, tied_itself nat_cmp_total k.order) refl

pub same_order : (n : ℕ) → nat_eq n n ≡ true
same_order n = search rules

pub le_number : (a b : CommitKey) → is_gt (key_cmp a b) ≡ false → a.number ≤ b.number
le_number a b e =
    by (nat_cmp a.number b.number) (ranked a.number b.number (nat_cmp a.number b.number) refl) e
  where
    by : (r : Ordering) → MatchOrdering r (a.number < b.number) (a.number ≡ b.number) (b.number < a.number)
        → is_gt (ordering_then r (nat_cmp a.order b.order)) ≡ false → a.number ≤ b.number
    by Less h e = omega (arith, h)
    by Equal h e = omega (arith, h)
    by Greater h e = absurd cc

le_order : (a b : CommitKey) → is_gt (key_cmp a b) ≡ false → a.number ≡ b.number → a.order ≤ b.order
le_order a b e same = by (nat_cmp a.number b.number) (nat_cmp a.order b.order)
    (ranked a.number b.number (nat_cmp a.number b.number) refl) (ranked a.order b.order (nat_cmp a.order b.order) refl)
    e
  where
    by : (r s : Ordering) → MatchOrdering r (a.number < b.number) (a.number ≡ b.number) (b.number < a.number)
        → MatchOrdering s (a.order < b.order) (a.order ≡ b.order) (b.order < a.order)
        → is_gt (ordering_then r s) ≡ false → a.order ≤ b.order
    by Less s h i e = absurd (omega (arith, h, same))
    by Equal Less h i e = omega (arith, i)
    by Equal Equal h i e = omega (arith, i)
    by Equal Greater h i e = absurd cc
    by Greater s h i e = absurd (omega (arith, h, same))

-- the least key of a number
abbrev pub first_of : ℕ → CommitKey
first_of number = record { number = number; order = 0 }

from_first : (s : ℕ) (q : CommitKey) → q.number ≡ s → is_gt (key_cmp (first_of s) q) ≡ false
from_first s q same = by (nat_cmp s q.number) (nat_cmp 0 q.order)
    (ranked s q.number (nat_cmp s q.number) refl) (ranked 0 q.order (nat_cmp 0 q.order) refl)
  where
    by : (r t : Ordering) → MatchOrdering r (s < q.number) (s ≡ q.number) (q.number < s)
        → MatchOrdering t (0 < q.order) (0 ≡ q.order) (q.order < 0) → is_gt (ordering_then r t) ≡ false
    by Less t h i = refl
    by Equal Less h i = refl
    by Equal Equal h i = refl
    by Equal Greater h i = absurd (omega (arith, i))
    by Greater t h i = absurd (omega (arith, h, same))

module _ {X : Type 0} where
  -- ---- the oldest of a number

  -- what holds of each key that is found holds of all
  every_found : (P : CommitKey → Type 0) (es : List (CommitKey × X))
      → ((q : CommitKey) → IsSome (lookup (is_at (key_cmp q)) es) → P q) → AllByRecursion (λ e. P e.0) es
  every_found P [] h = tt
  every_found P (e ∷ es) h =
      let here : IsSome (lookup (is_at (key_cmp e.0)) (e ∷ es)) = rw (key_itself e.0) refl in
      (h e.0 here, every_found P es (λ q is. h q (behind q (is_at (key_cmp q) e.0) refl is)))
    where
      behind : (q : CommitKey) (t : Bool) → is_at (key_cmp q) e.0 ≡ t → IsSome (lookup (is_at (key_cmp q)) es)
          → IsSome (lookup (is_at (key_cmp q)) (e ∷ es))
      behind q true is h = rw is refl
      behind q false is h = rw is h

  pub oldest_found : (m : BTreeMap CommitKey X) (s : ℕ) (k : CommitKey) (x : X) (r t : List (CommitKey × X))
      → IsRangeOf key_cmp (Included (first_of s)) Unbounded m r → r ≡ (k, x) ∷ t → k.number ≡ s
      → IsOldest s k x m.entries
  oldest_found m s k x r t range is here =
      let at = rw is at range in
      record {
        number_is = here;
        found = at.1.1;
        least = every_found (λ q. q.number ≡ s → k.order ≤ q.order) m.entries (λ q there same.
            le_order k q (at.2 q (from_first s q same, tt) there) (here ∙ sym same));
      }

  pub oldest_elsewhere : (m : BTreeMap CommitKey X) (s : ℕ) (k : CommitKey) (x : X) (r t : List (CommitKey × X))
      → IsRangeOf key_cmp (Included (first_of s)) Unbounded m r → r ≡ (k, x) ∷ t → (k.number ≡ s → ⊥)
      → HasNone s m.entries
  oldest_elsewhere m s k x r t range is other =
      let at = rw is at range in
      every_found (λ q. q.number ≡ s → ⊥) m.entries (λ q there same.
      let above = le_number (first_of s) k at.1.0.0 in
      let below = le_number k q (at.2 q (from_first s q same, tt) there) in
      other (omega (arith, above, below, same)))

  pub none_found : (m : BTreeMap CommitKey X) (s : ℕ) (r : List (CommitKey × X))
      → IsRangeOf key_cmp (Included (first_of s)) Unbounded m r → r ≡ [] → HasNone s m.entries
  none_found m s r range is =
      every_found (λ q. q.number ≡ s → ⊥) m.entries (λ q there same.
      let none : get key_cmp m q ≡ None = range.5 is q (from_first s q same, tt) in
      let some = rw none at there in absurd cc)

  -- ---- what is taken out

  other_order_left : (k : CommitKey) (n : ℕ) (es : List (CommitKey × X)) → (k.order ≡ n → ⊥)
      → at_order n (remove_entry (is_at (key_cmp k)) es) ≡ at_order n es
  other_order_left k n [] other = refl
  other_order_left k n (e ∷ es) other =
      first (is_at (key_cmp k) e.0) refl (nat_eq e.0.order n) refl (other_order_left k n es other)
    where
      first : (t : Bool) → is_at (key_cmp k) e.0 ≡ t → (u : Bool) → nat_eq e.0.order n ≡ u
          → at_order n (remove_entry (is_at (key_cmp k)) es) ≡ at_order n es
          → at_order n (remove_entry (is_at (key_cmp k)) (e ∷ es)) ≡ at_order n (e ∷ es)
      first true is u at rest =
          let order : e.0.order ≡ k.order = ap (λ (q : CommitKey). q.order) (found_key k e.0 is) in
          let there : nat_eq e.0.order n ≡ false = ne_eqb e.0.order n (λ f. other (sym order ∙ f)) in
          rw (is, there) refl
      first false is true at rest = rw (is, at) (ap (λ (l : List (CommitKey × X)). e ∷ l) rest)
      first false is false at rest = rw (is, at) rest

  pub others_left : (k : CommitKey) (n : ℕ) (es : List (CommitKey × X)) → n ≤ k.order
      → in_order n (remove_entry (is_at (key_cmp k)) es) ≡ in_order n es
  others_left k zero es below = refl
  others_left k (suc n) es below =
      let before = others_left k n es (omega (arith, below)) in
      let here = other_order_left k n es (λ f. omega (arith, f, below)) in
      rw (before, here) refl

  pub later_left : (k : CommitKey) (n : ℕ) (es : List (CommitKey × X)) → k.order < n
      → at_order n (remove_entry (is_at (key_cmp k)) es) ≡ at_order n es
  later_left k n es above = other_order_left k n es (λ f. omega (arith, f, above))

  few_there : (k : CommitKey) (n : ℕ) (es : List (CommitKey × X))
      → length (at_order n (remove_entry (is_at (key_cmp k)) es)) ≤ length (at_order n es)
  few_there k n [] = omega arith
  few_there k n (e ∷ es) =
      first (is_at (key_cmp k) e.0) refl (nat_eq e.0.order n) refl (few_there k n es)
    where
      first : (t : Bool) → is_at (key_cmp k) e.0 ≡ t → (u : Bool) → nat_eq e.0.order n ≡ u
          → length (at_order n (remove_entry (is_at (key_cmp k)) es)) ≤ length (at_order n es)
          → length (at_order n (remove_entry (is_at (key_cmp k)) (e ∷ es))) ≤ length (at_order n (e ∷ es))
      first true is true at rest = rw (is, at) (omega arith)
      first true is false at rest = rw (is, at) (omega arith)
      first false is true at rest = rw (is, at) (omega (arith, rest))
      first false is false at rest = rw (is, at) rest

  few_left : (k : CommitKey) (n : ℕ) (es : List (CommitKey × X))
      → length (in_order n (remove_entry (is_at (key_cmp k)) es)) ≤ length (in_order n es)
  few_left k zero es = omega arith
  few_left k (suc n) es = omega (
    arith,
    few_left k n es,
    few_there k n es,
    length-append (in_order n es) (at_order n es),
    length-append (in_order n (remove_entry (is_at (key_cmp k)) es)) (at_order n (remove_entry (is_at (key_cmp k)) es)),
  )

  every_left : (P : CommitKey × X → Type 0) (test : CommitKey → Bool) (es : List (CommitKey × X)) → AllByRecursion P es
      → AllByRecursion P (remove_entry test es)
  every_left P test [] h = h
  every_left P test (e ∷ es) h = first (test e.0) refl (every_left P test es h.1)
    where
      first : (t : Bool) → test e.0 ≡ t → AllByRecursion P (remove_entry test es)
          → AllByRecursion P (remove_entry test (e ∷ es))
      first true is rest = rw is h.1
      first false is rest = rw is (h.0, rest)

  pub numbered_less : (k : CommitKey) (next : ℕ) (es now : List (CommitKey × X)) → AreNumbered next es
      → now ≡ remove_entry (is_at (key_cmp k)) es → AreNumbered next now
  numbered_less k next es now h left = rw left (record {
    below = every_left (λ (e : CommitKey × X). e.0.order < next) (is_at (key_cmp k)) es h.below;
    few = omega (arith, few_left k next es, h.few);
    most = h.most;
  })

  -- ---- what comes in

  none_there : (n : ℕ) (es : List (CommitKey × X)) → AllByRecursion (λ e. e.0.order < n) es → at_order n es ≡ []
  none_there n [] h = refl
  none_there n (e ∷ es) h =
      let there : nat_eq e.0.order n ≡ false = ne_eqb e.0.order n (λ f. omega (arith, f, h.0)) in
      rw there (none_there n es h.1)

  other_order_more : (k : CommitKey) (x : X) (n : ℕ) (es : List (CommitKey × X)) → (k.order ≡ n → ⊥)
      → at_order n (insert_entry key_cmp es k x) ≡ at_order n es
  other_order_more k x n [] other = let no = ne_eqb k.order n other in rw no refl
  other_order_more k x n (e ∷ es) other =
      first (key_cmp k e.0) refl (nat_eq e.0.order n) refl (other_order_more k x n es other)
    where
      no : nat_eq k.order n ≡ false
      no = ne_eqb k.order n other

      first : (r : Ordering) → key_cmp k e.0 ≡ r → (u : Bool) → nat_eq e.0.order n ≡ u
          → at_order n (insert_entry key_cmp es k x) ≡ at_order n es
          → at_order n (insert_entry key_cmp (e ∷ es) k x) ≡ at_order n (e ∷ es)
      first Less is u at rest = rw (is, no) refl
      first Equal is u at rest =
          let order : e.0.order ≡ k.order = ap (λ (q : CommitKey). q.order) (key_exact k e.0 is) in
          let there : nat_eq e.0.order n ≡ false = ne_eqb e.0.order n (λ f. other (sym order ∙ f)) in
          rw (is, there) refl
      first Greater is true at rest = rw (is, at) (ap (λ (l : List (CommitKey × X)). e ∷ l) rest)
      first Greater is false at rest = rw (is, at) rest

  new_order : (k : CommitKey) (x : X) (es : List (CommitKey × X)) → AllByRecursion (λ e. e.0.order < k.order) es
      → at_order k.order (insert_entry key_cmp es k x) ≡ (k, x) ∷ []
  new_order k x [] h = rw (same_order k.order) refl
  new_order k x (e ∷ es) h = first (key_cmp k e.0) refl (new_order k x es h.1)
    where
      there : nat_eq e.0.order k.order ≡ false
      there = ne_eqb e.0.order k.order (λ f. omega (arith, f, h.0))

      first : (r : Ordering) → key_cmp k e.0 ≡ r → at_order k.order (insert_entry key_cmp es k x) ≡ (k, x) ∷ []
          → at_order k.order (insert_entry key_cmp (e ∷ es) k x) ≡ (k, x) ∷ []
      first Less is rest = rw (is, same_order k.order, there, none_there k.order es h.1) refl
      first Equal is rest = absurd (omega (arith, ap (λ (q : CommitKey). q.order) (key_exact k e.0 is), h.0))
      first Greater is rest = rw (is, there) rest

  others_more : (k : CommitKey) (x : X) (n : ℕ) (es : List (CommitKey × X)) → n ≤ k.order
      → in_order n (insert_entry key_cmp es k x) ≡ in_order n es
  others_more k x zero es below = refl
  others_more k x (suc n) es below =
      let before = others_more k x n es (omega (arith, below)) in
      let here = other_order_more k x n es (λ f. omega (arith, f, below)) in
      rw (before, here) refl

  -- what comes in is the last in the order of commits
  pub last_in_order : (k : CommitKey) (x : X) (es : List (CommitKey × X))
      → AllByRecursion (λ e. e.0.order < k.order) es
      → in_order (k.order + 1) (insert_entry key_cmp es k x) ≡ in_order k.order es ++ (k, x) ∷ []
  last_in_order k x es h =
      let before = others_more k x k.order es (omega arith) in
      let here = new_order k x es h in
      rw (add-one, before, here) refl

  below_more : (k : CommitKey) (x : X) (es : List (CommitKey × X)) → AllByRecursion (λ e. e.0.order < k.order) es
      → AllByRecursion (λ e. e.0.order < k.order + 1) (insert_entry key_cmp es k x)
  below_more k x [] h = (omega arith, tt)
  below_more k x (e ∷ es) h = first (key_cmp k e.0) refl (below_more k x es h.1)
    where
      all : AllByRecursion (λ e. e.0.order < k.order + 1) es
      all = every_weaker (λ (e : CommitKey × X). e.0.order < k.order) (λ (e : CommitKey × X). e.0.order < k.order + 1)
          (λ e i. omega (arith, i)) es h.1

      first : (r : Ordering) → key_cmp k e.0 ≡ r
          → AllByRecursion (λ e. e.0.order < k.order + 1) (insert_entry key_cmp es k x)
          → AllByRecursion (λ e. e.0.order < k.order + 1) (insert_entry key_cmp (e ∷ es) k x)
      first Less is rest = rw is (omega arith, (omega (arith, h.0), all))
      first Equal is rest = rw is (omega (arith, h.0), all)
      first Greater is rest = rw is (omega (arith, h.0), rest)

  pub numbered_more : (k : CommitKey) (x : X) (next : ℕ) (es now : List (CommitKey × X)) → AreNumbered next es
      → k.order ≡ next → next < 2 ^ 62 → now ≡ insert_entry key_cmp es k x → AreNumbered (next + 1) now
  numbered_more k x next es now h is room came = rw (came, ← is) (record {
    below = below_more k x es (rw (← is) at h.below);
    few = let long = length-append (in_order k.order es) ((k, x) ∷ []) in
        let one : length {A = CommitKey × X} ((k, x) ∷ []) ≡ 1 = refl in
        let few = rw (← is) at h.few in
        rw (last_in_order k x es (rw (← is) at h.below)) (omega (arith, long, one, few));
    most = omega (arith, room, is);
  })

  -- ---- how many there are

  later_first : (n : ℕ) (e : CommitKey × X) (es : List (CommitKey × X)) → n ≤ e.0.order
      → in_order n (e ∷ es) ≡ in_order n es
  later_first zero e es h = refl
  later_first (suc n) e es h =
      let before = later_first n e es (omega (arith, h)) in
      let there : nat_eq e.0.order n ≡ false = ne_eqb e.0.order n (λ f. omega (arith, f, h)) in
      rw (before, there) refl

  pub one_more : (n : ℕ) (e : CommitKey × X) (es : List (CommitKey × X)) → e.0.order < n
      → length (in_order n (e ∷ es)) ≡ suc (length (in_order n es))
  one_more zero e es h = absurd (omega (arith, h))
  one_more (suc n) e es h = elim (cases_eq e.0.order n) [
    | inl same ↦
        let before = later_first n e es (omega (arith, same)) in
        let here : nat_eq e.0.order n ≡ true = rw same (same_order n) in
        rw (before, here) (omega (
          arith,
          length-append (in_order n es) (e ∷ at_order n es),
          length-append (in_order n es) (at_order n es),
        ))
    | inr other ↦
        let before = one_more n e es (omega (arith, h, other)) in
        let there : nat_eq e.0.order n ≡ false = ne_eqb e.0.order n other in
        rw there (omega (
          arith,
          before,
          length-append (in_order n (e ∷ es)) (at_order n es),
          length-append (in_order n es) (at_order n es),
        ))
  ]

  no_entries : (n : ℕ) → in_order {X = X} n [] ≡ []
  no_entries zero = refl
  no_entries (suc n) = rw (no_entries n) refl

  pub length_in_order : (n : ℕ) (es : List (CommitKey × X)) → AllByRecursion (λ e. e.0.order < n) es
      → length (in_order n es) ≡ length es
  length_in_order n [] h = rw (no_entries n) refl
  length_in_order n (e ∷ es) h = one_more n e es h.0 ∙ ap (λ (l : ℕ). suc l) (length_in_order n es h.1)

  -- ---- what holds of each

  every_there : {Y : Type 0} (f : CommitKey × X → Y) (Q : Y → Type 0) (n : ℕ) (es : List (CommitKey × X))
      → AllByRecursion (λ e. e.0.order ≡ n → Q (f e)) es → AllByRecursion Q (map f (at_order n es))
  every_there f Q n [] h = h
  every_there f Q n (e ∷ es) h = first (nat_eq e.0.order n) refl (every_there f Q n es h.1)
    where
      first : (t : Bool) → nat_eq e.0.order n ≡ t → AllByRecursion Q (map f (at_order n es))
          → AllByRecursion Q (map f (at_order n (e ∷ es)))
      first true is rest = rw is (h.0 (eqb-true e.0.order n is), rest)
      first false is rest = rw is rest

  pub every_in_order : {Y : Type 0} (f : CommitKey × X → Y) (Q : Y → Type 0) (n : ℕ) (es : List (CommitKey × X))
      → AllByRecursion (λ e. e.0.order < n → Q (f e)) es → AllByRecursion Q (map f (in_order n es))
  every_in_order f Q zero es h = tt
  every_in_order f Q (suc n) es h =
      let before = every_in_order f Q n es (every_weaker (λ (e : CommitKey × X). e.0.order < suc n → Q (f e))
      (λ (e : CommitKey × X). e.0.order < n → Q (f e)) (λ e q i. q (omega (arith, i))) es h) in
      let here = every_there f Q n es (every_weaker (λ (e : CommitKey × X). e.0.order < suc n → Q (f e))
      (λ (e : CommitKey × X). e.0.order ≡ n → Q (f e)) (λ e q i. q (omega (arith, i))) es h) in
      rw (map-append f (in_order n es) (at_order n es))
      (every_append Q (map f (in_order n es)) (map f (at_order n es)) before here)
