-- The blocks that may be blocked: one more, one taken back, and those that are released.
use Rattle.std.proofs.Common.{◌≡◌, ℕ, zero, suc, ◌+◌, ◌<◌, ◌≤◌, ◌^◌, Bool, true, false, List, [], ◌∷◌, ◌++◌, length}
use Rattle.std.proofs.Common.{map, Some, refl, sym, ap, ◌∙◌, arith}
use Rattle.std.proofs.lemmas.List.{map-append, length-map}
use Rattle.std.proofs.lemmas.List.Elements.{filter-append}
use Rattle.std.proofs.lemmas.Bool.{lt-ltb, le-ltb}
use Rattle.std.specs.Prelude.{⊤, nat_eq, nat_lt, filter, slice_get, Option, None, IsSome, IfSome, ◌↔◌}
use Rattle.std.specs.List.{All, AllByRecursion}
use Rattle.std.specs.Set.{remove_key}
use Rattle.std.specs.BTreeMap.{insert_entry, is_at}
use Rattle.std.specs.BTreeMap.Range.{IsLeBy}
use Rattle.std.specs.BTreeSet.{insert_key}
use Rattle.std.specs.declared.cmp.Ordering.{Ordering}
use Rattle.std.specs.declared.cmp.Ordering.TheVariants.{Less, Equal, Greater}
use Rattle.qpack_spec.proofs.Lists.{every_weaker}
use Rattle.qpack_table.specs.Commits.{at_order, in_order, AreNumbered, key_cmp}
use Rattle.qpack_table.specs.BlockedBlocks.{BlockedKeys, numbered, counts_of, next_key, IsKeptBehind}
use Rattle.qpack_table.specs.declared.dynamic.open_blocks.CommitKey.{CommitKey}
use Rattle.qpack_table.proofs.Commits.{key_exact, key_itself, last_in_order, length_in_order, numbered_more, one_more}
use Rattle.qpack_table.proofs.Commits.{le_number, every_in_order}

-- ---- keys as those of a map

numbered_more_keys : (k : CommitKey) (ks : List CommitKey)
    → numbered (insert_key key_cmp ks k) ≡ insert_entry key_cmp (numbered ks) k tt
numbered_more_keys k [] = refl
numbered_more_keys k (q ∷ ks) = first (key_cmp k q) refl (numbered_more_keys k ks)
  where
    first : (r : Ordering) → key_cmp k q ≡ r
        → numbered (insert_key key_cmp ks k) ≡ insert_entry key_cmp (numbered ks) k tt
        → numbered (insert_key key_cmp (q ∷ ks) k) ≡ insert_entry key_cmp (numbered (q ∷ ks)) k tt
    first Less is rest = rw is refl
    first Equal is rest = rw is refl
    first Greater is rest = rw is (ap (λ (l : List (CommitKey × ⊤)). (q, tt) ∷ l) rest)

-- a new key that is taken out leaves what there was
taken_again : (k : CommitKey) (ks : List CommitKey) → AllByRecursion (λ e. e.0.order < k.order) (numbered ks)
    → remove_key (is_at (key_cmp k)) (insert_key key_cmp ks k) ≡ ks
taken_again k [] h = rw (key_itself k) refl
taken_again k (q ∷ ks) h = first (key_cmp k q) refl (taken_again k ks h.1)
  where
    first : (r : Ordering) → key_cmp k q ≡ r → remove_key (is_at (key_cmp k)) (insert_key key_cmp ks k) ≡ ks
        → remove_key (is_at (key_cmp k)) (insert_key key_cmp (q ∷ ks) k) ≡ q ∷ ks
    first Less is rest = rw (is, key_itself k) refl
    first Equal is rest = absurd (omega (arith, ap (λ (x : CommitKey). x.order) (key_exact k q is), h.0))
    first Greater is rest = rw (is, is) (ap (λ (l : List CommitKey). q ∷ l) rest)

-- ---- one block more

pub numbered_pushed : (k : CommitKey) (kept : ℕ) (ks now : List CommitKey) → AreNumbered kept (numbered ks)
    → k.order ≡ kept → kept < 2 ^ 62 → now ≡ insert_key key_cmp ks k → AreNumbered (kept + 1) (numbered now)
numbered_pushed k kept ks now h is room came = numbered_more k tt kept (numbered ks) (numbered now) h is room
    (ap (λ (l : List CommitKey). numbered l) came ∙ numbered_more_keys k ks)

pub kept_behind : (required : ℕ) (old : BlockedKeys) (now : List CommitKey) → AreNumbered old.kept (numbered old.keys)
    → now ≡ insert_key key_cmp old.keys (next_key required old)
    → IsKeptBehind required old (record { kept = old.kept + 1; keys = now })
kept_behind required old now h came = record {
  kept = refl;
  back = rw came (taken_again (next_key required old) old.keys h.below);
  numbered = h;
}

pub counts_pushed : (required : ℕ) (old : BlockedKeys) (now : List CommitKey)
    → AreNumbered old.kept (numbered old.keys) → now ≡ insert_key key_cmp old.keys (next_key required old)
    → counts_of (record { kept = old.kept + 1; keys = now }) ≡ counts_of old ++ required ∷ []
counts_pushed required old now h came =
    let k = next_key required old in
    let all : numbered now ≡ insert_entry key_cmp (numbered old.keys) k tt =
    ap (λ (l : List CommitKey). numbered l) came ∙ numbered_more_keys k old.keys in
    rw all (ap (λ (l : List (CommitKey × ⊤)). map (λ (e : CommitKey × ⊤). e.0.number) l)
    (last_in_order k tt (numbered old.keys) h.below)
    ∙ map-append (λ (e : CommitKey × ⊤). e.0.number) (in_order old.kept (numbered old.keys)) ((k, tt) ∷ []))

-- ---- how many there are

pub length_counts : (b : BlockedKeys) → AreNumbered b.kept (numbered b.keys) → length (counts_of b) ≡ length b.keys
length_counts b h =
    length-map (in_order b.kept (numbered b.keys)) (λ (e : CommitKey × ⊤). e.0.number)
    ∙ length_in_order b.kept (numbered b.keys) h.below ∙ length-map b.keys (λ (k : CommitKey). (k, tt))

-- ---- blocks that are released

abbrev above : ℕ → List ℕ → List ℕ
above count xs = filter (λ required. nat_lt count required) xs

-- the first goes
covered_goes : (count n : ℕ) (e : CommitKey × ⊤) (es : List (CommitKey × ⊤)) → e.0.number ≤ count
    → above count (map (λ e. e.0.number) (in_order n (e ∷ es))) ≡ above count (map (λ e. e.0.number) (in_order n es))
covered_goes count zero e es h = refl
covered_goes count (suc n) e es h = first (nat_eq e.0.order n) refl (covered_goes count n e es h)
  where
    parted : (xs ys : List (CommitKey × ⊤)) → above count (map (λ e. e.0.number) (xs ++ ys))
        ≡ above count (map (λ e. e.0.number) xs) ++ above count (map (λ e. e.0.number) ys)
    parted xs ys =
        ap (λ (l : List ℕ). above count l) (map-append (λ (e : CommitKey × ⊤). e.0.number) xs ys)
        ∙ filter-append (λ required. nat_lt count required) (map (λ e. e.0.number) xs) (map (λ e. e.0.number) ys)

    first : (t : Bool) → nat_eq e.0.order n ≡ t
        → above count (map (λ e. e.0.number) (in_order n (e ∷ es)))
        ≡ above count (map (λ e. e.0.number) (in_order n es))
        → above count (map (λ e. e.0.number) (in_order (suc n) (e ∷ es)))
        ≡ above count (map (λ e. e.0.number) (in_order (suc n) es))
    first true is rest =
        let covered = le-ltb count e.0.number h in
        rw (is, parted (in_order n (e ∷ es)) (e ∷ at_order n es), parted (in_order n es) (at_order n es), rest, covered)
        refl
    first false is rest =
        rw (is, parted (in_order n (e ∷ es)) (at_order n es), parted (in_order n es) (at_order n es), rest) refl

-- the key that goes is the first
pub popped : (r : Option CommitKey) (x : CommitKey) (ks now : List CommitKey) → (IsSome r ↔ (0 < length ks))
    → IfSome r (λ k. ks ≡ k ∷ now) → slice_get ks 0 ≡ Some x → ks ≡ x ∷ now
popped None x [] now some left at = absurd cc
popped None x (q ∷ ks) now some left at = let there = some.1 (omega arith) in absurd cc
popped (Some k) x [] now some left at = absurd cc
popped (Some k) x (q ∷ ks) now some left at =
    let same : k ≡ q = cc in let first : q ≡ x = cc in
    left ∙ ap (λ (y : CommitKey). y ∷ now) (same ∙ first)

pub no_keys : {X : Type 0} (r : Option X) (ks : List CommitKey) → r ≡ None → (IsSome r ↔ (0 < length ks)) → ks ≡ []
no_keys r [] none some = refl
no_keys r (k ∷ ks) none some = let there = rw none at some.1 (omega arith) in absurd cc

pub one_released : (count kept : ℕ) (k : CommitKey) (ks now : List CommitKey) → ks ≡ k ∷ now
    → k.number ≤ count
    → above count (counts_of (record { kept = kept; keys = now }))
    ≡ above count (counts_of (record { kept = kept; keys = ks }))
one_released count kept k ks now is covered = rw is (sym (covered_goes count kept (k, tt) (numbered now) covered))

pub numbered_released : (kept : ℕ) (k : CommitKey) (ks now : List CommitKey) → AreNumbered kept (numbered ks)
    → ks ≡ k ∷ now → AreNumbered kept (numbered now)
numbered_released kept k ks now h is =
    let all = rw is at h in
    record {
      below = all.below.1;
      few = omega (arith, all.few, one_more kept (k, tt) (numbered now) all.below.0);
      most = all.most;
    }

pub one_fewer : (kept : ℕ) (k : CommitKey) (ks now : List CommitKey) → AreNumbered kept (numbered ks)
    → ks ≡ k ∷ now → length (counts_of (record { kept = kept; keys = now })) + 1
    ≡ length (counts_of (record { kept = kept; keys = ks }))
one_fewer kept k ks now h is =
    omega (
      arith,
      length_counts (record { kept = kept; keys = ks }) h,
      length_counts (record { kept = kept; keys = now }) (numbered_released kept k ks now h is),
      ap (λ (l : List CommitKey). length l) is,
    )

-- ---- none that could go

by_recursion : {X : Type 0} (P : X → Type 0) (xs : List X) → All P xs → AllByRecursion P xs
by_recursion P [] h = tt
by_recursion P (x ∷ xs) h =
    (h 0 x (omega arith), by_recursion P xs (λ k d i. h (suc k) d (omega (arith, i))))

all_above : (count : ℕ) (xs : List ℕ) → AllByRecursion (λ x. count < x) xs → xs ≡ above count xs
all_above count [] h = refl
all_above count (x ∷ xs) h = rw (lt-ltb count x h.0) (ap (λ (l : List ℕ). x ∷ l) (all_above count xs h.1))

every_key : (P : CommitKey → Type 0) (ks : List CommitKey) → AllByRecursion P ks
    → AllByRecursion (λ e. P e.0) (numbered ks)
every_key P [] h = h
every_key P (k ∷ ks) h = (h.0, every_key P ks h.1)

pub none_covered : (count : ℕ) (b : BlockedKeys) (least : CommitKey) → count < least.number
    → All (IsLeBy key_cmp least) b.keys → counts_of b ≡ above count (counts_of b)
none_covered count b least over first =
    all_above count (counts_of b) (every_in_order (λ e. e.0.number) (λ n. count < n) b.kept (numbered b.keys)
    (every_key (λ k. k.order < b.kept → count < k.number) b.keys
    (every_weaker (λ (k : CommitKey). IsLeBy key_cmp least k)
    (λ (k : CommitKey). k.order < b.kept → count < k.number)
    (λ k le i. omega (arith, over, le_number least k le)) b.keys (by_recursion (IsLeBy key_cmp least) b.keys first))))

pub none_there : (count : ℕ) (b : BlockedKeys) → b.keys ≡ [] → counts_of b ≡ above count (counts_of b)
none_there count b none =
    all_above count (counts_of b) (every_in_order (λ e. e.0.number) (λ n. count < n) b.kept (numbered b.keys)
    (rw none tt))
