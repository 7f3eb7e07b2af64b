-- The streams that are blocked, in their order: one put, one taken away, the first, and how many they are.
use Rattle.std.proofs.Common.{◌≡◌, ◌≤◌, ◌<◌, ℕ, suc, ◌+◌, Bool, true, false, cond, not, List, [], ◌∷◌, length, Ordering}
use Rattle.std.proofs.Common.{Option, None, Some, refl, ap, subst, sym, ◌∙◌, arith}
use Rattle.std.specs.Prelude.{nat_eq, nat_lt, nat_le, ◌||◌, ◌&&◌, filter, find, slice_get}
use Rattle.std.specs.Option.{option_map, is_some}
use Rattle.std.specs.Ordering.{nat_cmp, ordering_then, is_eq, is_lt, match_ordering}
use Rattle.std.specs.declared.cmp.Ordering.TheVariants.{Less, Equal, Greater}
use Rattle.std.specs.List.{AllByRecursion, prefix_len}
use Rattle.std.specs.List.Sorted.{IsStrictlySortedBy}
use Rattle.std.specs.BTreeSet.{insert_key}
use Rattle.std.specs.BTreeMap.{BTreeMap, get}
use Rattle.std.specs.Set.{remove_key}
use Rattle.std.proofs.lemmas.Bool.{ltb-true, ltb-false, eqb-true, eqb-false}
use Rattle.std.proofs.lemmas.Bool.Decides.{nat_tests}
use Rattle.std.proofs.lemmas.Bool.{lt-ltb, le-ltb, lt-leb, le-leb, eq-eqb}
use Rattle.qpack_shared.specs.declared.streams.BlockedStream.{BlockedStream}
use Rattle.qpack_shared.specs.Streams.{without}
use Rattle.qpack_decoding.specs.Blocked.{required_of, is_listed, exceeds, is_blocked, blocked_among}
use Rattle.qpack_decoding.specs.Blocked.{with_blocked, in_order, comes_before, by_count, AreOfOneEach, AreMapped}
use Rattle.qpack_decoding.specs.Blocked.{IsCountedAnew, ready}

-- the entry is a stream's
abbrev is_of : ℕ → BlockedStream → Bool
is_of stream b = nat_eq b.stream stream

-- ---- the order

before_is : (a b : BlockedStream) → comes_before a b ≡ is_lt (by_count a b)
before_is a b =
    both (nat_lt a.required b.required) (nat_eq a.required b.required) (nat_lt a.stream b.stream)
    (nat_eq a.stream b.stream)
  where
    both : (t e l f : Bool)
        → t || (e && l) ≡ is_lt (ordering_then (cond t Less (cond e Equal Greater)) (cond l Less (cond f Equal Greater)))
    both true e l f = refl
    both false false l f = refl
    both false true true f = refl
    both false true false true = refl
    both false true false false = refl

same_number : (n : ℕ) → nat_cmp n n ≡ Equal
same_number n = rw (le-ltb n n (omega arith), eq-eqb n n refl) refl

tied : (a b : BlockedStream) → a.required ≡ b.required → a.stream ≡ b.stream → is_eq (by_count a b) ≡ true
tied a b r s = rw (r, s) (rw (same_number b.required, same_number b.stream) refl)

not_tied : (a b : BlockedStream) → (a.required ≡ b.required → a.stream ≡ b.stream → ⊥) → is_eq (by_count a b) ≡ false
not_tied a b apart =
    both (nat_lt a.required b.required) (nat_eq a.required b.required) (nat_lt a.stream b.stream)
    (nat_eq a.stream b.stream) refl refl
  where
    both : (t e l f : Bool) → nat_eq a.required b.required ≡ e → nat_eq a.stream b.stream ≡ f
        → is_eq (ordering_then (cond t Less (cond e Equal Greater)) (cond l Less (cond f Equal Greater))) ≡ false
    both true e l f p q = refl
    both false false l f p q = refl
    both false true true f p q = refl
    both false true false false p q = refl
    both false true false true p q =
        absurd (apart (eqb-true a.required b.required p) (eqb-true a.stream b.stream q))

-- the one before another waits for no more
before_at_most : (a b : BlockedStream) → by_count a b ≡ Less → a.required ≤ b.required
before_at_most a b =
    both (nat_lt a.required b.required) (nat_eq a.required b.required) refl refl (nat_cmp a.stream b.stream)
  where
    both : (t e : Bool) → nat_lt a.required b.required ≡ t → nat_eq a.required b.required ≡ e → (o : Ordering)
        → ordering_then (cond t Less (cond e Equal Greater)) o ≡ Less → a.required ≤ b.required
    both true e p q o is = let l = ltb-true a.required b.required p in omega (arith, l)
    both false true p q o is = let l = eqb-true a.required b.required q in omega (arith, l)
    both false false p q o is = absurd (let l = is in cc)

before_trans : (a b c : BlockedStream) → comes_before a b ≡ true → comes_before b c ≡ true → comes_before a c ≡ true
before_trans a b c p q = grind (arith, nat_tests, p, q)

-- ---- one put among those that are not of its stream

pub unlisted_without : (s : ℕ) (bs : List BlockedStream) → required_of s bs ≡ None → without s bs ≡ bs
unlisted_without s [] none = refl
unlisted_without s (x ∷ xs) none = both (is_of s x) none (unlisted_without s xs)
  where
    both : (t : Bool) → option_map (λ b. b.required) (cond t (Some x) (find (λ b. is_of s b) xs)) ≡ None
        → (required_of s xs ≡ None → without s xs ≡ xs) → cond (not t) (x ∷ without s xs) (without s xs) ≡ x ∷ xs
    both true n more = absurd (let l = n in cc)
    both false n more = ap (λ (ys : List BlockedStream). x ∷ ys) (more n)

-- std's place is ours
pub put_key : (b : BlockedStream) (bs : List BlockedStream) → IsCountedAnew b bs → AreOfOneEach bs
    → insert_key by_count bs b ≡ in_order b bs
put_key b [] anew once = refl
put_key b (x ∷ xs) anew once =
    both (by_count b x) (comes_before b x) refl (before_is b x) (put_key b xs among once.1)
  where
    apart : by_count b x ≡ Equal → ⊥
    apart is = anew (grind (arith, nat_tests, is))

    among : IsCountedAnew b xs
    among is = split (is_of b.stream x) refl
      where
        split : (t : Bool) → is_of b.stream x ≡ t → ⊥
        split true e =
            let none : is_listed b.stream xs ≡ false =
            ap (λ (s : ℕ). is_listed s xs) (sym (eqb-true x.stream b.stream e)) ∙ once.0 in
            absurd (let l = ap (λ (o : Option ℕ). is_some o) (sym is) ∙ none in cc)
        split false e = anew (rw e is)

    both : (o : Ordering) (t : Bool) → by_count b x ≡ o → t ≡ is_lt o → insert_key by_count xs b ≡ in_order b xs
        → match_ordering o (b ∷ x ∷ xs) (x ∷ xs) (x ∷ insert_key by_count xs b)
        ≡ cond t (b ∷ x ∷ xs) (x ∷ in_order b xs)
    both Less true e f more = refl
    both Less false e f more = absurd (let l = f in cc)
    both Equal t e f more = absurd (apart e)
    both Greater true e f more = absurd (let l = f in cc)
    both Greater false e f more = ap (λ (ys : List BlockedStream). x ∷ ys) more

-- ---- one taken away

is_none : (o : Option ℕ) → is_some o ≡ false → o ≡ None
is_none None e = refl
is_none (Some n) e = absurd (let l = e in cc)

-- where a stream is not listed behind another, it is not that one, and is not listed among the others
none_of_tail : (s : ℕ) (x : BlockedStream) (xs : List BlockedStream) → required_of s (x ∷ xs) ≡ None
    → (is_of s x ≡ false) × (required_of s xs ≡ None)
none_of_tail s x xs none = both (is_of s x) none
  where
    both : (t : Bool) → option_map (λ b. b.required) (cond t (Some x) (find (λ b. is_of s b) xs)) ≡ None
        → (t ≡ false) × (required_of s xs ≡ None)
    both true n = absurd (let l = n in cc)
    both false n = (refl, n)

-- the one of a stream is found by what it requires
pub take_key : (s r : ℕ) (bs : List BlockedStream) → required_of s bs ≡ Some r → AreOfOneEach bs
    → remove_key (λ x. is_eq (by_count (record { required = r; stream = s }) x)) bs ≡ without s bs
take_key s r [] found once = absurd (let l = found in cc)
take_key s r (x ∷ xs) found once = both (is_of s x) refl found (λ f. take_key s r xs f once.1)
  where
    key : BlockedStream
    key = record { required = r; stream = s }

    both : (t : Bool) → is_of s x ≡ t
        → option_map (λ b. b.required) (cond t (Some x) (find (λ b. is_of s b) xs)) ≡ Some r
        → (required_of s xs ≡ Some r → remove_key (λ y. is_eq (by_count key y)) xs ≡ without s xs)
        → cond (is_eq (by_count key x)) xs (x ∷ remove_key (λ y. is_eq (by_count key y)) xs)
        ≡ cond (not t) (x ∷ without s xs) (without s xs)
    both true e f more =
        let here = eqb-true x.stream s e in
        let requires : r ≡ x.required = let l = f in cc in
        let alone = is_none (required_of s xs) (ap (λ (q : ℕ). is_listed q xs) (sym here) ∙ once.0) in
        rw (tied key x requires (sym here)) (sym (unlisted_without s xs alone))
    both false e f more =
        rw (not_tied key x (λ _ same. eqb-false x.stream s e (sym same)))
        (ap (λ (ys : List BlockedStream). x ∷ ys) (more f))

-- ---- one put in the place of another

-- before all that are behind one before which it comes
in_front : (b x : BlockedStream) (xs : List BlockedStream) → comes_before b x ≡ true
    → AllByRecursion (λ y. by_count x y ≡ Less) xs → in_order b xs ≡ b ∷ xs
in_front b x [] p all = refl
in_front b x (y ∷ ys) p all = rw (before_trans b x y p (before_is x y ∙ ap is_lt all.0)) refl

put_and_take : (b k : BlockedStream) (bs : List BlockedStream) → is_eq (by_count k b) ≡ false
    → IsStrictlySortedBy by_count bs
    → remove_key (λ x. is_eq (by_count k x)) (in_order b bs) ≡ in_order b (remove_key (λ x. is_eq (by_count k x)) bs)
unfolding IsStrictlySortedBy
put_and_take b k [] apart sorted = rw apart refl
put_and_take b k (x ∷ xs) apart sorted =
    both (comes_before b x) (is_eq (by_count k x)) refl refl (put_and_take b k xs apart sorted.1)
  where
    both : (t u : Bool) → comes_before b x ≡ t → is_eq (by_count k x) ≡ u
        → remove_key (λ y. is_eq (by_count k y)) (in_order b xs)
        ≡ in_order b (remove_key (λ y. is_eq (by_count k y)) xs)
        → remove_key (λ y. is_eq (by_count k y)) (cond t (b ∷ x ∷ xs) (x ∷ in_order b xs))
        ≡ in_order b (cond u xs (x ∷ remove_key (λ y. is_eq (by_count k y)) xs))
    both true true e f more = rw (apart, f) (sym (in_front b x xs e sorted.0))
    both true false e f more = rw (apart, f, e) refl
    both false true e f more = rw f refl
    both false false e f more = rw (f, e) (ap (λ (ys : List BlockedStream). x ∷ ys) more)

pub put_new : (b : BlockedStream) (bs : List BlockedStream) → required_of b.stream bs ≡ None → AreOfOneEach bs
    → insert_key by_count bs b ≡ with_blocked b bs
put_new b bs none once =
    put_key b bs (λ is. let l = sym is ∙ none in cc) once
    ∙ sym (ap (λ (ys : List BlockedStream). in_order b ys) (unlisted_without b.stream bs none))

pub put_again : (b : BlockedStream) (r : ℕ) (bs : List BlockedStream) → required_of b.stream bs ≡ Some r
    → (r ≡ b.required → ⊥) → AreOfOneEach bs → IsStrictlySortedBy by_count bs
    → remove_key (λ x. is_eq (by_count (record { required = r; stream = b.stream }) x)) (insert_key by_count bs b)
    ≡ with_blocked b bs
put_again b r bs found another once sorted =
    let k : BlockedStream = record { required = r; stream = b.stream } in
    ap (λ (ys : List BlockedStream). remove_key (λ x. is_eq (by_count k x)) ys)
    (put_key b bs (λ is. another (let l = sym found ∙ is in cc)) once)
    ∙ put_and_take b k bs (not_tied k b (λ same _. another same)) sorted
    ∙ ap (λ (ys : List BlockedStream). in_order b ys) (take_key b.stream r bs found once)

-- one that is there already, with as much required, changes nothing

same_entry : (a b : BlockedStream) → a.required ≡ b.required → a.stream ≡ b.stream → a ≡ b
same_entry a b r s =
    ap (λ (n : ℕ). record { required = n; stream = a.stream }) r
    ∙ ap (λ (n : ℕ). record { required = b.required; stream = n }) s

-- what is so of each is so of the one of a stream
of_stream : (P : BlockedStream → Type 0) (b : BlockedStream) (bs : List BlockedStream)
    → required_of b.stream bs ≡ Some b.required → AllByRecursion P bs → P b
of_stream P b [] found all = absurd (let l = found in cc)
of_stream P b (x ∷ xs) found all = both (is_of b.stream x) refl found (λ f. of_stream P b xs f all.1)
  where
    both : (t : Bool) → is_of b.stream x ≡ t
        → option_map (λ y. y.required) (cond t (Some x) (find (λ y. is_of b.stream y) xs)) ≡ Some b.required
        → (required_of b.stream xs ≡ Some b.required → P b) → P b
    both true e f more = subst P (same_entry x b (let l = f in cc) (eqb-true x.stream b.stream e)) all.0
    both false e f more = more f

not_before : (a b : BlockedStream) → comes_before a b ≡ true → comes_before b a ≡ false
not_before a b p = grind (arith, nat_tests, p)

pub put_same : (b : BlockedStream) (bs : List BlockedStream) → required_of b.stream bs ≡ Some b.required
    → AreOfOneEach bs → IsStrictlySortedBy by_count bs → bs ≡ with_blocked b bs
unfolding IsStrictlySortedBy
put_same b [] found once sorted = absurd (let l = found in cc)
put_same b (x ∷ xs) found once sorted =
    both (is_of b.stream x) refl found (λ f. put_same b xs f once.1 sorted.1)
  where
    both : (t : Bool) → is_of b.stream x ≡ t
        → option_map (λ y. y.required) (cond t (Some x) (find (λ y. is_of b.stream y) xs)) ≡ Some b.required
        → (required_of b.stream xs ≡ Some b.required → xs ≡ with_blocked b xs)
        → x ∷ xs ≡ in_order b (cond (not t) (x ∷ without b.stream xs) (without b.stream xs))
    both true e f more =
        let here = eqb-true x.stream b.stream e in
        let is : x ≡ b = same_entry x b (let l = f in cc) here in
        let alone = is_none (required_of b.stream xs) (ap (λ (q : ℕ). is_listed q xs) (sym here) ∙ once.0) in
        rw (unlisted_without b.stream xs alone)
        (subst (λ (y : BlockedStream). y ∷ xs ≡ in_order b xs) (sym is)
        (sym (at_front xs (subst (λ (y : BlockedStream). AllByRecursion (λ z. by_count y z ≡ Less) xs) is sorted.0))))
      where
        at_front : (ys : List BlockedStream) → AllByRecursion (λ z. by_count b z ≡ Less) ys → in_order b ys ≡ b ∷ ys
        at_front [] all = refl
        at_front (y ∷ ys) all = rw (before_is b y ∙ ap is_lt all.0) refl
    both false e f more =
        let later = of_stream (λ y. by_count x y ≡ Less) b xs f sorted.0 in
        rw (not_before x b (before_is x b ∙ ap is_lt later))
        (ap (λ (ys : List BlockedStream). x ∷ ys) (more f))

-- ---- what is required behind it

required_without : (q s : ℕ) (bs : List BlockedStream)
    → required_of q (without s bs) ≡ cond (nat_eq s q) None (required_of q bs)
required_without q s [] = both (nat_eq s q)
  where
    both : (t : Bool) → required_of q [] ≡ cond t None (required_of q [])
    both true = refl
    both false = refl
required_without q s (x ∷ xs) =
    both (is_of s x) (is_of q x) (nat_eq s q) refl refl refl (required_without q s xs)
  where
    both : (t u v : Bool) → is_of s x ≡ t → is_of q x ≡ u → nat_eq s q ≡ v
        → required_of q (without s xs) ≡ cond v None (required_of q xs)
        → required_of q (cond (not t) (x ∷ without s xs) (without s xs))
        ≡ cond v None (option_map (λ b. b.required) (cond u (Some x) (find (λ b. is_of q b) xs)))
    both true u true e f g more = more
    both true false false e f g more = more
    both true true false e f g more =
        absurd (eqb-false s q g (sym (eqb-true x.stream s e) ∙ eqb-true x.stream q f))
    both false false v e f g more = rw f more
    both false true false e f g more = rw f refl
    both false true true e f g more =
        absurd (eqb-false x.stream s e (eqb-true x.stream q f ∙ sym (eqb-true s q g)))

required_in_order : (q : ℕ) (b : BlockedStream) (bs : List BlockedStream) → required_of b.stream bs ≡ None
    → required_of q (in_order b bs) ≡ cond (nat_eq b.stream q) (Some b.required) (required_of q bs)
required_in_order q b [] none = both (is_of q b)
  where
    both : (t : Bool) → option_map (λ x. x.required) (cond t (Some b) None) ≡ cond t (Some b.required) None
    both true = refl
    both false = refl
required_in_order q b (x ∷ xs) none =
    both (comes_before b x) (is_of q b) (is_of q x) refl refl (none_of_tail b.stream x xs none).0
    (required_in_order q b xs (none_of_tail b.stream x xs none).1)
  where
    both : (t u v : Bool) → is_of q b ≡ u → is_of q x ≡ v → is_of b.stream x ≡ false
        → required_of q (in_order b xs) ≡ cond u (Some b.required) (required_of q xs)
        → required_of q (cond t (b ∷ x ∷ xs) (x ∷ in_order b xs))
        ≡ cond u (Some b.required) (option_map (λ y. y.required) (cond v (Some x) (find (λ y. is_of q y) xs)))
    both true true v e f g more = rw e refl
    both true false v e f g more = rw (e, f) refl
    both false u false e f g more = rw f more
    both false false true e f g more = rw f refl
    both false true true e f g more =
        absurd (eqb-false x.stream b.stream g (eqb-true x.stream q f ∙ sym (eqb-true b.stream q e)))

pub gone : (s : ℕ) (bs : List BlockedStream) → required_of s (without s bs) ≡ None
gone s bs = required_without s s bs ∙ rw (eq-eqb s s refl) refl

required_with : (q : ℕ) (b : BlockedStream) (bs : List BlockedStream)
    → required_of q (with_blocked b bs) ≡ cond (nat_eq b.stream q) (Some b.required) (required_of q bs)
required_with q b bs =
    required_in_order q b (without b.stream bs) (gone b.stream bs)
    ∙ both (nat_eq b.stream q) (required_without q b.stream bs)
  where
    both : (t : Bool) → required_of q (without b.stream bs) ≡ cond t None (required_of q bs)
        → cond t (Some b.required) (required_of q (without b.stream bs)) ≡ cond t (Some b.required) (required_of q bs)
    both true e = refl
    both false e = e

-- ---- each is counted once

pub once_without : (s : ℕ) (bs : List BlockedStream) → AreOfOneEach bs → AreOfOneEach (without s bs)
once_without s [] once = tt
once_without s (x ∷ xs) once = both (is_of s x) (once_without s xs once.1)
  where
    unlisted : (t : Bool) → required_of x.stream (without s xs) ≡ cond t None (required_of x.stream xs)
        → is_listed x.stream (without s xs) ≡ false
    unlisted true e = ap (λ (o : Option ℕ). is_some o) e
    unlisted false e = ap (λ (o : Option ℕ). is_some o) e ∙ once.0

    both : (t : Bool) → AreOfOneEach (without s xs) → AreOfOneEach (cond (not t) (x ∷ without s xs) (without s xs))
    both true more = more
    both false more = (unlisted (nat_eq s x.stream) (required_without x.stream s xs), more)

once_in_order : (b : BlockedStream) (bs : List BlockedStream) → required_of b.stream bs ≡ None → AreOfOneEach bs
    → AreOfOneEach (in_order b bs)
once_in_order b [] none once = (refl, tt)
once_in_order b (x ∷ xs) none once =
    both (comes_before b x) (once_in_order b xs (none_of_tail b.stream x xs none).1 once.1)
  where
    unlisted : (t : Bool) → nat_eq b.stream x.stream ≡ t
        → required_of x.stream (in_order b xs) ≡ cond t (Some b.required) (required_of x.stream xs)
        → is_listed x.stream (in_order b xs) ≡ false
    unlisted true e f =
        absurd (eqb-false x.stream b.stream (none_of_tail b.stream x xs none).0 (sym (eqb-true b.stream x.stream e)))
    unlisted false e f = ap (λ (o : Option ℕ). is_some o) f ∙ once.0

    both : (t : Bool) → AreOfOneEach (in_order b xs) → AreOfOneEach (cond t (b ∷ x ∷ xs) (x ∷ in_order b xs))
    both true more = (ap (λ (o : Option ℕ). is_some o) none, once)
    both false more = (
      unlisted (nat_eq b.stream x.stream) refl
          (required_in_order x.stream b xs (none_of_tail b.stream x xs none).1),
      more,
    )

pub once_with : (b : BlockedStream) (bs : List BlockedStream) → AreOfOneEach bs → AreOfOneEach (with_blocked b bs)
once_with b bs once = once_in_order b (without b.stream bs) (gone b.stream bs) (once_without b.stream bs once)

-- ---- what is so of each

pub all_without : (P : BlockedStream → Type 0) (s : ℕ) (bs : List BlockedStream) → AllByRecursion P bs
    → AllByRecursion P (without s bs)
all_without P s [] h = tt
all_without P s (b ∷ bs) h = both (nat_eq b.stream s) (all_without P s bs h.1)
  where
    both : (t : Bool) → AllByRecursion P (without s bs)
        → AllByRecursion P (cond (not t) (b ∷ without s bs) (without s bs))
    both true rest = rest
    both false rest = (h.0, rest)

all_in_order : (P : BlockedStream → Type 0) (b : BlockedStream) (bs : List BlockedStream) → P b → AllByRecursion P bs
    → AllByRecursion P (in_order b bs)
all_in_order P b [] p h = (p, tt)
all_in_order P b (x ∷ xs) p h = both (comes_before b x) (all_in_order P b xs p h.1)
  where
    both : (t : Bool) → AllByRecursion P (in_order b xs)
        → AllByRecursion P (cond t (b ∷ x ∷ xs) (x ∷ in_order b xs))
    both true rest = (p, h)
    both false rest = (h.0, rest)

pub all_with : (P : BlockedStream → Type 0) (b : BlockedStream) (bs : List BlockedStream) → P b → AllByRecursion P bs
    → AllByRecursion P (with_blocked b bs)
all_with P b bs p h = all_in_order P b (without b.stream bs) p (all_without P b.stream bs h)

-- ---- a map of what each requires

same_test : (a b : ℕ) → is_eq (nat_cmp a b) ≡ nat_eq a b
same_test a b = grind (arith, nat_tests)

pub mapped_with : (old new : BTreeMap ℕ ℕ) (b : BlockedStream) (bs : List BlockedStream) → AreMapped bs old
    → IsStrictlySortedBy by_count (with_blocked b bs)
    → ((q : ℕ) → get nat_cmp new q ≡ cond (is_eq (nat_cmp b.stream q)) (Some b.required) (get nat_cmp old q))
    → AreMapped (with_blocked b bs) new
mapped_with old new b bs mapped ordered updates =
    record {
      ordered = ordered;
      each = λ q. updates q ∙ rw (same_test b.stream q, mapped.each q) (sym (required_with q b bs));
      once = once_with b bs mapped.once;
    }

pub mapped_without : (old new : BTreeMap ℕ ℕ) (s : ℕ) (bs : List BlockedStream) → AreMapped bs old
    → IsStrictlySortedBy by_count (without s bs)
    → ((q : ℕ) → get nat_cmp new q ≡ cond (is_eq (nat_cmp s q)) None (get nat_cmp old q))
    → AreMapped (without s bs) new
mapped_without old new s bs mapped ordered updates =
    record {
      ordered = ordered;
      each = λ q. updates q ∙ rw (same_test s q, mapped.each q) (sym (required_without q s bs));
      once = once_without s bs mapped.once;
    }

-- ---- how many are blocked

-- of one more at the front
counts : (inserted : ℕ) (x : BlockedStream) (xs : List BlockedStream)
    → blocked_among inserted (x ∷ xs) ≡ cond (nat_lt inserted x.required) 1 0 + blocked_among inserted xs
counts inserted x xs = both (nat_lt inserted x.required)
  where
    both : (t : Bool)
        → length (cond t (x ∷ filter (λ b. nat_lt inserted b.required) xs) (filter (λ b. nat_lt inserted b.required) xs))
        ≡ cond t 1 0 + length (filter (λ b. nat_lt inserted b.required) xs)
    both true = omega arith
    both false = omega arith

order_counts : (inserted : ℕ) (b : BlockedStream) (bs : List BlockedStream)
    → blocked_among inserted (in_order b bs) ≡ cond (nat_lt inserted b.required) 1 0 + blocked_among inserted bs
order_counts inserted b [] = counts inserted b []
order_counts inserted b (x ∷ xs) = both (comes_before b x) (order_counts inserted b xs)
  where
    both : (t : Bool)
        → blocked_among inserted (in_order b xs) ≡ cond (nat_lt inserted b.required) 1 0 + blocked_among inserted xs
        → blocked_among inserted (cond t (b ∷ x ∷ xs) (x ∷ in_order b xs))
        ≡ cond (nat_lt inserted b.required) 1 0 + blocked_among inserted (x ∷ xs)
    both true more = counts inserted b (x ∷ xs)
    both false more =
        let p = counts inserted x (in_order b xs) in
        let q = counts inserted x xs in
        omega (arith, p, q, more)

-- those that are left of some are not more blocked
pub left_within : (inserted stream : ℕ) (xs : List BlockedStream)
    → blocked_among inserted (without stream xs) ≤ blocked_among inserted xs
left_within inserted stream [] = omega arith
left_within inserted stream (x ∷ xs) = both (nat_eq x.stream stream) (left_within inserted stream xs)
  where
    both : (t : Bool) → blocked_among inserted (without stream xs) ≤ blocked_among inserted xs
        → blocked_among inserted (cond (not t) (x ∷ without stream xs) (without stream xs))
        ≤ blocked_among inserted (x ∷ xs)
    both true l = let q = counts inserted x xs in omega (arith, l, q)
    both false l =
        let p = counts inserted x (without stream xs) in
        let q = counts inserted x xs in
        omega (arith, l, p, q)

-- one fewer, if the stream was blocked
left_fewer : (inserted s : ℕ) (bs : List BlockedStream)
    → cond (is_blocked inserted s bs) 1 0 + blocked_among inserted (without s bs) ≤ blocked_among inserted bs
left_fewer inserted s [] = omega arith
left_fewer inserted s (x ∷ xs) = both (is_of s x) (left_fewer inserted s xs)
  where
    later : (n : ℕ) → n + blocked_among inserted (without s xs) ≤ blocked_among inserted xs
        → n + blocked_among inserted (x ∷ without s xs) ≤ blocked_among inserted (x ∷ xs)
    later n l =
        let p = counts inserted x (without s xs) in
        let q = counts inserted x xs in
        omega (arith, l, p, q)

    both : (t : Bool)
        → cond (is_blocked inserted s xs) 1 0 + blocked_among inserted (without s xs) ≤ blocked_among inserted xs
        → cond (exceeds inserted (option_map (λ y. y.required) (cond t (Some x) (find (λ y. is_of s y) xs)))) 1 0
        + blocked_among inserted (cond (not t) (x ∷ without s xs) (without s xs)) ≤ blocked_among inserted (x ∷ xs)
    both true l =
        let p = left_within inserted s xs in
        let q = counts inserted x xs in
        omega (arith, p, q)
    both false l = later (cond (is_blocked inserted s xs) 1 0) l

-- a stream that is put is one more at most, and none more if it was blocked
put_counts : (inserted : ℕ) (b : BlockedStream) (xs : List BlockedStream)
    → blocked_among inserted (with_blocked b xs) ≤ cond (is_blocked inserted b.stream xs) 0 1 + blocked_among inserted xs
put_counts inserted b xs =
    both (nat_lt inserted b.required) (is_blocked inserted b.stream xs)
    (order_counts inserted b (without b.stream xs)) (left_fewer inserted b.stream xs)
  where
    both : (t u : Bool)
        → blocked_among inserted (with_blocked b xs) ≡ cond t 1 0 + blocked_among inserted (without b.stream xs)
        → cond u 1 0 + blocked_among inserted (without b.stream xs) ≤ blocked_among inserted xs
        → blocked_among inserted (with_blocked b xs) ≤ cond u 0 1 + blocked_among inserted xs
    both true true p l = omega (arith, p, l)
    both true false p l = omega (arith, p, l)
    both false true p l = omega (arith, p, l)
    both false false p l = omega (arith, p, l)

-- so they stay within a limit, where one more may be blocked unless the stream was
pub put_within : (inserted most : ℕ) (b : BlockedStream) (xs : List BlockedStream)
    → blocked_among inserted xs ≤ most → (is_blocked inserted b.stream xs ≡ false → blocked_among inserted xs < most)
    → blocked_among inserted (with_blocked b xs) ≤ most
put_within inserted most b xs within may =
    both (is_blocked inserted b.stream xs) may (put_counts inserted b xs)
  where
    both : (t : Bool) → (t ≡ false → blocked_among inserted xs < most)
        → blocked_among inserted (with_blocked b xs) ≤ cond t 0 1 + blocked_among inserted xs
        → blocked_among inserted (with_blocked b xs) ≤ most
    both true fewer l = omega (arith, l, within)
    both false fewer l = let less = fewer refl in omega (arith, l, less)

-- with more insertions no more are blocked
pub fewer_blocked : (inserted later : ℕ) (xs : List BlockedStream) → inserted ≤ later
    → blocked_among later xs ≤ blocked_among inserted xs
fewer_blocked inserted later [] more = omega arith
fewer_blocked inserted later (x ∷ xs) more =
    both (nat_lt later x.required) (nat_lt inserted x.required) refl refl (counts later x xs) (counts inserted x xs)
    (fewer_blocked inserted later xs more)
  where
    both : (t u : Bool) → nat_lt later x.required ≡ t → nat_lt inserted x.required ≡ u
        → blocked_among later (x ∷ xs) ≡ cond t 1 0 + blocked_among later xs
        → blocked_among inserted (x ∷ xs) ≡ cond u 1 0 + blocked_among inserted xs
        → blocked_among later xs ≤ blocked_among inserted xs
        → blocked_among later (x ∷ xs) ≤ blocked_among inserted (x ∷ xs)
    both true true e f p q l = omega (arith, l, p, q)
    both false true e f p q l = omega (arith, l, p, q)
    both false false e f p q l = omega (arith, l, p, q)
    both true false e f p q l =
        let less = ltb-true later x.required e in
        let least = ltb-false inserted x.required f in
        absurd (omega (arith, less, least, more))

-- ---- in their order those that are ready come first

none_ready : (inserted : ℕ) (x : BlockedStream) (xs : List BlockedStream) → inserted < x.required
    → AllByRecursion (λ y. by_count x y ≡ Less) xs → find (λ b. nat_le b.required inserted) xs ≡ None
none_ready inserted x [] more all = refl
none_ready inserted x (y ∷ ys) more all =
    let most = before_at_most x y all.0 in
    let later : inserted < y.required = omega (arith, more, most) in
    rw (lt-leb y.required inserted later) (none_ready inserted x ys more all.1)

pub first_ready : (inserted : ℕ) (x : BlockedStream) (xs : List BlockedStream) → IsStrictlySortedBy by_count (x ∷ xs)
    → ready inserted (x ∷ xs) ≡ cond (nat_lt inserted x.required) None (Some x.stream)
unfolding IsStrictlySortedBy
first_ready inserted x xs sorted = both (nat_lt inserted x.required) refl
  where
    both : (t : Bool) → nat_lt inserted x.required ≡ t → ready inserted (x ∷ xs) ≡ cond t None (Some x.stream)
    both true e =
        let more = ltb-true inserted x.required e in
        rw (lt-leb x.required inserted more)
        (ap (λ (o : Option BlockedStream). option_map (λ b. b.stream) o) (none_ready inserted x xs more sorted.0))
    both false e =
        let few = ltb-false inserted x.required e in
        rw (le-leb x.required inserted few) refl

-- the first of a list tells whether any is ready
pub ready_first : (inserted : ℕ) (x : BlockedStream) (bs : List BlockedStream) → slice_get bs 0 ≡ Some x
    → IsStrictlySortedBy by_count bs → ready inserted bs ≡ cond (nat_lt inserted x.required) None (Some x.stream)
ready_first inserted x [] found sorted = absurd (let l = found in cc)
ready_first inserted x (y ∷ ys) found sorted =
    let same : y ≡ x = let l = found in cc in
    subst (λ (z : BlockedStream). ready inserted (y ∷ ys) ≡ cond (nat_lt inserted z.required) None (Some z.stream)) same
    (first_ready inserted y ys sorted)

all_blocked : (inserted : ℕ) (x : BlockedStream) (xs : List BlockedStream) → inserted < x.required
    → AllByRecursion (λ y. by_count x y ≡ Less) xs → blocked_among inserted xs ≡ length xs
all_blocked inserted x [] more all = refl
all_blocked inserted x (y ∷ ys) more all =
    let most = before_at_most x y all.0 in
    let later : inserted < y.required = omega (arith, more, most) in
    rw (lt-ltb inserted y.required later) (ap suc (all_blocked inserted x ys more all.1))

-- those that are not ready are behind them
pub ready_and_blocked : (inserted : ℕ) (bs : List BlockedStream) → IsStrictlySortedBy by_count bs
    → prefix_len (λ b. nat_le b.required inserted) bs + blocked_among inserted bs ≡ length bs
unfolding IsStrictlySortedBy
ready_and_blocked inserted [] sorted = refl
ready_and_blocked inserted (x ∷ xs) sorted =
    both (nat_lt inserted x.required) refl (ready_and_blocked inserted xs sorted.1)
  where
    both : (t : Bool) → nat_lt inserted x.required ≡ t
        → prefix_len (λ b. nat_le b.required inserted) xs + blocked_among inserted xs ≡ length xs
        → prefix_len (λ b. nat_le b.required inserted) (x ∷ xs) + blocked_among inserted (x ∷ xs) ≡ length (x ∷ xs)
    both true e rest =
        let more = ltb-true inserted x.required e in
        let all = all_blocked inserted x xs more sorted.0 in
        rw (lt-leb x.required inserted more, e) (omega (arith, all))
    both false e rest =
        let few = ltb-false inserted x.required e in
        rw (le-leb x.required inserted few, e) (omega (arith, rest))

-- no more are blocked than there are
pub blocked_at_most : (inserted : ℕ) (bs : List BlockedStream) → blocked_among inserted bs ≤ length bs
blocked_at_most inserted [] = omega arith
blocked_at_most inserted (x ∷ xs) =
    both (nat_lt inserted x.required) (counts inserted x xs) (blocked_at_most inserted xs)
  where
    both : (t : Bool) → blocked_among inserted (x ∷ xs) ≡ cond t 1 0 + blocked_among inserted xs
        → blocked_among inserted xs ≤ length xs → blocked_among inserted (x ∷ xs) ≤ suc (length xs)
    both true p l = omega (arith, p, l)
    both false p l = omega (arith, p, l)
