-- No more streams are known to wait than the decoding end counts as blocked.
use Rattle.std.proofs.Common.{◌≡◌, ◌≤◌, ◌<◌, ◌+◌, ℕ, Bool, true, false, cond, List, [], ◌∷◌, length, Option, None, Some}
use Rattle.std.proofs.Common.{refl, ap, ◌∙◌, arith}
use Rattle.std.proofs.lemmas.Bool.{leb-true, ltb-true, lt-ltb}
use Rattle.std.specs.Option.{IfSome}
use Rattle.std.specs.Prelude.{◌&&◌, filter, nat_eq, nat_le, nat_lt, not}
use Rattle.qpack_shared.specs.declared.streams.BlockedStream.{BlockedStream}
use Rattle.qpack_shared.specs.Streams.{without}
use Rattle.qpack_decoding.specs.Blocked.{blocked_among, comes_before, in_order, with_blocked}
use Rattle.qpack_connection.specs.Headline.{others, known_to_wait}

-- ---- how many of a list are so

abbrev count : (BlockedStream → Bool) → List BlockedStream → ℕ
count p bs = length (filter p bs)

one : Bool → ℕ
one b = cond b 1 0

none_one : one false ≡ 0
unfolding one
none_one = refl

count_one : (p : BlockedStream → Bool) (b : BlockedStream) (bs : List BlockedStream)
    → count p (b ∷ bs) ≡ one (p b) + count p bs
unfolding one
count_one p b bs = by (p b)
  where
    by : (t : Bool) → length (cond t (b ∷ filter p bs) (filter p bs)) ≡ cond t 1 0 + count p bs
    by true = omega arith
    by false = omega arith

count_same : (p q : BlockedStream → Bool) (bs : List BlockedStream) → ((b : BlockedStream) → p b ≡ q b)
    → count p bs ≡ count q bs
count_same p q [] same = refl
count_same p q (b ∷ bs) same =
    omega (arith, count_one p b bs, count_one q b bs, ap one (same b), count_same p q bs same)

and_true : (x : Bool) → x && true ≡ x
and_true true = refl
and_true false = refl

and_false : (x : Bool) → x && false ≡ false
and_false true = refl
and_false false = refl

both_more : (p q : BlockedStream → Bool) (b : BlockedStream) (bs : List BlockedStream) (t : Bool)
    → count p (filter q bs) ≡ count (λ b. p b && q b) bs → q b ≡ t
    → count p (cond t (b ∷ filter q bs) (filter q bs)) ≡ count (λ b. p b && q b) (b ∷ bs)
both_more p q b bs true rest e =
    omega (
      arith,
      count_one p b (filter q bs),
      count_one (λ b. p b && q b) b bs,
      ap one (ap (λ (x : Bool). p b && x) e ∙ and_true (p b)),
      rest,
    )
both_more p q b bs false rest e =
    omega (
      arith,
      count_one (λ b. p b && q b) b bs,
      ap one (ap (λ (x : Bool). p b && x) e ∙ and_false (p b)),
      none_one,
      rest,
    )

count_both : (p q : BlockedStream → Bool) (bs : List BlockedStream)
    → count p (filter q bs) ≡ count (λ b. p b && q b) bs
count_both p q [] = refl
count_both p q (b ∷ bs) = both_more p q b bs (q b) (count_both p q bs) refl

count_all : (bs : List BlockedStream) → count (λ b. true) bs ≡ length bs
count_all [] = refl
count_all (b ∷ bs) = omega (arith, count_all bs)

placed : (p : BlockedStream → Bool) (b x : BlockedStream) (xs : List BlockedStream) (t : Bool)
    → count p (in_order b xs) ≡ one (p b) + count p xs
    → count p (cond t (b ∷ x ∷ xs) (x ∷ in_order b xs)) ≡ one (p b) + count p (x ∷ xs)
placed p b x xs true rest = count_one p b (x ∷ xs)
placed p b x xs false rest = omega (arith, count_one p x (in_order b xs), count_one p x xs, rest)

count_in_order : (p : BlockedStream → Bool) (b : BlockedStream) (bs : List BlockedStream)
    → count p (in_order b bs) ≡ one (p b) + count p bs
count_in_order p b [] = count_one p b []
count_in_order p b (x ∷ xs) = placed p b x xs (comes_before b x) (count_in_order p b xs)

-- no more of a list are so than there are
count_few : (p : BlockedStream → Bool) (bs : List BlockedStream) → count p bs ≤ length bs
count_few p [] = omega arith
count_few p (b ∷ bs) = by (p b) (count_few p bs)
  where
    by : (t : Bool) → count p bs ≤ length bs → length (cond t (b ∷ filter p bs) (filter p bs)) ≤ length (b ∷ bs)
    by true few = omega (arith, few)
    by false few = omega (arith, few)

-- ---- what is known to wait is counted

-- of whatever kind, no more wait that require more than this number of insertions than are counted
abbrev pub AreCounted : ℕ → List BlockedStream → List BlockedStream → Type 0
AreCounted n waiting blocked =
    (p : BlockedStream → Bool)
    → count (λ b. p b && nat_lt n b.required) waiting ≤ count (λ b. p b && nat_lt n b.required) blocked

pub none_counted : (n : ℕ) (blocked : List BlockedStream) → AreCounted n [] blocked
none_counted n blocked p = omega arith

-- those that are known to wait, by a number that is above how many were received
pub within_counted : (n : ℕ) (below : Option ℕ) (waiting blocked : List BlockedStream) → IfSome below (λ m. n < m)
    → AreCounted n waiting blocked → length (known_to_wait below waiting) ≤ blocked_among n blocked
within_counted n None waiting blocked above k = omega arith
within_counted n (Some m) waiting blocked above k =
    let p : BlockedStream → Bool = λ b. nat_le m b.required in
    let up : BlockedStream → Bool = λ b. nat_lt n b.required in
    omega (
      arith,
      k p,
      count_same (λ b. p b && up b) p waiting (λ b. at b.required (nat_le m b.required) refl),
      count_both p up blocked,
      count_few p (filter up blocked),
    )
  where
    at : (required : ℕ) (t : Bool) → nat_le m required ≡ t → t && nat_lt n required ≡ t
    at required true e = lt-ltb n required (omega (arith, above, leb-true m required e))
    at required false e = refl

swap_last : (x y z : Bool) → (x && y) && z ≡ (x && z) && y
swap_last true y z = swapped y z
  where
    swapped : (y z : Bool) → y && z ≡ z && y
    swapped true true = refl
    swapped true false = refl
    swapped false true = refl
    swapped false false = refl
swap_last false y z = refl

-- without a stream
pub others_counted : (n s : ℕ) (waiting blocked : List BlockedStream) → AreCounted n waiting blocked
    → AreCounted n (others s waiting) (without s blocked)
others_counted n s waiting blocked k p =
    let q : BlockedStream → Bool = λ b. not (nat_eq b.stream s) in
    let up : BlockedStream → Bool = λ b. nat_lt n b.required in
    omega (
      arith,
      count_both (λ b. p b && up b) q waiting,
      count_same (λ b. (p b && q b) && up b) (λ b. (p b && up b) && q b) waiting
          (λ b. swap_last (p b) (q b) (up b)),
      k (λ b. p b && q b),
      count_same (λ b. (p b && q b) && up b) (λ b. (p b && up b) && q b) blocked
          (λ b. swap_last (p b) (q b) (up b)),
      count_both (λ b. p b && up b) q blocked,
    )

-- of those that wait for more than this number, those that wait for more than another one, which is no less
above_both : (n total : ℕ) → n ≤ total → (x : Bool) (required : ℕ)
    → (x && nat_lt total required) && nat_lt n required ≡ x && nat_lt total required
above_both n total least true required = above (nat_lt total required) refl
  where
    above : (t : Bool) → nat_lt total required ≡ t → t && nat_lt n required ≡ t
    above true e = lt-ltb n required (omega (arith, least, ltb-true total required e))
    above false e = refl
above_both n total least false required = refl

-- once more insertions were received
pub later_counted : (n total : ℕ) (waiting blocked : List BlockedStream) → n ≤ total → AreCounted n waiting blocked
    → AreCounted total waiting blocked
later_counted n total waiting blocked least k p =
    let q : BlockedStream → Bool = λ b. p b && nat_lt total b.required in
    let both : BlockedStream → Bool = λ b. q b && nat_lt n b.required in
    let same : (b : BlockedStream) → both b ≡ q b = λ b. above_both n total least (p b) b.required in
    omega (arith, k q, count_same both q waiting same, count_same both q blocked same)

-- those that wait for more than were received, which are no fewer than before
pub told_counted : (n total : ℕ) (waiting blocked : List BlockedStream) → n ≤ total → AreCounted n waiting blocked
    → AreCounted total (filter (λ w. nat_lt total w.required) waiting) blocked
told_counted n total waiting blocked least k p =
    let q : BlockedStream → Bool = λ b. nat_lt total b.required in
    omega (
      arith,
      count_both (λ b. p b && q b) q waiting,
      count_same (λ b. (p b && q b) && q b) (λ b. p b && q b) waiting
          (λ b. above_both total total (omega arith) (p b) b.required),
      later_counted n total waiting blocked least k p,
    )

-- one more waits, and is counted
pub one_counted : (n s required : ℕ) (waiting blocked : List BlockedStream) → AreCounted n waiting blocked
    → AreCounted n (record { stream = s; required = required } ∷ others s waiting)
    (with_blocked (record { stream = s; required = required }) blocked)
one_counted n s required waiting blocked k p =
    let b : BlockedStream = record { stream = s; required = required } in
    let up : BlockedStream → Bool = λ x. p x && nat_lt n x.required in
    omega (
      arith,
      count_one up b (others s waiting),
      others_counted n s waiting blocked k p,
      count_in_order up b (without s blocked),
    )
