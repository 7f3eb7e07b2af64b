-- Looking for a code among the rows of the longer lengths is reading it bit by bit.
use Rattle.std.proofs.Common.{◌≡◌, ℕ, zero, suc, ◌+◌, ◌-◌, ◌*◌, ◌/◌, ◌%◌, ◌^◌, ◌<◌, ◌≤◌, Bool, true, false, cond}
use Rattle.std.proofs.Common.{◌&&◌, List, [], ◌∷◌, ◌++◌, length, drop, take, get_or, Result, Ok, Err, refl, sym, ap, ◌∙◌}
use Rattle.std.proofs.Common.{arith, add-one, append_assoc, inl, inr, ◌⊎◌}
use Rattle.std.specs.Prelude.{nat_lt, nat_le, slice_index}
use Rattle.std.specs.Borrow.{Bor}
use Rattle.std.proofs.Math.Seq.{drop-cons}
use Rattle.std.proofs.lemmas.Bool.{cases_lt, cases_eq, lt-ltb, le-ltb, lt-leb, le-leb, leb-true, and_from, and_parts}
use Rattle.std.proofs.lemmas.Nat.{shr-shr, pow_pos}
use borrow.Rule.Slice.PartMut.{mid_of}
use Rattle.std.proofs.Common.{le-div_iff_mul-le}
use Rattle.std.proofs.Math.Pow.{shr_lt}
use Rattle.std.proofs.lemmas.List.{get_or-map, length-map, length-drop, drop_all, take_all, take-append-drop, drop-map}
use Rattle.qpack_spec.specs.Huffman.{HuffmanFault, MissingBits, Unhandled, bits_of, bytes_by_length, bytes_of_length}
use Rattle.qpack_spec.specs.Huffman.{first_code, code_at}
use Rattle.qpack_spec.proofs.Bits.{bits_append, no_bits}
use Rattle.qpack_base.specs.HuffmanTables.{rows_at, long_rows, is_smaller, are_smaller, ArePassed}

-- a length, its first code, and the bytes whose codes have it
abbrev pub Row : Type 0
Row = ℕ × ℕ × List ℕ

abbrev Answer : Type 0
Answer = Result (ℕ × List ℕ) HuffmanFault

-- the first row that has the next bits of its length, where `count` bits of `loaded` are left, and `more` behind them
unfoldable pub row_code : List Row → ℕ → ℕ → List ℕ → Answer
row_code [] count loaded more = Err Unhandled
row_code (row ∷ rows) count loaded more =
    cond (nat_lt count row.0) (Err MissingBits)
    (cond (nat_le row.1 (loaded / 2 ^ (count - row.0)) && nat_lt (loaded / 2 ^ (count - row.0) - row.1) (length row.2))
    (Ok (slice_index row.2 (loaded / 2 ^ (count - row.0) - row.1), bits_of (count - row.0) loaded ++ more))
    (row_code rows count loaded more))

-- the rows that have bytes, where n is the length before them and `next` the number behind its last code
unfoldable pub rows_from : ℕ → ℕ → List (List ℕ) → List Row
rows_from n next [] = []
rows_from n next ([] ∷ rows) = rows_from (suc n) (2 * next) rows
rows_from n next ((b ∷ bytes) ∷ rows) = (
  suc n,
  2 * next,
  b ∷ bytes,
) ∷ rows_from (suc n) (2 * next + length (b ∷ bytes)) rows

-- the last row has bytes
unfoldable pub ends_full : List (List ℕ) → Bool
ends_full [] = true
ends_full ([] ∷ []) = false
ends_full ([] ∷ row ∷ rows) = ends_full (row ∷ rows)
ends_full ((b ∷ bytes) ∷ rows) = ends_full rows

-- ---- a row

row_short : (row : Row) (rows : List Row) (count loaded : ℕ) (more : List ℕ) → count < row.0
    → row_code (row ∷ rows) count loaded more ≡ Err MissingBits
unfolding row_code
row_short row rows count loaded more h = rw (lt-ltb _ _ h) refl

row_found : (row : Row) (rows : List Row) (count loaded number : ℕ) (more : List ℕ) → row.0 ≤ count
    → loaded / 2 ^ (count - row.0) ≡ number → row.1 ≤ number → number - row.1 < length row.2
    → row_code (row ∷ rows) count loaded more ≡ Ok (
      slice_index row.2 (number - row.1),
      bits_of (count - row.0) loaded ++ more,
    )
unfolding row_code
row_found row rows count loaded number more le is above below =
    rw (le-ltb _ _ le, is, le-leb _ _ above, lt-ltb _ _ below) refl

row_passed : (row : Row) (rows : List Row) (count loaded number : ℕ) (more : List ℕ) → row.0 ≤ count
    → loaded / 2 ^ (count - row.0) ≡ number → (row.1 ≤ number → length row.2 ≤ number - row.1)
    → row_code (row ∷ rows) count loaded more ≡ row_code rows count loaded more
unfolding row_code
row_passed row rows count loaded number more le is out =
    elim (cases_lt number row.1) [
      | inl lt ↦ rw (le-ltb _ _ le, is, lt-leb _ _ lt) refl
      | inr ge ↦ rw (le-ltb _ _ le, is, le-leb _ _ ge, le-ltb _ _ (out ge)) refl
    ]

-- ---- the rows of the code

-- rows of lengths past the bits that are left have no code in them
none_left : (rows : List (List ℕ)) (row : List ℕ) (n next count loaded : ℕ) (more : List ℕ)
    → ends_full (row ∷ rows) ≡ true → count ≤ n → row_code (rows_from n next (row ∷ rows)) count loaded more
    ≡ Err MissingBits
unfolding rows_from ends_full
none_left [] [] n next count loaded more full le = absurd cc
none_left (row ∷ rows) [] n next count loaded more full le =
    none_left rows row (suc n) (2 * next) count loaded more full (omega arith)
none_left rows (b ∷ bytes) n next count loaded more full le =
    row_short (suc n, 2 * next, b ∷ bytes) (rows_from (suc n) (2 * next + length (b ∷ bytes)) rows) count loaded more
    (omega arith)

-- one bit more of a number
next_number : (loaded m : ℕ) → 2 * (loaded / 2 ^ suc m) + loaded / 2 ^ m % 2 ≡ loaded / 2 ^ m
next_number loaded m =
    let e : suc m ≡ m + 1 = omega arith in
    let h : loaded / 2 ^ suc m ≡ loaded / 2 ^ m / 2 ^ 1 = ap (λ (k : ℕ). loaded / 2 ^ k) e ∙ sym (shr-shr loaded m 1) in
    omega (arith, h)

next_bit : (m loaded : ℕ) → bits_of (suc m) loaded ≡ (loaded / 2 ^ m % 2) ∷ bits_of m loaded
unfolding bits_of
next_bit m loaded = refl

-- reading a further bit, where its row has or has not the code
turn : (row : List ℕ) (rows : List (List ℕ)) (n next number bit : ℕ) (bits : List ℕ) → 2 * number + bit ≡ n
    → code_at (row ∷ rows) number next (bit ∷ bits)
    ≡ cond (nat_lt n (2 * next + length row)) (Ok (slice_index row (n - 2 * next), bits))
    (code_at rows n (2 * next + length row) bits)
unfolding code_at
turn row rows n next number bit bits e = rw e refl

abbrev reads_left : List (List ℕ) → ℕ → ℕ → ℕ → List ℕ → Answer
reads_left rows m next loaded more = code_at rows (loaded / 2 ^ m) next (bits_of m loaded ++ more)

no_row : (number next : ℕ) (bits : List ℕ) → code_at [] number next bits ≡ Err Unhandled
unfolding code_at
no_row number next bits = refl

no_rows : (count loaded : ℕ) (more : List ℕ) → row_code [] count loaded more ≡ Err Unhandled
unfolding row_code
no_rows count loaded more = refl

bits_end : (row : List ℕ) (rows : List (List ℕ)) (number next : ℕ)
    → code_at (row ∷ rows) number next [] ≡ Err MissingBits
unfolding code_at
bits_end row rows number next = refl

-- one bit less is left
one_turn : (row : List ℕ) (rows : List (List ℕ)) (m next loaded : ℕ) (more : List ℕ)
    → reads_left (row ∷ rows) (suc m) next loaded more
    ≡ cond (nat_lt (loaded / 2 ^ m) (2 * next + length row))
    (Ok (slice_index row (loaded / 2 ^ m - 2 * next), bits_of m loaded ++ more))
    (reads_left rows m (2 * next + length row) loaded more)
one_turn row rows m next loaded more =
    ap (λ (l : List ℕ). code_at (row ∷ rows) (loaded / 2 ^ suc m) next (l ++ more)) (next_bit m loaded)
    ∙ turn row rows (loaded / 2 ^ m) next (loaded / 2 ^ suc m) (loaded / 2 ^ m % 2) (bits_of m loaded ++ more)
    (next_number loaded m)

doubled : (next loaded m : ℕ) → next ≤ loaded / 2 ^ suc m → 2 * next ≤ loaded / 2 ^ m
doubled next loaded m le = omega (arith, next_number loaded m)

none_here : (rows : List (List ℕ)) (m next loaded : ℕ) (more : List ℕ) → next ≤ loaded / 2 ^ suc m
    → reads_left ([] ∷ rows) (suc m) next loaded more ≡ reads_left rows m (2 * next) loaded more
none_here rows m next loaded more le =
    let z : 2 * next + length {A = ℕ} [] ≡ 2 * next = omega arith in
    let out : 2 * next + length {A = ℕ} [] ≤ loaded / 2 ^ m = omega (arith, doubled next loaded m le) in
    one_turn [] rows m next loaded more ∙ rw (le-ltb _ _ out, z) refl

found_here : (row : List ℕ) (rows : List (List ℕ)) (m next loaded : ℕ) (more : List ℕ)
    → loaded / 2 ^ m < 2 * next + length row
    → reads_left (row ∷ rows) (suc m) next loaded more
    ≡ Ok (slice_index row (loaded / 2 ^ m - 2 * next), bits_of m loaded ++ more)
found_here row rows m next loaded more lt = one_turn row rows m next loaded more ∙ rw (lt-ltb _ _ lt) refl

passed_here : (row : List ℕ) (rows : List (List ℕ)) (m next loaded : ℕ) (more : List ℕ)
    → 2 * next + length row ≤ loaded / 2 ^ m
    → reads_left (row ∷ rows) (suc m) next loaded more ≡ reads_left rows m (2 * next + length row) loaded more
passed_here row rows m next loaded more le = one_turn row rows m next loaded more ∙ rw (le-ltb _ _ le) refl

abbrev answer : ℕ → List ℕ → Answer
answer b left = Ok (b, left)

abbrev found_row : ℕ → ℕ → List ℕ → ℕ → ℕ → List ℕ → Answer
found_row first number bytes m loaded more = Ok (slice_index bytes (number - first), bits_of m loaded ++ more)

reads_rows : (rows : List (List ℕ)) (n m next count loaded : ℕ) (more : List ℕ) → ends_full rows ≡ true
    → n + length rows ≤ 30 → count ≡ n + m → (30 ≤ count) ⊎ (more ≡ []) → next ≤ loaded / 2 ^ m
    → reads_left rows m next loaded more ≡ row_code (rows_from n next rows) count loaded more
unfolding rows_from ends_full
reads_rows [] n m next count loaded more full few e enough le =
    no_row (loaded / 2 ^ m) next (bits_of m loaded ++ more) ∙ sym (no_rows count loaded more)
reads_rows (row ∷ rows) n zero next count loaded more full few e enough le =
    elim enough [
      | inl h ↦ absurd (omega arith)
      | inr none ↦
          ap (λ (l : List ℕ). code_at (row ∷ rows) (loaded / 2 ^ 0) next (l ++ more)) (no_bits loaded)
          ∙ ap (λ (l : List ℕ). code_at (row ∷ rows) (loaded / 2 ^ 0) next l) none
          ∙ bits_end row rows (loaded / 2 ^ 0) next
          ∙ sym (none_left rows row n next count loaded more full (omega arith))
    ]
reads_rows ([] ∷ []) n (suc m) next count loaded more full few e enough le = absurd cc
reads_rows ([] ∷ row ∷ rows) n (suc m) next count loaded more full few e enough le =
    none_here (row ∷ rows) m next loaded more le
    ∙ reads_rows (row ∷ rows) (suc n) m (2 * next) count loaded more full (omega arith) (omega arith) enough
    (doubled next loaded m le)
reads_rows ((b ∷ bytes) ∷ rows) n (suc m) next count loaded more full few e enough le =
    let row = b ∷ bytes in
    let behind = rows_from (suc n) (2 * next + length row) rows in
    let left : count - suc n ≡ m = omega arith in
    let number : loaded / 2 ^ (count - suc n) ≡ loaded / 2 ^ m = ap (λ (k : ℕ). loaded / 2 ^ k) left in
    let first = doubled next loaded m le in
    elim (cases_lt (loaded / 2 ^ m) (2 * next + length row)) [
      | inl lt ↦
          found_here row rows m next loaded more lt
          ∙ ap (λ (k : ℕ). found_row (2 * next) (loaded / 2 ^ m) row k loaded more) (sym left)
          ∙ sym (row_found (suc n, 2 * next, row) behind count loaded (loaded / 2 ^ m) more
          (omega arith) number first (omega arith))
      | inr ge ↦
          passed_here row rows m next loaded more ge
          ∙ reads_rows rows (suc n) m (2 * next + length row) count loaded more full (omega arith)
          (omega arith) enough ge
          ∙ sym (row_passed (suc n, 2 * next, row) behind count loaded (loaded / 2 ^ m) more (omega arith) number
          (λ h. omega arith))
    ]

-- ---- from the ninth bit on

rows_are : rows_from 8 254 (drop 8 bytes_by_length) ≡ long_rows
unfolding rows_from bytes_by_length bytes_of_length first_code long_rows
rows_are = refl

rows_end_full : ends_full (drop 8 bytes_by_length) ≡ true
unfolding ends_full bytes_by_length
rows_end_full = refl

rows_few : length (drop 8 bytes_by_length) ≡ 22
unfolding bytes_by_length
rows_few = refl

long_rows_count : length long_rows ≡ 17
unfolding long_rows
long_rows_count = refl

-- seven ones begin no code of eight bits or less
begins_254 : (more : List ℕ) → code_at bytes_by_length 0 0 (bits_of 8 254 ++ more)
    ≡ code_at (drop 8 bytes_by_length) 254 254 more
unfolding code_at bytes_by_length bits_of
begins_254 more = refl

begins_255 : (more : List ℕ) → code_at bytes_by_length 0 0 (bits_of 8 255 ++ more)
    ≡ code_at (drop 8 bytes_by_length) 255 254 more
unfolding code_at bytes_by_length bits_of
begins_255 more = refl

begins_long : (window : ℕ) (more : List ℕ) → 254 ≤ window → window < 256
    → code_at bytes_by_length 0 0 (bits_of 8 window ++ more) ≡ code_at (drop 8 bytes_by_length) window 254 more
begins_long window more le lt =
    elim (cases_eq window 254) [
      | inl e ↦ rw e (begins_254 more)
      | inr n ↦ let e : window ≡ 255 = omega arith in rw e (begins_255 more)
    ]

high_bits : (count loaded k : ℕ) → k ≤ count → loaded < 2 ^ count → loaded / 2 ^ (count - k) < 2 ^ k
high_bits count loaded k le fits =
    let e : k + (count - k) ≡ count = omega arith in shr_lt k (count - k) (rw e fits)

pub long_reads : (count loaded : ℕ) (more : List ℕ) → 8 ≤ count → loaded < 2 ^ count → 254 ≤ loaded / 2 ^ (count - 8)
    → (30 ≤ count) ⊎ (more ≡ [])
    → code_at bytes_by_length 0 0 (bits_of count loaded ++ more) ≡ row_code long_rows count loaded more
long_reads count loaded more eight fits long enough =
    let m = count - 8 in
    let parts : bits_of count loaded ≡ bits_of 8 (loaded / 2 ^ m) ++ bits_of m loaded =
    bits_append 8 m count loaded (omega arith) in
    ap (λ (l : List ℕ). code_at bytes_by_length 0 0 (l ++ more)) parts
    ∙ ap (code_at bytes_by_length 0 0) (append_assoc (bits_of 8 (loaded / 2 ^ m)) (bits_of m loaded) more)
    ∙ begins_long (loaded / 2 ^ m) (bits_of m loaded ++ more) long (high_bits count loaded 8 eight fits)
    ∙ reads_rows (drop 8 bytes_by_length) 8 m 254 count loaded more rows_end_full (omega (arith, rows_few))
    (omega arith) enough long
    ∙ ap (λ (rows : List Row). row_code rows count loaded more) rows_are

-- ---- the rows that are passed at sight

-- rows whose codes are smaller than what 24 bits begin with
passed_all : (rows behind : List Row) (count loaded : ℕ) (more : List ℕ) → 24 ≤ count
    → are_smaller (loaded / 2 ^ (count - 24)) rows ≡ true
    → row_code (rows ++ behind) count loaded more ≡ row_code behind count loaded more
unfolding are_smaller
passed_all [] behind count loaded more le t = refl
passed_all (row ∷ rows) behind count loaded more le t =
    let window = loaded / 2 ^ (count - 24) in
    let parts = and_parts (is_smaller window row) (are_smaller window rows) t in
    let smaller = and_parts (nat_le row.0 24) (nat_le ((row.1 + length row.2) * 2 ^ (24 - row.0)) window) parts.0 in
    let few : row.0 ≤ 24 = leb-true _ _ smaller.0 in
    let apart : count - 24 + (24 - row.0) ≡ count - row.0 = omega arith in
    let number : loaded / 2 ^ (count - row.0) ≡ window / 2 ^ (24 - row.0) =
    ap (λ (k : ℕ). loaded / 2 ^ k) (sym apart) ∙ sym (shr-shr loaded (count - 24) (24 - row.0)) in
    let past : row.1 + length row.2 ≤ window / 2 ^ (24 - row.0) =
    (le-div_iff_mul-le (pow_pos (24 - row.0))).1 (leb-true _ _ smaller.1) in
    row_passed row (rows ++ behind) count loaded (window / 2 ^ (24 - row.0)) more (omega arith) number (λ h. omega arith)
    ∙ passed_all rows behind count loaded more le parts.1

pub rows_passed : (n count loaded : ℕ) (more : List ℕ) → ArePassed count loaded (take n long_rows)
    → row_code (drop n long_rows) count loaded more ≡ row_code long_rows count loaded more
rows_passed n count loaded more passed =
    let split : take n long_rows ++ drop n long_rows ≡ long_rows = take-append-drop n long_rows in
    elim passed [
      | inl none ↦
          ap (λ (l : List Row). row_code (l ++ drop n long_rows) count loaded more) (sym none)
          ∙ ap (λ (l : List Row). row_code l count loaded more) split
      | inr smaller ↦
          sym (passed_all (take n long_rows) (drop n long_rows) count loaded more smaller.0 smaller.1)
          ∙ ap (λ (l : List Row). row_code l count loaded more) split
    ]

-- a greater window is past the same rows
still_smaller : (a b : ℕ) (rows : List Row) → a ≤ b → are_smaller a rows ≡ true → are_smaller b rows ≡ true
unfolding are_smaller
still_smaller a b [] le t = refl
still_smaller a b (row ∷ rows) le t =
    let parts = and_parts (is_smaller a row) (are_smaller a rows) t in
    let smaller = and_parts (nat_le row.0 24) (nat_le ((row.1 + length row.2) * 2 ^ (24 - row.0)) a) parts.0 in
    let past : (row.1 + length row.2) * 2 ^ (24 - row.0) ≤ a = leb-true _ _ smaller.1 in
    let here : is_smaller b row ≡ true = and_from _ _ smaller.0 (le-leb _ _ (omega (arith, past))) in
    and_from _ _ here (still_smaller a b rows le parts.1)

smaller_than_24 : are_smaller 16777194 (take 11 long_rows) ≡ true
unfolding are_smaller bytes_by_length bytes_of_length first_code long_rows
smaller_than_24 = refl

smaller_than_19 : are_smaller 16776704 (take 6 long_rows) ≡ true
unfolding are_smaller bytes_by_length bytes_of_length first_code long_rows
smaller_than_19 = refl

-- 24 bits that no code of at most 23 bits begins
pub past_23 : (count loaded : ℕ) → 24 ≤ count → 16777194 ≤ loaded / 2 ^ (count - 24)
    → ArePassed count loaded (take 11 long_rows)
past_23 count loaded le window = inr (le, still_smaller _ _ (take 11 long_rows) window smaller_than_24)

-- 24 bits that no code of at most 15 bits begins
pub past_15 : (count loaded : ℕ) → 24 ≤ count → 16776704 ≤ loaded / 2 ^ (count - 24)
    → ArePassed count loaded (take 6 long_rows)
past_15 count loaded le window = inr (le, still_smaller _ _ (take 6 long_rows) window smaller_than_19)

abbrev row_of : ℕ × ℕ × Bor (List ℕ) → Row
row_of r = (r.0, r.1, r.2.now)

-- the rows that are left are those of a part of the table
pub rows_left : (rows : List (ℕ × ℕ × Bor (List ℕ))) (n : ℕ) → rows_at rows ≡ long_rows → n ≤ 17
    → rows_at (mid_of n (17 - n) rows) ≡ drop n long_rows
rows_left rows n e le =
    let count : length rows ≡ 17 = sym (length-map rows row_of) ∙ ap length e ∙ long_rows_count in
    let all : mid_of n (17 - n) rows ≡ drop n rows =
    take_all (17 - n) (drop n rows) (omega (arith, length-drop n rows)) in
    ap rows_at all ∙ sym (drop-map row_of n rows) ∙ ap (drop n) e

-- ---- one turn of the search

-- the row is the next one, where i are passed
pub record IsNext (rows : List (ℕ × ℕ × Bor (List ℕ))) (i : ℕ) (row : ℕ × ℕ × Bor (List ℕ)) : Type 0 where
  pub is : drop i (rows_at rows) ≡ row_of row ∷ drop (i + 1) (rows_at rows)

pub row_here : (rows : List (ℕ × ℕ × Bor (List ℕ))) (i : ℕ) (d : ℕ × ℕ × Bor (List ℕ)) → i < length rows
    → IsNext rows i (get_or rows i d)
row_here rows i d h =
    let within : i < length (rows_at rows) = omega (arith, length-map rows row_of) in record {
      is = drop-cons (rows_at rows) i (row_of d) within
          ∙ ap (λ (r : Row). r ∷ drop (suc i) (rows_at rows)) (get_or-map row_of rows i d (row_of d) h)
          ∙ ap (λ (k : ℕ). row_of (get_or rows i d) ∷ drop k (rows_at rows)) (sym (add-one i));
    }

pub turn_none : (rows : List (ℕ × ℕ × Bor (List ℕ))) (i count loaded : ℕ) (more : List ℕ) → length rows ≤ i
    → row_code (drop i (rows_at rows)) count loaded more ≡ Err Unhandled
turn_none rows i count loaded more le =
    ap (λ (l : List Row). row_code l count loaded more)
    (drop_all i (rows_at rows) (omega (arith, length-map rows row_of)))
    ∙ no_rows count loaded more

-- what a turn finds, as the code has it: the row's length and first code by other names
pub code_found : (rows : List (ℕ × ℕ × Bor (List ℕ))) (i : ℕ) (row : ℕ × ℕ
    × Bor (List ℕ)) (count loaded bits first b : ℕ) (left more : List ℕ) → IsNext rows i row → bits ≡ row.0
    → first ≡ row.1 → bits ≤ count
    → (first ≤ loaded / 2 ^ (count - bits)) × (loaded / 2 ^ (count - bits) - first < length row.2.now)
    × (b ≡ slice_index row.2.now (loaded / 2 ^ (count - bits) - first))
    → left ≡ bits_of (count - bits) loaded ++ more
    → row_code (drop i (rows_at rows)) count loaded more ≡ Ok (b, left)
code_found rows i row count loaded bits first b left more next e f le h is =
    let number = loaded / 2 ^ (count - bits) in
    let same : loaded / 2 ^ (count - row.0) ≡ number = ap (λ (n : ℕ). loaded / 2 ^ (count - n)) (sym e) in
    let below : number - row.1 < length row.2.now = omega (arith, h.1) in
    ap (λ (l : List Row). row_code l count loaded more) next.is
    ∙ row_found (row_of row) (drop (i + 1) (rows_at rows)) count loaded number more (omega arith) same
    (omega (arith, h.0)) below
    ∙ ap (λ (n : ℕ). found_row n number row.2.now (count - row.0) loaded more) (sym f)
    ∙ ap (λ (n : ℕ). found_row first number row.2.now (count - n) loaded more) (sym e)
    ∙ ap (λ (c : ℕ). answer c (bits_of (count - bits) loaded ++ more)) (sym h.2)
    ∙ ap (λ (l : List ℕ). answer b l) (sym is)

pub code_passed : (rows : List (ℕ × ℕ × Bor (List ℕ))) (i : ℕ) (row : ℕ × ℕ
    × Bor (List ℕ)) (count loaded bits first : ℕ) (more : List ℕ) → IsNext rows i row → bits ≡ row.0 → first ≡ row.1
    → bits ≤ count
    → (first ≤ loaded / 2 ^ (count - bits) → length row.2.now ≤ loaded / 2 ^ (count - bits) - first)
    → row_code (drop i (rows_at rows)) count loaded more ≡ row_code (drop (i + 1) (rows_at rows)) count loaded more
code_passed rows i row count loaded bits first more next e f le h =
    let number = loaded / 2 ^ (count - bits) in
    let same : loaded / 2 ^ (count - row.0) ≡ number = ap (λ (n : ℕ). loaded / 2 ^ (count - n)) (sym e) in
    ap (λ (l : List Row). row_code l count loaded more) next.is
    ∙ row_passed (row_of row) (drop (i + 1) (rows_at rows)) count loaded number more (omega arith) same
    (λ g. let k = h (omega arith) in omega arith)

pub code_short : (rows : List (ℕ × ℕ × Bor (List ℕ))) (i : ℕ) (row : ℕ × ℕ
    × Bor (List ℕ)) (count loaded bits : ℕ) (more : List ℕ) → IsNext rows i row → bits ≡ row.0 → count < bits
    → row_code (drop i (rows_at rows)) count loaded more ≡ Err MissingBits
code_short rows i row count loaded bits more next e lt =
    ap (λ (l : List Row). row_code l count loaded more) next.is
    ∙ row_short (row_of row) (drop (i + 1) (rows_at rows)) count loaded more (omega arith)
