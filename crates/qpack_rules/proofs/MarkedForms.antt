-- What is written of a line is a spelling of it, whether its field is marked or not, and its first byte tells the mark.
use Rattle.std.proofs.Common.{◌≡◌, ℕ, ◌+◌, ◌-◌, ◌*◌, ◌/◌, ◌%◌, ◌^◌, ◌<◌, ◌≤◌, Bool, true, false, List, [], ◌∷◌, ◌++◌}
use Rattle.std.proofs.Common.{length, Some, refl, sym, ap, ◌∙◌, arith, lit≤, length-append}
use Rattle.std.specs.Prelude.{nat_lt}
use Rattle.std.proofs.Common.{cond}
use Rattle.std.proofs.lemmas.Bool.{lt-ltb, le-ltb, eq-eqb, ne_eqb}
use Rattle.qpack_spec.specs.Form.{IndexAndValue, NameAndValue}
use Rattle.qpack_spec.specs.Huffman.{payload_of}
use Rattle.qpack_spec.specs.Integer.{written_integer, written_groups, full}
use Rattle.qpack_spec.specs.Line.{Line, IndexedStatic, IndexedDynamic, IndexedPostBase, NamedStatic, NamedDynamic}
use Rattle.qpack_spec.specs.Line.{NamedPostBase, Literal, line_form, coded_line, coded_marked_line}
use Rattle.qpack_spec.specs.MarkedLaws.{is_literal, MarkedLinesAreSpellings}
use Rattle.qpack_spec.specs.StrictReading.{is_never_indexed}
use Rattle.qpack_spec.specs.Text.{Coding, is_coded, written_literal_of, coded_string}
use Rattle.qpack_spec.specs.WrittenLaws.{IsSmall, IsWritableLineUnder}
use Rattle.qpack_spec.proofs.WrittenForms.{Starts, integer_starts, behind, integer_written, name_starts, lines_spelled}
use Rattle.qpack_spec.proofs.WrittenForms.{by_index_and_value, by_name_and_value}

-- ---- the forms

marked_post_base : (b : ℕ) → 1 ≡ b / 2 ^ 3 → line_form b ≡ Some (IndexAndValue 3 NamedPostBase)
unfolding line_form
marked_post_base b e = rw (lt-ltb b 16 (omega arith)) refl

marked_literal : (b huffman : ℕ) → huffman < 2 → 2 * 3 + huffman ≡ b / 2 ^ 3
    → line_form b ≡ Some (NameAndValue 4 Literal)
unfolding line_form
marked_literal b huffman few e = rw (le-ltb b 16 (omega arith), le-ltb b 32 (omega arith), lt-ltb b 64 (omega arith)) refl

marked_static : (b : ℕ) → 7 ≡ b / 2 ^ 4 → line_form b ≡ Some (IndexAndValue 4 NamedStatic)
unfolding line_form
marked_static b e =
    rw (
      le-ltb b 16 (omega arith),
      le-ltb b 32 (omega arith),
      le-ltb b 64 (omega arith),
      lt-ltb b 128 (omega arith),
      eq-eqb (b / 16 % 2) 1 (omega arith),
    ) refl

marked_dynamic : (b : ℕ) → 6 ≡ b / 2 ^ 4 → line_form b ≡ Some (IndexAndValue 4 NamedDynamic)
unfolding line_form
marked_dynamic b e =
    rw (
      le-ltb b 16 (omega arith),
      le-ltb b 32 (omega arith),
      le-ltb b 64 (omega arith),
      lt-ltb b 128 (omega arith),
      ne_eqb (b / 16 % 2) 1 (λ h. absurd (omega arith)),
    ) refl

pub marked_lines_spelled : MarkedLinesAreSpellings
unfolding coded_marked_line
marked_lines_spelled coding true (NamedStatic i v) w k =
    by_index_and_value line_form coding 4 7 i v NamedStatic (lit≤ tt) (lit≤ tt) (lit≤ tt) w.0 w.1 marked_static
marked_lines_spelled coding true (NamedDynamic i v) w k =
    by_index_and_value line_form coding 4 6 i v NamedDynamic (lit≤ tt) (lit≤ tt) (lit≤ tt) w.0 w.1 marked_dynamic
marked_lines_spelled coding true (NamedPostBase i v) w k =
    by_index_and_value line_form coding 3 1 i v NamedPostBase (lit≤ tt) (lit≤ tt) (lit≤ tt) w.0 w.1 marked_post_base
marked_lines_spelled coding true (Literal n v) w k =
    by_name_and_value line_form coding 3 3 n v Literal (lit≤ tt) (lit≤ tt) (lit≤ tt) (lit≤ tt) w.0 w.1 marked_literal
marked_lines_spelled coding true (IndexedStatic i) w k = absurd (let e = k refl in cc)
marked_lines_spelled coding true (IndexedDynamic i) w k = absurd (let e = k refl in cc)
marked_lines_spelled coding true (IndexedPostBase i) w k = absurd (let e = k refl in cc)
marked_lines_spelled coding false (IndexedStatic i) w k = lines_spelled coding (IndexedStatic i) w
marked_lines_spelled coding false (IndexedDynamic i) w k = lines_spelled coding (IndexedDynamic i) w
marked_lines_spelled coding false (IndexedPostBase i) w k = lines_spelled coding (IndexedPostBase i) w
marked_lines_spelled coding false (NamedStatic i v) w k = lines_spelled coding (NamedStatic i v) w
marked_lines_spelled coding false (NamedDynamic i v) w k = lines_spelled coding (NamedDynamic i v) w
marked_lines_spelled coding false (NamedPostBase i v) w k = lines_spelled coding (NamedPostBase i v) w
marked_lines_spelled coding false (Literal n v) w k = lines_spelled coding (Literal n v) w

-- ---- the first byte

post_base_name : (b flag : ℕ) → flag ≤ 1 → flag ≡ b / 2 ^ 3 → (flag ≡ 0 → is_never_indexed b ≡ false)
    × (flag ≡ 1 → is_never_indexed b ≡ true)
unfolding is_never_indexed
post_base_name b flag low e = (
  λ none. rw (lt-ltb b 16 (omega (arith, low, e)), ne_eqb (b / 8 % 2) 1 (λ h. absurd (omega (arith, none, e, h)))) refl,
  λ one. rw (lt-ltb b 16 (omega (arith, low, e)), eq-eqb (b / 8 % 2) 1 (omega (arith, one, e))) refl,
)

free_post_base : (b : ℕ) → 1 ≡ b / 2 ^ 4 → is_never_indexed b ≡ false
unfolding is_never_indexed
free_post_base b e = rw (le-ltb b 16 (omega arith), lt-ltb b 32 (omega arith)) refl

free_literal : (b huffman : ℕ) → huffman < 2 → 2 * 2 + huffman ≡ b / 2 ^ 3 → is_never_indexed b ≡ false
unfolding is_never_indexed
free_literal b huffman few e =
    rw (
      le-ltb b 16 (omega arith),
      le-ltb b 32 (omega arith),
      lt-ltb b 64 (omega arith),
      ne_eqb (b / 16 % 2) 1 (λ h. absurd (omega arith)),
    ) refl

never_literal : (b huffman : ℕ) → huffman < 2 → 2 * 3 + huffman ≡ b / 2 ^ 3 → is_never_indexed b ≡ true
unfolding is_never_indexed
never_literal b huffman few e =
    rw (
      le-ltb b 16 (omega arith),
      le-ltb b 32 (omega arith),
      lt-ltb b 64 (omega arith),
      eq-eqb (b / 16 % 2) 1 (omega arith),
    ) refl

free_name : (b flag : ℕ) → flag ≤ 1 → 4 + flag ≡ b / 2 ^ 4 → is_never_indexed b ≡ false
unfolding is_never_indexed
free_name b flag low e =
    rw (
      le-ltb b 16 (omega arith),
      le-ltb b 32 (omega arith),
      le-ltb b 64 (omega arith),
      lt-ltb b 128 (omega arith),
      ne_eqb (b / 32 % 2) 1 (λ h. absurd (omega arith)),
    ) refl

never_name : (b flag : ℕ) → flag ≤ 1 → 6 + flag ≡ b / 2 ^ 4 → is_never_indexed b ≡ true
unfolding is_never_indexed
never_name b flag low e =
    rw (
      le-ltb b 16 (omega arith),
      le-ltb b 32 (omega arith),
      le-ltb b 64 (omega arith),
      lt-ltb b 128 (omega arith),
      eq-eqb (b / 32 % 2) 1 (omega arith),
    ) refl

free_index : (b flag : ℕ) → 2 + flag ≡ b / 2 ^ 6 → is_never_indexed b ≡ false
unfolding is_never_indexed
free_index b flag e =
    rw (le-ltb b 16 (omega arith), le-ltb b 32 (omega arith), le-ltb b 64 (omega arith), le-ltb b 128 (omega arith))
    refl

-- the first byte of the bytes tells this mark
abbrev pub Tells : Bool → List ℕ → Type 0
Tells never encoding = (first : ℕ) (more : List ℕ) → encoding ≡ first ∷ more → is_never_indexed first ≡ never

starts_tell : (never : Bool) (n flags : ℕ) (encoding : List ℕ) → Starts n flags encoding
    → ((b : ℕ) → flags ≡ b / 2 ^ n → is_never_indexed b ≡ never) → Tells never encoding
starts_tell never n flags encoding s tells first more e =
    let same : first ≡ s.first = go s.first s.more (sym e ∙ s.begins) in
    ap is_never_indexed same ∙ tells s.first s.high
  where
    go : (b : ℕ) (bytes : List ℕ) → first ∷ more ≡ b ∷ bytes → first ≡ b
    go b bytes h = cc

index_starts : (n flags index : ℕ) → 1 ≤ n → n ≤ 8 → flags < 2 ^ (8 - n) → IsSmall index
    → Starts n flags (written_integer n flags index)
index_starts n flags index least most fit small =
    integer_starts n (written_integer n flags index) flags index (integer_written n flags index least most fit small)

index_tells : (n flags index : ℕ) → 1 ≤ n → n ≤ 8 → flags < 2 ^ (8 - n) → IsSmall index
    → ((b : ℕ) → flags ≡ b / 2 ^ n → is_never_indexed b ≡ false) → Tells false (written_integer n flags index)
index_tells n flags index least most fit small tells =
    starts_tell false n flags (written_integer n flags index) (index_starts n flags index least most fit small) tells

index_and_value_tell : (coding : Coding) (never : Bool) (n flags index : ℕ) (value : List ℕ) → 1 ≤ n → n ≤ 8 → flags < 2 ^ (8 - n)
    → IsSmall index → ((b : ℕ) → flags ≡ b / 2 ^ n → is_never_indexed b ≡ never)
    → Tells never (written_integer n flags index ++ coded_string coding 8 0 value)
index_and_value_tell coding never n flags index value least most fit small tells =
    starts_tell never n flags (written_integer n flags index ++ coded_string coding 8 0 value)
    (behind n flags (written_integer n flags index) (coded_string coding 8 0 value)
    (index_starts n flags index least most fit small)) tells

literal_tells : (coding : Coding) (never : Bool) (flags : ℕ) (name value : List ℕ) → 2 * flags + 1 < 2 ^ (8 - 3)
    → IsWritableLineUnder coding (Literal name value)
    → ((b huffman : ℕ) → huffman < 2 → 2 * flags + huffman ≡ b / 2 ^ 3 → is_never_indexed b ≡ never)
    → Tells never (coded_string coding 4 flags name ++ coded_string coding 8 0 value)
literal_tells coding never flags name value fit w tells =
    let s = name_starts coding 3 flags name (lit≤ tt) (lit≤ tt) fit w.0.size in
    starts_tell never 3 (2 * flags + s.huffman) (coded_string coding 4 flags name ++ coded_string coding 8 0 value)
    (behind 3 (2 * flags + s.huffman) (coded_string coding 4 flags name) (coded_string coding 8 0 value) s.starts)
    (λ b e. tells b s.huffman s.few e)

-- a line that is not marked, as it is written
line_free : (coding : Coding) (l : Line) → IsWritableLineUnder coding l → Tells false (coded_line coding l)
unfolding coded_line
line_free coding (IndexedStatic i) w = index_tells 6 3 i (lit≤ tt) (lit≤ tt) (lit≤ tt) w (λ b e. free_index b 1 e)
line_free coding (IndexedDynamic i) w = index_tells 6 2 i (lit≤ tt) (lit≤ tt) (lit≤ tt) w (λ b e. free_index b 0 e)
line_free coding (IndexedPostBase i) w = index_tells 4 1 i (lit≤ tt) (lit≤ tt) (lit≤ tt) w free_post_base
line_free coding (NamedStatic i v) w =
    index_and_value_tell coding false 4 5 i v (lit≤ tt) (lit≤ tt) (lit≤ tt) w.0 (λ b e. free_name b 1 (lit≤ tt) e)
line_free coding (NamedDynamic i v) w =
    index_and_value_tell coding false 4 4 i v (lit≤ tt) (lit≤ tt) (lit≤ tt) w.0 (λ b e. free_name b 0 (lit≤ tt) e)
line_free coding (NamedPostBase i v) w =
    index_and_value_tell coding false 3 0 i v (lit≤ tt) (lit≤ tt) (lit≤ tt) w.0
    (λ b e. (post_base_name b 0 (lit≤ tt) e).0 refl)
line_free coding (Literal n v) w = literal_tells coding false 2 n v (lit≤ tt) w free_literal

-- the first byte of what is written of a line tells whether its field is marked
pub line_tells : (coding : Coding) (never : Bool) (l : Line) → IsWritableLineUnder coding l
    → (never ≡ true → is_literal l ≡ true) → Tells never (coded_marked_line coding never l)
unfolding coded_marked_line
line_tells coding true (NamedStatic i v) w k =
    index_and_value_tell coding true 4 7 i v (lit≤ tt) (lit≤ tt) (lit≤ tt) w.0 (λ b e. never_name b 1 (lit≤ tt) e)
line_tells coding true (NamedDynamic i v) w k =
    index_and_value_tell coding true 4 6 i v (lit≤ tt) (lit≤ tt) (lit≤ tt) w.0 (λ b e. never_name b 0 (lit≤ tt) e)
line_tells coding true (NamedPostBase i v) w k =
    index_and_value_tell coding true 3 1 i v (lit≤ tt) (lit≤ tt) (lit≤ tt) w.0
    (λ b e. (post_base_name b 1 (lit≤ tt) e).1 refl)
line_tells coding true (Literal n v) w k = literal_tells coding true 3 n v (lit≤ tt) w never_literal
line_tells coding true (IndexedStatic i) w k = absurd (let e = k refl in cc)
line_tells coding true (IndexedDynamic i) w k = absurd (let e = k refl in cc)
line_tells coding true (IndexedPostBase i) w k = absurd (let e = k refl in cc)
line_tells coding false (IndexedStatic i) w k = line_free coding (IndexedStatic i) w
line_tells coding false (IndexedDynamic i) w k = line_free coding (IndexedDynamic i) w
line_tells coding false (IndexedPostBase i) w k = line_free coding (IndexedPostBase i) w
line_tells coding false (NamedStatic i v) w k = line_free coding (NamedStatic i v) w
line_tells coding false (NamedDynamic i v) w k = line_free coding (NamedDynamic i v) w
line_tells coding false (NamedPostBase i v) w k = line_free coding (NamedPostBase i v) w
line_tells coding false (Literal n v) w k = line_free coding (Literal n v) w

-- ---- a mark takes no byte

integer_length : (n flags other value : ℕ) → length (written_integer n flags value)
    ≡ length (written_integer n other value)
unfolding written_integer
integer_length n flags other value =
    elim (nat_lt value (full n)) as (λ b. length (cond b (((flags % 2 ^ (8 - n)) * 2 ^ n + value) ∷ [])
    (((flags % 2 ^ (8 - n)) * 2 ^ n + full n) ∷ written_groups 9 (value - full n)))
    ≡ length (cond b (((other % 2 ^ (8 - n)) * 2 ^ n + value) ∷ [])
    (((other % 2 ^ (8 - n)) * 2 ^ n + full n) ∷ written_groups 9 (value - full n)))) [ true ↦ refl | false ↦ refl ]

payload_length : (n flags other huffman : ℕ) (payload : List ℕ)
    → length (written_literal_of n flags huffman payload) ≡ length (written_literal_of n other huffman payload)
payload_length n flags other huffman payload =
    let len = integer_length (n - 1) (2 * flags + huffman) (2 * other + huffman) (length payload) in
    let a = length-append (written_integer (n - 1) (2 * flags + huffman) (length payload)) payload in
    let b = length-append (written_integer (n - 1) (2 * other + huffman) (length payload)) payload in
    omega (arith, len, a, b)

string_length : (coding : Coding) (n flags other : ℕ) (text : List ℕ)
    → length (coded_string coding n flags text) ≡ length (coded_string coding n other text)
unfolding coded_string
string_length coding n flags other text =
    elim (is_coded coding text) as (λ b. length (cond b (written_literal_of n flags 1 (payload_of text))
    (written_literal_of n flags 0 text))
    ≡ length (cond b (written_literal_of n other 1 (payload_of text)) (written_literal_of n other 0 text))) [
      | true ↦ payload_length n flags other 1 (payload_of text)
      | false ↦ payload_length n flags other 0 text
    ]

value_length : (coding : Coding) (n flags other index : ℕ) (value : List ℕ)
    → length (written_integer n flags index ++ coded_string coding 8 0 value)
    ≡ length (written_integer n other index ++ coded_string coding 8 0 value)
value_length coding n flags other index value =
    let len = integer_length n flags other index in
    let a = length-append (written_integer n flags index) (coded_string coding 8 0 value) in
    let b = length-append (written_integer n other index) (coded_string coding 8 0 value) in
    omega (arith, len, a, b)

pub line_length : (coding : Coding) (never : Bool) (l : Line)
    → length (coded_marked_line coding never l) ≡ length (coded_line coding l)
unfolding coded_marked_line coded_line
line_length coding true (NamedStatic i v) = value_length coding 4 7 5 i v
line_length coding true (NamedDynamic i v) = value_length coding 4 6 4 i v
line_length coding true (NamedPostBase i v) = value_length coding 3 1 0 i v
line_length coding true (Literal n v) =
    let len = string_length coding 4 3 2 n in
    let a = length-append (coded_string coding 4 3 n) (coded_string coding 8 0 v) in
    let b = length-append (coded_string coding 4 2 n) (coded_string coding 8 0 v) in
    omega (arith, len, a, b)
line_length coding true (IndexedStatic i) = refl
line_length coding true (IndexedDynamic i) = refl
line_length coding true (IndexedPostBase i) = refl
line_length coding false (IndexedStatic i) = refl
line_length coding false (IndexedDynamic i) = refl
line_length coding false (IndexedPostBase i) = refl
line_length coding false (NamedStatic i v) = refl
line_length coding false (NamedDynamic i v) = refl
line_length coding false (NamedPostBase i v) = refl
line_length coding false (Literal n v) = refl
