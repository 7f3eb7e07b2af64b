-- A look by a name's length finds all positions of the name, and a look at those finds the first.
use Rattle.std.proofs.Common.{◌≡◌, ℕ, zero, suc, ◌+◌, ◌-◌, ◌<◌, ◌≤◌, Bool, true, false, not, cond, ◌&&◌, ◌||◌, List}
use Rattle.std.proofs.Common.{[], ◌∷◌, length, map, Option, Some, None, refl, sym, ap, subst, ◌∙◌, arith, inl, inr}
use Rattle.std.specs.Prelude.{All, Contains, filter, find, position, slice_get, slice_index_or, nat_lt, option_map}
use Rattle.std.specs.Borrow.{Bor}
use Rattle.std.specs.List.{enumerate_from, list_all, list_any, position_or_len}
use Rattle.std.specs.Slice.{IsItemAt}
use Rattle.std.specs.Str.{bytes_eq}
use Rattle.std.proofs.lemmas.Bool.{and_parts, both_ways, cases_lt, false_from_ne_true, le-ltb, lt-ltb}
use Rattle.std.proofs.lemmas.List.{get_or_past}
use Rattle.std.proofs.lemmas.List.Elements.{All-contains, All-head, All-tail, All-nil, All-cons, All-weaker}
use Rattle.std.proofs.lemmas.List.Sums.{AllPass-from_list_all}
use Rattle.std.proofs.lemmas.Slice.Eq.{bytes_eq-Decides}
use Rattle.qpack_spec.specs.Field.{Field, has_name, is_field}
use Rattle.qpack_spec.specs.StaticTable.{static_table, static_index, static_name_index}
use Rattle.qpack_base.specs.StaticFields.{indexes_with_name, has_value_at, is_value_of, names_at, name_rows_at}
use Rattle.qpack_base.specs.StaticFields.{AreNamesOfLength, AreNamesBetween}

-- a name and its positions
abbrev Entry : Type 0
Entry = List ℕ × List ℕ

-- ---- the table of names, tested entry by entry

-- whether the entry has its positions
abbrev entry_test : Entry → Bool
entry_test e = bytes_eq e.1 (indexes_with_name e.0)

-- whether the field's name stands in the row of its length, if that is one of the part
abbrev field_test : ℕ → ℕ → List (List Entry) → Field → Bool
field_test first limit rows f =
    (nat_lt (length f.name) first || not (nat_lt (length f.name) limit))
    || list_any (λ e. bytes_eq e.0 f.name) (slice_index_or rows (length f.name - first) [])

-- whether the rows are those of the static table
abbrev rows_test : ℕ → ℕ → List (List Entry) → Bool
rows_test first limit rows =
    list_all (list_all entry_test) rows && list_all (field_test first limit rows) static_table

row_passes : (test : List Entry → Bool) (rows : List (List Entry)) (n : ℕ) → test [] ≡ true
    → list_all test rows ≡ true → test (slice_index_or rows n []) ≡ true
row_passes test [] n e t = e
row_passes test (r ∷ rows) zero e t = (and_parts _ _ t).0
row_passes test (r ∷ rows) (suc n) e t = row_passes test rows n e (and_parts _ _ t).1

passes_at : {X : Type 0} (test : X → Bool) (xs : List X) (k : ℕ) (x : X) → list_all test xs ≡ true
    → slice_get xs k ≡ Some x → test x ≡ true
passes_at test [] k x t e = absurd cc
passes_at test (y ∷ ys) zero x t e = let s : y ≡ x = cc in subst (λ z. test z ≡ true) s (and_parts _ _ t).0
passes_at test (y ∷ ys) (suc k) x t e = passes_at test ys k x (and_parts _ _ t).1 e

some_first : {X : Type 0} (test : X → Bool) (y : X) (ys : List X) (b : Bool) → test y ≡ b
    → (b || list_any test ys) ≡ true
    → (list_any test ys ≡ true → (x : X) × Contains ys x × (test x ≡ true)) → (x : X) × Contains (y ∷ ys) x
    × (test x ≡ true)
some_first test y ys true is t rest = (y, (0, omega arith, refl), is)
some_first test y ys false is t rest = let r = rest t in (r.0, (suc r.1.0, omega (arith, r.1.1), r.1.2), r.2)

-- some element that passes
some_passes : {X : Type 0} (test : X → Bool) (xs : List X) → list_any test xs ≡ true → (x : X) × Contains xs x
    × (test x ≡ true)
some_passes test [] t = absurd cc
some_passes test (y ∷ ys) t = some_first test y ys (test y) refl t (some_passes test ys)

entries_agree : (row : List Entry) → list_all entry_test row ≡ true → All (λ e. e.1 ≡ indexes_with_name e.0) row
entries_agree row t =
    All-weaker (λ e. entry_test e ≡ true) (λ e. e.1 ≡ indexes_with_name e.0)
    (λ e h. (bytes_eq-Decides e.1 (indexes_with_name e.0)).0 h) row (AllPass-from_list_all entry_test row t)

entry_is : (n m : List ℕ) (p q : List ℕ) → n ≡ m → p ≡ q → (let e : Entry = (n, p) in let f : Entry = (m, q) in e ≡ f)
entry_is n m p q same_name same_indexes = cc

-- an entry of the name, where entries have their positions
entry_there : (row : List Entry) (name : List ℕ) → All (λ e. e.1 ≡ indexes_with_name e.0) row
    → list_any (λ e. bytes_eq e.0 name) row ≡ true → Contains row (name, indexes_with_name name)
entry_there row name indexes t =
    let some = some_passes (λ e. bytes_eq e.0 name) row t in
    let is_name : some.0.0 ≡ name = (bytes_eq-Decides some.0.0 name).0 some.2 in
    let has_indexes : some.0.1 ≡ indexes_with_name some.0.0 =
    All-contains (λ e. e.1 ≡ indexes_with_name e.0) row some.0 indexes some.1 in
    let is = entry_is some.0.0 name some.0.1 (indexes_with_name name) is_name (has_indexes
    ∙ ap (λ (n : List ℕ). indexes_with_name n) is_name) in
    subst (λ (e : Entry). Contains row e) is some.1

-- what is tested of a field whose length is one of the part
in_part : (first limit : ℕ) (rows : List (List Entry)) (f : Field) → first ≤ length f.name → length f.name < limit
    → field_test first limit rows f ≡ true
    → list_any (λ e. bytes_eq e.0 f.name) (slice_index_or rows (length f.name - first) []) ≡ true
in_part first limit rows f least most t =
    let behind = le-ltb (length f.name) first least in
    let before = lt-ltb (length f.name) limit most in
    rw (behind, before) at t

pub names_agree : (first limit : ℕ) (rows : List (List Entry)) → rows_test first limit rows ≡ true
    → AreNamesBetween first limit rows
names_agree first limit rows t = record { at = agree }
  where
    agree : (n : ℕ) → first ≤ n → n < limit → AreNamesOfLength n (slice_index_or rows (n - first) [])
    agree n least most =
        let both = and_parts (list_all (list_all entry_test) rows)
        (list_all (field_test first limit rows) static_table) t in
        let row = slice_index_or rows (n - first) [] in
        let indexes = entries_agree row (row_passes (list_all entry_test) rows (n - first) refl both.0) in
        record {
          indexes = indexes;
          complete = λ k f at is.
              let passes = passes_at (field_test first limit rows) static_table k f both.1 at in
              let there = in_part first limit rows f (omega (arith, least, is)) (omega (arith, most, is)) passes in
              entry_there row f.name indexes
              (subst (λ (m : ℕ). list_any (λ e. bytes_eq e.0 f.name) (slice_index_or rows (m - first) [])
              ≡ true) is there);
        }

-- ---- a look into the names of a length

found_first : {X : Type 0} (P : X → Type 0) (test : X → Bool) (y : X) (ys : List X) (x : X) (b : Bool) → test y ≡ b
    → P y → cond b (Some y) (find test ys) ≡ Some x
    → (find test ys ≡ Some x → P x × (test x ≡ true)) → P x × (test x ≡ true)
found_first P test y ys x true is h e rest = let s : y ≡ x = cc in subst (λ z. P z × (test z ≡ true)) s (h, is)
found_first P test y ys x false is h e rest = rest e

found : {X : Type 0} (P : X → Type 0) (test : X → Bool) (xs : List X) (x : X) → All P xs → find test xs ≡ Some x
    → P x × (test x ≡ true)
found P test [] x a e = absurd cc
found P test (y ∷ ys) x a e = found_first P test y ys x (test y) refl (All-head P y ys a) e
    (found P test ys x (All-tail P y ys a))

missing_first : {X : Type 0} (test : X → Bool) (y : X) (ys : List X) (b : Bool) → test y ≡ b
    → cond b (Some y) (find test ys) ≡ None
    → (find test ys ≡ None → All (λ x. test x ≡ false) ys) → All (λ x. test x ≡ false) (y ∷ ys)
missing_first test y ys true is e rest = absurd cc
missing_first test y ys false is e rest = All-cons (λ x. test x ≡ false) y ys is (rest e)

missing : {X : Type 0} (test : X → Bool) (xs : List X) → find test xs ≡ None → All (λ x. test x ≡ false) xs
missing test [] e = All-nil (λ x. test x ≡ false)
missing test (y ∷ ys) e = missing_first test y ys (test y) refl e (missing test ys)

find-map : {X Y : Type 0} (test : Y → Bool) (g : X → Y) (xs : List X)
    → find test (map g xs) ≡ option_map g (find (λ x. test (g x)) xs)
find-map test g [] = refl
find-map test g (x ∷ xs) = first (test (g x)) (find-map test g xs)
  where
    first : (b : Bool) → find test (map g xs) ≡ option_map g (find (λ y. test (g y)) xs)
        → cond b (Some (g x)) (find test (map g xs)) ≡ option_map g (cond b (Some x) (find (λ y. test (g y)) xs))
    first true rest = refl
    first false rest = rest

-- ---- positions

-- the positions of those that pass, from i on
abbrev indexes_from : (Field → Bool) → ℕ → List Field → List ℕ
indexes_from test i fs = map (λ e. e.0) (filter (λ e. test e.1) (enumerate_from i fs))

-- the first of these
abbrev first_from : (Field → Bool) → ℕ → List Field → Option ℕ
first_from test i [] = None
first_from test i (f ∷ fs) = cond (test f) (Some i) (first_from test (i + 1) fs)

no_indexes : (test : Field → Bool) (i : ℕ) (fs : List Field)
    → ((k : ℕ) (f : Field) → slice_get fs k ≡ Some f → test f ≡ false) → indexes_from test i fs ≡ []
no_indexes test i [] h = refl
no_indexes test i (f ∷ fs) h = let e : test f ≡ false = h 0 f refl in rw e (no_indexes test (i + 1) fs (λ k. h (suc k)))

-- ---- what the look finds

entry_at : Bor (List ℕ) × Bor (List ℕ) → Entry
entry_at e = (e.0.now, e.1.now)

pub indexes_found : (name : List ℕ) (names : List (Bor (List ℕ) × Bor (List ℕ))) (e : Bor (List ℕ) × Bor (List ℕ))
    → AreNamesOfLength (length name) (names_at names)
    → Some e ≡ find (λ e. bytes_eq name e.0.now) names → e.1.now ≡ indexes_with_name name
unfolding entry_at
indexes_found name names e are h =
    let test = λ (e : Entry). bytes_eq name e.0 in
    let at : find test (names_at names) ≡ Some (entry_at e) = find-map test entry_at names
    ∙ ap (λ (o : Option (Bor (List ℕ) × Bor (List ℕ))). option_map entry_at o) (sym h) in
    let r = found (λ (e : Entry). e.1 ≡ indexes_with_name e.0) test (names_at names) (entry_at e) are.indexes at in
    r.0 ∙ ap (λ (n : List ℕ). indexes_with_name n) (sym ((bytes_eq-Decides name e.0.now).0 r.1))

pub indexes_missing : (name : List ℕ) (names : List (Bor (List ℕ) × Bor (List ℕ)))
    → AreNamesOfLength (length name) (names_at names)
    → None ≡ find (λ e. bytes_eq name e.0.now) names → [] ≡ indexes_with_name name
unfolding entry_at indexes_with_name
indexes_missing name names are h =
    let test = λ (e : Entry). bytes_eq name e.0 in
    let at : find test (names_at names) ≡ None = find-map test entry_at names
    ∙ ap (λ (o : Option (Bor (List ℕ) × Bor (List ℕ))). option_map entry_at o) (sym h) in
    sym (no_indexes (has_name name) 0 static_table (λ k f is. false_from_ne_true (has_name name f) (λ same.
    let same_name : name ≡ f.name = (bytes_eq-Decides name f.name).0 same in
    let there = are.complete k f is (ap (λ (n : List ℕ). length n) (sym same_name)) in
    both_ways (test (f.name, indexes_with_name f.name))
    (All-contains (λ e. test e ≡ false) (names_at names) (
      f.name,
      indexes_with_name f.name,
    ) (missing test (names_at names) at) there) same)))

-- ---- the first index

first_index : (test : Field → Bool) (i : ℕ) (fs : List Field)
    → slice_get (indexes_from test i fs) 0 ≡ first_from test i fs
first_index test i [] = refl
first_index test i (f ∷ fs) = first (test f) (first_index test (i + 1) fs)
  where
    first : (b : Bool) → slice_get (indexes_from test (i + 1) fs) 0 ≡ first_from test (i + 1) fs
        → slice_get (map (λ e. e.0) (cond b ((i, f) ∷ filter (λ e. test e.1) (enumerate_from (i + 1) fs))
        (filter (λ e. test e.1) (enumerate_from (i + 1) fs)))) 0
        ≡ cond b (Some i) (first_from test (i + 1) fs)
    first true rest = refl
    first false rest = rest

-- a look at the positions of those that pass, by a test of what stands there
first_of_both : (test more : Field → Bool) (look : ℕ → Bool) (i : ℕ) (fs : List Field)
    → ((k : ℕ) (f : Field) → slice_get fs k ≡ Some f → look (i + k) ≡ more f)
    → find look (indexes_from test i fs) ≡ first_from (λ f. test f && more f) i fs
first_of_both test more look i [] h = refl
first_of_both test more look i (f ∷ fs) h =
    let zero_is : i + 0 ≡ i = omega arith in
    let here : look i ≡ more f = subst (λ (n : ℕ). look n ≡ more f) zero_is (h 0 f refl) in
    first (test f) (more f) here
    (first_of_both test more look (i + 1) fs
    (λ k g is. let next : i + suc k ≡ i + 1 + k = omega arith in
    subst (λ (n : ℕ). look n ≡ more g) next (h (suc k) g is)))
  where
    first : (b c : Bool) → look i ≡ c → find look (indexes_from test (i + 1) fs)
        ≡ first_from (λ f. test f && more f) (i + 1) fs
        → find look (map (λ e. e.0) (cond b ((i, f) ∷ filter (λ e. test e.1) (enumerate_from (i + 1) fs))
        (filter (λ e. test e.1) (enumerate_from (i + 1) fs))))
        ≡ cond (b && c) (Some i) (first_from (λ f. test f && more f) (i + 1) fs)
    first true true is rest = rw is refl
    first true false is rest = rw is rest
    first false c is rest = rest

-- a position counts from the front
position_step : (b : Bool) (n m : ℕ)
    → cond (nat_lt (cond (not b) (1 + n) 0) (suc m)) (Some (cond (not b) (1 + n) 0)) None
    ≡ cond b (Some 0) (option_map (λ k. 1 + k) (cond (nat_lt n m) (Some n) None))
position_step true n m = rw (lt-ltb 0 (suc m) (omega arith)) refl
position_step false n m =
    elim (cases_lt n m) [
      | inl lt ↦ let more : 1 + n < suc m = omega arith in rw (lt-ltb n m lt, lt-ltb (1 + n) (suc m) more) refl
      | inr le ↦ let more : suc m ≤ 1 + n = omega arith in rw (le-ltb n m le, le-ltb (1 + n) (suc m) more) refl
    ]

further : (i : ℕ) (o : Option ℕ) → option_map (λ n. i + 1 + n) o ≡ option_map (λ n. i + n) (option_map (λ k. 1 + k) o)
further i None = refl
further i (Some n) = let e : i + 1 + n ≡ i + (1 + n) = omega arith in rw e refl

first_from_position : (test : Field → Bool) (i : ℕ) (fs : List Field)
    → first_from test i fs ≡ option_map (λ n. i + n) (position test fs)
first_from_position test i [] = refl
first_from_position test i (f ∷ fs) =
    first (test f) (first_from_position test (i + 1) fs)
    ∙ ap (λ (o : Option ℕ). option_map (λ n. i + n) o)
    (sym (position_step (test f) (position_or_len test fs) (length fs)))
  where
    first : (b : Bool) → first_from test (i + 1) fs ≡ option_map (λ n. i + 1 + n) (position test fs)
        → cond b (Some i) (first_from test (i + 1) fs)
        ≡ option_map (λ n. i + n) (cond b (Some 0) (option_map (λ k. 1 + k) (position test fs)))
    first true rest = let e : i + 0 ≡ i = omega arith in rw e refl
    first false rest = rest ∙ further i (position test fs)

from_front : (o : Option ℕ) → option_map (λ n. 0 + n) o ≡ o
from_front None = refl
from_front (Some n) = let e : 0 + n ≡ n = omega arith in rw e refl

pub first_is_name_index : (name : List ℕ) → slice_get (indexes_with_name name) 0 ≡ static_name_index name
unfolding indexes_with_name static_name_index
first_is_name_index name =
    first_index (has_name name) 0 static_table ∙ first_from_position (has_name name) 0 static_table
    ∙ from_front (position (has_name name) static_table)

value_there : (f : Field) (k : ℕ) (g : Field) → slice_get static_table k ≡ Some g
    → has_value_at f.value (0 + k) ≡ bytes_eq f.value g.value
value_there f k g is = let e : 0 + k ≡ k = omega arith in rw e (ap (λ (o : Option Field). is_value_of f.value o) is)

found_is_index : (f : Field) → find (has_value_at f.value) (indexes_with_name f.name) ≡ static_index f
unfolding indexes_with_name static_index
found_is_index f =
    first_of_both (has_name f.name) (λ g. bytes_eq f.value g.value) (has_value_at f.value) 0 static_table
    (value_there f)
    ∙ first_from_position (is_field f) 0 static_table
    ∙ from_front (position (is_field f) static_table)

-- where the names and values are handed over apart
pub index_is_first : (f : Field) (name value : List ℕ) (indexes : List ℕ) (r : Option ℕ) → name ≡ f.name
    → value ≡ f.value → indexes ≡ indexes_with_name name → r ≡ find (has_value_at value) indexes
    → r ≡ static_index f
index_is_first f name value indexes r n v p is = rw (is, p, n, v) (found_is_index f)

-- ---- the row of a length

rows-length : (rows : List (Bor (List (Bor (List ℕ) × Bor (List ℕ))))) → length (name_rows_at rows) ≡ length rows
rows-length [] = refl
rows-length (r ∷ rows) = ap (λ (n : ℕ). suc n) (rows-length rows)

pub no_names_past : (rows : List (Bor (List (Bor (List ℕ) × Bor (List ℕ))))) (index : ℕ)
    → IsItemAt rows index None → [] ≡ slice_index_or (name_rows_at rows) index []
no_names_past rows index past =
    let l : length (name_rows_at rows) ≤ index = omega (arith, rows-length rows) in
    sym (get_or_past (name_rows_at rows) index [] l)

row_at : (rows : List (Bor (List (Bor (List ℕ) × Bor (List ℕ))))) (n : ℕ) (r : Bor (List (Bor (List ℕ) × Bor (List ℕ))))
    → n < length rows → slice_index_or rows n r ≡ r → slice_index_or (name_rows_at rows) n [] ≡ names_at r.now
row_at [] n r h e = absurd (omega arith)
row_at (s ∷ rows) zero r h e = ap (λ (x : Bor (List (Bor (List ℕ) × Bor (List ℕ)))). names_at x.now) e
row_at (s ∷ rows) (suc n) r h e = row_at rows n r (omega arith) e

pub names_there : (rows : List (Bor (List (Bor (List ℕ) × Bor (List ℕ))))) (index : ℕ)
    (r : Bor (List (Bor (List ℕ) × Bor (List ℕ)))) → index < length rows → slice_index_or rows index r ≡ r
    → names_at r.now ≡ slice_index_or (name_rows_at rows) index []
names_there rows index r h e = sym (row_at rows index r h e)
