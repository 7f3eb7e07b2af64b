-- What a block's lines mean where the entries that they name are kept, and what its prefix is read as.
use Rattle.std.proofs.Common.{ℕ, ◌+◌, ◌-◌, ◌<◌, ◌≤◌, ◌≡◌, true, cond, List, [], ◌∷◌, ◌++◌, length, Option, None, Some}
use Rattle.std.proofs.Common.{Result, Ok, Err, refl, sym, ap, ◌∙◌, inl, inr, ◌⊎◌, arith, max}
use Rattle.std.specs.List.{slice_get}
use Rattle.std.specs.Prelude.{nat_lt, ◌&&◌}
use Rattle.std.proofs.lemmas.Bool.{cond_both, lt-ltb, cases_lt}
use Rattle.std.proofs.lemmas.Bool.Decides.{nat_tests}
use Rattle.std.proofs.lemmas.List.{append-nil, append_assoc}
use Rattle.std.proofs.lemmas.Option.{slice_get_within}
use Rattle.qpack_spec.specs.Field.{Field}
use Rattle.qpack_spec.specs.StaticTable.{static_table}
use Rattle.qpack_spec.specs.Line.{Line, IndexedStatic, IndexedDynamic, IndexedPostBase, NamedStatic, NamedDynamic}
use Rattle.qpack_spec.specs.Line.{NamedPostBase, Literal}
use Rattle.qpack_spec.specs.Window.{Window, absolute_entry, with_value}
use Rattle.qpack_spec.specs.Reading.{Fault, BelowWindow, AboveWindow, BehindBase, or_fault, field_with_value}
use Rattle.qpack_spec.specs.Reading.{relative_field}
use Rattle.qpack_spec.specs.Reading.{post_base_field, line_field, prepend_field, fields_of, references_of_line}
use Rattle.qpack_spec.specs.Reading.{references_of}
use Rattle.qpack_spec.specs.Reading.{greatest_of, static_field}
use Rattle.std.specs.List.{AllByRecursion}
use Rattle.qpack_spec.proofs.Lists.{every_left, every_right, every_weaker}
use Rattle.qpack_spec.proofs.Windows.{Kept}

-- the static field that is there
pub static_means : (i : ℕ) (g : Field) → slice_get static_table i ≡ Some g → static_field i ≡ Ok g
unfolding static_field
static_means i g e = rw e refl

or_fault_some : (o : Option Field) (e : Fault) (f : Field) → or_fault o e ≡ Ok f → o ≡ Some f
or_fault_some None e f h = absurd (cc)
or_fault_some (Some g) e f h = let q : g ≡ f = cc in ap Some q

-- a relative index is its entry
relative_entry : (w : Window) (base i : ℕ) (f : Field) → relative_field w base i ≡ Ok f → absolute_entry w (base - i)
    ≡ Some f
unfolding relative_field absolute_entry
relative_entry w base i f =
    cond_both (nat_lt w.dropped (base - i) && nat_lt 0 (length w.live))
    (or_fault (slice_get w.live (base - i - w.dropped - 1)) (AboveWindow (base - i - w.dropped - 1)))
    (Err (BelowWindow i))
    (λ r. r ≡ Ok f → cond (nat_lt w.dropped (base - i)) (slice_get w.live (base - i - w.dropped - 1)) None ≡ Some f)
    (λ t q. let low : w.dropped < base - i = grind (arith, nat_tests) in
    rw (lt-ltb w.dropped (base - i) low) (or_fault_some _ _ f q))
    (λ _ q. absurd (cc))

pub entry_relative : (w : Window) (base i : ℕ) (f : Field) → absolute_entry w (base - i) ≡ Some f
    → relative_field w base i ≡ Ok f
unfolding relative_field absolute_entry
entry_relative w base i f =
    cond_both (nat_lt w.dropped (base - i)) (slice_get w.live (base - i - w.dropped - 1)) None
    (λ o. o ≡ Some f → cond (nat_lt w.dropped (base - i) && nat_lt 0 (length w.live))
    (or_fault (slice_get w.live (base - i - w.dropped - 1)) (AboveWindow (base - i - w.dropped - 1)))
    (Err (BelowWindow i)) ≡ Ok f)
    (λ t q.
    let low : w.dropped < base - i = grind (arith, nat_tests) in
    let within : base - i - w.dropped - 1 < length w.live = slice_get_within w.live _ f q in
    let first : nat_lt w.dropped (base - i) ≡ true = lt-ltb _ _ low in
    let second : nat_lt 0 (length w.live) ≡ true = lt-ltb _ _ (omega arith) in
    rw (first, second, q) refl)
    (λ _ q. absurd (cc))

post_base_entry : (w : Window) (base i : ℕ) (f : Field) → post_base_field w base i ≡ Ok f
    → absolute_entry w (base + i + 1) ≡ Some f
unfolding post_base_field absolute_entry
post_base_entry w base i f =
    cond_both (nat_lt w.dropped (base + i + 1)) (or_fault (slice_get w.live (base + i - w.dropped)) (BehindBase i))
    (Err (BehindBase i))
    (λ r. r ≡ Ok f → cond (nat_lt w.dropped (base + i + 1)) (slice_get w.live (base + i + 1 - w.dropped - 1)) None
    ≡ Some f)
    (λ t q. let low : w.dropped < base + i + 1 = grind (arith, nat_tests) in
    let e : base + i + 1 - w.dropped - 1 ≡ base + i - w.dropped = omega arith in
    rw (lt-ltb w.dropped (base + i + 1) low, e) (or_fault_some _ _ f q))
    (λ _ q. absurd (cc))

pub entry_post_base : (w : Window) (base i : ℕ) (f : Field) → absolute_entry w (base + i + 1) ≡ Some f
    → post_base_field w base i ≡ Ok f
unfolding post_base_field absolute_entry
entry_post_base w base i f =
    cond_both (nat_lt w.dropped (base + i + 1)) (slice_get w.live (base + i + 1 - w.dropped - 1)) None
    (λ o. o ≡ Some f → cond (nat_lt w.dropped (base + i + 1))
    (or_fault (slice_get w.live (base + i - w.dropped)) (BehindBase i)) (Err (BehindBase i)) ≡ Ok f)
    (λ t q. let low : w.dropped < base + i + 1 = grind (arith, nat_tests) in
    let e : base + i - w.dropped ≡ base + i + 1 - w.dropped - 1 = omega arith in
    rw (lt-ltb w.dropped (base + i + 1) low, e, q) refl)
    (λ _ q. absurd (cc))

valued_ok : (v : List ℕ) (r : Result Field Fault) (f : Field) → field_with_value v r ≡ Ok f
    → (g : Field) × (r ≡ Ok g) × (with_value v g ≡ f)
valued_ok v (Ok g) f h = (g, refl, cc)
valued_ok v (Err e) f h = absurd (cc)

pub valued_from : (v : List ℕ) (r : Result Field Fault) (g f : Field) → r ≡ Ok g → with_value v g ≡ f
    → field_with_value v r ≡ Ok f
valued_from v r g f e q = rw (e, q) refl

-- a line means the same where its entry is kept
line_kept : (w w' : Window) (base : ℕ) (l : Line) (f : Field) → AllByRecursion (Kept w w') (references_of_line base l)
    → line_field w base l ≡ Ok f → line_field w' base l ≡ Ok f
unfolding line_field references_of_line
line_kept w w' base (IndexedStatic i) f k h = h
line_kept w w' base (IndexedDynamic i) f k h = entry_relative w' base i f (k.0 f (relative_entry w base i f h))
line_kept w w' base (IndexedPostBase i) f k h = entry_post_base w' base i f (k.0 f (post_base_entry w base i f h))
line_kept w w' base (NamedStatic i v) f k h = h
line_kept w w' base (NamedDynamic i v) f k h =
    let r = valued_ok v (relative_field w base i) f h in
    valued_from v (relative_field w' base i) r.0 f
    (entry_relative w' base i r.0 (k.0 r.0 (relative_entry w base i r.0 r.1))) r.2
line_kept w w' base (NamedPostBase i v) f k h =
    let r = valued_ok v (post_base_field w base i) f h in
    valued_from v (post_base_field w' base i) r.0 f
    (entry_post_base w' base i r.0 (k.0 r.0 (post_base_entry w base i r.0 r.1))) r.2
line_kept w w' base (Literal n v) f k h = h

pub followed_ok : (r : Result Field Fault) (rs : Result (List Field) Fault) (fs : List Field) → prepend_field r rs
    ≡ Ok fs
    → (f : Field) × (gs : List Field) × (r ≡ Ok f) × (rs ≡ Ok gs) × (f ∷ gs ≡ fs)
followed_ok (Ok f) (Ok gs) fs h = (f, gs, refl, refl, cc)
followed_ok (Ok f) (Err e) fs h = absurd (cc)
followed_ok (Err e) rs fs h = absurd (cc)

pub fields_kept : (w w' : Window) (base : ℕ) (ls : List Line) (fs : List Field)
    → AllByRecursion (Kept w w') (references_of base ls) → fields_of w base ls ≡ Ok fs → fields_of w' base ls ≡ Ok fs
unfolding fields_of references_of
fields_kept w w' base [] fs k h = h
fields_kept w w' base (l ∷ ls) fs k h =
    let r = followed_ok (line_field w base l) (fields_of w base ls) fs h in
    let first : line_field w' base l ≡ Ok r.0 =
    line_kept w w' base l r.0 (every_left (Kept w w') (references_of_line base l) (references_of base ls) k) r.2 in
    let rest : fields_of w' base ls ≡ Ok r.1 =
    fields_kept w w' base ls r.1 (every_right (Kept w w') (references_of_line base l) (references_of base ls) k) r.3 in
    rw (first, rest) (ap Ok r.4)

-- lines that name nothing mean the same under any base
pub line_plain : (w w' : Window) (base base' : ℕ) (l : Line) → references_of_line base l ≡ []
    → line_field w base l ≡ line_field w' base' l
unfolding line_field references_of_line
line_plain w w' base base' (IndexedStatic i) h = refl
line_plain w w' base base' (IndexedDynamic i) h = absurd (cc)
line_plain w w' base base' (IndexedPostBase i) h = absurd (cc)
line_plain w w' base base' (NamedStatic i v) h = refl
line_plain w w' base base' (NamedDynamic i v) h = absurd (cc)
line_plain w w' base base' (NamedPostBase i v) h = absurd (cc)
line_plain w w' base base' (Literal n v) h = refl

pub nil_parts : {X : Type 0} (xs ys : List X) → xs ++ ys ≡ [] → (xs ≡ []) × (ys ≡ [])
nil_parts [] ys h = (refl, h)
nil_parts (x ∷ xs) ys h = absurd (cc)

pub fields_plain : (w w' : Window) (base base' : ℕ) (ls : List Line) → references_of base ls ≡ []
    → fields_of w base ls ≡ fields_of w' base' ls
unfolding fields_of references_of
fields_plain w w' base base' [] h = refl
fields_plain w w' base base' (l ∷ ls) h =
    let p = nil_parts (references_of_line base l) (references_of base ls) h in
    rw (line_plain w w' base base' l p.0, fields_plain w w' base base' ls p.1) refl

-- one more line
pub fields_push : (w : Window) (base : ℕ) (ls : List Line) (l : Line) (fs : List Field) (f : Field)
    → fields_of w base ls ≡ Ok fs → line_field w base l ≡ Ok f → fields_of w base (ls ++ l ∷ []) ≡ Ok (fs ++ f ∷ [])
unfolding fields_of
fields_push w base [] l fs f h k = let e : fs ≡ [] = cc in rw (k, e) refl
fields_push w base (m ∷ ls) l fs f h k =
    let r = followed_ok (line_field w base m) (fields_of w base ls) fs h in
    rw (r.2, fields_push w base ls l r.1 f r.3 k)
    (ap (λ (gs : List Field). let x : Result (List Field) Fault = Ok (gs ++ f ∷ []) in x) r.4)

pub references_push : (base : ℕ) (ls : List Line) (l : Line)
    → references_of base (ls ++ l ∷ []) ≡ references_of base ls ++ references_of_line base l
unfolding references_of
references_push base [] l = append-nil (references_of_line base l)
references_push base (m ∷ ls) l =
    ap (λ r. references_of_line base m ++ r) (references_push base ls l)
    ∙ sym (append_assoc (references_of_line base m) (references_of base ls) (references_of_line base l))

pub greatest_bound : (n : ℕ) (xs : List ℕ) → AllByRecursion (λ a. a ≤ n) xs → greatest_of xs ≤ n
unfolding greatest_of
greatest_bound n [] h = omega arith
greatest_bound n (x ∷ xs) h = omega (arith, h.0, greatest_bound n xs h.1)

pub below_greatest : (xs : List ℕ) → AllByRecursion (λ a. a ≤ greatest_of xs) xs
unfolding greatest_of
below_greatest [] = tt
below_greatest (x ∷ xs) = (
  omega arith,
  every_weaker (λ a. a ≤ greatest_of xs) (λ a. a ≤ max x (greatest_of xs)) (λ a h. omega arith) xs
      (below_greatest xs),
)

-- the greatest of a list that isn't empty is one of them
pub greatest_has : (P : ℕ → Type 0) (xs : List ℕ) → 0 < greatest_of xs → AllByRecursion P xs → P (greatest_of xs)
unfolding greatest_of
greatest_has P [] z h = absurd (omega arith)
greatest_has P (x ∷ xs) z h = pick (cases_lt x (greatest_of xs)) (greatest_has P xs)
  where
    pick : (x < greatest_of xs) ⊎ (greatest_of xs ≤ x) → (0 < greatest_of xs → AllByRecursion P xs → P (greatest_of xs))
        → P (max x (greatest_of xs))
    pick (inl lt) rest = let e : max x (greatest_of xs) ≡ greatest_of xs = omega arith in rw e (rest (omega arith) h.1)
    pick (inr le) rest = let e : max x (greatest_of xs) ≡ x = omega arith in rw e h.0
