-- Looking into the static table from the front finds the least index.
use Rattle.std.proofs.Common.{◌≡◌, ℕ, zero, suc, ◌+◌, ◌<◌, Bool, true, false, not, cond, ◌&&◌, ◌||◌, List, [], ◌∷◌}
use Rattle.std.proofs.Common.{length, Option, Some, None, refl, sym, ap, ◌∙◌, arith, inl, inr}
use Rattle.std.specs.Prelude.{slice_get, position, MatchOption}
use Rattle.std.specs.List.{position_or_len, list_any}
use Rattle.std.specs.Bool.{Decides}
use Rattle.std.specs.Str.{bytes_eq}
use Rattle.std.proofs.lemmas.Bool.{cases_lt, lt-ltb, le-ltb, and_parts, and_from}
use Rattle.std.proofs.lemmas.Option.{slice_get_within, same_Some}
use Rattle.std.proofs.lemmas.Slice.Eq.{bytes_eq-Decides}
use Rattle.qpack_spec.specs.Field.{Field, has_name, is_field}
use Rattle.qpack_spec.specs.StaticTable.{static_table, static_index, static_name_index, IsLeastStatic, NoStatic}
use Rattle.qpack_spec.specs.StaticTableLaws.{StaticFieldsDiffer, StaticIndexIsLeast, StaticNameIndexIsLeast}

step_before : {X : Type 0} (p : X → Bool) (y : X) (ys : List X) (n : ℕ) (x : X) (b : Bool) → p y ≡ b
    → ((k : ℕ) → k < n → slice_get ys k ≡ Some x → p x ≡ false)
    → (k : ℕ) → k < cond (not b) (1 + n) 0 → slice_get (y ∷ ys) k ≡ Some x → p x ≡ false
step_before p y ys n x true is rest k h e = absurd (omega arith)
step_before p y ys n x false is rest zero h e = ap p (sym (same_Some y x e)) ∙ is
step_before p y ys n x false is rest (suc k) h e = rest k (omega arith) e

-- no element before the first that passes does
fails_before : {X : Type 0} (p : X → Bool) (xs : List X) (x : X) (k : ℕ) → k < position_or_len p xs
    → slice_get xs k ≡ Some x → p x ≡ false
fails_before p [] x k h e = absurd cc
fails_before p (y ∷ ys) x k h e =
    step_before p y ys (position_or_len p ys) x (p y) refl (λ i. fails_before p ys x i) k h e

step_at : {X : Type 0} (p : X → Bool) (y : X) (ys : List X) (n : ℕ) (b : Bool) → p y ≡ b
    → (n < length ys → (x : X) × (slice_get ys n ≡ Some x) × (p x ≡ true))
    → cond (not b) (1 + n) 0 < length (y ∷ ys) → (x : X) × (slice_get (y ∷ ys) (cond (not b) (1 + n) 0) ≡ Some x)
    × (p x ≡ true)
step_at p y ys n true is rest h = (y, refl, is)
step_at p y ys n false is rest h =
    let r = rest (omega arith) in
    let e : 1 + n ≡ suc n = omega arith in
    (r.0, rw e r.1, r.2)

-- the first that passes
passes_at : {X : Type 0} (p : X → Bool) (xs : List X) → position_or_len p xs < length xs
    → (x : X) × (slice_get xs (position_or_len p xs) ≡ Some x) × (p x ≡ true)
passes_at p [] h = absurd (omega arith)
passes_at p (y ∷ ys) h = step_at p y ys (position_or_len p ys) (p y) refl (λ l. passes_at p ys l) h

-- what a position says of a list, where the test decides Q
record IsPlace {X : Type 0} (Q : X → Type 0) (xs : List X) (i : ℕ) : Type 0 where
  pub at : (x : X) × (slice_get xs i ≡ Some x) × Q x
  pub before : (k : ℕ) (x : X) → k < i → slice_get xs k ≡ Some x → Q x → ⊥

positions : {X : Type 0} (p : X → Bool) (Q : X → Type 0) (xs : List X) → ((x : X) → Decides (p x) (Q x))
    → MatchOption (position p xs) ((k : ℕ) (x : X) → slice_get xs k ≡ Some x → Q x → ⊥) (IsPlace Q xs)
positions p Q xs d =
    elim (cases_lt (position_or_len p xs) (length xs)) [
      | inl lt ↦
          let a = passes_at p xs lt in
          rw (lt-ltb _ _ lt)
          (record {
            at = (a.0, a.1, (d a.0).0 a.2);
            before = λ k x h e q. let f = fails_before p xs x k h e in
                let t = (d x).1 q in absurd cc;
          })
      | inr le ↦
          rw (le-ltb _ _ le)
          (λ k x e q. let w = slice_get_within xs k x e in let f = fails_before p xs x k (omega arith) e in
          let t = (d x).1 q in absurd cc)
    ]

pub field_is : (n m v w : List ℕ) → n ≡ m → v ≡ w
    → (let f : Field = record { name = n; value = v } in let g : Field = record { name = m; value = w } in f ≡ g)
field_is n m v w p q = cc

is_field-Decides : (f g : Field) → Decides (is_field f g) (g ≡ f)
is_field-Decides f g = (
  λ e.
      let b = and_parts (bytes_eq f.name g.name) (bytes_eq f.value g.value) e in
      field_is g.name f.name g.value f.value (sym ((bytes_eq-Decides f.name g.name).0 b.0))
      (sym ((bytes_eq-Decides f.value g.value).0 b.1)),
  λ e. and_from _ _ ((bytes_eq-Decides f.name g.name).1 (ap (λ (x : Field). x.name) (sym e)))
      ((bytes_eq-Decides f.value g.value).1 (ap (λ (x : Field). x.value) (sym e))),
)

has_name-Decides : (name : List ℕ) (g : Field) → Decides (has_name name g) (g.name ≡ name)
has_name-Decides name g = (λ e. sym ((bytes_eq-Decides name g.name).0 e), λ e. (bytes_eq-Decides name g.name).1 (sym e))

pub index_is_least : StaticIndexIsLeast
unfolding static_index
index_is_least f =
    go (position (is_field f) static_table) (positions (is_field f) (λ g. g ≡ f) static_table (is_field-Decides f))
  where
    go : (o : Option ℕ) → MatchOption o (NoStatic (λ g. g ≡ f)) (IsPlace (λ g. g ≡ f) static_table)
        → MatchOption o (NoStatic (λ g. g ≡ f)) (IsLeastStatic (λ g. g ≡ f))
    go None h = h
    go (Some i) h = record { at = h.at; before = h.before }

pub name_index_is_least : StaticNameIndexIsLeast
unfolding static_name_index
name_index_is_least name =
    go (position (has_name name) static_table)
    (positions (has_name name) (λ g. g.name ≡ name) static_table (has_name-Decides name))
  where
    go : (o : Option ℕ) → MatchOption o (NoStatic (λ g. g.name ≡ name)) (IsPlace (λ g. g.name ≡ name) static_table)
        → MatchOption o (NoStatic (λ g. g.name ≡ name)) (IsLeastStatic (λ g. g.name ≡ name))
    go None h = h
    go (Some i) h = record { at = h.at; before = h.before }

-- ---- no field stands twice

-- no element is the same as a later one
abbrev differ : List Field → Bool
differ [] = true
differ (f ∷ fs) = not (list_any (is_field f) fs) && differ fs

-- computed over the table
table_differs : differ static_table ≡ true
unfolding static_table
table_differs = refl

passes_any : (p : Field → Bool) (fs : List Field) (k : ℕ) (f : Field) → slice_get fs k ≡ Some f → p f ≡ true
    → list_any p fs ≡ true
passes_any p [] k f e t = absurd cc
passes_any p (g ∷ fs) zero f e t = rw (ap p (same_Some g f e) ∙ t) refl
passes_any p (g ∷ fs) (suc k) f e t = rw (passes_any p fs k f e t) (or_true (p g))
  where
    or_true : (b : Bool) → (b || true) ≡ true
    or_true true = refl
    or_true false = refl

not_any : (f : Field) (fs : List Field) (k : ℕ) → not (list_any (is_field f) fs) ≡ true → slice_get fs k ≡ Some f → ⊥
not_any f fs k n e =
    let t = passes_any (is_field f) fs k f e ((is_field-Decides f f).1 refl) in
    let m : not true ≡ true = ap not (sym t) ∙ n in
    cc

differ_places : (fs : List Field) → differ fs ≡ true → (i j : ℕ) (f : Field) → slice_get fs i ≡ Some f
    → slice_get fs j ≡ Some f → i ≡ j
differ_places [] d i j f p q = absurd cc
differ_places (g ∷ fs) d zero zero f p q = refl
differ_places (g ∷ fs) d zero (suc j) f p q =
    absurd (let n = (and_parts _ _ d).0 in not_any g fs j n (q ∙ ap (λ (x : Field). Some x) (sym (same_Some g f p))))
differ_places (g ∷ fs) d (suc i) zero f p q =
    absurd (let n = (and_parts _ _ d).0 in not_any g fs i n (p ∙ ap (λ (x : Field). Some x) (sym (same_Some g f q))))
differ_places (g ∷ fs) d (suc i) (suc j) f p q = ap (λ (n : ℕ). suc n) (differ_places fs (and_parts _ _ d).1 i j f p q)

pub fields_differ : StaticFieldsDiffer
fields_differ i j f p q = differ_places static_table table_differs i j f p q

-- the table has 99 fields
pub has_99 : length static_table ≡ 99
unfolding static_table
has_99 = refl
