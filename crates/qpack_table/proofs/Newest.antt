-- The newest entry that passes a test, and that of the entries that stay.
use Rattle.std.proofs.Common.{◌≡◌, ℕ, zero, suc, ◌+◌, ◌-◌, ◌<◌, ◌≤◌, Bool, true, false, List, [], ◌∷◌, length, drop}
use Rattle.std.proofs.Common.{Option, None, Some, refl, sym, ap, ◌∙◌, arith, inl, inr}
use Rattle.std.specs.Prelude.{nat_lt, if◌then◌else◌, IfSome}
use Rattle.std.specs.Option.{option_map}
use Rattle.std.proofs.lemmas.List.{length-map, length-drop}
use Rattle.qpack_table.specs.Handles.{kept_index}
use Rattle.std.proofs.lemmas.Bool.{cases_lt, lt-ltb, le-ltb}
use Rattle.qpack_spec.specs.Field.{Field}
use Rattle.qpack_spec.specs.Table as table
use Rattle.qpack_spec.specs.Table.{last_position, later_position, newest_index, fields_in, insert_count}

-- ---- the last position, of what stays

-- a position among all, by that among those that stay
abbrev position_left : ℕ → Option ℕ → Option ℕ
position_left gone None = None
position_left gone (Some i) = if nat_lt i gone then None else Some (i - gone)

-- the last of those that stay is the last of all, if that stays
last_left : {X : Type 0} (p : X → Bool) (gone : ℕ) (xs : List X) → last_position p (drop gone xs)
    ≡ position_left gone (last_position p xs)
unfolding last_position
last_left p zero xs = all (last_position p xs)
  where
    all : (o : Option ℕ) → o ≡ position_left 0 o
    all None = refl
    all (Some i) = rw (le-ltb i 0 (omega arith)) (let same : i ≡ i - 0 = omega arith in ap (λ (n : ℕ). Some n) same)
last_left p (suc gone) [] = refl
last_left p (suc gone) (x ∷ xs) = last_left p gone xs ∙ one (last_position p xs) (p x)
  where
    one : (o : Option ℕ) (b : Bool) → position_left gone o ≡ position_left (suc gone) (later_position o b)
    one None true = rw (lt-ltb 0 (suc gone) (omega arith)) refl
    one None false = refl
    one (Some i) b = elim (cases_lt i gone) [
      | inl lt ↦ rw (lt-ltb i gone lt, lt-ltb (suc i) (suc gone) (omega (arith, lt))) refl
      | inr ge ↦
          let same : i - gone ≡ suc i - suc gone = omega arith in
          rw (le-ltb i gone ge, le-ltb (suc i) (suc gone) (omega (arith, ge))) (ap (λ (n : ℕ). Some n) same)
    ]

-- ---- the newest index

later_within : (o : Option ℕ) (b : Bool) (n i : ℕ) → ((k : ℕ) → o ≡ Some k → k < n) → later_position o b ≡ Some i
    → i < suc n
later_within None true n i h e = let zero : 0 ≡ i = cc in omega (arith, zero)
later_within None false n i h e = absurd cc
later_within (Some k) b n i h e = let next : suc k ≡ i = cc in omega (arith, next, h k refl)

last_within : {X : Type 0} (p : X → Bool) (xs : List X) (i : ℕ) → last_position p xs ≡ Some i → i < length xs
unfolding last_position
last_within p [] i e = absurd cc
last_within p (x ∷ xs) i e = later_within (last_position p xs) (p x) (length xs) i (last_within p xs) e

index_above : (d : ℕ) (o : Option ℕ) → IfSome (option_map (λ i. d + i + 1) o) (λ a. d < a)
index_above d None = tt
index_above d (Some i) = omega arith

pub newest_above : (t : table.Table) (p : Field → Bool) (newest : Option ℕ) → newest ≡ newest_index t p
    → IfSome newest (λ a. t.dropped < a)
unfolding newest_index
newest_above t p newest is = rw is (index_above t.dropped (last_position p (fields_in t.live)))

index_within : (d n : ℕ) (o : Option ℕ) → ((i : ℕ) → o ≡ Some i → i < n)
    → IfSome (option_map (λ i. d + i + 1) o) (λ a. a ≤ d + n)
index_within d n None h = tt
index_within d n (Some i) h = omega (arith, h i refl)

fields_count : (es : List table.Entry) → length (fields_in es) ≡ length es
fields_count es = length-map es (λ (e : table.Entry). e.field)

pub newest_inserted : (t : table.Table) (p : Field → Bool) (newest : Option ℕ) → newest ≡ newest_index t p
    → IfSome newest (λ a. a ≤ insert_count t)
unfolding newest_index
newest_inserted t p newest is = rw is (index_within t.dropped (length t.live) (last_position p (fields_in t.live))
    (λ i e. omega (arith, last_within p (fields_in t.live) i e, fields_count t.live)))

-- ---- the newest index, of what stays

kept_left : (d gone : ℕ) (o : Option ℕ) → kept_index (option_map (λ i. d + i + 1) o) (d + gone)
    ≡ option_map (λ i. d + gone + i + 1) (position_left gone o)
kept_left d gone None = refl
kept_left d gone (Some i) = elim (cases_lt i gone) [
  | inl lt ↦ rw (lt-ltb i gone lt, le-ltb (d + gone) (d + i + 1) (omega (arith, lt))) refl
  | inr ge ↦
      let same : d + i + 1 ≡ d + gone + (i - gone) + 1 = omega (arith, ge) in
      rw (le-ltb i gone ge, lt-ltb (d + gone) (d + i + 1) (omega (arith, ge))) (ap (λ (n : ℕ). Some n) same)
]

kept_is : (t : table.Table) (p : Field → Bool) (gone : ℕ) → kept_index (newest_index t p) (t.dropped + gone)
    ≡ option_map (λ i. t.dropped + gone + i + 1) (last_position p (drop gone (fields_in t.live)))
unfolding newest_index
kept_is t p gone = rw (last_left p gone (fields_in t.live))
    (kept_left t.dropped gone (last_position p (fields_in t.live)))

-- an entry that stays, by its position there
pub record Stays (t : table.Table) (p : Field → Bool) (gone a : ℕ) : Type 0 where
  pub position : ℕ
  pub last : last_position p (drop gone (fields_in t.live)) ≡ Some position
  pub within : position < length t.live - gone
  pub is : a ≡ t.dropped + gone + position + 1

pub stays : (t : table.Table) (p : Field → Bool) (gone a dropped : ℕ) (newest kept : Option ℕ)
    → dropped ≡ t.dropped + gone → newest ≡ newest_index t p → kept ≡ kept_index newest dropped → kept ≡ Some a
    → Stays t p gone a
stays t p gone a dropped newest kept at is kept_newest some =
    by (last_position p (drop gone (fields_in t.live))) refl
    (sym (kept_is t p gone) ∙ ap (λ (o : Option ℕ). kept_index o (t.dropped + gone)) (sym is)
    ∙ ap (λ (n : ℕ). kept_index newest n) (sym at) ∙ sym kept_newest ∙ some)
  where
    by : (o : Option ℕ) → last_position p (drop gone (fields_in t.live)) ≡ o
        → option_map (λ i. t.dropped + gone + i + 1) o ≡ Some a → Stays t p gone a
    by None e h = absurd cc
    by (Some i) e h = record {
      position = i;
      last = e;
      within = omega (
        arith,
        last_within p (drop gone (fields_in t.live)) i e,
        length-drop gone (fields_in t.live),
        fields_count t.live,
      );
      is = let same : t.dropped + gone + i + 1 ≡ a = cc in sym same;
    }

pub none_stays : (t : table.Table) (p : Field → Bool) (gone dropped : ℕ) (newest kept : Option ℕ)
    → dropped ≡ t.dropped + gone → newest ≡ newest_index t p → kept ≡ kept_index newest dropped → kept ≡ None
    → last_position p (drop gone (fields_in t.live)) ≡ None
none_stays t p gone dropped newest kept at is kept_newest none =
    by (last_position p (drop gone (fields_in t.live)))
    (sym (kept_is t p gone) ∙ ap (λ (o : Option ℕ). kept_index o (t.dropped + gone)) (sym is)
    ∙ ap (λ (n : ℕ). kept_index newest n) (sym at) ∙ sym kept_newest ∙ none)
  where
    by : (o : Option ℕ) → option_map (λ i. t.dropped + gone + i + 1) o ≡ None → o ≡ None
    by None h = refl
    by (Some i) h = absurd cc
