-- The references to entries, and what each entry knows of them.
use Rattle.std.proofs.Common.{◌≡◌, ℕ, zero, suc, ◌+◌, ◌<◌, ◌≤◌, Bool, true, false, ◌||◌, List, [], ◌∷◌, ◌++◌}
use Rattle.std.proofs.Common.{length, map, drop, Some, refl, sym, ap, ◌∙◌, arith, inl, inr}
use Rattle.std.specs.Prelude.{slice_get, nat_lt, nat_eq, if◌then◌else◌}
use Rattle.std.specs.List.{list_any, AllByRecursion}
use Rattle.std.proofs.lemmas.Bool.{cases_lt, lt-ltb}
use Rattle.qpack_spec.proofs.Lists.{get_drop, get_append_within}
use Rattle.qpack_spec.specs.Table as table
use Rattle.qpack_spec.specs.Table.{has_number}
use Rattle.qpack_table.specs.Positions.{Positions}
use Rattle.qpack_table.specs.Tables.{times, references_in, flags_of, NoneTwice, AreUsed, AreFlagged, CountsReferences}
use Rattle.qpack_table.specs.Entries.{Entry}

-- ---- how often a number is among some

pub times_append : (a : ℕ) (xs ys : List ℕ) → times a (xs ++ ys) ≡ times a xs + times a ys
times_append a [] ys = omega arith
times_append a (x ∷ xs) ys =
    let one : ℕ = if nat_eq x a then 1 else 0 in
    let more : one + times a (xs ++ ys) ≡ one + times a xs + times a ys = omega (arith, times_append a xs ys) in more

-- those of blocks and of others
pub references_append : (a : ℕ) (bs cs : List table.UnacknowledgedBlock)
    → times a (references_in (bs ++ cs)) ≡ times a (references_in bs) + times a (references_in cs)
references_append a [] cs = omega arith
references_append a (b ∷ bs) cs = omega (
  arith,
  references_append a bs cs,
  times_append a b.entries (references_in bs),
  times_append a b.entries (references_in (bs ++ cs)),
)

-- a number is among some if it is there once or more
pub is_among : (a : ℕ) (xs : List ℕ) → has_number a xs ≡ nat_lt 0 (times a xs)
is_among a [] = refl
is_among a (x ∷ xs) = first (nat_eq x a) refl (is_among a xs)
  where
    first : (b : Bool) → nat_eq x a ≡ b → has_number a xs ≡ nat_lt 0 (times a xs)
        → has_number a (x ∷ xs) ≡ nat_lt 0 (times a (x ∷ xs))
    first true e rest = rw e (sym (lt-ltb 0 (1 + times a xs) (omega arith)))
    first false e rest = let none : 0 + times a xs ≡ times a xs = omega arith in rw (e, none) rest

pub not_among : (a : ℕ) (xs : List ℕ) → times a xs ≡ 0 → has_number a xs ≡ false
not_among a xs e = is_among a xs ∙ ap (nat_lt 0) e

has_append : (a : ℕ) (xs ys : List ℕ) → has_number a (xs ++ ys) ≡ (has_number a xs || has_number a ys)
has_append a [] ys = refl
has_append a (x ∷ xs) ys = first (nat_eq x a) refl (has_append a xs ys)
  where
    first : (b : Bool) → nat_eq x a ≡ b → has_number a (xs ++ ys) ≡ (has_number a xs || has_number a ys)
        → has_number a (x ∷ xs ++ ys) ≡ (has_number a (x ∷ xs) || has_number a ys)
    first true e rest = rw e refl
    first false e rest = rw e rest

any_block : (a : ℕ) (bs : List table.UnacknowledgedBlock)
    → list_any (λ (b : table.UnacknowledgedBlock). has_number a b.entries) bs ≡ has_number a (references_in bs)
any_block a [] = refl
any_block a (b ∷ bs) = ap (λ (r : Bool). has_number a b.entries || r) (any_block a bs)
    ∙ sym (has_append a b.entries (references_in bs))

-- an entry is referenced exactly if some reference names it
pub named_if_used : (referenced : List ℕ) (unacknowledged : List table.UnacknowledgedBlock) (a : ℕ)
    → (has_number a referenced || list_any (λ (b : table.UnacknowledgedBlock). has_number a b.entries) unacknowledged)
    ≡ nat_lt 0 (times a (referenced ++ references_in unacknowledged))
named_if_used referenced unacknowledged a =
    ap (λ (r : Bool). has_number a referenced || r) (any_block a unacknowledged)
    ∙ sym (has_append a referenced (references_in unacknowledged))
    ∙ is_among a (referenced ++ references_in unacknowledged)

-- the old element at a position, by what stays the same
pub same_map : {X Y : Type 0} (f : X → Y) (xs ys : List X) (i : ℕ) (x : X) → map f xs ≡ map f ys
    → slice_get xs i ≡ Some x → (y : X) × (slice_get ys i ≡ Some y) × (f y ≡ f x)
same_map f [] ys i x same at = absurd cc
same_map f (z ∷ zs) [] i x same at = absurd cc
same_map f (z ∷ zs) (y ∷ ys) zero x same at =
    let is : z ≡ x = cc in let here : f z ≡ f y = cc in (y, refl, sym here ∙ ap f is)
same_map f (z ∷ zs) (y ∷ ys) (suc i) x same at =
    let rest : map f zs ≡ map f ys = cc in same_map f zs ys i x rest at

pub used_as : (dropped : ℕ) (es : List Entry) (references others : List ℕ)
    → ((a : ℕ) → times a references ≡ times a others) → AreUsed dropped es references → AreUsed dropped es others
used_as dropped es references others h used = λ position e at. used position e at ∙ h (dropped + position + 1)

-- the flags are those of other entries that have the same
pub flagged_as : (dropped : ℕ) (es now : List Entry) (referenced : List ℕ) → flags_of now ≡ flags_of es
    → AreFlagged dropped es referenced → AreFlagged dropped now referenced
flagged_as dropped es now referenced same h = λ position e at.
    let old = same_map (λ (x : Entry). x.referenced) now es position e same at in sym old.2 ∙ h position old.0 old.1

-- ---- entries that go and come

-- what a table keeps of its references, with fewer entries
pub references_less : (v w : Positions) (es now : List Entry) (referenced : List ℕ)
    (unacknowledged : List table.UnacknowledgedBlock) (k : ℕ) → CountsReferences v es referenced unacknowledged
    → now ≡ drop k es → w.dropped ≡ v.dropped + k → w.total ≡ v.total → CountsReferences w now referenced unacknowledged
references_less v w es now referenced unacknowledged k kept items dropped total = record {
  flagged = λ position e at.
      kept.flagged (k + position) e (there position e at)
      ∙ ap (λ (a : ℕ). has_number a referenced) (sym (absolute position));
  used = λ position e at.
      kept.used (k + position) e (there position e at)
      ∙ ap (λ (a : ℕ). times a (referenced ++ references_in unacknowledged)) (sym (absolute position));
  once = kept.once;
  each_once = kept.each_once;
  behind = λ absolute above. kept.behind absolute (omega (arith, above, total));
  few = kept.few;
}
  where
    there : (position : ℕ) (e : Entry) → slice_get now position ≡ Some e → slice_get es (k + position) ≡ Some e
    there position e at = sym (get_drop k es position) ∙ ap (λ (l : List Entry). slice_get l position) (sym items) ∙ at

    absolute : (position : ℕ) → w.dropped + position + 1 ≡ v.dropped + (k + position) + 1
    absolute position = omega (arith, dropped)

-- the last one is the new one
last_is : (xs : List Entry) (e x : Entry) (position : ℕ) → length xs ≤ position → slice_get (xs ++ e ∷ []) position
    ≡ Some x
    → (e ≡ x) × (position ≡ length xs)
last_is [] e x zero h at = (cc, refl)
last_is [] e x (suc position) h at = absurd cc
last_is (y ∷ xs) e x zero h at = absurd (omega (arith, h))
last_is (y ∷ xs) e x (suc position) h at = let r = last_is xs e x position (omega (arith, h)) at in
    (r.0, ap (λ (n : ℕ). suc n) r.1)

-- an entry behind some, or one of them
pub data StandsAt (xs : List Entry) (e x : Entry) (position : ℕ) : Type 0 where
  Before : (at : slice_get xs position ≡ Some x) → (position < length xs) → StandsAt xs e x position
  Last : (is : e ≡ x) → position ≡ length xs → StandsAt xs e x position

pub joined : (xs : List Entry) (e x : Entry) (position : ℕ) → slice_get (xs ++ e ∷ []) position ≡ Some x
    → StandsAt xs e x position
joined xs e x position at =
    elim (cases_lt position (length xs)) [
      | inl h ↦ Before (sym (get_append_within xs (e ∷ []) position h) ∙ at) h
      | inr h ↦ let r = last_is xs e x position h at in Last r.0 r.1
    ]

-- what a table keeps of its references, with one entry more that nothing references
pub references_put : (v w : Positions) (es now : List Entry) (e : Entry) (referenced : List ℕ)
    (unacknowledged : List table.UnacknowledgedBlock) → CountsReferences v es referenced unacknowledged
    → v.total ≡ v.dropped + length es → now ≡ es ++ e ∷ [] → e.referenced ≡ false → e.uses ≡ 0
    → w.dropped ≡ v.dropped → w.total ≡ v.total + 1 → CountsReferences w now referenced unacknowledged
references_put v w es now e referenced unacknowledged kept counted items unflagged unused dropped total = record {
  flagged = λ position x at. elim (at_either position x at) [
    | Before old within ↦ kept.flagged position x old
        ∙ ap (λ (a : ℕ). has_number (a + position + 1) referenced) (sym dropped)
    | Last is end ↦ ap (λ (y : Entry). y.referenced) (sym is) ∙ unflagged
        ∙ sym (not_among (w.dropped + position + 1) referenced (omega (
          arith,
          kept.behind (w.dropped + position + 1) (new position end),
          times_append (w.dropped + position + 1) referenced (references_in unacknowledged),
        )))
  ];
  used = λ position x at. elim (at_either position x at) [
    | Before old within ↦ kept.used position x old
        ∙ ap (λ (a : ℕ). times (a + position + 1) (referenced ++ references_in unacknowledged)) (sym dropped)
    | Last is end ↦ ap (λ (y : Entry). y.uses) (sym is) ∙ unused
        ∙ sym (kept.behind (w.dropped + position + 1) (new position end))
  ];
  once = kept.once;
  each_once = kept.each_once;
  behind = λ absolute above. kept.behind absolute (omega (arith, above, total));
  few = kept.few;
}
  where
    at_either : (position : ℕ) (x : Entry) → slice_get now position ≡ Some x → StandsAt es e x position
    at_either position x at = joined es e x position (ap (λ (l : List Entry). slice_get l position) (sym items) ∙ at)

    new : (position : ℕ) → position ≡ length es → v.total < w.dropped + position + 1
    new position end = omega (arith, counted, dropped, end)

-- ---- blocks that are released

-- what a table keeps of its references, where some are given up
pub references_released : (v : Positions) (es now : List Entry) (referenced : List ℕ)
    (unacknowledged left : List table.UnacknowledgedBlock) (gone : List ℕ)
    → CountsReferences v es referenced unacknowledged → flags_of now ≡ flags_of es
    → ((rest : List ℕ) → AreUsed v.dropped es (gone ++ rest) → AreUsed v.dropped now rest)
    → ((a : ℕ) → times a (references_in unacknowledged) ≡ times a gone + times a (references_in left))
    → AllByRecursion (λ b. NoneTwice b.entries) left → length left ≤ length unacknowledged
    → CountsReferences v now referenced left
references_released v es now referenced unacknowledged left gone kept flags lowered parted once fewer = record {
  flagged = flagged_as v.dropped es now referenced flags kept.flagged;
  used = lowered (referenced ++ references_in left) (used_as v.dropped es (referenced ++ references_in unacknowledged)
      (gone ++ (referenced ++ references_in left)) (λ a. omega (
        arith,
        parted a,
        times_append a referenced (references_in unacknowledged),
        times_append a referenced (references_in left),
        times_append a gone (referenced ++ references_in left),
      )) kept.used);
  once = kept.once;
  each_once = once;
  behind = λ absolute above. omega (
    arith,
    kept.behind absolute above,
    parted absolute,
    times_append absolute referenced (references_in unacknowledged),
    times_append absolute referenced (references_in left),
  );
  few = omega (arith, kept.few, fewer);
}
