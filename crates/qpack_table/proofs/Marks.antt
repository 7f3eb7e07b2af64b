-- The marks of entries: which ones the block in progress references, and how many blocks reference each.
use Rattle.std.proofs.Common.{◌≡◌, ℕ, zero, suc, ◌+◌, ◌-◌, ◌<◌, ◌≤◌, Bool, true, false, List, [], ◌∷◌, ◌++◌}
use Rattle.std.proofs.Common.{length, map, drop, Some, refl, sym, ap, subst, ◌∙◌, arith, rules, get_or}
use Rattle.std.proofs.Common.{append-nil}
use Rattle.std.specs.Prelude.{slice_get, slice_set, nat_eq}
use Rattle.std.proofs.lemmas.Bool.{ne_eqb}
use Rattle.std.proofs.lemmas.List.{drop_all, drop_more}
use Rattle.std.proofs.lemmas.Option.{slice_get_within}
use Rattle.qpack_spec.specs.Table.{has_number}
use Rattle.qpack_table.specs.Tables.{times, entry_of, entries_of, uses_of, flags_of, AreUsed, AreFlagged, AreCounted}
use Rattle.qpack_table.specs.Entries.{Entry}
use Rattle.qpack_table.proofs.EvictableEntries.{item_there}

-- ---- one entry is written

-- at a position the new element, at the others the old ones
pub data Written {X : Type 0} (xs : List X) (i : ℕ) (new : X) (j : ℕ) (x : X) : Type 0 where
  There : j ≡ i → new ≡ x → Written xs i new j x
  Elsewhere : (j ≡ i → ⊥) → slice_get xs j ≡ Some x → Written xs i new j x

pub written : {X : Type 0} (xs : List X) (i : ℕ) (new : X) (j : ℕ) (x : X) → slice_get (slice_set xs i new) j ≡ Some x
    → Written xs i new j x
written [] i new j x at = absurd cc
written (y ∷ ys) zero new zero x at = There refl cc
written (y ∷ ys) zero new (suc j) x at = Elsewhere (λ e. omega (arith, e)) at
written (y ∷ ys) (suc i) new zero x at = Elsewhere (λ e. omega (arith, e)) at
written (y ∷ ys) (suc i) new (suc j) x at = elim (written ys i new j x at) [
  | There e is ↦ There (ap (λ (n : ℕ). suc n) e) is
  | Elsewhere e is ↦ Elsewhere (λ f. e (omega (arith, f))) is
]

pub map_written : {X Y : Type 0} (f : X → Y) (xs : List X) (i : ℕ) (old new : X) → slice_get xs i ≡ Some old
    → f new ≡ f old → map f (slice_set xs i new) ≡ map f xs
map_written f [] i old new at same = absurd cc
map_written f (y ∷ ys) zero old new at same =
    let is : y ≡ old = cc in ap (λ z. z ∷ map f ys) (same ∙ ap f (sym is))
map_written f (y ∷ ys) (suc i) old new at same = ap (λ l. f y ∷ l) (map_written f ys i old new at same)

-- ---- the first of some references

other_has : (x a : ℕ) (rest : List ℕ) → (x ≡ a → ⊥) → has_number a (x ∷ rest) ≡ has_number a rest
other_has x a rest not = rw (ne_eqb x a not) refl

pub other_times : (x a : ℕ) (rest : List ℕ) → (x ≡ a → ⊥) → times a (x ∷ rest) ≡ times a rest
other_times x a rest not = rw (ne_eqb x a not) (let none : 0 + times a rest ≡ times a rest = omega arith in none)

pub once_more : (a : ℕ) (rest : List ℕ) → times a (a ∷ rest) ≡ suc (times a rest)
once_more a rest = let here : nat_eq a a ≡ true = refl_eq a in
    rw here (let one : 1 + times a rest ≡ suc (times a rest) = omega arith in one)
  where
    refl_eq : (n : ℕ) → nat_eq n n ≡ true
    refl_eq n = search rules

-- ---- flags

-- an entry that says that it is referenced is among these
abbrev pub FlaggedWithin : ℕ → List Entry → List ℕ → Type 0
FlaggedWithin dropped live left =
    (position : ℕ) (e : Entry) → slice_get live position ≡ Some e → e.referenced ≡ true
    → has_number (dropped + position + 1) left ≡ true

-- the entries with some flags cleared: those that are left may still have theirs
pub record Cleared (dropped : ℕ) (before now : List Entry) (left all : List ℕ) : Type 0 where
  pub live : entries_of now ≡ entries_of before
  pub uses : uses_of now ≡ uses_of before
  pub flags : AreFlagged dropped before all → FlaggedWithin dropped now left

-- the flag of the first one that is left is cleared
cleared_at : (dropped : ℕ) (before now : List Entry) (x : ℕ) (left all : List ℕ) (position : ℕ) (old new : Entry)
    → Cleared dropped before now (x ∷ left) all → x ≡ dropped + position + 1 → slice_get now position ≡ Some old
    → new ≡ record old { referenced = false } → Cleared dropped before (slice_set now position new) left all
cleared_at dropped before now x left all position old new k is at same = record {
  live = map_written _ now position old new at (ap (λ (e : Entry). entry_of e) same) ∙ k.live;
  uses = map_written _ now position old new at (ap (λ (e : Entry). e.uses) same) ∙ k.uses;
  flags = λ h p e there flag. elim (written now position new p e there) [
    | There here it ↦ absurd (not_both e.referenced flag (ap (λ (y : Entry). y.referenced) (sym it ∙ same)))
    | Elsewhere here it ↦
        sym (other_has x (dropped + p + 1) left (λ e. here (omega (arith, is, e)))) ∙ k.flags h p e it flag
  ];
}
  where
    not_both : (b : Bool) → b ≡ true → b ≡ false → ⊥
    not_both b e f = cc

-- what is left of it is no live entry
cleared_past : (dropped : ℕ) (before now : List Entry) (x : ℕ) (left all : List ℕ)
    → Cleared dropped before now (x ∷ left) all
    → ((position : ℕ) → position < length now → x ≡ dropped + position + 1 → ⊥) → Cleared dropped before now left all
cleared_past dropped before now x left all k past = record {
  live = k.live;
  uses = k.uses;
  flags = λ h p e there flag.
      sym (other_has x (dropped + p + 1) left (past p (slice_get_within now p e there))) ∙ k.flags h p e there flag;
}

-- the next reference is that of a live entry
pub cleared_more : (dropped : ℕ) (before now next : List Entry) (references all : List ℕ) (i position : ℕ)
    (old new : Entry) → Cleared dropped before now (drop i references) all → i < length references
    → get_or references i 0 ≡ dropped + position + 1 → position < length now → old ≡ get_or now position old
    → new ≡ record old { referenced = false } → next ≡ slice_set now position new
    → Cleared dropped before next (drop (i + 1) references) all
cleared_more dropped before now next references all i position old new k there is within at same written =
    rw written (cleared_at dropped before now (get_or references i 0) (drop (i + 1) references) all position old new
    (rw (← drop_more references i 0 there) k) is (item_there now position old within at) same)

-- the next reference is that of no live entry
pub cleared_other : (dropped : ℕ) (before now next : List Entry) (references all : List ℕ) (i : ℕ)
    → Cleared dropped before now (drop i references) all → i < length references
    → ((position : ℕ) → position < length now → get_or references i 0 ≡ dropped + position + 1 → ⊥) → next ≡ now
    → Cleared dropped before next (drop (i + 1) references) all
cleared_other dropped before now next references all i k there past same =
    rw same (cleared_past dropped before now (get_or references i 0) (drop (i + 1) references) all
    (rw (← drop_more references i 0 there) k) past)

pub cleared_all : (dropped : ℕ) (before now : List Entry) (all : List ℕ) (i : ℕ)
    → Cleared dropped before now (drop i all) all → length all ≤ i
    → AreFlagged dropped before all → AreFlagged dropped now []
cleared_all dropped before now all i k end h = λ position e at.
    none e.referenced (λ flag. sym (ap (λ (l : List ℕ). has_number (dropped + position + 1) l) (drop_all i all end))
    ∙ k.flags h position e at flag)
  where
    none : (b : Bool) → (b ≡ true → false ≡ true) → b ≡ false
    none true f = sym (f refl)
    none false f = refl

-- ---- uses

-- the entries with some uses less: those that are left still count
pub record Lowered (dropped : ℕ) (before now : List Entry) (left all : List ℕ) : Type 0 where
  pub live : entries_of now ≡ entries_of before
  pub flags : flags_of now ≡ flags_of before
  pub counts : (rest : List ℕ) → AreCounted dropped before (all ++ rest) → AreCounted dropped now (left ++ rest)
  pub uses : (rest : List ℕ) → AreUsed dropped before (all ++ rest) → AreUsed dropped now (left ++ rest)

-- the first one that is left is counted no more
lowered_at : (dropped : ℕ) (before now : List Entry) (x : ℕ) (left all : List ℕ) (position : ℕ) (old new : Entry)
    → Lowered dropped before now (x ∷ left) all → x ≡ dropped + position + 1 → slice_get now position ≡ Some old
    → new ≡ record old { uses = old.uses - 1 } → Lowered dropped before (slice_set now position new) left all
lowered_at dropped before now x left all position old new k is at same = record {
  live = map_written _ now position old new at (ap (λ (e : Entry). entry_of e) same) ∙ k.live;
  flags = map_written _ now position old new at (ap (λ (e : Entry). e.referenced) same) ∙ k.flags;
  counts = λ rest h p e there. elim (written now position new p e there) [
    | There here it ↦
        let a = dropped + p + 1 in
        let more : times a (x ∷ left ++ rest) ≡ suc (times a (left ++ rest)) =
        first x a (left ++ rest) (omega (arith, is, here)) in
        let count = subst (λ (n : ℕ). times (dropped + n + 1) (x ∷ left ++ rest) ≤ old.uses) (sym here)
        (k.counts rest h position old at) in
        omega (arith, more, count, ap (λ (y : Entry). y.uses) (sym it ∙ same))
    | Elsewhere here it ↦
        subst (λ (n : ℕ). n ≤ e.uses)
        (other_times x (dropped + p + 1) (left ++ rest) (λ f. here (omega (arith, is, f)))) (k.counts rest h p e it)
  ];
  uses = λ rest h p e there. elim (written now position new p e there) [
    | There here it ↦
        let a = dropped + p + 1 in
        let more : times a (x ∷ left ++ rest) ≡ suc (times a (left ++ rest)) =
        first x a (left ++ rest) (omega (arith, is, here)) in
        let count = subst (λ (n : ℕ). old.uses ≡ times (dropped + n + 1) (x ∷ left ++ rest)) (sym here)
        (k.uses rest h position old at) in
        omega (arith, more, count, ap (λ (y : Entry). y.uses) (sym it ∙ same))
    | Elsewhere here it ↦
        k.uses rest h p e it
        ∙ other_times x (dropped + p + 1) (left ++ rest) (λ f. here (omega (arith, is, f)))
  ];
}
  where
    first : (y a : ℕ) (ys : List ℕ) → y ≡ a → times a (y ∷ ys) ≡ suc (times a ys)
    first y a ys e = rw e (once_more a ys)

-- the first one that is left is no live entry
lowered_past : (dropped : ℕ) (before now : List Entry) (x : ℕ) (left all : List ℕ)
    → Lowered dropped before now (x ∷ left) all
    → ((position : ℕ) → position < length now → x ≡ dropped + position + 1 → ⊥) → Lowered dropped before now left all
lowered_past dropped before now x left all k past = record {
  live = k.live;
  flags = k.flags;
  counts = λ rest h p e there.
      subst (λ (n : ℕ). n ≤ e.uses)
      (other_times x (dropped + p + 1) (left ++ rest) (past p (slice_get_within now p e there))) (k.counts rest h p e
      there);
  uses = λ rest h p e there.
      k.uses rest h p e there
      ∙ other_times x (dropped + p + 1) (left ++ rest) (past p (slice_get_within now p e there));
}

pub lowered_more : (dropped : ℕ) (before now next : List Entry) (references all : List ℕ) (i position : ℕ)
    (old new : Entry) → Lowered dropped before now (drop i references) all → i < length references
    → get_or references i 0 ≡ dropped + position + 1 → position < length now → old ≡ get_or now position old
    → new ≡ record old { uses = old.uses - 1 } → next ≡ slice_set now position new
    → Lowered dropped before next (drop (i + 1) references) all
lowered_more dropped before now next references all i position old new k there is within at same written =
    rw written (lowered_at dropped before now (get_or references i 0) (drop (i + 1) references) all position old new
    (rw (← drop_more references i 0 there) k) is (item_there now position old within at) same)

-- an entry whose reference is left has a use
pub still_used : (dropped : ℕ) (before now : List Entry) (references all : List ℕ) (i position : ℕ) (old : Entry)
    → AreCounted dropped before all → Lowered dropped before now (drop i references) all → i < length references
    → get_or references i 0 ≡ dropped + position + 1 → position < length now → old ≡ get_or now position old
    → 1 ≤ old.uses
still_used dropped before now references all i position old start k there is within at =
    let a = dropped + position + 1 in
    let first : times a (get_or references i 0 ∷ drop (i + 1) references)
    ≡ suc (times a (drop (i + 1) references)) = rw is (once_more a (drop (i + 1) references)) in
    let counted = subst (λ (l : List ℕ). AreCounted dropped now l) (append-nil (drop i references))
    (k.counts [] (subst (λ (l : List ℕ). AreCounted dropped before l) (sym (append-nil all)) start)) in
    omega (
      arith,
      first,
      ap (λ (l : List ℕ). times a l) (drop_more references i 0 there),
      counted position old (item_there now position old within at),
    )

pub lowered_other : (dropped : ℕ) (before now next : List Entry) (references all : List ℕ) (i : ℕ)
    → Lowered dropped before now (drop i references) all → i < length references
    → ((position : ℕ) → position < length now → get_or references i 0 ≡ dropped + position + 1 → ⊥) → next ≡ now
    → Lowered dropped before next (drop (i + 1) references) all
lowered_other dropped before now next references all i k there past same =
    rw same (lowered_past dropped before now (get_or references i 0) (drop (i + 1) references) all
    (rw (← drop_more references i 0 there) k) past)

pub lowered_all : (dropped : ℕ) (before now : List Entry) (all : List ℕ) (i : ℕ)
    → Lowered dropped before now (drop i all) all → length all ≤ i
    → (rest : List ℕ) → AreUsed dropped before (all ++ rest) → AreUsed dropped now rest
lowered_all dropped before now all i k end rest h =
    subst (λ (l : List ℕ). AreUsed dropped now (l ++ rest)) (drop_all i all end) (k.uses rest h)

pub counted_all : (dropped : ℕ) (before now : List Entry) (all : List ℕ) (i : ℕ)
    → Lowered dropped before now (drop i all) all → length all ≤ i
    → (rest : List ℕ) → AreCounted dropped before (all ++ rest) → AreCounted dropped now rest
counted_all dropped before now all i k end rest h =
    subst (λ (l : List ℕ). AreCounted dropped now (l ++ rest)) (drop_all i all end) (k.counts rest h)

-- ---- what a block references, all of it

pub used_counted : (dropped : ℕ) (es : List Entry) (references more : List ℕ)
    → ((a : ℕ) → times a references ≤ times a more) → AreUsed dropped es more → AreCounted dropped es references
used_counted dropped es references more h used = λ position e at. omega (
  arith,
  h (dropped + position + 1),
  used position e at,
)
