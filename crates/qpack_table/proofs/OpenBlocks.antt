-- The blocks that are to be acknowledged: the oldest of a stream, and one more.
use Rattle.std.proofs.Common.{◌≡◌, ℕ, zero, suc, ◌+◌, ◌<◌, ◌≤◌, ◌^◌, Bool, true, false, List, [], ◌∷◌, ◌++◌, length}
use Rattle.std.proofs.Common.{map, Option, Some, None, refl, sym, ap, subst, ◌∙◌, arith, inl, inr}
use Rattle.std.proofs.lemmas.List.{map-append, length-map}
use Rattle.std.proofs.lemmas.Bool.{ne_eqb, eq-eqb, eqb-true, cases_lt}
use Rattle.std.specs.Prelude.{nat_eq}
use Rattle.std.specs.List.{AllByRecursion, find}
use Rattle.std.specs.Option.{option_map}
use Rattle.std.specs.Map.{lookup, remove_entry}
use Rattle.std.specs.BTreeMap.{insert_entry, is_at}
use Rattle.std.specs.Global.{Vec}
use Rattle.qpack_spec.proofs.Lists.{every_weaker}
use Rattle.qpack_spec.specs.Table as table
use Rattle.qpack_spec.specs.Table.{without_oldest}
use Rattle.qpack_table.specs.Tables.{references_in, IsTaken}
use Rattle.qpack_table.specs.Commits.{at_order, in_order, AreNumbered, IsOldest, HasNone, key_cmp}
use Rattle.qpack_table.specs.OpenBlocks.{block_of, blocks_of}
use Rattle.qpack_table.specs.declared.dynamic.open_blocks.CommitKey.{CommitKey}
use Rattle.qpack_table.proofs.References.{times_append, references_append}
use Rattle.qpack_table.proofs.Commits.{same_key, found_key, key_itself, others_left, later_left}
use Rattle.qpack_table.proofs.Commits.{last_in_order, length_in_order, every_in_order}

abbrev is_stream : ℕ → table.UnacknowledgedBlock → Bool
is_stream s b = nat_eq b.stream s

-- ---- the oldest block of a stream, among others

taken_first : (s : ℕ) (b : table.UnacknowledgedBlock) (bs : List table.UnacknowledgedBlock) → nat_eq b.stream s ≡ true
    → IsTaken s b (b ∷ bs) bs
unfolding without_oldest
taken_first s b bs here = record {
  left = rw here refl;
  first = rw here refl;
  references = λ a. times_append a b.entries (references_in bs);
}

-- behind a block of another stream
taken_behind : (s : ℕ) (b x : table.UnacknowledgedBlock) (old new : List table.UnacknowledgedBlock)
    → nat_eq x.stream s ≡ false → IsTaken s b old new → IsTaken s b (x ∷ old) (x ∷ new)
unfolding without_oldest
taken_behind s b x old new other k = record {
  left = rw (other, k.left) refl;
  first = rw other k.first;
  references = λ a. omega (
    arith,
    times_append a x.entries (references_in old),
    times_append a x.entries (references_in new),
    k.references a,
  );
}

-- behind blocks of other streams
taken_behind_all : (s : ℕ) (b : table.UnacknowledgedBlock) (xs old new : List table.UnacknowledgedBlock)
    → AllByRecursion (λ x. x.stream ≡ s → ⊥) xs → IsTaken s b old new → IsTaken s b (xs ++ old) (xs ++ new)
taken_behind_all s b [] old new other k = k
taken_behind_all s b (x ∷ xs) old new other k =
    taken_behind s b x (xs ++ old) (xs ++ new) (ne_eqb x.stream s other.0)
    (taken_behind_all s b xs old new other.1 k)

left_with_more : (s : ℕ) (old new more : List table.UnacknowledgedBlock) → without_oldest s old ≡ Some new
    → without_oldest s (old ++ more) ≡ Some (new ++ more)
unfolding without_oldest
left_with_more s [] new more e = absurd cc
left_with_more s (b ∷ bs) new more e =
    first (nat_eq b.stream s) refl (without_oldest s bs) refl (λ rest. left_with_more s bs rest more)
  where
    first : (t : Bool) → nat_eq b.stream s ≡ t → (o : Option (List table.UnacknowledgedBlock))
        → without_oldest s bs ≡ o
        → ((rest : List table.UnacknowledgedBlock) → without_oldest s bs ≡ Some rest
        → without_oldest s (bs ++ more) ≡ Some (rest ++ more))
        → without_oldest s (b ∷ bs ++ more) ≡ Some (new ++ more)
    first true here o is go = let same = rw here at e in let it : bs ≡ new = cc in
        rw here (ap (λ (l : List table.UnacknowledgedBlock). Some (l ++ more)) it)
    first false here None is go = let same = rw (here, is) at e in absurd cc
    first false here (Some rest) is go =
        let same = rw (here, is) at e in let it : b ∷ rest ≡ new = cc in
        let later = go rest is in
        rw (here, later) (ap (λ (l : List table.UnacknowledgedBlock). Some (l ++ more)) it)

found_with_more : (s : ℕ) (old more : List table.UnacknowledgedBlock) (b : table.UnacknowledgedBlock)
    → find (is_stream s) old ≡ Some b → find (is_stream s) (old ++ more) ≡ Some b
found_with_more s [] more b e = absurd cc
found_with_more s (x ∷ old) more b e = first (is_stream s x) refl (found_with_more s old more b)
  where
    first : (t : Bool) → is_stream s x ≡ t
        → (find (is_stream s) old ≡ Some b → find (is_stream s) (old ++ more) ≡ Some b)
        → find (is_stream s) (x ∷ old ++ more) ≡ Some b
    first true is rest = let same = rw is at e in rw is same
    first false is rest = let later = rw is at e in rw is (rest later)

-- before newer blocks
taken_before : (s : ℕ) (b : table.UnacknowledgedBlock) (old new more : List table.UnacknowledgedBlock)
    → IsTaken s b old new → IsTaken s b (old ++ more) (new ++ more)
taken_before s b old new more k = record {
  left = left_with_more s old new more k.left;
  first = found_with_more s old more b k.first;
  references = λ a. omega (
    arith,
    references_append a old more,
    references_append a new more,
    k.references a,
  );
}

-- ---- the same among what the map holds

taken_there : (s : ℕ) (k : CommitKey) (x : Vec ℕ) (es : List (CommitKey × Vec ℕ)) → k.number ≡ s
    → lookup (is_at (key_cmp k)) es ≡ Some x
    → IsTaken s (block_of (k, x)) (map block_of (at_order k.order es))
    (map block_of (at_order k.order (remove_entry (is_at (key_cmp k)) es)))
taken_there s k x [] of found = absurd cc
taken_there s k x (e ∷ es) of found =
    first (is_at (key_cmp k) e.0) refl (nat_eq e.0.order k.order) refl (taken_there s k x es of)
  where
    first : (t : Bool) → is_at (key_cmp k) e.0 ≡ t → (u : Bool) → nat_eq e.0.order k.order ≡ u
        → (lookup (is_at (key_cmp k)) es ≡ Some x → IsTaken s (block_of (k, x)) (map block_of (at_order k.order es))
        (map block_of (at_order k.order (remove_entry (is_at (key_cmp k)) es))))
        → IsTaken s (block_of (k, x)) (map block_of (at_order k.order (e ∷ es)))
        (map block_of (at_order k.order (remove_entry (is_at (key_cmp k)) (e ∷ es))))
    first true is u at rest =
        let key : e.0 ≡ k = found_key k e.0 is in
        let order : nat_eq e.0.order k.order ≡ true = eq-eqb e.0.order k.order (ap (λ (q : CommitKey). q.order) key) in
        let value = rw is at found in
        let same : e.1 ≡ x = cc in
        let block : block_of e ≡ block_of (k, x) =
        ap (λ (q : CommitKey). block_of (q, e.1)) key ∙ ap (λ (v : Vec ℕ). block_of (k, v)) same in
        rw (is, order) (subst (λ (b : table.UnacknowledgedBlock). IsTaken s (block_of (k, x))
        (b ∷ map block_of (at_order k.order es)) (map block_of (at_order k.order es))) (sym block)
        (taken_first s (block_of (k, x)) (map block_of (at_order k.order es)) (eq-eqb k.number s of)))
    first false is true at rest =
        let later = rw is at found in
        let other : e.0.number ≡ s → ⊥ = λ f.
        let key : e.0 ≡ k = same_key e.0 k (f ∙ sym of) (eqb-true e.0.order k.order at) in
        let yes : is_at (key_cmp k) e.0 ≡ true = rw key (key_itself k) in
        let no : true ≡ false = sym yes ∙ is in absurd cc in
        rw (is, at) (taken_behind s (block_of (k, x)) (block_of e) (map block_of (at_order k.order es))
        (map block_of (at_order k.order (remove_entry (is_at (key_cmp k)) es)))
        (ne_eqb e.0.number s other) (rest later))
    first false is false at rest = let later = rw is at found in rw (is, at) (rest later)

pub taken_in_order : (s : ℕ) (k : CommitKey) (x : Vec ℕ) (n : ℕ) (es : List (CommitKey × Vec ℕ))
    → IsOldest s k x es → k.order < n
    → IsTaken s (block_of (k, x)) (blocks_of n es) (blocks_of n (remove_entry (is_at (key_cmp k)) es))
taken_in_order s k x zero es oldest below = absurd (omega (arith, below))
taken_in_order s k x (suc n) es oldest below =
    rw (
      map-append block_of (in_order n es) (at_order n es),
      map-append block_of (in_order n (remove_entry (is_at (key_cmp k)) es))
          (at_order n (remove_entry (is_at (key_cmp k)) es)),
    )
    (elim (cases_lt k.order n) [
      | inl h ↦
          let same = later_left k n es h in
          rw same (taken_before s (block_of (k, x)) (blocks_of n es)
          (blocks_of n (remove_entry (is_at (key_cmp k)) es)) (map block_of (at_order n es))
          (taken_in_order s k x n es oldest h))
      | inr h ↦
          let here : k.order ≡ n = omega (arith, h, below) in
          let before = others_left k n es h in
          let others = every_in_order block_of (λ b. b.stream ≡ s → ⊥) n es
          (every_weaker (λ (e : CommitKey × Vec ℕ). e.0.number ≡ s → k.order ≤ e.0.order)
          (λ (e : CommitKey × Vec ℕ). e.0.order < n → e.0.number ≡ s → ⊥)
          (λ e least i f. omega (arith, least f, i, h)) es oldest.least) in
          rw before (taken_behind_all s (block_of (k, x)) (blocks_of n es) (map block_of (at_order n es))
          (map block_of (at_order n (remove_entry (is_at (key_cmp k)) es))) others
          (subst (λ (m : ℕ). IsTaken s (block_of (k, x)) (map block_of (at_order m es))
          (map block_of (at_order m (remove_entry (is_at (key_cmp k)) es)))) here
          (taken_there s k x es oldest.number_is oldest.found)))
    ])

none_among : (s : ℕ) (bs : List table.UnacknowledgedBlock) → AllByRecursion (λ b. b.stream ≡ s → ⊥) bs
    → (without_oldest s bs ≡ None) × (find (is_stream s) bs ≡ None)
unfolding without_oldest
none_among s [] h = (refl, refl)
none_among s (b ∷ bs) h =
    let rest = none_among s bs h.1 in
    let other = ne_eqb b.stream s h.0 in
    (rw (other, rest.0) refl, rw (other, rest.1) refl)

pub none_in_order : (s n : ℕ) (es : List (CommitKey × Vec ℕ)) → HasNone s es
    → (without_oldest s (blocks_of n es) ≡ None) × (find (is_stream s) (blocks_of n es) ≡ None)
none_in_order s n es none = none_among s (blocks_of n es) (every_in_order block_of (λ b. b.stream ≡ s → ⊥) n es
    (every_weaker (λ (e : CommitKey × Vec ℕ). e.0.number ≡ s → ⊥)
    (λ (e : CommitKey × Vec ℕ). e.0.order < n → e.0.number ≡ s → ⊥) (λ e h i. h) es none))

-- the order number of a block that is there
pub order_below : (s : ℕ) (k : CommitKey) (x : Vec ℕ) (n : ℕ) (es : List (CommitKey × Vec ℕ)) → AreNumbered n es
    → IsOldest s k x es → k.order < n
order_below s k x n es numbered oldest = by es numbered.below oldest.found
  where
    by : (l : List (CommitKey × Vec ℕ)) → AllByRecursion (λ e. e.0.order < n) l
        → lookup (is_at (key_cmp k)) l ≡ Some x → k.order < n
    by [] h found = absurd cc
    by (e ∷ l) h found = first (is_at (key_cmp k) e.0) refl (by l h.1)
      where
        first : (t : Bool) → is_at (key_cmp k) e.0 ≡ t → (lookup (is_at (key_cmp k)) l ≡ Some x → k.order < n)
            → k.order < n
        first true is rest = omega (arith, h.0, ap (λ (q : CommitKey). q.order) (found_key k e.0 is))
        first false is rest = let later = rw is at found in rest later

-- ---- one block more

pub pushed : (k : CommitKey) (x : Vec ℕ) (next : ℕ) (es now : List (CommitKey × Vec ℕ)) → AreNumbered next es
    → k.order ≡ next → now ≡ insert_entry key_cmp es k x
    → blocks_of (next + 1) now ≡ blocks_of next es ++ block_of (k, x) ∷ []
pushed k x next es now numbered is came = rw (came, ← is)
    (ap (λ (l : List (CommitKey × Vec ℕ)). map block_of l) (last_in_order k x es (rw (← is) at numbered.below))
    ∙ map-append block_of (in_order k.order es) ((k, x) ∷ []))

pub few_blocks : (n : ℕ) (es : List (CommitKey × Vec ℕ)) → AreNumbered n es → length (blocks_of n es) ≤ 2 ^ 62
few_blocks n es h = omega (arith, h.few, h.most, length-map (in_order n es) block_of)

pub length_blocks : (n : ℕ) (es : List (CommitKey × Vec ℕ)) → AreNumbered n es → length (blocks_of n es) ≡ length es
length_blocks n es h = length-map (in_order n es) block_of ∙ length_in_order n es h.below

pub taken_out : (s : ℕ) (k : CommitKey) (x : Vec ℕ) (n : ℕ) (es now : List (CommitKey × Vec ℕ))
    (old : List table.UnacknowledgedBlock) → AreNumbered n es → IsOldest s k x es
    → now ≡ remove_entry (is_at (key_cmp k)) es → blocks_of n es ≡ old
    → IsTaken s (record { stream = s; entries = x.items }) old (blocks_of n now)
taken_out s k x n es now old numbered oldest left view =
    let taken = taken_in_order s k x n es oldest (order_below s k x n es numbered oldest) in
    let named = subst (λ (m : ℕ). IsTaken s (record { stream = m; entries = x.items }) (blocks_of n es)
    (blocks_of n (remove_entry (is_at (key_cmp k)) es))) oldest.number_is taken in
    rw (left, ← view) named

pub oldest_is : (s : ℕ) (k : CommitKey) (x : Vec ℕ) (n : ℕ) (es : List (CommitKey × Vec ℕ))
    (old : List table.UnacknowledgedBlock) (items : List ℕ) → AreNumbered n es → IsOldest s k x es
    → blocks_of n es ≡ old → items ≡ x.items
    → Some items ≡ option_map (λ (b : table.UnacknowledgedBlock). b.entries) (find (is_stream s) old)
oldest_is s k x n es old items numbered oldest view is =
    let taken = taken_in_order s k x n es oldest (order_below s k x n es numbered oldest) in
    rw (is, ← view, taken.first) refl
