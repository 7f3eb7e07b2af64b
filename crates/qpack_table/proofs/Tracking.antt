-- The blocks that are released, and those that are blocked no more.
use Rattle.std.proofs.Common.{◌≡◌, ℕ, suc, ◌+◌, Bool, true, false, List, [], ◌∷◌}
use Rattle.std.proofs.Common.{length, Option, Some, None, refl, sym, ap, subst, ◌∙◌}
use Rattle.std.specs.Prelude.{filter, not, nat_eq}
use Rattle.std.specs.Option.{option_map}
use Rattle.std.specs.List.{AllByRecursion}
use Rattle.qpack_spec.specs.Table as table
use Rattle.qpack_spec.specs.Table.{without_oldest, without_stream}
use Rattle.qpack_spec.specs.Reading.{greatest_of}
use Rattle.qpack_table.specs.Tables.{times, references_in, IsTaken, required_by}

-- blocks that are left hold what held of all
pub every_left_of : (P : table.UnacknowledgedBlock → Type 0) (s : ℕ) (bs new : List table.UnacknowledgedBlock)
    → without_oldest s bs ≡ Some new → AllByRecursion P bs → AllByRecursion P new
unfolding without_oldest
every_left_of P s [] new e h = absurd cc
every_left_of P s (b ∷ bs) new e h =
    first (nat_eq b.stream s) refl (without_oldest s bs) refl (λ rest. every_left_of P s bs rest)
  where
    first : (t : Bool) → nat_eq b.stream s ≡ t → (o : Option (List table.UnacknowledgedBlock))
        → without_oldest s bs ≡ o
        → ((rest : List table.UnacknowledgedBlock) → without_oldest s bs ≡ Some rest → AllByRecursion P bs
        → AllByRecursion P rest) → AllByRecursion P new
    first true here o is more = let same = rw here at e in let it : bs ≡ new = cc in subst (AllByRecursion P) it h.1
    first false here None is more = let same = rw (here, is) at e in absurd cc
    first false here (Some rest) is more =
        let same = rw (here, is) at e in let it : b ∷ rest ≡ new = cc in
        subst (AllByRecursion P) it (h.0, more rest is h.1)

-- what it requires
pub required_of : (items : List ℕ) (n : ℕ) (o : Option table.UnacknowledgedBlock)
    → Some items ≡ option_map (λ (b : table.UnacknowledgedBlock). b.entries) o → n ≡ greatest_of items
    → Some n ≡ option_map required_by o
required_of items n None e is = absurd cc
required_of items n (Some b) e is =
    let same : items ≡ b.entries = cc in ap (λ (m : ℕ). Some m) (is ∙ ap greatest_of same)

-- one fewer is left
pub left_shorter : (s : ℕ) (bs new : List table.UnacknowledgedBlock) → without_oldest s bs ≡ Some new
    → suc (length new) ≡ length bs
unfolding without_oldest
left_shorter s [] new e = absurd cc
left_shorter s (b ∷ bs) new e =
    first (nat_eq b.stream s) refl (without_oldest s bs) refl (λ rest. left_shorter s bs rest)
  where
    first : (t : Bool) → nat_eq b.stream s ≡ t → (o : Option (List table.UnacknowledgedBlock))
        → without_oldest s bs ≡ o
        → ((rest : List table.UnacknowledgedBlock) → without_oldest s bs ≡ Some rest → suc (length rest) ≡ length bs)
        → suc (length new) ≡ suc (length bs)
    first true here o is go = let same = rw here at e in let it : bs ≡ new = cc in
        ap (λ (l : List table.UnacknowledgedBlock). suc (length l)) (sym it)
    first false here None is go = let same = rw (here, is) at e in absurd cc
    first false here (Some rest) is go =
        let same = rw (here, is) at e in let it : b ∷ rest ≡ new = cc in
        ap (λ (l : List table.UnacknowledgedBlock). suc (length l)) (sym it)
        ∙ ap (λ (n : ℕ). suc n) (go rest is)

-- ---- every block of a stream

-- its other blocks go as well as all of them
pub others_go : (s : ℕ) (bs new : List table.UnacknowledgedBlock) → without_oldest s bs ≡ Some new
    → without_stream s new ≡ without_stream s bs
unfolding without_oldest without_stream
others_go s [] new e = absurd cc
others_go s (b ∷ bs) new e =
    first (nat_eq b.stream s) refl (without_oldest s bs) refl (λ rest. others_go s bs rest)
  where
    first : (t : Bool) → nat_eq b.stream s ≡ t → (o : Option (List table.UnacknowledgedBlock))
        → without_oldest s bs ≡ o
        → ((rest : List table.UnacknowledgedBlock) → without_oldest s bs ≡ Some rest
        → filter (λ b. not (nat_eq b.stream s)) rest ≡ filter (λ b. not (nat_eq b.stream s)) bs)
        → filter (λ b. not (nat_eq b.stream s)) new ≡ filter (λ b. not (nat_eq b.stream s)) (b ∷ bs)
    first true here o is go = let same = rw here at e in let it : bs ≡ new = cc in rw (here, it) refl
    first false here None is go = let same = rw (here, is) at e in absurd cc
    first false here (Some rest) is go =
        let same = rw (here, is) at e in let it : b ∷ rest ≡ new = cc in
        rw (← it, here) (ap (λ (l : List table.UnacknowledgedBlock). b ∷ l) (go rest is))

-- a stream without blocks has none that could go
pub none_go : (s : ℕ) (bs : List table.UnacknowledgedBlock) → without_oldest s bs ≡ None → without_stream s bs ≡ bs
unfolding without_oldest without_stream
none_go s [] e = refl
none_go s (b ∷ bs) e = first (nat_eq b.stream s) refl (without_oldest s bs) refl (none_go s bs)
  where
    first : (t : Bool) → nat_eq b.stream s ≡ t → (o : Option (List table.UnacknowledgedBlock))
        → without_oldest s bs ≡ o
        → (without_oldest s bs ≡ None → filter (λ b. not (nat_eq b.stream s)) bs ≡ bs)
        → filter (λ b. not (nat_eq b.stream s)) (b ∷ bs) ≡ b ∷ bs
    first true here o is go = let same = rw here at e in absurd cc
    first false here (Some rest) is go = let same = rw (here, is) at e in absurd cc
    first false here None is go = rw here (ap (λ (l : List table.UnacknowledgedBlock). b ∷ l) (go is))

pub taken_parted : (s : ℕ) (b : table.UnacknowledgedBlock) (old new : List table.UnacknowledgedBlock)
    (references : List ℕ) → IsTaken s b old new → references ≡ b.entries
    → (a : ℕ) → times a (references_in old) ≡ times a references + times a (references_in new)
taken_parted s b old new references k is a = rw is (k.references a)
