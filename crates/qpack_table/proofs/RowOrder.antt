-- The order of fields, and of slots by their hashes and a part of their fields.
use Rattle.std.proofs.Common.{◌≡◌, ℕ, List, refl, sym, ap, subst, ◌∙◌}
use Rattle.std.specs.Cmp.Lexicographic.{slice_cmp}
use Rattle.std.specs.Cmp.{IsTotalOrder}
use Rattle.std.specs.declared.cmp.Ordering.{Ordering}
use Rattle.std.specs.declared.cmp.Ordering.TheVariants.{Less, Equal, Greater}
use Rattle.std.specs.Ordering.{nat_cmp, is_eq, ordering_then, ordering_reverse}
use Rattle.std.proofs.lemmas.Cmp.{nat_cmp_total, nat_list_cmp_total, on_total, then_total, tied_itself, ranked}
use Rattle.qpack_spec.specs.Field.{Field, is_field}
use Rattle.qpack_spec.proofs.Positions.{same_field}
use Rattle.qpack_base.specs.HeaderFields.{field_cmp}
use Rattle.qpack_base.proofs.FieldOrder.{equal_is_field}
use Rattle.qpack_table.specs.Rows.{Key, key_cmp, part_of, hash_of}
use Rattle.qpack_table.specs.declared.dynamic.comparing.Part.{Part}
use Rattle.qpack_table.specs.declared.dynamic.comparing.Part.TheVariants.{Name, Whole}

pub field_cmp_total : IsTotalOrder field_cmp
unfolding field_cmp
field_cmp_total = then_total (on_total (λ (f : Field). f.name) nat_list_cmp_total) (on_total (λ
    (f : Field). f.value) nat_list_cmp_total)

pub key_cmp_total : IsTotalOrder key_cmp
unfolding key_cmp
key_cmp_total = then_total (on_total (λ (k : Key). k.hash) nat_cmp_total) (on_total (λ
    (k : Key). k.field) field_cmp_total)

pub same_when_equal : (f g : Field) → field_cmp f g ≡ Equal → f ≡ g
same_when_equal f g h = same_field f g (sym (equal_is_field f g) ∙ ap is_eq h)

is_eq_reversed : (o : Ordering) → is_eq (ordering_reverse o) ≡ is_eq o
is_eq_reversed Less = refl
is_eq_reversed Equal = refl
is_eq_reversed Greater = refl

pub field_when_equal : (f g : Field) → is_eq (field_cmp g f) ≡ is_field f g
field_when_equal f g =
    ap is_eq (field_cmp_total.antisymm g f) ∙ is_eq_reversed (field_cmp f g) ∙ equal_is_field f g

pub equal_when_same : (f g : Field) → f ≡ g → field_cmp f g ≡ Equal
equal_when_same f g h = subst (λ (x : Field). field_cmp f x ≡ Equal) h (tied_itself field_cmp_total f)

pub first_equal : (r s : Ordering) → r ≡ Equal → ordering_then r s ≡ s
first_equal r s h = rw h refl

-- an order that isn't a tie decides
then_first : (r s : Ordering) → (r ≡ Equal → ⊥) → r ≡ ordering_then r s
then_first Less s h = refl
then_first Equal s h = absurd (h refl)
then_first Greater s h = refl

-- hashes that differ decide
pub less_hash : (a k : Key) → nat_cmp a.hash k.hash ≡ Less → key_cmp a k ≡ Less
unfolding key_cmp
less_hash a k h = rw h refl

pub greater_hash : (a k : Key) → nat_cmp a.hash k.hash ≡ Greater → key_cmp a k ≡ Greater
unfolding key_cmp
greater_hash a k h = rw h refl

then_equal : (r s : Ordering) → ordering_then r s ≡ Equal → s ≡ Equal
then_equal Less s h = absurd cc
then_equal Equal s h = h
then_equal Greater s h = absurd cc

first_ties : (r s : Ordering) → ordering_then r s ≡ Equal → r ≡ Equal
first_ties Less s h = absurd cc
first_ties Equal s h = refl
first_ties Greater s h = absurd cc

-- ---- parts of fields

-- either part has the name
part_name : (part : Part) (f : Field) → (part_of part f).name ≡ f.name
part_name (Name seed) f = refl
part_name (Whole seed) f = refl

-- fields with the same part have the same hash of it
pub same_hash : (part : Part) (f g : Field) → part_of part f ≡ part_of part g → hash_of part f ≡ hash_of part g
same_hash (Name seed) f g h = ap (λ (x : Field). hash_of (Name seed) x) h
same_hash (Whole seed) f g h = ap (λ (x : Field). hash_of (Whole seed) x) h

-- names that differ decide
pub decided_by_name : (part : Part) (f g : Field) (o : Ordering) (name other : List ℕ) → name ≡ f.name → other ≡ g.name
    → o ≡ slice_cmp nat_cmp name other → (o ≡ Equal → ⊥) → o ≡ field_cmp (part_of part f) (part_of part g)
unfolding field_cmp
decided_by_name part f g o name other is has names apart =
    then_first o (slice_cmp nat_cmp (part_of part f).value (part_of part g).value) apart
    ∙ ap (λ (r : Ordering). ordering_then r (slice_cmp nat_cmp (part_of part f).value (part_of part g).value))
    (names
    ∙ (λ i. slice_cmp nat_cmp ((is ∙ sym (part_name part f)) i) ((has ∙ sym (part_name part g)) i)))

-- a name is decided by nothing else
pub decided_by_tie : (seed : ℕ) (f g : Field) (o : Ordering) (name other : List ℕ) → name ≡ f.name → other ≡ g.name
    → o ≡ slice_cmp nat_cmp name other → o ≡ Equal → Equal ≡ field_cmp (part_of (Name seed) f) (part_of (Name seed) g)
unfolding field_cmp
decided_by_tie seed f g o name other is has names equal =
    let tied : slice_cmp nat_cmp f.name g.name ≡ Equal =
    sym (names ∙ (λ i. slice_cmp nat_cmp (is i) (has i))) ∙ equal in
    sym (first_equal _ _ tied)

-- else the values do
pub decided_by_value : (seed : ℕ) (f g : Field) (o v : Ordering) (name other value more : List ℕ) → name ≡ f.name
    → other ≡ g.name → value ≡ f.value → more ≡ g.value → o ≡ slice_cmp nat_cmp name other → o ≡ Equal
    → v ≡ slice_cmp nat_cmp value more → v ≡ field_cmp (part_of (Whole seed) f) (part_of (Whole seed) g)
unfolding field_cmp
decided_by_value seed f g o v name other value more is has there holds names equal values =
    let tied : slice_cmp nat_cmp f.name g.name ≡ Equal =
    sym (names ∙ (λ i. slice_cmp nat_cmp (is i) (has i))) ∙ equal in
    values ∙ (λ i. slice_cmp nat_cmp (there i) (holds i)) ∙ sym (first_equal _ _ tied)

-- ---- keys

-- hashes that differ decide
pub decided_by_hash : (k l : Key) (o : Ordering) → o ≡ nat_cmp k.hash l.hash → (o ≡ Equal → ⊥) → o ≡ key_cmp k l
unfolding key_cmp
decided_by_hash k l o is apart =
    then_first o (field_cmp k.field l.field) apart
    ∙ ap (λ (r : Ordering). ordering_then r (field_cmp k.field l.field)) is

-- else the parts do
pub decided_by_part : (k l : Key) (o r : Ordering) → o ≡ nat_cmp k.hash l.hash → o ≡ Equal
    → r ≡ field_cmp k.field l.field → r ≡ key_cmp k l
unfolding key_cmp
decided_by_part k l o r is equal parts = parts ∙ sym (first_equal _ _ (sym is ∙ equal))

pub same_part : (k l : Key) → key_cmp k l ≡ Equal → k.field ≡ l.field
unfolding key_cmp
same_part k l h = same_when_equal k.field l.field (then_equal _ _ h)

-- keys that tie are the same
pub same_key : (k l : Key) → key_cmp k l ≡ Equal → k ≡ l
unfolding key_cmp
same_key k l h = both (ranked k.hash l.hash Equal (sym (first_ties _ _ h))) (same_part k l h)
  where
    both : k.hash ≡ l.hash → k.field ≡ l.field → k ≡ l
    both e f = λ i. record { hash = e i; field = f i }

pub tie_of : (k l : Key) → k.hash ≡ l.hash → k.field ≡ l.field → key_cmp k l ≡ Equal
tie_of k l hash field = (λ i. key_cmp k (record { hash = sym hash i; field = sym field i })) ∙ tied_itself
    key_cmp_total k

-- an order is one alone
pub not_less_and_equal : (r : Ordering) → r ≡ Less → r ≡ Equal → ⊥
not_less_and_equal r h k = cc

pub not_greater_and_equal : (r : Ordering) → r ≡ Greater → r ≡ Equal → ⊥
not_greater_and_equal r h k = cc

-- what comes before one that comes before, and behind one that comes behind
pub less_through : (k l m : Key) → key_cmp k l ≡ Less → key_cmp l m ≡ Less → key_cmp k m ≡ Less
less_through k l m g h = key_cmp_total.trans k l m g h

pub flipped_less : (k l : Key) → key_cmp k l ≡ Less → key_cmp l k ≡ Greater
flipped_less k l h = key_cmp_total.antisymm l k ∙ ap ordering_reverse h

pub flipped_greater : (k l : Key) → key_cmp k l ≡ Greater → key_cmp l k ≡ Less
flipped_greater k l h = key_cmp_total.antisymm l k ∙ ap ordering_reverse h

pub greater_through : (k l m : Key) → key_cmp k l ≡ Less → key_cmp k m ≡ Greater → key_cmp l m ≡ Greater
greater_through k l m g h = flipped_less m l (key_cmp_total.trans m k l (flipped_greater k m h) g)
