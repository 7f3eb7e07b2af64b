-- What the rule references: the block in progress has exactly what its lines reference, at any table.
use Rattle.std.proofs.Common.{ℕ, ◌+◌, ◌-◌, ◌<◌, ◌≤◌, ◌≡◌, true, List, [], ◌∷◌, ◌++◌, max}
use Rattle.std.proofs.Common.{Option, None, Some, refl, sym, ap, ◌∙◌, arith, inl, inr, ◌⊎◌, length-append, length-drop}
use Rattle.std.specs.Prelude.{nat_eq, nat_le, ◌&&◌}
use Rattle.std.proofs.lemmas.Bool.{cond_both, or_cases, eqb-true, and_parts, leb-true, leb-false}
use Rattle.std.proofs.lemmas.List.{append-nil}
use Rattle.qpack_spec.specs.Field.{Field, has_name, is_field}
use Rattle.qpack_spec.specs.StaticTable.{static_index, static_name_index}
use Rattle.qpack_spec.specs.Line.{Line, IndexedStatic, IndexedDynamic, IndexedPostBase, NamedStatic, NamedDynamic}
use Rattle.qpack_spec.specs.Line.{NamedPostBase, Literal}
use Rattle.qpack_spec.specs.Reading.{references_of_line, references_of, greatest_of}
use Rattle.qpack_spec.specs.Table.{Table, sent_entry, insert_count, has_number, with_number, with_numbers}
use Rattle.qpack_spec.specs.Table.{with_reference, has_room, below_limit}
use Rattle.qpack_spec.specs.Table.{may_reference, with_entry, eviction_count_for, newest_index, without_references}
use Rattle.qpack_spec.specs.Table.{with_unacknowledged, commit}
use Rattle.qpack_spec.specs.Instruction.{EncoderInstruction}
use Rattle.qpack_spec.specs.Rule.{Draft, with_line, with_referencing_line, with_inserted, with_new_entry}
use Rattle.qpack_spec.specs.Rule.{instruction_for, entries_left, name_reference_line}
use Rattle.qpack_spec.specs.Rule.{literal_by_entry, literal}
use Rattle.qpack_spec.specs.Rule.{insertion_or_literal, by_entry, by_static, rule_field, rule_fields, empty_draft, rule}
use Rattle.qpack_spec.specs.BlockLaws.{BlocksRequireReferences}
use Rattle.qpack_spec.proofs.Readings.{references_push}
use Rattle.qpack_spec.proofs.Positions.{numbers_append}

-- ---- the greatest of what is referenced

pub greatest_append : (xs : List ℕ) (a : ℕ) → greatest_of (xs ++ a ∷ []) ≡ max (greatest_of xs) a
unfolding greatest_of
greatest_append [] a = omega arith
greatest_append (x ∷ xs) a = omega (arith, greatest_append xs a)

greatest_above : (xs : List ℕ) (a : ℕ) → has_number a xs ≡ true → a ≤ greatest_of xs
unfolding greatest_of
greatest_above [] a h = absurd cc
greatest_above (x ∷ xs) a h = pick (or_cases (nat_eq x a) (has_number a xs) h) (greatest_above xs a)
  where
    pick : (nat_eq x a ≡ true) ⊎ (has_number a xs ≡ true) → (has_number a xs ≡ true → a ≤ greatest_of xs)
        → a ≤ max x (greatest_of xs)
    pick (inl e) rest = omega (arith, eqb-true x a e)
    pick (inr t) rest = omega (arith, rest t)

pub greatest_track : (xs : List ℕ) (a : ℕ) → greatest_of (with_number xs a) ≡ max (greatest_of xs) a
unfolding with_number
greatest_track xs a =
    cond_both (has_number a xs) xs (xs ++ a ∷ []) (λ l. greatest_of l ≡ max (greatest_of xs) a)
    (λ t. omega (arith, greatest_above xs a t)) (λ _. greatest_append xs a)

greatest_numbers : (xs referenced : List ℕ) → greatest_of (with_numbers referenced xs)
    ≡ max (greatest_of referenced) (greatest_of xs)
unfolding greatest_of
greatest_numbers [] referenced = omega arith
greatest_numbers (x ∷ xs) referenced = omega
    (arith, greatest_numbers xs (with_number referenced x), greatest_track referenced x)

-- ---- the rule

-- the block in progress has what its lines reference, and nothing else that is referenced changed
pub record KeepsReferences (t0 : Table) (d : Draft) : Type 0 where
  pub known_received_count : d.table.known_received_count ≡ t0.known_received_count
  pub limit : d.table.limit ≡ t0.limit
  pub unacknowledged : d.table.unacknowledged ≡ t0.unacknowledged
  pub blocked : d.table.blocked ≡ t0.blocked
  pub refs : with_numbers [] (references_of (insert_count t0) d.lines) ≡ d.table.referenced
  pub base : insert_count t0 ≤ insert_count d.table

pub refers_plain : (t0 : Table) (d : Draft) (l : Line) → references_of_line (insert_count t0) l ≡ []
    → KeepsReferences t0 d
    → KeepsReferences t0 (with_line d l)
refers_plain t0 d l plain k =
    record {
      known_received_count = k.known_received_count;
      limit = k.limit;
      unacknowledged = k.unacknowledged;
      blocked = k.blocked;
      refs = ap (with_numbers []) (references_push (insert_count t0) d.lines l
          ∙ ap (λ r. references_of (insert_count t0) d.lines ++ r) plain
          ∙ append-nil (references_of (insert_count t0) d.lines))
          ∙ k.refs;
      base = k.base;
    }

-- one reference more
pushed : (t0 : Table) (d : Draft) (a : ℕ) (l : Line) → references_of_line (insert_count t0) l ≡ a ∷ []
    → KeepsReferences t0 d
    → with_numbers [] (references_of (insert_count t0) (d.lines ++ l ∷ [])) ≡ with_number d.table.referenced a
pushed t0 d a l is k =
    ap (with_numbers []) (references_push (insert_count t0) d.lines l
    ∙ ap (λ r. references_of (insert_count t0) d.lines ++ r) is)
    ∙ numbers_append [] (references_of (insert_count t0) d.lines) (a ∷ []) ∙ ap (λ r. with_number r a) k.refs

pub refers_named : (t0 : Table) (d : Draft) (a : ℕ) (l : Line) → references_of_line (insert_count t0) l ≡ a ∷ []
    → KeepsReferences t0 d
    → KeepsReferences t0 (with_referencing_line d a l)
unfolding with_reference
refers_named t0 d a l is k =
    record {
      known_received_count = k.known_received_count;
      limit = k.limit;
      unacknowledged = k.unacknowledged;
      blocked = k.blocked;
      refs = pushed t0 d a l is k;
      base = k.base;
    }

-- what an insertion leaves of a table
record AfterInsertion (t t' : Table) : Type 0 where
  pub known_received_count : t'.known_received_count ≡ t.known_received_count
  pub limit : t'.limit ≡ t.limit
  pub unacknowledged : t'.unacknowledged ≡ t.unacknowledged
  pub blocked : t'.blocked ≡ t.blocked
  pub referenced : t'.referenced ≡ with_number t.referenced (insert_count t + 1)
  pub more : insert_count t ≤ insert_count t'

after_insertion : (t : Table) (f : Field)
    → AfterInsertion t (with_reference (with_entry t (sent_entry f)) (insert_count t + 1))
unfolding with_entry with_reference
after_insertion t f =
    record {
      known_received_count = refl;
      limit = refl;
      unacknowledged = refl;
      blocked = refl;
      referenced = refl;
      more = omega (
        arith,
        length-drop (eviction_count_for t f) (t.live ++ sent_entry f ∷ []),
        length-append t.live (sent_entry f ∷ []),
      );
    }

post_base_names : (base n : ℕ) → base ≤ n → references_of_line base (IndexedPostBase (n - base)) ≡ (n + 1) ∷ []
unfolding references_of_line
post_base_names base n le = let q : base + (n - base) + 1 ≡ n + 1 = omega arith in rw q refl

pub refers_inserts : (t0 : Table) (d : Draft) (f : Field) (i : EncoderInstruction) → KeepsReferences t0 d
    → KeepsReferences t0 (with_inserted (insert_count t0) d f i)
refers_inserts t0 d f i k =
    let t = d.table in
    let a = after_insertion t f in
    record {
      known_received_count = a.known_received_count ∙ k.known_received_count;
      limit = a.limit ∙ k.limit;
      unacknowledged = a.unacknowledged ∙ k.unacknowledged;
      blocked = a.blocked ∙ k.blocked;
      refs = pushed t0 d (insert_count t + 1) (IndexedPostBase (insert_count t - insert_count t0))
          (post_base_names (insert_count t0) (insert_count t) k.base) k ∙ sym a.referenced;
      base = omega (arith, k.base, a.more);
    }

pub static_names : (base i : ℕ) → references_of_line base (IndexedStatic i) ≡ []
unfolding references_of_line
static_names base i = refl

pub static_name_names : (base i : ℕ) (v : List ℕ) → references_of_line base (NamedStatic i v) ≡ []
unfolding references_of_line
static_name_names base i v = refl

pub literal_names : (base : ℕ) (n v : List ℕ) → references_of_line base (Literal n v) ≡ []
unfolding references_of_line
literal_names base n v = refl

pub indexed_names : (base a : ℕ) → a ≤ base → references_of_line base (IndexedDynamic (base - a)) ≡ a ∷ []
unfolding references_of_line
indexed_names base a le = let q : base - (base - a) ≡ a = omega arith in rw q refl

pub named_line_names : (base a : ℕ) (f : Field) → references_of_line base (name_reference_line base a f) ≡ a ∷ []
unfolding references_of_line
named_line_names base a f =
    cond_both (nat_le a base) (NamedDynamic (base - a) f.value) (NamedPostBase (a - base - 1) f.value)
    (λ l. references_of_line base l ≡ a ∷ [])
    (λ t. let le : a ≤ base = leb-true _ _ t in let n : base - (base - a) ≡ a = omega arith in rw n refl)
    (λ t. let lt : base < a = leb-false _ _ t in let n : base + (a - base - 1) + 1 ≡ a = omega arith in rw n refl)

refers_literal_by_entry : (t0 : Table) (d : Draft) (f : Field) → KeepsReferences t0 d → (o : Option ℕ)
    → KeepsReferences t0 (literal_by_entry (insert_count t0) d f o)
refers_literal_by_entry t0 d f k None =
    refers_plain t0 d (Literal f.name f.value) (literal_names (insert_count t0) f.name f.value) k
refers_literal_by_entry t0 d f k (Some a) =
    cond_both (may_reference d.table a) (with_referencing_line d a (name_reference_line (insert_count t0) a f))
    (with_line d (Literal f.name f.value))
    (KeepsReferences t0)
    (λ _. refers_named t0 d a (name_reference_line (insert_count t0) a f) (named_line_names (insert_count t0) a f) k)
    (λ _. refers_plain t0 d (Literal f.name f.value) (literal_names (insert_count t0) f.name f.value) k)

refers_literal : (t0 : Table) (d : Draft) (f : Field) → KeepsReferences t0 d → (o : Option ℕ)
    → KeepsReferences t0 (literal (insert_count t0) d f o)
refers_literal t0 d f k None = refers_literal_by_entry t0 d f k (newest_index d.table (has_name f.name))
refers_literal t0 d f k (Some i) = refers_plain t0 d (NamedStatic i f.value)
    (static_name_names (insert_count t0) i f.value) k

refers_insertion : (t0 : Table) (d : Draft) (f : Field) → KeepsReferences t0 d
    → KeepsReferences t0 (insertion_or_literal (insert_count t0) d f)
refers_insertion t0 d f k =
    cond_both (below_limit d.table && has_room d.table f) (with_new_entry (insert_count t0) d f)
    (literal (insert_count t0) d f (static_name_index f.name)) (KeepsReferences t0)
    (λ _. refers_inserts t0 d f (instruction_for f (entries_left d.table f)) k) (λ _. refers_literal t0 d f k (static_name_index f.name))

refers_by_entry : (t0 : Table) (d : Draft) (f : Field) → KeepsReferences t0 d → (o : Option ℕ)
    → KeepsReferences t0 (by_entry (insert_count t0) d f o)
refers_by_entry t0 d f k None = refers_insertion t0 d f k
refers_by_entry t0 d f k (Some a) =
    cond_both (nat_le a (insert_count t0) && may_reference d.table a)
    (with_referencing_line d a (IndexedDynamic (insert_count t0 - a)))
    (insertion_or_literal (insert_count t0) d f) (KeepsReferences t0)
    (λ t. let le : a ≤ insert_count t0 = leb-true _ _
    (and_parts (nat_le a (insert_count t0)) (may_reference d.table a) t).0 in
    refers_named t0 d a (IndexedDynamic (insert_count t0 - a)) (indexed_names (insert_count t0) a le) k)
    (λ _. refers_insertion t0 d f k)

refers_by_static : (t0 : Table) (d : Draft) (f : Field) → KeepsReferences t0 d → (o : Option ℕ)
    → KeepsReferences t0 (by_static (insert_count t0) d f o)
refers_by_static t0 d f k None = refers_by_entry t0 d f k (newest_index d.table (is_field f))
refers_by_static t0 d f k (Some i) = refers_plain t0 d (IndexedStatic i) (static_names (insert_count t0) i) k

refers_field : (t0 : Table) (d : Draft) (f : Field) → KeepsReferences t0 d
    → KeepsReferences t0 (rule_field (insert_count t0) d f)
unfolding rule_field
refers_field t0 d f k = refers_by_static t0 d f k (static_index f)

refers_fields : (t0 : Table) (d : Draft) (fs : List Field) → KeepsReferences t0 d
    → KeepsReferences t0 (rule_fields (insert_count t0) d fs)
refers_fields t0 d [] k = k
refers_fields t0 d (f ∷ fs) k = refers_fields t0 (rule_field (insert_count t0) d f) fs (refers_field t0 d f k)

pub refers_blank : (t0 : Table) → KeepsReferences t0 (empty_draft t0)
unfolding references_of without_references
refers_blank t0 = record {
  known_received_count = refl;
  limit = refl;
  unacknowledged = refl;
  blocked = refl;
  refs = refl;
  base = omega arith;
}

-- at any table, the block of the rule has what its lines reference
pub rule_references : (t : Table) (fs : List Field) → KeepsReferences t (rule t fs)
unfolding rule
rule_references t fs = refers_fields t (empty_draft t) fs (refers_blank t)

committed_opened : (t : Table) (stream required : ℕ) → (commit t stream required).unacknowledged
    ≡ with_unacknowledged t.unacknowledged stream t.referenced
unfolding commit
committed_opened t stream required = refl

pub blocks_require : BlocksRequireReferences
unfolding greatest_of
blocks_require t stream fields =
    let d = rule t fields in
    let k = rule_references t fields in (
      sym (ap greatest_of k.refs) ∙ omega (arith, greatest_numbers (references_of (insert_count t) d.lines) []),
      committed_opened d.table stream (greatest_of d.table.referenced)
          ∙ ap (λ bs. with_unacknowledged bs stream d.table.referenced) k.unacknowledged
          ∙ ap (with_unacknowledged t.unacknowledged stream) (sym k.refs),
    )
