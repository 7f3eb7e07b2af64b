-- Whatever is chosen, what is written is small numbers and bytes, and inserts only where the capacity is not 0.
use Rattle.std.proofs.Common.{ℕ, ◌-◌, ◌^◌, ◌≤◌, List, [], ◌∷◌, drop, refl, arith}
use Rattle.std.specs.List.{AllByRecursion}
use Rattle.std.specs.Prelude.{nat_le}
use Rattle.std.proofs.lemmas.Bool.{cond_both}
use Rattle.qpack_spec.specs.Chosen.{Naming, Chosen, passed_over, instruction_naming, entry_reference_line}
use Rattle.qpack_spec.specs.Chosen.{with_unreferenced_entry, chosen_rule}
use Rattle.qpack_spec.specs.Chosen.{NothingIsChosenAtZero}
use Rattle.qpack_spec.specs.Field.{Field, FieldLine, fields_of_lines}
use Rattle.qpack_spec.specs.Line.{IndexedStatic, IndexedDynamic, IndexedPostBase, NamedStatic, Literal}
use Rattle.qpack_spec.specs.Rule.{Draft, name_reference_line, empty_draft}
use Rattle.qpack_spec.specs.Table.{Table, fields_in, insert_count, with_entry, with_reference}
use Rattle.qpack_spec.specs.Table.{eviction_count_for, without_references}
use Rattle.qpack_spec.specs.WrittenLaws.{IsByteField, IsByteLine, IsByteEncoderInstruction}
use Rattle.qpack_spec.proofs.Drafts.{Room, room}
use Rattle.qpack_spec.proofs.Lists.{every_append}
use Rattle.qpack_rules.proofs.Insertions.{InsertsAt, OnlyInserts, instruction_inserts}
use Rattle.qpack_spec.proofs.Positions.{static_found, static_name_found}
use Rattle.qpack_rules.proofs.StrictSections.{AtZero, no_room}
use Rattle.qpack_spec.proofs.WrittenDrafts.{WrittenDraft, writes_written, naming_written, inserts_written, static_small}
use Rattle.qpack_spec.proofs.WrittenDrafts.{passing_written, count_entered, count_unnamed}
use Rattle.qpack_spec.proofs.WrittenDrafts.{entry_line as name_byte_line}
use Rattle.qpack_rules.proofs.ChosenSteps.{IsKept, every_kept, kept_chosen_fields}

-- ---- what is written

entry_byte_line : (base a : ℕ) → base ≤ 2 ^ 62 → a ≤ 2 ^ 62 → IsByteLine (entry_reference_line base a)
entry_byte_line base a b le =
    cond_both (nat_le a base) (IndexedDynamic (base - a)) (IndexedPostBase (a - base - 1)) IsByteLine
    (λ _. omega arith) (λ _. omega arith)

unreferenced_written : (d : Draft) (names : Naming) (f : Field) → WrittenDraft d → IsByteField f → Room d.table f
    → WrittenDraft (with_unreferenced_entry names d f)
unreferenced_written d names f k w r =
    record {
      few = omega (arith, r.few, count_entered d.table f r);
      lines = k.lines;
      instructions =
          every_append IsByteEncoderInstruction d.instructions (instruction_naming names d.table f ∷ []) k.instructions
          (passing_written d f (passed_over names (eviction_count_for d.table f)) k w, tt);
    }

written_kept : (base : ℕ) (f : Field) → base ≤ 2 ^ 62 → IsByteField f → IsKept WrittenDraft base f
written_kept base f b w =
    record {
      static_line = λ d i e k. writes_written d (IndexedStatic i) k (static_small i f (static_found f i e));
      static_name = λ d i e k. let at = static_name_found f.name i e in
          writes_written d (NamedStatic i f.value) k (static_small i at.0 at.1, w.1);
      literal = λ d k. writes_written d (Literal f.name f.value) k w;
      entry = λ d a at may k. naming_written d a (entry_reference_line base a) k
          (entry_byte_line base a b (omega (arith, at.within, k.few)));
      name = λ d a at may k. naming_written d a (name_reference_line base a f) k
          (name_byte_line base a f b (omega (arith, at.within, k.few)) w);
      insertion = λ d names below r k.
          inserts_written base d f (passed_over names (eviction_count_for d.table f)) k w (room d.table f r);
      unreferenced = λ d names r k. unreferenced_written d names f k w (room d.table f r);
    }

-- the numbers that are written are small, the strings bytes
pub chosen_written : (t : Table) (ls : List FieldLine) (cs : List Chosen) → insert_count t ≤ 2 ^ 62
    → AllByRecursion IsByteField (fields_of_lines ls) → WrittenDraft (chosen_rule t ls cs)
unfolding chosen_rule
chosen_written t ls cs few w =
    kept_chosen_fields WrittenDraft (insert_count t) (empty_draft t) ls cs (all (fields_of_lines ls) w)
    (record { few = omega (arith, few, count_unnamed t); lines = tt; instructions = tt })
  where
    all : (fs : List Field) → AllByRecursion IsByteField fs
        → AllByRecursion (IsKept WrittenDraft (insert_count t)) fs
    all [] h = tt
    all (f ∷ fs) h = (written_kept (insert_count t) f few h.0, all fs h.1)

-- ---- what is written on the encoder stream inserts, where the capacity is not 0

-- the entries that an instruction may name
named : Naming → Table → Field → List Field
named names t f = drop (passed_over names (eviction_count_for t f)) (fields_in t.live)

inserts_kept : (c base : ℕ) (f : Field) → IsKept (OnlyInserts c) base f
unfolding with_reference with_entry named
inserts_kept c base f =
    record {
      static_line = λ d i e k. k;
      static_name = λ d i e k. k;
      literal = λ d k. k;
      entry = λ d a at may k. k;
      name = λ d a at may k. k;
      insertion = λ d names below r k. let fits = (room d.table f r).fits in let same = k.0 in (
        k.0,
        every_append (InsertsAt c) d.instructions (instruction_naming names d.table f ∷ []) k.1
            (instruction_inserts c f (named names d.table f) (omega (arith, fits, same)), tt),
      );
      unreferenced = λ d names r k. let fits = (room d.table f r).fits in let same = k.0 in (
        k.0,
        every_append (InsertsAt c) d.instructions (instruction_naming names d.table f ∷ []) k.1
            (instruction_inserts c f (named names d.table f) (omega (arith, fits, same)), tt),
      );
    }

pub chosen_inserts : (t : Table) (ls : List FieldLine) (cs : List Chosen) → OnlyInserts t.capacity (chosen_rule t ls cs)
unfolding chosen_rule without_references
chosen_inserts t ls cs =
    kept_chosen_fields (OnlyInserts t.capacity) (insert_count t) (empty_draft t) ls cs
    (every_kept (OnlyInserts t.capacity) (insert_count t) (fields_of_lines ls)
    (inserts_kept t.capacity (insert_count t)))
    (refl, tt)

-- ---- at capacity 0

at_0_kept : (base : ℕ) (f : Field) → IsKept AtZero base f
unfolding with_reference
at_0_kept base f =
    record {
      static_line = λ d i e k. k;
      static_name = λ d i e k. k;
      literal = λ d k. k;
      entry = λ d a at may k. k;
      name = λ d a at may k. k;
      insertion = λ d names below r k. absurd (let none = no_room d.table f k.0 in cc);
      unreferenced = λ d names r k. absurd (let none = no_room d.table f k.0 in cc);
    }

-- nothing is inserted
pub nothing_chosen_at_0 : NothingIsChosenAtZero
unfolding chosen_rule without_references
nothing_chosen_at_0 t ls cs none =
    (kept_chosen_fields AtZero (insert_count t) (empty_draft t) ls cs
    (every_kept AtZero (insert_count t) (fields_of_lines ls) (at_0_kept (insert_count t))) (none, refl)).1
