-- What the rule writes can be written: its numbers are small, its strings are those of the fields; and what takes fewer
-- than 2^63 bytes can be read back.
use Rattle.std.proofs.Common.{◌<◌, ◌*◌, ℕ, ◌+◌, ◌-◌, ◌^◌, ◌≤◌, ◌≡◌, List, [], ◌∷◌, ◌++◌, length, drop, Option, None}
use Rattle.std.proofs.Common.{Some, refl, arith, length-append, length-drop, Bool, true, false, cond}
use Rattle.std.specs.List.{AllByRecursion, slice_get}
use Rattle.std.specs.Prelude.{nat_le, ◌&&◌}
use Rattle.std.proofs.lemmas.Bool.{cond_both, and_parts}
use Rattle.std.proofs.lemmas.Option.{slice_get_within}
use Rattle.std.proofs.lemmas.List.{length-map}
use Rattle.qpack_spec.specs.Field.{Field, has_name, is_field}
use Rattle.qpack_spec.specs.StaticTable.{static_table, static_index, static_name_index}
use Rattle.qpack_spec.specs.Line.{Line, IndexedStatic, IndexedDynamic, IndexedPostBase, NamedStatic, NamedDynamic}
use Rattle.qpack_spec.specs.Line.{NamedPostBase, Literal, coded_line, coded_lines}
use Rattle.qpack_spec.specs.Integer.{written_integer}
use Rattle.qpack_spec.specs.Huffman.{AreBytes, payload_of}
use Rattle.qpack_spec.specs.Text.{Coding, is_coded, written_literal_of, coded_string}
use Rattle.qpack_spec.specs.Instruction.{EncoderInstruction, InsertStaticName, InsertDynamicName, InsertLiteralName}
use Rattle.qpack_spec.specs.Instruction.{Duplicate}
use Rattle.qpack_spec.specs.Instruction.{SetCapacity, coded_encoder_instruction, coded_encoder_instructions}
use Rattle.qpack_spec.specs.Table.{Entry, Table, sent_entry, fields_in, insert_count, with_reference}
use Rattle.qpack_spec.specs.Table.{eviction_count_for, has_room}
use Rattle.qpack_spec.specs.Table.{below_limit, may_reference, with_entry, last_position, newest_index}
use Rattle.qpack_spec.specs.Table.{without_references}
use Rattle.qpack_spec.specs.Rule.{Draft, with_line, with_referencing_line, by_name, by_static_name, by_equal}
use Rattle.qpack_spec.specs.Rule.{instruction_for}
use Rattle.qpack_spec.specs.Rule.{with_inserted, with_new_entry, name_reference_line, literal_by_entry, literal}
use Rattle.qpack_spec.specs.Rule.{insertion_or_literal}
use Rattle.qpack_spec.specs.Rule.{by_entry, by_static, rule_field, rule_fields, empty_draft, rule}
use Rattle.qpack_spec.specs.WrittenLaws.{IsSmall, IsWritableUnder, IsByteField, IsByteLine, IsByteEncoderInstruction}
use Rattle.qpack_spec.specs.WrittenLaws.{IsWritableLineUnder, IsWritableInstructionUnder}
use Rattle.qpack_spec.proofs.StaticIndexes.{has_99}
use Rattle.qpack_spec.proofs.Lists.{every_append}
use Rattle.qpack_spec.proofs.Positions.{newest_found, static_found, static_name_found}
use Rattle.qpack_spec.proofs.Drafts.{Room, room, count_after, evicted_bound}

-- a block in progress whose numbers are small and whose strings are bytes
pub record WrittenDraft (d : Draft) : Type 0 where
  pub few : insert_count d.table ≤ 2 ^ 62
  pub lines : AllByRecursion IsByteLine d.lines
  pub instructions : AllByRecursion IsByteEncoderInstruction d.instructions

pub static_small : (i : ℕ) (f : Field) → slice_get static_table i ≡ Some f → IsSmall i
static_small i f e = omega (arith, slice_get_within static_table i f e, has_99)

pub writes_written : (d : Draft) (l : Line) → WrittenDraft d → IsByteLine l → WrittenDraft (with_line d l)
writes_written d l k w =
    record {
      few = k.few;
      lines = every_append IsByteLine d.lines (l ∷ []) k.lines (w, tt);
      instructions = k.instructions;
    }

pub count_naming : (t : Table) (a : ℕ) → insert_count (with_reference t a) ≡ insert_count t
unfolding with_reference
count_naming t a = refl

pub naming_written : (d : Draft) (a : ℕ) (l : Line) → WrittenDraft d → IsByteLine l
    → WrittenDraft (with_referencing_line d a l)
naming_written d a l k w =
    record {
      few = omega (arith, k.few, count_naming d.table a);
      lines = every_append IsByteLine d.lines (l ∷ []) k.lines (w, tt);
      instructions = k.instructions;
    }

-- ---- the instruction of an insertion

name_instruction : (f : Field) (stay : List Field) → length stay ≤ 2 ^ 62 → IsByteField f → (o : Option ℕ)
    → IsByteEncoderInstruction (by_name f (length stay) o)
name_instruction f stay few w (Some i) = (omega arith, w.1)
name_instruction f stay few w None = (w.0, w.1)

static_instruction : (f : Field) (stay : List Field) → length stay ≤ 2 ^ 62 → IsByteField f → (o : Option ℕ)
    → static_name_index f.name ≡ o → IsByteEncoderInstruction (by_static_name f stay o)
static_instruction f stay few w (Some i) e = let at = static_name_found f.name i e in (static_small i at.0 at.1, w.1)
static_instruction f stay few w None e = name_instruction f stay few w (last_position (has_name f.name) stay)

equal_instruction : (f : Field) (stay : List Field) → length stay ≤ 2 ^ 62 → IsByteField f → (o : Option ℕ)
    → IsByteEncoderInstruction (by_equal f stay o)
equal_instruction f stay few w (Some i) = omega arith
equal_instruction f stay few w None = static_instruction f stay few w (static_name_index f.name) refl

pub instruction_written : (f : Field) (stay : List Field) → length stay ≤ 2 ^ 62 → IsByteField f
    → IsByteEncoderInstruction (instruction_for f stay)
unfolding instruction_for
instruction_written f stay few w = equal_instruction f stay few w (last_position (is_field f) stay)

-- ---- the cases of the rule

pub count_entered : (t : Table) (f : Field) → Room t f → insert_count (with_entry t (sent_entry f)) ≡ insert_count t + 1
count_entered t f r = count_after t f (evicted_bound t f r.fits)

-- an instruction that passes over some of the oldest entries
pub passing_written : (d : Draft) (f : Field) (passed : ℕ) → WrittenDraft d → IsByteField f
    → IsByteEncoderInstruction (instruction_for f (drop passed (fields_in d.table.live)))
passing_written d f passed k w =
    instruction_written f (drop passed (fields_in d.table.live))
    (omega (
      arith,
      k.few,
      length-drop passed (fields_in d.table.live),
      length-map d.table.live (λ (x : Entry). x.field),
    )) w

pub inserts_written : (base : ℕ) (d : Draft) (f : Field) (passed : ℕ) → WrittenDraft d → IsByteField f
    → Room d.table f
    → WrittenDraft (with_inserted base d f (instruction_for f (drop passed (fields_in d.table.live))))
inserts_written base d f passed k w r =
    record {
      few = omega (
        arith,
        r.few,
        count_naming (with_entry d.table (sent_entry f)) (insert_count d.table + 1),
        count_entered d.table f r,
      );
      lines = every_append IsByteLine d.lines (IndexedPostBase (insert_count d.table - base) ∷ []) k.lines
          (omega (arith, r.few), tt);
      instructions =
          every_append IsByteEncoderInstruction d.instructions
          (instruction_for f (drop passed (fields_in d.table.live)) ∷ []) k.instructions
          (passing_written d f passed k w, tt);
    }

pub entry_line : (base a : ℕ) (f : Field) → base ≤ 2 ^ 62 → a ≤ 2 ^ 62 → IsByteField f
    → IsByteLine (name_reference_line base a f)
entry_line base a f b le w =
    cond_both (nat_le a base) (NamedDynamic (base - a) f.value) (NamedPostBase (a - base - 1) f.value) IsByteLine
    (λ _. (omega arith, w.1)) (λ _. (omega arith, w.1))

by_entry_written : (base : ℕ) (d : Draft) (f : Field) → base ≤ 2 ^ 62 → WrittenDraft d → IsByteField f → (o : Option ℕ)
    → newest_index d.table (has_name f.name) ≡ o → WrittenDraft (literal_by_entry base d f o)
by_entry_written base d f b k w None e = writes_written d (Literal f.name f.value) k w
by_entry_written base d f b k w (Some a) e =
    let at = newest_found d.table (has_name f.name) a e in
    cond_both (may_reference d.table a) (with_referencing_line d a (name_reference_line base a f))
    (with_line d (Literal f.name f.value))
    WrittenDraft
    (λ _. naming_written d a (name_reference_line base a f) k
    (entry_line base a f b (omega (arith, at.within, k.few)) w))
    (λ _. writes_written d (Literal f.name f.value) k w)

pub literal_written : (base : ℕ) (d : Draft) (f : Field) → base ≤ 2 ^ 62 → WrittenDraft d → IsByteField f → (o : Option ℕ)
    → static_name_index f.name ≡ o → WrittenDraft (literal base d f o)
literal_written base d f b k w None e = by_entry_written base d f b k w (newest_index d.table (has_name f.name)) refl
literal_written base d f b k w (Some i) e =
    let at = static_name_found f.name i e in writes_written d (NamedStatic i f.value) k (static_small i at.0 at.1, w.1)

insertion_written : (base : ℕ) (d : Draft) (f : Field) → base ≤ 2 ^ 62 → WrittenDraft d → IsByteField f
    → WrittenDraft (insertion_or_literal base d f)
insertion_written base d f b k w =
    cond_both (below_limit d.table && has_room d.table f) (with_new_entry base d f)
    (literal base d f (static_name_index f.name)) WrittenDraft
    (λ t. inserts_written base d f (eviction_count_for d.table f) k w
    (room d.table f (and_parts (below_limit d.table) (has_room d.table f) t).1))
    (λ _. literal_written base d f b k w (static_name_index f.name) refl)

equal_written : (base : ℕ) (d : Draft) (f : Field) → base ≤ 2 ^ 62 → WrittenDraft d → IsByteField f → (o : Option ℕ)
    → WrittenDraft (by_entry base d f o)
equal_written base d f b k w None = insertion_written base d f b k w
equal_written base d f b k w (Some a) =
    cond_both (nat_le a base && may_reference d.table a) (with_referencing_line d a (IndexedDynamic (base - a)))
    (insertion_or_literal base d f) WrittenDraft
    (λ _. naming_written d a (IndexedDynamic (base - a)) k (omega arith))
    (λ _. insertion_written base d f b k w)

static_written : (base : ℕ) (d : Draft) (f : Field) → base ≤ 2 ^ 62 → WrittenDraft d → IsByteField f → (o : Option ℕ)
    → static_index f ≡ o → WrittenDraft (by_static base d f o)
static_written base d f b k w None e = equal_written base d f b k w (newest_index d.table (is_field f))
static_written base d f b k w (Some i) e = writes_written d (IndexedStatic i) k (static_small i f (static_found f i e))

field_written : (base : ℕ) (d : Draft) (f : Field) → base ≤ 2 ^ 62 → WrittenDraft d → IsByteField f
    → WrittenDraft (rule_field base d f)
unfolding rule_field
field_written base d f b k w = static_written base d f b k w (static_index f) refl

fields_written : (base : ℕ) (d : Draft) (fs : List Field) → base ≤ 2 ^ 62 → WrittenDraft d
    → AllByRecursion IsByteField fs → WrittenDraft (rule_fields base d fs)
fields_written base d [] b k w = k
fields_written base d (f ∷ fs) b k w =
    fields_written base (rule_field base d f) fs b (field_written base d f b k w.0) w.1

pub count_unnamed : (t : Table) → insert_count (without_references t) ≡ insert_count t
unfolding without_references
count_unnamed t = refl

-- the numbers that the rule writes are small, its strings bytes
pub rule_written : (t : Table) (fs : List Field) → insert_count t ≤ 2 ^ 62 → AllByRecursion IsByteField fs
    → WrittenDraft (rule t fs)
unfolding rule
rule_written t fs few w =
    fields_written (insert_count t) (empty_draft t) fs few
    (record { few = omega (arith, few, count_unnamed t); lines = tt; instructions = tt }) w

-- ---- what takes fewer than 2^63 bytes can be read back

payload_fits : (n flags huffman : ℕ) (payload : List ℕ) → length (written_literal_of n flags huffman payload) < 2 ^ 63
    → length payload < 2 ^ 63
payload_fits n flags huffman payload h =
    omega (arith, h, length-append (written_integer (n - 1) (2 * flags + huffman) (length payload)) payload)

text_fits : (coding : Coding) (n flags : ℕ) (encoding : List ℕ) → AreBytes encoding
    → length (coded_string coding n flags encoding) < 2 ^ 63 → IsWritableUnder coding encoding
unfolding coded_string
text_fits coding n flags encoding b h = record { bytes = b; size = both (is_coded coding encoding) h }
  where
    both : (b : Bool) → length (cond b (written_literal_of n flags 1 (payload_of encoding))
        (written_literal_of n flags 0 encoding)) < 2 ^ 63 → length (cond b (payload_of encoding) encoding) < 2 ^ 63
    both true small = payload_fits n flags 1 (payload_of encoding) small
    both false small = payload_fits n flags 0 encoding small

value_fits : (coding : Coding) (head encoding : List ℕ) → AreBytes encoding
    → length (head ++ coded_string coding 8 0 encoding) < 2 ^ 63 → IsWritableUnder coding encoding
value_fits coding head encoding b h = text_fits coding 8 0 encoding b
    (omega (arith, h, length-append head (coded_string coding 8 0 encoding)))

line_fits : (coding : Coding) (l : Line) → IsByteLine l → length (coded_line coding l) < 2 ^ 63
    → IsWritableLineUnder coding l
unfolding coded_line
line_fits coding (IndexedStatic i) b h = b
line_fits coding (IndexedDynamic i) b h = b
line_fits coding (IndexedPostBase i) b h = b
line_fits coding (NamedStatic i v) b h = (b.0, value_fits coding (written_integer 4 5 i) v b.1 h)
line_fits coding (NamedDynamic i v) b h = (b.0, value_fits coding (written_integer 4 4 i) v b.1 h)
line_fits coding (NamedPostBase i v) b h = (b.0, value_fits coding (written_integer 3 0 i) v b.1 h)
line_fits coding (Literal n v) b h = (
  text_fits coding 4 2 n b.0 (omega (arith, h, length-append (coded_string coding 4 2 n) (coded_string coding 8 0 v))),
  value_fits coding (coded_string coding 4 2 n) v b.1 h,
)

pub lines_fit : (coding : Coding) (ls : List Line) → AllByRecursion IsByteLine ls
    → length (coded_lines coding ls) < 2 ^ 63 → AllByRecursion (IsWritableLineUnder coding) ls
unfolding coded_lines
lines_fit coding [] b h = tt
lines_fit coding (l ∷ ls) b h = let n = length-append (coded_line coding l) (coded_lines coding ls) in
    (line_fits coding l b.0 (omega (arith, h, n)), lines_fit coding ls b.1 (omega (arith, h, n)))

instruction_fits : (coding : Coding) (i : EncoderInstruction) → IsByteEncoderInstruction i
    → length (coded_encoder_instruction coding i) < 2 ^ 63 → IsWritableInstructionUnder coding i
unfolding coded_encoder_instruction
instruction_fits coding (InsertStaticName i v) b h = (b.0, value_fits coding (written_integer 6 3 i) v b.1 h)
instruction_fits coding (InsertDynamicName i v) b h = (b.0, value_fits coding (written_integer 6 2 i) v b.1 h)
instruction_fits coding (InsertLiteralName n v) b h = (
  text_fits coding 6 1 n b.0 (omega (arith, h, length-append (coded_string coding 6 1 n) (coded_string coding 8 0 v))),
  value_fits coding (coded_string coding 6 1 n) v b.1 h,
)
instruction_fits coding (Duplicate i) b h = b
instruction_fits coding (SetCapacity c) b h = b

pub instructions_fit : (coding : Coding) (is : List EncoderInstruction) → AllByRecursion IsByteEncoderInstruction is
    → length (coded_encoder_instructions coding is) < 2 ^ 63 → AllByRecursion (IsWritableInstructionUnder coding) is
unfolding coded_encoder_instructions
instructions_fit coding [] b h = tt
instructions_fit coding (i ∷ is) b h =
    let n = length-append (coded_encoder_instruction coding i) (coded_encoder_instructions coding is) in
    (instruction_fits coding i b.0 (omega (arith, h, n)), instructions_fit coding is b.1 (omega (arith, h, n)))
