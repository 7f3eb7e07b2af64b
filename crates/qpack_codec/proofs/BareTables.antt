-- Sections at a table of capacity 0, in which no entry is: each field is a line by itself.
use Rattle.std.proofs.Common.{◌≡◌, ℕ, suc, ◌<◌, ◌≤◌, List, [], ◌∷◌, ◌++◌, map, Option, Some, None, Bool, true}
use Rattle.std.proofs.Common.{false, cond, refl, sym, ap, ◌∙◌, arith, append-nil, append_assoc}
use Rattle.std.proofs.Common.{Result, Ok, Err}
use Rattle.std.specs.Prelude.{◌&&◌, IfOk, OnErr}
use Rattle.std.proofs.lemmas.Bool.{lt-leb, cond_both}
use Rattle.qpack_spec.specs.Field.{Field, FieldLine, field_size, total_size, has_name, is_field}
use Rattle.qpack_spec.specs.Instruction.{coded_encoder_instructions, written_encoder_instructions}
use Rattle.qpack_spec.specs.Line.{Line}
use Rattle.qpack_spec.specs.Marked.{marked_field, marked_fields, marked_rule, written_marked_block}
use Rattle.qpack_spec.specs.Marked.{stateless_line_marked, stateless_block_marked}
use Rattle.qpack_spec.specs.Prefix.{prefix_for}
use Rattle.qpack_spec.specs.Reading.{Block, greatest_of}
use Rattle.qpack_spec.specs.Rule.{Draft, with_line, literal, literal_by_entry, insertion_or_literal, by_entry, by_static}
use Rattle.qpack_spec.specs.Rule.{rule_field, block_of, required_insert_count, committed_table}
use Rattle.qpack_spec.specs.Stateless.{stateless_literal, stateless_line_of, stateless_line}
use Rattle.qpack_spec.specs.StaticTable.{static_index, static_name_index}
use Rattle.qpack_spec.specs.Table.{Entry, Table, below_limit, fields_in, has_room, insert_count, newest_index, last_position}
use Rattle.qpack_spec.specs.Table.{without_references, commit}
use Rattle.qpack_spec.proofs.Sizes.{total_first}
use Rattle.qpack_codec.specs.Encoding.{EncodesLines, GivesUpLines}
use Rattle.qpack_codec.specs.declared.error.EncoderError.{EncoderError}

-- an entry takes 32 bytes at least
no_entries : (es : List Entry) → total_size (fields_in es) ≤ 0 → fields_in es ≡ []
no_entries [] h = refl
no_entries (e ∷ es) h = absurd (omega (arith, h, total_first e.field (fields_in es)))

-- no entry is there, and none fits
pub record IsBare (t : Table) : Type 0 where
  pub capacity : t.capacity ≡ 0
  pub none : fields_in t.live ≡ []

none_newest : (t : Table) (p : Field → Bool) → IsBare t → newest_index t p ≡ None
unfolding newest_index last_position
none_newest t p bare = rw (bare.none) refl

-- ---- one field

literal_is : (base : ℕ) (d : Draft) (f : Field) → IsBare d.table → (o : Option ℕ)
    → literal base d f o ≡ with_line d (stateless_literal f o)
literal_is base d f bare (Some i) = refl
literal_is base d f bare None = ap (literal_by_entry base d f) (none_newest d.table (has_name f.name) bare)

both_false : (b : Bool) → b && false ≡ true → ⊥
both_false true e = absurd cc
both_false false e = absurd cc

no_insertion : (base : ℕ) (d : Draft) (f : Field) → IsBare d.table
    → insertion_or_literal base d f ≡ literal base d f (static_name_index f.name)
unfolding has_room
no_insertion base d f bare =
    let large : d.table.capacity < field_size f = omega (arith, bare.capacity) in
    rw (lt-leb (field_size f) d.table.capacity large)
    (cond_both (below_limit d.table && false) _ _ (λ (x : Draft). x ≡ literal base d f (static_name_index f.name))
    (λ b. absurd (both_false (below_limit d.table) b)) (λ b. refl))

static_is : (base : ℕ) (d : Draft) (f : Field) → IsBare d.table → (o : Option ℕ)
    → by_static base d f o ≡ with_line d (stateless_line_of f o)
static_is base d f bare (Some i) = refl
static_is base d f bare None = ap (by_entry base d f) (none_newest d.table (is_field f) bare)
    ∙ no_insertion base d f bare ∙ literal_is base d f bare (static_name_index f.name)

field_is : (base : ℕ) (d : Draft) (f : Field) → IsBare d.table → rule_field base d f ≡ with_line d (stateless_line f)
unfolding rule_field
field_is base d f bare = static_is base d f bare (static_index f)

pub by_mark : (b : Bool) (x y d : Draft) (k l : Line) → x ≡ with_line d k → y ≡ with_line d l
    → cond b x y ≡ with_line d (cond b k l)
by_mark true x y d k l p q = p
by_mark false x y d k l p q = q

line_is : (base : ℕ) (d : Draft) (l : FieldLine) → IsBare d.table
    → marked_field base d l ≡ with_line d (stateless_line_marked l)
line_is base d l bare =
    by_mark l.never_indexed (literal base d l.field (static_name_index l.field.name)) (rule_field base d l.field) d
    (stateless_literal l.field (static_name_index l.field.name)) (stateless_line l.field)
    (literal_is base d l.field bare (static_name_index l.field.name)) (field_is base d l.field bare)

-- ---- a section

abbrev pub drafted : Table → List Line → Draft
drafted t ls = record { table = t; lines = ls; instructions = [] }

lines_are : (t : Table) (base : ℕ) (ls : List Line) (fs : List FieldLine) → IsBare t
    → marked_fields base (drafted t ls) fs ≡ drafted t (ls ++ map (λ l. stateless_line_marked l) fs)
lines_are t base ls [] bare = ap (drafted t) (sym (append-nil ls))
lines_are t base ls (f ∷ fs) bare =
    ap (λ (d : Draft). marked_fields base d fs) (line_is base (drafted t ls) f bare)
    ∙ lines_are t base (ls ++ stateless_line_marked f ∷ []) fs bare
    ∙ ap (drafted t) (append_assoc ls (stateless_line_marked f ∷ []) (map (λ l. stateless_line_marked l) fs))

bare_again : (t : Table) → IsBare t → IsBare (without_references t)
unfolding without_references
bare_again t bare = record { capacity = bare.capacity; none = bare.none }

rule_is : (t : Table) (fs : List FieldLine) → IsBare t
    → marked_rule t fs ≡ drafted (without_references t) (map (λ l. stateless_line_marked l) fs)
unfolding marked_rule
rule_is t fs bare = lines_are (without_references t) (insert_count t) [] fs (bare_again t bare)

pub nothing_required : (t : Table) (ls : List Line) → required_insert_count (drafted (without_references t) ls) ≡ 0
unfolding without_references greatest_of
nothing_required t ls = refl

pub block_is : (t : Table) (ls : List Line) → block_of t (drafted (without_references t) ls)
    ≡ record { prefix = record { count = 0; sign = false; delta = 0 }; lines = ls }
unfolding without_references greatest_of prefix_for
block_is t ls = refl

pub table_is : (t : Table) (ls : List Line) (stream : ℕ)
    → without_references t ≡ committed_table (drafted (without_references t) ls) stream
unfolding without_references commit greatest_of
table_is t ls stream = rw (lt-leb (suc t.known_received_count) 0 (omega arith)) refl

-- ---- what is written

encodes_bare : (stream : ℕ) (fs : List FieldLine) (old : Table) (before after written : List ℕ) → IsBare old
    → after ≡ before ++ written_marked_block fs (stateless_block_marked fs)
    → EncodesLines stream fs old (without_references old) before after written written 0
unfolding coded_encoder_instructions
encodes_bare stream fs old before after written bare is =
    let lines = map (λ l. stateless_line_marked l) fs in
    let rule = rule_is old fs bare in
    record {
      required_is = sym (ap (λ (d : Draft). required_insert_count d) rule ∙ nothing_required old lines);
      table = table_is old lines stream ∙ sym (ap (λ (d : Draft). committed_table d stream) rule);
      block = is
          ∙ ap (λ (b : Block). before ++ written_marked_block fs b)
          (sym (ap (λ (d : Draft). block_of old d) rule ∙ block_is old lines));
      written = sym (append-nil written)
          ∙ ap (λ (d : Draft). written ++ written_encoder_instructions d.instructions) (sym rule);
    }

-- the answer is that nothing is required
pub encodes_alone : (stream : ℕ) (fs : List FieldLine) (answer : Result ℕ EncoderError) (old new : Table)
    (capacity : ℕ) (before after written : List ℕ) → capacity ≡ old.capacity → capacity ≡ 0
    → total_size (fields_in old.live) ≤ capacity → new ≡ without_references old
    → IfOk answer (λ required. (required ≡ 0)
    × (after ≡ before ++ written_marked_block fs (stateless_block_marked fs)))
    → IfOk answer (λ required. EncodesLines stream fs old new before after written written required)
encodes_alone stream fs (Err e) old new capacity before after written at zero fits is ok = tt
encodes_alone stream fs (Ok required) old new capacity before after written at zero fits is ok =
    let bare : IsBare old = record {
      capacity = sym at ∙ zero;
      none = no_entries old.live (omega (arith, fits, zero));
    } in
    rw (is, ok.0) (encodes_bare stream fs old before after written bare ok.1)

none_kept : (fs : List FieldLine) (old : Table) (written : List ℕ)
    → GivesUpLines fs old (without_references old) written written
unfolding marked_rule without_references coded_encoder_instructions
none_kept fs old written = record { many = 0; table = refl; written = sym (append-nil written) }

pub gives_up_alone : (fs : List FieldLine) (answer : Result ℕ EncoderError) (old new : Table) (written : List ℕ)
    → new ≡ without_references old → OnErr answer (GivesUpLines fs old new written written)
gives_up_alone fs (Ok required) old new written is = tt
gives_up_alone fs (Err e) old new written is = rw is (none_kept fs old written)
