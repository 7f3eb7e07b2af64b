-- The rule of the calls of h3's names is that of one choice for each field.
use Rattle.std.proofs.Common.{◌≡◌, ℕ, ◌-◌, Bool, true, false, cond, List, [], ◌∷◌, ◌++◌, Option, None, Some, refl, ap, ◌∙◌}
use Rattle.std.proofs.Common.{arith, Result, Ok, Err, take}
use Rattle.std.specs.Prelude.{nat_le, ◌&&◌, IfOk, OnErr}
use Rattle.std.proofs.lemmas.Bool.{and_parts, lt-ltb}
use Rattle.qpack_spec.specs.Chosen.{References, Names, Inserts, Staying, Chosen, passes_at, literal_chosen, line_chosen, unreferenced_chosen}
use Rattle.qpack_spec.specs.Chosen.{chosen_field, chosen_fields, chosen_rule}
use Rattle.qpack_spec.specs.Field.{Field, FieldLine, has_name, is_field}
use Rattle.qpack_spec.specs.Instruction.{written_encoder_instructions}
use Rattle.qpack_spec.specs.Marked.{marked_field, marked_fields, marked_rule, written_marked_block}
use Rattle.qpack_spec.specs.Rule.{Draft, with_new_entry, literal_by_entry, literal, insertion_or_literal, by_entry, by_static}
use Rattle.qpack_spec.specs.Line.{IndexedDynamic}
use Rattle.qpack_spec.specs.Rule.{rule_field, with_referencing_line, empty_draft, required_insert_count, block_of, committed_table}
use Rattle.qpack_spec.specs.StaticTable.{static_index, static_name_index}
use Rattle.qpack_spec.specs.Table.{Table, insert_count, newest_index, has_room, below_limit, may_reference}
use Rattle.qpack_spec.specs.Table.{without_references}
use Rattle.qpack_spec.specs.Text.{Always}
use Rattle.qpack_spec.proofs.Positions.{FoundEntry, newest_found}
use Rattle.qpack_codec.specs.Choices as choices
use Rattle.qpack_codec.specs.ChoosesAlong.{ChoosesUnless, ChoosesField, ChoosesAlong}
use Rattle.qpack_codec.specs.ChosenSections.{ChoosesSection, WritesAlong, GivesUpAlong}
use Rattle.qpack_codec.specs.Encoding.{EncodesLines, GivesUpLines}
use Rattle.qpack_codec.specs.NewestFirst.{literal_first, insertion_first, entry_first, by_newest}
use Rattle.qpack_codec.specs.declared.encoder.choices.Wish.{Wish}
use Rattle.qpack_codec.specs.declared.error.EncoderError.{EncoderError}

found_passes : (t : Table) (p : Field → Bool) (a : ℕ) → FoundEntry t p a → passes_at t p a ≡ true
found_passes t p a at =
    let n : a - t.dropped - 1 ≡ at.position = omega (arith, at.index) in
    rw (lt-ltb t.dropped a at.above, n, at.there) at.passes

-- ---- a literal

by_name_is : (base : ℕ) (d : Draft) (f : Field) (o : Option ℕ) → newest_index d.table (has_name f.name) ≡ o
    → static_name_index f.name ≡ None
    → literal_chosen base d f (choices.by_entry Names o) ≡ literal_by_entry base d f o
by_name_is base d f None e none = rw none refl
by_name_is base d f (Some a) e none =
    let at = found_passes d.table (has_name f.name) a (newest_found d.table (has_name f.name) a e) in rw (at, none) refl

literal_is : (base : ℕ) (d : Draft) (f : Field) (o : Option ℕ) → static_name_index f.name ≡ o
    → literal_chosen base d f (literal_first d.table f o) ≡ literal base d f o
literal_is base d f (Some i) e = rw e refl
literal_is base d f None e = by_name_is base d f (newest_index d.table (has_name f.name)) refl e

-- ---- a line of a field that no static field equals

name_line_is : (base : ℕ) (d : Draft) (f : Field) (o : Option ℕ) → static_index f ≡ None
    → line_chosen Staying base d f (choices.by_entry Names o) ≡ literal_chosen base d f (choices.by_entry Names o)
name_line_is base d f None none = rw none refl
name_line_is base d f (Some a) none = rw none refl

literal_line_is : (base : ℕ) (d : Draft) (f : Field) (o : Option ℕ) → static_name_index f.name ≡ o
    → static_index f ≡ None → line_chosen Staying base d f (literal_first d.table f o) ≡ literal base d f o
literal_line_is base d f (Some i) e none = rw (none, e) refl
literal_line_is base d f None e none =
    name_line_is base d f (newest_index d.table (has_name f.name)) none ∙ literal_is base d f None e

insertion_is : (base : ℕ) (d : Draft) (f : Field) → static_index f ≡ None
    → line_chosen Staying base d f (insertion_first d.table f) ≡ insertion_or_literal base d f
insertion_is base d f none = go (below_limit d.table && has_room d.table f) refl
  where
    go : (b : Bool) → (below_limit d.table && has_room d.table f) ≡ b
        → line_chosen Staying base d f (cond b Inserts (literal_first d.table f (static_name_index f.name)))
        ≡ cond b (with_new_entry base d f) (literal base d f (static_name_index f.name))
    go true e = rw e refl
    go false e = literal_line_is base d f (static_name_index f.name) refl none

entry_if : (base : ℕ) (d : Draft) (f : Field) (a : ℕ) → newest_index d.table (is_field f) ≡ Some a
    → static_index f ≡ None → (b : Bool) → (nat_le a base && may_reference d.table a) ≡ b
    → line_chosen Staying base d f (cond b (References a) (insertion_first d.table f))
    ≡ cond b (with_referencing_line d a (IndexedDynamic (base - a))) (insertion_or_literal base d f)
entry_if base d f a e none true is =
    let p = and_parts (nat_le a base) (may_reference d.table a) is in
    let at = found_passes d.table (is_field f) a (newest_found d.table (is_field f) a e) in
    rw (at, p.1, p.0) refl
entry_if base d f a e none false is = insertion_is base d f none

entry_is : (base : ℕ) (d : Draft) (f : Field) (o : Option ℕ) → newest_index d.table (is_field f) ≡ o
    → static_index f ≡ None → line_chosen Staying base d f (entry_first base d.table f o) ≡ by_entry base d f o
entry_is base d f None e none = insertion_is base d f none
entry_is base d f (Some a) e none = entry_if base d f a e none (nat_le a base && may_reference d.table a) refl

-- ---- each field

field_is : {K : Type 0} (base : ℕ) (d : Draft) (l : FieldLine) (w : Wish) (c : Chosen) (before after : K)
    → ChoosesField (by_newest K) before base d.table l w c after → chosen_field base d l c ≡ marked_field base d l
unfolding rule_field
field_is {K = K} base d l w c before after k = go (static_index l.field) l.never_indexed refl refl k
  where
    go : (o : Option ℕ) (b : Bool) → static_index l.field ≡ o → l.never_indexed ≡ b
        → ChoosesUnless o b (by_newest K) before base d.table l w c after
        → cond b (literal_chosen base d l.field c.line)
        (unreferenced_chosen c.names c.unreferenced (line_chosen c.names base d l.field c.line) l.field)
        ≡ cond b (literal base d l.field (static_name_index l.field.name)) (by_static base d l.field o)
    go (Some i) false s m chose = rw (chose.0, s) refl
    go None false s m chose = rw (chose, m) (entry_is base d l.field (newest_index d.table (is_field l.field)) refl s)
    go (Some i) true s m chose = rw (chose, m) (literal_is base d l.field (static_name_index l.field.name) refl)
    go None true s m chose = rw (chose, m) (literal_is base d l.field (static_name_index l.field.name) refl)

fields_are : {K : Type 0} (base : ℕ) (d : Draft) (before after : K) (ls : List FieldLine) (ws : List Wish)
    (cs : List Chosen) → ChoosesAlong (by_newest K) base d before ls ws cs after
    → chosen_fields base d ls cs ≡ marked_fields base d ls
fields_are base d before after [] [] [] k = refl
fields_are base d before after (l ∷ ls) (w ∷ ws) (c ∷ cs) (mid, one, more) =
    fields_are base (chosen_field base d l c) mid after ls ws cs more
    ∙ ap (λ (x : Draft). marked_fields base x ls) (field_is base d l w c before mid one)
fields_are base d before after [] [] (c ∷ cs) k = absurd k
fields_are base d before after [] (w ∷ ws) cs k = absurd k
fields_are base d before after (l ∷ ls) [] cs k = absurd k
fields_are base d before after (l ∷ ls) (w ∷ ws) [] k = absurd k

rule_is : {K : Type 0} (t : Table) (fs : List FieldLine) (ws : List Wish) (cs : List Chosen)
    → ChoosesSection (by_newest K) fs ws t cs → chosen_rule t fs cs ≡ marked_rule t fs
unfolding chosen_rule marked_rule
rule_is t fs ws cs k = fields_are (insert_count t) (empty_draft t) k.begun k.after fs ws cs k.along

-- ---- a section

pub encodes_newest : (K : Type 0) (stream : ℕ) (fs : List FieldLine) (ws : List Wish) (answer : Result ℕ EncoderError)
    (old new : Table) (before after written_old written_new : List ℕ)
    → IfOk answer (λ required. WritesAlong Always (by_newest K) stream fs ws old new before after written_old written_new
    required)
    → IfOk answer (λ required. EncodesLines stream fs old new before after written_old written_new required)
encodes_newest K stream fs ws (Err e) old new before after written_old written_new k = tt
encodes_newest K stream fs ws (Ok required) old new before after written_old written_new k =
    let rule = rule_is old fs ws k.section.choices k.along in
    record {
      required_is = k.section.required_is ∙ ap (λ (d : Draft). required_insert_count d) rule;
      table = k.section.table ∙ ap (λ (d : Draft). committed_table d stream) rule;
      block = k.section.block ∙ ap (λ (d : Draft). before ++ written_marked_block fs (block_of old d)) rule;
      written = k.section.written
          ∙ ap (λ (d : Draft). written_old ++ written_encoder_instructions d.instructions) rule;
    }

pub gives_up_newest : (K : Type 0) (fs : List FieldLine) (ws : List Wish) (answer : Result ℕ EncoderError)
    (old new : Table) (written_old written_new : List ℕ)
    → OnErr answer (GivesUpAlong Always (by_newest K) fs ws old new written_old written_new)
    → OnErr answer (GivesUpLines fs old new written_old written_new)
gives_up_newest K fs ws (Ok required) old new written_old written_new k = tt
gives_up_newest K fs ws (Err e) old new written_old written_new k =
    let g = k.given_up in
    let rule = rule_is old (take g.many fs) (take g.many ws) g.choices k.along in
    record {
      many = g.many;
      table = g.table ∙ ap (λ (d : Draft). without_references d.table) rule;
      written = g.written ∙ ap (λ (d : Draft). written_old ++ written_encoder_instructions d.instructions) rule;
    }
