-- A block whose fields are written under some choices: it is put together of its prefix and its lines, or given up.
use Rattle.std.proofs.Common.{◌≡◌, ℕ, List, [], ◌∷◌, ◌++◌, map, take, drop, length, refl, sym, ap, subst, ◌∙◌}
use Rattle.std.proofs.Common.{append-nil, append_assoc, Result, Ok, Err, Option, None, Some}
use Rattle.std.specs.Prelude.{IfOk, OnErr}
use Rattle.std.proofs.Math.Seq.{take-length}
use Rattle.std.proofs.lemmas.List.{length-map}
use Rattle.qpack_spec.specs.Chosen.{Chosen, alone_chosen, literal_alone, line_alone}
use Rattle.qpack_spec.specs.Chosen.{chosen_field, chosen_fields, chosen_rule}
use Rattle.qpack_spec.specs.Field.{Field, FieldLine}
use Rattle.qpack_spec.specs.Instruction.{coded_encoder_instructions}
use Rattle.qpack_spec.specs.Line.{Line}
use Rattle.qpack_spec.specs.Marked.{coded_marked_lines, coded_marked_block, stateless_line_marked}
use Rattle.qpack_spec.specs.Marked.{stateless_block_marked}
use Rattle.qpack_spec.specs.Prefix.{Prefix, prefix_for, written_prefix}
use Rattle.qpack_spec.specs.Reading.{Block, greatest_of}
use Rattle.qpack_spec.specs.Rule.{Draft, empty_draft, with_line, block_of, required_insert_count, committed_table}
use Rattle.qpack_spec.specs.Stateless.{stateless_literal, stateless_line_of, stateless_line}
use Rattle.qpack_spec.specs.StaticTable.{static_index, static_name_index}
use Rattle.qpack_spec.specs.Table.{Table, insert_count, without_references, commit}
use Rattle.qpack_spec.specs.Window.{maximum_capacity}
use Rattle.qpack_spec.specs.Text.{Coding}
use Rattle.qpack_base.specs.declared.coding.NoMemory.{NoMemory}
use Rattle.qpack_codec.specs.Encoding.{draft_at}
use Rattle.qpack_codec.specs.ChoosesAlong.{Chooses, ChoosesAlong}
use Rattle.qpack_codec.specs.ChosenSections.{AddsChosen, StopsAmongChosen, DraftsChosen, EncodesChosen, GivesUpChosen}
use Rattle.qpack_codec.specs.ChosenSections.{AddsAlong, ChoosesSection, DraftsAlong, EncodesAlong}
use Rattle.qpack_codec.specs.ChosenSections.{WritesAlong, StopsAlong, GivesUpAlong}
use Rattle.qpack_codec.specs.declared.error.EncoderError.{EncoderError}
use Rattle.qpack_codec.proofs.BareTables.{by_mark, drafted, nothing_required, block_is, table_is}
use Rattle.qpack_codec.proofs.DraftedBlocks.{begins_so, put_together}

-- ---- the rule under choices, where a block begins

chosen_is : (t : Table) (base : ℕ) (fs : List FieldLine) (cs : List Chosen) → t.referenced ≡ []
    → base ≡ insert_count t → chosen_fields base (draft_at t) fs cs ≡ chosen_rule t fs cs
unfolding chosen_rule
chosen_is t base fs cs begins same =
    ap (λ (b : ℕ). chosen_fields b (draft_at t) fs cs) same
    ∙ ap (λ (x : Table). chosen_fields (insert_count t) (draft_at x) fs cs) (sym (begins_so t begins))

-- ---- the block's bytes

pub drafts_chosen : {coding : Coding} (t : Table) (base : ℕ) (fs : List FieldLine) (new : Table)
    (before lines block written_old written_new : List ℕ) (len required most other : ℕ) (prefix : Prefix)
    → t.referenced ≡ [] → base ≡ insert_count t
    → AddsChosen coding fs t base new before lines written_old written_new
    → len ≡ length before → required ≡ greatest_of new.referenced → most ≡ maximum_capacity t.agreed_max t.capacity
    → other ≡ base → prefix ≡ prefix_for most required other
    → block ≡ take len lines ++ written_prefix prefix ++ drop len lines
    → DraftsChosen coding fs t new before block written_old written_new required
unfolding coded_marked_block
drafts_chosen {coding} t base fs new before lines block written_old written_new len required most other prefix begins same k is
    count maximum at made put =
    let cs = k.choices in
    let adds = k.adds in
    let d = chosen_is t base fs cs begins same in
    let table : new ≡ (chosen_rule t fs cs).table = adds.table ∙ ap (λ (x : Draft). x.table) d in
    let required_is : required ≡ required_insert_count (chosen_rule t fs cs) =
    count ∙ ap (λ (x : Table). greatest_of x.referenced) table in
    let whole : prefix ≡ (block_of t (chosen_rule t fs cs)).prefix =
    made
    ∙ ap (λ (n : ℕ). prefix_for n required other) maximum
    ∙ ap (λ (n : ℕ). prefix_for (maximum_capacity t.agreed_max t.capacity) n other) required_is
    ∙ ap (λ (n : ℕ). prefix_for (maximum_capacity t.agreed_max t.capacity)
    (required_insert_count (chosen_rule t fs cs)) n) (at ∙ same) in
    record {
      choices = cs;
      required_is = required_is;
      table = table;
      block = put
          ∙ put_together before lines (written_prefix prefix)
          (coded_marked_lines coding fs (chosen_fields base (draft_at t) fs cs).lines) len is adds.lines
          ∙ ap (λ (p : Prefix). before
          ++ (written_prefix p ++ coded_marked_lines coding fs (chosen_fields base (draft_at t) fs cs).lines)) whole
          ∙ ap (λ (x : Draft). before
          ++ (written_prefix (block_of t (chosen_rule t fs cs)).prefix ++ coded_marked_lines coding fs x.lines)) d;
      written = adds.written ∙ ap (λ (x : Draft). written_old ++ coded_encoder_instructions coding x.instructions) d;
    }

-- ---- a block that is given up

gives_up_chosen : {coding : Coding} (t : Table) (base : ℕ) (fs : List FieldLine) (new : Table) (written_old written_new : List ℕ)
    → t.referenced ≡ [] → base ≡ insert_count t → StopsAmongChosen coding fs t base new written_old written_new
    → GivesUpChosen coding fs t (without_references new) written_old written_new
gives_up_chosen {coding} t base fs new written_old written_new begins same stops =
    let d = chosen_is t base (take stops.many fs) stops.choices begins same in
    record {
      many = stops.many;
      choices = stops.choices;
      table = stops.table ∙ ap (λ (x : Draft). without_references x.table) d;
      written = stops.written ∙ ap (λ (x : Draft). written_old ++ coded_encoder_instructions coding x.instructions) d;
    }

gives_up_all_chosen : {coding : Coding} (t : Table) (base : ℕ) (fs : List FieldLine) (new : Table)
    (before lines written_old written_new : List ℕ)
    → t.referenced ≡ [] → base ≡ insert_count t
    → AddsChosen coding fs t base new before lines written_old written_new
    → GivesUpChosen coding fs t (without_references new) written_old written_new
gives_up_all_chosen {coding} t base fs new before lines written_old written_new begins same k =
    gives_up_chosen t base fs new written_old written_new begins same
    (record {
      many = length fs;
      choices = k.choices;
      table = rw (take-length fs) (ap (λ (x : Table). without_references x) k.adds.table);
      written = rw (take-length fs) k.adds.written;
    })

-- ---- the end of a block

rule_again : (t : Table) (fs : List FieldLine) (cs : List Chosen)
    → chosen_rule (without_references t) fs cs ≡ chosen_rule t fs cs
unfolding chosen_rule without_references
rule_again t fs cs = refl

gives_up_begun : {coding : Coding} (fs : List FieldLine) (old begun new : Table) (written_old written_new : List ℕ)
    → begun ≡ without_references old → GivesUpChosen coding fs begun new written_old written_new
    → GivesUpChosen coding fs old new written_old written_new
gives_up_begun {coding} fs old begun new written_old written_new begins k =
    let d : chosen_rule begun (take k.many fs) k.choices ≡ chosen_rule old (take k.many fs) k.choices =
    ap (λ (t : Table). chosen_rule t (take k.many fs) k.choices) begins ∙ rule_again old (take k.many fs) k.choices in
    record {
      many = k.many;
      choices = k.choices;
      table = k.table ∙ ap (λ (x : Draft). without_references x.table) d;
      written = k.written ∙ ap (λ (x : Draft). written_old ++ coded_encoder_instructions coding x.instructions) d;
    }

encodes_chosen_block : {coding : Coding} (fs : List FieldLine) (old begun mid new : Table) (stream given : ℕ)
    (before block written_old written_new : List ℕ) (required : ℕ)
    → begun ≡ without_references old → given ≡ stream
    → DraftsChosen coding fs begun mid before block written_old written_new required → new ≡ commit mid given required
    → EncodesChosen coding stream fs old new before block written_old written_new required
unfolding without_references
encodes_chosen_block {coding} fs old begun mid new stream given before block written_old written_new required begins same k
    ends =
    let cs = k.choices in
    let d : chosen_rule begun fs cs ≡ chosen_rule old fs cs =
    ap (λ (t : Table). chosen_rule t fs cs) begins ∙ rule_again old fs cs in
    let required_is : required ≡ required_insert_count (chosen_rule old fs cs) =
    k.required_is ∙ ap (λ (x : Draft). required_insert_count x) d in
    record {
      choices = cs;
      required_is = required_is;
      table = ends
          ∙ ap (λ (n : ℕ). commit mid n required) same
          ∙ ap (λ (t : Table). commit t stream required) (k.table ∙ ap (λ (x : Draft). x.table) d)
          ∙ ap (λ (n : ℕ). commit (chosen_rule old fs cs).table stream n) required_is;
      block = k.block
          ∙ ap (λ (x : Draft). before ++ coded_marked_block coding fs (block_of begun x)) d
          ∙ ap (λ (t : Table). before ++ coded_marked_block coding fs (block_of t (chosen_rule old fs cs))) begins;
      written = k.written ∙ ap (λ (x : Draft). written_old ++ coded_encoder_instructions coding x.instructions) d;
    }

-- ---- a section without the dynamic table, which is one of no choices

literal_is : (d : Draft) (f : Field) (o : Option ℕ) → literal_alone d f o ≡ with_line d (stateless_literal f o)
literal_is d f (Some i) = refl
literal_is d f None = refl

line_alone_is : (d : Draft) (f : Field) (o : Option ℕ) → line_alone d f o ≡ with_line d (stateless_line_of f o)
line_alone_is d f (Some i) = refl
line_alone_is d f None = literal_is d f (static_name_index f.name)

line_is : (base : ℕ) (d : Draft) (l : FieldLine)
    → chosen_field base d l alone_chosen ≡ with_line d (stateless_line_marked l)
line_is base d l =
    by_mark l.never_indexed (literal_alone d l.field (static_name_index l.field.name))
    (line_alone d l.field (static_index l.field)) d (stateless_literal l.field (static_name_index l.field.name))
    (stateless_line l.field) (literal_is d l.field (static_name_index l.field.name))
    (line_alone_is d l.field (static_index l.field))

lines_are : (t : Table) (base : ℕ) (ls : List Line) (fs : List FieldLine)
    → chosen_fields base (drafted t ls) fs [] ≡ drafted t (ls ++ map (λ l. stateless_line_marked l) fs)
lines_are t base ls [] = ap (drafted t) (sym (append-nil ls))
lines_are t base ls (f ∷ fs) =
    ap (λ (d : Draft). chosen_fields base d fs []) (line_is base (drafted t ls) f)
    ∙ lines_are t base (ls ++ stateless_line_marked f ∷ []) fs
    ∙ ap (drafted t) (append_assoc ls (stateless_line_marked f ∷ []) (map (λ l. stateless_line_marked l) fs))

alone_rule_is : (t : Table) (fs : List FieldLine)
    → chosen_rule t fs [] ≡ drafted (without_references t) (map (λ l. stateless_line_marked l) fs)
unfolding chosen_rule
alone_rule_is t fs = lines_are (without_references t) (insert_count t) [] fs

encodes_without : {coding : Coding} (stream : ℕ) (fs : List FieldLine) (old : Table) (before after written : List ℕ)
    → after ≡ before ++ coded_marked_block coding fs (stateless_block_marked fs)
    → EncodesChosen coding stream fs old (without_references old) before after written written 0
unfolding coded_encoder_instructions
encodes_without {coding} stream fs old before after written is =
    let lines = map (λ l. stateless_line_marked l) fs in
    let rule = alone_rule_is old fs in
    record {
      choices = [];
      required_is = sym (ap (λ (d : Draft). required_insert_count d) rule ∙ nothing_required old lines);
      table = table_is old lines stream ∙ sym (ap (λ (d : Draft). committed_table d stream) rule);
      block = is
          ∙ ap (λ (b : Block). before ++ coded_marked_block coding fs b)
          (sym (ap (λ (d : Draft). block_of old d) rule ∙ block_is old lines));
      written = sym (append-nil written)
          ∙ ap (λ (d : Draft). written ++ coded_encoder_instructions coding d.instructions) (sym rule);
    }

-- the answer is that nothing is required
pub encodes_chosen_alone : (coding : Coding) (stream : ℕ) (fs : List FieldLine) (answer : Result ℕ EncoderError) (old new : Table)
    (before after written : List ℕ) → new ≡ without_references old
    → IfOk answer (λ required. (required ≡ 0)
    × (after ≡ before ++ coded_marked_block coding fs (stateless_block_marked fs)))
    → IfOk answer (λ required. EncodesChosen coding stream fs old new before after written written required)
encodes_chosen_alone coding stream fs (Err e) old new before after written is ok = tt
encodes_chosen_alone coding stream fs (Ok required) old new before after written is ok =
    rw (is, ok.0) (encodes_without stream fs old before after written ok.1)

none_chosen : {coding : Coding} (fs : List FieldLine) (old : Table) (written : List ℕ)
    → GivesUpChosen coding fs old (without_references old) written written
unfolding chosen_rule without_references coded_encoder_instructions
none_chosen {coding} fs old written =
    record { many = 0; choices = []; table = refl; written = sym (append-nil written) }

pub gives_up_chosen_alone : (coding : Coding) (fs : List FieldLine) (answer : Result ℕ EncoderError) (old new : Table) (written : List ℕ)
    → new ≡ without_references old → OnErr answer (GivesUpChosen coding fs old new written written)
gives_up_chosen_alone coding fs (Ok required) old new written is = tt
gives_up_chosen_alone coding fs (Err e) old new written is = rw is (none_chosen fs old written)

-- ---- by a chooser

along_begins : {K W : Type 0} (chooses : Chooses K W) (t : Table) (base : ℕ) (fs : List FieldLine) (ws : List W)
    (cs : List Chosen) (before after : K) → t.referenced ≡ [] → base ≡ insert_count t
    → ChoosesAlong chooses base (draft_at t) before fs ws cs after → ChoosesSection chooses fs ws t cs
along_begins chooses t base fs ws cs before after begins same k =
    record {
      begun = before;
      after = after;
      along = subst (λ (b : ℕ). ChoosesAlong chooses b (empty_draft t) before fs ws cs after) same
          (subst (λ (x : Table). ChoosesAlong chooses base (draft_at x) before fs ws cs after)
          (sym (begins_so t begins)) k);
    }

pub drafts_along : {coding : Coding} {K W : Type 0} (chooses : Chooses K W) (ws : List W) (first last : K) (t : Table) (base : ℕ)
    (fs : List FieldLine) (new : Table) (before lines block written_old written_new : List ℕ)
    (len required most other : ℕ) (prefix : Prefix)
    → t.referenced ≡ [] → base ≡ insert_count t
    → AddsAlong coding chooses fs ws t base new first last before lines written_old written_new
    → len ≡ length before → required ≡ greatest_of new.referenced → most ≡ maximum_capacity t.agreed_max t.capacity
    → other ≡ base → prefix ≡ prefix_for most required other
    → block ≡ take len lines ++ written_prefix prefix ++ drop len lines
    → DraftsAlong coding chooses fs ws t new before block written_old written_new required
unfolding drafts_chosen
drafts_along {coding} chooses ws first last t base fs new before lines block written_old written_new len required most other
    prefix begins same k is count maximum at made put =
    record {
      drafts = drafts_chosen t base fs new before lines block written_old written_new len required most other prefix
          begins same k.adds is count maximum at made put;
      along = along_begins chooses t base fs ws k.adds.choices first last begins same k.along;
    }

-- where the block began, nothing was referenced
section_begun : {K W : Type 0} (chooses : Chooses K W) (fs : List FieldLine) (ws : List W) (cs : List Chosen)
    (old begun : Table) → begun ≡ without_references old → ChoosesSection chooses fs ws begun cs
    → ChoosesSection chooses fs ws old cs
unfolding without_references
section_begun chooses fs ws cs old begun begins k =
    let same = subst (λ (t : Table). ChoosesSection chooses fs ws t cs) begins k in
    record { begun = same.begun; after = same.after; along = same.along }

pub writes_along : (coding : Coding) {K W : Type 0} (chooses : Chooses K W) (ws : List W) (fs : List FieldLine) (r : Result ℕ NoMemory)
    (answer : Result ℕ EncoderError) (old begun mid new : Table) (stream given : ℕ)
    (before block written_old written_new : List ℕ)
    → begun ≡ without_references old → given ≡ stream
    → IfOk r (λ required. DraftsAlong coding chooses fs ws begun mid before block written_old written_new required)
    → IfOk answer (λ required. (r ≡ Ok required) × (new ≡ commit mid given required))
    → IfOk answer (λ required. WritesAlong coding chooses stream fs ws old new before block written_old written_new required)
unfolding encodes_chosen_block
writes_along coding chooses ws fs r (Err e) old begun mid new stream given before block written_old written_new begins same
    ok ends =
    tt
writes_along coding chooses ws fs r (Ok required) old begun mid new stream given before block written_old written_new begins
    same ok ends =
    let drafted : DraftsAlong coding chooses fs ws begun mid before block written_old written_new required =
    subst (λ (x : Result ℕ NoMemory).
    IfOk x (λ n. DraftsAlong coding chooses fs ws begun mid before block written_old written_new n)) ends.0 ok in
    record {
      section = encodes_chosen_block fs old begun mid new stream given before block written_old written_new required
          begins same drafted.drafts ends.1;
      along = section_begun chooses fs ws drafted.drafts.choices old begun begins drafted.along;
    }

-- above capacity 0
pub encodes_along : (coding : Coding) {K W : Type 0} (chooses : Chooses K W) (ws : List W) (stream : ℕ) (fs : List FieldLine)
    (answer : Result ℕ EncoderError) (old new : Table) (before after written_old written_new : List ℕ)
    → IfOk answer (λ required. WritesAlong coding chooses stream fs ws old new before after written_old written_new required)
    → IfOk answer (λ required. EncodesAlong coding chooses stream fs ws old new before after written_old written_new required)
encodes_along coding chooses ws stream fs (Err e) old new before after written_old written_new k = tt
encodes_along coding chooses ws stream fs (Ok required) old new before after written_old written_new k =
    record { section = k.section; along = λ some. k.along }

-- at capacity 0 nothing is chosen
pub encodes_along_alone : (coding : Coding) {K W : Type 0} (chooses : Chooses K W) (ws : List W) (stream : ℕ) (fs : List FieldLine)
    (answer : Result ℕ EncoderError) (old new : Table) (before after written : List ℕ) → old.capacity ≡ 0
    → IfOk answer (λ required. EncodesChosen coding stream fs old new before after written written required)
    → IfOk answer (λ required. EncodesAlong coding chooses stream fs ws old new before after written written required)
encodes_along_alone coding chooses ws stream fs (Err e) old new before after written none k = tt
encodes_along_alone coding chooses ws stream fs (Ok required) old new before after written none k =
    record { section = k; along = λ some. absurd (some none) }

-- ---- given up by a chooser

-- where memory was refused after some of the fields
pub gives_up_along : {coding : Coding} {K W : Type 0} (chooses : Chooses K W) (ws : List W) (first : K) (t : Table) (base : ℕ)
    (fs : List FieldLine) (new : Table) (written_old written_new : List ℕ) → t.referenced ≡ [] → base ≡ insert_count t
    → StopsAlong coding chooses fs ws t base new first written_old written_new
    → GivesUpAlong coding chooses fs ws t (without_references new) written_old written_new
unfolding gives_up_chosen
gives_up_along {coding} chooses ws first t base fs new written_old written_new begins same k =
    record {
      given_up = gives_up_chosen t base fs new written_old written_new begins same k.stops;
      along = along_begins chooses t base (take k.stops.many fs) (take k.stops.many ws) k.stops.choices first k.after
          begins same k.along;
    }

-- items lend as many wishes as field lines
pub each_wish : {H W : Type 0} (line : H → FieldLine) (wish : H → W) (xs : List H)
    → length (map wish xs) ≡ length (map line xs)
each_wish line wish xs = length-map xs wish ∙ sym (length-map xs line)

all_of : {X Y : Type 0} (xs : List X) (ys : List Y) → length xs ≡ length ys → take (length ys) xs ≡ xs
all_of {X = X} xs ys same = ap (λ (n : ℕ). take n xs) (sym same) ∙ take-length xs

-- where it was refused after all of them
pub gives_up_all_along : {coding : Coding} {K W : Type 0} (chooses : Chooses K W) (ws : List W) (first last : K) (t : Table) (base : ℕ)
    (fs : List FieldLine) (new : Table) (before lines written_old written_new : List ℕ) → length ws ≡ length fs
    → t.referenced ≡ [] → base ≡ insert_count t
    → AddsAlong coding chooses fs ws t base new first last before lines written_old written_new
    → GivesUpAlong coding chooses fs ws t (without_references new) written_old written_new
unfolding gives_up_all_chosen gives_up_chosen
gives_up_all_along {coding} chooses ws first last t base fs new before lines written_old written_new each begins same k =
    record {
      given_up = gives_up_all_chosen t base fs new before lines written_old written_new begins same k.adds;
      along = rw (take-length fs, all_of ws fs each)
          (along_begins chooses t base fs ws k.adds.choices first last begins same k.along);
    }

given_up_begun : {coding : Coding} {K W : Type 0} (chooses : Chooses K W) (ws : List W) (fs : List FieldLine) (old begun new : Table)
    (written_old written_new : List ℕ) → begun ≡ without_references old
    → GivesUpAlong coding chooses fs ws begun new written_old written_new
    → GivesUpAlong coding chooses fs ws old new written_old written_new
unfolding gives_up_begun
given_up_begun {coding} chooses ws fs old begun new written_old written_new begins k =
    record {
      given_up = gives_up_begun fs old begun new written_old written_new begins k.given_up;
      along = section_begun chooses (take k.given_up.many fs) (take k.given_up.many ws) k.given_up.choices old begun
          begins k.along;
    }

drafted_given_up : {coding : Coding} {K W : Type 0} (chooses : Chooses K W) (ws : List W) (fs : List FieldLine) (old mid : Table)
    (before block written_old written_new : List ℕ) (required : ℕ) → length ws ≡ length fs
    → DraftsAlong coding chooses fs ws old mid before block written_old written_new required
    → GivesUpAlong coding chooses fs ws old (without_references mid) written_old written_new
drafted_given_up {coding} chooses ws fs old mid before block written_old written_new required each k =
    record {
      given_up = record {
        many = length fs;
        choices = k.drafts.choices;
        table = rw (take-length fs) (ap (λ (x : Table). without_references x) k.drafts.table);
        written = rw (take-length fs) k.drafts.written;
      };
      along = rw (take-length fs, all_of ws fs each) k.along;
    }

-- refused, after lines that were written or before
pub gives_up_section : (coding : Coding) {K W : Type 0} (chooses : Chooses K W) (ws : List W) (fs : List FieldLine) (r : Result ℕ NoMemory)
    (answer : Result ℕ EncoderError) (old begun mid new : Table) (before block written_old written_new : List ℕ)
    → length ws ≡ length fs → begun ≡ without_references old
    → IfOk r (λ required. DraftsAlong coding chooses fs ws begun mid before block written_old written_new required)
    → OnErr r (GivesUpAlong coding chooses fs ws begun (without_references mid) written_old written_new)
    → OnErr answer (new ≡ without_references mid)
    → OnErr answer (GivesUpAlong coding chooses fs ws old new written_old written_new)
gives_up_section coding chooses ws fs r (Ok required) old begun mid new before block written_old written_new each begins ok err
    ends =
    tt
gives_up_section coding chooses ws fs (Ok required) (Err e) old begun mid new before block written_old written_new each begins
    ok err ends =
    rw ends
    (given_up_begun chooses ws fs old begun (without_references mid) written_old written_new begins
    (drafted_given_up chooses ws fs begun mid before block written_old written_new required each ok))
gives_up_section coding chooses ws fs (Err f) (Err e) old begun mid new before block written_old written_new each begins ok err
    ends =
    rw ends (given_up_begun chooses ws fs old begun (without_references mid) written_old written_new begins err)

pub given_up_of : (coding : Coding) {K W : Type 0} (chooses : Chooses K W) (ws : List W) (fs : List FieldLine)
    (answer : Result ℕ EncoderError) (old new : Table) (written_old written_new : List ℕ)
    → OnErr answer (GivesUpAlong coding chooses fs ws old new written_old written_new)
    → OnErr answer (GivesUpChosen coding fs old new written_old written_new)
given_up_of coding chooses ws fs (Ok required) old new written_old written_new k = tt
given_up_of coding chooses ws fs (Err e) old new written_old written_new k = k.given_up
