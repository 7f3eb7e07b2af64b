-- Field lines that are added to a block in progress by choices, one after the other.
use Rattle.std.proofs.Common.{◌≡◌, ℕ, ◌+◌, ◌<◌, List, [], ◌∷◌, ◌++◌, map, take, length, get_or, Option}
use Rattle.std.proofs.Common.{Some, None, refl, sym, ap, subst, ◌∙◌, append-nil, append_assoc, Bool}
use Rattle.std.proofs.Common.{true, false, cond, arith, length-append, inl, inr}
use Rattle.std.specs.Prelude.{◌&&◌}
use Rattle.std.proofs.lemmas.Bool.{cond_both}
use Rattle.qpack_spec.specs.Chosen.{Choice, Alone, References, Names, Inserts, Naming, Chosen, passes_at}
use Rattle.qpack_spec.specs.Chosen.{literal_alone, line_alone, instruction_naming}
use Rattle.qpack_spec.specs.Chosen.{named_or, literal_chosen, line_chosen, unreferenced_chosen, chosen_field, chosen_fields}
use Rattle.qpack_spec.specs.Chosen.{with_unreferenced_entry, alone_chosen}
use Rattle.qpack_rules.proofs.ChosenSteps.{field_by}
use Rattle.qpack_spec.specs.Field.{Field, FieldLine, has_name, is_field}
use Rattle.qpack_spec.specs.StaticTable.{static_index, static_name_index}
use Rattle.qpack_spec.specs.Marked.{coded_marked_lines}
use Rattle.qpack_spec.specs.Instruction.{EncoderInstruction, coded_encoder_instructions}
use Rattle.qpack_spec.specs.Line.{Line, coded_lines}
use Rattle.qpack_spec.specs.Rule.{Draft}
use Rattle.qpack_spec.specs.Table.{Table, may_reference, below_limit, has_room, without_references, with_entry, sent_entry}
use Rattle.qpack_spec.specs.Text.{Coding}
use Rattle.qpack_codec.specs.ChoosesAlong.{Chooses, ChoosesUnless, ChoosesField, ChoosesAlong}
use Rattle.qpack_codec.specs.Encoding.{draft_at, AddsLines}
use Rattle.qpack_codec.specs.ChosenSections.{AddsChosen, AddsByChooser, AddsAlong, StopsAmongChosen}
use Rattle.qpack_codec.specs.ChosenSections.{StopsByChooser, StopsAlong}
use Rattle.qpack_codec.proofs.AddedFields.{GoesOn, lines_behind, instructions_behind, appended, take_of, front_of}

-- ---- a field behind others: a draft goes on as one that begins at its table

literal_goes : (d : Draft) (f : Field) (o : Option ℕ) → GoesOn d (literal_alone (draft_at d.table) f o) (literal_alone d f o)
literal_goes d f (Some i) = record { table = refl; lines = refl; instructions = sym (append-nil d.instructions) }
literal_goes d f None = record { table = refl; lines = refl; instructions = sym (append-nil d.instructions) }

line_goes : (d : Draft) (f : Field) (o : Option ℕ) → GoesOn d (line_alone (draft_at d.table) f o) (line_alone d f o)
line_goes d f (Some i) = record { table = refl; lines = refl; instructions = sym (append-nil d.instructions) }
line_goes d f None = literal_goes d f (static_name_index f.name)

goes_if : (b : Bool) (d x y u v : Draft) → GoesOn d x u → GoesOn d y v → GoesOn d (cond b x y) (cond b u v)
goes_if true d x y u v p q = p
goes_if false d x y u v p q = q

named_goes : (base : ℕ) (d x u : Draft) (f : Field) (a : ℕ) → GoesOn d x u
    → GoesOn d (named_or base (draft_at d.table) f a x) (named_or base d f a u)
named_goes base d x u f a k =
    goes_if (passes_at d.table (has_name f.name) a && may_reference d.table a) d _ x _ u
    (record { table = refl; lines = refl; instructions = sym (append-nil d.instructions) }) k

literal_chosen_goes : (base : ℕ) (d : Draft) (f : Field) (c : Choice)
    → GoesOn d (literal_chosen base (draft_at d.table) f c) (literal_chosen base d f c)
literal_chosen_goes base d f Alone = literal_goes d f (static_name_index f.name)
literal_chosen_goes base d f (References a) = literal_goes d f (static_name_index f.name)
literal_chosen_goes base d f (Names a) =
    named_goes base d _ _ f a (literal_goes d f (static_name_index f.name))
literal_chosen_goes base d f Inserts = literal_goes d f (static_name_index f.name)

line_chosen_goes : (names : Naming) (base : ℕ) (d : Draft) (f : Field) (c : Choice)
    → GoesOn d (line_chosen names base (draft_at d.table) f c) (line_chosen names base d f c)
line_chosen_goes names base d f Alone = line_goes d f (static_index f)
line_chosen_goes names base d f (References a) =
    goes_if (passes_at d.table (is_field f) a && may_reference d.table a) d _ _ _ _
    (record { table = refl; lines = refl; instructions = sym (append-nil d.instructions) }) (line_goes d f (static_index f))
line_chosen_goes names base d f (Names a) = named_goes base d _ _ f a (line_goes d f (static_index f))
line_chosen_goes names base d f Inserts =
    goes_if (below_limit d.table && has_room d.table f) d _ _ _ _
    (record { table = refl; lines = refl; instructions = refl }) (line_goes d f (static_index f))

unreferenced_goes : (names : Naming) (unreferenced : Bool) (d x u : Draft) (f : Field) → GoesOn d x u
    → GoesOn d (unreferenced_chosen names unreferenced x f) (unreferenced_chosen names unreferenced u f)
unreferenced_goes names unreferenced d x u f k =
    subst (λ (t : Table). GoesOn d (unreferenced_chosen names unreferenced x f)
    (cond (unreferenced && has_room t f) (record u {
      table = with_entry t (sent_entry f);
      instructions = u.instructions ++ instruction_naming names t f ∷ [];
    }) u)) (sym k.table)
    (goes_if (unreferenced && has_room x.table f) d (with_unreferenced_entry names x f) x
    (record u {
      table = with_entry x.table (sent_entry f);
      instructions = u.instructions ++ instruction_naming names x.table f ∷ [];
    }) u
    (record {
      table = refl;
      lines = k.lines;
      instructions = ap (λ (is : List EncoderInstruction). is ++ instruction_naming names x.table f ∷ [])
          k.instructions
          ∙ append_assoc d.instructions x.instructions (instruction_naming names x.table f ∷ []);
    }) k)

pub goes_chosen : (base : ℕ) (d : Draft) (l : FieldLine) (c : Chosen)
    → GoesOn d (chosen_field base (draft_at d.table) l c) (chosen_field base d l c)
goes_chosen base d l c =
    goes_if l.never_indexed d _ _ _ _ (literal_chosen_goes base d l.field c.line)
    (unreferenced_goes c.names c.unreferenced d (line_chosen c.names base (draft_at d.table) l.field c.line)
    (line_chosen c.names base d l.field c.line) l.field (line_chosen_goes c.names base d l.field c.line))

-- ---- one line for each field

-- one line more than before
abbrev OneMore : Draft → Draft → Type 0
OneMore d new = length new.lines ≡ length d.lines + 1

one_literal : (d : Draft) (f : Field) (o : Option ℕ) → OneMore d (literal_alone d f o)
one_literal d f (Some i) = length-append d.lines _
one_literal d f None = length-append d.lines _

one_alone : (d : Draft) (f : Field) (o : Option ℕ) → OneMore d (line_alone d f o)
one_alone d f (Some i) = length-append d.lines _
one_alone d f None = one_literal d f (static_name_index f.name)

one_named : (base : ℕ) (d other : Draft) (f : Field) (a : ℕ) → OneMore d other → OneMore d (named_or base d f a other)
one_named base d other f a k =
    cond_both (passes_at d.table (has_name f.name) a && may_reference d.table a) _ other (OneMore d)
    (λ _. length-append d.lines _) (λ _. k)

one_literal_chosen : (base : ℕ) (d : Draft) (f : Field) (c : Choice) → OneMore d (literal_chosen base d f c)
one_literal_chosen base d f Alone = one_literal d f (static_name_index f.name)
one_literal_chosen base d f (References a) = one_literal d f (static_name_index f.name)
one_literal_chosen base d f (Names a) = one_named base d _ f a (one_literal d f (static_name_index f.name))
one_literal_chosen base d f Inserts = one_literal d f (static_name_index f.name)

one_line_chosen : (names : Naming) (base : ℕ) (d : Draft) (f : Field) (c : Choice)
    → OneMore d (line_chosen names base d f c)
one_line_chosen names base d f Alone = one_alone d f (static_index f)
one_line_chosen names base d f (References a) =
    cond_both (passes_at d.table (is_field f) a && may_reference d.table a) _ (line_alone d f (static_index f)) (OneMore d)
    (λ _. length-append d.lines _) (λ _. one_alone d f (static_index f))
one_line_chosen names base d f (Names a) = one_named base d _ f a (one_alone d f (static_index f))
one_line_chosen names base d f Inserts =
    cond_both (below_limit d.table && has_room d.table f) _ (line_alone d f (static_index f)) (OneMore d)
    (λ _. length-append d.lines _) (λ _. one_alone d f (static_index f))

one_unreferenced : (names : Naming) (unreferenced : Bool) (d mid : Draft) (f : Field) → OneMore d mid
    → OneMore d (unreferenced_chosen names unreferenced mid f)
one_unreferenced names unreferenced d mid f k =
    cond_both (unreferenced && has_room mid.table f) (with_unreferenced_entry names mid f) mid (OneMore d) (λ _. k) (λ _. k)

one_chosen : (base : ℕ) (d : Draft) (l : FieldLine) (c : Chosen) → OneMore d (chosen_field base d l c)
one_chosen base d l c =
    field_by (OneMore d) base d l c (one_literal_chosen base d l.field c.line)
    (one_unreferenced c.names c.unreferenced d (line_chosen c.names base d l.field c.line) l.field
    (one_line_chosen c.names base d l.field c.line))

chosen_each : (base : ℕ) (d : Draft) (ls : List FieldLine) (cs : List Chosen)
    → length (chosen_fields base d ls cs).lines ≡ length d.lines + length ls
chosen_each base d [] cs = omega arith
chosen_each base d (l ∷ ls) [] =
    omega (arith, chosen_each base (chosen_field base d l alone_chosen) ls [], one_chosen base d l alone_chosen)
chosen_each base d (l ∷ ls) (c ∷ cs) =
    omega (arith, chosen_each base (chosen_field base d l c) ls cs, one_chosen base d l c)

-- ---- field lines that were added by some choices

-- the last field line is added to what the others made
last_chosen : (base : ℕ) (d : Draft) (ls : List FieldLine) (l : FieldLine) (cs : List Chosen) (c : Chosen)
    → length cs ≡ length ls
    → chosen_fields base d (ls ++ l ∷ []) (cs ++ c ∷ []) ≡ chosen_field base (chosen_fields base d ls cs) l c
last_chosen base d [] l [] c e = refl
last_chosen base d [] l (x ∷ cs) c e = absurd (omega (arith, e))
last_chosen base d (k ∷ ls) l [] c e = absurd (omega (arith, e))
last_chosen base d (k ∷ ls) l (x ∷ cs) c e = last_chosen base (chosen_field base d k x) ls l cs c (omega (arith, e))

goes_on_chosen : (t : Table) (base : ℕ) (ls : List FieldLine) (l : FieldLine) (cs : List Chosen) (c : Chosen)
    → length cs ≡ length ls
    → GoesOn (chosen_fields base (draft_at t) ls cs)
    (chosen_field base (draft_at (chosen_fields base (draft_at t) ls cs).table) l c)
    (chosen_fields base (draft_at t) (ls ++ l ∷ []) (cs ++ c ∷ []))
goes_on_chosen t base ls l cs c each =
    let d = chosen_fields base (draft_at t) ls cs in
    subst (λ (x : Draft). GoesOn d (chosen_field base (draft_at d.table) l c) x)
    (sym (last_chosen base (draft_at t) ls l cs c each)) (goes_chosen base d l c)

pub chosen_none : {coding : Coding} (t : Table) (base : ℕ) (lines written : List ℕ) → AddsChosen coding [] t base t lines lines written written
unfolding coded_marked_lines coded_lines coded_encoder_instructions
chosen_none {coding} t base lines written =
    record {
      choices = [];
      each = refl;
      adds = record { table = refl; lines = sym (append-nil lines); written = sym (append-nil written) };
    }

-- what one field line adds under some choice
abbrev AddsOne : Coding → FieldLine → ℕ → Table → Table → List ℕ → List ℕ → List ℕ → List ℕ → Type 0
AddsOne coding l base mid new lines_mid lines_new written_mid written_new =
    (c : Chosen) × AddsLines coding (l ∷ []) (chosen_field base (draft_at mid) l c) new lines_mid lines_new written_mid
    written_new

chosen_last : {coding : Coding} (t : Table) (base : ℕ) (ls : List FieldLine) (l : FieldLine) (mid new : Table)
    (lines_old lines_mid lines_new written_old written_mid written_new : List ℕ)
    → AddsChosen coding ls t base mid lines_old lines_mid written_old written_mid
    → AddsOne coding l base mid new lines_mid lines_new written_mid written_new
    → AddsChosen coding (ls ++ l ∷ []) t base new lines_old lines_new written_old written_new
chosen_last {coding} t base ls l mid new lines_old lines_mid lines_new written_old written_mid written_new so_far (c, more) =
    let d = chosen_fields base (draft_at t) ls so_far.choices in
    let goes = goes_on_chosen t base ls l so_far.choices c so_far.each in
    let m = chosen_field base (draft_at d.table) l c in
    let next : AddsLines coding (l ∷ []) m new lines_mid lines_new written_mid written_new =
    subst (λ (x : Table). AddsLines coding (l ∷ []) (chosen_field base (draft_at x) l c) new lines_mid lines_new written_mid
    written_new) so_far.adds.table more in
    record {
      choices = so_far.choices ++ c ∷ [];
      each = omega (arith, so_far.each, length-append so_far.choices (c ∷ []), length-append ls (l ∷ []));
      adds = record {
        table = next.table ∙ sym goes.table;
        lines = appended lines_old (coded_marked_lines coding ls d.lines) (coded_marked_lines coding (l ∷ []) m.lines)
            lines_mid lines_new so_far.adds.lines next.lines
            ∙ ap (λ (x : List ℕ). lines_old ++ x)
            (sym (ap (λ (x : List Line). coded_marked_lines coding (ls ++ l ∷ []) x) goes.lines
            ∙ lines_behind coding ls (l ∷ []) d.lines m.lines
            (omega (arith, chosen_each base (draft_at t) ls so_far.choices))));
        written = appended written_old (coded_encoder_instructions coding d.instructions)
            (coded_encoder_instructions coding m.instructions) written_mid written_new so_far.adds.written next.written
            ∙ ap (λ (x : List ℕ). written_old ++ x)
            (sym (ap (coded_encoder_instructions coding) goes.instructions
            ∙ instructions_behind coding d.instructions m.instructions));
      };
    }

-- ---- the first of some items

front_with : {H B : Type 0} (g : H → B) (xs : List H) (i : ℕ) (x : H) → i < length xs → x ≡ get_or xs i x
    → take (i + 1) (map g xs) ≡ map g (take i xs) ++ g x ∷ []
front_with g xs i x within is = take_of g xs (i + 1) ∙ rw (front_of g xs i x within, ← is) refl

-- ---- by position in a list of items that lend field lines

-- where memory was refused before the table of one more field line changed
stops_before : {coding : Coding} {H : Type 0} (line : H → FieldLine) (xs : List H) (i : ℕ) (t : Table) (base : ℕ) (mid new : Table)
    (lines_old lines_mid written_old written_mid written_new : List ℕ)
    → AddsChosen coding (map line (take i xs)) t base mid lines_old lines_mid written_old written_mid
    → without_references new ≡ without_references mid → written_new ≡ written_mid
    → StopsAmongChosen coding (map line xs) t base new written_old written_new
stops_before {coding} line xs i t base mid new lines_old lines_mid written_old written_mid written_new so_far same none =
    record {
      many = i;
      choices = so_far.choices;
      table = rw (take_of line xs i) (same ∙ ap (λ (x : Table). without_references x) so_far.adds.table);
      written = rw (take_of line xs i) (none ∙ so_far.adds.written);
    }

-- and where it was refused behind that
stops_behind : {coding : Coding} {H : Type 0} (line : H → FieldLine) (xs : List H) (i : ℕ) (x : H) (t : Table) (base : ℕ)
    (mid new : Table) (c : Chosen) (lines_old lines_mid written_old written_mid written_new : List ℕ)
    → i < length xs → x ≡ get_or xs i x
    → AddsChosen coding (map line (take i xs)) t base mid lines_old lines_mid written_old written_mid
    → new ≡ (chosen_field base (draft_at mid) (line x) c).table
    → written_new
    ≡ written_mid ++ coded_encoder_instructions coding (chosen_field base (draft_at mid) (line x) c).instructions
    → StopsAmongChosen coding (map line xs) t base new written_old written_new
stops_behind {coding} line xs i x t base mid new c lines_old lines_mid written_old written_mid written_new within is so_far table
    written =
    let ls = map line (take i xs) in
    let l = line x in
    let d = chosen_fields base (draft_at t) ls so_far.choices in
    let goes = goes_on_chosen t base ls l so_far.choices c so_far.each in
    let m = chosen_field base (draft_at d.table) l c in
    let now : mid ≡ d.table = so_far.adds.table in
    let front : take (i + 1) (map line xs) ≡ ls ++ l ∷ [] = front_with line xs i x within is in
    record {
      many = i + 1;
      choices = so_far.choices ++ c ∷ [];
      table = rw front (ap (λ (x : Table). without_references x)
          (table ∙ ap (λ (x : Table). (chosen_field base (draft_at x) l c).table) now ∙ sym goes.table));
      written = rw front (appended written_old (coded_encoder_instructions coding d.instructions)
          (coded_encoder_instructions coding m.instructions) written_mid written_new so_far.adds.written
          (written
          ∙ ap (λ (x : Table). written_mid
          ++ coded_encoder_instructions coding (chosen_field base (draft_at x) l c).instructions) now)
          ∙ ap (λ (x : List ℕ). written_old ++ x)
          (sym (ap (coded_encoder_instructions coding) goes.instructions
          ∙ instructions_behind coding d.instructions m.instructions)));
    }

-- ---- by a chooser

-- the chooser is asked for a field that is never to be indexed, and for one that no static field equals
pub asked_marked : {K W : Type 0} (chooses : Chooses K W) (before after : K) (base : ℕ) (t : Table)
    (l : FieldLine) (w : W) (c : Chosen) → l.never_indexed ≡ true → chooses before base t l w c after → ChoosesField chooses before base t l w c after
asked_marked chooses before after base t l w c marked k = by (static_index l.field) l.never_indexed marked
  where
    by : (o : Option ℕ) (b : Bool) → b ≡ true → ChoosesUnless o b chooses before base t l w c after
    by None b is = k
    by (Some i) true is = k
    by (Some i) false is = absurd cc

pub asked_new : {K W : Type 0} (chooses : Chooses K W) (before after : K) (base : ℕ) (t : Table)
    (l : FieldLine) (w : W) (c : Chosen) → static_index l.field ≡ None → chooses before base t l w c after → ChoosesField chooses before base t l w c after
asked_new chooses before after base t l w c none k =
    subst (λ (o : Option ℕ). ChoosesUnless o l.never_indexed chooses before base t l w c after) (sym none) k

-- and not for one that a static field equals
pub not_asked : {K W : Type 0} (chooses : Chooses K W) (k : K) (base : ℕ) (t : Table) (l : FieldLine) (w : W)
    (i : ℕ)
    → l.never_indexed ≡ false → static_index l.field ≡ Some i → ChoosesField chooses k base t l w alone_chosen k
not_asked chooses k base t l w i plain some =
    subst (λ (o : Option ℕ). ChoosesUnless o l.never_indexed chooses k base t l w alone_chosen k) (sym some)
    (subst (λ (b : Bool). ChoosesUnless (Some i) b chooses k base t l w alone_chosen k) (sym plain) (refl, refl))

chooses_last : {K W : Type 0} (chooses : Chooses K W) (base : ℕ) (d : Draft) (old mid new : K) (ls : List FieldLine)
    (ws : List W) (cs : List Chosen) (l : FieldLine) (w : W) (c : Chosen)
    → ChoosesAlong chooses base d old ls ws cs mid
    → ChoosesField chooses mid base (chosen_fields base d ls cs).table l w c new
    → ChoosesAlong chooses base d old (ls ++ l ∷ []) (ws ++ w ∷ []) (cs ++ c ∷ []) new
chooses_last {K = K} chooses base d old mid new [] [] [] l w c k one =
    subst (λ (x : K). (y : K) × ChoosesField chooses x base d.table l w c y × (new ≡ y)) k (new, one, refl)
chooses_last chooses base d old mid new (x ∷ ls) (v ∷ ws) (b ∷ cs) l w c (next, first, k) one =
    (next, first, chooses_last chooses base (chosen_field base d x b) next mid new ls ws cs l w c k one)
chooses_last chooses base d old mid new [] [] (b ∷ cs) l w c k one = absurd k
chooses_last chooses base d old mid new [] (v ∷ ws) cs l w c k one = absurd k
chooses_last chooses base d old mid new (x ∷ ls) [] cs l w c k one = absurd k
chooses_last chooses base d old mid new (x ∷ ls) (v ∷ ws) [] l w c k one = absurd k

pub along_none : {coding : Coding} {K W : Type 0} (chooses : Chooses K W) (t : Table) (base : ℕ) (k : K) (lines written : List ℕ)
    → AddsAlong coding chooses [] [] t base t k k lines lines written written
unfolding chosen_none
along_none {coding} chooses t base k lines written = record { adds = chosen_none t base lines written; along = refl }

along_last : {coding : Coding} {K W : Type 0} (chooses : Chooses K W) (t : Table) (base : ℕ) (ls : List FieldLine) (ws : List W)
    (l : FieldLine) (w : W) (mid new : Table) (first before after : K) (lines_old lines_mid lines_new written_old
    written_mid written_new : List ℕ)
    → AddsAlong coding chooses ls ws t base mid first before lines_old lines_mid written_old written_mid
    → AddsByChooser coding chooses l w base mid new before after lines_mid lines_new written_mid written_new
    → AddsAlong coding chooses (ls ++ l ∷ []) (ws ++ w ∷ []) t base new first after lines_old lines_new written_old
    written_new
unfolding chosen_last
along_last {coding} chooses t base ls ws l w mid new first before after lines_old lines_mid lines_new written_old written_mid
    written_new so_far one =
    record {
      adds = chosen_last t base ls l mid new lines_old lines_mid lines_new written_old written_mid written_new
          so_far.adds (one.choice, one.adds);
      along = chooses_last chooses base (draft_at t) first before after ls ws so_far.adds.choices l w one.choice
          so_far.along
          (subst (λ (x : Table). ChoosesField chooses before base x l w one.choice after) so_far.adds.adds.table one.chose);
    }

pub along_next : {coding : Coding} {K W H : Type 0} (chooses : Chooses K W) (line : H → FieldLine) (wish : H → W) (xs : List H) (i : ℕ)
    (x : H) (f : FieldLine) (w : W) (t : Table) (base other : ℕ) (mid new : Table) (first before after : K)
    (lines_old lines_mid lines_new written_old written_mid written_new : List ℕ)
    → i < length xs → x ≡ get_or xs i x → other ≡ base → f ≡ line x → w ≡ wish x
    → AddsAlong coding chooses (map line (take i xs)) (map wish (take i xs)) t base mid first before lines_old lines_mid
    written_old written_mid
    → AddsByChooser coding chooses f w other mid new before after lines_mid lines_new written_mid written_new
    → AddsAlong coding chooses (map line (take (i + 1) xs)) (map wish (take (i + 1) xs)) t base new first after lines_old
    lines_new written_old written_new
along_next {coding} {W = W} chooses line wish xs i x f w t base other mid new first before after lines_old lines_mid lines_new
    written_old written_mid written_new within is same lent asked so_far more =
    rw (front_of line xs i x within, front_of wish xs i x within, ← is)
    (along_last chooses t base (map line (take i xs)) (map wish (take i xs)) (line x) (wish x) mid new first before
    after lines_old lines_mid lines_new written_old written_mid written_new so_far
    (subst (λ (b : ℕ). AddsByChooser coding chooses (line x) (wish x) b mid new before after lines_mid lines_new written_mid
    written_new) same
    (subst (λ (v : W). AddsByChooser coding chooses (line x) v other mid new before after lines_mid lines_new written_mid
    written_new) asked
    (subst (λ (l : FieldLine). AddsByChooser coding chooses l w other mid new before after lines_mid lines_new written_mid
    written_new) lent more))))

-- ---- where memory was refused, by a chooser

stops_along : {coding : Coding} {K W H : Type 0} (chooses : Chooses K W) (line : H → FieldLine) (wish : H → W) (xs : List H) (i : ℕ)
    (x : H) (t : Table) (base : ℕ) (mid new : Table) (first before : K)
    (lines_old lines_mid written_old written_mid written_new : List ℕ)
    → i < length xs → x ≡ get_or xs i x
    → AddsAlong coding chooses (map line (take i xs)) (map wish (take i xs)) t base mid first before lines_old lines_mid
    written_old written_mid
    → StopsByChooser coding chooses (line x) (wish x) base mid new before written_mid written_new
    → StopsAlong coding chooses (map line xs) (map wish xs) t base new first written_old written_new
unfolding stops_before stops_behind
stops_along {coding} {K = K} chooses line wish xs i x t base mid new first before lines_old lines_mid written_old written_mid
    written_new within is so_far one =
    elim one.stops [
      | inl h ↦
          record {
            stops = stops_before line xs i t base mid new lines_old lines_mid written_old written_mid written_new
                so_far.adds h.0 h.1;
            after = before;
            along = rw (take_of line xs i, take_of wish xs i) so_far.along;
          }
      | inr h ↦
          record {
            stops = stops_behind line xs i x t base mid new one.choice lines_old lines_mid written_old written_mid
                written_new within is so_far.adds h.0 h.1;
            after = one.after;
            along = rw (front_with line xs i x within is, front_with wish xs i x within is)
                (chooses_last chooses base (draft_at t) first before one.after (map line (take i xs))
                (map wish (take i xs)) so_far.adds.choices (line x) (wish x) one.choice so_far.along
                (subst (λ (u : Table). ChoosesField chooses before base u (line x) (wish x) one.choice one.after)
                so_far.adds.adds.table one.chose));
          }
    ]

pub stops_along_next : {coding : Coding} {K W H : Type 0} (chooses : Chooses K W) (line : H → FieldLine) (wish : H → W) (xs : List H)
    (i : ℕ) (x : H) (f : FieldLine) (w : W) (t : Table) (base other : ℕ) (mid new : Table) (first before : K)
    (lines_old lines_mid written_old written_mid written_new : List ℕ)
    → i < length xs → x ≡ get_or xs i x → other ≡ base → f ≡ line x → w ≡ wish x
    → AddsAlong coding chooses (map line (take i xs)) (map wish (take i xs)) t base mid first before lines_old lines_mid
    written_old written_mid
    → StopsByChooser coding chooses f w other mid new before written_mid written_new
    → StopsAlong coding chooses (map line xs) (map wish xs) t base new first written_old written_new
stops_along_next {coding} {W = W} chooses line wish xs i x f w t base other mid new first before lines_old lines_mid written_old
    written_mid written_new within is same lent asked so_far one =
    stops_along chooses line wish xs i x t base mid new first before lines_old lines_mid written_old written_mid
    written_new within is so_far
    (subst (λ (b : ℕ). StopsByChooser coding chooses (line x) (wish x) b mid new before written_mid written_new) same
    (subst (λ (v : W). StopsByChooser coding chooses (line x) v other mid new before written_mid written_new) asked
    (subst (λ (l : FieldLine). StopsByChooser coding chooses l w other mid new before written_mid written_new) lent one)))
