-- The line of a field by what is chosen for it, and an insertion after it that no line references.
use Rattle.std.proofs.Common.{◌≡◌, ℕ, ◌+◌, ◌-◌, ◌≤◌, List, [], ◌∷◌, ◌++◌, length, Bool, true, false, cond, Option, None, Some, refl}
use Rattle.std.proofs.Common.{sym, ap, subst, ◌∙◌, arith, append-nil, inr, Ok}
use Rattle.std.proofs.Common.{◌<◌, drop}
use Rattle.std.specs.Option.{option_eq}
use Rattle.std.specs.Prelude.{◌&&◌, nat_eq, nat_le, nat_lt, slice_get}
use Rattle.std.proofs.lemmas.Bool.{and_parts, cond_both, eqb-true, lt-ltb, ltb-true}
use Rattle.std.proofs.lemmas.List.{length-map}
use Rattle.std.proofs.lemmas.Option.{slice_get_within}
use Rattle.qpack_spec.specs.Chosen.{Naming, Chosen, Alone, References, Names, Inserts, passes_at, literal_alone}
use Rattle.qpack_spec.specs.Chosen.{line_alone, literal_chosen, line_uninserted, line_chosen, unreferenced_chosen}
use Rattle.qpack_spec.specs.Chosen.{chosen_field, passed_over, instruction_naming}
use Rattle.qpack_spec.specs.Chosen.{alone_chosen, some_passes}
use Rattle.qpack_spec.specs.Field.{Field, FieldLine, has_name, is_field}
use Rattle.qpack_spec.specs.Handle.{Lookup, AtStatic, AtRelative, AtPostBase, NotFound, Found, found_entry, lookup_of}
use Rattle.qpack_spec.specs.Handle.{literal_at, line_of, answer_of, Insertion, Insertable}
use Rattle.qpack_spec.specs.Instruction.{EncoderInstruction, InsertStaticName, InsertDynamicName, InsertLiteralName}
use Rattle.qpack_spec.specs.Instruction.{Duplicate, SetCapacity, coded_encoder_instruction}
use Rattle.qpack_spec.specs.Instruction.{coded_encoder_instructions}
use Rattle.qpack_spec.specs.Line.{Line, IndexedStatic, IndexedDynamic, IndexedPostBase, NamedDynamic}
use Rattle.qpack_spec.specs.Line.{NamedStatic, NamedPostBase, Literal, written_line, coded_line, coded_lines, coded_marked_line}
use Rattle.qpack_spec.specs.Marked.{coded_marked_lines}
use Rattle.qpack_spec.specs.MarkedLaws.{is_literal}
use Rattle.qpack_spec.specs.Rule.{Draft, with_inserted, by_name, by_static_name, by_equal, instruction_for}
use Rattle.qpack_spec.specs.Stateless.{stateless_literal}
use Rattle.qpack_spec.specs.StaticTable.{static_index, static_name_index}
use Rattle.qpack_spec.specs.Table.{Entry, Table, fields_in, insert_count, newest_index, may_reference, with_reference}
use Rattle.qpack_spec.specs.Table.{without_references, has_room, below_limit, eviction_count_for}
use Rattle.qpack_spec.specs.Text.{Coding}
use Rattle.qpack_spec.proofs.Positions.{FoundEntry, newest_found}
use Rattle.qpack_table.specs.Handles.{IsSoughtIn, InsertsIf, insertion_at, insertion_of, referenced_insertion}
use Rattle.qpack_table.specs.Handles.{unreferenced_insertion}
use Rattle.qpack_table.specs.Handles.{lookup_of as result_of}
use Rattle.qpack_table.specs.declared.dynamic.encoder.DynamicInsertionResult.{DynamicInsertionResult}
use Rattle.qpack_table.specs.declared.dynamic.encoder.DynamicLookupResult.{DynamicLookupResult}
use Rattle.qpack_table.specs.declared.dynamic.encoder.DynamicLookupResult.TheVariants as answer
use Rattle.qpack_table.specs.declared.dynamic.sought.SoughtField.{SoughtField}
use Rattle.qpack_codec.specs.Choices.{by_entry, line_choice, inserts_after, chosen_of}
use Rattle.qpack_codec.specs.ChosenSections.{AddsLine}
use Rattle.qpack_codec.specs.Encoding.{draft_at, written_insertion, Adds, AddsLines, StopsAdding}
use Rattle.qpack_codec.specs.declared.encoder.choices.Choice as choice
use Rattle.qpack_codec.proofs.MarkedFields.{written_unmarked, lines_unmarked}

-- ---- an entry that was found

found_passes : (t : Table) (p : Field → Bool) (a : ℕ) → FoundEntry t p a → passes_at t p a ≡ true
found_passes t p a at =
    let n : a - t.dropped - 1 ≡ at.position = omega (arith, at.index) in
    rw (lt-ltb t.dropped a at.above, n, at.there) at.passes

-- an entry that passes is live
pub record LiveAt (t : Table) (a : ℕ) : Type 0 where
  pub above : t.dropped < a
  pub within : a ≤ insert_count t

pub passes_live : (t : Table) (p : Field → Bool) (a : ℕ) → passes_at t p a ≡ true → LiveAt t a
passes_live t p a h =
    let both = and_parts (nat_lt t.dropped a) (some_passes p (slice_get (fields_in t.live) (a - t.dropped - 1))) h in
    let above = ltb-true t.dropped a both.0 in
    record { above = above; within = within above (slice_get (fields_in t.live) (a - t.dropped - 1)) refl both.1 }
  where
    within : t.dropped < a → (o : Option Field) → slice_get (fields_in t.live) (a - t.dropped - 1) ≡ o
        → some_passes p o ≡ true → a ≤ insert_count t
    within above (Some f) there q =
        omega (
          arith,
          above,
          slice_get_within (fields_in t.live) (a - t.dropped - 1) f there,
          length-map t.live (λ (e : Entry). e.field),
        )
    within above None there q = absurd cc

-- the newest equal entry passes
pub newest_passes : (t : Table) (f : Field) (o : Option ℕ) (a : ℕ) → o ≡ newest_index t (is_field f)
    → option_eq nat_eq o (Some a) ≡ true → passes_at t (is_field f) a ≡ true
newest_passes t f o a newest equal =
    found_passes t (is_field f) a (newest_found t (is_field f) a (sym newest ∙ same o equal))
  where
    same : (o : Option ℕ) → option_eq nat_eq o (Some a) ≡ true → o ≡ Some a
    same None h = absurd cc
    same (Some b) h = ap (λ (n : ℕ). Some n) (eqb-true b a h)

-- to find an entry changes what is referenced alone
entry_keeps : (t : Table) (base : ℕ) (o : Option ℕ)
    → without_references (found_entry t base o).table ≡ without_references t
unfolding without_references with_reference
entry_keeps t base None = refl
entry_keeps t base (Some a) =
    cond_both (may_reference t a) _ _ (λ (x : Found). without_references x.table ≡ without_references t) (λ b. refl)
    (λ b. refl)

pub found_keeps : (t new : Table) (base : ℕ) (o : Option ℕ) (lookup : Lookup)
    → found_entry t base o ≡ record { lookup = lookup; table = new } → without_references new ≡ without_references t
found_keeps t new base o lookup is =
    ap (λ (x : Found). without_references x.table) (sym is) ∙ entry_keeps t base o

same_newest : (t : Table) (base : ℕ) (o : Option ℕ) (p : Field → Bool)
    → newest_index (found_entry t base o).table p ≡ newest_index t p
unfolding newest_index with_reference
same_newest t base None p = refl
same_newest t base (Some a) p =
    cond_both (may_reference t a) _ _ (λ (x : Found). newest_index x.table p ≡ newest_index t p) (λ b. refl) (λ b. refl)

-- what was sought stays where it is
pub sought_still : (t new : Table) (base : ℕ) (o : Option ℕ) (lookup : Lookup) (f : Field) (sought : SoughtField)
    → found_entry t base o ≡ record { lookup = lookup; table = new } → IsSoughtIn t f sought → IsSoughtIn new f sought
sought_still t new base o lookup f sought found k =
    record {
      hashes = k.hashes;
      newest = k.newest ∙ sym (same_newest t base o (is_field f))
          ∙ ap (λ (x : Found). newest_index x.table (is_field f)) found;
      static_name = k.static_name;
    }

-- ---- a line without the dynamic table

literal_alone_is : (t : Table) (f : Field) (o : Option ℕ)
    → literal_alone (draft_at t) f o ≡ record { table = t; lines = stateless_literal f o ∷ []; instructions = [] }
literal_alone_is t f None = refl
literal_alone_is t f (Some i) = refl

line_alone_is : (t : Table) (f : Field) → static_index f ≡ None
    → line_alone (draft_at t) f (static_index f)
    ≡ record { table = t; lines = stateless_literal f (static_name_index f.name) ∷ []; instructions = [] }
line_alone_is t f none = rw none (literal_alone_is t f (static_name_index f.name))

one_marked_line : (coding : Coding) (l : FieldLine) (x : Line)
    → coded_marked_lines coding (l ∷ []) (x ∷ []) ≡ coded_marked_line coding l.never_indexed x
unfolding coded_marked_lines coded_lines
one_marked_line coding l x = append-nil (coded_marked_line coding l.never_indexed x)

-- a draft of one line, which was written
adds_line : {coding : Coding} (l : FieldLine) (d : Draft) (new : Table) (x : Line) (lines_old lines_new : List ℕ)
    → d ≡ record { table = new; lines = x ∷ []; instructions = [] }
    → lines_new ≡ lines_old ++ coded_marked_line coding l.never_indexed x → AddsLine coding l d new lines_old lines_new
adds_line {coding} l d new x lines_old lines_new is lines =
    record {
      table = sym (ap (λ (y : Draft). y.table) is);
      none = ap (λ (y : Draft). y.instructions) is;
      lines = lines
          ∙ ap (λ (b : List ℕ). lines_old ++ b)
          (sym (ap (λ (y : Draft). coded_marked_lines coding (l ∷ []) y.lines) is ∙ one_marked_line coding l x));
    }

-- a line without a string is the same under any coding
indexed_line : (coding : Coding) (l : Line) → is_literal l ≡ false → written_line l ≡ coded_line coding l
unfolding coded_line
indexed_line coding (IndexedStatic index) k = refl
indexed_line coding (IndexedDynamic relative) k = refl
indexed_line coding (IndexedPostBase post_base) k = refl
indexed_line coding (NamedStatic index value) k = absurd cc
indexed_line coding (NamedDynamic relative value) k = absurd cc
indexed_line coding (NamedPostBase post_base value) k = absurd cc
indexed_line coding (Literal name value) k = absurd cc

-- ---- the line of an equal entry

abbrev pub equal_line : Field → Lookup → Line
equal_line f (AtRelative index absolute) = IndexedDynamic index
equal_line f (AtPostBase index absolute) = IndexedPostBase index
equal_line f (AtStatic index) = stateless_literal f (static_name_index f.name)
equal_line f NotFound = stateless_literal f (static_name_index f.name)

reference_line_is : (base a : ℕ) (f : Field)
    → cond (nat_le a base) (IndexedDynamic (base - a)) (IndexedPostBase (a - base - 1))
    ≡ equal_line f (lookup_of base a)
reference_line_is base a f = both (nat_le a base)
  where
    both : (b : Bool) → cond b (IndexedDynamic (base - a)) (IndexedPostBase (a - base - 1))
        ≡ equal_line f (cond b (AtRelative (base - a) a) (AtPostBase (a - base - 1) a))
    both true = refl
    both false = refl

equal_is : (t : Table) (base : ℕ) (f : Field) (a : ℕ) → passes_at t (is_field f) a ≡ true → static_index f ≡ None
    → line_uninserted base (draft_at t) f (References a)
    ≡ record {
      table = (found_entry t base (Some a)).table;
      lines = equal_line f (found_entry t base (Some a)).lookup ∷ [];
      instructions = [];
    }
equal_is t base f a passes none = rw passes (both (may_reference t a))
  where
    both : (b : Bool)
        → cond b (record {
          table = with_reference t a;
          lines = cond (nat_le a base) (IndexedDynamic (base - a)) (IndexedPostBase (a - base - 1)) ∷ [];
          instructions = [];
        }) (line_alone (draft_at t) f (static_index f))
        ≡ (let x : Found =
        cond b (record { lookup = lookup_of base a; table = with_reference t a })
        (record { lookup = NotFound; table = t }) in
        let d : Draft = record { table = x.table; lines = equal_line f x.lookup ∷ []; instructions = [] } in d)
    both true =
        ap (λ (x : Line). let d : Draft = record {
          table = with_reference t a;
          lines = x ∷ [];
          instructions = [];
        } in d) (reference_line_is base a f)
    both false = line_alone_is t f none

adds_found_equal : {coding : Coding} (t new : Table) (base : ℕ) (l : FieldLine) (a : ℕ) (lookup : Lookup) (x : Line)
    (lines_old lines_new : List ℕ) → passes_at t (is_field l.field) a ≡ true → static_index l.field ≡ None
    → found_entry t base (Some a) ≡ record { lookup = lookup; table = new } → equal_line l.field lookup ≡ x
    → lines_new ≡ lines_old ++ coded_marked_line coding l.never_indexed x
    → AddsLine coding l (line_uninserted base (draft_at t) l.field (References a)) new lines_old lines_new
adds_found_equal {coding} t new base l a lookup x lines_old lines_new passes none found is lines =
    adds_line l _ new x lines_old lines_new
    (equal_is t base l.field a passes none
    ∙ ap (λ (y : Found). let d : Draft = record {
      table = y.table;
      lines = equal_line l.field y.lookup ∷ [];
      instructions = [];
    } in d) found
    ∙ ap (λ (y : Line). let d : Draft = record { table = new; lines = y ∷ []; instructions = [] } in d) is)
    lines

pub adds_equal : {coding : Coding} (t new : Table) (base : ℕ) (l : FieldLine) (a : ℕ) (lookup : Lookup) (x : Line)
    (lines_old lines_new : List ℕ) → l.never_indexed ≡ false → passes_at t (is_field l.field) a ≡ true
    → static_index l.field ≡ None → found_entry t base (Some a) ≡ record { lookup = lookup; table = new }
    → equal_line l.field lookup ≡ x → is_literal x ≡ false → lines_new ≡ lines_old ++ written_line x
    → AddsLine coding l (line_uninserted base (draft_at t) l.field (References a)) new lines_old lines_new
adds_equal {coding} t new base l a lookup x lines_old lines_new unmarked passes none found is indexed lines =
    adds_found_equal t new base l a lookup x lines_old lines_new passes none found is
    (lines
    ∙ ap (λ (b : List ℕ). lines_old ++ b)
    (indexed_line coding x indexed
    ∙ sym (ap (λ (b : Bool). coded_marked_line coding b x) unmarked ∙ written_unmarked coding l.field x)))

-- the entry is not live, or another field: a line without the dynamic table
pub adds_no_equal : {coding : Coding} (t : Table) (base : ℕ) (l : FieldLine) (a : ℕ) (lines_old lines_new : List ℕ)
    → passes_at t (is_field l.field) a ≡ false → static_index l.field ≡ None
    → lines_new ≡ lines_old
    ++ coded_marked_line coding l.never_indexed (stateless_literal l.field (static_name_index l.field.name))
    → AddsLine coding l (line_uninserted base (draft_at t) l.field (References a)) t lines_old lines_new
adds_no_equal {coding} t base l a lines_old lines_new other none lines =
    adds_line l _ t (stateless_literal l.field (static_name_index l.field.name)) lines_old lines_new
    (rw other (line_alone_is t l.field none)) lines

-- no entry was found that may be referenced
no_line : (f : Field) (lookup : DynamicLookupResult)
    → ((index absolute : ℕ) → lookup ≡ answer.Relative index absolute → ⊥)
    → ((index absolute : ℕ) → lookup ≡ answer.PostBase index absolute → ⊥)
    → equal_line f (result_of lookup) ≡ stateless_literal f (static_name_index f.name)
no_line f (answer.Static index) before since = refl
no_line f (answer.Relative index absolute) before since = absurd (before index absolute refl)
no_line f (answer.PostBase index absolute) before since = absurd (since index absolute refl)
no_line f answer.NotFound before since = refl

pub adds_equal_alone : {coding : Coding} (t new : Table) (base : ℕ) (l : FieldLine) (a : ℕ) (lookup : DynamicLookupResult)
    (lines_old lines_new : List ℕ) → passes_at t (is_field l.field) a ≡ true → static_index l.field ≡ None
    → found_entry t base (Some a) ≡ record { lookup = result_of lookup; table = new }
    → ((index absolute : ℕ) → lookup ≡ answer.Relative index absolute → ⊥)
    → ((index absolute : ℕ) → lookup ≡ answer.PostBase index absolute → ⊥)
    → lines_new ≡ lines_old
    ++ coded_marked_line coding l.never_indexed (stateless_literal l.field (static_name_index l.field.name))
    → AddsLine coding l (line_uninserted base (draft_at t) l.field (References a)) new lines_old lines_new
adds_equal_alone {coding} t new base l a lookup lines_old lines_new passes none found before since lines =
    adds_found_equal t new base l a (result_of lookup) (stateless_literal l.field (static_name_index l.field.name))
    lines_old lines_new passes none found (no_line l.field lookup before since) lines

-- ---- a literal with the name of an entry

abbrev pub named_line : Field → Lookup → Line
named_line f NotFound = stateless_literal f (static_name_index f.name)
named_line f lookup = literal_at f lookup

name_line_is : (base a : ℕ) (f : Field)
    → cond (nat_le a base) (NamedDynamic (base - a) f.value) (NamedPostBase (a - base - 1) f.value)
    ≡ named_line f (lookup_of base a)
name_line_is base a f = both (nat_le a base)
  where
    both : (b : Bool) → cond b (NamedDynamic (base - a) f.value) (NamedPostBase (a - base - 1) f.value)
        ≡ named_line f (cond b (AtRelative (base - a) a) (AtPostBase (a - base - 1) a))
    both true = refl
    both false = refl

named_is : (t : Table) (base : ℕ) (f : Field) (o : Option ℕ) → newest_index t (has_name f.name) ≡ o
    → literal_chosen base (draft_at t) f (by_entry Names o)
    ≡ record {
      table = (found_entry t base o).table;
      lines = named_line f (found_entry t base o).lookup ∷ [];
      instructions = [];
    }
named_is t base f None at = literal_alone_is t f (static_name_index f.name)
named_is t base f (Some a) at =
    rw (found_passes t (has_name f.name) a (newest_found t (has_name f.name) a at)) (both (may_reference t a))
  where
    both : (b : Bool)
        → cond b (record {
          table = with_reference t a;
          lines = cond (nat_le a base) (NamedDynamic (base - a) f.value) (NamedPostBase (a - base - 1) f.value) ∷ [];
          instructions = [];
        }) (literal_alone (draft_at t) f (static_name_index f.name))
        ≡ (let x : Found =
        cond b (record { lookup = lookup_of base a; table = with_reference t a })
        (record { lookup = NotFound; table = t }) in
        let d : Draft = record { table = x.table; lines = named_line f x.lookup ∷ []; instructions = [] } in d)
    both true =
        ap (λ (x : Line). let d : Draft = record {
          table = with_reference t a;
          lines = x ∷ [];
          instructions = [];
        } in d) (name_line_is base a f)
    both false = literal_alone_is t f (static_name_index f.name)

pub adds_named : {coding : Coding} (t new : Table) (base : ℕ) (l : FieldLine) (o : Option ℕ) (lookup : Lookup)
    (lines_old lines_new : List ℕ) → o ≡ newest_index t (has_name l.field.name)
    → found_entry t base o ≡ record { lookup = lookup; table = new }
    → lines_new ≡ lines_old ++ coded_marked_line coding l.never_indexed (named_line l.field lookup)
    → AddsLine coding l
    (literal_chosen base (draft_at t) l.field (by_entry Names (newest_index t (has_name l.field.name)))) new lines_old
    lines_new
adds_named {coding} t new base l o lookup lines_old lines_new at found lines =
    adds_line l _ new (named_line l.field lookup) lines_old lines_new
    (ap (λ (n : Option ℕ). literal_chosen base (draft_at t) l.field (by_entry Names n)) (sym at)
    ∙ named_is t base l.field o (sym at)
    ∙ ap (λ (y : Found). let d : Draft = record {
      table = y.table;
      lines = named_line l.field y.lookup ∷ [];
      instructions = [];
    } in d) found)
    lines

-- an entry of the name was found
pub named_of : (f : Field) (lookup : DynamicLookupResult) → (lookup ≡ answer.NotFound → ⊥)
    → named_line f (result_of lookup) ≡ literal_at f (result_of lookup)
named_of f (answer.Static index) some = refl
named_of f (answer.Relative index absolute) some = refl
named_of f (answer.PostBase index absolute) some = refl
named_of f answer.NotFound some = absurd (some refl)

adds_alone : {coding : Coding} (t : Table) (base : ℕ) (l : FieldLine) (lines_old lines_new : List ℕ) → static_index l.field ≡ None
    → lines_new ≡ lines_old
    ++ coded_marked_line coding l.never_indexed (stateless_literal l.field (static_name_index l.field.name))
    → AddsLine coding l (line_uninserted base (draft_at t) l.field Alone) t lines_old lines_new
adds_alone {coding} t base l lines_old lines_new none lines =
    adds_line l _ t (stateless_literal l.field (static_name_index l.field.name)) lines_old lines_new
    (line_alone_is t l.field none) lines

-- no other choice
pub adds_only_alone : {coding : Coding} (t : Table) (base : ℕ) (l : FieldLine) (c : choice.Choice) (lines_old lines_new : List ℕ)
    → static_index l.field ≡ None
    → ((entry : ℕ) (inserts : Bool) → c ≡ choice.TheVariants.Equal entry inserts → ⊥)
    → ((inserts : Bool) → c ≡ choice.TheVariants.Named inserts → ⊥) → (c ≡ choice.TheVariants.Inserted → ⊥)
    → lines_new ≡ lines_old
    ++ coded_marked_line coding l.never_indexed (stateless_literal l.field (static_name_index l.field.name))
    → AddsLine coding l (line_uninserted base (draft_at t) l.field (line_choice t l.field c)) t lines_old lines_new
adds_only_alone {coding} t base l (choice.TheVariants.Alone inserts) lines_old lines_new none equal named inserted lines =
    adds_alone t base l lines_old lines_new none lines
adds_only_alone {coding} t base l (choice.TheVariants.Equal entry inserts) lines_old lines_new none equal named inserted lines =
    absurd (equal entry inserts refl)
adds_only_alone {coding} t base l (choice.TheVariants.Named inserts) lines_old lines_new none equal named inserted lines =
    absurd (named inserts refl)
adds_only_alone {coding} t base l choice.TheVariants.Inserted lines_old lines_new none equal named inserted lines =
    absurd (inserted refl)

-- ---- a marked field

-- any choice but a name is a literal without the dynamic table
pub adds_literal_alone : {coding : Coding} (t : Table) (base : ℕ) (l : FieldLine) (c : choice.Choice) (lines_old lines_new : List ℕ)
    → ((inserts : Bool) → c ≡ choice.TheVariants.Named inserts → ⊥)
    → lines_new ≡ lines_old
    ++ coded_marked_line coding l.never_indexed (stateless_literal l.field (static_name_index l.field.name))
    → AddsLine coding l (literal_chosen base (draft_at t) l.field (line_choice t l.field c)) t lines_old lines_new
adds_literal_alone {coding} t base l c lines_old lines_new other lines =
    adds_line l _ t (stateless_literal l.field (static_name_index l.field.name)) lines_old lines_new (is c other) lines
  where
    alone : literal_alone (draft_at t) l.field (static_name_index l.field.name)
        ≡ record {
          table = t;
          lines = stateless_literal l.field (static_name_index l.field.name) ∷ [];
          instructions = [];
        }
    alone = literal_alone_is t l.field (static_name_index l.field.name)

    is : (c : choice.Choice) → ((inserts : Bool) → c ≡ choice.TheVariants.Named inserts → ⊥)
        → literal_chosen base (draft_at t) l.field (line_choice t l.field c)
        ≡ record {
          table = t;
          lines = stateless_literal l.field (static_name_index l.field.name) ∷ [];
          instructions = [];
        }
    is (choice.TheVariants.Alone inserts) other = alone
    is (choice.TheVariants.Equal entry inserts) other = alone
    is (choice.TheVariants.Named inserts) other = absurd (other inserts refl)
    is choice.TheVariants.Inserted other = alone

marked_is : (t : Table) (base : ℕ) (l : FieldLine) (c : Chosen) → l.never_indexed ≡ true
    → chosen_field base (draft_at t) l c ≡ literal_chosen base (draft_at t) l.field c.line
marked_is t base l c is =
    ap (λ (b : Bool). cond b (literal_chosen base (draft_at t) l.field c.line)
    (unreferenced_chosen c.names c.unreferenced (line_chosen c.names base (draft_at t) l.field c.line) l.field)) is

-- its line is that of a choice
pub adds_marked : {coding : Coding} (t new : Table) (base : ℕ) (l : FieldLine) (c : Chosen) (lines_old lines_new written : List ℕ)
    → l.never_indexed ≡ true
    → AddsLine coding l (literal_chosen base (draft_at t) l.field c.line) new lines_old lines_new
    → AddsLines coding (l ∷ []) (chosen_field base (draft_at t) l c) new lines_old lines_new written written
unfolding coded_encoder_instructions
adds_marked {coding} t new base l c lines_old lines_new written never k =
    subst (λ (d : Draft). AddsLines coding (l ∷ []) d new lines_old lines_new written written)
    (sym (marked_is t base l c never))
    (record {
      table = k.table;
      lines = k.lines;
      written = sym (append-nil written) ∙ ap (λ is. written ++ coded_encoder_instructions coding is) (sym k.none);
    })

-- ---- a field that may be indexed

unmarked_is : (t : Table) (base : ℕ) (l : FieldLine) (c : Chosen) → l.never_indexed ≡ false
    → chosen_field base (draft_at t) l c
    ≡ unreferenced_chosen c.names c.unreferenced (line_chosen c.names base (draft_at t) l.field c.line) l.field
unmarked_is t base l c is =
    ap (λ (b : Bool). cond b (literal_chosen base (draft_at t) l.field c.line)
    (unreferenced_chosen c.names c.unreferenced (line_chosen c.names base (draft_at t) l.field c.line) l.field)) is

-- nothing is inserted for its line
pub uninserted_is : (names : Naming) (t : Table) (base : ℕ) (f : Field) (c : choice.Choice)
    → (c ≡ choice.TheVariants.Inserted → ⊥)
    → line_chosen names base (draft_at t) f (line_choice t f c) ≡ line_uninserted base (draft_at t) f (line_choice t f c)
uninserted_is names t base f (choice.TheVariants.Alone inserts) other = refl
uninserted_is names t base f (choice.TheVariants.Equal entry inserts) other = refl
uninserted_is names t base f (choice.TheVariants.Named inserts) other = by (newest_index t (has_name f.name))
  where
    by : (o : Option ℕ)
        → line_chosen names base (draft_at t) f (by_entry Names o) ≡ line_uninserted base (draft_at t) f (by_entry Names o)
    by None = refl
    by (Some a) = refl
uninserted_is names t base f choice.TheVariants.Inserted other = absurd (other refl)

-- only its line was written
pub adds_uninserted : {coding : Coding} (names : Naming) (t new : Table) (base : ℕ) (l : FieldLine) (c : choice.Choice)
    (lines_old lines_new written : List ℕ) → l.never_indexed ≡ false → (c ≡ choice.TheVariants.Inserted → ⊥)
    → inserts_after c ≡ false
    → AddsLine coding l (line_uninserted base (draft_at t) l.field (line_choice t l.field c)) new lines_old lines_new
    → AddsLines coding (l ∷ []) (chosen_field base (draft_at t) l (chosen_of names t l.field c)) new lines_old lines_new written
    written
unfolding coded_encoder_instructions
adds_uninserted {coding} names t new base l c lines_old lines_new written unmarked other none k =
    let d = line_uninserted base (draft_at t) l.field (line_choice t l.field c) in
    let is : chosen_field base (draft_at t) l (chosen_of names t l.field c) ≡ d =
    unmarked_is t base l (chosen_of names t l.field c) unmarked
    ∙ ap (λ (b : Bool). unreferenced_chosen names b (line_chosen names base (draft_at t) l.field (line_choice t l.field c))
    l.field) none
    ∙ uninserted_is names t base l.field c other in
    subst (λ (x : Draft). AddsLines coding (l ∷ []) x new lines_old lines_new written written) (sym is)
    (record {
      table = k.table;
      lines = k.lines;
      written = sym (append-nil written)
          ∙ ap (λ is. written ++ coded_encoder_instructions coding is) (sym k.none);
    })

-- ---- a field that is inserted for its line

-- the room and the limit were asked
inserts_is : (names : Naming) (t : Table) (base : ℕ) (f : Field) → (below_limit t && has_room t f) ≡ true
    → line_chosen names base (draft_at t) f Inserts
    ≡ with_inserted base (draft_at t) f (instruction_naming names t f)
inserts_is names t base f can = rw can refl

inserts_none : (names : Naming) (t : Table) (base : ℕ) (f : Field) → (below_limit t && has_room t f) ≡ false
    → line_chosen names base (draft_at t) f Inserts ≡ line_alone (draft_at t) f (static_index f)
inserts_none names t base f can = rw can refl

-- what is written of an insertion's answer is its instruction
IsOf : Coding → Field → EncoderInstruction → Type 0
IsOf coding f i = (p a : ℕ) → written_insertion coding f (answer_of i p a) ≡ coded_encoder_instruction coding i

of_name : (coding : Coding) (f : Field) (n : ℕ) (o : Option ℕ) → IsOf coding f (by_name f n o)
unfolding IsOf
of_name coding f n (Some i) = λ p a. refl
of_name coding f n None = λ p a. refl

of_static : (coding : Coding) (f : Field) (stay : List Field) (o : Option ℕ) → IsOf coding f (by_static_name f stay o)
unfolding IsOf
of_static coding f stay (Some i) = λ p a. refl
of_static coding f stay None = of_name coding f (length stay) _

of_equal : (coding : Coding) (f : Field) (stay : List Field) (o : Option ℕ) → IsOf coding f (by_equal f stay o)
unfolding IsOf
of_equal coding f stay (Some i) = λ p a. refl
of_equal coding f stay None = of_static coding f stay (static_name_index f.name)

of_field : (coding : Coding) (f : Field) (stay : List Field) → IsOf coding f (instruction_for f stay)
unfolding instruction_for
of_field coding f stay = of_equal coding f stay _

-- its instructions, as they are written
insertion_written : (coding : Coding) (names : Naming) (t : Table) (base : ℕ) (f : Field) (i : Insertion) → insertion_at names t base f ≡ i
    → written_insertion coding f i ≡ coded_encoder_instructions coding (instruction_naming names t f ∷ [])
unfolding coded_encoder_instructions IsOf
insertion_written coding names t base f i is =
    ap (λ (x : Insertion). written_insertion coding f x) (sym is)
    ∙ of_field coding f (drop (passed_over names (eviction_count_for t f)) (fields_in t.live)) (insert_count t - base)
    (insert_count t + 1)
    ∙ sym (append-nil (coded_encoder_instruction coding (instruction_naming names t f)))

answer_line : (f : Field) (i : EncoderInstruction) (p a : ℕ) → line_of f (answer_of i p a) ≡ IndexedPostBase p
answer_line f (InsertStaticName x v) p a = refl
answer_line f (InsertDynamicName x v) p a = refl
answer_line f (InsertLiteralName n v) p a = refl
answer_line f (Duplicate x) p a = refl
answer_line f (SetCapacity n) p a = refl

one_line : (coding : Coding) (l : Line) → coded_lines coding (l ∷ []) ≡ coded_line coding l
unfolding coded_lines
one_line coding l = append-nil (coded_line coding l)

-- a field was inserted for its line, which was written or not: the table after it, and its instruction
pub record IsInserted (coding : Coding) (names : Naming) (t : Table) (base : ℕ) (f : Field) (insertion : Insertion) (new : Table)
    (written_old written_new : List ℕ) : Type 0 where
  pub can : (below_limit t && has_room t f) ≡ true
  pub is : referenced_insertion names t base f ≡ record { insertion = insertion; table = new }
  pub written : written_new ≡ written_old ++ written_insertion coding f insertion

inserted_table : {coding : Coding} {names : Naming} {t : Table} {base : ℕ} {f : Field} {i : Insertion} {new : Table} {written_old written_new : List ℕ}
    → IsInserted coding names t base f i new written_old written_new → new ≡ (line_chosen names base (draft_at t) f Inserts).table
inserted_table {coding} {names} {t} {base} {f} k =
    sym (ap (λ (x : Insertable). x.table) k.is) ∙ sym (ap (λ (d : Draft). d.table) (inserts_is names t base f k.can))

inserted_written : {coding : Coding} {names : Naming} {t : Table} {base : ℕ} {f : Field} {i : Insertion} {new : Table} {written_old written_new : List ℕ}
    → IsInserted coding names t base f i new written_old written_new
    → written_new
    ≡ written_old ++ coded_encoder_instructions coding (line_chosen names base (draft_at t) f Inserts).instructions
inserted_written {coding} {names} {t} {base} {f} {i} {new} {written_old} k =
    k.written
    ∙ ap (λ (b : List ℕ). written_old ++ b)
    (insertion_written coding names t base f i (ap (λ (x : Insertable). x.insertion) k.is))
    ∙ sym (ap (λ (d : Draft). written_old ++ coded_encoder_instructions coding d.instructions)
    (inserts_is names t base f k.can))

pub adds_new : {coding : Coding} {names : Naming} {t : Table} {base : ℕ} {f : Field} {i : Insertion} {new : Table} {written_old written_new : List ℕ}
    → IsInserted coding names t base f i new written_old written_new → (lines_old lines_new : List ℕ)
    → lines_new ≡ lines_old ++ coded_line coding (line_of f i)
    → Adds coding (line_chosen names base (draft_at t) f Inserts) new lines_old lines_new written_old written_new
adds_new {coding} {names} {t} {base} {f} {i} k lines_old lines_new lines =
    let insertion : insertion_at names t base f ≡ i = ap (λ (x : Insertable). x.insertion) k.is in
    record {
      table = inserted_table k;
      lines = lines
          ∙ ap (λ (x : Insertion). lines_old ++ coded_line coding (line_of f x)) (sym insertion)
          ∙ ap (λ (x : Line). lines_old ++ coded_line coding x)
          (answer_line f (instruction_naming names t f) (insert_count t - base) (insert_count t + 1))
          ∙ ap (λ (b : List ℕ). lines_old ++ b) (sym (one_line coding (IndexedPostBase (insert_count t - base))))
          ∙ sym (ap (λ (d : Draft). lines_old ++ coded_lines coding d.lines) (inserts_is names t base f k.can));
      written = inserted_written k;
    }

-- its line is refused
pub stops_new : {coding : Coding} {names : Naming} {t : Table} {base : ℕ} {f : Field} {i : Insertion} {new : Table} {written_old written_new : List ℕ}
    → IsInserted coding names t base f i new written_old written_new
    → StopsAdding coding (line_chosen names base (draft_at t) f Inserts) t new written_old written_new
stops_new {coding} k = inr (inserted_table k, inserted_written k)

-- there was no room for it, or no more may be blocked
pub adds_not_new : {coding : Coding} (names : Naming) (t new : Table) (base : ℕ) (l : FieldLine) (lines_old lines_new written_old written_new : List ℕ)
    → (below_limit t && has_room t l.field) ≡ false → new ≡ t → static_index l.field ≡ None → l.never_indexed ≡ false
    → lines_new ≡ lines_old
    ++ coded_marked_line coding l.never_indexed (stateless_literal l.field (static_name_index l.field.name))
    → written_new ≡ written_old
    → Adds coding (line_chosen names base (draft_at t) l.field Inserts) new lines_old lines_new written_old written_new
unfolding coded_encoder_instructions
adds_not_new {coding} names t new base l lines_old lines_new written_old written_new can same none unmarked lines written =
    let x = stateless_literal l.field (static_name_index l.field.name) in
    let is = inserts_none names t base l.field can ∙ line_alone_is t l.field none in
    record {
      table = same ∙ sym (ap (λ (d : Draft). d.table) is);
      lines = lines
          ∙ ap (λ (b : List ℕ). lines_old ++ b)
          (ap (λ (b : Bool). coded_marked_line coding b x) unmarked ∙ written_unmarked coding l.field x ∙ sym (one_line coding x))
          ∙ sym (ap (λ (d : Draft). lines_old ++ coded_lines coding d.lines) is);
      written = written ∙ sym (append-nil written_old)
          ∙ sym (ap (λ (d : Draft). written_old ++ coded_encoder_instructions coding d.instructions) is);
    }

-- its line is that of a choice
pub new_unmarked : {coding : Coding} (names : Naming) (t new : Table) (base : ℕ) (l : FieldLine) (c : choice.Choice)
    (lines_old lines_new written_old written_new : List ℕ) → l.never_indexed ≡ false
    → c ≡ choice.TheVariants.Inserted
    → Adds coding (line_chosen names base (draft_at t) l.field Inserts) new lines_old lines_new written_old written_new
    → AddsLines coding (l ∷ []) (chosen_field base (draft_at t) l (chosen_of names t l.field c)) new lines_old lines_new written_old
    written_new
new_unmarked {coding} names t new base l c lines_old lines_new written_old written_new unmarked is adds =
    let d = line_chosen names base (draft_at t) l.field Inserts in
    subst (λ (x : Draft). AddsLines coding (l ∷ []) x new lines_old lines_new written_old written_new)
    (sym (unmarked_is t base l (chosen_of names t l.field choice.TheVariants.Inserted) unmarked)
    ∙ ap (λ (k : choice.Choice). chosen_field base (draft_at t) l (chosen_of names t l.field k)) (sym is))
    (record {
      table = adds.table;
      lines = adds.lines ∙ ap (λ (b : List ℕ). lines_old ++ b) (sym (lines_unmarked coding t l d.lines unmarked));
      written = adds.written;
    })

-- ---- an equal static field

pub static_chosen : {coding : Coding} (t : Table) (base : ℕ) (l : FieldLine) (index : ℕ) (lines_old lines_new written : List ℕ)
    → l.never_indexed ≡ false → static_index l.field ≡ Some index
    → lines_new ≡ lines_old ++ written_line (IndexedStatic index)
    → AddsLines coding (l ∷ []) (chosen_field base (draft_at t) l alone_chosen) t lines_old lines_new written written
unfolding coded_encoder_instructions
static_chosen {coding} t base l index lines_old lines_new written unmarked at lines =
    let d : Draft = record { table = t; lines = IndexedStatic index ∷ []; instructions = [] } in
    let is : line_alone (draft_at t) l.field (static_index l.field) ≡ d = rw at refl in
    subst (λ (x : Draft). AddsLines coding (l ∷ []) x t lines_old lines_new written written)
    (sym (unmarked_is t base l alone_chosen unmarked ∙ is))
    (record {
      table = refl;
      lines = lines
          ∙ ap (λ (b : List ℕ). lines_old ++ b)
          (indexed_line coding (IndexedStatic index) refl
          ∙ sym (lines_unmarked coding t l (IndexedStatic index ∷ []) unmarked ∙ one_line coding (IndexedStatic index)));
      written = sym (append-nil written);
    })

-- ---- an insertion that no line references

pub unreferenced_written : (coding : Coding) (names : Naming) (t new : Table) (base : ℕ) (f : Field) (insertion : Insertion)
    (written_old written_new : List ℕ) → has_room t f ≡ true
    → unreferenced_insertion names t base f ≡ record { insertion = insertion; table = new }
    → written_new ≡ written_old ++ written_insertion coding f insertion
    → written_new ≡ written_old
    ++ coded_encoder_instructions coding (unreferenced_chosen names true (draft_at t) f).instructions
unreferenced_written coding names t new base f insertion written_old written_new room is written =
    rw room (written
    ∙ ap (λ (b : List ℕ). written_old ++ b)
    (insertion_written coding names t base f insertion (ap (λ (x : Insertable). x.insertion) is)))

pub no_room_written : (coding : Coding) (names : Naming) (t : Table) (f : Field) (written_old written_new : List ℕ) → has_room t f ≡ false
    → written_new ≡ written_old
    → written_new ≡ written_old
    ++ coded_encoder_instructions coding (unreferenced_chosen names true (draft_at t) f).instructions
unfolding coded_encoder_instructions
no_room_written coding names t f written_old written_new room same = rw room (same ∙ sym (append-nil written_old))

-- ---- what an insertion that depends on room answers

pub inserts_some : (can : Bool) (o : Option DynamicInsertionResult) (i : DynamicInsertionResult) (inserted : Insertable)
    (old new : Table) → o ≡ Some i → InsertsIf can (Ok o) inserted old new
    → (can ≡ true) × (inserted ≡ record { insertion = insertion_of i; table = new })
inserts_some can o i inserted old new is =
    subst (λ (x : Option DynamicInsertionResult). InsertsIf can (Ok x) inserted old new
    → (can ≡ true) × (inserted ≡ record { insertion = insertion_of i; table = new })) (sym is) (λ k. k)

pub inserts_nothing : (can : Bool) (o : Option DynamicInsertionResult) (inserted : Insertable) (old new : Table)
    → o ≡ None → InsertsIf can (Ok o) inserted old new → (can ≡ false) × (new ≡ old)
inserts_nothing can o inserted old new is =
    subst (λ (x : Option DynamicInsertionResult). InsertsIf can (Ok x) inserted old new → (can ≡ false) × (new ≡ old))
    (sym is) (λ k. k)

-- ---- what a line leaves of the table

alone_keeps : (t : Table) (f : Field) (o : Option ℕ) → (line_alone (draft_at t) f o).table ≡ t
alone_keeps t f (Some i) = refl
alone_keeps t f None = ap (λ (d : Draft). d.table) (literal_alone_is t f (static_name_index f.name))

-- a line without an insertion changes what is referenced alone
pub line_keeps : (t : Table) (base : ℕ) (f : Field) (c : choice.Choice) → (c ≡ choice.TheVariants.Inserted → ⊥)
    → without_references (line_uninserted base (draft_at t) f (line_choice t f c)).table ≡ without_references t
unfolding without_references with_reference
line_keeps t base f c other = pick c other
  where
    alone : without_references (line_alone (draft_at t) f (static_index f)).table ≡ without_references t
    alone = ap (λ (x : Table). without_references x) (alone_keeps t f (static_index f))

    equal : (a : ℕ) → without_references (line_uninserted base (draft_at t) f (References a)).table ≡ without_references t
    equal a =
        cond_both (passes_at t (is_field f) a && may_reference t a) _ (line_alone (draft_at t) f (static_index f))
        (λ (d : Draft). without_references d.table ≡ without_references t) (λ _. refl) (λ _. alone)

    named : (o : Option ℕ)
        → without_references (line_uninserted base (draft_at t) f (by_entry Names o)).table ≡ without_references t
    named None = alone
    named (Some a) =
        cond_both (passes_at t (has_name f.name) a && may_reference t a) _ (line_alone (draft_at t) f (static_index f))
        (λ (d : Draft). without_references d.table ≡ without_references t) (λ _. refl) (λ _. alone)

    pick : (c : choice.Choice) → (c ≡ choice.TheVariants.Inserted → ⊥)
        → without_references (line_uninserted base (draft_at t) f (line_choice t f c)).table ≡ without_references t
    pick (choice.TheVariants.Alone inserts) other = alone
    pick (choice.TheVariants.Equal entry inserts) other = equal entry
    pick (choice.TheVariants.Named inserts) other = named (newest_index t (has_name f.name))
    pick choice.TheVariants.Inserted other = absurd (other refl)
