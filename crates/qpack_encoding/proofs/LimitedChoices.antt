-- A section that is written where no more sections may be blocked is one that some choices write where more may be.
use Rattle.std.proofs.Common.{ℕ, suc, ◌^◌, take, ◌⊎◌, inl, inr, ◌≡◌, ◌≤◌, Bool, true, false, cond, List, [], ◌∷◌, Option, None, Some, refl, sym, ap, ◌∙◌}
use Rattle.std.proofs.Common.{subst, arith, length, Ok, ◌+◌, unwrap_or}
use Rattle.std.specs.Prelude.{nat_eq, nat_lt, nat_le, ◌&&◌, ◌||◌}
use Rattle.std.proofs.lemmas.Bool.{cond_both, leb-true, le-ltb}
use Rattle.qpack_spec.specs.Chosen.{Choice, Alone, References, Names, Inserts, Naming, Chosen, alone_chosen, passes_at}
use Rattle.qpack_spec.specs.Chosen.{literal_alone, line_alone, named_or, literal_chosen, line_chosen, chosen_field}
use Rattle.qpack_spec.specs.Chosen.{unreferenced_chosen, instruction_naming}
use Rattle.qpack_spec.specs.Chosen.{chosen_fields, chosen_rule, entry_reference_line, with_unreferenced_entry}
use Rattle.qpack_spec.specs.Field.{Field, FieldLine, field_size, has_name, is_field}
use Rattle.qpack_spec.specs.Reading.{greatest_of}
use Rattle.qpack_spec.specs.Rule.{Draft, empty_draft, with_referencing_line, with_inserted, name_reference_line}
use Rattle.qpack_spec.specs.StaticTable.{static_index, static_name_index}
use Rattle.qpack_spec.specs.Table.{Table, UnacknowledgedBlock, below_limit, may_reference, has_room, with_reference, with_entry}
use Rattle.qpack_spec.specs.Table.{insert_count, without_references, Entry, all_evictable, is_evictable}
use Rattle.qpack_spec.specs.Table.{eviction_count_for}
use Rattle.qpack_spec.specs.Line.{Line}
use Rattle.qpack_spec.specs.Table.{commit, with_unacknowledged, with_capacity, can_evict, fields_in, with_increment}
use Rattle.qpack_spec.specs.Table.{without_oldest, apply_decoder_instruction}
use Rattle.qpack_spec.specs.Bytes.{◌>>=◌}
use Rattle.qpack_spec.specs.Instruction.{EncoderInstruction, DecoderInstruction, Acknowledgment, Cancellation}
use Rattle.qpack_spec.specs.Instruction.{Increment}
use Rattle.qpack_spec.specs.Rule.{committed_table}
use Rattle.qpack_rules.specs.StrictInstructions.{strict_hear, hear_in_turn, or_unknown, known_at_least, oldest_required}
use Rattle.qpack_spec.specs.Window.{or_refusal, UnknownStream, greatest_capacity, eviction_count}
use Rattle.qpack_spec.proofs.Results.{bind_ok, ok_is}
use Rattle.qpack_spec.proofs.References.{greatest_track}

-- ---- what choices leave as it is

stays_alone : (d : Draft) (f : Field) (o : Option ℕ) → (line_alone d f o).table ≡ d.table
stays_alone d f (Some i) = refl
stays_alone d f None = by (static_name_index f.name)
  where
    by : (o : Option ℕ) → (literal_alone d f o).table ≡ d.table
    by (Some i) = refl
    by None = refl

literal_table : (d : Draft) (f : Field) (o : Option ℕ) → (literal_alone d f o).table ≡ d.table
literal_table d f (Some i) = refl
literal_table d f None = refl

pub record Keeps (t u : Table) : Type 0 where
  pub known : u.known_received_count ≡ t.known_received_count
  pub unacknowledged : u.unacknowledged ≡ t.unacknowledged
  pub limit : u.limit ≡ t.limit

keeps_as : (t u : Table) → u ≡ t → Keeps t u
keeps_as t u e =
    record {
      known = ap (λ (x : Table). x.known_received_count) e;
      unacknowledged = ap (λ (x : Table). x.unacknowledged) e;
      limit = ap (λ (x : Table). x.limit) e;
    }

keeps_then : (t u v : Table) → Keeps t u → Keeps u v → Keeps t v
keeps_then t u v k m =
    record { known = m.known ∙ k.known; unacknowledged = m.unacknowledged ∙ k.unacknowledged; limit = m.limit ∙ k.limit }

keeps_referenced : (t : Table) (a : ℕ) → Keeps t (with_reference t a)
unfolding with_reference
keeps_referenced t a = record { known = refl; unacknowledged = refl; limit = refl }

keeps_inserted : (d : Draft) (base : ℕ) (f : Field) (i : EncoderInstruction)
    → Keeps d.table (with_inserted base d f i).table
unfolding with_reference with_entry
keeps_inserted d base f i = record { known = refl; unacknowledged = refl; limit = refl }

keeps_unreferenced : (names : Naming) (d : Draft) (f : Field)
    → Keeps d.table (with_unreferenced_entry names d f).table
unfolding with_entry
keeps_unreferenced names d f = record { known = refl; unacknowledged = refl; limit = refl }

keeps_named : (base : ℕ) (d : Draft) (f : Field) (a : ℕ) (other : Draft) → other.table ≡ d.table
    → Keeps d.table (named_or base d f a other).table
keeps_named base d f a other same =
    cond_both (passes_at d.table (has_name f.name) a && may_reference d.table a) _ other
    (λ (x : Draft). Keeps d.table x.table) (λ _. keeps_referenced d.table a) (λ _. keeps_as d.table other.table same)

keeps_literal : (base : ℕ) (d : Draft) (f : Field) (c : Choice) → Keeps d.table (literal_chosen base d f c).table
keeps_literal base d f (Names a) =
    keeps_named base d f a (literal_alone d f (static_name_index f.name)) (literal_table d f (static_name_index f.name))
keeps_literal base d f Alone = keeps_as _ _ (literal_table d f (static_name_index f.name))
keeps_literal base d f (References a) = keeps_as _ _ (literal_table d f (static_name_index f.name))
keeps_literal base d f Inserts = keeps_as _ _ (literal_table d f (static_name_index f.name))

keeps_line : (names : Naming) (base : ℕ) (d : Draft) (f : Field) (c : Choice)
    → Keeps d.table (line_chosen names base d f c).table
keeps_line names base d f Alone = keeps_as _ _ (stays_alone d f (static_index f))
keeps_line names base d f (References a) =
    cond_both (passes_at d.table (is_field f) a && may_reference d.table a) _ (line_alone d f (static_index f))
    (λ (x : Draft). Keeps d.table x.table) (λ _. keeps_referenced d.table a)
    (λ _. keeps_as _ _ (stays_alone d f (static_index f)))
keeps_line names base d f (Names a) =
    keeps_named base d f a (line_alone d f (static_index f)) (stays_alone d f (static_index f))
keeps_line names base d f Inserts =
    cond_both (below_limit d.table && has_room d.table f) _ (line_alone d f (static_index f))
    (λ (x : Draft). Keeps d.table x.table) (λ _. keeps_inserted d base f (instruction_naming names d.table f))
    (λ _. keeps_as _ _ (stays_alone d f (static_index f)))

keeps_after : (names : Naming) (b : Bool) (d : Draft) (f : Field)
    → Keeps d.table (unreferenced_chosen names b d f).table
keeps_after names b d f =
    cond_both (b && has_room d.table f) _ d (λ (x : Draft). Keeps d.table x.table) (λ _. keeps_unreferenced names d f)
    (λ _. keeps_as d.table d.table refl)

keeps_field : (base : ℕ) (d : Draft) (l : FieldLine) (c : Chosen) → Keeps d.table (chosen_field base d l c).table
keeps_field base d l c =
    cond_both l.never_indexed (literal_chosen base d l.field c.line)
    (unreferenced_chosen c.names c.unreferenced (line_chosen c.names base d l.field c.line) l.field)
    (λ (x : Draft). Keeps d.table x.table) (λ _. keeps_literal base d l.field c.line)
    (λ _. keeps_then d.table (line_chosen c.names base d l.field c.line).table _
    (keeps_line c.names base d l.field c.line)
    (keeps_after c.names c.unreferenced (line_chosen c.names base d l.field c.line) l.field))

keeps_fields : (base : ℕ) (d : Draft) (ls : List FieldLine) (cs : List Chosen)
    → Keeps d.table (chosen_fields base d ls cs).table
keeps_fields base d [] cs = keeps_as d.table d.table refl
keeps_fields base d (l ∷ ls) [] =
    keeps_then d.table (chosen_field base d l alone_chosen).table _ (keeps_field base d l alone_chosen)
    (keeps_fields base (chosen_field base d l alone_chosen) ls [])
keeps_fields base d (l ∷ ls) (c ∷ cs) =
    keeps_then d.table (chosen_field base d l c).table _ (keeps_field base d l c)
    (keeps_fields base (chosen_field base d l c) ls cs)

pub keeps_chosen : (t : Table) (ls : List FieldLine) (cs : List Chosen) → Keeps t (chosen_rule t ls cs).table
unfolding chosen_rule without_references
keeps_chosen t ls cs =
    let k = keeps_fields (insert_count t) (empty_draft t) ls cs in
    record { known = k.known; unacknowledged = k.unacknowledged; limit = k.limit }

-- ---- where no section may be blocked, nothing is required that is not known

below_none : (t : Table) → t.limit ≡ 0 → below_limit t ≡ false
below_none t none = le-ltb (length t.blocked) t.limit (omega (arith, none))

may_known : (t : Table) (a : ℕ) → t.limit ≡ 0 → may_reference t a ≡ nat_le a t.known_received_count
unfolding may_reference
may_known t a none = ap (λ b. b || nat_le a t.known_received_count) (below_none t none)

-- the block in progress references no entry above the known received count
abbrev IsKnown : Table → Type 0
IsKnown t = greatest_of t.referenced ≤ t.known_received_count

known_as : (t u : Table) → u ≡ t → IsKnown t → IsKnown u
known_as t u e k = subst IsKnown (sym e) k

and_second : (b c : Bool) → (b && c) ≡ true → c ≡ true
and_second true c h = h
and_second false c h = absurd cc

known_referenced : (t : Table) (p : Bool) (a : ℕ) → t.limit ≡ 0 → (p && may_reference t a) ≡ true → IsKnown t
    → IsKnown (with_reference t a)
unfolding with_reference
known_referenced t p a none e k =
    omega (
      arith,
      k,
      greatest_track t.referenced a,
      leb-true a t.known_received_count (sym (may_known t a none) ∙ and_second p (may_reference t a) e),
    )

known_named : (base : ℕ) (d : Draft) (f : Field) (a : ℕ) (other : Draft) → d.table.limit ≡ 0 → other.table ≡ d.table
    → IsKnown d.table → IsKnown (named_or base d f a other).table
known_named base d f a other none same k =
    cond_both (passes_at d.table (has_name f.name) a && may_reference d.table a) _ other
    (λ (x : Draft). IsKnown x.table) (λ e. known_referenced d.table _ a none e k) (λ _. known_as d.table other.table same k)

known_literal : (base : ℕ) (d : Draft) (f : Field) (c : Choice) → d.table.limit ≡ 0 → IsKnown d.table
    → IsKnown (literal_chosen base d f c).table
known_literal base d f (Names a) none k =
    known_named base d f a (literal_alone d f (static_name_index f.name)) none
    (literal_table d f (static_name_index f.name)) k
known_literal base d f Alone none k = known_as _ _ (literal_table d f (static_name_index f.name)) k
known_literal base d f (References a) none k = known_as _ _ (literal_table d f (static_name_index f.name)) k
known_literal base d f Inserts none k = known_as _ _ (literal_table d f (static_name_index f.name)) k

known_line : (names : Naming) (base : ℕ) (d : Draft) (f : Field) (c : Choice) → d.table.limit ≡ 0 → IsKnown d.table
    → IsKnown (line_chosen names base d f c).table
known_line names base d f Alone none k = known_as _ _ (stays_alone d f (static_index f)) k
known_line names base d f (References a) none k =
    cond_both (passes_at d.table (is_field f) a && may_reference d.table a) _ (line_alone d f (static_index f))
    (λ (x : Draft). IsKnown x.table) (λ e. known_referenced d.table _ a none e k)
    (λ _. known_as _ _ (stays_alone d f (static_index f)) k)
known_line names base d f (Names a) none k =
    known_named base d f a (line_alone d f (static_index f)) none (stays_alone d f (static_index f)) k
known_line names base d f Inserts none k =
    cond_both (below_limit d.table && has_room d.table f) _ (line_alone d f (static_index f))
    (λ (x : Draft). IsKnown x.table) (λ e. absurd (not_below e)) (λ _. known_as _ _ (stays_alone d f (static_index f)) k)
  where
    not_below : (below_limit d.table && has_room d.table f) ≡ true → ⊥
    not_below e =
        let x : (false && has_room d.table f) ≡ true = subst (λ b. (b && has_room d.table f) ≡ true) (below_none d.table none) e in
        cc

known_after : (names : Naming) (b : Bool) (d : Draft) (f : Field) → IsKnown d.table
    → IsKnown (unreferenced_chosen names b d f).table
unfolding with_entry
known_after names b d f k =
    cond_both (b && has_room d.table f) _ d (λ (x : Draft). IsKnown x.table) (λ _. k) (λ _. k)

known_field : (base : ℕ) (d : Draft) (l : FieldLine) (c : Chosen) → d.table.limit ≡ 0 → IsKnown d.table
    → IsKnown (chosen_field base d l c).table
known_field base d l c none k =
    cond_both l.never_indexed (literal_chosen base d l.field c.line)
    (unreferenced_chosen c.names c.unreferenced (line_chosen c.names base d l.field c.line) l.field)
    (λ (x : Draft). IsKnown x.table) (λ _. known_literal base d l.field c.line none k)
    (λ _. known_after c.names c.unreferenced (line_chosen c.names base d l.field c.line) l.field
    (known_line c.names base d l.field c.line none k))

known_fields : (base : ℕ) (d : Draft) (ls : List FieldLine) (cs : List Chosen) → d.table.limit ≡ 0 → IsKnown d.table
    → IsKnown (chosen_fields base d ls cs).table
known_fields base d [] cs none k = k
known_fields base d (l ∷ ls) [] none k =
    known_fields base (chosen_field base d l alone_chosen) ls [] ((keeps_field base d l alone_chosen).limit ∙ none)
    (known_field base d l alone_chosen none k)
known_fields base d (l ∷ ls) (c ∷ cs) none k =
    known_fields base (chosen_field base d l c) ls cs ((keeps_field base d l c).limit ∙ none)
    (known_field base d l c none k)

pub known_chosen : (t : Table) (ls : List FieldLine) (cs : List Chosen) → t.limit ≡ 0
    → greatest_of (chosen_rule t ls cs).table.referenced ≤ t.known_received_count
unfolding chosen_rule without_references greatest_of
known_chosen t ls cs none =
    let k : IsKnown (empty_draft t).table = omega arith in
    omega (arith, known_fields (insert_count t) (empty_draft t) ls cs none k, (keeps_chosen t ls cs).known)

-- ---- the same by other choices where more sections may be blocked

-- the draft where no section may be blocked
abbrev pub lowered : Draft → Draft
lowered d = record d { table = record d.table { limit = 0 } }

-- what a choice does to a draft where no section may be blocked, some choice does where more may be
abbrev Matches : {C : Type 0} → Draft → (Draft → C → Draft) → C → Type 0
Matches {C = C} d f c = (other : C) × (f (lowered d) c ≡ lowered (f d other))

alone_lowered : (d : Draft) (f : Field) (o : Option ℕ) → line_alone (lowered d) f o ≡ lowered (line_alone d f o)
alone_lowered d f (Some i) = refl
alone_lowered d f None = by (static_name_index f.name)
  where
    by : (o : Option ℕ) → literal_alone (lowered d) f o ≡ lowered (literal_alone d f o)
    by (Some i) = refl
    by None = refl

literal_lowered : (d : Draft) (f : Field) (o : Option ℕ) → literal_alone (lowered d) f o ≡ lowered (literal_alone d f o)
literal_lowered d f (Some i) = refl
literal_lowered d f None = refl

referenced_lowered : (d : Draft) (a : ℕ) (l : Line) → with_referencing_line (lowered d) a l ≡ lowered (with_referencing_line d a l)
unfolding with_reference
referenced_lowered d a l = refl

-- what may be referenced there may be where more may be blocked
may_still : (t : Table) (p : Bool) (a : ℕ) → (p && may_reference (record t { limit = 0 }) a) ≡ true
    → (p && may_reference t a) ≡ true
unfolding may_reference
may_still t true a e = by (below_limit t) (sym (may_known (record t { limit = 0 }) a refl) ∙ e)
  where
    by : (b : Bool) → nat_le a t.known_received_count ≡ true → (b || nat_le a t.known_received_count) ≡ true
    by true h = refl
    by false h = h
may_still t false a e = absurd cc

-- a reference, else another line
matches_reference : (d : Draft) (p : Bool) (a : ℕ) (l : Line) (other : Draft → Draft)
    → other (lowered d) ≡ lowered (other d)
    → ((cond (p && may_reference d.table a) (with_referencing_line d a l) (other d) ≡ with_referencing_line d a l)
    × (cond (p && may_reference (lowered d).table a) (with_referencing_line (lowered d) a l) (other (lowered d))
    ≡ lowered (with_referencing_line d a l)))
    ⊎ (cond (p && may_reference (lowered d).table a) (with_referencing_line (lowered d) a l) (other (lowered d))
    ≡ lowered (other d))
matches_reference d p a l other same = by (p && may_reference (lowered d).table a) refl
  where
    by : (b : Bool) → (p && may_reference (lowered d).table a) ≡ b
        → ((cond (p && may_reference d.table a) (with_referencing_line d a l) (other d) ≡ with_referencing_line d a l)
        × (cond b (with_referencing_line (lowered d) a l) (other (lowered d)) ≡ lowered (with_referencing_line d a l)))
        ⊎ (cond b (with_referencing_line (lowered d) a l) (other (lowered d)) ≡ lowered (other d))
    by true e =
        inl (ap (λ b. cond b (with_referencing_line d a l) (other d)) (may_still d.table p a e), referenced_lowered d a l)
    by false e = inr same

matches_line : (names : Naming) (base : ℕ) (f : Field) (d : Draft) (c : Choice)
    → Matches d (λ x y. line_chosen names base x f y) c
matches_line names base f d Alone = (Alone, alone_lowered d f (static_index f))
matches_line names base f d (References a) =
    elim (matches_reference d (passes_at d.table (is_field f) a) a (entry_reference_line base a)
    (λ x. line_alone x f (static_index f)) (alone_lowered d f (static_index f))) [
      | inl k ↦ (References a, k.1 ∙ ap lowered (sym k.0))
      | inr k ↦ (Alone, k)
    ]
matches_line names base f d (Names a) =
    elim (matches_reference d (passes_at d.table (has_name f.name) a) a (name_reference_line base a f)
    (λ x. line_alone x f (static_index f)) (alone_lowered d f (static_index f))) [
      | inl k ↦ (Names a, k.1 ∙ ap lowered (sym k.0))
      | inr k ↦ (Alone, k)
    ]
matches_line names base f d Inserts = (
  Alone,
  ap (λ b. cond (b && has_room (lowered d).table f)
      (with_inserted base (lowered d) f (instruction_naming names (lowered d).table f)) (line_alone (lowered d) f (static_index f))) (below_none (lowered d).table refl)
      ∙ alone_lowered d f (static_index f),
)

matches_literal : (base : ℕ) (f : Field) (d : Draft) (c : Choice) → Matches d (λ x y. literal_chosen base x f y) c
matches_literal base f d (Names a) =
    elim (matches_reference d (passes_at d.table (has_name f.name) a) a (name_reference_line base a f)
    (λ x. literal_alone x f (static_name_index f.name)) (literal_lowered d f (static_name_index f.name))) [
      | inl k ↦ (Names a, k.1 ∙ ap lowered (sym k.0))
      | inr k ↦ (Alone, k)
    ]
matches_literal base f d Alone = (Alone, literal_lowered d f (static_name_index f.name))
matches_literal base f d (References a) = (Alone, literal_lowered d f (static_name_index f.name))
matches_literal base f d Inserts = (Alone, literal_lowered d f (static_name_index f.name))

evictable_lowered : (t : Table) (a : ℕ) (es : List Entry)
    → all_evictable (record t { limit = 0 }) a es ≡ all_evictable t a es
unfolding all_evictable is_evictable
evictable_lowered t a [] = refl
evictable_lowered t a (e ∷ es) = ap (λ b. cond (is_evictable t a e.sent) b false) (evictable_lowered t (suc a) es)

room_lowered : (t : Table) (f : Field) → has_room (record t { limit = 0 }) f ≡ has_room t f
unfolding has_room
room_lowered t f =
    ap (λ b. nat_le (field_size f) t.capacity && (nat_lt (insert_count t) (2 ^ 62) && b))
    (evictable_lowered t (suc t.dropped) (take (eviction_count_for t f) t.live))

after_lowered : (names : Naming) (b : Bool) (d : Draft) (f : Field)
    → unreferenced_chosen names b (lowered d) f ≡ lowered (unreferenced_chosen names b d f)
unfolding with_entry
after_lowered names b d f =
    ap (λ r. cond (b && r) (with_unreferenced_entry names (lowered d) f) (lowered d)) (room_lowered d.table f)
    ∙ by (b && has_room d.table f)
  where
    by : (x : Bool) → cond x (with_unreferenced_entry names (lowered d) f) (lowered d)
        ≡ lowered (cond x (with_unreferenced_entry names d f) d)
    by true = refl
    by false = refl

matches_field : (base : ℕ) (l : FieldLine) (d : Draft) (c : Chosen) → Matches d (λ x y. chosen_field base x l y) c
matches_field base l d c = by l.never_indexed
  where
    line : Matches d (λ x y. line_chosen c.names base x l.field y) c.line
    line = matches_line c.names base l.field d c.line

    literal : Matches d (λ x y. literal_chosen base x l.field y) c.line
    literal = matches_literal base l.field d c.line

    by : (b : Bool) → (other : Chosen)
        × (cond b (literal_chosen base (lowered d) l.field c.line)
        (unreferenced_chosen c.names c.unreferenced (line_chosen c.names base (lowered d) l.field c.line) l.field)
        ≡ lowered (cond b (literal_chosen base d l.field other.line)
        (unreferenced_chosen other.names other.unreferenced (line_chosen other.names base d l.field other.line)
        l.field)))
    by true = (record { line = literal.0; unreferenced = c.unreferenced; names = c.names }, literal.1)
    by false = (
      record { line = line.0; unreferenced = c.unreferenced; names = c.names },
      ap (λ (x : Draft). unreferenced_chosen c.names c.unreferenced x l.field) line.1
          ∙ after_lowered c.names c.unreferenced (line_chosen c.names base d l.field line.0) l.field,
    )

matches_fields : (base : ℕ) (d : Draft) (ls : List FieldLine) (cs : List Chosen)
    → (others : List Chosen) × (chosen_fields base (lowered d) ls cs ≡ lowered (chosen_fields base d ls others))
matches_fields base d [] cs = ([], refl)
matches_fields base d (l ∷ ls) [] =
    let one = matches_field base l d alone_chosen in
    let more = matches_fields base (chosen_field base d l one.0) ls [] in
    (one.0 ∷ more.0, ap (λ (x : Draft). chosen_fields base x ls []) one.1 ∙ more.1)
matches_fields base d (l ∷ ls) (c ∷ cs) =
    let one = matches_field base l d c in
    let more = matches_fields base (chosen_field base d l one.0) ls cs in
    (one.0 ∷ more.0, ap (λ (x : Draft). chosen_fields base x ls cs) one.1 ∙ more.1)

pub matches_chosen : (t : Table) (ls : List FieldLine) (cs : List Chosen)
    → (others : List Chosen) × (chosen_rule (record t { limit = 0 }) ls cs ≡ lowered (chosen_rule t ls others))
unfolding chosen_rule without_references
matches_chosen t ls cs = matches_fields (insert_count t) (empty_draft t) ls cs

-- ---- the table after a section

-- a section that was written adds its references to those that are not acknowledged
pub committed_known : (t : Table) (ls : List FieldLine) (cs : List Chosen) (s : ℕ)
    → (committed_table (chosen_rule t ls cs) s).known_received_count ≡ t.known_received_count
unfolding commit
committed_known t ls cs s = (keeps_chosen t ls cs).known

pub committed_open : (t : Table) (ls : List FieldLine) (cs : List Chosen) (s : ℕ)
    → (committed_table (chosen_rule t ls cs) s).unacknowledged
    ≡ with_unacknowledged t.unacknowledged s (chosen_rule t ls cs).table.referenced
unfolding commit
committed_open t ls cs s =
    ap (λ (bs : List UnacknowledgedBlock). with_unacknowledged bs s (chosen_rule t ls cs).table.referenced)
    (keeps_chosen t ls cs).unacknowledged

pub committed_limit : (t : Table) (ls : List FieldLine) (cs : List Chosen) (s : ℕ)
    → (committed_table (chosen_rule t ls cs) s).limit ≡ t.limit
unfolding commit
committed_limit t ls cs s = (keeps_chosen t ls cs).limit

pub given_up_keeps : (t : Table) (ls : List FieldLine) (cs : List Chosen)
    → Keeps t (without_references (chosen_rule t ls cs).table)
unfolding without_references
given_up_keeps t ls cs =
    let k = keeps_chosen t ls cs in record { known = k.known; unacknowledged = k.unacknowledged; limit = k.limit }

pub capacity_keeps : (t u : Table) (n : ℕ) → with_capacity t n ≡ Ok u → Keeps t u
unfolding with_capacity
capacity_keeps t u n e =
    cond_both (nat_le n (greatest_capacity t.agreed_max)) _ _ (λ r. r ≡ Ok u → Keeps t u)
    (λ _. cond_both (can_evict t (eviction_count n (fields_in t.live))) _ _ (λ r. r ≡ Ok u → Keeps t u)
    (λ _ q. subst (Keeps t) (ok_is _ _ q) (record { known = refl; unacknowledged = refl; limit = refl }))
    (λ _ q. absurd cc))
    (λ _ q. absurd cc)
    e

heard_limit : (t u : Table) (i : DecoderInstruction) → strict_hear t i ≡ Ok u → u.limit ≡ t.limit
unfolding strict_hear apply_decoder_instruction with_increment
heard_limit t u (Acknowledgment s) e = go (without_oldest s t.unacknowledged) e
  where
    go : (o : Option (List UnacknowledgedBlock))
        → (or_unknown s (or_refusal o (UnknownStream s) >>= λ bs. Ok (record t { unacknowledged = bs }))
        >>= λ v. Ok (known_at_least (unwrap_or (oldest_required s t.unacknowledged) 0) v)) ≡ Ok u → u.limit ≡ t.limit
    go None q = absurd cc
    go (Some bs) q = sym (ap (λ (v : Table). v.limit) (ok_is _ _ q))
heard_limit t u (Cancellation s) e = sym (ap (λ (v : Table). v.limit) (ok_is _ _ e))
heard_limit t u (Increment by) e =
    cond_both (nat_eq by 0) _ _ (λ r. r ≡ Ok u → u.limit ≡ t.limit) (λ _ q. absurd cc)
    (λ _. cond_both (nat_lt (insert_count t) (t.known_received_count + by)) _ _ (λ r. r ≡ Ok u → u.limit ≡ t.limit)
    (λ _ q. absurd cc)
    (λ _ q. sym (ap (λ (v : Table). v.limit) (ok_is _ _ q))))
    e

pub hearing_limit : (t u : Table) (is : List DecoderInstruction) → hear_in_turn t is ≡ Ok u → u.limit ≡ t.limit
hearing_limit t u [] e = sym (ap (λ (v : Table). v.limit) (ok_is t u e))
hearing_limit t u (i ∷ is) e =
    let one = bind_ok (strict_hear t i) (λ v. hear_in_turn v is) u e in
    hearing_limit one.0 u is one.2 ∙ heard_limit t one.0 i one.1
