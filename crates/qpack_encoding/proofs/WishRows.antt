-- What the caller's wish asks of a choice, on a table of one entry: each choice that keeps a wish, and those that differ
-- from it by one thing (RFC 9204, sections 2.1, 2.1.2 and 7.1.3).
use Rattle.std.proofs.Common.{◌≡◌, ℕ, Bool, true, false, [], ◌∷◌, Some, refl, ap, ◌∙◌}
use Rattle.std.specs.Prelude.{codes}
use Rattle.qpack_spec.specs.Chosen.{Choice, Alone, References, Names, Inserts, Staying, Chosen, chosen_field}
use Rattle.qpack_spec.specs.Field.{FieldLine}
use Rattle.qpack_spec.specs.Rule.{Draft}
use Rattle.qpack_spec.specs.StaticTable.{field}
use Rattle.qpack_spec.specs.Table.{Table, empty_table, put_entry, may_reference}
use Rattle.qpack_spec.proofs.Computing.{computed}
use Rattle.qpack_codec.specs.Choices.{line_as_wished}
use Rattle.qpack_codec.specs.declared.encoder.choices.Wish.{Wish}
use Rattle.qpack_codec.specs.declared.encoder.choices.Wish.TheVariants.{Never, Reuse, Insert}
use Rattle.qpack_encoding.specs.Wishes.{SuitsField}

-- a table with room, whose entry is known to be received or not, where one more section may be blocked or not
table : ℕ → ℕ → Table
table known limit =
    record (empty_table 128 (Some 128) limit) {
      live = put_entry (field (codes "foo") (codes "bar")) ∷ [];
      known_received_count = known;
    }

open_table : Table
open_table = table 0 1

at_limit : Table
at_limit = table 1 0

unknown : Table
unknown = table 0 0

-- the same without room
full : Table
full = record (table 1 1) { capacity = 36 }

-- a field that the entry equals, one that no table has, and one that a static field equals
equal : Bool → FieldLine
equal mark = record { field = field (codes "foo") (codes "bar"); never_indexed = mark }

new : Bool → FieldLine
new mark = record { field = field (codes "new") (codes "bar"); never_indexed = mark }

get : FieldLine
get = record { field = field (codes ":method") (codes "GET"); never_indexed = false }

-- a line alone, and one after which the field is inserted without a reference
line : Choice → Chosen
line c = record { line = c; unreferenced = false; names = Staying }

and_inserts : Choice → Chosen
and_inserts c = record { line = c; unreferenced = true; names = Staying }

-- all that has to unfold
rows : ℕ
unfolding computed table open_table at_limit unknown full equal new get line and_inserts
rows = 0

-- ---- never

-- nothing is inserted, whether the field is marked or not; a literal with the name of an entry is right
never_names : SuitsField open_table (equal true) Never (line (Names 1))
unfolding rows
never_names =
    record {
      nothing = record { line = λ e. absurd cc; unreferenced = refl };
      equal = λ entry e. absurd cc;
    }

never_is_referenced : (mark : Bool) → SuitsField open_table (equal mark) Never (line (References 1)) → ⊥
unfolding rows
never_is_referenced true k = k.equal 1 refl
never_is_referenced false k = k.equal 1 refl

never_is_inserted : (mark : Bool) → SuitsField open_table (new mark) Never (line Inserts) → ⊥
unfolding rows
never_is_inserted true k = k.nothing.line refl
never_is_inserted false k = k.nothing.line refl

never_is_inserted_after : (mark : Bool) → SuitsField open_table (new mark) Never (and_inserts Alone) → ⊥
unfolding rows
never_is_inserted_after true k = absurd (let e = k.nothing.unreferenced in cc)
never_is_inserted_after false k = absurd (let e = k.nothing.unreferenced in cc)

-- the field is marked by its wish, so whatever is chosen for it, it is written as if nothing were: it is not inserted, and
-- no equal entry is referenced
never_references : (base entry : ℕ) (d : Draft) (inserts : Bool)
    → chosen_field base d (equal true) (record { line = References entry; unreferenced = inserts; names = Staying })
    ≡ chosen_field base d (equal true) (line Alone)
unfolding rows
never_references base entry d inserts = refl

never_inserts : (base : ℕ) (d : Draft) (inserts : Bool)
    → chosen_field base d (equal true) (record { line = Inserts; unreferenced = inserts; names = Staying })
    ≡ chosen_field base d (equal true) (line Alone)
unfolding rows
never_inserts base d inserts = refl

wish_marks : line_as_wished (equal false) Never ≡ equal true
unfolding rows
wish_marks = refl

-- ---- reuse

-- the newest equal entry is referenced: where one more section may be blocked, or it is known to be received
reuse_references : SuitsField open_table (equal false) Reuse (line (References 1))
unfolding rows
reuse_references = λ unmarked. record {
  nothing = record { line = λ e. absurd cc; unreferenced = refl };
  equal = λ entry newest may. let e : 1 ≡ entry = cc in ap References e;
}

reuse_is_alone : SuitsField open_table (equal false) Reuse (line Alone) → ⊥
unfolding rows
reuse_is_alone k = absurd (let e = (k refl).equal 1 refl refl in cc)

reuse_is_alone_at_limit : SuitsField at_limit (equal false) Reuse (line Alone) → ⊥
unfolding rows
reuse_is_alone_at_limit k = absurd (let e = (k refl).equal 1 refl refl in cc)

reuse_names : SuitsField open_table (equal false) Reuse (line (Names 1)) → ⊥
unfolding rows
reuse_names k = absurd (let e = (k refl).equal 1 refl refl in cc)

reuse_references_another : SuitsField open_table (equal false) Reuse (line (References 2)) → ⊥
unfolding rows
reuse_references_another k = absurd (let e = (k refl).equal 1 refl refl in cc)

-- if it may not be referenced, the field is a literal
reuse_of_unknown : SuitsField unknown (equal false) Reuse (line Alone)
unfolding rows
reuse_of_unknown = λ unmarked. record {
  nothing = record { line = λ e. absurd cc; unreferenced = refl };
  equal = λ entry newest may. absurd (not_known entry (let e : 1 ≡ entry = cc in e) may);
}
  where
    not_known : (entry : ℕ) → 1 ≡ entry → may_reference unknown entry ≡ true → ⊥
    not_known entry e may = absurd (let x = ap (may_reference unknown) e ∙ may in cc)

-- nothing is inserted, whether an entry is equal or none is
reuse_is_inserted : SuitsField open_table (new false) Reuse (line Inserts) → ⊥
unfolding rows
reuse_is_inserted k = (k refl).nothing.line refl

reuse_is_inserted_after : SuitsField open_table (new false) Reuse (and_inserts Alone) → ⊥
unfolding rows
reuse_is_inserted_after k = absurd (let e = (k refl).nothing.unreferenced in cc)

reuse_is_copied : SuitsField open_table (equal false) Reuse (and_inserts (References 1)) → ⊥
unfolding rows
reuse_is_copied k = absurd (let e = (k refl).nothing.unreferenced in cc)

-- ---- insert

-- a field that no entry equals is inserted, and its line references the new entry
insert_inserts : SuitsField open_table (new false) Insert (line Inserts)
unfolding rows
insert_inserts = λ unmarked none. record { referenced = λ may. refl; unreferenced = λ not. absurd cc }

insert_is_alone : SuitsField open_table (new false) Insert (line Alone) → ⊥
unfolding rows
insert_is_alone k = absurd (let e = (k refl refl).referenced refl in cc)

insert_is_unreferenced : SuitsField open_table (new false) Insert (and_inserts Alone) → ⊥
unfolding rows
insert_is_unreferenced k = absurd (let e = (k refl refl).referenced refl in cc)

-- if no more sections may be blocked, it is inserted without a reference
insert_at_limit : SuitsField at_limit (new false) Insert (and_inserts Alone)
unfolding rows
insert_at_limit = λ unmarked none. record { referenced = λ may. absurd cc; unreferenced = λ not. refl }

insert_is_alone_at_limit : SuitsField at_limit (new false) Insert (line Alone) → ⊥
unfolding rows
insert_is_alone_at_limit k = absurd (let e = (k refl refl).unreferenced refl in cc)

-- without room it is a literal
insert_without_room : SuitsField full (new false) Insert (line Alone)
unfolding rows
insert_without_room = λ unmarked none. record { referenced = λ may. absurd cc; unreferenced = λ not. absurd cc }

-- ---- a static field

-- whatever the wish, nothing is chosen for it
static_is_alone : SuitsField open_table get Insert (line Alone)
unfolding rows
static_is_alone = refl

static_is_inserted : (w : Wish) → SuitsField open_table get w (line Inserts) → ⊥
unfolding rows
static_is_inserted w k = absurd (let e = ap (λ (c : Chosen). c.line) k in cc)

static_is_inserted_after : (w : Wish) → SuitsField open_table get w (and_inserts Alone) → ⊥
unfolding rows
static_is_inserted_after w k = absurd (let e = ap (λ (c : Chosen). c.unreferenced) k in cc)
