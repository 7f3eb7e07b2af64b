-- What the caller's wish asks of an encoding end for each field (RFC 9204, sections 2.1, 2.1.2 and 7.1.3).
use Rattle.std.specs.Prelude.{◌≡◌, ℕ, Bool, true, false, ◌&&◌, List, [], ◌∷◌, Option, None, Some, Result, Ok, Err}
use Rattle.qpack_spec.specs.Chosen.{Inserts, References, Chosen, alone_chosen, chosen_field}
use Rattle.qpack_spec.specs.Field.{Field, FieldLine, is_field}
use Rattle.qpack_spec.specs.Rule.{Draft, empty_draft}
use Rattle.qpack_spec.specs.StaticTable.{static_index}
use Rattle.qpack_spec.specs.Table.{Table, insert_count, newest_index, has_room, below_limit, may_reference}
use Rattle.qpack_spec.specs.Text.{WhereShorter}
use Rattle.qpack_codec.specs.Choices.{inserts_after}
use Rattle.qpack_codec.specs.ChoosesAlong.{Chooses}
use Rattle.qpack_codec.specs.ChosenSections.{EncodesChosen}
use Rattle.qpack_codec.specs.declared.encoder.choices.Choice as choices
use Rattle.qpack_codec.specs.declared.encoder.choices.Choice.TheVariants.{Equal, Inserted}
use Rattle.qpack_codec.specs.declared.encoder.choices.Wish.{Wish}
use Rattle.qpack_codec.specs.declared.encoder.choices.Wish.TheVariants.{Never, Reuse, Insert}
use Rattle.qpack_encoding.specs.declared.encoder.EncodingError.{EncodingError}
use Rattle.qpack_encoding.specs.Encoders.{EncodingEnd, begun, is_alone, may_block}
use Rattle.qpack_encoding.specs.Risk.{with_limit, limit_for}

-- a field is inserted: its line references the new entry if one more section may be blocked and there is room; if no
-- more may be blocked, it is inserted without a reference (sections 2.1.1 and 2.1.2)
pub record InsertsField (t : Table) (f : Field) (c : Chosen) : Type 0 where
  pub referenced : (below_limit t && has_room t f) ≡ true → c.line ≡ Inserts
  pub unreferenced : below_limit t ≡ false → c.unreferenced ≡ true

-- nothing is inserted for a field
pub record InsertsNothing (c : Chosen) : Type 0 where
  pub line : c.line ≡ Inserts → ⊥
  pub unreferenced : c.unreferenced ≡ false

-- nothing is inserted for a field, and no equal entry is referenced (section 7.1.3)
pub record KeepsOut (c : Chosen) : Type 0 where
  pub nothing : InsertsNothing c
  pub equal : (entry : ℕ) → c.line ≡ References entry → ⊥

-- nothing is inserted for a field, and the newest equal entry is referenced if it may be (section 2.1.2)
pub record ReusesField (t : Table) (f : Field) (c : Chosen) : Type 0 where
  pub nothing : InsertsNothing c
  pub equal : (entry : ℕ) → newest_index t (is_field f) ≡ Some entry → may_reference t entry ≡ true
      → c.line ≡ References entry

-- the choice of a chooser inserts nothing
abbrev pub IsWithoutInsertion : choices.Choice → Type 0
IsWithoutInsertion c = (c ≡ Inserted → ⊥) × (inserts_after c ≡ false)

-- what the wish asks of the choice of a chooser, if the newest equal entry is this
abbrev pub KeepsWish : Table → Field → Wish → Option ℕ → choices.Choice → Type 0
KeepsWish t f Insert None c =
    ((below_limit t && has_room t f) ≡ true → c ≡ Inserted) × (below_limit t ≡ false → inserts_after c ≡ true)
KeepsWish t f Reuse None c = IsWithoutInsertion c
KeepsWish t f Reuse (Some entry) c = IsWithoutInsertion c × (may_reference t entry ≡ true → c ≡ Equal entry false)
KeepsWish t f w newest c = Unit {0}

-- what the wish asks of a choice at a table, for a field that no static field equals: `Insert`, that it is inserted
-- unless an entry equals it; `Reuse`, that an equal entry is referenced and nothing inserted; `Never`, that nothing is
-- inserted and no equal entry referenced. The line of a field with the wish `Never` is marked, so it is a literal (section 7.1.3).
abbrev pub SuitsWish : Table → FieldLine → Wish → Chosen → Type 0
SuitsWish t l Insert c = l.never_indexed ≡ false → newest_index t (is_field l.field) ≡ None → InsertsField t l.field c
SuitsWish t l Reuse c = l.never_indexed ≡ false → ReusesField t l.field c
SuitsWish t l Never c = KeepsOut c
SuitsWish t l w c = Unit {0}

-- a chooser that follows the caller's wishes, and may follow anything else
abbrev pub by_wish : (K : Type 0) → Chooses K Wish
by_wish K before base t l w c after = SuitsWish t l w c

-- how any field is chosen: one that a static field equals is written as that, unless it is never to be indexed
abbrev pub SuitsUnless : Option ℕ → Bool → Table → FieldLine → Wish → Chosen → Type 0
SuitsUnless (Some i) false t l w c = c ≡ alone_chosen
SuitsUnless o marked t l w c = SuitsWish t l w c

abbrev pub SuitsField : Table → FieldLine → Wish → Chosen → Type 0
SuitsField t l w c = SuitsUnless (static_index l.field) l.never_indexed t l w c

-- each field in turn, at the table that those before it left
abbrev pub SuitAlong : ℕ → Draft → List FieldLine → List Wish → List Chosen → Type 0
SuitAlong base d [] [] [] = Unit {0}
SuitAlong base d (l ∷ ls) (w ∷ ws) (c ∷ cs) =
    SuitsField d.table l w c × SuitAlong base (chosen_field base d l c) ls ws cs
SuitAlong base d ls ws cs = ⊥

-- if sections may wait, the section was written under choices that suit the caller's wishes; at capacity 0 there is
-- nothing to choose
pub record KeepsWishes (d new : EncodingEnd) (stream : ℕ) (fields : List FieldLine) (wishes : List Wish)
    (before after : List ℕ) (required : ℕ) : Type 0 where
  pub section : EncodesChosen WhereShorter stream fields d.table new.table before after d.unsent new.unsent required
  pub suit : (d.table.capacity ≡ 0 → ⊥)
      → SuitAlong (insert_count d.table) (empty_draft d.table) fields wishes section.choices

-- the end as a section of a stream meets it, and leaves it: the table permits one more blocked block if that stream may
-- be blocked (section 2.1.2)
abbrev pub limited : Bool → EncodingEnd → EncodingEnd
limited may d = record d { table = with_limit (limit_for may) d.table }

-- an encode follows the caller's wishes, except while a capacity waits and at the limit of sections that wait: then no
-- line references an entry, and no field is inserted
abbrev pub EncodesAsWished : EncodingEnd → EncodingEnd → ℕ → List FieldLine → List Wish → List ℕ → List ℕ
    → Result ℕ EncodingError → Type 0
EncodesAsWished old new stream fields wishes before after (Ok required) =
    is_alone (begun old) ≡ false
    → KeepsWishes (limited (may_block (begun old) stream) (begun old)) (limited (may_block (begun old) stream) new) stream
    fields wishes before after required
EncodesAsWished old new stream fields wishes before after (Err e) = Unit {0}
