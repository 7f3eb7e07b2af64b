-- The fields of a section, each a name and a value cut out of one text.
use denote.RawPtr.{Ptr}
use Rattle.std.specs.Prelude.{◌≡◌, ◌<◌, ◌≤◌, ◌/◌, ◌⊎◌, ℕ, zero, suc, max, List, [], ◌∷◌, ◌++◌, Option, None, Some, slice_range}
use Rattle.std.specs.Prelude.{length, take}
use Rattle.qpack_spec.specs.Field.{FieldLine}
use Rattle.qpack_base.specs.HeaderFields.{line_of}
use Rattle.qpack_base.specs.declared.field.FieldLine.{FieldLine as LentLine}
use Rattle.qpack_decoding.specs.declared.field_section.Span.{Span}

-- the field of a span of the text, which begins here
abbrev pub field_at : List ℕ → ℕ → Span → FieldLine
field_at text start s =
    record {
      field = record { name = slice_range text start s.middle; value = slice_range text s.middle s.end };
      never_indexed = s.never_indexed;
    }

-- the fields of spans of the text: the first begins here, each further one at the end of the one before it
abbrev pub fields_in : List ℕ → ℕ → List Span → List FieldLine
fields_in text start [] = []
fields_in text start (s ∷ spans) = field_at text start s ∷ fields_in text s.end spans

-- where the field at an index begins, if the first begins here
abbrev pub start_of : ℕ → List Span → ℕ → ℕ
start_of start spans zero = start
start_of start [] (suc i) = start
start_of start (s ∷ spans) (suc i) = start_of s.end spans i

-- a field's name, followed by its value
abbrev pub text_of_field : FieldLine → List ℕ
text_of_field f = f.field.name ++ f.field.value

-- the names and values of fields, one after the other
abbrev pub text_of : List FieldLine → List ℕ
text_of [] = []
text_of (f ∷ fs) = text_of_field f ++ text_of fs

-- where the field at an index begins in that text: behind those before it
abbrev pub begins_at : List FieldLine → ℕ → ℕ
begins_at fs index = length (text_of (take index fs))

-- the span, which begins here, is within a text of this many bytes
pub record IsWithin (len start : ℕ) (s : Span) : Type 0 where
  pub name : start ≤ s.middle
  pub value : s.middle ≤ s.end
  pub within : s.end ≤ len

-- the spans are in turn: the first begins here, each further one at the end of the one before it, and the last ends the
-- text of this many bytes
abbrev pub AreInTurn : ℕ → List Span → ℕ → Type 0
AreInTurn start [] len = start ≡ len
AreInTurn start (s ∷ spans) len = (start ≤ s.middle) × (s.middle ≤ s.end) × AreInTurn s.end spans len

-- the fields of a section, where the text of their names and values lies in memory, and how many bytes of it, and how
-- many fields, there is memory for
pub record SectionView : Type 0 where
  pub fields : List FieldLine
  pub text_at : Ptr
  pub text_room : ℕ
  pub fields_room : ℕ

-- there is no field, and no memory for one
pub record HoldsNothing (s : SectionView) : Type 0 where
  pub fields : s.fields ≡ []
  pub text_room : s.text_room ≡ 0
  pub fields_room : s.fields_room ≡ 0

-- memory was made for no more than these bytes and fields, and none was given back
pub record GrowsTo (bytes fields : ℕ) (old new : SectionView) : Type 0 where
  pub text_most : new.text_room ≤ max old.text_room bytes
  pub fields_most : new.fields_room ≤ max old.fields_room fields
  pub text_kept : old.text_room ≤ new.text_room
  pub fields_kept : old.fields_room ≤ new.fields_room

-- the section grows at most this far under a limit on the sum of its fields' sizes: each field takes 32 bytes of it
-- (section 3.2.1)
abbrev pub GrowsWithin : ℕ → SectionView → SectionView → Type 0
GrowsWithin limit old new = GrowsTo limit (limit / 32) old new

-- there is memory for no more than before, or than a section within a limit can use
pub record IsRoomWithin (limit : ℕ) (old new : SectionView) : Type 0 where
  pub text_most : new.text_room ≤ max old.text_room limit
  pub fields_most : new.fields_room ≤ max old.fields_room (limit / 32)

-- there is room for fewer bytes of names and values than this limit on the sum of sizes, or for fewer fields than it
-- allows, of 32 bytes each (section 3.2.1)
abbrev pub LacksRoomFor : ℕ → ℕ → ℕ → Type 0
LacksRoomFor limit text_room fields_room = (text_room < limit) ⊎ (fields_room < limit / 32)

-- the section has less room than one within a limit can use
abbrev pub LacksRoomWithin : ℕ → SectionView → Type 0
LacksRoomWithin limit fields = LacksRoomFor limit fields.text_room fields.fields_room

-- the next field is given, and those after it are left; or there is none
abbrev pub GivesNext : List FieldLine → Option LentLine → List FieldLine → Type 0
GivesNext [] None after = after ≡ []
GivesNext (f ∷ fs) (Some item) after = (line_of item ≡ f) × (after ≡ fs)
GivesNext left item after = ⊥
