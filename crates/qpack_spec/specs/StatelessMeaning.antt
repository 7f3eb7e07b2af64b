-- What a field section means without a table, up to a limit on the sum of sizes (RFC 9204, sections 2.2.1, 3.2.1 and
-- 4.5): its prefix and its lines, or the first fault in reading order.
use Rattle.std.specs.Prelude.{◌≡◌, ℕ, ◌+◌, ◌<◌, ◌≤◌, ◌↔◌, Bool, false, List, [], ◌∷◌, ◌++◌, Option, Result, Ok, Err}
use Rattle.qpack_spec.specs.Field.{Field, field_size, total_size}
use Rattle.qpack_spec.specs.Form.{FormFault, form_at}
use Rattle.qpack_spec.specs.Line.{Line, line_form, SpellsLine}
use Rattle.qpack_spec.specs.Prefix.{Prefix, SpellsPrefix, prefix_at}
use Rattle.qpack_spec.specs.Stream.{SpellsAll}
use Rattle.qpack_spec.specs.Window.{Window, maximum_capacity}
use Rattle.qpack_spec.specs.Reading.{Fault, BadForm, BelowWindow, BehindBase}
use Rattle.qpack_spec.specs.Reading.{Reading, Fields, Missing, Faulty}
use Rattle.qpack_spec.specs.BlockReading.{reading_of_bytes}
use Rattle.qpack_spec.specs.Stateless.{StatelessFault, BadSection, NamesEntry, TooLong, saturated_size, stateless_field}
use Rattle.qpack_spec.specs.Stateless.{stateless_reading, up_to_limit}

-- the bytes are a line that means the field alone
abbrev pub SpellsStatelessField : List ℕ → Field → Type 0
SpellsStatelessField encoding f = (l : Line) × SpellsLine encoding l × (stateless_field l ≡ Ok f)

-- the bytes are a prefix with any values, and lines that mean the fields, whose sizes sum to at most the limit
pub record MeansStateless (limit : ℕ) (bytes : List ℕ) (fields : List Field) : Type 0 where
  pub head : List ℕ
  pub lines : List ℕ
  pub cut : bytes ≡ head ++ lines
  pub prefix : Prefix
  pub spells : SpellsPrefix head prefix
  pub joined : SpellsAll SpellsStatelessField lines fields
  pub within : saturated_size (total_size fields) ≤ limit

-- why the next line gives no field, the sizes so far having this sum: its first byte says that it is a post-base line,
-- its bytes can't be read, it has no meaning alone, or its field passes the limit
pub data StopsLine (limit sum first : ℕ) (more : List ℕ) (e : StatelessFault) : Type 0 where
  post_base : first < 32 → e ≡ NamesEntry → StopsLine limit sum first more e
  in_bytes : 32 ≤ first → (fault : FormFault) → form_at line_form (first ∷ more) ≡ Err fault
      → e ≡ BadSection (BadForm fault) → StopsLine limit sum first more e
  in_line : 32 ≤ first → (encoding rest : List ℕ) (l : Line) → first ∷ more ≡ encoding ++ rest → SpellsLine encoding l
      → stateless_field l ≡ Err e → StopsLine limit sum first more e
  past_limit : (encoding rest : List ℕ) (f : Field) → first ∷ more ≡ encoding ++ rest → SpellsStatelessField encoding f
      → limit < saturated_size (sum + field_size f) → e ≡ TooLong (saturated_size (sum + field_size f))
      → StopsLine limit sum first more e

-- after lines that mean fields, within the limit, the next line gives none
pub record StopsBehind (limit sum : ℕ) (lines : List ℕ) (e : StatelessFault) : Type 0 where
  pub front : List ℕ
  pub first : ℕ
  pub more : List ℕ
  pub cut : lines ≡ front ++ first ∷ more
  pub so_far : List Field
  pub joined : SpellsAll SpellsStatelessField front so_far
  pub within : saturated_size (sum + total_size so_far) ≤ limit
  pub stops : StopsLine limit (sum + total_size so_far) first more e

-- why a section is malformed: its prefix can't be read, or a line stops it
pub data StopsStateless (limit : ℕ) (bytes : List ℕ) (e : StatelessFault) : Type 0 where
  in_prefix : (fault : FormFault) → prefix_at bytes ≡ Err fault → e ≡ BadSection (BadForm fault)
      → StopsStateless limit bytes e
  in_lines : (head lines : List ℕ) (prefix : Prefix) → bytes ≡ head ++ lines → SpellsPrefix head prefix
      → StopsBehind limit 0 lines e → StopsStateless limit bytes e

-- the result for a section: its fields, or the first fault
abbrev pub GivesStateless : ℕ → List ℕ → Result (List Field) StatelessFault → Type 0
GivesStateless limit bytes (Ok fs) = MeansStateless limit bytes fs
GivesStateless limit bytes (Err e) = StopsStateless limit bytes e

-- reading from left to right gives exactly this result
abbrev pub StatelessReadingIsMeaning : Type 0
StatelessReadingIsMeaning =
    (limit : ℕ) (bytes : List ℕ) (r : Result (List Field) StatelessFault)
    → (stateless_reading limit bytes ≡ r) ↔ GivesStateless limit bytes r

-- ---- under an empty table

-- the window of an empty table of capacity 0
abbrev pub no_table : Option ℕ → Window
no_table agreed_max = record { capacity = 0; agreed_max = agreed_max; dropped = 0; live = [] }

-- the fault under such a table of a line that references an entry: no entry is there
abbrev pub IsNoEntry : Fault → Type 0
IsNoEntry (BelowWindow index) = Unit {0}
IsNoEntry (BehindBase index) = Unit {0}
IsNoEntry fault = ⊥

-- the fault under such a table of bytes that are refused alone because a line references an entry: no entry is there;
-- or the bytes of a post-base line can't be read, which is refused alone by its first byte
pub data NamesNoEntry (bytes : List ℕ) (e : Fault) : Type 0 where
  no_entry : IsNoEntry e → NamesNoEntry bytes e
  unread_post_base : (front more : List ℕ) (first : ℕ) (fault : FormFault) → bytes ≡ front ++ first ∷ more → first < 32
      → form_at line_form (first ∷ more) ≡ Err fault → e ≡ BadForm fault → NamesNoEntry bytes e

-- what bytes are read as alone, with what they are read as under an empty table of capacity 0: the same fields, of
-- which none requires an entry; the same fault; a fault for a line that references an entry. Past the limit the other
-- reading may be fields or a fault
abbrev pub AgreesWithoutTable : List ℕ → Result (List Field) StatelessFault → Reading → Type 0
AgreesWithoutTable bytes (Ok fs) r = r ≡ Fields fs false
AgreesWithoutTable bytes (Err (BadSection e)) r = r ≡ Faulty e
AgreesWithoutTable bytes (Err NamesEntry) r = (e : Fault) × (r ≡ Faulty e) × NamesNoEntry bytes e
AgreesWithoutTable bytes (Err (TooLong sum)) r = (required : ℕ) → r ≡ Missing required → ⊥

-- reading alone is reading under an empty table of capacity 0, up to the limit; and if that reads fields, they are read
-- alone, up to the limit. Neither refuses a prefix for what it says
abbrev pub StatelessIsWithoutTable : Type 0
StatelessIsWithoutTable =
    (agreed_max : Option ℕ) → maximum_capacity agreed_max 0 ≡ 0 → (limit : ℕ) (bytes : List ℕ)
    → AgreesWithoutTable bytes (stateless_reading limit bytes) (reading_of_bytes (no_table agreed_max) bytes)
    × ((fs : List Field) (is_dynamic : Bool) → reading_of_bytes (no_table agreed_max) bytes ≡ Fields fs is_dynamic
    → (is_dynamic ≡ false) × (stateless_reading limit bytes ≡ up_to_limit limit 0 fs))
