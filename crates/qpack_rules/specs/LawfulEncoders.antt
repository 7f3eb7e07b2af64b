-- What an encoder that follows the standard may write, by the history of its insertions alone, and that a strict
-- decoder reads it, after any front of the encoder stream, as statements (RFC 9204, sections 2.1, 3.2 and 4.5).
use Rattle.std.specs.Prelude.{◌≡◌, ℕ, ◌+◌, ◌-◌, ◌%◌, ◌*◌, ◌^◌, ◌<◌, ◌≤◌, true, false, List, ◌++◌, length}
use Rattle.std.specs.Prelude.{Some, IsOk, slice_get}
use Rattle.std.specs.List.{AllByRecursion}
use Rattle.qpack_spec.specs.Field.{Field, FieldLine, fields_of_lines, total_size}
use Rattle.qpack_spec.specs.History.{History, window_of, initial_history, Leads}
use Rattle.qpack_spec.specs.Instruction.{EncoderInstruction}
use Rattle.qpack_spec.specs.Line.{Line, IndexedStatic, IndexedDynamic, IndexedPostBase, NamedStatic, NamedDynamic}
use Rattle.qpack_spec.specs.Line.{NamedPostBase, Literal, SpellsLine}
use Rattle.qpack_spec.specs.Prefix.{Prefix, most_entries, SpellsPrefix}
use Rattle.qpack_spec.specs.Reading.{references_of_line}
use Rattle.qpack_spec.specs.StaticTable.{static_table}
use Rattle.qpack_spec.specs.Stream.{SpellsAll}
use Rattle.qpack_rules.specs.StrictInstructions.{strict_apply}
use Rattle.qpack_spec.specs.StrictReading.{is_never_indexed, strict_reading, Read, Blocked}
use Rattle.qpack_spec.specs.Table.{empty_table}
use Rattle.qpack_rules.specs.Taking.{apply_in_turn}
use Rattle.qpack_spec.specs.Window.{absolute_entry, with_value}

-- ---- the encoder stream

-- an encoder has written these instructions: a table that begins empty, of capacity 0, takes each in turn (sections
-- 3.2.2 and 3.2.3); these are the insertions that they make; and it evicted no entry past the first `known` insertions,
-- which it knows to be received (section 2.1.1)
pub record IsLawfulEncoder (maximum known : ℕ) (sent : List EncoderInstruction) (made : History) : Type 0 where
  pub taken : IsOk (apply_in_turn strict_apply (empty_table 0 (Some maximum) 0) sent)
  pub makes : Leads (initial_history 0 maximum) sent made
  pub evicted : made.dropped ≤ known

-- ---- what a section means

-- this field was inserted at this absolute index, the first being 1 (section 3.2.4, which begins at 0)
abbrev pub IsInsertion : List Field → ℕ → Field → Type 0
IsInsertion inserted absolute f = (0 < absolute) × (slice_get inserted (absolute - 1) ≡ Some f)

-- the field has this value, and the name of a field of which this holds
abbrev pub HasNameOf : (Field → Type 0) → List ℕ → Field → Type 0
HasNameOf Holds value f = (g : Field) × Holds g × (f ≡ with_value value g)

-- what a line means, of all insertions ever made: an entry of the static table or an insertion, counted down or up from
-- the base, or its name, or what is spelled out (sections 3.2.5, 3.2.6 and 4.5.2 to 4.5.6)
abbrev pub MeansLine : List Field → ℕ → Line → Field → Type 0
MeansLine inserted base (IndexedStatic index) f = slice_get static_table index ≡ Some f
MeansLine inserted base (IndexedDynamic relative) f = IsInsertion inserted (base - relative) f
MeansLine inserted base (IndexedPostBase post_base) f = IsInsertion inserted (base + post_base + 1) f
MeansLine inserted base (NamedStatic index value) f = HasNameOf (λ g. slice_get static_table index ≡ Some g) value f
MeansLine inserted base (NamedDynamic relative value) f = HasNameOf (IsInsertion inserted (base - relative)) value f
MeansLine inserted base (NamedPostBase post_base value) f =
    HasNameOf (IsInsertion inserted (base + post_base + 1)) value f
MeansLine inserted base (Literal name value) f = f ≡ record { name = name; value = value }

-- an entry may be referenced: it is not evicted, and within the required insert count (sections 2.1.1 and 2.1.2)
abbrev pub MayBeReferenced : History → ℕ → ℕ → Type 0
MayBeReferenced made required absolute = (made.dropped < absolute) × (absolute ≤ required)

-- the bytes spell a line that means this field, and say whether it is marked (section 7.1.3), and what it references
-- may be referenced
pub record SpellsField (made : History) (required base : ℕ) (encoding : List ℕ) (f : FieldLine) : Type 0 where
  pub line : Line
  pub spelled : SpellsLine encoding line
  pub means : MeansLine made.inserted base line f.field
  pub marked : is_never_indexed spelled.first ≡ f.never_indexed
  pub references : AllByRecursion (MayBeReferenced made required) (references_of_line base line)

-- ---- a section

-- a prefix encodes this required insert count, under this maximum capacity, and this base: at or above the count, or
-- below it (sections 4.5.1.1 and 4.5.1.2)
pub record TellsPrefix (maximum required base : ℕ) (p : Prefix) : Type 0 where
  pub none : required ≡ 0 → p.count ≡ 0
  pub some : 0 < required → p.count ≡ required % (2 * most_entries maximum) + 1
  pub above : p.sign ≡ false → base ≡ required + p.delta
  pub below : p.sign ≡ true → required ≡ base + p.delta + 1

-- the bytes are a section of these fields that such an encoder may have written and that is not acknowledged: a prefix
-- in any spelling, with any base that is a number of 64 bits, and lines in any spelling; it requires insertions that
-- were made, the last of which is not evicted (sections 2.1.1, 2.1.2 and 4.5)
pub record IsLawfulSection (maximum : ℕ) (made : History) (required : ℕ) (fields : List FieldLine) (bytes : List ℕ) :
    Type 0 where
  pub base : ℕ
  pub small : base < 2 ^ 64
  pub prefix : Prefix
  pub head : List ℕ
  pub tail : List ℕ
  pub cut : bytes ≡ head ++ tail
  pub prefix_spelled : SpellsPrefix head prefix
  pub tells : TellsPrefix maximum required base prefix
  pub lines_spelled : SpellsAll (SpellsField made required base) tail fields
  pub inserted : required ≤ length made.inserted
  pub held : 0 < required → made.dropped < required

-- ---- what is promised

-- an entry that is not evicted after all instructions is not evicted after any front of them that has it: dropped
-- counts only grow, and an absolute index does not change
abbrev pub EntriesStayLive : Type 0
EntriesStayLive =
    (maximum absolute : ℕ) (front others : List EncoderInstruction) (received made : History) (f : Field)
    → Leads (initial_history 0 maximum) front received → Leads received others made
    → made.dropped < absolute → absolute ≤ length received.inserted → IsInsertion made.inserted absolute f
    → absolute_entry (window_of received) absolute ≡ Some f

-- after any front of an encoder's instructions that has all that it knows to be received, a strict decoder reads a
-- section whose sizes are within its limit. If it has received the insertions that the section requires, it reads
-- exactly the fields that the section means, with their marks. Otherwise it reads that the section is blocked, and by
-- how many
pub record ReadsLawfully (received : History) (limit required : ℕ) (fields : List FieldLine) (bytes : List ℕ) :
    Type 0 where
  pub read : required ≤ length received.inserted
      → strict_reading (window_of received) limit bytes ≡ Read fields required
  pub blocked : length received.inserted < required
      → strict_reading (window_of received) limit bytes ≡ Blocked required

abbrev pub LawfulSectionsAreRead : Type 0
LawfulSectionsAreRead =
    (maximum known limit required : ℕ) (front others : List EncoderInstruction) (received made : History)
    (fields : List FieldLine) (bytes : List ℕ)
    → IsLawfulEncoder maximum known (front ++ others) made → Leads (initial_history 0 maximum) front received
    → known ≤ length received.inserted → IsLawfulSection maximum made required fields bytes
    → total_size (fields_of_lines fields) ≤ limit → ReadsLawfully received limit required fields bytes
