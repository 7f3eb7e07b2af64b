-- What a strict decoder takes and reads is what an encoder that keeps to the standard may have written, and what a strict
-- encoder hears is what such a decoder may have written, as statements. So what an end answers of a recording is the
-- verdict of the definitions (RFC 9204, sections 2.1, 3.2, 4.4 and 4.5).
use Rattle.std.specs.Prelude.{◌≡◌, ℕ, ◌^◌, ◌<◌, ◌≤◌, List, Some, Ok}
use Rattle.std.specs.List.{AllByRecursion}
use Rattle.qpack_spec.specs.Field.{FieldLine}
use Rattle.qpack_spec.specs.History.{History, window_of}
use Rattle.qpack_spec.specs.Instruction.{EncoderInstruction, DecoderInstruction}
use Rattle.qpack_rules.specs.LawfulDecoders.{MayWrite}
use Rattle.qpack_rules.specs.LawfulEncoders.{IsLawfulEncoder, IsLawfulSection}
use Rattle.qpack_rules.specs.StrictInstructions.{strict_apply, required_by, hear_in_turn}
use Rattle.qpack_spec.specs.StrictReading.{strict_reading, Read}
use Rattle.qpack_spec.specs.Table.{Table, empty_table, insert_count, table_of}
use Rattle.qpack_rules.specs.Taking.{apply_in_turn}

-- instructions that a strict decoder takes in turn are lawful for an encoder that knows of all insertions that were
-- evicted; and the table is that of the insertions that they make
abbrev pub TakenStreamsAreLawful : Type 0
TakenStreamsAreLawful =
    (maximum known : ℕ) (sent : List EncoderInstruction) (t : Table)
    → apply_in_turn strict_apply (empty_table 0 (Some maximum) 0) sent ≡ Ok t → t.dropped ≤ known
    → (made : History) × IsLawfulEncoder maximum known sent made × (t ≡ table_of (window_of made))

-- a section that a strict decoder reads where it has all insertions is lawful, if the last one that it requires is not
-- evicted
abbrev pub ReadSectionsAreLawful : Type 0
ReadSectionsAreLawful =
    (maximum known limit required : ℕ) (sent : List EncoderInstruction) (made : History) (fields : List FieldLine)
    (bytes : List ℕ)
    → IsLawfulEncoder maximum known sent made → strict_reading (window_of made) limit bytes ≡ Read fields required
    → (0 < required → made.dropped < required) → IsLawfulSection maximum made required fields bytes

-- instructions that a strict encoder hears in turn are those that a decoder may write which has received all insertions;
-- each section requires no more than these
abbrev pub HeardStreamsAreLawful : Type 0
HeardStreamsAreLawful =
    (t u : Table) (more : List DecoderInstruction) → t.known_received_count ≤ insert_count t
    → insert_count t < 2 ^ 64 → AllByRecursion (λ b. required_by b ≤ insert_count t) t.unacknowledged
    → hear_in_turn t more ≡ Ok u → MayWrite (insert_count t) t.known_received_count t.unacknowledged more
