-- Sections whose instructions are written behind bytes that were sent.
use Rattle.std.proofs.Common.{◌+◌, ◌≤◌, ℕ, List, length, drop, Result, Ok, Err, IfOk}
use Rattle.qpack_spec.specs.Field.{FieldLine}
use Rattle.qpack_spec.specs.Table.{Table}
use Rattle.qpack_spec.specs.Text.{Coding}
use Rattle.qpack_codec.specs.ChoosesAlong.{Chooses}
use Rattle.qpack_codec.specs.ChosenSections.{EncodesAlong}
use Rattle.qpack_codec.specs.declared.error.EncoderError.{EncoderError}
use Rattle.qpack_shared.proofs.SentBytes.{appended}

-- what is appended to all is appended to those that are to be sent: so a section is written as it is behind all
pub section_written : (coding : Coding) {K W : Type 0} (chooses : Chooses K W) (sent stream : ℕ) (fields : List FieldLine)
    (wishes : List W) (old new : Table) (block_old block_new written_old written_new : List ℕ)
    (r : Result ℕ EncoderError) → sent + sent ≤ length written_old
    → IfOk r (EncodesAlong coding chooses stream fields wishes old new block_old block_new written_old written_new)
    → IfOk r (EncodesAlong coding chooses stream fields wishes old new block_old block_new (drop sent written_old)
    (drop sent written_new))
section_written coding chooses sent stream fields wishes old new block_old block_new written_old written_new (Ok required)
    few k =
    record {
      section = record {
        choices = k.section.choices;
        required_is = k.section.required_is;
        table = k.section.table;
        block = k.section.block;
        written = appended sent written_old written_new _ few k.section.written;
      };
      along = k.along;
    }
section_written coding chooses sent stream fields wishes old new block_old block_new written_old written_new (Err e) few k = k
