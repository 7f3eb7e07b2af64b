-- What decoding without an end does in C.
use Rattle.std.specs.Prelude.{◌≡◌, ℕ, ℤ, List, length, None, Result, Ok, Err}
use Rattle.qpack_spec.specs.Field.{FieldLine}
use Rattle.qpack_spec.specs.StrictReading.{strict_reading}
use Rattle.qpack_spec.specs.Table.{empty_table, window}
use Rattle.qpack_decoding.specs.declared.section.Reading.{Reading}
use Rattle.qpack_decoding.specs.declared.section.Reading.TheVariants.{Fields, Blocked}
use Rattle.qpack_decoding.specs.declared.section.SectionError.{SectionError}
use Rattle.qpack_decoding.specs.declared.section.SectionError.TheVariants.{Line, Memory}
use Rattle.qpack_decoding.specs.Sections.{ReadsSection}
use Rattle.qpack_wire.specs.Memory.{AsksSectionForMemory}
use Rattle.h3_qpack_c.specs.declared.answers.DecodedAlone.{DecodedAlone}
use Rattle.h3_qpack_c.specs.declared.answers.Given.{Given}
use Rattle.h3_qpack_c.specs.declared.answers.Written.{Written}
use Rattle.h3_qpack_c.specs.Crossing.{GivesAll}
use Rattle.h3_qpack_c.specs.Statuses.{blocked, of_line, of_section}

-- the result for a section without fields: a status, and where a line was rejected
abbrev pub told_of_refusal : ℤ → ℕ → ℕ → DecodedAlone
told_of_refusal status number offset =
    record { status = status; fields = 0; len = 0; number = number; offset = offset }

-- the fields of a section that was read are copied; for any other nothing is copied, and the result says why
abbrev pub GivesAlone : Result Reading SectionError → List FieldLine → List Given → List Given → List ℕ → List ℕ
    → DecodedAlone → Type 0
GivesAlone (Ok (Fields required)) fields told_before told_after before after answer =
    (written : Written) × GivesAll fields told_before told_after before after written
    × (answer ≡ record {
      status = written.status;
      fields = length fields;
      len = written.len;
      number = 0;
      offset = 0;
    })
GivesAlone (Ok (Blocked required)) fields told_before told_after before after answer =
    (answer ≡ told_of_refusal blocked 0 0) × (told_after ≡ told_before) × (after ≡ before)
GivesAlone (Err (Line number offset e)) fields told_before told_after before after answer =
    (answer ≡ told_of_refusal (of_line e) number offset) × (told_after ≡ told_before) × (after ≡ before)
GivesAlone (Err e) fields told_before told_after before after answer =
    (answer ≡ told_of_refusal (of_section e) 0 0) × (told_after ≡ told_before) × (after ≡ before)

-- a section is read strictly under a table of capacity 0 that nothing was inserted into (RFC 9204, section 2.2)
pub record DecodesAlone (bytes : List ℕ) (limit : ℕ) (told_before told_after : List Given) (before after : List ℕ)
    (told : DecodedAlone) : Type 0 where
  pub fields : List FieldLine
  pub answer : Result Reading SectionError
  pub reads : ReadsSection answer fields (strict_reading (window (empty_table 0 None 0)) limit bytes)
  pub memory : answer ≡ Err Memory → AsksSectionForMemory bytes
  pub gives : GivesAlone answer fields told_before told_after before after told
