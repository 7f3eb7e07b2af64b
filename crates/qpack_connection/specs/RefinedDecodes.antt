-- What a decode on a connection in bytes returns: the fields that were passed for the section, with their marks, or how
-- many insertions it waits for, and otherwise only errors of the decoder's own limit and of memory (RFC 9204, sections
-- 2.1.2, 2.2 and 7.1.3).
use Rattle.std.specs.Prelude.{◌≡◌, ◌<◌, ◌≤◌, ◌^◌, ℕ, List, [], ◌++◌, None, Result, Ok, Err}
use Rattle.qpack_spec.specs.Field.{FieldLine, fields_of_lines, total_size}
use Rattle.qpack_spec.specs.Table.{insert_count}
use Rattle.qpack_safety.specs.AbstractSession.{abstract_start}
use Rattle.qpack_safety.specs.TwoEnds.{EndStep, after_end_steps}
use Rattle.qpack_decoding.specs.declared.decoder.DecodingError.{DecodingError}
use Rattle.qpack_decoding.specs.declared.decoder.DecodingError.TheVariants.{Section, NoStream, Memory}
use Rattle.qpack_decoding.specs.declared.section.Reading.{Reading}
use Rattle.qpack_decoding.specs.declared.section.Reading.TheVariants as reading
use Rattle.qpack_connection.specs.Connections.{SentSection, Connection, DecodesOn}
use Rattle.qpack_decoding.specs.Decoders.{DecodingEnd, IsOneTooMany}
use Rattle.qpack_connection.specs.RefinedConnections.{RefinesSession}
use Rattle.qpack_connection.specs.RefinedStreams.{IsOpen}
use Rattle.qpack_decoding.specs.Sections.{code_of}

-- what the next section of a stream returns: exactly its fields, once the insertions were received that it requires;
-- until then how many these are; or memory is refused, or the stream number is invalid; or the sizes of the fields are
-- past the decoder's own limit, which ends nothing
abbrev pub AnswersSection : DecodingEnd → ℕ → SentSection → List FieldLine → Result Reading DecodingError → Type 0
AnswersSection d stream k fields (Ok (reading.Fields required)) =
    (fields ≡ k.fields) × (required ≡ k.required) × (k.required ≤ insert_count d.table)
AnswersSection d stream k fields (Ok (reading.Blocked required)) =
    (fields ≡ []) × (required ≡ k.required) × (insert_count d.table < k.required)
AnswersSection d stream k fields (Err Memory) = fields ≡ []
AnswersSection d stream k fields (Err (NoStream s)) = (fields ≡ []) × (s ≡ stream) × (2 ^ 62 ≤ stream)
AnswersSection d stream k fields (Err (Section s e)) =
    (fields ≡ []) × (s ≡ stream) × (code_of e ≡ None)
    × (d.settings.max_section_size < total_size (fields_of_lines k.fields))
AnswersSection d stream k fields (Err e) = ⊥

-- the stream is not one too many to be blocked, if its section is (section 2.1.2)
abbrev pub MayWait : DecodingEnd → ℕ → SentSection → Type 0
MayWait d stream k = insert_count d.table < k.required → IsOneTooMany d stream → ⊥

-- a section that is decoded is one that the session's decoder decodes, and acknowledges if it requires an entry
abbrev pub DecodesAreRefined : Type 0
DecodesAreRefined =
    (maximum limit : ℕ) (c new : Connection) (steps : List EndStep) (s : ℕ) (fields : List FieldLine)
    (answer : Result Reading DecodingError)
    → RefinesSession maximum c (after_end_steps steps (abstract_start 0 maximum limit)) → IsOpen c
    → (call : DecodesOn c new s fields answer) → MayWait c.decoder s call.section
    → AnswersSection c.decoder s call.section fields answer × IsOpen new × (more : List EndStep)
    × RefinesSession maximum new (after_end_steps (steps ++ more) (abstract_start 0 maximum limit))
