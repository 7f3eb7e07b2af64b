-- What comes of the two instruction streams of a connection in bytes is what the ends of a session of values take, and
-- neither end refuses it (RFC 9204, sections 4.2 to 4.4).
use Rattle.std.specs.Prelude.{◌≡◌, ℕ, ⊤, List, ◌++◌, None, Result, Ok, Err}
use Rattle.qpack_spec.specs.Table.{insert_count}
use Rattle.qpack_safety.specs.AbstractSession.{abstract_start}
use Rattle.qpack_safety.specs.TwoEnds.{EndStep, after_end_steps}
use Rattle.qpack_decoding.specs.declared.decoder.DecodingError.{DecodingError}
use Rattle.qpack_decoding.specs.declared.decoder.DecodingError.TheVariants.{Memory}
use Rattle.qpack_encoding.specs.declared.encoder.EncodingError.{EncodingError}
use Rattle.qpack_connection.specs.Connections.{Connection, TakesAndHears, ReceivesOn}
use Rattle.qpack_connection.specs.RefinedConnections.{RefinesSession}

-- no error ended either end
pub record IsOpen (c : Connection) : Type 0 where
  pub encoder : c.encoder.failure ≡ None
  pub decoder : c.decoder.failure ≡ None

-- bytes of the decoder stream that come, once it was taken, are never refused; what its end reported is what the
-- session's decoder reports, and the encoder hears of it what that of the session does
abbrev pub HearingsAreRefined : Type 0
HearingsAreRefined =
    (maximum limit : ℕ) (c new : Connection) (steps : List EndStep) (many : ℕ) (answer : Result ⊤ EncodingError)
    → RefinesSession maximum c (after_end_steps steps (abstract_start 0 maximum limit)) → IsOpen c
    → TakesAndHears c new many answer
    → (answer ≡ Ok tt) × IsOpen new × (more : List EndStep)
    × RefinesSession maximum new (after_end_steps (steps ++ more) (abstract_start 0 maximum limit))

-- what a call that receives bytes of the encoder stream returns: how many insertions were received so far, or that
-- memory was refused
abbrev pub AnswersTotal : Connection → Result ℕ DecodingError → Type 0
AnswersTotal new (Ok total) = total ≡ insert_count new.decoder.table
AnswersTotal new (Err e) = e ≡ Memory

-- bytes of the encoder stream that come are never refused, and their instructions are those that the session's decoder
-- takes
abbrev pub ReceptionsAreRefined : Type 0
ReceptionsAreRefined =
    (maximum limit : ℕ) (c new : Connection) (steps : List EndStep) (many : ℕ) (answer : Result ℕ DecodingError)
    → RefinesSession maximum c (after_end_steps steps (abstract_start 0 maximum limit)) → IsOpen c
    → ReceivesOn c new many answer
    → AnswersTotal new answer × IsOpen new × (more : List EndStep)
    × RefinesSession maximum new (after_end_steps (steps ++ more) (abstract_start 0 maximum limit))
