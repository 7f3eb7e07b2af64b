-- All that two strict ends have under way is lawful to its end: what was written on the encoder stream is a stream that
-- a strict decoder applies whole, and so is what is under way on the decoder stream (RFC 9204, sections 4.3 and 4.4).
use Rattle.std.specs.Prelude.{◌≡◌, ◌≤◌, ℕ, List, ◌++◌, Some, Ok}
use Rattle.qpack_rules.specs.StrictInstructions.{strict_apply, hear_in_turn}
use Rattle.qpack_spec.specs.Table.{Table, empty_table, table_of}
use Rattle.qpack_rules.specs.Taking.{apply_in_turn}
use Rattle.qpack_safety.specs.AbstractSession.{AbstractSession, abstract_start}
use Rattle.qpack_safety.specs.TwoEnds.{EndStep, after_end_steps}

-- a strict decoder that begins with an empty table applies all instructions that were written so far, the ones that it
-- took first; and a strict encoder hears all decoder instructions under way
pub record IsLawfulToItsEnd (capacity maximum : ℕ) (w : AbstractSession) : Type 0 where
  pub taken : apply_in_turn strict_apply (empty_table capacity (Some maximum) 0) w.taken ≡ Ok (table_of w.decoder)
  pub last : Table
  pub encoder_stream : apply_in_turn strict_apply (empty_table capacity (Some maximum) 0) (w.taken ++ w.in_flight)
      ≡ Ok last
  pub encoder : Table
  pub decoder_stream : hear_in_turn w.encoder w.decoder_in_flight ≡ Ok encoder

-- at every moment, whatever the ends did
abbrev pub FlightsAreLawful : Type 0
FlightsAreLawful =
    (capacity maximum limit : ℕ) → capacity ≤ maximum → (steps : List EndStep)
    → IsLawfulToItsEnd capacity maximum (after_end_steps steps (abstract_start capacity maximum limit))
