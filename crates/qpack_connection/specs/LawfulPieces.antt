-- A strict end refuses nothing of a stream that is lawful to its end, however the stream is cut: what the contracts of
-- both streams come to for a lawful peer (RFC 9204, sections 4.2 to 4.4).
use Rattle.std.specs.Prelude.{◌≡◌, ℕ, List, ◌++◌, Ok, Err}
use Rattle.qpack_spec.specs.Instruction.{EncoderInstruction, DecoderInstruction, SpellsDecoderInstruction}
use Rattle.qpack_rules.specs.LawfulStreams.{IsLawfulStream}
use Rattle.qpack_spec.specs.Stream.{SpellsAll}
use Rattle.qpack_spec.specs.Table.{Table}
use Rattle.qpack_codec.specs.declared.error.DecoderError.{DecoderError}
use Rattle.qpack_encoding.specs.declared.decoder_stream.DecoderStreamError.{DecoderStreamError}
use Rattle.qpack_shared.specs.declared.place.Place.{Place}
use Rattle.qpack_decoding.specs.declared.encoder_stream.EncoderStreamError.TheVariants.{Refused}
use Rattle.qpack_encoding.specs.Hearing as hearing
use Rattle.qpack_encoding.specs.Hearing.{hear_in_turn}
use Rattle.qpack_decoding.specs.Receiving as receiving

-- if the bytes that were passed and those that are to come are a lawful encoder stream, the call does not return that
-- it is refused
abbrev pub EncoderStreamsAreNeverRefused : Type 0
EncoderStreamsAreNeverRefused =
    (start old new last : Table) (before bytes behind left : List ℕ) (sent : List EncoderInstruction)
    (s u : receiving.StreamView) (place : Place) (e : DecoderError)
    → IsLawfulStream start last ((before ++ bytes) ++ behind) sent
    → receiving.ReceivesMore start old new before bytes left s u (Err (Refused place e)) → ⊥

-- if the bytes that were passed and those that are to come are a decoder stream of which some instructions were heard
-- before, and the encoder's table hears all that is under way, the call does not return that it is refused
abbrev pub DecoderStreamsAreNeverRefused : Type 0
DecoderStreamsAreNeverRefused =
    (old new last : Table) (heard in_flight : List DecoderInstruction) (before bytes behind : List ℕ)
    (u : hearing.StreamView) (e : DecoderStreamError)
    → SpellsAll SpellsDecoderInstruction ((before ++ bytes) ++ behind) (heard ++ in_flight)
    → hear_in_turn old in_flight ≡ Ok last
    → hearing.ReceivesMore old new heard before bytes u (Err e) → ⊥
