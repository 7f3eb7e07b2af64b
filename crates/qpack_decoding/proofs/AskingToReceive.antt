-- Where receiving the encoder stream asks for memory.
use Rattle.std.proofs.Common.{◌≡◌, ℕ, List, inl, inr, Result, Ok, Err, refl, sym, subst}
use Rattle.qpack_spec.specs.Table.{Table}
use Rattle.qpack_codec.specs.Receiving.{AsksToTake}
use Rattle.qpack_codec.specs.declared.error.DecoderError.{DecoderError}
use Rattle.qpack_codec.specs.declared.error.DecoderError.TheVariants as decoder
use Rattle.qpack_decoding.specs.Receiving.{bad_bytes, bad_instruction, no_capacity, too_large}
use Rattle.qpack_decoding.specs.Receiving.{Refuses, StopsStrictly, TakesAllStrictly, answer_at}
use Rattle.qpack_shared.specs.declared.place.Place.{Place}
use Rattle.std.specs.Prelude.{⊤}
use Rattle.qpack_decoding.specs.Decoders.{stream_failure}
use Rattle.qpack_decoding.specs.declared.decoder.DecodingError.TheVariants as decoding
use Rattle.qpack_decoding.specs.declared.encoder_stream.EncoderStreamError.{EncoderStreamError}
use Rattle.qpack_decoding.specs.declared.encoder_stream.EncoderStreamError.TheVariants.{Refused, Memory}

-- no stream is refused for memory
not_refused : (t : Table) (rest : List ℕ) → Refuses t rest decoder.Memory → ⊥
not_refused t rest (bad_bytes fault begins is) = absurd cc
not_refused t rest (bad_instruction i refusal spells applies is) = absurd cc
not_refused t rest (no_capacity zero begins is) = absurd cc
not_refused t rest (too_large cut large is) = absurd cc

stopped_asks : (t : Table) (rest left : List ℕ) (e : DecoderError) → e ≡ decoder.Memory → StopsStrictly t rest left e
    → AsksToTake t left
stopped_asks t rest left e is (inl (asks, memory, same)) = subst (AsksToTake t) (sym same) asks
stopped_asks t rest left e is (inr refuses) =
    absurd (not_refused t rest (subst (λ (x : DecoderError). Refuses t rest x) is refuses))

-- the instruction asks for it before which instructions end to be taken for memory
pub all_asks : (old new : Table) (from at : Place) (bytes left : List ℕ) (e : DecoderError) → e ≡ decoder.Memory
    → TakesAllStrictly old new from at bytes left (Err e) → AsksToTake new left
all_asks old new from at bytes left e is k = stopped_asks new k.0.rest left e is k.0.ends

-- a call of the stream answers want of memory only where that of its instructions does
pub memory_of : (place : Place) (r : Result ⊤ DecoderError) → answer_at place r ≡ Err Memory → r ≡ Err decoder.Memory
memory_of place (Err decoder.Memory) is = refl
memory_of place (Err e) is = absurd cc
memory_of place (Ok done) is = absurd cc

-- nor does a call of the end, unless that of the stream does
pub memory_of_stream : (e : EncoderStreamError) → stream_failure e ≡ decoding.Memory → e ≡ Memory
memory_of_stream Memory is = refl
memory_of_stream (Refused place e) is = absurd cc
