-- What a call of a decoding end answers.
use Rattle.std.proofs.Common.{◌≡◌, ℕ, List, Ok, Err, inl, inr, refl, sym, subst}
use Rattle.qpack_spec.specs.Table.{Table, insert_count}
use Rattle.qpack_decoding.specs.declared.decoder.DecodingError.{DecodingError}
use Rattle.qpack_decoding.specs.declared.encoder_stream.EncoderStreamError.{EncoderStreamError}
use Rattle.qpack_decoding.specs.Receiving.{StreamView, ReceivesMore}
use Rattle.qpack_decoding.specs.Decoders.{DecodingEnd, DecoderView, end_of, received, refused, stream_failure}
use Rattle.qpack_decoding.specs.Decoders.{ReceivesBytes, TakesStream, IsTaken}

-- the encoder stream is refused, or memory for it
pub stream_refused : (start : Table) (before bytes left : List ℕ) (d new : DecodingEnd) (t : Table) (s : StreamView)
    (e : EncoderStreamError) (x : DecodingError) → ReceivesMore start d.table t before bytes left d.stream s (Err e)
    → x ≡ stream_failure e → new ≡ refused x (received t s d)
    → ReceivesBytes start before d new bytes left (Err x)
stream_refused start before bytes left d new t s e x more is ends =
    subst (λ (y : DecodingError). ReceivesBytes start before d new bytes left (Err y)) (sym is)
    (subst (λ (n : DecodingEnd). ReceivesBytes start before d n bytes left (Err (stream_failure e))) (sym behind)
    (record { taken = Err e; stream = more; ends = (refl, refl) }))
  where
    behind : new ≡ refused (stream_failure e) (received t s d)
    behind = subst (λ (y : DecodingError). new ≡ refused y (received t s d)) is ends

-- all bytes were received
pub stream_taken : (start : Table) (before bytes left : List ℕ) (d new : DecodingEnd) (t : Table) (s : StreamView)
    (total : ℕ) → ReceivesMore start d.table t before bytes left d.stream s (Ok tt)
    → new ≡ received t s d → total ≡ insert_count new.table
    → ReceivesBytes start before d new bytes left (Ok total)
stream_taken start before bytes left d new t s total more is count =
    subst (λ (n : DecodingEnd). total ≡ insert_count n.table → ReceivesBytes start before d n bytes left (Ok total))
    (sym is) (λ same. record { taken = Ok tt; stream = more; ends = (same, refl) }) count

-- the stream was taken, whatever room there was
pub is_taken : (d new : DecoderView) → TakesStream d new → IsTaken (end_of d) (end_of new)
is_taken d new takes = elim takes.is [ inl reports ↦ inl reports | inr same ↦ inr same.0 ]
