-- Where an event of a session asks for memory.
use Rattle.std.proofs.Common.{◌≡◌, ◌+◌, ℕ, List, ◌++◌, length, take, drop, Result, Ok, Err}
use Rattle.std.proofs.Common.{drop-drop, refl, sym, ap, subst, ◌∙◌, arith, inl, inr}
use Rattle.std.proofs.Math.Seq.{drop-append_seam}
use Rattle.std.proofs.lemmas.List.{take_min}
use Rattle.std.specs.Prelude.{⊤}
use Rattle.qpack_rules.specs.Session as spec
use Rattle.qpack_rules.specs.Session.{stream_at, oldest_undecoded}
use Rattle.qpack_wire.specs.Memory.{AsksSectionForMemory}
use Rattle.h3_qpack.proofs.SessionDeliveries.{Offers, front_consumed, decoder_moved}
use Rattle.qpack_codec.specs.Receiving as receiving
use Rattle.qpack_codec.specs.Receiving.{DecoderView, Receives, EndsReceiving, EndsTaking, Stops, AsksToTake, to_report}
use Rattle.qpack_codec.specs.Sections.{form_fault_of}
use Rattle.h3_qpack.specs.SessionMemory.{AsksAtDecoder, IsAskedFor}
use Rattle.h3_qpack.specs.Sessions.{StoredStream, SessionView, IsReached, HasBytes}
use Rattle.qpack_codec.specs.declared.decoder.Decoded.{Decoded}
use Rattle.qpack_codec.specs.declared.error.DecoderError.{DecoderError}
use Rattle.qpack_codec.specs.declared.error.DecoderError.TheVariants as decoder
use Rattle.qpack_codec.specs.declared.error.EncoderError.{EncoderError}
use Rattle.qpack_codec.specs.declared.error.EncoderError.TheVariants as encoder
use Rattle.h3_qpack.specs.declared.session.Outcome.TheVariants as outcome

-- ---- a decode

-- the answer of a decode, by its error
abbrev undecoded : DecoderError → Result Decoded DecoderError
undecoded e = Err e

pub decode_asks : (old new : SessionView) (streams : List (ℕ × StoredStream)) (number : ℕ) (bytes : List ℕ)
    (e : DecoderError) → streams ≡ old.streams → HasBytes (oldest_undecoded (stream_at streams number)) bytes
    → (undecoded e ≡ undecoded decoder.Memory → AsksSectionForMemory bytes)
    → IsAskedFor old new (spec.Decode number) (outcome.Decoded (Err e))
decode_asks old new streams number bytes decoder.Memory same next asks =
    record {
      bytes = bytes;
      is_next = subst (λ (s : List (ℕ × StoredStream)). HasBytes (oldest_undecoded (stream_at s number)) bytes) same
          next;
      asks = asks refl;
    }
decode_asks old new streams number bytes e same next asks = tt

-- ---- a delivery to the decoder

-- what is left of bytes behind those that were consumed
left_is : (bytes front rest left : List ℕ) (position : ℕ) → bytes ≡ front ++ rest → left ≡ rest
    → position + length left ≡ length bytes → left ≡ drop position bytes
left_is bytes front rest left position cut same counts =
    let many = front_consumed bytes front rest left position cut same counts in
    same ∙ sym (drop-append_seam front rest) ∙ ap (drop (length front)) (sym cut)
    ∙ ap (λ (n : ℕ). drop n bytes) (sym many)

module _ (s : SessionView) (new : DecoderView) (count delivered position : ℕ) (written bytes left : List ℕ)
    (o : Offers s.encoder_stream bytes left s.encoder_stream_taken s.encoder_stream_delivered count delivered position)
  where
    abbrev after : SessionView
    after = decoder_moved s new delivered (s.encoder_stream_taken + position) written

    -- what is left is what is still to be taken
    to_take : (front rest : List ℕ) → bytes ≡ front ++ rest → left ≡ rest
        → rest ≡ drop (s.encoder_stream_taken + position) (take delivered s.encoder_stream)
    to_take front rest cut same =
        sym same ∙ left_is bytes front rest left position cut same o.counts
        ∙ ap (drop position)
        (sym o.offered
        ∙ ap (drop s.encoder_stream_taken) (sym (take_min (s.encoder_stream_delivered + count) s.encoder_stream)
        ∙ ap (λ (n : ℕ). take n s.encoder_stream) (sym o.delivered_is)))
        ∙ drop-drop position s.encoder_stream_taken (take delivered s.encoder_stream)

    -- an instruction was not taken for want of memory
    instruction_asks : (front rest : List ℕ) (e : DecoderError) → bytes ≡ front ++ rest → Stops new.table rest left e
        → e ≡ decoder.Memory → AsksAtDecoder after
    instruction_asks front rest e cut (receiving.no_memory asks is same) wants =
        inr (subst (λ (l : List ℕ). AsksToTake new.table l) (to_take front rest cut same) asks)
    instruction_asks front rest e cut (receiving.bad_bytes fault begins is same) wants =
        absurd (let told_so = ap form_fault_of (sym wants) ∙ is in cc)
    instruction_asks front rest e cut (receiving.bad_instruction encoding more i refusal split spells refuses is same)
        wants =
        absurd (let told_so = ap receiving.refusal_of (sym wants) ∙ is in cc)

    delivery_wants : (front rest : List ℕ) (taking : Result ⊤ DecoderError) → bytes ≡ front ++ rest
        → EndsTaking new.table rest left taking
        → EndsReceiving s.decoder new taking s.decoder_stream written (Err decoder.Memory) → AsksAtDecoder after
    delivery_wants front rest (Ok done) cut takes ends = inl (omega (arith, ends.1, ends.2))
    delivery_wants front rest (Err e) cut takes ends =
        instruction_asks front rest e cut takes (let same = ends.0 in cc)

    pub delivery_asks : (old : SessionView) (r : Result ℕ DecoderError) → IsReached s
        → Receives s.decoder new bytes left s.decoder_stream written r
        → IsAskedFor old after (spec.ToDecoder count) (outcome.Delivered r)
    delivery_asks old (Err decoder.Memory) at receives =
        delivery_wants receives.takes.front receives.takes.rest receives.taken receives.takes.cut receives.takes.ends
        receives.ends
    delivery_asks old (Err e) at receives = tt
    delivery_asks old (Ok total) at receives = tt

-- ---- a delivery to the encoder

pub hearing_asks_not : (old new : SessionView) (count : ℕ) (r : Result ⊤ EncoderError)
    → (r ≡ Err encoder.Memory → ⊥) → IsAskedFor old new (spec.ToEncoder count) (outcome.Heard r)
hearing_asks_not old new count (Err encoder.Memory) asks = asks refl
hearing_asks_not old new count (Err e) asks = tt
hearing_asks_not old new count (Ok done) asks = tt
