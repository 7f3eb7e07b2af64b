-- A decoding end that keeps all that it wrote: a call adds to that what it writes, as of an end of which all was sent.
use Rattle.std.proofs.Common.{◌≡◌, ◌<◌, ℕ, zero, suc, Bool, true, false, List, [], ◌++◌, Result, Ok, Err}
use Rattle.std.proofs.Common.{◌⊎◌, inl, inr, refl, sym, ap, ◌∙◌, append_assoc, cond}
use Rattle.std.proofs.lemmas.List.{append-nil}
use Rattle.std.specs.Prelude.{⊤, nat_eq}
use Rattle.qpack_spec.specs.Field.{FieldLine}
use Rattle.qpack_spec.specs.Instruction.{Acknowledgment, Cancellation, written_decoder_instruction}
use Rattle.qpack_spec.specs.StrictReading.{StrictReading, Read, Blocked, Refused}
use Rattle.qpack_codec.specs.Receiving.{written_report}
use Rattle.qpack_decoding.specs.declared.decoder.DecodingError.{DecodingError}
use Rattle.qpack_decoding.specs.declared.decoder.DecodingError.TheVariants as decoding
use Rattle.qpack_decoding.specs.declared.section.Reading.{Reading}
use Rattle.qpack_decoding.specs.declared.section.Reading.TheVariants as reading
use Rattle.qpack_decoding.specs.Decoders.{DecodingEnd, unreported, with_report, report_before, IsTaken, acknowledged}
use Rattle.qpack_decoding.specs.Decoders.{GivesReading, StopsBehindReport}
use Rattle.qpack_decoding.specs.Decoders.{StopsForMemory, StopsDecoding, IsNotAnswered, Checks, Decodes, Cancels}

-- the end with other bytes that are to be sent
abbrev pub with_unsent : List ℕ → DecodingEnd → DecodingEnd
with_unsent unsent d = record d { unsent = unsent }

-- a call adds so much to what was written, and is this call of an end of which all was sent
pub record Adds (d d' : DecodingEnd) (Call : DecodingEnd → DecodingEnd → Type 0) : Type 0 where
  pub more : List ℕ
  pub written : d'.unsent ≡ d.unsent ++ more
  pub call : Call (with_unsent [] d) (with_unsent more d')

-- nothing is added where nothing else is to be sent than before
pub still_adds : (d d' : DecodingEnd) (Call : DecodingEnd → DecodingEnd → Type 0) → d'.unsent ≡ d.unsent
    → Call (with_unsent [] d) (with_unsent [] d') → Adds d d' Call
still_adds d d' Call same call =
    record { more = []; written = same ∙ sym (append-nil d.unsent); call = call }

-- ---- a section

module _ (d d' : DecodingEnd) (s : ℕ) (read : StrictReading) (fields : List FieldLine) where
  abbrev IsDecode : Result Reading DecodingError → DecodingEnd → DecodingEnd → Type 0
  IsDecode answer x y = Decodes x y s read fields answer

  fields_framed : (required : ℕ) → Checks d s (Ok tt) → read ≡ Read fields required → d' ≡ acknowledged s required d
      → Adds d d' (IsDecode (Ok (reading.Fields required)))
  fields_framed zero checks reads same =
      still_adds d d' (IsDecode (Ok (reading.Fields 0))) (ap (λ (y : DecodingEnd). y.unsent) same)
      (checks, (reads, ap (with_unsent []) same))
  fields_framed (suc required) checks reads same =
      let report = report_before (suc required) d in
      let ack = written_decoder_instruction (Acknowledgment s) in
      record {
        more = report ++ ack;
        written = ap (λ (y : DecodingEnd). y.unsent) same ∙ append_assoc d.unsent report ack;
        call = (checks, (reads, ap (with_unsent (report ++ ack)) same));
      }

  given_framed : (r : Reading) → Checks d s (Ok tt) → GivesReading d d' s read fields r → Adds d d' (IsDecode (Ok r))
  given_framed (reading.Fields required) checks gives = fields_framed required checks gives.0 gives.1
  given_framed (reading.Blocked required) checks gives =
      still_adds d d' (IsDecode (Ok (reading.Blocked required))) (ap (λ (y : DecodingEnd). y.unsent) gives.3)
      (checks, (gives.0, gives.1, gives.2, ap (with_unsent []) gives.3))

  stops_with : (x : DecodingError) → fields ≡ [] → Checks d s (Ok tt)
      → Adds d d' (λ y z. StopsDecoding y z s read x) → Adds d d' (IsDecode (Err x))
  stops_with x none checks a =
      record { more = a.more; written = a.written; call = (none, inr (checks, a.call)) }

  memory_framed : (r : StrictReading) → StopsForMemory d d' r → Adds d d' (λ y z. StopsForMemory y z r)
  memory_framed (Read fs zero) same =
      still_adds d d' (λ y z. z ≡ y) (ap (λ (y : DecodingEnd). y.unsent) same) (ap (with_unsent []) same)
  memory_framed (Read fs (suc required)) stops = either stops
    where
      either : StopsBehindReport d d' (suc required) → Adds d d' (λ y z. StopsBehindReport y z (suc required))
      either (inl same) =
          still_adds d d' (λ y z. StopsBehindReport y z (suc required)) (ap (λ (y : DecodingEnd). y.unsent) same)
          (inl (ap (with_unsent []) same))
      either (inr (more, same)) =
          record {
            more = written_report (unreported d);
            written = ap (λ (y : DecodingEnd). y.unsent) same;
            call = inr (more, ap (with_unsent (written_report (unreported d))) same);
          }
  memory_framed (Blocked required) same =
      still_adds d d' (λ y z. z ≡ y) (ap (λ (y : DecodingEnd). y.unsent) same) (ap (with_unsent []) same)
  memory_framed (Refused fault) same =
      still_adds d d' (λ y z. z ≡ y) (ap (λ (y : DecodingEnd). y.unsent) same) (ap (with_unsent []) same)

  stops_framed : (x : DecodingError) → StopsDecoding d d' s read x → Adds d d' (λ y z. StopsDecoding y z s read x)
  stops_framed (decoding.Section q e) stops =
      still_adds d d' (λ y z. StopsDecoding y z s read (decoding.Section q e))
      (ap (λ (y : DecodingEnd). y.unsent) stops.2) (stops.0, stops.1, ap (with_unsent []) stops.2)
  stops_framed (decoding.TooManyBlocked q) stops =
      still_adds d d' (λ y z. StopsDecoding y z s read (decoding.TooManyBlocked q))
      (ap (λ (y : DecodingEnd). y.unsent) stops.3) (stops.0, stops.1, stops.2, ap (with_unsent []) stops.3)
  stops_framed decoding.Memory stops = memory_framed read stops
  stops_framed (decoding.EncoderStream place e) stops = absurd stops
  stops_framed (decoding.NoStream q) stops = absurd stops

  by_error : (x : DecodingError) → fields ≡ []
      → IsNotAnswered d d' s x ⊎ (Checks d s (Ok tt) × StopsDecoding d d' s read x) → Adds d d' (IsDecode (Err x))
  by_error x none (inl stops) =
      still_adds d d' (IsDecode (Err x)) (ap (λ (y : DecodingEnd). y.unsent) stops.1)
      (none, inl (stops.0, ap (with_unsent []) stops.1))
  by_error x none (inr stops) = stops_with x none stops.0 (stops_framed x stops.1)

  pub decode_framed : (answer : Result Reading DecodingError) → Decodes d d' s read fields answer
      → Adds d d' (IsDecode answer)
  decode_framed (Ok r) call = given_framed r call.0 call.1
  decode_framed (Err x) call = by_error x call.0 call.1

-- ---- a stream that is given up

cancels_unsent : (b : Bool) (before more : List ℕ) → cond b before (before ++ more) ≡ before ++ cond b [] more
cancels_unsent true before more = sym (append-nil before)
cancels_unsent false before more = refl

module _ (d d' : DecodingEnd) (s : ℕ) where
  abbrev IsCancel : Result ⊤ DecodingError → DecodingEnd → DecodingEnd → Type 0
  IsCancel answer x y = Cancels x y s answer

  refused_cancel : (x : DecodingError)
      → IsNotAnswered d d' s x
      ⊎ (Checks d s (Ok tt) × (x ≡ decoding.Memory) × (0 < d.settings.max_capacity) × (d' ≡ d))
      → Adds d d' (IsCancel (Err x))
  refused_cancel x (inl stops) =
      still_adds d d' (IsCancel (Err x)) (ap (λ (y : DecodingEnd). y.unsent) stops.1)
      (inl (stops.0, ap (with_unsent []) stops.1))
  refused_cancel x (inr stops) =
      still_adds d d' (IsCancel (Err x)) (ap (λ (y : DecodingEnd). y.unsent) stops.3)
      (inr (stops.0, stops.1, stops.2, ap (with_unsent []) stops.3))

  pub cancel_framed : (answer : Result ⊤ DecodingError) → Cancels d d' s answer → Adds d d' (IsCancel answer)
  cancel_framed (Ok it) call =
      let word = written_decoder_instruction (Cancellation s) in
      let more = cond (nat_eq d.settings.max_capacity 0) [] word in
      record {
        more = more;
        written = ap (λ (y : DecodingEnd). y.unsent) call.1
            ∙ cancels_unsent (nat_eq d.settings.max_capacity 0) d.unsent word;
        call = (call.0, ap (with_unsent more) call.1);
      }
  cancel_framed (Err x) call = refused_cancel x call

-- ---- the stream is taken

pub taken_framed : (d d' : DecodingEnd) → IsTaken d d' → Adds d d' IsTaken
taken_framed d d' (inl reports) =
    let report = written_report (unreported d) in
    record {
      more = report;
      written = ap (λ (y : DecodingEnd). y.unsent) reports;
      call = inl (ap (with_unsent report) reports);
    }
taken_framed d d' (inr same) =
    still_adds d d' IsTaken (ap (λ (y : DecodingEnd). y.unsent) same) (inr (ap (with_unsent []) same))
