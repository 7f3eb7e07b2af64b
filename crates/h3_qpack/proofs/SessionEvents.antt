-- The events of a session, each as its definition has it.
use Rattle.std.proofs.Common.{◌≡◌, ◌<◌, ◌^◌, ◌+◌, ℕ, List, ◌++◌, length}
use Rattle.std.proofs.Common.{Bool, true, false, Option, Some, None, Result, Ok, Err, OnOk, OnErr}
use Rattle.std.proofs.Common.{refl, sym, ap, subst, ◌∙◌, inl, inr, if◌then◌else◌}
use Rattle.std.proofs.lemmas.Option.{slice_get-map}
use Rattle.std.specs.Prelude.{⊤}
use Rattle.std.specs.Option.{option_map}
use Rattle.qpack_spec.specs.BlockReading.{reading_of_bytes}
use Rattle.qpack_spec.specs.Instruction.{Acknowledgment, Cancellation, SetCapacity, written_decoder_instruction}
use Rattle.qpack_spec.specs.Instruction.{written_encoder_instruction}
use Rattle.qpack_spec.specs.Reading.{Reading, Fields, Missing, Faulty}
use Rattle.qpack_rules.specs.Session as spec
use Rattle.qpack_rules.specs.Session.{Session, KeptBlock, KeptStream, stream_at, with_cancelled, with_acknowledged}
use Rattle.qpack_rules.specs.Session.{LawfulStep, skip_reason, with_decoded, oldest_undecoded, decode_outcome, is_read}
use Rattle.qpack_spec.specs.Table.{Table, with_capacity, window}
use Rattle.qpack_spec.specs.Window.{TableRefusal}
use Rattle.qpack_base.specs.Refusals.{IsRefusedFor}
use Rattle.qpack_base.specs.declared.coding.NoMemory.{NoMemory}
use Rattle.h3_qpack.proofs.Sessions.{fits_reached, fits_changed, fits_kept, shows_changed, lawful, cancellation_skips}
use Rattle.h3_qpack.proofs.Sessions.{acknowledgment_skips, decode_skips}
use Rattle.qpack_codec.specs.Hearing.{SetsCapacity, refusal_of}
use Rattle.qpack_codec.specs.Sections.{DecodesSection, TellsReading}
use Rattle.h3_qpack.specs.Sessions.{StoredBlock, StoredStream, stored_block, stored_stream, SessionView, Shows}
use Rattle.qpack_codec.specs.RequestStreams.{ChangesStream}
use Rattle.h3_qpack.specs.Sessions.{IsReached, Follows, Goes, Answers, HasBytes, TellsUndecoded}
use Rattle.qpack_codec.specs.RequestStreams.{KeepsStreams}
use Rattle.h3_qpack.specs.Sessions.{cancellation_skip, acknowledgment_skip, decode_skip}
use Rattle.qpack_codec.specs.Stateless.{fields_in}
use Rattle.qpack_codec.specs.declared.decoder.Decoded.{Decoded}
use Rattle.qpack_codec.specs.declared.error.DecoderError.{DecoderError}
use Rattle.qpack_codec.specs.declared.error.DecoderError.TheVariants as decoder
use Rattle.qpack_codec.specs.declared.error.EncoderError.{EncoderError}
use Rattle.qpack_codec.specs.declared.error.EncoderError.TheVariants.{Memory}
use Rattle.h3_qpack.specs.declared.session.Outcome.TheVariants as outcome

-- ---- a cancellation

abbrev with_streams : SessionView → List (ℕ × StoredStream) → List ℕ → SessionView
with_streams s streams written = record s { streams = streams; decoder_stream = written }

-- what was shown is still, where only streams that stay were touched
kept_shown : (s : SessionView) (v : Session) (streams : List (ℕ × StoredStream)) (written : List ℕ) → Shows s v
    → KeepsStreams s.streams streams → written ≡ s.decoder_stream → Shows (with_streams s streams written) v
kept_shown s v streams written shows keeps same =
    record {
      encoder = shows.encoder;
      decoder = shows.decoder;
      unreported = shows.unreported;
      encoder_stream = shows.encoder_stream;
      encoder_stream_delivered = shows.encoder_stream_delivered;
      encoder_stream_taken = shows.encoder_stream_taken;
      decoder_stream = shows.decoder_stream ∙ sym same;
      decoder_stream_delivered = shows.decoder_stream_delivered;
      decoder_stream_taken = shows.decoder_stream_taken;
      streams = λ q. keeps q ∙ shows.streams q;
    }

pub cancels : (s : SessionView) (streams : List (ℕ × StoredStream)) (written : List ℕ) (number : ℕ)
    (r : Result ⊤ NoMemory)
    → IsReached s → cancellation_skip s.streams number ≡ None
    → OnOk r (ChangesStream number (record (stream_at s.streams number) { cancelled = true }) s.streams streams)
    → OnOk r (written ≡ s.decoder_stream ++ written_decoder_instruction (Cancellation number))
    → OnErr r (KeepsStreams s.streams streams) → OnErr r (written ≡ s.decoder_stream)
    → Follows s (with_streams s streams written) (spec.Cancel number) (outcome.Cancelled r)
unfolding LawfulStep
cancels s streams written number (Ok done) at is changes wrote _ _ v shows =
    let fits = fits_reached s at in
    let kept = stream_at v.streams number in
    let cancelled = ap (λ (k : StoredStream). let x : StoredStream = record k { cancelled = true } in x)
    (shows.streams number) in
    lawful (with_streams s streams written) (spec.Cancel number) (outcome.Cancelled (Ok done)) v spec.Cancelled
    (with_cancelled v number) refl
    (record {
      encoder = shows.encoder;
      decoder = shows.decoder;
      unreported = shows.unreported;
      encoder_stream = shows.encoder_stream;
      encoder_stream_delivered = shows.encoder_stream_delivered;
      encoder_stream_taken = shows.encoder_stream_taken;
      decoder_stream =
          ap (λ (l : List ℕ). l ++ written_decoder_instruction (Cancellation number)) shows.decoder_stream ∙ sym wrote;
      decoder_stream_delivered = shows.decoder_stream_delivered;
      decoder_stream_taken = shows.decoder_stream_taken;
      streams = shows_changed s.streams streams v.streams number _ (record kept { cancelled = true }) cancelled changes
          shows.streams;
    })
    tt tt (cancellation_skips s v number shows ∙ is) (inl (refl, refl))
    (record {
      encoder_stream = fits.encoder_stream;
      blocks = fits_changed s.streams streams number _
          (fits.blocks number) changes fits.blocks;
    })
cancels s streams written number (Err e) at is _ _ keeps same v shows =
    let fits = fits_reached s at in
    lawful (with_streams s streams written) (spec.Cancel number) (outcome.Cancelled (Err e)) v spec.NoMemory v refl
    (kept_shown s v streams written shows keeps same) tt tt (cancellation_skips s v number shows ∙ is)
    (inr (refl, refl))
    (record { encoder_stream = fits.encoder_stream; blocks = fits_kept s.streams streams keeps fits.blocks })

-- ---- an acknowledgment

pub acknowledges : (s : SessionView) (streams : List (ℕ × StoredStream)) (written : List ℕ) (number : ℕ) → IsReached s
    → acknowledgment_skip s.streams number ≡ None
    → ChangesStream number (record (stream_at s.streams number)
    { acknowledged = (stream_at s.streams number).acknowledged + 1 }) s.streams streams
    → written ≡ s.decoder_stream ++ written_decoder_instruction (Acknowledgment number)
    → Follows s (with_streams s streams written) (spec.Acknowledge number) (outcome.Acknowledged (Ok tt))
unfolding LawfulStep
acknowledges s streams written number at is changes wrote v shows =
    let fits = fits_reached s at in
    let kept = stream_at v.streams number in
    let acknowledged =
    ap (λ (k : StoredStream). let x : StoredStream = record k { acknowledged = k.acknowledged + 1 } in x)
    (shows.streams number) in
    lawful (with_streams s streams written) (spec.Acknowledge number) (outcome.Acknowledged (Ok tt)) v spec.Acknowledged
    (with_acknowledged v number) refl
    (record {
      encoder = shows.encoder;
      decoder = shows.decoder;
      unreported = shows.unreported;
      encoder_stream = shows.encoder_stream;
      encoder_stream_delivered = shows.encoder_stream_delivered;
      encoder_stream_taken = shows.encoder_stream_taken;
      decoder_stream =
          ap (λ (l : List ℕ). l ++ written_decoder_instruction (Acknowledgment number)) shows.decoder_stream
          ∙ sym wrote;
      decoder_stream_delivered = shows.decoder_stream_delivered;
      decoder_stream_taken = shows.decoder_stream_taken;
      streams = shows_changed s.streams streams v.streams number _
          (record kept { acknowledged = kept.acknowledged + 1 }) acknowledged changes shows.streams;
    })
    tt tt (acknowledgment_skips s v number shows ∙ is) (inl (refl, refl))
    (record {
      encoder_stream = fits.encoder_stream;
      blocks = fits_changed s.streams streams number _
          (fits.blocks number) changes fits.blocks;
    })

-- refused, nothing is written
pub acknowledges_nothing : (s : SessionView) (written : List ℕ) (number : ℕ) (e : NoMemory) → IsReached s
    → acknowledgment_skip s.streams number ≡ None → written ≡ s.decoder_stream
    → Follows s (with_streams s s.streams written) (spec.Acknowledge number) (outcome.Acknowledged (Err e))
unfolding LawfulStep
acknowledges_nothing s written number e at is same v shows =
    let fits = fits_reached s at in
    lawful (with_streams s s.streams written) (spec.Acknowledge number) (outcome.Acknowledged (Err e)) v spec.NoMemory v
    refl (kept_shown s v s.streams written shows (λ q. refl) same) tt tt (acknowledgment_skips s v number shows ∙ is)
    (inr (refl, refl)) (record { encoder_stream = fits.encoder_stream; blocks = fits.blocks })

-- ---- a capacity

abbrev with_encoder : SessionView → Table → List ℕ → SessionView
with_encoder s encoder written = record s { encoder = encoder; encoder_stream = written }

encoder_shown : (s : SessionView) (v : Session) (encoder : Table) (written : List ℕ) → Shows s v → encoder ≡ s.encoder
    → written ≡ s.encoder_stream → Shows (with_encoder s encoder written) v
encoder_shown s v encoder written shows same wrote =
    record {
      encoder = shows.encoder ∙ sym same;
      decoder = shows.decoder;
      unreported = shows.unreported;
      encoder_stream = shows.encoder_stream ∙ sym wrote;
      encoder_stream_delivered = shows.encoder_stream_delivered;
      encoder_stream_taken = shows.encoder_stream_taken;
      decoder_stream = shows.decoder_stream;
      decoder_stream_delivered = shows.decoder_stream_delivered;
      decoder_stream_taken = shows.decoder_stream_taken;
      streams = shows.streams;
    }

-- the reason that is written, if it is refused for one
reason_told : {A E : Type 0} (read : Result A E) (o : Option E) → IsRefusedFor read o
    → (x : E) × (o ≡ Some x) × (read ≡ Err x)
reason_told read (Some x) h = (x, refl, h)
reason_told read None h = absurd h

-- a capacity that is refused for a reason is refused so
refuses_capacity : (s : SessionView) (encoder : Table) (written : List ℕ) (capacity : ℕ) (e : EncoderError)
    (v : Session)
    → ((refusal : TableRefusal) → refusal_of e ≡ Some refusal
    → Answers (outcome.CapacitySet (Err e)) (spec.CapacityRefused refusal))
    → IsReached s → Shows s v → IsRefusedFor (with_capacity s.encoder capacity) (refusal_of e) × (encoder ≡ s.encoder)
    × (written ≡ s.encoder_stream)
    → Goes (with_encoder s encoder written) (spec.ChangeCapacity capacity) (outcome.CapacitySet (Err e)) v
unfolding LawfulStep skip_reason
refuses_capacity s encoder written capacity e v answers at shows h =
    let fits = fits_reached s at in
    let reason = reason_told (with_capacity s.encoder capacity) (refusal_of e) h.0 in
    lawful (with_encoder s encoder written) (spec.ChangeCapacity capacity) (outcome.CapacitySet (Err e)) v
    (spec.CapacityRefused reason.0) v (answers reason.0 reason.1)
    (encoder_shown s v encoder written shows h.1 h.2) tt tt refl
    (inr (inl (record {
      refusal = reason.0;
      is_refused = ap (λ (t : Table). with_capacity t capacity) shows.encoder ∙ reason.2;
      answers = refl;
      stays = refl;
    })))
    (record {
      encoder_stream = subst (λ (l : List ℕ). length l < 2 ^ 63) (sym h.2) fits.encoder_stream;
      blocks =
          fits.blocks;
    })

wants_memory : (s : SessionView) (encoder : Table) (written : List ℕ) (capacity : ℕ) (v : Session) → IsReached s
    → Shows s v → (encoder ≡ s.encoder) × (written ≡ s.encoder_stream)
    → Goes (with_encoder s encoder written) (spec.ChangeCapacity capacity) (outcome.CapacitySet (Err Memory)) v
unfolding LawfulStep skip_reason
wants_memory s encoder written capacity v at shows h =
    let fits = fits_reached s at in
    lawful (with_encoder s encoder written) (spec.ChangeCapacity capacity) (outcome.CapacitySet (Err Memory)) v
    spec.NoMemory v refl (encoder_shown s v encoder written shows h.0 h.1) tt tt refl (inr (inr (refl, refl)))
    (record {
      encoder_stream = subst (λ (l : List ℕ). length l < 2 ^ 63) (sym h.1) fits.encoder_stream;
      blocks =
          fits.blocks;
    })

sets : (s : SessionView) (encoder : Table) (written : List ℕ) (capacity : ℕ) (v : Session) → IsReached s
    → length written < 2 ^ 63 → Shows s v
    → (with_capacity s.encoder capacity ≡ Ok encoder)
    × (written ≡ s.encoder_stream ++ written_encoder_instruction (SetCapacity capacity))
    → Goes (with_encoder s encoder written) (spec.ChangeCapacity capacity) (outcome.CapacitySet (Ok tt)) v
unfolding LawfulStep skip_reason
sets s encoder written capacity v at small shows h =
    let instruction = written_encoder_instruction (SetCapacity capacity) in
    lawful (with_encoder s encoder written) (spec.ChangeCapacity capacity) (outcome.CapacitySet (Ok tt)) v
    spec.CapacitySet (record v { encoder = encoder; encoder_stream = v.encoder_stream ++ instruction }) refl
    (record {
      encoder = refl;
      decoder = shows.decoder;
      unreported = shows.unreported;
      encoder_stream = ap (λ (l : List ℕ). l ++ instruction) shows.encoder_stream ∙ sym h.1;
      encoder_stream_delivered = shows.encoder_stream_delivered;
      encoder_stream_taken = shows.encoder_stream_taken;
      decoder_stream = shows.decoder_stream;
      decoder_stream_delivered = shows.decoder_stream_delivered;
      decoder_stream_taken = shows.decoder_stream_taken;
      streams = shows.streams;
    })
    tt tt refl
    (inl (record {
      table = encoder;
      is_set = ap (λ (t : Table). with_capacity t capacity) shows.encoder ∙ h.0;
      answers = refl;
      leads = refl;
    }))
    (record { encoder_stream = small; blocks = (fits_reached s at).blocks })

pub sets_capacity : (s : SessionView) (encoder : Table) (written : List ℕ) (capacity : ℕ) (r : Result ⊤ EncoderError)
    → IsReached s → length written < 2 ^ 63 → SetsCapacity capacity s.encoder encoder s.encoder_stream written r
    → Follows s (with_encoder s encoder written) (spec.ChangeCapacity capacity) (outcome.CapacitySet r)
sets_capacity s encoder written capacity (Ok done) at small h v shows = sets s encoder written capacity v at small
    shows h
sets_capacity s encoder written capacity (Err Memory) at small h v shows =
    wants_memory s encoder written capacity v at shows (h.1, h.2)
sets_capacity s encoder written capacity (Err e) at small h v shows =
    refuses_capacity s encoder written capacity e v (λ refusal told_so. (refusal, refl, told_so)) at shows h

-- ---- a block that is decoded

-- a block of these bytes is a block of the definitions
found_block : (k : StoredStream) (kept : KeptStream) (bytes : List ℕ) → k ≡ stored_stream kept
    → HasBytes (oldest_undecoded k) bytes
    → (b : KeptBlock) × (oldest_undecoded kept ≡ Some b) × (bytes ≡ b.bytes)
found_block k kept bytes e h =
    of_map (oldest_undecoded kept) bytes
    (subst (λ (o : Option StoredBlock). HasBytes o bytes) (slice_get-map stored_block kept.blocks kept.decoded)
    (subst (λ (x : StoredStream). HasBytes (oldest_undecoded x) bytes) e h))
  where
    of_map : (o : Option KeptBlock) (bytes : List ℕ) → HasBytes (option_map stored_block o) bytes
        → (b : KeptBlock) × (o ≡ Some b) × (bytes ≡ b.bytes)
    of_map (Some b) bytes h = (b, refl, h)
    of_map None bytes h = absurd h

-- what is read of the block is what is read of these bytes
read_same : (s : SessionView) (v : Session) (bytes : List ℕ) (b : KeptBlock) → Shows s v → bytes ≡ b.bytes
    → reading_of_bytes (window v.decoder) b.bytes ≡ reading_of_bytes (window s.decoder.table) bytes
read_same s v bytes b shows e =
    ap (λ (t : Table). reading_of_bytes (window t) b.bytes) shows.decoder
    ∙ ap (reading_of_bytes (window s.decoder.table)) (sym e)

abbrev with_marked : SessionView → List (ℕ × StoredStream) → SessionView
with_marked s streams = record s { streams = streams }

-- the fields of the block are answered, and it is decoded
pub decodes : (s : SessionView) (streams : List (ℕ × StoredStream)) (number : ℕ) (bytes : List ℕ) (d : Decoded)
    → IsReached s → decode_skip s.streams number ≡ None
    → HasBytes (oldest_undecoded (stream_at s.streams number)) bytes
    → DecodesSection (Ok d) (reading_of_bytes (window s.decoder.table) bytes)
    → ChangesStream number (record (stream_at s.streams number)
    { decoded = (stream_at s.streams number).decoded + 1 }) s.streams streams
    → Follows s (with_marked s streams) (spec.Decode number) (outcome.Decoded (Ok d))
unfolding LawfulStep
decodes s streams number bytes d at is found read changes v shows =
    let fits = fits_reached s at in
    let kept = stream_at v.streams number in
    let block = found_block (stream_at s.streams number) kept bytes (shows.streams number) found in
    let reads = read_same s v bytes block.0 shows block.2 ∙ read.0 in
    let decoded = ap (λ (k : StoredStream). let x : StoredStream = record k { decoded = k.decoded + 1 } in x)
    (shows.streams number) in
    lawful (with_marked s streams) (spec.Decode number) (outcome.Decoded (Ok d)) v
    (spec.Decoded (fields_in d.fields.items) d.mem_size d.dyn_ref) (with_decoded v number) refl
    (record {
      encoder = shows.encoder;
      decoder = shows.decoder;
      unreported = shows.unreported;
      encoder_stream = shows.encoder_stream;
      encoder_stream_delivered = shows.encoder_stream_delivered;
      encoder_stream_taken = shows.encoder_stream_taken;
      decoder_stream = shows.decoder_stream;
      decoder_stream_delivered = shows.decoder_stream_delivered;
      decoder_stream_taken = shows.decoder_stream_taken;
      streams = shows_changed s.streams streams v.streams number _ (record kept { decoded = kept.decoded + 1 }) decoded
          changes shows.streams;
    })
    tt tt (decode_skips s v number shows ∙ is)
    (inl (record {
      block = block.0;
      is_next = block.1;
      answers = ap (λ (m : ℕ). spec.Decoded (fields_in d.fields.items) m d.dyn_ref) read.1
          ∙ sym (ap decode_outcome reads);
      moves = sym (ap (λ (x : Reading). if is_read (Some x) then with_decoded v number else v) reads);
    }))
    (record {
      encoder_stream = fits.encoder_stream;
      blocks = fits_changed s.streams streams number _
          (fits.blocks number) changes fits.blocks;
    })

-- no fields are answered, and nothing changes
undecoded : (s : SessionView) (number : ℕ) (bytes : List ℕ) (e : DecoderError) (v : Session) (read : Reading)
    → IsReached s → decode_skip s.streams number ≡ None
    → HasBytes (oldest_undecoded (stream_at s.streams number)) bytes
    → reading_of_bytes (window s.decoder.table) bytes ≡ read → is_read (Some read) ≡ false
    → Answers (outcome.Decoded (Err e)) (decode_outcome read) → Shows s v
    → Goes s (spec.Decode number) (outcome.Decoded (Err e)) v
unfolding LawfulStep
undecoded s number bytes e v read at is found same stays answers shows =
    let kept = stream_at v.streams number in
    let block = found_block (stream_at s.streams number) kept bytes (shows.streams number) found in
    let reads = read_same s v bytes block.0 shows block.2 ∙ same in
    lawful s (spec.Decode number) (outcome.Decoded (Err e)) v (decode_outcome read) v answers shows tt tt
    (decode_skips s v number shows ∙ is)
    (inl (record {
      block = block.0;
      is_next = block.1;
      answers = sym (ap decode_outcome reads);
      moves = sym (ap (λ (x : Reading). if is_read (Some x) then with_decoded v number else v) reads
          ∙ ap (λ (b : Bool). if b then with_decoded v number else v) stays);
    }))
    (fits_reached s at)

decode_wants_memory : (s : SessionView) (number : ℕ) (v : Session) → IsReached s → decode_skip s.streams number ≡ None
    → Shows s v → Goes s (spec.Decode number) (outcome.Decoded (Err decoder.Memory)) v
unfolding LawfulStep
decode_wants_memory s number v at is shows =
    lawful s (spec.Decode number) (outcome.Decoded (Err decoder.Memory)) v spec.NoMemory v refl shows tt tt
    (decode_skips s v number shows ∙ is) (inr (refl, refl)) (fits_reached s at)

by_reading : (s : SessionView) (number : ℕ) (bytes : List ℕ) (e : DecoderError) (v : Session) (read : Reading)
    → IsReached s → decode_skip s.streams number ≡ None
    → HasBytes (oldest_undecoded (stream_at s.streams number)) bytes
    → reading_of_bytes (window s.decoder.table) bytes ≡ read → TellsReading e read
    → ((o : spec.Outcome) → TellsUndecoded e o → Answers (outcome.Decoded (Err e)) o) → Shows s v
    → Goes s (spec.Decode number) (outcome.Decoded (Err e)) v
by_reading s number bytes e v (Fields fs is_dynamic) at is found same tells answers shows = absurd tells
by_reading s number bytes e v (Missing required) at is found same tells answers shows =
    undecoded s number bytes e v (Missing required) at is found same refl (answers
    (spec.MissingReferences required) tells)
    shows
by_reading s number bytes e v (Faulty fault) at is found same tells answers shows =
    undecoded s number bytes e v (Faulty fault) at is found same refl (answers (spec.BadBlock fault) tells) shows

pub decodes_nothing : (s : SessionView) (number : ℕ) (bytes : List ℕ) (e : DecoderError)
    → IsReached s → decode_skip s.streams number ≡ None
    → HasBytes (oldest_undecoded (stream_at s.streams number)) bytes
    → DecodesSection (Err e) (reading_of_bytes (window s.decoder.table) bytes)
    → Follows s s (spec.Decode number) (outcome.Decoded (Err e))
decodes_nothing s number bytes decoder.Memory at is found read v shows = decode_wants_memory s number v at is shows
decodes_nothing s number bytes e at is found read v shows =
    by_reading s number bytes e v (reading_of_bytes (window s.decoder.table) bytes) at is found refl read
    (λ o h. h) shows
