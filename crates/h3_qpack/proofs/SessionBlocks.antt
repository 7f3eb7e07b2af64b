-- A block that a session encodes.
use Rattle.std.proofs.Common.{◌≡◌, ◌<◌, ◌^◌, ℕ, List, [], ◌∷◌, ◌++◌, length, map, take}
use Rattle.std.proofs.Common.{None, Result, Ok, Err, OnErr, IfOk, IfErr}
use Rattle.std.proofs.Common.{refl, sym, ap, subst, ◌∙◌, inl, inr}
use Rattle.std.proofs.lemmas.List.{map-append}
use Rattle.std.specs.Prelude.{◌⊎◌}
use Rattle.std.specs.List.{AllByRecursion}
use Rattle.qpack_spec.specs.BlockReading.{written_block}
use Rattle.qpack_spec.specs.Field.{Field}
use Rattle.qpack_spec.specs.Instruction.{written_encoder_instructions}
use Rattle.qpack_spec.specs.Rule.{rule, required_insert_count, block_of}
use Rattle.qpack_rules.specs.Session as spec
use Rattle.qpack_rules.specs.Session.{Session, KeptBlock, KeptStream, stream_at, with_block, after_refused_encode}
use Rattle.qpack_rules.specs.Session.{LawfulStep, skip_reason}
use Rattle.qpack_spec.specs.Table.{Table, without_references}
use Rattle.qpack_spec.specs.WrittenLaws.{IsByteField}
use Rattle.h3_qpack.proofs.Sessions.{fits_reached, fits_changed, fits_kept, shows_changed, lawful}
use Rattle.qpack_codec.specs.Encoding.{EncodesBlock, GivesUpBlock}
use Rattle.h3_qpack.specs.Sessions.{StoredBlock, StoredStream, stored_block, stored_stream, SessionView, Shows}
use Rattle.qpack_codec.specs.RequestStreams.{KeepsStreams}
use Rattle.h3_qpack.specs.Sessions.{IsReached, Follows, Goes, encode_skip}
use Rattle.h3_qpack.specs.Sessions.{WritesStream, GivesUp}
use Rattle.qpack_codec.specs.declared.error.EncoderError.{EncoderError}
use Rattle.qpack_codec.specs.declared.error.EncoderError.TheVariants.{Memory}
use Rattle.h3_qpack.specs.declared.session.Outcome.TheVariants as outcome

abbrev with_written : SessionView → Table → List ℕ → List (ℕ × StoredStream) → SessionView
with_written s encoder written streams = record s { encoder = encoder; encoder_stream = written; streams = streams }

pub encode_skips : (v : Session) (number : ℕ) (fields : List Field)
    → skip_reason v (spec.Encode number fields) ≡ encode_skip number
unfolding skip_reason
encode_skips v number fields = refl

-- what is shown behind an encode
written_shown : (s : SessionView) (v : Session) (encoder : Table) (written : List ℕ) (streams : List (ℕ × StoredStream))
    (kept : List (ℕ × KeptStream)) (encoder' : Table) (written' : List ℕ) → Shows s v → encoder' ≡ encoder
    → written' ≡ written
    → ((q : ℕ) → stream_at streams q ≡ stored_stream (stream_at kept q))
    → Shows (with_written s encoder written streams)
    (record v { encoder = encoder'; encoder_stream = written'; streams = kept })
written_shown s v encoder written streams kept encoder' written' shows same wrote streams_are =
    record {
      encoder = same;
      decoder = shows.decoder;
      unreported = shows.unreported;
      encoder_stream = wrote;
      encoder_stream_delivered = shows.encoder_stream_delivered;
      encoder_stream_taken = shows.encoder_stream_taken;
      decoder_stream = shows.decoder_stream;
      decoder_stream_delivered = shows.decoder_stream_delivered;
      decoder_stream_taken = shows.decoder_stream_taken;
      streams = streams_are;
    }

-- the block of the definitions
abbrev block_made : Session → List Field → KeptBlock
block_made v fields =
    record {
      bytes = written_block (block_of v.encoder (rule v.encoder fields));
      required = required_insert_count (rule v.encoder fields);
      end = length (v.encoder_stream ++ written_encoder_instructions (rule v.encoder fields).instructions);
      fields = fields;
    }

-- it is the block that was kept
same_block : (v : Session) (number : ℕ) (fields : List Field) (encoder : Table) (bytes written : List ℕ) (required : ℕ)
    → EncodesBlock number fields v.encoder encoder [] bytes v.encoder_stream written required
    → (let b : StoredBlock = record { bytes = bytes; required = required } in b) ≡ stored_block (block_made v fields)
same_block v number fields encoder bytes written required w =
    ap (λ (l : List ℕ). let b : StoredBlock = record { bytes = l; required = required } in b) w.block
    ∙ ap (λ (n : ℕ). let b : StoredBlock =
    record { bytes = written_block (block_of v.encoder (rule v.encoder fields)); required = n } in b) w.required_is

-- and its stream the one that is kept
same_stream : (old new : StoredStream) (kept : KeptStream) (b : StoredBlock) (made : KeptBlock)
    → old ≡ stored_stream kept → b ≡ stored_block made → new ≡ record old { blocks = old.blocks ++ b ∷ [] }
    → new ≡ stored_stream (record kept { blocks = kept.blocks ++ made ∷ [] })
same_stream old new kept b made e same is =
    is
    ∙ ap (λ (k : StoredStream). let x : StoredStream = record k { blocks = k.blocks ++ b ∷ [] } in x) e
    ∙ ap (λ (y : StoredBlock). let x : StoredStream =
    record (stored_stream kept) { blocks = map stored_block kept.blocks ++ y ∷ [] } in x) same
    ∙ ap (λ (bs : List StoredBlock). let x : StoredStream = record (stored_stream kept) { blocks = bs } in x)
    (sym (map-append stored_block kept.blocks (made ∷ [])))

blocks_fit_more : (bs : List StoredBlock) (b : StoredBlock) → length b.bytes < 2 ^ 63
    → AllByRecursion (λ b. length b.bytes < 2 ^ 63) bs → AllByRecursion (λ b. length b.bytes < 2 ^ 63) (bs ++ b ∷ [])
blocks_fit_more [] b small h = (small, tt)
blocks_fit_more (x ∷ xs) b small h = (h.0, blocks_fit_more xs b small h.1)

-- a block is written
encodes_so : (s : SessionView) (encoder : Table) (written : List ℕ) (streams : List (ℕ × StoredStream)) (number : ℕ)
    (fields : List Field) (required : ℕ) (v : Session) → IsReached s → encode_skip number ≡ None
    → AllByRecursion IsByteField fields
    → WritesStream number fields s.encoder encoder s.encoder_stream written s.streams streams required → Shows s v
    → Goes (with_written s encoder written streams) (spec.Encode number fields) (outcome.Encoded (Ok required)) v
unfolding LawfulStep
encodes_so s encoder written streams number fields required v at is bytes w shows =
    let fits = fits_reached s at in
    let old = stream_at s.streams number in
    let kept = stream_at v.streams number in
    let e : EncodesBlock number fields v.encoder encoder [] w.writes.bytes v.encoder_stream written required =
    subst (λ (t : Table). EncodesBlock number fields t encoder [] w.writes.bytes v.encoder_stream written required)
    (sym shows.encoder)
    (subst (λ (l : List ℕ). EncodesBlock number fields s.encoder encoder [] w.writes.bytes l written required)
    (sym shows.encoder_stream) w.writes.encodes) in
    let b : StoredBlock = record { bytes = w.writes.bytes; required = required } in
    let same = same_stream old w.stream kept b (block_made v fields) (shows.streams number)
    (same_block v number fields encoder w.writes.bytes written required e) w.writes.keeps in
    lawful (with_written s encoder written streams) (spec.Encode number fields) (outcome.Encoded (Ok required)) v
    (spec.Encoded required) (with_block v number fields) refl
    (written_shown s v encoder written streams _ _ _ shows (sym e.table) (sym e.written)
    (shows_changed s.streams streams v.streams number w.stream
    (record kept { blocks = kept.blocks ++ block_made v fields ∷ [] }) same w.changes shows.streams))
    tt bytes (encode_skips v number fields ∙ is) (inl (ap (λ (n : ℕ). spec.Encoded n) e.required_is, refl))
    (record {
      encoder_stream = w.writes.written_fits;
      blocks = fits_changed s.streams streams number w.stream
          (subst (λ (k : StoredStream). AllByRecursion (λ b. length b.bytes < 2 ^ 63) k.blocks) (sym w.writes.keeps)
          (blocks_fit_more old.blocks b w.writes.block_fits (fits.blocks number)))
          w.changes fits.blocks;
    })

-- a block is given up, or nothing changed
gives_up : (s : SessionView) (encoder : Table) (written : List ℕ) (streams : List (ℕ × StoredStream)) (number : ℕ)
    (fields : List Field) (v : Session) → IsReached s → encode_skip number ≡ None → AllByRecursion IsByteField fields
    → length written < 2 ^ 63
    → ((encoder ≡ s.encoder) × (written ≡ s.encoder_stream))
    ⊎ GivesUpBlock fields s.encoder encoder s.encoder_stream written
    → KeepsStreams s.streams streams → Shows s v
    → Goes (with_written s encoder written streams) (spec.Encode number fields) (outcome.Encoded (Err Memory)) v
unfolding LawfulStep
gives_up s encoder written streams number fields v at is bytes small (inl h) keeps shows =
    let fits = fits_reached s at in
    lawful (with_written s encoder written streams) (spec.Encode number fields) (outcome.Encoded (Err Memory)) v
    spec.NoMemory v (refl, refl)
    (written_shown s v encoder written streams v.streams v.encoder v.encoder_stream shows (shows.encoder ∙ sym h.0)
    (shows.encoder_stream ∙ sym h.1) (λ q. keeps q ∙ shows.streams q))
    tt bytes (encode_skips v number fields ∙ is) (inr (inr (refl, refl)))
    (record { encoder_stream = small; blocks = fits_kept s.streams streams keeps fits.blocks })
gives_up s encoder written streams number fields v at is bytes small (inr g) keeps shows =
    let fits = fits_reached s at in
    let front = take g.many fields in
    lawful (with_written s encoder written streams) (spec.Encode number fields) (outcome.Encoded (Err Memory)) v
    spec.NoMemory (after_refused_encode v front) (refl, refl)
    (written_shown s v encoder written streams v.streams _ _ shows
    (ap (λ (t : Table). without_references (rule t front).table) shows.encoder ∙ sym g.table)
    (ap (λ (t : Table). v.encoder_stream ++ written_encoder_instructions (rule t front).instructions) shows.encoder
    ∙ ap (λ (l : List ℕ). l ++ written_encoder_instructions (rule s.encoder front).instructions) shows.encoder_stream
    ∙ sym g.written)
    (λ q. keeps q ∙ shows.streams q))
    tt bytes (encode_skips v number fields ∙ is) (inr (inl (record { many = g.many; answers = refl; leads = refl })))
    (record { encoder_stream = small; blocks = fits_kept s.streams streams keeps fits.blocks })

pub encodes : (s : SessionView) (encoder : Table) (written : List ℕ) (streams : List (ℕ × StoredStream)) (number : ℕ)
    (fields : List Field) (r : Result ℕ EncoderError) → IsReached s → encode_skip number ≡ None
    → AllByRecursion IsByteField fields
    → IfOk r (WritesStream number fields s.encoder encoder s.encoder_stream written s.streams streams)
    → OnErr r (GivesUp fields s.encoder encoder s.encoder_stream written) → OnErr r (KeepsStreams s.streams streams)
    → IfErr r (λ e. e ≡ Memory)
    → Follows s (with_written s encoder written streams) (spec.Encode number fields) (outcome.Encoded r)
encodes s encoder written streams number fields (Ok required) at is bytes w _ _ _ v shows =
    encodes_so s encoder written streams number fields required v at is bytes w shows
encodes s encoder written streams number fields (Err e) at is bytes _ g keeps memory v shows =
    subst (λ (x : EncoderError). Goes (with_written s encoder written streams) (spec.Encode number fields)
    (outcome.Encoded (Err x)) v) (sym memory)
    (gives_up s encoder written streams number fields v at is bytes g.written_fits g.gives_up keeps shows)
