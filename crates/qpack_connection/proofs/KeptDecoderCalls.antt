-- What each call of the decoder of a connection in bytes keeps.
use Rattle.std.proofs.Common.{◌≡◌, ◌≤◌, ℕ, zero, suc, true, List, [], ◌∷◌, ◌++◌, length}
use Rattle.std.proofs.Common.{Some, Result, Ok, Err, sym, ap, subst, ◌∙◌, arith, inl, inr, ◌⊎◌}
use Rattle.std.proofs.lemmas.List.{append-nil, append_cancel_left, take_all}
use Rattle.std.specs.Prelude.{⊤}
use Rattle.qpack_spec.specs.Field.{FieldLine}
use Rattle.qpack_spec.specs.Form.{Truncates}
use Rattle.qpack_spec.specs.Instruction.{EncoderInstruction, SpellsEncoderInstruction}
use Rattle.qpack_spec.specs.Instruction.{encoder_instruction_form}
use Rattle.qpack_spec.specs.Stream.{SpellsAll}
use Rattle.qpack_rules.specs.StrictInstructions.{strict_apply}
use Rattle.qpack_rules.specs.Taking.{TakesAllOf}
use Rattle.qpack_spec.proofs.Cuttings.{wire, reads_front}
use Rattle.qpack_spec.proofs.Cuttings as cuttings
use Rattle.qpack_rules.specs.Session.{stream_at}
use Rattle.qpack_spec.specs.StrictReading.{StrictReading, strict_reading}
use Rattle.qpack_spec.specs.Table.{Table, empty_table, insert_count, window}
use Rattle.qpack_rules.proofs.PutTables.{count_put}
use Rattle.qpack_safety.specs.AbstractSession.{AbstractSession, abstract_start}
use Rattle.qpack_safety.specs.TwoEnds.{EndStep, after_end_steps}
use Rattle.qpack_safety.proofs.MadeInsertions.{required_made, all_taken}
use Rattle.qpack_safety.proofs.TwoEnds.{holds_started, holds_behind}
use Rattle.qpack_decoding.specs.declared.decoder.DecodingError.{DecodingError}
use Rattle.qpack_decoding.specs.declared.decoder.DecodingError.TheVariants as decoding
use Rattle.qpack_decoding.specs.declared.encoder_stream.EncoderStreamError.{EncoderStreamError}
use Rattle.qpack_decoding.specs.declared.section.Reading.{Reading}
use Rattle.qpack_decoding.specs.declared.section.Reading.TheVariants as reading
use Rattle.qpack_shared.specs.Streams.{without}
use Rattle.qpack_connection.specs.Connections.{Connection, Receive}
use Rattle.qpack_connection.specs.Connections.{Decode, Cancel, ReceivesOn}
use Rattle.qpack_connection.specs.Connections.{DecodesOn, CancelsOn, next_of, with_decoder, with_reading}
use Rattle.qpack_decoding.specs.Decoders.{DecodingEnd, acknowledged, IsNotAnswered, Checks, StopsDecoding}
use Rattle.qpack_decoding.specs.Decoders.{StopsForMemory, EndsReceiving, Decodes}
use Rattle.qpack_decoding.specs.Decoders as decoders
use Rattle.qpack_decoding.specs.Receiving as receiving
use Rattle.qpack_connection.specs.RefinedConnections.{received_of, RefinesSession}
use Rattle.qpack_connection.specs.RefinedDecodes.{AnswersSection}
use Rattle.qpack_connection.specs.RefinedStreams.{IsOpen}
use Rattle.qpack_connection.specs.TwoEndsHeadline.{HasAll, DoesNotWait}
use Rattle.qpack_connection.specs.Waiting.{BlockedAreNext}
use Rattle.qpack_connection.proofs.KeptConnections.{waiting_same}
use Rattle.qpack_connection.proofs.KeptConnections.{waiting_without, others_same, waiting_with}
use Rattle.qpack_connection.proofs.RefinedCancellations.{cancellations_refined}
use Rattle.qpack_connection.proofs.RefinedDecodes.{next_block, decodes_refined, stops_for_memory}
use Rattle.qpack_connection.proofs.RefinedReceptions.{receptions_refined}
use Rattle.qpack_connection.proofs.RefinedRefusals.{refused_cancellations}
use Rattle.qpack_connection.proofs.WaitingStreams.{may_wait}
use Rattle.qpack_connection.proofs.KeptEncoderCalls.{IsKept, Behind, decoder_kept, none_more, stays}

-- ---- bytes of the encoder stream

pub ends_keep : (d0 d : DecodingEnd) (taken : Result ⊤ EncoderStreamError) (a : Result ℕ DecodingError)
    → EndsReceiving d0 d taken a → (d.settings ≡ d0.settings) × (d.blocked ≡ d0.blocked)
ends_keep d0 d (Ok it) (Ok total) ends =
    (ap (λ (y : DecodingEnd). y.settings) ends.1, ap (λ (y : DecodingEnd). y.blocked) ends.1)
ends_keep d0 d (Ok it) (Err e) ends = absurd ends
ends_keep d0 d (Err e) a ends =
    (ap (λ (y : DecodingEnd). y.settings) ends.1, ap (λ (y : DecodingEnd). y.blocked) ends.1)

-- where all bytes were received, and none that are left are an instruction, none is under way
none_under_way : (maximum : ℕ) (c : Connection) (w : AbstractSession) → (r : RefinesSession maximum c w)
    → c.encoder_stream.received ≡ length c.encoder_stream.written
    → Truncates encoder_instruction_form c.decoder.stream.pending → w.in_flight ≡ []
none_under_way maximum c w r all cut = nothing x.still (x.left) same
  where
    k : TakesAllOf encoder_instruction_form strict_apply (empty_table 0 (Some maximum) 0) c.decoder.table
        (received_of c.encoder_stream) (λ front rest. (rest ≡ c.decoder.stream.pending)
        × receiving.Waits c.decoder.table c.decoder.stream)
    k = r.received.0

    written : c.encoder_stream.written ≡ k.front ++ (k.rest ++ [])
    written =
        sym (take_all c.encoder_stream.received c.encoder_stream.written (omega (arith, all))) ∙ k.cut
        ∙ ap (λ (b : List ℕ). k.front ++ b) (sym (append-nil k.rest))

    x : cuttings.Read EncoderInstruction SpellsEncoderInstruction k.lines (w.taken ++ w.in_flight) k.rest []
    x = reads_front SpellsEncoderInstruction (wire encoder_instruction_form) k.lines (w.taken ++ w.in_flight) k.front
        k.rest [] k.joined
        (subst (λ (b : List ℕ). SpellsAll SpellsEncoderInstruction b (w.taken ++ w.in_flight)) written r.encoder_stream)

    same : w.in_flight ≡ x.still
    same =
        append_cancel_left w.taken w.in_flight x.still
        (x.goes_on ∙ ap (λ (ls : List EncoderInstruction). ls ++ x.still) r.taken_are)

    nothing : (still : List EncoderInstruction) → SpellsAll SpellsEncoderInstruction (k.rest ++ []) still
        → w.in_flight ≡ still → w.in_flight ≡ []
    nothing [] left is = is
    nothing (i ∷ still) left is =
        absurd ((cut left.0 left.1 (sym k.ends.0 ∙ sym (append-nil k.rest) ∙ left.2)).0 i left.3)

-- behind a call that answers how many insertions there are, no whole instruction waits
pub cut_behind : (start old new : Table) (before bytes left : List ℕ) (s u : receiving.StreamView) (d0 d : DecodingEnd)
    (taken : Result ⊤ EncoderStreamError) (total : ℕ)
    → receiving.ReceivesMore start old new before bytes left s u taken → EndsReceiving d0 d taken (Ok total)
    → Truncates encoder_instruction_form u.pending
cut_behind start old new before bytes left s u d0 d (Ok it) total stream ends =
    subst (λ (b : List ℕ). Truncates encoder_instruction_form b) stream.1.0.ends.0 stream.1.0.ends.1.cut
cut_behind start old new before bytes left s u d0 d (Err e) total stream ends = absurd (let x = ends.0 in cc)

pub reception_kept : (maximum limit most : ℕ) (old new : Connection) (many : ℕ) (answer : Result ℕ DecodingError)
    (steps : List EndStep) → IsKept maximum limit most old steps → (step : ReceivesOn old new many answer)
    → Behind maximum limit most (Receive many answer) old new step steps
reception_kept maximum limit most old new many answer steps k step =
    let r = receptions_refined maximum limit old new steps many answer k.refines k.alive step in
    let x = step.receives k.alive.decoder (empty_table 0 (Some maximum) 0) (received_of old.encoder_stream)
    k.refines.received in
    let keeps = ends_keep (decoders.received step.decoder.table step.decoder.stream old.decoder) step.decoder x.taken
    answer x.ends in (
      (r.0, has_all r.2 r.3 answer x.taken x.stream x.ends),
      r.2,
      decoder_kept maximum limit most old new step.decoder steps r.2 k r.3 r.1
          (ap (λ (y : Connection). y.encoder) step.new_is) (ap (λ (y : Connection). y.decoder) step.new_is) keeps.0
          (waiting_same old new (ap (λ (y : Connection). y.decoder.blocked) step.new_is ∙ keeps.1)
          (stays old new (ap (λ (y : Connection). y.streams) step.new_is)) k.waiting),
    )
  where
    has_all : (more : List EndStep)
        → RefinesSession maximum new (after_end_steps (steps ++ more) (abstract_start 0 maximum limit))
        → (a : Result ℕ DecodingError) (taken : Result ⊤ EncoderStreamError)
        → receiving.ReceivesMore (empty_table 0 (Some maximum) 0) old.decoder.table step.decoder.table
        (received_of old.encoder_stream) (next_of many old.encoder_stream) step.left old.decoder.stream
        step.decoder.stream taken
        → EndsReceiving (decoders.received step.decoder.table step.decoder.stream old.decoder) step.decoder taken a
        → HasAll new a
    has_all more refines (Err e) taken stream ends = tt
    has_all more refines (Ok total) taken stream ends = λ all.
        (let w = after_end_steps (steps ++ more) (abstract_start 0 maximum limit) in
        let cut : Truncates encoder_instruction_form step.decoder.stream.pending =
        cut_behind (empty_table 0 (Some maximum) 0) old.decoder.table step.decoder.table
        (received_of old.encoder_stream) (next_of many old.encoder_stream) step.left old.decoder.stream
        step.decoder.stream (decoders.received step.decoder.table step.decoder.stream old.decoder) step.decoder taken
        total stream ends in
        let none : w.in_flight ≡ [] = none_under_way maximum new w refines all
        (subst (λ (b : List ℕ). Truncates encoder_instruction_form b)
        (sym (ap (λ (y : Connection). y.decoder.stream.pending) step.new_is)) cut) in
        ap insert_count refines.decoder_is ∙ count_put w.decoder
        ∙ all_taken 0 maximum limit w (holds_behind 0 maximum limit (steps ++ more) (abstract_start 0 maximum limit)
        (holds_started 0 maximum limit (omega arith))).invariant none
        ∙ sym (ap insert_count refines.encoder_is))

pub cancellation_kept : (maximum limit most : ℕ) (old new : Connection) (s : ℕ) (steps : List EndStep)
    → IsKept maximum limit most old steps → (step : CancelsOn old new s (Ok tt))
    → Behind maximum limit most (Cancel s (Ok tt)) old new step steps
cancellation_kept maximum limit most old new s steps k step =
    let r = cancellations_refined maximum limit old new steps s k.refines step in
    let is = step.call.1 in (
      tt,
      r.0,
      decoder_kept maximum limit most old new step.decoder steps r.0 k r.1
          (record {
            encoder = ap (λ (y : Connection). y.encoder.failure) step.new_is ∙ k.alive.encoder;
            decoder = ap (λ (y : Connection). y.decoder.failure) step.new_is
                ∙ ap (λ (y : DecodingEnd). y.failure) is ∙ k.alive.decoder;
          })
          (ap (λ (y : Connection). y.encoder) step.new_is) (ap (λ (y : Connection). y.decoder) step.new_is)
          (ap (λ (y : DecodingEnd). y.settings) is)
          (waiting_without old new s
          (ap (λ (y : Connection). y.decoder.blocked) step.new_is ∙ ap (λ (y : DecodingEnd). y.blocked) is)
          (λ q apart. ap (λ (y : Connection). stream_at y.streams q) step.new_is
          ∙ others_same old.streams s (record (stream_at old.streams s) { cancelled = true }) q apart) k.waiting),
    )

pub refused_cancellation_kept : (maximum limit most : ℕ) (old new : Connection) (s : ℕ) (x : DecodingError)
    (steps : List EndStep) → IsKept maximum limit most old steps → (step : CancelsOn old new s (Err x))
    → Behind maximum limit most (Cancel s (Err x)) old new step steps
refused_cancellation_kept maximum limit most old new s x steps k step =
    let r = refused_cancellations maximum limit old new steps s x k.refines k.alive step in
    let is : step.decoder ≡ old.decoder = by_kind step.call in (
      r.0,
      [],
      decoder_kept maximum limit most old new step.decoder steps [] k (none_more maximum limit new steps r.2) r.1
          (ap (λ (y : Connection). y.encoder) step.new_is) (ap (λ (y : Connection). y.decoder) step.new_is)
          (ap (λ (y : DecodingEnd). y.settings) is)
          (waiting_same old new
          (ap (λ (y : Connection). y.decoder.blocked) step.new_is ∙ ap (λ (y : DecodingEnd). y.blocked) is)
          (stays old new (ap (λ (y : Connection). y.streams) step.new_is)) k.waiting),
    )
  where
    by_kind : decoders.Cancels old.decoder step.decoder s (Err x) → step.decoder ≡ old.decoder
    by_kind (inl none) = none.1
    by_kind (inr (checks, memory, some, same)) = same

-- after an error of a decode the streams that are counted are as before, or the others
pub error_keeps : (old d : DecodingEnd) (s : ℕ) (read : StrictReading) (e : DecodingError)
    → IsNotAnswered old d s e ⊎ (Checks old s (Ok tt) × StopsDecoding old d s read e)
    → (d.settings ≡ old.settings) × ((d.blocked ≡ old.blocked) ⊎ (d.blocked ≡ without s old.blocked))
error_keeps old d s read e (inl none) =
    (ap (λ (y : DecodingEnd). y.settings) none.1, inl (ap (λ (y : DecodingEnd). y.blocked) none.1))
error_keeps old d s read (decoding.Section q x) (inr (checks, tells)) =
    (ap (λ (y : DecodingEnd). y.settings) tells.2, inr (ap (λ (y : DecodingEnd). y.blocked) tells.2))
error_keeps old d s read (decoding.TooManyBlocked q) (inr (checks, tells)) =
    (ap (λ (y : DecodingEnd). y.settings) tells.3, inl (ap (λ (y : DecodingEnd). y.blocked) tells.3))
error_keeps old d s read decoding.Memory (inr (checks, stops)) = elim (stops_for_memory old d read stops) [
  | inl same ↦ (ap (λ (y : DecodingEnd). y.settings) same, inl (ap (λ (y : DecodingEnd). y.blocked) same))
  | inr same ↦ (ap (λ (y : DecodingEnd). y.settings) same, inl (ap (λ (y : DecodingEnd). y.blocked) same))
]
error_keeps old d s read (decoding.EncoderStream p x) (inr (checks, tells)) = absurd tells
error_keeps old d s read (decoding.NoStream q) (inr (checks, tells)) = absurd tells

pub acknowledged_keeps : (old d : DecodingEnd) (s required : ℕ) → d ≡ acknowledged s required old
    → (d.settings ≡ old.settings) × (d.blocked ≡ without s old.blocked)
acknowledged_keeps old d s zero is =
    (ap (λ (y : DecodingEnd). y.settings) is, ap (λ (y : DecodingEnd). y.blocked) is)
acknowledged_keeps old d s (suc many) is =
    (ap (λ (y : DecodingEnd). y.settings) is, ap (λ (y : DecodingEnd). y.blocked) is)

pub decode_kept : (maximum limit most : ℕ) (old new : Connection) (s : ℕ) (fields : List FieldLine)
    (answer : Result Reading DecodingError) (steps : List EndStep) → IsKept maximum limit most old steps
    → (step : DecodesOn old new s fields answer)
    → Behind maximum limit most (Decode s fields answer) old new step steps
decode_kept maximum limit most old new s fields answer steps k step = (
  (r.0, λ all. no_wait all answer r.0),
  r.2,
  decoder_kept maximum limit most old new step.decoder steps r.2 k r.3 r.1 (same_encoder answer step.new_is)
      (new_decoder answer step.new_is) keeps.0 keeps.1,
)
  where
    d : DecodingEnd
    d = step.decoder

    r : AnswersSection old.decoder s step.section fields answer × IsOpen new × (more : List EndStep)
        × RefinesSession maximum new (after_end_steps (steps ++ more) (abstract_start 0 maximum limit))
    r = decodes_refined maximum limit old new steps s fields answer k.refines k.alive step
        (may_wait maximum limit old steps s step.section k.refines
        (omega (arith, k.encoder.few, k.within, k.settings)) k.waiting step.live step.is_next)

    made : step.section.required ≤ insert_count old.encoder.table
    made =
        let w = after_end_steps steps (abstract_start 0 maximum limit) in
        let n = next_block maximum old w s step.section k.refines step.is_next in
        let most = required_made 0 maximum limit w (holds_behind 0 maximum limit steps (abstract_start 0 maximum limit)
        (holds_started 0 maximum limit (omega arith))).invariant s n.block
        (sym (k.refines.streams s).cancelled_is ∙ step.live) n.next in
        omega (arith, most, n.refines.required_is, ap insert_count k.refines.encoder_is)

    no_wait : insert_count old.decoder.table ≡ insert_count old.encoder.table → (a : Result Reading DecodingError)
        → AnswersSection old.decoder s step.section fields a → DoesNotWait a
    no_wait all (Ok (reading.Fields n)) told = tt
    no_wait all (Ok (reading.Blocked n)) told = absurd (let x = made in omega (arith, all, told.2, x))
    no_wait all (Err e) told = tt

    same_encoder : (a : Result Reading DecodingError) → new ≡ with_reading s a (with_decoder d old)
        → new.encoder ≡ old.encoder
    same_encoder (Ok (reading.Fields n)) is = ap (λ (y : Connection). y.encoder) is
    same_encoder (Ok (reading.Blocked n)) is = ap (λ (y : Connection). y.encoder) is
    same_encoder (Err e) is = ap (λ (y : Connection). y.encoder) is

    new_decoder : (a : Result Reading DecodingError) → new ≡ with_reading s a (with_decoder d old)
        → new.decoder ≡ record d { unsent = [] }
    new_decoder (Ok (reading.Fields n)) is = ap (λ (y : Connection). y.decoder) is
    new_decoder (Ok (reading.Blocked n)) is = ap (λ (y : Connection). y.decoder) is
    new_decoder (Err e) is = ap (λ (y : Connection). y.decoder) is

    by_answer : (a : Result Reading DecodingError) → Decodes old.decoder d s
        (strict_reading (window old.decoder.table) old.decoder.settings.max_section_size step.section.bytes) fields a
        → AnswersSection old.decoder s step.section fields a
        → new ≡ with_reading s a (with_decoder d old) → (d.settings ≡ old.decoder.settings) × BlockedAreNext new
    by_answer (Ok (reading.Fields n)) h told is =
        let keeps = acknowledged_keeps old.decoder d s n h.1.1 in (
          keeps.0,
          waiting_without old new s (ap (λ (y : Connection). y.decoder.blocked) is ∙ keeps.1)
              (λ q apart. ap (λ (y : Connection). stream_at y.streams q) is ∙ others_same old.streams s _ q apart)
              k.waiting,
        )
    by_answer (Ok (reading.Blocked n)) h told is = (
      ap (λ (y : DecodingEnd). y.settings) h.1.3,
      waiting_with old new (record { stream = s; required = n })
          (ap (λ (y : Connection). y.decoder.blocked) is ∙ ap (λ (y : DecodingEnd). y.blocked) h.1.3)
          (ap (λ (y : Connection). y.streams) is)
          (record { live = step.live; section = step.section; next = step.is_next; required_is = told.1 }) k.waiting,
    )
    by_answer (Err e) h told is =
        let keeps = error_keeps old.decoder d s _ e h.1 in (
          keeps.0,
          elim keeps.1 [
            | inl same ↦
                waiting_same old new (ap (λ (y : Connection). y.decoder.blocked) is ∙ same)
                (stays old new (ap (λ (y : Connection). y.streams) is)) k.waiting
            | inr others ↦
                waiting_without old new s (ap (λ (y : Connection). y.decoder.blocked) is ∙ others)
                (λ q apart. ap (λ (y : Connection). stream_at y.streams q) is) k.waiting
          ],
        )

    keeps : (d.settings ≡ old.decoder.settings) × BlockedAreNext new
    keeps = by_answer answer step.call r.0 step.new_is
