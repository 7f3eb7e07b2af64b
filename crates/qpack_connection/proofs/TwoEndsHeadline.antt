-- Whatever calls are made of the two ends of a connection, neither refuses what the other sent, and what is decoded is
-- what was handed in.
use Rattle.std.proofs.Common.{◌≡◌, ℕ}
use Rattle.std.proofs.Common.{List, [], ◌∷◌, ◌++◌, length, map}
use Rattle.std.proofs.Common.{Ok, Err, sym, ap, subst, ◌∙◌, arith}
use Rattle.std.proofs.lemmas.List.{length-map}
use Rattle.std.specs.List.{AllByRecursion, filter}
use Rattle.std.specs.Prelude.{nat_lt}
use Rattle.qpack_spec.specs.Table.{Table, insert_count}
use Rattle.qpack_spec.specs.Window.{window_insert_count}
use Rattle.qpack_rules.proofs.PutTables.{count_put}
use Rattle.qpack_safety.specs.AbstractSession.{abstract_start}
use Rattle.qpack_safety.specs.TwoEnds.{EndStep, after_end_steps}
use Rattle.qpack_safety.proofs.TwoEnds.{strict_ends_safe}
use Rattle.qpack_shared.specs.declared.streams.BlockedStream.{BlockedStream}
use Rattle.qpack_connection.specs.Connections.{Connection, IsNew, Call, Encode, SetCapacity, Shrink, Hear, Receive}
use Rattle.qpack_connection.specs.Connections.{Decode, Cancel, Step, Run}
use Rattle.qpack_encoding.specs.Encoders.{IsSound}
use Rattle.qpack_connection.specs.TwoEndsHeadline.{Fits, IsWithin, AllFit, AllAnswer}
use Rattle.qpack_connection.specs.TwoEndsHeadline.{TwoEndsAnswerWhatWasHanded}
use Rattle.qpack_connection.specs.Waiting.{AreOfOneEach, IsNextOf}
use Rattle.qpack_connection.proofs.RefinedCapacities.{new_refined}
use Rattle.qpack_connection.proofs.FirstEnds.{sound_first, unused_first}
use Rattle.qpack_connection.proofs.CarefulEnds.{stays_first}
use Rattle.qpack_connection.proofs.WaitingStreams.{apart_from_none, none_waits_twice, all_at_risk}
use Rattle.qpack_encoding.specs.Risk.{streams_at_risk}
use Rattle.qpack_encoding.proofs.Risk.{at_risk_within}
use Rattle.qpack_connection.proofs.KeptEncoderCalls.{IsKept, Behind, section_kept, refused_section_kept, capacity_kept}
use Rattle.qpack_connection.proofs.KeptEncoderCalls.{refused_capacity_kept, shrink_kept, refused_shrink_kept, hearing_kept}
use Rattle.qpack_connection.proofs.KeptDecoderCalls.{reception_kept, cancellation_kept, refused_cancellation_kept}
use Rattle.qpack_connection.proofs.KeptDecoderCalls.{decode_kept}

-- ---- every call

pub step_kept : (maximum limit most : ℕ) → (call : Call) (old new : Connection) (steps : List EndStep)
    → IsKept maximum limit most old steps → (step : Step call old new) → Fits call old new step
    → Behind maximum limit most call old new step steps
step_kept maximum limit most (Encode s fields (Ok required)) old new steps k step fits =
    section_kept maximum limit most old new s fields required steps k step fits
step_kept maximum limit most (Encode s fields (Err e)) old new steps k step fits =
    refused_section_kept maximum limit most old new s fields e steps k step fits
step_kept maximum limit most (SetCapacity n (Ok it)) old new steps k step fits =
    capacity_kept maximum limit most old new n steps k step
step_kept maximum limit most (SetCapacity n (Err e)) old new steps k step fits =
    refused_capacity_kept maximum limit most old new n e steps k step
step_kept maximum limit most (Shrink n (Ok it)) old new steps k step fits =
    shrink_kept maximum limit most old new n steps k step
step_kept maximum limit most (Shrink n (Err e)) old new steps k step fits =
    refused_shrink_kept maximum limit most old new n e steps k step
step_kept maximum limit most (Hear many answer) old new steps k step fits =
    hearing_kept maximum limit most old new many answer steps k step
step_kept maximum limit most (Receive many answer) old new steps k step fits =
    reception_kept maximum limit most old new many answer steps k step
step_kept maximum limit most (Decode s fields answer) old new steps k step fits =
    decode_kept maximum limit most old new s fields answer steps k step
step_kept maximum limit most (Cancel s (Ok it)) old new steps k step fits =
    cancellation_kept maximum limit most old new s steps k step
step_kept maximum limit most (Cancel s (Err e)) old new steps k step fits =
    refused_cancellation_kept maximum limit most old new s e steps k step

-- ---- between calls

pub kept_within : (maximum limit most : ℕ) (c : Connection) (steps : List EndStep)
    → IsKept maximum limit most c steps → IsWithin most c
kept_within maximum limit most c steps k =
    let w = after_end_steps steps (abstract_start 0 maximum limit) in
    let r = k.refines in
    let n = insert_count c.decoder.table in
    let safe = (strict_ends_safe 0 maximum limit (omega arith) steps).0 in
    let count : n ≡ window_insert_count w.decoder = ap insert_count r.decoder_is ∙ count_put w.decoder in
    let waiting = filter (λ (b : BlockedStream). nat_lt n b.required) c.decoder.blocked in
    let few = at_risk_within w.encoder (map (λ (b : BlockedStream). b.stream) waiting)
    (none_waits_twice n [] c.decoder.blocked k.waiting.once (apart_from_none n c.decoder.blocked))
    (all_at_risk maximum limit n c steps c.decoder.blocked r (omega (arith, safe.received, count)) k.waiting.next) in
    let same : length (streams_at_risk c.encoder.table) ≡ length (streams_at_risk w.encoder) =
    ap (λ (t : Table). length (streams_at_risk t)) r.encoder_is in
    record {
      open_ends = k.alive;
      blocked = omega (arith, k.encoder.few, k.within);
      waiting = omega (arith, few, length-map waiting (λ (b : BlockedStream). b.stream), same, k.encoder.few, k.within);
      known = omega (
        arith,
        safe.received,
        ap (λ (t : Table). t.known_received_count) r.encoder_is,
        count,
      );
    }

-- ---- all calls

run_answers : (maximum limit most : ℕ) → (calls : List Call) (old new : Connection)
    (steps : List EndStep) → IsKept maximum limit most old steps → (run : Run calls old new) → AllFit calls old new run
    → AllAnswer most calls old new run
run_answers maximum limit most [] old new steps k run fits = tt
run_answers maximum limit most (call ∷ calls) old new steps k run fits =
    let one = step_kept maximum limit most call old run.0 steps k run.1 fits.0 in (
      one.0,
      kept_within maximum limit most run.0 (steps ++ one.1) one.2,
      run_answers maximum limit most calls run.0 new (steps ++ one.1) one.2 run.2 fits.1,
    )

-- ---- the beginning

new_sound : (c : Connection) → IsNew c → IsSound c.encoder
new_sound c k = sound_first k.encoder_settings c.encoder (unused_first k.encoder_settings c.encoder k.encoder)

pub new_kept : (c : Connection) (k : IsNew c)
    → IsKept k.encoder_settings.max_capacity 4096 k.decoder_settings.max_blocked c []
new_kept c k =
    record {
      refines = new_refined c k;
      alive = record { encoder = k.encoder.failure; decoder = k.decoder.failure };
      sound = new_sound c k;
      most_at_risk = k.encoder_settings.max_blocked;
      encoder = stays_first k.encoder_settings c.encoder (unused_first k.encoder_settings c.encoder k.encoder);
      within = k.blocks_within;
      settings = ap (λ x. x.max_blocked) k.decoder.settings_are;
      waiting = record {
        once = subst AreOfOneEach (sym k.decoder.blocked) tt;
        next = subst (AllByRecursion (IsNextOf c)) (sym k.decoder.blocked) tt;
      };
    }

pub two_ends_answer : TwoEndsAnswerWhatWasHanded
two_ends_answer calls first last new run fits =
    run_answers new.encoder_settings.max_capacity 4096 new.decoder_settings.max_blocked calls first last []
    (new_kept first new) run fits
