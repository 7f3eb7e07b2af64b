-- What is kept between the calls of a connection in bytes, and by each call of the encoder.
use Rattle.std.proofs.Common.{◌≡◌, ◌≤◌, ℕ, false, List, [], ◌++◌}
use Rattle.std.proofs.Common.{Result, Ok, Err, refl, sym, ap, subst, ◌∙◌, inl, inr, ◌⊎◌}
use Rattle.std.proofs.lemmas.List.{append_assoc, append-nil}
use Rattle.std.specs.Prelude.{⊤}
use Rattle.qpack_spec.specs.Field.{FieldLine}
use Rattle.qpack_spec.specs.Instruction.{DecoderInstruction}
use Rattle.qpack_rules.specs.Session.{RequestStream, stream_at, oldest_undecoded}
use Rattle.qpack_spec.specs.Table.{with_capacity}
use Rattle.qpack_spec.specs.Window.{DoesNotFit}
use Rattle.qpack_safety.specs.AbstractSession.{abstract_start}
use Rattle.qpack_safety.specs.TwoEnds.{EndStep, after_end_steps}
use Rattle.qpack_encoding.specs.declared.encoder.EncodingError.{EncodingError}
use Rattle.qpack_encoding.specs.declared.encoder.EncodingError.TheVariants as encoding
use Rattle.qpack_connection.specs.Connections.{SentSection, Connection, Call, Encode, SetCapacity, Shrink, Hear}
use Rattle.qpack_connection.specs.Connections.{Step, EncodesOn, SetsCapacityOn, ShrinksOn, HearsOn, TakesAndHears}
use Rattle.qpack_connection.specs.Connections.{with_decoder, next_of}
use Rattle.qpack_decoding.specs.Decoders.{DecodingEnd, IsTaken}
use Rattle.qpack_encoding.specs.Encoders.{EncodingEnd, IsSound, begun, is_alone, waiting, WritesSection, WritesAlone}
use Rattle.qpack_encoding.specs.Encoders.{ReceivesBytes, SetsIt}
use Rattle.qpack_encoding.specs.Encoders as encoders
use Rattle.qpack_encoding.specs.Hearing as hearing
use Rattle.qpack_connection.specs.RefinedConnections.{received_of, RefinesSession}
use Rattle.qpack_connection.specs.RefinedStreams.{IsOpen}
use Rattle.qpack_connection.specs.TwoEndsHeadline.{Answers, Fits}
use Rattle.qpack_connection.specs.Waiting.{BlockedAreNext}
use Rattle.qpack_encoding.proofs.Encoders.{received_sound}
use Rattle.qpack_connection.proofs.KeptConnections.{sound_sent, sound_begun, sound_section, sound_set, sound_waiting}
use Rattle.qpack_connection.proofs.KeptConnections.{begun_failure, waiting_same}
use Rattle.qpack_connection.proofs.KeptConnections.{next_more, live_more, KeepsNext}
use Rattle.qpack_connection.proofs.CarefulEnds.{Stays, stays_same, stays_sent, stays_encoded, stays_set, stays_heard}
use Rattle.qpack_connection.proofs.CarefulEnds.{stays_shrunk}
use Rattle.qpack_connection.proofs.RefinedCapacities.{capacities_refined, shrinks_refined}
use Rattle.qpack_connection.proofs.RefinedConnections.{encodes_refined}
use Rattle.qpack_connection.proofs.RefinedHearings.{heard_refined}
use Rattle.qpack_connection.proofs.RefinedRefusals.{refused_encodes, refused_capacities}
use Rattle.qpack_connection.proofs.RefinedReports.{taken_refined}

-- ---- what is kept

pub record IsKept (maximum limit most : ℕ) (c : Connection) (steps : List EndStep) : Type 0 where
  pub refines : RefinesSession maximum c (after_end_steps steps (abstract_start 0 maximum limit))
  pub alive : IsOpen c
  pub sound : IsSound c.encoder
  pub most_at_risk : ℕ
  pub encoder : Stays most_at_risk c.encoder
  pub within : most_at_risk ≤ most
  pub settings : c.decoder.settings.max_blocked ≡ most
  pub waiting : BlockedAreNext c

-- what a call answers, and what is kept behind it
abbrev pub Behind : ℕ → ℕ → ℕ → (call : Call) (old new : Connection) → Step call old new → List EndStep → Type 0
Behind maximum limit most call old new step steps =
    Answers call old new step × (more : List EndStep) × IsKept maximum limit most new (steps ++ more)

-- by a call of the encoder
pub encoder_kept : (maximum limit most : ℕ) (old new : Connection) (e : EncodingEnd) (steps more : List EndStep)
    → (k : IsKept maximum limit most old steps)
    → RefinesSession maximum new (after_end_steps (steps ++ more) (abstract_start 0 maximum limit))
    → new.encoder ≡ record e { unsent = [] } → new.decoder ≡ old.decoder → IsSound e
    → e.failure ≡ old.encoder.failure → Stays k.most_at_risk e → ((s : ℕ) → KeepsNext old new s)
    → IsKept maximum limit most new (steps ++ more)
encoder_kept maximum limit most old new e steps more k refines is same sound failure encoder next =
    record {
      refines = refines;
      alive = record {
        encoder = ap (λ (y : EncodingEnd). y.failure) is ∙ failure ∙ k.alive.encoder;
        decoder = ap (λ (y : DecodingEnd). y.failure) same ∙ k.alive.decoder;
      };
      sound = subst IsSound (sym is) (sound_sent e sound);
      most_at_risk = k.most_at_risk;
      encoder = subst (Stays k.most_at_risk) (sym is) (stays_sent k.most_at_risk e [] encoder);
      within = k.within;
      settings = ap (λ (y : DecodingEnd). y.settings.max_blocked) same ∙ k.settings;
      waiting = waiting_same old new (ap (λ (y : DecodingEnd). y.blocked) same) next k.waiting;
    }

-- by a call of the decoder
pub decoder_kept : (maximum limit most : ℕ) (old new : Connection) (d : DecodingEnd) (steps more : List EndStep)
    → IsKept maximum limit most old steps
    → RefinesSession maximum new (after_end_steps (steps ++ more) (abstract_start 0 maximum limit)) → IsOpen new
    → new.encoder ≡ old.encoder → new.decoder ≡ record d { unsent = [] } → d.settings ≡ old.decoder.settings
    → BlockedAreNext new → IsKept maximum limit most new (steps ++ more)
decoder_kept maximum limit most old new d steps more k refines alive same is settings waiting =
    record {
      refines = refines;
      alive = alive;
      sound = subst IsSound (sym same) k.sound;
      most_at_risk = k.most_at_risk;
      encoder = subst (Stays k.most_at_risk) (sym same) k.encoder;
      within = k.within;
      settings = ap (λ (y : DecodingEnd). y.settings.max_blocked) is
          ∙ ap (λ s. s.max_blocked) settings ∙ k.settings;
      waiting = waiting;
    }

-- the same steps
pub none_more : (maximum limit : ℕ) (c : Connection) (steps : List EndStep)
    → RefinesSession maximum c (after_end_steps steps (abstract_start 0 maximum limit))
    → RefinesSession maximum c (after_end_steps (steps ++ []) (abstract_start 0 maximum limit))
none_more maximum limit c steps =
    subst (λ (es : List EndStep). RefinesSession maximum c (after_end_steps es (abstract_start 0 maximum limit)))
    (sym (append-nil steps))

-- ---- calls of the encoder

-- an end is sound, and no error ended it that did not end the other
abbrev KeepsEnd : EncodingEnd → EncodingEnd → Type 0
KeepsEnd e d = IsSound e × (e.failure ≡ d.failure)

begun_keeps : (e d : EncodingEnd) → IsSound d → e ≡ begun d → KeepsEnd e d
begun_keeps e d k is =
    (sound_begun d e k is, ap (λ (y : EncodingEnd). y.failure) is ∙ begun_failure d.wanted d)

section_keeps : (e d : EncodingEnd) → IsSound d → is_alone (begun d) ≡ false
    → e ≡ encoders.with_section e.table e.unsent (begun d) → KeepsEnd e d
section_keeps e d k room is = (
  sound_section d e e.table e.unsent k room is,
  ap (λ (y : EncodingEnd). y.failure) is ∙ begun_failure d.wanted d,
)

pub section_kept : (maximum limit most : ℕ) (old new : Connection) (s : ℕ) (fields : List FieldLine) (required : ℕ)
    (steps : List EndStep) → IsKept maximum limit most old steps
    → (step : EncodesOn old new s fields (Ok required)) → Fits (Encode s fields (Ok required)) old new step
    → Behind maximum limit most (Encode s fields (Ok required)) old new step steps
section_kept maximum limit most old new s fields required steps k step fits =
    let r = encodes_refined maximum limit old new steps s fields required k.refines k.sound fits.0 fits.1 step fits.2 in
    let kept = by_kind step.call.1 in (
      tt,
      r.0,
      encoder_kept maximum limit most old new step.encoder steps r.0 k r.1
          (ap (λ (y : Connection). y.encoder) step.new_is) (ap (λ (y : Connection). y.decoder) step.new_is)
          kept.0 kept.1
          (stays_encoded k.most_at_risk old.encoder step.encoder s fields step.section (Ok required) k.encoder
          step.call)
          (λ q. (
            λ x e. ap (λ (y : Connection). oldest_undecoded (stream_at y.streams q)) step.new_is
                ∙ next_more old.streams s (record { fields = fields; bytes = step.section; required = required }) q x e,
            λ live. ap (λ (y : Connection). (stream_at y.streams q).cancelled) step.new_is
                ∙ live_more old.streams s (record { fields = fields; bytes = step.section; required = required }) q live,
          )),
    )
  where
    by_kind : WritesSection (begun old.encoder) step.encoder s fields [] step.section required
        ⊎ WritesAlone (begun old.encoder) step.encoder fields [] step.section required
        → KeepsEnd step.encoder old.encoder
    by_kind (inl writes) = section_keeps step.encoder old.encoder k.sound writes.room writes.new_is
    by_kind (inr writes) = begun_keeps step.encoder old.encoder k.sound writes.new_is

-- streams that stay
pub stays : (old new : Connection) → new.streams ≡ old.streams → (s : ℕ) → KeepsNext old new s
stays old new same s = (
  λ k e. ap (λ (ps : List (ℕ × RequestStream SentSection)). oldest_undecoded (stream_at ps s)) same ∙ e,
  λ live. ap (λ (ps : List (ℕ × RequestStream SentSection)). (stream_at ps s).cancelled) same ∙ live,
)

pub refused_section_kept : (maximum limit most : ℕ) (old new : Connection) (s : ℕ) (fields : List FieldLine)
    (x : EncodingError) (steps : List EndStep) → IsKept maximum limit most old steps
    → (step : EncodesOn old new s fields (Err x)) → Fits (Encode s fields (Err x)) old new step
    → Behind maximum limit most (Encode s fields (Err x)) old new step steps
refused_section_kept maximum limit most old new s fields x steps k step fits =
    let r = refused_encodes maximum limit old new steps s fields x k.refines k.alive k.sound fits.0 fits.1 step in
    let kept = by_call step.call.1 in (
      r.0,
      r.2,
      encoder_kept maximum limit most old new step.encoder steps r.2 k r.3
          (ap (λ (y : Connection). y.encoder) step.new_is) (ap (λ (y : Connection). y.decoder) step.new_is)
          kept.0 kept.1
          (stays_encoded k.most_at_risk old.encoder step.encoder s fields step.section (Err x) k.encoder step.call)
          (stays old new (ap (λ (y : Connection). y.streams) step.new_is)),
    )
  where
    e : EncodingEnd
    e = step.encoder

    same : e ≡ old.encoder → KeepsEnd e old.encoder
    same is = (subst IsSound (sym is) k.sound, ap (λ (y : EncodingEnd). y.failure) is)

    by_call : (encoders.Checks old.encoder s (Err x) × (e ≡ old.encoder))
        ⊎ (encoders.Checks old.encoder s (Ok tt)
        × (x ≡ encoding.Memory)
        × encoders.StopsForMemory old.encoder e s fields)
        → KeepsEnd e old.encoder
    by_call (inl none) = same none.1
    by_call (inr (checks, memory, inl none)) = same none.1
    by_call (inr (checks, memory, inr (inl told))) = begun_keeps e old.encoder k.sound told.1
    by_call (inr (checks, memory, inr (inr g))) = section_keeps e old.encoder k.sound g.room g.new_is

pub capacity_kept : (maximum limit most : ℕ) (old new : Connection) (n : ℕ) (steps : List EndStep)
    → IsKept maximum limit most old steps → (step : SetsCapacityOn old new n (Ok tt))
    → Behind maximum limit most (SetCapacity n (Ok tt)) old new step steps
capacity_kept maximum limit most old new n steps k step =
    let r = capacities_refined maximum limit old new steps n k.refines step in
    let kept = by_kind step.call.1 in (
      tt,
      r.0,
      encoder_kept maximum limit most old new step.encoder steps r.0 k r.1
          (ap (λ (y : Connection). y.encoder) step.new_is) (ap (λ (y : Connection). y.decoder) step.new_is)
          kept.0 kept.1 (stays_set k.most_at_risk old.encoder step.encoder n (Ok tt) k.encoder step.call)
          (stays old new (ap (λ (y : Connection). y.streams) step.new_is)),
    )
  where
    by_kind : SetsIt old.encoder step.encoder n
        → IsSound step.encoder × (step.encoder.failure ≡ old.encoder.failure)
    by_kind (inl none) = (subst IsSound (sym none.1) k.sound, ap (λ (y : EncodingEnd). y.failure) none.1)
    by_kind (inr tells) = (
      sound_set old.encoder step.encoder k.sound (ap (λ (y : EncodingEnd). y.wanted) tells.1.1)
          (ap (λ (y : EncodingEnd). y.stream) tells.1.1) (ap (λ (y : EncodingEnd). y.failure) tells.1.1),
      ap (λ (y : EncodingEnd). y.failure) tells.1.1,
    )

pub refused_capacity_kept : (maximum limit most : ℕ) (old new : Connection) (n : ℕ) (x : EncodingError)
    (steps : List EndStep) → IsKept maximum limit most old steps → (step : SetsCapacityOn old new n (Err x))
    → Behind maximum limit most (SetCapacity n (Err x)) old new step steps
refused_capacity_kept maximum limit most old new n x steps k step =
    let r = refused_capacities maximum limit old new steps n x k.refines k.alive step in
    let same : step.encoder ≡ old.encoder = by_kind step.call in (
      r.0,
      [],
      encoder_kept maximum limit most old new step.encoder steps [] k (none_more maximum limit new steps r.2)
          (ap (λ (y : Connection). y.encoder) step.new_is) (ap (λ (y : Connection). y.decoder) step.new_is)
          (subst IsSound (sym same) k.sound) (ap (λ (y : EncodingEnd). y.failure) same)
          (stays_same k.most_at_risk old.encoder step.encoder k.encoder same)
          (stays old new (ap (λ (y : Connection). y.streams) step.new_is)),
    )
  where
    by_kind : encoders.SetsCapacity old.encoder step.encoder n (Err x) → step.encoder ≡ old.encoder
    by_kind (inl ended) = ended.1
    by_kind (inr (live, some, stops)) = stops.1

-- one that waits
waiting_kept : (maximum limit most : ℕ) (old new : Connection) (n : ℕ) (steps : List EndStep)
    → IsKept maximum limit most old steps → (step : ShrinksOn old new n (Ok tt))
    → with_capacity old.encoder.table n ≡ Err DoesNotFit → step.encoder ≡ waiting n old.encoder
    → Behind maximum limit most (Shrink n (Ok tt)) old new step steps
waiting_kept maximum limit most old new n steps k step held is =
    let r = shrinks_refined maximum limit old new steps n k.refines step in (
      tt,
      r.0,
      encoder_kept maximum limit most old new step.encoder steps r.0 k r.1
          (ap (λ (y : Connection). y.encoder) step.new_is) (ap (λ (y : Connection). y.decoder) step.new_is)
          (subst IsSound (sym is) (sound_waiting old.encoder n k.sound held)) (ap (λ (y : EncodingEnd). y.failure) is)
          (stays_shrunk k.most_at_risk old.encoder step.encoder n (Ok tt) k.encoder step.call)
          (stays old new (ap (λ (y : Connection). y.streams) step.new_is)),
    )

pub shrink_kept : (maximum limit most : ℕ) (old new : Connection) (n : ℕ) (steps : List EndStep)
    → IsKept maximum limit most old steps → (step : ShrinksOn old new n (Ok tt))
    → Behind maximum limit most (Shrink n (Ok tt)) old new step steps
shrink_kept maximum limit most old new n steps k step = elim step.call.1 [
  | inl sets ↦
      let c : SetsCapacityOn old new n (Ok tt) = record {
        encoder = step.encoder;
        call = (step.call.0, sets);
        new_is = step.new_is;
      } in
      capacity_kept maximum limit most old new n steps k c
  | inr waits ↦ waiting_kept maximum limit most old new n steps k step waits.0 waits.1
]

pub refused_shrink_kept : (maximum limit most : ℕ) (old new : Connection) (n : ℕ) (x : EncodingError)
    (steps : List EndStep) → IsKept maximum limit most old steps → (step : ShrinksOn old new n (Err x))
    → Behind maximum limit most (Shrink n (Err x)) old new step steps
refused_shrink_kept maximum limit most old new n x steps k step =
    let c : SetsCapacityOn old new n (Err x) = record {
      encoder = step.encoder;
      call = step.call.1;
      new_is = step.new_is;
    } in
    let kept = refused_capacity_kept maximum limit most old new n x steps k c in
    ((step.call.0, kept.0), kept.1, kept.2)

-- an end whose stream is taken has the same settings, table and blocked streams
pub taken_same : (d d' : DecodingEnd) → IsTaken d d'
    → (d'.settings ≡ d.settings) × (d'.blocked ≡ d.blocked) × (d'.table ≡ d.table)
taken_same d d' (inl reports) = (
  ap (λ (x : DecodingEnd). x.settings) reports,
  ap (λ (x : DecodingEnd). x.blocked) reports,
  ap (λ (x : DecodingEnd). x.table) reports,
)
taken_same d d' (inr same) = (
  ap (λ (x : DecodingEnd). x.settings) same,
  ap (λ (x : DecodingEnd). x.blocked) same,
  ap (λ (x : DecodingEnd). x.table) same,
)

-- where the decoder stream is taken
pub taken_kept : (maximum limit most : ℕ) (old : Connection) (d : DecodingEnd) (steps : List EndStep)
    → IsKept maximum limit most old steps → IsTaken old.decoder d
    → (more : List EndStep) × IsKept maximum limit most (with_decoder d old) (steps ++ more)
taken_kept maximum limit most old d steps k takes =
    let r = taken_refined maximum limit old d steps k.refines k.alive takes in
    let new = with_decoder d old in
    let same = taken_same old.decoder d takes in (
      r.1,
      decoder_kept maximum limit most old new d steps r.1 k r.2 r.0 refl refl same.0
          (waiting_same old new same.1 (stays old new refl) k.waiting),
    )

heard_kept : (maximum limit most : ℕ) (old new : Connection) (many : ℕ) (answer : Result ⊤ EncodingError)
    (steps : List EndStep) → IsKept maximum limit most old steps → (step : HearsOn old new many answer)
    → (answer ≡ Ok tt) × (more : List EndStep) × IsKept maximum limit most new (steps ++ more)
heard_kept maximum limit most old new many answer steps k step = (
  r.0,
  r.2,
  encoder_kept maximum limit most old new e steps r.2 k r.3
      (ap (λ (y : Connection). y.encoder) step.new_is) (ap (λ (y : Connection). y.decoder) step.new_is)
      (subst IsSound (sym is) (received_sound old.encoder e.table e.stream (next_of many old.decoder_stream) k.sound
      k.alive.encoder (λ heard before h. (hears heard before h).0)))
      (ap (λ (y : EncodingEnd). y.failure) is)
      (stays_heard k.most_at_risk old.encoder e (next_of many old.decoder_stream) (Ok tt) k.encoder
      k.alive.encoder hears)
      (stays old new (ap (λ (y : Connection). y.streams) step.new_is)),
)
  where
    e : EncodingEnd
    e = step.encoder

    r : (answer ≡ Ok tt) × IsOpen new × (more : List EndStep)
        × RefinesSession maximum new (after_end_steps (steps ++ more) (abstract_start 0 maximum limit))
    r = heard_refined maximum limit old new steps many answer k.refines k.alive step

    hears : (heard : List DecoderInstruction) (before : List ℕ) → hearing.Receives heard before old.encoder.stream
        → ReceivesBytes heard before old.encoder e (next_of many old.decoder_stream) (Ok tt)
    hears heard before h =
        subst (λ (a : Result ⊤ EncodingError). ReceivesBytes heard before old.encoder e (next_of many old.decoder_stream) a)
        r.0 (step.receives k.alive.encoder heard before h)

    is : e ≡ encoders.received e.table e.stream old.encoder
    is = (hears k.refines.heard (received_of old.decoder_stream) k.refines.hears).1

pub hearing_kept : (maximum limit most : ℕ) (old new : Connection) (many : ℕ) (answer : Result ⊤ EncodingError)
    (steps : List EndStep) → IsKept maximum limit most old steps → (step : TakesAndHears old new many answer)
    → Behind maximum limit most (Hear many answer) old new step steps
hearing_kept maximum limit most old new many answer steps k step =
    let taken = taken_kept maximum limit most old step.decoder steps k step.takes in
    let heard = heard_kept maximum limit most (with_decoder step.decoder old) new many answer (steps ++ taken.0) taken.1
    step.hears in (
      heard.0,
      taken.0 ++ heard.1,
      subst (IsKept maximum limit most new) (append_assoc steps taken.0 heard.1) heard.2,
    )
