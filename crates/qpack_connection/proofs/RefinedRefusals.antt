-- A call of a connection in bytes that is refused leaves a session of values.
use Rattle.std.proofs.Common.{◌≡◌, ◌<◌, ◌≤◌, ◌^◌, ℕ, zero, suc, List, [], ◌∷◌, ◌++◌, length, take}
use Rattle.std.proofs.Common.{Ok, Err, refl, sym, ap, subst, ◌∙◌, arith, inl, inr, ◌⊎◌, length-append}
use Rattle.std.specs.List.{AllByRecursion}
use Rattle.std.proofs.lemmas.List.{append_assoc}
use Rattle.qpack_spec.specs.Chosen.{chosen_rule}
use Rattle.qpack_spec.specs.Field.{FieldLine, fields_of_lines}
use Rattle.qpack_spec.specs.Instruction.{coded_encoder_instructions}
use Rattle.qpack_spec.specs.Table.{Table, without_references}
use Rattle.qpack_spec.specs.WrittenLaws.{IsByteField}
use Rattle.qpack_spec.specs.Text.{WhereShorter}
use Rattle.qpack_rules.proofs.ChosenWritten.{chosen_written}
use Rattle.qpack_spec.proofs.WrittenDrafts.{instructions_fit}
use Rattle.qpack_safety.specs.AbstractSession.{AbstractSession, abstract_start}
use Rattle.qpack_safety.specs.TwoEnds.{EndStep, Abandon, after_end_step, after_end_steps}
use Rattle.qpack_rules.proofs.ChosenDrafts.{chosen_drafts}
use Rattle.qpack_safety.proofs.Encoding.{same_unnamed}
use Rattle.qpack_safety.proofs.Invariant.{Invariant, sound_made}
use Rattle.qpack_safety.proofs.TwoEnds.{holds_started, holds_behind}
use Rattle.qpack_safety.proofs.WritingEvents.{few_insertions}
use Rattle.qpack_decoding.specs.declared.decoder.DecodingError.TheVariants as decoding
use Rattle.qpack_encoding.specs.declared.encoder.EncodingError.TheVariants as encoding
use Rattle.qpack_decoding.specs.Decoders as decoders
use Rattle.qpack_connection.specs.Connections.{Connection, with_encoder, with_decoder}
use Rattle.qpack_decoding.specs.Decoders.{DecodingEnd}
use Rattle.qpack_encoding.specs.Encoders.{EncodingEnd, begun, Checks, GivesUpSection, StopsForMemory}
use Rattle.qpack_connection.specs.RefinedConnections.{RefinesSession}
use Rattle.qpack_connection.specs.RefinedRefusals.{StopsEncoding, RefusedEncodesAreRefined}
use Rattle.qpack_connection.specs.RefinedRefusals.{RefusedCapacitiesAreRefined, RefusedShrinksAreRefined}
use Rattle.qpack_connection.specs.RefinedRefusals.{RefusedCancellationsAreRefined}
use Rattle.qpack_connection.specs.RefinedStreams.{IsOpen}
use Rattle.qpack_connection.proofs.KeptConnections.{begun_failure}
use Rattle.qpack_connection.proofs.RefinedConnections.{written_more, same_refined, told_refined, after_more, after_last}
use Rattle.qpack_connection.proofs.RefinedReports.{none_written}
use Rattle.qpack_connection.proofs.ThinnedStreams.{keeps_same}

-- ---- the ends stay open

open_encoder : (c new : Connection) (e : EncodingEnd) → IsOpen c → new ≡ with_encoder e c
    → e.failure ≡ c.encoder.failure → IsOpen new
open_encoder c new e alive is same =
    record {
      encoder = ap (λ (y : Connection). y.encoder.failure) is ∙ same ∙ alive.encoder;
      decoder = ap (λ (y : Connection). y.decoder.failure) is ∙ alive.decoder;
    }

open_decoder : (c new : Connection) (d : DecodingEnd) → IsOpen c → new ≡ with_decoder d c
    → d.failure ≡ c.decoder.failure → IsOpen new
open_decoder c new d alive is same =
    record {
      encoder = ap (λ (y : Connection). y.encoder.failure) is ∙ alive.encoder;
      decoder = ap (λ (y : Connection). y.decoder.failure) is ∙ same ∙ alive.decoder;
    }

-- ---- a section is given up

first_bytes : (many : ℕ) (fields : List FieldLine) → AllByRecursion IsByteField (fields_of_lines fields)
    → AllByRecursion IsByteField (fields_of_lines (take many fields))
first_bytes zero fields are = tt
first_bytes (suc many) [] are = tt
first_bytes (suc many) (f ∷ fields) are = (are.0, first_bytes many fields are.1)

given_up : (maximum limit : ℕ) (c : Connection) (w : AbstractSession) (e : EncodingEnd) (fields : List FieldLine)
    → Invariant 0 maximum limit w → RefinesSession maximum c w → AllByRecursion IsByteField (fields_of_lines fields)
    → length (c.encoder_stream.written ++ e.unsent) < 2 ^ 63 → (g : GivesUpSection c.encoder e fields)
    → RefinesSession maximum (with_encoder e c)
    (after_end_step w (Abandon (take g.lines.many fields) g.lines.choices))
given_up maximum limit c w e fields k r are short g =
    let some = take g.lines.many fields in
    let cs = g.lines.choices in
    let d = chosen_rule w.encoder some cs in
    let unsent : e.unsent ≡ coded_encoder_instructions WhereShorter d.instructions =
    g.lines.written
    ∙ ap (λ (b : List ℕ). b ++ coded_encoder_instructions WhereShorter (chosen_rule c.encoder.table some cs).instructions)
    r.encoder_sent
    ∙ ap (λ (t : Table). coded_encoder_instructions WhereShorter (chosen_rule t some cs).instructions) r.encoder_is in
    let fits : length (coded_encoder_instructions WhereShorter d.instructions) < 2 ^ 63 =
    omega (arith, short, length-append c.encoder_stream.written e.unsent, ap length unsent) in
    let wd =
    chosen_written w.encoder some cs (few_insertions 0 maximum limit w k) (first_bytes g.lines.many fields are) in
    let p = chosen_drafts w.encoder k.made some cs (sound_made 0 maximum limit w k) k.encoder in
    let same = same_unnamed d.table in
    written_more maximum c w e (without_references d.table) d.instructions (w.in_flight ++ d.instructions) c.streams
    w.streams r
    (g.lines.table ∙ ap (λ (t : Table). without_references (chosen_rule t some cs).table) r.encoder_is)
    (ap (λ (y : EncodingEnd). y.stream) g.new_is) unsent
    (instructions_fit WhereShorter d.instructions wd.instructions fits) refl r.streams
    (keeps_same w.encoder (without_references d.table) (same.u_known ∙ p.references.known_received_count)
    (same.u_opened ∙ p.references.unacknowledged))

pub refused_encodes : RefusedEncodesAreRefined
refused_encodes maximum limit c new steps s fields x r alive sound are short call =
    by_call call.call.1
  where
    start : AbstractSession
    start = abstract_start 0 maximum limit

    w : AbstractSession
    w = after_end_steps steps start

    e : EncodingEnd
    e = call.encoder

    now : new ≡ with_encoder e c
    now = call.new_is

    first : (more : List EndStep) × RefinesSession maximum (with_encoder (begun c.encoder) c) (after_end_steps more w)
    first = told_refined maximum c w c.encoder.wanted r

    behind : (more : List EndStep) → RefinesSession maximum (with_encoder e c) (after_end_steps more w)
        → e.failure ≡ c.encoder.failure → StopsEncoding s x
        → StopsEncoding s x × IsOpen new × (more : List EndStep)
        × RefinesSession maximum new (after_end_steps (steps ++ more) start)
    behind more k same stops = (
      stops,
      open_encoder c new e alive now same,
      more,
      subst (λ (y : Connection). RefinesSession maximum y (after_end_steps (steps ++ more) start)) (sym now)
          (subst (λ (y : AbstractSession). RefinesSession maximum (with_encoder e c) y) (sym (after_more steps more start))
          k),
    )

    by_memory : StopsEncoding s x → StopsForMemory c.encoder e s fields
        → StopsEncoding s x × IsOpen new × (more : List EndStep)
        × RefinesSession maximum new (after_end_steps (steps ++ more) start)
    by_memory stops (inl same) =
        behind [] (same_refined maximum c w e r same.1) (ap (λ (y : EncodingEnd). y.failure) same.1) stops
    by_memory stops (inr (inl told)) =
        behind first.0
        (subst (λ (y : EncodingEnd). RefinesSession maximum (with_encoder y c) (after_end_steps first.0 w)) (sym told.1)
        first.1)
        (ap (λ (y : EncodingEnd). y.failure) told.1 ∙ begun_failure c.encoder.wanted c.encoder) stops
    by_memory stops (inr (inr g)) =
        let some = take g.lines.many fields in
        let cs = g.lines.choices in
        let step = Abandon some cs in
        let written = coded_encoder_instructions WhereShorter (chosen_rule (begun c.encoder).table some cs).instructions in
        let c1 = with_encoder (begun c.encoder) c in
        let w1 = after_end_steps first.0 w in
        let k = (holds_behind 0 maximum limit first.0 w (holds_behind 0 maximum limit steps start
        (holds_started 0 maximum limit (omega arith)))).invariant in
        let e1 : EncodingEnd = record e { unsent = written } in
        let g1 : GivesUpSection c1.encoder e1 fields = record {
          room = g.room;
          lines = record { many = g.lines.many; choices = cs; table = g.lines.table; written = refl };
          new_is = ap (λ (y : EncodingEnd). let z : EncodingEnd = record y { unsent = written } in z) g.new_is;
        } in
        let bytes : c1.encoder_stream.written ++ written ≡ c.encoder_stream.written ++ e.unsent =
        append_assoc c.encoder_stream.written (begun c.encoder).unsent written
        ∙ ap (λ (b : List ℕ). c.encoder_stream.written ++ b) (sym g.lines.written) in
        let same : with_encoder e1 c1 ≡ with_encoder e c =
        ap (λ (b : List ℕ). let y : Connection = record (with_encoder e c) {
          encoder_stream = record c.encoder_stream { written = b };
        } in y) bytes in
        let few : length (c1.encoder_stream.written ++ written) < 2 ^ 63 =
        subst (λ (b : List ℕ). length b < 2 ^ 63) (sym bytes)
        (subst (λ (y : Connection). length y.encoder_stream.written < 2 ^ 63) now short) in
        behind (first.0 ++ step ∷ [])
        (subst (λ (y : AbstractSession). RefinesSession maximum (with_encoder e c) y)
        (sym (after_last first.0 step w))
        (subst (λ (y : Connection). RefinesSession maximum y (after_end_step w1 step)) same
        (given_up maximum limit c1 w1 e1 fields k first.1 are few g1)))
        (ap (λ (y : EncodingEnd). y.failure) g.new_is ∙ begun_failure c.encoder.wanted c.encoder) stops

    by_call : (Checks c.encoder s (Err x) × (e ≡ c.encoder))
        ⊎ (Checks c.encoder s (Ok tt) × (x ≡ encoding.Memory)
        × StopsForMemory c.encoder e s fields)
        → StopsEncoding s x × IsOpen new × (more : List EndStep)
        × RefinesSession maximum new (after_end_steps (steps ++ more) start)
    by_call (inl (inl ended, same)) = absurd (let q = sym alive.encoder ∙ ended in cc)
    by_call (inl (inr number, same)) =
        behind [] (same_refined maximum c w e r same) (ap (λ (y : EncodingEnd). y.failure) same)
        (inr (number.2, number.1))
    by_call (inr (checks, memory, stops)) = by_memory (inl memory) stops

pub refused_capacities : RefusedCapacitiesAreRefined
refused_capacities maximum limit c new steps n x r alive call = elim call.call [
  | inl ended ↦ absurd (let q = sym alive.encoder ∙ ended.0 in cc)
  | inr stops ↦ (
    stops.2.0,
    open_encoder c new call.encoder alive call.new_is (ap (λ (y : EncodingEnd). y.failure) stops.2.1),
    subst (λ (y : Connection). RefinesSession maximum y (after_end_steps steps (abstract_start 0 maximum limit)))
        (sym call.new_is)
        (same_refined maximum c (after_end_steps steps (abstract_start 0 maximum limit)) call.encoder r stops.2.1),
  )
]

pub refused_shrinks : RefusedShrinksAreRefined
refused_shrinks maximum limit c new steps n x r alive call =
    let refused = refused_capacities maximum limit c new steps n x r alive
    (record { encoder = call.encoder; call = call.call.1; new_is = call.new_is }) in
    ((call.call.0, refused.0), refused.1, refused.2)

pub refused_cancellations : RefusedCancellationsAreRefined
refused_cancellations maximum limit c new steps s x r alive call = by_call call.call
  where
    w : AbstractSession
    w = after_end_steps steps (abstract_start 0 maximum limit)

    behind : call.decoder ≡ c.decoder → IsOpen new × RefinesSession maximum new w
    behind same = (
      open_decoder c new call.decoder alive call.new_is (ap (λ (y : DecodingEnd). y.failure) same),
      subst (λ (y : Connection). RefinesSession maximum y w) (sym call.new_is)
          (none_written maximum c w call.decoder r same),
    )

    by_call : decoders.Cancels c.decoder call.decoder s (Err x)
        → ((x ≡ decoding.Memory) ⊎ ((x ≡ decoding.NoStream s) × (2 ^ 62 ≤ s))) × IsOpen new
        × RefinesSession maximum new w
    by_call (inl (inl ended, same)) = absurd (let q = sym alive.decoder ∙ ended in cc)
    by_call (inl (inr number, same)) = let b = behind same in (inr (number.2, number.1), b.0, b.1)
    by_call (inr (checks, memory, some, same)) = let b = behind same in (inl memory, b.0, b.1)
