-- A new connection in bytes is the session of values at its beginning, and a capacity that is set is one that it sets;
-- one that waits changes nothing.
use Rattle.std.proofs.Common.{◌≡◌, ◌≤◌, ◌<◌, ◌^◌, ℕ, List, [], ◌∷◌, ◌++◌}
use Rattle.std.proofs.Common.{Some, refl, sym, ap, subst, ◌∙◌, arith, inl, inr}
use Rattle.std.proofs.lemmas.List.{append-nil}
use Rattle.qpack_spec.specs.History.{initial_history, window_of}
use Rattle.qpack_spec.specs.Instruction.{EncoderInstruction}
use Rattle.qpack_spec.specs.Instruction.{SpellsEncoderInstruction, encoder_instruction_form}
use Rattle.qpack_spec.specs.Stream.{SpellsAll}
use Rattle.qpack_spec.specs.Table.{Table, empty_table, table_of, insert_count}
use Rattle.qpack_spec.proofs.Cuttings.{wire, nil_append}
use Rattle.qpack_safety.specs.AbstractSession.{AbstractSession, abstract_start}
use Rattle.qpack_safety.specs.TwoEnds.{EndStep, Resize, after_end_steps}
use Rattle.qpack_connection.specs.Connections.{Wire, Connection}
use Rattle.qpack_encoding.specs.Encoders.{EncodingEnd}
use Rattle.qpack_encoding.specs.Hearing as hearing
use Rattle.qpack_decoding.specs.Receiving as receiving
use Rattle.qpack_connection.specs.RefinedConnections.{received_of, RefinesSession, NewConnectionsAreRefined}
use Rattle.qpack_connection.specs.RefinedConnections.{CapacitiesAreRefined, ShrinksAreRefined}
use Rattle.qpack_connection.proofs.RefinedConnections.{capacity_refined, same_refined, kept_refined, after_more}

-- ---- the beginning

-- no bytes are no instructions
nothing_spelled : (front : List ℕ) (lines : List EncoderInstruction) → SpellsAll SpellsEncoderInstruction front lines
    → front ≡ [] → lines ≡ []
nothing_spelled front [] joined none = refl
nothing_spelled front (l ∷ lines) joined none =
    absurd ((wire encoder_instruction_form).spells_some l
    (subst (λ (b : List ℕ). SpellsEncoderInstruction b l) (nil_append joined.0 joined.1 (sym joined.2 ∙ none))
    joined.3))

-- the table of a decoder at the beginning
empty_decoder : (maximum : ℕ) → (let t : Table = empty_table 0 (Some maximum) 0 in t)
    ≡ table_of (window_of (initial_history 0 maximum))
unfolding table_of window_of
empty_decoder maximum = refl

pub new_refined : NewConnectionsAreRefined
new_refined c k =
    let maximum = k.encoder_settings.max_capacity in
    let table : c.decoder.table ≡ empty_table 0 (Some maximum) 0 =
    k.decoder.table ∙ ap (λ (n : ℕ). let t : Table = empty_table 0 (Some n) 0 in t) (sym k.same_capacity) in
    let none : received_of c.encoder_stream ≡ [] = ap received_of k.encoder_stream in
    let none' : received_of c.decoder_stream ≡ [] = ap received_of k.decoder_stream in
    let lines : k.decoder.stream.0.lines ≡ [] =
    nothing_spelled k.decoder.stream.0.front k.decoder.stream.0.lines k.decoder.stream.0.joined
    (nil_append k.decoder.stream.0.front k.decoder.stream.0.rest (sym k.decoder.stream.0.cut)) in
    let received = subst (λ (b : List ℕ). (r : receiving.Receives (empty_table 0 (Some maximum) 0) c.decoder.table b
    c.decoder.stream) × (r.0.lines ≡ [])) (sym none)
    (subst (λ (t : Table). (r : receiving.Receives t c.decoder.table [] c.decoder.stream) × (r.0.lines ≡ [])) table
    (k.decoder.stream, lines)) in
    record {
      encoder_is = k.encoder.table;
      decoder_is = table ∙ empty_decoder maximum;
      reported_is = omega (arith, k.decoder.reported, ap insert_count table);
      encoder_sent = k.encoder.unsent;
      decoder_sent = k.decoder.unsent;
      encoder_stream = ap (λ (w : Wire). w.written) k.encoder_stream;
      encoder_stream_order = omega (arith, ap (λ (w : Wire). w.received) k.encoder_stream);
      received = received.0;
      taken_are = received.1;
      heard = [];
      under_way = [];
      thins = refl;
      decoder_stream = ap (λ (w : Wire). w.written) k.decoder_stream;
      decoder_stream_order = omega (arith, ap (λ (w : Wire). w.received) k.decoder_stream);
      hears = subst (λ (b : List ℕ). hearing.Receives [] b c.encoder.stream) (sym none') k.encoder.stream;
      streams = λ s. rw k.streams
          (record { sections = tt; decoded_is = refl; acknowledged_is = refl; cancelled_is = refl });
    }

-- ---- a capacity

pub capacities_refined : CapacitiesAreRefined
capacities_refined maximum limit c new steps n r call =
    let start = abstract_start 0 maximum limit in
    let w = after_end_steps steps start in
    elim call.call.1 [
      | inl none ↦ (
        [],
        subst (λ (es : List EndStep). RefinesSession maximum new (after_end_steps es start)) (sym (append-nil steps))
            (subst (λ (x : Connection). RefinesSession maximum x w) (sym call.new_is)
            (same_refined maximum c w call.encoder r none.1)),
      )
      | inr tells ↦ (
        Resize n ∷ [],
        subst (λ (x : AbstractSession). RefinesSession maximum new x) (sym (after_more steps (Resize n ∷ []) start))
            (subst (λ (x : Connection). RefinesSession maximum x (after_end_steps (Resize n ∷ []) w)) (sym call.new_is)
            (capacity_refined maximum c w call.encoder n r tells.1)),
      )
    ]

-- one that waits changes nothing of the session
pub shrinks_refined : ShrinksAreRefined
shrinks_refined maximum limit c new steps n r call =
    let start = abstract_start 0 maximum limit in
    let w = after_end_steps steps start in
    elim call.call.1 [
      | inl sets ↦ capacities_refined maximum limit c new steps n r
          (record { encoder = call.encoder; call = (call.call.0, sets); new_is = call.new_is })
      | inr waits ↦ (
        [],
        subst (λ (es : List EndStep). RefinesSession maximum new (after_end_steps es start)) (sym (append-nil steps))
            (subst (λ (x : Connection). RefinesSession maximum x w) (sym call.new_is)
            (kept_refined maximum c w call.encoder r (ap (λ (x : EncodingEnd). x.table) waits.1)
            (ap (λ (x : EncodingEnd). x.stream) waits.1) (ap (λ (x : EncodingEnd). x.unsent) waits.1))),
      )
    ]
