-- What the encoder of a connection in bytes hears is what the encoder of the session hears.
use Rattle.std.proofs.Common.{◌≡◌, ◌≤◌, ◌+◌, ◌-◌, ℕ, List, [], ◌++◌, length, take, drop, Result, Ok}
use Rattle.std.proofs.Common.{Err, refl, sym, ap, subst, ◌∙◌, arith, length-drop, take-add}
use Rattle.std.specs.Prelude.{⊤}
use Rattle.std.proofs.lemmas.List.{append_assoc, append-nil, append_cancel_left, take-append-drop, length-take, take_min}
use Rattle.qpack_spec.specs.Instruction.{DecoderInstruction, SpellsDecoderInstruction, decoder_instruction_form}
use Rattle.qpack_spec.specs.Stream.{SpellsAll}
use Rattle.qpack_rules.specs.StrictInstructions.{hear_in_turn}
use Rattle.qpack_spec.specs.Table.{Table}
use Rattle.qpack_spec.proofs.Cuttings.{wire, reads_front}
use Rattle.qpack_safety.specs.AbstractSession.{AbstractSession, abstract_start}
use Rattle.qpack_safety.specs.LawfulFlights.{IsLawfulToItsEnd}
use Rattle.qpack_safety.specs.TwoEnds.{EndStep, after_end_steps}
use Rattle.qpack_safety.proofs.LawfulFlights.{flights_lawful}
use Rattle.qpack_safety.proofs.ManySteps.{heard_many}
use Rattle.qpack_safety.proofs.TwoEnds.{Holds, holds_started, holds_behind}
use Rattle.qpack_encoding.specs.declared.encoder.EncodingError.{EncodingError}
use Rattle.qpack_encoding.specs.declared.encoder.EncodingError.TheVariants.{DecoderStream}
use Rattle.qpack_connection.specs.Connections.{Wire, Connection, HearsOn, next_of, behind_received, with_encoder}
use Rattle.qpack_connection.specs.Connections.{with_decoder}
use Rattle.qpack_encoding.specs.Encoders.{EncodingEnd, ReceivesBytes, received}
use Rattle.qpack_encoding.specs.Hearing as hearing
use Rattle.qpack_connection.specs.RefinedConnections.{received_of, RefinesSession}
use Rattle.qpack_connection.specs.RefinedStreams.{IsOpen, HearingsAreRefined}
use Rattle.qpack_connection.proofs.LawfulPieces.{decoder_streams_heard}
use Rattle.qpack_connection.specs.Thinned.{Thins}
use Rattle.qpack_connection.proofs.RefinedConnections.{after_more}
use Rattle.qpack_connection.proofs.RefinedReports.{taken_refined}
use Rattle.qpack_connection.proofs.ThinnedSessions.{IsUnderWay, session_within}
use Rattle.qpack_connection.proofs.ThinnedStreams.{IsWithin, all_thinned, front_thinned}

-- ---- the bytes of a stream

-- what came, what comes and what is behind are all that was written
pub whole_wire : (w : Wire) (many : ℕ)
    → (received_of w ++ next_of many w) ++ drop many (drop w.received w.written) ≡ w.written
whole_wire w many =
    append_assoc (received_of w) (next_of many w) (drop many (drop w.received w.written))
    ∙ ap (λ (x : List ℕ). received_of w ++ x) (take-append-drop many (drop w.received w.written))
    ∙ take-append-drop w.received w.written

-- what came so far, behind what comes now
pub came_all : (w : Wire) (many : ℕ)
    → received_of (behind_received (length (next_of many w)) w) ≡ received_of w ++ next_of many w
came_all w many =
    let rest = drop w.received w.written in
    take-add w.received (length (next_of many w)) w.written
    ∙ ap (λ (x : List ℕ). received_of w ++ x)
    (ap (λ (n : ℕ). take n rest) (length-take many rest) ∙ take_min many rest)

pub within_wire : (w : Wire) (many : ℕ) → w.received ≤ length w.written
    → w.received + length (next_of many w) ≤ length w.written
within_wire w many order =
    omega (arith, order, length-take many (drop w.received w.written), length-drop w.received w.written)

-- ---- the encoder hears

-- nothing is to be sent
sent_none : (c : Connection) (e : EncodingEnd) → e.unsent ≡ []
    → with_encoder e c ≡ record c { encoder = record e { unsent = [] } }
sent_none c e none =
    ap (λ (b : List ℕ). let x : Connection = record c {
      encoder = record e { unsent = [] };
      encoder_stream = record c.encoder_stream { written = b };
    } in x)
    (ap (λ (b : List ℕ). c.encoder_stream.written ++ b) none ∙ append-nil c.encoder_stream.written)

heard_more : (maximum : ℕ) (c : Connection) (w : AbstractSession) (e : EncodingEnd) (u : Table) (count : ℕ)
    (more still rest : List DecoderInstruction) → (r : RefinesSession maximum c w) → e.table ≡ u
    → r.under_way ≡ more ++ still → Thins u.known_received_count u.unacknowledged still rest
    → hearing.Receives (r.heard ++ more) (received_of (behind_received count c.decoder_stream)) e.stream
    → c.decoder_stream.received + count ≤ length c.decoder_stream.written
    → RefinesSession maximum (record c {
      encoder = record e { unsent = [] };
      decoder_stream = behind_received count c.decoder_stream;
    }) (record w { encoder = u; decoder_in_flight = rest })
heard_more maximum c w e u count more still rest r table flight thins hears order =
    record {
      encoder_is = table;
      decoder_is = r.decoder_is;
      reported_is = r.reported_is;
      encoder_sent = refl;
      decoder_sent = r.decoder_sent;
      encoder_stream = r.encoder_stream;
      encoder_stream_order = r.encoder_stream_order;
      received = r.received;
      taken_are = r.taken_are;
      heard = r.heard ++ more;
      under_way = still;
      thins = thins;
      decoder_stream =
          subst (SpellsAll SpellsDecoderInstruction c.decoder_stream.written)
          (ap (λ (x : List DecoderInstruction). r.heard ++ x) flight ∙ sym (append_assoc r.heard more still))
          r.decoder_stream;
      decoder_stream_order = order;
      hears = hears;
      streams = r.streams;
    }

pub heard_refined : (maximum limit : ℕ) (c new : Connection) (steps : List EndStep) (many : ℕ)
    (answer : Result ⊤ EncodingError)
    → RefinesSession maximum c (after_end_steps steps (abstract_start 0 maximum limit)) → IsOpen c
    → HearsOn c new many answer
    → (answer ≡ Ok tt) × IsOpen new × (more : List EndStep)
    × RefinesSession maximum new (after_end_steps (steps ++ more) (abstract_start 0 maximum limit))
heard_refined maximum limit c new steps many answer r alive call =
    by_answer answer (call.receives alive.encoder r.heard before r.hears)
  where
    start : AbstractSession
    start = abstract_start 0 maximum limit

    w : AbstractSession
    w = after_end_steps steps start

    before : List ℕ
    before = received_of c.decoder_stream

    next : List ℕ
    next = next_of many c.decoder_stream

    behind : List ℕ
    behind = drop many (drop c.decoder_stream.received c.decoder_stream.written)

    e : EncodingEnd
    e = call.encoder

    holds : Holds 0 maximum limit w
    holds = holds_behind 0 maximum limit steps start (holds_started 0 maximum limit (omega arith))

    lawful : IsLawfulToItsEnd 0 maximum w
    lawful = flights_lawful 0 maximum limit (omega arith) steps

    spelled : SpellsAll SpellsDecoderInstruction ((before ++ next) ++ behind) (r.heard ++ r.under_way)
    spelled = subst (λ (b : List ℕ). SpellsAll SpellsDecoderInstruction b (r.heard ++ r.under_way))
        (sym (whole_wire c.decoder_stream many)) r.decoder_stream

    within : IsWithin w.encoder
    within = session_within maximum limit w holds

    heard : hear_in_turn c.encoder.table r.under_way ≡ Ok lawful.encoder
    heard = subst (λ (t : Table). hear_in_turn t r.under_way ≡ Ok lawful.encoder) (sym r.encoder_is)
        (all_thinned w.encoder lawful.encoder r.under_way w.decoder_in_flight within r.thins lawful.decoder_stream)

    shape : e ≡ received e.table e.stream c.encoder
        → new ≡ record c {
          encoder = record e { unsent = [] };
          decoder_stream = behind_received (length next) c.decoder_stream;
        }
    shape is =
        call.new_is
        ∙ ap (λ (x : Connection). let y : Connection = record x {
          decoder_stream = behind_received (length next - length call.left) c.decoder_stream;
        } in y) (sent_none c e (ap (λ (x : EncodingEnd). x.unsent) is ∙ r.encoder_sent))
        ∙ ap (λ (n : ℕ). let y : Connection = record c {
          encoder = record e { unsent = [] };
          decoder_stream = behind_received n c.decoder_stream;
        } in y) (omega (arith, ap length (call.nothing_left alive.encoder)))

    done : ReceivesBytes r.heard before c.encoder e next (Ok tt)
        → IsOpen new × (more : List EndStep) × RefinesSession maximum new (after_end_steps (steps ++ more) start)
    done h =
        let more = h.0.more in
        let stands = h.0.behind_them in
        let x = reads_front SpellsDecoderInstruction (wire decoder_instruction_form) (r.heard ++ more)
        (r.heard ++ r.under_way) stands.front stands.rest behind stands.joined
        (subst (λ (b : List ℕ). SpellsAll SpellsDecoderInstruction b (r.heard ++ r.under_way))
        (ap (λ (b : List ℕ). b ++ behind) stands.cut ∙ append_assoc stands.front stands.rest behind) spelled) in
        let flight : r.under_way ≡ more ++ x.still =
        append_cancel_left r.heard r.under_way (more ++ x.still)
        (x.goes_on ∙ append_assoc r.heard more x.still) in
        let f = front_thinned w.encoder lawful.encoder e.table more x.still w.decoder_in_flight within
        (subst (λ (is : List DecoderInstruction). IsUnderWay w is w.decoder_in_flight) flight r.thins)
        lawful.decoder_stream
        (subst (λ (t : Table). hear_in_turn t more ≡ Ok e.table) r.encoder_is h.0.applies) in
        let m = heard_many 0 maximum limit f.front f.rest w e.table f.whole_is holds f.all in
        let is = shape h.1 in (
          record {
            encoder = ap (λ (y : Connection). y.encoder.failure) is
                ∙ ap (λ (y : EncodingEnd). y.failure) h.1 ∙ alive.encoder;
            decoder = ap (λ (y : Connection). y.decoder.failure) is ∙ alive.decoder;
          },
          m.0,
          subst (λ (y : AbstractSession). RefinesSession maximum new y) (sym (after_more steps m.0 start ∙ m.1))
              (subst (λ (y : Connection). RefinesSession maximum y (record w {
                encoder = e.table;
                decoder_in_flight = f.rest;
              })) (sym is)
              (heard_more maximum c w e e.table (length next) more x.still f.rest r refl flight f.thins
              (subst (λ (b : List ℕ). hearing.Receives (r.heard ++ more) b e.stream)
              (sym (came_all c.decoder_stream many)) stands)
              (within_wire c.decoder_stream many r.decoder_stream_order))),
        )

    by_answer : (a : Result ⊤ EncodingError) → ReceivesBytes r.heard before c.encoder e next a
        → (a ≡ Ok tt) × IsOpen new × (more : List EndStep)
        × RefinesSession maximum new (after_end_steps (steps ++ more) start)
    by_answer (Ok it) h = let x = done h in (refl, x.0, x.1, x.2)
    by_answer (Err (DecoderStream x)) h =
        absurd (decoder_streams_heard c.encoder.table e.table lawful.encoder r.heard r.under_way before next
        behind e.stream x spelled heard h.0)
    by_answer (Err x) h = absurd h

-- once the stream was taken
pub hearings_refined : HearingsAreRefined
hearings_refined maximum limit c new steps many answer r alive call =
    let start = abstract_start 0 maximum limit in
    let taken = taken_refined maximum limit c call.decoder steps r alive call.takes in
    let heard = heard_refined maximum limit (with_decoder call.decoder c) new (steps ++ taken.1) many answer taken.2
    taken.0 call.hears in (
      heard.0,
      heard.1,
      taken.1 ++ heard.2,
      subst (λ (es : List EndStep). RefinesSession maximum new (after_end_steps es start))
          (append_assoc steps taken.1 heard.2) heard.3,
    )
