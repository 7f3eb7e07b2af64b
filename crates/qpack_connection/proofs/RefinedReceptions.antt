-- What the decoder of a connection in bytes receives is what the decoder of the session takes.
use Rattle.std.proofs.Common.{◌≡◌, ◌≤◌, ◌+◌, ◌-◌, ℕ, List, [], ◌∷◌, ◌++◌, length, take, drop, None, Some, Result}
use Rattle.std.proofs.Common.{Ok, Err, refl, sym, ap, subst, ◌∙◌, arith, length-append}
use Rattle.std.specs.Prelude.{⊤}
use Rattle.std.proofs.lemmas.List.{append_assoc, append-nil, append_cancel_left, take-append-drop}
use Rattle.std.proofs.lemmas.List.{take-append-le, take_all}
use Rattle.qpack_spec.specs.Bytes.{◌>>=◌}
use Rattle.qpack_spec.specs.Form.{Truncates}
use Rattle.qpack_spec.specs.Instruction.{EncoderInstruction, SpellsEncoderInstruction}
use Rattle.qpack_spec.specs.Instruction.{encoder_instruction_form, written_decoder_instructions}
use Rattle.qpack_rules.specs.Session.{increments, pieces_of}
use Rattle.qpack_spec.specs.Stream.{SpellsAll}
use Rattle.qpack_rules.specs.StrictInstructions.{strict_apply}
use Rattle.qpack_spec.specs.Table.{Table, empty_table, table_of, insert_count}
use Rattle.qpack_rules.specs.Taking.{apply_in_turn}
use Rattle.qpack_spec.specs.Window.{Window, TableRefusal}
use Rattle.qpack_spec.proofs.Cuttings.{wire, reads_front, reads_delivered}
use Rattle.qpack_spec.proofs.Lists.{front_of}
use Rattle.qpack_rules.proofs.Pieces.{pieces_small}
use Rattle.qpack_rules.proofs.PutTables.{count_put}
use Rattle.qpack_spec.proofs.Results.{bind_ok, ok_is}
use Rattle.qpack_safety.specs.AbstractSession.{AbstractSession, abstract_start}
use Rattle.qpack_safety.specs.LawfulFlights.{IsLawfulToItsEnd}
use Rattle.qpack_safety.specs.TwoEnds.{EndStep, Report, after_end_step, after_end_steps}
use Rattle.qpack_safety.proofs.LawfulFlights.{flights_lawful}
use Rattle.qpack_safety.proofs.ManySteps.{after_taken, taken_many, told_and_not}
use Rattle.qpack_safety.proofs.Shown.{increments_writable}
use Rattle.qpack_safety.proofs.TwoEnds.{Holds, holds_started, holds_behind, reporting_is}
use Rattle.qpack_decoding.specs.declared.decoder.DecodingError.{DecodingError}
use Rattle.qpack_decoding.specs.declared.decoder.DecodingError.TheVariants as decoding
use Rattle.qpack_decoding.specs.declared.encoder_stream.EncoderStreamError.{EncoderStreamError}
use Rattle.qpack_decoding.specs.declared.encoder_stream.EncoderStreamError.TheVariants.{Refused, Memory}
use Rattle.qpack_connection.specs.Connections.{Connection, next_of, behind_received, with_decoder}
use Rattle.qpack_decoding.specs.Decoders.{DecodingEnd, received, with_report, unreported, EndsReceiving}
use Rattle.qpack_decoding.specs.Decoders.{ReceivesBytes}
use Rattle.qpack_decoding.specs.Receiving as receiving
use Rattle.qpack_decoding.specs.Receiving.{StreamView, ReceivesMore}
use Rattle.qpack_connection.specs.RefinedConnections.{received_of, RefinesSession}
use Rattle.qpack_connection.specs.RefinedStreams.{IsOpen, AnswersTotal, ReceptionsAreRefined}
use Rattle.qpack_connection.proofs.LawfulPieces.{encoder_streams_taken}
use Rattle.qpack_connection.proofs.RefinedConnections.{after_more}
use Rattle.qpack_connection.proofs.RefinedHearings.{whole_wire, came_all, within_wire}
use Rattle.qpack_connection.proofs.RefinedReports.{none_written}

-- ---- the instructions that came

-- the table behind the first of some instructions
pub applied_front : (first now last : Table) (lines others : List EncoderInstruction)
    → apply_in_turn strict_apply first lines ≡ Ok now → apply_in_turn strict_apply first (lines ++ others) ≡ Ok last
    → apply_in_turn strict_apply now others ≡ Ok last
applied_front first now last [] others h k =
    subst (λ (t : Table). apply_in_turn strict_apply t others ≡ Ok last) (ok_is first now h) k
applied_front first now last (l ∷ lines) others h k =
    let one = bind_ok (strict_apply first l) (λ u. apply_in_turn strict_apply u lines) now h in
    applied_front one.0 now last lines others one.2
    (ap (λ (r : Result Table TableRefusal). r >>= λ u. apply_in_turn strict_apply u (lines ++ others)) (sym one.1) ∙ k)

-- of what is spelled so by a front and what is behind it, at least so many instructions stand in the front: the first
-- ones, and some more
record Further (taken in_flight lines : List EncoderInstruction) : Type 0 where
  pub more : List EncoderInstruction
  pub still : List EncoderInstruction
  pub lines_are : lines ≡ taken ++ more
  pub flight : in_flight ≡ more ++ still

further : (taken in_flight lines : List EncoderInstruction) (front rest behind written : List ℕ)
    → SpellsAll SpellsEncoderInstruction front lines → written ≡ front ++ (rest ++ behind)
    → SpellsAll SpellsEncoderInstruction written (taken ++ in_flight) → length taken ≤ length lines
    → Further taken in_flight lines
further taken in_flight lines front rest behind written joined cut spelled least =
    let x = reads_front SpellsEncoderInstruction (wire encoder_instruction_form) lines (taken ++ in_flight) front rest
    behind joined (subst (λ (b : List ℕ). SpellsAll SpellsEncoderInstruction b (taken ++ in_flight)) cut spelled) in
    let f = front_of taken in_flight lines x.still x.goes_on least in
    record {
      more = f.0;
      still = x.still;
      lines_are = sym f.1;
      flight = append_cancel_left taken in_flight (f.0 ++ x.still)
          (x.goes_on ∙ ap (λ (ls : List EncoderInstruction). ls ++ x.still) (sym f.1)
          ∙ append_assoc taken f.0 x.still);
    }

-- a longer front has no fewer instructions
pub no_fewer : (lines more : List EncoderInstruction) (front longer rest others : List ℕ)
    → SpellsAll SpellsEncoderInstruction front lines → SpellsAll SpellsEncoderInstruction longer more
    → front ++ rest ≡ longer ++ others → length front ≤ length longer → length lines ≤ length more
no_fewer lines more front longer rest others joined more_joined same least =
    let f = front_of front rest longer others same least in
    let x = reads_front SpellsEncoderInstruction (wire encoder_instruction_form) lines more front f.0 [] joined
    (subst (λ (b : List ℕ). SpellsAll SpellsEncoderInstruction b more)
    (sym f.1 ∙ ap (λ (b : List ℕ). front ++ b) (sym (append-nil f.0))) more_joined) in
    omega (arith, ap length x.goes_on, length-append lines x.still)

-- ---- the decoder takes

-- what the decoder received is what the session's decoder took
took_more : (maximum limit : ℕ) (c : Connection) (w : AbstractSession) (t : Table) (s : StreamView) (count many : ℕ)
    (d : Window) (more still : List EncoderInstruction) → (r : RefinesSession maximum c w) → table_of d ≡ t
    → w.in_flight ≡ more ++ still → Holds 0 maximum limit w
    → Holds 0 maximum limit (after_taken w more still d many)
    → (k : receiving.Receives (empty_table 0 (Some maximum) 0) t (received_of (behind_received count c.encoder_stream)) s)
    → k.0.lines ≡ w.taken ++ more → c.encoder_stream.received + count ≤ length c.encoder_stream.written
    → RefinesSession maximum (record c {
      decoder = received t s c.decoder;
      encoder_stream = behind_received count c.encoder_stream;
    }) (after_taken w more still d many)
took_more maximum limit c w t s count many d more still r table flight old new k lines order =
    record {
      encoder_is = r.encoder_is;
      decoder_is = sym table;
      reported_is = omega (
        arith,
        r.reported_is,
        ap insert_count r.decoder_is,
        count_put w.decoder,
        told_and_not 0 maximum limit w old.invariant,
        told_and_not 0 maximum limit (after_taken w more still d many) new.invariant,
        count_put d,
        ap insert_count table,
      );
      encoder_sent = r.encoder_sent;
      decoder_sent = r.decoder_sent;
      encoder_stream =
          subst (SpellsAll SpellsEncoderInstruction c.encoder_stream.written)
          (ap (λ (x : List EncoderInstruction). w.taken ++ x) flight ∙ sym (append_assoc w.taken more still))
          r.encoder_stream;
      encoder_stream_order = order;
      received = k;
      taken_are = lines;
      heard = r.heard;
      under_way = r.under_way;
      decoder_stream = r.decoder_stream;
      thins = r.thins;
      decoder_stream_order = r.decoder_stream_order;
      hears = r.hears;
      streams = r.streams;
    }

-- what came of the stream, and at least what was taken is taken
record Came (maximum : ℕ) (c : Connection) (w : AbstractSession) (t : Table) (s : StreamView) (count : ℕ) : Type 0 where
  pub stream : receiving.Receives (empty_table 0 (Some maximum) 0) t
      (received_of (behind_received count c.encoder_stream)) s
  pub least : length w.taken ≤ length stream.0.lines
  pub order : c.encoder_stream.received + count ≤ length c.encoder_stream.written

-- the session behind what its decoder took of it, and how much it has not reported
record TookAll (maximum limit : ℕ) (c : Connection) (w : AbstractSession) (t : Table) (s : StreamView)
    (count : ℕ) : Type 0 where
  pub steps : List EndStep
  pub refines : RefinesSession maximum (record c {
    decoder = received t s c.decoder;
    encoder_stream = behind_received count c.encoder_stream;
  }) (after_end_steps steps w)

took_all : (maximum limit : ℕ) (c : Connection) (w : AbstractSession) (t : Table) (s : StreamView) (count : ℕ)
    → RefinesSession maximum c w → Holds 0 maximum limit w → IsLawfulToItsEnd 0 maximum w
    → Came maximum c w t s count → TookAll maximum limit c w t s count
took_all maximum limit c w t s count r holds lawful came =
    let wire = behind_received count c.encoder_stream in
    let k = came.stream.0 in
    let f = further w.taken w.in_flight k.lines k.front k.rest (drop wire.received wire.written) wire.written k.joined
    (sym (take-append-drop wire.received wire.written)
    ∙ ap (λ (b : List ℕ). b ++ drop wire.received wire.written) k.cut
    ∙ append_assoc k.front k.rest (drop wire.received wire.written)) r.encoder_stream came.least in
    let m = taken_many 0 maximum limit f.more f.still w t f.flight holds
    (applied_front (empty_table 0 (Some maximum) 0) (table_of w.decoder) t w.taken f.more lawful.taken
    (subst (λ (ls : List EncoderInstruction). apply_in_turn strict_apply (empty_table 0 (Some maximum) 0) ls ≡ Ok t)
    f.lines_are k.applies)) in
    let new = subst (Holds 0 maximum limit) m.4 (holds_behind 0 maximum limit m.0 w holds) in
    record {
      steps = m.0;
      refines = subst (λ (x : AbstractSession). RefinesSession maximum (record c {
        decoder = received t s c.decoder;
        encoder_stream = behind_received count c.encoder_stream;
      }) x) (sym m.4)
          (took_more maximum limit c w t s count m.2 m.1 f.more f.still r m.3 f.flight holds new came.stream f.lines_are
          came.order);
    }

-- ---- what came, by what a call answers

-- all came
came_whole : (maximum : ℕ) (c : Connection) (w : AbstractSession) (t : Table) (s : StreamView) (many : ℕ)
    → (r : RefinesSession maximum c w)
    → (k : receiving.Receives (empty_table 0 (Some maximum) 0) t
    (received_of c.encoder_stream ++ next_of many c.encoder_stream) s)
    → length w.taken ≤ length k.0.lines → Came maximum c w t s (length (next_of many c.encoder_stream))
came_whole maximum c w t s many r k least =
    let at = subst (λ (b : List ℕ). (x : receiving.Receives (empty_table 0 (Some maximum) 0) t b s)
    × (length w.taken ≤ length x.0.lines)) (sym (came_all c.encoder_stream many)) (k, least) in
    record { stream = at.0; least = at.1; order = within_wire c.encoder_stream many r.encoder_stream_order }

-- a front came
came_front : (maximum : ℕ) (c : Connection) (w : AbstractSession) (t : Table) (s : StreamView) (many : ℕ)
    (taken left : List ℕ) → RefinesSession maximum c w → next_of many c.encoder_stream ≡ taken ++ left
    → (k : receiving.Receives (empty_table 0 (Some maximum) 0) t (received_of c.encoder_stream ++ taken) s)
    → length w.taken ≤ length k.0.lines → Came maximum c w t s (length taken)
came_front maximum c w t s many taken left r cut k least =
    let others = drop c.encoder_stream.received c.encoder_stream.written in
    let front : next_of (length taken) c.encoder_stream ≡ taken =
    ap (take (length taken))
    (sym (take-append-drop many others) ∙ ap (λ (b : List ℕ). b ++ drop many others) cut
    ∙ append_assoc taken left (drop many others))
    ∙ take-append-le (length taken) taken (left ++ drop many others) (omega arith)
    ∙ take_all (length taken) taken (omega arith) in
    let at = subst (λ (b : List ℕ). (x : receiving.Receives (empty_table 0 (Some maximum) 0) t
    (received_of c.encoder_stream ++ b) s) × (length w.taken ≤ length x.0.lines)) (sym front) (k, least) in
    subst (λ (b : List ℕ). Came maximum c w t s (length b)) front
    (came_whole maximum c w t s (length taken) r at.0 at.1)

-- nothing more that is whole waits
pub least_whole : (taken lines : List EncoderInstruction) (front rest longer others : List ℕ)
    → SpellsAll SpellsEncoderInstruction front taken → SpellsAll SpellsEncoderInstruction longer lines
    → front ++ rest ≡ longer ++ others → Truncates encoder_instruction_form others → length taken ≤ length lines
least_whole taken lines front rest longer others joined more same cut =
    reads_delivered SpellsEncoderInstruction (wire encoder_instruction_form) lines taken [] longer others [] front rest
    more (λ encoding b l e spells. (cut encoding b e).0 l spells) joined
    (same ∙ ap (λ (b : List ℕ). longer ++ b) (sym (append-nil others)))
    (omega (arith, ap length same, length-append front rest, length-append longer others))

-- ---- a call

-- what a call answers, by the table behind it
abbrev TellsTotal : Table → Result ℕ DecodingError → Type 0
TellsTotal t (Ok total) = total ≡ insert_count t
TellsTotal t (Err e) = e ≡ decoding.Memory

pub receptions_refined : ReceptionsAreRefined
receptions_refined maximum limit c new steps many answer r alive call =
    by_taken answer x.taken x.stream x.ends
  where
    start : AbstractSession
    start = abstract_start 0 maximum limit

    w : AbstractSession
    w = after_end_steps steps start

    first : Table
    first = empty_table 0 (Some maximum) 0

    before : List ℕ
    before = received_of c.encoder_stream

    next : List ℕ
    next = next_of many c.encoder_stream

    d : DecodingEnd
    d = call.decoder

    x : ReceivesBytes first before c.decoder d next call.left answer
    x = call.receives alive.decoder first before r.received

    holds : Holds 0 maximum limit w
    holds = holds_behind 0 maximum limit steps start (holds_started 0 maximum limit (omega arith))

    lawful : IsLawfulToItsEnd 0 maximum w
    lawful = flights_lawful 0 maximum limit (omega arith) steps

    -- the connection behind what came, of which nothing is reported
    moved : ℕ → Connection
    moved count = record c {
      decoder = received d.table d.stream c.decoder;
      encoder_stream = behind_received count c.encoder_stream;
    }

    shape : (count : ℕ) → length next - length call.left ≡ count → new ≡ with_decoder d (moved count)
    shape count is =
        call.new_is ∙ ap (λ (n : ℕ). let y : Connection = record (with_decoder d c) {
          encoder_stream = behind_received n c.encoder_stream;
        } in y) is

    opened : (count : ℕ) → new ≡ with_decoder d (moved count) → d.failure ≡ None → IsOpen new
    opened count is none =
        record {
          encoder = ap (λ (y : Connection). y.encoder.failure) is ∙ alive.encoder;
          decoder = ap (λ (y : Connection). y.decoder.failure) is ∙ none;
        }

    told_at : (a : Result ℕ DecodingError) (count : ℕ) → new ≡ with_decoder d (moved count) → TellsTotal d.table a
        → AnswersTotal new a
    told_at (Ok total) count is told = told ∙ ap (λ (y : Connection). insert_count y.decoder.table) (sym is)
    told_at (Err e) count is told = told

    kept : (a : Result ℕ DecodingError) (count : ℕ) → d ≡ received d.table d.stream c.decoder
        → TellsTotal d.table a → length next - length call.left ≡ count → Came maximum c w d.table d.stream count
        → AnswersTotal new a × IsOpen new × (more : List EndStep)
        × RefinesSession maximum new (after_end_steps (steps ++ more) start)
    kept a count is told left came =
        let took = took_all maximum limit c w d.table d.stream count r holds lawful came in
        let same = shape count left in (
          told_at a count same told,
          opened count same (ap (λ (y : DecodingEnd). y.failure) is ∙ alive.decoder),
          took.steps,
          subst (λ (y : Connection). RefinesSession maximum y (after_end_steps (steps ++ took.steps) start)) (sym same)
              (subst (λ (y : AbstractSession). RefinesSession maximum (with_decoder d (moved count)) y)
              (sym (after_more steps took.steps start))
              (none_written maximum (moved count) (after_end_steps took.steps w) d took.refines is)),
        )

    -- what came before is in front of what came now
    behind_old : (more : List ℕ) (k : receiving.Receives first d.table (before ++ more) d.stream)
        → r.received.0.front ++ (r.received.0.rest ++ more) ≡ k.0.front ++ k.0.rest
    behind_old more k =
        sym (append_assoc r.received.0.front r.received.0.rest more)
        ∙ ap (λ (b : List ℕ). b ++ more) (sym r.received.0.cut) ∙ k.0.cut

    all_came : ReceivesMore first c.decoder.table d.table before next call.left c.decoder.stream d.stream (Ok tt)
        → Came maximum c w d.table d.stream (length next)
    all_came (none, whole, k, short) =
        came_whole maximum c w d.table d.stream many r k
        (subst (λ (ls : List EncoderInstruction). length ls ≤ length k.0.lines) r.taken_are
        (least_whole r.received.0.lines k.0.lines r.received.0.front (r.received.0.rest ++ next) k.0.front k.0.rest
        r.received.0.joined k.0.joined (behind_old next k)
        (subst (λ (b : List ℕ). Truncates encoder_instruction_form b) (whole.0.ends.0 ∙ sym k.0.ends.0)
        whole.0.ends.1.cut)))

    no_longer : (more : List ℕ) (k : receiving.Receives first d.table (before ++ more) d.stream)
        → length d.stream.pending ≤ length c.decoder.stream.pending + length more
        → length w.taken ≤ length k.0.lines
    no_longer more k fewer =
        subst (λ (ls : List EncoderInstruction). length ls ≤ length k.0.lines) r.taken_are
        (no_fewer r.received.0.lines k.0.lines r.received.0.front k.0.front (r.received.0.rest ++ more) k.0.rest
        r.received.0.joined k.0.joined (behind_old more k)
        (omega (
          arith,
          fewer,
          ap length (behind_old more k),
          length-append r.received.0.front (r.received.0.rest ++ more),
          length-append r.received.0.rest more,
          length-append k.0.front k.0.rest,
          ap length r.received.0.ends.0,
          ap length k.0.ends.0,
        )))

    by_memory : (a : Result ℕ DecodingError)
        → ReceivesMore first c.decoder.table d.table before next call.left c.decoder.stream d.stream (Err Memory)
        → EndsReceiving (received d.table d.stream c.decoder) d (Err Memory) a
        → AnswersTotal new a × IsOpen new × (more : List EndStep)
        × RefinesSession maximum new (after_end_steps (steps ++ more) start)
    by_memory a more ends =
        let t = more.0 in
        kept a (length t.taken) ends.1 (subst (TellsTotal d.table) (sym ends.0) refl)
        (omega (arith, ap length t.cut, length-append t.taken call.left))
        (came_front maximum c w d.table d.stream many t.taken call.left r t.cut t.stream
        (no_longer t.taken t.stream t.no_longer))

    by_taken : (a : Result ℕ DecodingError) (taken : Result ⊤ EncoderStreamError)
        → ReceivesMore first c.decoder.table d.table before next call.left c.decoder.stream d.stream taken
        → EndsReceiving (received d.table d.stream c.decoder) d taken a
        → AnswersTotal new a × IsOpen new × (more : List EndStep)
        × RefinesSession maximum new (after_end_steps (steps ++ more) start)
    by_taken (Ok total) (Ok it) stream ends =
        kept (Ok total) (length next) ends.1 ends.0 (omega (arith, ap length stream.0)) (all_came stream)
    by_taken (Err e) (Ok it) stream ends = absurd ends
    by_taken a (Err Memory) stream ends = by_memory a stream ends
    by_taken a (Err (Refused place e)) stream ends =
        absurd (encoder_streams_taken first c.decoder.table d.table lawful.last before next
        (drop many (drop c.encoder_stream.received c.encoder_stream.written)) call.left (w.taken ++ w.in_flight)
        c.decoder.stream d.stream place e
        (record {
          spelled = subst (λ (b : List ℕ). SpellsAll SpellsEncoderInstruction b (w.taken ++ w.in_flight))
              (sym (whole_wire c.encoder_stream many)) r.encoder_stream;
          applied = lawful.encoder_stream;
        }) stream)
